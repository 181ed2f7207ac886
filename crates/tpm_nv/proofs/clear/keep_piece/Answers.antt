use Rattle.std.proofs.Common.{◌+◌, List, ℕ, drop, ap, ◌∙◌}
use Rattle.tpm_nv.specs.Bytes.{moved_down}
use Rattle.tpm_nv.specs.Head.{size_of}
use Rattle.tpm_nv.proofs.ClearLaws.{moved_behind}
use Rattle.tpm_nv.proofs.clear.keep_piece.Goals as goal

pub returns-clause-left : goal.returns-clause-left
returns-clause-left g c =
    let area = g.R.Area.bytes c.args.area.now in
    let start = c.args.start in
    let size = size_of c.args.head.now in
    ap (λ (l : List ℕ). drop (start + size) l)
    (c.move_down.ensures ∙ ap (λ (n : ℕ). moved_down start n c.args.kept area)
    c.from-size.ensures)
    ∙ moved_behind start size c.args.kept area c.requires.inside c.requires.lower
