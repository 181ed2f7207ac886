use Rattle.std.proofs.Common.{◌++◌, List, ℕ, length, ap, ◌∙◌}
use Rattle.std.proofs.lemmas.List.{drop-replicate}
use Rattle.tpm_journal.proofs.following.padded.Goals as goal

pub returns : goal.returns
returns c =
    ap (λ (l : List ℕ). l ++ c.split_at_mut-front.result.1.now) c.copy_from_slice.ensures.after
    ∙ ap (λ (l : List ℕ). c.args.drawn.now ++ l)
    (c.split_at_mut-front.ensures.back ∙ drop-replicate (length c.args.drawn.now) 256 0)
