use Rattle.std.proofs.Common.{length, sym, ap, ◌∙◌}
use Rattle.tpm_nv.specs.Bytes.{moved_from_end}
use Rattle.tpm_nv.proofs.ByteLaws.{opened_by_moving, opened_length}
use Rattle.tpm_nv.proofs.item_area.ItemAreaArea.open.Goals as goal

pub returns-clause-opened : goal.returns-clause-opened
returns-clause-opened g c =
    let start = c.args.start in
    let size = c.args.size in
    let old = g.B.Items.items c.args.self.now.bytes in
    let appended = c.in_ok-append_zeros.ensures.appended in
    let opened =
    c.move_from_end.ensures
    ∙ ap (moved_from_end start size) (c.slice_mut.ensures.value ∙ appended)
    ∙ opened_by_moving start size old c.requires.inside
    in
    let long = ap length opened ∙ opened_length start size old c.requires.inside
    ∙ sym (ap length appended) in
    g.met.B.Items.written_all c.append_zeros.new.self c.move_from_end.new.bytes long ∙ opened
