use Rattle.std.proofs.Common.{Some, ap, ◌∙◌, slice_set}
use Rattle.tpm_containers.specs.Slots.{padded_to}
use Rattle.tpm_containers.proofs.Padding.{padded-set}
use Rattle.tpm_containers.proofs.cell_slots.CellSlotsSlots.put.Goals as goal

pub returns : goal.returns
returns g c =
    let N = g.row.N in
    let cells = c.reach.new.cells in
    let x = Some c.args.value in
    rw (← c.self.view_is) (
    ap (padded_to N) (g.met.C.Items.written cells c.args.place x)
    ∙ padded-set N (g.C.Items.items cells) c.args.place x c.in-Some.ensures.there.0
    ∙ ap (λ (l : _). slice_set l c.args.place x) c.reach.ensures.same
    )
