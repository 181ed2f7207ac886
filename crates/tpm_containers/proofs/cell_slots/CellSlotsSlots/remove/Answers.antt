use Rattle.std.proofs.Common.{None, sym, ap, ◌∙◌}
use Rattle.tpm_containers.specs.Slots.{padded_to}
use Rattle.tpm_containers.proofs.Padding.{padded-clear, padded-set}
use Rattle.tpm_containers.proofs.cell_slots.CellSlotsSlots.remove.Goals as goal

pub returns-in_default : goal.returns-in_default
returns-in_default g c =
    rw (← c.self.view_is) (sym (padded-clear g.row.N _ c.args.place c.in_default.ensures.absent))

pub returns : goal.returns
returns g c =
    rw (← c.self.view_is) (
    ap (padded_to g.row.N) (g.met.C.Items.written c.self.inside.cells c.args.place None)
    ∙ padded-set g.row.N _ c.args.place None c.in-Some.ensures.there.0
    )
