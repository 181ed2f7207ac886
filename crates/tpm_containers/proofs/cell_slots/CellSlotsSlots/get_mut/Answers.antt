use Rattle.std.proofs.Common.{Some, sym, ap, ◌∙◌}
use borrow.Follows.Closed.{read_of}
use Rattle.std.specs.Option.{ghost_name_of}
use Rattle.tpm_containers.specs.Slots.{padded_to}
use Rattle.tpm_containers.proofs.Padding.{at_place-padded, at_place-read, padded-set, set_same}
use Rattle.tpm_containers.proofs.cell_slots.CellSlotsSlots.get_mut.Goals as goal

pub returns : goal.returns
returns g c =
    let N = g.row.N in
    let cells = g.C.Items.items c.self.inside.cells in
    let cell = c.in_ok-self-inside.field-0.now in
    let below = c.in_ok-self-inside.ensures.there.0 in
    let read = sym c.in_ok-self-inside.ensures.there.1 in
    let written = λ (new : _). ap (padded_to N)
    (g.met.C.Items.written c.self.inside.cells c.args.place new) in
    rw (← c.self.view_is) (
      λ t. read_of (ghost_name_of c.as_mut.result)
          (λ (w : g.row.T.Denot).
          (written (Some w) ∙ padded-set N cells c.args.place (Some w) below) t)
          ((written cell ∙ ap (padded_to N) (set_same cells c.args.place cell read)) t),
      record {
        writes_back = tt;
        value =
            c.as_mut.ensures.value
            ∙ sym (at_place-padded N cells c.args.place
            ∙ at_place-read cells c.args.place cell cell below read);
      },
    )
