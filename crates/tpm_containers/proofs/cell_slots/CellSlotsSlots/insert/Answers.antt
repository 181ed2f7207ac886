use Rattle.std.proofs.Common.{◌≡◌, Some, length, sym, ap, ◌∙◌, arith}
use Rattle.std.proofs.lemmas.List.Edits.{insert_end}
use Rattle.tpm_containers.specs.Slots.{lowest_free, padded_to}
use Rattle.tpm_containers.proofs.Padding.{padded-push, padded-set}
use Rattle.tpm_containers.proofs.SlotLaws.{free_within}
use Rattle.tpm_containers.proofs.cell_slots.CellSlotsSlots.insert.Goals as goal
use Rattle.tpm_containers.proofs.cell_slots.CellSlotsSlots.insert.Goals.{in-Ok, in-Err}

pub returns-in-Some-item_mut : goal.returns-in-Some-item_mut
returns-in-Some-item_mut g c = (
  sym c.in-Some.ensures.value,
  c.in-Some.ensures.within,
  rw (← c.self.view_is) (
      ap (padded_to g.row.N)
      (g.met.C.Items.written c.self.inside.cells c.in-Some.place (Some c.args.value))
      ∙ padded-set g.row.N _ c.in-Some.place (Some c.args.value) c.in-Some-item_mut.ensures.there.0
      ),
)

pub insert-requires-clause-inside : goal.insert-requires-clause-inside
insert-requires-clause-inside g c =
    free_within g.row.N (g.C.Items.items c.self.inside.cells) c.in-Some.place
    (rw c.self.view_is (sym c.in-Some.ensures.value))

pub returns : goal.returns
returns g c =
    let N = g.row.N in
    let cells = g.C.Items.items c.self.inside.cells in
    let x = Some c.args.value in
    let is : lowest_free (padded_to N cells) ≡ Some c.in-Some.place =
    rw c.self.view_is (sym c.in-Some.ensures.value) in
    let below = c.in-Some.ensures.within in
    let within = free_within N cells c.in-Some.place is in
    let size : c.in-Some.place ≡ length cells =
    omega (arith, within, c.in_default-item_mut.ensures.absent) in
    elim c.match-insert.branch [
      | in-Ok w ↦ rw (w.result-is, ← c.self.view_is) (
        is,
        below,
        ap (padded_to N) w.in-Ok.ensures.inserted
            ∙ rw size (ap (padded_to N) (insert_end cells x)
            ∙ padded-push N cells x (rw (← size) below)),
      )
      | in-Err w ↦ rw (w.result-is, ← c.self.view_is) (
        c.in-Some.place,
        is,
        w.in-Err.ensures.refused,
        ap (padded_to N) w.in-Err.ensures.unchanged,
      )
    ]
