use Rattle.std.proofs.Common.{◌≡◌, ◌<◌, ◌++◌, None, ap, ◌∙◌, arith, length, length-append, ◌∷◌, []}
use Rattle.std.proofs.lemmas.List.Edits.{insert_end}
use Rattle.tpm_containers.specs.Slots.{padded_to}
use Rattle.tpm_containers.proofs.Padding.{padded-grown}
use Rattle.tpm_containers.proofs.cells.reach.Goals as goal

pub loop-count-preserved : goal.loop-count-preserved
loop-count-preserved g c =
    let i = c.loop-count.invariant in
    let N = g.row.N in
    let cells = g.C.Items.items c.loop-count.cells in
    let below = c.requires.below in
    let more : g.C.Items.items c.insert.new.self ≡ cells ++ None ∷ [] =
    c.in_ok-insert.ensures.inserted ∙ rw (← i.size) (insert_end cells None) in
    let room : length cells < N = omega (arith, below, i.size, c.loop-count-test.true) in
    record {
      same = ap (padded_to N) more ∙ padded-grown N cells room ∙ i.same;
      size = ap length more ∙ omega (arith, i.size, length-append cells (None ∷ []));
      few = rw more (omega (arith, room, length-append cells (None ∷ [])));
    }
