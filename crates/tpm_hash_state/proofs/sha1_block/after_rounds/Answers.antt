use Rattle.std.proofs.Common.{List, ℕ, ap, refl, sym, slice_index, ◌∙◌}
use Rattle.sha1.proofs.Schedule.{rounds_next}
use Rattle.sha1.specs.Sha1.{round, round_constant, round_fn, rounds}
use Rattle.tpm_hash_state.proofs.sha1_block.after_rounds.Goals as goal

pub loop-t-init : goal.loop-t-init
unfolding rounds
loop-t-init c = refl

pub loop-t-preserved : goal.loop-t-preserved
loop-t-preserved c =
    let t = c.loop-t.t in
    c.round-next.ensures
    ∙ ap (λ (v : List ℕ). round v (round_fn t (slice_index v 1) (slice_index v 2) (slice_index v 3))
    (round_constant t) (slice_index c.args.schedule.now t)) c.loop-t.invariant
    ∙ sym (rounds_next c.args.hash c.args.schedule.now t)
