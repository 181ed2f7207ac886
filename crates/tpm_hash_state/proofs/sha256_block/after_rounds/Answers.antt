use Rattle.std.proofs.Common.{List, ℕ, ap, refl, sym, slice_index, ◌∙◌}
use Rattle.sha2.proofs.Schedule256.{rounds_next}
use Rattle.sha2.specs.Sha256.{round, round_constants, rounds}
use Rattle.tpm_hash_state.proofs.sha256_block.after_rounds.Goals as goal

pub loop-t-init : goal.loop-t-init
unfolding rounds
loop-t-init c = refl

pub loop-t-preserved : goal.loop-t-preserved
loop-t-preserved c =
    let t = c.loop-t.t in
    c.round-next.ensures
    ∙ ap (λ (v : List ℕ). round v (slice_index round_constants t)
    (slice_index c.args.schedule.now t)) c.loop-t.invariant
    ∙ sym (rounds_next c.args.hash c.args.schedule.now t)
