use Rattle.std.proofs.Common.{arith}
use Rattle.tpm_journal.proofs.Repeating.{performs_at, performs_some, repeats_more, repeats_none, repeats_otherwise}
use Rattle.tpm_journal.proofs.journal.Journal.follow.Goals as goal

pub loop-size-init : goal.loop-size-init
loop-size-init g c = repeats_none _ _ _ _

pub loop-size-smaller : goal.loop-size-smaller
loop-size-smaller g c =
    let some = performs_some _ _ _ _ _ _ _ _ c.in-Executed.ensures in
    let within = c.in-Executed.ensures.within in
    let back = c.split_at.ensures.back_len in
    omega (arith, some, within, back, c.loop-size.invariant.within)

pub loop-size-preserved : goal.loop-size-preserved
loop-size-preserved g c =
    repeats_more _ _ _ _ _ _ _ _ _ _ c.loop-size.invariant
    (performs_at _ _ _ _ _ _ _ _ _ c.split_at.ensures.back c.in-Executed.ensures)

pub returns-in-Otherwise : goal.returns-in-Otherwise
returns-in-Otherwise g c =
    repeats_otherwise _ _ _ _ _ _ _ _ _ _ c.loop-size.invariant
    (performs_at _ _ _ _ _ _ _ _ _ c.split_at.ensures.back c.in-Otherwise.ensures)
