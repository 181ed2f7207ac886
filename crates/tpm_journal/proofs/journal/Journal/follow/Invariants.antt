use Rattle.std.proofs.Common.{◌-◌, length, None}
use Rattle.tpm_machine.specs.State.{state_of}
use Rattle.tpm_journal.specs.Replay.{Repeats}
use Rattle.tpm_journal.proofs.journal.Journal.follow.Given as goal

-- All entries before the current position were executed.
abbrev pub invariant-loop-size : goal.invariant-loop-size
invariant-loop-size g l =
    let record_of = g.K.Keep.record_of in
    Repeats g.K.Keep.can_refuse l.fn.self (state_of record_of l.fn.machine) l.text l.taken None
    l.self (state_of record_of l.machine)

abbrev pub decreases-loop-size : goal.decreases-loop-size
decreases-loop-size g l = length l.text - l.taken
