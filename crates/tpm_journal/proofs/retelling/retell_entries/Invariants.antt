use Rattle.std.proofs.Common.{◌-◌, length, None}
use Rattle.tpm_bytes.specs.Tap.{device_of}
use Rattle.tpm_machine.specs.State.{state_of}
use Rattle.tpm_journal.specs.Retelling.{Retells}
use Rattle.tpm_journal.proofs.retelling.retell_entries.Given as goal

-- All entries before the current position were executed and converted.
abbrev pub invariant-loop-entry : goal.invariant-loop-entry
invariant-loop-entry g l =
    let record_of = g.K.Keep.record_of in
    Retells l.form g.K.Keep.can_refuse l.fn.journal (state_of record_of l.fn.machine) l.text
    (g.W.Write.contents (device_of l.fn.writer)) (g.W.Write.contents (device_of l.writer)) l.taken
    None l.journal (state_of record_of l.machine)

abbrev pub decreases-loop-entry : goal.decreases-loop-entry
decreases-loop-entry g l = length l.text - l.taken
