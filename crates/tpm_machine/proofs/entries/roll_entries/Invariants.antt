use Rattle.std.proofs.Common.{◌≡◌, ◌+◌, ◌*◌, ◌≤◌, drop, length, map}
use Rattle.tpm_types_command.specs.AuthEntry.{entry_of}
use Rattle.tpm_step.specs.step.Entries.{entries_rolled}
use Rattle.tpm_machine.proofs.entries.roll_entries.Given as goal

-- Drawing nonces for the remaining entries in the current state has the same result as drawing
-- nonces for all entries in the initial state.
abbrev pub invariant-loop-entry : goal.invariant-loop-entry
invariant-loop-entry g l =
    let record_of = g.K.Keep.record_of in
    record {
      rolled : entries_rolled (record_of l.keep) (map entry_of (drop l.entry-index l.entries))
          l.draws ≡ entries_rolled (record_of l.initial.keep) (map entry_of l.entries)
          l.initial.draws;
      random : length l.initial.draws ≤ length l.draws + 32 * l.entry-index;
      left : length l.draws ≤ length l.initial.draws;
    }
