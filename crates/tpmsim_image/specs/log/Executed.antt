-- The entry that a log contains for an execution.
use Rattle.std.specs.Prelude.{ℕ, ◌&&◌, nat_le, Bool, false, List, length, take, Option, Some, None}
use Rattle.tpm_step.specs.step.Events.{PlainEvent, Given, Cycled, Placed}
use Rattle.tpm_machine.specs.Executions.{Execution}
use Rattle.tpm_machine.specs.Drawn.{drawn_by}
use Rattle.tpm_journal_text.specs.Sum.{sum_of}
use Rattle.tpm_journal_text.specs.Entry.{PlainEntry, entry_limit}

-- the entry of a command that drew `drawn` random bytes and got this response, with no layer above
-- the device; a power cycle and a placed object have no entry
abbrev pub entry_by : PlainEvent → (drawn : ℕ) → (response : List ℕ) → Option PlainEntry
entry_by (Given buffer locality elapsed random) drawn response = Some (record {
  elapsed = elapsed;
  locality = locality;
  completes = false;
  drawn = take drawn random;
  buffer = buffer;
  answered = sum_of response;
})
entry_by Cycled drawn response = None
entry_by (Placed object) drawn response = None

-- whether this buffer and this number of random bytes fit into an entry
abbrev pub fits_entry : (buffer : List ℕ) → (drawn : ℕ) → (random : List ℕ) → Bool
fits_entry buffer drawn random =
    nat_le (length buffer) entry_limit && nat_le drawn (length random)

-- whether an event has an entry: it is a command, and an entry can contain its buffer
abbrev pub has_entry : PlainEvent → (drawn : ℕ) → Bool
has_entry (Given buffer locality elapsed random) drawn = fits_entry buffer drawn random
has_entry Cycled drawn = false
has_entry (Placed object) drawn = false

-- the entry of an execution
abbrev pub entry_in : Execution → Option PlainEntry
entry_in one =
    entry_by one.event (drawn_by one.before one.event one.seen.row.check) one.seen.response
