-- The state of the completing layer: its contexts of sessions, and its sequence objects. TPM 2.0
-- Library, Part 1, sections 30 (context management) and 32.4 (hash, HMAC and event sequences).
use Rattle.std.specs.Prelude.{ℕ, List, Option, get_or, is_some, map, replicate, if◌then◌else◌}
use Rattle.tpm_bytes.specs.Numbers.{numbers_below}
use Rattle.tpm_containers.specs.Slots.{at_place}
use Rattle.tpm_types_common.specs.Limits.{session_limit}
use Rattle.tpm_record.specs.Record.{Record}
use Rattle.tpm_sequence.specs.declared.object.SequenceObject.{SequenceObject}
use Rattle.tpm_completion.specs.Sequences.{no_sequences}
use Rattle.tpm_completion.specs.declared.completion.Completion.{Completion}

-- the layer's state after it started with this number, before it has saved any context
abbrev pub new_completion : (start : ℕ) → Completion
new_completion start = record {
  start = start;
  count = 0;
  sessions = replicate session_limit 0;
  sequences = no_sequences;
}

-- the number of the context in which the session in a slot was saved, or 0 if the session is loaded
abbrev pub session_context : Completion → ℕ → ℕ
session_context c place = get_or c.sessions place 0

-- the context number of the session in a slot, or 0 if the device has no session there
unfoldable pub session_kept : Record → Completion → ℕ → ℕ
session_kept r c place = if is_some (at_place r.sessions place) then session_context c place else 0

-- the sequence objects that the layer still has: all of them, or none if the device is not started
abbrev pub sequences_kept : Record → Completion → List (Option SequenceObject)
sequences_kept r c = if r.fixed.started then c.sequences else no_sequences

-- the layer's state without the contexts of sessions that no longer exist and, if the device is not
-- started, without sequence objects
unfoldable pub forgotten : Record → Completion → Completion
forgotten r c = record c {
  sessions = map (session_kept r c) (numbers_below session_limit);
  sequences = sequences_kept r c;
}
