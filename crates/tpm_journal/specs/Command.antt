-- A command as it arrives, the entry that is written for it, and the event that executes the
-- entry again.
use Rattle.std.specs.Prelude.{ℕ, ◌-◌, ◌^◌, Bool, List, ◌++◌, length, min, replicate, take}
use Rattle.tpm_completion.specs.Execution.{CompletesIf, Seen}
use Rattle.tpm_completion.specs.declared.completion.Completion.{Completion}
use Rattle.tpm_record.specs.Record.{Record}
use Rattle.tpm_step.specs.step.Events.{PlainEvent, Given}
use Rattle.tpm_journal_text.specs.Entry.{PlainEntry, entry_limit}
use Rattle.tpm_journal_text.specs.Sum.{sum_of}

-- a command: its bytes, its locality, its elapsed time, whether the completing layer is on, and its
-- random bytes
pub record Command : Type 0 where
  pub buffer : List ℕ
  pub locality : ℕ
  pub elapsed : ℕ
  pub completes : Bool
  pub random : List ℕ

abbrev pub command_event : Command → PlainEvent
command_event c = Given c.buffer c.locality c.elapsed c.random

-- the elapsed time of a command: the host's clock minus the time of the journal, limited to 0 ..
-- 2^32 - 1
abbrev pub elapsed_of : (now time : ℕ) → ℕ
elapsed_of now time = min (now - time) (2 ^ 32 - 1)

-- the command in a buffer; a longer buffer is truncated to the largest size that an entry can
-- record
abbrev pub command_at : (buffer : List ℕ) (locality elapsed : ℕ) (completes : Bool)
    (random : List ℕ) → Command
command_at buffer locality elapsed completes random = record {
  buffer = take entry_limit buffer;
  locality = locality;
  elapsed = elapsed;
  completes = completes;
  random = random;
}

-- Executing the command on the record `old` has the effect `seen`. The command says whether the
-- completing layer takes part.
abbrev pub Executed : (can : Bool) → Completion → Record → Command → Seen → Type 0
Executed can layer old c seen = CompletesIf can c.completes layer old (command_event c) seen

-- the entry that records a command and its effect; the entry contains only the random bytes that
-- the command drew
abbrev pub entry_of : Command → Seen → PlainEntry
entry_of c seen = record {
  elapsed = c.elapsed;
  locality = c.locality;
  completes = c.completes;
  drawn = take seen.drawn c.random;
  buffer = c.buffer;
  answered = sum_of seen.step.response;
}

-- 256 random bytes: the bytes that a command drew, followed by zeros
abbrev pub padded : List ℕ → List ℕ
padded drawn = drawn ++ replicate (256 - length drawn) 0

-- the event that executes an entry's command again
abbrev pub event_of : PlainEntry → PlainEvent
event_of e = Given e.buffer e.locality e.elapsed (padded e.drawn)

-- Executing an entry's command again on the record `old` has the effect `seen`. The entry says
-- whether the completing layer takes part.
abbrev pub IsPerformed : (can : Bool) → Completion → Record → PlainEntry → Seen → Type 0
IsPerformed can layer old e seen = CompletesIf can e.completes layer old (event_of e) seen
