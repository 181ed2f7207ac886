-- The state of a journal, apart from its device.
use Rattle.std.specs.Prelude.{ℕ, ◌+◌, ◌-◌, ◌^◌, List, [], ◌∷◌, min, Option, Some, None}
use Rattle.tpm_completion.specs.Completion.{new_completion}
use Rattle.tpm_completion.specs.declared.completion.Completion.{Completion}
use Rattle.tpm_journal_text.specs.Entry.{PlainEntry, sum_after}
use Rattle.tpm_journal_text.specs.Journal.{sum_after_all}
use Rattle.tpm_journal_text.specs.Head.{head_sum}
use Rattle.tpm_journal.specs.declared.journal.Journal.{Journal}
use Rattle.tpm_snapshot.specs.Layer.{completion_of}
use Rattle.tpm_state_text.specs.declared.layer.Layer.{Layer}

-- the journal after a head with this checksum and clock: the completing layer restarts, with the
-- checksum as its start number
abbrev pub journal_of : (sum clock : ℕ) → Journal
journal_of sum clock = record { sum = sum; time = clock; layer = new_completion sum }

-- the journal that begins with this clock and this image
abbrev pub journal_begun : (clock : ℕ) → (image : List ℕ) → Journal
journal_begun clock image = journal_of (head_sum clock image) clock

-- the layer in the state of a device, or a new layer if the state contains none; the start number
-- of a new layer is the checksum of the head
abbrev pub layer_in : (sum : ℕ) → Option Layer → Completion
layer_in sum None = new_completion sum
layer_in sum (Some layer) = completion_of (Some layer)

-- the journal after a head with this checksum and clock, if the state text in the head contains
-- this layer
abbrev pub journal_resumed : (sum clock : ℕ) → Option Layer → Journal
journal_resumed sum clock layer = record { sum = sum; time = clock; layer = layer_in sum layer }

-- the time after this many elapsed milliseconds, limited to 2^64 - 1
abbrev pub time_after : (time elapsed : ℕ) → ℕ
time_after time elapsed = min (time + elapsed) (2 ^ 64 - 1)

abbrev pub time_after_all : (time : ℕ) → List PlainEntry → ℕ
time_after_all time [] = time
time_after_all time (e ∷ entries) = time_after_all (time_after time e.elapsed) entries

-- the journal after one entry; `layer` is the layer's state after the entry
abbrev pub journal_after : Journal → PlainEntry → (layer : Completion) → Journal
journal_after j e layer =
    record { sum = sum_after j.sum e; time = time_after j.time e.elapsed; layer = layer }

-- the journal after several entries; `layer` is the layer's state after the entries
abbrev pub journal_after_all : Journal → List PlainEntry → (layer : Completion) → Journal
journal_after_all j entries layer = record {
  sum = sum_after_all j.sum entries;
  time = time_after_all j.time entries;
  layer = layer;
}
