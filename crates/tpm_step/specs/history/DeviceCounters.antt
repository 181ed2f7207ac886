-- Defines when a device has the NV counters that its history determines.
use Rattle.std.specs.Prelude.{◌≡◌, ℕ, ◌≤◌, true, false, ◌∷◌, ◌++◌, Option, Some, None}
use Rattle.tpm_types_common.specs.declared.handle.Handle.{Handle}
use Rattle.tpm_types_nv.specs.declared.nv_attributes.NvAttribute.TheVariants as attribute
use Rattle.tpm_nv.specs.Access.{index_has}
use Rattle.tpm_nv.specs.Index.{NvContents, NvIndex, index_at}
use Rattle.tpm_record.specs.Record.{Record}
use Rattle.tpm_step.specs.rows.IndexChanges.{IsCounter, stored_count}
use Rattle.tpm_step.specs.history.Counters.{AllBelow, Counters, HasNoDefinition, counters_of, counts_of, defines, largest_of}
use Rattle.tpm_step.specs.history.History.{History, PastEvent}

-- The NV index is a counter with this value, or without a value if `count` is None. No startup
-- clears the index.
pub record IsCounted (index : NvIndex) (count : Option ℕ) : Type 0 where
  pub stays : index_has index attribute.ClearStClear ≡ false
  pub value : stored_count index ≡ count

-- A device's counters agree with the counters of a history. The largest value that any counter ever
-- had is the same in both. Each counter of the device has the value that the history has for its
-- handle.
pub record AreCounted (contents : NvContents) (c : Counters) : Type 0 where
  pub most : contents.max_count ≡ largest_of c.all
  pub each : (handle : Handle) (index : NvIndex)
      → index_at contents handle ≡ Some index
      → IsCounter index
      → IsCounted index (c.at handle)

-- A device and its history have the same counters.
abbrev pub HasCounters : Record → History → Type 0
HasCounters r history = AreCounted r.nv (counters_of history)

-- The value of a counter has not gone down, unless an index was defined again with its handle.
abbrev pub KeepsCounter : (old new : Record) → (meanwhile : History) → Handle
    → NvIndex → NvIndex → Type 0
KeepsCounter old new meanwhile handle before after =
    index_at old.nv handle ≡ Some before
    → IsCounter before
    → index_at new.nv handle ≡ Some after
    → IsCounter after
    → HasNoDefinition handle meanwhile
    → (n : ℕ)
    → stored_count before ≡ Some n
    → (m : ℕ) × (stored_count after ≡ Some m) × (n ≤ m)

-- If a counter had no value before a sequence of events, and has a value after it, this value
-- exceeds all values that any counter had before these events.
abbrev pub BeginsAbove : (old new : Record) → (history : History) → Handle
    → NvIndex → NvIndex → Type 0
BeginsAbove old new history handle before after =
    index_at old.nv handle ≡ Some before
    → IsCounter before
    → stored_count before ≡ None
    → index_at new.nv handle ≡ Some after
    → IsCounter after
    → (n : ℕ)
    → stored_count after ≡ Some n
    → AllBelow n (counts_of history)

-- Suppose that a counter was defined in a sequence of events. Then its value exceeds all values
-- that any counter had before this definition, in the sequence or before it.
abbrev pub ExceedsEarlier : (new : Record) → (history meanwhile : History) → Handle → NvIndex
    → Type 0
ExceedsEarlier new history meanwhile handle after =
    (earlier later : History) (definition : PastEvent)
    → meanwhile ≡ later ++ definition ∷ earlier
    → defines definition handle ≡ true
    → index_at new.nv handle ≡ Some after
    → IsCounter after
    → (n : ℕ)
    → stored_count after ≡ Some n
    → AllBelow n (counts_of (earlier ++ history))
