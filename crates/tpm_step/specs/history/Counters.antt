-- NV counters, computed from the history alone. TPM 2.0 Library, Part 3, sections 31.2 and 31.8
-- (NV counters, TPM2_NV_Increment).
use Rattle.std.specs.Prelude.{◌≡◌, ◌↔◌, ℕ, ◌+◌, ◌<◌, ◌≤◌, ◌==◌, max, Bool, true, false, List, [], ◌∷◌, ◌++◌, Option, Some, None, Result, Ok, Err}
use Rattle.std.specs.List.{AllByRecursion}
use Rattle.tpm_bytes.specs.Reading.{◌>>=◌}
use Rattle.tpm_types_common.specs.declared.handle.Handle.{Handle}
use Rattle.tpm_types_common.specs.declared.refused.Refused.{Refused}
use Rattle.tpm_commands.specs.declared.command_code.CommandCode.{CommandCode}
use Rattle.tpm_commands.specs.declared.command_code.CommandCode.TheVariants as command
use Rattle.tpm_record.specs.rows.Request.{Request, second_handle}
use Rattle.tpm_nvactions.specs.NvDefineSpace.{parameters_in}
use Rattle.tpm_step.specs.history.HandleMap.{by_handle, with_at}
use Rattle.tpm_step.specs.history.History.{AcceptedCommand, Done, History, ObjectPlaced, PastEvent, PowerCycled}

-- the counters: the value at each handle, if the counter has been incremented since its definition;
-- and all values that any counter ever had, the latest first
pub record Counters : Type 0 where
  pub at : Handle → Option ℕ
  pub all : List ℕ

abbrev pub no_counters : Counters
no_counters = record { at = λ handle. None; all = [] }

-- the largest number in a list, or 0 if the list is empty
abbrev pub largest_of : List ℕ → ℕ
largest_of [] = 0
largest_of (n ∷ ns) = max (largest_of ns) n

-- the next value of a counter: one more than its value; at the first increment, one more than the
-- largest value that any counter ever had
abbrev pub next_count : (most : ℕ) → Option ℕ → ℕ
next_count most None = most + 1
next_count most (Some n) = n + 1

-- ---- the effect of a command on the counter at a handle

-- the effect of TPM2_NV_Increment: the counter at this handle gets its next value
abbrev pub counted_at : Handle → Counters → Counters
counted_at handle c =
    let n : ℕ = next_count (largest_of c.all) (c.at handle) in
    record { at = with_at handle (Some n) c.at; all = n ∷ c.all }

-- the effect of TPM2_NV_DefineSpace: the counter at this handle starts again, without a value
abbrev pub begun_at : Handle → Counters → Counters
begun_at handle c = record { at = with_at handle None c.at; all = c.all }

-- the handle of the index that TPM2_NV_DefineSpace defines
abbrev pub defined_handle : List ℕ → Result Handle Refused
defined_handle text = do
  p ← parameters_in text
  Ok p.public.nv_index

-- the counters after an accepted command. A command that removes an index, such as
-- TPM2_NV_UndefineSpace or TPM2_Clear, changes nothing here. The handle then names no counter until
-- an index is defined with this handle again, and the new index begins without a value
abbrev pub counters_by : CommandCode → Request → Counters → Counters
counters_by command.NvIncrement q c = by_handle (second_handle q.handles) counted_at c
counters_by command.NvDefineSpace q c = by_handle (defined_handle q.parameters) begun_at c
counters_by _ q c = c

-- the counters after a history
abbrev pub counters_of : History → Counters
counters_of [] = no_counters
counters_of (Done c ∷ history) = counters_by c.command.code c.request (counters_of history)
counters_of (PowerCycled ∷ history) = counters_of history
counters_of (ObjectPlaced at object ∷ history) = counters_of history

-- all values that any counter ever had in a history
abbrev pub counts_of : History → List ℕ
counts_of history = (counters_of history).all

-- the value of the counter at a handle after a history
abbrev pub count_at : History → Handle → Option ℕ
count_at history handle = (counters_of history).at handle

-- ---- definitions of indices in a history

-- whether the parsed handle is this handle; false if no handle could be parsed
abbrev pub is_named : Result Handle Refused → Handle → Bool
is_named (Ok named) handle = named.number == handle.number
is_named (Err e) handle = false

abbrev pub defines_by : CommandCode → Request → Handle → Bool
defines_by command.NvDefineSpace q handle = is_named (defined_handle q.parameters) handle
defines_by _ q handle = false

-- whether an event defines an index with this handle
abbrev pub defines : PastEvent → Handle → Bool
defines (Done c) handle = defines_by c.command.code c.request handle
defines PowerCycled handle = false
defines (ObjectPlaced at object) handle = false

-- The event is an accepted TPM2_NV_DefineSpace of an index with this handle.
pub record IsDefinition (one : PastEvent) (handle : Handle) : Type 0 where
  pub accepted : AcceptedCommand
  pub named : Handle
  pub is : one ≡ Done accepted
  pub code : accepted.command.code ≡ command.NvDefineSpace
  pub defined : defined_handle accepted.request.parameters ≡ Ok named
  pub same : named.number ≡ handle.number

-- No event in this part of a history defines an index with this handle.
abbrev pub HasNoDefinition : Handle → History → Type 0
HasNoDefinition handle history =
    AllByRecursion (λ (one : PastEvent). defines one handle ≡ false) history

-- Every number in the list is less than n.
abbrev pub AllBelow : ℕ → List ℕ → Type 0
AllBelow n numbers = AllByRecursion (λ m. m < n) numbers

-- The claims about the counters of every history.
pub record CountLaws : Type 0 where
  -- an event defines an index with a handle if and only if it is an accepted TPM2_NV_DefineSpace
  -- for this handle
  pub definitions : (one : PastEvent) (handle : Handle)
      → (defines one handle ≡ true ↔ IsDefinition one handle)
  -- if a counter has no value after the old history, each of its later values exceeds all counter
  -- values of the old history
  pub first_exceeds : (old new : History) (handle : Handle) (n : ℕ)
      → count_at old handle ≡ None
      → count_at (new ++ old) handle ≡ Some n
      → AllBelow n (counts_of old)
  -- the value of a counter exceeds all values that counters had before its definition
  pub defined_exceeds : (old new : History) (definition : PastEvent) (handle : Handle) (n : ℕ)
      → defines definition handle ≡ true
      → count_at (new ++ definition ∷ old) handle ≡ Some n
      → AllBelow n (counts_of old)
  -- a counter does not go down until an index is defined again with its handle
  pub never_down : (old new : History) (handle : Handle) (n : ℕ)
      → count_at old handle ≡ Some n
      → HasNoDefinition handle new
      → (m : ℕ) × (count_at (new ++ old) handle ≡ Some m) × (n ≤ m)
  -- the value of a counter is at most the largest value that any counter had
  pub within : (history : History) (handle : Handle) (n : ℕ)
      → count_at history handle ≡ Some n
      → n ≤ largest_of (counts_of history)
