-- The results of calls that decode the state of a device, and the state after them.
use Rattle.std.specs.Prelude.{◌≡◌, ℕ, ◌+◌, ◌<◌, ◌≤◌, Bool, true, List, [], ◌∷◌, ◌++◌, Result, Ok, Err, IfOk}
use Rattle.tpm_containers.specs.SortedMap.{Entries}
use Rattle.tpm_lockout.specs.Lockout.{restored_lockout}
use Rattle.tpm_record.specs.Record.{Record}
use Rattle.tpm_record.specs.declared.fixed.Fixed.{Fixed}
use Rattle.tpm_image_text.specs.Fields.{malformed_fault}
use Rattle.tpm_image_text.specs.NonVolatile.{KeptState, NonVolatile, powered_on}
use Rattle.tpm_image_text.specs.declared.fault.FillFault.{FillFault}
use Rattle.tpm_image_text.specs.declared.fault.FillFault.TheVariants as unfilled
use Rattle.tpm_image_text.specs.declared.fault.Malformed.{Malformed}

-- On success, the value was decoded from the bytes. On error, the bytes are malformed, or an
-- allocation failed (NoMemory), whatever the bytes are.
abbrev pub Fills : {X : Type 0}
    → Bool → Result (X × List ℕ) Malformed → X
    → Result (Unit {0}) FillFault → List ℕ → Type 0
Fills can read filled (Ok done) rest = read ≡ Ok (filled, rest)
Fills can read filled (Err unfilled.Malformed) rest = read ≡ Err malformed_fault
Fills can read filled (Err unfilled.NoMemory) rest = can ≡ true

-- Every key of these entries is below this key.
abbrev pub AllBelow : {X : Type 0} → ℕ → Entries X → Type 0
AllBelow key [] = Unit {0}
AllBelow key (e ∷ es) = (e.0 < key) × AllBelow key es

-- On success, one entry was read and appended to the others: its key is at least `lowest`, and the
-- next key must be above it. On error, the entry is malformed or does not fit (`Misfits`), or an
-- allocation failed (NoMemory).
abbrev pub Appends : {X : Type 0}
    → Bool → Result ((ℕ × X) × List ℕ) Malformed → (lowest : ℕ) → (ℕ × X → Type 0)
    → (old : Entries X) → Result ℕ FillFault → (new : Entries X) → List ℕ → Type 0
Appends {X} can read lowest Misfits old (Ok next) new rest =
    (entry : ℕ × X) × (read ≡ Ok (entry, rest)) × (lowest ≤ entry.0) × (next ≡ entry.0 + 1)
    × (new ≡ old ++ entry ∷ [])
Appends can read lowest Misfits old (Err unfilled.Malformed) new rest = IfOk read (λ x. Misfits x.0)
Appends can read lowest Misfits old (Err unfilled.NoMemory) new rest = can ≡ true

-- the fixed part of a record, with the non-volatile state restored and both lockout timers
-- restarted
abbrev pub with_state : Fixed → KeptState → Fixed
with_state fixed state = record fixed {
  saved = state.saved;
  hierarchies = state.hierarchies;
  disable_clear = state.disable_clear;
  lockout = restored_lockout state.lockout;
  clock = state.clock;
  reset_count = state.reset_count;
  restart_count = state.restart_count;
}

-- On success, the non-volatile state was restored to the fixed part of a record, and the result is
-- the largest value that an NV counter ever had. On error, the bytes are malformed.
abbrev pub Restores : Result (KeptState × List ℕ) Malformed
    → Fixed → Result ℕ Malformed → Fixed → List ℕ → Type 0
Restores read old (Ok max_count) new rest =
    (state : KeptState) × (read ≡ Ok (state, rest)) × (new ≡ with_state old state)
    × (max_count ≡ state.max_count)
Restores read old (Err fault) new rest = read ≡ Err fault

-- On success, the record describes a device that was powered on with the encoded non-volatile
-- state. On error, the bytes are malformed, or an allocation failed (NoMemory), whatever the bytes
-- are.
abbrev pub PowersOn : Bool → Result NonVolatile Malformed → Result (Unit {0}) FillFault
    → Record → Type 0
PowersOn can read (Ok done) new = (kept : NonVolatile) × (read ≡ Ok kept) × (new ≡ powered_on kept)
PowersOn can read (Err unfilled.Malformed) new = read ≡ Err malformed_fault
PowersOn can read (Err unfilled.NoMemory) new = can ≡ true

-- On success, the record describes a device that was powered on with the non-volatile state at the
-- beginning of the bytes, and `rest` remains to be read. On error, the bytes are malformed, or an
-- allocation failed (NoMemory), whatever the bytes are.
abbrev pub PowersOnFrom : Bool → Result (NonVolatile × List ℕ) Malformed
    → Result (Unit {0}) FillFault → Record → (rest : List ℕ) → Type 0
PowersOnFrom can read (Ok done) new rest =
    (kept : NonVolatile) × (read ≡ Ok (kept, rest)) × (new ≡ powered_on kept)
PowersOnFrom can read (Err unfilled.Malformed) new rest = read ≡ Err malformed_fault
PowersOnFrom can read (Err unfilled.NoMemory) new rest = can ≡ true

-- On success, the result is the state of a device that was powered on with the encoded non-volatile
-- state. On error, the bytes are malformed, or an allocation failed (NoMemory).
abbrev pub Filled : {K : Type 0} → (K → Record) → Bool → Result NonVolatile Malformed
    → Result K FillFault → Type 0
Filled record_of can read (Ok keep) =
    (kept : NonVolatile) × (read ≡ Ok kept) × (record_of keep ≡ powered_on kept)
Filled record_of can read (Err unfilled.Malformed) = read ≡ Err malformed_fault
Filled record_of can read (Err unfilled.NoMemory) = can ≡ true
