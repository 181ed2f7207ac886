-- The fixed part of an image: decoding returns a value exactly when the bytes begin with its
-- encoding.
use Rattle.tpm_image_text.specs.Sizes.{state_size}
use Rattle.std.proofs.Common.{◌≡◌, ◌≢◌, ℕ, ◌^◌, ◌<◌, ◌≤◌, Bool, true, List, [], ◌∷◌, ◌++◌, length, Result, Ok, refl, sym, subst, append_assoc, append-nil, arith, length-append}
use Rattle.std.specs.Prelude.{◌==◌, ◌*◌}
use Rattle.std.specs.Int.{w8, w32, w64, to_be_bytes}
use Rattle.std.specs.List.{AllByRecursion, flat_map}
use Rattle.std.proofs.lemmas.Bool.{eqb-false, eqb-true}
use Rattle.std.proofs.lemmas.List.Elements.{All-from_recursion, recursion_from_All}
use Rattle.tpm_bytes.proofs.Fields.{AreBytes, Takes, bind_ok, ok_is, wide8, wide32}
use Rattle.tpm_types_common.proofs.Spelled.{Spelled, all_read, first, for_each, respelled, then, two_texts}
use Rattle.tpm_lockout.specs.Lockout.{IsLockout, restored_lockout}
use Rattle.tpm_lockout.specs.declared.fields.LockoutFields.{LockoutFields}
use Rattle.tpm_pcr.specs.Saved.{IsSaved, IsSavedBank, SavedValues}
use Rattle.tpm_record.specs.Saved.{IsSavedState, SavedState, Nothing, Clear, State}
use Rattle.tpm_record.specs.declared.hierarchy.Hierarchies.{Hierarchies}
use Rattle.tpm_image_text.specs.Body.{bank_in, hierarchies_text, lockout_in, lockout_text, saved_by_kind, saved_in, saved_text, saved_values_in, state_in, state_text, values_in, values_text}
use Rattle.tpm_image_text.specs.Fields.{malformed_fault, yes_no_text}
use Rattle.tpm_image_text.specs.NonVolatile.{IsKeptState, KeptState}
use Rattle.tpm_image_text.specs.declared.fault.Malformed.{Malformed}
use Rattle.tpm_image_text.proofs.FieldSpelling.{bytes_spelled, either, many_spelled, never, number_in_spelled, only, wide64, yes_no_spelled}
use Rattle.tpm_image_text.proofs.HierarchyLaws.{hierarchies_small, hierarchies_spelled}

-- ---- lockout

abbrev LockoutParts : Type 0
LockoutParts = (((ℕ × ℕ) × ℕ) × ℕ) × Bool

abbrev lockout_parts : LockoutFields → LockoutParts
lockout_parts l = ((((l.failed_tries, l.max_tries), l.recovery_time), l.lockout_recovery), l.closed)

abbrev lockout_of : LockoutParts → LockoutFields
lockout_of f = record {
  failed_tries = f.0.0.0.0;
  max_tries = f.0.0.0.1;
  recovery_time =
      f.0.0.1;
  lockout_recovery = f.0.1;
  closed = f.1;
}

five_texts : (a b c d e : List ℕ) → a ++ b ++ c ++ d ++ e ≡ a ++ (b ++ (c ++ (d ++ (e ++ []))))
five_texts a b c d e = simp (append_assoc, append-nil) refl

pub lockout_spelled : Spelled lockout_text (λ l. IsLockout (restored_lockout l)) lockout_in
unfolding lockout_in lockout_text
lockout_spelled =
    let number = number_in_spelled w32 (2 ^ 32) wide32 in
    let fields =
    first number
    (then number
    (then number
    (then number
    (then yes_no_spelled
    (all_read lockout_parts lockout_of (λ _. refl) (λ _. refl)))))) in
    respelled fields
    (λ l. five_texts (to_be_bytes w32 l.failed_tries) (to_be_bytes w32 l.max_tries)
    (to_be_bytes w32 l.recovery_time) (to_be_bytes w32 l.lockout_recovery)
    (yes_no_text l.closed))
    (λ l is. record {
      failed_tries = is.0;
      max_tries = is.1.0;
      recovery_time =
          is.1.1.0;
      lockout_recovery = is.1.1.1.0;
      forgiving_time = omega arith;
      closed_time =
          omega arith;
    })
    (λ l is. (is.failed_tries, (is.max_tries, (is.recovery_time, (is.lockout_recovery, (tt, tt))))))

pub length-lockout_text : (l : LockoutFields) → length (lockout_text l) ≡ 17
unfolding lockout_text
length-lockout_text l = refl

-- ---- the values of PCRs

abbrev values_text_of : List (List ℕ) → List ℕ
values_text_of values = flat_map (λ value. value) values

bank_spelled : (size : ℕ) → Spelled values_text_of (IsSavedBank size) (bank_in size)
unfolding bank_in
bank_spelled size =
    let IsValue : List ℕ → Type 0 = λ value. length value ≡ size in
    respelled (many_spelled 16 (bytes_spelled size)) (λ values. refl)
    (λ values is. (is.0, All-from_recursion IsValue values is.1))
    (λ values is. (is.0, recursion_from_All IsValue values is.1))

abbrev banks_of : SavedValues → List (List ℕ) × List (List ℕ)
banks_of values = (values.sha1, values.sha256)

abbrev values_of : List (List ℕ) × List (List ℕ) → SavedValues
values_of banks = record { sha1 = banks.0; sha256 = banks.1 }

pub values_spelled : Spelled values_text IsSaved values_in
unfolding values_in
values_spelled =
    respelled
    (first (bank_spelled 20)
    (then (bank_spelled 32) (all_read banks_of values_of (λ _. refl) (λ _. refl))))
    (λ values. two_texts (values_text_of values.sha1) (values_text_of values.sha256))
    (λ values is. record { sha1 = is.0; sha256 = is.1.0 })
    (λ values is. (is.sha1, (is.sha256, tt)))

-- ---- the state that a shutdown saved

kind_number : SavedState → ℕ
kind_number Nothing = 0
kind_number Clear = 1
kind_number (State values) = 2

-- the encoding of a saved state after the byte for its kind
behind_kind : SavedState → List ℕ
behind_kind Nothing = []
behind_kind Clear = []
behind_kind (State values) = values_text values

abbrev IsOf : ℕ → SavedState → Type 0
IsOf kind saved = IsSavedState saved × (kind_number saved ≡ kind)

nothing_spelled : Spelled {E = Malformed} behind_kind (IsOf 0) (λ bytes. Ok (Nothing, bytes))
unfolding kind_number behind_kind
nothing_spelled = only Nothing refl (tt, refl) same
  where
    same : (saved : SavedState) → IsOf 0 saved → saved ≡ Nothing
    same Nothing is = refl
    same Clear is = absurd (omega (arith, is.1))
    same (State values) is = absurd (omega (arith, is.1))

clear_spelled : Spelled {E = Malformed} behind_kind (IsOf 1) (λ bytes. Ok (Clear, bytes))
unfolding kind_number behind_kind
clear_spelled = only Clear refl (tt, refl) same
  where
    same : (saved : SavedState) → IsOf 1 saved → saved ≡ Clear
    same Nothing is = absurd (omega (arith, is.1))
    same Clear is = refl
    same (State values) is = absurd (omega (arith, is.1))

saved_values_spelled : Spelled behind_kind (IsOf 2) saved_values_in
unfolding kind_number behind_kind
saved_values_spelled = record { taken = taken; again = again }
  where
    taken : (bytes : List ℕ) (x : SavedState × List ℕ) → AreBytes bytes
        → saved_values_in bytes ≡ Ok x → Takes bytes (behind_kind x.0) x.1 × IsOf 2 x.0
    taken bytes x fits e =
        let a = bind_ok (values_in bytes) (λ values. Ok (State values.0, values.1)) x e in
        let t = values_spelled.taken bytes a.0 fits a.1 in
        let made : SavedState × List ℕ = (State a.0.0, a.0.1) in
        subst (λ (y : SavedState × List ℕ). Takes bytes (behind_kind y.0) y.1 × IsOf 2 y.0)
        (ok_is made x a.2) (t.0, (t.1, refl))

    again : (saved : SavedState) (rest : List ℕ) → IsOf 2 saved
        → saved_values_in (behind_kind saved ++ rest) ≡ Ok (saved, rest)
    again Nothing rest is = absurd (omega (arith, is.1))
    again Clear rest is = absurd (omega (arith, is.1))
    again (State values) rest is = rw (values_spelled.again values rest is.0) refl

kind_is_known : (kind : ℕ) → kind ≢ 0 → kind ≢ 1 → kind ≢ 2 → (saved : SavedState)
    → kind_number saved ≡ kind → ⊥
unfolding kind_number
kind_is_known kind zero one two Nothing is = zero (sym is)
kind_is_known kind zero one two Clear is = one (sym is)
kind_is_known kind zero one two (State values) is = two (sym is)

by_kind_spelled : (kind : ℕ) → Spelled behind_kind (IsOf kind) (saved_by_kind kind)
by_kind_spelled kind =
    either (kind == 0) (λ is. at kind 0 is nothing_spelled)
    λ zero. either (kind == 1) (λ is. at kind 1 is clear_spelled)
    λ one. either (kind == 2) (λ is. at kind 2 is saved_values_spelled)
    λ two. never malformed_fault
    (λ saved is. kind_is_known kind (eqb-false kind 0 zero) (eqb-false kind 1 one)
    (eqb-false kind 2 two) saved is.1)
  where
    at : {reading : List ℕ → Result (SavedState × List ℕ) Malformed} (number known : ℕ)
        → (number == known) ≡ true → Spelled behind_kind (IsOf known) reading
        → Spelled behind_kind (IsOf number) reading
    at {reading} number known is law =
        subst (λ (n : ℕ). Spelled behind_kind (IsOf n) reading) (sym (eqb-true number known is)) law

kind_text : (saved : SavedState) → saved_text saved ≡ to_be_bytes w8 (kind_number saved)
    ++ behind_kind saved
unfolding kind_number behind_kind saved_text
kind_text Nothing = refl
kind_text Clear = refl
kind_text (State values) = refl

kind_small : (saved : SavedState) → kind_number saved < 2 ^ 8
unfolding kind_number
kind_small Nothing = omega arith
kind_small Clear = omega arith
kind_small (State values) = omega arith

pub saved_spelled : Spelled saved_text IsSavedState saved_in
unfolding saved_in
saved_spelled =
    respelled (first (number_in_spelled w8 (2 ^ 8) wide8)
    (for_each kind_number behind_kind IsSavedState saved_by_kind by_kind_spelled))
    kind_text (λ saved is. is.1) (λ saved is. (kind_small saved, is))

-- ---- the whole fixed part

abbrev Parts : Type 0
Parts = ((((((Hierarchies × Bool) × LockoutFields) × ℕ) × ℕ) × ℕ) × ℕ) × SavedState

abbrev parts_of : KeptState → Parts
parts_of s = (
  (
    (((((s.hierarchies, s.disable_clear), s.lockout), s.clock), s.reset_count), s.restart_count),
    s.max_count,
  ),
  s.saved,
)

abbrev state_of : Parts → KeptState
state_of p = record {
  hierarchies = p.0.0.0.0.0.0.0;
  disable_clear = p.0.0.0.0.0.0.1;
  lockout = p.0.0.0.0.0.1;
  clock = p.0.0.0.0.1;
  reset_count = p.0.0.0.1;
  restart_count = p.0.0.1;
  max_count = p.0.1;
  saved = p.1;
}

eight_texts : (a b c d e f g h : List ℕ) → a ++ b ++ c ++ d ++ e ++ f ++ g ++ h
    ≡ a ++ (b ++ (c ++ (d ++ (e ++ (f ++ (g ++ (h ++ [])))))))
eight_texts a b c d e f g h = simp (append_assoc, append-nil) refl

-- The fixed part of a non-volatile state can be encoded: its counts fit their fields.
abbrev pub HasText : KeptState → Type 0
HasText s = IsKeptState s × (s.max_count < 2 ^ 64)

pub state_spelled : Spelled state_text HasText state_in
unfolding state_in state_text
state_spelled =
    let n32 = number_in_spelled w32 (2 ^ 32) wide32 in
    let n64 = number_in_spelled w64 (2 ^ 64) wide64 in
    let saved = then saved_spelled (all_read parts_of state_of (λ _. refl) (λ _. refl)) in
    let parts = first hierarchies_spelled
    (then yes_no_spelled
    (then lockout_spelled (then n64 (then n32 (then n32 (then n64 saved)))))) in
    respelled parts
    (λ s. eight_texts (hierarchies_text s.hierarchies) (yes_no_text s.disable_clear)
    (lockout_text s.lockout) (to_be_bytes w64 s.clock) (to_be_bytes w32 s.reset_count)
    (to_be_bytes w32 s.restart_count) (to_be_bytes w64 s.max_count) (saved_text s.saved))
    (λ s is.
    let numbers = is.1.1.1 in
    let state : IsKeptState s =
    record {
      hierarchies = is.0;
      lockout = is.1.1.0;
      clock = numbers.0;
      reset_count =
          numbers.1.0;
      restart_count = numbers.1.1.0;
      saved = numbers.1.1.1.1.0;
    } in
    (state, numbers.1.1.1.0))
    (λ s has. let is =
    has.0 in (
      is.hierarchies,
      (
        tt,
        (
          is.lockout,
          (is.clock, (is.reset_count, (is.restart_count, (has.1, (is.saved, tt))))),
        ),
      ),
    ))

-- ---- the largest size of the encoded fixed part

length-values : (size : ℕ) (values : List (List ℕ))
    → AllByRecursion (λ value. length value ≡ size) values
    → length (values_text_of values) ≡ length values * size
length-values size [] each = omega arith
length-values size (value ∷ values) each =
    rw (length-append value (values_text_of values), each.0, length-values size values each.1)
    (grind arith)

length-bank : (size : ℕ) (values : List (List ℕ)) → IsSavedBank size values
    → length (values_text_of values) ≡ 16 * size
length-bank size values is =
    rw (
      length-values size values (recursion_from_All (λ value. length value ≡ size) values is.1),
      is.0,
    ) refl

pub saved_small : (saved : SavedState) → IsSavedState saved → length (saved_text saved) ≤ 833
unfolding saved_text
saved_small Nothing is = omega arith
saved_small Clear is = omega arith
saved_small (State values) is =
    omega (
      arith,
      length-bank 20 values.sha1 is.sha1,
      length-bank 32 values.sha256 is.sha256,
      length-append (values_text_of values.sha1) (values_text_of values.sha256),
      length-append (to_be_bytes w8 2) (values_text values),
    )

pub state_small : (s : KeptState) → IsKeptState s → length (state_text s) ≤ state_size
unfolding state_text
state_small s is =
    let two = hierarchies_text s.hierarchies ++ yes_no_text s.disable_clear in
    let three = two ++ lockout_text s.lockout in
    let four = three ++ to_be_bytes w64 s.clock in
    let five = four ++ to_be_bytes w32 s.reset_count in
    let six = five ++ to_be_bytes w32 s.restart_count in
    let seven = six ++ to_be_bytes w64 s.max_count in
    omega (
      arith,
      hierarchies_small s.hierarchies is.hierarchies,
      length-lockout_text s.lockout,
      saved_small s.saved is.saved,
      length-append (hierarchies_text s.hierarchies) (yes_no_text s.disable_clear),
      length-append two (lockout_text s.lockout),
      length-append three (to_be_bytes w64 s.clock),
      length-append four (to_be_bytes w32 s.reset_count),
      length-append five (to_be_bytes w32 s.restart_count),
      length-append six (to_be_bytes w64 s.max_count),
      length-append seven (saved_text s.saved),
    )
