-- The handle of a slot with a sequence object names this slot, and no other handle does.
use Rattle.std.proofs.Common.{arith, ◌≡◌, ℕ, zero, suc, ◌+◌, ◌-◌, ◌/◌, ◌%◌, ◌^◌, ◌<◌, ◌≤◌, ◌&&◌, Bool, true, false, eqb-true, not, List, length, Option, Some, None, refl, ap, subst, ◌∙◌, inl, inr, ltb-false}
use Rattle.std.specs.Prelude.{nat_lt, is_none, is_some, IfSome, option_and_then, if◌then◌else◌}
use Rattle.std.proofs.lemmas.Bool.{cases_lt}
use Rattle.std.proofs.lemmas.List.{get_or_past}
use Rattle.tpm_containers.specs.Numbered.{number_of, place_of}
use Rattle.tpm_sequence.specs.declared.object.SequenceObject.{SequenceObject}
use Rattle.tpm_types_common.specs.Handle.{is_transient, numbered_handle}
use Rattle.tpm_types_common.specs.Limits.{object_limit}
use Rattle.tpm_types_common.specs.declared.handle.Handle.{Handle}
use Rattle.tpm_completion.specs.Sequences.{free_slot, in_slot, is_after_objects, sequence_handle, sequence_limit, sequence_of, slot_of}
use Rattle.tpm_completion.specs.declared.completion.Completion.{Completion}
use Rattle.tpm_completion_laws.specs.Sequences.{IsNamedOnce, SlotIsNamed}

-- ---- tests

if_some : {X : Type 0} (b : Bool) (x y : X) → (if b then Some x else None) ≡ Some y
    → (b ≡ true) × (x ≡ y)
if_some true x y e = (refl, cc)
if_some false x y e = absurd cc

both_true : (a b : Bool) → (a && b) ≡ true → (a ≡ true) × (b ≡ true)
both_true true b e = (refl, e)
both_true false b e = absurd cc

not_true : (b : Bool) → not b ≡ true → b ≡ false
not_true true e = absurd cc
not_true false e = refl

-- ---- the handle of a slot

-- the slot that the handle of a slot names, if the slot has a sequence object
named_if : (c : Completion) (slot : ℕ) → slot < sequence_limit
    → slot_of c (sequence_handle slot) ≡ (if is_some (in_slot c slot) then Some slot else None)
unfolding slot_of
named_if c zero less = refl
named_if c (suc zero) less = refl
named_if c (suc (suc zero)) less = refl
named_if c (suc (suc (suc slot))) less = absurd (omega (arith, less))

named_slot : (c : Completion) (slot : ℕ) (object : SequenceObject) → slot < sequence_limit
    → in_slot c slot ≡ Some object → slot_of c (sequence_handle slot) ≡ Some slot
named_slot c slot object less there = named_if c slot less
    ∙ ap (λ (o : Option SequenceObject). if is_some o then Some slot else None) there

pub named_object : (c : Completion) (slot : ℕ) (object : SequenceObject) → slot < sequence_limit
    → in_slot c slot ≡ Some object → sequence_of c (sequence_handle slot) ≡ Some object
named_object c slot object less there =
    ap (option_and_then (in_slot c)) (named_slot c slot object less there) ∙ there

pub named_none : (c : Completion) (slot : ℕ) → slot < sequence_limit → in_slot c slot ≡ None
    → sequence_of c (sequence_handle slot) ≡ None
named_none c slot less free =
    ap (option_and_then (in_slot c))
    (named_if c slot less
    ∙ ap (λ (o : Option SequenceObject). if is_some o then Some slot else None) free)

pub slot_is_named : SlotIsNamed
slot_is_named c slot object less there =
    (named_slot c slot object less there, named_object c slot object less there)

-- ---- a handle that names a slot

-- A handle names a slot: it is the handle of a transient object after those of the device, at the
-- distance of the slot, and the slot has a sequence object.
record NamesSlot (c : Completion) (handle : Handle) (slot : ℕ) : Type 0 where
  transient : is_transient handle ≡ true
  after : object_limit ≤ place_of handle.number
  place : place_of handle.number - object_limit ≡ slot
  taken : is_some (in_slot c slot) ≡ true

names_slot : (c : Completion) (handle : Handle) (slot : ℕ) → slot_of c handle ≡ Some slot
    → NamesSlot c handle slot
unfolding slot_of
names_slot c handle slot e =
    let at : ℕ = place_of handle.number - object_limit in
    let found = if_some (is_after_objects handle && is_some (in_slot c at)) at slot e in
    let both = both_true (is_after_objects handle) (is_some (in_slot c at)) found.0 in
    let after = both_true (is_transient handle) (not (nat_lt (place_of handle.number) object_limit))
    both.0 in
    record {
      transient = after.0;
      after = ltb-false _ _ (not_true (nat_lt (place_of handle.number) object_limit) after.1);
      place = found.1;
      taken = subst (λ (n : ℕ). is_some (in_slot c n) ≡ true) found.1 both.1;
    }

-- the handle of a transient object is determined by its distance from those of the device
handle_number : (n slot : ℕ) → n / 2 ^ 24 ≡ 0x80 → object_limit ≤ n % 2 ^ 24
    → n % 2 ^ 24 - object_limit ≡ slot → n ≡ number_of 0x80 (object_limit + slot)
handle_number n slot byte after place = omega arith

-- a slot with a sequence object is one of the layer's slots
inside : (c : Completion) (slot : ℕ) → is_some (in_slot c slot) ≡ true → slot < length c.sequences
inside c slot taken =
    elim (cases_lt slot (length c.sequences)) [
      | inl lt ↦ lt
      | inr le ↦ absurd (none_taken (in_slot c slot) (get_or_past c.sequences slot None le) taken)
    ]
  where
    none_taken : (o : Option SequenceObject) → o ≡ None → is_some o ≡ true → ⊥
    none_taken (Some object) none taken = cc
    none_taken None none taken = cc

pub is_named_once : IsNamedOnce
is_named_once c handle slot whole e =
    let names = names_slot c handle slot e in
    let within = inside c slot names.taken in (
      ap numbered_handle
          (handle_number handle.number slot (eqb-true (handle.number / 2 ^ 24) 0x80 names.transient)
          names.after names.place),
      subst (λ (n : ℕ). slot < n) whole within,
    )

-- a handle that names a sequence object has the type of a transient object
pub sequence_transient : (c : Completion) (handle : Handle) (object : SequenceObject)
    → sequence_of c handle ≡ Some object → is_transient handle ≡ true
sequence_transient c handle object is = by (slot_of c handle) refl is
  where
    by : (slot : Option ℕ) → slot_of c handle ≡ slot
        → option_and_then (in_slot c) slot ≡ Some object → is_transient handle ≡ true
    by (Some slot) e there = (names_slot c handle slot e).transient
    by None e there = absurd cc

-- ---- layers with the same sequence objects

pub same_named : (c d : Completion) (handle : Handle) → c.sequences ≡ d.sequences
    → sequence_of c handle ≡ sequence_of d handle
unfolding slot_of
same_named c d handle same =
    ap (λ (s : List (Option SequenceObject)). sequence_of (record c { sequences = s }) handle) same

pub same_free : (c d : Completion) → c.sequences ≡ d.sequences → free_slot c ≡ free_slot d
unfolding free_slot
same_free c d same =
    ap (λ (s : List (Option SequenceObject)). free_slot (record c { sequences = s })) same

-- ---- the lowest free slot

pub free_is : (c : Completion)
    → IfSome (free_slot c) (λ slot. (slot < sequence_limit) × (in_slot c slot ≡ None))
unfolding free_slot
free_is c = by (in_slot c 0) refl (in_slot c 1) refl (in_slot c 2) refl
  where
    by : (x : Option SequenceObject) → in_slot c 0 ≡ x → (y : Option SequenceObject)
        → in_slot c 1 ≡ y → (z : Option SequenceObject) → in_slot c 2 ≡ z
        → IfSome (if is_none x then Some 0
        else (if is_none y then Some 1 else (if is_none z then Some 2 else None)))
        (λ slot. (slot < sequence_limit) × (in_slot c slot ≡ None))
    by None e y f z g = (omega arith, e)
    by (Some one) e None f z g = (omega arith, f)
    by (Some one) e (Some two) f None g = (omega arith, g)
    by (Some one) e (Some two) f (Some three) g = tt
