-- Clearing the slots one after another removes exactly the objects that TPM2_Clear removes.
use Rattle.std.proofs.Common.{◌≡◌, ℕ, zero, suc, ◌≤◌, Bool, true, false, cond, eqb, List, [], ◌∷◌, ◌++◌, length, take, drop, Option, Some, None, refl, sym, ap, ◌∙◌, arith}
use Rattle.std.specs.Prelude.{IfSome, map, option_and_then, slice_set}
use Rattle.std.proofs.lemmas.List.Sums.{sum_by-cons}
use Rattle.tpm_object.specs.Object.{transient_byte}
use Rattle.tpm_object.specs.declared.object.Object.{Object}
use Rattle.tpm_containers.specs.Numbered.{at_number, if_of_kind, kind_of, place_of}
use Rattle.tpm_containers.specs.Slots.{at_place, taken_count}
use Rattle.tpm_containers.proofs.SlotLaws.{counted}
use Rattle.tpm_record.specs.Clear.{ClearingLaws, cleared_objects, cleared_place, is_cleared, is_place_cleared}

-- the slots after TPM2_Clear has processed the first `count` slots
abbrev pub cleared_up_to : ℕ → List (Option Object) → List (Option Object)
cleared_up_to count places = map cleared_place (take count places) ++ drop count places

first_cleared : (b : Bool) (p : Option Object) (ps : List (Option Object))
    → cond b (None ∷ ps) (p ∷ ps) ≡ cond b None p ∷ ps
first_cleared true p ps = refl
first_cleared false p ps = refl

rest_cleared : (b : Bool) (p : Option Object) (ps qs : List (Option Object))
    → cond b (p ∷ ps) (p ∷ qs) ≡ p ∷ cond b ps qs
rest_cleared true p ps qs = refl
rest_cleared false p ps qs = refl

-- One step of the loop: if slot i is processed after the first i slots, the first i + 1 slots have
-- been processed.
pub cleared_in_turn : (places : List (Option Object)) (i : ℕ)
    → cond (is_place_cleared (at_place (cleared_up_to i places) i))
    (slice_set (cleared_up_to i places) i None) (cleared_up_to i places)
    ≡ cleared_up_to (suc i) places
cleared_in_turn [] zero = refl
cleared_in_turn [] (suc i) = refl
cleared_in_turn (p ∷ ps) zero = first_cleared (is_place_cleared p) p ps
cleared_in_turn (p ∷ ps) (suc i) =
    rest_cleared (is_place_cleared (at_place (cleared_up_to i ps) i)) (cleared_place p)
    (slice_set (cleared_up_to i ps) i None) (cleared_up_to i ps)
    ∙ ap (λ (l : List (Option Object)). cleared_place p ∷ l) (cleared_in_turn ps i)

-- Clearing does not change the number of slots.
pub cleared_length : (i : ℕ) (places : List (Option Object))
    → length (cleared_up_to i places) ≡ length places
cleared_length zero [] = refl
cleared_length (suc i) [] = refl
cleared_length zero (p ∷ ps) = refl
cleared_length (suc i) (p ∷ ps) = ap suc (cleared_length i ps)

pub all_cleared : (places : List (Option Object)) (i : ℕ) → length places ≤ i
    → cleared_up_to i places ≡ map cleared_place places
all_cleared [] zero many = refl
all_cleared [] (suc i) many = refl
all_cleared (p ∷ ps) zero many = absurd (omega arith)
all_cleared (p ∷ ps) (suc i) many =
    ap (λ (l : List (Option Object)). cleared_place p ∷ l) (all_cleared ps i (omega arith))

-- ---- the objects after clearing

at_cleared : (places : List (Option Object)) (place : ℕ)
    → at_place (cleared_objects places) place ≡ cleared_place (at_place places place)
unfolding cleared_objects
at_cleared [] place = refl
at_cleared (p ∷ ps) zero = refl
at_cleared (p ∷ ps) (suc place) = at_cleared ps place

-- the object in a slot, if this number is the handle of a transient object
abbrev of_number : ℕ → Option Object → Option Object
of_number number cell = option_and_then (if_of_kind transient_byte number) cell

gone_from : (number : ℕ) (cell : Option Object) (o : Object) → of_number number cell ≡ Some o
    → is_cleared o.hierarchy ≡ true → of_number number (cleared_place cell) ≡ None
gone_from number None o there is = refl
gone_from number (Some x) o there is = by (eqb (kind_of number) (transient_byte x)) there
  where
    by : (b : Bool) → cond b (Some x) None ≡ Some o
        → of_number number (cond (is_cleared x.hierarchy) None (Some x)) ≡ None
    by true found =
        let same : x ≡ o = cc in
        let goes : is_cleared x.hierarchy ≡ true =
        ap (λ (y : Object). is_cleared y.hierarchy) same ∙ is in
        rw goes refl
    by false found = absurd cc

stays_in : (number : ℕ) (cell : Option Object) (o : Object) → of_number number cell ≡ Some o
    → is_cleared o.hierarchy ≡ false → of_number number (cleared_place cell) ≡ Some o
stays_in number None o there is = absurd cc
stays_in number (Some x) o there is = by (is_cleared x.hierarchy) refl
  where
    found : (b : Bool) → cond b (Some x) None ≡ Some o → x ≡ o
    found true e = cc
    found false e = absurd cc

    by : (b : Bool) → is_cleared x.hierarchy ≡ b → of_number number (cond b None (Some x)) ≡ Some o
    by false e = there
    by true e =
        let goes = ap (λ (y : Object). is_cleared y.hierarchy)
        (found (eqb (kind_of number) (transient_byte x)) there) in
        let never : true ≡ false = sym e ∙ goes ∙ is in
        absurd cc

absent_in : (number : ℕ) (cell : Option Object) → of_number number cell ≡ None
    → of_number number (cleared_place cell) ≡ None
absent_in number None none = refl
absent_in number (Some x) none = by (is_cleared x.hierarchy)
  where
    by : (b : Bool) → of_number number (cond b None (Some x)) ≡ None
    by true = refl
    by false = none

-- ---- the number of objects

one_cleared : (cell : Option Object) → counted (cleared_place cell) ≤ counted cell
one_cleared None = omega arith
one_cleared (Some x) = by (is_cleared x.hierarchy)
  where
    by : (b : Bool) → counted (cond b None (Some x)) ≤ 1
    by true = omega arith
    by false = omega arith

pub cleared_few : (places : List (Option Object))
    → taken_count (cleared_objects places) ≤ taken_count places
unfolding cleared_objects
cleared_few [] = omega arith
cleared_few (p ∷ ps) =
    let new = sum_by-cons counted (cleared_place p) (map cleared_place ps) in
    let old = sum_by-cons counted p ps in
    omega (arith, new, old, one_cleared p, cleared_few ps)

-- Clearing keeps the properties of each object that it does not remove.
kept_in : (Is : Object → Type 0) (cell : Option Object) → IfSome cell Is
    → IfSome (cleared_place cell) Is
kept_in Is None is = tt
kept_in Is (Some x) is = by (is_cleared x.hierarchy)
  where
    by : (b : Bool) → IfSome (cond b None (Some x)) Is
    by true = tt
    by false = is

pub are_cleared : ClearingLaws
unfolding at_number
are_cleared = record {
  gone = λ places number o there is. ap (of_number number) (at_cleared places (place_of number))
      ∙ gone_from number (at_place places (place_of number)) o there is;
  stays = λ places number o there is. ap (of_number number) (at_cleared places (place_of number))
      ∙ stays_in number (at_place places (place_of number)) o there is;
  absent = λ places number none. ap (of_number number) (at_cleared places (place_of number))
      ∙ absent_in number (at_place places (place_of number)) none;
  few = cleared_few;
}
