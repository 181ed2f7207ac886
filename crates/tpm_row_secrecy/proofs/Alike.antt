-- If two rows look the same at each step, their results look the same.
use Rattle.std.proofs.Common.{ap, refl, subst, sym, ◌∙◌}
use Rattle.std.proofs.lemmas.Bool.{false≢true}
use Rattle.std.specs.Prelude.{Bool, Err, None, Ok, Option, Result, Some, false, is_ok, ok_or, option_map, true, ◌&&◌, ◌≡◌}
use Rattle.tpm_bytes.specs.Reading.{or_fault, ◌>>=◌}
use Rattle.tpm_containers.specs.Slots.{free}
use Rattle.tpm_record.specs.rows.Refusals.{or_refusal}
use Rattle.tpm_types_common.specs.declared.refused.Refused.{Refused}
use Rattle.tpm_row_secrecy.specs.Alike.{Alike, outcome}

pub alike_end : {A B E : Type 0} (see : A → B) (a b : A) → see a ≡ see b
    → Alike {E = E} see (Ok a) (Ok b)
alike_end {B = B} {E = E} see a b same =
    record { is = ap (λ (x : B). let r : Result B E = Ok x in r) same }

pub alike_same : {A B E : Type 0} (see : A → B) (x : Result A E) → Alike see x x
alike_same see x = record { is = refl }

pub alike_err : {A B E : Type 0} (see : A → B) (e : E) → Alike see (Err e) (Err e)
alike_err see e = record { is = refl }

-- ---- comparing two rows after a step

pub alike_step : {A B C E : Type 0} (see : B → C) (x : Result A E) (f g : A → Result B E)
    → ((a : A) → Alike see (f a) (g a)) → Alike see (x >>= f) (x >>= g)
alike_step see (Ok a) f g more = more a
alike_step see (Err e) f g more = record { is = refl }

-- Two rows that begin with the same step look the same if the remaining steps look the same for
-- every value that the first step can return.
pub alike_step_is : {A B C E : Type 0} (see : B → C) (x : Result A E) (f g : A → Result B E)
    → ((a : A) → x ≡ Ok a → Alike see (f a) (g a)) → Alike see (x >>= f) (x >>= g)
alike_step_is see (Ok a) f g more = more a refl
alike_step_is see (Err e) f g more = record { is = refl }

-- Two rows whose first steps are equal look the same if the remaining steps look the same for every
-- value of the first step.
pub alike_both : {A B C E : Type 0} (see : B → C) (x y : Result A E) (f g : A → Result B E) → x ≡ y
    → ((a : A) → Alike see (f a) (g a)) → Alike see (x >>= f) (y >>= g)
alike_both see x y f g same more =
    subst (λ (z : Result _ _). Alike see (z >>= f) (y >>= g)) (sym same) (alike_step see y f g more)

-- Suppose that the first steps of two rows look the same. The rows look the same if, for any two
-- values that look the same, the remaining steps look the same.
pub alike_after : {A B C D E : Type 0} (first : A → B) (see : C → D) (x y : Result A E)
    (f g : A → Result C E) → Alike first x y
    → ((a b : A) → first a ≡ first b → Alike see (f a) (g b)) → Alike see (x >>= f) (y >>= g)
alike_after {B = B} {E = E} first see (Ok a) (Ok b) f g alike more = more a b (ap seen alike.is)
  where
    seen : Result B E → B
    seen (Ok c) = c
    seen (Err e) = first a
alike_after first see (Ok a) (Err e) f g alike more = let never = alike.is in absurd cc
alike_after first see (Err e) (Ok b) f g alike more = let never = alike.is in absurd cc
alike_after {B = B} {E = E} first see (Err e) (Err h) f g alike more =
    subst (λ (k : E). Alike {E = E} see (Err e) (Err k)) (ap fault alike.is) (alike_err see e)
  where
    fault : Result B E → E
    fault (Ok c) = e
    fault (Err k) = k

-- Suppose that two rows look up a value, and that both find one or neither does. The rows look the
-- same if the remaining steps look the same for the two values that are found.
pub alike_found : {X A B E : Type 0} (see : A → B) (change : X → X) (one other : Option X) (e : E)
    (f g : X → Result A E) → one ≡ option_map change other
    → ((x : X) → other ≡ Some x → Alike see (f (change x)) (g x))
    → Alike see (ok_or one e >>= f) (ok_or other e >>= g)
alike_found {X = X} see change one other e f g same more =
    subst (λ (found : Option X). Alike see (ok_or found e >>= f) (ok_or other e >>= g)) (sym same)
    (by other refl)
  where
    by : (found : Option X) → other ≡ found
        → Alike see (ok_or (option_map change found) e >>= f) (ok_or found e >>= g)
    by None is = record { is = refl }
    by (Some x) is = more x is

-- ---- refusals

refused_outcome : {A B F : Type 0} (see : A → B) (refusal : F → Refused) (x : Result A F)
    → outcome see (or_refusal refusal x) ≡ or_refusal refusal (outcome see x)
refused_outcome see refusal (Ok a) = refl
refused_outcome see refusal (Err e) = refl

pub alike_refusal : {A B F : Type 0} (see : A → B) (refusal : F → Refused) (x y : Result A F)
    → Alike see x y → Alike see (or_refusal refusal x) (or_refusal refusal y)
alike_refusal see refusal x y alike =
    record {
      is = refused_outcome see refusal x ∙ ap (or_refusal refusal) alike.is
          ∙ sym (refused_outcome see refusal y);
    }

fault_outcome : {A B F : Type 0} (see : A → B) (refused : Refused) (x : Result A F)
    → outcome see (or_fault x refused) ≡ or_fault (outcome see x) refused
fault_outcome see refused (Ok a) = refl
fault_outcome see refused (Err e) = refl

pub alike_fault : {A B F : Type 0} (see : A → B) (refused : Refused) (x y : Result A F)
    → Alike see x y → Alike see (or_fault x refused) (or_fault y refused)
alike_fault {B = B} {F = F} see refused x y alike =
    record {
      is = fault_outcome see refused x ∙ ap (λ (z : Result B F). or_fault z refused) alike.is
          ∙ sym (fault_outcome see refused y);
    }

-- ---- comparing only whether rows succeed

-- the visible part of a success, if only the fact that the row succeeded is visible
abbrev pub success : {A : Type 0} → A → Unit {0}
success a = tt

pub both_succeed : {A E : Type 0} (x y : Result A E) → Alike success x y → is_ok x ≡ is_ok y
both_succeed {A = A} {E = E} x y alike = sym (unseen x) ∙ ap is_ok alike.is ∙ unseen y
  where
    unseen : (z : Result A E) → is_ok (outcome success z) ≡ is_ok z
    unseen (Ok a) = refl
    unseen (Err e) = refl

-- Suppose that two results look the same when only success is visible, and that the second result
-- is a refusal. Then they look the same no matter which part of a success is visible.
pub refused_alike : {A B E : Type 0} (see : A → B) (x y : Result A E) → Alike success x y
    → is_ok y ≡ false → Alike see x y
refused_alike see (Ok a) (Ok b) alike refused = absurd (false≢true (sym refused))
refused_alike see (Ok a) (Err e) alike refused = let never = alike.is in absurd cc
refused_alike see (Err e) (Ok b) alike refused = let never = alike.is in absurd cc
refused_alike {E = E} see (Err e) (Err h) alike refused =
    subst (λ (k : E). Alike {E = E} see (Err e) (Err k)) (ap fault alike.is) (alike_err see e)
  where
    fault : Result (Unit {0}) E → E
    fault (Ok c) = e
    fault (Err k) = k

-- If the conjunction of two conditions is false, at least one of the conditions is false. For
-- example, if a command reads no secret, it names no secret object or is refused.
pub either_free : {P : Type 0} (a b : Bool) → (a && b) ≡ false → (a ≡ false → P) → (b ≡ false → P)
    → P
either_free false b free unread refused = unread refl
either_free true b free unread refused = refused free

-- If two rows with nested steps look the same, so do the rows with the same steps in sequence.
pub alike_nested : {A B C D E : Type 0} (see : C → D) (x y : Result A E) (f g : A → Result B E)
    (h k : B → Result C E) → Alike see (x >>= λ a. f a >>= h) (y >>= λ a. g a >>= k)
    → Alike see ((x >>= f) >>= h) ((y >>= g) >>= k)
alike_nested see (Ok a) (Ok b) f g h k alike = alike
alike_nested see (Ok a) (Err e) f g h k alike = alike
alike_nested see (Err e) (Ok b) f g h k alike = alike
alike_nested see (Err e) (Err d) f g h k alike = alike
