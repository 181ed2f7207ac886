-- Steps of a row that refuse by the command's own checks only as a list says.
use Rattle.std.specs.Prelude.{if◌then◌else◌}
use Rattle.std.proofs.Common.{◌∷◌, ◌⊎◌, Bool, Err, IfErr, List, Ok, Result, [], false, inl, inr, rules, true, ℕ}
use Rattle.tpm_bytes.specs.Reading.{◌>>=◌}
use Rattle.tpm_types_common.specs.declared.handle.Handle.{Handle}
use Rattle.tpm_types_common.specs.declared.rc.Rc.{Rc}
use Rattle.tpm_types_common.specs.declared.refused.Refused.{Refused}
use Rattle.tpm_record.specs.rows.Refusals.{or_refusal}
use Rattle.tpm_record.specs.rows.Request.{first_handle, second_handle, third_handle}
use Rattle.tpm_record.specs.rows.Rows.{only, parameter}
use Rattle.tpm_step.specs.rows.OwnRefusals.{IsListed}
use Rattle.tpm_step.proofs.rows.Binding.{err_bind, err_fault, err_if, err_or}

-- every refusal of `x >>= g >>= f` has a property, if every refusal of `x` has it, and every
-- refusal of the rest for each value of `x`
pub err_assoc : {A B C E : Type 0} (Q : E → Type 0) (x : Result A E) (g : A → Result B E)
    (f : B → Result C E) → IfErr x Q → ((a : A) → IfErr (g a >>= f) Q)
    → IfErr ((x >>= g) >>= f) Q
err_assoc Q (Ok a) g f k h = h a
err_assoc Q (Err e) g f k h = k

-- a refusal by `or_refusal` has every property that the refusals of all faults have
pub err_refusal : {X F : Type 0} (Q : Refused → Type 0) (refusal : F → Refused) (x : Result X F)
    → IfErr x (λ fault. Q (refusal fault)) → IfErr (or_refusal refusal x) Q
err_refusal Q refusal (Ok x) h = tt
err_refusal Q refusal (Err fault) h = h

-- a refusal of `if b then x else y` has a property, if every refusal of `x` and of `y` has it
pub err_either : {X E : Type 0} (Q : E → Type 0) (b : Bool) (x y : Result X E) → IfErr x Q
    → IfErr y Q → IfErr (if b then x else y) Q
err_either Q true x y h k = h
err_either Q false x y h k = k

pub own_parameter : {X : Type 0} (refusals : List Refused) (n : ℕ) (x : Result X Rc)
    → IfErr (parameter n x) (IsListed refusals)
own_parameter refusals n (Ok x) = tt
own_parameter refusals n (Err rc) = tt

pub own_first : (refusals : List Refused) (handles : List Handle)
    → IfErr (first_handle handles) (IsListed refusals)
own_first refusals [] = tt
own_first refusals (h ∷ hs) = tt

pub own_second : (refusals : List Refused) (handles : List Handle)
    → IfErr (second_handle handles) (IsListed refusals)
own_second refusals [] = tt
own_second refusals (h ∷ []) = tt
own_second refusals (h ∷ k ∷ hs) = tt

pub own_third : (refusals : List Refused) (handles : List Handle)
    → IfErr (third_handle handles) (IsListed refusals)
own_third refusals [] = tt
own_third refusals (h ∷ []) = tt
own_third refusals (h ∷ k ∷ []) = tt
own_third refusals (h ∷ k ∷ l ∷ hs) = tt

pub own_only : {X : Type 0} (refusals : List Refused) (read : Result (X × List ℕ) Rc)
    → IfErr (only read) (IsListed refusals)
own_only refusals (Ok p) = search (rules, err_bind, err_if)
own_only refusals (Err rc) = tt

-- a refusal is one of a list, if it is the first of the list or one of the others
pub is_here : {A B : Type 0} → A → A ⊎ B
is_here here = inl here

pub is_there : {A B : Type 0} → B → A ⊎ B
is_there there = inr there

pub ruleset own_steps = (
  rules,
  is_here,
  is_there,
  err_assoc,
  err_bind,
  err_if,
  err_either,
  err_or,
  err_fault,
  err_refusal,
  own_parameter,
  own_first,
  own_second,
  own_third,
)
