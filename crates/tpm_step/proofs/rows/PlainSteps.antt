-- Steps of a row whose refusals neither count as failed tries nor disable lockoutAuth.
use Rattle.std.proofs.Common.{◌∷◌, Err, List, Ok, Result, [], refl, rules, ℕ}
use Rattle.tpm_types_common.specs.declared.action_fault.ActionFault.{ActionFault}
use Rattle.tpm_types_common.specs.declared.handle.Handle.{Handle}
use Rattle.tpm_types_common.specs.declared.rc.Rc.{Rc}
use Rattle.tpm_record.specs.rows.Refusals.{fault_refusal, or_refusal}
use Rattle.tpm_record.specs.rows.Request.{first_handle, second_handle, third_handle}
use Rattle.tpm_record.specs.rows.Rows.{parameter}
use Rattle.tpm_step.specs.rows.Order.{Plain}
use Rattle.tpm_step.proofs.rows.Binding.{err_bind, err_fault, err_if, err_or}

pub plain_parameter : {X : Type 0} (n : ℕ) (x : Result X Rc) → Plain (parameter n x)
plain_parameter n (Ok x) = tt
plain_parameter n (Err rc) = refl

pub plain_first : (handles : List Handle) → Plain (first_handle handles)
plain_first [] = refl
plain_first (h ∷ hs) = tt

pub plain_second : (handles : List Handle) → Plain (second_handle handles)
plain_second [] = refl
plain_second (h ∷ []) = refl
plain_second (h ∷ k ∷ hs) = tt

pub plain_third : (handles : List Handle) → Plain (third_handle handles)
plain_third [] = refl
plain_third (h ∷ []) = refl
plain_third (h ∷ k ∷ []) = refl
plain_third (h ∷ k ∷ l ∷ hs) = tt

pub plain_own : {X : Type 0} (x : Result X ActionFault) → Plain (or_refusal fault_refusal x)
plain_own (Ok x) = tt
plain_own (Err fault) = refl

pub ruleset plain_steps = (
  rules,
  err_bind,
  err_if,
  err_or,
  err_fault,
  plain_parameter,
  plain_first,
  plain_second,
  plain_third,
  plain_own,
)
