-- The authorization values in command parameters do not end in a zero byte, and the handles in
-- command parameters have the right types.
use Rattle.std.proofs.Common.{rules, ◌≡◌, true, List, ℕ, length, ◌==◌, not, Result, Ok, Err, IfOk}
use Rattle.tpm_bytes.specs.Reading.{◌>>=◌, refused_if}
use Rattle.tpm_types_common.proofs.Trimming.{trimmed_twice}
use Rattle.tpm_types_common.specs.AuthValue.{auth_value_at, trimmed}
use Rattle.tpm_types_common.specs.Buffer.{buffer_at}
use Rattle.tpm_types_common.specs.Handle.{is_nv_index, is_persistent}
use Rattle.tpm_types_common.specs.PersistentHandle.{persistent_handle_at}
use Rattle.tpm_types_common.specs.Rc.{plain}
use Rattle.tpm_types_common.specs.declared.rc.Rc.{Rc}
use Rattle.tpm_types_common.specs.declared.rc.ResponseCode.TheVariants as code
use Rattle.tpm_types_common.specs.declared.refused.Refused.{Refused}
use Rattle.tpm_types_nv.specs.NvPublic.{nv_index_at, nv_public_at}
use Rattle.tpm_types_nv.specs.declared.nv_public.NvPublic.{NvPublic}
use Rattle.tpm_types_common.specs.Filled.{filled_by, or_size}
use Rattle.tpm_record.specs.rows.Rows.{all_read, only, parameter}
use Rattle.tpm_nvactions.specs.NvDefineSpace as definition
use Rattle.tpm_step.proofs.rows.Binding.{asked, ok_bind, ok_bind_is, ok_then}

-- ---- steps after a parameter was parsed

pub parameter_then : {X B : Type 0} (P : X → Type 0) (Q : B → Type 0) (n : ℕ) (x : Result X Rc)
    (f : X → Result B Refused) → IfOk x P → ((a : X) → P a → IfOk (f a) Q)
    → IfOk (parameter n x >>= f) Q
parameter_then P Q n (Ok a) f holds next = next a holds
parameter_then P Q n (Err rc) f holds next = tt

only_holds : {X : Type 0} (P : X → Type 0) (x : Result (X × List ℕ) Rc) → IfOk x (λ p. P p.0)
    → IfOk (only x) P
only_holds P x holds = parameter_then (λ p. P p.0) P 1 x _ holds
    (λ p is. ok_bind P (all_read p.1) _ (λ ended. is))

size_holds : {X : Type 0} (P : X → Type 0) (x : Result X Rc) → IfOk x P → IfOk (or_size x) P
size_holds P (Ok x) holds = holds
size_holds P (Err rc) holds = tt

filled_holds : {X : Type 0} (P : X → Type 0) (read : List ℕ → Result (X × List ℕ) Rc)
    (text : List ℕ) → ((front : List ℕ) → IfOk (read front) (λ x. P x.0))
    → IfOk (filled_by read text) (λ x. P x.0)
unfolding filled_by
filled_holds P read text holds =
    ok_bind _ (buffer_at 0xffff text) _ (λ buffer.
    ok_then (λ x. P x.0) _ (or_size (read buffer.0)) _
    (size_holds (λ x. P x.0) (read buffer.0) (holds buffer.0)) (λ content is.
    ok_bind _ (refused_if (not (length content.1 == 0)) (plain code.Size)) _ (λ whole. is)))

-- ---- authorization values

-- This value does not end in a zero byte.
abbrev pub IsTrimmed : List ℕ → Type 0
IsTrimmed value = trimmed value ≡ value

value_trimmed : (text : List ℕ) → IfOk (auth_value_at text) (λ x. IsTrimmed x.0)
unfolding auth_value_at
value_trimmed text = search (rules, ok_bind, trimmed_twice)

pub only_trimmed : (text : List ℕ) → IfOk (only (auth_value_at text)) IsTrimmed
only_trimmed text = only_holds IsTrimmed (auth_value_at text) (value_trimmed text)

-- ---- types of handles

index_named : (text : List ℕ) → IfOk (nv_index_at text) (λ x. is_nv_index x.0 ≡ true)
unfolding nv_index_at
index_named text = search (rules, ok_bind, ok_bind_is, asked)

abbrev NamesIndex : NvPublic → Type 0
NamesIndex public = is_nv_index public.nv_index ≡ true

public_named : (text : List ℕ) → IfOk (nv_public_at text) (λ x. NamesIndex x.0)
unfolding nv_public_at
public_named text =
    ok_then (λ x. is_nv_index x.0 ≡ true) _ (nv_index_at text) _ (index_named text)
    (λ handle named. search (rules, ok_bind))

pub wanted_named : (text : List ℕ)
    → IfOk (only (persistent_handle_at text)) (λ handle. is_persistent handle ≡ true)
unfolding persistent_handle_at
wanted_named text = search (rules, only_holds, ok_bind, ok_bind_is, asked)

-- In the parameters of TPM2_NV_DefineSpace, the authorization value does not end in a zero byte,
-- and the handle has the type of an NV index.
pub record IsDefinition (p : definition.Parameters) : Type 0 where
  pub value : IsTrimmed p.auth_value
  pub named : is_nv_index p.public.nv_index ≡ true

pub definition_read : (text : List ℕ) → IfOk (definition.parameters_in text) IsDefinition
unfolding definition.parameters_in
definition_read text =
    parameter_then (λ x. IsTrimmed x.0) _ 1 (auth_value_at text) _ (value_trimmed text)
    (λ auth_value value.
    parameter_then (λ x. NamesIndex x.0) _ 2 (filled_by nv_public_at auth_value.1) _
    (filled_holds NamesIndex nv_public_at auth_value.1 public_named) (λ public named.
    ok_bind _ (all_read public.1) _ (λ ended. record { value = value; named = named })))
