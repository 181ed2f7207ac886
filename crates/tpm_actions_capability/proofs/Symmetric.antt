-- On a device of the symmetric profile, the row of TPM2_GetCapability is the symmetric row.
use Rattle.tpm_types_common.specs.declared.action_check.ActionCheck.TheVariants as action
use Rattle.std.proofs.Common.{◌≡◌, ◌==◌, ◌/◌, ◌^◌, Bool, true, false, List, ℕ, Result, Ok, Err, refl, ap, ◌∙◌}
use Rattle.std.specs.Prelude.{if◌then◌else◌}
use Rattle.tpm_bytes.specs.Reading.{◌>>=◌}
use Rattle.tpm_commands.specs.declared.profile.Profile.{Profile}
use Rattle.tpm_commands.specs.declared.profile.Profile.TheVariants.{Symmetric}
use Rattle.tpm_record.specs.Record.{Record}
use Rattle.tpm_record.specs.rows.Answer.{Plain, answer_of}
use Rattle.tpm_record.specs.rows.Refusals.{parameter_refusal}
use Rattle.tpm_record.specs.rows.Rows.{unchanged_success}
use Rattle.tpm_types_common.specs.declared.rc.ResponseCode.TheVariants as code
use Rattle.tpm_types_common.specs.declared.refused.Refused.{Refused}
use Rattle.tpm_actions_capability.specs.Element.{listing}
use Rattle.tpm_actions_capability.specs.Elements.{command_elements}
use Rattle.tpm_actions_capability.specs.GetCapability.{capability_of, capability_parameters, first_handle_of, get_capability_row, handle_elements, pcrs_text, told_of}
use Rattle.tpm_actions_capability.specs.Properties.{property_elements}
use Rattle.tpm_actions_capability.specs.Symmetric.{IsSymmetricRow, symmetric_get_capability_row, symmetric_told_of}
use Rattle.tpm_actions_capability.specs.declared.element.Telling.TheVariants as tell
use Rattle.tpm_actions_capability.specs.declared.get_capability.Capability.TheVariants as capability
use Rattle.tpm_actions_capability.specs.declared.get_capability.CapabilityParameters.{CapabilityParameters}

then_same : {X Y : Type 0} (x : Result X Refused) (f g : X → Result Y Refused)
    → ((v : X) → f v ≡ g v) → (x >>= f) ≡ (x >>= g)
then_same (Ok v) f g same = same v
then_same (Err e) f g same = refl

then_then : {X Y Z : Type 0} (x : Result X Refused) (f : X → Result Y Refused)
    (g : Y → Result Z Refused) → (x >>= λ v. f v >>= g) ≡ ((x >>= f) >>= g)
then_then (Ok v) f g = refl
then_then (Err e) f g = refl

abbrev refused : {X : Type 0} → Result X Refused
refused = Err (parameter_refusal action.First 1 code.Value)

module _ (r : Record) (is : r.fixed.profile ≡ Symmetric) (p : CapabilityParameters) where
  abbrev handles : Result (List ℕ) Refused
  handles = handle_elements r (p.property / 2 ^ 24) >>= λ elements.
      Ok (listing tell.Value 1 (first_handle_of p.property) p.count elements)

  abbrev commands : Profile → Result (List ℕ) Refused
  commands served = Ok (listing tell.Value 2 p.property p.count (command_elements served))

  abbrev properties : Profile → Result (List ℕ) Refused
  properties served =
      Ok (listing tell.NumberAndValue 6 p.property p.count (property_elements served r))

  -- the list of the capability that the first true condition selects
  chosen : (one two five six : Bool)
      → ((if one then Ok capability.Handles else (if two then Ok capability.Commands
      else (if five then Ok capability.Pcrs else (if six then Ok capability.Properties
      else refused)))) >>= told_of r p)
      ≡ (if one then handles else (if two then commands Symmetric
      else (if five then Ok pcrs_text else (if six then properties Symmetric else refused))))
  chosen true two five six = refl
  chosen false true five six = ap commands is
  chosen false false true six = refl
  chosen false false false true = ap properties is
  chosen false false false false = refl

  told_so : (capability_of r.fixed.profile p.capability >>= told_of r p) ≡ symmetric_told_of r p
  told_so =
      ap (λ (served : Profile). capability_of served p.capability >>= told_of r p) is
      ∙ chosen (p.capability == 1) (p.capability == 2) (p.capability == 5) (p.capability == 6)

pub is_symmetric_row : IsSymmetricRow
unfolding get_capability_row symmetric_get_capability_row
is_symmetric_row r q is =
    then_same (capability_parameters q.parameters) _ _ (λ p.
    then_then (capability_of r.fixed.profile p.capability) (told_of r p) _
    ∙ ap (λ (x : Result (List ℕ) Refused). x
    >>= λ text. Ok (unchanged_success r (answer_of (Plain text)))) (told_so r is p))
