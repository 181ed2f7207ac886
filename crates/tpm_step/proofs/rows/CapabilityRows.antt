-- The row of TPM2_GetCapability satisfies the laws about rows.
use Rattle.std.specs.Prelude.{◌/◌}
use Rattle.std.proofs.Common.{◌^◌, arith, ℕ}
use Rattle.tpm_commands.specs.CommandCode.{shape_of}
use Rattle.tpm_commands.specs.declared.command_code.CommandCode.TheVariants as command
use Rattle.tpm_commands.specs.declared.profile.Profile.{Profile}
use Rattle.tpm_commands.specs.declared.profile.Profile.TheVariants.{Complete, Symmetric}
use Rattle.tpm_record.specs.Record.{Record}
use Rattle.tpm_actions_capability.specs.GetCapability.{capability_of, capability_parameters}
use Rattle.tpm_actions_capability.specs.GetCapability.{get_capability_row, handle_elements, told_of}
use Rattle.tpm_actions_capability.specs.declared.get_capability.Capability.{Capability}
use Rattle.tpm_actions_capability.specs.declared.get_capability.Capability.TheVariants as capability
use Rattle.tpm_actions_capability.specs.declared.get_capability.CapabilityParameters.{CapabilityParameters}
use Rattle.tpm_step.specs.rows.Order.{Late, Plain}
use Rattle.tpm_step.specs.rows.RowLaws.{RowLaws}
use Rattle.tpm_step.proofs.rows.Binding.{err_bind}
use Rattle.tpm_step.proofs.rows.Order.{ordered_steps}
use Rattle.tpm_step.proofs.rows.PlainSteps.{plain_steps}
use Rattle.tpm_step.proofs.rows.Successes.{in_place_steps}
use Rattle.tpm_row_secrecy.proofs.CapabilityRows as capability_secrets

late_capability : (Fit : Type 0) (profile : Profile) (number : ℕ)
    → Late Fit (capability_of profile number)
late_capability Fit Symmetric number = grind arith
late_capability Fit Complete number = grind arith

late_handles : (Fit : Type 0) (r : Record) (kind : ℕ) → Late Fit (handle_elements r kind)
late_handles Fit r kind = grind arith

late_told : (Fit : Type 0) (r : Record) (asked : CapabilityParameters) (c : Capability)
    → Late Fit (told_of r asked c)
late_told Fit r asked capability.Handles =
    err_bind _ (handle_elements r (asked.property / 2 ^ 24)) _
    (late_handles Fit r (asked.property / 2 ^ 24)) (λ elements. tt)
late_told Fit r asked _ = tt

plain_capability : (profile : Profile) (number : ℕ) → Plain (capability_of profile number)
plain_capability Symmetric number = grind arith
plain_capability Complete number = grind arith

plain_handles : (r : Record) (kind : ℕ) → Plain (handle_elements r kind)
plain_handles r kind = grind arith

plain_told : (r : Record) (asked : CapabilityParameters) (c : Capability)
    → Plain (told_of r asked c)
plain_told r asked capability.Handles =
    err_bind _ (handle_elements r (asked.property / 2 ^ 24)) _
    (plain_handles r (asked.property / 2 ^ 24)) (λ elements. tt)
plain_told r asked _ = tt

pub get_capability_laws : RowLaws command.GetCapability get_capability_row
unfolding get_capability_row shape_of capability_parameters
get_capability_laws = record {
  success = λ r q. search in_place_steps depth 12;
  order = λ r q. search (ordered_steps, late_capability, late_told) depth 16;
  plain = λ r q. search (plain_steps, plain_capability, plain_told) depth 16;
  tells = λ s covers r q free. capability_secrets.get_capability_tells s r q free;
}
