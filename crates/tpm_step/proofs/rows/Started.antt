-- A device that is not started accepts only TPM2_Startup, which starts it. Therefore the device is
-- started after every accepted command.
use Rattle.std.proofs.Common.{◌≡◌, ℕ, Bool, true, false, List, IfOk, refl, ap, ◌∙◌}
use Rattle.tpm_types_common.specs.StartupType.{startup_type_at}
use Rattle.tpm_commands.specs.declared.command_code.CommandCode.{CommandCode}
use Rattle.tpm_commands.specs.declared.command_code.CommandCode.TheVariants as command
use Rattle.tpm_record.specs.Record.{Record}
use Rattle.tpm_record.specs.Saved.{kind_of}
use Rattle.tpm_record.specs.rows.Request.{Request}
use Rattle.tpm_record.specs.rows.Rows.{Success, only}
use Rattle.tpm_actions_device.specs.Startup.{start_of, started_record, startup_row}
use Rattle.tpm_actions_device.specs.declared.startup.Start.{Start}
use Rattle.tpm_actions_device.specs.declared.startup.Start.TheVariants.{Reset}
use Rattle.tpm_step.specs.step.Step.{Accepted, success_step}
use Rattle.tpm_step.specs.step.Table.{row_of}
use Rattle.tpm_step.specs.rows.Acceptance.{IsAcceptance, IsDue}
use Rattle.tpm_step.specs.rows.Footprint.{Touches}
use Rattle.tpm_commands.specs.Part.{Part, AuthValues, Beginning}
use Rattle.tpm_commands.specs.CommandCode.{part_of}
use Rattle.tpm_step.proofs.rows.Binding.{ok_at, ok_bind, ok_weaker}
use Rattle.tpm_step.proofs.rows.Table.{row_touches}
use Rattle.tpm_step.proofs.rows.Leaving.{success_leaves}

-- whether a command that changes this part of the state can start the device
abbrev begins : Part → Bool
begins Beginning = true
begins _ = false

same_started : (p : Part) (old new : Record) → begins p ≡ false → Touches p old new
    → new.fixed.started ≡ old.fixed.started
same_started Beginning old new other touches = absurd cc
same_started AuthValues old new other touches = ap (λ (r : Record). r.fixed.started) touches.0
same_started _ old new other touches = ap (λ (r : Record). r.fixed.started) touches

stays_started : (r : Record) (code : CommandCode) (q : Request) → begins (part_of code) ≡ false
    → r.fixed.started ≡ true → IfOk (row_of r code q) (λ s. s.after.fixed.started ≡ true)
stays_started r code q other is =
    ok_weaker (λ s. Touches (part_of code) r s.after) _ (row_of r code q) (row_touches r code q)
    (λ s touches. same_started (part_of code) r s.after other touches ∙ is)

starts : (start : Start) (r : Record) (random : List ℕ)
    → (started_record start r random).fixed.started ≡ true
starts Reset r random = refl
starts _ r random = refl

startup_starts : (r : Record) (q : Request)
    → IfOk (row_of r command.Startup q) (λ s. s.after.fixed.started ≡ true)
unfolding row_of startup_row
startup_starts r q =
    ok_bind _ (only (startup_type_at q.parameters)) _ (λ type.
    ok_bind _ (start_of type (kind_of r.fixed.saved)) _ (λ start. starts start r q.random))

row_starts : (r : Record) (code : CommandCode) (q : Request) → IsDue code r
    → IfOk (row_of r code q) (λ s. s.after.fixed.started ≡ true)
row_starts r command.Startup q due = startup_starts r q
row_starts r _ q due = stays_started r _ q refl due

pub is_started : (r : Record) (a : Accepted) (locality : ℕ) (random : List ℕ)
    → IsAcceptance r locality random a → (success_step a random).after.fixed.started ≡ true
is_started r a locality random is =
    ap (λ (r : Record). r.fixed.started) (success_leaves a random)
    ∙ ok_at (λ (s : Success). s.after.fixed.started ≡ true) (row_of r a.command.code a.request)
    a.success (row_starts r a.command.code a.request is.due) is.row
