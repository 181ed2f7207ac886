-- A command draws nonces for at most three entries; TPM2_Startup has no entry.
use Rattle.std.specs.Int.{w32}
use Rattle.std.specs.Prelude.{nat_lt}
use Rattle.std.proofs.Common.{◌∷◌, ◌≡◌, ◌≤◌, IfOk, List, [], arith, length, refl, suc, true, zero}
use Rattle.std.proofs.Common.{ℕ}
use Rattle.tpm_bytes.specs.Reading.{bytes_at, number_at, or_fault, refused_if}
use Rattle.tpm_types_common.specs.Rc.{plain}
use Rattle.tpm_types_common.specs.Refused.{checked_result}
use Rattle.tpm_types_common.specs.declared.check.Check.TheVariants as check
use Rattle.tpm_types_common.specs.declared.rc.ResponseCode.TheVariants as code
use Rattle.tpm_types_command.specs.AuthArea.{area_at, entries_in}
use Rattle.tpm_types_command.specs.AuthEntry.{entry_at}
use Rattle.tpm_types_command.specs.Command.{sessions_at}
use Rattle.tpm_commands.specs.CommandCode.{shape_of}
use Rattle.tpm_commands.specs.declared.command_code.CommandCode.{CommandCode}
use Rattle.tpm_commands.specs.declared.command_code.CommandCode.TheVariants as command
use Rattle.tpm_types_command.specs.declared.header.Header.{Header}
use Rattle.tpm_types_command.specs.declared.tag.Tag.{Tag}
use Rattle.tpm_types_command.specs.declared.tag.Tag.TheVariants.{NoSessions, Sessions}
use Rattle.tpm_record.specs.Record.{Record}
use Rattle.tpm_record.specs.rows.Request.{Request}
use Rattle.tpm_step.specs.step.General.{body_of, both_or_neither, general, in_header, is_startup, served_header}
use Rattle.tpm_step.specs.step.General.{present_handles_at, sessions_pass}
use Rattle.tpm_step.specs.rows.Draws.{draws_of}
use Rattle.tpm_step.proofs.rows.Binding.{ok_bind, ok_checked, ok_in_command, ok_then}

entries_few : (most : ℕ) (text : List ℕ) → IfOk (entries_in most text) (λ es. length es ≤ most)
entries_few most [] = omega arith
entries_few zero (byte ∷ bytes) = tt
entries_few (suc most) (byte ∷ bytes) =
    ok_bind _ (entry_at (byte ∷ bytes)) _ (λ first.
    ok_then _ _ (entries_in most first.1) _ (entries_few most first.1)
    (λ others few. omega (arith, few)))

area_few : (text : List ℕ) → IfOk (area_at text) (λ a. length a.0 ≤ 3)
unfolding area_at
area_few text =
    ok_bind _ (or_fault (number_at w32 text) (plain code.Authsize)) _ (λ size.
    ok_bind _ (refused_if (nat_lt size.0 9) (plain code.Authsize)) _ (λ nine.
    ok_bind _ (or_fault (bytes_at size.0 size.1) (plain code.Authsize)) _ (λ bytes.
    ok_then _ _ (entries_in 3 bytes.0) _ (entries_few 3 bytes.0) (λ entries few. few))))

sessions_few : (tag : Tag) (text : List ℕ) → IfOk (sessions_at tag text) (λ a. length a.0 ≤ 3)
sessions_few NoSessions text = omega arith
sessions_few Sessions text = area_few text

body_few : (r : Record) (header : Header) (text : List ℕ)
    → IfOk (body_of r header text) (λ c. length c.entries ≤ 3)
unfolding body_of
body_few r header text =
    ok_bind _ (refused_if (both_or_neither r.fixed.started (is_startup header.code)) _) _ (λ g5.
    ok_bind _ (checked_result check.Handles (present_handles_at r header.code text)) _ (λ handles.
    ok_bind _ (sessions_pass header.code header.tag) _ (λ g7.
    ok_then _ _ (checked_result check.Entries (sessions_at header.tag handles.1)) _
    (ok_checked (λ a. length a.0 ≤ 3) check.Entries (sessions_at header.tag handles.1)
    (sessions_few header.tag handles.1)) (λ entries few. few))))

pub general_few : (r : Record) (buffer : List ℕ)
    → IfOk (general r buffer) (λ c. length c.entries ≤ 3)
unfolding general
general_few r buffer =
    ok_bind _ (in_header (served_header r buffer)) _ (λ header.
    ok_in_command _ header.0.code (body_of r header.0 header.1) (body_few r header.0 header.1))

-- TPM2_Startup forbids sessions, and `draws_of` is 0 for it
pub startup_alone : (c : CommandCode) (q : Request) → is_startup c ≡ true
    → ((shape_of c).forbids_sessions ≡ true) × (draws_of c q ≡ 0)
unfolding shape_of
startup_alone command.Startup q is = (refl, refl)
startup_alone _ q is = absurd cc
