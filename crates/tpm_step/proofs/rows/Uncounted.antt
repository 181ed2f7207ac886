-- No refusal by a general check increments failedTries or disables lockoutAuth.
use Rattle.std.proofs.Common.{Err, IfErr, List, Ok, Result, refl, rules, ℕ}
use Rattle.tpm_types_common.specs.declared.refused.Refused.{Refused}
use Rattle.tpm_commands.specs.CommandCode.{code_number}
use Rattle.tpm_commands.specs.declared.command_code.CommandCode.{CommandCode}
use Rattle.tpm_types_command.specs.declared.header.Header.{Header}
use Rattle.tpm_types_command.specs.declared.header.HeaderFault.{HeaderFault}
use Rattle.tpm_types_command.specs.declared.tag.Tag.{Tag}
use Rattle.tpm_record.specs.Record.{Record}
use Rattle.tpm_step.specs.step.General.{body_of, general, in_command, in_header, sessions_pass, served_header}
use Rattle.tpm_step.specs.declared.refused_command.RefusedCommand.{RefusedCommand}
use Rattle.tpm_step.specs.rows.Order.{IsPlain, Plain}
use Rattle.tpm_step.proofs.rows.Binding.{err_bind, err_checked, err_if}

header_plain : (x : Result (Header × List ℕ) HeaderFault)
    → IfErr (in_header x) (λ e. IsPlain e.refused)
header_plain (Ok header) = tt
header_plain (Err fault) = refl

pub err_in_command : {X : Type 0} (Q : RefusedCommand → Type 0) (c : CommandCode)
    (x : Result X Refused) → IfErr x (λ e. Q (record { code = code_number c; refused = e }))
    → IfErr (in_command c x) Q
err_in_command Q c (Ok x) holds = tt
err_in_command Q c (Err e) holds = holds

sessions_plain : (c : CommandCode) (tag : Tag) → Plain (sessions_pass c tag)
unfolding sessions_pass
sessions_plain c tag = search (rules, err_bind, err_if)

body_plain : (r : Record) (header : Header) (text : List ℕ) → Plain (body_of r header text)
unfolding body_of
body_plain r header text = search (rules, err_bind, err_if, err_checked, sessions_plain)

pub general_plain : (r : Record) (buffer : List ℕ)
    → IfErr (general r buffer) (λ e. IsPlain e.refused)
unfolding general
general_plain r buffer =
    err_bind (λ (e : RefusedCommand). IsPlain e.refused) (in_header (served_header r buffer)) _
    (header_plain (served_header r buffer)) (λ header.
    err_in_command (λ (e : RefusedCommand). IsPlain e.refused) header.0.code
    (body_of r header.0 header.1) (body_plain r header.0 header.1))
