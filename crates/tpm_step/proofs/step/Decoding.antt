-- If a command passes the general checks, the whole buffer encodes it, whatever the record.
use Rattle.std.proofs.Common.{◌≡◌, ℕ, ◌+◌, List, [], ◌∷◌, length, Result, Ok, Err, IfOk, refl, ap, sym, ◌∙◌, cond, Bool, true, false}
use Rattle.std.specs.Prelude.{not}
use Rattle.std.specs.Int.{w32}
use Rattle.tpm_bytes.specs.Many.{each_at}
use Rattle.tpm_bytes.specs.Reading.{number_at, or_fault, refused_if}
use Rattle.tpm_bytes.proofs.Fields.{ok_is}
use Rattle.tpm_types_common.specs.Handle.{numbered_handle}
use Rattle.tpm_types_common.specs.Refused.{checked_result}
use Rattle.tpm_types_common.specs.declared.check.Check.TheVariants as check
use Rattle.tpm_types_common.specs.declared.handle.Handle.{Handle}
use Rattle.tpm_types_common.specs.declared.rc.Rc.{Rc}
use Rattle.tpm_types_common.specs.declared.rc.ResponseCode.TheVariants as code
use Rattle.tpm_types_command.specs.Command.{Whole, command_at, handles_at, sessions_at}
use Rattle.tpm_commands.specs.CommandCode.{serves, shape_of}
use Rattle.tpm_commands.specs.declared.profile.Profile.{Profile}
use Rattle.tpm_commands.specs.HandleArea.{allowed_handle_at, handle_fault}
use Rattle.tpm_types_command.specs.Header.{if_served, header_at}
use Rattle.tpm_commands.specs.Shape.{is_of_kind}
use Rattle.tpm_types_command.specs.declared.header.Header.{Header}
use Rattle.tpm_types_command.specs.declared.header.HeaderFault.{HeaderFault}
use Rattle.tpm_types_command.specs.declared.header.HeaderFault.TheVariants as fault
use Rattle.tpm_commands.specs.declared.shape.HandleRule.{HandleRule}
use Rattle.tpm_record.specs.Entity.{is_present}
use Rattle.tpm_record.specs.Record.{Record}
use Rattle.tpm_step.specs.step.General.{both_or_neither, body_of, general, in_header, is_startup, present_handle_at, present_handles_at, sessions_pass, served_header}
use Rattle.tpm_step.proofs.rows.Binding.{checked_ok, ok_at, ok_bind, ok_bind_is, ok_checked, ok_in_command, ok_then}

-- The bytes encode the number of the handle `x.0`, followed by `x.1`.
abbrev IsNumber : ℕ → List ℕ → Handle × List ℕ → Type 0
IsNumber n text x = or_fault (number_at w32 text) (handle_fault n code.Insufficient)
    ≡ Ok (x.0.number, x.1)

allowed_reads : (n : ℕ) (rule : HandleRule) (text : List ℕ)
    → IfOk (allowed_handle_at n rule text) (IsNumber n text)
unfolding allowed_handle_at
allowed_reads n rule text =
    ok_bind_is _ (or_fault (number_at w32 text) _) _ (λ number is.
    ok_bind _ (refused_if (not (is_of_kind rule.kind (numbered_handle number.0))) _) _
    (λ allowed. is))

present_reads : (r : Record) (n : ℕ) (rule : HandleRule) (text : List ℕ)
    → IfOk (present_handle_at r n rule text) (IsNumber n text)
unfolding present_handle_at
present_reads r n rule text =
    ok_then _ _ (allowed_handle_at n rule text) _ (allowed_reads n rule text) (λ handle is.
    ok_bind _ (refused_if (not (is_present r handle.0)) _) _ (λ present. is))

-- Each rule parses one handle, which has the number that the bytes encode.
each_reads : (r : Record) (n : ℕ) (rules : List HandleRule) (text : List ℕ)
    → IfOk (each_at (present_handle_at r) n rules text)
    (λ x. handles_at n (length rules) text ≡ Ok x)
each_reads r n [] text = refl
each_reads r n (rule ∷ rules) text =
    ok_then _ _ (present_handle_at r n rule text) _ (present_reads r n rule text) (λ first is.
    ok_then _ _ (each_at (present_handle_at r) (n + 1) rules first.1) _
    (each_reads r (n + 1) rules first.1) (λ others are.
    rw (is, are) refl))

header_reads : (profile : Profile) (x : Result (Header × List ℕ) HeaderFault)
    → IfOk (in_header (if_served profile x)) (λ header. x ≡ Ok header)
header_reads profile (Ok header) = by (serves profile header.0.code)
  where
    by : (b : Bool) → IfOk (in_header (cond b (Ok header) (Err fault.Code)))
        (λ h. (let found : Result (Header × List ℕ) HeaderFault = Ok header in found) ≡ Ok h)
    by true = refl
    by false = tt
header_reads profile (Err f) = tt

-- if a command passes the general checks, the whole buffer encodes it
pub general_reads : (r : Record) (buffer : List ℕ)
    → IfOk (general r buffer) (λ c. command_at buffer ≡ Ok (c, []))
unfolding general body_of command_at
general_reads r buffer =
    ok_then _ _ (in_header (served_header r buffer)) _
    (header_reads r.fixed.profile (header_at buffer)) (λ header head.
    ok_in_command _ header.0.code (body_of r header.0 header.1) (
    ok_bind _ (refused_if (both_or_neither r.fixed.started (is_startup header.0.code)) _) _ (λ g5.
    ok_then _ _ (checked_result check.Handles (present_handles_at r header.0.code header.1)) _
    (ok_checked _ check.Handles (present_handles_at r header.0.code header.1)
    (each_reads r 1 (shape_of header.0.code).handles header.1)) (λ handles are.
    ok_bind _ (sessions_pass header.0.code header.0.tag) _ (λ g7.
    ok_bind_is _ (checked_result check.Entries (sessions_at header.0.tag handles.1)) _
    (λ entries area.
    rw (head, are, checked_ok check.Entries (sessions_at header.0.tag handles.1) entries area)
    refl))))))

pub one_command : (r s : Record) (buffer : List ℕ) (c d : Whole) → general r buffer ≡ Ok c
    → general s buffer ≡ Ok d → c ≡ d
one_command r s buffer c d is also =
    let first = ok_at _ (general r buffer) c (general_reads r buffer) is in
    let second = ok_at _ (general s buffer) d (general_reads s buffer) also in
    ap (λ (x : Whole × List ℕ). x.0) (ok_is {E = Rc} (c, []) (d, []) (sym first ∙ second))
