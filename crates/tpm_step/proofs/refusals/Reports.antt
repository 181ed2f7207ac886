-- A step reports one of a command's own checks only with a refusal that `own_refusals` lists.
use Rattle.std.specs.Prelude.{if◌then◌else◌}
use Rattle.std.proofs.Common.{◌≡◌, ◌⊎◌, ◌<◌, Bool, Err, IfErr, List, Ok, Result, [], arith, false, inl, inr}
use Rattle.std.proofs.Common.{refl, rules, subst, sym, true, ℕ}
use Rattle.std.proofs.lemmas.Result.{IfErr-weaker}
use Rattle.tpm_types_common.specs.Check.{check_number}
use Rattle.tpm_types_common.specs.Refused.{checked_result}
use Rattle.tpm_types_common.specs.declared.check.Check.{Check}
use Rattle.tpm_types_common.specs.declared.check.Check.TheVariants as check
use Rattle.tpm_types_common.specs.declared.refused.Refused.{Refused}
use Rattle.tpm_commands.specs.CommandCode.{code_number, shape_of}
use Rattle.tpm_commands.specs.declared.command_code.CommandCode.{CommandCode}
use Rattle.tpm_types_command.specs.Command.{Whole}
use Rattle.tpm_types_command.specs.declared.header.Header.{Header}
use Rattle.tpm_types_command.specs.declared.header.HeaderFault.{HeaderFault}
use Rattle.tpm_types_command.specs.declared.header.HeaderFault.TheVariants as fault
use Rattle.tpm_types_command.specs.declared.tag.Tag.{Tag}
use Rattle.tpm_record.specs.Record.{Record}
use Rattle.tpm_record.specs.Tick.{after_tick}
use Rattle.tpm_auth.specs.Entries.{entries_pass}
use Rattle.tpm_auth.specs.Grant.{authorize, grants_pass}
use Rattle.tpm_step.specs.step.Events.{Cycled, Given, Placed, PlainEvent}
use Rattle.tpm_step.specs.step.Execution.{Executes}
use Rattle.tpm_step.specs.step.General.{body_of, general, in_header, served_header, sessions_pass}
use Rattle.tpm_step.specs.step.Step.{Accepted, Stepped, acceptance, acceptance_in, answer_where}
use Rattle.tpm_step.specs.step.Step.{refusal_step, refusal_without_memory, request_in, step_where}
use Rattle.tpm_step.specs.step.Step.{success_step}
use Rattle.tpm_step.specs.step.Table.{row_of}
use Rattle.tpm_step.specs.declared.refused_command.RefusedCommand.{RefusedCommand}
use Rattle.tpm_step.specs.rows.OwnRefusals.{IsListed, IsListedBy, IsOneOf, ReportsAsListed, own_refusals}
use Rattle.tpm_step.proofs.rows.Binding.{checked_ok, err_bind, err_bind_is, err_checked, err_if}
use Rattle.tpm_step.proofs.rows.Grants.{grants_refuse}
use Rattle.tpm_step.proofs.rows.Uncounted.{err_in_command}
use Rattle.tpm_step.proofs.refusals.Table.{row_own}

-- ---- the general checks, of which none is a command's own: the empty list has every refusal

header_own : (x : Result (Header × List ℕ) HeaderFault)
    → IfErr (in_header x) (λ e. IsListed [] e.refused)
header_own (Ok header) = tt
header_own (Err fault.Length) = tt
header_own (Err fault.Tag) = tt
header_own (Err fault.Size) = tt
header_own (Err fault.Code) = tt

sessions_own : (c : CommandCode) (tag : Tag) → IfErr (sessions_pass c tag) (IsListed [])
unfolding sessions_pass
sessions_own c tag = search (rules, err_bind, err_if)

body_own : (r : Record) (header : Header) (text : List ℕ)
    → IfErr (body_of r header text) (IsListed [])
unfolding body_of
body_own r header text = search (rules, err_bind, err_if, err_checked, sessions_own)

general_own : (r : Record) (buffer : List ℕ)
    → IfErr (general r buffer) (λ e. IsListed [] e.refused)
unfolding general
general_own r buffer =
    err_bind (λ (e : RefusedCommand). IsListed [] e.refused) (in_header (served_header r buffer)) _
    (header_own (served_header r buffer)) (λ header.
    err_in_command (λ (e : RefusedCommand). IsListed [] e.refused) header.0.code
    (body_of r header.0 header.1) (body_own r header.0 header.1))

-- ---- the authorization, and the row after it

not_own : (refusals : List Refused) (e : Refused)
    → (e.check ≡ check.Authorization) ⊎ (e.check ≡ check.Others) → IsListed refusals e
not_own refusals e (inl is) = subst (λ (k : Check). IsListedBy k refusals e) (sym is) tt
not_own refusals e (inr is) = subst (λ (k : Check). IsListedBy k refusals e) (sym is) tt

authorize_own : (refusals : List Refused) (r : Record) (c : Whole) (locality : ℕ)
    → IfErr (authorize r c locality) (IsListed refusals)
unfolding authorize
authorize_own refusals r c locality =
    err_bind_is _ (checked_result check.Entries (entries_pass r c.code [] c.entries)) _
    (err_checked _ check.Entries (entries_pass r c.code [] c.entries) (λ rc. tt))
    (λ own is.
    let walk : IfErr (grants_pass r c locality [] c.entries) (IsListed refusals) =
    IfErr-weaker (grants_pass r c locality [] c.entries) _ _ (not_own refusals)
    (grants_refuse r c locality
    (checked_ok check.Entries (entries_pass r c.code [] c.entries) own is)) in
    search (rules, err_bind, err_if, walk))

acceptance_own : (r : Record) (c : Whole) (locality : ℕ) (random : List ℕ)
    → IfErr (acceptance r c locality random) (IsListed (own_refusals c.code))
unfolding acceptance
acceptance_own r c locality random =
    err_bind _ (authorize r c locality) _ (authorize_own (own_refusals c.code) r c locality)
    (λ grants.
    err_bind _ (row_of r c.code (request_in r c grants locality random)) _
    (row_own r c.code (request_in r c grants locality random)) (λ success. tt))

-- The refusal is not by one of a command's own checks, or it is listed for its command.
abbrev IsListedRefusal : RefusedCommand → Type 0
IsListedRefusal e =
    IsListed [] e.refused
    ⊎ ((c : CommandCode) × (e.code ≡ code_number c) × IsListed (own_refusals c) e.refused)

accepted_own : (r : Record) (buffer : List ℕ) (locality : ℕ) (random : List ℕ)
    → IfErr (acceptance_in r buffer locality random) IsListedRefusal
unfolding acceptance_in
accepted_own r buffer locality random =
    err_bind IsListedRefusal (general r buffer) _
    (IfErr-weaker (general r buffer) (λ (e : RefusedCommand). IsListed [] e.refused)
    IsListedRefusal (λ e none. inl none) (general_own r buffer))
    (λ c.
    err_in_command IsListedRefusal c.code (acceptance r c locality random)
    (IfErr-weaker (acceptance r c locality random) (IsListed (own_refusals c.code))
    (λ (e : Refused). IsListedRefusal (record { code = code_number c.code; refused = e }))
    (λ e listed. inr (c.code, refl, listed)) (acceptance_own r c locality random)))

-- ---- the reported check

-- only the commands' own checks have numbers between 20 and 255
own_check : (k : Check) (refusals : List Refused) (e : Refused) → 20 < check_number k
    → check_number k < 255 → IsListedBy k refusals e → IsOneOf refusals e
own_check check.Length refusals e more less listed = absurd (omega (arith, more))
own_check check.Tag refusals e more less listed = absurd (omega (arith, more))
own_check check.Size refusals e more less listed = absurd (omega (arith, more))
own_check check.Code refusals e more less listed = absurd (omega (arith, more))
own_check check.Started refusals e more less listed = absurd (omega (arith, more))
own_check check.Handles refusals e more less listed = absurd (omega (arith, more))
own_check check.Sessions refusals e more less listed = absurd (omega (arith, more))
own_check check.Entries refusals e more less listed = absurd (omega (arith, more))
own_check check.Authorization refusals e more less listed = absurd (omega (arith, more))
own_check check.Others refusals e more less listed = absurd (omega (arith, more))
own_check check.Parameters refusals e more less listed = absurd (omega (arith, more))
own_check (check.Action own) refusals e more less listed = listed
own_check check.Memory refusals e more less listed = absurd (omega (arith, less))

refusal_reports : (r : Record) (e : RefusedCommand) → IsListedRefusal e
    → ReportsAsListed (refusal_step r e)
refusal_reports r e (inl none) =
    λ more less. absurd (own_check e.refused.check [] e.refused more less none)
refusal_reports r e (inr (c, is, listed)) =
    λ more less. (
      c,
      e.refused,
      own_check e.refused.check (own_refusals c) e.refused more less listed,
      (is, refl, refl),
    )

success_reports : (a : Accepted) (random : List ℕ) → ReportsAsListed (success_step a random)
success_reports a random = λ more less. absurd (omega (arith, more))

memory_reports : (r : Record) (random : List ℕ) (a : Accepted) (grows : Bool)
    → ReportsAsListed (if grows then refusal_without_memory r a.command else success_step a random)
memory_reports r random a true = λ more less. absurd (omega (arith, less))
memory_reports r random a false = success_reports a random

answer_reports : (refused : Bool) (r : Record) (random : List ℕ)
    (a : Result Accepted RefusedCommand) → IfErr a IsListedRefusal
    → ReportsAsListed (answer_where refused r random a)
answer_reports false r random (Ok a) listed = success_reports a random
answer_reports false r random (Err e) listed = refusal_reports r e listed
answer_reports true r random (Ok a) listed =
    memory_reports r random a (shape_of a.command.code).grows
answer_reports true r random (Err e) listed = refusal_reports r e listed

step_reports : (refused : Bool) (r : Record) (event : PlainEvent)
    → ReportsAsListed (step_where refused r event)
step_reports refused r (Given buffer locality elapsed random) =
    let t = after_tick r elapsed in
    answer_reports refused t random (acceptance_in t buffer locality random)
    (accepted_own t buffer locality random)
step_reports refused r Cycled = λ more less. absurd (omega (arith, more))
step_reports refused r (Placed object) = λ more less. absurd (omega (arith, more))

pub execution_reports : (can : Bool) (old : Record) (event : PlainEvent) (x : Stepped)
    → Executes can old event x → ReportsAsListed x
execution_reports can old event x executes =
    let steps = executes.steps in
    subst ReportsAsListed (sym steps.2) (step_reports steps.0 old event)
