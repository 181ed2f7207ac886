-- After the general checks, the handles of a command fit its shape, and no later check refuses a
-- handle.
use Rattle.std.proofs.Common.{arith, rules, ◌≡◌, ◌⊎◌, ◌+◌, ℕ, true, List, [], ◌∷◌, Ok, IfOk}
use Rattle.std.proofs.lemmas.Result.{IfErr-weaker, IfOk-at_ok}
use Rattle.std.specs.Prelude.{not}
use Rattle.std.specs.Int.{w32}
use Rattle.tpm_bytes.specs.Many.{each_at}
use Rattle.tpm_bytes.specs.Reading.{number_at, or_fault, refused_if}
use Rattle.tpm_types_common.specs.declared.check.Check.TheVariants as check
use Rattle.tpm_types_common.specs.declared.refused.Refused.{Refused}
use Rattle.tpm_types_common.specs.Refused.{checked_result}
use Rattle.tpm_types_command.specs.declared.header.Header.{Header}
use Rattle.tpm_commands.specs.declared.shape.HandleRule.{HandleRule}
use Rattle.tpm_types_command.specs.Command.{Whole, sessions_at}
use Rattle.tpm_commands.specs.CommandCode.{shape_of}
use Rattle.tpm_commands.specs.HandleArea.{allowed_handle_at}
use Rattle.tpm_commands.specs.Shape.{is_of_kind}
use Rattle.tpm_record.specs.Entity.{is_present}
use Rattle.tpm_record.specs.Record.{Record}
use Rattle.tpm_auth.specs.Entries.{entries_pass}
use Rattle.tpm_auth.specs.Grant.{authorize, grants_pass}
use Rattle.tpm_step.specs.step.General.{body_of, general, both_or_neither, is_startup, in_header, present_handle_at, present_handles_at, sessions_pass, served_header}
use Rattle.tpm_step.specs.step.Step.{acceptance, request_in}
use Rattle.tpm_step.specs.step.Table.{row_of}
use Rattle.tpm_step.specs.rows.Handles.{FitsRule, HandlesFit}
use Rattle.tpm_step.specs.rows.Refusals.{Passes}
use Rattle.tpm_step.proofs.rows.Binding.{asked, checked_ok, err_bind, err_bind_is, err_checked, err_if, ok_bind, ok_bind_is, ok_checked, ok_in_command, ok_then}
use Rattle.tpm_step.proofs.rows.Grants.{grants_refuse}
use Rattle.tpm_step.proofs.rows.Table.{row_passes}

-- ---- handles that pass the general checks

-- A handle that its rule allows has the rule's kind. If the handle's entity also exists, the handle
-- fits the rule.
allowed_fits : (n : ℕ) (rule : HandleRule) (text : List ℕ)
    → IfOk (allowed_handle_at n rule text) (λ x. is_of_kind rule.kind x.0 ≡ true)
unfolding allowed_handle_at
allowed_fits n rule text =
    ok_bind _ (or_fault (number_at w32 text) _) _ (λ number.
    ok_bind_is _ (refused_if (not (is_of_kind rule.kind _)) _) _ (λ u is. asked _ _ u is))

present_fits : (r : Record) (n : ℕ) (rule : HandleRule) (text : List ℕ)
    → IfOk (present_handle_at r n rule text) (λ x. FitsRule r rule x.0)
unfolding present_handle_at
present_fits r n rule text =
    ok_then (λ x. is_of_kind rule.kind x.0 ≡ true) _ (allowed_handle_at n rule text) _
    (allowed_fits n rule text) (λ handle kind.
    ok_bind_is _ (refused_if (not (is_present r handle.0)) _) _ (λ u is. (kind, asked _ _ u is)))

-- the handles that are parsed for a command fit the command's rules
each_fits : (r : Record) (n : ℕ) (rules : List HandleRule) (text : List ℕ)
    → IfOk (each_at (present_handle_at r) n rules text) (λ x. HandlesFit r rules x.0)
each_fits r n [] text = tt
each_fits r n (rule ∷ rules) text =
    ok_then (λ x. FitsRule r rule x.0) _ (present_handle_at r n rule text) _
    (present_fits r n rule text) (λ first fits.
    ok_then (λ x. HandlesFit r rules x.0) _ (each_at (present_handle_at r) (n + 1) rules first.1) _
    (each_fits r (n + 1) rules first.1) (λ others fit. (fits, fit)))

body_fits : (r : Record) (header : Header) (text : List ℕ)
    → IfOk (body_of r header text) (λ c. HandlesFit r (shape_of c.code).handles c.handles)
unfolding body_of
body_fits r header text =
    ok_bind _ (refused_if (both_or_neither r.fixed.started (is_startup header.code)) _) _ (λ g5.
    ok_then (λ x. HandlesFit r (shape_of header.code).handles x.0) _
    (checked_result check.Handles (present_handles_at r header.code text)) _
    (ok_checked _ check.Handles (present_handles_at r header.code text)
    (each_fits r 1 (shape_of header.code).handles text)) (λ handles fit.
    ok_bind _ (sessions_pass header.code header.tag) _ (λ g7.
    ok_bind _ (checked_result check.Entries (sessions_at header.tag handles.1)) _
    (λ entries. fit))))

pub general_fits : (r : Record) (buffer : List ℕ)
    → IfOk (general r buffer) (λ c. HandlesFit r (shape_of c.code).handles c.handles)
unfolding general
general_fits r buffer =
    ok_bind _ (in_header (served_header r buffer)) _ (λ header.
    ok_in_command _ header.0.code (body_of r header.0 header.1) (body_fits r header.0 header.1))

-- ---- refusals after the general checks

-- authorization never refuses a command with the check of handles (G6)
authorize_passes : (r : Record) (c : Whole) (locality : ℕ)
    → Passes check.Handles (authorize r c locality)
unfolding authorize
authorize_passes r c locality =
    err_bind_is _ (checked_result check.Entries (entries_pass r c.code [] c.entries)) _
    (err_checked _ check.Entries (entries_pass r c.code [] c.entries) (λ rc same. absurd cc))
    (λ own is.
    let walk : Passes check.Handles (grants_pass r c locality [] c.entries) =
    IfErr-weaker (grants_pass r c locality [] c.entries) _ _ not_handles
    (grants_refuse r c locality
    (checked_ok check.Entries (entries_pass r c.code [] c.entries) own is)) in
    search (rules, err_bind, err_if, walk))
  where
    not_handles : (e : Refused) → (e.check ≡ check.Authorization) ⊎ (e.check ≡ check.Others)
        → e.check ≡ check.Handles → ⊥
    not_handles e is same = grind arith

pub acceptance_passes : (r : Record) (buffer : List ℕ) (c : Whole) (locality : ℕ) (random : List ℕ)
    → general r buffer ≡ Ok c → Passes check.Handles (acceptance r c locality random)
unfolding acceptance
acceptance_passes r buffer c locality random is =
    err_bind _ (authorize r c locality) _ (authorize_passes r c locality) (λ grants.
    err_bind _ (row_of r c.code (request_in r c grants locality random)) _
    (row_passes r c.code (request_in r c grants locality random)
    (IfOk-at_ok (λ (c : Whole). HandlesFit r (shape_of c.code).handles c.handles) is
    (general_fits r buffer))) (λ success. tt))
