-- The device is in the right mode for an accepted command. The command fits its shape and is
-- authorized, and its row succeeds.
use Rattle.std.proofs.Common.{◌≡◌, ℕ, Bool, true, false, List, [], Result, Ok, Err, IfOk, refl}
use Rattle.tpm_bytes.proofs.Fields.{passed}
use Rattle.tpm_bytes.specs.Reading.{refused_if}
use Rattle.tpm_types_common.specs.Rc.{plain}
use Rattle.tpm_types_common.specs.Refused.{checked_result, refusal}
use Rattle.tpm_types_common.specs.declared.check.Check.TheVariants as check
use Rattle.tpm_types_common.specs.declared.rc.ResponseCode.TheVariants as code
use Rattle.tpm_types_command.specs.Command.{Whole, sessions_at}
use Rattle.tpm_commands.specs.CommandCode.{shape_of}
use Rattle.tpm_types_command.specs.AuthArea.{area_at}
use Rattle.tpm_types_command.specs.declared.tag.Tag.{Tag}
use Rattle.tpm_types_command.specs.declared.tag.Tag.TheVariants.{NoSessions, Sessions}
use Rattle.tpm_types_command.specs.declared.header.Header.{Header}
use Rattle.tpm_commands.specs.declared.command_code.CommandCode.{CommandCode}
use Rattle.tpm_commands.specs.declared.command_code.CommandCode.TheVariants as command
use Rattle.tpm_record.specs.Record.{Record}
use Rattle.tpm_auth.specs.Grant.{authorize}
use Rattle.tpm_step.specs.step.General.{body_of, both_or_neither, general, in_header, is_startup, present_handles_at, sessions_pass, served_header}
use Rattle.tpm_step.specs.step.Step.{acceptance, acceptance_in, request_in}
use Rattle.tpm_step.specs.step.Table.{row_of}
use Rattle.tpm_step.specs.rows.Acceptance.{IsAcceptance, IsDue}
use Rattle.tpm_step.specs.rows.Handles.{HandlesFit}
use Rattle.tpm_step.proofs.rows.Binding.{ok_at, ok_bind, ok_bind_is, ok_checked, ok_in_command, ok_then}
use Rattle.tpm_step.proofs.rows.Handles.{general_fits}

due_of : (code : CommandCode) (r : Record) → both_or_neither r.fixed.started (is_startup code)
    ≡ false → IsDue code r
due_of command.Startup r is = not_started r.fixed.started is
  where
    not_started : (b : Bool) → both_or_neither b true ≡ false → b ≡ false
    not_started true is = absurd cc
    not_started false is = refl
due_of _ r is = is_started r.fixed.started is
  where
    is_started : (b : Bool) → both_or_neither b false ≡ false → b ≡ true
    is_started true is = refl
    is_started false is = absurd cc

body_due : (r : Record) (header : Header) (text : List ℕ)
    → IfOk (body_of r header text) (λ c. IsDue c.code r)
unfolding body_of
body_due r header text =
    ok_bind_is _ (refused_if (both_or_neither r.fixed.started (is_startup header.code))
    (refusal check.Started (plain code.Initialize))) _ (λ g5 is.
    ok_bind _ (checked_result check.Handles (present_handles_at r header.code text)) _ (λ handles.
    ok_bind _ (sessions_pass header.code header.tag) _ (λ g7.
    ok_bind _ (checked_result check.Entries (sessions_at header.tag handles.1)) _ (λ entries.
    due_of header.code r (passed _ _ g5 is)))))

general_due : (r : Record) (buffer : List ℕ) → IfOk (general r buffer) (λ c. IsDue c.code r)
unfolding general
general_due r buffer =
    ok_bind _ (in_header (served_header r buffer)) _ (λ header.
    ok_in_command _ header.0.code (body_of r header.0 header.1) (body_due r header.0 header.1))

-- If the command's shape forbids sessions, the command has no entries.
abbrev IsAlone : Whole → Type 0
IsAlone c = (shape_of c.code).forbids_sessions ≡ true → c.entries ≡ []

every : {A E : Type 0} (P : A → Type 0) (x : Result A E) → ((a : A) → P a) → IfOk x P
every P (Ok a) all = all a
every P (Err e) all = tt

err_never : {A E : Type 0} (e : E) (a : A) → (let failed : Result A E = Err e in failed ≡ Ok a) → ⊥
err_never e a is = cc

never_alone : (c : CommandCode) (passed : Unit {0}) → (shape_of c).forbids_sessions ≡ true
    → sessions_pass c Sessions ≡ Ok passed → ⊥
unfolding sessions_pass
never_alone c passed forbids is = err_never _ passed (rw forbids at is)

area_alone : (c : CommandCode) (tag : Tag) (text : List ℕ) (passed : Unit {0})
    → sessions_pass c tag ≡ Ok passed
    → IfOk (sessions_at tag text) (λ a. (shape_of c).forbids_sessions ≡ true → a.0 ≡ [])
area_alone c NoSessions text passed is = λ forbids. refl
area_alone c Sessions text passed is =
    every _ (area_at text) (λ a forbids. absurd (never_alone c passed forbids is))

body_alone : (r : Record) (header : Header) (text : List ℕ) → IfOk (body_of r header text) IsAlone
unfolding body_of
body_alone r header text =
    ok_bind _ (refused_if (both_or_neither r.fixed.started (is_startup header.code))
    (refusal check.Started (plain code.Initialize))) _ (λ g5.
    ok_bind _ (checked_result check.Handles (present_handles_at r header.code text)) _ (λ handles.
    ok_bind_is _ (sessions_pass header.code header.tag) _ (λ g7 is.
    ok_then _ _ (checked_result check.Entries (sessions_at header.tag handles.1)) _
    (ok_checked _ check.Entries (sessions_at header.tag handles.1)
    (area_alone header.code header.tag handles.1 g7 is)) (λ entries alone. alone))))

general_alone : (r : Record) (buffer : List ℕ) → IfOk (general r buffer) IsAlone
unfolding general
general_alone r buffer =
    ok_bind _ (in_header (served_header r buffer)) _ (λ header.
    ok_in_command _ header.0.code (body_of r header.0 header.1) (body_alone r header.0 header.1))

acceptance_is : (r : Record) (c : Whole) (locality : ℕ) (random : List ℕ) → IsDue c.code r
    → HandlesFit r (shape_of c.code).handles c.handles → IsAlone c
    → IfOk (acceptance r c locality random) (IsAcceptance r locality random)
unfolding acceptance
acceptance_is r c locality random due fits alone =
    ok_bind_is _ (authorize r c locality) _ (λ grants granted.
    ok_bind_is _ (row_of r c.code (request_in r c grants locality random)) _ (λ success row.
    record {
      due = due;
      fits = fits;
      alone = alone;
      granted = granted;
      requested = refl;
      row =
          row;
    }))

pub accepted_is : (r : Record) (buffer : List ℕ) (locality : ℕ) (random : List ℕ)
    → IfOk (acceptance_in r buffer locality random) (IsAcceptance r locality random)
unfolding acceptance_in
accepted_is r buffer locality random =
    ok_bind_is _ (general r buffer) _
    (λ c is. ok_in_command _ c.code (acceptance r c locality random)
    (acceptance_is r c locality random
    (ok_at (λ c. IsDue c.code r) (general r buffer) c (general_due r buffer) is)
    (ok_at (λ c. HandlesFit r (shape_of c.code).handles c.handles) (general r buffer) c
    (general_fits r buffer) is)
    (ok_at IsAlone (general r buffer) c (general_alone r buffer) is)))
