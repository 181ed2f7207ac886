-- Executing the row of an authorized command has the effect that `acceptance` defines.
use Rattle.std.proofs.Common.{◌≡◌, ◌≤◌, ℕ, List, length, Bool, true, false, Option, Result, Ok, Err, IfOk, refl, ap, sym, subst, ◌∙◌}
use Rattle.std.specs.Prelude.{◌&&◌}
use Rattle.std.proofs.lemmas.Bool.{false≢true}
use Rattle.tpm_bytes.specs.Reading.{◌>>=◌}
use Rattle.tpm_types_command.specs.Command.{Whole}
use Rattle.tpm_commands.specs.CommandCode.{code_number, shape_of}
use Rattle.tpm_record.specs.Record.{Record}
use Rattle.tpm_auth.specs.Grant.{authorize}
use Rattle.tpm_auth.specs.declared.session_grant.Grant.{Grant}
use Rattle.tpm_types_common.specs.Check.{check_number}
use Rattle.tpm_types_common.specs.Limits.{answer_limit}
use Rattle.tpm_types_common.specs.declared.refused.Refused.{Refused}
use Rattle.tpm_record.specs.rows.Request.{Request}
use Rattle.tpm_record.specs.rows.Rows.{ActsIfRoom, Success}
use Rattle.tpm_record.specs.declared.rows.answer.Answer.{Answer}
use Rattle.tpm_step.specs.step.Entries.{DrawsFew}
use Rattle.tpm_step.specs.step.Answer.{Written, answer_to, text_of, written_of}
use Rattle.tpm_step.specs.step.General.{in_command}
use Rattle.tpm_step.specs.step.Safe.{IsModest}
use Rattle.tpm_step.specs.step.Step.{Accepted, Accepts, Answers, RefusesOrWantsMemory, Stepped, Succeeds, acceptance, refusal_step, request_in, settled_record}
use Rattle.tpm_step.specs.step.Table.{row_of}
use Rattle.tpm_machine.specs.Drawn.{bytes_drawn, drawn_by_command}
use Rattle.tpm_machine.proofs.Refusals.{answers_exactly, refused_answers}

first_of_both : (a b : Bool) → (a && b) ≡ true → a ≡ true
first_of_both true b e = refl
first_of_both false b e = absurd (false≢true e)

second_of_both : (a b : Bool) → (a && b) ≡ true → b ≡ true
second_of_both true b e = e
second_of_both false b e = absurd (false≢true e)

abbrev accepted_as : Whole → List (Option Grant) → Request → Success → Result Accepted Refused
accepted_as c grants q success =
    Ok (record { command = c; grants = grants; request = q; success = success })

row_accepts : (can : Bool) (c : Whole) (grants : List (Option Grant)) (q : Request)
    (row : Result Success Refused) (old : Record) (result : Result (Unit {0}) Refused)
    (answer : Answer) (new : Record)
    → ActsIfRoom ((shape_of c.code).grows && can) row old result answer new
    → Accepts can (row >>= accepted_as c grants q) c grants old result answer new
row_accepts can c grants q (Ok s) old (Ok done) answer new (is, after) = (refl, refl, is, after)
row_accepts can c grants q (Ok s) old (Err e) answer new (may, is, same) = (
  same,
  (
    second_of_both (shape_of c.code).grows can may,
    refl,
    first_of_both (shape_of c.code).grows can may,
    is,
  ),
)
row_accepts can c grants q (Err refused) old (Ok done) answer new never = never
row_accepts can c grants q (Err refused) old (Err e) answer new (is, same) = (same, is)

pub accepts : (can : Bool) (r : Record) (c : Whole) (grants : List (Option Grant)) (locality : ℕ)
    (random : List ℕ) (q : Request) (result : Result (Unit {0}) Refused) (answer : Answer)
    (new : Record) → authorize r c locality ≡ Ok grants → q ≡ request_in r c grants locality random
    → ActsIfRoom ((shape_of c.code).grows && can) (row_of r c.code q) r result answer new
    → Accepts can (acceptance r c locality random) c grants r result answer new
unfolding acceptance
accepts can r c grants locality random q result answer new granted asked acts =
    rw (granted, ← asked) (row_accepts can c grants q (row_of r c.code q) r result answer new acts)

-- ---- the answer to a successful command

pub accepted_answers : (can : Bool) (r : Record) (random : List ℕ) (c : Whole)
    (grants : List (Option Grant)) (a : Result Accepted Refused) (answer : Answer) (effect : Record)
    (response : List ℕ) (after : Record) → Succeeds a c grants answer effect
    → record { response = response; after = after }
    ≡ answer_to c grants (text_of answer) effect random
    → Answers can r random (in_command c.code a)
    (record {
      response = response;
      row = record { code = code_number c.code; check = 0 };
      after =
          settled_record c.code after;
    })
accepted_answers can r random c grants (Err e) answer effect response after never is = absurd never
accepted_answers can r random c grants (Ok a) answer effect response after
    (same, granted, written, left) is =
    let back = sym same in
    let text : text_of answer ≡ written_of a.success.answer =
    λ i. record { handle = written.0 i; parameters = written.1 i; drawn = written.2 i } in
    let whole : record { response = response; after = after }
    ≡ answer_to a.command a.grants (written_of a.success.answer) a.success.after random =
    is ∙ ap (λ (w : Written). answer_to c grants w effect random) text
    ∙ ap (λ (x : Record). answer_to c grants (written_of a.success.answer) x random) left
    ∙ ap (λ (x : Whole). answer_to x grants (written_of a.success.answer) a.success.after random)
    back
    ∙ ap (λ (x : List (Option Grant)). answer_to a.command x (written_of a.success.answer)
    a.success.after random) (sym granted) in
    answers_exactly can r random (Ok a) _
    (λ i. record {
      response = (whole i).response;
      row =
          record { code = code_number (back i).code; check = 0 };
      after =
          settled_record (back i).code (whole i).after;
    })

-- an accepted command stays within the limits (`IsModest`), because its answer fits in the buffer
-- and its nonces are short
pub accepted_modest : (random : List ℕ) (c : Whole) (grants : List (Option Grant))
    (a : Result Accepted Refused) (answer : Answer) (effect : Record) → answer.drawn ≤ 96
    → length answer.parameters ≤ answer_limit → DrawsFew random effect c.entries answer.drawn
    → Succeeds a c grants answer effect → IfOk a (IsModest random)
accepted_modest random c grants (Err e) answer effect few short drawn never = tt
accepted_modest random c grants (Ok a) answer effect few short drawn
    (same, granted, written, left) = (
      subst (λ (n : ℕ). n ≤ 96) written.2 few,
      subst (λ (l : List ℕ). length l ≤ answer_limit) written.1 short,
      subst (λ (n : ℕ). DrawsFew random a.success.after a.command.entries n) written.2
          (subst (λ (x : Whole). DrawsFew random a.success.after x.entries answer.drawn) (sym same)
          (subst (λ (x : Record). DrawsFew random x c.entries answer.drawn) left drawn)),
    )

-- the number of random bytes that an accepted command drew is the number that `drawn_by_command`
-- defines
pub accepted_draws : (random : List ℕ) (c : Whole) (grants : List (Option Grant))
    (a : Result Accepted Refused) (answer : Answer) (effect : Record) (n : ℕ)
    → n ≡ bytes_drawn random effect c.entries answer.drawn → Succeeds a c grants answer effect
    → n ≡ drawn_by_command random (in_command c.code a) 0
accepted_draws random c grants (Err e) answer effect n is never = absurd never
accepted_draws random c grants (Ok a) answer effect n is (same, granted, written, left) =
    is ∙ ap (λ (drawn : ℕ). bytes_drawn random effect c.entries drawn) written.2
    ∙ ap (λ (x : Record). bytes_drawn random x c.entries a.success.answer.drawn) left
    ∙ ap (λ (x : Whole). bytes_drawn random a.success.after x.entries a.success.answer.drawn)
    (sym same)

-- the lemmas that the prover uses to verify the execution of an authorized command
pub ruleset acting = (accepted_answers, accepted_modest, accepted_draws, refused_answers)

-- a command that is refused, or that runs out of memory, draws no random bytes
refused_so : (can : Bool) (random : List ℕ) (c : Whole) (a : Result Accepted Refused) (e : Refused)
    → RefusesOrWantsMemory can c a e
    → 0 ≡ drawn_by_command random (in_command c.code a) (check_number e.check)
refused_so can random c (Err refused) e is = refl
refused_so can random c (Ok a) e (may, same, grows, is) =
    ap (λ (f : Refused). drawn_by_command random (in_command c.code (Ok a)) (check_number f.check))
    (sym is)

-- a command that is refused, or that runs out of memory, draws no random bytes; `check` is the
-- check that its row reports
pub refused_draws : (can : Bool) (random : List ℕ) (c : Whole) (a : Result Accepted Refused)
    (e : Refused) (check : ℕ) → check ≡ check_number e.check → RefusesOrWantsMemory can c a e
    → 0 ≡ drawn_by_command random (in_command c.code a) check
refused_draws can random c a e check reported is =
    subst (λ (n : ℕ). 0 ≡ drawn_by_command random (in_command c.code a) n) (sym reported)
    (refused_so can random c a e is)

-- if the row of an authorized command refuses or runs out of memory, the step of that refusal
-- satisfies `Answers`
pub row_refused : (can : Bool) (r : Record) (random : List ℕ) (c : Whole)
    (a : Result Accepted Refused) (e : Refused) (x : Stepped) → RefusesOrWantsMemory can c a e
    → x ≡ refusal_step r (record { code = code_number c.code; refused = e })
    → Answers can r random (in_command c.code a) x
row_refused can r random c a e x is seen = rw seen (refused_answers can r random c a e is)
