-- A command draws at most as many random bytes as it was given, with or without the completing
-- layer. The device draws none for a command that loads the context of an object, or for which the
-- layer sends a command to the device; the command that the layer sends may draw some.
use Rattle.std.proofs.Common.{◌≡◌, ◌≤◌, ◌&&◌, ℕ, zero, suc, Bool, true, false, List, [], ◌∷◌, ◌++◌, length, Option, Some, None, Result, Ok, Err, refl, subst, ap, get_or, if◌then◌else◌}
use native.Mathlib.Omega.{arith}
use Rattle.std.specs.Int.{w32, to_be_bytes}
use Rattle.std.proofs.lemmas.Bool.{false≢true}
use Rattle.std.proofs.lemmas.Slice.Eq.{bytes_eq-Decides}
use Rattle.tpm_context.specs.declared.fault.ContextFault.{ContextFault}
use Rattle.tpm_object.specs.declared.object.Object.{Object}
use Rattle.tpm_record.specs.Record.{Record}
use Rattle.tpm_record.specs.Tick.{after_tick}
use Rattle.tpm_types_common.specs.declared.handle.Handle.{Handle}
use Rattle.tpm_types_command.specs.AuthEntry.{Entry}
use Rattle.tpm_step.specs.step.Answer.{answer_to, framed_message, handle_answer, success_text}
use Rattle.tpm_step.specs.step.Events.{Given}
use Rattle.tpm_step.specs.step.Step.{Accepted, Stepped, acceptance_in, step, stepped_of}
use Rattle.tpm_step.specs.declared.refused_command.RefusedCommand.{RefusedCommand}
use Rattle.tpm_machine.specs.Drawn.{drawn_by, drawn_by_command}
use Rattle.tpm_completion.specs.Answer.{is_refusal, refusal}
use Rattle.tpm_completion.specs.Command.{authorized_command, plain_command}
use Rattle.tpm_completion.specs.Execution.{AsksFirst, LoadsOrSends, CompletesIf, Loads, Passes, PlacesIf, Seen, Sends, asked_after, opened_after, sent_after}
use Rattle.tpm_completion.specs.Hiding.{heard_buffer}
use Rattle.tpm_completion.specs.Loading.{context_asked, object_context_in}
use Rattle.tpm_completion.specs.Sending.{sent_for, sent_in}
use Rattle.tpm_completion.specs.declared.completion.Completion.{Completion}
use Rattle.tpm_completion.specs.declared.sending.Sent.{Sent}
use Rattle.tpm_journal.specs.Command.{Command, Executed}

-- ---- no more than there are

within : {E : Type 0} (random : List ℕ) (a : Result Accepted E) (check : ℕ)
    → drawn_by_command random a check ≤ length random
within random (Ok a) zero = omega arith
within random (Ok a) (suc check) = omega arith
within random (Err e) check = omega arith

pub no_more_drawn : (can : Bool) (layer : Completion) (old : Record) (buffer : List ℕ)
    (locality elapsed : ℕ) (random : List ℕ) (seen : Seen)
    → Passes can layer old (Given buffer locality elapsed random) seen → seen.drawn ≤ length random
no_more_drawn can layer old buffer locality elapsed random seen passes =
    omega (
      arith,
      passes.drawn,
      within random (acceptance_in (after_tick old elapsed) buffer locality random)
          seen.step.row.check,
    )

placing_within : (can refused : Bool) (first : Seen) (object : Object) (seen : Seen)
    (random : List ℕ) → PlacesIf can refused first object seen
    → seen.drawn ≤ length random
placing_within can false first object seen random (placing, places, is) =
    let none : seen.drawn ≡ 0 = ap (λ (s : Seen). s.drawn) is in
    omega (arith, none)
placing_within can true first object seen random (may, is) =
    let none : seen.drawn ≡ 0 = ap (λ (s : Seen). s.drawn) is in
    omega (arith, none)

loads_within : (can : Bool) (first : Seen) (opened : Result Object ContextFault) (seen : Seen)
    (random : List ℕ)
    → first.drawn ≤ length random → Loads can first opened seen → seen.drawn ≤ length random
loads_within can first (Ok object) seen random few (refused, places) =
    placing_within can refused first object seen random places
loads_within can first (Err fault) seen random few is =
    let same : seen.drawn ≡ first.drawn = ap (λ (s : Seen). s.drawn) is in
    omega (arith, few, same)

pub sends_within : (can : Bool) (first : Seen) (buffer random : List ℕ) (locality : ℕ)
    (sent : Option Sent) (seen : Seen)
    → first.drawn ≤ length random → Sends can first buffer locality random sent seen
    → seen.drawn ≤ length random
sends_within can first buffer random locality (Some sent) seen few (second, passes, is) =
    let same : seen.drawn ≡ second.drawn = ap (λ (s : Seen). s.drawn) is in
    let most = no_more_drawn can first.layer first.step.after sent.command locality 0 random second
    passes in
    omega (arith, same, most)
sends_within can first buffer random locality None seen few is =
    let same : seen.drawn ≡ first.drawn = ap (λ (s : Seen). s.drawn) is in
    omega (arith, few, same)

pub after_within : (can : Bool) (first : Seen) (buffer random : List ℕ) (locality : ℕ)
    (asked : Option (List ℕ)) (seen : Seen)
    → first.drawn ≤ length random → LoadsOrSends can first buffer locality random asked seen
    → seen.drawn ≤ length random
after_within can first buffer random locality (Some context) seen few loads =
    loads_within can first (opened_after first context) seen random few loads
after_within can first buffer random locality None seen few sends =
    sends_within can first buffer random locality (sent_after first buffer) seen few sends

asks_within : (can : Bool) (layer : Completion) (old : Record) (buffer : List ℕ)
    (locality elapsed : ℕ) (random : List ℕ) (seen : Seen)
    → AsksFirst can layer old buffer locality elapsed random seen → seen.drawn ≤ length random
asks_within can layer old buffer locality elapsed random seen (first, passes, rest) =
    after_within can first buffer random locality (asked_after first buffer) seen
    (no_more_drawn can layer old buffer locality elapsed random first passes) rest

pub if_within : (can completes : Bool) (layer : Completion) (old : Record) (buffer : List ℕ)
    (locality elapsed : ℕ) (random : List ℕ) (seen : Seen)
    → CompletesIf can completes layer old (Given buffer locality elapsed random) seen
    → seen.drawn ≤ length random
if_within can false layer old buffer locality elapsed random seen passes =
    no_more_drawn can layer old buffer locality elapsed random seen passes
if_within can true layer old buffer locality elapsed random seen completes =
    asks_within can layer old (heard_buffer layer buffer) locality elapsed random seen completes

pub draws_within : (can : Bool) (layer : Completion) (old : Record) (c : Command) (seen : Seen)
    → Executed can layer old c seen → seen.drawn ≤ length c.random
draws_within can layer old c seen executed =
    if_within can c.completes layer old c.buffer c.locality c.elapsed c.random seen executed

-- ---- the device draws no random bytes for a command that loads the context of an object, or for
-- which the layer sends a command

-- a response that reports success is not a refusal: the third byte of its response code is 0, not 1
framed_success : (tag : ℕ) (body : List ℕ) → is_refusal 0x143 (framed_message tag 0 body) ≡ true
    → ⊥
framed_success tag body is =
    let same : framed_message tag 0 body ≡ refusal 0x143 =
    (bytes_eq-Decides (framed_message tag 0 body) (refusal 0x143)).0 is in
    let never : 0 ≡ 1 = ap (λ (l : List ℕ). get_or l 8 0) same in
    absurd cc

success_no_refusal : (entries : List Entry) (handle : Option Handle) (answer area : List ℕ)
    → is_refusal 0x143 (success_text entries handle answer area) ≡ true → ⊥
unfolding success_text
success_no_refusal [] handle answer area is =
    framed_success 0x8001 (handle_answer handle ++ answer) is
success_no_refusal (entry ∷ entries) handle answer area is =
    framed_success 0x8002 (handle_answer handle ++ to_be_bytes w32 (length answer) ++ answer
    ++ area) is

refused_draws_none : (r : Record) (random : List ℕ) (a : Result Accepted RefusedCommand)
    → is_refusal 0x143 (stepped_of r random a).response ≡ true
    → drawn_by_command random a 0 ≡ 0
unfolding answer_to
refused_draws_none r random (Ok a) is = absurd (success_no_refusal _ _ _ _ is)
refused_draws_none r random (Err e) is = refl

and_right : (a b : Bool) → (a && b) ≡ true → b ≡ true
and_right true b is = is
and_right false b is = absurd (false≢true is)

if_some : {X : Type 0} (test : Bool) (found : Option X) (x : X)
    → (if test then found else None) ≡ Some x → test ≡ true
if_some true found x is = refl
if_some false found x is = absurd cc

asked_refused : (r : Record) (buffer response context : List ℕ)
    → context_asked r buffer response ≡ Some context → is_refusal 0x143 response ≡ true
unfolding context_asked
asked_refused r buffer response context is =
    and_right r.fixed.started (is_refusal 0x143 response)
    (if_some _ (object_context_in (plain_command buffer)) context is)

sent_refused : (r : Record) (c : Completion) (buffer response : List ℕ) (sent : Sent)
    → sent_for r c buffer response ≡ Some sent → is_refusal 0x143 response ≡ true
unfolding sent_for
sent_refused r c buffer response sent is =
    and_right r.fixed.started (is_refusal 0x143 response)
    (if_some _ (sent_in r c (authorized_command buffer)) sent is)

-- a command that the device refused with COMMAND_CODE draws no random bytes
draws_none : (layer : Completion) (old : Record) (buffer : List ℕ) (locality elapsed : ℕ)
    (random : List ℕ) (first : Seen)
    → Passes false layer old (Given buffer locality elapsed random) first
    → is_refusal 0x143 first.step.response ≡ true
    → drawn_by old (Given buffer locality elapsed random) 0 ≡ 0
draws_none layer old buffer locality elapsed random first passes refused =
    let step_is : first.step ≡ step old (Given buffer locality elapsed random) =
    passes.executes.exactly refl in
    refused_draws_none (after_tick old elapsed) random
    (acceptance_in (after_tick old elapsed) buffer locality random)
    (subst (λ (x : Stepped). is_refusal 0x143 x.response ≡ true) step_is refused)

pub asked_draws_none : (layer : Completion) (old : Record) (buffer : List ℕ) (locality elapsed : ℕ)
    (random : List ℕ) (first : Seen) (context : List ℕ)
    → Passes false layer old (Given buffer locality elapsed random) first
    → asked_after first buffer ≡ Some context
    → drawn_by old (Given buffer locality elapsed random) 0 ≡ 0
asked_draws_none layer old buffer locality elapsed random first context passes asked =
    draws_none layer old buffer locality elapsed random first passes
    (asked_refused first.step.after buffer first.step.response context asked)

pub sent_draws_none : (layer : Completion) (old : Record) (buffer : List ℕ) (locality elapsed : ℕ)
    (random : List ℕ) (first : Seen) (sent : Sent)
    → Passes false layer old (Given buffer locality elapsed random) first
    → sent_after first buffer ≡ Some sent
    → drawn_by old (Given buffer locality elapsed random) 0 ≡ 0
sent_draws_none layer old buffer locality elapsed random first sent passes is =
    draws_none layer old buffer locality elapsed random first passes
    (sent_refused first.step.after first.layer buffer first.step.response sent is)
