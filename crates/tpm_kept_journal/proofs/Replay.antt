-- Executing the entry of a command has the same effect as the command had.
use Rattle.std.proofs.Common.{◌≡◌, ◌≤◌, ◌-◌, ◌&&◌, ℕ, Bool, true, false, List, [], ◌∷◌, ◌++◌, length, replicate, take, Option, Some, None, Result, Ok, Err, refl, sym, ap, ◌∙◌, get_or, arith, if◌then◌else◌}
use Rattle.std.specs.Int.{w32, to_be_bytes}
use Rattle.std.proofs.lemmas.Bool.{false≢true}
use Rattle.std.proofs.lemmas.List.{length-append, length-replicate, length-take-le}
use Rattle.std.proofs.lemmas.Slice.Eq.{bytes_eq-Decides}
use Rattle.tpm_completion.specs.Answer.{is_refusal, refusal}
use Rattle.tpm_completion.specs.Command.{authorized_command, plain_command}
use Rattle.tpm_completion.specs.Completed.{completed_after, completed_effect, completed_with, device_effect, done_after, loaded_after, sending_after}
use Rattle.tpm_completion.specs.Completion.{forgotten}
use Rattle.tpm_completion.specs.Execution.{Seen, asked_after, opened_after, sent_after, sent_effect}
use Rattle.tpm_completion.specs.Hiding.{heard_buffer}
use Rattle.tpm_completion.specs.Loading.{context_asked, object_context_in}
use Rattle.tpm_completion.specs.Sending.{sent_for, sent_in}
use Rattle.tpm_completion.specs.declared.completion.Completion.{Completion}
use Rattle.tpm_completion.specs.declared.sending.Sent.{Sent}
use Rattle.tpm_journal.specs.Command.{Command, entry_of, padded}
use Rattle.tpm_journal.specs.draw_laws.Bytes.{AgreeOnDrawn, zeros_behind}
use Rattle.tpm_journal.proofs.draw_laws.Executions.{draws_alike, steps_alike}
use Rattle.tpm_journal.proofs.draw_laws.Fronts.{front_kept}
use Rattle.tpm_context.specs.declared.fault.ContextFault.{ContextFault}
use Rattle.tpm_machine.specs.Drawn.{drawn_by, drawn_by_command}
use Rattle.tpm_object.specs.declared.object.Object.{Object}
use Rattle.tpm_record.specs.Record.{Record}
use Rattle.tpm_record.specs.Tick.{after_tick}
use Rattle.tpm_step.specs.step.Answer.{answer_to, framed_message, handle_answer, success_text}
use Rattle.tpm_step.specs.step.Events.{Given, PlainEvent}
use Rattle.tpm_step.specs.step.Step.{Accepted, Stepped, acceptance_in, step, stepped_of}
use Rattle.tpm_step.specs.declared.refused_command.RefusedCommand.{RefusedCommand}
use Rattle.tpm_types_common.specs.declared.handle.Handle.{Handle}
use Rattle.tpm_types_command.specs.AuthEntry.{Entry}
use Rattle.tpm_kept_journal.specs.Effect.{effect}
use Rattle.tpm_kept_journal.specs.Opening.{performance}
use Rattle.tpm_kept_journal.specs.State.{DeviceState}

-- ---- without the completing layer

-- The number of bytes drawn does not depend on the check that refused the command, because a
-- refused command draws none.
drawn_told : (r : Record) (random : List ℕ) (a : Result Accepted RefusedCommand)
    → drawn_by_command random a (stepped_of r random a).row.check ≡ drawn_by_command random a 0
drawn_told r random (Ok a) = refl
drawn_told r random (Err e) = refl

-- A command draws at most as many random bytes as are available.
drawn_of_those : (random : List ℕ) (a : Result Accepted RefusedCommand)
    → drawn_by_command random a 0 ≤ length random
drawn_of_those random (Ok a) = omega arith
drawn_of_those random (Err e) = omega arith

abbrev seen_made : Completion → (Stepped → ℕ) → Stepped → Seen
seen_made c drawn x = record { step = x; layer = forgotten x.after c; drawn = drawn x }

module _ (c : Completion) (old : Record) (buffer : List ℕ) (locality elapsed : ℕ)
    (random : List ℕ) where
  abbrev event : List ℕ → PlainEvent
  event bytes = Given buffer locality elapsed bytes

  abbrev drawn : ℕ
  drawn = drawn_by old (event random) 0

  -- The effect reports the number of random bytes that the command draws.
  pub passed_drawn : (device_effect c old (event random)).drawn ≡ drawn
  unfolding device_effect
  passed_drawn = drawn_told (after_tick old elapsed) random
      (acceptance_in (after_tick old elapsed) buffer locality random)

  pub drawn_few : drawn ≤ length random
  drawn_few =
      drawn_of_those random (acceptance_in (after_tick old elapsed) buffer locality random)

  -- The effect depends only on the random bytes that the command draws.
  pub passed_alike : (other : List ℕ) → AgreeOnDrawn old buffer locality elapsed random other
      → device_effect c old (event other) ≡ device_effect c old (event random)
  unfolding device_effect
  passed_alike other agree =
      let here : Stepped → ℕ = λ (x : Stepped). drawn_by old (event other) x.row.check in
      let draws : drawn_by old (event other) (step old (event random)).row.check
      ≡ drawn_by old (event random) (step old (event random)).row.check =
      draws_alike old buffer locality elapsed random other agree
      (step old (event random)).row.check in
      ap (seen_made c here) (steps_alike old buffer locality elapsed random other agree false)
      ∙ ap (λ (n : ℕ). seen_made c (λ (x : Stepped). n) (step old (event random))) draws

  -- Replacing the random bytes after the drawn bytes by zeros does not change the drawn bytes.
  zeros_agree : length random ≡ 256
      → AgreeOnDrawn old buffer locality elapsed random (zeros_behind drawn random)
  zeros_agree all = (
    length-append (take drawn random) (replicate (256 - drawn) 0)
        ∙ omega (
          arith,
          drawn_few,
          all,
          length-take-le drawn random drawn_few,
          length-replicate {A = ℕ} (256 - drawn) 0,
        ),
    front_kept drawn random (replicate (256 - drawn) 0) drawn_few,
  )

  -- Replacing undrawn random bytes by zeros does not change the effect.
  pub passed_again : (n : ℕ) → n ≡ (device_effect c old (event random)).drawn → length random ≡ 256
      → device_effect c old (event (zeros_behind n random)) ≡ device_effect c old (event random)
  passed_again n is all =
      ap (λ (m : ℕ). device_effect c old (event (zeros_behind m random))) (is ∙ passed_drawn)
      ∙ passed_alike (zeros_behind drawn random) (zeros_agree all)

  pub few_drawn : (device_effect c old (event random)).drawn ≤ length random
  few_drawn = omega (arith, passed_drawn, drawn_few)

  -- If a command draws no random bytes, its effect is the same with equally many other random
  -- bytes.
  pub passed_anyhow : (other : List ℕ) → drawn ≡ 0 → length other ≡ length random
      → device_effect c old (event other) ≡ device_effect c old (event random)
  passed_anyhow other none as_long =
      passed_alike other (
        as_long,
        ap (λ (n : ℕ). take n other) none
            ∙ ap (λ (n : ℕ). take n random) (sym none),
      )

-- ---- the device draws no random bytes for a command that loads the context of an object, or for
-- which the layer sends a command

-- A success does not look like the refusal 0x143: the third byte of its response code is 0, and not
-- 1.
framed_success : (tag : ℕ) (body : List ℕ) → is_refusal 0x143 (framed_message tag 0 body) ≡ true
    → ⊥
framed_success tag body is =
    let same : framed_message tag 0 body ≡ refusal 0x143 =
    (bytes_eq-Decides (framed_message tag 0 body) (refusal 0x143)).0 is in
    let never : 0 ≡ 1 = ap (λ (l : List ℕ). get_or l 8 0) same in
    absurd cc

success_no_refusal : (entries : List Entry) (handle : Option Handle) (answer area : List ℕ)
    → is_refusal 0x143 (success_text entries handle answer area) ≡ true → ⊥
unfolding success_text
success_no_refusal [] handle answer area is =
    framed_success 0x8001 (handle_answer handle ++ answer) is
success_no_refusal (entry ∷ entries) handle answer area is =
    framed_success 0x8002 (handle_answer handle ++ to_be_bytes w32 (length answer) ++ answer
    ++ area) is

refused_draws_none : (r : Record) (random : List ℕ) (a : Result Accepted RefusedCommand)
    → is_refusal 0x143 (stepped_of r random a).response ≡ true
    → drawn_by_command random a 0 ≡ 0
unfolding answer_to
refused_draws_none r random (Ok a) is = absurd (success_no_refusal _ _ _ _ is)
refused_draws_none r random (Err e) is = refl

and_right : (a b : Bool) → (a && b) ≡ true → b ≡ true
and_right true b is = is
and_right false b is = absurd (false≢true is)

if_some : {X : Type 0} (test : Bool) (found : Option X) (x : X)
    → (if test then found else None) ≡ Some x → test ≡ true
if_some true found x is = refl
if_some false found x is = absurd cc

asked_refused : (r : Record) (buffer response context : List ℕ)
    → context_asked r buffer response ≡ Some context → is_refusal 0x143 response ≡ true
unfolding context_asked
asked_refused r buffer response context is =
    and_right r.fixed.started (is_refusal 0x143 response)
    (if_some _ (object_context_in (plain_command buffer)) context is)

asked_draws_none : (c : Completion) (old : Record) (buffer : List ℕ) (locality elapsed : ℕ)
    (random context : List ℕ)
    → asked_after (device_effect c old (Given buffer locality elapsed random)) buffer ≡ Some context
    → drawn_by old (Given buffer locality elapsed random) 0 ≡ 0
unfolding device_effect
asked_draws_none c old buffer locality elapsed random context asked =
    refused_draws_none (after_tick old elapsed) random
    (acceptance_in (after_tick old elapsed) buffer locality random)
    (asked_refused _ buffer _ context asked)

sent_refused : (r : Record) (c : Completion) (buffer response : List ℕ) (sent : Sent)
    → sent_for r c buffer response ≡ Some sent → is_refusal 0x143 response ≡ true
unfolding sent_for
sent_refused r c buffer response sent is =
    and_right r.fixed.started (is_refusal 0x143 response)
    (if_some _ (sent_in r c (authorized_command buffer)) sent is)

sent_draws_none : (c : Completion) (old : Record) (buffer : List ℕ) (locality elapsed : ℕ)
    (random : List ℕ) (sent : Sent)
    → sent_after (device_effect c old (Given buffer locality elapsed random)) buffer ≡ Some sent
    → drawn_by old (Given buffer locality elapsed random) 0 ≡ 0
unfolding device_effect
sent_draws_none c old buffer locality elapsed random sent is =
    refused_draws_none (after_tick old elapsed) random
    (acceptance_in (after_tick old elapsed) buffer locality random)
    (sent_refused _ _ buffer _ sent is)

-- ---- with the completing layer

zeros_many : (n : ℕ) (random : List ℕ) → n ≤ length random → length random ≡ 256
    → length (zeros_behind n random) ≡ length random
zeros_many n random few all =
    length-append (take n random) (replicate (256 - n) 0)
    ∙ omega (arith, few, all, length-take-le n random few, length-replicate {A = ℕ} (256 - n) 0)

module _ (c : Completion) (old : Record) (buffer : List ℕ) (locality elapsed : ℕ) (random : List ℕ)
    (all : length random ≡ 256) where
  abbrev first : Seen
  first = device_effect c old (Given buffer locality elapsed random)

  -- Loading a context, or refusing it, draws at most as many random bytes as are available.
  few_content : (content : Result Object ContextFault)
      → (loaded_after first content).drawn ≤ length random
  few_content (Ok object) = omega arith
  few_content (Err fault) = few_drawn c old buffer locality elapsed random

  -- A command that the layer sends draws at most as many random bytes as are available.
  few_sending : (sent : Option Sent) → (sending_after first buffer locality random sent).drawn
      ≤ length random
  few_sending (Some sent) = few_drawn first.layer first.step.after sent.command locality 0 random
  few_sending None = few_drawn c old buffer locality elapsed random

  few_behind : (asked : Option (List ℕ)) → (done_after first buffer locality random asked).drawn
      ≤ length random
  few_behind (Some context) = few_content (opened_after first context)
  few_behind None = few_sending (sent_after first buffer)

  -- Replacing random bytes that the whole command does not draw by zeros does not change the
  -- device's effect.
  sending_again : (sent : Option Sent) → sent_after first buffer ≡ sent
      → device_effect c old
      (Given buffer locality elapsed
      (zeros_behind (sending_after first buffer locality random sent).drawn random)) ≡ first
  sending_again None is = passed_again c old buffer locality elapsed random first.drawn refl all
  sending_again (Some sent) is =
      let n : ℕ = (sending_after first buffer locality random (Some sent)).drawn in
      passed_anyhow c old buffer locality elapsed random (zeros_behind n random)
      (sent_draws_none c old buffer locality elapsed random sent is)
      (zeros_many n random (few_sending (Some sent)) all)

  first_again : (asked : Option (List ℕ)) → asked_after first buffer ≡ asked
      → device_effect c old
      (Given buffer locality elapsed
      (zeros_behind (done_after first buffer locality random asked).drawn random)) ≡ first
  first_again None is = sending_again (sent_after first buffer) refl
  first_again (Some context) is =
      let n : ℕ = (done_after first buffer locality random (Some context)).drawn in
      passed_anyhow c old buffer locality elapsed random (zeros_behind n random)
      (asked_draws_none c old buffer locality elapsed random context is)
      (zeros_many n random (few_behind (Some context)) all)

  -- Replacing random bytes that the whole command does not draw by zeros does not change the effect
  -- of the command that the layer sends.
  sent_again : (sent : Option Sent)
      → sending_after first buffer locality
      (zeros_behind (sending_after first buffer locality random sent).drawn random) sent
      ≡ sending_after first buffer locality random sent
  sent_again None = refl
  sent_again (Some sent) =
      ap (λ (s : Seen). sent_effect first s sent)
      (passed_again first.layer first.step.after sent.command locality 0 random
      (sending_after first buffer locality random (Some sent)).drawn refl all)

  done_again : (asked : Option (List ℕ))
      → done_after first buffer locality
      (zeros_behind (done_after first buffer locality random asked).drawn random) asked
      ≡ done_after first buffer locality random asked
  done_again None = sent_again (sent_after first buffer)
  done_again (Some context) = refl

  -- The effect of the command with the layer, for the buffer that the device gets.
  with_again : (n : ℕ) → n ≡ (completed_with c old (Given buffer locality elapsed random)).drawn
      → completed_with c old (Given buffer locality elapsed (zeros_behind n random))
      ≡ completed_with c old (Given buffer locality elapsed random)
  with_again n is =
      ap (λ (m : ℕ). completed_with c old
      (Given buffer locality elapsed (zeros_behind m random))) is
      ∙ ap (λ (f : Seen). completed_after f buffer locality
      (zeros_behind (done_after first buffer locality random (asked_after first buffer)).drawn
      random))
      (first_again (asked_after first buffer) refl)
      ∙ done_again (asked_after first buffer)

  with_few : (completed_with c old (Given buffer locality elapsed random)).drawn ≤ length random
  with_few = few_behind (asked_after first buffer)

module _ (c : Completion) (old : Record) (buffer : List ℕ) (locality elapsed : ℕ) (random : List ℕ)
    (all : length random ≡ 256) where
  pub completed_again : (completes : Bool) (n : ℕ)
      → n ≡ (completed_effect completes c old (Given buffer locality elapsed random)).drawn
      → completed_effect completes c old (Given buffer locality elapsed (zeros_behind n random))
      ≡ completed_effect completes c old (Given buffer locality elapsed random)
  completed_again false n is = passed_again c old buffer locality elapsed random n is all
  completed_again true n is =
      with_again c old (heard_buffer c buffer) locality elapsed random all n is

  pub completed_few : (completes : Bool)
      → (completed_effect completes c old (Given buffer locality elapsed random)).drawn
      ≤ length random
  completed_few false = few_drawn c old buffer locality elapsed random
  completed_few true = with_few c old (heard_buffer c buffer) locality elapsed random all

-- ---- entries

-- An entry's padded random bytes are the drawn bytes, followed by zeros.
padded_is : (n : ℕ) (random : List ℕ) → n ≤ length random
    → padded (take n random) ≡ zeros_behind n random
padded_is n random few = ap (λ (m : ℕ). take n random ++ replicate (256 - m) 0)
    (length-take-le n random few)

-- Executing the entry of a command again has the effect that the command had.
pub performed_again : (s : DeviceState) (c : Command) → length c.random ≡ 256
    → performance s (entry_of c (effect s c)) ≡ effect s c
performed_again s c all =
    let few : (effect s c).drawn ≤ length c.random =
    completed_few s.layer s.device c.buffer c.locality c.elapsed c.random all c.completes in
    ap (λ (bytes : List ℕ). completed_effect c.completes s.layer s.device
    (Given c.buffer c.locality c.elapsed bytes))
    (padded_is (effect s c).drawn c.random few)
    ∙ completed_again s.layer s.device c.buffer c.locality c.elapsed c.random all c.completes
    (effect s c).drawn refl
