-- Random bytes that a command did not draw affect neither the command nor the completing layer.
use Rattle.std.proofs.Common.{◌≡◌, ◌≤◌, ◌-◌, ℕ, Bool, true, false, List, ◌++◌, length, replicate, take, Option, Some, None, refl, subst, sym, ap, ◌∙◌}
use native.Mathlib.Omega.{arith}
use Rattle.std.proofs.lemmas.List.{length-append, length-replicate, length-take-le}
use Rattle.tpm_record.specs.Record.{Record}
use Rattle.tpm_step.specs.step.Events.{Given, PlainEvent}
use Rattle.tpm_step.specs.step.Execution.{Executes}
use Rattle.tpm_machine.specs.Drawn.{drawn_by}
use Rattle.tpm_machine.proofs.Following.{execution_follows}
use Rattle.tpm_journal.specs.draw_laws.Bytes.{AgreeOnDrawn, zeros_behind}
use Rattle.tpm_journal.proofs.draw_laws.Executions.{draws_alike, executes_alike, replays, replay_draws}
use Rattle.tpm_completion.specs.Execution.{AsksFirst, LoadsOrSends, CompletesIf, Passes, Seen, Sends, asked_after, sent_after}
use Rattle.tpm_completion.specs.Hiding.{heard_buffer}
use Rattle.tpm_completion.specs.declared.completion.Completion.{Completion}
use Rattle.tpm_completion.specs.declared.sending.Sent.{Sent}
use Rattle.tpm_journal_text.specs.Entry.{PlainEntry}
use Rattle.tpm_journal.specs.Command.{command_event}
use Rattle.tpm_journal.specs.Living.{Answers, IgnoresUndrawn, Lives}
use Rattle.tpm_journal.proofs.Again.{lives_again}
use Rattle.tpm_journal.proofs.Drawing.{asked_draws_none, after_within, draws_within, no_more_drawn, sends_within, sent_draws_none}

-- replacing the random bytes of an event does not change the effect of passing the event to the
-- device, if the device executes it in the same way and draws the same number of bytes
passes_with : (layer : Completion) (old : Record) (event other : PlainEvent) (seen : Seen)
    → Passes false layer old event seen
    → Executes false old other seen.step → drawn_by old other seen.step.row.check
    ≡ drawn_by old event seen.step.row.check
    → Passes false layer old other seen
passes_with layer old event other seen passes executes draws = record {
  executes = executes;
  history = λ history follows. execution_follows false old other seen.step history executes follows;
  layer = passes.layer;
  drawn = passes.drawn ∙ sym draws;
}

-- replacing undrawn random bytes by zeros does not change the effect of passing an event to the
-- device
passes_again : (layer : Completion) (old : Record) (buffer : List ℕ) (locality elapsed : ℕ)
    (random : List ℕ) (seen : Seen)
    → Passes false layer old (Given buffer locality elapsed random) seen
    → Passes false layer old (Given buffer locality elapsed (zeros_behind seen.drawn random)) seen
passes_again layer old buffer locality elapsed random seen passes =
    let event = Given buffer locality elapsed random in
    subst (λ (n : ℕ). Passes false layer old (Given buffer locality elapsed (zeros_behind n random))
    seen) (sym passes.drawn)
    (passes_with layer old event _ seen passes (replays old event seen.step passes.executes)
    (replay_draws old event seen.step passes.executes))

-- if an event draws no random bytes, replacing them does not change the effect of passing the event
-- to the device
passes_anyhow : (layer : Completion) (old : Record) (buffer : List ℕ) (locality elapsed : ℕ)
    (random other : List ℕ) (seen : Seen)
    → Passes false layer old (Given buffer locality elapsed random) seen
    → drawn_by old (Given buffer locality elapsed random) 0 ≡ 0
    → length other ≡ length random
    → Passes false layer old (Given buffer locality elapsed other) seen
passes_anyhow layer old buffer locality elapsed random other seen passes none as_long =
    let agree : AgreeOnDrawn old buffer locality elapsed random other =
    (as_long, ap (λ (n : ℕ). take n other) none ∙ ap (λ (n : ℕ). take n random) (sym none)) in
    passes_with layer old (Given buffer locality elapsed random) _ seen passes
    (executes_alike old buffer locality elapsed random other agree false seen.step passes.executes)
    (draws_alike old buffer locality elapsed random other agree seen.step.row.check)

zeros_many : (n : ℕ) (random : List ℕ) → n ≤ length random → length random ≡ 256
    → length (zeros_behind n random) ≡ length random
zeros_many n random few all =
    length-append (take n random) (replicate (256 - n) 0)
    ∙ omega (arith, few, all, length-take-le n random few, length-replicate {A = ℕ} (256 - n) 0)

-- the random bytes that a command drew, followed by zeros
abbrev kept : Seen → List ℕ → List ℕ
kept seen random = zeros_behind seen.drawn random

-- replacing undrawn random bytes by zeros does not change the device's first execution of a command
sends_first : (layer : Completion) (old : Record) (first : Seen) (buffer : List ℕ)
    (locality elapsed : ℕ) (random : List ℕ) (sent : Option Sent) (seen : Seen)
    → sent ≡ sent_after first buffer
    → Passes false layer old (Given buffer locality elapsed random) first
    → Sends false first buffer locality random sent seen
    → Passes false layer old (Given buffer locality elapsed (kept seen random)) first
sends_first layer old first buffer locality elapsed random (Some sent) seen given passes
    sends =
    let all : length random ≡ 256 = passes.executes.happens.2 in
    let few : seen.drawn ≤ length random =
    sends_within false first buffer random locality (Some sent) seen
    (no_more_drawn false layer old buffer locality elapsed random first passes) sends in
    passes_anyhow layer old buffer locality elapsed random (kept seen random) first passes
    (sent_draws_none layer old buffer locality elapsed random first sent passes (sym given))
    (zeros_many seen.drawn random few all)
sends_first layer old first buffer locality elapsed random None seen given passes is =
    let same : seen.drawn ≡ first.drawn = ap (λ (s : Seen). s.drawn) is in
    subst (λ (n : ℕ). Passes false layer old (Given buffer locality elapsed (zeros_behind n random))
    first) (sym same)
    (passes_again layer old buffer locality elapsed random first passes)

first_again : (layer : Completion) (old : Record) (first : Seen) (buffer : List ℕ)
    (locality elapsed : ℕ) (random : List ℕ) (asked : Option (List ℕ)) (seen : Seen)
    → asked ≡ asked_after first buffer
    → Passes false layer old (Given buffer locality elapsed random) first
    → LoadsOrSends false first buffer locality random asked seen
    → Passes false layer old (Given buffer locality elapsed (kept seen random)) first
first_again layer old first buffer locality elapsed random (Some context) seen given passes
    loads =
    let all : length random ≡ 256 = passes.executes.happens.2 in
    let few : seen.drawn ≤ length random =
    after_within false first buffer random locality (Some context) seen
    (no_more_drawn false layer old buffer locality elapsed random first passes) loads in
    passes_anyhow layer old buffer locality elapsed random (kept seen random) first passes
    (asked_draws_none layer old buffer locality elapsed random first context passes
    (sym given)) (zeros_many seen.drawn random few all)
first_again layer old first buffer locality elapsed random None seen given passes sends =
    sends_first layer old first buffer locality elapsed random (sent_after first buffer) seen
    refl passes sends

-- replacing undrawn random bytes by zeros does not change the effect of the command that the layer
-- sends
sends_again : (first : Seen) (buffer : List ℕ) (locality : ℕ) (random : List ℕ) (sent : Option Sent)
    (seen : Seen)
    → Sends false first buffer locality random sent seen
    → Sends false first buffer locality (kept seen random) sent seen
sends_again first buffer locality random (Some sent) seen (second, passes, is) =
    let same : seen.drawn ≡ second.drawn = ap (λ (s : Seen). s.drawn) is in (
      second,
      subst (λ (n : ℕ). Passes false first.layer first.step.after
          (Given sent.command locality 0 (zeros_behind n random)) second) (sym same)
          (passes_again first.layer first.step.after sent.command locality 0 random second passes),
      is,
    )
sends_again first buffer locality random None seen is = is

after_again : (first : Seen) (buffer : List ℕ) (locality : ℕ) (random : List ℕ)
    (asked : Option (List ℕ)) (seen : Seen)
    → LoadsOrSends false first buffer locality random asked seen
    → LoadsOrSends false first buffer locality (kept seen random) asked seen
after_again first buffer locality random (Some context) seen loads = loads
after_again first buffer locality random None seen sends =
    sends_again first buffer locality random (sent_after first buffer) seen sends

asks_again : (layer : Completion) (old : Record) (buffer : List ℕ) (locality elapsed : ℕ)
    (random : List ℕ) (seen : Seen)
    → AsksFirst false layer old buffer locality elapsed random seen
    → AsksFirst false layer old buffer locality elapsed (kept seen random) seen
asks_again layer old buffer locality elapsed random seen (first, passes, rest) = (
  first,
  first_again layer old first buffer locality elapsed random (asked_after first buffer) seen
      refl passes rest,
  after_again first buffer locality random (asked_after first buffer) seen rest,
)

executed_again : (completes : Bool) (layer : Completion) (old : Record) (buffer : List ℕ)
    (locality elapsed : ℕ) (random : List ℕ) (seen : Seen)
    → CompletesIf false completes layer old (Given buffer locality elapsed random) seen
    → CompletesIf false completes layer old (Given buffer locality elapsed (kept seen random)) seen
executed_again false layer old buffer locality elapsed random seen passes =
    passes_again layer old buffer locality elapsed random seen passes
executed_again true layer old buffer locality elapsed random seen completes =
    asks_again layer old (heard_buffer layer buffer) locality elapsed random seen completes

pub ignores : IgnoresUndrawn
ignores layer old c seen executed =
    let few : seen.drawn ≤ length c.random = draws_within false layer old c seen executed in
    subst (λ (n : ℕ). CompletesIf false c.completes layer old
    (Given c.buffer c.locality c.elapsed (take seen.drawn c.random ++ replicate (256 - n) 0))
    seen)
    (sym (length-take-le seen.drawn c.random few))
    (executed_again c.completes layer old c.buffer c.locality c.elapsed c.random seen executed)

-- executing the entries of a running device again results in the same layer and record
pub lives_alike : (layer : Completion) (old : Record) (entries : List PlainEntry)
    (after : Completion) (new : Record)
    → Lives layer old entries after new → Answers layer old entries after new
lives_alike = lives_again ignores
