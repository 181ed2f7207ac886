-- If two accepted events of a run form a replay (`IsRunReplay`), their commands form a replay in
-- the run's history. Therefore a nonce repeats, or an HMAC repeats.
use Rattle.std.proofs.Common.{◌≡◌, ℕ, Bool, List, [], ◌∷◌, ◌++◌, Some, Result, Ok, Err, IfOk, slice_get, refl, ap, sym, subst, ◌∙◌}
use Rattle.tpm_bytes.proofs.Fields.{ok_is}
use Rattle.tpm_types_common.specs.declared.rc.Rc.{Rc}
use Rattle.tpm_types_common.specs.declared.refused.Refused.{Refused}
use Rattle.tpm_types_command.specs.Command.{Whole, command_at}
use Rattle.tpm_record.specs.Record.{Record}
use Rattle.tpm_record.specs.Tick.{after_tick}
use Rattle.tpm_auth.specs.Grant.{authorize}
use Rattle.tpm_step.specs.step.Events.{PlainEvent, Given, Cycled, Placed}
use Rattle.tpm_step.specs.step.Execution.{Executes}
use Rattle.tpm_step.specs.step.General.{general}
use Rattle.tpm_step.specs.step.Safe.{AcceptsModestly}
use Rattle.tpm_step.specs.step.Step.{Accepted, Stepped, acceptance, acceptance_in, request_in}
use Rattle.tpm_step.specs.step.Table.{row_of}
use Rattle.tpm_step.specs.declared.refused_command.RefusedCommand.{RefusedCommand}
use Rattle.tpm_step.proofs.rows.Binding.{ok_at, ok_bind, ok_in_command, ok_then}
use Rattle.tpm_step.proofs.step.Decoding.{general_reads}
use Rattle.tpm_step.specs.uses.EntryHmacs.{AllShowHmacs}
use Rattle.tpm_step.specs.history.Executions.{Execution, Leads, history_after, with_execution}
use Rattle.tpm_step.specs.history.History.{AcceptedCommand, Done, History, command_of, with_command}
use Rattle.tpm_step.specs.uses.Replays.{IsReplay, LivesThrough}
use Rattle.tpm_step.specs.uses.RunReplays.{Gives, IsRecorded, IsRunReplay, RunRepeats, RunReplay, RunReplaysRepeat, replay_between}
use Rattle.tpm_step.proofs.history.Leading.{history_apart}
use Rattle.tpm_step.proofs.uses.Replays.{replays_repeat}

-- ---- the command that an accepted buffer encodes

acceptance_of : (r : Record) (c : Whole) (locality : ℕ) (random : List ℕ)
    → IfOk (acceptance r c locality random) (λ a. a.command ≡ c)
unfolding acceptance
acceptance_of r c locality random =
    ok_bind _ (authorize r c locality) _ (λ grants.
    ok_bind _ (row_of r c.code (request_in r c grants locality random)) _ (λ success. refl))

abbrev IsSpelled : List ℕ → Accepted → Type 0
IsSpelled buffer a = command_at buffer ≡ Ok (a.command, [])

accepted_spells : (r : Record) (buffer : List ℕ) (locality : ℕ) (random : List ℕ)
    → IfOk (acceptance_in r buffer locality random) (IsSpelled buffer)
unfolding acceptance_in
accepted_spells r buffer locality random =
    ok_then (λ c. command_at buffer ≡ Ok (c, [])) (IsSpelled buffer) (general r buffer) _
    (general_reads r buffer) (λ c is.
    ok_in_command (IsSpelled buffer) c.code (acceptance r c locality random)
    (by (acceptance r c locality random) c (acceptance_of r c locality random) is))
  where
    by : (x : Result Accepted Refused) (c : Whole) → IfOk x (λ a. a.command ≡ c)
        → command_at buffer ≡ Ok (c, []) → IfOk x (IsSpelled buffer)
    by (Ok a) c same is =
        is ∙ ap (λ (d : Whole). let it : Result (Whole × List ℕ) Rc = Ok (d, []) in it) (sym same)
    by (Err e) c same is = tt

-- ---- accepted events

-- The event was this accepted command. The buffer encodes the command, and every history records
-- the event as this command.
record IsAcceptedAt (buffer : List ℕ) (one : Execution) (c : AcceptedCommand) : Type 0 where
  spelled : command_at buffer ≡ Ok (c.command, [])
  is : (before : History) → with_execution one before ≡ Done c ∷ before

modestly_accepted : (r : Record) (event : PlainEvent) (x : Stepped) (buffer : List ℕ)
    → AcceptsModestly r event → Gives buffer event → x.row.check ≡ 0
    → (c : AcceptedCommand) × IsAcceptedAt buffer (record { before = r; event = event; seen = x }) c
modestly_accepted r (Given given locality elapsed random) x buffer (a, is, modest) gives passes =
    let t = after_tick r elapsed in (
      command_of t a,
      record {
        spelled = ap command_at (sym gives)
            ∙ ok_at (IsSpelled given) (acceptance_in t given locality random) a
            (accepted_spells t given locality random) is;
        is =
            λ before. ap (λ (check : ℕ). with_command t (acceptance_in t given locality random)
            check
            before) passes
            ∙ ap (λ (y : Result Accepted RefusedCommand). with_command t y 0 before) is;
      },
    )
modestly_accepted r Cycled x buffer modest gives passes = absurd gives
modestly_accepted r (Placed object) x buffer modest gives passes = absurd gives

accepted_at : (can : Bool) (buffer : List ℕ) (one : Execution)
    → Executes can one.before one.event one.seen → Gives buffer one.event → one.seen.row.check ≡ 0
    → (c : AcceptedCommand) × IsAcceptedAt buffer one c
accepted_at can buffer one executes gives passes =
    modestly_accepted one.before one.event one.seen buffer (executes.modest passes) gives passes

-- an accepted event is recorded as the command that its buffer encodes
pub accepted_recorded : (can : Bool) (old : Record) (buffer : List ℕ) (locality elapsed : ℕ)
    (random : List ℕ) (x : Stepped) → Executes can old (Given buffer locality elapsed random) x
    → x.row.check ≡ 0 → IsRecorded old (Given buffer locality elapsed random) x buffer
accepted_recorded can old buffer locality elapsed random x executes passes =
    let (c, at) = modestly_accepted old (Given buffer locality elapsed random) x buffer
    (executes.modest passes) refl passes in
    record { command = c; spelled = at.spelled; recorded = at.is }

-- ---- executions one after another

executed : (can : Bool) (old : Record) (earlier : List Execution) (one : Execution)
    (later : List Execution) (new : Record) → Leads can old (earlier ++ one ∷ later) new
    → Executes can one.before one.event one.seen × Leads can one.seen.after later new
executed can old [] one later new leads =
    (subst (λ (r : Record). Executes can r one.event one.seen) (sym leads.0) leads.1, leads.2)
executed can old (first ∷ earlier) one later new leads =
    executed can first.seen.after earlier one later new leads.2

history_joined : (history : History) (earlier later : List Execution)
    → history_after history (earlier ++ later) ≡ history_after (history_after history earlier) later
history_joined history [] later = refl
history_joined history (one ∷ earlier) later =
    history_joined (with_execution one history) earlier later

module _ (can : Bool) (old : Record) (history : History) (replay : RunReplay)
    (later : List Execution) (new : Record)
    (leads : Leads can old (replay.earlier ++ (replay.one ∷ replay.meanwhile ++ replay.two ∷ later))
    new)
    (shows : AllShowHmacs
    (history_after history
    (replay.earlier ++ (replay.one ∷ replay.meanwhile ++ replay.two ∷ later))))
    (holds : IsRunReplay history replay) where
  abbrev before : History
  before = history_after history replay.earlier

  abbrev between : History
  between = history_after [] replay.meanwhile

  from_one : Executes can replay.one.before replay.one.event replay.one.seen
      × Leads can replay.one.seen.after (replay.meanwhile ++ replay.two ∷ later) new
  from_one = executed can old replay.earlier replay.one (replay.meanwhile ++ replay.two ∷ later) new
      leads

  module _ (first second : AcceptedCommand) (at_first : IsAcceptedAt replay.buffer replay.one first)
      (at_second : IsAcceptedAt replay.buffer replay.two second) where
    whole : history_after history
        (replay.earlier ++ (replay.one ∷ replay.meanwhile ++ replay.two ∷ later))
        ≡ history_after [] later ++ (Done second ∷ between ++ Done first ∷ before)
    whole =
        history_joined history replay.earlier (replay.one ∷ replay.meanwhile ++ replay.two ∷ later)
        ∙ ap (λ (h : History). history_after h (replay.meanwhile ++ replay.two ∷ later))
        (at_first.is before)
        ∙ history_joined (Done first ∷ before) replay.meanwhile (replay.two ∷ later)
        ∙ ap (λ (h : History). history_after (with_execution replay.two h) later)
        (history_apart replay.meanwhile (Done first ∷ before))
        ∙ ap (λ (h : History). history_after h later)
        (at_second.is (between ++ Done first ∷ before))
        ∙ history_apart later (Done second ∷ between ++ Done first ∷ before)

    stretch : history_after [] (replay.one ∷ replay.meanwhile) ≡ between ++ Done first ∷ []
    stretch = ap (λ (h : History). history_after h replay.meanwhile) (at_first.is [])
        ∙ history_apart replay.meanwhile (Done first ∷ [])

    entry_there : slice_get first.command.entries replay.place ≡ Some replay.entry
    entry_there =
        let spelled = ok_is {E = Rc} (first.command, []) (holds.command, [])
        (sym at_first.spelled ∙ holds.spelled) in
        let same : first.command ≡ holds.command = ap (λ (x : Whole × List ℕ). x.0) spelled in
        ap (λ (c : Whole). slice_get c.entries replay.place) same ∙ holds.entry

    in_history : IsReplay (replay_between history replay first second)
    in_history = record {
      spelled_first = at_first.spelled;
      spelled_second = at_second.spelled;
      entry = entry_there;
      has_hmac = holds.has_hmac;
      names_session = holds.names_session;
      lives = holds.lives;
      is_hmac = holds.is_hmac;
      lives_on = subst (λ (events : History). LivesThrough replay.entry.session events before)
          stretch holds.lives_on;
    }

    repeats : RunRepeats history replay
    repeats = record {
      first = first;
      second = second;
      at_first = at_first.is;
      at_second = at_second.is;
      repeats =
          replays_repeat
          (history_after history
          (replay.earlier ++ (replay.one ∷ replay.meanwhile ++ replay.two ∷ later))) shows
          (replay_between history replay first second) (history_after [] later) whole
          in_history;
    }

  run_repeats : RunRepeats history replay
  run_repeats =
      let (first, at_first) =
      accepted_at can replay.buffer replay.one from_one.0 holds.gives holds.accepted in
      let (second, at_second) =
      accepted_at can replay.buffer replay.two
      (executed can replay.one.seen.after replay.meanwhile replay.two later new from_one.1).0
      holds.gives_again holds.accepted_again in
      repeats first second at_first at_second

pub run_replays_repeat : (can : Bool) (old : Record) (executions : List Execution) (new : Record)
    (history : History) → Leads can old executions new
    → AllShowHmacs (history_after history executions) → RunReplaysRepeat history executions
run_replays_repeat can old executions new history leads shows replay later is holds =
    run_repeats can old history replay later new
    (subst (λ (l : List Execution). Leads can old l new) is leads)
    (subst (λ (l : List Execution). AllShowHmacs (history_after history l)) is shows) holds
