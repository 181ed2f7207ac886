-- The state of the machine and the connections after a schedule of calls: one lemma for each call,
-- and then one for all calls.
use Rattle.std.proofs.Common.{◌≡◌, ◌≢◌, ℕ, zero, suc, ◌+◌, ◌<◌, Bool, true, false, List, [], ◌∷◌, ◌++◌, length, map, take, Option, Some, None, Result, Ok, Err, slice_set, refl, sym, ap, ◌∙◌, subst, append_assoc, get_or, length-append, inl, inr}
use Rattle.std.specs.Prelude.{◌⊎◌, if◌then◌else◌}
use Rattle.std.specs.List.{AllZip, FoldsTo}
use Rattle.std.proofs.lemmas.Bool.{cases_eq}
use Rattle.std.proofs.lemmas.Option.{unwrap_or-slice_get}
use Rattle.std.proofs.Math.Seq.{get_or-append_seam}
use Rattle.tpm_containers.specs.Slots.{at_place, free}
use Rattle.tpm_containers.proofs.SlotLaws.{at_inside, at_set-here, at_set-other, lowest_free-free}
use Rattle.tpm_record.specs.Cycle.{after_cycle}
use Rattle.tpm_record.specs.IsRecord.{IsRecord}
use Rattle.tpm_record.specs.Record.{Record}
use Rattle.tpm_step.specs.step.Execution.{Executes}
use Rattle.tpm_step.specs.step.Run.{after_all}
use Rattle.tpm_step.specs.step.Step.{Stepped, outcome_step}
use Rattle.tpm_step.specs.declared.event.Outcome.{Outcome}
use Rattle.tpm_machine.specs.Executions.{Execution, Leads, power_cycle}
use Rattle.tpm_machine.proofs.Following.{power_cycle_executes, stretch_follows}
use Rattle.tpm_wire.specs.Number.{number_of}
use Rattle.tpm_wire.specs.Schedule.{Call, Closing, Does, Event, Executed, Feeding, IsOf, IsServed, Life, Opening, PowerCycled, PowerCycling, Schedules, SchedulesAreRuns, SchedulesAreServed, SchedulesLead, Turning, buffer_due, events_in, events_of, executed_events, plain_event_of, lives_after, lives_after_all, new_life, with_life}
use Rattle.tpm_wire.specs.Stream.{Cut, Cutting, Stream, cut_of, exact_cutting, fed_stream, fitting_count, new_stream, next_of}
use Rattle.tpm_wire.specs.Wire.{ClosesAt, FeedsAt, TurnsAt, TurnsBy, Wire, given_event, new_wire}
use Rattle.tpm_wire.specs.declared.fault.NoConnection.{NoConnection}
use Rattle.tpm_wire.specs.declared.host.Host.{Host}
use Rattle.tpm_wire.specs.declared.number.ConnectionNumber.{ConnectionNumber}
use Rattle.tpm_wire.specs.declared.turn.Turn.{Turn}
use Rattle.tpm_wire.specs.declared.turn.Turn.TheVariants.{Answer, Ended, Wants}
use Rattle.tpm_wire.proofs.Cutting.{buffers_stay, cut_next, read_more}
use Rattle.tpm_wire.proofs.Folds.{folds_on}

-- Both lists have the same length. For each connection number, `IsServed` holds for the
-- connection's stream and life.
record Serve (streams : List (Option Stream)) (lives : List (Option Life)) : Type 0 where
  pub many : length lives ≡ length streams
  pub each : (number : ℕ) → IsServed (at_place streams number) (at_place lives number)

length-set : {X : Type 0} (xs : List X) (i : ℕ) (x : X) → length (slice_set xs i x) ≡ length xs
length-set [] i x = refl
length-set (y ∷ xs) zero x = refl
length-set (y ∷ xs) (suc i) x = ap (λ (n : ℕ). suc n) (length-set xs i x)

set_served : (streams : List (Option Stream)) (lives : List (Option Life)) (n : ℕ)
    (stream : Option Stream) (life : Option Life) → Serve streams lives → n < length streams
    → IsServed stream life → Serve (slice_set streams n stream) (slice_set lives n life)
set_served streams lives n stream life so below here = record {
  many = length-set lives n life ∙ so.many ∙ sym (length-set streams n stream);
  each = λ number. by number (cases_eq number n);
}
  where
    by : (number : ℕ) → ((number ≡ n) ⊎ (number ≢ n))
        → IsServed (at_place (slice_set streams n stream) number)
        (at_place (slice_set lives n life) number)
    by number (inl same) =
        let s = ap (at_place (slice_set streams n stream)) same
        ∙ at_set-here streams n stream below in
        let l = ap (at_place (slice_set lives n life)) same
        ∙ at_set-here lives n life (subst (λ (m : ℕ). n < m) (sym so.many) below) in
        subst (λ (x : Option Stream). IsServed x (at_place (slice_set lives n life) number)) (sym s)
        (subst (λ (y : Option Life). IsServed stream y) (sym l) here)
    by number (inr apart) =
        let s = at_set-other streams n number stream apart in
        let l = at_set-other lives n number life apart in
        subst (λ (x : Option Stream). IsServed x (at_place (slice_set lives n life) number)) (sym s)
        (subst (λ (y : Option Life). IsServed (at_place streams number) y) (sym l)
        (so.each number))

life_of : (stream : Stream) (life : Option Life) → IsServed (Some stream) life
    → (l : Life) × (life ≡ Some l) × IsServed (Some stream) (Some l)
life_of stream None served = absurd served
life_of stream (Some l) served = (l, refl, served)

life_at : (streams : List (Option Stream)) (lives : List (Option Life)) (n : ℕ) (s : Stream)
    → Serve streams lives → at_place streams n ≡ Some s → (l : Life) × (at_place lives n ≡ Some l)
    × IsServed (Some s) (Some l)
life_at streams lives n s so is =
    life_of s (at_place lives n)
    (subst (λ (x : Option Stream). IsServed x (at_place lives n)) is (so.each n))

-- The event changes the old record to the new one. The old record need not satisfy the invariant of
-- all records (`IsRecord`).
abbrev Happens : Bool → Record → Event → Record → Type 0
Happens can old (Executed plain_event outcome) new =
    Executes can old plain_event (outcome_step new outcome)
Happens can old PowerCycled new = new ≡ after_cycle old

-- A call caused these events on the machine, and `Serve` holds after the call.
record Led (can : Bool) (old new : Wire) (lives : List (Option Life)) (events : List Event) : Type
    0 where
  pub machine : FoldsTo (Happens can) old.machine events new.machine
  pub served : Serve new.streams lives

stays : (can : Bool) (old new : Wire) (lives : List (Option Life)) → Serve old.streams lives
    → new ≡ old → Led can old new lives []
stays can old new lives so same = record {
  machine = ap (λ (w : Wire). w.machine) (sym same);
  served = rw same so;
}

-- ---- the effect of a single call

opening_led : (can : Bool) (old new : Wire) (lives : List (Option Life))
    (connection : ConnectionNumber) → Serve old.streams lives
    → Does can old (Opening (Ok connection)) new
    → Led can old new (slice_set lives (number_of connection) (Some new_life)) []
opening_led can old new lives connection so did = record {
  machine = ap (λ (w : Wire). w.machine) (sym did.1);
  served =
      rw did.1 (set_served old.streams lives (number_of connection) (Some new_stream)
      (Some new_life) so (lowest_free-free old.streams (number_of connection) did.0).0
      ([], refl, refl));
}

fed_served : (s : Stream) (bytes : List ℕ) (l : Life) → IsServed (Some s) (Some l)
    → IsServed (Some (fed_stream s bytes)) (Some (record l { bytes = l.bytes ++ bytes }))
fed_served s bytes l served = (served.0, served.1, read_more l.bytes bytes served.0 s served.2)

ok_is : (x y : ℕ) (r q : Result ℕ NoConnection) → r ≡ Ok x → q ≡ Ok y → r ≡ q → x ≡ y
ok_is x y r q a b e = cc

feeding_led : (can : Bool) (old new : Wire) (lives : List (Option Life)) (n : ℕ) (piece : List ℕ)
    (count : ℕ) (o : Option Stream) → at_place old.streams n ≡ o → Serve old.streams lives
    → FeedsAt o old n piece (Ok count) new
    → Led can old new (with_life lives n (λ l. record l { bytes = l.bytes ++ take count piece })) []
feeding_led can old new lives n piece count None is so did = absurd did
feeding_led can old new lives n piece count (Some s) is so did =
    let l = life_at old.streams lives n s so is in
    let same : count ≡ fitting_count s (length piece) =
    ok_is count (fitting_count s (length piece)) (Ok count)
    (Ok (fitting_count s (length piece))) refl refl did.0 in
    record {
      machine = ap (λ (w : Wire). w.machine) (sym did.1);
      served =
          rw (did.1, l.1, ← same)
          (set_served old.streams lives n (Some (fed_stream s (take count piece)))
          (Some (record l.0 { bytes = l.0.bytes ++ take count piece })) so
          (at_inside old.streams n s is) (fed_served s (take count piece) l.0 l.2));
    }

due_is : (s : Stream) (c : Cut) (l : Life) → IsServed (Some s) (Some l) → next_of s ≡ Some c
    → buffer_due l ≡ c.buffer
due_is s c l served next =
    let first = buffers_stay (exact_cutting (served.0 ++ c.buffer ∷ []) c.after.ended)
    c.after.taken in
    let buffers = ap (λ (x : Cutting). x.buffers) (served.2 ∙ cut_next served.0 s c next) ∙ first.1
    ∙ append_assoc served.0 (c.buffer ∷ []) first.0 in
    unwrap_or-slice_get (cut_of l.bytes).buffers (length l.answers) []
    ∙ ap (λ (b : List (List ℕ)). get_or b (length l.answers) []) buffers
    ∙ ap (λ (n : ℕ). get_or (served.0 ++ c.buffer ∷ first.0) n []) (sym served.1)
    ∙ get_or-append_seam served.0 c.buffer first.0 []

answered_served : (s : Stream) (c : Cut) (outcome : Outcome) (l : Life) → IsServed (Some s) (Some l)
    → next_of s ≡ Some c → IsServed (Some c.after)
    (Some (record l { answers = l.answers ++ outcome ∷ [] }))
answered_served s c outcome l served next = (
  served.0 ++ c.buffer ∷ [],
  length-append served.0 (c.buffer ∷ [])
      ∙ ap (λ (n : ℕ). n + 1) served.1 ∙ sym (length-append l.answers (outcome ∷ [])),
  served.2 ∙ cut_next served.0 s c next,
)

answer_led : (can : Bool) (old new : Wire) (lives : List (Option Life)) (n : ℕ) (host : Host)
    (outcome : Outcome) (s : Stream) (c : Cut) → at_place old.streams n ≡ Some s
    → next_of s ≡ Some c → Serve old.streams lives
    → Executes can old.machine (given_event c.buffer host) (outcome_step new.machine outcome)
    → new.streams ≡ slice_set old.streams n (Some c.after)
    → Led can old new (with_life lives n (λ l. record l { answers = l.answers ++ outcome ∷ [] }))
    (executed_events (at_place lives n) host outcome)
answer_led can old new lives n host outcome s c is next so executes after =
    let l = life_at old.streams lives n s so is in
    let due = due_is s c l.0 l.2 next in
    record {
      machine =
          rw l.1 (
            new.machine,
            subst (λ (buffer : List ℕ). Executes can old.machine (given_event buffer host)
                (outcome_step new.machine outcome)) (sym due) executes,
            refl,
          );
      served =
          rw (after, l.1)
          (set_served old.streams lives n (Some c.after)
          (Some (record l.0 { answers = l.0.answers ++ outcome ∷ [] })) so
          (at_inside old.streams n s is) (answered_served s c outcome l.0 l.2 next));
    }

waits_not : (ended : Bool) (outcome : Outcome) (r q : Result Turn NoConnection)
    → r ≡ Ok (Answer outcome) → q ≡ Ok (if ended then Ended else Wants) → r ≡ q → ⊥
waits_not true outcome r q a b e = cc
waits_not false outcome r q a b e = cc

answering_led : (can : Bool) (old new : Wire) (lives : List (Option Life)) (n : ℕ) (host : Host)
    (outcome : Outcome) (o : Option Stream) → at_place old.streams n ≡ o → Serve old.streams lives
    → TurnsAt can o old n host (Ok (Answer outcome)) new
    → Led can old new (with_life lives n (λ l. record l { answers = l.answers ++ outcome ∷ [] }))
    (executed_events (at_place lives n) host outcome)
answering_led can old new lives n host outcome None is so did = absurd did
answering_led can old new lives n host outcome (Some s) is so did = by (next_of s) refl did
  where
    by : (k : Option Cut) → next_of s ≡ k → TurnsBy can k s old n host (Ok (Answer outcome)) new
        → Led can old new
        (with_life lives n (λ l. record l { answers = l.answers ++ outcome ∷ [] }))
        (executed_events (at_place lives n) host outcome)
    by None next d =
        absurd (waits_not s.ended outcome (Ok (Answer outcome))
        (Ok (if s.ended then Ended else Wants)) refl refl d.0)
    by (Some c) next d = answer_led can old new lives n host outcome s c is next so d.0 d.1

-- A turn that finds no complete buffer changes nothing.
waiting_same : (can : Bool) (old new : Wire) (n : ℕ) (host : Host) (o : Option Stream)
    → TurnsAt can o old n host (Ok Wants) new → new ≡ old
waiting_same can old new n host None did = absurd did
waiting_same can old new n host (Some s) did = by (next_of s) did
  where
    by : (k : Option Cut) → TurnsBy can k s old n host (Ok Wants) new → new ≡ old
    by None d = d.1
    by (Some c) d = absurd d

ended_same : (can : Bool) (old new : Wire) (n : ℕ) (host : Host) (o : Option Stream)
    → TurnsAt can o old n host (Ok Ended) new → new ≡ old
ended_same can old new n host None did = absurd did
ended_same can old new n host (Some s) did = by (next_of s) did
  where
    by : (k : Option Cut) → TurnsBy can k s old n host (Ok Ended) new → new ≡ old
    by None d = d.1
    by (Some c) d = absurd d

refused_same : (can : Bool) (old new : Wire) (n : ℕ) (host : Host) (e : NoConnection)
    (o : Option Stream) → TurnsAt can o old n host (Err e) new → new ≡ old
refused_same can old new n host e None did = did
refused_same can old new n host e (Some s) did = by (next_of s) did
  where
    by : (k : Option Cut) → TurnsBy can k s old n host (Err e) new → new ≡ old
    by None d = d.1
    by (Some c) d = absurd d

unfed_same : (old new : Wire) (n : ℕ) (piece : List ℕ) (e : NoConnection) (o : Option Stream)
    → FeedsAt o old n piece (Err e) new → new ≡ old
unfed_same old new n piece e None did = did
unfed_same old new n piece e (Some s) did = absurd (let f = did.0 in cc)

unclosed_same : (old new : Wire) (n : ℕ) (e : NoConnection) (o : Option Stream)
    → ClosesAt o old n (Err e) new → new ≡ old
unclosed_same old new n e None did = did
unclosed_same old new n e (Some s) did = absurd (let f = did.0 in cc)

closing_led : (can : Bool) (old new : Wire) (lives : List (Option Life)) (n : ℕ) (done : Unit {0})
    (o : Option Stream) → at_place old.streams n ≡ o → Serve old.streams lives
    → ClosesAt o old n (Ok done) new → Led can old new (slice_set lives n None) []
closing_led can old new lives n done None is so did = absurd did
closing_led can old new lives n done (Some s) is so did = record {
  machine = ap (λ (w : Wire). w.machine) (sym did.1);
  served = rw did.1 (set_served old.streams lives n None None so (at_inside old.streams n s is) tt);
}

call_led : (can : Bool) (old new : Wire) (lives : List (Option Life)) (call : Call)
    → Serve old.streams lives → Does can old call new
    → Led can old new (lives_after lives call) (events_of lives call)
call_led can old new lives (Opening (Ok connection)) so did =
    opening_led can old new lives connection so did
call_led can old new lives (Opening (Err full)) so did = stays can old new lives so did.1
call_led can old new lives (Feeding connection piece (Ok count)) so did =
    feeding_led can old new lives (number_of connection) piece count
    (at_place old.streams (number_of connection)) refl so did
call_led can old new lives (Feeding connection piece (Err e)) so did =
    stays can old new lives so
    (unfed_same old new (number_of connection) piece e
    (at_place old.streams (number_of connection)) did)
call_led can old new lives (Turning connection host (Ok (Answer outcome))) so did =
    answering_led can old new lives (number_of connection) host outcome
    (at_place old.streams (number_of connection)) refl so did
call_led can old new lives (Turning connection host (Ok Wants)) so did =
    stays can old new lives so
    (waiting_same can old new (number_of connection) host
    (at_place old.streams (number_of connection)) did)
call_led can old new lives (Turning connection host (Ok Ended)) so did =
    stays can old new lives so
    (ended_same can old new (number_of connection) host
    (at_place old.streams (number_of connection)) did)
call_led can old new lives (Turning connection host (Err e)) so did =
    stays can old new lives so
    (refused_same can old new (number_of connection) host e
    (at_place old.streams (number_of connection)) did)
call_led can old new lives PowerCycling so did = record {
  machine = (new.machine, ap (λ (w : Wire). w.machine) did, refl);
  served = rw did so;
}
call_led can old new lives (Closing connection (Ok done)) so did =
    closing_led can old new lives (number_of connection) done
    (at_place old.streams (number_of connection)) refl so did
call_led can old new lives (Closing connection (Err e)) so did =
    stays can old new lives so
    (unclosed_same old new (number_of connection) e
    (at_place old.streams (number_of connection)) did)

-- ---- the effect of all calls of a schedule

schedule_led : (can : Bool) (old new : Wire) (lives : List (Option Life)) (calls : List Call)
    → Serve old.streams lives → Schedules can old calls new
    → Led can old new (lives_after_all lives calls) (events_in lives calls)
schedule_led can old new lives [] so run = stays can old new lives so (sym run)
schedule_led can old new lives (call ∷ calls) so run =
    let one = call_led can old run.0 lives call so run.1 in
    let others = schedule_led can run.0 new (lives_after lives call) calls one.served run.2 in
    record {
      machine = folds_on (Happens can) old.machine run.0.machine new.machine (events_of lives call)
          (events_in (lives_after lives call) calls) one.machine others.machine;
      served = others.served;
    }

none_served : (n number : ℕ) → IsServed (at_place (free {X = Stream} n) number)
    (at_place (free {X = Life} n) number)
none_served zero number = tt
none_served (suc n) zero = tt
none_served (suc n) (suc number) = none_served n number

new_served : (r : Record) → Serve (new_wire r).streams (free 8)
new_served r = record { many = refl; each = none_served 8 }

-- After every schedule of calls on a new mux, the machine's state is the result of the schedule's
-- events, and `Serve` holds for its connections.
led_anew : (can : Bool) (r : Record) (calls : List Call) (new : Wire)
    → Schedules can (new_wire r) calls new
    → Led can (new_wire r) new (lives_after_all (free 8) calls) (events_in (free 8) calls)
led_anew can r calls new run = schedule_led can (new_wire r) new (free 8) calls (new_served r) run

-- After every schedule, each connection has executed its buffers in order. The number of executed
-- buffers is the number of answers that its turns returned.
pub schedules_served : SchedulesAreServed
schedules_served can r calls new run = (led_anew can r calls new run).served.each

-- ---- the executions of events

executions_of : (can : Bool) (old new : Record) (events : List Event) → IsRecord old
    → FoldsTo (Happens can) old events new → (executions : List Execution)
    × AllZip IsOf events executions × Leads can old executions new
executions_of can old new [] is run = ([], tt, sym run)
executions_of can old new (Executed plain_event outcome ∷ events) is run =
    let one : Execution =
    record { before = old; event = plain_event; seen = outcome_step run.0 outcome } in
    let (executions, are, leads) = executions_of can run.0 new events run.1.is_record run.2 in
    (one ∷ executions, ((refl, refl), are), (refl, run.1, leads))
executions_of can old new (PowerCycled ∷ events) is run =
    let executes = power_cycle_executes can old is in
    let others = subst (λ (r : Record). FoldsTo (Happens can) r events new) run.1 run.2 in
    let (executions, are, leads) =
    executions_of can (after_cycle old) new events executes.is_record others in
    (power_cycle old ∷ executions, (refl, are), (refl, executes, leads))

-- After every schedule of calls, the machine's record is the result of the schedule's events.
pub schedules_lead : SchedulesLead
schedules_lead can r calls new is run =
    let (executions, are, leads) =
    executions_of can r new.machine (events_in (free 8) calls) is
    (led_anew can r calls new run).machine in
    record {
      executions = executions;
      are = are;
      leads = leads;
      stretch = λ history follows. stretch_follows can r executions new.machine history leads
          follows;
    }

happens_run : (r new : Record) (events : List Event) → FoldsTo (Happens false) r events new
    → new ≡ after_all r (map plain_event_of events)
happens_run r new [] run = sym run
happens_run r new (Executed plain_event outcome ∷ events) run =
    happens_run run.0 new events run.2
    ∙ ap (λ (m : Record). after_all m (map plain_event_of events))
    (ap (λ (x : Stepped). x.after) (run.1.exactly refl))
happens_run r new (PowerCycled ∷ events) run =
    happens_run run.0 new events run.2
    ∙ ap (λ (m : Record). after_all m (map plain_event_of events)) run.1

-- If no allocation can fail, running the schedule's events one after another results in the
-- machine's record.
pub schedules_run : SchedulesAreRuns
schedules_run r calls new run =
    happens_run r new.machine (events_in (free 8) calls) (led_anew false r calls new run).machine
