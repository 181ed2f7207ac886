-- If a device follows a history, then after an event it follows the history with this event added.
-- An event that was not accepted is not added.
use Rattle.std.proofs.Common.{arith, ◌≡◌, ◌≤◌, ℕ, Bool, true, false, cond, List, [], ◌∷◌, length, drop, map, Option, Some, None, option_map, Result, Ok, Err, IfOk, Bor, refl, ap, sym, subst, ◌∙◌}
use Rattle.std.specs.Fn.{Mut}
use Rattle.tpm_lockout.specs.Lockout.{LockoutState}
use Rattle.tpm_lockout.specs.Recovery.{lockout_ticked}
use Rattle.tpm_mac.specs.declared.algorithm.HashAlg.TheVariants as alg
use Rattle.tpm_nv.specs.IsContents.{AreIndices}
use Rattle.tpm_containers.specs.Slots.{lowest_free}
use Rattle.tpm_object.specs.Object.{IsObject}
use Rattle.tpm_object.specs.declared.object.Object.{Object}
use Rattle.tpm_pcr.specs.Banks.{HaveAll}
use Rattle.tpm_pcr.specs.Values.{BankValues, IsBanks}
use Rattle.tpm_types_common.specs.declared.refused.Counted.{Counted}
use Rattle.tpm_commands.specs.CommandCode.{shape_of}
use Rattle.tpm_record.specs.Cycle.{after_cycle}
use Rattle.tpm_record.specs.Entity.{auth_value_of}
use Rattle.tpm_record.specs.IsRecord.{IsRecord}
use Rattle.tpm_record.specs.Objects.{next_handle, object_handle}
use Rattle.tpm_commands.specs.declared.profile.Profile.{Profile}
use Rattle.tpm_record.specs.Record.{Record, manufactured, manufactured_as}
use Rattle.tpm_record.specs.Tick.{after_tick, later}
use Rattle.tpm_record.specs.rows.Refusals.{memory_refusal}
use Rattle.tpm_auth.specs.Grant.{authorize}
use Rattle.tpm_auth.specs.Granting.{IsGranting}
use Rattle.tpm_auth.proofs.Granting.{granting}
use Rattle.tpm_record.specs.rows.Request.{Request}
use Rattle.tpm_step.specs.step.Entries.{entries_rolled}
use Rattle.tpm_step.specs.step.Safe.{AcceptsModestly, IsModest}
use Rattle.tpm_step.specs.step.Events.{PlainEvent, Given, Cycled, Placed, IsEvent}
use Rattle.tpm_step.specs.step.Execution.{Executes}
use Rattle.tpm_step.specs.step.Placing.{placed_at, record_with_object}
use Rattle.tpm_step.specs.step.Run.{Runs}
use Rattle.tpm_step.specs.step.Step.{Accepted, Stepped, Steps, acceptance_in, answer_where, counted_in, lockout_counted, outcome_step, refusal_without_memory, step_where, success_step}
use Rattle.tpm_step.specs.declared.event.Outcome.{Outcome}
use Rattle.tpm_step.specs.declared.refused_command.RefusedCommand.{RefusedCommand}
use Rattle.tpm_step.specs.rows.Acceptance.{IsAcceptance}
use Rattle.tpm_step.specs.rows.Sizes.{AreSized}
use Rattle.tpm_step.proofs.rows.Acceptance.{accepted_is}
use Rattle.tpm_step.proofs.rows.Binding.{ok_at}
use Rattle.tpm_step.proofs.rows.SizedSteps.{cycled_sized, execution_sized, manufactured_sized}
use Rattle.tpm_step.specs.history.AuthValues.{auth_of}
use Rattle.tpm_step.specs.history.Executions.{Execution, Leads, history_after}
use Rattle.tpm_step.specs.history.Follows.{Follows, RunFollows, Shape, StretchFollows, Tells}
use Rattle.tpm_step.specs.history.Sessions.{rolled_by, sessions_of}
use Rattle.tpm_step.specs.history.History.{AcceptedCommand, Done, History, ObjectPlaced, PastEvent, PowerCycled, command_of, extended_history, with_command, with_placed}
use Rattle.tpm_step.proofs.history.DeviceAuthValues.{auth_values_done, cycled_auth_values, handles_auth_values, handles_present, manufactured_auth_values, placed_auth_values}
use Rattle.tpm_step.proofs.history.DeviceCounters.{begins_above, counters_done, exceeds_earlier, keeps_counter, manufactured_counters}
use Rattle.tpm_step.proofs.history.DevicePcrs.{cycled_pcrs, manufactured_pcrs, pcrs_done}
use Rattle.tpm_step.proofs.history.DeviceSessions.{cycled_sessions, left_enough, manufactured_sessions, sessions_done}
use Rattle.tpm_step.proofs.history.Forgiving.{forgives_counted, forgives_cycled, forgives_done, forgives_ticked, manufactured_forgives}
use Rattle.tpm_step.proofs.history.Leading.{history_apart, leads_keep}
use Rattle.tpm_step.proofs.history.FewTries.{fails_few, fails_within}
use Rattle.tpm_step.proofs.uses.EntryGrounds.{hmacs_shown, uses_have_grounds}
use Rattle.tpm_step.proofs.uses.RecordedUpdates.{no_updates, placed_updates, updates_done}
use Rattle.tpm_step.specs.uses.EntryHmacs.{ShowsHmacs}
use Rattle.tpm_step.specs.uses.Grounds.{AllHaveGrounds, UsesHaveGrounds}
use Rattle.tpm_step.specs.uses.PolicyUses.{AllMeetPolicies}
use Rattle.tpm_step.proofs.uses.AcceptedSessions.{command_finds, none_find}
use Rattle.tpm_step.proofs.uses.PolicyUses.{uses_meet}
use Rattle.tpm_step.specs.history.Potential.{IsForgiving}
use Rattle.tpm_step.specs.uses.RunReplays.{RunReplaysRepeat}
use Rattle.tpm_step.proofs.uses.Replays.{replays_repeat}
use Rattle.tpm_step.proofs.uses.RunReplays.{run_replays_repeat}

abbrev HasShape : Record → Type 0
HasShape r = Shape r.sessions r.objects r.persistent r.nv.indices

-- The record satisfies the invariants that hold after every event.
record IsSound (r : Record) : Type 0 where
  shape : HasShape r
  sized : AreSized r
  indices : AreIndices r.nv.indices
  all : HaveAll r.fixed.banks

all_values : (banks : BankValues) → IsBanks banks → HaveAll banks
all_values banks is alg.Sha1 = is.sha1.0
all_values banks is alg.Sha256 = is.sha256.0

record_shape : (r : Record) → IsRecord r → HasShape r
record_shape r is =
    record {
      sessions_many = is.sessions;
      objects_many = is.objects;
      persistent_ascend =
          is.persistent.ascends;
      indices_ascend = is.nv.ascends;
    }

-- ---- accepted commands

-- At least 64 random bytes are left after the new nonces were drawn.
abbrev LeavesSome : List ℕ → Accepted → Type 0
LeavesSome random a =
    64
    ≤ length (entries_rolled a.success.after a.command.entries
    (drop a.success.answer.drawn random)).left

command_follows : (r : Record) (a : Accepted) (locality : ℕ) (random : List ℕ) (history : History)
    → IsAcceptance r locality random a → LeavesSome random a → IsSound (success_step a random).after
    → Follows r history → Follows (success_step a random).after (Done (command_of r a) ∷ history)
command_follows r a locality random history is some sound follows =
    let values : map (auth_value_of r) a.command.handles ≡ map (auth_of history) a.command.handles =
    handles_auth_values r history (shape_of a.command.code).handles a.command.handles
    follows.auth_values is.fits in
    let c : AcceptedCommand = command_of r a in
    let from : c.request.locality ≡ locality = ap (λ (q : Request). q.locality) is.requested in
    let present = handles_present r (shape_of a.command.code).handles a.command.handles is.fits in
    let granted : IsGranting r a.command locality a.grants =
    ok_at (IsGranting r a.command locality) (authorize r a.command locality) a.grants
    (granting r a.command locality) is.granted in
    let left : 64 ≤ length (rolled_by c history (sessions_of history)).left =
    left_enough r a locality random history is follows.shape.sessions_many values follows.pcrs
    follows.sessions some in
    let uses : UsesHaveGrounds history c =
    uses_have_grounds r c history locality from refl values follows.pcrs follows.sessions.live
    follows.updates present a.grants granted in
    let shows : ShowsHmacs history c =
    record {
      hmacs = hmacs_shown r c history locality from refl values follows.pcrs
          follows.sessions.live follows.updates present a.grants granted;
      left = left;
    } in
    record {
      counters = counters_done r a locality random history is follows.shape.indices_ascend
          follows.counters;
      forgiving = forgives_done r a locality random is follows.forgiving;
      pcrs = pcrs_done r a locality random history is follows.pcrs sound.all;
      auth_values = auth_values_done r a locality random history is follows.shape.objects_many
          follows.shape.indices_ascend follows.shape.persistent_ascend follows.auth_values;
      sessions = sessions_done r a locality random history is follows.shape.sessions_many values
          follows.pcrs follows.sessions;
      hmacs = (shows, follows.hmacs);
      replays = replays_repeat (Done c ∷ history) (shows, follows.hmacs);
      updates = updates_done r a locality random history is follows.pcrs follows.sessions
          follows.updates (omega (arith, left));
      grounds = (uses, follows.grounds);
      found = command_finds r a locality random history is follows.indices follows.sessions
          follows.found (omega (arith, left));
      asked = (ap (λ (q : Request). q.handles) is.requested, follows.asked);
      policies = (
        uses_meet history c follows.found follows.asked follows.hmacs follows.grounds uses,
        follows.policies,
      );
      shape = sound.shape;
      sized = sound.sized;
      indices = sound.indices;
    }

-- ---- time, and the effects of a refusal

timed_follows : (r : Record) (lockout : LockoutState) (time clock : ℕ) (history : History)
    → IsForgiving lockout → Follows r history
    → Follows
    (record r { fixed = record r.fixed { lockout = lockout; time = time; clock = clock } }) history
timed_follows r lockout time clock history forgives follows = record {
  counters = follows.counters;
  forgiving = forgives;
  pcrs = follows.pcrs;
  auth_values = follows.auth_values;
  sessions = follows.sessions;
  hmacs = follows.hmacs;
  replays = follows.replays;
  updates = follows.updates;
  grounds = follows.grounds;
  found = follows.found;
  asked = follows.asked;
  policies = follows.policies;
  shape = follows.shape;
  sized = follows.sized;
  indices = follows.indices;
}

ticked_follows : (r : Record) (elapsed : ℕ) (history : History) → Follows r history
    → Follows (after_tick r elapsed) history
ticked_follows r elapsed history follows =
    timed_follows r (lockout_ticked elapsed r.fixed.lockout) (later r.fixed.time elapsed)
    (later r.fixed.clock elapsed) history (forgives_ticked r elapsed follows.forgiving) follows

refusal_follows : (r : Record) (counted : Counted) (history : History) → Follows r history
    → Follows (counted_in counted r) history
refusal_follows r counted history follows =
    timed_follows r (lockout_counted counted r.fixed.lockout) r.fixed.time r.fixed.clock history
    (forgives_counted r counted follows.forgiving) follows

-- ---- power cycles

pub cycled_follows : (r : Record) (history : History) → Follows r history
    → Follows (after_cycle r) (PowerCycled ∷ history)
cycled_follows r history follows = record {
  counters = follows.counters;
  forgiving = forgives_cycled r follows.forgiving;
  pcrs = cycled_pcrs r history follows.pcrs;
  auth_values = cycled_auth_values r history follows.auth_values;
  sessions = cycled_sessions r history;
  hmacs = follows.hmacs;
  replays = replays_repeat (PowerCycled ∷ history) follows.hmacs;
  updates = no_updates (PowerCycled ∷ history) (λ handle. refl);
  grounds = follows.grounds;
  found = none_find (PowerCycled ∷ history) (λ handle. refl);
  asked = follows.asked;
  policies = follows.policies;
  shape = record {
    sessions_many = refl;
    objects_many = refl;
    persistent_ascend =
        follows.shape.persistent_ascend;
    indices_ascend = follows.shape.indices_ascend;
  };
  sized = cycled_sized r;
  indices = follows.indices;
}

-- ---- objects from saved contexts

placed_follows : (r : Record) (object : Object) (history : History) → IsObject object
    → IsSound (record_with_object r object) → Follows r history
    → Follows (record_with_object r object) (with_placed (next_handle r.objects) object history)
placed_follows r object history is sound follows = by (lowest_free r.objects) refl sound
  where
    by : (found : Option ℕ) → lowest_free r.objects ≡ found
        → IsSound (record r { objects = placed_at found object r.objects })
        → Follows (record r { objects = placed_at found object r.objects })
        (with_placed (option_map object_handle found) object history)
    by None free sound = follows
    by (Some place) free sound =
        let event : PastEvent = ObjectPlaced (object_handle place) object in
        record {
          counters = follows.counters;
          forgiving = follows.forgiving;
          pcrs = record {
            all = follows.pcrs.all;
            values = follows.pcrs.values;
            updates =
                follows.pcrs.updates;
            saved_values = follows.pcrs.saved_values;
          };
          auth_values = placed_auth_values r place object history follows.shape.objects_many free
              is.auth_value.1 follows.auth_values;
          sessions = record { live = follows.sessions.live; asleep = follows.sessions.asleep };
          hmacs = follows.hmacs;
          replays = replays_repeat (event ∷ history) follows.hmacs;
          updates = placed_updates (object_handle place) object history follows.updates;
          grounds = follows.grounds;
          found = follows.found;
          asked = follows.asked;
          policies = follows.policies;
          shape = sound.shape;
          sized = sound.sized;
          indices = sound.indices;
        }

-- ---- manufactured devices

pub manufactured_follows : (random : List ℕ) → Follows (manufactured random) []
manufactured_follows random = record {
  counters = manufactured_counters random;
  forgiving = manufactured_forgives random;
  pcrs = manufactured_pcrs random;
  auth_values = manufactured_auth_values random;
  sessions = manufactured_sessions random;
  hmacs = tt;
  replays = replays_repeat [] tt;
  updates = no_updates [] (λ handle. refl);
  grounds = tt;
  found = none_find [] (λ handle. refl);
  asked = tt;
  policies = tt;
  shape = record {
    sessions_many = refl;
    objects_many = refl;
    persistent_ascend =
        tt;
    indices_ascend = tt;
  };
  sized = manufactured_sized random;
  indices = tt;
}

-- a device of either profile follows the empty history after it is manufactured
pub manufactured_as_follows : (profile : Profile) (random : List ℕ)
    → Follows (manufactured_as profile random) []
manufactured_as_follows profile random =
    let asked : Follows (manufactured random) [] = manufactured_follows random in
    record {
      counters = asked.counters;
      forgiving = asked.forgiving;
      pcrs = asked.pcrs;
      auth_values = asked.auth_values;
      sessions = asked.sessions;
      hmacs = tt;
      replays = asked.replays;
      updates = asked.updates;
      grounds = tt;
      found = asked.found;
      asked = tt;
      policies = tt;
      shape = record {
        sessions_many = refl;
        objects_many = refl;
        persistent_ascend =
            tt;
        indices_ascend = tt;
      };
      sized = asked.sized;
      indices = tt;
    }

-- ---- events

-- If the command is accepted, at least 64 random bytes are left.
abbrev LeavesIfAccepted : List ℕ → Result Accepted RefusedCommand → (check : ℕ) → Type 0
LeavesIfAccepted random x check = check ≡ 0 → IfOk x (LeavesSome random)

answer_follows : (refused : Bool) (r : Record) (locality : ℕ) (random : List ℕ)
    (x : Result Accepted RefusedCommand) (history : History)
    → IfOk x (IsAcceptance r locality random)
    → LeavesIfAccepted random x (answer_where refused r random x).row.check
    → IsSound (answer_where refused r random x).after → Follows r history
    → Follows (answer_where refused r random x).after
    (with_command r x (answer_where refused r random x).row.check history)
answer_follows false r locality random (Ok a) history is leaves sound follows =
    command_follows r a locality random history is (leaves refl) sound follows
answer_follows false r locality random (Err e) history is leaves sound follows =
    refusal_follows r e.refused.counted history follows
answer_follows true r locality random (Err e) history is leaves sound follows =
    refusal_follows r e.refused.counted history follows
answer_follows true r locality random (Ok a) history is leaves sound follows =
    by (shape_of a.command.code).grows leaves sound
  where
    by : (grows : Bool) → LeavesIfAccepted random (Ok a)
        (cond grows (refusal_without_memory r a.command) (success_step a random)).row.check
        → IsSound (cond grows (refusal_without_memory r a.command) (success_step a random)).after
        → Follows (cond grows (refusal_without_memory r a.command) (success_step a random)).after
        (with_command r (Ok a)
        (cond grows (refusal_without_memory r a.command) (success_step a random)).row.check
        history)
    by true leaves sound = refusal_follows r memory_refusal.counted history follows
    by false leaves sound = command_follows r a locality random history is (leaves refl) sound
        follows

-- If the event is an accepted command, at least 64 random bytes are left after it.
abbrev LeavesAfter : Record → PlainEvent → (check : ℕ) → Type 0
LeavesAfter r (Given buffer locality elapsed random) check =
    LeavesIfAccepted random (acceptance_in (after_tick r elapsed) buffer locality random) check
LeavesAfter r Cycled check = Unit {0}
LeavesAfter r (Placed object) check = Unit {0}

leaves_after : (r : Record) (event : PlainEvent) (check : ℕ) → IsEvent event
    → (check ≡ 0 → AcceptsModestly r event) → LeavesAfter r event check
leaves_after r (Given buffer locality elapsed random) check happens modest = λ passes.
    let (a, is, drew) = modest passes in
    subst (λ (x : Result Accepted RefusedCommand). IfOk x (LeavesSome random)) (sym is)
    (some_left a drew)
  where
    some_left : (a : Accepted) → IsModest random a → LeavesSome random a
    some_left a drew = omega (arith, drew.2, happens.2)
leaves_after r Cycled check happens modest = tt
leaves_after r (Placed object) check happens modest = tt

step_follows : (refused : Bool) (r : Record) (event : PlainEvent) (history : History)
    → IsEvent event → LeavesAfter r event (step_where refused r event).row.check
    → IsSound (step_where refused r event).after → Follows r history
    → Follows (step_where refused r event).after
    (extended_history r event (step_where refused r event).row.check history)
step_follows refused r (Given buffer locality elapsed random) history happens leaves sound follows =
    let t = after_tick r elapsed in
    answer_follows refused t locality random (acceptance_in t buffer locality random) history
    (accepted_is t buffer locality random) leaves sound
    (ticked_follows r elapsed history follows)
step_follows refused r Cycled history happens leaves sound follows =
    cycled_follows r history follows
step_follows refused r (Placed object) history happens leaves sound follows =
    placed_follows r object history happens sound follows

pub execution_follows : (can : Bool) (old : Record) (event : PlainEvent) (x : Stepped)
    (history : History) → Executes can old event x → Follows old history
    → Follows x.after (extended_history old event x.row.check history)
execution_follows can old event x history executes follows =
    by executes.steps (record {
      shape = record_shape x.after executes.is_record;
      sized = execution_sized can old event x executes follows.sized;
      indices = executes.is_record.nv.indices;
      all = all_values x.after.fixed.banks executes.is_record.banks;
    })
  where
    by : Steps can old event x → IsSound x.after
        → Follows x.after (extended_history old event x.row.check history)
    by (refused, only, same) sound =
        subst (λ (y : Stepped). Follows y.after (extended_history old event y.row.check history))
        (sym same)
        (step_follows refused old event history executes.happens
        (leaves_after old event (step_where refused old event).row.check executes.happens
        (λ passes. executes.modest (ap (λ (y : Stepped). y.row.check) same ∙ passes)))
        (subst (λ (y : Stepped). IsSound y.after) same sound) follows)

-- ---- sequences of events, with their history

pub stretch_follows : (can : Bool) (old : Record) (executions : List Execution) (new : Record)
    (history : History) → Leads can old executions new → Follows old history
    → StretchFollows can old executions new history
stretch_follows can old executions new history leads follows =
    let meanwhile : History = history_after [] executions in
    let now : Follows new (history_after history executions) =
    leads_keep Follows execution_follows can old executions new history leads follows in
    let apart = subst (Follows new) (history_apart executions history) now in
    record {
      leads = leads;
      follows = now;
      counters_stay = λ handle before after. keeps_counter old new history meanwhile handle before
          after follows.counters apart.counters;
      counters_begin = λ handle before after. begins_above old new history meanwhile handle before
          after follows.counters apart.counters;
      counters_exceed = λ handle after. exceeds_earlier new history meanwhile handle after
          apart.counters;
      few_fail = fails_few can old executions new follows.forgiving;
      fail_within = fails_within can old executions new follows.forgiving;
      replays = run_replays_repeat can old executions new history leads now.hmacs;
    }

-- ---- runs, with their history

-- Executions of the events lead from the old record to the new record, and a closure was called
-- with each outcome.
abbrev RunLeads : {F : Type 0} → Mut F (Bor Outcome × Unit {0}) (Unit {0}) → Bool → Record → F
    → List PlainEvent → Record → F → Type 0
RunLeads g can old p events new q =
    (executions : List Execution) × (map (λ (one : Execution). one.event) executions ≡ events)
    × Leads can old executions new × Tells g p executions q

pub run_leads : {F : Type 0} (g : Mut F (Bor Outcome × Unit {0}) (Unit {0})) (can : Bool)
    (old : Record) (p : F) (events : List PlainEvent) (new : Record) (q : F)
    → Runs g can old p events new q → RunLeads g can old p events new q
run_leads g can old p [] new q run = ([], refl, run.0, run.1)
run_leads g can old p (event ∷ events) new q (outcome, mid, next, executes, called, rest) =
    let (executions, are, leads, told) = run_leads g can mid next events new q rest in
    let one : Execution = record { before = old; event = event; seen = outcome_step mid outcome } in (
      one ∷ executions,
      ap (λ (l : List PlainEvent). event ∷ l) are,
      (refl, executes, leads),
      (outcome, next, refl, called, told),
    )

pub run_follows : {F : Type 0} (g : Mut F (Bor Outcome × Unit {0}) (Unit {0})) (can : Bool)
    (old : Record) (p : F) (events : List PlainEvent) (new : Record) (q : F) (history : History)
    → Runs g can old p events new q → Follows old history
    → RunFollows g can old p events new q history
run_follows g can old p events new q history run follows =
    let (executions, are, leads, told) = run_leads g can old p events new q run in
    record {
      executions = executions;
      events_are = are;
      told = told;
      stretch = stretch_follows can old executions new history leads follows;
    }

-- If executions lead from one record to another, and a closure was called with each outcome in
-- order, the executions are a run of their events.
pub told_runs : {F : Type 0} (g : Mut F (Bor Outcome × Unit {0}) (Unit {0})) (can : Bool)
    (old : Record) (p : F) (executions : List Execution) (new : Record) (q : F)
    → Leads can old executions new → Tells g p executions q
    → Runs g can old p (map (λ (one : Execution). one.event) executions) new q
told_runs g can old p [] new q leads told = (leads, told)
told_runs g can old p (one ∷ executions) new q (first, executes, leads)
    (outcome, next, is, called, told) = (
      outcome,
      one.seen.after,
      next,
      subst (Executes can old one.event) is executes,
      called,
      told_runs g can one.seen.after next executions new q leads told,
    )

-- ---- from a manufactured device

follows_manufactured : (can : Bool) (random : List ℕ) (executions : List Execution) (new : Record)
    → Leads can (manufactured random) executions new → Follows new (history_after [] executions)
follows_manufactured can random executions new leads =
    leads_keep Follows execution_follows can (manufactured random) executions new [] leads
    (manufactured_follows random)

pub grounds_manufactured : (can : Bool) (random : List ℕ) (executions : List Execution)
    (new : Record) → Leads can (manufactured random) executions new
    → AllHaveGrounds (history_after [] executions)
grounds_manufactured can random executions new leads =
    (follows_manufactured can random executions new leads).grounds

pub policies_manufactured : (can : Bool) (random : List ℕ) (executions : List Execution)
    (new : Record) → Leads can (manufactured random) executions new
    → AllMeetPolicies (history_after [] executions)
policies_manufactured can random executions new leads =
    (follows_manufactured can random executions new leads).policies

pub replays_manufactured : (can : Bool) (random : List ℕ) (executions : List Execution)
    (new : Record) → Leads can (manufactured random) executions new → RunReplaysRepeat [] executions
replays_manufactured can random executions new leads =
    run_replays_repeat can (manufactured random) executions new [] leads
    (follows_manufactured can random executions new leads).hmacs
