-- Devices that follow a history, and what the history determines about them.
use Rattle.std.specs.Prelude.{◌≡◌, Bool, List, [], ◌∷◌, Option, length, map}
use Rattle.std.specs.Borrow.{Bor}
use Rattle.std.specs.Fn.{Mut, CalledAt}
use Rattle.tpm_nv.specs.Index.{NvIndex}
use Rattle.tpm_object.specs.declared.object.Object.{Object}
use Rattle.tpm_session.specs.declared.session.Session.{Session}
use Rattle.tpm_containers.specs.SortedMap.{Ascends, Entries}
use Rattle.tpm_nv.specs.IsContents.{AreIndices}
use Rattle.tpm_types_common.specs.Limits.{object_limit, session_limit}
use Rattle.tpm_types_common.specs.declared.handle.Handle.{Handle}
use Rattle.tpm_record.specs.Record.{Record}
use Rattle.tpm_step.specs.step.Events.{PlainEvent}
use Rattle.tpm_step.specs.step.Step.{Stepped, outcome_step}
use Rattle.tpm_step.specs.declared.event.Outcome.{Outcome}
use Rattle.tpm_step.specs.rows.Sizes.{AreSized}
use Rattle.tpm_step.specs.uses.AcceptedAssertions.{AllAskForTheirHandles, SessionsFind}
use Rattle.tpm_step.specs.history.DeviceAuthValues.{HasAuthValues}
use Rattle.tpm_step.specs.history.DeviceCounters.{BeginsAbove, ExceedsEarlier, HasCounters, KeepsCounter}
use Rattle.tpm_step.specs.history.DevicePcrs.{HasPcrs}
use Rattle.tpm_step.specs.history.DeviceSessions.{HasSessions}
use Rattle.tpm_step.specs.uses.EntryHmacs.{AllShowHmacs}
use Rattle.tpm_step.specs.uses.Grounds.{AllHaveGrounds}
use Rattle.tpm_step.specs.uses.PolicyUses.{AllMeetPolicies}
use Rattle.tpm_step.specs.uses.QuietPcrs.{AllRecordUpdates}
use Rattle.tpm_step.specs.uses.Replays.{ReplaysRepeat}
use Rattle.tpm_step.specs.uses.RunReplays.{RunReplaysRepeat}
use Rattle.tpm_step.specs.history.Executions.{Execution, Leads, history_after}
use Rattle.tpm_step.specs.history.History.{History, extended_history}
use Rattle.tpm_step.specs.history.Potential.{IsForgiving}
use Rattle.tpm_step.specs.history.Tries.{FailsFew, FailsWithin}

-- The record has a slot for each possible session and each possible transient object. Its
-- persistent objects and NV indices are sorted by handle.
pub record Shape (sessions : List (Option Session)) (objects : List (Option Object))
    (persistent : Entries Object) (indices : Entries NvIndex) : Type 0 where
  pub sessions_many : length sessions ≡ session_limit
  pub objects_many : length objects ≡ object_limit
  pub persistent_ascend : Ascends persistent
  pub indices_ascend : Ascends indices

-- A device follows a history: its counters, PCRs, authorization values and sessions are those that
-- the history determines. In the history, each entry that named an HMAC session had the right HMAC.
-- A replay was accepted only if its nonceTPM or an HMAC repeated. The PCR update counters that
-- policies recorded are consistent with the history. Each use of a handle was authorized. Each
-- recorded request has the handles of its command. The assertions of policy sessions met their
-- conditions. Therefore, unless the hash is broken, each use by a policy session met every policy
-- whose digest is the used entity's authPolicy. No decrement of failedTries is overdue. The record
-- has all its slots, and its persistent objects and NV indices are sorted by handle. The fields of
-- its sessions and NV indices have the right sizes.
pub record Follows (r : Record) (history : History) : Type 0 where
  pub counters : HasCounters r history
  pub forgiving : IsForgiving r.fixed.lockout
  pub pcrs : HasPcrs r history
  pub auth_values : HasAuthValues r history
  pub sessions : HasSessions r history
  pub hmacs : AllShowHmacs history
  pub replays : ReplaysRepeat history
  pub updates : AllRecordUpdates history
  pub grounds : AllHaveGrounds history
  pub found : SessionsFind history
  pub asked : AllAskForTheirHandles history
  pub policies : AllMeetPolicies history
  pub shape : Shape r.sessions r.objects r.persistent r.nv.indices
  pub sized : AreSized r
  pub indices : AreIndices r.nv.indices

-- ---- an event on a device that follows a history

-- If a device follows a history before this event, the property holds for the device and the
-- history after it.
abbrev pub After : (Record → History → Type 0) → Record → PlainEvent → Stepped → Type 0
After Holds old event x =
    (history : History) → Follows old history
    → Holds x.after (extended_history old event x.row.check history)

-- If the device followed a history before this event, it now follows that history, extended by the
-- event if it was accepted. The history determines the device's counters, PCRs, authorization
-- values and sessions. If a buffer with an HMAC of one HMAC session is accepted twice while the
-- session lives, the session had one nonceTPM twice, or two different texts have the same HMAC.
-- Every use of a handle that needs authorization was authorized by a password, an HMAC session or a
-- policy session. If a policy session authorized the use, then, unless the hash is broken, the use
-- satisfies each policy whose digest is the entity's authPolicy.
pub record FollowsOn (old : Record) (event : PlainEvent) (x : Stepped) : Type 0 where
  pub history : After Follows old event x
  pub counters : After HasCounters old event x
  pub pcrs : After HasPcrs old event x
  pub auth_values : After HasAuthValues old event x
  pub sessions : After HasSessions old event x
  pub replays : After (λ r. ReplaysRepeat) old event x
  pub grounds : After (λ r. AllHaveGrounds) old event x
  pub policies : After (λ r. AllMeetPolicies) old event x

-- ---- a sequence of events on a device that follows a history

-- The executions led from a device that follows a history to a device that follows the history
-- after the executions. No NV counter went down unless an index was defined again with its handle.
-- If a counter had no value before the executions, its value after them exceeds all values that any
-- counter had before them. If a counter was defined during the executions, its value exceeds all
-- values that any counter had before this definition. The number of failed tries is within its
-- bounds. Each replay (`IsReplay`) repeats a nonceTPM or an HMAC of two different texts.
pub record StretchFollows (can : Bool) (old : Record) (executions : List Execution) (new : Record)
    (history : History) : Type 0
  where
    pub leads : Leads can old executions new
    pub follows : Follows new (history_after history executions)
    pub counters_stay : (handle : Handle) (before after : NvIndex)
        → KeepsCounter old new (history_after [] executions) handle before after
    pub counters_begin : (handle : Handle) (before after : NvIndex)
        → BeginsAbove old new history handle before after
    pub counters_exceed : (handle : Handle) (after : NvIndex)
        → ExceedsEarlier new history (history_after [] executions) handle after
    pub few_fail : FailsFew can old executions new
    pub fail_within : FailsWithin can old executions new
    pub replays : RunReplaysRepeat history executions

-- ---- a run on a device that follows a history

-- A closure was called once with the outcome of each execution, in order. The closure's state was p
-- before the calls and q after them.
abbrev pub Tells : {F : Type 0} → Mut F (Bor Outcome × Unit {0}) (Unit {0}) → F → List Execution
    → F → Type 0
Tells g p [] q = q ≡ p
Tells {F} g p (one ∷ executions) q =
    (outcome : Outcome) × (next : F) × (one.seen ≡ outcome_step one.seen.after outcome)
    × CalledAt g p outcome tt next × Tells g next executions q

-- Running the events led from a device that follows a history to a device that follows the history
-- after the events. A closure was called with each outcome.
pub record RunFollows {F : Type 0} (g : Mut F (Bor Outcome × Unit {0}) (Unit {0})) (can : Bool)
    (old : Record) (p : F) (events : List PlainEvent) (new : Record) (q : F) (history : History)
    : Type 0
  where
    pub executions : List Execution
    pub events_are : map (λ (one : Execution). one.event) executions ≡ events
    pub told : Tells g p executions q
    pub stretch : StretchFollows can old executions new history
