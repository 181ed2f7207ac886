-- Failed tries among the events of a device. TPM 2.0 Library, Part 1, section 19.8 (dictionary
-- attacks).
use Rattle.std.specs.Prelude.{◌≡◌, ◌≢◌, ◌⊎◌, ◌≤◌, ◌+◌, ◌/◌, ℕ, Bool, true, false, List, [], Option, Some, None, slice_get, Result, Ok, Err}
use Rattle.std.specs.List.{AllByRecursion, count_by, sum_by}
use Rattle.std.specs.Option.{option_map_or}
use Rattle.tpm_policy.specs.declared.state.Demand.{Demand}
use Rattle.tpm_session.specs.declared.session.Protection.{Protection}
use Rattle.tpm_session.specs.declared.session.Protection.TheVariants as protection
use Rattle.tpm_session.specs.declared.session.Session.{Session}
use Rattle.tpm_types_common.specs.Check.{check_number}
use Rattle.tpm_types_common.specs.Handle.{session_kind}
use Rattle.tpm_types_common.specs.Rc.{entry_fault}
use Rattle.tpm_types_common.specs.declared.check.Check.{Check}
use Rattle.tpm_types_common.specs.declared.check.Check.TheVariants as check
use Rattle.tpm_types_common.specs.declared.handle.Handle.{Handle}
use Rattle.tpm_types_common.specs.declared.handle.SessionKind.{SessionKind}
use Rattle.tpm_types_common.specs.declared.handle.SessionKind.TheVariants as kind
use Rattle.tpm_types_common.specs.declared.rc.ResponseCode.TheVariants as code
use Rattle.tpm_types_common.specs.declared.refused.Counted.{Counted}
use Rattle.tpm_types_common.specs.declared.refused.Counted.TheVariants as counted
use Rattle.tpm_types_common.specs.declared.refused.Refused.{Refused}
use Rattle.tpm_types_command.specs.AuthEntry.{Entry}
use Rattle.tpm_types_command.specs.Command.{Whole}
use Rattle.tpm_commands.specs.declared.command_code.CommandCode.{CommandCode}
use Rattle.tpm_commands.specs.declared.command_code.CommandCode.TheVariants as command
use Rattle.tpm_record.specs.Record.{Record}
use Rattle.tpm_record.specs.Tick.{after_tick}
use Rattle.tpm_auth.specs.Comparison.{failure}
use Rattle.tpm_auth.specs.Entries.{session_of}
use Rattle.tpm_auth.specs.Grant.{authorize, used_protection}
use Rattle.tpm_auth.specs.SessionGrant.{demand_of_session, entry_protection}
use Rattle.tpm_step.specs.step.Answer.{refusal_text}
use Rattle.tpm_step.specs.step.Events.{PlainEvent, Given, Cycled, Placed}
use Rattle.tpm_step.specs.step.General.{general}
use Rattle.tpm_step.specs.step.Step.{Accepted, Stepped, acceptance_in}
use Rattle.tpm_step.specs.declared.refused_command.RefusedCommand.{RefusedCommand}
use Rattle.tpm_step.specs.uses.EntryHmacs.{used_in}
use Rattle.tpm_step.specs.history.Executions.{Execution, Leads, history_after}
use Rattle.tpm_step.specs.history.History.{AcceptedCommand, Done, History, ObjectPlaced, PastEvent, PowerCycled}
use Rattle.tpm_step.specs.history.Potential.{period}

-- ---- events that are failed tries

-- whether a refusal increments failedTries: it is a failed try for a protected entity other than
-- lockout
abbrev pub is_try : Counted → Bool
is_try counted.None = false
is_try counted.Try = true
is_try counted.Lockout = false

-- whether a command is refused and the refusal increments failedTries
abbrev pub counts_try : Result Accepted RefusedCommand → Bool
counts_try (Ok a) = false
counts_try (Err e) = is_try e.refused.counted

-- whether an event is a command whose refusal increments failedTries
abbrev pub fails_try : Record → PlainEvent → Bool
fails_try r (Given buffer locality elapsed random) =
    counts_try (acceptance_in (after_tick r elapsed) buffer locality random)
fails_try r Cycled = false
fails_try r (Placed object) = false

-- An entry touches the entity whose authorization value is used to check it. This is the entity
-- that the entry has to authorize, if the password is compared with its value or the HMAC key
-- contains the value. Otherwise it is the entity to which the session was bound at its start. If a
-- session may not authorize the entity, no entity is touched.

-- the protection of the entity whose authorization value is used to check a session's entry, if the
-- entry has to authorize this handle. The last argument is what the policy requires in the entry,
-- or the refusal if the session may not authorize the handle
abbrev pub touched_where : Record → Session → Handle → Result Demand Refused → Protection
touched_where device session handle (Ok demand) =
    entry_protection device session (Some (record { handle = handle; demand = demand }))
touched_where device session handle (Err e) = protection.None

-- the protection of the entity whose authorization value is used to check entry n, if the entry
-- names this session. The handle is the one that the entry has to authorize, or None
abbrev pub touched_of_session : Record → Whole → (locality position : ℕ) → Option Handle → Session
    → Protection
touched_of_session device command locality position (Some handle) session =
    touched_where device session handle
    (demand_of_session device command locality position handle session)
touched_of_session device command locality position None session =
    entry_protection device session None

-- the protection of the entity whose authorization value is used to check an entry; for a password,
-- this is the entity that the password has to authorize
abbrev pub touched_by : SessionKind → Record → Whole → (locality position : ℕ) → Option Handle
    → Entry → Protection
touched_by kind.Password device command locality position used entry = used_protection device used
touched_by kind.Session device command locality position used entry =
    option_map_or (touched_of_session device command locality position used)
    (session_of device entry) protection.None
touched_by kind.Other device command locality position used entry = protection.None

abbrev pub touched_protection : Record → Whole → (locality position : ℕ) → Option Handle → Entry
    → Protection
touched_protection device command locality position used entry =
    touched_by (session_kind entry.session) device command locality position used entry

-- The command's authorization is refused with AUTH_FAIL for the entry at this position, counted
-- from 0. The entry was checked with the authorization value of a protected entity other than
-- lockout.
pub record FailsTry (r : Record) (locality : ℕ) (buffer : List ℕ) : Type 0 where
  pub command : Whole
  pub place : ℕ
  pub entry : Entry
  pub refused : Refused
  pub decoded : general r buffer ≡ Ok command
  pub there : slice_get command.entries place ≡ Some entry
  pub touches : touched_protection r command locality (place + 1) (used_in command place) entry
      ≡ protection.Tries
  pub is : authorize r command locality ≡ Err refused
  pub fails : refused.rc ≡ entry_fault (place + 1) code.AuthFail

-- The event is a failed try.
abbrev pub IsRefusedTry : Record → PlainEvent → Type 0
IsRefusedTry r (Given buffer locality elapsed random) =
    FailsTry (after_tick r elapsed) locality buffer
IsRefusedTry r Cycled = ⊥
IsRefusedTry r (Placed object) = ⊥

-- ---- the response to a failed try

-- the check that refuses an entry with a wrong password or HMAC: G9 if the entry has to authorize a
-- handle, and otherwise G10
abbrev pub check_for : Option Handle → Check
check_for (Some handle) = check.Authorization
check_for None = check.Others

-- the refusal with AUTH_FAIL of an entry that was checked with the authorization value of a
-- protected entity other than lockout
abbrev pub try_refusal : Whole → (place : ℕ) → Refused
try_refusal c place = failure (check_for (used_in c place)) (place + 1) protection.Tries

-- The response and the row report this refusal.
pub record IsAnsweredFailure (e : Refused) (x : Stepped) : Type 0 where
  pub response : x.response ≡ refusal_text e
  pub check : x.row.check ≡ check_number e.check

-- The event is a failed try, and its response is the refusal of the entry that failed.
abbrev pub IsAnsweredTry : Record → PlainEvent → Stepped → Type 0
IsAnsweredTry r (Given buffer locality elapsed random) x =
    (fails : FailsTry (after_tick r elapsed) locality buffer)
    × IsAnsweredFailure (try_refusal fails.command fails.place) x
IsAnsweredTry r Cycled x = ⊥
IsAnsweredTry r (Placed object) x = ⊥

-- ---- a sequence of events

abbrev pub elapsed_of : PlainEvent → ℕ
elapsed_of (Given buffer locality elapsed random) = elapsed
elapsed_of Cycled = 0
elapsed_of (Placed object) = 0

-- the milliseconds that pass in a sequence of events
abbrev pub elapsed_in : List Execution → ℕ
elapsed_in executions = sum_by (λ (one : Execution). elapsed_of one.event) executions

-- the number of failed tries in a sequence of events
abbrev pub failures_in : List Execution → ℕ
failures_in executions = count_by (λ (one : Execution). fails_try one.before one.event) executions

-- whether a command clears failedTries or sets the lockout parameters
abbrev pub resets_tries : CommandCode → Bool
resets_tries command.DictionaryAttackLockReset = true
resets_tries command.DictionaryAttackParameters = true
resets_tries command.Clear = true
resets_tries _ = false

abbrev pub is_reset : PastEvent → Bool
is_reset (Done c) = resets_tries c.command.code
is_reset PowerCycled = false
is_reset (ObjectPlaced at object) = false

-- No command of this history clears failedTries or sets the lockout parameters.
abbrev pub HasNoReset : History → Type 0
HasNoReset history = AllByRecursion (λ (one : PastEvent). is_reset one ≡ false) history

-- the number of tries that may fail in a sequence of events: maxTries, and one more for each
-- recoveryTime that passes
abbrev pub tries_within : Record → List Execution → ℕ
tries_within old executions =
    old.fixed.lockout.fields.max_tries + elapsed_in executions / period old.fixed.lockout

-- In a sequence of events without a reset of failedTries, at most `tries_within` tries fail, if
-- recoveryTime is not 0.
abbrev pub FailsWithin : Bool → Record → List Execution → Record → Type 0
FailsWithin can old executions new =
    Leads can old executions new
    → HasNoReset (history_after [] executions)
    → old.fixed.lockout.fields.recovery_time ≢ 0
    → failures_in executions ≤ tries_within old executions

-- a bound on the number of tries that fail in a sequence of events: maxTries plus one, and one more
-- for each recoveryTime that passes
abbrev pub tries_at_most : Record → List Execution → ℕ
tries_at_most old executions =
    old.fixed.lockout.fields.max_tries + 1
    + elapsed_in executions / period old.fixed.lockout

abbrev pub FailsFew : Bool → Record → List Execution → Record → Type 0
FailsFew can old executions new =
    Leads can old executions new
    → HasNoReset (history_after [] executions)
    → old.fixed.lockout.fields.recovery_time ≢ 0
    → failures_in executions ≤ tries_at_most old executions

-- The event is an accepted command that clears failedTries or sets the lockout parameters.
pub record IsReset (one : PastEvent) : Type 0 where
  pub accepted : AcceptedCommand
  pub is : one ≡ Done accepted
  pub code : (accepted.command.code ≡ command.DictionaryAttackLockReset)
      ⊎ (accepted.command.code ≡ command.DictionaryAttackParameters)
      ⊎ (accepted.command.code ≡ command.Clear)
