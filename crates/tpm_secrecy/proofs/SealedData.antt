-- A device reveals sealed data and keys only through an accepted TPM2_Unseal or TPM2_HMAC of the
-- object. If the object has a policy and no userWithAuth, the policy was satisfied, unless the hash
-- is broken.
use Rattle.tpm_types_object.specs.ObjectAttributes.{has}
use Rattle.std.proofs.Common.{ap, inl, inr, refl, subst, sym, ◌∙◌}
use Rattle.std.proofs.lemmas.Bool.{cases_Bool, false≢true}
use Rattle.std.specs.Prelude.{Bool, Err, List, Ok, Option, Result, Some, [], false, slice_get, take, true, ℕ, ◌∷◌, ◌≡◌}
use Rattle.tpm_auth.specs.Grant.{authorize}
use Rattle.tpm_auth.specs.declared.session_grant.Grant.{Grant}
use Rattle.tpm_commands.specs.CommandCode.{authorized_handles, shape_of}
use Rattle.tpm_commands.specs.declared.command_code.CommandCode.{CommandCode}
use Rattle.tpm_containers.specs.Slots.{free}
use Rattle.tpm_record.specs.Record.{Record, manufactured}
use Rattle.tpm_record.specs.Tick.{after_tick}
use Rattle.tpm_record.specs.rows.Request.{Request}
use Rattle.tpm_record.specs.rows.Rows.{Success}
use Rattle.tpm_step.proofs.rows.Binding.{ok_at}
use Rattle.tpm_step.proofs.history.Following.{execution_follows, manufactured_follows, stretch_follows}
use Rattle.tpm_step.proofs.uses.PolicyReviews.{object_needs}
use Rattle.tpm_step.proofs.rows.Acceptance.{accepted_is}
use Rattle.tpm_step.specs.uses.EntryHmacs.{used_in}
use Rattle.tpm_step.specs.step.Events.{Cycled, Given, Placed, PlainEvent}
use Rattle.tpm_step.specs.step.Execution.{Executes}
use Rattle.tpm_step.specs.history.Executions.{Execution, Leads, history_after, with_execution}
use Rattle.tpm_step.specs.history.Follows.{Follows}
use Rattle.tpm_step.specs.step.General.{general}
use Rattle.tpm_step.specs.history.History.{AcceptedCommand, Done, History, command_of, extended_history, with_command}
use Rattle.tpm_step.specs.uses.PolicyUses.{AllMeetPolicies, UsesMeetPolicies}
use Rattle.tpm_step.specs.step.Step.{Accepted, Stepped, Steps, acceptance, acceptance_in, answer_where, request_in, step_where}
use Rattle.tpm_step.specs.step.Table.{row_of}
use Rattle.tpm_step.specs.history.View.{OfObject, View}
use Rattle.tpm_step.specs.declared.refused_command.RefusedCommand.{RefusedCommand}
use Rattle.tpm_step.specs.rows.Handles.{HandlesFit}
use Rattle.tpm_types_common.proofs.Named.{none}
use Rattle.tpm_types_common.proofs.Spelled.{first}
use Rattle.tpm_types_common.specs.declared.refused.Refused.{Refused}
use Rattle.tpm_types_command.specs.Command.{Whole}
use Rattle.tpm_types_object.specs.declared.public.Public.{Public}
use Rattle.tpm_row_secrecy.specs.Reads.{reads_secret}
use Rattle.tpm_row_secrecy.specs.Secrecy.{DifferInSecrets}
use Rattle.tpm_secrecy.proofs.Data.{alike_told_nothing}
use Rattle.tpm_secrecy.proofs.Reading.{ReadsObject, first_used, first_viewed, never_grows, object_handle_fits, object_viewed, reading_code, reads_object}
use Rattle.tpm_secrecy.specs.SealedData.{FollowedDataNeedPolicy, FollowedDataStayUntilRead, NoneIs, ReadsSealed, SealedDataNeedPolicy, SealedDataStayUntilRead, StaySealed, TellsNothingSealed, sealed_secrecy}
use Rattle.tpm_secrecy.specs.Tells.{TellsNothing, decoded_reads, granted_reads, is_reading}
use Rattle.tpm_types_object.specs.declared.object_attributes.ObjectAttribute.TheVariants as attribute

-- ---- events that reveal nothing

pub unread_tells_nothing : (objects : Public → Bool) (can : Bool) (old : Record)
    (event : PlainEvent) (x : Stepped) → Steps can old event x
    → is_reading (sealed_secrecy objects) old event ≡ false
    → TellsNothingSealed objects can old event x
unread_tells_nothing objects can old event x steps free other also differ alike = (
  step_where steps.0 other also,
  (steps.0, steps.1, refl),
  subst (λ (z : Stepped). TellsNothing (sealed_secrecy objects) z (step_where steps.0 other also))
      (sym steps.2)
      (alike_told_nothing (λ number. false) objects old other steps.0 event also differ alike free),
)

-- ---- commands that read sealed data

-- The command in a buffer is authorized and reads sealed data.
pub record IsRead (objects : Public → Bool) (r : Record) (buffer : List ℕ) (locality : ℕ)
    (random : List ℕ) : Type 0 where
  pub c : Whole
  pub decoded : general r buffer ≡ Ok c
  pub grants : List (Option Grant)
  pub granted : authorize r c locality ≡ Ok grants
  pub reads : reads_secret (sealed_secrecy objects) r c.code (request_in r c grants locality random)
      ≡ true

module _ (objects : Public → Bool) (r : Record) (buffer : List ℕ) (locality : ℕ)
    (random : List ℕ) where
  read_granted : (c : Whole) → general r buffer ≡ Ok c → (x : Result (List (Option Grant)) Refused)
      → authorize r c locality ≡ x → granted_reads (sealed_secrecy objects) r c locality random x
      ≡ true → IsRead objects r buffer locality random
  read_granted c decoded (Ok grants) granted is =
      record { c = c; decoded = decoded; grants = grants; granted = granted; reads = is }
  read_granted c decoded (Err e) granted is = absurd (false≢true is)

  pub read_decoded : (x : Result Whole RefusedCommand) → general r buffer ≡ x
      → decoded_reads (sealed_secrecy objects) r locality random x ≡ true
      → IsRead objects r buffer locality random
  read_decoded (Ok c) decoded is = read_granted c decoded (authorize r c locality) refl is
  read_decoded (Err e) decoded is = absurd (false≢true is)

  pub accepted_so : (c : Whole) (grants : List (Option Grant)) (x : Success)
      → general r buffer ≡ Ok c → authorize r c locality ≡ Ok grants
      → row_of r c.code (request_in r c grants locality random) ≡ Ok x
      → acceptance_in r buffer locality random
      ≡ Ok (record {
        command = c;
        grants = grants;
        request = request_in r c grants locality random;
        success = x;
      })
  unfolding acceptance_in acceptance
  accepted_so c grants x decoded granted row = rw (decoded, granted, row) refl

-- a command that never allocates memory returns a success, even if an allocation would fail
answered : (refused : Bool) (r : Record) (random : List ℕ) (a : Accepted)
    → (shape_of a.command.code).grows ≡ false → (answer_where refused r random (Ok a)).row.check ≡ 0
answered false r random a none = refl
answered true r random a none = rw none refl

-- ---- devices that follow a history

module _ (objects : Public → Bool) (can : Bool) (old : Record) (history : History)
    (follows : Follows old history) where
  abbrev IsRecordedReading : PlainEvent → Stepped → Type 0
  IsRecordedReading event x = (c : AcceptedCommand)
      × (extended_history old event x.row.check history ≡ Done c ∷ history)
      × ReadsSealed objects history c

  recorded_reading : (buffer : List ℕ) (locality elapsed : ℕ) (bytes : List ℕ) (x : Stepped)
      → Executes can old (Given buffer locality elapsed bytes) x
      → IsRead objects (after_tick old elapsed) buffer locality bytes
      → IsRecordedReading (Given buffer locality elapsed bytes) x
  recorded_reading buffer locality elapsed bytes x executes f = (
    done,
    is_recorded,
    record {
      public = public;
      viewed = viewed;
      keyed_hash = so.keyed_hash;
      secret = so.secret;
      code = so.code_is;
      policy = λ policy no_user_with_auth auth_policy is.
          object_needs history done meet 0 public policy (record {
            handle = so.handle;
            used = used;
            viewed = viewed;
            no_user_with_auth = no_user_with_auth;
            auth_policy = auth_policy;
          }) is;
    },
  )
    where
      t : Record
      t = after_tick old elapsed

      event : PlainEvent
      event = Given buffer locality elapsed bytes

      q : Request
      q = request_in t f.c f.grants locality bytes

      so : ReadsObject objects t f.c.code q
      so = reads_object objects t q f.c.code f.reads

      public : Public
      public = so.object.public

      sign : Bool
      sign = has public.attributes attribute.Sign

      a : Accepted
      a = record { command = f.c; grants = f.grants; request = q; success = so.success }

      is_accepted : acceptance_in t buffer locality bytes ≡ Ok a
      is_accepted = accepted_so objects t buffer locality bytes f.c f.grants so.success f.decoded
          f.granted so.succeeds

      done : AcceptedCommand
      done = command_of t a

      check : x.row.check ≡ 0
      check =
          ap (λ (y : Stepped). y.row.check) executes.steps.2
          ∙ ap (λ (y : Result Accepted RefusedCommand).
          (answer_where executes.steps.0 t bytes y).row.check) is_accepted
          ∙ answered executes.steps.0 t bytes a
          (ap (λ (c : CommandCode). (shape_of c).grows) so.code_is ∙ never_grows sign)

      is_recorded : extended_history old event x.row.check history ≡ Done done ∷ history
      is_recorded =
          ap (λ (n : ℕ). with_command t (acceptance_in t buffer locality bytes) n history) check
          ∙ ap (λ (y : Result Accepted RefusedCommand). with_command t y 0 history) is_accepted

      meet : UsesMeetPolicies history done
      meet =
          (subst AllMeetPolicies is_recorded
          (execution_follows can old event x history executes follows).policies).0

      fits : HandlesFit t (shape_of (reading_code public)).handles f.c.handles
      fits = subst (λ (c : CommandCode). HandlesFit t (shape_of c).handles f.c.handles) so.code_is
          (ok_at _ (acceptance_in t buffer locality bytes) a
          (accepted_is t buffer locality bytes)
          is_accepted).fits

      viewed : slice_get done.views 0 ≡ Some (OfObject public)
      viewed =
          first_viewed t f.c.handles so.handle so.first
          ∙ ap (λ (v : View). Some v)
          (object_viewed t so.handle so.object
          (object_handle_fits t sign f.c.handles so.handle fits so.first) so.found)

      used : used_in done.command 0 ≡ Some so.handle
      used =
          ap (λ (c : CommandCode). slice_get (take (authorized_handles c) f.c.handles) 0) so.code_is
          ∙ first_used sign f.c.handles so.handle so.first

  event_reading : (event : PlainEvent) (x : Stepped) → Executes can old event x
      → is_reading (sealed_secrecy objects) old event ≡ true → IsRecordedReading event x
  event_reading (Given buffer locality elapsed bytes) x executes is =
      recorded_reading buffer locality elapsed bytes x executes
      (read_decoded objects (after_tick old elapsed) buffer locality bytes
      (general (after_tick old elapsed) buffer) refl is)
  event_reading Cycled x executes is = absurd (false≢true is)
  event_reading (Placed object) x executes is = absurd (false≢true is)

pub followed_data_need_policy : FollowedDataNeedPolicy
followed_data_need_policy objects can old history follows event x executes =
    elim (cases_Bool (is_reading (sealed_secrecy objects) old event)) [
      | inl is ↦ inr (event_reading objects can old history follows event x executes is)
      | inr free ↦ inl (unread_tells_nothing objects can old event x executes.steps free)
    ]

-- ---- executions before a command reads the data

module _ (objects : Public → Bool) (can : Bool) (Holds : History → AcceptedCommand → Type 0)
    (so : (history : History) (c : AcceptedCommand) → ReadsSealed objects history c
    → Holds history c) where
  one_stays : (old : Record) (history : History) → Follows old history
      → (event : PlainEvent) (x : Stepped) → Executes can old event x
      → ((c : AcceptedCommand) → extended_history old event x.row.check history ≡ Done c ∷ history
      → Holds history c → ⊥) → TellsNothingSealed objects can old event x
  one_stays old history follows event x executes none =
      elim (followed_data_need_policy objects can old history follows event x executes) [
        | inl told ↦ told
        | inr read ↦ absurd (none read.0 read.1 (so history read.0 read.2))
      ]

  pub all_stay : (old : Record) (history : History) → Follows old history
      → (executions : List Execution) (new : Record) → Leads can old executions new
      → NoneIs Holds history executions → StaySealed objects can old executions new
  all_stay old history follows [] new led none other differ =
      subst (λ (r : Record). DifferInSecrets (sealed_secrecy objects) r other) (sym led) differ
  all_stay old history follows (one ∷ executions) new led none other differ = λ also alike.
      let executes : Executes can old one.event one.seen = led.1 in
      let same : with_execution one history
      ≡ extended_history old one.event one.seen.row.check history =
      ap (λ (r : Record). extended_history r one.event one.seen.row.check history) led.0 in
      let first = one_stays old history follows one.event one.seen executes
      (λ c is. none.0 c (same ∙ is)) other also differ alike in
      let next : Follows one.seen.after (with_execution one history) =
      subst (Follows one.seen.after) (sym same)
      (execution_follows can old one.event one.seen history executes follows) in (
        first.0,
        first.1,
        sym first.2.response,
        sym first.2.row,
        all_stay one.seen.after (with_execution one history) next executions new led.2 none.1
            first.0.after first.2.after,
      )

pub followed_data_stay_until_read : FollowedDataStayUntilRead
followed_data_stay_until_read objects can old history follows executions new led none =
    all_stay objects can (ReadsSealed objects) (λ past c reads. reads) old history follows
    executions new led none

-- ---- devices that were manufactured

pub history_followed : (can : Bool) (random : List ℕ) (executions : List Execution) (old : Record)
    → Leads can (manufactured random) executions old → Follows old (history_after [] executions)
history_followed can random executions old leads =
    (stretch_follows can (manufactured random) executions old [] leads
    (manufactured_follows random)).follows

pub sealed_data_need_policy : SealedDataNeedPolicy
sealed_data_need_policy objects can random executions old leads event x executes =
    followed_data_need_policy objects can old (history_after [] executions)
    (history_followed can random executions old leads) event x executes

pub sealed_data_stay_until_read : SealedDataStayUntilRead
sealed_data_stay_until_read objects can random before old leads executions new led none =
    followed_data_stay_until_read objects can old (history_after [] before)
    (history_followed can random before old leads) executions new led none
