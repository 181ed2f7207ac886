-- On a device with an unknown history, only an accepted command that reads sealed data reveals
-- anything about the data.
use Rattle.std.proofs.Common.{ap, arith, inl, inr, refl, subst, sym, ◌∙◌}
use Rattle.std.proofs.lemmas.Bool.{and_parts, cases_Bool, false≢true}
use Rattle.std.proofs.lemmas.Slice.Eq.{bytes_eq-Decides}
use Rattle.std.specs.Prelude.{Bool, Err, IfOk, List, None, Ok, Option, Result, Some, [], false, if◌then◌else◌, length, not, slice_get, take, true, ℕ, ◌==◌, ◌∷◌, ◌≡◌, ◌≤◌}
use Rattle.std.specs.Str.{bytes_eq}
use Rattle.tpm_auth.proofs.Granting.{granting}
use Rattle.tpm_auth.specs.Entries.{session_of}
use Rattle.tpm_auth.specs.Grant.{authorize, authorized, grant, grant_by, password_grant, session_grant_if}
use Rattle.tpm_auth.specs.Granting.{IsGranting}
use Rattle.tpm_auth.specs.SessionGrant.{comparison, demand_by, demand_of_session, session_grant, use_of}
use Rattle.tpm_auth.specs.declared.session_grant.Grant.{Grant}
use Rattle.tpm_bytes.specs.Reading.{refused_if, ◌>>=◌}
use Rattle.tpm_commands.specs.CommandCode.{authorized_handles, nv_use_at, shape_of}
use Rattle.tpm_commands.specs.declared.command_code.CommandCode.{CommandCode}
use Rattle.tpm_object.specs.declared.object.Object.{Object}
use Rattle.tpm_policy.specs.Use.{UseParts, is_policy_of, use_passes}
use Rattle.tpm_policy.specs.declared.state.Demand.{Demand}
use Rattle.tpm_record.specs.Entity.{AnObject, entity_at, entity_is_available, entity_policy, is_available, policy_of}
use Rattle.tpm_record.specs.Record.{Record}
use Rattle.tpm_record.specs.Tick.{after_tick}
use Rattle.tpm_record.specs.rows.Request.{Request, first_handle}
use Rattle.tpm_session.specs.declared.session.Session.{Session}
use Rattle.tpm_step.proofs.rows.Binding.{asked, ok_at, ok_bind_is, ok_checked, ok_then}
use Rattle.tpm_step.proofs.uses.UseGrounds.{Passes, hash_one, use_passed}
use Rattle.tpm_step.proofs.rows.Acceptance.{accepted_is}
use Rattle.tpm_step.specs.step.Events.{Cycled, Given, Placed, PlainEvent}
use Rattle.tpm_step.specs.step.General.{general}
use Rattle.tpm_step.specs.step.Step.{Accepted, acceptance_in, request_in}
use Rattle.tpm_step.specs.rows.Handles.{HandlesFit}
use Rattle.tpm_types_common.specs.Algorithm.{hash_number}
use Rattle.tpm_types_common.specs.Handle.{session_kind}
use Rattle.tpm_types_common.specs.Rc.{plain}
use Rattle.tpm_types_common.specs.Refused.{refusal}
use Rattle.tpm_types_common.specs.SessionType.{is_trial}
use Rattle.tpm_types_common.specs.declared.handle.Handle.{Handle}
use Rattle.tpm_types_common.specs.declared.handle.SessionKind.{SessionKind}
use Rattle.tpm_types_common.specs.declared.refused.Refused.{Refused}
use Rattle.tpm_types_common.specs.declared.session_type.SessionType.{SessionType}
use Rattle.tpm_types_command.specs.AuthEntry.{Entry}
use Rattle.tpm_types_command.specs.Command.{Whole}
use Rattle.tpm_types_object.specs.ObjectAttributes.{has}
use Rattle.tpm_types_object.specs.declared.public.Public.{Public}
use Rattle.tpm_secrecy.proofs.Reading.{ReadsObject, first_used, object_entity, object_handle_fits, reading_code, reads_object}
use Rattle.tpm_secrecy.proofs.SealedData.{IsRead, accepted_so, read_decoded, unread_tells_nothing}
use Rattle.tpm_secrecy.specs.AnyDevice.{AcceptsReading, HasDigest, IsAcceptedReading, SealedDataNeedDigest}
use Rattle.tpm_secrecy.specs.SealedData.{sealed_secrecy}
use Rattle.tpm_secrecy.specs.Tells.{is_reading}
use Rattle.tpm_commands.specs.declared.command_code.CommandCode.TheVariants as command
use Rattle.tpm_record.specs.declared.entity.Means.TheVariants as means
use Rattle.tpm_types_common.specs.declared.check.Check.TheVariants as check
use Rattle.tpm_types_common.specs.declared.handle.SessionKind.TheVariants as kind
use Rattle.tpm_types_common.specs.declared.rc.ResponseCode.TheVariants as code
use Rattle.tpm_types_common.specs.declared.session_type.SessionType.TheVariants as type
use Rattle.tpm_types_object.specs.declared.object_attributes.ObjectAttribute.TheVariants as attribute

-- ---- entries that authorize an object without userWithAuth

-- The entry names a policy session with the hash and the digest of this object's policy.
record IsOfPolicy (r : Record) (o : Object) (e : Entry) : Type 0 where
  session : Session
  there : session_of r e ≡ Some session
  is_policy : session.kind ≡ type.Policy
  hash : session.hash ≡ o.public.name_alg
  digest : session.policy.digest ≡ o.public.auth_policy

always : {A E : Type 0} (P : Type 0) → P → (x : Result A E) → IfOk x (λ a. P)
always P holds (Ok a) = holds
always P holds (Err e) = tt

module _ (r : Record) (c : Whole) (locality : ℕ) (handle : Handle) (o : Object)
    (is : entity_at r handle ≡ AnObject o)
    (closed : has o.public.attributes attribute.UserWithAuth ≡ false) where
  unavailable : is_available r handle means.AuthValue (nv_use_at c.code 0) ≡ false
  unfolding is_available
  unavailable = ap (entity_is_available means.AuthValue (nv_use_at c.code 0)) is ∙ closed

  policy_is : policy_of r handle
      ≡ Some (record { hash = o.public.name_alg; digest = o.public.auth_policy })
  unfolding policy_of
  policy_is = ap entity_policy is

  password_refused : (e : Entry)
      → IfOk (password_grant r c.code 1 (Some handle) e) (λ g. IsOfPolicy r o e)
  unfolding password_grant
  password_refused e =
      ok_bind_is _ (refused_if (not (is_available r handle means.AuthValue (nv_use_at c.code 0)))
      (refusal check.Authorization (plain code.AuthUnavailable))) _ (λ u may.
      absurd (false≢true (sym unavailable ∙ asked _ _ u may)))

  module _ (e : Entry) (s : Session) (there : session_of r e ≡ Some s) where
    abbrev u : UseParts
    u = use_of r c locality 1 handle s

    value_refused : IfOk (demand_by type.Hmac r c locality 1 handle s) (λ d. IsOfPolicy r o e)
    value_refused =
        ok_bind_is _ (refused_if (not (is_available r handle means.AuthValue (nv_use_at c.code 0)))
        (refusal check.Authorization (plain code.AuthUnavailable))) _ (λ a may.
        absurd (false≢true (sym unavailable ∙ asked _ _ a may)))

    policy_passes : IfOk (demand_by type.Policy r c locality 1 handle s) (Passes s.policy u)
    policy_passes = ok_checked (Passes s.policy u) check.Authorization (use_passes s.policy u)
        (use_passed s.policy u)

    no_trial : s.kind ≡ type.Trial → (d : Demand) → Passes s.policy u d → ⊥
    unfolding use_of
    no_trial is d passes = false≢true (sym passes.trial ∙ ap is_trial is)

    of_policy : s.kind ≡ type.Policy → (d : Demand) → Passes s.policy u d → IsOfPolicy r o e
    unfolding use_of
    of_policy is d passes =
        let same : is_policy_of s.hash s.policy.digest
        (Some (record { hash = o.public.name_alg; digest = o.public.auth_policy })) ≡ true =
        sym (ap (is_policy_of s.hash s.policy.digest) policy_is) ∙ passes.digest in
        let parts = and_parts (hash_number o.public.name_alg == hash_number s.hash)
        (bytes_eq s.policy.digest o.public.auth_policy) same in
        record {
          session = s;
          there = there;
          is_policy = is;
          hash = sym (hash_one o.public.name_alg s.hash parts.0);
          digest = (bytes_eq-Decides s.policy.digest o.public.auth_policy).0 parts.1;
        }

    abbrev compares : Demand → Result (Option Grant) Refused
    compares d = comparison r c 1 (Some (record { handle = handle; demand = d })) e s

    by_type : (k : SessionType) → s.kind ≡ k
        → IfOk (demand_by k r c locality 1 handle s >>= compares) (λ g. IsOfPolicy r o e)
    by_type type.Hmac is =
        ok_then (λ d. IsOfPolicy r o e) _ (demand_by type.Hmac r c locality 1 handle s) compares
        value_refused (λ d holds. always (IsOfPolicy r o e) holds (compares d))
    by_type type.Policy is =
        ok_then (Passes s.policy u) _ (demand_by type.Policy r c locality 1 handle s) compares
        policy_passes
        (λ d passes. always (IsOfPolicy r o e) (of_policy is d passes) (compares d))
    by_type type.Trial is =
        ok_then (Passes s.policy u) _ (demand_by type.Trial r c locality 1 handle s) compares
        policy_passes (λ d passes. absurd (no_trial is d passes))

    by_session : IfOk (session_grant r c locality 1 (Some handle) e s) (λ g. IsOfPolicy r o e)
    unfolding session_grant demand_of_session
    by_session = by_type s.kind refl

  by_found : (e : Entry) (found : Option Session) → session_of r e ≡ found
      → IfOk (session_grant_if r c locality 1 (Some handle) e found) (λ g. IsOfPolicy r o e)
  by_found e None there = tt
  by_found e (Some s) there = by_session e s there

  by_kind : (e : Entry) (k : SessionKind)
      → IfOk (grant_by k r c locality 1 (Some handle) e) (λ g. IsOfPolicy r o e)
  by_kind e kind.Password = password_refused e
  by_kind e kind.Session = by_found e (session_of r e) refl
  by_kind e kind.Other = tt

  entry_policy : (e : Entry) → IfOk (grant r c locality 1 (Some handle) e) (λ g. IsOfPolicy r o e)
  unfolding grant
  entry_policy e = by_kind e (session_kind e.session)

  -- ---- the first entry of an authorized command

  first_entry : (es : List Entry) (gs : List (Option Grant)) → 1 ≤ length es → length gs ≡ length es
      → (e : Entry) × (g : Option Grant) × (slice_get es 0 ≡ Some e) × (slice_get gs 0 ≡ Some g)
  first_entry [] gs enough many = absurd (omega (arith, enough))
  first_entry (e ∷ es) [] enough many = absurd (omega (arith, many))
  first_entry (e ∷ es) (g ∷ gs) enough many = (e, g, refl, refl)

  pub has_digest : (grants : List (Option Grant)) → authorize r c locality ≡ Ok grants
      → authorized_handles c.code ≡ 1 → slice_get (authorized c) 0 ≡ Some handle
      → HasDigest r c o.public.name_alg o.public.auth_policy
  has_digest grants granted one used =
      let all : IsGranting r c locality grants =
      ok_at (IsGranting r c locality) (authorize r c locality) grants (granting r c locality)
      granted in
      let (e, g, given, there) =
      first_entry c.entries grants (subst (λ (n : ℕ). n ≤ length c.entries) one all.enough)
      all.as_many in
      let so : IsOfPolicy r o e =
      ok_at (λ g. IsOfPolicy r o e) (grant r c locality 1 (Some handle) e) g (entry_policy e)
      (subst (λ (x : Option Handle). grant r c locality 1 x e ≡ Ok g) used
      (all.each 0 e g given there)) in
      record {
        entry = e;
        given = given;
        session = so.session;
        there = so.there;
        kind = so.is_policy;
        session_hash = so.hash;
        policy = so.digest;
      }

-- ---- commands that read sealed data

first_sent : (handles : List Handle) (handle : Handle) → first_handle handles ≡ Ok handle
    → slice_get handles 0 ≡ Some handle
first_sent [] handle first = absurd cc
first_sent (h ∷ hs) handle first = ap (λ (x : Result Handle Refused). sent x) first
  where
    sent : Result Handle Refused → Option Handle
    sent (Ok x) = Some x
    sent (Err e) = None

one_authorized : (sign : Bool) → authorized_handles (if sign then command.Hmac else command.Unseal)
    ≡ 1
unfolding shape_of
one_authorized true = refl
one_authorized false = refl

module _ (objects : Public → Bool) (old : Record) (buffer : List ℕ) (locality elapsed : ℕ)
    (random : List ℕ) where
  abbrev t : Record
  t = after_tick old elapsed

  accepts_reading : IsRead objects t buffer locality random
      → AcceptsReading objects t buffer locality random
  accepts_reading f = record {
    done = a;
    is = is;
    handle = so.handle;
    first = first_sent f.c.handles so.handle so.first;
    object = so.object;
    found = so.found;
    keyed_hash = so.keyed_hash;
    secret = so.secret;
    code = so.code_is;
    policy = λ closed. has_digest t f.c locality so.handle so.object
        (object_entity t so.handle so.object
        (object_handle_fits t sign f.c.handles so.handle fits so.first) so.found)
        closed f.grants f.granted (ap authorized_handles so.code_is ∙ one_authorized sign) used;
  }
    where
      q : Request
      q = request_in t f.c f.grants locality random

      so : ReadsObject objects t f.c.code q
      so = reads_object objects t q f.c.code f.reads

      sign : Bool
      sign = has so.object.public.attributes attribute.Sign

      a : Accepted
      a = record { command = f.c; grants = f.grants; request = q; success = so.success }

      is : acceptance_in t buffer locality random ≡ Ok a
      is = accepted_so objects t buffer locality random f.c f.grants so.success f.decoded f.granted
          so.succeeds

      fits : HandlesFit t (shape_of (reading_code so.object.public)).handles f.c.handles
      fits = subst (λ (c : CommandCode). HandlesFit t (shape_of c).handles f.c.handles) so.code_is
          (ok_at _ (acceptance_in t buffer locality random) a
          (accepted_is t buffer locality random)
          is).fits

      used : slice_get (authorized f.c) 0 ≡ Some so.handle
      used =
          ap (λ (c : CommandCode). slice_get (take (authorized_handles c) f.c.handles) 0) so.code_is
          ∙ first_used sign f.c.handles so.handle so.first

accepted_reading : (objects : Public → Bool) (old : Record) (event : PlainEvent)
    → is_reading (sealed_secrecy objects) old event ≡ true → IsAcceptedReading objects old event
accepted_reading objects old (Given buffer locality elapsed random) is =
    accepts_reading objects old buffer locality elapsed random
    (read_decoded objects (after_tick old elapsed) buffer locality random
    (general (after_tick old elapsed) buffer) refl is)
accepted_reading objects old Cycled is = absurd (false≢true is)
accepted_reading objects old (Placed object) is = absurd (false≢true is)

pub sealed_data_need_digest : SealedDataNeedDigest
sealed_data_need_digest objects can old event x executes =
    elim (cases_Bool (is_reading (sealed_secrecy objects) old event)) [
      | inl is ↦ inr (accepted_reading objects old event is)
      | inr free ↦ inl (unread_tells_nothing objects can old event x executes.steps free)
    ]
