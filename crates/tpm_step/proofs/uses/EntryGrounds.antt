-- Each accepted entry authorizes its handle by a password, an HMAC or a policy.
use Rattle.std.proofs.Common.{◌≡◌, ◌≢◌, ℕ, zero, suc, ◌+◌, ◌<◌, arith, Bool, true, false, cond, List, [], ◌∷◌, length, take, map, Option, Some, None, option_map, Ok, IfOk, slice_get, refl, ap, sym, subst, ◌∙◌}
use Rattle.std.specs.Prelude.{◌&&◌, not, IfSome, option_and_then, ◌-◌}
use Rattle.std.specs.Int.{bit_at}
use Rattle.std.specs.Option.{option_map_or}
use Rattle.std.proofs.lemmas.Bool.{false≢true, or_parts}
use Rattle.std.proofs.lemmas.Option.{same_Some}
use Rattle.tpm_bytes.specs.Reading.{◌>>=◌, refused_if}
use Rattle.tpm_policy.specs.Assertion.{is_other}
use Rattle.tpm_policy.specs.State.{Policy}
use Rattle.tpm_policy.specs.Use.{EntityParts, is_policy_of, use_passes}
use Rattle.tpm_policy.specs.declared.state.Demand.{Demand}
use Rattle.tpm_policy.specs.declared.state.Demand.TheVariants as demand
use Rattle.tpm_session.specs.ParameterHash.{command_hash_of}
use Rattle.tpm_session.specs.declared.session.Session.{Session}
use Rattle.tpm_types_common.specs.Handle.{session_kind}
use Rattle.tpm_types_common.specs.Rc.{plain}
use Rattle.tpm_types_common.specs.Refused.{refusal}
use Rattle.tpm_types_common.specs.SessionType.{is_trial}
use Rattle.tpm_types_common.specs.declared.check.Check.TheVariants as check
use Rattle.tpm_types_common.specs.declared.handle.Handle.{Handle}
use Rattle.tpm_types_common.specs.declared.handle.SessionKind.{SessionKind}
use Rattle.tpm_types_common.specs.declared.handle.SessionKind.TheVariants as kind
use Rattle.tpm_types_common.specs.declared.rc.ResponseCode.TheVariants as code
use Rattle.tpm_types_common.specs.declared.session_type.SessionType.{SessionType}
use Rattle.tpm_types_common.specs.declared.session_type.SessionType.TheVariants as type
use Rattle.tpm_types_common.specs.declared.nv_use.NvUse.{NvUse}
use Rattle.tpm_types_command.specs.AuthEntry.{Entry}
use Rattle.tpm_types_command.specs.Command.{Whole}
use Rattle.tpm_commands.specs.CommandCode.{authorized_handles, code_number, nv_use_at, role_at}
use Rattle.tpm_record.specs.Entity.{AnIndex, AnObject, Entity, Permanent, auth_value_of, entity_at, is_available, is_kept, is_present, name_of, names_kept, policy_of, protection_of, written_of}
use Rattle.tpm_record.specs.Record.{Record}
use Rattle.tpm_record.specs.declared.entity.Means.{Means}
use Rattle.tpm_record.specs.declared.entity.Means.TheVariants as means
use Rattle.tpm_auth.specs.Comparison.{check_of, failure, is_password_of, may_be_tried}
use Rattle.tpm_auth.specs.Entries.{session_of}
use Rattle.tpm_auth.specs.Grant.{grant, grant_by, password_grant, session_grant_if, undemanding}
use Rattle.tpm_auth.specs.Granting.{IsGranting}
use Rattle.tpm_auth.specs.SessionGrant.{comparison, comparison_holds, demand_by, demand_of_session, demands_password, entry_protection, granted_value, has_value_in_key, is_authentic, is_password_demand, session_grant, use_of, used_auth_value}
use Rattle.tpm_auth.specs.declared.session_grant.Grant.{Grant}
use Rattle.tpm_step.proofs.rows.Binding.{asked, ok_at, ok_bind, ok_bind_is, ok_checked, ok_then, ok_weaker}
use Rattle.tpm_step.specs.history.AuthValues.{auth_of}
use Rattle.tpm_step.specs.history.DevicePcrs.{HasPcrs}
use Rattle.tpm_step.specs.history.DeviceSessions.{AreLive, SessionFacts, facts_of, session_facts}
use Rattle.tpm_step.specs.uses.EntryHmacs.{HasHmac, cp_hash_in, used_in, value_in_key}
use Rattle.tpm_step.specs.uses.Grounds.{ByHmac, ByPassword, ByPolicy, Ground, HasDemanded, MeetsPolicy, NamesCommand, UsesHaveGrounds, allows, allows_in, policy_at, written_at}
use Rattle.tpm_step.specs.history.History.{AcceptedCommand, History}
use Rattle.tpm_step.specs.uses.QuietPcrs.{AllRecordUpdates, HoldsPcrs, RecordsUpdates}
use Rattle.tpm_step.specs.history.Sessions.{LiveSession, policy_in, sessions_of}
use Rattle.tpm_step.specs.history.View.{View, entity_view, view_of}
use Rattle.tpm_step.specs.history.Views.{is_there, view_policy, view_takes, view_written}
use Rattle.tpm_step.proofs.history.DeviceAuthValues.{kept_there}
use Rattle.tpm_step.proofs.uses.EntryHmacs.{authentic_told, cp_hash_told, handle_there, password_told, value_told, viewed_there}
use Rattle.tpm_step.proofs.uses.UseGrounds.{Passes, is_its_policy, names_command, one_bit, recorded_hash, recorded_is, takes_some, use_passed, recorded_written}
use Rattle.tpm_step.proofs.history.Views.{views_tell}

-- ---- checking the password or the HMAC of an entry

compared : (r : Record) (c : Whole) (n : ℕ) (g : Option Grant) (e : Entry) (s : Session)
    → IfOk (comparison r c n g e s) (λ granted. comparison_holds r c n g e s ≡ true)
compared r c n g e s =
    ok_bind _ (may_be_tried r.fixed.lockout g (entry_protection r s g)) _ (λ tried.
    ok_bind_is _ (refused_if (not (comparison_holds r c n g e s))
    (failure (check_of g) n (entry_protection r s g))) _ (λ u holds. asked _ _ u holds))

by_hmac : (r : Record) (c : Whole) (n : ℕ) (g : Option Grant) (e : Entry) (s : Session)
    → demands_password g ≡ false → comparison_holds r c n g e s ≡ true
    → is_authentic r c n g e s ≡ true
unfolding comparison_holds
by_hmac r c n g e s none holds =
    subst (λ (b : Bool). cond b (is_password_of (granted_value r g) e.hmac)
    (is_authentic r c n g e s) ≡ true) none holds

by_password : (r : Record) (c : Whole) (n : ℕ) (g : Option Grant) (e : Entry) (s : Session)
    → demands_password g ≡ true → comparison_holds r c n g e s ≡ true
    → is_password_of (granted_value r g) e.hmac ≡ true
unfolding comparison_holds
by_password r c n g e s one holds =
    subst (λ (b : Bool). cond b (is_password_of (granted_value r g) e.hmac)
    (is_authentic r c n g e s) ≡ true) one holds

nothing_used : (r : Record) (s : Session) → used_auth_value r s None ≡ []
unfolding used_auth_value
nothing_used r s = refl

less_one : (place : ℕ) → (place + 1) - 1 ≡ place
less_one place = omega arith

same_place : {X Y : Type 0} (xs : List X) (ys : List Y) (place : ℕ) (x : X) → length ys ≡ length xs
    → slice_get xs place ≡ Some x → (y : Y) × (slice_get ys place ≡ Some y)
same_place [] ys place x many is = absurd cc
same_place (first ∷ xs) [] place x many is = absurd (omega (arith, many))
same_place (first ∷ xs) (y ∷ ys) zero x many is = (y, refl)
same_place (first ∷ xs) (y ∷ ys) (suc place) x many is =
    same_place xs ys place x (omega (arith, many)) is

got : {X : Type 0} (xs : List X) (place : ℕ) → place < length xs
    → (x : X) × (slice_get xs place ≡ Some x)
got [] place below = absurd (omega (arith, below))
got (x ∷ xs) zero below = (x, refl)
got (x ∷ xs) (suc place) below = got xs place (omega (arith, below))

got_below : {X : Type 0} (count : ℕ) (xs : List X) (place : ℕ) (x : X)
    → slice_get (take count xs) place ≡ Some x → place < count
got_below zero xs place x is = absurd cc
got_below (suc count) [] place x is = absurd cc
got_below (suc count) (y ∷ xs) zero x is = omega arith
got_below (suc count) (y ∷ xs) (suc place) x is = omega (arith, got_below count xs place x is)

not_kept : (kept : Bool) → (kept ≡ true → false ≡ true) → not kept ≡ true
not_kept true kept = absurd (false≢true (kept refl))
not_kept false kept = refl

told_of : (found : Session) (told : Option LiveSession)
    → option_map session_facts (Some found) ≡ option_map facts_of told
    → (l : LiveSession) × (told ≡ Some l) × (session_facts found ≡ facts_of l)
told_of found (Some l) same = (l, refl, same_Some (session_facts found) (facts_of l) same)
told_of found None same = absurd cc

-- ---- facts that a device shares with its history

module _ (r : Record) (c : AcceptedCommand) (history : History) (locality : ℕ)
    (from : c.request.locality ≡ locality) (viewed : c.views ≡ map (view_of r) c.command.handles)
    (valued : map (auth_value_of r) c.command.handles ≡ map (auth_of history) c.command.handles)
    (pcrs : HasPcrs r history) (live : AreLive r.sessions (sessions_of history))
    (updates : AllRecordUpdates history) (present : (place : ℕ) (handle : Handle)
    → slice_get c.command.handles place ≡ Some handle → is_present r handle ≡ true) where
  there : (place : ℕ) (handle : Handle) → used_in c.command place ≡ Some handle
      → is_there (view_of r handle) ≡ true
  unfolding view_of
  there place handle at =
      by (entity_at r handle)
      (kept_there r handle
      (present place handle (handle_there r c history viewed valued live place handle at)))
    where
      by : (entity : Entity) → (names_kept handle ≡ true → is_kept entity ≡ true)
          → is_there (entity_view handle entity) ≡ true
      by (AnObject object) kept = refl
      by (AnIndex index) kept = refl
      by Permanent kept = not_kept (names_kept handle) kept

  taken : (means : Means) (place : ℕ) (handle : Handle) → used_in c.command place ≡ Some handle
      → is_available r handle means (nv_use_at c.command.code (place + 1 - 1)) ≡ true
      → allows_in means c place ≡ true
  taken means place handle at available =
      ap (λ (found : Option View). option_map_or (allows means (nv_use_at c.command.code place))
      found false) (viewed_there r c history viewed valued live place handle at)
      ∙ ap (λ (b : Bool). b && view_takes means (nv_use_at c.command.code place) (view_of r handle))
      (there place handle at)
      ∙ (views_tell r handle).available means (nv_use_at c.command.code place)
      ∙ ap (λ (n : ℕ). is_available r handle means (nv_use_at c.command.code n))
      (sym (less_one place))
      ∙ available

  -- ---- a policy session

  module _ (place : ℕ) (handle : Handle) (e : Entry) (at : used_in c.command place ≡ Some handle)
      (s : Session) (l : LiveSession) (lives : sessions_of history e.session ≡ Some l)
      (same : session_facts s ≡ facts_of l) where
    policy_same : s.policy ≡ policy_in l
    policy_same = ap (λ (f : SessionFacts). f.policy) same

    kind_same : s.kind ≡ l.kind
    kind_same = ap (λ (f : SessionFacts). f.start.kind) same

    -- If the update counter that a session recorded equals the device's counter, the session's
    -- assertions about PCRs hold.
    holds_pcrs : RecordsUpdates e.session history l
        → is_other s.policy.update_count r.fixed.banks.update_count ≡ false
        → HoldsPcrs e.session history l
    holds_pcrs records counter =
        let recorded : s.policy.update_count ≡ Some records.count =
        ap (λ (p : Policy). p.update_count) policy_same ∙ records.recorded in
        records.hold
        (recorded_is (Some records.count) r.fixed.banks.update_count
        (subst (λ (x : Option ℕ). is_other x r.fixed.banks.update_count ≡ false) recorded
        counter)
        ∙ pcrs.updates)

    policy_there : policy_at c place ≡ policy_of r handle
    policy_there =
        ap (λ (found : Option View). option_and_then view_policy found)
        (viewed_there r c history viewed valued live place handle at)
        ∙ (views_tell r handle).policy

    written_there : written_at c place ≡ written_of r handle
    written_there =
        ap (λ (found : Option View). option_and_then view_written found)
        (viewed_there r c history viewed valued live place handle at)
        ∙ (views_tell r handle).written

    some_policy : is_available r handle means.Policy (nv_use_at c.command.code (place + 1 - 1))
        ≡ true → (entity : EntityParts) → policy_at c place ≡ Some entity → entity.digest ≢ []
    some_policy available entity is =
        let nv_use : NvUse = nv_use_at c.command.code (place + 1 - 1) in
        let tells = views_tell r handle in
        takes_some nv_use (view_of r handle) entity
        (tells.available means.Policy nv_use ∙ available) (tells.policy ∙ sym policy_there ∙ is)

    its_policy : is_policy_of s.hash s.policy.digest (policy_of r handle) ≡ true
        → is_policy_of l.hash (policy_in l).digest (policy_at c place) ≡ true
    its_policy is =
        ap (is_policy_of l.hash (policy_in l).digest) policy_there
        ∙ sym (ap (λ (f : SessionFacts). is_policy_of f.start.hash f.policy.digest
        (policy_of r handle)) same) ∙ is

    abbrev IsUse : Demand → Type 0
    IsUse d = Passes s.policy (use_of r c.command locality (place + 1) handle s) d

    meets : (d : Demand) → l.kind ≡ type.Policy → IsUse d → MeetsPolicy history c place e l
    unfolding use_of
    meets d kind passes =
        let call = or_parts _ _ passes.call in
        let hash : cp_hash_in c l.hash ≡ command_hash_of s.hash (code_number c.command.code)
        (map (name_of r) c.command.handles) c.command.parameters =
        ap (λ (f : SessionFacts). cp_hash_in c f.start.hash) (sym same)
        ∙ cp_hash_told r c history viewed valued live s.hash in
        record {
          allowed = taken means.Policy place handle at passes.available;
          policy = is_its_policy l (policy_at c place) (some_policy passes.available)
              (its_policy passes.digest);
          pcrs = λ asserts. holds_pcrs (updates e.session l lives kind asserts) passes.counter;
          command =
              subst (λ (p : Policy). IfSome p.command
              (λ number. number ≡ code_number c.command.code)) policy_same
              (recorded_is s.policy.command (code_number c.command.code) passes.command);
          named = subst (λ (p : Policy). NamesCommand (role_at c.command.code place) p.command)
              policy_same
              (subst (λ (n : ℕ). NamesCommand (role_at c.command.code n) s.policy.command)
              (less_one place) (names_command _ s.policy.command call.0));
          cp_hash = subst (λ (h : List ℕ). IfSome (policy_in l).cp_hash (λ recorded. recorded ≡ h))
              (sym hash)
              (subst
              (λ (p : Policy). IfSome p.cp_hash
              (λ recorded. recorded
              ≡ command_hash_of s.hash (code_number c.command.code)
              (map (name_of r) c.command.handles) c.command.parameters)) policy_same
              (recorded_hash s.policy.cp_hash _ call.1));
          written =
              subst (λ (p : Policy). IfSome p.nv_written
              (λ is_written. written_at c place ≡ Some is_written)) policy_same
              (subst
              (λ (found : Option Bool). IfSome s.policy.nv_written
              (λ is_written. found ≡ Some is_written)) (sym written_there)
              (recorded_written s.policy.nv_written (written_of r handle) passes.written));
          locality = subst (λ (n : ℕ). bit_at (policy_in l).localities n ≡ 1) (sym from)
              (subst (λ (p : Policy). bit_at p.localities locality ≡ 1) policy_same
              (one_bit s.policy.localities locality passes.locality));
        }

    abbrev granted_by : Demand → Option Grant
    granted_by d = Some (record { handle = handle; demand = d })

    has_hmac : (d : Demand)
        → ((is_bound : Bool) → has_value_in_key s.kind is_bound d
        ≡ has_value_in_key s.kind is_bound s.policy.demand) → is_password_demand d ≡ false
        → comparison_holds r c.command (place + 1) (granted_by d) e s ≡ true
        → HasHmac history c place e l
    has_hmac d alike none holds =
        authentic_told r c history viewed valued live s l same place (granted_by d) e
        (value_told r c history viewed valued live s l same place handle d at alike)
        (by_hmac r c.command (place + 1) (granted_by d) e s none holds)

    has_demanded : (d : Demand) → d ≡ s.policy.demand
        → comparison_holds r c.command (place + 1) (granted_by d) e s ≡ true
        → HasDemanded (is_password_demand (policy_in l).demand) history c place e l
    has_demanded d demanded holds =
        subst (λ (b : Bool). HasDemanded b history c place e l)
        (ap is_password_demand demanded
        ∙ ap (λ (p : Policy). is_password_demand p.demand) policy_same)
        (by (is_password_demand d) refl)
      where
        by : (b : Bool) → is_password_demand d ≡ b → HasDemanded b history c place e l
        by true one = password_told r c history viewed valued live place handle e at
            (by_password r c.command (place + 1) (granted_by d) e s one holds)
        by false none =
            has_hmac d (λ is_bound. ap (has_value_in_key s.kind is_bound) demanded) none
            holds

    -- ---- how an entry authorizes its handle, by the type of its session

    value_first : IfOk (demand_by type.Hmac r c.command locality (place + 1) handle s)
        (λ d. (d ≡ demand.None) × (allows_in means.AuthValue c place ≡ true))
    value_first =
        ok_bind_is _
        (refused_if
        (not
        (is_available r handle means.AuthValue (nv_use_at c.command.code (place + 1 - 1))))
        (refusal check.Authorization (plain code.AuthUnavailable))) _ (λ u available.
        (refl, taken means.AuthValue place handle at (asked _ _ u available)))

    policy_first : IfOk (demand_by type.Policy r c.command locality (place + 1) handle s) IsUse
    policy_first =
        ok_checked IsUse check.Authorization
        (use_passes s.policy (use_of r c.command locality (place + 1) handle s))
        (use_passed s.policy (use_of r c.command locality (place + 1) handle s))

    no_trial : s.kind ≡ type.Trial → (d : Demand) → IsUse d → ⊥
    unfolding use_of
    no_trial is d passes = false≢true (sym passes.trial ∙ ap is_trial is)

    abbrev HasGround : Option Grant → Type 0
    HasGround g = Ground history c place e

    by_type : (k : SessionType) → s.kind ≡ k
        → IfOk (demand_by k r c.command locality (place + 1) handle s
        >>= λ d. comparison r c.command (place + 1) (granted_by d) e s) HasGround
    by_type type.Hmac is =
        ok_then (λ d. (d ≡ demand.None) × (allows_in means.AuthValue c place ≡ true)) HasGround
        (demand_by type.Hmac r c.command locality (place + 1) handle s) _ value_first
        (λ d first.
        ok_weaker _ HasGround (comparison r c.command (place + 1) (granted_by d) e s)
        (compared r c.command (place + 1) (granted_by d) e s) (λ g holds.
        ByHmac l lives (sym kind_same ∙ is) first.1
        (has_hmac d (λ is_bound. ap (λ k. has_value_in_key k is_bound d) is
        ∙ sym (ap (λ k. has_value_in_key k is_bound s.policy.demand) is))
        (ap is_password_demand first.0) holds)))
    by_type type.Policy is =
        ok_then IsUse HasGround (demand_by type.Policy r c.command locality (place + 1) handle s) _
        policy_first (λ d passes.
        ok_weaker _ HasGround (comparison r c.command (place + 1) (granted_by d) e s)
        (compared r c.command (place + 1) (granted_by d) e s) (λ g holds.
        ByPolicy l lives (sym kind_same ∙ is) (meets d (sym kind_same ∙ is) passes)
        (has_demanded d passes.demanded holds)))
    by_type type.Trial is =
        ok_then IsUse HasGround (demand_by type.Trial r c.command locality (place + 1) handle s) _
        policy_first (λ d passes. absurd (no_trial is d passes))

    session_ground : IfOk (session_grant r c.command locality (place + 1) (Some handle) e s)
        HasGround
    unfolding session_grant demand_of_session
    session_ground = by_type s.kind refl

  -- ---- how an entry authorizes its handle, by its kind

  password_ground : (place : ℕ) (handle : Handle) (e : Entry)
      → used_in c.command place ≡ Some handle → session_kind e.session ≡ kind.Password
      → IfOk (password_grant r c.command.code (place + 1) (Some handle) e)
      (λ g. Ground history c place e)
  unfolding password_grant
  password_ground place handle e at is =
      let available : Bool =
      is_available r handle means.AuthValue (nv_use_at c.command.code (place + 1 - 1)) in
      let holds : Bool = is_password_of (auth_value_of r handle) e.hmac in
      ok_bind_is _
      (refused_if (not available) (refusal check.Authorization (plain code.AuthUnavailable))) _
      (λ u may.
      ok_bind _ (may_be_tried r.fixed.lockout (Some (undemanding handle)) (protection_of r handle))
      _ (λ tried.
      ok_bind_is _
      (refused_if (not holds)
      (failure (check_of (Some (undemanding handle))) (place + 1) (protection_of r handle))) _
      (λ v same.
      ByPassword is (taken means.AuthValue place handle at (asked available _ u may))
      (password_told r c history viewed valued live place handle e at (asked holds _ v same)))))

  with_session : (P : Option Grant → Type 0) (place : ℕ) (used : Option Handle) (e : Entry)
      → ((s : Session) (l : LiveSession) → sessions_of history e.session ≡ Some l
      → session_facts s ≡ facts_of l
      → IfOk (session_grant r c.command locality (place + 1) used e s) P)
      → IfOk (session_grant_if r c.command locality (place + 1) used e (session_of r e)) P
  with_session P place used e each = by (session_of r e) (live e.session)
    where
      by : (found : Option Session) → option_map session_facts found
          ≡ option_map facts_of (sessions_of history e.session)
          → IfOk (session_grant_if r c.command locality (place + 1) used e found) P
      by None same = tt
      by (Some s) same = let (l, lives, is) =
          told_of s (sessions_of history e.session) same in each s l lives is

  entry_ground : (place : ℕ) (handle : Handle) (e : Entry) → used_in c.command place ≡ Some handle
      → IfOk (grant r c.command locality (place + 1) (Some handle) e)
      (λ g. Ground history c place e)
  unfolding grant
  entry_ground place handle e at = by (session_kind e.session) refl
    where
      by : (k : SessionKind) → session_kind e.session ≡ k
          → IfOk (grant_by k r c.command locality (place + 1) (Some handle) e)
          (λ g. Ground history c place e)
      by kind.Password is = password_ground place handle e at is
      by kind.Session is = with_session (λ g. Ground history c place e) place (Some handle) e
          (λ s l lives same. session_ground place handle e at s l lives same)
      by kind.Other is = tt

  -- an accepted entry that names a session but authorizes no handle has the right HMAC
  other_hmac : (place : ℕ) (e : Entry) (l : LiveSession) → used_in c.command place ≡ None
      → session_kind e.session ≡ kind.Session → sessions_of history e.session ≡ Some l
      → IfOk (grant r c.command locality (place + 1) None e) (λ g. HasHmac history c place e l)
  unfolding grant session_grant
  other_hmac place e l none is lives =
      subst (λ (k : SessionKind). IfOk (grant_by k r c.command locality (place + 1) None e)
      (λ g. HasHmac history c place e l)) (sym is)
      (with_session (λ g. HasHmac history c place e l) place None e (λ s other also same.
      let one : other ≡ l = same_Some other l (sym also ∙ lives) in
      subst (λ (x : LiveSession). IfOk (comparison r c.command (place + 1) None e s)
      (λ g. HasHmac history c place e x)) one
      (ok_weaker _ (λ g. HasHmac history c place e other)
      (comparison r c.command (place + 1) None e s)
      (compared r c.command (place + 1) None e s) (λ g holds.
      authentic_told r c history viewed valued live s other same place None e
      (nothing_used r s ∙ sym (ap (value_in_key history c place other) none))
      (by_hmac r c.command (place + 1) None e s refl holds)))))

  -- ---- how all entries authorize their handles

  of_ground : (place : ℕ) (e : Entry) (l : LiveSession) → Ground history c place e
      → session_kind e.session ≡ kind.Session → sessions_of history e.session ≡ Some l
      → l.kind ≡ type.Hmac → HasHmac history c place e l
  of_ground place e l (ByPassword is takes password) names lives hmac =
      absurd (let never : kind.Password ≡ kind.Session = sym is ∙ names in let no : ⊥ = cc in no)
  of_ground place e l (ByHmac s also is takes has) names lives hmac =
      subst (λ (x : LiveSession). HasHmac history c place e x) (same_Some s l (sym also ∙ lives))
      has
  of_ground place e l (ByPolicy s also is meets has) names lives hmac =
      let one : s ≡ l = same_Some s l (sym also ∙ lives) in
      absurd (let never : type.Policy ≡ type.Hmac =
      sym is ∙ ap (λ (x : LiveSession). x.kind) one ∙ hmac in let no : ⊥ = cc in no)

  module _ (grants : List (Option Grant)) (granted : IsGranting r c.command locality grants) where
    used_ground : (place : ℕ) (handle : Handle) (e : Entry) → used_in c.command place ≡ Some handle
        → slice_get c.command.entries place ≡ Some e → Ground history c place e
    used_ground place handle e at entry =
        let (g, there) = same_place c.command.entries grants place e granted.as_many entry in
        ok_at (λ g. Ground history c place e)
        (grant r c.command locality (place + 1) (Some handle) e) g
        (entry_ground place handle e at)
        (subst (λ (used : Option Handle). grant r c.command locality (place + 1) used e ≡ Ok g) at
        (granted.each place e g entry there))

    pub uses_have_grounds : UsesHaveGrounds history c
    uses_have_grounds place handle at =
        let below : place < authorized_handles c.command.code =
        got_below (authorized_handles c.command.code) c.command.handles place handle at in
        let (e, entry) = got c.command.entries place (omega (arith, below, granted.enough)) in
        (e, entry, used_ground place handle e at entry)

    pub hmacs_shown : (place : ℕ) (e : Entry) (l : LiveSession)
        → slice_get c.command.entries place ≡ Some e → session_kind e.session ≡ kind.Session
        → sessions_of history e.session ≡ Some l → l.kind ≡ type.Hmac → HasHmac history c place e l
    hmacs_shown place e l entry names lives hmac = by (used_in c.command place) refl
      where
        by : (used : Option Handle) → used_in c.command place ≡ used → HasHmac history c place e l
        by (Some handle) at = of_ground place e l (used_ground place handle e at entry) names lives
            hmac
        by None none =
            let (g, there) = same_place c.command.entries grants place e granted.as_many entry in
            ok_at (λ g. HasHmac history c place e l) (grant r c.command locality (place + 1) None e)
            g (other_hmac place e l none names lives)
            (subst (λ (used : Option Handle). grant r c.command locality (place + 1) used e ≡ Ok g)
            none (granted.each place e g entry there))
