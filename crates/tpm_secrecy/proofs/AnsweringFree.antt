-- If the entries of an accepted command use no secret before the command takes effect, the answer
-- to the command uses no secret either.
use Rattle.std.proofs.Common.{ap, inl, inr, refl, subst, sym, ◌∙◌}
use Rattle.std.proofs.lemmas.Bool.{cases_Bool, false≢true}
use Rattle.std.proofs.lemmas.Option.{same_Some}
use Rattle.std.specs.List.{zip}
use Rattle.std.specs.Option.{option_map_or}
use Rattle.std.specs.Prelude.{Bool, IfOk, IfSome, List, None, Ok, Option, Result, Some, [], drop, false, is_some, option_map, slice_get, suc, take, true, zero, ℕ, ◌&&◌, ◌+◌, ◌||◌, ◌∷◌, ◌≡◌, ◌⊎◌}
use Rattle.tpm_auth.proofs.Granting.{granting}
use Rattle.tpm_auth.specs.Entries.{session_of}
use Rattle.tpm_auth.specs.Grant.{authorize, authorized, grant, grant_by, password_grant, session_grant_if, undemanding}
use Rattle.tpm_auth.specs.Granting.{IsGranted, IsGranting}
use Rattle.tpm_auth.specs.SessionGrant.{comparison, demand_of_session, session_grant}
use Rattle.tpm_auth.specs.declared.session_grant.Grant.{Grant}
use Rattle.tpm_commands.specs.CommandCode.{authorized_handles, shape_of}
use Rattle.tpm_commands.specs.declared.command_code.CommandCode.{CommandCode}
use Rattle.tpm_containers.specs.Slots.{free}
use Rattle.tpm_nv.specs.Head.{stays}
use Rattle.tpm_record.specs.Entity.{entity_at, object_of}
use Rattle.tpm_record.specs.Record.{Record}
use Rattle.tpm_record.specs.rows.Request.{Request, first_handle}
use Rattle.tpm_session.specs.Sessions.{session_at}
use Rattle.tpm_session.specs.declared.session.Session.{Session}
use Rattle.tpm_step.proofs.rows.Binding.{ok_at, ok_bind}
use Rattle.tpm_step.proofs.rows.Sessions.{entries_have}
use Rattle.tpm_step.specs.step.Entries.{entries_rolled, entry_rolled}
use Rattle.tpm_step.specs.step.Granted.{granted_entries}
use Rattle.tpm_step.specs.uses.Grounds.{allows}
use Rattle.tpm_step.specs.step.Step.{Accepted}
use Rattle.tpm_step.specs.step.Table.{row_of}
use Rattle.tpm_step.specs.rows.Acceptance.{IsAcceptance}
use Rattle.tpm_step.specs.rows.Handles.{HandlesFit}
use Rattle.tpm_step.specs.rows.Sessions.{HasSession, HaveSessions}
use Rattle.tpm_types_common.proofs.Named.{none}
use Rattle.tpm_types_common.specs.Handle.{session_kind}
use Rattle.tpm_types_common.specs.declared.handle.Handle.{Handle}
use Rattle.tpm_types_common.specs.declared.handle.SessionKind.{SessionKind}
use Rattle.tpm_types_common.specs.declared.refused.Refused.{Refused}
use Rattle.tpm_types_command.specs.AuthEntry.{Entry}
use Rattle.tpm_types_command.specs.Command.{Whole}
use Rattle.tpm_types_nv.specs.NvAttributes.{has}
use Rattle.tpm_row_secrecy.proofs.Each.{places}
use Rattle.tpm_row_secrecy.specs.Secrecy.{Secrecy, has_secret_key, has_secret_value}
use Rattle.tpm_secrecy.proofs.Authorizing.{neither, not_second}
use Rattle.tpm_secrecy.proofs.Granted.{comparison_gives, password_gives, weaker}
use Rattle.tpm_secrecy.proofs.KeptSessions.{RowKeeps, SessionsKeep, rolled_starts, sessions_keep, start_of_session, starts_at}
use Rattle.tpm_secrecy.proofs.KeptValues.{FirstStays, StaysOpen, first_stays}
use Rattle.tpm_secrecy.specs.Guesses.{NoneUses, authorizes_secret, demands_value, is_hmac_session, session_uses, uses_by, uses_encryption}
use Rattle.tpm_types_common.specs.declared.handle.SessionKind.TheVariants as kind
use Rattle.tpm_commands.specs.declared.command_code.CommandCode.TheVariants as command

-- ---- the handle that an entry authorizes

abbrev IsUsed : Option Handle → Option Grant → Type 0
IsUsed used granted = IfSome granted (λ g. used ≡ Some g.handle)

undemanding_used : (used : Option Handle) → IsUsed used (option_map undemanding used)
undemanding_used None = tt
undemanding_used (Some h) = refl

session_used : (r : Record) (c : Whole) (locality n : ℕ) (used : Option Handle) (e : Entry)
    (x : Session) → IfOk (session_grant r c locality n used e x) (IsUsed used)
unfolding session_grant
session_used r c locality n None e x =
    weaker (λ granted. granted ≡ None) (IsUsed None) (comparison r c n None e x)
    (λ granted is. subst (IsUsed None) (sym is) tt) (comparison_gives r c n None e x)
session_used r c locality n (Some h) e x =
    ok_bind _ (demand_of_session r c locality n h x) _ (λ d.
    let g : Option Grant = Some (record { handle = h; demand = d }) in
    weaker (λ granted. granted ≡ g) (IsUsed (Some h)) (comparison r c n g e x)
    (λ granted is. subst (IsUsed (Some h)) (sym is) refl) (comparison_gives r c n g e x))

used_by : (k : SessionKind) (r : Record) (c : Whole) (locality n : ℕ) (used : Option Handle)
    (e : Entry) → IfOk (grant_by k r c locality n used e) (IsUsed used)
used_by kind.Password r c locality n used e =
    weaker (λ granted. granted ≡ option_map undemanding used) (IsUsed used)
    (password_grant r c.code n used e)
    (λ granted is. subst (IsUsed used) (sym is) (undemanding_used used))
    (password_gives r c n used e)
used_by kind.Session r c locality n used e = by (session_of r e)
  where
    by : (found : Option Session)
        → IfOk (session_grant_if r c locality n used e found) (IsUsed used)
    by None = tt
    by (Some x) = session_used r c locality n used e x
used_by kind.Other r c locality n used e = tt

granted_used : (r : Record) (c : Whole) (locality place : ℕ) (e : Entry) (g : Option Grant)
    → IsGranted r c locality place e g → IsUsed (slice_get (authorized c) place) g
unfolding grant
granted_used r c locality place e g is =
    ok_at (IsUsed (slice_get (authorized c) place))
    (grant_by (session_kind e.session) r c locality (place + 1) (slice_get (authorized c) place) e)
    g (used_by (session_kind e.session) r c locality (place + 1) (slice_get (authorized c) place) e)
    is

-- whether this number is at most one; every command has at most one handle that needs authorization
at_most_one : ℕ → Bool
at_most_one zero = true
at_most_one (suc zero) = true
at_most_one (suc (suc n)) = false

few_authorized : (c : CommandCode) → at_most_one (authorized_handles c) ≡ true
unfolding shape_of at_most_one
few_authorized command.EvictControl = refl
few_authorized _ = refl

none_or_one : (n : ℕ) → at_most_one n ≡ true → (n ≡ 0) ⊎ (n ≡ 1)
unfolding at_most_one
none_or_one zero is = inl refl
none_or_one (suc zero) is = inr refl
none_or_one (suc (suc n)) is = absurd (false≢true is)

one_authorized : (c : CommandCode) → (authorized_handles c ≡ 0) ⊎ (authorized_handles c ≡ 1)
one_authorized c = none_or_one (authorized_handles c) (few_authorized c)

first_of_one : (n : ℕ) (hs : List Handle) (place : ℕ) (h : Handle) → (n ≡ 0) ⊎ (n ≡ 1)
    → slice_get (take n hs) place ≡ Some h → first_handle hs ≡ Ok h
first_of_one n hs place h (inl none) is =
    absurd (never hs place (ap (λ (m : ℕ). slice_get (take m hs) place) (sym none) ∙ is))
  where
    never : (hs : List Handle) (place : ℕ) → slice_get (take 0 hs) place ≡ Some h → ⊥
    never [] place is = absurd cc
    never (k ∷ ks) place is = absurd cc
first_of_one n hs place h (inr one) is =
    by hs place (ap (λ (m : ℕ). slice_get (take m hs) place) (sym one) ∙ is)
  where
    by : (hs : List Handle) (place : ℕ) → slice_get (take 1 hs) place ≡ Some h
        → first_handle hs ≡ Ok h
    by [] place is = absurd cc
    by (k ∷ []) zero is = ap (λ (x : Handle). let y : Result Handle Refused = Ok x in y)
        (same_Some k h is)
    by (k ∷ []) (suc place) is = absurd cc
    by (k ∷ m ∷ ks) zero is =
        ap (λ (x : Handle). let y : Result Handle Refused = Ok x in y) (same_Some k h is)
    by (k ∷ m ∷ ks) (suc place) is = absurd cc

module _ (s : Secrecy) (r new : Record) where
  -- ---- the session of a single entry

  authorizes_still : (hs : List Handle) (g : Option Grant)
      → IfSome g (λ g. first_handle hs ≡ Ok g.handle)
      → ((h : Handle) → first_handle hs ≡ Ok h → StaysOpen s r new h)
      → authorizes_secret s r g ≡ false → authorizes_secret s new g ≡ false
  authorizes_still hs None named stays free = refl
  authorizes_still hs (Some g) named stays free = stays g.handle named free

  none_of : (a b c : Bool) → a ≡ false → b ≡ false → (a || b && c) ≡ false
  none_of a b c one other = ap (λ (x : Bool). x || b && c) one ∙ ap (λ (x : Bool). x && c) other

  second_none : (a b c : Bool) → a ≡ false → c ≡ false → (a || b && c) ≡ false
  second_none a b c one other = ap (λ (x : Bool). x || b && c) one ∙ ap (λ (x : Bool). b && x) other
      ∙ by b
    where
      by : (b : Bool) → (b && false) ≡ false
      by true = refl
      by false = refl

  session_still : (x y : Session) (e : Entry) (g : Option Grant)
      → start_of_session y ≡ start_of_session x
      → (authorizes_secret s r g ≡ false → authorizes_secret s new g ≡ false)
      → session_uses s r x e g ≡ false → session_uses s new y e g ≡ false
  session_still x y e g same still free =
      let parts = neither (has_secret_key s x.binding) _ free in
      let key : has_secret_key s y.binding ≡ false =
      ap (λ (z : Session). has_secret_key s z.binding) same ∙ parts.0 in
      let ways : Session → Bool = λ z. is_hmac_session z.kind || demands_value g
      || uses_encryption e in
      elim (cases_Bool (authorizes_secret s r g)) [
        | inl secret ↦ second_none (has_secret_key s y.binding) (authorizes_secret s new g) (ways y)
            key (ap ways same ∙ not_second _ _ parts.1 secret)
        | inr shown ↦ none_of (has_secret_key s y.binding) (authorizes_secret s new g) (ways y) key
            (still shown)
      ]

  found_still : (one other : Option Session) (e : Entry) (g : Option Grant) → is_some one ≡ true
      → option_map start_of_session other ≡ option_map start_of_session one
      → (authorizes_secret s r g ≡ false → authorizes_secret s new g ≡ false)
      → option_map_or (λ (x : Session). session_uses s r x e g) one false ≡ false
      → option_map_or (λ (x : Session). session_uses s new x e g) other false ≡ false
  found_still None other e g there same still free = absurd (false≢true there)
  found_still (Some x) None e g there same still free = refl
  found_still (Some x) (Some y) e g there same still free =
      session_still x y e g (same_Some (start_of_session y) (start_of_session x) same) still free

  kind_still : (k : SessionKind) (e : Entry) (g : Option Grant) → HasSession k r e
      → SessionsKeep r.sessions new.sessions
      → (authorizes_secret s r g ≡ false → authorizes_secret s new g ≡ false)
      → uses_by k s r e g ≡ false → uses_by k s new e g ≡ false
  kind_still kind.Password e g has keeps still free = still free
  kind_still kind.Session e g has keeps still free =
      found_still (session_of r e) (session_of new e) e g has (keeps e.session has) still free
  kind_still kind.Other e g has keeps still free = refl

  -- ---- the sessions of all entries

  all_still : (hs : List Handle) (es : List Entry) (gs : List (Option Grant)) → HaveSessions r es
      → SessionsKeep r.sessions new.sessions
      → ((h : Handle) → first_handle hs ≡ Ok h → StaysOpen s r new h)
      → ((place : ℕ) (e : Entry) (g : Option Grant) → slice_get es place ≡ Some e
      → slice_get gs place ≡ Some g → IfSome g (λ g. first_handle hs ≡ Ok g.handle))
      → NoneUses s r (zip es gs) → NoneUses s new (zip es gs)
  all_still hs [] gs have keeps stays named none = tt
  all_still hs (e ∷ es) [] have keeps stays named none = tt
  all_still hs (e ∷ es) (g ∷ gs) have keeps stays named none = (
    kind_still (session_kind e.session) e g have.0 keeps
        (authorizes_still hs g (named 0 e g refl refl) stays) none.0,
    all_still hs es gs have.1 keeps stays (λ place f k one other. named (suc place) f k one other)
        none.1,
  )

-- ---- an accepted command

-- the record from which an accepted command's answer is computed: after the command has taken
-- effect, and with the new nonces of its sessions
abbrev pub answering : Accepted → (random : List ℕ) → Record
answering a random =
    (entries_rolled a.success.after a.command.entries (drop a.success.answer.drawn random)).after

module _ (s : Secrecy) (r : Record) (locality : ℕ) (random : List ℕ) (a : Accepted)
    (accepts : IsAcceptance r locality random a) where
  granting_all : IsGranting r a.command locality a.grants
  granting_all = ok_at (IsGranting r a.command locality) (authorize r a.command locality) a.grants
      (granting r a.command locality) accepts.granted

  used_first : (place : ℕ) (e : Entry) (g : Option Grant)
      → slice_get a.command.entries place ≡ Some e → slice_get a.grants place ≡ Some g
      → IfSome g (λ g. first_handle a.command.handles ≡ Ok g.handle)
  used_first place e g one other =
      by g (granted_used r a.command locality place e g (granting_all.each place e g one other))
    where
      by : (g : Option Grant) → IsUsed (slice_get (authorized a.command) place) g
          → IfSome g (λ g. first_handle a.command.handles ≡ Ok g.handle)
      by None used = tt
      by (Some g) used = first_of_one (authorized_handles a.command.code) a.command.handles place
          g.handle (one_authorized a.command.code) used

  handles_same : a.request.handles ≡ a.command.handles
  handles_same = ap (λ (q : Request). q.handles) accepts.requested

  first_open : (h : Handle) → first_handle a.command.handles ≡ Ok h
      → StaysOpen s r a.success.after h
  first_open h first =
      ok_at (FirstStays s r a.request) (row_of r a.command.code a.request) a.success
      (first_stays s a.command.code r a.request
      (subst (HandlesFit r (shape_of a.command.code).handles) (sym handles_same)
      accepts.fits)) accepts.row
      h (ap first_handle handles_same ∙ first)

  -- New nonces do not change whether a handle has a secret value.
  rolled_open : (h : Handle) (es : List Entry) (left : List ℕ) (t : Record)
      → has_secret_value s (entries_rolled t es left).after h ≡ has_secret_value s t h
  unfolding entity_at object_of entry_rolled
  rolled_open h [] left t = refl
  rolled_open h (e ∷ es) left t =
      rolled_open h es (entry_rolled t e left).left (entry_rolled t e left).after

  effect_keeps : (shape_of a.command.code).forbids_sessions ≡ false
      → SessionsKeep r.sessions (answering a random).sessions
  effect_keeps allows h there =
      let effect : SessionsKeep r.sessions a.success.after.sessions =
      ok_at (RowKeeps r) (row_of r a.command.code a.request) a.success
      (sessions_keep a.command.code r a.request allows) accepts.row in
      let rolls = rolled_starts a.success.after a.command.entries
      (drop a.success.answer.drawn random) in
      starts_map a.success.after.sessions (answering a random).sessions rolls h ∙ effect h there
    where
      starts_map : (old new : List (Option Session))
          → places start_of_session new ≡ places start_of_session old → (h : Handle)
          → option_map start_of_session (session_at new h)
          ≡ option_map start_of_session (session_at old h)
      starts_map old new same h = sym (starts_at new h)
          ∙ ap (λ (xs : List (Option Session)). session_at xs h) same ∙ starts_at old h

  pub answer_free : NoneUses s r (granted_entries a.command a.grants)
      → NoneUses s (answering a random) (granted_entries a.command a.grants)
  answer_free none = by (shape_of a.command.code).forbids_sessions refl
    where
      by : (b : Bool) → (shape_of a.command.code).forbids_sessions ≡ b
          → NoneUses s (answering a random) (granted_entries a.command a.grants)
      by true forbids =
          subst (λ (es : List Entry). NoneUses s (answering a random) (zip es a.grants))
          (sym (accepts.alone forbids)) tt
      by false allows =
          all_still s r (answering a random) a.command.handles a.command.entries a.grants
          (entries_have r a.command.code [] a.command.entries tt granting_all.own)
          (effect_keeps allows)
          (λ h first shown. rolled_open h a.command.entries (drop a.success.answer.drawn random)
          a.success.after ∙ first_open h first shown)
          used_first none
