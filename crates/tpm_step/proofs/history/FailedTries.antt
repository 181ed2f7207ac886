-- Proves which events are failed tries. An entry touches the entity whose authorization value is
-- used to check the entry. An event is a failed try if and only if an entry of its command is
-- refused with AUTH_FAIL and touches a protected entity other than lockout. The response reports
-- this refusal.
use Rattle.std.proofs.Common.{arith, rules, ◌≡◌, ℕ, ◌+◌, Bool, true, false, List, [], ◌∷◌, ◌++◌, append_assoc, length, length-append, slice_get, Option, Some, None, option_map, Result, Ok, Err, IfErr, refl, sym, ap, subst, ◌∙◌}
use Rattle.std.specs.Prelude.{not, nat_lt, ◌&&◌, ◌||◌, is_none}
use Rattle.std.specs.List.{list_any}
use Rattle.std.specs.Option.{option_map_or}
use Rattle.std.proofs.lemmas.Bool.{false≢true, or_right}
use Rattle.std.proofs.lemmas.Result.{IfErr-at_err, IfErr-weaker}
use Rattle.tpm_bytes.proofs.Fields.{passed}
use Rattle.tpm_bytes.specs.Reading.{◌>>=◌, refused_if}
use Rattle.tpm_lockout.specs.Tries.{is_locked}
use Rattle.tpm_policy.specs.State.{Policy}
use Rattle.tpm_policy.specs.Use.{UseParts, use_passes}
use Rattle.tpm_session.specs.FirstBuffer.{has_first_buffer}
use Rattle.tpm_session.specs.declared.session.Protection.{Protection}
use Rattle.tpm_session.specs.declared.session.Protection.TheVariants as protection
use Rattle.tpm_session.specs.declared.session.Session.{Session}
use Rattle.tpm_types_common.specs.Handle.{session_kind}
use Rattle.tpm_types_common.specs.Rc.{entry_fault}
use Rattle.tpm_types_common.specs.Refused.{checked_result, refusal}
use Rattle.tpm_types_common.specs.declared.check.Check.{Check}
use Rattle.tpm_types_common.specs.declared.check.Check.TheVariants as check
use Rattle.tpm_types_common.specs.declared.handle.Handle.{Handle}
use Rattle.tpm_types_common.specs.declared.handle.SessionKind.{SessionKind}
use Rattle.tpm_types_common.specs.declared.handle.SessionKind.TheVariants as kind
use Rattle.tpm_types_common.specs.declared.rc.Rc.{Rc}
use Rattle.tpm_types_common.specs.declared.rc.ResponseCode.{ResponseCode}
use Rattle.tpm_types_common.specs.declared.rc.ResponseCode.TheVariants as code
use Rattle.tpm_types_common.specs.declared.refused.Refused.{Refused}
use Rattle.tpm_types_common.specs.declared.session_type.SessionType.{SessionType}
use Rattle.tpm_types_common.specs.declared.session_type.SessionType.TheVariants as type
use Rattle.tpm_types_command.specs.AuthEntry.{Entry}
use Rattle.tpm_types_command.specs.Command.{Whole}
use Rattle.tpm_commands.specs.CommandCode.{authorized_handles, code_number}
use Rattle.tpm_commands.specs.declared.command_code.CommandCode.{CommandCode}
use Rattle.tpm_record.specs.Record.{Record}
use Rattle.tpm_record.specs.Tick.{after_tick}
use Rattle.tpm_auth.specs.Comparison.{check_of, failure, is_locked_out, is_password_of, may_be_tried}
use Rattle.tpm_auth.specs.Entries.{decrypts, entries_pass, entry_passes, kind_passes, reference_of, session_of}
use Rattle.tpm_auth.specs.Grant.{authorize, grant, grant_by, grants_pass, is_unavailable, password_grant, session_grant_if, undemanding, used_protection}
use Rattle.tpm_auth.specs.SessionGrant.{comparison_holds, demand_by, demand_of_session, entry_protection, granted_value, session_grant}
use Rattle.tpm_auth.specs.declared.session_grant.Grant.{Grant}
use Rattle.tpm_step.specs.step.Events.{PlainEvent, Given, Cycled, Placed}
use Rattle.tpm_step.specs.step.Execution.{Executes}
use Rattle.tpm_step.specs.step.General.{general}
use Rattle.tpm_step.specs.step.Step.{Accepted, Stepped, acceptance, acceptance_in, answer_where, refusal_step, request_in, stepped_of}
use Rattle.tpm_step.specs.step.Table.{row_of}
use Rattle.tpm_step.specs.declared.refused_command.RefusedCommand.{RefusedCommand}
use Rattle.tpm_step.proofs.rows.Binding.{err_bind, err_bind_is, err_if}
use Rattle.tpm_step.specs.uses.EntryHmacs.{used_in}
use Rattle.tpm_step.specs.history.Tries.{FailsTry, IsAnsweredTry, IsRefusedTry, check_for, counts_try, fails_try, is_try, touched_by, touched_of_session, touched_protection, touched_where, try_refusal}
use Rattle.tpm_step.specs.rows.Order.{IsPlain}
use Rattle.tpm_step.proofs.rows.Table.{row_plain}
use Rattle.tpm_step.proofs.rows.Uncounted.{err_in_command, general_plain}

-- ---- codes other than AUTH_FAIL

abbrev is_auth_fail : ResponseCode → Bool
is_auth_fail code.AuthFail = true
is_auth_fail _ = false

abbrev IsOther : Rc → Type 0
IsOther rc = is_auth_fail rc.code ≡ false

reference_other : (n : ℕ) → IsOther (reference_of n)
reference_other n = grind arith

kind_other : (r : Record) (n : ℕ) (e : Entry) (kind : SessionKind)
    → IfErr (kind_passes r n e kind) IsOther
kind_other r n e kind.Password = tt
kind_other r n e kind.Session =
    err_if IsOther (is_none (session_of r e)) (reference_of n) (reference_other n)
kind_other r n e kind.Other = refl

entry_other : (r : Record) (c : CommandCode) (before : List Entry) (e : Entry)
    → IfErr (entry_passes r c before e) IsOther
unfolding entry_passes
entry_other r c before e = search (rules, err_bind, err_if, kind_other) depth 16

entries_other : (r : Record) (c : CommandCode) (before es : List Entry)
    → IfErr (entries_pass r c before es) IsOther
entries_other r c before [] = tt
entries_other r c before (e ∷ es) =
    err_bind IsOther (entry_passes r c before e) _ (entry_other r c before e)
    (λ this. entries_other r c (before ++ e ∷ []) es)

use_other : (policy : Policy) (u : UseParts) → IfErr (use_passes policy u) IsOther
unfolding use_passes
use_other policy u = search (rules, err_bind, err_if) depth 16

err_other : {X : Type 0} (Q : Refused → Type 0) (check : Check) (x : Result X Rc) → IfErr x IsOther
    → ((rc : Rc) → IsOther rc → Q (refusal check rc)) → IfErr (checked_result check x) Q
err_other Q check (Ok x) others h = tt
err_other Q check (Err rc) other h = h rc other

-- ---- checking the password or the HMAC of an entry

-- whether a refusal increments failedTries, or has the response code AUTH_FAIL
abbrev is_failure : Refused → Bool
is_failure e = is_try e.counted || is_auth_fail e.rc.code

-- The command is refused because entry n has a wrong password or HMAC. `used` is the handle that
-- the entry has to authorize, or None. The entity whose authorization value is used to check the
-- entry is not locked out.
record FailsAt (r : Record) (c : Whole) (locality n : ℕ) (used : Option Handle) (entry : Entry)
    (e : Refused) : Type 0 where
  unlocked : is_locked_out r.fixed.lockout (touched_protection r c locality n used entry) ≡ false
  is : e ≡ failure (check_for used) n (touched_protection r c locality n used entry)

-- If the refusal increments failedTries or has the response code AUTH_FAIL, entry n failed
-- (`FailsAt`).
abbrev IfFailsAt : Record → Whole → (locality n : ℕ) → Option Handle → Entry → Refused → Type 0
IfFailsAt r c locality n used entry e = is_failure e ≡ true → FailsAt r c locality n used entry e

module _ (r : Record) (c : Whole) (locality n : ℕ) (used : Option Handle) (entry : Entry) where
  other_at : (check : Check) (rc : Rc) → IsOther rc
      → IfFailsAt r c locality n used entry (refusal check rc)
  other_at check rc other fails = absurd (false≢true (sym other ∙ fails))

  failure_at : (granted : Option Grant) (p : Protection) → check_of granted ≡ check_for used
      → touched_protection r c locality n used entry ≡ p → is_locked_out r.fixed.lockout p ≡ false
      → FailsAt r c locality n used entry (failure (check_of granted) n p)
  failure_at granted p same touches unlocked = record {
    unlocked = ap (is_locked_out r.fixed.lockout) touches ∙ unlocked;
    is = ap (λ k. failure k n p) same ∙ ap (failure (check_for used) n) (sym touches);
  }

  comparison_at : (granted : Option Grant) (p : Protection) (holds : Bool)
      → check_of granted ≡ check_for used → touched_protection r c locality n used entry ≡ p
      → IfErr (may_be_tried r.fixed.lockout granted p
      >>= λ tried. refused_if (not holds) (failure (check_of granted) n p)
      >>= λ compared. let done : Result (Option Grant) Refused = Ok granted in done)
      (IfFailsAt r c locality n used entry)
  comparison_at granted p holds same touches =
      let Q : Refused → Type 0 = IfFailsAt r c locality n used entry in
      err_bind_is Q (may_be_tried r.fixed.lockout granted p) _ (err_if Q _ _ (other_at _ _ refl))
      (λ tried may.
      err_bind Q (refused_if (not holds) _) _
      (err_if Q _ _ (λ fails. failure_at granted p same touches (passed _ _ tried may)))
      (λ compared. tt))

same_check : (used : Option Handle) → check_of (option_map undemanding used) ≡ check_for used
same_check None = refl
same_check (Some handle) = refl

password_at : (r : Record) (c : Whole) (locality n : ℕ) (used : Option Handle) (e : Entry)
    → session_kind e.session ≡ kind.Password
    → IfErr (password_grant r c.code n used e) (IfFailsAt r c locality n used e)
unfolding password_grant
password_at r c locality n used e password =
    let granted = option_map undemanding used in
    let Q : Refused → Type 0 = IfFailsAt r c locality n used e in
    err_bind Q (refused_if (is_unavailable r c.code n used) _) _
    (err_if Q _ _ (other_at r c locality n used e _ _ refl)) (λ available.
    comparison_at r c locality n used e granted (used_protection r used)
    (is_password_of (granted_value r granted) e.hmac) (same_check used)
    (ap (λ k. touched_by k r c locality n used e) password))

demand_at : (k : SessionType) (r : Record) (c : Whole) (locality n : ℕ) (handle : Handle)
    (s : Session) (used : Option Handle) (e : Entry)
    → IfErr (demand_by k r c locality n handle s) (IfFailsAt r c locality n used e)
demand_at type.Hmac r c locality n handle s used e = search (rules, err_bind, err_if, other_at)
demand_at _ r c locality n handle s used e = search (rules, err_other, use_other, other_at)

session_at : (r : Record) (c : Whole) (locality n : ℕ) (used : Option Handle) (e : Entry)
    (s : Session) → touched_protection r c locality n used e
    ≡ touched_of_session r c locality n used s
    → IfErr (session_grant r c locality n used e s) (IfFailsAt r c locality n used e)
unfolding session_grant demand_of_session
session_at r c locality n None e s touches =
    comparison_at r c locality n None e None (entry_protection r s None)
    (comparison_holds r c n None e s) refl touches
session_at r c locality n (Some handle) e s touches =
    err_bind_is (IfFailsAt r c locality n (Some handle) e)
    (demand_by s.kind r c locality n handle s) _
    (demand_at s.kind r c locality n handle s (Some handle) e) (λ demand is.
    let granted : Option Grant = Some (record { handle = handle; demand = demand }) in
    comparison_at r c locality n (Some handle) e granted (entry_protection r s granted)
    (comparison_holds r c n granted e s)
    refl (touches ∙ ap (λ d. touched_where r s handle d) is))

there_at : (r : Record) (c : Whole) (locality n : ℕ) (used : Option Handle) (e : Entry)
    (o : Option Session) → session_kind e.session ≡ kind.Session → session_of r e ≡ o
    → IfErr (session_grant_if r c locality n used e o) (IfFailsAt r c locality n used e)
there_at r c locality n used e None is_session is =
    other_at r c locality n used e _ _ (reference_other n)
there_at r c locality n used e (Some s) is_session is =
    session_at r c locality n used e s
    (ap (λ k. touched_by k r c locality n used e) is_session
    ∙ ap (λ o. option_map_or (touched_of_session r c locality n used) o protection.None) is)

kind_at : (k : SessionKind) (r : Record) (c : Whole) (locality n : ℕ) (used : Option Handle)
    (e : Entry) → session_kind e.session ≡ k
    → IfErr (grant_by k r c locality n used e) (IfFailsAt r c locality n used e)
kind_at kind.Password r c locality n used e is = password_at r c locality n used e is
kind_at kind.Session r c locality n used e is =
    there_at r c locality n used e (session_of r e) is refl
kind_at kind.Other r c locality n used e is = other_at r c locality n used e _ _ refl

entry_at : (r : Record) (c : Whole) (locality n : ℕ) (used : Option Handle) (e : Entry)
    → IfErr (grant r c locality n used e) (IfFailsAt r c locality n used e)
unfolding grant
entry_at r c locality n used e = kind_at (session_kind e.session) r c locality n used e refl

-- ---- all entries of a command

-- The command is refused because the entry at this position has a wrong password or HMAC.
record FailsIn (r : Record) (c : Whole) (locality : ℕ) (e : Refused) : Type 0 where
  place : ℕ
  entry : Entry
  there : slice_get c.entries place ≡ Some entry
  fails : FailsAt r c locality (place + 1) (used_in c place) entry e

abbrev IfFailsIn : Record → Whole → (locality : ℕ) → Refused → Type 0
IfFailsIn r c locality e = is_failure e ≡ true → FailsIn r c locality e

other_in : (r : Record) (c : Whole) (locality : ℕ) (check : Check) (rc : Rc) → IsOther rc
    → IfFailsIn r c locality (refusal check rc)
other_in r c locality check rc other fails = absurd (false≢true (sym other ∙ fails))

get_behind : (front rest : List Entry) (e : Entry)
    → slice_get (front ++ e ∷ rest) (length front) ≡ Some e
get_behind [] rest e = refl
get_behind (f ∷ front) rest e = get_behind front rest e

walk_in : (r : Record) (c : Whole) (locality : ℕ) (before : List (Option Grant))
    (front es : List Entry) → c.entries ≡ front ++ es → length front ≡ length before
    → IfErr (grants_pass r c locality before es) (IfFailsIn r c locality)
walk_in r c locality before front [] split long = tt
walk_in r c locality before front (e ∷ es) split long =
    let place = length before in
    let used = used_in c place in
    let there : slice_get c.entries place ≡ Some e =
    ap (λ l. slice_get l place) split ∙ ap (λ n. slice_get (front ++ e ∷ es) n) (sym long)
    ∙ get_behind front es e in
    err_bind (IfFailsIn r c locality) (grant r c locality (place + 1) used e) _
    (IfErr-weaker (grant r c locality (place + 1) used e)
    (IfFailsAt r c locality (place + 1) used e) (IfFailsIn r c locality)
    (λ refused at fails. record { place = place; entry = e; there = there; fails = at fails })
    (entry_at r c locality (place + 1) used e))
    (λ this.
    walk_in r c locality (before ++ this ∷ []) (front ++ e ∷ []) es
    (split ∙ sym (append_assoc front (e ∷ []) es))
    (omega (arith, long, length-append front (e ∷ []), length-append before (this ∷ []))))

authorization_in : (r : Record) (c : Whole) (locality : ℕ)
    → IfErr (authorize r c locality) (IfFailsIn r c locality)
unfolding authorize
authorization_in r c locality =
    err_bind (IfFailsIn r c locality)
    (checked_result check.Entries (entries_pass r c.code [] c.entries)) _
    (err_other (IfFailsIn r c locality) check.Entries (entries_pass r c.code [] c.entries)
    (entries_other r c.code [] c.entries) (other_in r c locality check.Entries)) (λ own.
    err_bind (IfFailsIn r c locality)
    (refused_if (nat_lt (length c.entries) (authorized_handles c.code)) _) _
    (err_if (IfFailsIn r c locality) _ _ (other_in r c locality _ _ refl)) (λ enough.
    err_bind (IfFailsIn r c locality) (grants_pass r c locality [] c.entries) _
    (walk_in r c locality [] [] c.entries refl refl) (λ grants.
    err_bind (IfFailsIn r c locality)
    (refused_if (list_any decrypts c.entries && not (has_first_buffer c.parameters)) _) _
    (err_if (IfFailsIn r c locality) _ _ (other_in r c locality _ _ refl)) (λ whole. tt))))

-- the refusal of a wrong password or HMAC contains the number of the entry
failed_number : (check : Check) (n m : ℕ) (p : Protection)
    → (failure check n p).rc.place ≡ (entry_fault m code.AuthFail).place → n ≡ m
failed_number check n m protection.None is = cc
failed_number check n m protection.Tries is = cc
failed_number check n m protection.Lockout is = cc

-- a wrong password or HMAC increments failedTries only for a protected entity other than lockout
counts_at : (check : Check) (n : ℕ) (p : Protection) → is_try (failure check n p).counted ≡ true
    → p ≡ protection.Tries
counts_at check n protection.Tries tries = refl
counts_at check n _ tries = absurd (false≢true tries)

-- if a command is refused with AUTH_FAIL for the entry at this position, the entry's password or
-- HMAC is wrong
failed_in : (r : Record) (c : Whole) (locality place : ℕ) (entry : Entry) (e : Refused)
    → slice_get c.entries place ≡ Some entry → authorize r c locality ≡ Err e
    → e.rc ≡ entry_fault (place + 1) code.AuthFail
    → FailsAt r c locality (place + 1) (used_in c place) entry e
failed_in r c locality place entry e there is fails =
    let found = IfErr-at_err (IfFailsIn r c locality) is (authorization_in r c locality)
    (or_right (is_try e.counted) _ (ap (λ (rc : Rc). is_auth_fail rc.code) fails)) in
    let same : found.place ≡ place =
    omega (
      arith,
      failed_number _ _ _ _ (ap (λ (x : Refused). x.rc.place) (sym found.fails.is)
          ∙ ap (λ (rc : Rc). rc.place) fails),
    ) in
    let one : found.entry ≡ entry = cc in
    subst (λ x. FailsAt r c locality (place + 1) (used_in c place) x e) one
    (subst (λ p. FailsAt r c locality (p + 1) (used_in c p) found.entry e) same found.fails)

-- ---- commands

abbrev IfTryOf : Record → ℕ → List ℕ → Refused → Type 0
IfTryOf r locality buffer e = is_try e.counted ≡ true → FailsTry r locality buffer

plain_of : (r : Record) (locality : ℕ) (buffer : List ℕ) (e : Refused) → IsPlain e
    → IfTryOf r locality buffer e
plain_of r locality buffer e plain tries = absurd (false≢true (sym (ap is_try plain) ∙ tries))

err_bind_at : {A B E : Type 0} (Q : E → Type 0) (x : Result A E) (f : A → Result B E)
    → ((e : E) → x ≡ Err e → Q e) → ((a : A) → IfErr (f a) Q) → IfErr (x >>= f) Q
err_bind_at Q (Ok a) f here after = after a
err_bind_at Q (Err e) f here after = here e refl

acceptance_of : (r : Record) (buffer : List ℕ) (c : Whole) (locality : ℕ) (random : List ℕ)
    → general r buffer ≡ Ok c → IfErr (acceptance r c locality random) (IfTryOf r locality buffer)
unfolding acceptance
acceptance_of r buffer c locality random decoded =
    err_bind_at (IfTryOf r locality buffer) (authorize r c locality) _ refused (λ grants.
    err_bind (IfTryOf r locality buffer) (row_of r c.code (request_in r c grants locality random)) _
    (IfErr-weaker (row_of r c.code (request_in r c grants locality random)) IsPlain
    (IfTryOf r locality buffer) (plain_of r locality buffer)
    (row_plain r c.code (request_in r c grants locality random)))
    (λ success. tt))
  where
    refused : (e : Refused) → authorize r c locality ≡ Err e → IfTryOf r locality buffer e
    refused e is tries =
        let found = IfErr-at_err (IfFailsIn r c locality) is (authorization_in r c locality)
        (ap (λ t. t || is_auth_fail e.rc.code) tries) in
        let touches =
        counts_at _ _ _ (ap (λ (x : Refused). is_try x.counted) (sym found.fails.is) ∙ tries) in
        record {
          command = c;
          place = found.place;
          entry = found.entry;
          refused = e;
          decoded = decoded;
          there = found.there;
          touches = touches;
          is = is;
          fails = ap (λ (x : Refused). x.rc)
              (found.fails.is ∙ ap (failure (check_for (used_in c found.place)) (found.place + 1))
              touches);
        }

accepted_of : (r : Record) (buffer : List ℕ) (locality : ℕ) (random : List ℕ)
    → IfErr (acceptance_in r buffer locality random) (λ e. IfTryOf r locality buffer e.refused)
unfolding acceptance_in
accepted_of r buffer locality random =
    err_bind_is Q (general r buffer) _
    (IfErr-weaker (general r buffer) (λ (e : RefusedCommand). IsPlain e.refused) Q
    (λ e plain. plain_of r locality buffer e.refused plain) (general_plain r buffer))
    (λ c decoded. err_in_command Q c.code (acceptance r c locality random)
    (acceptance_of r buffer c locality random decoded))
  where
    Q : RefusedCommand → Type 0
    Q e = IfTryOf r locality buffer e.refused

-- a command whose refusal increments failedTries is refused with AUTH_FAIL
pub try_of : (r : Record) (buffer : List ℕ) (locality : ℕ) (random : List ℕ)
    → counts_try (acceptance_in r buffer locality random) ≡ true → FailsTry r locality buffer
try_of r buffer locality random =
    by (acceptance_in r buffer locality random) (accepted_of r buffer locality random)
  where
    by : (x : Result Accepted RefusedCommand) → IfErr x (λ e. IfTryOf r locality buffer e.refused)
        → counts_try x ≡ true → FailsTry r locality buffer
    by (Ok a) holds tries = absurd (false≢true tries)
    by (Err e) holds tries = holds tries

-- a failed try is refused because of the entry with the wrong password or HMAC
module _ {r : Record} {locality : ℕ} {buffer : List ℕ} (f : FailsTry r locality buffer) where
  failure_of : FailsAt r f.command locality (f.place + 1) (used_in f.command f.place) f.entry
      f.refused
  failure_of = failed_in r f.command locality f.place f.entry f.refused f.there f.is f.fails

  pub unlocked_of : is_locked r.fixed.lockout.fields ≡ false
  unlocked_of = ap (is_locked_out r.fixed.lockout) (sym f.touches) ∙ failure_of.unlocked

  abbrev refusal_of : RefusedCommand
  refusal_of = record { code = code_number f.command.code; refused = try_refusal f.command f.place }

  refused_as : f.refused ≡ try_refusal f.command f.place
  refused_as = failure_of.is ∙ ap (failure (check_for (used_in f.command f.place)) (f.place + 1))
      f.touches

refused_so : (r : Record) (buffer : List ℕ) (locality : ℕ) (random : List ℕ)
    (f : FailsTry r locality buffer) → acceptance_in r buffer locality random
    ≡ Err (refusal_of f)
unfolding acceptance_in acceptance
refused_so r buffer locality random f = rw (f.decoded, f.is, refused_as f) refl

-- ---- events

fails_if : (r : Record) (event : PlainEvent) → fails_try r event ≡ true → IsRefusedTry r event
fails_if r (Given buffer locality elapsed random) tries =
    try_of (after_tick r elapsed) buffer locality random tries
fails_if r Cycled tries = absurd (false≢true tries)
fails_if r (Placed object) tries = absurd (false≢true tries)

fails_where : (r : Record) (event : PlainEvent) → IsRefusedTry r event → fails_try r event ≡ true
fails_where r (Given buffer locality elapsed random) f =
    ap counts_try (refused_so (after_tick r elapsed) buffer locality random f)
fails_where r Cycled f = absurd f
fails_where r (Placed object) f = absurd f

pub try_tells : (old : Record) (event : PlainEvent)
    → (fails_try old event ≡ true → IsRefusedTry old event)
    × (IsRefusedTry old event → fails_try old event ≡ true)
try_tells old event = (fails_if old event, fails_where old event)

-- The response to a refused command does not depend on whether allocations fail.
answer_refused : (refused : Bool) (r : Record) (random : List ℕ)
    (x : Result Accepted RefusedCommand) (e : RefusedCommand) → x ≡ Err e
    → answer_where refused r random x ≡ refusal_step r e
answer_refused false r random x e is = ap (λ y. stepped_of r random y) is
answer_refused true r random x e is = ap (answer_where true r random) is

pub execution_tells : (can : Bool) (old : Record) (event : PlainEvent) (x : Stepped)
    → Executes can old event x → fails_try old event ≡ true → IsAnsweredTry old event x
execution_tells can old (Given buffer locality elapsed random) x executes tries =
    let t = after_tick old elapsed in
    let f = try_of t buffer locality random tries in
    let (refused, only, is) = executes.steps in
    let seen : x ≡ refusal_step t (refusal_of f) =
    is ∙ answer_refused refused t random (acceptance_in t buffer locality random) (refusal_of f)
    (refused_so t buffer locality random f) in (
      f,
      record {
        response = ap (λ (y : Stepped). y.response) seen;
        check =
            ap (λ (y : Stepped). y.row.check) seen;
      },
    )
execution_tells can old Cycled x executes tries = absurd (false≢true tries)
execution_tells can old (Placed object) x executes tries = absurd (false≢true tries)
