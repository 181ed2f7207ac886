-- After a session is started, or its policy changes, all earlier sessions still exist, and the
-- fields of all sessions still have the right sizes. The fields also keep the right sizes when a
-- session is flushed.
use Rattle.std.specs.Prelude.{IfSome, is_some, option_and_then}
use Rattle.std.proofs.Common.{◌∙◌, ◌≡◌, List, None, Option, Some, ap, inl, inr, length, refl}
use Rattle.std.proofs.Common.{slice_set, subst, sym, true, ℕ}
use Rattle.std.proofs.lemmas.Bool.{cases_eq, false≢true}
use Rattle.tpm_mac.specs.Digest.{digest_size}
use Rattle.tpm_types_common.specs.declared.handle.Handle.{Handle}
use Rattle.tpm_containers.specs.Numbered.{at_number, changed_at, if_of_kind, place_of}
use Rattle.tpm_containers.specs.Slots.{AreAll, at_place, lowest_free, taken_count}
use Rattle.tpm_containers.proofs.NumberedLaws.{changed_found, changed_others, changed_taken}
use Rattle.tpm_containers.proofs.SlotLaws.{at_set-other, lowest_free-free}
use Rattle.tpm_policy.specs.State.{Policy}
use Rattle.tpm_session.specs.Session.{with_policy}
use Rattle.tpm_session.specs.Sessions.{session_at, session_byte, slots_without_session, with_session_policy}
use Rattle.tpm_session.specs.declared.session.Session.{Session}
use Rattle.tpm_record.specs.Record.{Record}
use Rattle.tpm_step.specs.rows.Sessions.{SessionsStay}
use Rattle.tpm_step.specs.rows.Sizes.{IsSized}
use Rattle.tpm_step.proofs.rows.AllPlaces.{all_changed, all_found, all_without}

-- ---- the existing sessions

-- a session that exists still exists after a new session gets a free slot
pub stays_put : (sessions : List (Option Session)) (place : ℕ) (s : Session) (h : Handle)
    → lowest_free sessions ≡ Some place → is_some (session_at sessions h) ≡ true
    → is_some (session_at (slice_set sessions place (Some s)) h) ≡ true
unfolding session_at at_number
stays_put sessions place s h is there =
    let found = λ (o : Option Session). is_some
    (option_and_then (if_of_kind session_byte h.number) o) in
    elim (cases_eq (place_of h.number) place) [
      | inl here ↦
          let empty : at_place sessions (place_of h.number) ≡ None =
          ap (at_place sessions) here ∙ (lowest_free-free sessions place is).1 in
          absurd (false≢true (sym (ap found empty) ∙ there))
      | inr apart ↦ ap found (at_set-other sessions place (place_of h.number) (Some s) apart)
          ∙ there
    ]

changed_stays : (change : Session → Session)
    → ((s : Session) → session_byte (change s) ≡ session_byte s)
    → (sessions : List (Option Session)) (number other : ℕ)
    → is_some (at_number session_byte sessions other) ≡ true
    → is_some (at_number session_byte (changed_at session_byte change sessions number) other) ≡ true
changed_stays change keeps sessions number other there =
    elim (cases_eq other number) [
      | inl same ↦ at_it (at_number session_byte sessions number) refl same
      | inr apart ↦ ap (λ (o : Option Session). is_some o)
          (changed_others session_byte change keeps sessions number other apart) ∙ there
    ]
  where
    at_it : (o : Option Session) → at_number session_byte sessions number ≡ o → other ≡ number
        → is_some (at_number session_byte (changed_at session_byte change sessions number) other)
        ≡ true
    at_it (Some s) is same =
        ap (λ (n : ℕ). is_some
        (at_number session_byte (changed_at session_byte change sessions number) n)) same
        ∙ ap (λ (o : Option Session). is_some o)
        (changed_found session_byte change keeps sessions number s is)
    at_it None is same =
        absurd
        (false≢true (sym (ap (λ (o : Option Session). is_some o) is)
        ∙ sym (ap (λ (n : ℕ). is_some (at_number session_byte sessions n)) same) ∙ there))

pub policy_stays : (r : Record) (handle : Handle) (policy : Policy)
    → SessionsStay r (record r { sessions = with_session_policy r.sessions handle policy })
unfolding session_at with_session_policy
policy_stays r handle policy h there =
    changed_stays (λ s. with_policy s policy) (λ s. refl) r.sessions handle.number h.number there

pub policy_same : (sessions : List (Option Session)) (handle : Handle) (policy : Policy)
    → taken_count (with_session_policy sessions handle policy) ≡ taken_count sessions
unfolding with_session_policy
policy_same sessions handle policy =
    changed_taken session_byte (λ s. with_policy s policy) sessions handle.number

-- ---- the sizes of sessions

policy_sized : (s : Session) (policy : Policy) → length policy.digest ≡ digest_size s.hash
    → IsSized s → IsSized (with_policy s policy)
policy_sized s policy digest sized =
    record { digest = digest; key = sized.key; nonce_tpm = sized.nonce_tpm }

pub policy_all : (sessions : List (Option Session)) (handle : Handle) (s : Session)
    (policy : Policy) → session_at sessions handle ≡ Some s
    → length policy.digest ≡ digest_size s.hash → AreAll IsSized sessions
    → AreAll IsSized (with_session_policy sessions handle policy)
unfolding session_at with_session_policy
policy_all sessions handle s policy is digest are =
    let found : IfSome (let o : Option Session = Some s in o) IsSized =
    subst (λ (o : Option Session). IfSome o IsSized) is
    (all_found IsSized session_byte sessions handle.number are) in
    all_changed IsSized session_byte (λ s. with_policy s policy) sessions handle.number
    (subst (λ (o : Option Session). IfSome o (λ s. IsSized (with_policy s policy))) (sym is)
    (policy_sized s policy digest found)) are

pub flushed_all : (sessions : List (Option Session)) (handle : Handle) → AreAll IsSized sessions
    → AreAll IsSized (slots_without_session sessions handle)
unfolding slots_without_session
flushed_all sessions handle are = all_without IsSized session_byte sessions handle.number are
