-- A device and its history still have the same sessions after the session at one handle changes in
-- both.
use Rattle.std.proofs.Common.{◌≡◌, ◌≢◌, ℕ, ◌^◌, ◌<◌, ◌==◌, arith, false, List, [], length, Option, Some, None, option_map, slice_set, refl, ap, sym, subst, ◌∙◌, inl, inr}
use Rattle.std.specs.Prelude.{option_and_then}
use Rattle.std.proofs.lemmas.Bool.{cases_eq, or_parts}
use Rattle.std.proofs.lemmas.Option.{same_Some}
use Rattle.tpm_containers.specs.Numbered.{at_number, changed_at, if_of_kind, kind_of, place_of, without_number}
use Rattle.tpm_containers.specs.Slots.{at_place, lowest_free}
use Rattle.tpm_containers.proofs.NumberedLaws.{changed_absent, changed_found, changed_others, put_found, put_others, removed_gone, removed_others}
use Rattle.tpm_containers.proofs.Padding.{at_place-padded}
use Rattle.tpm_containers.proofs.SlotLaws.{lowest_free-free}
use Rattle.tpm_policy.specs.State.{Policy}
use Rattle.tpm_session.specs.Session.{with_policy}
use Rattle.tpm_session.specs.Sessions.{handle_of, session_at, session_byte, slots_without_session, with_session_policy}
use Rattle.tpm_session.specs.declared.session.Session.{Session}
use Rattle.tpm_types_common.specs.Handle.{is_session, numbered_handle}
use Rattle.tpm_types_common.specs.Limits.{session_limit}
use Rattle.tpm_types_common.specs.SessionType.{type_byte}
use Rattle.tpm_types_common.specs.declared.handle.Handle.{Handle}
use Rattle.tpm_types_common.specs.declared.session_type.SessionType.{SessionType}
use Rattle.tpm_types_common.specs.declared.session_type.SessionType.TheVariants as type
use Rattle.tpm_record.specs.Record.{no_sessions}
use Rattle.tpm_step.specs.history.DeviceSessions.{AreLive, SessionFacts, facts_of, session_facts}
use Rattle.tpm_step.specs.history.HandleMap.{with_at}
use Rattle.tpm_step.specs.history.Sessions.{LiveSession, LiveSessions, changed_session, without_session}
use Rattle.tpm_step.proofs.history.HandleMap.{at_other, at_same}

-- ---- a device's session and the history's session

-- The device and the history both have a session, with the same facts, or neither has a session.
abbrev Matches : Option Session → Option LiveSession → Type 0
Matches found told = option_map session_facts found ≡ option_map facts_of told

-- A property of the device's session and the history's session holds if it holds in two cases: both
-- sessions exist and have the same facts; or neither session exists.
pub of_both : (P : Option Session → Option LiveSession → Type 0)
    → ((s : Session) (l : LiveSession) → session_facts s ≡ facts_of l → P (Some s) (Some l))
    → P None None → (found : Option Session) (told : Option LiveSession)
    → option_map session_facts found ≡ option_map facts_of told → P found told
of_both P some none (Some s) (Some l) same =
    some s l (same_Some (session_facts s) (facts_of l) same)
of_both P some none None None same = none
of_both P some none (Some s) None same = absurd cc
of_both P some none None (Some l) same = absurd cc

pub of_one : (P : Session → Type 0) (found : Option Session) (one : Session) → found ≡ Some one
    → P one → (s : Session) → found ≡ Some s → P s
of_one P found one is holds s also = subst P (same_Some one s (sym is ∙ also)) holds

-- ---- replacing the session at a handle

replaced : (new old : List (Option Session)) (handle : Handle) (told : Option LiveSession)
    (live : LiveSessions) → Matches (session_at new handle) told
    → ((other : Handle) → other.number ≢ handle.number
    → session_at new other ≡ session_at old other) → AreLive old live
    → AreLive new (with_at handle told live)
replaced new old handle told live here elsewhere are other =
    elim (cases_eq other.number handle.number) [
      | inl same ↦
          ap (λ (n : ℕ). option_map session_facts (session_at new (numbered_handle n))) same
          ∙ here ∙ sym (ap (option_map facts_of) (at_same handle other told live same))
      | inr apart ↦
          ap (option_map session_facts) (elsewhere other apart) ∙ are other
          ∙ sym (ap (option_map facts_of) (at_other handle other told live apart))
    ]

-- ---- starting a session

pub started_live : (places : List (Option Session)) (place : ℕ) (s : Session)
    (told : Option LiveSession) (live : LiveSessions) → length places ≡ session_limit
    → lowest_free places ≡ Some place → Some (session_facts s) ≡ option_map facts_of told
    → AreLive places live → AreLive (slice_set places place (Some s))
    (with_at (handle_of s.kind place) told live)
unfolding session_at
started_live places place s told live many free same are =
    let inside : place < length places = (lowest_free-free places place free).0 in
    let below : place < 2 ^ 24 = omega (arith, inside, many) in
    replaced (slice_set places place (Some s)) places (handle_of s.kind place) told live
    (ap (option_map session_facts) (put_found session_byte places place s below free) ∙ same)
    (λ other apart. put_others session_byte places place s other.number below free apart) are

-- ---- ending a session

pub ended_live : (places : List (Option Session)) (handle : Handle) (live : LiveSessions)
    → AreLive places live → AreLive (slots_without_session places handle)
    (without_session handle live)
unfolding session_at slots_without_session
ended_live places handle live are =
    replaced (without_number session_byte places handle.number) places handle None live
    (ap (option_map session_facts) (removed_gone session_byte places handle.number))
    (λ other apart. removed_others session_byte places handle.number other.number apart) are

of_kind : (kind : SessionType) (handle : Handle) → is_session handle ≡ false
    → (kind_of handle.number == type_byte kind) ≡ false
of_kind type.Hmac handle not = (or_parts _ _ not).0
of_kind type.Policy handle not = (or_parts _ _ not).1
of_kind type.Trial handle not = (or_parts _ _ not).1

absent : (places : List (Option Session)) (handle : Handle) → is_session handle ≡ false
    → session_at places handle ≡ None
unfolding session_at at_number
absent places handle not = by (at_place places (place_of handle.number))
  where
    by : (cell : Option Session) → option_and_then (if_of_kind session_byte handle.number) cell
        ≡ None
    by None = refl
    by (Some s) = rw (of_kind s.kind handle not) refl

-- ending the session at a handle changes nothing if there is no session at the handle
pub none_ended_live : (places : List (Option Session)) (handle : Handle) (live : LiveSessions)
    → is_session handle ≡ false → AreLive places live → AreLive places (without_session handle live)
none_ended_live places handle live not are =
    replaced places places handle None live
    (ap (option_map session_facts) (absent places handle not)) (λ other apart. refl) are

-- ---- changing a session

-- If the device's session and the history's session have the same facts, they still have the same
-- facts after both are changed.
abbrev pub ChangesAs : (Session → Session) → (LiveSession → LiveSession) → Session → Type 0
ChangesAs change retell s = (l : LiveSession) → session_facts s ≡ facts_of l
    → session_facts (change s) ≡ facts_of (retell l)

changed_matches : (change : Session → Session) (retell : LiveSession → LiveSession)
    (found : Option Session) (told : Option LiveSession)
    → ((s : Session) → found ≡ Some s → ChangesAs change retell s) → Matches found told
    → Matches (option_map change found) (option_map retell told)
changed_matches change retell found told alike same =
    of_both (λ found told. ((s : Session) → found ≡ Some s → ChangesAs change retell s)
    → Matches (option_map change found) (option_map retell told))
    (λ s l same alike. ap (λ (f : SessionFacts). Some f) (alike s refl l same)) (λ alike. refl)
    found told same alike

found_changed : (change : Session → Session)
    → ((s : Session) → session_byte (change s) ≡ session_byte s)
    → (places : List (Option Session)) (number : ℕ)
    → at_number session_byte (changed_at session_byte change places number) number
    ≡ option_map change (at_number session_byte places number)
found_changed change keeps places number = by (at_number session_byte places number) refl
  where
    by : (found : Option Session) → at_number session_byte places number ≡ found
        → at_number session_byte (changed_at session_byte change places number) number
        ≡ option_map change found
    by (Some s) is = changed_found session_byte change keeps places number s is
    by None is = ap (λ (p : List (Option Session)). at_number session_byte p number)
        (changed_absent session_byte change places number is) ∙ is

pub changed_live : (change : Session → Session) (retell : LiveSession → LiveSession)
    → ((s : Session) → session_byte (change s) ≡ session_byte s)
    → (places : List (Option Session)) (handle : Handle) (live : LiveSessions)
    → ((s : Session) → session_at places handle ≡ Some s → ChangesAs change retell s)
    → AreLive places live → AreLive (changed_at session_byte change places handle.number)
    (changed_session retell handle live)
unfolding session_at
changed_live change retell keeps places handle live alike are =
    replaced (changed_at session_byte change places handle.number) places handle
    (option_map retell (live handle)) live
    (ap (option_map session_facts) (found_changed change keeps places handle.number)
    ∙ changed_matches change retell (session_at places handle) (live handle) alike
    (are handle))
    (λ other apart. changed_others session_byte change keeps places handle.number other.number
    apart) are

-- The policy of an existing session changes as the history determines.
pub policy_live : (places : List (Option Session)) (handle : Handle) (s : Session) (policy : Policy)
    (retell : LiveSession → LiveSession) (live : LiveSessions) → session_at places handle ≡ Some s
    → ChangesAs (λ s. with_policy s policy) retell s → AreLive places live
    → AreLive (with_session_policy places handle policy) (changed_session retell handle live)
unfolding with_session_policy
policy_live places handle s policy retell live is alike are =
    changed_live (λ s. with_policy s policy) retell (λ s. refl) places handle live
    (of_one (ChangesAs (λ s. with_policy s policy) retell) (session_at places handle) s is
    alike) are

unchanged : (found : Option Session) → option_map session_facts found
    ≡ option_map session_facts (option_map (λ (s : Session). s) found)
unchanged (Some s) = refl
unchanged None = refl

pub unchanged_live : (retell : LiveSession → LiveSession) (places : List (Option Session))
    (handle : Handle) (live : LiveSessions)
    → ((s : Session) → session_at places handle ≡ Some s → ChangesAs (λ s. s) retell s)
    → AreLive places live → AreLive places (changed_session retell handle live)
unchanged_live retell places handle live alike are =
    replaced places places handle (option_map retell (live handle)) live
    (unchanged (session_at places handle)
    ∙ changed_matches (λ s. s) retell (session_at places handle) (live handle) alike
    (are handle))
    (λ other apart. refl) are

-- ---- devices without a session

pub none_live : AreLive no_sessions (λ handle. None)
unfolding session_at at_number
none_live handle =
    ap (λ (cell : Option Session). option_map session_facts
    (option_and_then (if_of_kind session_byte handle.number) cell))
    (at_place-padded session_limit [] (place_of handle.number))
