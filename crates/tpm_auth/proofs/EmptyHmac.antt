-- If an entry with an empty HMAC is accepted, then its HMAC key was empty or the policy required a
-- password.
use Rattle.std.proofs.Common.{◌≡◌, ◌⊎◌, ℕ, ◌<◌, Bool, true, false, List, [], ◌∷◌, length, Option, Some, None, Ok, refl, sym, ap, subst, ◌∙◌, arith, inl, inr}
use Rattle.std.specs.Prelude.{◌==◌, ◌&&◌, ◌||◌, if◌then◌else◌, not}
use Rattle.std.specs.Str.{bytes_eq}
use Rattle.std.proofs.lemmas.Bool.{ne_eqb}
use Rattle.std.proofs.lemmas.Slice.Eq.{bytes_eq-Decides}
use Rattle.tpm_bytes.proofs.Fields.{bind_ok, ok_is, passed}
use Rattle.tpm_mac.proofs.DigestSize.{length-hmac_of}
use Rattle.tpm_mac.specs.Digest.{digest_size}
use Rattle.tpm_mac.specs.declared.algorithm.HashAlg.{HashAlg}
use Rattle.tpm_mac.specs.declared.algorithm.HashAlg.TheVariants.{Sha1, Sha256}
use Rattle.tpm_session.specs.EntryText.{EntryParts, command_mac_of, command_text, entry_key}
use Rattle.tpm_session.specs.declared.session.Session.{Session}
use Rattle.tpm_types_command.specs.AuthEntry.{Entry}
use Rattle.tpm_types_command.specs.Command.{Whole}
use Rattle.tpm_types_common.specs.AuthValue.{trimmed}
use Rattle.tpm_record.specs.Record.{Record}
use Rattle.tpm_auth.specs.Comparison.{check_of, failure, is_password_of, may_be_tried}
use Rattle.tpm_auth.specs.EmptyHmac.{EmptyHmacHasNoKey}
use Rattle.tpm_auth.specs.SessionGrant.{comparison, comparison_holds, demand_of_session, demands_password, entry_parts, granted_value, is_authentic, session_grant, entry_protection, used_auth_value}
use Rattle.tpm_auth.specs.declared.session_grant.Grant.{Grant}

not_false : (b : Bool) → not b ≡ false → b ≡ true
not_false true is = refl
not_false false is = absurd cc

-- ---- no computed HMAC is empty

digest_some : (alg : HashAlg) → 0 < digest_size alg
digest_some Sha1 = omega arith
digest_some Sha256 = omega arith

mac_some : (s : Session) (value : List ℕ) (parts : EntryParts) → command_mac_of s value parts ≡ []
    → ⊥
unfolding command_mac_of
mac_some s value parts is =
    let size : length (command_mac_of s value parts) ≡ digest_size s.hash =
    length-hmac_of s.hash (entry_key s value) (command_text s parts) in
    let none : length (command_mac_of s value parts) ≡ 0 = ap length is in
    let some = digest_some s.hash in
    absurd (omega (arith, size, none, some))

-- If an entry's empty HMAC is accepted although the computed HMAC is not empty, the HMAC key is
-- empty.
by_test : (key hmac mac : List ℕ) → (length key == 0 && length hmac == 0 || bytes_eq hmac mac)
    ≡ true → hmac ≡ [] → (mac ≡ [] → ⊥) → key ≡ []
by_test [] hmac mac is empty some = refl
by_test (byte ∷ key) hmac mac is empty some =
    let long : (length (byte ∷ key) == 0) ≡ false =
    ne_eqb (length (byte ∷ key)) 0 (λ none. omega arith) in
    let same : hmac ≡ mac =
    (bytes_eq-Decides hmac mac).0
    (subst (λ (b : Bool). (b && length hmac == 0 || bytes_eq hmac mac) ≡ true) long is) in
    absurd (some (sym same ∙ empty))

authentic : (r : Record) (c : Whole) (n : ℕ) (grant : Option Grant) (e : Entry) (s : Session)
    → is_authentic r c n grant e s ≡ true → e.hmac ≡ []
    → entry_key s (used_auth_value r s grant) ≡ []
unfolding is_authentic
authentic r c n grant e s is empty =
    let value : List ℕ = used_auth_value r s grant in
    by_test (entry_key s value) e.hmac (command_mac_of s value (entry_parts r c n e s)) is empty
    (mac_some s value (entry_parts r c n e s))

-- ---- an accepted entry

abbrev HasNoKey : Record → Session → Option Grant → Type 0
HasNoKey r s accepted = (entry_key s (used_auth_value r s accepted) ≡ [])
    ⊎ ((demands_password accepted ≡ true) × (trimmed (granted_value r accepted) ≡ []))

-- An empty password matches only an empty authorization value.
no_value : (value password : List ℕ) → is_password_of value password ≡ true → password ≡ []
    → trimmed value ≡ []
unfolding trimmed
no_value value password is empty = sym ((bytes_eq-Decides (trimmed password) (trimmed value)).0 is)
    ∙ ap trimmed empty

compared : (r : Record) (c : Whole) (n : ℕ) (grant : Option Grant) (e : Entry) (s : Session)
    → comparison_holds r c n grant e s ≡ true → e.hmac ≡ [] → HasNoKey r s grant
unfolding comparison_holds
compared r c n grant e s is empty = by (demands_password grant) refl is
  where
    by : (b : Bool) → demands_password grant ≡ b
        → (if b then is_password_of (granted_value r grant) e.hmac
        else is_authentic r c n grant e s) ≡ true → HasNoKey r s grant
    by true demands holds = inr (demands, no_value (granted_value r grant) e.hmac holds empty)
    by false demands holds = inl (authentic r c n grant e s holds empty)

accepted_by : (r : Record) (c : Whole) (n : ℕ) (grant : Option Grant) (e : Entry) (s : Session)
    (accepted : Option Grant) → comparison r c n grant e s ≡ Ok accepted → e.hmac ≡ []
    → HasNoKey r s accepted
accepted_by r c n grant e s accepted is empty =
    let holds : Bool = comparison_holds r c n grant e s in
    let tried = bind_ok (may_be_tried r.fixed.lockout grant (entry_protection r s grant)) _ accepted
    is in
    let a = bind_ok _ (λ compared. Ok grant) accepted tried.2 in
    let same : grant ≡ accepted = ok_is _ _ a.2 in
    let right : holds ≡ true =
    not_false holds
    (passed (not holds) (failure (check_of grant) n (entry_protection r s grant)) a.0 a.1) in
    subst (HasNoKey r s) same (compared r c n grant e s right empty)

pub no_key : EmptyHmacHasNoKey
unfolding session_grant
no_key r c locality n None e s accepted is empty = accepted_by r c n None e s accepted is empty
no_key r c locality n (Some handle) e s accepted is empty =
    let a = bind_ok (demand_of_session r c locality n handle s)
    (λ demand. comparison r c n (Some (record { handle = handle; demand = demand })) e s)
    accepted is in
    accepted_by r c n _ e s accepted a.2 empty
