-- The HMAC that the layer sends is right exactly if the client's is, and the layer compares HMACs
-- as the device does.
use Rattle.std.proofs.Common.{arith, ◌≡◌, ℕ, ◌≤◌, Bool, true, false, List, [], ◌∷◌, ◌++◌, length, drop, refl, ap, subst, ◌∙◌}
use Rattle.std.specs.Prelude.{◌==◌, ◌&&◌, ◌||◌, nat_lt, not, if◌then◌else◌}
use Rattle.std.specs.Str.{bytes_eq}
use Rattle.std.proofs.lemmas.Bool.{ne_eqb}
use Rattle.std.proofs.lemmas.Slice.Eq.{bytes_eq-Decides}
use Rattle.tpm_auth.specs.Entries.{decrypts}
use Rattle.tpm_auth.specs.SessionGrant.{entry_parts, hashed_command, is_authentic, nonce_where, only_encrypts, other_entries, used_auth_value}
use Rattle.tpm_commands.specs.CommandCode.{authorized_handles}
use Rattle.tpm_mac.proofs.DigestSize.{length-hmac_of}
use Rattle.tpm_mac.specs.Digest.{digest_size}
use Rattle.tpm_mac.specs.declared.algorithm.HashAlg.{HashAlg}
use Rattle.tpm_mac.specs.declared.algorithm.HashAlg.TheVariants.{Sha1, Sha256}
use Rattle.tpm_session.specs.EntryText.{EntryParts, command_mac_of, command_text, entry_key}
use Rattle.tpm_session.specs.ParameterHash.{command_hash_of, parameter_hash_of}
use Rattle.tpm_session.specs.declared.session.Session.{Session}
use Rattle.tpm_types_command.specs.AuthEntry.{Entry}
use Rattle.tpm_types_command.specs.Command.{Whole}
use Rattle.tpm_completion.specs.SessionEntry.{Covered, covered_hash, covered_mac, covered_parts, is_right, sent_hmac}
use Rattle.tpm_completion_laws.specs.SessionEntries.{CarriesTheProof, ComparesLikeTheDevice}

-- ---- the size of an HMAC

at_least : (hash : HashAlg) → 2 ≤ digest_size hash
at_least Sha1 = omega arith
at_least Sha256 = omega arith

at_most : (hash : HashAlg) → digest_size hash ≤ 32
at_most Sha1 = omega arith
at_most Sha256 = omega arith

mac_size : (s : Session) (c : Covered) (e : Entry) → length (covered_mac s c e) ≡ digest_size s.hash
unfolding covered_mac command_mac_of
mac_size s c e = length-hmac_of s.hash (entry_key s c.value) (command_text s (covered_parts s c e))

mac_long : (s : Session) (c : Covered) (e : Entry) → 2 ≤ length (covered_mac s c e)
mac_long s c e = omega (arith, mac_size s c e, at_least s.hash)

-- the HMAC that the layer sends has at most 32 bytes
pub few_bytes : (s : Session) (asked sent : Covered) (e : Entry)
    → length (sent_hmac s asked sent e) ≤ 32
unfolding sent_hmac
few_bytes s asked sent e = by (is_right s asked e) (length e.hmac == 0)
  where
    by : (right empty : Bool)
        → length (if not right then 0 ∷ [] else (if empty then [] else covered_mac s sent e)) ≤ 32
    by false empty = omega arith
    by true true = omega arith
    by true false = omega (arith, mac_size s sent e, at_most s.hash)

-- ---- the HMAC that is sent

-- whether an HMAC is right, given the key and the computed HMAC
abbrev matches : (key hmac mac : List ℕ) → Bool
matches key hmac mac = length key == 0 && length hmac == 0 || bytes_eq hmac mac

-- the HMAC that is sent, given the HMAC that is right for it
abbrev chosen : (right empty : Bool) → (mac : List ℕ) → List ℕ
chosen right empty mac = if not right then 0 ∷ [] else (if empty then [] else mac)

differs : (xs ys : List ℕ) → (xs ≡ ys → ⊥) → bytes_eq xs ys ≡ false
differs xs ys apart = by (bytes_eq xs ys) (bytes_eq-Decides xs ys).0
  where
    by : (b : Bool) → (b ≡ true → xs ≡ ys) → b ≡ false
    by true same = absurd (apart (same refl))
    by false same = refl

-- one byte is not the right HMAC
unmatched : (key mac : List ℕ) → 2 ≤ length mac → matches key (0 ∷ []) mac ≡ false
unmatched key mac long = ap (λ (b : Bool). length key == 0 && false || b)
    (differs (0 ∷ []) mac apart) ∙ by (length key == 0)
  where
    apart : 0 ∷ [] ≡ mac → ⊥
    apart same = let one : 1 ≡ length mac = ap length same in omega (arith, one, long)

    by : (b : Bool) → (b && false || false) ≡ false
    by true = refl
    by false = refl

matched : (key mac : List ℕ) → matches key mac mac ≡ true
matched key mac = ap (λ (b : Bool). length key == 0 && length mac == 0 || b)
    ((bytes_eq-Decides mac mac).1 refl) ∙ by (length key == 0 && length mac == 0)
  where
    by : (b : Bool) → (b || true) ≡ true
    by true = refl
    by false = refl

-- an empty HMAC is right only if the key is empty
no_key : (key mac : List ℕ) → 2 ≤ length mac → matches key [] mac ≡ true → key ≡ []
no_key [] mac long is = refl
no_key (byte ∷ key) mac long is =
    let some : (length (byte ∷ key) == 0) ≡ false =
    ne_eqb (length (byte ∷ key)) 0 (λ none. omega arith) in
    let same : [] ≡ mac =
    (bytes_eq-Decides [] mac).0
    (subst (λ (b : Bool). (b && true || bytes_eq [] mac) ≡ true) some is) in
    let none : 0 ≡ length mac = ap length same in
    absurd (omega (arith, none, long))

carried : (key other hmac mac sent : List ℕ) → (key ≡ [] → other ≡ []) → 2 ≤ length mac
    → 2 ≤ length sent
    → matches other (chosen (matches key hmac mac) (length hmac == 0) sent) sent
    ≡ matches key hmac mac
carried key other [] mac sent kept long sent_long = by (matches key [] mac) refl
  where
    by : (b : Bool) → matches key [] mac ≡ b → matches other (chosen b true sent) sent ≡ b
    by true is = ap (λ (k : List ℕ). matches k [] sent) (kept (no_key key mac long is))
    by false is = unmatched other sent sent_long
carried key other (byte ∷ hmac) mac sent kept long sent_long =
    ap (λ (empty : Bool). matches other (chosen (matches key (byte ∷ hmac) mac) empty sent) sent)
    (ne_eqb (length (byte ∷ hmac)) 0 (λ none. omega arith))
    ∙ by (matches key (byte ∷ hmac) mac)
  where
    by : (b : Bool) → matches other (chosen b false sent) sent ≡ b
    by true = matched other sent
    by false = unmatched other sent sent_long

both_empty : (xs ys : List ℕ) → xs ++ ys ≡ [] → (xs ≡ []) × (ys ≡ [])
both_empty [] ys is = (refl, is)
both_empty (x ∷ xs) ys is = absurd cc

empty_key : (s : Session) (asked sent : List ℕ) → (asked ≡ [] → sent ≡ []) → entry_key s asked ≡ []
    → entry_key s sent ≡ []
empty_key s asked sent kept is =
    let both = both_empty s.key asked is in ap (λ (key : List ℕ). key ++ sent) both.0 ∙ kept both.1

pub carries_the_proof : CarriesTheProof
unfolding is_right sent_hmac covered_mac
carries_the_proof s asked sent e kept =
    carried (entry_key s asked.value) (entry_key s sent.value) e.hmac (covered_mac s asked e)
    (covered_mac s sent e)
    (empty_key s asked.value sent.value kept) (mac_long s asked e) (mac_long s sent e)

-- ---- the device's comparison

-- a command with one entry has no other entries whose nonces could be covered
no_others : (command : Whole) (e : Entry) → command.entries ≡ e ∷ [] → other_entries command 1 ≡ []
no_others command e only = by (nat_lt 0 (authorized_handles command.code))
  where
    by : (b : Bool) → (if b then drop 1 command.entries else []) ≡ []
    by true = ap (drop 1) only
    by false = refl

pub compares_like_the_device : ComparesLikeTheDevice
unfolding is_authentic is_right covered_mac covered_hash entry_parts command_hash_of nonce_where
compares_like_the_device r command grant e s only =
    let value : List ℕ = used_auth_value r s grant in
    let parts : List Entry → EntryParts = λ others. record {
      hash = parameter_hash_of s.hash (hashed_command r command);
      nonce_caller = e.nonce;
      decrypt_nonce = nonce_where r decrypts others;
      encrypt_nonce = nonce_where r only_encrypts others;
      attributes = e.attributes;
    } in
    ap (λ (others : List Entry). length (entry_key s value) == 0 && length e.hmac == 0
    || bytes_eq e.hmac (command_mac_of s value (parts others)))
    (no_others command e only)
