-- A state that absorbed a message has the message's hash value, and its block begins with the
-- message's last bytes.
use Rattle.std.proofs.Common.{◌≡◌, ◌≢◌, inl, inr, ℕ, zero, suc, ◌+◌, ◌*◌, ◌%◌, ◌^◌, ◌<◌, Bool, true, false, if◌then◌else◌, List, [], ◌∷◌, ◌++◌, length, take, drop, slice_index, slice_set, nat_eq, append-nil, append_assoc, length-append, refl, sym, ap, ◌∙◌, arith}
use Rattle.std.proofs.lemmas.List.{length-set, nil_from_length, take-append-drop, take_all, take_more_set}
use Rattle.std.specs.Int.{to_be_bytes, w32}
use Rattle.std.proofs.lemmas.Bool.Decides.{eqb_tells}
use Rattle.sha1.proofs.Absorbing as one
use Rattle.sha1.specs.Sha1 as sha1
use Rattle.sha1.specs.Sha1.{hash_after}
use Rattle.sha2.proofs.Absorbing256 as two
use Rattle.sha2.specs.Sha256 as sha256
use Rattle.sha2.specs.Sha256.{padding, padded_message}
use Rattle.tpm_mac.specs.Digest.{digest_size, hash_of}
use Rattle.tpm_mac.specs.declared.algorithm.HashAlg.{HashAlg}
use Rattle.tpm_mac.specs.declared.algorithm.HashAlg.TheVariants as alg
use Rattle.tpm_hash_state.specs.Meaning.{AbsorbsInParts, DigestIsHash}
use Rattle.tpm_hash_state.specs.State.{byte_absorbed, empty_state, state_after_bytes, state_alg, state_digest, value_after_block, value_alg, value_bytes}
use Rattle.tpm_hash_state.specs.declared.chaining.ChainingValue.{ChainingValue}
use Rattle.tpm_hash_state.specs.declared.chaining.ChainingValue.TheVariants.{Sha1, Sha256}
use Rattle.tpm_hash_state.specs.declared.state.HashState.{HashState}

pub absorbs_in_parts : AbsorbsInParts
unfolding state_after_bytes
absorbs_in_parts state [] second = refl
absorbs_in_parts state (byte ∷ first) second =
    absorbs_in_parts (byte_absorbed state byte) first second

-- Absorbing the first bytes of a list and then the remaining bytes is the same as absorbing the
-- list.
pub absorbed_rest : (state next : HashState) (bytes : List ℕ) (count : ℕ)
    → next ≡ state_after_bytes state (take count bytes)
    → state_after_bytes next (drop count bytes) ≡ state_after_bytes state bytes
absorbed_rest state next bytes count is =
    ap (λ (now : HashState). state_after_bytes now (drop count bytes)) is
    ∙ absorbs_in_parts state (take count bytes) (drop count bytes)
    ∙ ap (state_after_bytes state) (take-append-drop count bytes)

-- Absorbing no bytes leaves the state unchanged.
pub absorbed_none : (state : HashState) (bytes : List ℕ) → length bytes ≡ 0
    → state_after_bytes state bytes ≡ state
unfolding state_after_bytes
absorbed_none state bytes none = rw (nil_from_length bytes none) refl

-- ---- the state after a message

-- `value` is the hash value after the whole blocks of the message, and `block` begins with the
-- remaining bytes.
abbrev ValueHolds : HashAlg → ChainingValue → (block message : List ℕ) → Type 0
ValueHolds alg.Sha1 (Sha1 words) block message = sha1.IsAbsorbed words block message
ValueHolds alg.Sha1 (Sha256 words) block message = ⊥
ValueHolds alg.Sha256 (Sha1 words) block message = ⊥
ValueHolds alg.Sha256 (Sha256 words) block message =
    sha256.IsAbsorbed sha256.initial_hash_256 words block message

-- Appending bytes that do not fill the block leaves the hash value unchanged.
value_short : (alg : HashAlg) (value : ChainingValue) (before block message bytes : List ℕ)
    → ValueHolds alg value before message → length message % 64 + length bytes < 64
    → take (length message % 64 + length bytes) block ≡ take (length message % 64) before ++ bytes
    → ValueHolds alg value block (message ++ bytes)
value_short alg.Sha1 (Sha1 words) before block message bytes holds short placed =
    one.IsAbsorbed_short words before block message bytes holds short placed
value_short alg.Sha1 (Sha256 words) before block message bytes holds short placed = absurd holds
value_short alg.Sha256 (Sha1 words) before block message bytes holds short placed = absurd holds
value_short alg.Sha256 (Sha256 words) before block message bytes holds short placed =
    two.IsAbsorbed_short sha256.initial_hash_256 words before block message bytes holds short placed

-- Appending bytes that fill the block compresses the block into the hash value.
value_full : (alg : HashAlg) (value : ChainingValue) (before block message bytes : List ℕ)
    → ValueHolds alg value before message → length message % 64 + length bytes ≡ 64
    → block ≡ take (length message % 64) before ++ bytes
    → ValueHolds alg (value_after_block value block) block (message ++ bytes)
value_full alg.Sha1 (Sha1 words) before block message bytes holds full placed =
    one.IsAbsorbed_fill words before block message bytes block holds full placed
value_full alg.Sha1 (Sha256 words) before block message bytes holds full placed = absurd holds
value_full alg.Sha256 (Sha1 words) before block message bytes holds full placed = absurd holds
value_full alg.Sha256 (Sha256 words) before block message bytes holds full placed =
    two.IsAbsorbed_fill sha256.initial_hash_256 words before block message bytes block holds full
    placed

-- The state has absorbed the message.
record Holds (alg : HashAlg) (state : HashState) (message : List ℕ) : Type 0 where
  sized : length state.block ≡ 64
  counted : state.length ≡ length message % 2 ^ 64
  value : ValueHolds alg state.chaining state.block message

holds_none : (alg : HashAlg) → Holds alg (empty_state alg) []
unfolding hash_after sha256.hash_after
holds_none alg.Sha1 = record { sized = refl; counted = refl; value = (refl, refl) }
holds_none alg.Sha256 = record { sized = refl; counted = refl; value = (refl, refl) }

holds_full : (alg : HashAlg) (state : HashState) (message : List ℕ) (byte : ℕ)
    → Holds alg state message
    → nat_eq (state.length % 64) 63 ≡ true → state.length % 64 ≡ 63
    → Holds alg (byte_absorbed state byte) (message ++ byte ∷ [])
holds_full alg state message byte holds is last =
    let place : ℕ = state.length % 64 in
    let counted = holds.counted in
    let sized = holds.sized in
    let at : length message % 64 ≡ place = omega arith in
    let block : List ℕ = slice_set state.block place byte in
    let size : length block ≡ 64 = length-set state.block place byte ∙ holds.sized in
    let written : take (place + 1) block ≡ take place state.block ++ byte ∷ [] =
    take_more_set state.block place byte (omega arith) in
    let placed : block ≡ take (length message % 64) state.block ++ byte ∷ [] =
    sym (take_all (place + 1) block (omega arith)) ∙ written
    ∙ ap (λ (k : ℕ). take k state.block ++ byte ∷ []) (sym at) in
    record {
      sized = size;
      counted = omega (arith, length-append message (byte ∷ []));
      value =
          rw is (value_full alg state.chaining state.block block message (byte ∷ []) holds.value
          (omega arith) placed);
    }

holds_short : (alg : HashAlg) (state : HashState) (message : List ℕ) (byte : ℕ)
    → Holds alg state message
    → nat_eq (state.length % 64) 63 ≡ false → state.length % 64 ≢ 63
    → Holds alg (byte_absorbed state byte) (message ++ byte ∷ [])
holds_short alg state message byte holds is early =
    let place : ℕ = state.length % 64 in
    let counted = holds.counted in
    let sized = holds.sized in
    let at : length message % 64 ≡ place = omega arith in
    let block : List ℕ = slice_set state.block place byte in
    let written : take (place + 1) block ≡ take place state.block ++ byte ∷ [] =
    take_more_set state.block place byte (omega arith) in
    let placed : take (length message % 64 + 1) block ≡ take (length message % 64) state.block
    ++ byte ∷ [] =
    ap (λ (k : ℕ). take (k + 1) block) at ∙ written
    ∙ ap (λ (k : ℕ). take k state.block ++ byte ∷ []) (sym at) in
    record {
      sized = length-set state.block place byte ∙ holds.sized;
      counted = omega (arith, length-append message (byte ∷ []));
      value =
          rw is (value_short alg state.chaining state.block block message (byte ∷ []) holds.value
          (omega arith) placed);
    }

holds_by : (alg : HashAlg) (state : HashState) (message : List ℕ) (byte : ℕ)
    → Holds alg state message
    → Holds alg (byte_absorbed state byte) (message ++ byte ∷ [])
holds_by alg state message byte holds = elim (eqb_tells (state.length % 64) 63) [
  | inl full ↦ holds_full alg state message byte holds full.0 full.1
  | inr early ↦ holds_short alg state message byte holds early.0 early.1
]

holds_more : (alg : HashAlg) (bytes : List ℕ) (state : HashState) (message : List ℕ)
    → Holds alg state message
    → Holds alg (state_after_bytes state bytes) (message ++ bytes)
unfolding state_after_bytes
holds_more alg [] state message holds = rw (append-nil message) holds
holds_more alg (byte ∷ bytes) state message holds =
    let next = holds_by alg state message byte holds in
    rw (append_assoc message (byte ∷ []) bytes) at
    (holds_more alg bytes (byte_absorbed state byte) (message ++ byte ∷ []) next)

-- ---- the digest

-- the padding depends only on the length modulo 2^64
padding_counted : (count size : ℕ) → count ≡ size % 2 ^ 64 → padding count ≡ padding size
padding_counted count size is =
    let used : count % 64 ≡ size % 64 = omega arith in
    let bits : count * 8 % 2 ^ 64 ≡ size * 8 % 2 ^ 64 = omega arith in
    rw (used, bits) refl

-- the digest of a message consists of the bytes of the hash value after the padded message
value_padded : (alg : HashAlg) (value : ChainingValue) (block message : List ℕ)
    → ValueHolds alg value block (padded_message message) → value_bytes value ≡ hash_of alg message
unfolding sha1.sha1 sha256.sha256
value_padded alg.Sha1 (Sha1 words) block message holds =
    ap (λ (h : List ℕ). sha1.digest_bytes h 5) holds.0
value_padded alg.Sha1 (Sha256 words) block message holds = absurd holds
value_padded alg.Sha256 (Sha1 words) block message holds = absurd holds
value_padded alg.Sha256 (Sha256 words) block message holds =
    ap (λ (h : List ℕ). sha256.digest_bytes h 8) holds.0

pub digest_is_hash : DigestIsHash
unfolding state_digest
digest_is_hash alg message =
    let state = state_after_bytes (empty_state alg) message in
    let holds = holds_more alg message (empty_state alg) [] (holds_none alg) in
    let whole = holds_more alg (padding state.length) state message holds in
    let padded : message ++ padding state.length ≡ padded_message message =
    ap (λ (p : List ℕ). message ++ p)
    (padding_counted state.length (length message) holds.counted) in
    value_padded alg _ _ message (rw padded at whole.value)

-- ---- words as bytes

-- both hash crates encode words in the same way
pub same_bytes : (words : List ℕ) (n : ℕ) → sha256.digest_bytes words n ≡ sha1.digest_bytes words n
unfolding sha1.digest_bytes sha256.digest_bytes
same_bytes words zero = refl
same_bytes words (suc n) = rw (same_bytes words n) refl

-- ---- the size of a digest

length-bytes : (words : List ℕ) (n : ℕ) → length (sha1.digest_bytes words n) ≡ n * 4
unfolding sha1.digest_bytes
length-bytes words zero = refl
length-bytes words (suc n) =
    let before = length-bytes words n in
    let word = to_be_bytes w32 (slice_index words n) in
    omega (arith, before, length-append (sha1.digest_bytes words n) word)

length-value_bytes : (value : ChainingValue)
    → length (value_bytes value) ≡ digest_size (value_alg value)
length-value_bytes (Sha1 words) = length-bytes words 5
length-value_bytes (Sha256 words) = ap length (same_bytes words 8) ∙ length-bytes words 8

compressed_alg : (value : ChainingValue) (block : List ℕ)
    → value_alg (value_after_block value block) ≡ value_alg value
compressed_alg (Sha1 words) block = refl
compressed_alg (Sha256 words) block = refl

chosen_alg : (full : Bool) (value : ChainingValue) (block : List ℕ)
    → value_alg (if full then value_after_block value block else value) ≡ value_alg value
chosen_alg true value block = compressed_alg value block
chosen_alg false value block = refl

-- absorbing bytes does not change the algorithm
pub absorbed_alg : (state : HashState) (bytes : List ℕ)
    → state_alg (state_after_bytes state bytes) ≡ state_alg state
unfolding state_after_bytes
absorbed_alg state [] = refl
absorbed_alg state (byte ∷ bytes) =
    absorbed_alg (byte_absorbed state byte) bytes
    ∙ chosen_alg (nat_eq (state.length % 64) 63) state.chaining
    (slice_set state.block (state.length % 64) byte)

-- a digest has the size that its algorithm requires
pub length-state_digest : (state : HashState)
    → length (state_digest state) ≡ digest_size (state_alg state)
unfolding state_digest
length-state_digest state =
    length-value_bytes (state_after_bytes state (padding state.length)).chaining
    ∙ ap digest_size (absorbed_alg state (padding state.length))
