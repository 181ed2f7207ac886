-- Unfolds single steps in the definitions of the cipher.
use Rattle.std.proofs.Common.{◌≡◌, ℕ, ◌+◌, ◌-◌, ◌<◌, ◌≤◌, List, [], ◌++◌, add-one, ap, arith, length, refl, map, below_more, get_or-set_other, get_or-set_same, ◌≢◌, slice_index_or, slice_set, subst, sym, ◌∙◌}
use Rattle.std.proofs.lemmas.List.{append-nil, get_or-map, length-map}
use Rattle.std.proofs.lemmas.List.FromFn.{fill_by_all, get_or-map-range_with_len}
use Rattle.tpm_aes.specs.Cipher.{expanded_key, mix_column, mix_columns, next_round_key, round_key, shift_rows, state_after, sub_bytes, word_of, xor_of}
use Rattle.tpm_aes.specs.Words.{bytes_of}

-- A mixed state consists of its four mixed columns.
pub words_mixed : (state : List ℕ) → mix_columns state
    ≡ mix_column (word_of state 0)
    ++ (mix_column (word_of state 1)
    ++ (mix_column (word_of state 2) ++ mix_column (word_of state 3)))
unfolding mix_columns
words_mixed state = rw (append-nil (mix_column (word_of state 3))) refl

-- The key for round 0 is the cipher key itself.
pub round_key_first : (key : List ℕ) → round_key key 0 ≡ key
unfolding round_key
round_key_first key = refl

-- The key for round n + 1 is computed from the key for round n.
pub round_key_more : (key : List ℕ) (n : ℕ)
    → round_key key (n + 1) ≡ next_round_key (n + 1) (round_key key n)
unfolding round_key
round_key_more key n = rw (add-one n) refl

-- Before round 1, the state is the block XORed with the key for round 0.
pub state_after_none : (key block : List ℕ)
    → state_after key block 0 ≡ xor_of block (round_key key 0)
unfolding state_after
state_after_none key block = refl

-- The state after round n + 1 is computed from the state after round n.
pub state_after_more : (key block : List ℕ) (n : ℕ) → state_after key block (n + 1)
    ≡ xor_of (mix_columns (shift_rows (sub_bytes (state_after key block n))))
    (round_key key (n + 1))
unfolding state_after
state_after_more key block n = rw (add-one n) refl

-- Entry n of the expanded key is the key for round n.
get_or-expanded_key : (key : List ℕ) (n : ℕ) → n < 11
    → slice_index_or (expanded_key key) n [] ≡ round_key key n
unfolding expanded_key
get_or-expanded_key key n within =
    get_or-map-range_with_len (round_key key) 0 11 n n [] within (omega arith)

-- A list of 11 keys is the expanded key if each entry is the key for its round.
pub expanded_key_from : (keys : List (List ℕ)) (key : List ℕ) → length keys ≡ 11
    → ((k : ℕ) → k < 11 → bytes_of (slice_index_or keys k []) ≡ round_key key k)
    → map bytes_of keys ≡ expanded_key (bytes_of (slice_index_or keys 0 []))
unfolding expanded_key
expanded_key_from keys key size each =
    let first : bytes_of (slice_index_or keys 0 []) ≡ key =
    each 0 (omega arith) ∙ round_key_first key in
    let all : (k : ℕ) → k < 11 → slice_index_or (map bytes_of keys) k [] ≡ round_key key k =
    λ k low. get_or-map bytes_of keys k [] [] (omega arith) ∙ each k low in
    rw first (fill_by_all (round_key key) (map bytes_of keys) 11 [] (simp length-map size) all)

-- For each k below n, entry k of the list is the key for round k. The list has 11 entries.
pub record HasKeysBelow (keys : List (List ℕ)) (key : List ℕ) (n : ℕ) : Type 0 where
  pub size : length keys ≡ 11
  pub each : (k : ℕ) → k < n → bytes_of (slice_index_or keys k []) ≡ round_key key k

-- One step of the key expansion: if entries 0 to n - 1 are the keys for their rounds, storing the
-- key for round n at index n makes entries 0 to n the keys for their rounds.
pub round_keys_more : (keys : List (List ℕ)) (key next : List ℕ) (n : ℕ) → 1 ≤ n → n < length keys
    → ((k : ℕ) → k < n → bytes_of (slice_index_or keys k []) ≡ round_key key k)
    → bytes_of next ≡ next_round_key n (bytes_of (slice_index_or keys (n - 1) []))
    → (k : ℕ) → k < n + 1 → bytes_of (slice_index_or (slice_set keys n next) k []) ≡ round_key key k
round_keys_more keys key next n low within so_far is_next =
    let one_more : n ≡ (n - 1) + 1 = omega arith in
    let value : bytes_of next ≡ round_key key n =
    is_next ∙ ap (next_round_key n) (so_far (n - 1) (omega arith))
    ∙ sym (subst (λ (m : ℕ). round_key key m ≡ next_round_key m (round_key key (n - 1)))
    (sym one_more) (round_key_more key (n - 1))) in
    below_more (λ (k : ℕ). bytes_of (slice_index_or (slice_set keys n next) k []) ≡ round_key key k)
    n
    (λ k h. let other : k ≢ n = omega arith in rw get_or-set_other (so_far k h))
    (rw get_or-set_same value)

-- Entry n of an expanded key contains the bytes of the key for round n.
pub round_key_at : (keys : List (List ℕ)) (key : List ℕ) → length keys ≡ 11
    → bytes_of (slice_index_or keys 0 []) ≡ key
    → map bytes_of keys ≡ expanded_key (bytes_of (slice_index_or keys 0 [])) → (n : ℕ) → n < 11
    → bytes_of (slice_index_or keys n []) ≡ round_key key n
round_key_at keys key size first all n within =
    sym (get_or-map bytes_of keys n [] [] (omega arith))
    ∙ ap (λ (ks : List (List ℕ)). slice_index_or ks n []) (all ∙ ap expanded_key first)
    ∙ get_or-expanded_key key n within
