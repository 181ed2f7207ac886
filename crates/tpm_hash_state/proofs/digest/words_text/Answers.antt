use Rattle.std.proofs.Common.{◌≡◌, ℕ, ◌+◌, ◌*◌, ◌≤◌, List, ◌++◌, Ok, Err, Result, add-one, ap, arith, length, length-append, refl, rules, slice_index}
use Rattle.std.specs.Int.{to_be_bytes, w32}
use Rattle.std.specs.Result.{IsOk, OnOk}
use Rattle.sha2.specs.Sha256.{digest_bytes}
use Rattle.tpm_hash_state.proofs.digest.words_text.Goals as goal

-- if a call succeeded, its condition on success holds
on_ok : {T E Q : Type 0} (r : Result T E) → IsOk r → OnOk r Q → Q
on_ok (Ok v) is fact = fact
on_ok (Err e) is fact = cc

-- If the items are the bytes of the first i words, appending the bytes of word i makes them the
-- bytes of the first i + 1 words.
bytes_more : (words items bytes new : List ℕ) (i : ℕ) → items ≡ digest_bytes words i
    → length items ≡ 4 * i
    → bytes ≡ to_be_bytes w32 (slice_index words i) → new ≡ items ++ bytes
    → (new ≡ digest_bytes words (i + 1)) × (length new ≡ 4 * (i + 1))
unfolding digest_bytes
bytes_more words items bytes new i so_far size is after =
    let four : length (to_be_bytes w32 (slice_index words i)) ≡ 4 = refl in (
      rw (after, so_far, is, add-one i) refl,
      rw (after, is) (omega (arith, length-append items (to_be_bytes w32 (slice_index words i)))),
    )

pub loop-word-init : goal.loop-word-init
unfolding digest_bytes
loop-word-init c = search rules

pub loop-word-preserved : goal.loop-word-preserved
loop-word-preserved c =
    let i = c.loop-word.word-index in
    let items = c.loop-word.digest.items in
    let word = slice_index c.args.words.now i in
    let size = c.loop-word.invariant.1 in
    let four : length c.to_be_bytes.result ≡ 4 = ap length c.to_be_bytes.ensures in
    let room : length items + length c.to_be_bytes.result ≤ 32 =
    omega (arith, size, four, c.requires) in
    bytes_more c.args.words.now items c.to_be_bytes.result _ i c.loop-word.invariant.0 size
    c.to_be_bytes.ensures
    (on_ok _ (c.try_extend_from_slice.ensures.variant.1 room) c.try_extend_from_slice.ensures.ok)
