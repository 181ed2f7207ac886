-- A loop over the digests of a list writes the encoding of the list.
use Rattle.std.proofs.Common.{◌≡◌, ℕ, ◌+◌, ◌*◌, ◌<◌, ◌≤◌, List, [], ◌++◌, length, take, get_or, refl, ap, sym, ◌∙◌, append_assoc, arith, length-append}
use Rattle.std.proofs.lemmas.Grind.{common_steps}
use Rattle.std.proofs.lemmas.List.{take_more, map-append, length-map}
use Rattle.std.specs.Int.{w32, to_be_bytes}
use Rattle.arrayvec.specs.ArrayVec.{ArrayVec}
use Rattle.tpm_bytes.specs.Writing.{sized_text}
use Rattle.tpm_types_common.specs.DigestList.{digest_list_text, digests_of, digests_text}

pub digests_text-nil : digests_text [] ≡ []
unfolding digests_text
digests_text-nil = refl

pub digests_text_more : (digests : List (ArrayVec ℕ)) (i : ℕ) (d : ArrayVec ℕ) → i < length digests
    → digests_text (digests_of (take (i + 1) digests)) ≡ digests_text (digests_of (take i digests))
    ++ sized_text (get_or digests i d).items
unfolding digests_text
digests_text_more digests i d below =
    rw (take_more digests i d below, map-append) (grind (arith, common_steps))

-- Writing one more digest appends at most 34 bytes to the encoding of the previous digests.
pub digest_written : (digests : List (ArrayVec ℕ)) (i : ℕ) (digest : ArrayVec ℕ)
    (bytes start so_far new : List ℕ) → i < length digests → digest ≡ get_or digests i digest
    → bytes ≡ digest.items → length bytes ≤ 32
    → so_far ≡ start ++ digests_text (digests_of (take i digests))
    → length so_far ≤ length start + 34 * i → new ≡ so_far ++ sized_text bytes
    → (new ≡ start ++ digests_text (digests_of (take (i + 1) digests)))
    × (length new ≤ length start + 34 * (i + 1))
digest_written digests i digest bytes start so_far new below is same short so small sized = (
  sized
      ∙ ap (λ (l : List ℕ). l ++ sized_text bytes) so
      ∙ append_assoc start (digests_text (digests_of (take i digests))) (sized_text bytes)
      ∙ ap (λ (l : List ℕ). start ++ (digests_text (digests_of (take i digests)) ++ sized_text l))
      same
      ∙ ap (λ (d : ArrayVec ℕ). start
      ++ (digests_text (digests_of (take i digests)) ++ sized_text d.items)) is
      ∙ ap (λ (l : List ℕ). start ++ l) (sym (digests_text_more digests i digest below)),
  rw sized (omega (arith, length-append so_far (sized_text bytes))),
)

-- the encoding of a list is the number of digests, followed by the encoded digests
pub digest_list_written : (digests : List (ArrayVec ℕ)) (start : List ℕ)
    → start ++ to_be_bytes w32 (length digests) ++ digests_text (digests_of digests)
    ≡ start ++ digest_list_text (digests_of digests)
unfolding digest_list_text
digest_list_written digests start =
    append_assoc start (to_be_bytes w32 (length digests)) (digests_text (digests_of digests))
    ∙ ap (λ n. start ++ (to_be_bytes w32 n ++ digests_text (digests_of digests)))
    (sym (length-map digests (λ (d : ArrayVec ℕ). d.items)))
