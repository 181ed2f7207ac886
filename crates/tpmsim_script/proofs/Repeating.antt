-- The loop repeats the given bytes until 256 bytes are written.
use Rattle.std.proofs.Common.{◌≡◌, ℕ, ◌%◌, ◌<◌, List, length, slice_index, sym, ◌∙◌, arith}
use Rattle.std.proofs.lemmas.Grind.{same_number_lists}
use Rattle.std.proofs.lemmas.List.FromFn.{get_or-map-range_with_len, length-map-range_with_len}
use Rattle.tpmsim_script.specs.Script.{repeated}

pub repeated_is : (random entropy : List ℕ) → length random ≡ 256
    → ((k : ℕ) → k < 256 → slice_index random k ≡ slice_index entropy (k % length entropy))
    → random ≡ repeated entropy
unfolding repeated
repeated_is random entropy size each =
    let byte : ℕ → ℕ = λ place. slice_index entropy (place % length entropy) in
    same_number_lists random (repeated entropy) (size ∙ sym (length-map-range_with_len byte 0 256))
    (λ k l. each k (omega (arith, size))
    ∙ sym (get_or-map-range_with_len byte 0 256 k k 0 (omega (arith, size)) (omega arith)))
