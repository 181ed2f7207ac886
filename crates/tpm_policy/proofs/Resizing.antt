-- Bytes that are given another size have this size, and bytes of this size stay the same.
use Rattle.std.proofs.Common.{◌≡◌, ◌≤◌, ◌∙◌, ℕ, List, ◌++◌, ap, sym, length, replicate, take, arith, length-append}
use Rattle.std.proofs.lemmas.List.{length-replicate, length-take-le}
use Rattle.std.proofs.Math.Seq.{take-append_seam}
use Rattle.tpm_policy.specs.Size.{resized}

pub length_resized : (size : ℕ) (bytes : List ℕ) → size ≤ 32 → length (resized size bytes) ≡ size
length_resized size bytes small =
    length-take-le size (bytes ++ replicate 32 0)
    (omega (arith, length-append bytes (replicate 32 0), length-replicate {A = ℕ} 32 0))

pub same_size : (size : ℕ) (bytes : List ℕ) → length bytes ≡ size → resized size bytes ≡ bytes
same_size size bytes is =
    ap (λ n. take n (bytes ++ replicate 32 0)) (sym is) ∙ take-append_seam bytes (replicate 32 0)
