-- A search finds the position of the first byte that passes a test.
use Rattle.std.proofs.Common.{◌≡◌, ℕ, Bool, List, length, slice_index, Option, Some, None, arith}
use Rattle.std.proofs.lemmas.Bool.{false_from_ne_true}
use Rattle.std.proofs.lemmas.Grind.{common_steps}
use Rattle.std.proofs.lemmas.List.Sums.{position_or_len_is}
use Rattle.std.specs.List.{position, position_or_len}
use Rattle.memchr.specs.Find.{IsFirstByte}

pub first_place : (test : ℕ → Bool) (bytes : List ℕ) (result : Option ℕ)
    → IsFirstByte test bytes result
    → result ≡ position test bytes
first_place test bytes None nowhere =
    let whole : position_or_len test bytes ≡ length bytes =
    position_or_len_is test bytes (length bytes) 0 (omega arith)
    (λ k below. false_from_ne_true (test (slice_index bytes k)) (nowhere k (omega arith) below))
    (λ below. absurd (omega (arith, below))) in
    grind (arith, common_steps)
first_place test bytes (Some place) first =
    let here : position_or_len test bytes ≡ place =
    position_or_len_is test bytes place 0 (omega (arith, first.0.high))
    (λ k below. false_from_ne_true (test (slice_index bytes k))
    (first.0.before k (omega arith) below))
    (λ below. first.1) in
    let inside = first.0.high in
    grind (arith, common_steps)
