-- A number of pieces and its remainder modulo 2^32 have the same four-byte encoding.
use Rattle.std.proofs.Common.{◌≡◌, ℕ, ◌+◌, ◌/◌, ◌%◌, ◌==◌, List, length, refl, sym, ap, ◌∙◌, arith}
use Rattle.std.specs.Int.{w32, to_be_bytes}
use Rattle.std.specs.List.{count_by}
use Rattle.std.proofs.lemmas.List.Splits.{length-slice_split}
use Rattle.tpm_text.specs.Pieces.{pieces_of}

-- The four-byte encoding of a number depends only on its low 32 bits.
low_octets : (n : ℕ) → to_be_bytes w32 (n % 4294967296) ≡ to_be_bytes w32 n
low_octets n =
    let e3 : (n % 4294967296) / 16777216 % 256 ≡ n / 16777216 % 256 = omega arith in
    let e2 : (n % 4294967296) / 65536 % 256 ≡ n / 65536 % 256 = omega arith in
    let e1 : (n % 4294967296) / 256 % 256 ≡ n / 256 % 256 = omega arith in
    let e0 : (n % 4294967296) % 256 ≡ n % 256 = omega arith in
    rw (e3, e2, e1, e0) refl

pub pieces_counted : (separator : ℕ) (text : List ℕ) (count : ℕ)
    → count ≡ count_by (λ byte. byte == separator) text
    → to_be_bytes w32 ((count % 4294967296 + 1) % 4294967296)
    ≡ to_be_bytes w32 (length (pieces_of separator text))
pieces_counted separator text count e =
    let same : (count % 4294967296 + 1) % 4294967296 ≡ (count + 1) % 4294967296 = omega arith in
    ap (to_be_bytes w32) same ∙ low_octets (count + 1) ∙ ap (λ n. to_be_bytes w32 (n + 1)) e
    ∙ ap (to_be_bytes w32) (sym (length-slice_split (λ byte. byte == separator) text))
