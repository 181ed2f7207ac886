-- The checksum of two joined parts is the checksum of the first part, extended by the second part.
use Rattle.std.proofs.Common.{◌≡◌, ℕ, ◌+◌, List, [], ◌∷◌, ◌++◌, length, refl, sym, length-append}
use Rattle.tpm_journal_text.specs.Sum.{sum_from, sum_of, with_byte, offset_basis}

pub sum_parts : (sum : ℕ) (front back : List ℕ)
    → sum_from sum (front ++ back) ≡ sum_from (sum_from sum front) back
sum_parts sum [] back = refl
sum_parts sum (byte ∷ front) back = sum_parts (with_byte sum byte) front back

pub sum_behind : (front back : List ℕ) → sum_from (sum_of front) back ≡ sum_of (front ++ back)
sum_behind front back = sym (sum_parts offset_basis front back)

pub joined_many : (front back : List ℕ) → length (front ++ back) ≡ length front + length back
joined_many front back = length-append front back
