-- `are_bytes` is true exactly for lists of numbers below 256.
use Rattle.std.proofs.Common.{◌≡◌, ◌<◌, ℕ, zero, suc, true, List, [], ◌∷◌, refl, arith}
use Rattle.std.specs.Prelude.{Decides, nat_lt}
use Rattle.std.proofs.lemmas.Bool.Decides.{Decides-and, Decides-ltb}
use Rattle.tpm_bytes.specs.Reading.{AreBytes}
use Rattle.tpm_image_text.specs.Fields.{are_bytes}

bytes_cons : (byte : ℕ) (bytes : List ℕ) → byte < 256 → AreBytes bytes → AreBytes (byte ∷ bytes)
bytes_cons byte bytes small are zero = small
bytes_cons byte bytes small are (suc i) = are i

pub bytes_nil : AreBytes []
bytes_nil i = omega arith

pub are_bytes-Decides : (bytes : List ℕ) → Decides (are_bytes bytes) (AreBytes bytes)
are_bytes-Decides [] = (λ all. bytes_nil, λ all. refl)
are_bytes-Decides (byte ∷ bytes) =
    let both = Decides-and (nat_lt byte 256) (are_bytes bytes) (Decides-ltb byte 256)
    (are_bytes-Decides bytes) in (
      λ all. (
          let parts = both.0 all in
          bytes_cons byte bytes parts.0 parts.1
          ),
      λ are. both.1 (are 0, λ i. are (suc i)),
    )

pub bytes_hold : (bytes : List ℕ) → AreBytes bytes → are_bytes bytes ≡ true
bytes_hold bytes are = (are_bytes-Decides bytes).1 are
