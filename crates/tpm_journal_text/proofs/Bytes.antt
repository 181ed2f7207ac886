-- Lemmas about lists of bytes.
use Rattle.std.proofs.Common.{ℕ, zero, suc, ◌<◌, List, [], ◌∷◌, arith}
use Rattle.std.specs.List.{AllByRecursion}
use Rattle.tpm_bytes.specs.Reading.{AreBytes}

bytes_cons : (byte : ℕ) (bytes : List ℕ) → byte < 256 → AreBytes bytes → AreBytes (byte ∷ bytes)
bytes_cons byte bytes small are zero = small
bytes_cons byte bytes small are (suc i) = are i

pub bytes_nil : AreBytes []
bytes_nil i = omega arith

pub all_small : (bytes : List ℕ) → AllByRecursion (λ byte. byte < 256) bytes → AreBytes bytes
all_small [] small = bytes_nil
all_small (byte ∷ bytes) small = bytes_cons byte bytes small.0 (all_small bytes small.1)
