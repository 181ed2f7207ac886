-- Contracts describe an HMAC in progress by its algorithm, its key, and the message fed to it so
-- far (FIPS 198-1, 4).
use Rattle.std.specs.Prelude.{ℕ, List, [], ◌++◌}
use Rattle.tpm_mac.specs.Hasher.{Holds}
use Rattle.tpm_mac.specs.Hmac.{masked_key, padded_key}
use Rattle.tpm_mac.specs.declared.algorithm.HashAlg.{HashAlg}
use Rattle.tpm_mac.specs.declared.mac.Mac.{Mac}

-- The Mac uses this algorithm and key and was fed the message `text`. The input of its inner hash
-- is (K0 xor ipad) ++ text (steps 4 and 5). The input of its outer hash is K0 xor opad (step 7).
unfoldable pub MacHolds : Mac → HashAlg → (key text : List ℕ) → Type 0
MacHolds mac algorithm key text =
    Holds mac.inner algorithm (masked_key 0x36 (padded_key algorithm key) ++ text)
    × Holds mac.outer algorithm (masked_key 0x5c (padded_key algorithm key))

-- The Mac uses this algorithm, and its two hashes have not been fed anything.
unfoldable pub IsUnkeyed : Mac → HashAlg → Type 0
IsUnkeyed mac algorithm = Holds mac.inner algorithm [] × Holds mac.outer algorithm []

-- `new` is the Mac `old` after these bytes were fed to it.
abbrev pub MacTakes : (old : Mac) → List ℕ → (new : Mac) → Type 0
MacTakes old text new = (algorithm : HashAlg) (key taken : List ℕ)
    → MacHolds old algorithm key taken → MacHolds new algorithm key (taken ++ text)
