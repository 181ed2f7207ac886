-- Contracts describe a hash in progress by its algorithm and the message fed to it so far.
use Rattle.std.specs.Prelude.{ℕ, List, ◌++◌}
use Rattle.sha1.specs.Sha1 as S1
use Rattle.sha2.specs.Hashers.{Holds256}
use Rattle.tpm_mac.specs.declared.algorithm.HashAlg.{HashAlg}
use Rattle.tpm_mac.specs.declared.algorithm.HashAlg.TheVariants as alg
use Rattle.tpm_mac.specs.declared.hasher.Hasher.{Hasher}
use Rattle.tpm_mac.specs.declared.hasher.State.{State}
use Rattle.tpm_mac.specs.declared.hasher.State.TheVariants.{Sha1, Sha256}

-- The state belongs to a hash with this algorithm, and this message was fed to it.
abbrev pub StateHolds : State → HashAlg → List ℕ → Type 0
StateHolds (Sha1 hasher) alg.Sha1 message = S1.Holds hasher message
StateHolds (Sha1 hasher) alg.Sha256 message = ⊥
StateHolds (Sha256 hasher) alg.Sha1 message = ⊥
StateHolds (Sha256 hasher) alg.Sha256 message = Holds256 hasher message

-- The hasher uses this algorithm and was fed this message.
unfoldable pub Holds : Hasher → HashAlg → List ℕ → Type 0
Holds hasher algorithm message = StateHolds hasher.state algorithm message

-- `new` is the hasher `old` after these bytes were fed to it.
abbrev pub Takes : (old : Hasher) → List ℕ → (new : Hasher) → Type 0
Takes old text new = (algorithm : HashAlg) (message : List ℕ)
    → Holds old algorithm message → Holds new algorithm (message ++ text)
