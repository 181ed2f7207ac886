-- The commands of the symmetric profile, in ascending order of number.
use Rattle.std.specs.Prelude.{List, [], ◌∷◌}
use Rattle.tpm_commands.specs.declared.command_code.CommandCode.{CommandCode}
use Rattle.tpm_commands.specs.declared.command_code.CommandCode.TheVariants as code

abbrev pub symmetric_codes : List CommandCode
symmetric_codes =
    code.EvictControl
    ∷ code.NvUndefineSpace
    ∷ code.Clear
    ∷ code.ClearControl
    ∷ code.HierarchyChangeAuth
    ∷ code.NvDefineSpace
    ∷ code.CreatePrimary
    ∷ code.NvIncrement
    ∷ code.NvSetBits
    ∷ code.NvExtend
    ∷ code.NvWrite
    ∷ code.NvWriteLock
    ∷ code.DictionaryAttackLockReset
    ∷ code.DictionaryAttackParameters
    ∷ code.NvChangeAuth
    ∷ code.PcrEvent
    ∷ code.PcrReset
    ∷ code.SelfTest
    ∷ code.Startup
    ∷ code.Shutdown
    ∷ code.PolicyNv
    ∷ code.NvRead
    ∷ code.NvReadLock
    ∷ code.PolicySecret
    ∷ code.Create
    ∷ code.Hmac
    ∷ code.Load
    ∷ code.Unseal
    ∷ code.FlushContext
    ∷ code.NvReadPublic
    ∷ code.PolicyAuthValue
    ∷ code.PolicyCommandCode
    ∷ code.PolicyCpHash
    ∷ code.PolicyLocality
    ∷ code.PolicyOr
    ∷ code.ReadPublic
    ∷ code.StartAuthSession
    ∷ code.GetCapability
    ∷ code.GetRandom
    ∷ code.PcrRead
    ∷ code.PolicyPcr
    ∷ code.PolicyRestart
    ∷ code.ReadClock
    ∷ code.PcrExtend
    ∷ code.PolicyGetDigest
    ∷ code.PolicyPassword
    ∷ code.PolicyNvWritten
    ∷ []
