-- The conditions under which a policy session accepts an assertion, given the policy before it. TPM
-- 2.0 Library, Part 3, section 23: the section of each assertion says when it is refused.
use Rattle.std.specs.Prelude.{◌≡◌, ◌<◌, ◌^◌, ℕ, true, false, IfSome, List, [], ◌∷◌, Some, Ok}
use Rattle.tpm_mac.specs.declared.algorithm.HashAlg.{HashAlg}
use Rattle.tpm_policy.specs.Assertion as assertion
use Rattle.tpm_policy.specs.Assertion.{Assertion}
use Rattle.tpm_policy.specs.State.{Policy}
use Rattle.tpm_policy_meaning.specs.Asserted.{HasWidths, IsAmong, evaluated_policy}
use Rattle.tpm_types_common.specs.Buffer.{is_given}
use Rattle.tpm_types_common.specs.declared.handle.Handle.{Handle}
use Rattle.tpm_types_common.specs.declared.session_type.SessionType.TheVariants as type
use Rattle.tpm_step.specs.history.History.{AcceptedCommand, Done, History, ObjectPlaced, PowerCycled}
use Rattle.tpm_step.specs.history.Sessions.{LiveSession, sessions_of}

-- The assertion meets its condition, given the policy before it. The digests of TPM2_PolicyOR
-- contain the policy's digest. A command code, a cpHash or a written state was not recorded before,
-- or was recorded with the same value; this includes the cpHash of a TPM2_PolicySecret. A command
-- code has 32 bits. The bytes that TPM2_PolicyNV compares could be read.
abbrev pub Finds : Assertion → Policy → Type 0
Finds (assertion.Or digests) p = IsAmong p.digest digests
Finds (assertion.CommandCode profile number) p =
    IfSome p.command (λ recorded. recorded ≡ number) × (number < 2 ^ 32)
Finds (assertion.CpHash cp_hash) p = IfSome p.cp_hash (λ recorded. recorded ≡ cp_hash)
Finds (assertion.NvWritten is_written) p =
    IfSome p.nv_written (λ recorded. Some is_written ≡ Some recorded)
Finds (assertion.Secret parts) p =
    is_given parts.cp_hash ≡ true → IfSome p.cp_hash (λ recorded. recorded ≡ parts.cp_hash)
Finds (assertion.Nv parts) p = (bytes : List ℕ) × (parts.compared ≡ Ok bytes)
Finds _ p = Unit {0}

-- Each assertion in the list, the latest first, met its condition, given the assertions before it.
-- The numbers in each assertion fit their types.
abbrev pub AllFind : HashAlg → List Assertion → Type 0
AllFind hash [] = Unit {0}
AllFind hash (latest ∷ earlier) =
    (Finds latest (evaluated_policy hash false earlier) × HasWidths hash latest)
    × AllFind hash earlier

-- Each assertion of a policy session that exists after a history met its condition when the
-- assertion was accepted.
abbrev pub SessionsFind : History → Type 0
SessionsFind history =
    (handle : Handle) (s : LiveSession) → sessions_of history handle ≡ Some s
    → s.kind ≡ type.Policy → AllFind s.hash s.assertions

-- For each accepted command of a history, the recorded request has the same handles as the command.
abbrev pub AllAskForTheirHandles : History → Type 0
AllAskForTheirHandles [] = Unit {0}
AllAskForTheirHandles (Done c ∷ history) =
    (c.request.handles ≡ c.command.handles) × AllAskForTheirHandles history
AllAskForTheirHandles (PowerCycled ∷ history) = AllAskForTheirHandles history
AllAskForTheirHandles (ObjectPlaced at object ∷ history) = AllAskForTheirHandles history
