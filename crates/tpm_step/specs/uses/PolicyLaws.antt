-- What a policy with a single assertion requires when its entity is used. TPM 2.0 Library, Part 3,
-- sections 23.7 (TPM2_PolicyPCR), 23.11 (TPM2_PolicyCommandCode) and 23.20 (TPM2_PolicyNvWritten).
use Rattle.std.specs.Prelude.{◌≡◌, ◌<◌, ℕ, Bool, false, List, [], ◌∷◌, Option, Some, None}
use Rattle.tpm_mac.specs.declared.algorithm.HashAlg.{HashAlg}
use Rattle.tpm_policy.specs.Assertion.{Assertion, CommandCode, NvWritten, Pcr, PcrParts}
use Rattle.tpm_policy.specs.Use.{EntityParts}
use Rattle.tpm_types_common.specs.PcrSelection.{selection_text}
use Rattle.tpm_types_common.specs.declared.handle.Handle.{Handle}
use Rattle.tpm_types_common.specs.declared.pcr_selection.BankSelection.{BankSelection}
use Rattle.tpm_types_common.specs.declared.session_type.SessionType.TheVariants as type
use Rattle.tpm_types_command.specs.AuthEntry.{Entry}
use Rattle.tpm_commands.specs.CommandCode.{code_number}
use Rattle.tpm_commands.specs.declared.profile.Profile.{Profile}
use Rattle.tpm_policy_meaning.specs.Asserted.{evaluated_policy}
use Rattle.tpm_step.specs.uses.Grounds.{MeetsPolicy, policy_at, written_at}
use Rattle.tpm_step.specs.history.History.{AcceptedCommand, History}
use Rattle.tpm_step.specs.history.Pcrs.{digest_in, pcr_of}
use Rattle.tpm_step.specs.uses.QuietPcrs.{AreQuietSince}
use Rattle.tpm_step.specs.history.Sessions.{LiveSession}

-- The entity's authPolicy is the digest of these assertions, the latest first.
abbrev pub HasPolicyOf : HashAlg → List Assertion → Option EntityParts → Type 0
HasPolicyOf hash assertions (Some entity) =
    entity.digest ≡ (evaluated_policy hash false assertions).digest
HasPolicyOf hash assertions None = ⊥

-- the assertion that the selected PCRs have the values that they have after this history. The
-- pcrDigest argument and the update counter are empty, because a policy's digest contains neither
abbrev pub pcrs_as_in : History → HashAlg → List BankSelection → PcrParts
pcrs_as_in history hash selection = record {
  given = [];
  selection = selection_text selection;
  digest = digest_in history hash selection;
  update_count = 0;
}

-- If a session whose only assertion is TPM2_PolicyPCR authorizes the use of an entity, the entity's
-- policy requires the current values of the selected PCRs.
abbrev pub UsesPcrsAsTheyAre : Type 0
UsesPcrsAsTheyAre =
    (history : History) (c : AcceptedCommand) (place : ℕ) (e : Entry) (s : LiveSession)
    (parts : PcrParts) → MeetsPolicy history c place e s → s.kind ≡ type.Policy
    → s.assertions ≡ Pcr parts ∷ []
    → (selection : List BankSelection) × (parts.selection ≡ selection_text selection)
    × HasPolicyOf s.hash (Pcr (pcrs_as_in history s.hash selection) ∷ []) (policy_at c place)

-- If a session whose only assertion is TPM2_PolicyCommandCode authorizes a command's use of an
-- entity, the entity's policy requires the code of this command.
abbrev pub UsesItsCommand : Type 0
UsesItsCommand =
    (history : History) (c : AcceptedCommand) (place : ℕ) (e : Entry) (s : LiveSession)
    (profile : Profile) (number : ℕ) → MeetsPolicy history c place e s → s.kind ≡ type.Policy
    → s.assertions ≡ CommandCode profile number ∷ []
    → HasPolicyOf s.hash (CommandCode profile (code_number c.command.code) ∷ []) (policy_at c place)

-- Suppose that a session whose only assertion is TPM2_PolicyNvWritten authorizes the use of an
-- entity. Then the entity is an NV index, and its WRITTEN attribute is as its policy requires.
-- Therefore, if the policy requires that WRITTEN is clear, it is clear.
abbrev pub UsesAsWritten : Type 0
UsesAsWritten =
    (history : History) (c : AcceptedCommand) (place : ℕ) (e : Entry) (s : LiveSession)
    (is_written : Bool) → MeetsPolicy history c place e s → s.kind ≡ type.Policy
    → s.assertions ≡ NvWritten is_written ∷ []
    → (written_at c place ≡ Some is_written)
    × HasPolicyOf s.hash (NvWritten is_written ∷ []) (policy_at c place)

-- If no PCR is updated after a session's first TPM2_PolicyPCR, each PCR still has the value that it
-- had then.
abbrev pub KeepsQuietValues : Type 0
KeepsQuietValues =
    (history : History) (handle : Handle) (quiet : AreQuietSince handle history) (bank : HashAlg)
    (pcr : ℕ) → pcr < 24 → pcr_of quiet.before bank pcr ≡ pcr_of history bank pcr
