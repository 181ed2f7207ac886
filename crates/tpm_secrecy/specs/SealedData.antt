-- What a device reveals about sealed data and HMAC keys: nothing, except through a TPM2_Unseal or a
-- TPM2_HMAC that satisfied the object's policy. TPM 2.0 Library, Part 1, sections 19.7 (enhanced
-- authorization) and 23 (protected storage), and Part 3, sections 12.7 and 15.5.
use Rattle.std.specs.Prelude.{Bool, List, Some, [], false, if◌then◌else◌, slice_get, true, ℕ, ◌∷◌, ◌≡◌, ◌⊎◌}
use Rattle.tpm_mac.specs.Hasher.{Holds}
use Rattle.tpm_mac.specs.declared.algorithm.HashAlg.{HashAlg}
use Rattle.tpm_object.specs.Object.{is_keyed_hash}
use Rattle.tpm_policy_meaning.specs.Expression.{Branch, NoBranch, Nothing, PolicyAuthValue, PolicyExpression, PolicyOr, PolicySecret, Then}
use Rattle.tpm_policy_meaning.specs.Meaning.{IsMet, IsPolicyExpression}
use Rattle.tpm_policy_meaning.specs.PolicyDigest.{policy_digest}
use Rattle.tpm_record.specs.Record.{Record, manufactured}
use Rattle.tpm_step.specs.uses.AssertedBy.{ShowsSecret}
use Rattle.tpm_step.specs.step.Events.{PlainEvent}
use Rattle.tpm_step.specs.step.Execution.{Executes}
use Rattle.tpm_step.specs.history.Executions.{Execution, Leads, history_after, with_execution}
use Rattle.tpm_step.specs.history.Follows.{Follows}
use Rattle.tpm_step.specs.history.History.{AcceptedCommand, Done, History, extended_history}
use Rattle.tpm_step.specs.uses.PolicyReviews.{HavePcrValues, IsUsedBySession, by_pcrs}
use Rattle.tpm_step.specs.uses.PolicyUses.{IsMetBy, ShowsAuthValue}
use Rattle.tpm_step.specs.step.Step.{Stepped, Steps}
use Rattle.tpm_step.specs.history.View.{OfObject}
use Rattle.tpm_types_common.specs.declared.pcr_selection.BankSelection.{BankSelection}
use Rattle.tpm_types_object.specs.ObjectAttributes.{has}
use Rattle.tpm_types_object.specs.declared.public.Public.{Public}
use Rattle.tpm_row_secrecy.specs.Secrecy.{DifferInSecrets, Secrecy, of_data}
use Rattle.tpm_secrecy.specs.Tells.{EventsAlike, TellsNothing}
use Rattle.tpm_types_object.specs.declared.object_attributes.ObjectAttribute.TheVariants as attribute
use Rattle.tpm_commands.specs.declared.command_code.CommandCode.TheVariants as command

-- the choice that only the sealed data or keys of objects with these public areas are secret
abbrev pub sealed_secrecy : (Public → Bool) → Secrecy
sealed_secrecy objects = of_data (λ number. false) objects

-- ---- an accepted command that reads sealed data

-- An accepted command reads the secret data of an object with one of these public areas: TPM2_HMAC
-- if the object signs, otherwise TPM2_Unseal. If the object's userWithAuth is clear and its
-- authPolicy is the digest of a policy, then a policy session that satisfied this policy authorized
-- the command, or the hash is broken.
pub record ReadsSealed (objects : Public → Bool) (history : History) (c : AcceptedCommand) : Type 0
  where
    pub public : Public
    pub viewed : slice_get c.views 0 ≡ Some (OfObject public)
    pub keyed_hash : is_keyed_hash public ≡ true
    pub secret : objects public ≡ true
    pub code : c.command.code
        ≡ (if has public.attributes attribute.Sign then command.Hmac else command.Unseal)
    pub policy : (policy : PolicyExpression)
        → has public.attributes attribute.UserWithAuth ≡ false
        → public.auth_policy ≡ policy_digest public.name_alg policy
        → IsPolicyExpression public.name_alg policy
        → IsUsedBySession history c 0 public.name_alg policy (λ u. IsMet (IsMetBy u) policy)

-- An execution reveals nothing about sealed data: any device that differs only in this data can
-- execute the event with the same response and row, and afterwards differs only in this data. If
-- the event places an object, the other device can also place any object that differs only in this
-- data.
abbrev pub TellsNothingSealed : (Public → Bool) → Bool → Record → PlainEvent → Stepped → Type 0
TellsNothingSealed objects can old event x =
    (other : Record) (also : PlainEvent) → DifferInSecrets (sealed_secrecy objects) old other
    → EventsAlike (sealed_secrecy objects) event also
    → (y : Stepped) × Steps can other also y × TellsNothing (sealed_secrecy objects) x y

-- On a device that follows a history, an execution reveals nothing about sealed data, unless the
-- history records it as an accepted command that reads the data.
abbrev pub FollowedDataNeedPolicy : Type 0
FollowedDataNeedPolicy =
    (objects : Public → Bool) (can : Bool) (old : Record) (history : History)
    → Follows old history → (event : PlainEvent) (x : Stepped) → Executes can old event x
    → TellsNothingSealed objects can old event x
    ⊎ (c : AcceptedCommand) × (extended_history old event x.row.check history ≡ Done c ∷ history)
    × ReadsSealed objects history c

-- After any executions since a device was manufactured, an execution reveals nothing about sealed
-- data, unless the history records it as an accepted command that reads the data.
abbrev pub SealedDataNeedPolicy : Type 0
SealedDataNeedPolicy =
    (objects : Public → Bool) (can : Bool) (random : List ℕ) (executions : List Execution)
    (old : Record)
    → Leads can (manufactured random) executions old
    → (event : PlainEvent) (x : Stepped) → Executes can old event x
    → let history : History = history_after [] executions in
    TellsNothingSealed objects can old event x
    ⊎ (c : AcceptedCommand) × (extended_history old event x.row.check history ≡ Done c ∷ history)
    × ReadsSealed objects history c

-- ---- executions before a command reads the data

-- No command that is accepted in these executions, after this history, has the property `Holds`.
abbrev pub NoneIs : (History → AcceptedCommand → Type 0) → History → List Execution → Type 0
NoneIs Holds history [] = Unit {0}
NoneIs Holds history (one ∷ executions) =
    ((c : AcceptedCommand) → with_execution one history ≡ Done c ∷ history → Holds history c → ⊥)
    × NoneIs Holds (with_execution one history) executions

-- `other` can execute the same events with the same responses and rows, and then differs from `new`
-- only in sealed data. Objects that the events place on the other device may differ in this data.
abbrev pub LeadsAlike : (Public → Bool) → Bool → Record → List Execution → Record → Type 0
LeadsAlike objects can other [] new = DifferInSecrets (sealed_secrecy objects) new other
LeadsAlike objects can other (one ∷ executions) new =
    (also : PlainEvent) → EventsAlike (sealed_secrecy objects) one.event also
    → (y : Stepped) × Steps can other also y × (y.response ≡ one.seen.response)
    × (y.row ≡ one.seen.row) × LeadsAlike objects can y.after executions new

-- Executions on this device reveal nothing about sealed data: every device that differs only in
-- this data can have the same responses and rows for all of the events.
abbrev pub StaySealed : (Public → Bool) → Bool → Record → List Execution → Record → Type 0
StaySealed objects can old executions new =
    (other : Record) → DifferInSecrets (sealed_secrecy objects) old other
    → LeadsAlike objects can other executions new

-- On a device that follows a history, executions reveal nothing about sealed data until a command
-- that reads it is accepted.
abbrev pub FollowedDataStayUntilRead : Type 0
FollowedDataStayUntilRead =
    (objects : Public → Bool) (can : Bool) (old : Record) (history : History)
    → Follows old history → (executions : List Execution) (new : Record)
    → Leads can old executions new → NoneIs (ReadsSealed objects) history executions
    → StaySealed objects can old executions new

-- On a device with any history since it was manufactured, executions reveal nothing about sealed
-- data until a command that reads it is accepted.
abbrev pub SealedDataStayUntilRead : Type 0
SealedDataStayUntilRead =
    (objects : Public → Bool) (can : Bool) (random : List ℕ) (before : List Execution)
    (old : Record)
    → Leads can (manufactured random) before old
    → (executions : List Execution) (new : Record) → Leads can old executions new
    → NoneIs (ReadsSealed objects) (history_after [] before) executions
    → StaySealed objects can old executions new

-- ---- a disk's key

-- the policy of a disk's key. Either the PCRs must have these values, and the PIN, which is the
-- key's authorization value, must be presented; or an entity, the recovery secret, must be
-- authorized
abbrev pub disk_policy : HashAlg → List BankSelection → (values name reference : List ℕ)
    → PolicyExpression
disk_policy hash selection values name reference =
    PolicyOr (Branch (Then (by_pcrs hash selection values) PolicyAuthValue)
    (Branch (Then Nothing (PolicySecret name reference)) NoBranch))

-- The command is an accepted TPM2_Unseal of the disk's key. Unless the hash is broken, its session
-- proves one of two things. Either the PCRs had these values, and the PIN, which is the key's
-- authorization value, was presented; or the recovery secret was presented.
pub record OpensDiskKey (public : Public) (selection : List BankSelection)
    (values name reference : List ℕ) (history : History) (accepted : AcceptedCommand) : Type 0
  where
    pub code : accepted.command.code ≡ command.Unseal
    pub viewed : slice_get accepted.views 0 ≡ Some (OfObject public)
    pub by : IsUsedBySession history accepted 0 public.name_alg
        (disk_policy public.name_alg selection values name reference)
        (λ u. HavePcrValues history public.name_alg selection values × ShowsAuthValue u
        ⊎ ShowsSecret history u.entry.session name reference)

-- The object seals data and has no userWithAuth, and its authPolicy is the policy of a disk's key.
-- `objects` contains no public area other than the object's.
pub record IsDiskKey (public : Public) (objects : Public → Bool) (selection : List BankSelection)
    (values name reference : List ℕ) : Type 0
  where
    pub no_sign : has public.attributes attribute.Sign ≡ false
    pub no_user_with_auth : has public.attributes attribute.UserWithAuth ≡ false
    pub auth_policy : public.auth_policy
        ≡ policy_digest public.name_alg
        (disk_policy public.name_alg selection values name reference)
    pub one : (other : Public) → objects other ≡ true → other ≡ public

-- On a device that follows a history, nothing reveals the disk's key until a TPM2_Unseal of the key
-- is accepted. For this command, one of these holds: the PCRs have their values and the PIN is
-- presented; the recovery secret is presented; or the hash is broken.
abbrev pub FollowedDiskKeyStaysSecret : Type 0
FollowedDiskKeyStaysSecret =
    (public : Public) (objects : Public → Bool) (selection : List BankSelection)
    (values name reference : List ℕ)
    → IsDiskKey public objects selection values name reference
    → (can : Bool) (old : Record) (history : History) → Follows old history
    → (executions : List Execution) (new : Record) → Leads can old executions new
    → NoneIs (OpensDiskKey public selection values name reference) history executions
    → StaySealed objects can old executions new

-- After any executions since a device was manufactured, nothing reveals the disk's key until a
-- TPM2_Unseal of the key is accepted. For this command, one of these holds: the PCRs have their
-- values and the PIN is presented; the recovery secret is presented; or the hash is broken.
abbrev pub DiskKeyStaysSecret : Type 0
DiskKeyStaysSecret =
    (public : Public) (objects : Public → Bool) (selection : List BankSelection)
    (values name reference : List ℕ)
    → IsDiskKey public objects selection values name reference
    → (can : Bool) (random : List ℕ) (before : List Execution) (old : Record)
    → Leads can (manufactured random) before old
    → (executions : List Execution) (new : Record) → Leads can old executions new
    → NoneIs (OpensDiskKey public selection values name reference) (history_after [] before)
    executions
    → StaySealed objects can old executions new
