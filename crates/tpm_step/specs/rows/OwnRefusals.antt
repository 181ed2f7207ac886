-- The refusals by each command's own checks, and what it means that a command refuses only with
-- these. TPM 2.0 Library, Part 3: the response codes of each command. The order of the checks, and
-- some response codes, are choices of this implementation.
use Rattle.tpm_types_common.specs.declared.action_check.ActionCheck.{ActionCheck}
use Rattle.tpm_types_common.specs.declared.action_check.ActionCheck.TheVariants as action
use Rattle.std.specs.Prelude.{◌≡◌, ◌⊎◌, ◌<◌, ℕ, List, [], ◌∷◌, Result, IfErr}
use Rattle.tpm_types_common.specs.Check.{check_number}
use Rattle.tpm_types_common.specs.Rc.{at, plain}
use Rattle.tpm_types_common.specs.declared.check.Check.{Check}
use Rattle.tpm_types_common.specs.declared.check.Check.TheVariants as check
use Rattle.tpm_types_common.specs.declared.rc.Place.TheVariants as place
use Rattle.tpm_types_common.specs.declared.rc.ResponseCode.{ResponseCode}
use Rattle.tpm_types_common.specs.declared.rc.ResponseCode.TheVariants as code
use Rattle.tpm_types_common.specs.declared.refused.Refused.{Refused}
use Rattle.tpm_commands.specs.CommandCode.{code_number}
use Rattle.tpm_commands.specs.declared.command_code.CommandCode.{CommandCode}
use Rattle.tpm_commands.specs.declared.command_code.CommandCode.TheVariants as command
use Rattle.tpm_record.specs.rows.Refusals.{action_refusal, parameter_refusal}
use Rattle.tpm_step.specs.step.Answer.{refusal_text}
use Rattle.tpm_step.specs.step.Step.{Stepped}

-- the refusal by one of a command's own checks, without the number of a handle or parameter
abbrev pub own_refusal : ActionCheck → ResponseCode → Refused
own_refusal action fault = action_refusal action (plain fault)

-- the refusal by one of a command's own checks, because of the handle with this number
abbrev pub entity_refusal : ActionCheck → (handle : ℕ) → ResponseCode → Refused
entity_refusal action handle fault = action_refusal action (at (place.Handle handle) (plain fault))

-- ---- lists that several commands have

-- the refusal of a value of the first parameter, by the only own check of a command
abbrev pub value_refusals : List Refused
value_refusals = parameter_refusal action.First 1 code.Value ∷ []

-- the refusals of a change of a PCR
abbrev pub pcr_refusals : List Refused
pcr_refusals =
    own_refusal action.First code.Locality
    ∷ own_refusal action.Second code.Failure
    ∷ []

-- the refusals of a change of a bit field or an extend index
abbrev pub write_refusals : List Refused
write_refusals =
    own_refusal action.First code.NvAuthorization
    ∷ own_refusal action.Second code.NvLocked
    ∷ entity_refusal action.Third 2 code.Attributes
    ∷ []

-- the refusals of a write of an ordinary index, or of an increment of a counter
abbrev pub range_refusals : List Refused
range_refusals =
    own_refusal action.First code.NvAuthorization
    ∷ own_refusal action.Second code.NvLocked
    ∷ entity_refusal action.Third 2 code.Attributes
    ∷ own_refusal action.Fourth code.NvRange
    ∷ []

-- the refusals of a lock of an index
abbrev pub lock_refusals : List Refused
lock_refusals =
    own_refusal action.First code.NvAuthorization
    ∷ entity_refusal action.Second 2 code.Attributes
    ∷ []

-- ---- the list of each command

-- the refusals by a command's own checks, in the order of the checks. A command without a line has
-- no own checks
unfoldable pub own_refusals : CommandCode → List Refused
own_refusals command.Startup = value_refusals
own_refusals command.IncrementalSelfTest = value_refusals
own_refusals command.GetCapability =
    parameter_refusal action.First 1 code.Value
    ∷ parameter_refusal action.Second 2 code.Handle
    ∷ []
own_refusals command.ClockSet = value_refusals
own_refusals command.ClockRateAdjust = value_refusals
own_refusals command.PcrExtend = pcr_refusals
own_refusals command.PcrEvent = pcr_refusals
own_refusals command.PcrReset = pcr_refusals
own_refusals command.StartAuthSession =
    parameter_refusal action.First 1 code.Size
    ∷ parameter_refusal action.Second 2 code.Value
    ∷ parameter_refusal action.Third 4 code.Hash
    ∷ own_refusal action.Fourth code.SessionMemory
    ∷ []
own_refusals command.FlushContext =
    parameter_refusal action.First 1 code.Value
    ∷ parameter_refusal action.Second 1 code.Handle
    ∷ []
own_refusals command.PolicyPcr =
    own_refusal action.First code.PcrChanged
    ∷ parameter_refusal action.Second 1 code.Value
    ∷ []
own_refusals command.PolicyOr = value_refusals
own_refusals command.PolicyCommandCode =
    parameter_refusal action.First 1 code.Value
    ∷ parameter_refusal action.Second 1 code.PolicyCc
    ∷ []
own_refusals command.PolicyCpHash =
    parameter_refusal action.First 1 code.Size
    ∷ own_refusal action.Second code.Cphash
    ∷ []
own_refusals command.PolicyNvWritten = value_refusals
own_refusals command.PolicyLocality = parameter_refusal action.First 1 code.Range ∷ []
own_refusals command.PolicySecret =
    parameter_refusal action.First 4 code.Value
    ∷ parameter_refusal action.Second 2 code.Size
    ∷ parameter_refusal action.Third 1 code.Nonce
    ∷ own_refusal action.Fourth code.Cphash
    ∷ []
own_refusals command.PolicyNv =
    own_refusal action.First code.NvAuthorization
    ∷ own_refusal action.Second code.NvLocked
    ∷ own_refusal action.Third code.NvUninitialized
    ∷ own_refusal action.Fourth code.NvRange
    ∷ own_refusal action.Fifth code.Policy
    ∷ []
own_refusals command.CreatePrimary =
    parameter_refusal action.First 2 code.Size
    ∷ parameter_refusal action.Second 2 code.Attributes
    ∷ parameter_refusal action.Third 2 code.Scheme
    ∷ parameter_refusal action.Fourth 1 code.Size
    ∷ parameter_refusal action.Fifth 2 code.Attributes
    ∷ parameter_refusal action.Sixth 1 code.Size
    ∷ own_refusal action.Seventh code.ObjectMemory
    ∷ []
own_refusals command.Create =
    entity_refusal action.First 1 code.Type
    ∷ parameter_refusal action.Second 2 code.Size
    ∷ parameter_refusal action.Third 2 code.Attributes
    ∷ parameter_refusal action.Fourth 2 code.Scheme
    ∷ parameter_refusal action.Fifth 1 code.Size
    ∷ parameter_refusal action.Sixth 2 code.Attributes
    ∷ parameter_refusal action.Seventh 1 code.Size
    ∷ []
own_refusals command.Load =
    entity_refusal action.First 1 code.Type
    ∷ parameter_refusal action.Second 2 code.Size
    ∷ parameter_refusal action.Third 2 code.Attributes
    ∷ parameter_refusal action.Fourth 2 code.Scheme
    ∷ parameter_refusal action.Fifth 1 code.Integrity
    ∷ own_refusal action.Sixth code.ObjectMemory
    ∷ []
own_refusals command.Unseal =
    entity_refusal action.First 1 code.Type
    ∷ entity_refusal action.Second 1 code.Attributes
    ∷ []
own_refusals command.Hmac =
    entity_refusal action.First 1 code.Type
    ∷ entity_refusal action.Second 1 code.Attributes
    ∷ entity_refusal action.Third 1 code.Key
    ∷ parameter_refusal action.Fourth 2 code.Value
    ∷ []
own_refusals command.EvictControl =
    entity_refusal action.First 2 code.Hierarchy
    ∷ entity_refusal action.Second 2 code.Attributes
    ∷ parameter_refusal action.Third 1 code.Range
    ∷ entity_refusal action.Fourth 2 code.Handle
    ∷ own_refusal action.Fifth code.NvDefined
    ∷ own_refusal action.Sixth code.NvSpace
    ∷ []
own_refusals command.Clear =
    own_refusal action.First code.Disabled
    ∷ own_refusal action.Second code.Failure
    ∷ []
own_refusals command.ClearControl = own_refusal action.First code.AuthFail ∷ []
own_refusals command.NvDefineSpace =
    parameter_refusal action.First 1 code.Size
    ∷ parameter_refusal action.Second 2 code.Size
    ∷ parameter_refusal action.Third 2 code.Attributes
    ∷ parameter_refusal action.Fourth 2 code.Size
    ∷ own_refusal action.Fifth code.NvDefined
    ∷ own_refusal action.Sixth code.NvSpace
    ∷ []
own_refusals command.NvUndefineSpace = own_refusal action.First code.NvAuthorization ∷ []
own_refusals command.NvWrite = range_refusals
own_refusals command.NvIncrement = range_refusals
own_refusals command.NvSetBits = write_refusals
own_refusals command.NvExtend = write_refusals
own_refusals command.NvRead =
    own_refusal action.First code.NvAuthorization
    ∷ own_refusal action.Second code.NvLocked
    ∷ own_refusal action.Third code.NvUninitialized
    ∷ parameter_refusal action.Fourth 1 code.Value
    ∷ own_refusal action.Fifth code.NvRange
    ∷ []
own_refusals command.NvWriteLock = lock_refusals
own_refusals command.NvReadLock = lock_refusals
own_refusals command.NvChangeAuth = parameter_refusal action.First 1 code.Size ∷ []
own_refusals _ = []

-- ---- what it means that a refusal is listed

-- The refusal is one of these.
abbrev pub IsOneOf : List Refused → Refused → Type 0
IsOneOf [] e = ⊥
IsOneOf (refusal ∷ refusals) e = (e ≡ refusal) ⊎ IsOneOf refusals e

-- If this check is one of the command's own checks, the refusal is one of these.
abbrev pub IsListedBy : Check → List Refused → Refused → Type 0
IsListedBy (check.Action own) refusals e = IsOneOf refusals e
IsListedBy _ refusals e = Unit {0}

-- If the refusal is by one of the command's own checks, it is one of these.
abbrev pub IsListed : List Refused → Refused → Type 0
IsListed refusals e = IsListedBy e.check refusals e

-- If the row of this command refuses by one of the command's own checks, the refusal is one of
-- `own_refusals`, with the same check, response code, and number of a handle or parameter.
abbrev pub RefusesAsListed : {X : Type 0} → CommandCode → Result X Refused → Type 0
RefusesAsListed c row = IfErr row (IsListed (own_refusals c))

-- ---- the refusals that a step reports

-- The step reports this refusal of this command: its row has the numbers of the command and of the
-- check, and its response has the response code.
abbrev pub Reports : Stepped → CommandCode → Refused → Type 0
Reports x c e =
    (x.row.code ≡ code_number c) × (x.row.check ≡ check_number e.check)
    × (x.response ≡ refusal_text e)

-- If the row of the step has the number of a command's own check, which is between 20 and 255, the
-- step reports one of the `own_refusals` of the command.
abbrev pub ReportsAsListed : Stepped → Type 0
ReportsAsListed x =
    20 < x.row.check → x.row.check < 255
    → (c : CommandCode) × (e : Refused) × IsOneOf (own_refusals c) e × Reports x c e
