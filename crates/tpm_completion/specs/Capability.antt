-- The completing layer's list for each capability, in ascending order. TPM 2.0 Library, Part 2,
-- sections 6.3 (TPM_ALG_ID), 6.12 (TPM_CAP), 8.2 (TPMA_ALGORITHM) and 8.9 (TPMA_CC), and Part 3,
-- section 30.2 (TPM2_GetCapability).
use Rattle.std.specs.Prelude.{true, false, ℕ, ◌/◌, ◌%◌, ◌^◌, ◌==◌, ◌||◌, not, Bool, List, [], ◌∷◌, ◌++◌, length, if◌then◌else◌, Option, Some, None, Result, Ok}
use Rattle.std.specs.Int.{w32}
use Rattle.std.specs.List.{flat_map}
use Rattle.tpm_bytes.specs.Reading.{◌>>=◌, number_at, refused_if, too_short}
use Rattle.tpm_bytes.specs.declared.cursor.Short.{Short}
use Rattle.tpm_commands.specs.CommandFacts.{all_codes}
use Rattle.tpm_commands.specs.declared.profile.Profile.TheVariants as profile
use Rattle.tpm_commands.specs.declared.command_code.CommandCode.{CommandCode}
use Rattle.tpm_commands.specs.declared.command_code.CommandCode.TheVariants as command
use Rattle.tpm_record.specs.Record.{Record}
use Rattle.tpm_actions_capability.specs.Elements.{served_element, object_elements}
use Rattle.tpm_actions_capability.specs.declared.element.Element.{Element}
use Rattle.tpm_completion.specs.Answer.{is_refusal}
use Rattle.tpm_completion.specs.Handles.{sessions_shown}
use Rattle.tpm_completion.specs.Listing.{element, listing}
use Rattle.tpm_completion.specs.PcrProperties.{pcr_property_elements}
use Rattle.tpm_completion.specs.Properties.{property_elements}
use Rattle.tpm_completion.specs.Sequences.{sequence_elements}
use Rattle.tpm_completion.specs.declared.capability.Asked.{Asked}
use Rattle.tpm_completion.specs.declared.completion.Completion.{Completion}
use Rattle.tpm_completion.specs.declared.listing.Form.TheVariants as form

-- the parameters of TPM2_GetCapability: capability, property, propertyCount
unfoldable pub asked_at : List ℕ → Result Asked Short
asked_at text = do
  capability ← number_at w32 text
  property ← number_at w32 capability.1
  count ← number_at w32 property.1
  ended ← refused_if (not (length count.1 == 0)) too_short
  Ok (record { capability = capability.0; property = property.0; count = count.0 })

-- ---- algorithms
-- the algorithms with their attributes (TPMA_ALGORITHM). In hexadecimal, symmetric is 2, hash 4,
-- object 8, signing 100, encrypting 200, and method 400

abbrev pub algorithm_elements : List Element
algorithm_elements =
    element 0x04 0x004  -- SHA-1
    ∷ element 0x05 0x104  -- HMAC
    ∷ element 0x06 0x002  -- AES
    ∷ element 0x08 0x30c  -- KEYEDHASH
    ∷ element 0x0a 0x006  -- XOR
    ∷ element 0x0b 0x004  -- SHA-256
    ∷ element 0x22 0x404  -- KDF1_SP800_108
    ∷ element 0x25 0x008  -- SYMCIPHER
    ∷ element 0x43 0x202  -- CFB
    ∷ []

-- ---- commands, with their attributes (TPMA_CC): the number of handles in bits 25 to 27; bit 28 if
-- the response has a handle; bit 24 (flushed) if the command removes a sequence object

-- the layer's own commands that directly precede a command of the device in the list:
-- SequenceComplete and IncrementalSelfTest; StirRandom; HMAC_Start and SequenceUpdate; ContextLoad
-- and ContextSave; GetTestResult and Hash; EventSequenceComplete and HashSequenceStart; TestParms
abbrev pub own_before : CommandCode → List Element
own_before command.SelfTest = element 0x13e 0x0300_013e ∷ element 0x142 0x142 ∷ []
own_before command.PolicyNv = element 0x146 0x146 ∷ []
own_before command.Unseal = element 0x15b 0x1200_015b ∷ element 0x15c 0x0200_015c ∷ []
own_before command.FlushContext = element 0x161 0x1000_0161 ∷ element 0x162 0x0200_0162 ∷ []
own_before command.PcrRead = element 0x17c 0x17c ∷ element 0x17d 0x17d ∷ []
own_before command.PolicyGetDigest = element 0x185 0x0500_0185 ∷ element 0x186 0x1000_0186 ∷ []
own_before command.PolicyPassword = element 0x18a 0x18a ∷ []
own_before _ = []

-- the elements of the layer's own commands that directly precede a command, and the element of the
-- command itself, if the device serves it
unfoldable pub commands_by : CommandCode → List Element
commands_by code = own_before code ++ served_element profile.Symmetric code

abbrev pub command_elements : List Element
command_elements = flat_map commands_by all_codes

-- ---- the answer

-- the layer's list of the handles whose most significant byte is `kind`: loaded sessions for 02,
-- saved sessions for 03, transient objects and then sequence objects for 80, None for other values
abbrev pub handles_told : Record → Completion → Asked → (kind : ℕ) → Option (List ℕ)
handles_told r c asked kind =
    if kind == 0x02 then
    Some (listing form.Value 1 (asked.property % 2 ^ 24) asked.count (sessions_shown r c false))
    else (if kind == 0x03 then
    Some (listing form.Value 1 (asked.property % 2 ^ 24) asked.count (sessions_shown r c true))
    else (if kind == 0x80 then
    Some (listing form.Value 1 asked.property asked.count (object_elements r ++ sequence_elements c))
    else None))

-- the layer's list for a capability that the device answered, if the layer has one
abbrev pub told_of : Record → Completion → Asked → Option (List ℕ)
told_of r c asked =
    if asked.capability == 1 then handles_told r c asked (asked.property / 2 ^ 24)
    else (if asked.capability == 2 then
    Some (listing form.Value 2 asked.property asked.count command_elements)
    else (if asked.capability == 6 then
    Some (listing form.Property 6 asked.property asked.count (property_elements r c))
    else None))

-- whether the layer answers this capability with an empty list: the device requires no physical
-- presence (3), audits no command (4), and has no elliptic curve (8)
abbrev pub is_empty : (capability : ℕ) → Bool
is_empty capability = (capability == 3) || ((capability == 4) || (capability == 8))

-- the layer's list for a capability that the device refused, if the layer has one
abbrev pub refused_of : Asked → Option (List ℕ)
refused_of asked =
    if asked.capability == 0 then
    Some (listing form.Algorithm 0 asked.property asked.count algorithm_elements)
    else (if asked.capability == 7 then
    Some (listing form.Selection 7 asked.property asked.count pcr_property_elements)
    else (if is_empty asked.capability then
    Some (listing form.Value asked.capability asked.property asked.count [])
    else None))

-- the layer's answer to TPM2_GetCapability, without its header, if the layer has one. The answer
-- replaces the device's answer, or the device's refusal with VALUE for parameter 1
unfoldable pub capability_told : Record → Completion → Asked → (was_told : Bool) → List ℕ
    → Option (List ℕ)
capability_told r c asked was_told response =
    if was_told then told_of r c asked
    else (if is_refusal 0x1c4 response then refused_of asked else None)
