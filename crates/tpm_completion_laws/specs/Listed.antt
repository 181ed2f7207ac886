-- Claims about the lists of the completing layer, and about the commands that it serves.
use Rattle.std.specs.Prelude.{◌≡◌, ℕ, ◌+◌, ◌-◌, ◌*◌, ◌^◌, ◌==◌, ◌&&◌, ◌||◌, nat_lt, Bool, true, false, List, [], ◌∷◌, ◌++◌, filter, length, map, None, if◌then◌else◌}
use Rattle.std.specs.List.{flat_map, sum_by}
use Rattle.tpm_bytes.specs.Numbers.{numbers_below}
use Rattle.tpm_pcr.specs.Changes.{may_extend, may_reset, use_of}
use Rattle.tpm_actions_capability.specs.Elements.{session_elements}
use Rattle.tpm_actions_capability.specs.declared.element.Element.{Element}
use Rattle.tpm_types_common.specs.Limits.{object_limit, session_limit}
use Rattle.tpm_record.specs.Record.{Record}
use Rattle.tpm_completion.specs.Capability.{command_elements}
use Rattle.tpm_completion.specs.Command.{Command}
use Rattle.tpm_completion.specs.Listing.{element}
use Rattle.tpm_completion.specs.PcrProperties.{pcr_property_elements}
use Rattle.tpm_completion.specs.Properties.{active_count, command_count, object_count, property_elements, session_count}
use Rattle.tpm_completion.specs.Reply.{served_reply, stands}
use Rattle.tpm_completion.specs.Sending.{sent_by}
use Rattle.tpm_completion.specs.SequenceReply.{authorized_reply, bare_reply}
use Rattle.tpm_completion.specs.declared.completion.Completion.{Completion}

-- ---- commands

-- whether a code belongs to one of the layer's commands on sequence objects
abbrev pub is_of_sequences : (code : ℕ) → Bool
is_of_sequences code =
    (code == 0x13e)
    || ((code == 0x15b) || ((code == 0x15c) || ((code == 0x185) || (code == 0x186))))

-- whether a code belongs to one of the layer's own commands
abbrev pub is_own : (code : ℕ) → Bool
is_own code =
    (code == 0x142)
    || ((code == 0x146)
    || ((code == 0x161)
    || ((code == 0x162)
    || ((code == 0x17c)
    || ((code == 0x17d) || ((code == 0x18a) || is_of_sequences code))))))

-- The layer does not serve this command, without or with sessions, and sends no command to the
-- device for it.
pub record IsNotServed (r : Record) (c : Completion) (command : Command) (response : List ℕ) : Type 0
  where
    pub served : served_reply r c command response ≡ stands c response
    pub bare : bare_reply c command ≡ None
    pub authorized : authorized_reply r c command ≡ None
    pub sent : sent_by r c command.code command.parameters ≡ None

-- The layer serves only its own commands.
abbrev pub ServesItsOwn : Type 0
ServesItsOwn =
    (r : Record) (c : Completion) (command : Command) (response : List ℕ)
    → is_own command.code ≡ false → IsNotServed r c command response

-- the numbers of elements
abbrev pub numbers : List Element → List ℕ
numbers elements = map (λ e. e.number) elements

-- The list of commands contains each of the layer's own commands once.
abbrev pub ListsItsOwn : Type 0
ListsItsOwn =
    filter is_own (numbers command_elements)
    ≡ 0x13e ∷ 0x142 ∷ 0x146 ∷ 0x15b ∷ 0x15c ∷ 0x161 ∷ 0x162 ∷ 0x17c ∷ 0x17d ∷ 0x185 ∷ 0x186 ∷ 0x18a
    ∷ []

-- TPM_PT_TOTAL_COMMANDS is the number of commands in the list.
abbrev pub CountsAll : Type 0
CountsAll = length command_elements ≡ command_count

-- ---- order

-- whether each number is less than the next
abbrev pub ascends_from : ℕ → List ℕ → Bool
ascends_from n [] = true
ascends_from n (m ∷ rest) = nat_lt n m && ascends_from m rest

-- Commands are listed in ascending order.
abbrev pub CommandsAscend : Type 0
CommandsAscend = ascends_from 0 (numbers command_elements) ≡ true

-- The properties of every device are listed in ascending order.
abbrev pub PropertiesAscend : Type 0
PropertiesAscend =
    (r : Record) (c : Completion) → ascends_from 0 (numbers (property_elements r c)) ≡ true

-- ---- PCRs

-- the PCRs for which a test is true, as a number with one bit for each PCR
abbrev pub pcrs_with : (ℕ → Bool) → ℕ
pcrs_with test = sum_by (λ pcr. if test pcr then 2 ^ pcr else 0) (numbers_below 24)

-- the properties of a locality: which PCRs can be extended from it, and which can be reset
abbrev pub of_locality : (locality : ℕ) → List Element
of_locality locality =
    element (2 * locality + 1) (pcrs_with (λ pcr. may_extend (use_of pcr) locality))
    ∷ element (2 * locality + 2) (pcrs_with (λ pcr. may_reset (use_of pcr) locality))
    ∷ []

-- The listed properties of PCRs match the device: PCRs 0 to 15 are saved, and each PCR is listed
-- for the localities from which it can be extended or reset.
abbrev pub PcrPropertiesHold : Type 0
PcrPropertiesHold =
    pcr_property_elements
    ≡ element 0 (pcrs_with (λ pcr. nat_lt pcr 16)) ∷ flat_map of_locality (numbers_below 5)
    ++ element 0x11 0 ∷ element 0x13 0 ∷ element 0x14 0 ∷ []

-- ---- counts

-- Every session is either loaded or saved. The number in use and the number available add up to the
-- limit, for loaded sessions (HR_LOADED and HR_LOADED_AVAIL), for active sessions (HR_ACTIVE and
-- HR_ACTIVE_AVAIL), and for transient objects (HR_TRANSIENT_AVAIL).
pub record AddsUp (r : Record) (c : Completion) : Type 0 where
  pub all : active_count r c ≡ length (session_elements r)
  pub loaded : session_count r c false + (session_limit - session_count r c false) ≡ session_limit
  pub active : active_count r c + (session_limit - active_count r c) ≡ session_limit
  pub objects : object_count r + (object_limit - object_count r) ≡ object_limit

abbrev pub CountsAddUp : Type 0
CountsAddUp = (r : Record) (c : Completion) → AddsUp r c
