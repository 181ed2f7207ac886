-- The session handles that the completing layer lists, in ascending order. TPM 2.0 Library, Part 3,
-- section 30.2 (TPM2_GetCapability), and Part 2, section 7.2 (TPM_HT).
use Rattle.std.specs.Prelude.{true, false, ℕ, ◌==◌, not, Bool, List, [], if◌then◌else◌}
use Rattle.std.specs.List.{flat_map}
use Rattle.tpm_bytes.specs.Numbers.{numbers_below}
use Rattle.tpm_types_common.specs.Limits.{session_limit}
use Rattle.tpm_record.specs.Record.{Record}
use Rattle.tpm_actions_capability.specs.Elements.{session_element}
use Rattle.tpm_actions_capability.specs.declared.element.Element.{Element}
use Rattle.tpm_completion.specs.Completion.{session_context}
use Rattle.tpm_completion.specs.declared.completion.Completion.{Completion}

-- whether a session with this context number is in the given state: saved if `saved` is true,
-- otherwise loaded. The number 0 means loaded
abbrev pub is_in_state : (saved : Bool) → (context : ℕ) → Bool
is_in_state true context = not (context == 0)
is_in_state false context = context == 0

-- the handle of the session in a slot, if the session is saved (for `saved` true) or loaded (for
-- `saved` false)
unfoldable pub session_shown : Record → Completion → (saved : Bool) → ℕ → List Element
session_shown r c saved place =
    if is_in_state saved (session_context c place) then session_element r place else []

abbrev pub sessions_shown : Record → Completion → Bool → List Element
sessions_shown r c saved = flat_map (session_shown r c saved) (numbers_below session_limit)
