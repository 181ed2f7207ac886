-- What the numbers of free slots in TPM2_GetCapability say about other commands. TPM 2.0 Library,
-- Part 2, section 6.13 (TPM_PT), and Part 3, sections 11.1 (TPM2_StartAuthSession), 12.2 (TPM2_Load)
-- and 28.5 (TPM2_EvictControl).
use Rattle.std.specs.Prelude.{◌≡◌, ◌==◌, not, is_ok}
use Rattle.tpm_types_common.specs.declared.action_check.ActionCheck.{ActionCheck}
use Rattle.tpm_record.specs.IsRecord.{IsRecord}
use Rattle.tpm_record.specs.Record.{Record}
use Rattle.tpm_actions_device.specs.StartAuthSession.{session_place}
use Rattle.tpm_actions_object.specs.Loaded.{place_for}
use Rattle.tpm_capability_laws.specs.Listed.{Says}

-- TPM2_StartAuthSession finds a slot for its session exactly if HR_LOADED_AVAIL (204) is not 0, and
-- exactly if HR_ACTIVE_AVAIL (206) is not 0.
abbrev pub SessionsStartIfFree : Type 0
SessionsStartIfFree = (r : Record) → IsRecord r
    → Says 0x204 r (λ free. is_ok (session_place r.sessions) ≡ not (free == 0))
    × Says 0x206 r (λ free. is_ok (session_place r.sessions) ≡ not (free == 0))

-- A new transient object finds a slot exactly if HR_TRANSIENT_AVAIL (207) is not 0.
abbrev pub ObjectsAreLoadedIfFree : Type 0
ObjectsAreLoadedIfFree = (r : Record) (check : ActionCheck) → IsRecord r
    → Says 0x207 r (λ free. is_ok (place_for check r) ≡ not (free == 0))
