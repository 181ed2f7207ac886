-- PCRs that have not changed since a TPM2_PolicyPCR. TPM 2.0 Library, Part 3, section 23.7
-- (TPM2_PolicyPCR, which records the PCR update counter), and section 24.6 (TPM2_Clear counts as an
-- update).
use Rattle.std.specs.Prelude.{◌≡◌, ◌≤◌, ℕ, Bool, true, false, List, [], ◌∷◌, ◌++◌, Some, Ok}
use Rattle.std.specs.List.{AllByRecursion, list_any}
use Rattle.std.specs.Option.{option_map_or}
use Rattle.tpm_mac.specs.declared.algorithm.HashAlg.{HashAlg}
use Rattle.tpm_policy.specs.Assertion.{Assertion, Pcr}
use Rattle.tpm_types_common.specs.PcrSelection.{selection_text}
use Rattle.tpm_types_common.specs.declared.handle.Handle.{Handle}
use Rattle.tpm_types_common.specs.declared.pcr_selection.BankSelection.{BankSelection}
use Rattle.tpm_types_common.specs.declared.session_type.SessionType.TheVariants as type
use Rattle.tpm_commands.specs.declared.command_code.CommandCode.TheVariants as command
use Rattle.tpm_record.specs.rows.Request.{first_handle}
use Rattle.tpm_step.specs.step.General.{is_startup}
use Rattle.tpm_step.specs.history.History.{AcceptedCommand, Done, History, ObjectPlaced, PastEvent, PowerCycled}
use Rattle.tpm_step.specs.history.Pcrs.{digest_in, updates_of, writes}
use Rattle.tpm_step.specs.history.Sessions.{LiveSession, policy_in, sessions_of}

-- whether TPM2_PolicyPCR made an assertion
abbrev pub is_pcr : Assertion → Bool
is_pcr (Pcr parts) = true
is_pcr _ = false

-- whether TPM2_PolicyPCR made any assertion of a session
abbrev pub asserts_pcrs : LiveSession → Bool
asserts_pcrs s = list_any is_pcr s.assertions

-- whether there is a live session at this handle, with an assertion by TPM2_PolicyPCR
abbrev pub has_pcrs : History → Handle → Bool
has_pcrs history handle = option_map_or asserts_pcrs (sessions_of history handle) false

-- The event writes no PCR, and is neither a TPM2_Clear, nor a TPM2_Startup, nor a power cycle.
abbrev pub IsQuiet : PastEvent → Type 0
IsQuiet (Done c) =
    (is_startup c.command.code ≡ false) × (writes c.command.code c.request ≡ 0)
IsQuiet PowerCycled = ⊥
IsQuiet (ObjectPlaced at object) = Unit {0}

-- After each of these events, the latest first, the session at this handle has an assertion by
-- TPM2_PolicyPCR.
abbrev pub KeepsPcrs : Handle → (events before : History) → Type 0
KeepsPcrs handle [] before = Unit {0}
KeepsPcrs handle (event ∷ events) before =
    (has_pcrs (event ∷ events ++ before) handle ≡ true) × KeepsPcrs handle events before

-- The history contains the first TPM2_PolicyPCR of the session at this handle, and only quiet
-- events after it. After every event since then, the session has had an assertion by
-- TPM2_PolicyPCR.
pub record AreQuietSince (handle : Handle) (history : History) : Type 0 where
  pub since : History
  pub first : AcceptedCommand
  pub before : History
  pub is : history ≡ since ++ Done first ∷ before
  pub code : first.command.code ≡ command.PolicyPcr
  pub names : first_handle first.request.handles ≡ Ok handle
  pub begins : has_pcrs before handle ≡ false
  pub keeps : KeepsPcrs handle (since ++ Done first ∷ []) before
  pub quiet : AllByRecursion IsQuiet since

-- After a history, the selected PCRs have the digest that this TPM2_PolicyPCR asserted, computed
-- with the session's hash. Assertions of other commands do not concern PCRs, and always satisfy
-- this.
abbrev pub HoldsOf : History → HashAlg → Assertion → Type 0
HoldsOf history hash (Pcr parts) =
    (selection : List BankSelection) × (parts.selection ≡ selection_text selection)
    × (parts.digest ≡ digest_in history hash selection)
HoldsOf history hash _ = Unit {0}

-- No PCR has been updated since the first TPM2_PolicyPCR of the session at this handle. Therefore
-- all of the session's assertions about PCRs hold.
pub record HoldsPcrs (handle : Handle) (history : History) (s : LiveSession) : Type 0 where
  pub quiet : AreQuietSince handle history
  pub hold : AllByRecursion (HoldsOf history s.hash) s.assertions

-- ---- the update counter that a policy records

-- The update counter that the session recorded does not exceed the history's counter. If the two
-- counters are equal, the session's assertions about PCRs hold.
pub record RecordsUpdates (handle : Handle) (history : History) (s : LiveSession) : Type 0 where
  pub count : ℕ
  pub recorded : (policy_in s).update_count ≡ Some count
  pub within : count ≤ updates_of history
  pub hold : count ≡ updates_of history → HoldsPcrs handle history s

-- Each live policy session with an assertion by TPM2_PolicyPCR recorded an update counter, which
-- satisfies `RecordsUpdates`.
abbrev pub AllRecordUpdates : History → Type 0
AllRecordUpdates history =
    (handle : Handle) (s : LiveSession) → sessions_of history handle ≡ Some s
    → s.kind ≡ type.Policy → asserts_pcrs s ≡ true → RecordsUpdates handle history s
