-- The events that discard the assertions of a policy session. TPM 2.0 Library, Part 1, section
-- 19.7 (enhanced authorization), and Part 3, section 11.2 (TPM2_PolicyRestart).
use Rattle.std.specs.Prelude.{◌≡◌, ◌⊎◌, ◌∷◌, ◌++◌, Some, Ok}
use Rattle.tpm_policy.specs.Assertion.{Assertion}
use Rattle.tpm_types_common.specs.declared.handle.Handle.{Handle}
use Rattle.tpm_commands.specs.declared.command_code.CommandCode.TheVariants as command
use Rattle.tpm_record.specs.rows.Request.{first_handle}
use Rattle.tpm_step.specs.uses.AssertedBy.{StandsThrough}
use Rattle.tpm_step.specs.history.History.{Done, History, ObjectPlaced, PastEvent, PowerCycled}

-- An event after which the session with this handle has no assertions: a TPM2_PolicyRestart of this
-- session, a TPM2_StartAuthSession that starts a session with this handle, or a power cycle.
abbrev pub LeavesNoAssertion : PastEvent → Handle → Type 0
LeavesNoAssertion (Done c) handle =
    ((c.command.code ≡ command.PolicyRestart) × (first_handle c.request.handles ≡ Ok handle))
    ⊎ ((c.command.code ≡ command.StartAuthSession) × (c.answer.handle ≡ Some handle))
LeavesNoAssertion PowerCycled handle = Unit {0}
LeavesNoAssertion (ObjectPlaced at object) handle = ⊥

-- After an event that satisfies `LeavesNoAssertion`, no earlier assertion of the session is still
-- in effect.
abbrev pub NoneStandsThrough : Type 0
NoneStandsThrough =
    (one : Assertion) (handle : Handle) (since : History) (event : PastEvent)
    (earlier before : History)
    → LeavesNoAssertion event handle → StandsThrough one handle (since ++ event ∷ earlier) before
    → ⊥
