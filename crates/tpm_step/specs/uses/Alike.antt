-- Two devices authorize each command in the same way if they follow the same history, show the same
-- public data, and have the same lockout state. TPM 2.0 Library, Part 1, section 19
-- (authorizations), and Part 3, section 5.6 (authorization checks).
use Rattle.std.specs.Prelude.{◌≡◌, ℕ}
use Rattle.tpm_types_common.specs.declared.handle.Handle.{Handle}
use Rattle.tpm_types_command.specs.Command.{Whole}
use Rattle.tpm_record.specs.Record.{Record}
use Rattle.tpm_auth.specs.Grant.{authorize}
use Rattle.tpm_step.specs.history.Follows.{Follows}
use Rattle.tpm_step.specs.history.History.{History}
use Rattle.tpm_step.specs.history.View.{view_of}

-- Two devices follow the same history. Both show the same public data for each handle. Both have
-- the same lockout state (failed tries and parameters against dictionary attacks), which a history
-- does not determine. Their seeds, private areas, index data and clocks may differ.
pub record AreAlike (one other : Record) (history : History) : Type 0 where
  pub first : Follows one history
  pub second : Follows other history
  pub views : (handle : Handle) → view_of one handle ≡ view_of other handle
  pub lockout : one.fixed.lockout ≡ other.fixed.lockout

-- If two devices satisfy `AreAlike`, they authorize each command from each locality with the same
-- grants, or refuse it with the same refusal.
abbrev pub AuthorizeAlike : Type 0
AuthorizeAlike =
    (one other : Record) (history : History) → AreAlike one other history
    → (c : Whole) (locality : ℕ) → authorize one c locality ≡ authorize other c locality
