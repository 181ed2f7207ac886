-- What an accepted authorization implies for a command's entries. TPM 2.0 Library, Part 1, section
-- 19 (authorizations), and Part 3, sections 5.5 (session area validation) and 5.6 (authorization
-- checks).
use Rattle.std.specs.Prelude.{◌≡◌, ◌≤◌, ℕ, ◌+◌, true, List, [], length, Option, Some, slice_get, Ok}
use Rattle.std.specs.List.{list_any}
use Rattle.tpm_session.specs.FirstBuffer.{has_first_buffer}
use Rattle.tpm_types_command.specs.AuthEntry.{Entry}
use Rattle.tpm_types_command.specs.Command.{Whole}
use Rattle.tpm_commands.specs.CommandCode.{authorized_handles}
use Rattle.tpm_record.specs.Record.{Record}
use Rattle.tpm_auth.specs.Entries.{decrypts, entries_pass}
use Rattle.tpm_auth.specs.Grant.{authorized, grant}
use Rattle.tpm_auth.specs.declared.session_grant.Grant.{Grant}

-- The entry at a position, counted from 0, is accepted with this grant. If a handle that needs
-- authorization is at the same position, the entry has to authorize this handle. Entries are
-- numbered from 1.
abbrev pub IsGranted : Record → Whole → (locality place : ℕ) → Entry → Option Grant → Type 0
IsGranted r c locality place e granted =
    grant r c locality (place + 1) (slice_get (authorized c) place) e ≡ Ok granted

-- These grants are what the entries of a command authorize. Each entry passes its own checks, and
-- there is an entry for each handle that needs authorization. Each entry has one grant, at its
-- position. The parameter that a session decrypts is complete.
pub record IsGranting
    (r : Record) (c : Whole) (locality : ℕ) (grants : List (Option Grant)) : Type 0 where
  pub own : entries_pass r c.code [] c.entries ≡ Ok tt
  pub enough : authorized_handles c.code ≤ length c.entries
  pub as_many : length grants ≡ length c.entries
  pub each : (place : ℕ) (e : Entry) (granted : Option Grant)
      → slice_get c.entries place ≡ Some e → slice_get grants place ≡ Some granted
      → IsGranted r c locality place e granted
  pub whole : list_any decrypts c.entries ≡ true → has_first_buffer c.parameters ≡ true
