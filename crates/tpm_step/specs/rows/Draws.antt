-- The number of an event's random bytes that a command itself draws. The command's code and
-- parameters determine this number. The nonces for the command's entries are drawn after these
-- bytes. TPM 2.0 Library, Part 3, sections 11.1 (TPM2_StartAuthSession), 12.1 (TPM2_Create), 16.1
-- (TPM2_GetRandom) and 24.6 (TPM2_Clear).
use Rattle.std.specs.Prelude.{ℕ, ◌≡◌, ◌≤◌, ◌+◌, ◌*◌, min, length, false, List, Result, Ok, Err}
use Rattle.std.specs.Int.{w16}
use Rattle.tpm_bytes.specs.Reading.{number_at, or_fault}
use Rattle.tpm_object.specs.Creation.{drawn_by}
use Rattle.tpm_types_common.specs.Rc.{plain}
use Rattle.tpm_types_common.specs.declared.rc.ResponseCode.TheVariants as code
use Rattle.tpm_types_common.specs.declared.refused.Refused.{Refused}
use Rattle.tpm_commands.specs.declared.command_code.CommandCode.{CommandCode}
use Rattle.tpm_commands.specs.declared.command_code.CommandCode.TheVariants as command
use Rattle.tpm_record.specs.rows.Draws.{draw_limit}
use Rattle.tpm_record.specs.rows.Request.{Request}
use Rattle.tpm_record.specs.rows.Rows.{Success, only}
use Rattle.tpm_actions_device.specs.StartAuthSession.{parameters_in as session_parameters}
use Rattle.tpm_actions_object.specs.Creation.{parameters_in as creation_parameters}
use Rattle.tpm_step.specs.step.General.{is_startup}

-- the count for these parameters, or 0 if they could not be parsed
abbrev pub read_or_none : {P : Type 0} → (P → ℕ) → Result P Refused → ℕ
read_or_none count (Ok p) = count p
read_or_none count (Err e) = 0

-- bytesRequested of TPM2_GetRandom
abbrev pub bytes_requested : List ℕ → Result ℕ Refused
bytes_requested parameters =
    only (or_fault (number_at w16 parameters) (plain code.Insufficient))

-- the number of random bytes that a command draws. TPM2_GetRandom draws the bytes that it returns,
-- at most 32. TPM2_StartAuthSession draws a nonceTPM that has the size of nonceCaller. TPM2_Create
-- draws a key and a seedValue, and the 16 bytes of an initial vector. TPM2_Clear draws a seed and
-- two proofs of 32 bytes. TPM2_Startup may draw a seed and a proof, but counts as 0 here: it has no
-- entries, and therefore no nonces are drawn after them
abbrev pub draws_of : CommandCode → Request → ℕ
draws_of command.GetRandom q =
    read_or_none (λ requested. min requested 32) (bytes_requested q.parameters)
draws_of command.StartAuthSession q =
    read_or_none (λ p. length p.nonce_caller) (session_parameters q.parameters)
draws_of command.Create q =
    read_or_none (λ p. drawn_by p.template p.given + 16) (creation_parameters q.parameters)
draws_of command.Clear q = 3 * 32
draws_of _ q = 0

-- A success draws at most `draw_limit`, which is 96, of the event's 256 random bytes. The number is
-- exactly `draws_of` unless the command is TPM2_Startup.
abbrev pub DrawsAsSaid : CommandCode → Request → Success → Type 0
DrawsAsSaid c q s =
    (s.answer.drawn ≤ draw_limit) × (is_startup c ≡ false → s.answer.drawn ≡ draws_of c q)
