-- Defines one record with all laws about the row of a command.
use Rattle.std.specs.Prelude.{◌≡◌, ◌≤◌, false, length, Result, IfOk}
use Rattle.tpm_types_common.specs.declared.refused.Refused.{Refused}
use Rattle.tpm_commands.specs.CommandCode.{part_of, shape_of}
use Rattle.tpm_commands.specs.declared.command_code.CommandCode.{CommandCode}
use Rattle.tpm_record.specs.Record.{Record}
use Rattle.tpm_record.specs.rows.Request.{Request}
use Rattle.tpm_record.specs.rows.Rows.{Success}
use Rattle.tpm_row_secrecy.specs.Alike.{Same}
use Rattle.tpm_row_secrecy.specs.Reads.{reads_secret}
use Rattle.tpm_row_secrecy.specs.Secrecy.{CoversKeys, Secrecy, without_secrets}
use Rattle.tpm_step.specs.rows.Draws.{DrawsAsSaid}
use Rattle.tpm_step.specs.rows.Footprint.{Touches}
use Rattle.tpm_step.specs.rows.IndexChanges.{ChangesIndices}
use Rattle.tpm_step.specs.rows.Order.{Orders, Plain}
use Rattle.tpm_step.specs.rows.Sessions.{SessionsStay}
use Rattle.tpm_step.specs.rows.Shapes.{AnswersItsShape, GrowsAsShaped}
use Rattle.tpm_step.specs.rows.Sizes.{AreSized}

-- A success changes only its command's part of the state, and changes the NV indices as that part
-- allows. It fills slots and returns values as the command's shape says. It draws at most 96 random
-- bytes; unless the command is TPM2_Startup, the number is `draws_of`. If the command may have
-- sessions, all sessions still exist after it. The fields of sessions keep the right sizes, if
-- there are enough random bytes for a nonce.
pub record SuccessLaws (c : CommandCode) (r : Record) (q : Request) (s : Success) : Type 0 where
  pub touches : Touches (part_of c) r s.after
  pub changes : ChangesIndices (part_of c) q r.nv s.after.nv
  pub grows : GrowsAsShaped c r s.after
  pub answers : AnswersItsShape c s
  pub draws : DrawsAsSaid c q s
  pub stays : (shape_of c).forbids_sessions ≡ false → SessionsStay r s.after
  pub sized : 32 ≤ length q.random → AreSized r → AreSized s.after

-- Each success of the row satisfies `SuccessLaws`. The row reports refusals in the order of its
-- checks. No refusal counts as a failed try or disables lockoutAuth. Unless the command reads a
-- secret, the row has the same result on the device and on the device without its secrets.
pub record RowLaws (c : CommandCode) (row : Record → Request → Result Success Refused)
    : Type 0 where
  pub success : (r : Record) (q : Request) → IfOk (row r q) (SuccessLaws c r q)
  pub order : (r : Record) (q : Request)
      → Orders r (shape_of c).handles q.handles (shape_of c).parameters q.parameters (row r q)
  pub plain : (r : Record) (q : Request) → Plain (row r q)
  pub tells : (s : Secrecy) → CoversKeys s → (r : Record) (q : Request)
      → reads_secret s r c q ≡ false → Same s (row (without_secrets s r) q) (row r q)
