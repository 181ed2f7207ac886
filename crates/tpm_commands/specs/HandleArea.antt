-- The handles of a command, each of which must be allowed by its rule. TPM 2.0 Library, Part 3,
-- section 5.4 (handle area validation).
use Rattle.std.specs.Prelude.{ℕ, not, List, Result, Ok}
use Rattle.std.specs.Int.{w32}
use Rattle.tpm_bytes.specs.Many.{each_at}
use Rattle.tpm_bytes.specs.Reading.{◌>>=◌, number_at, or_fault, refused_if}
use Rattle.tpm_commands.specs.declared.command_code.CommandCode.{CommandCode}
use Rattle.tpm_types_common.specs.declared.handle.Handle.{Handle}
use Rattle.tpm_types_common.specs.declared.rc.Place.TheVariants as place
use Rattle.tpm_types_common.specs.declared.rc.Rc.{Rc}
use Rattle.tpm_types_common.specs.declared.rc.ResponseCode.{ResponseCode}
use Rattle.tpm_types_common.specs.declared.rc.ResponseCode.TheVariants as code
use Rattle.tpm_commands.specs.declared.shape.HandleRule.{HandleRule}
use Rattle.tpm_types_common.specs.Handle.{numbered_handle}
use Rattle.tpm_types_common.specs.Rc.{at, plain}
use Rattle.tpm_commands.specs.CommandCode.{shape_of}
use Rattle.tpm_commands.specs.Shape.{is_of_kind}

-- a fault in the command's n-th handle
abbrev pub handle_fault : ℕ → ResponseCode → Rc
handle_fault n fault = at (place.Handle n) (plain fault)

-- the n-th handle of a command at the start of the bytes, and the remaining bytes. The rule must
-- allow the handle
unfoldable pub allowed_handle_at : ℕ → HandleRule → List ℕ → Result (Handle × List ℕ) Rc
allowed_handle_at n rule text = do
  number ← or_fault (number_at w32 text) (handle_fault n code.Insufficient)
  allowed ← refused_if (not (is_of_kind rule.kind (numbered_handle number.0)))
      (handle_fault n code.Value)
  Ok (numbered_handle number.0, number.1)

-- the handles of a command at the start of the bytes, one for each handle rule of the command, and
-- the remaining bytes
abbrev pub allowed_handles_at : CommandCode → List ℕ → Result (List Handle × List ℕ) Rc
allowed_handles_at code text = each_at allowed_handle_at 1 (shape_of code).handles text
