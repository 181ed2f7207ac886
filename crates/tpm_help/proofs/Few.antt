-- No command has more than five parameters.
use Rattle.std.proofs.Common.{◌≤◌, length, arith}
use Rattle.tpm_commands.specs.CommandCode.{shape_of}
use Rattle.tpm_commands.specs.declared.command_code.CommandCode.{CommandCode}
use Rattle.tpm_commands.specs.declared.command_code.CommandCode.TheVariants as code

-- Each command has at most five parameters. The last clause covers all commands without a clause of
-- their own.
pub few_parameters : (code : CommandCode) → length (shape_of code).parameters ≤ 5
unfolding shape_of
few_parameters code.Startup = omega arith
few_parameters _ = omega arith
