use Rattle.std.proofs.Common.{Ok, refl}
use Rattle.tpmsim_arguments.specs.CommandLine.{bare_program}
use Rattle.tpmsim_arguments.proofs.Commands.{command_added}
use Rattle.tpmsim_arguments.proofs.command_line.command.Goals as goal

pub returns : goal.returns
returns c =
    let first = command_added bare_program _ (Ok c.program_without_commands.result)
    c.run_command.result c.with_command-program.result
    c.with_command-program.ensures c.run_command.ensures refl c.program_without_commands.ensures in
    let second = command_added _ _ c.with_command-program.result c.check_command.result
    c.with_command-program-2.result
    c.with_command-program-2.ensures c.check_command.ensures refl first in
    let third = command_added _ _ c.with_command-program-2.result c.asm_command.result
    c.with_command-program-3.result
    c.with_command-program-3.ensures c.asm_command.ensures refl second in
    let fourth = command_added _ _ c.with_command-program-3.result c.line_command.result
    c.with_command-program-4.result
    c.with_command-program-4.ensures c.line_command.ensures refl third in
    let fifth = command_added _ _ c.with_command-program-4.result c.lines_command.result
    c.with_command-program-5.result
    c.with_command-program-5.ensures c.lines_command.ensures refl fourth in
    let sixth = command_added _ _ c.with_command-program-5.result c.code_command.result
    c.with_command-program-6.result
    c.with_command-program-6.ensures c.code_command.ensures refl fifth in
    let seventh = command_added _ _ c.with_command-program-6.result c.serve_command.result
    c.with_command-program-7.result
    c.with_command-program-7.ensures c.serve_command.ensures refl sixth in
    let eighth = command_added _ _ c.with_command-program-7.result c.power_command.result
    c.with_command-program-8.result
    c.with_command-program-8.ensures c.power_command.ensures refl seventh in
    let ninth = command_added _ _ c.with_command-program-8.result c.snapshot_command.result
    c.with_command-program-9.result
    c.with_command-program-9.ensures c.snapshot_command.ensures refl eighth in
    let tenth = command_added _ _ c.with_command-program-9.result c.restore_command.result
    c.with_command-program-10.result
    c.with_command-program-10.ensures c.restore_command.ensures refl ninth in
    let eleventh = command_added _ _ c.with_command-program-10.result c.script_command.result
    c.with_command-program-11.result
    c.with_command-program-11.ensures c.script_command.ensures refl tenth in
    command_added _ _ c.with_command-program-11.result c.replay_command.result c.with_command.result
    c.with_command.ensures
    c.replay_command.ensures refl eleventh
