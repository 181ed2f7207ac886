use Rattle.std.proofs.Common.{rules, ◌∙◌}
use Rattle.tpm_types_command.specs.Command.{whole_of}
use Rattle.tpm_machine.proofs.Accepting.{refused_draws, row_refused}
use Rattle.tpm_machine.proofs.machine.Machine.perform.Goals as goal

pub returns-in-Err-clause-answer : goal.returns-in-Err-clause-answer
returns-in-Err-clause-answer g c =
    row_refused _ _ _ (whole_of c.args.authorization.now.command) _ c.in-Err.refused _
    c.in-Err.ensures.1 (search rules)

pub returns-in-Err-clause-drawn : goal.returns-in-Err-clause-drawn
returns-in-Err-clause-drawn g c =
    c.requires.none ∙ refused_draws _ _ (whole_of c.args.authorization.now.command) _
    c.in-Err.refused c.refuse.result.check (search rules) c.in-Err.ensures.1
