use Rattle.std.proofs.Common.{rules, arith, ◌∙◌}
use Rattle.std.proofs.lemmas.Grind.{common_steps}
use Rattle.std.specs.List.{zip}
use Rattle.tpm_types_command.specs.Command.{whole_of}
use Rattle.tpm_step.specs.step.Answer.{text_of}
use Rattle.tpm_machine.proofs.Answering.{answered_with, drawn_few, drawn_in_all}
use Rattle.tpm_machine.proofs.response.write_with_sessions.Goals as goal

pub returns-clause-answer : goal.returns-clause-answer
returns-clause-answer g c =
    let record_of = g.K.Keep.record_of in
    let command = whole_of c.args.authorization.now.command in
    answered_with command c.args.authorization.now.grants.grants.items (text_of c.args.answer.now)
    (record_of c.args.keep.now) c.args.random.now (record_of c.roll_entries.new.keep) _
    command.entries (zip command.entries c.as_slice-grants.result.now)
    c.new-draws.result c.roll_entries.new.draws c.encrypt_answer.new.parameters
    c.as_slice-parameters.result.now c.answer_entries.new.area c.write_with_area.new.text.items
    c.requires.some (search rules) (search rules) (grind (arith, common_steps)) (search rules)
    c.roll_entries.ensures.rolled c.encrypt_answer.ensures.encrypted (search rules) (search rules)
    c.end_entries.ensures

pub returns-clause-drawn : goal.returns-clause-drawn
returns-clause-drawn g c =
    let record_of = g.K.Keep.record_of in
    let entries = (whole_of c.args.authorization.now.command).entries in
    drawn_few (record_of c.args.keep.now) (record_of c.roll_entries.new.keep)
    entries entries c.new-draws.result c.roll_entries.new.draws c.args.random.now
    c.args.answer.now.drawn
    (search rules) (grind (arith, common_steps)) c.roll_entries.ensures.rolled
    c.roll_entries.ensures.drawn (grind (arith, common_steps))

pub returns-clause-count : goal.returns-clause-count
returns-clause-count g c =
    let record_of = g.K.Keep.record_of in
    let entries = (whole_of c.args.authorization.now.command).entries in
    search rules ∙ drawn_in_all (record_of c.args.keep.now) (record_of c.roll_entries.new.keep)
    entries entries c.new-draws.result c.roll_entries.new.draws c.args.random.now
    c.args.answer.now.drawn
    (search rules) (grind (arith, common_steps)) c.roll_entries.ensures.rolled
