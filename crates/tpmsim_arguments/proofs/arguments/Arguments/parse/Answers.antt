use Rattle.std.proofs.Common.{◌≡◌, ◌∙◌, rules, ap, subst, map, List, [], ok_or}
use Rattle.clap.specs.Words.{App, HasKind, Text, app_of, fault_of, is_simple, is_simple_and_free, kind_of, subcommand_of, subcommand_rows_of}
use Rattle.tpm_bytes.specs.Reading.{Gives}
use Rattle.tpmsim_arguments.specs.Invocation.{asked_in, invocation_of}
use Rattle.tpmsim_arguments.specs.CommandLine.{program}
use Rattle.tpmsim_arguments.specs.declared.fault.ArgumentFault.TheVariants.{Usage}
use Rattle.tpmsim_arguments.proofs.Answering.{program_is_free, program_is_simple, refused, taken, told}
use Rattle.tpmsim_arguments.proofs.arguments.Arguments.parse.Goals as goal

pub returns-in-Ok : goal.returns-in-Ok
returns-in-Ok g c =
    let words : List Text = map g.S.AsStr.text c.args.words.now in
    let app_is : app_of c.in_ok-command.field-0 ≡ program = c.in_ok-command.ensures in
    let right : fault_of program words ≡ [] =
    subst (λ (app : App). fault_of app words ≡ []) app_is
    (c.in-Ok.ensures.kinds (ap is_simple_and_free app_is ∙ program_is_free)) in
    let entered = (c.in-Ok.ensures.matches (ap is_simple app_is ∙ program_is_simple)).1 in
    let found : subcommand_rows_of c.in-Ok.matches ≡ subcommand_of program words =
    entered ∙ ap (λ (app : App). subcommand_of app words) app_is in
    taken words c.of_matches.result right
    (subst (λ found. Gives invocation_of (ok_or (asked_in found) Usage) c.of_matches.result) found
    c.of_matches.ensures)

pub returns-in-Err : goal.returns-in-Err
returns-in-Err g c =
    let words : List Text = map g.S.AsStr.text c.args.words.now in
    let app_is : app_of c.in_ok-command.field-0 ≡ program = c.in_ok-command.ensures in
    let has : HasKind (fault_of program words) c.in-Err.error =
    subst (λ (app : App). HasKind (fault_of app words) c.in-Err.error) app_is
    (c.in-Err.ensures.kinds (ap is_simple_and_free app_is ∙ program_is_free)) in
    let mistake = c.use_stderr.ensures.0 (search rules) in
    refused words (kind_of c.in-Err.error) c.from.result c.from.ensures has mistake.0 mistake.1

pub returns-in-Err-2 : goal.returns-in-Err-2
returns-in-Err-2 g c =
    let words : List Text = map g.S.AsStr.text c.args.words.now in
    let app_is : app_of c.in_ok-command.field-0 ≡ program = c.in_ok-command.ensures in
    let has : HasKind (fault_of program words) c.in-Err.error =
    subst (λ (app : App). HasKind (fault_of app words) c.in-Err.error) app_is
    (c.in-Err.ensures.kinds (ap is_simple_and_free app_is ∙ program_is_free)) in
    let no = c.if-use_stderr.false in
    told words (kind_of c.in-Err.error) has (λ both. let yes = c.use_stderr.ensures.1 both in cc)
