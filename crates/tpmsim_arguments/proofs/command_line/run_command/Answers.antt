use Rattle.std.proofs.Common.{◌≡◌, rules, ap, codes}
use Rattle.std.proofs.lemmas.Result.{IfOk-weaker}
use Rattle.clap.specs.Words.{App, rule_of}
use Rattle.tpmsim_arguments.specs.CommandLine.{choice, flag}
use Rattle.tpmsim_arguments.proofs.Commands.{argument_added}
use Rattle.tpmsim_arguments.proofs.command_line.run_command.Goals as goal

pub returns : goal.returns
returns c =
    let trace_is : rule_of c.flag.result ≡ flag (codes "trace") = search rules in
    let complete_is : rule_of c.flag-2.result ≡ flag (codes "complete") = search rules in
    let image_is : rule_of c.choice.result ≡ choice (codes "image") = search rules in
    let state_is : rule_of c.choice-2.result ≡ choice (codes "state") = search rules in
    let keep_is : rule_of c.choice-3.result ≡ choice (codes "keep") = search rules in
    let entropy_is : rule_of c.choice-4.result ≡ choice (codes "entropy") = search rules in
    let first = argument_added c.in_ok-arg.ensures c.flag.ensures.local
    c.run_without_options.ensures trace_is in
    let second = argument_added c.in_ok-arg-2.ensures c.flag-2.ensures.local first complete_is in
    let third = argument_added c.in_ok-arg-3.ensures c.choice.ensures.local second image_is in
    let fourth = argument_added c.in_ok-arg-4.ensures c.choice-2.ensures.local third state_is in
    let fifth = argument_added c.in_ok-arg-5.ensures c.choice-3.ensures.local fourth keep_is in
    let sixth = argument_added c.in_ok-arg-6.ensures c.choice-4.ensures.local fifth entropy_is in
    IfOk-weaker c.arg-7.result _ _ (λ command added.
    ap (λ (app : App). app.top)
    (argument_added added c.optional_operand.ensures.local sixth
    c.optional_operand.ensures.rule)) c.arg-7.ensures
