use Rattle.std.proofs.Common.{◌≡◌, rules, ap, codes}
use Rattle.std.proofs.lemmas.Result.{IfOk-weaker}
use Rattle.clap.specs.Words.{App, rule_of}
use Rattle.tpmsim_arguments.specs.CommandLine.{choice, flag, setting}
use Rattle.tpmsim_arguments.proofs.Commands.{argument_added}
use Rattle.tpmsim_arguments.proofs.command_line.serve_command.Goals as goal

pub returns : goal.returns
returns c =
    let socket_is : rule_of c.setting.result ≡ setting (codes "socket") = search rules in
    let image_is : rule_of c.choice.result ≡ choice (codes "image") = search rules in
    let log_is : rule_of c.choice-2.result ≡ choice (codes "log") = search rules in
    let state_is : rule_of c.choice-3.result ≡ choice (codes "state") = search rules in
    let keep_is : rule_of c.choice-4.result ≡ choice (codes "keep") = search rules in
    let complete_is : rule_of c.flag.result ≡ flag (codes "complete") = search rules in
    let entropy_is : rule_of c.choice-5.result ≡ choice (codes "entropy") = search rules in
    let locality_is : rule_of c.choice-6.result ≡ choice (codes "locality") = search rules in
    let connections_is : rule_of c.choice-7.result ≡ choice (codes "connections") = search rules in
    let save_is : rule_of c.flag-2.result ≡ flag (codes "save-each") = search rules in
    let first = argument_added c.in_ok-arg.ensures c.setting.ensures.local
    c.serve_without_options.ensures socket_is in
    let second = argument_added c.in_ok-arg-2.ensures c.choice.ensures.local first image_is in
    let third = argument_added c.in_ok-arg-3.ensures c.choice-2.ensures.local second log_is in
    let fourth = argument_added c.in_ok-arg-4.ensures c.choice-3.ensures.local third state_is in
    let fifth = argument_added c.in_ok-arg-5.ensures c.choice-4.ensures.local fourth keep_is in
    let sixth = argument_added c.in_ok-arg-6.ensures c.flag.ensures.local fifth complete_is in
    let seventh = argument_added c.in_ok-arg-7.ensures c.choice-5.ensures.local sixth entropy_is in
    let eighth = argument_added c.in_ok-arg-8.ensures c.choice-6.ensures.local seventh
    locality_is in
    let ninth = argument_added c.in_ok-arg-9.ensures c.choice-7.ensures.local eighth
    connections_is in
    IfOk-weaker c.arg-10.result _ _ (λ command added.
    ap (λ (app : App). app.top) (argument_added added c.flag-2.ensures.local ninth save_is))
    c.arg-10.ensures
