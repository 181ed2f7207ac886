-- Lemmas about a command to which an argument or a subcommand is added.
use Rattle.std.proofs.Common.{◌≡◌, ◌∙◌, ap, ap₂, refl, true, false, not, ◌&&◌, Bool, Result, Ok, Err}
use Rattle.std.specs.Prelude.{IfOk, IsOkAnd}
use Rattle.std.proofs.lemmas.Result.{IfOk-weaker}
use Rattle.clap.specs.Words.{AddsArg, AddsSubcommand, App, Rule, Shape, app_of, rule_of, shape_of, with_rule, with_subcommand}
use Rattle.clap.specs.declared.builder.arg.Arg.{Arg}
use Rattle.clap.specs.declared.builder.command.Command.{Command}

pub argument_added : {old new : Command} {arg : Arg} {app : App} {rule : Rule} → AddsArg old arg new
    → arg.global ≡ false → app_of old ≡ app → rule_of arg ≡ rule → app_of new ≡ with_rule app rule
argument_added added local old_is rule_is = added.shape local ∙ ap₂ with_rule old_is rule_is

third_is_false : (a b g rest : Bool) → (a && (b && (not g && rest))) ≡ true → g ≡ false
third_is_false true true false rest e = refl
third_is_false true true true rest e = absurd cc
third_is_false true false g rest e = absurd cc
third_is_false false b g rest e = absurd cc

pub subcommand_added : {old sub new : Command} {app : App} {shape : Shape}
    → AddsSubcommand old sub new
    → shape.is_plain ≡ true → app_of old ≡ app → shape_of sub ≡ shape
    → app_of new ≡ with_subcommand app shape
subcommand_added added plain old_is shape_is =
    added.shape (third_is_false _ _ _ _ (ap (λ s. s.is_plain) shape_is ∙ plain))
    ∙ ap₂ with_subcommand old_is shape_is

one_added : {E : Type 0} (app : App) (shape : Shape) (given command : Result Command E)
    (new : Command)
    → IsOkAnd given (λ old. IsOkAnd command (λ sub. AddsSubcommand old sub new))
    → IfOk command (λ sub. shape_of sub ≡ shape)
    → shape.is_plain ≡ true → IfOk given (λ old. app_of old ≡ app)
    → app_of new ≡ with_subcommand app shape
one_added app shape (Ok old) (Ok sub) new added shape_is plain old_is =
    subcommand_added added plain old_is shape_is
one_added app shape (Ok old) (Err error) new added shape_is plain old_is = absurd added
one_added app shape (Err error) command new added shape_is plain old_is = absurd added

pub command_added : {E : Type 0} (app : App) (shape : Shape)
    (given command whole : Result Command E)
    → IfOk whole (λ new. IsOkAnd given (λ old. IsOkAnd command (λ sub. AddsSubcommand old sub new)))
    → IfOk command (λ sub. shape_of sub ≡ shape) → shape.is_plain ≡ true
    → IfOk given (λ old. app_of old ≡ app)
    → IfOk whole (λ new. app_of new ≡ with_subcommand app shape)
command_added app shape given command whole added shape_is plain old_is =
    IfOk-weaker whole _ _
    (λ new one. one_added app shape given command new one shape_is plain old_is) added
