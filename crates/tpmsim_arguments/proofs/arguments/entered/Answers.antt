use Rattle.std.proofs.Common.{◌≡◌, ◌∙◌, ap₂, refl, Option, Some, None, option_map}
use Rattle.clap.specs.Words.{subcommand_name_of, subcommand_rows_of}
use Rattle.clap.specs.declared.parser.matches.ArgMatches.{ArgMatches}
use Rattle.tpmsim_arguments.proofs.arguments.entered.Goals as goal

firsts : {B X Y : Type 0} (f : B → X × Y) (o : Option B)
    → option_map (λ b. (f b).0) o ≡ option_map (λ p. p.0) (option_map f o)
firsts f None = refl
firsts f (Some b) = refl

name_is : (m : ArgMatches) → subcommand_name_of m ≡ option_map (λ p. p.0) (subcommand_rows_of m)
name_is m = firsts _ _

some_is : {X : Type 0} (x y : X) → Some x ≡ Some y → x ≡ y
some_is x y e = cc

pairs : {R X Y : Type 0} (f : R → X) (g : R → Y) (r : Option R) (o : Option (X × Y))
    → option_map f r ≡ option_map (λ p. p.0) o → option_map g r ≡ option_map (λ p. p.1) o
    → option_map (λ p. (f p, g p)) r ≡ o
pairs f g None None e h = refl
pairs f g (Some r) None e h = absurd cc
pairs f g None (Some p) e h = absurd cc
pairs f g (Some r) (Some p) e h = ap₂ (λ x y. Some (x, y)) (some_is _ _ e) (some_is _ _ h)

pub returns : goal.returns
returns c = pairs _ _ c.subcommand.result _ (c.subcommand.ensures.name ∙ name_is _)
    c.subcommand.ensures.rows
