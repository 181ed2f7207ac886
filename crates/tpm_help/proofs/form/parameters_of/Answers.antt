use Rattle.std.proofs.Common.{◌≤◌, ℕ, ap, length, subst, sym}
use Rattle.tpm_help.proofs.Few.{few_parameters}
use Rattle.tpm_help.proofs.form.parameters_of.Goals as goal

pub returns-clause-few : goal.returns-clause-few
returns-clause-few c =
    subst (λ (n : ℕ). n ≤ 5) (sym (ap (λ shape. length shape.parameters) c.shape.ensures.value))
    (few_parameters c.args.code)
