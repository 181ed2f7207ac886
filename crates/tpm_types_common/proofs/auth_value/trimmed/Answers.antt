use Rattle.std.proofs.Common.{length, ap, sym, ◌∙◌, arith, rules}
use Rattle.std.proofs.lemmas.List.{take_all}
use Rattle.tpm_types_common.specs.AuthValue.{trimmed}
use Rattle.tpm_types_common.proofs.Trimming.{front_shorter, front_stays, trimmed_none}
use Rattle.tpm_types_common.proofs.auth_value.trimmed.Goals as goal
use Rattle.tpm_types_common.proofs.auth_value.trimmed.Goals.{then-loop-size-test+else-bytes-size-eq0, else-loop-size-test}

pub loop-size-init : goal.loop-size-init
loop-size-init c =
    (omega arith, ap trimmed (take_all (length c.args.bytes.now) c.args.bytes.now (omega arith)))

pub loop-size-preserved : goal.loop-size-preserved
loop-size-preserved c = (
  omega arith,
  sym (front_shorter c.args.bytes.now c.loop-size.size (omega arith) c.loop-size.invariant.0
      (search rules)) ∙ c.loop-size.invariant.1,
)

pub returns-clause-value : goal.returns-clause-value
returns-clause-value c =
    elim c.loop-size-test.branch [
      | then-loop-size-test+else-bytes-size-eq0 w ↦
          sym (front_stays c.args.bytes.now c.loop-size.size (omega arith) c.loop-size.invariant.0
          (search rules)) ∙ c.loop-size.invariant.1
      | else-loop-size-test w ↦ sym (trimmed_none c.args.bytes.now c.loop-size.size (omega arith))
          ∙ c.loop-size.invariant.1
    ]
