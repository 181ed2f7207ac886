use Rattle.std.proofs.Common.{◌≡◌, ◌∙◌}
use Rattle.tpm_types_common.specs.AuthValue.{trimmed}
use Rattle.tpm_types_common.proofs.Trimming.{trimmed_twice}
use Rattle.tpm_types_common.proofs.auth_value.AuthValue.of.Goals as goal

pub invariant_of-result : goal.invariant_of-result
invariant_of-result c =
    let same : c.copied.result.items ≡ trimmed c.args.bytes.now =
    c.copied.ensures.value ∙ c.trimmed.ensures.value in
    rw same (trimmed_twice c.args.bytes.now)
