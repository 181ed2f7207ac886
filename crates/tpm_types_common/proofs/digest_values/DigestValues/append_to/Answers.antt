use Rattle.std.proofs.Common.{◌++◌, List, ℕ, ap, ◌∙◌}
use Rattle.tpm_types_common.specs.DigestValues.{values_text}
use Rattle.tpm_types_common.proofs.ValuesLemmas.{values_list_written}
use Rattle.tpm_types_common.proofs.digest_values.DigestValues.append_to.Goals as goal

pub returns-clause-written : goal.returns-clause-written
returns-clause-written g c =
    let values = c.as_slice-values.result.now in
    rw (← c.as_slice-values.ensures.value)
    (c.append_values.ensures.written
    ∙ ap (λ (l : List ℕ). l ++ values_text values) c.append_u32.ensures
    ∙ values_list_written values c.args.sink.now)
