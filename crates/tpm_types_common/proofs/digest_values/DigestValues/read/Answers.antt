use Rattle.tpm_types_common.specs.DigestValues.{IsDigestValues, digest_values_at, digest_values_text}
use Rattle.tpm_types_common.specs.declared.digest_values.DigestValues.{DigestValues}
use Rattle.tpm_types_common.proofs.Laws.{read_found, read_only}
use Rattle.tpm_types_common.proofs.ValuesLaws.{digest_values_again, digest_values_takes}
use Rattle.tpm_types_common.proofs.digest_values.DigestValues.read.Goals as goal

pub returns-clause-found : goal.returns-clause-found
returns-clause-found c =
    read_found (λ (digests : DigestValues). digests.values.items) digest_values_at
    digest_values_text IsDigestValues digest_values_takes c.args.text.now c.read_fields.result
    c.read_fields.new.text c.read_fields.ensures.bytes c.read_fields.ensures.exact

pub returns-clause-only : goal.returns-clause-only
returns-clause-only c =
    λ values rest is spelled. read_only (λ (digests : DigestValues). digests.values.items)
    digest_values_at c.args.text.now _ values rest c.read_fields.result c.read_fields.new.text
    (digest_values_again values rest is) spelled c.read_fields.ensures.exact
