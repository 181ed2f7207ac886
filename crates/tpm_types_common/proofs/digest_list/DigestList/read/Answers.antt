use Rattle.tpm_types_common.specs.DigestList.{IsDigestList, digest_list_at, digest_list_text, digests_of}
use Rattle.tpm_types_common.specs.declared.digest_list.DigestList.{DigestList}
use Rattle.tpm_types_common.proofs.Laws.{read_found, read_only}
use Rattle.tpm_types_common.proofs.DigestListLaws.{digest_list_takes, digest_list_again}
use Rattle.tpm_types_common.proofs.digest_list.DigestList.read.Goals as goal

pub returns-clause-found : goal.returns-clause-found
returns-clause-found c =
    read_found (λ (list : DigestList). digests_of list.digests.items) digest_list_at
    digest_list_text IsDigestList digest_list_takes c.args.text.now c.read_fields.result
    c.read_fields.new.text c.read_fields.ensures.bytes c.read_fields.ensures.exact

pub returns-clause-only : goal.returns-clause-only
returns-clause-only c =
    λ digests rest is spelled. read_only (λ (list : DigestList). digests_of list.digests.items)
    digest_list_at c.args.text.now _ digests rest c.read_fields.result c.read_fields.new.text
    (digest_list_again digests rest is) spelled c.read_fields.ensures.exact
