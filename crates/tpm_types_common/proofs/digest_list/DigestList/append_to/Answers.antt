use Rattle.std.proofs.Common.{◌++◌, List, ℕ, ap, ◌∙◌}
use Rattle.tpm_types_common.specs.DigestList.{digests_of, digests_text}
use Rattle.tpm_types_common.proofs.DigestLemmas.{digest_list_written}
use Rattle.tpm_types_common.proofs.digest_list.DigestList.append_to.Goals as goal

pub returns-clause-written : goal.returns-clause-written
returns-clause-written g c =
    let digests = c.as_slice-digests.result.now in
    rw (← c.as_slice-digests.ensures.value)
    (c.append_digests.ensures.written
    ∙ ap (λ (l : List ℕ). l ++ digests_text (digests_of digests)) c.append_u32.ensures
    ∙ digest_list_written digests c.args.sink.now)
