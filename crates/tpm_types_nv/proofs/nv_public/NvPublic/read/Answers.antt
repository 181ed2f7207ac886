use Rattle.tpm_types_common.proofs.Laws.{spelled_found, spelled_only}
use Rattle.tpm_types_nv.specs.declared.nv_public.NvPublic.{NvPublic}
use Rattle.tpm_types_nv.proofs.NvPublicLaws.{nv_public_spelled}
use Rattle.tpm_types_nv.proofs.nv_public.NvPublic.read.Goals as goal

pub returns-clause-found : goal.returns-clause-found
returns-clause-found c =
    spelled_found nv_public_spelled (λ (x : NvPublic). x) c.args.text.now c.read_fields.result
    c.read_fields.new.text c.read_fields.ensures.bytes c.read_fields.ensures.exact

pub returns-clause-only : goal.returns-clause-only
returns-clause-only c = λ x rest is spelled. spelled_only nv_public_spelled (λ (x : NvPublic). x)
    c.args.text.now x rest c.read_fields.result c.read_fields.new.text is spelled
    c.read_fields.ensures.exact
