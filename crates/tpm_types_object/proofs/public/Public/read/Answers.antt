use Rattle.tpm_types_object.specs.declared.public.Public.{Public}
use Rattle.tpm_types_common.proofs.Laws.{spelled_found, spelled_only}
use Rattle.tpm_types_object.proofs.PublicLaws.{public_spelled}
use Rattle.tpm_types_object.proofs.public.Public.read.Goals as goal

pub returns-clause-found : goal.returns-clause-found
returns-clause-found c =
    spelled_found public_spelled (λ (x : Public). x) c.args.text.now c.read_fields.result
    c.read_fields.new.text c.read_fields.ensures.bytes c.read_fields.ensures.exact

pub returns-clause-only : goal.returns-clause-only
returns-clause-only c = λ x rest is spelled. spelled_only public_spelled (λ (x : Public). x)
    c.args.text.now x rest c.read_fields.result c.read_fields.new.text is spelled
    c.read_fields.ensures.exact
