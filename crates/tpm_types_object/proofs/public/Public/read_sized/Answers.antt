use Rattle.tpm_types_object.specs.declared.public.Public.{Public}
use Rattle.tpm_types_common.proofs.Laws.{spelled_found, spelled_only}
use Rattle.tpm_types_object.proofs.PublicLaws.{sized_public_spelled}
use Rattle.tpm_types_object.proofs.public.Public.read_sized.Goals as goal

pub returns-clause-found : goal.returns-clause-found
returns-clause-found c =
    spelled_found sized_public_spelled (λ (x : Public). x) c.args.text.now c.read_filled.result
    c.read_filled.new.text c.read_filled.ensures.bytes c.read_filled.ensures.exact

pub returns-clause-only : goal.returns-clause-only
returns-clause-only c = λ x rest is spelled. spelled_only sized_public_spelled (λ (x : Public). x)
    c.args.text.now x rest c.read_filled.result c.read_filled.new.text is spelled
    c.read_filled.ensures.exact
