use Rattle.std.proofs.Common.{◌∙◌}
use Rattle.tpm_object.proofs.Wrapping.{unwrapped_only}
use Rattle.tpm_object.proofs.private_area.unwrap.Goals as goal

pub returns-clause-only : goal.returns-clause-only
returns-clause-only c = λ area is.
    c.unwrap_named.ensures.value ∙ unwrapped_only c.args.parent.now c.args.public.now
    c.args.private.now area is
