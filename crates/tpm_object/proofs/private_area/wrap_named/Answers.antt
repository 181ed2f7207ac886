use Rattle.std.proofs.Common.{ℕ, List, rules}
use Rattle.tpm_object.proofs.Wrapping.{wrapped_refused, wrapped_undone}
use Rattle.tpm_object.proofs.private_area.wrap_named.Goals as goal
use Rattle.tpm_object.specs.PrivateArea.{private_text}

pub returns-clause-undone : goal.returns-clause-undone
unfolding private_text
returns-clause-undone c = λ public named typed.
    let iv : List ℕ = c.args.iv.now in
    wrapped_undone c.args.parent.now public c.args.name.now iv _ c.args.sensitive.now (search rules)
    (search rules) c.protected_text-protected.ensures.fits named typed

pub returns-clause-other_type : goal.returns-clause-other_type
unfolding private_text
returns-clause-other_type c = λ public named other.
    let iv : List ℕ = c.args.iv.now in
    wrapped_refused c.args.parent.now public c.args.name.now iv _ c.args.sensitive.now
    (search rules)
    (search rules) c.protected_text-protected.ensures.fits named other
