use Rattle.std.proofs.Common.{ℕ, ◌++◌, length}
use Rattle.std.proofs.lemmas.List.{drop-replicate}
use Rattle.tpm_sequence.proofs.authorization.followed_by_zeros.Goals as goal

pub returns : goal.returns
returns c =
    let bytes = c.args.bytes.now in
    let zero : ℕ = 0 in
    (λ i. c.copy_from_slice.ensures.after i ++ drop-replicate (length bytes) 32 zero i)
