use Rattle.std.proofs.Common.{arith, ◌≡◌, ◌^◌, ◌*◌, ◌%◌, ◌<◌}
use Rattle.std.proofs.lemmas.Nat.{or_lt, pow_below, shl_whole}
use Rattle.tpm_types_common.proofs.pcr.PcrSelect.insert.Goals as goal

pub invariant_of-self : goal.invariant_of-self
invariant_of-self c =
    let n = c.number.result in
    let small : n < 24 = c.number.ensures.in_range in
    let whole : (1 * 2 ^ n) % 2 ^ 32 ≡ 1 * 2 ^ n = shl_whole 1 1 n 32 (omega arith) (omega arith) in
    or_lt 24 _ _ c.self.invariant
    (rw whole (let h : 2 ^ n < 2 ^ 24 = pow_below n 24 small in omega arith))
