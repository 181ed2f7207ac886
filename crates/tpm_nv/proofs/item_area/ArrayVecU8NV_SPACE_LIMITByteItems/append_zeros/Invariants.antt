use Rattle.std.proofs.Common.{◌≡◌, ◌++◌, replicate}
use Rattle.tpm_nv.proofs.item_area.ArrayVecU8NV_SPACE_LIMITByteItems.append_zeros.Given as goal

abbrev pub invariant-loop : goal.invariant-loop
invariant-loop l = l.self.items ≡ l.initial.self.items ++ replicate l.counter 0
