use Rattle.std.proofs.Common.{◌≡◌, ◌+◌, ◌*◌, ◌≤◌, ◌++◌, length, take}
use Rattle.tpm_types_common.specs.DigestValues.{values_text}
use Rattle.tpm_types_common.proofs.digest_values.append_values.Given as goal

-- The loop has written the digests before this index, each in at most 34 bytes.
abbrev pub invariant-loop-value : goal.invariant-loop-value
invariant-loop-value g l = record {
  so_far : l.sink ≡ l.fn.sink ++ values_text (take l.value-index l.values);
  small : length l.sink ≤ length l.fn.sink + 34 * l.value-index;
  room : length l.fn.sink + 34 * length l.values ≤ g.row.N;
}
