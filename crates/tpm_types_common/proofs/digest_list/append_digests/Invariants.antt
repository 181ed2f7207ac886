use Rattle.std.proofs.Common.{◌≡◌, ◌+◌, ◌*◌, ◌≤◌, ◌++◌, length, take}
use Rattle.tpm_types_common.specs.DigestList.{digests_of, digests_text}
use Rattle.tpm_types_common.proofs.digest_list.append_digests.Given as goal

-- The loop has written the digests before this index, each in at most 34 bytes.
abbrev pub invariant-loop-digest : goal.invariant-loop-digest
invariant-loop-digest g l = record {
  so_far : l.sink ≡ l.fn.sink ++ digests_text (digests_of (take l.digest-index l.digests));
  small : length l.sink ≤ length l.fn.sink + 34 * l.digest-index;
  room : length l.fn.sink + 34 * length l.digests ≤ g.row.N;
}
