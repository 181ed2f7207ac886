use Rattle.std.proofs.Common.{◌≡◌, ◌≤◌, length, map, take}
use Rattle.tpm_types_common.specs.DigestList.{digests_of}
use Rattle.tpm_types_common.proofs.digest_list.copied.Given as goal

-- The loop has copied the digests before this index.
abbrev pub invariant-loop-one : goal.invariant-loop-one
invariant-loop-one l = record {
  so_far : digests_of l.digests.items ≡ map (λ one. one.bytes.now) (take l.one-index l.listed);
  size : length l.digests.items ≡ l.one-index;
  few : length l.listed ≤ 8;
}
