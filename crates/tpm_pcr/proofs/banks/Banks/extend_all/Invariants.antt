use Rattle.std.proofs.Common.{◌≡◌, ◌+◌, ◌<◌, ◌^◌, fold, length, take}
use Rattle.tpm_pcr.specs.Changes.{with_extension}
use Rattle.tpm_pcr.proofs.banks.Banks.extend_all.Given as goal

-- The PCR was extended with each digest visited so far, and each extension was counted as an
-- update.
abbrev pub invariant-loop-digest : goal.invariant-loop-digest
invariant-loop-digest l = record {
  so_far : l.self ≡ fold (with_extension l.pcr) l.fn.self (take l.digest-index l.digests);
  counted : l.self.update_count ≡ l.fn.self.update_count + l.digest-index;
  room : l.fn.self.update_count + length l.digests < 2 ^ 64;
}
