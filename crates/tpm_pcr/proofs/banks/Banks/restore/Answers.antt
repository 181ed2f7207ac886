use Rattle.std.proofs.Common.{rules, ℕ, List, subst, sym}
use Rattle.tpm_pcr.specs.Saved.{IsSavedBank}
use Rattle.tpm_pcr.proofs.Restoring.{restored_bank}
use Rattle.tpm_pcr.proofs.banks.Banks.restore.Goals as goal

pub invariant_of-self-inside : goal.invariant_of-self-inside
invariant_of-self-inside c = (
  restored_bank 20 c.copy_from_slice.new.self c.self.inside.sha1
      (subst (IsSavedBank 20) (search rules) c.saved.inside.is_sha1) c.self.inside.is_sha1,
  (
    restored_bank 32 c.copy_from_slice-2.new.self c.self.inside.sha256
        (subst (IsSavedBank 32) (search rules) c.saved.inside.is_sha256) c.self.inside.is_sha256,
    tt,
  ),
)
