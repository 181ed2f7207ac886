-- The example policies have the digests that are defined for them.
use Rattle.std.proofs.Common.{refl}
use Rattle.sha1.specs.Sha1 as one
use Rattle.sha2.specs.Sha256 as two
use Rattle.tpm_types_common.specs.PcrSelection.{bank_text, banks_text, selection_text}
use Rattle.tpm_policy_meaning.specs.Examples.{ComputesDigests}

pub computes_digests : ComputesDigests
unfolding selection_text banks_text bank_text two.sha256 two.digest_bytes two.hash_after
    two.compress two.rounds two.schedule two.first_words one.sha1 one.digest_bytes one.hash_after
    one.compress one.rounds one.schedule one.first_words
computes_digests = record {
  by_value = refl;
  by_endorsement = refl;
  unsealing = refl;
  by_pcrs_and_value = refl;
  by_either = refl;
  by_count = refl;
}
