-- How PCRs change. TPM 2.0 Library, Part 3, sections 22.2 (TPM2_PCR_Extend), 22.3 (TPM2_PCR_Event)
-- and 22.8 (TPM2_PCR_Reset); and the effect of 24.6 (TPM2_Clear) on the update counter. The use of
-- each PCR follows the PC Client Platform TPM Profile (section on PCR attributes). Two things are
-- choices of this implementation, which are simpler than the profile's rules: from which localities
-- each PCR may be changed, and that every new value counts as an update.
use Rattle.std.specs.Prelude.{◌≡◌, ℕ, ◌+◌, ◌-◌, ◌^◌, ◌==◌, not, nat_lt, nat_le, if◌then◌else◌}
use Rattle.std.specs.Prelude.{Bool, true, false, List, [], ◌∷◌, ◌++◌, length, fold}
use Rattle.std.specs.Prelude.{replicate, slice_set, Result, Ok, Err}
use Rattle.tpm_bytes.specs.Reading.{◌>>=◌, refused_if}
use Rattle.tpm_mac.specs.declared.algorithm.HashAlg.{HashAlg}
use Rattle.tpm_mac.specs.declared.algorithm.HashAlg.TheVariants as alg
use Rattle.tpm_mac.specs.Digest.{hash_of}
use Rattle.tpm_types_common.specs.declared.digest_values.DigestValue.{DigestValue}
use Rattle.tpm_types_common.specs.declared.digest_values.DigestValues.{DigestValues}
use Rattle.tpm_types_common.specs.declared.digest_values.DigestValue.TheVariants.{Sha1, Sha256}
use Rattle.tpm_types_common.specs.DigestValues.{digest_of, hash_of_value}
use Rattle.tpm_pcr.specs.Banks.{pcr_value}
use Rattle.tpm_pcr.specs.Values.{BankValues}
use Rattle.tpm_pcr.specs.declared.changes.ChangeFault.{ChangeFault}
use Rattle.tpm_pcr.specs.declared.changes.ChangeFault.TheVariants as fault
use Rattle.tpm_pcr.specs.declared.changes.PcrUse.{PcrUse}
use Rattle.tpm_pcr.specs.declared.changes.PcrUse.TheVariants.{Static, Debug, Dynamic, Application}

-- the use of a PCR: 0 to 15 measure the platform's startup, 16 is for debugging, 17 to 22 measure
-- a dynamic launch, and 23 is for applications
abbrev pub use_of : ℕ → PcrUse
use_of pcr =
    if nat_lt pcr 16 then Static
    else (if pcr == 16 then Debug
    else (if nat_lt pcr 23 then Dynamic
    else Application))

-- whether a PCR with this use may be extended from a locality
abbrev pub may_extend : PcrUse → ℕ → Bool
may_extend Static locality = true
may_extend Debug locality = true
may_extend Dynamic locality = nat_le 2 locality
may_extend Application locality = true

-- whether a PCR with this use may be reset from a locality
abbrev pub may_reset : PcrUse → ℕ → Bool
may_reset Static locality = false
may_reset Debug locality = true
may_reset Dynamic locality = locality == 4
may_reset Application locality = true

-- the banks after a PCR's value in one bank was replaced, which counts as an update
abbrev pub with_value : HashAlg → ℕ → List ℕ → BankValues → BankValues
with_value alg.Sha1 pcr value banks = record banks {
  sha1 = slice_set banks.sha1 pcr value;
  update_count = banks.update_count + 1;
}
with_value alg.Sha256 pcr value banks = record banks {
  sha256 = slice_set banks.sha256 pcr value;
  update_count = banks.update_count + 1;
}

-- the banks after a PCR was extended with a digest: its value is the hash of its old value followed
-- by the digest
unfoldable pub with_extension : ℕ → BankValues → DigestValue → BankValues
with_extension pcr banks digest =
    let hash = hash_of_value digest in
    with_value hash pcr (hash_of hash (pcr_value banks hash pcr ++ digest_of digest)) banks

-- the value of a PCR in a bank after it is extended with a digest; unchanged if the digest's hash
-- algorithm is not the bank's
abbrev pub value_extended : HashAlg → List ℕ → DigestValue → List ℕ
value_extended alg.Sha1 old (Sha1 digest) = hash_of alg.Sha1 (old ++ digest)
value_extended alg.Sha1 old (Sha256 digest) = old
value_extended alg.Sha256 old (Sha1 digest) = old
value_extended alg.Sha256 old (Sha256 digest) = hash_of alg.Sha256 (old ++ digest)

-- checks a change that counts as this number of updates: fails if the change is not allowed from
-- the locality, or if the update counter would exceed 2^64 - 1
abbrev pub change_check : Bool → ℕ → BankValues → Result (Unit {0}) ChangeFault
change_check may updates banks = do
  locality ← refused_if (not may) fault.Locality
  refused_if (nat_lt (2 ^ 64 - 1) (banks.update_count + updates)) fault.Failure

-- the banks after TPM2_PCR_Extend, which extends a PCR with each digest in turn
unfoldable pub extend_of : ℕ → ℕ → List DigestValue → BankValues → Result BankValues ChangeFault
extend_of pcr locality digests banks = do
  passed ← change_check (may_extend (use_of pcr) locality) (length digests) banks
  Ok (fold (with_extension pcr) banks digests)

-- the digests of TPM2_PCR_Event: the digests of its data, one for each bank
abbrev pub event_digests : List ℕ → List DigestValue
event_digests event = Sha1 (hash_of alg.Sha1 event) ∷ Sha256 (hash_of alg.Sha256 event) ∷ []

-- the banks after TPM2_PCR_Reset, which sets a PCR to zeros in both banks
unfoldable pub reset_of : ℕ → ℕ → BankValues → Result BankValues ChangeFault
reset_of pcr locality banks = do
  passed ← change_check (may_reset (use_of pcr) locality) 2 banks
  Ok (with_value alg.Sha256 pcr (replicate 32 0) (with_value alg.Sha1 pcr (replicate 20 0) banks))

-- the banks after TPM2_Clear, which changes no value but counts as an update
unfoldable pub clear_counted : BankValues → Result BankValues ChangeFault
clear_counted banks = do
  passed ← change_check true 1 banks
  Ok (record banks { update_count = banks.update_count + 1 })

-- A change updated the banks as defined, or was refused with the defined fault and changed
-- nothing.
abbrev pub ChangesBanks : Result BankValues ChangeFault
    → BankValues → Result (Unit {0}) ChangeFault → BankValues → Type 0
ChangesBanks change old (Ok u) new = change ≡ Ok new
ChangesBanks change old (Err e) new = (change ≡ Err e) × (new ≡ old)

-- A change updated the banks as defined and returned these digests, or was refused with the defined
-- fault and changed nothing.
abbrev pub AnswersDigests : List DigestValue → Result BankValues ChangeFault
    → BankValues → Result DigestValues ChangeFault → BankValues → Type 0
AnswersDigests digests change old (Ok answer) new =
    (change ≡ Ok new) × (answer.values.items ≡ digests)
AnswersDigests digests change old (Err e) new = (change ≡ Err e) × (new ≡ old)
