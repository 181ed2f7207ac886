-- When a sequence completes, the answer depends only on all its data.
use Rattle.std.proofs.Common.{ℕ, Bool, List, [], ◌∷◌, Option, Some, ap, ap₂, ◌∙◌}
use Rattle.std.specs.Prelude.{if◌then◌else◌}
use Rattle.tpm_hash_state.proofs.Absorbing.{digest_is_hash}
use Rattle.tpm_hash_state.proofs.HmacLaws.{hmac_is_hmac}
use Rattle.tpm_mac.specs.declared.algorithm.HashAlg.TheVariants as alg
use Rattle.tpm_sequence.proofs.BeginningLaws.{records_generated}
use Rattle.tpm_sequence.proofs.SequenceLaws.{hash_sequence_records_beginning, updates_in_parts}
use Rattle.tpm_sequence.specs.Meaning.{joined_parts}
use Rattle.tpm_sequence.specs.Sequence.{event_sequence, hmac_sequence}
use Rattle.tpm_types_common.specs.DigestValues.{digest_values_text}
use Rattle.tpm_types_common.specs.declared.digest_values.DigestValue.TheVariants.{Sha1, Sha256}
use Rattle.tpm_types_common.specs.declared.handle.HierarchyHandle.TheVariants as kind
use Rattle.tpm_completion.specs.Hashing.{ticketed_text}
use Rattle.tpm_completion.specs.Sending.{digests_text}
use Rattle.tpm_completion.specs.SequenceRows.{completion_text}
use Rattle.tpm_completion.specs.Sequenced.{CompletesAsEvent, CompletesAsHash, CompletesAsHmac}

pub completes_as_hash : CompletesAsHash
completes_as_hash h asked hash parts =
    ap (completion_text h asked) (hash_sequence_records_beginning hash parts)
    ∙ ap₂ (λ (generated : Bool) (digest : List ℕ). let z : Option (List ℕ) =
    Some (ticketed_text h (if generated then kind.Null else asked) digest) in z)
    (records_generated (joined_parts parts)) (digest_is_hash hash (joined_parts parts))

pub completes_as_hmac : CompletesAsHmac
completes_as_hmac h asked hash key parts =
    ap (completion_text h asked) (updates_in_parts (hmac_sequence hash key) parts)
    ∙ ap (λ (mac : List ℕ). let z : Option (List ℕ) = Some (ticketed_text h kind.Null mac) in z)
    (hmac_is_hmac hash key (joined_parts parts))

pub completes_as_event : CompletesAsEvent
completes_as_event parts =
    ap digests_text (updates_in_parts event_sequence parts)
    ∙ ap₂ (λ (one two : List ℕ). let z : Option (List ℕ) =
    Some (digest_values_text (Sha1 one ∷ Sha256 two ∷ [])) in z)
    (digest_is_hash alg.Sha1 (joined_parts parts)) (digest_is_hash alg.Sha256 (joined_parts parts))
