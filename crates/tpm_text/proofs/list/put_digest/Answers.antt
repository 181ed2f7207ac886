use Rattle.std.proofs.Common.{rules, length, ◌*◌}
use Rattle.std.proofs.lemmas.Bool.{eq-eqb}
use Rattle.tpm_mac.specs.Digest.{digest_size}
use Rattle.tpm_types_common.specs.Algorithm.{hash_number}
use Rattle.std.specs.Int.{w16, to_be_bytes}
use Rattle.tpm_text.specs.Parameter.{digest_word_text}
use Rattle.tpm_text.proofs.Growing.{drafted_behind}
use Rattle.tpm_text.proofs.list.put_digest.Goals as goal

pub returns : goal.returns
unfolding digest_word_text
returns c =
    rw (
      c.in_ok-hash.ensures,
      eq-eqb (length c.in_ok-hash.digits.now)
          (2 * digest_size c.in_ok-hash.hash) (search rules),
    )
    (drafted_behind (to_be_bytes w16 (hash_number c.in_ok-hash.hash)) _ _ _ _ _ (search rules)
    c.put_hex.ensures)
