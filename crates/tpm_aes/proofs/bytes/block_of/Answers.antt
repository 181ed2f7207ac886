use Rattle.std.proofs.Common.{ap, rules, sym}
use Rattle.tpm_aes.proofs.Words.{four_words}
use Rattle.tpm_aes.proofs.bytes.block_of.Goals as goal
use Rattle.tpm_aes.specs.Words.{bytes_of}

pub returns : goal.returns
returns c =
    rw (
      c.to_le_bytes.ensures,
      c.to_le_bytes-2.ensures,
      c.to_le_bytes-3.ensures,
      c.to_le_bytes-4.ensures,
    )
    (sym (ap bytes_of (four_words c.args.words (search rules))))
