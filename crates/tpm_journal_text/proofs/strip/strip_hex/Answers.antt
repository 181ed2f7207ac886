use Rattle.std.proofs.Common.{arith, ◌≡◌, ◌*◌, false, true, length, take, ap, sym, ◌∙◌, length-append}
use Rattle.std.proofs.lemmas.List.{take_at}
use Rattle.hex.specs.Hex.{encode_lower, lower_digits}
use Rattle.hex.proofs.HexLemmas.{length-encode_with}
use Rattle.tpm_journal_text.proofs.Pieces.{same_is_equal}
use Rattle.tpm_journal_text.proofs.strip.strip_hex.Goals as goal

pub returns-then-text-bytes-clause-none : goal.returns-then-text-bytes-clause-none
returns-then-text-bytes-clause-none c rest there =
    omega (
      arith,
      ap length there,
      length-append (encode_lower c.args.bytes.now) rest,
      length-encode_with lower_digits c.args.bytes.now,
      c.if-text-bytes.true,
    )

pub returns-else-is_hex_of-clause-none : goal.returns-else-is_hex_of-clause-none
returns-else-is_hex_of-clause-none c rest there =
    let many = 2 * length c.args.bytes.now in
    let same = c.split_at.ensures.front ∙ ap (take many) there
    ∙ take_at (encode_lower c.args.bytes.now) rest many
    (length-encode_with lower_digits c.args.bytes.now) in
    let no : true ≡ false = sym (c.is_hex_of.ensures ∙ same_is_equal _ _ same)
    ∙ c.if-is_hex_of.false in
    absurd cc
