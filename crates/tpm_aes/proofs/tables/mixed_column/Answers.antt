use Rattle.std.proofs.Common.{ℕ, List, ap, rules, slice_index_or, sym, ◌∙◌}
use Rattle.tpm_aes.proofs.Entries.{mixed_0_at, mixed_1_at, mixed_2_at, mixed_3_at, mixed_word}
use Rattle.tpm_aes.proofs.Words.{four_words}
use Rattle.tpm_aes.proofs.tables.mixed_column.Goals as goal
use Rattle.tpm_aes.specs.Cipher.{mix_column, sub_bytes}

pub returns : goal.returns
returns c =
    let bytes = c.args.bytes in
    mixed_word _ _ _ _ _ _ _ _
    (mixed_0_at c.from.result (slice_index_or bytes 0 0) c.from.ensures (search rules))
    (mixed_1_at c.from-2.result (slice_index_or bytes 1 0) c.from-2.ensures (search rules))
    (mixed_2_at c.from-3.result (slice_index_or bytes 2 0) c.from-3.ensures (search rules))
    (mixed_3_at c.from-4.result (slice_index_or bytes 3 0) c.from-4.ensures (search rules))
    ∙ sym (ap (λ (bs : List ℕ). mix_column (sub_bytes bs)) (four_words bytes (search rules)))
