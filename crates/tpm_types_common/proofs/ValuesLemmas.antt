-- A loop over digests with their algorithms writes the encoding of the list.
use Rattle.std.proofs.Common.{◌≡◌, ℕ, ◌+◌, ◌<◌, List, [], ◌++◌, length, take, get_or, refl, ap, sym, ◌∙◌, append_assoc, arith}
use Rattle.std.proofs.lemmas.Grind.{common_steps}
use Rattle.std.proofs.lemmas.List.{take_more}
use Rattle.std.specs.Int.{w32, to_be_bytes}
use Rattle.tpm_types_common.specs.declared.digest_values.DigestValue.{DigestValue}
use Rattle.tpm_types_common.specs.DigestValues.{digest_value_text, digest_values_text, values_text}

pub values_text-nil : values_text [] ≡ []
unfolding values_text
values_text-nil = refl

values_text_more : (values : List DigestValue) (i : ℕ) (d : DigestValue) → i < length values
    → values_text (take (i + 1) values) ≡ values_text (take i values)
    ++ digest_value_text (get_or values i d)
unfolding values_text
values_text_more values i d below = rw (take_more values i d below) (grind (arith, common_steps))

-- Writing one more digest appends its encoding to the encoding of the previous digests.
pub value_written : (values : List DigestValue) (i : ℕ) (d : DigestValue)
    (start so_far new : List ℕ) → i < length values → so_far ≡ start ++ values_text (take i values)
    → new ≡ so_far ++ digest_value_text (get_or values i d)
    → new ≡ start ++ values_text (take (i + 1) values)
value_written values i d start so_far new below so wrote =
    let text = digest_value_text (get_or values i d) in
    wrote
    ∙ ap (λ (l : List ℕ). l ++ text) so
    ∙ append_assoc start (values_text (take i values)) text
    ∙ ap (λ (l : List ℕ). start ++ l) (sym (values_text_more values i d below))

-- the encoding of a list is the number of digests, followed by the encoded digests
pub values_list_written : (values : List DigestValue) (start : List ℕ)
    → start ++ to_be_bytes w32 (length values) ++ values_text values
    ≡ start ++ digest_values_text values
unfolding digest_values_text
values_list_written values start =
    append_assoc start (to_be_bytes w32 (length values)) (values_text values)
