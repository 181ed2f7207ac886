use Rattle.std.proofs.Common.{refl}
use Rattle.std.proofs.lemmas.Bool.{eq-eqb, le-ltb, lt-ltb, ne_eqb}
use Rattle.tpm_policy.proofs.Numbers.{rest-length, unsigned_less}
use Rattle.tpm_policy.proofs.comparison.+is_less.Goals as goal

pub returns-then-byte-other : goal.returns-then-byte-other
returns-then-byte-other t c = λ same.
    rw (
      unsigned_less _ _ c.in-len1-up.len_at_least same (λ i. (c.type_inv.bytes i).fits)
          (λ i. (c.type_inv.others i).fits),
      lt-ltb _ _ c.if-byte-other.true,
    ) refl

pub returns-then-byte-other-2 : goal.returns-then-byte-other-2
returns-then-byte-other-2 t c = λ same.
    rw (
      unsigned_less _ _ c.in-len1-up.len_at_least same (λ i. (c.type_inv.bytes i).fits)
          (λ i. (c.type_inv.others i).fits),
      le-ltb _ _ c.if-byte-other.false,
      eq-eqb _ _ c.if-byte-other-2.true,
    )
    (c.is_less.ensures (rest-length _ _ same))

pub returns-else-byte-other-2 : goal.returns-else-byte-other-2
returns-else-byte-other-2 t c = λ same.
    rw (
      unsigned_less _ _ c.in-len1-up.len_at_least same (λ i. (c.type_inv.bytes i).fits)
          (λ i. (c.type_inv.others i).fits),
      le-ltb _ _ c.if-byte-other.false,
      ne_eqb _ _ c.if-byte-other-2.false,
    ) refl
