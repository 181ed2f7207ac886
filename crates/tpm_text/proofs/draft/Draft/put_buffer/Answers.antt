use Rattle.std.proofs.Common.{rules, arith, ◌/◌, length}
use Rattle.tpm_text.specs.Parameter.{buffer_text}
use Rattle.tpm_text.proofs.Growing.{sized_behind, sized_too_long}
use Rattle.tpm_text.proofs.HexDigits.{half_of}
use Rattle.tpm_text.proofs.draft.Draft.put_buffer.Goals as goal

pub returns-then-count-gt-BUFFER_LIMIT : goal.returns-then-count-gt-BUFFER_LIMIT
unfolding buffer_text
returns-then-count-gt-BUFFER_LIMIT c =
    rw c.in_ok-digits.ensures
    (sized_too_long _ _ _ (λ bytes e. let half =
    half_of _ bytes e in omega (arith, half, c.if-count-gt-BUFFER_LIMIT.true))
    c.check_hex.ensures)

pub returns : goal.returns
unfolding buffer_text
returns c = rw c.in_ok-digits.ensures
    (sized_behind (length c.in_ok-digits.digits.now / 2) _ _ _ _ _
    (λ bytes e. let half = half_of _ bytes e in omega (arith, half)) (search rules)
    c.put_hex.ensures)
