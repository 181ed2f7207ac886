use Rattle.std.proofs.Common.{arith, ◌≡◌, ◌&&◌, false, true, ap, sym, ◌∙◌, take, drop, ◌+◌, ◌*◌, List, ℕ, Bool}
use Rattle.std.specs.Str.{bytes_eq}
use Rattle.hex.specs.Hex.{encode_lower}
use Rattle.std.proofs.lemmas.List.{length-drop}
use Rattle.tpm_journal_text.proofs.Digits.{none_left, pair_compared}
use Rattle.tpm_journal_text.proofs.strip.is_hex_of.Goals as goal

pub returns-then-not-is_equal : goal.returns-then-not-is_equal
returns-then-not-is_equal c =
    let pair = c.split_at-in-loop-place.ensures.front ∙ ap (take 2) c.split_at.ensures.back in
    let other : bytes_eq (take 2 (drop (2 * c.loop-place.place) c.args.digits.now))
    c.encode.new.digits ≡ false =
    ap (λ (l : List ℕ). bytes_eq l c.encode.new.digits) (sym pair) ∙ sym c.is_equal.ensures
    ∙ c.if-not-is_equal.true in
    sym (c.loop-place.invariant
    ∙ pair_compared c.args.digits.now c.args.bytes.now c.encode.new.digits c.loop-place.place
    (omega arith) (omega arith) c.encode.ensures
    ∙ ap (λ (b : Bool). b && bytes_eq (drop (2 * (c.loop-place.place + 1)) c.args.digits.now)
    (encode_lower (drop (c.loop-place.place + 1) c.args.bytes.now))) other)

pub loop-place-preserved : goal.loop-place-preserved
loop-place-preserved c =
    let pair = c.split_at-in-loop-place.ensures.front ∙ ap (take 2) c.split_at.ensures.back in
    let same : bytes_eq (take 2 (drop (2 * c.loop-place.place) c.args.digits.now))
    c.encode.new.digits ≡ true =
    ap (λ (l : List ℕ). bytes_eq l c.encode.new.digits) (sym pair) ∙ sym c.is_equal.ensures
    ∙ c.if-not-is_equal.false in
    c.loop-place.invariant
    ∙ pair_compared c.args.digits.now c.args.bytes.now c.encode.new.digits c.loop-place.place
    (omega arith) (omega arith) c.encode.ensures
    ∙ ap (λ (b : Bool). b && bytes_eq (drop (2 * (c.loop-place.place + 1)) c.args.digits.now)
    (encode_lower (drop (c.loop-place.place + 1) c.args.bytes.now))) same

pub returns : goal.returns
returns c =
    sym (c.loop-place.invariant
    ∙ none_left (drop (2 * c.loop-place.place) c.args.digits.now)
    (drop c.loop-place.place c.args.bytes.now)
    (omega (arith, length-drop (2 * c.loop-place.place) c.args.digits.now))
    (omega (arith, length-drop c.loop-place.place c.args.bytes.now)))
