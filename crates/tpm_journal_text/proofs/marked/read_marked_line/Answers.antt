use Rattle.std.proofs.Common.{◌≡◌, ℕ, ◌*◌, List, length, take, true, false, ap, sym, ◌∙◌, arith}
use Rattle.std.specs.Result.{is_err}
use Rattle.tpm_journal_text.specs.Marked.{marked_line, marked_size}
use Rattle.tpm_journal_text.specs.Sum.{sum_from}
use Rattle.tpm_journal_text.proofs.Pieces.{digits_read, line_digits, same_is_equal}
use Rattle.tpm_journal_text.proofs.marked.read_marked_line.Goals as goal

pub returns-then-is_err-clause-none : goal.returns-then-is_err-clause-none
returns-then-is_err-clause-none c others many are there =
    let digits = c.split_at-2.ensures.front
    ∙ ap (take (2 * length c.args.bytes.now)) c.split_at.ensures.back
    ∙ line_digits c.args.word.now others c.args.text.now _ _ (length c.args.bytes.now) many there in
    let read = digits_read _ others c.decode.new.bytes c.decode.result c.decode.ensures digits
    are in
    let no : true ≡ false = sym c.if-is_err.true ∙ c.is_err.ensures.value ∙ ap is_err read.0 in
    absurd cc

pub returns-else-eq-clause-none : goal.returns-else-eq-clause-none
returns-else-eq-clause-none c others many are there =
    let digits = c.split_at-2.ensures.front
    ∙ ap (take (2 * length c.args.bytes.now)) c.split_at.ensures.back
    ∙ line_digits c.args.word.now others c.args.text.now _ _ (length c.args.bytes.now) many there in
    let read = digits_read _ others c.decode.new.bytes c.decode.result c.decode.ensures digits
    are in
    let size : c.put_marked_line-size.result
    ≡ marked_size c.args.word.now (length c.args.bytes.now) =
    omega (arith, c.put_marked_line-size.ensures.place, ap length read.1, many) in
    let line = c.split_at-3.ensures.front ∙ c.put_marked_line-size.ensures.written
    ∙ ap (λ (s : ℕ). marked_line c.args.word.now c.decode.new.bytes s) c.sum_from-after.ensures
    ∙ ap (λ (bytes : List ℕ). marked_line c.args.word.now bytes (sum_from c.args.sum bytes)) read.1
    ∙ sym there ∙ ap (λ (n : ℕ). take n c.args.text.now) (sym size)
    ∙ sym c.split_at-4.ensures.front in
    let no : true ≡ false = sym (same_is_equal _ _ line) ∙ sym c.eq.ensures ∙ c.if-eq.false in
    absurd cc
