use Rattle.std.proofs.Common.{rules, ◌≡◌, ◌++◌, List, [], ◌∷◌, ℕ, length, true, false, ap, sym, ◌∙◌, arith, length-append}
use Rattle.std.specs.Prelude.{codes}
use Rattle.hex.specs.Hex.{encode_lower}
use Rattle.std.proofs.lemmas.List.{append-nil}
use Rattle.std.proofs.lemmas.Slice.Eq.{bytes_eq-Decides}
use Rattle.tpm_journal_text.specs.Head.{head_mark, head_text, head_word}
use Rattle.tpm_journal_text.specs.Marked.{marked_line}
use Rattle.tpm_journal_text.proofs.HeadStanding.{head_found, head_line_stands, head_mark_bytes, head_mark_many, head_mark_stands, head_stands, head_text_many, content_line_stands}
use Rattle.tpm_journal_text.proofs.Pieces.{same_is_equal}
use Rattle.tpm_journal_text.proofs.head_reading.read_head_of.Goals as goal

pub returns-then-text-lt-MARK_LINE_SIZE-clause-only : goal.returns-then-text-lt-MARK_LINE_SIZE-clause-only
returns-then-text-lt-MARK_LINE_SIZE-clause-only c clock bytes rest has t =
    let many = ap length t in
    omega (
      arith,
      many,
      length-append (head_text c.args.kind clock bytes) rest,
      head_text_many c.args.kind clock bytes,
      c.if-text-lt-MARK_LINE_SIZE.true,
    )

pub returns-in_default-clause-only : goal.returns-in_default-clause-only
returns-in_default-clause-only c clock bytes rest has t =
    c.in_default.ensures.none (head_mark clock bytes) (head_mark_many clock bytes)
    (head_mark_bytes clock bytes)
    (head_line_stands c.args.kind clock bytes c.args.text.now rest t)

pub returns-in_default-content_behind-clause-only : goal.returns-in_default-content_behind-clause-only
returns-in_default-content_behind-clause-only c clock bytes rest has t =
    c.in_default-content_behind.ensures.again clock bytes
    (head_stands c.args.kind clock bytes c.read_mark.new.mark c.args.text.now rest has
    (search rules) c.read_mark.ensures.bytes
    (c.in-Some.ensures.found.1 ∙ ap (marked_line (head_word c.args.kind) c.read_mark.new.mark)
    c.in-Some.ensures.found.0) t)

pub returns-then-not-is_equal-clause-only : goal.returns-then-not-is_equal-clause-only
returns-then-not-is_equal-clause-only c clock bytes rest has t =
    let line = c.in-Some.ensures.found.1
    ∙ ap (marked_line (head_word c.args.kind) c.read_mark.new.mark) c.in-Some.ensures.found.0 in
    let at = head_stands c.args.kind clock bytes c.read_mark.new.mark c.args.text.now rest has
    (search rules) c.read_mark.ensures.bytes line t in
    let mark = head_mark_stands c.args.kind clock bytes c.read_mark.new.mark c.args.text.now rest
    (search rules) c.read_mark.ensures.bytes line t in
    let same = c.as_slice.ensures.value ∙ c.mark_of.ensures.value
    ∙ ap (head_mark c.clock_of-clock.result) (append-nil c.in-Some-content_behind.content.now)
    ∙ ap (λ (n : ℕ). head_mark n c.in-Some-content_behind.content.now)
    (c.clock_of-clock.ensures ∙ at.clock_told)
    ∙ ap (head_mark clock) (c.in-Some-content_behind.ensures.again clock bytes at) ∙ sym mark in
    let no : true ≡ false = sym (c.is_equal.ensures ∙ same_is_equal _ _ same)
    ∙ c.if-not-is_equal.true in
    absurd cc

pub returns-in_default-behind_content-clause-only : goal.returns-in_default-behind_content-clause-only
returns-in_default-behind_content-clause-only c clock bytes rest has t =
    let line = c.in-Some.ensures.found.1
    ∙ ap (marked_line (head_word c.args.kind) c.read_mark.new.mark) c.in-Some.ensures.found.0 in
    let at = head_stands c.args.kind clock bytes c.read_mark.new.mark c.args.text.now rest has
    (search rules) c.read_mark.ensures.bytes line t in
    let content = c.in-Some-content_behind.ensures.again clock bytes at in
    c.in_default-behind_content.ensures.none rest
    (c.split_at.ensures.back ∙ content_line_stands c.args.kind clock bytes c.args.text.now rest t
    ∙ ap (λ (l : List ℕ). codes "# " ++ (encode_lower l ++ (10 ∷ [] ++ rest))) (sym content))

pub returns-clause-head : goal.returns-clause-head
returns-clause-head c =
    head_found c.args.text.now c.read_mark.new.mark c.in-Some-behind_content.field-0.now _
    (record {
      named = c.requires;
      in_time = omega arith;
      small = c.in-Some-content_behind.ensures.small;
      are_bytes =
          c.in-Some-content_behind.ensures.bytes;
    })
    (sym (c.as_slice.ensures.value ∙ c.mark_of.ensures.value
    ∙ ap (head_mark c.clock_of-clock.result)
    (append-nil c.in-Some-content_behind.content.now))
    ∙ (bytes_eq-Decides _ _).0 (sym c.is_equal.ensures ∙ c.if-not-is_equal.false))
    c.in-Some.ensures.found.0 c.in-Some.ensures.found.1
    (sym c.split_at.ensures.back ∙ c.in-Some-behind_content.ensures.some)
    c.head_size.ensures.value

pub returns-clause-only : goal.returns-clause-only
returns-clause-only c clock bytes rest has t =
    let at = head_stands c.args.kind clock bytes c.read_mark.new.mark c.args.text.now rest has
    (search rules) c.read_mark.ensures.bytes
    (c.in-Some.ensures.found.1 ∙ ap (marked_line (head_word c.args.kind) c.read_mark.new.mark)
    c.in-Some.ensures.found.0) t in (
      c.clock_of-clock.ensures ∙ at.clock_told,
      c.in-Some-content_behind.ensures.again clock bytes at,
    )
