use Rattle.std.proofs.Common.{rules, ◌≡◌, ◌++◌, List, ℕ, true, false, refl, ap, sym, subst, ◌∙◌}
use Rattle.tpm_journal_text.specs.Entry.{entry_text, entry_word}
use Rattle.tpm_journal_text.specs.Journal.{HasFewer}
use Rattle.tpm_journal_text.specs.Marked.{marked_line}
use Rattle.tpm_journal_text.proofs.Damage.{no_entry_with, no_line}
use Rattle.tpm_journal_text.proofs.reading.read_entry.Goals as goal

pub returns-in_default : goal.returns-in_default
returns-in_default c =
    no_line c.args.sum c.args.text.now (c.if-has_fewer.ensures.no refl) c.in_default.ensures.none

pub returns-then-has_fewer-2 : goal.returns-then-has_fewer-2
returns-then-has_fewer-2 c =
    c.less_than_entry.ensures c.args.sum (record {
      count = search rules;
      bytes = c.read_marked_line.ensures.bytes;
      line = c.in-Some.ensures.found.1
          ∙ ap (marked_line entry_word c.read_marked_line.new.bytes) c.in-Some.ensures.found.0;
    })
    (c.if-has_fewer.ensures.no refl)
    (subst (λ (n : ℕ). HasFewer n c.args.text.now) c.size_told.ensures
    (c.if-has_fewer-2.ensures.yes refl))

pub returns-in_default-entry_behind : goal.returns-in_default-entry_behind
returns-in_default-entry_behind c =
    no_entry_with c.args.sum c.args.text.now c.read_marked_line.new.bytes (search rules)
    c.read_marked_line.ensures.bytes
    (c.in-Some.ensures.found.1 ∙ ap (marked_line entry_word c.read_marked_line.new.bytes)
    c.in-Some.ensures.found.0)
    (subst (λ (n : ℕ). HasFewer n c.args.text.now → ⊥) c.size_told.ensures
    (c.if-has_fewer-2.ensures.no refl))
    (λ e rest at t. c.in_default-entry_behind.ensures.again e at)

pub returns-then-not-begins_with : goal.returns-then-not-begins_with
returns-then-not-begins_with c =
    no_entry_with c.args.sum c.args.text.now c.read_marked_line.new.bytes (search rules)
    c.read_marked_line.ensures.bytes
    (c.in-Some.ensures.found.1 ∙ ap (marked_line entry_word c.read_marked_line.new.bytes)
    c.in-Some.ensures.found.0)
    (subst (λ (n : ℕ). HasFewer n c.args.text.now → ⊥) c.size_told.ensures
    (c.if-has_fewer-2.ensures.no refl))
    (λ e rest at t.
    let same = c.in-Some-entry_behind.ensures.again e at in
    let front = c.split_at.ensures.front ∙ c.write-size.ensures.written
    ∙ ap (entry_text c.args.sum) same in
    let yes : c.begins_with.result ≡ true =
    c.begins_with.ensures.no rest (t ∙ ap (λ (l : List ℕ). l ++ rest) (sym front)) in
    let no : c.begins_with.result ≡ false = c.if-not-begins_with.true in
    let both : true ≡ false = sym yes ∙ no in
    absurd cc)
