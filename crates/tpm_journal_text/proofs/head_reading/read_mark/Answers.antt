use Rattle.std.proofs.Common.{◌≡◌, ℕ, List, length, take, Option, Some, None, IfNone, ap, sym, ◌∙◌, arith}
use Rattle.tpm_journal_text.specs.Head.{head_word}
use Rattle.tpm_journal_text.specs.Marked.{marked_line, marked_size}
use Rattle.tpm_journal_text.specs.Sum.{offset_basis, sum_from}
use Rattle.tpm_journal_text.proofs.HeadStanding.{word_many}
use Rattle.tpm_journal_text.proofs.head_reading.read_mark.Goals as goal

none_so : {X : Type 0} {A B : Type 0} (found : Option X) → IfNone found A → (A → B) → IfNone found B
none_so (Some x) none so = none
none_so None none so = so none

pub returns-clause-none : goal.returns-clause-none
returns-clause-none c =
    let word : c.as_slice.result.now ≡ head_word c.args.kind =
    c.as_slice.ensures.value ∙ c.word-word.ensures.value in
    let size : marked_size c.as_slice.result.now (length c.args.mark.now) ≡ 77 =
    omega (arith, ap length word, word_many c.args.kind, c.told-mark) in
    none_so c.read_marked_line.result c.read_marked_line.ensures.none
    (λ none other many are there.
    none other (many ∙ sym c.told-mark) are
    (ap (λ (n : ℕ). take n c.args.text.now) size ∙ there
    ∙ ap (λ (w : List ℕ). marked_line w other (sum_from offset_basis other)) (sym word)))
