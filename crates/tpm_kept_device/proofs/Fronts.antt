-- Lemmas about the size of the entries at the start of a list of bytes.
use Rattle.std.proofs.Common.{◌≡◌, ◌≤◌, ◌<◌, ◌+◌, ℕ, List, [], ◌∷◌, ◌++◌, ◌⊎◌, inl, inr, length, drop, take, Option, Some, None, ap, sym, ◌∙◌, append-nil, arith, length-append}
use Rattle.std.proofs.lemmas.List.{drop-drop, length-take-le, take-append-drop}
use Rattle.tpm_journal_text.specs.Entry.{IsEntry, PlainEntry, entry_text, sum_after}
use Rattle.tpm_journal_text.specs.Head.{IsHeadOf, head_sum}
use Rattle.tpm_journal_text.specs.declared.head.Head.{Head}
use Rattle.tpm_journal_text.specs.Journal.{Finds, entries_text}
use Rattle.tpm_journal_text.specs.declared.reading.Next.{Next}
use Rattle.tpm_journal_text.specs.declared.reading.Next.TheVariants as next
use Rattle.tpm_journal_text.proofs.Standing.{entry_text_some}
use Rattle.tpm_kept_journal.specs.Salvage.{entries_size, size_with, whole_size}
use Rattle.tpm_kept_journal.specs.texts.EntriesAt.{entries_at}
use Rattle.tpm_kept_journal.specs.texts.EntryAt.{entry_at}
use Rattle.tpm_kept_journal.specs.texts.HeadAt.{PlainHead, head_at, text_of_head}
use Rattle.tpm_kept_journal.proofs.texts.EntriesAt.{entries_again, entries_joined}
use Rattle.tpm_kept_journal.proofs.texts.HeadAt.{head_at_front}
use Rattle.tpm_kept_journal.proofs.texts.NextAt.{damage_tells, torn_tells}

pub none_more : (sum : ℕ) (text : List ℕ) → entry_at sum text ≡ None → entries_size sum text ≡ 0
none_more sum text none = ap (λ (es : List PlainEntry). length (entries_text sum es))
    (entries_again sum [] text tt none)

-- If the bytes begin with an entry, the size of the entries at their start is the size of this
-- entry plus the size of the entries that follow.
pub one_more : (sum size : ℕ) (text : List ℕ) (e : PlainEntry) → IsEntry e → size ≤ length text
    → take size text ≡ entry_text sum e
    → entries_size sum text ≡ size + entries_size (sum_after sum e) (drop size text)
one_more sum size text e is within front =
    let own : List ℕ = entry_text sum e in
    let rest : List ℕ = drop size text in
    let more : List PlainEntry = entries_at (sum_after sum e) rest in
    let parts : text ≡ (own ++ []) ++ rest =
    sym (take-append-drop size text)
    ∙ ap (λ (l : List ℕ). l ++ rest) (front ∙ sym (append-nil own)) in
    let many : length own ≡ size = sym (ap length front) ∙ length-take-le size text within in
    let are : entries_at sum text ≡ e ∷ more =
    ap (entries_at sum) parts ∙ entries_joined sum (e ∷ []) rest (is, tt) in
    ap (λ (es : List PlainEntry). length (entries_text sum es)) are
    ∙ length-append own (entries_text (sum_after sum e) more)
    ∙ ap (λ (n : ℕ). n + entries_size (sum_after sum e) rest) many

pub entry_some : (sum size : ℕ) (text : List ℕ) (e : PlainEntry) → size ≤ length text
    → take size text ≡ entry_text sum e → 0 < size
entry_some sum size text e within front =
    omega (arith, ap length front, length-take-le size text within, entry_text_some sum e)

-- ---- reading the bytes entry by entry

-- The size of the entries at the start of the bytes is `taken` plus the size of the entries after
-- the first `taken` bytes. `sum` is the checksum before the bytes, and `after` is the checksum
-- after the first `taken` bytes.
abbrev pub Takes : (sum after taken : ℕ) → (text : List ℕ) → Type 0
Takes sum after taken text = entries_size sum text ≡ taken + entries_size after (drop taken text)

no_entry : (sum : ℕ) (text : List ℕ) (found : Next) → Finds sum text found
    → (found ≡ next.Torn) ⊎ (found ≡ next.Damaged)
    → entry_at sum text ≡ None
no_entry sum text next.Torn finds so = (torn_tells sum text finds).0
no_entry sum text next.Damaged finds so = (damage_tells sum text finds).0
no_entry sum text (next.Whole entry size after) finds (inl so) = absurd cc
no_entry sum text (next.Whole entry size after) finds (inr so) = absurd cc

pub all_taken : (sum after taken : ℕ) (text left : List ℕ) (found : Next)
    → Takes sum after taken text → left ≡ drop taken text
    → Finds after left found → (found ≡ next.Torn) ⊎ (found ≡ next.Damaged)
    → taken ≡ entries_size sum text
all_taken sum after taken text left found takes is finds so =
    let none : entries_size after left ≡ 0 =
    none_more after left (no_entry after left found finds so) in
    omega (arith, takes, ap (entries_size after) is, none)

pub entry_taken : (sum after taken : ℕ) (text left : List ℕ) (size next : ℕ) (e : PlainEntry)
    → Takes sum after taken text
    → left ≡ drop taken text → IsEntry e × (size ≤ length left)
    × (take size left ≡ entry_text after e) × (next ≡ sum_after after e)
    → Takes sum next (taken + size) text
entry_taken sum after taken text left size next e takes is finds =
    let more = one_more after size left e finds.0 finds.1 finds.2 in
    let rest : drop size left ≡ drop (taken + size) text =
    ap (drop size) is ∙ drop-drop size taken text in
    let same : entries_size (sum_after after e) (drop size left)
    ≡ entries_size next (drop (taken + size) text) =
    ap (entries_size (sum_after after e)) rest
    ∙ ap (λ (n : ℕ). entries_size n (drop (taken + size) text)) (sym finds.3) in
    omega (arith, takes, ap (entries_size after) is, more, same)

-- ---- reading the bytes with their head

pub no_front : (text : List ℕ) → head_at text ≡ None → 0 ≡ whole_size text
unfolding whole_size
no_front text none = sym (ap (λ (found : Option PlainHead). size_with found text) none)

pub front_read : (text back : List ℕ) (head : Head) (size : ℕ) → IsHeadOf text head
    → back ≡ drop head.size text → size ≡ entries_size head.sum back
    → head.size + size ≡ whole_size text
unfolding whole_size
front_read text back head size is behind many =
    let h : PlainHead =
    record { kind = head.kind; clock = head.clock; content = head.content.now } in
    let own : length (text_of_head h) ≡ head.size =
    sym (ap length is.is) ∙ length-take-le head.size text is.whole in
    let parts : text ≡ text_of_head h ++ drop head.size text =
    sym (take-append-drop head.size text) ∙ ap (λ (l : List ℕ). l ++ drop head.size text) is.is in
    let at : head_at text ≡ Some h = head_at_front h (drop head.size text) text is.has parts in
    let rest : entries_size (head_sum head.clock head.content.now)
    (drop (length (text_of_head h)) text) ≡ entries_size head.sum back =
    ap (λ (n : ℕ). entries_size n (drop (length (text_of_head h)) text)) (sym is.after)
    ∙ ap (λ (n : ℕ). entries_size head.sum (drop n text)) own
    ∙ ap (entries_size head.sum) (sym behind) in
    let whole : whole_size text ≡ length (text_of_head h)
    + entries_size (head_sum head.clock head.content.now)
    (drop (length (text_of_head h)) text) =
    ap (λ (found : Option PlainHead). size_with found text) at in
    omega (arith, whole, own, rest, many)
