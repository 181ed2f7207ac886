-- `entries_at` returns the entries with which its argument begins, and stops where no further entry
-- begins.
use Rattle.std.proofs.Common.{◌≡◌, ℕ, zero, suc, ◌≤◌, List, [], ◌∷◌, ◌++◌, length, drop, Option, Some, None, refl, ap, sym, ◌∙◌, append_assoc, arith, length-append}
use Rattle.std.specs.List.{AllByRecursion}
use Rattle.std.proofs.lemmas.List.{drop_at, drop-drop, length-drop}
use Rattle.tpm_journal_text.specs.Entry.{IsEntry, PlainEntry, entry_text, sum_after}
use Rattle.tpm_journal_text.specs.Journal.{entries_text, sum_after_all}
use Rattle.tpm_journal_text.proofs.Standing.{entry_text_some}
use Rattle.tpm_kept_journal.specs.texts.EntriesAt.{after_entries, after_entry, entries_at, entries_up_to, with_next}
use Rattle.tpm_kept_journal.specs.texts.EntryAt.{entry_at}
use Rattle.tpm_kept_journal.proofs.texts.EntryAt.{entry_at_front, entry_found}

-- ---- entries that were written

up_to_again : (entries : List PlainEntry) (most sum : ℕ) (rest : List ℕ)
    → AllByRecursion IsEntry entries
    → entry_at (sum_after_all sum entries) rest ≡ None
    → length (entries_text sum entries ++ rest) ≤ most
    → entries_up_to most sum (entries_text sum entries ++ rest) ≡ entries
unfolding entries_up_to
up_to_again [] zero sum rest are last enough = refl
up_to_again [] (suc most) sum rest are last enough =
    ap (λ (o : Option PlainEntry). with_next o
    (λ e. entries_up_to most (sum_after sum e) (after_entry sum e rest))) last
up_to_again (e ∷ entries) zero sum rest are last enough =
    absurd (omega (
      arith,
      enough,
      entry_text_some sum e,
      length-append (entry_text sum e) (entries_text (sum_after sum e) entries),
      length-append (entry_text sum e ++ entries_text (sum_after sum e) entries) rest,
    ))
up_to_again (e ∷ entries) (suc most) sum rest are last enough =
    let mine = entry_text sum e in
    let more = entries_text (sum_after sum e) entries in
    let whole : (mine ++ more) ++ rest ≡ mine ++ (more ++ rest) = append_assoc mine more rest in
    ap (λ (o : Option PlainEntry). with_next o
    (λ f. entries_up_to most (sum_after sum f) (after_entry sum f ((mine ++ more) ++ rest))))
    (entry_at_front sum e (more ++ rest) ((mine ++ more) ++ rest) are.0 whole)
    ∙ ap (λ (t : List ℕ). e ∷ entries_up_to most (sum_after sum e) (drop (length mine) t)) whole
    ∙ ap (λ (t : List ℕ). e ∷ entries_up_to most (sum_after sum e) t)
    (drop_at mine (more ++ rest) (length mine) refl)
    ∙ ap (λ (l : List PlainEntry). e ∷ l)
    (up_to_again entries most (sum_after sum e) rest are.1 last
    (omega (
      arith,
      enough,
      entry_text_some sum e,
      ap length whole,
      length-append mine (more ++ rest),
    )))

pub entries_again : (sum : ℕ) (entries : List PlainEntry) (rest : List ℕ)
    → AllByRecursion IsEntry entries
    → entry_at (sum_after_all sum entries) rest ≡ None
    → entries_at sum (entries_text sum entries ++ rest) ≡ entries
unfolding entries_at
entries_again sum entries rest are last =
    up_to_again entries (length (entries_text sum entries ++ rest)) sum rest are last (omega arith)

-- ---- entries that were read

-- The bytes begin with these entries, and the bytes after them do not begin with an entry.
abbrev AreAt : (sum : ℕ) → List ℕ → List PlainEntry → Type 0
AreAt sum text entries =
    AllByRecursion IsEntry entries
    × (text ≡ entries_text sum entries ++ after_entries sum entries text)
    × (entry_at (sum_after_all sum entries) (after_entries sum entries text) ≡ None)

one_more : (sum : ℕ) (text : List ℕ) (e : PlainEntry) (entries : List PlainEntry)
    → entry_at sum text ≡ Some e
    → AreAt (sum_after sum e) (after_entry sum e text) entries → AreAt sum text (e ∷ entries)
one_more sum text e entries found at =
    let is = entry_found sum text e found in
    let mine = entry_text sum e in
    let more = entries_text (sum_after sum e) entries in
    let behind : after_entries (sum_after sum e) entries (after_entry sum e text)
    ≡ after_entries sum (e ∷ entries) text =
    drop-drop (length more) (length mine) text
    ∙ ap (λ (n : ℕ). drop n text) (sym (length-append mine more)) in (
      (is.0, at.0),
      is.1 ∙ ap (λ (l : List ℕ). mine ++ l) at.1
          ∙ sym (append_assoc mine more
          (after_entries (sum_after sum e) entries (after_entry sum e text)))
          ∙ ap (λ (l : List ℕ). (mine ++ more) ++ l) behind,
      ap (entry_at (sum_after_all (sum_after sum e) entries)) (sym behind) ∙ at.2,
    )

none_at : (sum : ℕ) (text : List ℕ) → entry_at sum text ≡ None → AreAt sum text []
none_at sum text none = (tt, refl, none)

up_to_found : (most sum : ℕ) (text : List ℕ) (found : Option PlainEntry) → entry_at sum text ≡ found
    → length text ≤ suc most
    → ((e : PlainEntry) → length (after_entry sum e text) ≤ most
    → AreAt (sum_after sum e) (after_entry sum e text)
    (entries_up_to most (sum_after sum e) (after_entry sum e text)))
    → AreAt sum text
    (with_next found (λ e. entries_up_to most (sum_after sum e) (after_entry sum e text)))
up_to_found most sum text (Some e) is enough rest =
    one_more sum text e (entries_up_to most (sum_after sum e) (after_entry sum e text)) is
    (rest e
    (omega (
      arith,
      enough,
      entry_text_some sum e,
      length-drop (length (entry_text sum e)) text,
    )))
up_to_found most sum text None is enough rest = none_at sum text is

no_entry_in_nothing : (sum : ℕ) (text : List ℕ) (found : Option PlainEntry)
    → entry_at sum text ≡ found → length text ≤ 0 → found ≡ None
no_entry_in_nothing sum text None is short = refl
no_entry_in_nothing sum text (Some e) is short =
    let t = (entry_found sum text e is).1 in
    absurd
    (omega (
      arith,
      short,
      ap length t,
      entry_text_some sum e,
      length-append (entry_text sum e) (after_entry sum e text),
    ))

up_to_are : (most sum : ℕ) (text : List ℕ) → length text ≤ most
    → AreAt sum text (entries_up_to most sum text)
unfolding entries_up_to
up_to_are zero sum text enough =
    none_at sum text (no_entry_in_nothing sum text (entry_at sum text) refl enough)
up_to_are (suc most) sum text enough =
    up_to_found most sum text (entry_at sum text) refl enough
    (λ e short. up_to_are most (sum_after sum e) (after_entry sum e text) short)

pub entries_found : (sum : ℕ) (text : List ℕ) → AreAt sum text (entries_at sum text)
unfolding entries_at
entries_found sum text = up_to_are (length text) sum text (omega arith)

-- ---- entries and the bytes after them

pub texts_joined : (sum : ℕ) (front back : List PlainEntry)
    → entries_text sum (front ++ back) ≡ entries_text sum front
    ++ entries_text (sum_after_all sum front) back
texts_joined sum [] back = refl
texts_joined sum (e ∷ front) back =
    ap (λ (l : List ℕ). entry_text sum e ++ l) (texts_joined (sum_after sum e) front back)
    ∙ sym (append_assoc (entry_text sum e) (entries_text (sum_after sum e) front)
    (entries_text (sum_after_all (sum_after sum e) front) back))

sums_joined : (sum : ℕ) (front back : List PlainEntry)
    → sum_after_all sum (front ++ back) ≡ sum_after_all (sum_after_all sum front) back
sums_joined sum [] back = refl
sums_joined sum (e ∷ front) back = sums_joined (sum_after sum e) front back

all_joined : (front back : List PlainEntry) → AllByRecursion IsEntry front
    → AllByRecursion IsEntry back → AllByRecursion IsEntry (front ++ back)
all_joined [] back are others = others
all_joined (e ∷ front) back are others = (are.0, all_joined front back are.1 others)

pub entries_joined : (sum : ℕ) (entries : List PlainEntry) (rest : List ℕ)
    → AllByRecursion IsEntry entries
    → entries_at sum (entries_text sum entries ++ rest)
    ≡ entries ++ entries_at (sum_after_all sum entries) rest
entries_joined sum entries rest are =
    let after = sum_after_all sum entries in
    let more = entries_at after rest in
    let at = entries_found after rest in
    let left = after_entries after more rest in
    let whole : entries_text sum entries ++ rest ≡ entries_text sum (entries ++ more) ++ left =
    ap (λ (l : List ℕ). entries_text sum entries ++ l) at.1
    ∙ sym (append_assoc (entries_text sum entries) (entries_text after more) left)
    ∙ ap (λ (l : List ℕ). l ++ left) (sym (texts_joined sum entries more)) in
    ap (entries_at sum) whole
    ∙ entries_again sum (entries ++ more) left (all_joined entries more are at.0)
    (ap (λ (s : ℕ). entry_at s left) (sums_joined sum entries more) ∙ at.2)
