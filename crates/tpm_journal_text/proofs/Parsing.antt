-- The bytes of a journal can be parsed in only one way.
use Rattle.std.proofs.Common.{◌≡◌, ℕ, ◌+◌, ◌*◌, Bool, true, false, List, [], ◌∷◌, ◌++◌, length, take, drop, max, refl, ap, sym, subst, ◌∙◌, append_assoc, arith}
use Rattle.std.specs.List.{AllByRecursion}
use Rattle.std.proofs.lemmas.List.{drop_at}
use Rattle.tpm_journal_text.specs.Entry.{IsEntry, PlainEntry, entry_text, flag, mark_of, sum_after}
use Rattle.tpm_journal_text.specs.Journal.{IsTorn, entries_text, sum_after_all}
use Rattle.tpm_journal_text.specs.Places.{Stands}
use Rattle.tpm_journal_text.proofs.Damage.{same_mark, torn_is_no_entry}
use Rattle.tpm_journal_text.proofs.Pieces.{hex_same}
use Rattle.tpm_journal_text.proofs.Standing.{line_stands, mark_bytes, mark_many, stands}

-- ---- one entry

pub behind_front : (front x y : List ℕ) → front ++ x ≡ front ++ y → x ≡ y
behind_front front x y e =
    sym (drop_at front x (length front) refl) ∙ ap (drop (length front)) e
    ∙ drop_at front y (length front) refl

flag_same : (b d : Bool) → flag b ≡ flag d → b ≡ d
flag_same true true e = refl
flag_same false false e = refl
flag_same true false e = absurd (omega (arith, e))
flag_same false true e = absurd (omega (arith, e))

abbrev made : (elapsed locality : ℕ) → (completes : Bool) → (drawn buffer : List ℕ) → (answered : ℕ)
    → PlainEntry
made elapsed locality completes drawn buffer answered = record {
  elapsed = elapsed;
  locality = locality;
  completes = completes;
  drawn = drawn;
  buffer = buffer;
  answered = answered;
}

fields_same : (e f : PlainEntry) → e.elapsed ≡ f.elapsed → e.locality ≡ f.locality
    → e.completes ≡ f.completes
    → e.drawn ≡ f.drawn → e.buffer ≡ f.buffer → e.answered ≡ f.answered → e ≡ f
fields_same e f a b d g h i =
    ap (λ (n : ℕ). made n e.locality e.completes e.drawn e.buffer e.answered) a
    ∙ ap (λ (n : ℕ). made f.elapsed n e.completes e.drawn e.buffer e.answered) b
    ∙ ap (λ (c : Bool). made f.elapsed f.locality c e.drawn e.buffer e.answered) d
    ∙ ap (λ (l : List ℕ). made f.elapsed f.locality f.completes l e.buffer e.answered) g
    ∙ ap (λ (l : List ℕ). made f.elapsed f.locality f.completes f.drawn l e.answered) h
    ∙ ap (made f.elapsed f.locality f.completes f.drawn f.buffer) i

-- If the parts of two entries are at their offsets in the same mark and the same bytes, the entries
-- are equal.
one_stands : (e f : PlainEntry) (mark text : List ℕ) → Stands e mark text → Stands f mark text
    → e ≡ f
one_stands e f mark text a b =
    let drawn_many : length e.drawn ≡ length f.drawn = sym a.drawn_size ∙ b.drawn_size in
    let buffer_many : length e.buffer ≡ length f.buffer = sym a.buffer_size ∙ b.buffer_size in
    let drawn : e.drawn ≡ f.drawn =
    hex_same e.drawn f.drawn a.is.drawn_bytes b.is.drawn_bytes
    (sym a.drawn ∙ ap (λ (n : ℕ). take (2 * n) (drop 102 text)) drawn_many ∙ b.drawn) in
    let buffer : e.buffer ≡ f.buffer =
    hex_same e.buffer f.buffer a.is.buffer_bytes b.is.buffer_bytes
    (sym a.buffer ∙ ap (λ (n : ℕ). take (2 * n) (drop (102 + 2 * max 1 (length e.drawn) + 5) text))
    buffer_many
    ∙ ap (λ (n : ℕ). take (2 * length f.buffer) (drop (102 + 2 * max 1 n + 5) text)) drawn_many
    ∙ b.buffer) in
    fields_same e f (sym a.elapsed ∙ b.elapsed) (sym a.locality ∙ b.locality)
    (flag_same e.completes f.completes (sym a.completes ∙ b.completes))
    drawn buffer (sym a.answered ∙ b.answered)

pub same_entry : (sum : ℕ) (e f : PlainEntry) (x y : List ℕ) → IsEntry e → IsEntry f
    → entry_text sum e ++ x ≡ entry_text sum f ++ y
    → (e ≡ f) × (x ≡ y)
same_entry sum e f x y is other same =
    let text = entry_text sum e ++ x in
    let marks : mark_of e ≡ mark_of f =
    same_mark sum text (mark_of e) (mark_of f) (mark_many e) (mark_bytes e)
    (line_stands sum e text x refl)
    (mark_many f) (mark_bytes f) (line_stands sum f text y same) in
    let one : e ≡ f = one_stands e f (mark_of e) text (stands sum e (mark_of e) text x is refl refl)
    (stands sum f (mark_of e) text y other marks same) in (
      one,
      behind_front (entry_text sum e) x y
          (same ∙ ap (λ (g : PlainEntry). entry_text sum g ++ y) (sym one)),
    )

-- ---- entries

-- If the input consists of entries and a torn end, any other parsing of the input finds the same
-- entries, or a prefix of this list of entries.
pub others_are_more : (sum : ℕ) (entries others : List PlainEntry) (rest left : List ℕ)
    → AllByRecursion IsEntry entries → AllByRecursion IsEntry others
    → entries_text sum entries ++ rest ≡ entries_text sum others ++ left
    → IsTorn (sum_after_all sum entries) rest
    → (more : List PlainEntry) × AllByRecursion IsEntry more × (entries ≡ others ++ more)
    × (left ≡ entries_text (sum_after_all sum others) more ++ rest)
others_are_more sum entries [] rest left are others_are same cut = (entries, are, refl, sym same)
others_are_more sum [] (f ∷ others) rest left are others_are same cut =
    absurd (torn_is_no_entry sum f (entries_text (sum_after sum f) others ++ left) rest others_are.0
    (same ∙ append_assoc (entry_text sum f) (entries_text (sum_after sum f) others) left) cut)
others_are_more sum (e ∷ entries) (f ∷ others) rest left are others_are same cut =
    let one = same_entry sum e f (entries_text (sum_after sum e) entries ++ rest)
    (entries_text (sum_after sum f) others ++ left) are.0 others_are.0
    (sym (append_assoc (entry_text sum e) (entries_text (sum_after sum e) entries) rest) ∙ same
    ∙ append_assoc (entry_text sum f) (entries_text (sum_after sum f) others) left) in
    let next : entries_text (sum_after sum f) entries ++ rest
    ≡ entries_text (sum_after sum f) others ++ left =
    ap (λ (g : PlainEntry). entries_text (sum_after sum g) entries ++ rest) (sym one.0) ∙ one.1 in
    let end : IsTorn (sum_after_all (sum_after sum f) entries) rest =
    subst (λ (g : PlainEntry). IsTorn (sum_after_all (sum_after sum g) entries) rest) one.0 cut in
    let found = others_are_more (sum_after sum f) entries others rest left are.1 others_are.1 next
    end in (
      found.0,
      found.1,
      ap (λ (g : PlainEntry). g ∷ entries) one.0
          ∙ ap (λ (l : List PlainEntry). f ∷ l) found.2,
      found.3,
    )
