-- `entry_at` returns an entry exactly when its argument begins with the encoding of this entry.
use Rattle.std.proofs.Common.{◌≡◌, ℕ, ◌+◌, ◌*◌, ◌^◌, ◌==◌, Bool, true, false, List, ◌++◌, length, take, drop, max, Some, None, refl, ap, sym, subst, ◌∙◌}
use Rattle.std.specs.Prelude.{Decides}
use Rattle.std.proofs.lemmas.Bool.Decides.{Decides-and, Decides-like, Decides-ltb}
use Rattle.std.proofs.lemmas.List.{drop_at}
use Rattle.tpm_bytes.specs.Reading.{AreBytes}
use Rattle.tpm_journal_text.specs.Entry.{IsEntry, PlainEntry, buffer_size, drawn_size, entry_limit, entry_text, entry_word, flag, mark_line, mark_of}
use Rattle.tpm_journal_text.specs.Places.{Stands}
use Rattle.tpm_journal_text.specs.Sum.{sum_from}
use Rattle.tpm_journal_text.proofs.Pieces.{line_digits}
use Rattle.tpm_journal_text.proofs.Standing.{line_stands, mark_bytes, mark_many, stands}
use Rattle.tpm_kept_journal.specs.texts.EntryAt.{begins_with_entry, entry_at, entry_by, is_entry, mark_in}
use Rattle.tpm_kept_journal.specs.texts.Parts.{begins_with, hex_at, where_so}
use Rattle.tpm_image_text.proofs.Bytes.{are_bytes-Decides}
use Rattle.tpm_kept_journal.proofs.texts.Parts.{Decides-leb, begins_with-Decides, hex_is_at, not_told, so_found, so_told}

-- ---- the test of an entry's fields

pub is_entry-Decides : (e : PlainEntry) → Decides (is_entry e) (IsEntry e)
unfolding is_entry
is_entry-Decides e =
    Decides-like (is_entry e)
    (λ h. record {
      elapsed = h.0.0;
      locality = h.0.1.0;
      answered = h.0.1.1;
      drawn = h.1.0.0;
      drawn_bytes = h.1.0.1;
      buffer = h.1.1.0;
      buffer_bytes = h.1.1.1;
    })
    (λ is. (
      (is.elapsed, (is.locality, is.answered)),
      ((is.drawn, is.drawn_bytes), (is.buffer, is.buffer_bytes)),
    ))
    (Decides-and _ _
    (Decides-and _ _ (Decides-ltb e.elapsed (2 ^ 32))
    (Decides-and _ _ (Decides-leb e.locality 4) (Decides-ltb e.answered (2 ^ 64))))
    (Decides-and _ _
    (Decides-and _ _ (Decides-leb (length e.drawn) 256) (are_bytes-Decides e.drawn))
    (Decides-and _ _ (Decides-leb (length e.buffer) entry_limit) (are_bytes-Decides e.buffer))))

-- ---- the parts of an entry

-- If the bytes begin with the line for a mark, `mark_in` returns this mark.
pub mark_is_in : (sum : ℕ) (text mark : List ℕ) → length mark ≡ 26 → AreBytes mark
    → take 72 text ≡ mark_line sum mark → mark_in text ≡ mark
unfolding mark_in
mark_is_in sum text mark many are line =
    hex_is_at 2 26 text mark are (sym many)
    (ap (λ (n : ℕ). take (2 * n) (drop 2 text)) many
    ∙ line_digits entry_word mark text (sum_from sum mark) 72 26 many line)

flag_read : (b : Bool) → (flag b == 1) ≡ b
flag_read true = refl
flag_read false = refl

entry_made : (elapsed locality : ℕ) → (completes : Bool) → (drawn buffer : List ℕ) → (answered : ℕ)
    → PlainEntry
entry_made elapsed locality completes drawn buffer answered = record {
  elapsed = elapsed;
  locality = locality;
  completes = completes;
  drawn = drawn;
  buffer = buffer;
  answered = answered;
}

fields_same : (e f : PlainEntry) → e.elapsed ≡ f.elapsed → e.locality ≡ f.locality
    → e.completes ≡ f.completes
    → e.drawn ≡ f.drawn → e.buffer ≡ f.buffer → e.answered ≡ f.answered → e ≡ f
unfolding entry_made
fields_same e f a b c d g h =
    ap (λ (n : ℕ). entry_made n e.locality e.completes e.drawn e.buffer e.answered) a
    ∙ ap (λ (n : ℕ). entry_made f.elapsed n e.completes e.drawn e.buffer e.answered) b
    ∙ ap (λ (x : Bool). entry_made f.elapsed f.locality x e.drawn e.buffer e.answered) c
    ∙ ap (λ (l : List ℕ). entry_made f.elapsed f.locality f.completes l e.buffer e.answered) d
    ∙ ap (λ (l : List ℕ). entry_made f.elapsed f.locality f.completes f.drawn l e.answered) g
    ∙ ap (entry_made f.elapsed f.locality f.completes f.drawn f.buffer) h

-- `entry_by` returns an entry if its numbers are in the mark, and its other fields are at their
-- offsets in the bytes.
stands_told : (e : PlainEntry) (mark text : List ℕ) → Stands e mark text → entry_by mark text ≡ e
unfolding entry_by
stands_told e mark text at =
    fields_same (entry_by mark text) e at.elapsed at.locality
    (ap (λ (n : ℕ). n == 1) at.completes ∙ flag_read e.completes)
    (hex_is_at 102 (drawn_size mark) text e.drawn at.is.drawn_bytes at.drawn_size at.drawn)
    (ap (λ (n : ℕ). hex_at (102 + 2 * max 1 n + 5) (buffer_size mark) text) at.drawn_size
    ∙ hex_is_at (102 + 2 * max 1 (length e.drawn) + 5) (buffer_size mark) text e.buffer
    at.is.buffer_bytes at.buffer_size at.buffer)
    at.answered

-- ---- the entry at the start of the bytes

entry_is : (sum : ℕ) (e : PlainEntry) (rest text : List ℕ) → IsEntry e
    → text ≡ entry_text sum e ++ rest → entry_by (mark_in text) text ≡ e
entry_is sum e rest text is t =
    let mark : mark_in text ≡ mark_of e =
    mark_is_in sum text (mark_of e) (mark_many e) (mark_bytes e)
    (line_stands sum e text rest t) in
    stands_told e (mark_in text) text (stands sum e (mark_in text) text rest is mark t)

begins_with_its_entry : (sum : ℕ) (text : List ℕ) (e : PlainEntry)
    → Decides (begins_with_entry sum text e)
    (IsEntry e × (text ≡ entry_text sum e ++ drop (length (entry_text sum e)) text))
begins_with_its_entry sum text e =
    Decides-and (is_entry e) (begins_with text (entry_text sum e)) (is_entry-Decides e)
    (begins_with-Decides text (entry_text sum e))

pub entry_at_front : (sum : ℕ) (e : PlainEntry) (rest text : List ℕ) → IsEntry e
    → text ≡ entry_text sum e ++ rest → entry_at sum text ≡ Some e
unfolding entry_at
entry_at_front sum e rest text is t =
    ap (λ (f : PlainEntry). where_so (begins_with_entry sum text f) f)
    (entry_is sum e rest text is t)
    ∙ so_told (begins_with_entry sum text e) e
    ((begins_with_its_entry sum text e).1 (
      is,
      t ∙ ap (λ (l : List ℕ). entry_text sum e ++ l)
          (sym (ap (drop (length (entry_text sum e))) t
          ∙ drop_at (entry_text sum e) rest (length (entry_text sum e)) refl)),
    ))

pub entry_again : (sum : ℕ) (e : PlainEntry) (rest : List ℕ) → IsEntry e
    → entry_at sum (entry_text sum e ++ rest) ≡ Some e
entry_again sum e rest is = entry_at_front sum e rest (entry_text sum e ++ rest) is refl

pub entry_found : (sum : ℕ) (text : List ℕ) (e : PlainEntry) → entry_at sum text ≡ Some e
    → IsEntry e × (text ≡ entry_text sum e ++ drop (length (entry_text sum e)) text)
unfolding entry_at
entry_found sum text e found =
    let mine = entry_by (mark_in text) text in
    let so = so_found (begins_with_entry sum text mine) mine e found in
    subst (λ (f : PlainEntry). IsEntry f
    × (text ≡ entry_text sum f ++ drop (length (entry_text sum f)) text)) so.1
    ((begins_with_its_entry sum text mine).0 so.0)

pub no_entry : (sum : ℕ) (text : List ℕ)
    → ((e : PlainEntry) (rest : List ℕ) → IsEntry e → text ≡ entry_text sum e ++ rest → ⊥)
    → entry_at sum text ≡ None
unfolding entry_at
no_entry sum text none =
    let mine = entry_by (mark_in text) text in
    not_told (begins_with_entry sum text mine) mine (λ so. (
    let is = (begins_with_its_entry sum text mine).0 so in
    none mine (drop (length (entry_text sum mine)) text) is.0 is.1
    ))
