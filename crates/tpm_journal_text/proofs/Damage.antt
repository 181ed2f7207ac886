-- If the input is long enough for an entry but does not begin with one, it is damaged. A torn input
-- does not begin with an entry.
use Rattle.std.proofs.Common.{◌≡◌, ℕ, zero, suc, ◌-◌, ◌<◌, ◌≤◌, inl, inr, List, [], ◌∷◌, ◌++◌, length, take, replicate, get_or, refl, ap, subst, sym, ◌∙◌, append_assoc, arith, length-append}
use Rattle.std.specs.Prelude.{codes}
use Rattle.std.proofs.Math.Seq.{get_or-append_right, get_or-append_seam}
use Rattle.std.proofs.lemmas.List.{length-take, take-append-le}
use Rattle.hex.specs.Hex.{encode_lower}
use Rattle.tpm_bytes.specs.Reading.{AreBytes}
use Rattle.tpm_journal_text.specs.Entry.{IsEntry, PlainEntry, entry_size, entry_text, entry_word, executing_lines, mark_line, mark_of, setting_lines, shown}
use Rattle.tpm_journal_text.specs.Journal.{BeginsWithMark, HasFewer, IsDamaged, IsTorn, LinesEnd}
use Rattle.tpm_journal_text.specs.Places.{Stands}
use Rattle.tpm_journal_text.specs.Sum.{sum_from}
use Rattle.tpm_journal_text.proofs.LineFeeds.{lines_end_zeros}
use Rattle.tpm_journal_text.proofs.Pieces.{line_same}
use Rattle.tpm_journal_text.proofs.Standing.{entry_text_many, line_stands, mark_bytes, mark_line_many, mark_many, stands}

-- If a torn input without the zeros at its end begins with the line for a mark, the whole input
-- begins with this line.
pub torn_line : (sum : ℕ) (text mark : List ℕ) (torn : IsTorn sum text)
    → BeginsWithMark sum mark torn.front → take 72 text ≡ mark_line sum mark
torn_line sum text mark torn begins =
    let long : 72 ≤ length torn.front =
    omega (
      arith,
      ap length begins.line,
      mark_line_many sum mark begins.count,
      length-take 72 torn.front,
    ) in
    ap (take 72) torn.is ∙ take-append-le 72 torn.front (replicate torn.zeros 0) long ∙ begins.line

-- If the input is long enough for a mark's line but does not begin with such a line, it is damaged.
pub no_line : (sum : ℕ) (text : List ℕ) → (HasFewer 72 text → ⊥)
    → ((mark : List ℕ) → length mark ≡ 26 → AreBytes mark → take 72 text ≡ mark_line sum mark → ⊥)
    → IsDamaged sum text
no_line sum text long none = record {
  not_torn = λ torn. elim torn.cut_off [
    | inl short ↦ long
        (record { front = torn.front; zeros = torn.zeros; is = torn.is; fewer = short })
    | inr found ↦ none found.0 found.1.count found.1.bytes (torn_line sum text found.0 torn found.1)
  ];
  no_entry = λ e rest is t. none (mark_of e) (mark_many e) (mark_bytes e)
      (line_stands sum e text rest t);
}

-- If the input begins with the line for a mark, it does not begin with the line for another mark.
pub same_mark : (sum : ℕ) (text mark other : List ℕ) → length mark ≡ 26 → AreBytes mark
    → take 72 text ≡ mark_line sum mark
    → length other ≡ 26 → AreBytes other → take 72 text ≡ mark_line sum other → mark ≡ other
same_mark sum text mark other many are line other_many other_are other_line =
    line_same entry_word mark other (sum_from sum mark) (sum_from sum other) are other_are
    (many ∙ sym other_many) (sym line ∙ other_line)

-- If the input begins with the line for a mark and is long enough for an entry with this mark, but
-- does not begin with such an entry, it is damaged.
pub no_entry_with : (sum : ℕ) (text mark : List ℕ) → length mark ≡ 26 → AreBytes mark
    → take 72 text ≡ mark_line sum mark
    → (HasFewer (entry_size mark) text → ⊥)
    → ((e : PlainEntry) (rest : List ℕ) → Stands e mark text → text ≡ entry_text sum e ++ rest → ⊥)
    → IsDamaged sum text
no_entry_with sum text mark many are line long none = record {
  not_torn = λ torn. elim torn.cut_off [
    | inl short ↦ long
        (record {
          front = torn.front;
          zeros = torn.zeros;
          is = torn.is;
          fewer =
              omega (arith, short);
        })
    | inr found ↦
        let same : mark ≡ found.0 =
        same_mark sum text mark found.0 many are line found.1.count found.1.bytes
        (torn_line sum text found.0 torn found.1) in
        let size : entry_size mark ≡ entry_size found.0 = ap entry_size same in
        long (record {
          front = torn.front;
          zeros = torn.zeros;
          is = torn.is;
          fewer =
              omega (arith, found.2, size);
        })
  ];
  no_entry = λ e rest is t.
      let same : mark ≡ mark_of e =
      same_mark sum text mark (mark_of e) many are line (mark_many e) (mark_bytes e)
      (line_stands sum e text rest t) in
      none e rest (stands sum e mark text rest is same t) t;
}

-- ---- torn input does not begin with an entry

pub zero_at : (zeros place : ℕ) → get_or {A = ℕ} (replicate zeros 0) place 0 ≡ 0
zero_at zero place = refl
zero_at (suc zeros) zero = refl
zero_at (suc zeros) (suc place) = zero_at zeros place

-- The line feed at the end of a line is not one of the zeros at the end of the input.
pub line_feed_is_no_zero : (front : List ℕ) (zeros : ℕ) (line rest : List ℕ)
    → length front ≤ length line
    → line ++ (10 ∷ rest) ≡ front ++ replicate zeros 0 → ⊥
line_feed_is_no_zero front zeros line rest le same =
    let ten : 10 ≡ 0 =
    sym (get_or-append_seam line 10 rest 0) ∙ ap (λ (l : List ℕ). get_or l (length line) 0) same
    ∙ get_or-append_right front (replicate zeros 0) (length line) 0 le
    ∙ zero_at zeros (length line - length front) in
    absurd (omega (arith, ten))

-- an encoded entry without its last line feed
pub without_end : (sum : ℕ) → PlainEntry → List ℕ
without_end sum e =
    (mark_line sum (mark_of e) ++ setting_lines e) ++ (codes "entropy " ++ encode_lower (shown e.drawn) ++ codes "\ncmd " ++ encode_lower e.buffer)

pub ends_a_line : (sum : ℕ) (e : PlainEntry) (rest : List ℕ)
    → entry_text sum e ++ rest ≡ without_end sum e ++ (10 ∷ rest)
unfolding entry_text executing_lines without_end
ends_a_line sum e rest =
    let line = mark_line sum (mark_of e) ++ setting_lines e in
    let last = codes "entropy " ++ encode_lower (shown e.drawn) ++ codes "\ncmd " ++ encode_lower e.buffer in
    ap (λ (l : List ℕ). l ++ rest) (sym (append_assoc line last (10 ∷ [])))
    ∙ append_assoc (line ++ last) (10 ∷ []) rest

pub torn_is_no_entry : (sum : ℕ) (e : PlainEntry) (rest text : List ℕ) → IsEntry e
    → text ≡ entry_text sum e ++ rest → IsTorn sum text → ⊥
torn_is_no_entry sum e rest text is t torn =
    let end = ap length (ends_a_line sum e []) in
    let a = length-append (entry_text sum e) [] in
    let b = length-append (without_end sum e) (10 ∷ []) in
    let size = entry_text_many sum e is in
    let less : length torn.front < entry_size (mark_of e) = elim torn.cut_off [
      | inl short ↦ omega (arith, short)
      | inr found ↦
          let same : found.0 ≡ mark_of e =
          same_mark sum text found.0 (mark_of e) found.1.count found.1.bytes
          (torn_line sum text found.0 torn found.1)
          (mark_many e) (mark_bytes e) (line_stands sum e text rest t) in
          let sizes : entry_size found.0 ≡ entry_size (mark_of e) = ap entry_size same in
          omega (arith, found.2, sizes)
    ] in
    line_feed_is_no_zero torn.front torn.zeros (without_end sum e) rest
    (omega (arith, less, end, a, b, size))
    (sym (ends_a_line sum e rest) ∙ sym t ∙ torn.is)

-- If the input begins with the line for a mark and is shorter than the mark's entry, it does not
-- begin with an entry.
few_is_no_entry : (sum : ℕ) (e : PlainEntry) (rest text mark : List ℕ) → IsEntry e
    → text ≡ entry_text sum e ++ rest → mark ≡ mark_of e
    → HasFewer (entry_size mark) text → ⊥
few_is_no_entry sum e rest text mark is t same has =
    let end = ap length (ends_a_line sum e []) in
    let a = length-append (entry_text sum e) [] in
    let b = length-append (without_end sum e) (10 ∷ []) in
    let size = entry_text_many sum e is in
    let sizes : entry_size mark ≡ entry_size (mark_of e) = ap entry_size same in
    let fewer = has.fewer in
    line_feed_is_no_zero has.front has.zeros (without_end sum e) rest
    (omega (arith, fewer, sizes, end, a, b, size))
    (sym (ends_a_line sum e rest) ∙ sym t ∙ has.is)

-- Suppose that the input begins with the line for a mark and is shorter than the mark's entry. If
-- one of its lines does not end where a line of that entry ends, the input is damaged.
pub lines_end_otherwise : (sum : ℕ) (text mark : List ℕ) → BeginsWithMark sum mark text
    → (HasFewer 72 text → ⊥) → HasFewer (entry_size mark) text
    → (LinesEnd mark text → ⊥) → IsDamaged sum text
lines_end_otherwise sum text mark begins long has otherwise = record {
  not_torn = λ torn. elim torn.cut_off [
    | inl short ↦ long
        (record { front = torn.front; zeros = torn.zeros; is = torn.is; fewer = short })
    | inr found ↦
        let same : mark ≡ found.0 =
        same_mark sum text mark found.0 begins.count begins.bytes begins.line found.1.count
        found.1.bytes (torn_line sum text found.0 torn found.1) in
        otherwise (subst (LinesEnd mark) (sym torn.is)
        (lines_end_zeros mark torn.front torn.zeros
        (subst (λ (m : List ℕ). LinesEnd m torn.front) (sym same) found.3)))
  ];
  no_entry = λ e rest is t.
      few_is_no_entry sum e rest text mark is t
      (same_mark sum text mark (mark_of e) begins.count begins.bytes begins.line (mark_many e)
      (mark_bytes e) (line_stands sum e text rest t)) has;
}
