-- `is_torn_text` is true exactly for torn bytes.
use Rattle.std.proofs.Common.{◌≡◌, ℕ, zero, suc, ◌+◌, ◌<◌, ◌≤◌, ◌==◌, ◌&&◌, ◌||◌, inl, inr, Bool, true, false, List, [], ◌∷◌, ◌++◌, length, get_or, not, take, drop, replicate, refl, ap, sym, subst, ◌∙◌, arith, length-append}
use Rattle.std.specs.Prelude.{Decides, bytes_eq, nat_lt}
use Rattle.std.proofs.lemmas.Bool.{and_parts, cond-false, cond-true, eqb-true, ltb-true, ltb-false, lt-ltb, or_left, or_right, and_from}
use Rattle.std.proofs.lemmas.Bool.Decides.{Decides-eqb, Decides-or}
use Rattle.std.proofs.lemmas.List.{length-take-le, take-append-le}
use Rattle.std.proofs.lemmas.Slice.Eq.{bytes_eq-Decides}
use Rattle.tpm_bytes.specs.Reading.{AreBytes}
use Rattle.tpm_journal_text.specs.Entry.{drawn_line_end, drawn_size, entry_size, entry_word, mark_line}
use Rattle.tpm_journal_text.specs.Journal.{EndsLine, IsCutOff, IsTorn, LinesEnd}
use Rattle.tpm_journal_text.specs.Sum.{sum_from}
use Rattle.tpm_journal_text.proofs.LineFeeds.{lines_end_front}
use Rattle.tpm_journal_text.proofs.Pieces.{line_length}
use Rattle.tpm_kept_journal.specs.texts.EntryAt.{mark_in}
use Rattle.tpm_kept_journal.specs.texts.TornText.{are_zeros, begins_with_mark, ends_line, is_cut_off, is_torn_text, lines_end, without_zeros}
use Rattle.tpm_kept_journal.proofs.texts.EntryAt.{mark_is_in}
use Rattle.tpm_kept_journal.proofs.texts.Parts.{spelled_are_bytes}

-- ---- zeros

pub zeros_are : (bytes : List ℕ) → are_zeros bytes ≡ true → bytes ≡ replicate (length bytes) 0
zeros_are [] all = refl
zeros_are (byte ∷ bytes) all =
    let both = and_parts (byte == 0) (are_zeros bytes) all in
    ap (λ (b : ℕ). b ∷ bytes) (eqb-true byte 0 both.0)
    ∙ ap (λ (l : List ℕ). 0 ∷ l) (zeros_are bytes both.1)

are_of : (count : ℕ) → are_zeros (replicate count 0) ≡ true
are_of zero = refl
are_of (suc count) = are_of count

-- Removing the final zeros from a list of zeros leaves the empty list. Any other list keeps its
-- first byte.
left_of_zeros : (text : List ℕ) → are_zeros text ≡ true → without_zeros text ≡ []
unfolding without_zeros
left_of_zeros [] all = refl
left_of_zeros (byte ∷ text) all =
    cond-true (are_zeros (byte ∷ text)) [] (byte ∷ without_zeros text) all

left_of_others : (byte : ℕ) (text : List ℕ) → are_zeros (byte ∷ text) ≡ false
    → without_zeros (byte ∷ text) ≡ byte ∷ without_zeros text
unfolding without_zeros
left_of_others byte text not =
    cond-false (are_zeros (byte ∷ text)) [] (byte ∷ without_zeros text) not

-- A list consists of the list without its final zeros, followed by zeros.
one_more_left : (byte : ℕ) (text : List ℕ) (b : Bool) → are_zeros (byte ∷ text) ≡ b
    → (count : ℕ) × (text ≡ without_zeros text ++ replicate count 0)
    → (count : ℕ) × (byte ∷ text ≡ without_zeros (byte ∷ text) ++ replicate count 0)
one_more_left byte text true so rest = (
  length (byte ∷ text),
  zeros_are (byte ∷ text) so ∙ ap (λ (l : List ℕ). l ++ replicate (length (byte ∷ text)) 0)
      (sym (left_of_zeros (byte ∷ text) so)),
)
one_more_left byte text false not rest = (
  rest.0,
  ap (λ (l : List ℕ). byte ∷ l) rest.1
      ∙ ap (λ (l : List ℕ). l ++ replicate rest.0 0) (sym (left_of_others byte text not)),
)

zeros_left : (text : List ℕ) → (count : ℕ) × (text ≡ without_zeros text ++ replicate count 0)
unfolding without_zeros
zeros_left [] = (0, refl)
zeros_left (byte ∷ text) = one_more_left byte text (are_zeros (byte ∷ text)) refl (zeros_left text)

-- If zeros follow some bytes, removing all zeros at the end leaves a prefix of these bytes.
one_more_front : (byte : ℕ) (front text : List ℕ) (b : Bool) → are_zeros (byte ∷ text) ≡ b
    → (back : List ℕ) × (front ≡ without_zeros text ++ back)
    → (back : List ℕ) × (byte ∷ front ≡ without_zeros (byte ∷ text) ++ back)
one_more_front byte front text true so rest =
    (byte ∷ front, ap (λ (l : List ℕ). l ++ byte ∷ front) (sym (left_of_zeros (byte ∷ text) so)))
one_more_front byte front text false not rest = (
  rest.0,
  ap (λ (l : List ℕ). byte ∷ l) rest.1
      ∙ ap (λ (l : List ℕ). l ++ rest.0) (sym (left_of_others byte text not)),
)

left_of : (front : List ℕ) (zeros : ℕ) → (back : List ℕ)
    × (front ≡ without_zeros (front ++ replicate zeros 0) ++ back)
left_of [] zeros =
    ([], ap (λ (l : List ℕ). l ++ []) (sym (left_of_zeros (replicate zeros 0) (are_of zeros))))
left_of (byte ∷ front) zeros =
    one_more_front byte front (front ++ replicate zeros 0)
    (are_zeros (byte ∷ (front ++ replicate zeros 0))) refl (left_of front zeros)

-- ---- incomplete entries

-- If the line for a mark is 72 bytes long, the mark is 26 bytes long.
mark_has_all : (sum : ℕ) (mark : List ℕ) → length (mark_line sum mark) ≡ 72 → length mark ≡ 26
mark_has_all sum mark many =
    omega (arith, many, line_length entry_word mark (sum_from sum mark) (length mark) refl)

mark_in_bytes : (text : List ℕ) → AreBytes (mark_in text)
unfolding mark_in
mark_in_bytes text = spelled_are_bytes (take 52 (drop 2 text))

-- ---- where lines end

ends_line-Decides : (mark : List ℕ) (place : ℕ)
    → Decides (ends_line mark place) (EndsLine mark place)
ends_line-Decides mark place =
    Decides-or (place == 15) (place == 21 || place == drawn_line_end (drawn_size mark))
    (Decides-eqb place 15)
    (Decides-or (place == 21) (place == drawn_line_end (drawn_size mark)) (Decides-eqb place 21)
    (Decides-eqb place (drawn_line_end (drawn_size mark))))

-- Each line feed is at an offset that passes the test; `place` is the offset of the first byte.
abbrev EndWhere : (test : ℕ → Bool) → (place : ℕ) → List ℕ → Type 0
EndWhere test place lines = (k : ℕ) → get_or lines k 0 ≡ 10 → test (place + k) ≡ true

feed_or_not : (byte : ℕ) (test : Bool) → (not (byte == 10) || test) ≡ true → byte ≡ 10 → test ≡ true
feed_or_not byte test so is = rw is at so

not_or_feed : (byte : ℕ) (test : Bool) → (byte ≡ 10 → test ≡ true)
    → (not (byte == 10) || test) ≡ true
not_or_feed byte test so = by (byte == 10) refl
  where
    by : (b : Bool) → (byte == 10) ≡ b → (not (byte == 10) || test) ≡ true
    by true is = or_right (not (byte == 10)) test (so (eqb-true byte 10 is))
    by false no_feed = or_left (not (byte == 10)) test (ap not no_feed)

first_and_rest : (test : ℕ → Bool) (place byte : ℕ) (lines : List ℕ)
    → (byte ≡ 10 → test place ≡ true) → EndWhere test (suc place) lines
    → EndWhere test place (byte ∷ lines)
first_and_rest test place byte lines first rest zero e = let same : place + 0 ≡ place =
    omega arith in ap test same ∙ first e
first_and_rest test place byte lines first rest (suc k) e =
    let same : place + suc k ≡ suc place + k = omega arith in ap test same ∙ rest k e

lines_end-Decides : (test : ℕ → Bool) (place : ℕ) (lines : List ℕ)
    → Decides (lines_end test place lines) (EndWhere test place lines)
lines_end-Decides test place [] = (λ so k e. absurd (omega (arith, e)), λ all. refl)
lines_end-Decides test place (byte ∷ lines) =
    let rest = lines_end-Decides test (suc place) lines in (
      λ so. first_and_rest test place byte lines
          (feed_or_not byte (test place)
          (and_parts (not (byte == 10) || test place) (lines_end test (suc place) lines)
          so).0)
          (rest.0 (and_parts (not (byte == 10) || test place) (lines_end test (suc place) lines)
          so).1),
      λ all. and_from (not (byte == 10) || test place) (lines_end test (suc place) lines)
          (not_or_feed byte (test place) (λ is. (
          let same : place ≡ place + 0 = omega arith in
          ap test same ∙ all 0 is
          )))
          (rest.1 (λ k e. (
          let same : suc place + k ≡ place + suc k = omega arith in
          ap test same ∙ all (suc k) e
          ))),
    )

-- `lines_end` decides whether the lines after the mark's line end only where the lines of the
-- mark's entry end.
pub lines_end_so : (mark text : List ℕ)
    → Decides (lines_end (ends_line mark) 0 (drop 72 text)) (LinesEnd mark text)
lines_end_so mark text =
    let all = lines_end-Decides (ends_line mark) 0 (drop 72 text) in (
      λ so place e. (
          let same : place ≡ 0 + place = omega arith in
          (ends_line-Decides mark place).0 (ap (ends_line mark) same ∙ all.0 so place e)
          ),
      λ end. all.1 (λ k e. (
          let same : 0 + k ≡ k = omega arith in
          ap (ends_line mark) same ∙ (ends_line-Decides mark k).1 (end k e)
          )),
    )

cut_off_so : (sum : ℕ) (text : List ℕ) → is_cut_off sum text ≡ true → IsCutOff sum text
unfolding is_cut_off
cut_off_so sum text so = by (nat_lt (length text) 72) refl
  where
    by : (b : Bool) → nat_lt (length text) 72 ≡ b → IsCutOff sum text
    by true short = inl (ltb-true (length text) 72 short)
    by false long =
        let mark = mark_in text in
        let line = mark_line sum mark in
        let less = nat_lt (length text) (entry_size mark) in
        let end = lines_end (ends_line mark) 0 (drop 72 text) in
        let parts : (bytes_eq (take 72 text) line ≡ true) × ((less && end) ≡ true) =
        and_parts (bytes_eq (take 72 text) line) (less && end)
        (sym (ap (λ (b : Bool). b || (bytes_eq (take 72 text) line && (less && end))) long) ∙ so) in
        let both = and_parts less end parts.1 in
        let same : take 72 text ≡ line = (bytes_eq-Decides (take 72 text) line).0 parts.0 in
        let many : length line ≡ 72 = sym (ap length same)
        ∙ length-take-le 72 text (ltb-false (length text) 72 long) in
        inr (
          mark,
          record { count = mark_has_all sum mark many; bytes = mark_in_bytes text; line = same },
          ltb-true (length text) (entry_size mark) both.0,
          (lines_end_so mark text).0 both.1,
        )

is_cut_off_so : (sum : ℕ) (text : List ℕ) → IsCutOff sum text → is_cut_off sum text ≡ true
unfolding is_cut_off
is_cut_off_so sum text cut = elim cut [
  | inl short ↦ or_left (nat_lt (length text) 72) _ (lt-ltb (length text) 72 short)
  | inr found ↦
      let mark = found.0 in
      let same : mark_in text ≡ mark =
      mark_is_in sum text mark found.1.count found.1.bytes found.1.line in
      or_right (nat_lt (length text) 72) _
      (and_from (begins_with_mark sum text) _
      ((bytes_eq-Decides (take 72 text) (mark_line sum (mark_in text))).1
      (found.1.line ∙ ap (mark_line sum) (sym same)))
      (and_from (nat_lt (length text) (entry_size (mark_in text))) _
      (lt-ltb (length text) (entry_size (mark_in text))
      (subst (λ (m : List ℕ). length text < entry_size m) (sym same) found.2))
      ((lines_end_so (mark_in text) text).1
      (subst (λ (m : List ℕ). LinesEnd m text) (sym same) found.3))))
]

pub is_cut_off-Decides : (sum : ℕ) (text : List ℕ)
    → Decides (is_cut_off sum text) (IsCutOff sum text)
is_cut_off-Decides sum text = (cut_off_so sum text, is_cut_off_so sum text)

-- A prefix of an incomplete entry is an incomplete entry.
cut_off_front : (sum : ℕ) (front back : List ℕ) → IsCutOff sum (front ++ back) → IsCutOff sum front
cut_off_front sum front back cut = by (nat_lt (length front) 72) refl
  where
    by : (b : Bool) → nat_lt (length front) 72 ≡ b → IsCutOff sum front
    by true short = inl (ltb-true (length front) 72 short)
    by false not =
        let long : 72 ≤ length front = ltb-false (length front) 72 not in
        elim cut [
          | inl short ↦ absurd (omega (arith, short, long, length-append front back))
          | inr found ↦
              inr (
                found.0,
                record {
                  count = found.1.count;
                  bytes = found.1.bytes;
                  line =
                      sym (take-append-le 72 front back long) ∙ found.1.line;
                },
                omega (arith, found.2, length-append front back),
                lines_end_front found.0 front back found.3,
              )
        ]

-- ---- torn bytes

torn_so : (sum : ℕ) (text : List ℕ) → is_torn_text sum text ≡ true → IsTorn sum text
unfolding is_torn_text
torn_so sum text so =
    let left = zeros_left text in
    record {
      front = without_zeros text;
      zeros = left.0;
      is = left.1;
      cut_off =
          (is_cut_off-Decides sum (without_zeros text)).0 so;
    }

is_torn_so : (sum : ℕ) (text : List ℕ) → IsTorn sum text → is_torn_text sum text ≡ true
unfolding is_torn_text
is_torn_so sum text torn =
    let left = left_of torn.front torn.zeros in
    let cut : IsCutOff sum (without_zeros (torn.front ++ replicate torn.zeros 0)) =
    cut_off_front sum (without_zeros (torn.front ++ replicate torn.zeros 0)) left.0
    (subst (IsCutOff sum) left.1 torn.cut_off) in
    (is_cut_off-Decides sum (without_zeros text)).1
    (subst (λ (t : List ℕ). IsCutOff sum (without_zeros t)) (sym torn.is) cut)

pub is_torn_text-Decides : (sum : ℕ) (text : List ℕ)
    → Decides (is_torn_text sum text) (IsTorn sum text)
is_torn_text-Decides sum text = (torn_so sum text, is_torn_so sum text)
