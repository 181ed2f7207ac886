-- Lemmas about torn input, and about changes after which it is still torn.
use Rattle.std.proofs.Common.{◌≡◌, ℕ, zero, suc, ◌-◌, ◌<◌, ◌≤◌, ◌==◌, Bool, true, false, List, [], ◌∷◌, ◌++◌, length, take, drop, max, replicate, inl, inr, refl, ap, sym, ◌∙◌, subst, arith, length-append}
use Rattle.std.specs.Prelude.{nat_lt}
use Rattle.std.specs.List.{list_all}
use Rattle.std.proofs.lemmas.Bool.{and_parts, eqb-true}
use Rattle.std.proofs.lemmas.Bool.Decides.{nat_tests}
use Rattle.std.proofs.lemmas.List.{append-nil, drop-replicate, length-take-le, take-append-drop, take-append-le}
use Rattle.tpm_journal_text.specs.Entry.{IsEntry, PlainEntry, entry_size, entry_text, mark_of}
use Rattle.tpm_journal_text.specs.Journal.{BeginsWithMark, HasFewer, IsCutOff, IsTorn, LinesEnd}
use Rattle.tpm_journal_text.proofs.LineFeeds.{front_lines_end, lines_end_front}
use Rattle.tpm_journal_text.proofs.Standing.{buffer_told, drawn_told, entry_text_many, line_stands, mark_bytes, mark_many}

-- ---- zeros

all_are_zeros : (bytes : List ℕ) → list_all (λ byte. byte == 0) bytes ≡ true
    → bytes ≡ replicate (length bytes) 0
all_are_zeros [] all = refl
all_are_zeros (byte ∷ bytes) all =
    let both = and_parts (byte == 0) (list_all (λ b. b == 0) bytes) all in
    ap (λ (b : ℕ). b ∷ bytes) (eqb-true byte 0 both.0)
    ∙ ap (λ (l : List ℕ). 0 ∷ l) (all_are_zeros bytes both.1)

zeros_are_all : (count : ℕ) → list_all (λ byte. byte == 0) (replicate count 0) ≡ true
zeros_are_all zero = refl
zeros_are_all (suc count) = zeros_are_all count

-- If the input consists of zeros from offset `size - 1` on, it has fewer than `size` bytes, not
-- counting the zeros at its end.
pub fewer : (text end : List ℕ) (size : ℕ) → 0 < size → size ≤ length text
    → end ≡ drop (size - 1) text
    → list_all (λ byte. byte == 0) end ≡ true → HasFewer size text
fewer text end size some long e all = record {
  front = take (size - 1) text;
  zeros = length end;
  is = sym (take-append-drop (size - 1) text)
      ∙ ap (λ (l : List ℕ). take (size - 1) text ++ l) (sym e ∙ all_are_zeros end all);
  fewer = omega (arith, some, long, length-take-le (size - 1) text (omega (arith, long)));
}

-- If the input consists of a prefix and zeros, all bytes after the prefix are zeros.
zeros_after : (front : List ℕ) (zeros place : ℕ) → length front ≤ place
    → (count : ℕ) × (drop place (front ++ replicate zeros 0) ≡ replicate count 0)
zeros_after [] zeros place le = (zeros - place, drop-replicate {X = ℕ} place zeros 0)
zeros_after (byte ∷ front) zeros zero le = absurd (omega (arith, le))
zeros_after (byte ∷ front) zeros (suc place) le = zeros_after front zeros place (omega (arith, le))

pub not_fewer : (text end : List ℕ) (size : ℕ) → end ≡ drop (size - 1) text
    → list_all (λ byte. byte == 0) end ≡ false → HasFewer size text → ⊥
not_fewer text end size e some has =
    let back = zeros_after has.front has.zeros (size - 1) (omega (arith, has.fewer)) in
    let all : list_all (λ byte. byte == 0) end ≡ true =
    ap (list_all (λ byte. byte == 0)) (e ∙ ap (drop (size - 1)) has.is ∙ back.1)
    ∙ zeros_are_all back.0 in
    let both : true ≡ false = sym all ∙ some in
    absurd cc

pub whole_is_fewer : (text : List ℕ) (size : ℕ) → length text < size → HasFewer size text
whole_is_fewer text size short =
    record { front = text; zeros = 0; is = sym (append-nil text); fewer = short }

-- ---- input that is too short for an entry

-- If the input is too short for an entry, so is each prefix of it.
cut_off_front : (sum : ℕ) (front back : List ℕ) → IsCutOff sum (front ++ back) → IsCutOff sum front
cut_off_front sum front back cut = by (nat_lt (length front) 72) refl
  where
    by : (b : Bool) → nat_lt (length front) 72 ≡ b → IsCutOff sum front
    by true is = inl (grind (arith, nat_tests))
    by false is =
        let long : 72 ≤ length front = grind (arith, nat_tests) in
        elim cut [
          | inl short ↦ absurd (omega (arith, short, long, length-append front back))
          | inr found ↦
              inr (
                found.0,
                record {
                  count = found.1.count;
                  bytes = found.1.bytes;
                  line =
                      sym (take-append-le 72 front back long) ∙ found.1.line;
                },
                omega (arith, found.2, length-append front back),
                lines_end_front found.0 front back found.3,
              )
        ]

-- A proper prefix of an entry is too short for an entry.
part_of_entry : (sum : ℕ) (e : PlainEntry) (size : ℕ) → IsEntry e → size < length (entry_text sum e)
    → IsCutOff sum (take size (entry_text sum e))
part_of_entry sum e size is less = by (nat_lt size 72) refl
  where
    short : length (take size (entry_text sum e)) ≡ size
    short = length-take-le size (entry_text sum e) (omega (arith, less))

    by : (b : Bool) → nat_lt size 72 ≡ b → IsCutOff sum (take size (entry_text sum e))
    by true h = let few : size < 72 = grind (arith, nat_tests) in inl (omega (arith, few, short))
    by false h =
        let many : 72 ≤ size = grind (arith, nat_tests) in
        let whole = sym (take-append-drop size (entry_text sum e)) in
        let line = line_stands sum e (entry_text sum e) [] (sym (append-nil (entry_text sum e))) in
        inr (
          mark_of e,
          record {
            count = mark_many e;
            bytes = mark_bytes e;
            line =
                sym (take-append-le 72 (take size (entry_text sum e)) (drop size (entry_text sum e))
                (omega (arith, many, short))) ∙ ap (take 72) (sym whole) ∙ line;
          },
          omega (arith, short, less, entry_text_many sum e is),
          front_lines_end sum e size is
              (omega (
                arith,
                less,
                entry_text_many sum e is,
                ap (max 1) (drawn_told e is),
                buffer_told e is,
              )),
        )

-- ---- torn input

pub torn_by_few : (sum : ℕ) (text : List ℕ) → HasFewer 72 text → IsTorn sum text
torn_by_few sum text has =
    record { front = has.front; zeros = has.zeros; is = has.is; cut_off = inl has.fewer }

pub torn_by_mark : (sum : ℕ) (text mark : List ℕ) → BeginsWithMark sum mark text
    → (HasFewer 72 text → ⊥) → HasFewer (entry_size mark) text → LinesEnd mark text
    → IsTorn sum text
torn_by_mark sum text mark begins long has end = by (nat_lt (length has.front) 72) refl
  where
    by : (b : Bool) → nat_lt (length has.front) 72 ≡ b → IsTorn sum text
    by true h =
        absurd
        (long (record {
          front = has.front;
          zeros = has.zeros;
          is = has.is;
          fewer =
              grind (arith, nat_tests);
        }))
    by false h =
        let many : 72 ≤ length has.front = grind (arith, nat_tests) in
        record {
          front = has.front;
          zeros = has.zeros;
          is = has.is;
          cut_off = inr (
            mark,
            record {
              count = begins.count;
              bytes = begins.bytes;
              line = sym (take-append-le 72 has.front (replicate has.zeros 0) many)
                  ∙ ap (take 72) (sym has.is) ∙ begins.line;
            },
            has.fewer,
            lines_end_front mark has.front (replicate has.zeros 0)
                (subst (LinesEnd mark) has.is end),
          );
        }

pub torn_nothing : (sum : ℕ) → IsTorn sum []
torn_nothing sum = record { front = []; zeros = 0; is = refl; cut_off = inl (omega arith) }

pub torn_entry : (sum : ℕ) (e : PlainEntry) (size zeros : ℕ) → IsEntry e
    → size < length (entry_text sum e)
    → IsTorn sum (take size (entry_text sum e) ++ replicate zeros 0)
torn_entry sum e size zeros is less =
    record {
      front = take size (entry_text sum e);
      zeros = zeros;
      is = refl;
      cut_off =
          part_of_entry sum e size is less;
    }

take_none : (count : ℕ) → take {A = ℕ} count [] ≡ []
take_none zero = refl
take_none (suc count) = refl

-- If bytes with zeros at their end are truncated, and zeros are appended again, the result is a
-- prefix of the bytes before the zeros, followed by zeros.
take_zeros : (front : List ℕ) (zeros size more : ℕ) → (count : ℕ) × (left : ℕ)
    × (take size (front ++ replicate zeros 0) ++ replicate more 0
    ≡ take count front ++ replicate left 0)
take_zeros front zeros zero more = (0, more, refl)
take_zeros [] zero (suc size) more = (0, more, refl)
take_zeros [] (suc zeros) (suc size) more =
    let rest = take_zeros [] zeros size more in (
      0,
      suc rest.1,
      ap (λ (l : List ℕ). 0 ∷ l)
          (rest.2 ∙ ap (λ (l : List ℕ). l ++ replicate rest.1 0) (take_none rest.0)),
    )
take_zeros (byte ∷ front) zeros (suc size) more =
    let rest = take_zeros front zeros size more in
    (suc rest.0, rest.1, ap (λ (l : List ℕ). byte ∷ l) rest.2)

pub torn_again : (sum : ℕ) (text : List ℕ) (size zeros : ℕ) → IsTorn sum text
    → IsTorn sum (take size text ++ replicate zeros 0)
torn_again sum text size zeros torn =
    let front = take_zeros torn.front torn.zeros size zeros in
    record {
      front = take front.0 torn.front;
      zeros = front.1;
      is = ap (λ (l : List ℕ). take size l ++ replicate zeros 0) torn.is ∙ front.2;
      cut_off = cut_off_front sum (take front.0 torn.front) (drop front.0 torn.front)
          (subst (IsCutOff sum) (sym (take-append-drop front.0 torn.front)) torn.cut_off);
    }
