-- The parts of an entry are at the expected offsets in its mark and in its encoding.
use Rattle.std.proofs.Common.{◌≡◌, ℕ, ◌+◌, ◌*◌, ◌<◌, List, [], ◌∷◌, ◌++◌, length, take, drop, max, slice_index, refl, ap, sym, ◌∙◌, append_assoc, arith, length-append}
use Rattle.std.specs.Prelude.{codes}
use Rattle.std.specs.Int.{w32, w64, from_be_bytes}
use Rattle.std.proofs.lemmas.List.{take_at, drop_at}
use Rattle.std.proofs.lemmas.Nat.{from_be_bytes-to_be_bytes_2, from_be_bytes-to_be_bytes_4, from_be_bytes-to_be_bytes_8}
use Rattle.hex.specs.Hex.{encode_lower, encode_with, lower_digits}
use Rattle.hex.proofs.HexLemmas.{length-encode_with}
use Rattle.tpm_journal_text.specs.Entry.{IsEntry, PlainEntry, buffer_size, drawn_size, entry_size, entry_text, executing_lines, flag, mark_line, mark_of, setting_lines, shown, ten_digits}
use Rattle.tpm_journal_text.specs.Sum.{sum_from}
use Rattle.tpm_bytes.specs.Reading.{AreBytes}
use Rattle.tpm_journal_text.proofs.Bytes.{all_small}
use Rattle.tpm_journal_text.specs.Places.{Stands}
use Rattle.tpm_journal_text.proofs.Pieces.{front_of, line_length}

-- ---- the parts of a mark

pub mark_many : (e : PlainEntry) → length (mark_of e) ≡ 26
unfolding mark_of
mark_many e = refl

pub mark_bytes : (e : PlainEntry) → AreBytes (mark_of e)
unfolding mark_of
mark_bytes e =
    all_small (mark_of e) (
      omega arith,
      (
        omega arith,
        (
          omega arith,
          (
            omega arith,
            (
              omega arith,
              (
                omega arith,
                (
                  omega arith,
                  (
                    omega arith,
                    (
                      omega arith,
                      (
                        omega arith,
                        (
                          omega arith,
                          (
                            omega arith,
                            (
                              omega arith,
                              (
                                omega arith,
                                (
                                  omega arith,
                                  (
                                    omega arith,
                                    (
                                      omega arith,
                                      (
                                        omega arith,
                                        (
                                          omega arith,
                                          (
                                            omega arith,
                                            (
                                              omega arith,
                                              (
                                                omega arith,
                                                (
                                                  omega arith,
                                                  (
                                                    omega arith,
                                                    (omega arith, (omega arith, tt)),
                                                  ),
                                                ),
                                              ),
                                            ),
                                          ),
                                        ),
                                      ),
                                    ),
                                  ),
                                ),
                              ),
                            ),
                          ),
                        ),
                      ),
                    ),
                  ),
                ),
              ),
            ),
          ),
        ),
      ),
    )

elapsed_told : (e : PlainEntry) → IsEntry e → from_be_bytes w32 (take 4 (mark_of e)) ≡ e.elapsed
unfolding mark_of
elapsed_told e is = from_be_bytes-to_be_bytes_4 e.elapsed is.elapsed

locality_told : (e : PlainEntry) → IsEntry e → slice_index (mark_of e) 4 ≡ e.locality
unfolding mark_of
locality_told e is = omega (arith, is.locality)

flag_told : (e : PlainEntry) → slice_index (mark_of e) 5 ≡ flag e.completes
unfolding mark_of
flag_told e = grind (arith)

pub drawn_told : (e : PlainEntry) → IsEntry e → drawn_size (mark_of e) ≡ length e.drawn
unfolding mark_of
drawn_told e is = from_be_bytes-to_be_bytes_2 (length e.drawn) (omega (arith, is.drawn))

pub buffer_told : (e : PlainEntry) → IsEntry e → buffer_size (mark_of e) ≡ length e.buffer
unfolding mark_of
buffer_told e is = from_be_bytes-to_be_bytes_2 (length e.buffer) (omega (arith, is.buffer))

answered_told : (e : PlainEntry) → IsEntry e → from_be_bytes w64 (take 8 (drop 18 (mark_of e)))
    ≡ e.answered
unfolding mark_of
answered_told e is = from_be_bytes-to_be_bytes_8 e.answered is.answered

-- ---- the parts of an encoded entry

regrouped : (line setting word drawn middle buffer end rest : List ℕ)
    → (line ++ setting ++ (word ++ drawn ++ middle ++ buffer ++ end)) ++ rest
    ≡ (line ++ setting ++ word) ++ (drawn ++ (middle ++ (buffer ++ (end ++ rest))))
regrouped line setting word drawn middle buffer end rest = simp append_assoc refl

-- the part of an encoded entry before the random bytes that its command drew
before_drawn : (sum : ℕ) → PlainEntry → List ℕ
before_drawn sum e = mark_line sum (mark_of e) ++ setting_lines e ++ codes "entropy "

parts : (sum : ℕ) (e : PlainEntry) (rest : List ℕ) → entry_text sum e ++ rest
    ≡ before_drawn sum e ++ (encode_lower (shown e.drawn) ++ (codes "\ncmd " ++ (encode_lower e.buffer ++ (10 ∷ [] ++ rest))))
unfolding entry_text executing_lines before_drawn
parts sum e rest =
    regrouped (mark_line sum (mark_of e)) (setting_lines e) (codes "entropy ") (encode_lower (shown e.drawn)) (codes "\ncmd ")
    (encode_lower e.buffer) (10 ∷ []) rest

setting_many : (e : PlainEntry) → length (setting_lines e) ≡ 22
unfolding setting_lines ten_digits
setting_many e = refl

pub mark_line_many : (sum : ℕ) (mark : List ℕ) → length mark ≡ 26 → length (mark_line sum mark) ≡ 72
mark_line_many sum mark many = line_length (codes "# ") mark (sum_from sum mark) 26 many

before_many : (sum : ℕ) (e : PlainEntry) → length (before_drawn sum e) ≡ 102
unfolding before_drawn
before_many sum e =
    let line = mark_line_many sum (mark_of e) (mark_many e) in
    let setting = setting_many e in
    let both = length-append (mark_line sum (mark_of e)) (setting_lines e) in
    let all = length-append (mark_line sum (mark_of e) ++ setting_lines e) (codes "entropy ") in
    omega (arith, line, setting, both, all)

pub shown_many : (drawn : List ℕ) → length (shown drawn) ≡ max 1 (length drawn)
shown_many [] = refl
shown_many (byte ∷ drawn) = grind (arith)

encoded_none : [] ≡ encode_lower []
unfolding encode_with
encoded_none = refl

drawn_front : (drawn back : List ℕ) → take (2 * length drawn) (encode_lower (shown drawn) ++ back)
    ≡ encode_lower drawn
drawn_front [] back = encoded_none
drawn_front (byte ∷ drawn) back =
    take_at (encode_lower (byte ∷ drawn)) back (2 * length (byte ∷ drawn))
    (length-encode_with lower_digits (byte ∷ drawn))

pub stands : (sum : ℕ) (e : PlainEntry) (mark text rest : List ℕ) → IsEntry e → mark ≡ mark_of e
    → text ≡ entry_text sum e ++ rest → Stands e mark text
stands sum e mark text rest is m t =
    let after_drawn = codes "\ncmd " ++ (encode_lower e.buffer ++ (10 ∷ [] ++ rest)) in
    let drawn = encode_lower (shown e.drawn) in
    let place : length (before_drawn sum e ++ drawn ++ codes "\ncmd ") ≡ 102 + 2 * max 1 (length e.drawn) + 5 =
    let a = length-append (before_drawn sum e ++ drawn) (codes "\ncmd ") in
    let b = length-append (before_drawn sum e) drawn in
    let c = length-encode_with lower_digits (shown e.drawn) in
    omega (arith, a, b, c, before_many sum e, shown_many e.drawn) in
    let split : text ≡ before_drawn sum e ++ (drawn ++ after_drawn) = t ∙ parts sum e rest in
    let further : text ≡ (before_drawn sum e ++ drawn ++ codes "\ncmd ") ++ (encode_lower e.buffer ++ (10 ∷ [] ++ rest)) =
    split ∙ sym (append_assoc (before_drawn sum e) drawn after_drawn)
    ∙ sym (append_assoc (before_drawn sum e ++ drawn) (codes "\ncmd ") (encode_lower e.buffer ++ (10 ∷ [] ++ rest))) in
    record {
      is = is;
      elapsed = ap (λ (l : List ℕ). from_be_bytes w32 (take 4 l)) m ∙ elapsed_told e is;
      locality = ap (λ (l : List ℕ). slice_index l 4) m ∙ locality_told e is;
      completes = ap (λ (l : List ℕ). slice_index l 5) m ∙ flag_told e;
      drawn_size = ap drawn_size m ∙ drawn_told e is;
      buffer_size = ap buffer_size m ∙ buffer_told e is;
      answered = ap (λ (l : List ℕ). from_be_bytes w64 (take 8 (drop 18 l))) m ∙ answered_told e is;
      drawn = ap (λ (l : List ℕ). take (2 * length e.drawn) (drop 102 l)) split
          ∙ rw (drop_at (before_drawn sum e) (drawn ++ after_drawn) 102 (before_many sum e))
          (drawn_front e.drawn after_drawn);
      buffer =
          ap (λ (l : List ℕ). take (2 * length e.buffer)
          (drop (102 + 2 * max 1 (length e.drawn) + 5) l)) further
          ∙ rw (drop_at (before_drawn sum e ++ drawn ++ codes "\ncmd ") (encode_lower e.buffer ++ (10 ∷ [] ++ rest)) _ place)
          (take_at (encode_lower e.buffer) (10 ∷ [] ++ rest) (2 * length e.buffer)
          (length-encode_with lower_digits e.buffer));
    }

-- An encoded entry begins with the line for its mark.
pub line_stands : (sum : ℕ) (e : PlainEntry) (text rest : List ℕ) → text ≡ entry_text sum e ++ rest
    → take 72 text ≡ mark_line sum (mark_of e)
unfolding entry_text
line_stands sum e text rest t =
    let line = mark_line sum (mark_of e) in
    front_of line (setting_lines e ++ executing_lines e ++ rest) text 72
    (mark_line_many sum (mark_of e) (mark_many e))
    (t ∙ append_assoc (line ++ setting_lines e) (executing_lines e) rest
    ∙ append_assoc line (setting_lines e) (executing_lines e ++ rest)
    ∙ ap (λ (l : List ℕ). line ++ l)
    (sym (append_assoc (setting_lines e) (executing_lines e) rest)))

-- The encoding of an entry is not empty.
pub entry_text_some : (sum : ℕ) (e : PlainEntry) → 0 < length (entry_text sum e)
unfolding entry_text
entry_text_some sum e =
    let line = mark_line sum (mark_of e) in
    omega (
      arith,
      mark_line_many sum (mark_of e) (mark_many e),
      length-append line (setting_lines e),
      length-append (line ++ setting_lines e) (executing_lines e),
    )

executing_many : (e : PlainEntry) → length (executing_lines e)
    ≡ 14 + 2 * max 1 (length e.drawn) + 2 * length e.buffer
unfolding executing_lines
executing_many e =
    let word = codes "entropy " in
    let drawn = encode_lower (shown e.drawn) in
    let middle = codes "\ncmd " in
    let buffer = encode_lower e.buffer in
    let a = length-append word drawn in
    let b = length-append (word ++ drawn) middle in
    let c = length-append (word ++ drawn ++ middle) buffer in
    let d = length-append (word ++ drawn ++ middle ++ buffer) (10 ∷ []) in
    omega (
      arith,
      a,
      b,
      c,
      d,
      length-encode_with lower_digits (shown e.drawn),
      length-encode_with lower_digits e.buffer,
      shown_many e.drawn,
    )

pub entry_text_many : (sum : ℕ) (e : PlainEntry) → IsEntry e
    → length (entry_text sum e) ≡ entry_size (mark_of e)
unfolding entry_text
entry_text_many sum e is =
    let line = mark_line sum (mark_of e) in
    let a = mark_line_many sum (mark_of e) (mark_many e) in
    let b = length-append line (setting_lines e) in
    let c = length-append (line ++ setting_lines e) (executing_lines e) in
    let drawn : max 1 (drawn_size (mark_of e)) ≡ max 1 (length e.drawn) =
    ap (max 1) (drawn_told e is) in
    omega (arith, a, b, c, setting_many e, executing_many e, drawn, buffer_told e is)
