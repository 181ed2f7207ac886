-- If any byte of an entry except the last is removed, the entry is damaged.
use Rattle.std.proofs.Common.{◌≡◌, ℕ, ◌+◌, ◌-◌, ◌<◌, ◌≤◌, inl, inr, List, [], ◌∷◌, ◌++◌, length, take, drop, max, replicate, get_or, ap, sym, subst, ◌∙◌, append_assoc, arith, length-append}
use Rattle.std.specs.Int.{w64, to_be_bytes}
use Rattle.std.proofs.Math.Seq.{get_or-append_right}
use Rattle.std.proofs.lemmas.Bool.{cases_lt}
use Rattle.std.proofs.lemmas.List.{append-nil, get_or-append-add, get_or-drop, get_or-take, get_or_append_left, get_or_at, length-drop, length-replicate, length-take-le, take-append-le, take-take}
use Rattle.hex.specs.Hex.{encode_lower}
use Rattle.tpm_journal_text.specs.Entry.{IsEntry, PlainEntry, drawn_size, entry_size, entry_text, entry_word, executing_lines, mark_line, mark_of, setting_lines}
use Rattle.tpm_journal_text.specs.Journal.{IsCutOff, IsDamaged, IsTorn, LinesEnd}
use Rattle.tpm_journal_text.specs.Marked.{marked_line}
use Rattle.tpm_journal_text.specs.Sum.{sum_from}
use Rattle.tpm_journal_text.proofs.Damage.{ends_a_line, same_mark, without_end, zero_at}
use Rattle.tpm_journal_text.proofs.Standing.{buffer_told, drawn_told, entry_text_many, line_stands, mark_bytes, mark_line_many, mark_many}

-- a list of bytes without the byte at an offset
abbrev pub without : (place : ℕ) → List ℕ → List ℕ
without place text = take place text ++ drop (place + 1) text

-- If a byte is removed, the offsets of the bytes before it are unchanged, and the offsets of the
-- later bytes decrease by one.
before_place : (place : ℕ) (text : List ℕ) (at : ℕ) → at < place → place ≤ length text
    → get_or (without place text) at 0 ≡ get_or text at 0
before_place place text at before within =
    get_or_append_left (take place text) (drop (place + 1) text) 0 at
    (omega (arith, before, length-take-le place text within))
    ∙ get_or-take place text at 0 before

after_place : (place : ℕ) (text : List ℕ) (at : ℕ) → place ≤ at → place ≤ length text
    → get_or (without place text) at 0 ≡ get_or text (at + 1) 0
after_place place text at after within =
    let many = length-take-le place text within in
    let split : length (take place text) + (at - place) ≡ at = omega (arith, after, many) in
    let further : (place + 1) + (at - place) ≡ at + 1 = omega (arith, after) in
    ap (λ (n : ℕ). get_or (without place text) n 0) (sym split)
    ∙ get_or-append-add (take place text) (drop (place + 1) text) (at - place) 0
    ∙ get_or-drop (place + 1) text (at - place) 0
    ∙ ap (λ (n : ℕ). get_or text n 0) further

without_many : (place : ℕ) (text : List ℕ) → place < length text
    → length (without place text) + 1 ≡ length text
without_many place text within =
    omega (
      arith,
      within,
      length-append (take place text) (drop (place + 1) text),
      length-take-le place text (omega (arith, within)),
      length-drop (place + 1) text,
    )

-- ---- the bytes of an entry

-- The last byte of an entry is a line feed.
last_is_feed : (sum : ℕ) (e : PlainEntry) (last : ℕ) → last + 1 ≡ length (entry_text sum e)
    → get_or (entry_text sum e) last 0 ≡ 10
last_is_feed sum e last is =
    let ends : entry_text sum e ≡ without_end sum e ++ 10 ∷ [] =
    sym (append-nil (entry_text sum e)) ∙ ends_a_line sum e [] in
    ap (λ (t : List ℕ). get_or t last 0) ends
    ∙ get_or_at (without_end sum e) 10 [] 0 last
    (omega (arith, is, ap length ends, length-append (without_end sum e) (10 ∷ [])))

-- The line for a mark ends with a line feed.
line_ends : (sum : ℕ) (mark : List ℕ) → length mark ≡ 26 → get_or (mark_line sum mark) 71 0 ≡ 10
unfolding marked_line
line_ends sum mark many =
    let line = entry_word ++ encode_lower mark ++ 32 ∷ []
    ++ encode_lower (to_be_bytes w64 (sum_from sum mark)) in
    get_or_at line 10 [] 0 71
    (omega (arith, mark_line_many sum mark many, length-append line (10 ∷ [])))

-- The byte after the line for an entry's mark is a `w`, not a line feed.
wait_follows : (sum : ℕ) (e : PlainEntry) → get_or (entry_text sum e) 72 0 ≡ 119
unfolding entry_text setting_lines
wait_follows sum e =
    let line = mark_line sum (mark_of e) in
    let lines = setting_lines e ++ executing_lines e in
    ap (λ (t : List ℕ). get_or t 72 0) (append_assoc line (setting_lines e) (executing_lines e))
    ∙ ap (λ (n : ℕ). get_or (line ++ lines) (n + 0) 0)
    (sym (mark_line_many sum (mark_of e) (mark_many e)))
    ∙ get_or-append-add line lines 0 0

-- ---- torn input

-- If a torn input ends with a line feed, it has no zeros at its end.
no_zeros : (sum : ℕ) (text : List ℕ) (last : ℕ) (torn : IsTorn sum text) → last + 1 ≡ length text
    → get_or text last 0 ≡ 10 → torn.front ≡ text
no_zeros sum text last torn many feed =
    elim (cases_lt last (length torn.front)) [
      | inl within ↦
          let none : torn.zeros ≡ 0 =
          omega (
            arith,
            within,
            many,
            ap length torn.is,
            length-append torn.front (replicate torn.zeros 0),
            length-replicate {A = ℕ} torn.zeros 0,
          ) in
          sym (append-nil torn.front) ∙ ap (λ (n : ℕ). torn.front ++ replicate n 0) (sym none)
          ∙ sym torn.is
      | inr past ↦
          let no : 10 ≡ 0 =
          sym feed ∙ ap (λ (t : List ℕ). get_or t last 0) torn.is
          ∙ get_or-append_right torn.front (replicate torn.zeros 0) last 0 past
          ∙ zero_at torn.zeros (last - length torn.front) in
          absurd (omega (arith, no))
    ]

module _ (sum : ℕ) (e : PlainEntry) (place : ℕ) (is : IsEntry e)
    (less : place + 1 < length (entry_text sum e)) where
  text : List ℕ
  text = entry_text sum e

  cut : List ℕ
  cut = without place text

  -- the offset of the last remaining byte
  last : ℕ
  last = length (entry_text sum e) - 2

  size : length (entry_text sum e) ≡ entry_size (mark_of e)
  size = entry_text_many sum e is

  last_left : get_or cut last 0 ≡ 10
  unfolding cut text last
  last_left =
      after_place place (entry_text sum e) (length (entry_text sum e) - 2) (omega (arith, less))
      (omega (arith, less))
      ∙ last_is_feed sum e (length (entry_text sum e) - 2 + 1) (omega (arith, less))

  cut_many : last + 1 ≡ length cut
  unfolding cut text last
  cut_many = omega (arith, less, without_many place (entry_text sum e) (omega (arith, less)))

  -- If a byte of the mark's line is removed, the first 72 bytes are not the line for a mark.
  early : (mark : List ℕ) → place < 72 → length mark ≡ 26 → take 72 cut ≡ mark_line sum mark → ⊥
  unfolding cut text
  early mark before many line =
      let feed : 119 ≡ 10 =
      sym (wait_follows sum e)
      ∙ sym (after_place place (entry_text sum e) 71 (omega (arith, before))
      (omega (arith, less)))
      ∙ sym (get_or-take 72 (without place (entry_text sum e)) 71 0 (omega arith))
      ∙ ap (λ (t : List ℕ). get_or t 71 0) line ∙ line_ends sum mark many in
      absurd (omega (arith, feed))

  -- If a byte after the mark's line is removed, the mark's line is unchanged.
  late : 72 ≤ place → take 72 cut ≡ mark_line sum (mark_of e)
  unfolding cut text
  late after =
      let entry = entry_text sum e in
      take-append-le 72 (take place entry) (drop (place + 1) entry)
      (omega (arith, after, less, length-take-le place entry (omega (arith, less))))
      ∙ take-take 72 place entry after ∙ line_stands sum e entry [] (sym (append-nil entry))

  -- After a byte is removed, the last line feed is at an offset where no line of the entry ends.
  no_end : (mark : List ℕ) → mark ≡ mark_of e → LinesEnd mark cut → ⊥
  unfolding last text
  no_end mark same end =
      let drawn : drawn_size mark ≡ length e.drawn = ap drawn_size same ∙ drawn_told e is in
      let more : max 1 (drawn_size mark) ≡ max 1 (length e.drawn) = ap (max 1) drawn in
      let told : max 1 (drawn_size (mark_of e)) ≡ max 1 (length e.drawn) =
      ap (max 1) (drawn_told e is) in
      let many = buffer_told e is in
      let whole = size in
      let at : 72 + (last - 72) ≡ last = omega (arith, whole) in
      elim
      (end (last - 72) (get_or-drop 72 cut (last - 72) 0 ∙ ap (λ (n : ℕ). get_or cut n 0) at
      ∙ last_left)) [
        | inl first ↦ absurd (omega (arith, first, whole, told, many))
        | inr other ↦
            elim other [
              | inl second ↦ absurd (omega (arith, second, whole, told, many))
              | inr third ↦ absurd (omega (arith, third, more, whole, told, many))
            ]
      ]

  cut_is_whole : IsCutOff sum cut → ⊥
  unfolding last text
  cut_is_whole off =
      let whole = size in
      let many = cut_many in
      elim off [
        | inl short ↦ absurd (omega (arith, short, whole, many))
        | inr found ↦
            elim (cases_lt place 72) [
              | inl before ↦ early found.0 before found.1.count found.1.line
              | inr after ↦
                  no_end found.0
                  (same_mark sum cut found.0 (mark_of e) found.1.count found.1.bytes
                  found.1.line (mark_many e) (mark_bytes e) (late after)) found.3
            ]
      ]

  cut_is_no_entry : (f : PlainEntry) (rest : List ℕ) → IsEntry f → cut ≡ entry_text sum f ++ rest
      → ⊥
  unfolding last text
  cut_is_no_entry f rest other t =
      let line = line_stands sum f cut rest t in
      elim (cases_lt place 72) [
        | inl before ↦ early (mark_of f) before (mark_many f) line
        | inr after ↦
            let same : mark_of f ≡ mark_of e =
            same_mark sum cut (mark_of f) (mark_of e) (mark_many f) (mark_bytes f) line
            (mark_many e) (mark_bytes e) (late after) in
            let sizes : entry_size (mark_of f) ≡ entry_size (mark_of e) = ap entry_size same in
            let whole = size in
            let many = cut_many in
            absurd
            (omega (
              arith,
              less,
              sizes,
              whole,
              many,
              entry_text_many sum f other,
              ap length t,
              length-append (entry_text sum f) rest,
            ))
      ]

  pub left_out_is_damaged : IsDamaged sum
      (take place (entry_text sum e) ++ drop (place + 1) (entry_text sum e))
  unfolding cut text
  left_out_is_damaged = record {
    not_torn =
        λ torn. cut_is_whole
        (subst (IsCutOff sum) (no_zeros sum cut last torn cut_many last_left) torn.cut_off);
    no_entry = λ f rest other t. cut_is_no_entry f rest other t;
  }
