-- Lemmas about the offsets at which the lines of an entry end.
use Rattle.std.proofs.Common.{◌≡◌, ℕ, zero, suc, ◌+◌, ◌-◌, ◌*◌, ◌<◌, ◌≤◌, ◌⊎◌, inl, inr, List, [], ◌∷◌, ◌++◌, length, take, drop, max, get_or, replicate, slice_index, Some, None, refl, ap, sym, subst, ◌∙◌, append_assoc, arith, length-append}
use Rattle.std.specs.Prelude.{codes}
use Rattle.std.specs.List.{AllByRecursion}
use Rattle.std.proofs.Math.Seq.{get_or-append_right}
use Rattle.std.proofs.lemmas.Bool.{cases_lt}
use Rattle.std.proofs.lemmas.List.{get_or-append-add, get_or-drop, get_or-take, get_or_append_left, get_or_past, length-take}
use Rattle.hex.specs.Hex.{encode_lower, encode_with, hex_digit_value, lower_digits}
use Rattle.hex.proofs.HexLemmas.{IsDigits-lower_digits, length-encode_with}
use Rattle.tpm_journal_text.specs.Entry.{IsEntry, PlainEntry, drawn_line_end, drawn_size, entry_text, executing_lines, mark_line, mark_of, setting_lines, shown, ten_digits}
use Rattle.tpm_journal_text.specs.Journal.{LinesEnd}
use Rattle.tpm_journal_text.proofs.Standing.{drawn_told, mark_line_many, mark_many, shown_many}

zero_at : (count place : ℕ) → get_or {A = ℕ} (replicate count 0) place 0 ≡ 0
zero_at zero place = refl
zero_at (suc count) zero = refl
zero_at (suc count) (suc place) = zero_at count place

-- ---- bytes without line feeds

-- These bytes contain no line feed.
abbrev pub NoFeed : List ℕ → Type 0
NoFeed text = (place : ℕ) → get_or text place 0 ≡ 10 → ⊥

no_feed : (text : List ℕ) → AllByRecursion (λ byte. byte ≡ 10 → ⊥) text → NoFeed text
no_feed [] all place e = absurd (omega (arith, e))
no_feed (byte ∷ text) all zero e = all.0 e
no_feed (byte ∷ text) all (suc place) e = no_feed text all.1 place e

no_feed_joined : (front back : List ℕ) → NoFeed front → NoFeed back → NoFeed (front ++ back)
no_feed_joined [] back none none_behind place e = none_behind place e
no_feed_joined (byte ∷ front) back none none_behind zero e = none 0 e
no_feed_joined (byte ∷ front) back none none_behind (suc place) e =
    no_feed_joined front back (λ p. none (suc p)) none_behind place e

digit_is_no_feed : (d : ℕ) → slice_index lower_digits d ≡ 10 → ⊥
digit_is_no_feed d e =
    elim (cases_lt d 16) [
      | inl small ↦
          let some : Some d ≡ None = sym (IsDigits-lower_digits d small) ∙ ap hex_digit_value e in
          cc some
      | inr large ↦
          let past : 0 ≡ 10 = sym (get_or_past lower_digits d 0 large) ∙ e in
          absurd (omega (arith, past))
    ]

hex_no_feed : (bytes : List ℕ) → NoFeed (encode_lower bytes)
unfolding encode_with
hex_no_feed [] place e = absurd (omega (arith, e))
hex_no_feed (byte ∷ bytes) zero e = digit_is_no_feed _ e
hex_no_feed (byte ∷ bytes) (suc zero) e = digit_is_no_feed _ e
hex_no_feed (byte ∷ bytes) (suc (suc place)) e = hex_no_feed bytes place e

-- ---- a line, and the bytes after it

feed_at : (line rest : List ℕ) (place : ℕ) → NoFeed line → get_or (line ++ 10 ∷ rest) place 0 ≡ 10
    → (place ≡ length line)
    ⊎ ((more : ℕ) × (place ≡ length line + (1 + more)) × (get_or rest more 0 ≡ 10))
feed_at [] rest zero none e = inl refl
feed_at [] rest (suc place) none e = inr (place, omega arith, e)
feed_at (byte ∷ line) rest zero none e = absurd (none 0 e)
feed_at (byte ∷ line) rest (suc place) none e =
    elim (feed_at line rest place (λ p. none (suc p)) e) [
      | inl at ↦ inl (ap suc at)
      | inr more ↦
          let place_is = more.1 in
          inr (more.0, omega (arith, place_is), more.2)
    ]

-- ---- the lines of an entry

-- the lines of an entry after the line for its mark, each without its line feed
wait_line : PlainEntry → List ℕ
wait_line e = codes "wait " ++ ten_digits e.elapsed

loc_line : PlainEntry → List ℕ
loc_line e = codes "loc " ++ (48 + e.locality) ∷ []

entropy_line : PlainEntry → List ℕ
entropy_line e = codes "entropy " ++ encode_lower (shown e.drawn)

cmd_line : PlainEntry → List ℕ
cmd_line e = codes "cmd " ++ encode_lower e.buffer

lines_of : PlainEntry → List ℕ
lines_of e = wait_line e ++ 10
    ∷ (loc_line e ++ 10 ∷ (entropy_line e ++ 10 ∷ (cmd_line e ++ 10 ∷ [])))

lines_grouped : (wait digits feed loc locality entropy drawn cmd buffer : List ℕ)
    → (wait ++ digits ++ (feed ++ loc) ++ locality ++ feed)
    ++ (entropy ++ drawn ++ (feed ++ cmd) ++ buffer ++ feed)
    ≡ (wait ++ digits)
    ++ (feed
    ++ ((loc ++ locality)
    ++ (feed ++ ((entropy ++ drawn) ++ (feed ++ ((cmd ++ buffer) ++ feed))))))
lines_grouped wait digits feed loc locality entropy drawn cmd buffer = simp append_assoc refl

lines_are : (e : PlainEntry) → setting_lines e ++ executing_lines e ≡ lines_of e
unfolding setting_lines executing_lines lines_of wait_line loc_line entropy_line cmd_line
lines_are e =
    lines_grouped (codes "wait ") (ten_digits e.elapsed) (10 ∷ []) (codes "loc ") ((48 + e.locality) ∷ []) (codes "entropy ")
    (encode_lower (shown e.drawn)) (codes "cmd ") (encode_lower e.buffer)

wait_none : (e : PlainEntry) → NoFeed (wait_line e)
unfolding wait_line ten_digits
wait_none e = no_feed (codes "wait " ++ ten_digits e.elapsed) (
  λ h. omega (arith, h),
  (
    λ h. omega (arith, h),
    (
      λ h. omega (arith, h),
      (
        λ h. omega (arith, h),
        (
          λ h. omega (arith, h),
          (
            λ h. omega (arith, h),
            (
              λ h. omega (arith, h),
              (
                λ h. omega (arith, h),
                (
                  λ h. omega (arith, h),
                  (
                    λ h. omega (arith, h),
                    (
                      λ h. omega (arith, h),
                      (
                        λ h. omega (arith, h),
                        (
                          λ h. omega (arith, h),
                          (λ h. omega (arith, h), (λ h. omega (arith, h), tt)),
                        ),
                      ),
                    ),
                  ),
                ),
              ),
            ),
          ),
        ),
      ),
    ),
  ),
)

loc_none : (e : PlainEntry) → NoFeed (loc_line e)
unfolding loc_line
loc_none e = no_feed (codes "loc " ++ (48 + e.locality) ∷ []) (
  λ h. omega (arith, h),
  (
    λ h. omega (arith, h),
    (λ h. omega (arith, h), (λ h. omega (arith, h), (λ h. omega (arith, h), tt))),
  ),
)

entropy_none : (e : PlainEntry) → NoFeed (entropy_line e)
unfolding entropy_line
entropy_none e = no_feed_joined (codes "entropy ") (encode_lower (shown e.drawn))
    (no_feed (codes "entropy ") (
      λ h. omega (arith, h),
      (
        λ h. omega (arith, h),
        (
          λ h. omega (arith, h),
          (
            λ h. omega (arith, h),
            (
              λ h. omega (arith, h),
              (λ h. omega (arith, h), (λ h. omega (arith, h), (λ h. omega (arith, h), tt))),
            ),
          ),
        ),
      ),
    ))
    (hex_no_feed (shown e.drawn))

cmd_none : (e : PlainEntry) → NoFeed (cmd_line e)
unfolding cmd_line
cmd_none e = no_feed_joined (codes "cmd ") (encode_lower e.buffer)
    (no_feed (codes "cmd ") (λ h. omega (arith, h), (λ h. omega (arith, h), (λ h. omega (arith, h), (λ h. omega (arith, h), tt)))))
    (hex_no_feed e.buffer)

wait_many : (e : PlainEntry) → length (wait_line e) ≡ 15
unfolding wait_line ten_digits
wait_many e = refl

loc_many : (e : PlainEntry) → length (loc_line e) ≡ 5
unfolding loc_line
loc_many e = refl

entropy_many : (e : PlainEntry) → length (entropy_line e) ≡ 8 + 2 * max 1 (length e.drawn)
unfolding entropy_line
entropy_many e =
    omega (arith, length-append (codes "entropy ") (encode_lower (shown e.drawn)), length-encode_with lower_digits (shown e.drawn), shown_many e.drawn)

cmd_many : (e : PlainEntry) → length (cmd_line e) ≡ 4 + 2 * length e.buffer
unfolding cmd_line
cmd_many e = omega (arith, length-append (codes "cmd ") (encode_lower e.buffer), length-encode_with lower_digits e.buffer)

-- the offset at which the last line of an entry ends, counted from the end of the mark's line
abbrev last_end : PlainEntry → ℕ
last_end e = 35 + 2 * max 1 (length e.drawn) + 2 * length e.buffer

abbrev Ends : (e : PlainEntry) (place : ℕ) → Type 0
Ends e place =
    ((place ≡ 15) ⊎ ((place ≡ 21) ⊎ (place ≡ drawn_line_end (length e.drawn))))
    ⊎ (place ≡ last_end e)

-- Each line feed in the lines of an entry is at the end of one of these lines.
feeds_end : (e : PlainEntry) (place : ℕ) → get_or (lines_of e) place 0 ≡ 10 → Ends e place
unfolding lines_of
feeds_end e place is =
    let a = wait_many e in
    let b = loc_many e in
    let c = entropy_many e in
    let d = cmd_many e in
    elim (feed_at (wait_line e) _ place (wait_none e) is) [
      | inl at ↦ inl (inl (at ∙ a))
      | inr second ↦
          let p = second.1 in
          elim (feed_at (loc_line e) _ second.0 (loc_none e) second.2) [
            | inl at ↦ inl (inr (inl (omega (arith, at, p, a, b))))
            | inr third ↦
                let q = third.1 in
                elim (feed_at (entropy_line e) _ third.0 (entropy_none e) third.2) [
                  | inl at ↦ inl (inr (inr (omega (arith, at, p, q, a, b, c))))
                  | inr fourth ↦
                      let r = fourth.1 in
                      elim (feed_at (cmd_line e) [] fourth.0 (cmd_none e) fourth.2) [
                        | inl at ↦ inr (omega (arith, at, p, q, r, a, b, c, d))
                        | inr none ↦
                            let zero_is : 0 ≡ 10 = none.2 in
                            absurd (omega (arith, zero_is))
                      ]
                ]
          ]
    ]

-- ---- a prefix of an entry

-- A line feed is found only at offsets within the bytes.
pub feed_within : (text : List ℕ) (place : ℕ) → get_or text place 0 ≡ 10 → place < length text
feed_within text place e =
    elim (cases_lt place (length text)) [
      | inl within ↦ within
      | inr past ↦
          let no : 0 ≡ 10 = sym (get_or_past text place 0 past) ∙ e in
          absurd (omega (arith, no))
    ]

entry_lines : (sum : ℕ) (e : PlainEntry)
    → entry_text sum e ≡ mark_line sum (mark_of e) ++ lines_of e
unfolding entry_text
entry_lines sum e =
    append_assoc (mark_line sum (mark_of e)) (setting_lines e) (executing_lines e)
    ∙ ap (λ (l : List ℕ). mark_line sum (mark_of e) ++ l) (lines_are e)

-- Each line feed after the line for an entry's mark is at the end of a line of the entry.
pub feed_in_entry : (sum : ℕ) (e : PlainEntry) (place : ℕ)
    → get_or (entry_text sum e) (72 + place) 0 ≡ 10 → Ends e place
feed_in_entry sum e place is =
    let line = mark_line sum (mark_of e) in
    let many : length line ≡ 72 = mark_line_many sum (mark_of e) (mark_many e) in
    feeds_end e place
    (sym (get_or-append-add line (lines_of e) place 0)
    ∙ ap (λ (n : ℕ). get_or (line ++ lines_of e) (n + place) 0) many
    ∙ ap (λ (l : List ℕ). get_or l (72 + place) 0) (sym (entry_lines sum e)) ∙ is)

-- The lines of a prefix of an entry end only where the lines of the entry end.
pub front_lines_end : (sum : ℕ) (e : PlainEntry) (size : ℕ) → IsEntry e → size ≤ 72 + last_end e
    → LinesEnd (mark_of e) (take size (entry_text sum e))
front_lines_end sum e size is less place there =
    let text = entry_text sum e in
    let in_front : get_or (take size text) (72 + place) 0 ≡ 10 =
    sym (get_or-drop 72 (take size text) place 0) ∙ there in
    let within = feed_within (take size text) (72 + place) in_front in
    let small : 72 + place < size = omega (arith, within, length-take size text) in
    let told = drawn_told e is in
    elim (feed_in_entry sum e place (sym (get_or-take size text (72 + place) 0 small) ∙ in_front)) [
      | inl end ↦ subst (λ (n : ℕ). (place ≡ 15) ⊎ ((place ≡ 21) ⊎ (place ≡ drawn_line_end n)))
          (sym told) end
      | inr last ↦ absurd (omega (arith, last, small, less))
    ]

-- If all lines of the input end where lines of the mark's entry end (`LinesEnd`), this is also true
-- of each prefix of the input.
pub lines_end_front : (mark front back : List ℕ) → LinesEnd mark (front ++ back)
    → LinesEnd mark front
lines_end_front mark front back end place there =
    let at : get_or front (72 + place) 0 ≡ 10 = sym (get_or-drop 72 front place 0) ∙ there in
    end place (get_or-drop 72 (front ++ back) place 0
    ∙ get_or_append_left front back 0 (72 + place) (feed_within front (72 + place) at) ∙ at)

-- Appending zeros to the input adds no line end.
pub lines_end_zeros : (mark front : List ℕ) (count : ℕ) → LinesEnd mark front
    → LinesEnd mark (front ++ replicate count 0)
lines_end_zeros mark front count end place there =
    let text = front ++ replicate count 0 in
    let at : get_or text (72 + place) 0 ≡ 10 = sym (get_or-drop 72 text place 0) ∙ there in
    elim (cases_lt (72 + place) (length front)) [
      | inl within ↦
          end place (get_or-drop 72 front place 0
          ∙ sym (get_or_append_left front (replicate count 0) 0 (72 + place) within) ∙ at)
      | inr past ↦
          let no : 10 ≡ 0 = sym at ∙ get_or-append_right front (replicate count 0) (72 + place) 0
          past ∙ zero_at count (72 + place - length front) in
          absurd (omega (arith, no))
    ]

-- ---- the bytes after the line for a mark

-- All line feeds after the line for a mark are at the offsets that the mark determines.
abbrev EndAt : (lines : List ℕ) → (drawn_end : ℕ) → Type 0
EndAt lines drawn_end = (place : ℕ) → get_or lines place 0 ≡ 10
    → (place ≡ 15) ⊎ ((place ≡ 21) ⊎ (place ≡ drawn_end))

pub lines_end_so : (mark text lines : List ℕ) (drawn_end : ℕ) → lines ≡ drop 72 text
    → drawn_end ≡ drawn_line_end (drawn_size mark)
    → EndAt lines drawn_end → LinesEnd mark text
lines_end_so mark text lines drawn_end split told end =
    subst (λ (l : List ℕ). EndAt l (drawn_line_end (drawn_size mark))) split
    (subst (EndAt lines) told end)

pub lines_end_not : (mark text lines : List ℕ) (drawn_end : ℕ) → lines ≡ drop 72 text
    → drawn_end ≡ drawn_line_end (drawn_size mark)
    → (EndAt lines drawn_end → ⊥) → LinesEnd mark text → ⊥
lines_end_not mark text lines drawn_end split told not end =
    not (subst (EndAt lines) (sym told)
    (subst (λ (l : List ℕ). EndAt l (drawn_line_end (drawn_size mark))) (sym split) end))
