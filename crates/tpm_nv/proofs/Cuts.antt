-- NV indices are represented by heads (the indices without their data) and by an area with all
-- data. If the heads and the area change together, the indices change accordingly.
use Rattle.std.proofs.Common.{◌≡◌, ◌≢◌, ℕ, ◌+◌, ◌-◌, ◌<◌, ◌≤◌, cond, eqb, leb, zero, suc, List, [], ◌∷◌, ◌++◌, length, get_or, take, drop, replicate, Option, Some, None, refl, sym, ap, subst, ◌∙◌, arith, inl, inr, append_assoc, length-append, length-drop}
use Rattle.std.proofs.Math.Seq.{drop-append-add, take-append-add}
use Rattle.std.specs.List.{sum_by}
use Rattle.std.specs.Prelude.{map}
use Rattle.std.proofs.lemmas.Bool.{cases_eq, cases_lt, cond_both, cond-true, cond-false, eq-eqb, ne_eqb, le-leb, lt-leb}
use Rattle.std.proofs.lemmas.List.{append-nil, drop-drop, drop-append-le, drop-take, drop-replicate, drop_all, drop_at, length-replicate, length-take-le, take-append-drop, take-append-le, take-take, take_at}
use Rattle.std.proofs.lemmas.List.Sums.{sum_by-cons}
use Rattle.tpm_containers.specs.SortedMap.{AllAbove, Ascends, Entries, at_key, changed_key, key_from, with_key, without_key}
use Rattle.tpm_nv.specs.Bytes.{bytes_with_gap, closed_up, piece_of, put_over}
use Rattle.tpm_nv.specs.Head.{AreHeads, IsHead, head_of, index_with, indices_of, size_of, start_of, total}
use Rattle.tpm_nv.specs.Index.{NvIndex}
use Rattle.tpm_nv.specs.declared.head.Head.{Head}

-- ---- an area in two parts

take_front : (n s : ℕ) (area rest : List ℕ) → n + s ≤ length area
    → take n (take (n + s) area ++ rest) ≡ take n area
take_front n s area rest fits =
    take-append-le n (take (n + s) area) rest (omega (arith, length-take-le (n + s) area fits))
    ∙ take-take n (n + s) area (omega arith)

drop_front : (n s : ℕ) (area rest : List ℕ) → n + s ≤ length area
    → drop n (take (n + s) area ++ rest) ≡ take s (drop n area) ++ rest
drop_front n s area rest fits =
    drop-append-le n (take (n + s) area) rest (omega (arith, length-take-le (n + s) area fits))
    ∙ ap (λ (l : List ℕ). l ++ rest) (drop-take n s area)

-- ---- a key that exists

-- In a sorted list, a key that is found either equals the first key, or is above it and found among
-- the other entries.
data Place (e : ℕ × Head) (es : Entries Head) (key : ℕ) (h : Head) : Type 0 where
  here : e.0 ≡ key → e.1 ≡ h → Place e es key h
  behind : e.0 ≢ key → e.0 < key → at_key es key ≡ Some h → Place e es key h

above_first : (low : ℕ) (es : Entries Head) (key : ℕ) (h : Head) → AllAbove low es
    → at_key es key ≡ Some h → low < key
above_first low [] key h above there = absurd cc
above_first low (f ∷ es) key h above there =
    elim (cases_eq f.0 key) [
      | inl same ↦ let first = above.0 in omega arith
      | inr apart ↦ above_first low es key h above.1
          (sym (cond-false _ _ _ (ne_eqb f.0 key apart)) ∙ there)
    ]

place : (e : ℕ × Head) (es : Entries Head) (key : ℕ) (h : Head) → Ascends (e ∷ es)
    → at_key (e ∷ es) key ≡ Some h → Place e es key h
place e es key h up there =
    elim (cases_eq e.0 key) [
      | inl same ↦
          let found : Some e.1 ≡ Some h = sym (cond-true _ _ _ (eq-eqb e.0 key same)) ∙ there in
          here same cc
      | inr apart ↦
          let found = sym (cond-false _ _ _ (ne_eqb e.0 key apart)) ∙ there in
          behind apart (above_first e.0 es key h up.0 found) found
    ]

-- If all keys are above a bound, no key at or below the bound is found.
pub none_below : (es : Entries Head) (key low : ℕ) → AllAbove low es → key ≤ low
    → at_key es key ≡ None
none_below [] key low above under = refl
none_below (e ∷ es) key low above under =
    rw (ne_eqb e.0 key (λ same. omega (arith, same, above.0, under)))
    (none_below es key low above.1 under)

-- In a sorted list, a search that starts at an entry does not find a key below the key of this
-- entry.
pub none_from : (es : Entries Head) (i key : ℕ) (d : ℕ × Head) → i < length es → Ascends (drop i es)
    → key ≤ (get_or es i d).0 → key ≢ (get_or es i d).0 → at_key (drop i es) key ≡ None
none_from [] i key d in_es up under apart = absurd (omega (arith, in_es))
none_from (e ∷ es) zero key d in_es up under apart =
    rw (ne_eqb e.0 key (λ same. apart (sym same))) (none_below es key e.0 up.0 under)
none_from (e ∷ es) (suc i) key d in_es up under apart =
    none_from es i key d (omega (arith, in_es)) up under apart

-- ---- the offset of a key's bytes

pub start_fits : (es : Entries Head) (key : ℕ) → start_of es key ≤ total es
start_fits [] key = omega arith
start_fits (e ∷ es) key =
    cond_both (leb key e.0) _ _ (λ (s : ℕ). s ≤ size_of e.1 + total es)
    (λ _. omega arith)
    (λ _. omega (arith, start_fits es key))

pub piece_fits : (es : Entries Head) (key : ℕ) (h : Head) → Ascends es → at_key es key ≡ Some h
    → start_of es key + size_of h ≤ total es
piece_fits [] key h up there = absurd cc
piece_fits (e ∷ es) key h up there =
    elim (place e es key h up there) [
      | here same is ↦ rw (le-leb key e.0 (omega arith), ← is) (omega arith)
      | behind apart lower found ↦ rw (lt-leb key e.0 lower)
          (omega (arith, piece_fits es key h up.1 found))
    ]

rest_fits : (e : ℕ × Head) (es : Entries Head) (area : List ℕ) → total (e ∷ es) ≤ length area
    → total es ≤ length (drop (size_of e.1) area)
rest_fits e es area fits = omega (arith, fits, length-drop (size_of e.1) area)

-- ---- the index that a search for a key finds

pub found_among : (es : Entries Head) (area : List ℕ) (key : ℕ) (h : Head) → Ascends es
    → at_key es key ≡ Some h → at_key (indices_of es area) key
    ≡ Some (index_with h (piece_of (start_of es key) (size_of h) area))
found_among [] area key h up there = absurd cc
found_among (e ∷ es) area key h up there =
    elim (place e es key h up there) [
      | here same is ↦ rw (eq-eqb e.0 key same, le-leb key e.0 (omega arith), ← is) refl
      | behind apart lower found ↦
          let s = start_of es key in
          rw (ne_eqb e.0 key apart, lt-leb key e.0 lower) (
          found_among es (drop (size_of e.1) area) key h up.1 found
          ∙ ap (λ (l : List ℕ). Some (index_with h (take (size_of h) l)))
          (drop-drop s (size_of e.1) area)
          )
    ]

pub none_among : (es : Entries Head) (area : List ℕ) (key : ℕ) → at_key es key ≡ None
    → at_key (indices_of es area) key ≡ None
none_among [] area key none = refl
none_among (e ∷ es) area key none =
    elim (cases_eq e.0 key) [
      | inl same ↦ let some : Some e.1 ≡ None =
          sym (cond-true _ _ _ (eq-eqb e.0 key same)) ∙ none in absurd cc
      | inr apart ↦ rw (ne_eqb e.0 key apart)
          (none_among es (drop (size_of e.1) area) key
          (sym (cond-false _ _ _ (ne_eqb e.0 key apart)) ∙ none))
    ]

pub next_among : (es : Entries Head) (area : List ℕ) (key : ℕ)
    → key_from (indices_of es area) key ≡ key_from es key
next_among [] area key = refl
next_among (e ∷ es) area key =
    ap (λ (o : Option ℕ). cond (leb key e.0) (Some e.0) o)
    (next_among es (drop (size_of e.1) area) key)

pub heads_among : (es : Entries Head) (area : List ℕ)
    → es ≡ map (λ (e : ℕ × NvIndex). (e.0, head_of e.1)) (indices_of es area)
heads_among [] area = refl
heads_among (e ∷ es) area =
    ap (λ (l : Entries Head). e ∷ l) (heads_among es (drop (size_of e.1) area))

pub length_among : (es : Entries Head) (area : List ℕ) → length (indices_of es area) ≡ length es
length_among [] area = refl
length_among (e ∷ es) area = omega (arith, length_among es (drop (size_of e.1) area))

pub bytes_among : (es : Entries Head) (area : List ℕ)
    → sum_by (λ (e : ℕ × NvIndex). e.1.public.data_size) (indices_of es area) ≡ total es
bytes_among [] area = refl
bytes_among (e ∷ es) area =
    let rest = drop (size_of e.1) area in
    sum_by-cons (λ (e : ℕ × NvIndex). e.1.public.data_size)
    (e.0, index_with e.1 (take (size_of e.1) area)) (indices_of es rest)
    ∙ ap (λ (s : ℕ). size_of e.1 + s) (bytes_among es rest)

above_among : (low : ℕ) (es : Entries Head) (area : List ℕ) → AllAbove low es
    → AllAbove low (indices_of es area)
above_among low [] area above = tt
above_among low (e ∷ es) area above =
    (above.0, above_among low es (drop (size_of e.1) area) above.1)

pub ascends_among : (es : Entries Head) (area : List ℕ) → Ascends es → Ascends (indices_of es area)
ascends_among [] area up = tt
ascends_among (e ∷ es) area up =
    let rest = drop (size_of e.1) area in
    (above_among e.0 es rest up.0, ascends_among es rest up.1)

-- ---- adding an index

pub put_among : (es : Entries Head) (area piece : List ℕ) (key : ℕ) (h : Head)
    → total es ≤ length area → length piece ≡ size_of h
    → with_key (indices_of es area) key (index_with h piece)
    ≡ indices_of (with_key es key h)
    (take (start_of es key) area ++ (piece ++ drop (start_of es key) area))
put_among [] area piece key h fits size = rw (take_at piece area (size_of h) size) refl
put_among (e ∷ es) area piece key h fits size =
    elim (cases_lt e.0 key) [
      | inl lower ↦
          let n = size_of e.1 in
          let s = start_of es key in
          let within : n + s ≤ length area = omega (arith, fits, start_fits es key) in
          let rest = piece ++ drop (n + s) area in
          rw (
            lt-leb key e.0 lower,
            take_front n s area rest within,
            drop_front n s area rest within,
          ) (
          ap (λ (l : Entries NvIndex). (e.0, index_with e.1 (take n area)) ∷ l) (
          put_among es (drop n area) piece key h (rest_fits e es area fits) size
          ∙ ap (λ (l : List ℕ). indices_of (with_key es key h)
          (take s (drop n area) ++ (piece ++ l))) (drop-drop s n area)
          )
          )
      | inr from ↦ rw (
        le-leb key e.0 from,
        take_at piece area (size_of h) size,
        drop_at piece area (size_of h) size,
      ) refl
    ]

-- ---- removing an index

pub removed_among : (es : Entries Head) (area : List ℕ) (key : ℕ) (h : Head) → Ascends es
    → total es ≤ length area → at_key es key ≡ Some h
    → without_key (indices_of es area) key
    ≡ indices_of (without_key es key) (closed_up (start_of es key) (size_of h) area)
removed_among [] area key h up fits there = absurd cc
removed_among (e ∷ es) area key h up fits there =
    elim (place e es key h up there) [
      | here same is ↦
          let none : size_of e.1 ≡ 0 + size_of h = omega (arith, ap size_of is) in
          rw (eq-eqb e.0 key same, le-leb key e.0 (omega arith))
          (ap (λ (k : ℕ). indices_of es (drop k area)) none)
      | behind apart lower found ↦
          let n = size_of e.1 in
          let s = start_of es key in
          let m = size_of h in
          let within : n + s ≤ length area = omega (arith, fits, start_fits es key) in
          let rest = drop (n + s + m) area in
          let sum : n + (s + m) ≡ n + s + m = omega arith in
          rw (
            ne_eqb e.0 key apart,
            lt-leb key e.0 lower,
            take_front n s area rest within,
            drop_front n s area rest within,
          ) (
          ap (λ (l : Entries NvIndex). (e.0, index_with e.1 (take n area)) ∷ l) (
          removed_among es (drop n area) key h up.1 (rest_fits e es area fits) found
          ∙ ap (λ (l : List ℕ). indices_of (without_key es key) (take s (drop n area) ++ l))
          (drop-drop (s + m) n area ∙ ap (λ (k : ℕ). drop k area) sum)
          )
          )
    ]

-- ---- changing an index

pub changed_among : (es : Entries Head) (area piece : List ℕ) (key : ℕ) (h g : Head) → Ascends es
    → total es ≤ length area → at_key es key ≡ Some h → size_of g ≡ size_of h
    → length piece ≡ size_of h → changed_key (indices_of es area) key (index_with g piece)
    ≡ indices_of (changed_key es key g) (put_over (start_of es key) piece area)
changed_among [] area piece key h g up fits there same_size size = absurd cc
changed_among (e ∷ es) area piece key h g up fits there same_size size =
    elim (place e es key h up there) [
      | here same is ↦
          let whole : length piece ≡ size_of g = omega arith in
          let front : 0 + length piece ≡ size_of e.1 = omega (arith, ap size_of is) in
          let rest = drop (0 + length piece) area in
          rw (
            eq-eqb e.0 key same,
            le-leb key e.0 (omega arith),
            take_at piece rest (size_of g) whole,
            drop_at piece rest (size_of g) whole,
          )
          (ap (λ (k : ℕ). (e.0, index_with g piece) ∷ indices_of es (drop k area)) (sym front))
      | behind apart lower found ↦
          let n = size_of e.1 in
          let s = start_of es key in
          let m = length piece in
          let within : n + s ≤ length area = omega (arith, fits, start_fits es key) in
          let rest = piece ++ drop (n + s + m) area in
          let sum : n + (s + m) ≡ n + s + m = omega arith in
          rw (
            ne_eqb e.0 key apart,
            lt-leb key e.0 lower,
            take_front n s area rest within,
            drop_front n s area rest within,
          ) (
          ap (λ (l : Entries NvIndex). (e.0, index_with e.1 (take n area)) ∷ l) (
          changed_among es (drop n area) piece key h g up.1 (rest_fits e es area fits) found
          same_size size
          ∙ ap (λ (l : List ℕ). indices_of (changed_key es key g)
          (take s (drop n area) ++ (piece ++ l)))
          (drop-drop (s + m) n area ∙ ap (λ (k : ℕ). drop k area) sum)
          )
          )
    ]

-- ---- the number of bytes of all indices

pub total_put : (es : Entries Head) (key : ℕ) (h : Head)
    → total (with_key es key h) ≡ total es + size_of h
total_put [] key h = omega arith
total_put (e ∷ es) key h =
    cond_both (leb key e.0) _ _ (λ (l : Entries Head). total l ≡ size_of e.1 + total es + size_of h)
    (λ _. omega arith)
    (λ _. omega (arith, total_put es key h))

pub total_removed : (es : Entries Head) (key : ℕ) (h : Head) → Ascends es → at_key es key ≡ Some h
    → total (without_key es key) + size_of h ≡ total es
total_removed [] key h up there = absurd cc
total_removed (e ∷ es) key h up there =
    elim (place e es key h up there) [
      | here same is ↦ rw (eq-eqb e.0 key same, ← is) (omega arith)
      | behind apart lower found ↦ rw (ne_eqb e.0 key apart)
          (omega (arith, total_removed es key h up.1 found))
    ]

pub total_changed : (es : Entries Head) (key : ℕ) (h g : Head) → Ascends es → at_key es key ≡ Some h
    → size_of g ≡ size_of h → total (changed_key es key g) ≡ total es
total_changed [] key h g up there same_size = absurd cc
total_changed (e ∷ es) key h g up there same_size =
    elim (place e es key h up there) [
      | here same is ↦ rw (eq-eqb e.0 key same) (omega (arith, same_size, ap size_of is))
      | behind apart lower found ↦ rw (ne_eqb e.0 key apart)
          (omega (arith, total_changed es key h g up.1 found same_size))
    ]

-- ---- properties of each head

pub head_at : (es : Entries Head) (key : ℕ) (h : Head) → Ascends es → AreHeads es
    → at_key es key ≡ Some h → IsHead key h
head_at [] key h up are there = absurd cc
head_at (e ∷ es) key h up are there =
    elim (place e es key h up there) [
      | here same is ↦ subst (λ (k : ℕ). IsHead k h) same
          (subst (λ (x : Head). IsHead e.0 x) is are.0)
      | behind apart lower found ↦ head_at es key h up.1 are.1 found
    ]

pub heads_put : (es : Entries Head) (key : ℕ) (h : Head) → AreHeads es → IsHead key h
    → AreHeads (with_key es key h)
heads_put [] key h are is = (is, tt)
heads_put (e ∷ es) key h are is =
    cond_both (leb key e.0) _ _ AreHeads
    (λ _. (is, are))
    (λ _. (are.0, heads_put es key h are.1 is))

pub heads_removed : (es : Entries Head) (key : ℕ) → AreHeads es → AreHeads (without_key es key)
heads_removed [] key are = tt
heads_removed (e ∷ es) key are =
    cond_both (eqb e.0 key) _ _ AreHeads
    (λ _. are.1)
    (λ _. (are.0, heads_removed es key are.1))

pub heads_changed : (es : Entries Head) (key : ℕ) (h : Head) → AreHeads es → IsHead key h
    → AreHeads (changed_key es key h)
heads_changed [] key h are is = tt
heads_changed (e ∷ es) key h are is =
    elim (cases_eq e.0 key) [
      | inl same ↦ rw (eq-eqb e.0 key same) (subst (λ (k : ℕ). IsHead k h) (sym same) is, are.1)
      | inr apart ↦ rw (ne_eqb e.0 key apart) (are.0, heads_changed es key h are.1 is)
    ]

-- ---- bytes inside a piece

pub length_put : (offset : ℕ) (piece bytes : List ℕ) → offset + length piece ≤ length bytes
    → length (put_over offset piece bytes) ≡ length bytes
length_put offset piece bytes fits =
    let back = drop (offset + length piece) bytes in
    omega (
      arith,
      fits,
      length-append (take offset bytes) (piece ++ back),
      length-append piece back,
      length-take-le offset bytes (omega arith),
      length-drop (offset + length piece) bytes,
    )

-- If a piece is overwritten with itself, nothing changes.
pub put_back : (start size : ℕ) (area : List ℕ) → start + size ≤ length area
    → put_over start (piece_of start size area) area ≡ area
put_back start size area fits =
    let behind = drop start area in
    let many : length (take size behind) ≡ size =
    length-take-le size behind (omega (arith, fits, length-drop start area)) in
    rw (
      many,
      ← drop-drop size start area,
      take-append-drop size behind,
      take-append-drop start area,
    ) refl

-- The area is the same whether bytes are written into a piece before or after the piece is written
-- into the area.
put_inside : (start offset : ℕ) (inner piece area : List ℕ) → start + length piece ≤ length area
    → offset + length inner ≤ length piece
    → put_over (start + offset) inner (put_over start piece area)
    ≡ put_over start (put_over offset inner piece) area
put_inside start offset inner piece area fits within =
    let front = take start area in
    let back = drop (start + length piece) area in
    let rest = drop (offset + length inner) piece in
    let many : length front ≡ start = length-take-le start area (omega arith) in
    let first : take (start + offset) (front ++ (piece ++ back)) ≡ front ++ take offset piece =
    ap (λ (k : ℕ). take (k + offset) (front ++ (piece ++ back))) (sym many)
    ∙ take-append-add front (piece ++ back) offset
    ∙ ap (λ (l : List ℕ). front ++ l) (take-append-le offset piece back (omega arith)) in
    let far : start + offset + length inner ≡ length front + (offset + length inner) =
    omega arith in
    let last : drop (start + offset + length inner) (front ++ (piece ++ back)) ≡ rest ++ back =
    ap (λ (k : ℕ). drop k (front ++ (piece ++ back))) far
    ∙ drop-append-add front (piece ++ back) (offset + length inner)
    ∙ drop-append-le (offset + length inner) piece back within in
    rw (first, last, length_put offset inner piece within) (simp append_assoc refl)

-- Reading a piece from an area, writing bytes into it, and writing the piece back is the same as
-- writing the bytes into the area.
pub put_within : (start size offset : ℕ) (inner area : List ℕ) → start + size ≤ length area
    → offset + length inner ≤ size → put_over (start + offset) inner area
    ≡ put_over start (put_over offset inner (piece_of start size area)) area
put_within start size offset inner area fits within =
    let piece = piece_of start size area in
    let many : length piece ≡ size =
    length-take-le size (drop start area) (omega (arith, fits, length-drop start area)) in
    ap (λ (l : List ℕ). put_over (start + offset) inner l) (sym (put_back start size area fits))
    ∙ put_inside start offset inner piece area (omega arith) (omega arith)

pub put_anew : (start offset : ℕ) (inner piece area : List ℕ) → start + length piece ≤ length area
    → offset + length inner ≤ length piece
    → put_over (start + offset) inner (put_over start piece area)
    ≡ put_over start (put_over offset inner piece) area
put_anew = put_inside

-- If bytes are overwritten with a piece of the same length, the result is the piece.
pub put_all : (piece bytes : List ℕ) → length piece ≡ length bytes → put_over 0 piece bytes ≡ piece
put_all piece bytes same =
    let none : drop (0 + length piece) bytes ≡ [] =
    drop_all (0 + length piece) bytes (omega arith) in
    rw none (append-nil piece)

-- If a gap is opened in the area, filled with a piece, and closed again, the area is unchanged.
pub closed_again : (start size : ℕ) (piece area : List ℕ) → start ≤ length area
    → length piece ≡ size → closed_up start size (take start area ++ (piece ++ drop start area))
    ≡ area
closed_again start size piece area inside same =
    let front = take start area in
    let many : length front ≡ start = length-take-le start area inside in
    let behind : drop (start + size) (front ++ (piece ++ drop start area)) ≡ drop start area =
    ap (λ (k : ℕ). drop k (front ++ (piece ++ drop start area)))
    (let sum : start + size ≡ length front + size = omega arith in sum)
    ∙ drop-append-add front (piece ++ drop start area) size
    ∙ drop_at piece (drop start area) size same in
    rw (take_at front (piece ++ drop start area) start many, behind) (take-append-drop start area)

-- Writing a piece into an opened gap is the same as inserting the piece, padded with zeros if it is
-- shorter than the gap.
pub put_opened : (start size : ℕ) (piece area : List ℕ) → start ≤ length area → length piece ≤ size
    → put_over start piece (bytes_with_gap start size area)
    ≡ take start area ++ ((piece ++ replicate (size - length piece) 0) ++ drop start area)
put_opened start size piece area inside within =
    let front = take start area in
    let back = drop start area in
    let zeros = replicate {A = ℕ} size 0 in
    let many : length front ≡ start = length-take-le start area inside in
    let far : start + length piece ≡ length front + length piece = omega arith in
    let last : drop (start + length piece) (front ++ (zeros ++ back))
    ≡ replicate (size - length piece) 0 ++ back =
    ap (λ (k : ℕ). drop k (front ++ (zeros ++ back))) far
    ∙ drop-append-add front (zeros ++ back) (length piece)
    ∙ drop-append-le (length piece) zeros back
    (omega (arith, within, length-replicate {A = ℕ} size 0))
    ∙ ap (λ (l : List ℕ). l ++ back) (drop-replicate (length piece) size 0) in
    rw (take_at front (zeros ++ back) start many, last)
    (ap (λ (l : List ℕ). front ++ l)
    (sym (append_assoc piece (replicate (size - length piece) 0) back)))
