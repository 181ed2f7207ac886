-- TPM2_Clear keeps the bytes of the NV indices that the platform defined. The remaining heads and
-- bytes represent exactly these indices.
use Rattle.std.proofs.Common.{◌≡◌, ℕ, ◌+◌, ◌-◌, ◌≤◌, Bool, true, false, cond, List, [], ◌∷◌, ◌++◌, length, take, drop, refl, sym, ap, ◌∙◌, arith, append_assoc, length-append, length-drop}
use Rattle.std.proofs.lemmas.Bool.{cond_both}
use Rattle.std.proofs.lemmas.List.{drop-drop, drop_at, length-take-le, take_at}
use Rattle.tpm_containers.specs.SortedMap.{Entries, kept_entries}
use Rattle.tpm_containers.proofs.SortedMapLaws.{kept_ascends, kept_few}
use Rattle.tpm_nv.specs.Bytes.{moved_down, piece_of}
use Rattle.tpm_nv.specs.Clear.{is_by_platform}
use Rattle.tpm_nv.specs.Head.{AreHeads, AreKept, index_with, indices_of, kept_bytes, size_of, stays, total}
use Rattle.tpm_nv.specs.Index.{NvIndex}
use Rattle.tpm_nv.specs.declared.head.Head.{Head}

-- ---- a piece is moved down to the end of the kept bytes

module _ (start size place : ℕ) (area : List ℕ) (inside : start + size ≤ length area)
    (lower : place ≤ start) where
  front_long : length (take place area ++ piece_of start size area) ≡ place + size
  front_long =
      omega (
        arith,
        inside,
        lower,
        length-append (take place area) (piece_of start size area),
        length-take-le place area (omega (arith, inside, lower)),
        length-take-le size (drop start area) (omega (arith, inside, length-drop start area)),
      )

  in_two : moved_down start size place area ≡ (take place area ++ piece_of start size area)
      ++ drop (place + size) area
  in_two =
      sym (append_assoc (take place area) (piece_of start size area) (drop (place + size) area))

  moved_back : drop (place + size) (moved_down start size place area) ≡ drop (place + size) area
  moved_back =
      rw in_two (drop_at (take place area ++ piece_of start size area) (drop (place + size) area)
      (place + size) front_long)

  -- Moving a piece down does not change the bytes after the piece's old position.
  pub moved_behind : drop (start + size) (moved_down start size place area)
      ≡ drop (start + size) area
  moved_behind =
      let far : start + size ≡ place + size + (start - place) = omega (arith, lower) in
      rw far (
      sym (drop-drop (start - place) (place + size) (moved_down start size place area))
      ∙ ap (drop (start - place)) moved_back
      ∙ drop-drop (start - place) (place + size) area
      )

-- ---- the indices that heads and bytes represent

show_one : (b : Bool) (e : ℕ × Head) (es : Entries Head) (piece bytes : List ℕ)
    (shown : Entries NvIndex) → length piece ≡ size_of e.1 → indices_of es bytes ≡ shown
    → indices_of (cond b (e ∷ es) es) (cond b piece [] ++ bytes)
    ≡ cond b ((e.0, index_with e.1 piece) ∷ shown) shown
show_one true e es piece bytes shown long is =
    rw (take_at piece bytes (size_of e.1) long, drop_at piece bytes (size_of e.1) long)
    (ap (λ (l : Entries NvIndex). (e.0, index_with e.1 piece) ∷ l) is)
show_one false e es piece bytes shown long is = is

pub shown_kept : (es : Entries Head) (area : List ℕ) → total es ≤ length area
    → indices_of (kept_entries stays es) (kept_bytes es area)
    ≡ kept_entries (λ (i : NvIndex). is_by_platform i.public) (indices_of es area)
shown_kept [] area fits = refl
shown_kept (e ∷ es) area fits =
    let n = size_of e.1 in
    let rest = shown_kept es (drop n area) (omega (arith, fits, length-drop n area)) in
    show_one (stays e.1) e (kept_entries stays es) (take n area) (kept_bytes es (drop n area)) _
    (length-take-le n area (omega (arith, fits))) rest

-- ---- the bytes that are kept

long_one : (b : Bool) (e : ℕ × Head) (es : Entries Head) (piece bytes : List ℕ)
    → length piece ≡ size_of e.1 → length bytes ≡ total es
    → length (cond b piece [] ++ bytes) ≡ total (cond b (e ∷ es) es)
long_one true e es piece bytes long is = omega (arith, length-append piece bytes, long, is)
long_one false e es piece bytes long is = is

length_kept : (es : Entries Head) (area : List ℕ) → total es ≤ length area
    → length (kept_bytes es area) ≡ total (kept_entries stays es)
length_kept [] area fits = refl
length_kept (e ∷ es) area fits =
    let n = size_of e.1 in
    let rest = length_kept es (drop n area) (omega (arith, fits, length-drop n area)) in
    long_one (stays e.1) e (kept_entries stays es) (take n area) (kept_bytes es (drop n area))
    (length-take-le n area (omega (arith, fits))) rest

total_kept : (es : Entries Head) → total (kept_entries stays es) ≤ total es
total_kept [] = omega arith
total_kept (e ∷ es) =
    cond_both (stays e.1) _ _ (λ (l : Entries Head). total l ≤ size_of e.1 + total es)
    (λ _. omega (arith, total_kept es))
    (λ _. omega (arith, total_kept es))

heads_kept : (es : Entries Head) → AreHeads es → AreHeads (kept_entries stays es)
heads_kept [] are = tt
heads_kept (e ∷ es) are =
    cond_both (stays e.1) _ _ AreHeads
    (λ _. (are.0, heads_kept es are.1))
    (λ _. heads_kept es are.1)

pub kept_cleared : (es : Entries Head) (area : List ℕ) → AreKept es area
    → AreKept (kept_entries stays es) (kept_bytes es area)
kept_cleared es area kept = record {
  ascends = kept_ascends stays es kept.ascends;
  few = omega (arith, kept_few stays es, kept.few);
  whole = length_kept es area (omega (arith, kept.whole));
  small = omega (arith, total_kept es, kept.small);
  each = heads_kept es kept.each;
}
