-- A gap of zeros is opened in a list of bytes in two steps: the zeros are appended at the end, and
-- then moved from the end to the gap's offset. A gap is closed in two steps: its bytes are moved to
-- the end, and then the list is truncated.
use Rattle.std.proofs.Common.{◌≡◌, ℕ, ◌+◌, ◌-◌, ◌≤◌, List, ◌++◌, length, take, drop, replicate, refl, sym, append_assoc, arith, length-append, length-drop}
use Rattle.std.proofs.lemmas.List.{length-replicate, take_at, drop_at, take-append-le, drop-append-le, length-take-le}
use Rattle.std.specs.List.{copy_within}
use Rattle.tpm_nv.specs.Bytes.{bytes_with_gap, closed_up, moved_down, moved_from_end, moved_to_end, piece_of}

pub opened_by_moving : (start size : ℕ) (bytes : List ℕ) → start ≤ length bytes
    → moved_from_end start size (bytes ++ replicate size 0) ≡ bytes_with_gap start size bytes
unfolding moved_from_end
opened_by_moving start size bytes inside =
    let zeros = replicate {A = ℕ} size 0 in
    let behind : drop start (bytes ++ zeros) ≡ drop start bytes ++ zeros =
    drop-append-le start bytes zeros inside in
    let many : length (drop start bytes ++ zeros) - size ≡ length (drop start bytes) =
    omega (arith, length-append (drop start bytes) zeros, length-replicate {A = ℕ} size 0) in
    rw (
      take-append-le start bytes zeros inside,
      behind,
      many,
      drop_at (drop start bytes) zeros (length (drop start bytes)) refl,
      take_at (drop start bytes) zeros (length (drop start bytes)) refl,
    ) refl

pub opened_length : (start size : ℕ) (bytes : List ℕ) → start ≤ length bytes
    → length (bytes_with_gap start size bytes) ≡ length (bytes ++ replicate size 0)
opened_length start size bytes inside =
    let zeros = replicate {A = ℕ} size 0 in
    omega (
      arith,
      length-append (take start bytes) (zeros ++ drop start bytes),
      length-append zeros (drop start bytes),
      length-append bytes zeros,
      length-take-le start bytes inside,
      length-drop start bytes,
    )

pub closed_by_moving : (start size : ℕ) (bytes : List ℕ) → start + size ≤ length bytes
    → take (length bytes - size) (moved_to_end start size bytes) ≡ closed_up start size bytes
closed_by_moving start size bytes inside =
    let front = take start bytes in
    let behind = drop (start + size) bytes in
    let whole : front ++ (behind ++ piece_of start size bytes)
    ≡ (front ++ behind) ++ piece_of start size bytes =
    sym (append_assoc front behind (piece_of start size bytes)) in
    rw whole (take_at (front ++ behind) (piece_of start size bytes) (length bytes - size)
    (omega (
      arith,
      length-append front behind,
      length-take-le start bytes (omega arith),
      length-drop (start + size) bytes,
    )))

pub moved_by_copying : (start size place : ℕ) (bytes : List ℕ)
    → copy_within bytes start (start + size) place ≡ moved_down start size place bytes
moved_by_copying start size place bytes =
    let many : start + size - start ≡ size = omega arith in
    rw many (append_assoc (take place bytes) (piece_of start size bytes)
    (drop (place + size) bytes))
