-- Edits of an area of bytes: bytes are overwritten, inserted, removed, moved or copied.
use Rattle.std.specs.Prelude.{ℕ, ◌+◌, ◌-◌, List, ◌++◌, length, take, drop, replicate, Bool, if◌then◌else◌}

-- the bytes of this size at this offset
abbrev pub piece_of : (start size : ℕ) → List ℕ → List ℕ
piece_of start size bytes = take size (drop start bytes)

-- the bytes with `piece` written over them at an offset
abbrev pub put_over : (start : ℕ) → (piece bytes : List ℕ) → List ℕ
put_over start piece bytes = take start bytes ++ (piece ++ drop (start + length piece) bytes)

-- the bytes with the piece at this offset filled with `byte`, or unchanged if the piece is already
-- written
abbrev pub filled_bytes : (is_written : Bool) → (start size byte : ℕ) → List ℕ → List ℕ
filled_bytes is_written start size byte bytes =
    if is_written then bytes else put_over start (replicate size byte) bytes

-- the bytes with zeros inserted at an offset
abbrev pub bytes_with_gap : (start size : ℕ) → List ℕ → List ℕ
bytes_with_gap start size bytes = take start bytes ++ (replicate size 0 ++ drop start bytes)

-- the bytes without the `size` bytes at an offset
abbrev pub closed_up : (start size : ℕ) → List ℕ → List ℕ
closed_up start size bytes = take start bytes ++ drop (start + size) bytes

-- the result of moving the last `size` bytes to an offset
unfoldable pub moved_from_end : (start size : ℕ) → List ℕ → List ℕ
moved_from_end start size bytes =
    let behind : List ℕ = drop start bytes in
    take start bytes ++ (drop (length behind - size) behind ++ take (length behind - size) behind)

-- the result of moving `size` bytes at an offset to the end
abbrev pub moved_to_end : (start size : ℕ) → List ℕ → List ℕ
moved_to_end start size bytes =
    take start bytes ++ (drop (start + size) bytes ++ piece_of start size bytes)

-- the result of copying `size` bytes at `start` to the lower offset `place`
abbrev pub moved_down : (start size place : ℕ) → List ℕ → List ℕ
moved_down start size place bytes =
    take place bytes ++ (piece_of start size bytes ++ drop (place + size) bytes)
