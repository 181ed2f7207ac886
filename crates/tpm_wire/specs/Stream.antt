-- The bytes of a connection, and how they are divided into command buffers. TPM 2.0 Library, Part
-- 1, section 18 (command structure): after a tag of two bytes a command has commandSize, a
-- four-byte number, which is the size of the whole command.
use Rattle.tpm_types_common.specs.Limits.{buffer_limit}
use Rattle.std.specs.Prelude.{◌≡◌, ℕ, ◌==◌, ◌-◌, ◌≤◌, ◌&&◌, nat_le, not, Bool, false}
use Rattle.std.specs.Prelude.{List, [], ◌∷◌, ◌++◌, length, take, drop, min, fold}
use Rattle.std.specs.Prelude.{Option, Some, None, option_map, option_and_then, if◌then◌else◌}
use Rattle.std.specs.Int.{w32, from_be_bytes}
use Rattle.std.specs.Option.{option_map_or}
use Rattle.tpm_wire.specs.declared.front.Front.{Front}

-- commandSize of the command that begins with these bytes, if the bytes include commandSize
unfoldable pub command_size : List ℕ → Option ℕ
command_size (t ∷ u ∷ a ∷ b ∷ c ∷ d ∷ bytes) = Some (from_be_bytes w32 (a ∷ b ∷ c ∷ d ∷ []))
command_size bytes = None

-- whether a buffer can have this size: at least the size of a header, and at most the limit
abbrev pub is_size : ℕ → Bool
is_size size = nat_le 10 size && nat_le size buffer_limit

-- the size of a buffer with this commandSize: commandSize itself, or 6 (the offset of the end of
-- commandSize) if no buffer can have that size
abbrev pub size_by : ℕ → ℕ
size_by size = if is_size size then size else 6

-- the size of the buffer that begins with these bytes
abbrev pub buffer_size : List ℕ → Option ℕ
buffer_size bytes = option_map size_by (command_size bytes)

-- whether the buffer that begins with these bytes is the last buffer of its stream, because its
-- commandSize is not the size of any buffer
abbrev pub is_last : List ℕ → Bool
is_last bytes = option_map_or (λ size. not (is_size size)) (command_size bytes) false

-- whether these bytes are exactly one complete buffer: their number is the buffer's size
abbrev pub is_whole : List ℕ → Bool
is_whole bytes = option_map_or (λ size. size == length bytes) (buffer_size bytes) false

-- ---- dividing a stream into buffers

-- the division of a stream into buffers: its complete buffers, in order, and the remaining bytes.
-- `ended` says that the stream has ended: no further buffer follows
pub record Cutting : Type 0 where
  pub buffers : List (List ℕ)
  pub rest : List ℕ
  pub ended : Bool

-- a division with these bytes as its rest; but if the bytes are exactly one complete buffer, this
-- buffer is added to the buffers, and the rest is empty
abbrev pub with_rest : Cutting → List ℕ → Cutting
with_rest c rest =
    if is_whole rest
    then record { buffers = c.buffers ++ rest ∷ []; rest = []; ended = is_last rest }
    else record c { rest = rest }

-- a division after the stream received one more byte; if the stream has ended, the byte is only
-- added to the rest
unfoldable pub with_byte : Cutting → ℕ → Cutting
with_byte c byte =
    let rest = c.rest ++ byte ∷ [] in
    if c.ended then record c { rest = rest } else with_rest c rest

-- a division that consists of these buffers, with no bytes after them
abbrev pub exact_cutting : List (List ℕ) → Bool → Cutting
exact_cutting buffers ended = record { buffers = buffers; rest = []; ended = ended }

-- the division of a stream with these bytes into buffers, computed byte by byte
abbrev pub cut_of : List ℕ → Cutting
cut_of bytes = fold with_byte (exact_cutting [] false) bytes

-- ---- the part of a stream that a connection stores

-- the part of a stream that a connection stores: the bytes that were received but not yet executed.
-- `ended` says that the stream has ended: no further buffer follows
pub record Stream : Type 0 where
  pub taken : List ℕ
  pub ended : Bool

-- the stream of a new connection
abbrev pub new_stream : Stream
new_stream = record { taken = []; ended = false }

-- the number of bytes, out of `count`, that fit into a stream
abbrev pub fitting_count : Stream → ℕ → ℕ
fitting_count s count = min count (buffer_limit - length s.taken)

-- a stream after it received these bytes
abbrev pub fed_stream : Stream → List ℕ → Stream
fed_stream s bytes = record s { taken = s.taken ++ bytes }

-- a buffer that was cut off a stream, and the stream after it
pub record Cut : Type 0 where
  pub buffer : List ℕ
  pub after : Stream

-- cuts off the first `size` bytes as a buffer; `last` says whether it is the last buffer of the
-- stream
abbrev pub cut_at : ℕ → Bool → List ℕ → Cut
cut_at size last bytes = record {
  buffer = take size bytes;
  after = record { taken = drop size bytes; ended = last };
}

-- cuts off the first `size` bytes as a buffer, if there are that many bytes
abbrev pub cut_within : ℕ → Bool → List ℕ → Option Cut
cut_within size last bytes =
    if nat_le size (length bytes) then Some (cut_at size last bytes) else None

-- the next buffer, if all its bytes were received
abbrev pub next_of : Stream → Option Cut
next_of s =
    if s.ended then None
    else option_and_then (λ size. cut_within size (is_last s.taken) s.taken) (buffer_size s.taken)

-- The result describes the next buffer of the stream: its size, and whether it is the last buffer
-- of the stream. If the next buffer is not complete, the result is None.
abbrev pub IsFront : Stream → Option Front → Type 0
IsFront s None = next_of s ≡ None
IsFront s (Some f) = (f.size ≤ length s.taken) × (next_of s ≡ Some (cut_at f.size f.last s.taken))

-- ---- the division of a whole stream, and what a connection stores

-- the division of a whole stream into buffers: first the executed buffers `done`, and then the
-- buffers in the stored bytes of `s`
abbrev pub cut_with : List (List ℕ) → Stream → Cutting
cut_with done s = fold with_byte (exact_cutting done s.ended) s.taken

-- Cutting these buffers off the first stream leaves the second stream.
abbrev pub CutsTo : Stream → List (List ℕ) → Stream → Type 0
CutsTo old done new = (before : List (List ℕ)) → cut_with before old ≡ cut_with (before ++ done) new
