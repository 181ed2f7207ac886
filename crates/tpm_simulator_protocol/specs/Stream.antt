-- The bytes of a connection, and how they are divided into requests.
use Rattle.std.specs.Prelude.{ℕ, ◌==◌, nat_le, Bool, false}
use Rattle.std.specs.Prelude.{List, [], ◌∷◌, ◌++◌, length, take, drop, fold, if◌then◌else◌}
use Rattle.std.specs.Prelude.{Option, Some, None, option_and_then}
use Rattle.std.specs.Option.{option_map_or}
use Rattle.tpm_simulator_protocol.specs.Request.{is_last, request_size}
use Rattle.tpm_simulator_protocol.specs.declared.request.Port.{Port}

-- whether these bytes are exactly one complete request: their number is the request's size
abbrev pub is_whole : Port → List ℕ → Bool
is_whole port bytes = option_map_or (λ size. size == length bytes) (request_size port bytes) false

-- the division of a stream into requests: the texts of its complete requests, in order, and the
-- remaining bytes. `ended` says that the stream has ended: no further request follows
pub record Cutting : Type 0 where
  pub requests : List (List ℕ)
  pub rest : List ℕ
  pub ended : Bool

-- a division with these bytes as its rest; but if the bytes are exactly one complete request, this
-- request is added to the requests, and the rest is empty
abbrev pub with_rest : Port → Cutting → List ℕ → Cutting
with_rest port c rest =
    if is_whole port rest
    then record { requests = c.requests ++ rest ∷ []; rest = []; ended = is_last port rest }
    else record c { rest = rest }

-- a division after the stream received one more byte; if the stream has ended, the byte is only
-- added to the rest
unfoldable pub with_byte : Port → Cutting → ℕ → Cutting
with_byte port c byte =
    let rest = c.rest ++ byte ∷ [] in
    if c.ended then record c { rest = rest } else with_rest port c rest

-- a division that consists of these requests, with no bytes after them
abbrev pub exact_cutting : List (List ℕ) → Bool → Cutting
exact_cutting requests ended = record { requests = requests; rest = []; ended = ended }

-- the division of a stream with these bytes into requests, computed byte by byte
abbrev pub cut_of : Port → List ℕ → Cutting
cut_of port bytes = fold (with_byte port) (exact_cutting [] false) bytes

-- ---- the part of a stream that a connection stores

-- the bytes of a stream that were received but not yet executed. `ended` says that the stream has
-- ended: no further request follows
pub record Stream : Type 0 where
  pub taken : List ℕ
  pub ended : Bool

-- a stream after it received these bytes
abbrev pub fed_stream : Stream → List ℕ → Stream
fed_stream s bytes = record s { taken = s.taken ++ bytes }

-- the text of a request that was cut off a stream, and the stream after it
pub record Cut : Type 0 where
  pub text : List ℕ
  pub after : Stream

-- cuts off the first `size` bytes as a request
abbrev pub cut_at : Port → ℕ → List ℕ → Cut
cut_at port size bytes = record {
  text = take size bytes;
  after = record { taken = drop size bytes; ended = is_last port (take size bytes) };
}

-- cuts off the first `size` bytes as a request, if there are that many bytes
abbrev pub cut_within : Port → ℕ → List ℕ → Option Cut
cut_within port size bytes =
    if nat_le size (length bytes) then Some (cut_at port size bytes) else None

-- the next request, if all its bytes were received
abbrev pub next_of : Port → Stream → Option Cut
next_of port s =
    if s.ended then None
    else option_and_then (λ size. cut_within port size s.taken) (request_size port s.taken)

-- the division of a whole stream into requests: first the executed requests `done`, and then the
-- requests in the stored bytes of `s`
abbrev pub cut_with : Port → List (List ℕ) → Stream → Cutting
cut_with port done s = fold (with_byte port) (exact_cutting done s.ended) s.taken
