-- What a sink contains after a mutable borrow of its bytes ends.
use Rattle.std.specs.Prelude.{ℕ, List, length}
use Rattle.std.specs.List.{refill}
use Rattle.std.specs.Borrow.{Array, Lends, Fml, RattleType, MutBor, u8}
use Rattle.tpm_bytes.specs.contracts.sink.Sink.{the_row}

-- After the borrow r ends, the sink contains the bytes that were last written through r. Its length
-- stays the same.
abbrev pub lends_bytes : RattleType → MutBor (List ℕ) → MutBor (List ℕ) → Fml
lends_bytes N s r = Lends (the_row N) (Array u8 0) s r (refill (length s.now) s.now)
