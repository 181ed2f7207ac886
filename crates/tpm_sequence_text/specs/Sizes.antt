-- The largest sizes of the parts of an encoded slot, in bytes.
use Rattle.std.specs.Prelude.{ℕ, ◌+◌, ◌*◌}

-- the largest size of a hash value, with its algorithm
abbrev pub value_size : ℕ
value_size = 2 + 8 * 4

-- the largest size of a hash in progress: its hash value, its block and its length
abbrev pub hash_state_size : ℕ
hash_state_size = value_size + 64 + 8

-- the largest size of a sequence, which has at most two hashes in progress
abbrev pub sequence_size : ℕ
sequence_size = 2 * hash_state_size

-- the largest size of an encoded slot, with the kind, the authorization value and the sequence: 245
abbrev pub slot_size : ℕ
slot_size = 1 + 32 + sequence_size
