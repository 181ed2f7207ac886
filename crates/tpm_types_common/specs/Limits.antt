-- This device's limits on memory and data, which the standard leaves to the implementer. The bounds
-- of a single structure are defined with that structure.
use Rattle.std.specs.Prelude.{ℕ, ◌+◌, ◌*◌}

-- the maximum size in bytes of a command buffer and of a response
abbrev pub buffer_limit : ℕ
buffer_limit = 4096

-- the maximum size in bytes of the data that one command accepts or returns: MAX_NV_BUFFER_SIZE and
-- MAX_DIGEST_BUFFER
abbrev pub data_limit : ℕ
data_limit = 1024

-- the maximum size in bytes of a response's parameters. TPM2_NV_Read returns the longest
-- parameters: a sized buffer with `data_limit` bytes
abbrev pub answer_limit : ℕ
answer_limit = data_limit + 2

-- the maximum size in bytes of a response: a header of 10 bytes, a handle, the size of the
-- parameters, the parameters, and 69 bytes for each of three entries. An entry contains a nonce and
-- an HMAC of 32 bytes each, their sizes, and the attributes
abbrev pub response_limit : ℕ
response_limit = 10 + 4 + 4 + answer_limit + 3 * 69

-- the maximum size in bytes of an object's secret: a key, or sealed data (MAX_SYM_DATA)
abbrev pub sensitive_limit : ℕ
sensitive_limit = 128

-- the maximum number of sessions, of all types together
abbrev pub session_limit : ℕ
session_limit = 16

-- the maximum number of transient objects
abbrev pub object_limit : ℕ
object_limit = 8

-- the maximum number of persistent objects
abbrev pub persistent_limit : ℕ
persistent_limit = 16

-- the maximum number of NV indices
abbrev pub nv_index_limit : ℕ
nv_index_limit = 64

-- the maximum total size in bytes of the data of all NV indices
abbrev pub nv_space_limit : ℕ
nv_space_limit = 16384

-- the maximum size in bytes of the data of one ordinary NV index
abbrev pub nv_data_limit : ℕ
nv_data_limit = 2048
