-- The largest sizes of the parts of an image, in bytes. They follow from the limits of the device.
use Rattle.std.specs.Prelude.{ℕ, ◌+◌, ◌*◌}
use Rattle.tpm_types_common.specs.Limits.{nv_index_limit, nv_space_limit, persistent_limit}

-- the largest size of the encoded limits, which is their size in version 2
abbrev pub limits_size : ℕ
limits_size = 6

-- the largest size of the fixed part: hierarchies, lockout, clock, counts, and the state that a
-- shutdown saved
abbrev pub state_size : ℕ
state_size = 1269

-- the largest size of an object
abbrev pub object_fields_size : ℕ
object_fields_size = 326

-- the largest size of a persistent object with its handle
abbrev pub object_size : ℕ
object_size = 4 + object_fields_size

-- the largest size of all persistent objects, preceded by their count
abbrev pub objects_size : ℕ
objects_size = 2 + persistent_limit * object_size

-- the largest size of an NV index without its data
abbrev pub index_size : ℕ
index_size = 84

-- the largest size of all NV indices with their data
abbrev pub entries_size : ℕ
entries_size = nv_index_limit * index_size + nv_space_limit

-- the largest size of all NV indices with their data, preceded by their count
abbrev pub indices_size : ℕ
indices_size = 2 + entries_size

-- the largest size of the body of an image
abbrev pub body_size : ℕ
body_size = limits_size + (state_size + (objects_size + indices_size))

-- the largest size of an image, including the 10-byte head and the 32-byte digest
abbrev pub image_size : ℕ
image_size = 10 + (body_size + 32)

-- the largest size of what a state text contains in addition to the body of an image
abbrev pub more_size : ℕ
more_size = 8569

-- the largest size of a body that is written, including the digest after it; the longest body is
-- the body of a state text
abbrev pub text_size : ℕ
text_size = body_size + more_size + 32
