-- The largest sizes of the parts of a state text, in bytes. These sizes follow from the limits of
-- the device.
use Rattle.std.specs.Prelude.{ℕ, ◌+◌, ◌*◌}
use Rattle.tpm_image_text.specs.Sizes.{body_size, object_fields_size}
use Rattle.tpm_sequence_text.specs.Sizes.{slot_size}
use Rattle.tpm_types_common.specs.Limits.{object_limit, session_limit}
use Rattle.tpm_state_text.specs.Sequences.{sequence_slots}

-- the largest sizes of a policy, of a session with its policy, and of all sessions; one byte for
-- each slot says whether the slot contains a session
abbrev pub policy_size : ℕ
policy_size = 87

abbrev pub session_size : ℕ
session_size = 149 + policy_size

abbrev pub sessions_size : ℕ
sessions_size = (1 + session_size) * session_limit

-- the largest size of all transient objects; one byte for each slot says whether the slot contains
-- an object
abbrev pub transients_size : ℕ
transients_size = (1 + object_fields_size) * object_limit

-- the size of the banks with the update counter
abbrev pub banks_size : ℕ
banks_size = 24 * 20 + 24 * 32 + 8

-- the largest size of the state that a power cycle clears
abbrev pub volatile_size : ℕ
volatile_size = 25 + banks_size + sessions_size + transients_size

-- the largest total size of the slots for sequence objects
abbrev pub slots_size : ℕ
slots_size = sequence_slots * slot_size

-- the largest size of an encoded layer
abbrev pub layer_size : ℕ
layer_size = 16 + session_limit * 8 + slots_size

-- the largest size of a state text, including the 10-byte head and the 32-byte digest: 36,930
abbrev pub state_text_size : ℕ
state_text_size = 10 + (body_size + volatile_size + 1 + layer_size) + 32
