-- The encodings of commands to a kept device, and of the seeds from which a device is created.
use Rattle.std.specs.Prelude.{ℕ, Bool, List, ◌++◌, ◌∷◌}
use Rattle.std.specs.Int.{w32, w64, to_be_bytes}
use Rattle.tpm_image_text.specs.Fields.{yes_no_text}

-- the part of an encoded command after its arrival time: the locality, whether the completing layer
-- is used, 256 random bytes, and the buffer
abbrev pub given_text : (locality : ℕ) → (completes : Bool) → (random buffer : List ℕ) → List ℕ
given_text locality completes random buffer =
    locality ∷ (yes_no_text completes ++ (random ++ buffer))

-- the encoding of a TPM command that arrives when the host's clock shows `now`
abbrev pub text_at : (now locality : ℕ) → (completes : Bool) → (random buffer : List ℕ) → List ℕ
text_at now locality completes random buffer =
    0 ∷ (to_be_bytes w64 now ++ given_text locality completes random buffer)

-- the encoding of a TPM command that arrives this many milliseconds after the previous command
abbrev pub text_after : (elapsed locality : ℕ) → (completes : Bool) → (random buffer : List ℕ)
    → List ℕ
text_after elapsed locality completes random buffer =
    3 ∷ (to_be_bytes w32 elapsed ++ given_text locality completes random buffer)

-- the encoding of a power cycle
abbrev pub cycle_text : (now start : ℕ) → List ℕ
cycle_text now start = 1 ∷ (to_be_bytes w64 now ++ to_be_bytes w64 start)

-- the encoding of a seed of this kind
abbrev pub seed_text : (kind now start : ℕ) → (content : List ℕ) → List ℕ
seed_text kind now start content =
    kind ∷ (to_be_bytes w64 now ++ (to_be_bytes w64 start ++ content))
