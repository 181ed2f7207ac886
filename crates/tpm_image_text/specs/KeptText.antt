-- The state that a device keeps without power, except for Clock, which every command advances.
use Rattle.std.specs.Prelude.{ℕ, List}
use Rattle.tpm_record.specs.Record.{Record}
use Rattle.tpm_image_text.specs.Body.{image_body_text}
use Rattle.tpm_image_text.specs.NonVolatile.{NonVolatile, kept_of}
use Rattle.tpm_image_text.specs.Version.{version_of}

-- a non-volatile state with the given value of Clock
abbrev pub with_clock : ℕ → NonVolatile → NonVolatile
with_clock clock kept = record kept { state = record kept.state { clock = clock } }

-- the non-volatile state of a record, with Clock set to 0
abbrev pub kept_but_clock : Record → NonVolatile
kept_but_clock r = with_clock 0 (kept_of r)

-- the encoding of a record's non-volatile state, with Clock set to 0
abbrev pub kept_text : Record → List ℕ
kept_text r = image_body_text (version_of r.fixed.profile) (kept_but_clock r)
