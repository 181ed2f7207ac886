-- The transient objects of a device (TPM 2.0 Library, Part 1, section 23, and
-- docs/table/objects.md): each is encoded as in an image, but without a handle, and may belong to
-- any hierarchy.
use Rattle.std.specs.Prelude.{ℕ, List, Option, Result}
use Rattle.tpm_image_text.specs.Body.{object_fields_in, object_fields_text}
use Rattle.tpm_image_text.specs.declared.fault.Malformed.{Malformed}
use Rattle.tpm_object.specs.declared.object.Object.{Object}
use Rattle.tpm_types_common.specs.Limits.{object_limit}
use Rattle.tpm_state_text.specs.Places.{places_in, places_text}

-- the encoding of the transient objects, slot by slot
unfoldable pub transients_text : List (Option Object) → List ℕ
transients_text objects = places_text object_fields_text objects

unfoldable pub transients_in : List ℕ → Result (List (Option Object) × List ℕ) Malformed
transients_in text = places_in object_limit object_fields_in text
