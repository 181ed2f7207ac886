-- The list in an answer to TPM2_GetCapability. TPM 2.0 Library, Part 3, section 30.2, and Part 2,
-- sections 10.8 (TPMS_ALG_PROPERTY, TPMS_TAGGED_PROPERTY, TPMS_TAGGED_PCR_SELECT) and 10.10
-- (TPMS_CAPABILITY_DATA).
use Rattle.std.specs.Prelude.{ℕ, ◌%◌, ◌^◌, nat_lt, List, ◌∷◌, ◌++◌, filter, take, if◌then◌else◌}
use Rattle.std.specs.Int.{w8, w16, w32, to_be_bytes, to_le_bytes}
use Rattle.std.specs.List.{flat_map}
use Rattle.tpm_actions_capability.specs.Element.{found_count, is_from, told_count}
use Rattle.tpm_actions_capability.specs.declared.element.Element.{Element}
use Rattle.tpm_completion.specs.declared.listing.Form.{Form}
use Rattle.tpm_completion.specs.declared.listing.Form.TheVariants as form

abbrev pub element : (number told : ℕ) → Element
element number told = record { number = number; told = told }

-- the encoding of an element in each form: Value, a handle or a command's attributes; Property, a
-- property and its value; Algorithm, an algorithm and its attributes; Selection, a property of
-- PCRs, and three octets that select the PCRs with this property
abbrev pub told_text : Form → Element → List ℕ
told_text form.Value e = to_be_bytes w32 e.told
told_text form.Property e = to_be_bytes w32 e.number ++ to_be_bytes w32 e.told
told_text form.Algorithm e = to_be_bytes w16 (e.number % 2 ^ 16) ++ to_be_bytes w32 e.told
told_text form.Selection e =
    to_be_bytes w32 e.number ++ to_be_bytes w8 3 ++ take 3 (to_le_bytes w32 e.told)

-- the encoding of at most `count` of the elements whose number is at least `from`
abbrev pub text_of : Form → (from count : ℕ) → List Element → List ℕ
text_of form from count elements =
    flat_map (told_text form) (take count (filter (is_from from) elements))

-- the encoding of a list: whether the capability has more elements (moreData), the capability, the
-- number of elements, and the elements
abbrev pub listing : Form → (capability from count : ℕ) → List Element → List ℕ
listing form capability from count elements =
    (if nat_lt (told_count from count elements) (found_count from elements) then 1 else 0)
    ∷ to_be_bytes w32 capability
    ++ to_be_bytes w32 (told_count from count elements)
    ++ text_of form from (told_count from count elements) elements
