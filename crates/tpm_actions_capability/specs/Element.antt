-- The elements that TPM2_GetCapability lists. TPM 2.0 Library, Part 3, section 30.2, and Part 2,
-- sections 10.8 (TPMS_ALG_PROPERTY, TPMS_TAGGED_PROPERTY, TPMS_TAGGED_PCR_SELECT) and 10.10.2
-- (TPMS_CAPABILITY_DATA).
use Rattle.std.specs.Prelude.{ℕ, ◌%◌, ◌^◌, nat_lt, nat_le, min, Bool, List, [], ◌∷◌, ◌++◌, count_by, filter, take, if◌then◌else◌}
use Rattle.std.specs.Int.{w8, w16, w32, to_be_bytes, to_le_bytes}
use Rattle.std.specs.List.{flat_map}
use Rattle.tpm_actions_capability.specs.declared.element.Element.{Element}
use Rattle.tpm_actions_capability.specs.declared.element.Telling.{Telling}
use Rattle.tpm_actions_capability.specs.declared.element.Telling.TheVariants as tell

abbrev pub element : (number told : ℕ) → Element
element number told = record { number = number; told = told }

-- an element whose listed value is its own number
abbrev pub by_itself : ℕ → Element
by_itself number = element number number

-- a list of this element if `is_there` is true, otherwise the empty list
abbrev pub if_there : Bool → Element → List Element
if_there is_there e = if is_there then e ∷ [] else []

-- the encoding of an element: only its value; its number (the property) and its value; an algorithm
-- and its attributes; or a property of PCRs, and three octets that select the PCRs that have it
abbrev pub told_text : Telling → Element → List ℕ
told_text tell.Value e = to_be_bytes w32 e.told
told_text tell.NumberAndValue e = to_be_bytes w32 e.number ++ to_be_bytes w32 e.told
told_text tell.Algorithm e = to_be_bytes w16 (e.number % 2 ^ 16) ++ to_be_bytes w32 e.told
told_text tell.Selection e =
    to_be_bytes w32 e.number ++ to_be_bytes w8 3 ++ take 3 (to_le_bytes w32 e.told)

abbrev pub is_from : ℕ → Element → Bool
is_from from e = nat_le from e.number

-- the number of elements whose number is at least `from`
abbrev pub found_count : ℕ → List Element → ℕ
found_count from elements = count_by (is_from from) elements

-- how many elements are listed: all elements whose number is at least `from`, but no more than
-- `count`, and no more than 64
abbrev pub told_count : (from count : ℕ) → List Element → ℕ
told_count from count elements = min (found_count from elements) (min count 64)

-- the encoding of the first `count` elements whose number is at least `from`
abbrev pub text_of : Telling → (from count : ℕ) → List Element → List ℕ
text_of telling from count elements =
    flat_map (told_text telling) (take count (filter (is_from from) elements))

-- the encoding of a list: whether more elements follow (moreData), the capability, the number of
-- listed elements, and the elements
abbrev pub listing : Telling → (capability from count : ℕ) → List Element → List ℕ
listing telling capability from count elements =
    (if nat_lt (told_count from count elements) (found_count from elements) then 1 else 0)
    ∷ to_be_bytes w32 capability
    ++ to_be_bytes w32 (told_count from count elements)
    ++ text_of telling from (told_count from count elements) elements
