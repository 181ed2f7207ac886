-- Setting or clearing an attribute of an index changes neither the other attributes nor the type.
use Rattle.std.specs.Prelude.{◌≡◌, ◌≢◌, true, false}
use Rattle.tpm_types_nv.specs.declared.nv_attributes.NvAttribute.{NvAttribute}
use Rattle.tpm_types_nv.specs.declared.nv_attributes.NvAttributes.{NvAttributes}
use Rattle.tpm_types_nv.specs.NvAttributes.{IsNvAttributes, attribute_bit, has, index_type, with_attribute, without_attribute}

pub record AreNvAttributes : Type 0 where
  -- an attribute is present after it is set and absent after it is cleared; all other attributes
  -- are unchanged
  pub set_there : (attributes : NvAttributes) (one : NvAttribute)
      → has (with_attribute attributes one) one ≡ true
  pub set_others : (attributes : NvAttributes) (one other : NvAttribute)
      → attribute_bit other ≢ attribute_bit one
      → has (with_attribute attributes one) other ≡ has attributes other
  pub cleared_gone : (attributes : NvAttributes) (one : NvAttribute)
      → has (without_attribute attributes one) one ≡ false
  pub cleared_others : (attributes : NvAttributes) (one other : NvAttribute)
      → attribute_bit other ≢ attribute_bit one
      → has (without_attribute attributes one) other ≡ has attributes other
  -- setting or clearing an attribute does not change the type of the index
  pub set_type : (attributes : NvAttributes) (one : NvAttribute)
      → index_type (with_attribute attributes one) ≡ index_type attributes
  pub cleared_type : (attributes : NvAttributes) (one : NvAttribute)
      → index_type (without_attribute attributes one) ≡ index_type attributes
  -- if attributes can be encoded, they can still be encoded after any attribute is set or cleared
  pub set_named : (attributes : NvAttributes) (one : NvAttribute) → IsNvAttributes attributes
      → IsNvAttributes (with_attribute attributes one)
  pub cleared_named : (attributes : NvAttributes) (one : NvAttribute) → IsNvAttributes attributes
      → IsNvAttributes (without_attribute attributes one)
