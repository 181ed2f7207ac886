-- An index that passes the checks of a definition does not have WRITTEN set.
use Rattle.std.proofs.Common.{◌≡◌, Bool, true, false, refl}
use Rattle.std.specs.Prelude.{◌||◌}
use Rattle.std.specs.List.{list_any}
use Rattle.tpm_types_nv.specs.NvAttributes.{has}
use Rattle.tpm_types_nv.specs.declared.nv_attributes.NvAttribute.TheVariants as attribute
use Rattle.tpm_types_nv.specs.declared.nv_attributes.NvAttributes.{NvAttributes}
use Rattle.tpm_nv.specs.Definition.{index_attribute_conflicts}

neither : (a b : Bool) → (a || b) ≡ false → (a ≡ false) × (b ≡ false)
neither true b is = absurd cc
neither false b is = (refl, is)

pub unwritten_is : (by_platform : Bool) (a : NvAttributes)
    → list_any (λ wrong. wrong) (index_attribute_conflicts by_platform a) ≡ false
    → has a attribute.Written ≡ false
unwritten_is by_platform a passes =
    let served = neither _ _ passes in
    let defined = neither _ _ served.1 in
    (neither _ _ defined.0).0
