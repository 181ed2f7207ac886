-- Proves, by computation, the example of an object that came from a saved context.
use Rattle.std.proofs.Common.{arith, refl}
use Rattle.tpm_containers.specs.Numbered.{at_number}
use Rattle.tpm_types_common.specs.AuthValue.{trimmed}
use Rattle.tpm_record.specs.Objects.{object_at}
use Rattle.tpm_premises.specs.Placed.{IsPlaced}

pub is_placed : IsPlaced
unfolding trimmed object_at at_number
is_placed = record {
  happens = record {
    public = record {
      attributes = record { fits = omega arith; named = refl };
      auth_policy =
          omega arith;
      unique = omega arith;
    };
    auth_value = (omega arith, refl);
    seed_value = omega arith;
    sensitive = omega arith;
    qualified_name = omega arith;
  };
  found = refl;
  past = refl;
  auth_value = refl;
}
