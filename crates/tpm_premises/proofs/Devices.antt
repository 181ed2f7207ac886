-- Proves, by computation, the examples of two devices that differ in their seeds, in the data of an
-- index, or in the sealed data of an object.
use Rattle.std.proofs.Common.{◌≡◌, ◌≢◌, ℕ, [], ◌∷◌, List, Option, None, Some, get_or, refl, ap, arith}
use Rattle.tpm_containers.specs.Numbered.{at_number}
use Rattle.tpm_object.specs.declared.object.Object.{Object}
use Rattle.tpm_record.specs.Objects.{object_at}
use Rattle.tpm_premises.specs.Placed.{first_transient}
use Rattle.tpm_record.specs.Entity.{entity_at, object_of}
use Rattle.tpm_record.specs.Hierarchy.{manufactured_hierarchies}
use Rattle.std.specs.Prelude.{replicate}
use Rattle.tpm_types_common.specs.declared.handle.Handle.{Handle}
use Rattle.tpm_record.specs.Record.{Record}
use Rattle.tpm_nv.specs.Index.{NvIndex}
use Rattle.tpm_step.proofs.history.Following.{manufactured_follows}
use Rattle.tpm_step.specs.history.View.{view_of}
use Rattle.tpm_premises.specs.Devices.{AreTwoDevices, AreTwoSealed, AreTwoSecrets, holding_device, sealing_device, seeded_device}

seeds_differ : seeded_device 0 ≢ seeded_device 1
unfolding manufactured_hierarchies
seeds_differ e =
    let seed : 0 ≡ 1 = ap (λ (r : Record). get_or r.fixed.hierarchies.owner.secrets.seed 0 0) e in
    omega (arith, seed)

same_views : (handle : Handle) → view_of (seeded_device 0) handle ≡ view_of (seeded_device 1) handle
unfolding view_of entity_at object_of
same_views handle = refl

pub are_two_devices : AreTwoDevices
are_two_devices = record {
  alike = record {
    first = manufactured_follows (replicate 256 0);
    second = manufactured_follows (replicate 256 1);
    views = same_views;
    lockout = refl;
  };
  differ = seeds_differ;
}

first_byte : List (ℕ × NvIndex) → ℕ
first_byte [] = 0
first_byte (one ∷ others) = get_or one.1.bytes 0 0

bytes_differ : holding_device 0 ≢ holding_device 1
unfolding first_byte
bytes_differ e =
    let byte : 0 ≡ 1 = ap (λ (r : Record). first_byte r.nv.indices) e in
    omega (arith, byte)

pub are_two_secrets : AreTwoSecrets
are_two_secrets = record { secrets = refl; differ = bytes_differ }

first_sealed : Option Object → ℕ
first_sealed None = 0
first_sealed (Some object) = get_or object.sensitive 0 0

sealed_differ : sealing_device 0 ≢ sealing_device 1
unfolding first_sealed object_at at_number
sealed_differ e =
    let byte : 0 ≡ 1 =
    ap (λ (r : Record). first_sealed (object_at r.objects first_transient)) e in
    omega (arith, byte)

pub are_two_sealed : AreTwoSealed
unfolding object_at at_number
are_two_sealed = record { found = refl; secrets = refl; differ = sealed_differ }
