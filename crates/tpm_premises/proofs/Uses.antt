-- Proves, by computation, the example of an object that is used through its policy.
use Rattle.std.proofs.Common.{refl}
use Rattle.tpm_commands.specs.CommandCode.{shape_of}
use Rattle.tpm_types_common.specs.Handle.{numbered_handle}
use Rattle.tpm_premises.specs.Uses.{HasUse}

pub has_use : HasUse
unfolding shape_of
has_use = record {
  handle = numbered_handle 0x80000000;
  used = refl;
  viewed = refl;
  no_user_with_auth = refl;
  auth_policy = refl;
}
