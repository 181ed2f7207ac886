-- An example of an object that is used through its policy.
use Rattle.std.specs.Prelude.{[], ◌∷◌, None, replicate}
use Rattle.tpm_mac.specs.declared.algorithm.HashAlg.TheVariants as alg
use Rattle.tpm_commands.specs.declared.command_code.CommandCode.TheVariants as command
use Rattle.tpm_types_common.specs.Handle.{numbered_handle}
use Rattle.tpm_types_object.specs.declared.public.KeyedHashScheme.TheVariants as scheme
use Rattle.tpm_types_object.specs.declared.public.Public.{Public}
use Rattle.tpm_types_object.specs.declared.public.PublicParameters.TheVariants as parameters_of
use Rattle.tpm_policy_meaning.specs.Examples.{by_value}
use Rattle.tpm_policy_meaning.specs.PolicyDigest.{policy_digest}
use Rattle.tpm_record.specs.rows.Answer.{nothing}
use Rattle.tpm_step.specs.history.History.{AcceptedCommand}
use Rattle.tpm_step.specs.uses.PolicyReviews.{UsesObject}
use Rattle.tpm_step.specs.history.View.{OfObject}

-- the public area of sealed data whose authPolicy is the policy of TPM2_PolicyAuthValue; its only
-- attributes are fixedTPM and fixedParent
abbrev pub sealed_data : Public
sealed_data = record {
  name_alg = alg.Sha256;
  attributes = 0x00000012;
  auth_policy = policy_digest alg.Sha256 by_value;
  parameters = parameters_of.KeyedHash scheme.Null;
  unique = [];
}

-- TPM2_Unseal of an object with the public area `sealed_data`, as a history records it
abbrev pub unseal_command : AcceptedCommand
unseal_command = record {
  command = record {
    code = command.Unseal;
    handles = numbered_handle 0x80000000 ∷ [];
    entries = [];
    parameters = [];
  };
  grants = [];
  request = record {
    handles = numbered_handle 0x80000000 ∷ [];
    locality = 0;
    parameters = [];
    random = replicate 256 0;
  };
  answer = nothing;
  views = OfObject sealed_data ∷ [];
  sensitive = None;
}

abbrev pub HasUse : Type 0
HasUse = UsesObject unseal_command 0 sealed_data by_value
