-- What a device reveals about sealed data and HMAC keys if its history is unknown, for example
-- because it was opened from an image. TPM 2.0 Library, Part 1, section 19.7 (enhanced
-- authorization), and Part 3, sections 12.7 and 15.5.
use Rattle.std.specs.Prelude.{Bool, List, Ok, Some, false, if◌then◌else◌, slice_get, true, ℕ, ◌≡◌, ◌⊎◌}
use Rattle.tpm_mac.specs.declared.algorithm.HashAlg.{HashAlg}
use Rattle.tpm_object.specs.Object.{is_keyed_hash}
use Rattle.tpm_object.specs.declared.object.Object.{Object}
use Rattle.tpm_record.specs.Entity.{object_of}
use Rattle.tpm_record.specs.Record.{Record}
use Rattle.tpm_record.specs.Tick.{after_tick}
use Rattle.tpm_session.specs.Sessions.{session_at}
use Rattle.tpm_session.specs.declared.session.Session.{Session}
use Rattle.tpm_step.specs.step.Events.{Cycled, Given, Placed, PlainEvent}
use Rattle.tpm_step.specs.step.Execution.{Executes}
use Rattle.tpm_step.specs.step.Step.{Accepted, Stepped, acceptance_in}
use Rattle.tpm_types_common.specs.declared.handle.Handle.{Handle}
use Rattle.tpm_types_command.specs.AuthEntry.{Entry}
use Rattle.tpm_types_command.specs.Command.{Whole}
use Rattle.tpm_types_object.specs.ObjectAttributes.{has}
use Rattle.tpm_types_object.specs.declared.public.Public.{Public}
use Rattle.tpm_secrecy.specs.SealedData.{TellsNothingSealed}
use Rattle.tpm_types_object.specs.declared.object_attributes.ObjectAttribute.TheVariants as attribute
use Rattle.tpm_commands.specs.declared.command_code.CommandCode.TheVariants as command
use Rattle.tpm_types_common.specs.declared.session_type.SessionType.TheVariants as type

-- The first entry of a command names a policy session of the device, with this hash and this
-- policyDigest.
pub record HasDigest (r : Record) (c : Whole) (hash : HashAlg) (digest : List ℕ) : Type 0 where
  pub entry : Entry
  pub given : slice_get c.entries 0 ≡ Some entry
  pub session : Session
  pub there : session_at r.sessions entry.session ≡ Some session
  pub kind : session.kind ≡ type.Policy
  pub session_hash : session.hash ≡ hash
  pub policy : session.policy.digest ≡ digest

-- An accepted command reads the secret data of an object with one of these public areas:
-- TPM2_HMAC if the object signs, otherwise TPM2_Unseal. If the object has no userWithAuth, a
-- policy session authorized the command, and its policyDigest is the object's authPolicy.
pub record AcceptsReading (objects : Public → Bool) (device : Record) (buffer : List ℕ)
    (locality : ℕ) (random : List ℕ) : Type 0
  where
    pub done : Accepted
    pub is : acceptance_in device buffer locality random ≡ Ok done
    pub handle : Handle
    pub first : slice_get done.command.handles 0 ≡ Some handle
    pub object : Object
    pub found : object_of device handle ≡ Some object
    pub keyed_hash : is_keyed_hash object.public ≡ true
    pub secret : objects object.public ≡ true
    pub code : done.command.code
        ≡ (if has object.public.attributes attribute.Sign then command.Hmac else command.Unseal)
    pub policy : has object.public.attributes attribute.UserWithAuth ≡ false
        → HasDigest device done.command object.public.name_alg object.public.auth_policy

abbrev pub IsAcceptedReading : (Public → Bool) → Record → PlainEvent → Type 0
IsAcceptedReading objects r (Given buffer locality elapsed random) =
    AcceptsReading objects (after_tick r elapsed) buffer locality random
IsAcceptedReading objects r Cycled = ⊥
IsAcceptedReading objects r (Placed object) = ⊥

-- On any device, even one with an unknown history, an execution reveals nothing about sealed data,
-- unless it is an accepted command that reads the data. The law does not say which assertions the
-- command's policy session has made.
abbrev pub SealedDataNeedDigest : Type 0
SealedDataNeedDigest =
    (objects : Public → Bool) (can : Bool) (old : Record) (event : PlainEvent) (x : Stepped)
    → Executes can old event x
    → TellsNothingSealed objects can old event x ⊎ IsAcceptedReading objects old event
