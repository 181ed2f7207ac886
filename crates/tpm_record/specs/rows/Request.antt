-- The request of a command: everything that its row reads, as values instead of references.
use Rattle.std.specs.Prelude.{ℕ, List, [], ◌∷◌, Result, Ok, Err}
use Rattle.tpm_types_common.specs.declared.handle.Handle.{Handle}
use Rattle.tpm_types_common.specs.Locality.{locality_number}
use Rattle.tpm_types_common.specs.declared.refused.Refused.{Refused}
use Rattle.tpm_record.specs.rows.Refusals.{handle_refusal}
use Rattle.tpm_record.specs.declared.rows.call.Call.{Call}

-- the request of a command
pub record Request : Type 0 where
  -- the handles of the command, as many as its shape requires
  pub handles : List Handle
  -- the number of the command's locality
  pub locality : ℕ
  -- the decrypted parameters of the command
  pub parameters : List ℕ
  -- the event's 256 random bytes
  pub random : List ℕ

abbrev pub request_of : Call → Request
request_of call = record {
  handles = call.handles.now;
  locality = locality_number call.locality;
  parameters = call.parameters.now;
  random = call.random.now;
}

-- the first handle of a command that has at least one handle. A request always has as many handles
-- as its command's shape requires
abbrev pub first_handle : List Handle → Result Handle Refused
first_handle [] = Err handle_refusal
first_handle (handle ∷ handles) = Ok handle

-- the second handle of a command that has at least two handles
abbrev pub second_handle : List Handle → Result Handle Refused
second_handle (first ∷ handle ∷ handles) = Ok handle
second_handle handles = Err handle_refusal

-- the third handle of a command that has three handles
abbrev pub third_handle : List Handle → Result Handle Refused
third_handle (first ∷ second ∷ handle ∷ handles) = Ok handle
third_handle handles = Err handle_refusal
