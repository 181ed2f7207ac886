-- The policy of a session. TPM 2.0 Library, Part 1, section 19.7 (enhanced authorization), and
-- docs/table/policies.md, say what a policy contains; the layout is specific to this device.
use Rattle.std.specs.Prelude.{ℕ, ◌==◌, nat_le, Bool, List, ◌++◌, if◌then◌else◌, Option, Some, None, Result, Ok}
use Rattle.std.specs.Int.{w8, w32, w64, to_be_bytes}
use Rattle.tpm_bytes.specs.Reading.{◌>>=◌}
use Rattle.tpm_bytes.specs.Writing.{sized_text}
use Rattle.tpm_image_text.specs.Fields.{buffer_in, number_in, passing, yes_no_in, yes_no_text}
use Rattle.tpm_image_text.specs.declared.fault.Malformed.{Malformed}
use Rattle.tpm_policy.specs.State.{Policy}
use Rattle.tpm_policy.specs.declared.state.Demand.{Demand}
use Rattle.tpm_policy.specs.declared.state.Demand.TheVariants as demand
use Rattle.tpm_state_text.specs.Places.{named_in, optional_in, optional_text}

-- the number that stands for a policy's demand: 0 for nothing, 1 for the authorization value in
-- the key of an HMAC, 2 for the authorization value as a password
abbrev pub demand_number : Demand → ℕ
demand_number demand.None = 0
demand_number demand.AuthValue = 1
demand_number demand.Password = 2

abbrev pub demand_named : ℕ → Option Demand
demand_named number =
    if number == 0 then Some demand.None
    else (if number == 1 then Some demand.AuthValue
    else (if number == 2 then Some demand.Password else None))

unfoldable pub demand_in : List ℕ → Result (Demand × List ℕ) Malformed
demand_in text = named_in w8 demand_named text

-- whether a byte is a set of allowed localities: bit n stands for locality n, from 0 to 4
abbrev pub are_localities : ℕ → Bool
are_localities localities = nat_le localities 0x1f

unfoldable pub localities_in : List ℕ → Result (ℕ × List ℕ) Malformed
localities_in text = passing are_localities (number_in w8) text

-- the encoding of a policy: its digest; the update counter, command, cpHash and written state, if
-- assertions recorded them; the localities; and the demand
unfoldable pub policy_text : Policy → List ℕ
policy_text p =
    sized_text p.digest
    ++ optional_text (to_be_bytes w64) p.update_count
    ++ optional_text (to_be_bytes w32) p.command
    ++ optional_text sized_text p.cp_hash
    ++ optional_text yes_no_text p.nv_written
    ++ to_be_bytes w8 p.localities ++ to_be_bytes w8 (demand_number p.demand)

unfoldable pub policy_in : List ℕ → Result (Policy × List ℕ) Malformed
policy_in text = do
  digest ← buffer_in 32 text
  update_count ← optional_in (number_in w64) digest.1
  command ← optional_in (number_in w32) update_count.1
  cp_hash ← optional_in (buffer_in 32) command.1
  nv_written ← optional_in yes_no_in cp_hash.1
  localities ← localities_in nv_written.1
  demand ← demand_in localities.1
  Ok (
    record {
      digest = digest.0;
      update_count = update_count.0;
      command = command.0;
      cp_hash = cp_hash.0;
      nv_written = nv_written.0;
      localities = localities.0;
      demand = demand.0;
    },
    demand.1,
  )
