-- TPM2_HierarchyChangeAuth. TPM 2.0 Library, Part 3, section 24.8.
use Rattle.std.specs.Prelude.{List, ℕ, Result, Ok}
use Rattle.std.specs.Option.{option_map_or}
use Rattle.tpm_bytes.specs.Reading.{◌>>=◌}
use Rattle.tpm_types_common.specs.declared.handle.Handle.{Handle}
use Rattle.tpm_types_common.specs.AuthValue.{auth_value_at}
use Rattle.tpm_types_common.specs.Handle.{hierarchy_auth_of}
use Rattle.tpm_record.specs.declared.hierarchy.Hierarchies.{Hierarchies}
use Rattle.tpm_record.specs.Entity.{with_hierarchy_auth}
use Rattle.tpm_record.specs.Record.{Record}
use Rattle.tpm_types_common.specs.declared.refused.Refused.{Refused}
use Rattle.tpm_record.specs.rows.Request.{Request, first_handle}
use Rattle.tpm_record.specs.rows.Answer.{nothing}
use Rattle.tpm_record.specs.rows.Rows.{Success, only}

-- the hierarchies, with a new authorization value for the hierarchy with this handle
abbrev pub with_auth_of : Hierarchies → Handle → List ℕ → Hierarchies
with_auth_of h handle value =
    option_map_or (λ auth. with_hierarchy_auth h auth value) (hierarchy_auth_of handle) h

-- the row of TPM2_HierarchyChangeAuth. Handle: authHandle, with authorization. Parameter: newAuth,
-- at most 32 bytes, whose trailing zeros are removed
unfoldable pub hierarchy_change_auth_row : Record → Request → Result Success Refused
hierarchy_change_auth_row r q = do
  handle ← first_handle q.handles
  value ← only (auth_value_at q.parameters)
  Ok (record {
    answer = nothing;
    after = record r {
      fixed = record r.fixed { hierarchies = with_auth_of r.fixed.hierarchies handle value };
    };
  })
