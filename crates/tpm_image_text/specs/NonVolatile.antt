-- The state that a device keeps without power. TPM 2.0 Library, Part 1, sections 12.2.2 (_TPM_Init)
-- and 37 (NV memory).
use Rattle.std.specs.Prelude.{ℕ, ◌<◌, ◌^◌, Bool, false}
use Rattle.tpm_commands.specs.declared.profile.Profile.{Profile}
use Rattle.tpm_containers.specs.SortedMap.{Entries}
use Rattle.tpm_lockout.specs.Lockout.{IsLockout, restored_lockout}
use Rattle.tpm_lockout.specs.declared.fields.LockoutFields.{LockoutFields}
use Rattle.tpm_nv.specs.Index.{NvContents, NvIndex}
use Rattle.tpm_nv.specs.IsContents.{IsContents}
use Rattle.tpm_object.specs.declared.object.Object.{Object}
use Rattle.tpm_pcr.specs.Banks.{new_banks}
use Rattle.tpm_record.specs.Hierarchy.{IsHierarchies}
use Rattle.tpm_record.specs.Persistent.{ArePersistent}
use Rattle.tpm_record.specs.Record.{Record, no_objects, no_sessions}
use Rattle.tpm_record.specs.Saved.{IsSavedState, SavedState}
use Rattle.tpm_record.specs.declared.hierarchy.Hierarchies.{Hierarchies}

-- the fixed part of a non-volatile state: the hierarchies; whether TPM2_Clear is refused; failed
-- tries, their parameters and whether lockoutAuth is disabled; Clock and the counts of TPM Resets
-- and TPM Restarts; the largest value that an NV counter ever had; and the state that the last
-- TPM2_Shutdown saved
pub record KeptState : Type 0 where
  pub hierarchies : Hierarchies
  pub disable_clear : Bool
  pub lockout : LockoutFields
  pub clock : ℕ
  pub reset_count : ℕ
  pub restart_count : ℕ
  pub max_count : ℕ
  pub saved : SavedState

-- a non-volatile state: the profile, the fixed part, the persistent objects and the NV indices
pub record NonVolatile : Type 0 where
  pub profile : Profile
  pub state : KeptState
  pub persistent : Entries Object
  pub indices : Entries NvIndex

-- the non-volatile part of a record
abbrev pub kept_of : Record → NonVolatile
kept_of r = record {
  profile = r.fixed.profile;
  state = record {
    hierarchies = r.fixed.hierarchies;
    disable_clear = r.fixed.disable_clear;
    lockout = r.fixed.lockout.fields;
    clock = r.fixed.clock;
    reset_count = r.fixed.reset_count;
    restart_count = r.fixed.restart_count;
    max_count = r.nv.max_count;
    saved = r.fixed.saved;
  };
  persistent = r.persistent;
  indices = r.nv.indices;
}

-- the NV indices, with the largest value that an NV counter ever had
abbrev pub nv_of : NonVolatile → NvContents
nv_of kept = record { indices = kept.indices; max_count = kept.state.max_count }

-- the record of a device with this non-volatile state, just after power came on
abbrev pub powered_on : NonVolatile → Record
powered_on kept = record {
  fixed = record {
    started = false;
    saved = kept.state.saved;
    hierarchies = kept.state.hierarchies;
    disable_clear = kept.state.disable_clear;
    lockout = restored_lockout kept.state.lockout;
    banks = new_banks;
    time = 0;
    clock = kept.state.clock;
    reset_count = kept.state.reset_count;
    restart_count = kept.state.restart_count;
    profile = kept.profile;
  };
  sessions = no_sessions;
  objects = no_objects;
  persistent = kept.persistent;
  nv = nv_of kept;
}

-- Each field of the fixed part of a non-volatile state is within the limits that hold for it in
-- every record.
pub record IsKeptState (state : KeptState) : Type 0 where
  pub hierarchies : IsHierarchies state.hierarchies
  pub lockout : IsLockout (restored_lockout state.lockout)
  pub clock : state.clock < 2 ^ 64
  pub reset_count : state.reset_count < 2 ^ 32
  pub restart_count : state.restart_count < 2 ^ 32
  pub saved : IsSavedState state.saved

pub record IsNonVolatile (kept : NonVolatile) : Type 0 where
  pub state : IsKeptState kept.state
  pub persistent : ArePersistent kept.persistent
  pub nv : IsContents (nv_of kept)
