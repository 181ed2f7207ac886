-- The fields of a record that the success of a command may change, depending on the part of the
-- device's state that the command changes.
use Rattle.std.specs.Prelude.{◌≡◌, ◌⊎◌, ◌+◌, []}
use Rattle.tpm_types_common.specs.declared.handle.HierarchyHandle.{HierarchyHandle}
use Rattle.tpm_actions_device.specs.Clear.{cleared_lockout}
use Rattle.tpm_nv.specs.Clear.{contents_after_clear}
use Rattle.tpm_nv.specs.Index.{NvContents}
use Rattle.tpm_nv.specs.Startup.{contents_after_startup}
use Rattle.tpm_record.specs.Clear.{cleared_objects, cleared_persistent}
use Rattle.tpm_record.specs.declared.fixed.Fixed.{Fixed}
use Rattle.tpm_record.specs.declared.hierarchy.Hierarchies.{Hierarchies}
use Rattle.tpm_record.specs.Hierarchy.{secrets_of}
use Rattle.tpm_record.specs.Record.{Record}
use Rattle.tpm_commands.specs.Part.{Part, Nothing, Sessions, Objects, SessionsAndObjects, Persistent, NvData}
use Rattle.tpm_commands.specs.Part.{NvCounter, NvAuthValue, NvDefined, NvUndefined, AuthValues, Lockout, Banks}
use Rattle.tpm_commands.specs.Part.{Beginning, Saved, DisableClear, Clock, Cleared}

-- The seed and the proof of each hierarchy are unchanged.
abbrev pub KeepsSecrets : Hierarchies → Hierarchies → Type 0
KeepsSecrets old new = (h : HierarchyHandle) → secrets_of new h ≡ secrets_of old h

-- the fixed part f after a startup. The fields that a startup sets are copied from the second
-- argument: whether the device is started, resetCount and restartCount, platformAuth and the null
-- hierarchy, whether lockoutAuth is disabled, and the PCRs. The number of PCR updates is 0
abbrev pub fixed_after_startup : Fixed → Fixed → Fixed
fixed_after_startup f after = record f {
  started = after.started;
  hierarchies = record f.hierarchies {
    platform = record f.hierarchies.platform {
      auth_value = after.hierarchies.platform.auth_value;
    };
    null = after.hierarchies.null;
  };
  lockout = record f.lockout {
    fields = record f.lockout.fields { closed = after.lockout.fields.closed };
  };
  banks = record after.banks { update_count = 0 };
  reset_count = after.reset_count;
  restart_count = after.restart_count;
}

-- A startup either leaves all NV indices unchanged, or has its effect on all of them.
abbrev pub StartsNv : NvContents → NvContents → Type 0
StartsNv old new = (new ≡ old) ⊎ (new ≡ contents_after_startup old)

-- the fixed part f after TPM2_Clear. The owner's new seed and proof, and the endorsement
-- hierarchy's new proof, are copied from the second argument. All authorization values are empty
-- except platformAuth. The failed tries are cleared, the number of PCR updates is incremented, and
-- Clock, resetCount and restartCount are 0
abbrev pub emptied_fixed : Fixed → Fixed → Fixed
emptied_fixed f after = record f {
  hierarchies = record f.hierarchies {
    owner = record { auth_value = []; secrets = after.hierarchies.owner.secrets };
    endorsement = record {
      auth_value = [];
      secrets = record f.hierarchies.endorsement.secrets {
        proof = after.hierarchies.endorsement.secrets.proof;
      };
    };
    lockout_auth = [];
  };
  lockout = cleared_lockout f.lockout;
  banks = record f.banks { update_count = f.banks.update_count + 1 };
  clock = 0;
  reset_count = 0;
  restart_count = 0;
}

-- The new record differs from the old one only in this part of the device's state.
abbrev pub Touches : Part → Record → Record → Type 0
Touches Nothing old new = new ≡ old
Touches Sessions old new = new ≡ record old { sessions = new.sessions }
Touches Objects old new = new ≡ record old { objects = new.objects }
Touches SessionsAndObjects old new =
    new ≡ record old { sessions = new.sessions; objects = new.objects }
Touches Persistent old new = new ≡ record old { persistent = new.persistent }
Touches NvData old new = new ≡ record old { nv = new.nv }
Touches NvCounter old new = new ≡ record old { nv = new.nv }
Touches NvAuthValue old new = new ≡ record old { nv = new.nv }
Touches NvDefined old new = new ≡ record old { nv = new.nv }
Touches NvUndefined old new = new ≡ record old { nv = new.nv }
Touches AuthValues old new =
    (new ≡ record old { fixed = record old.fixed { hierarchies = new.fixed.hierarchies } })
    × KeepsSecrets old.fixed.hierarchies new.fixed.hierarchies
Touches Lockout old new =
    new ≡ record old { fixed = record old.fixed { lockout = new.fixed.lockout } }
Touches Banks old new = new ≡ record old { fixed = record old.fixed { banks = new.fixed.banks } }
Touches Beginning old new =
    (new ≡ record old { fixed = fixed_after_startup old.fixed new.fixed; nv = new.nv })
    × StartsNv old.nv new.nv
Touches Saved old new = new ≡ record old { fixed = record old.fixed { saved = new.fixed.saved } }
Touches DisableClear old new =
    new ≡ record old { fixed = record old.fixed { disable_clear = new.fixed.disable_clear } }
Touches Clock old new = new ≡ record old { fixed = record old.fixed { clock = new.fixed.clock } }
Touches Cleared old new =
    new ≡ record old {
      fixed = emptied_fixed old.fixed new.fixed;
      objects = cleared_objects old.objects;
      persistent = cleared_persistent old.persistent;
      nv = contents_after_clear old.nv;
    }
