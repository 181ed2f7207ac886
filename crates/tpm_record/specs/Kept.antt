-- How containers of any kind store the record of a device.
use Rattle.std.specs.Prelude.{List, Option}
use Rattle.tpm_containers.specs.SortedMap.{Entries}
use Rattle.tpm_nv.specs.Index.{NvContents}
use Rattle.tpm_object.specs.declared.object.Object.{Object}
use Rattle.tpm_session.specs.declared.session.Session.{Session}
use Rattle.tpm_session.specs.Sessions.{places_of}
use Rattle.tpm_record.specs.Objects.{objects_of}
use Rattle.tpm_record.specs.Record.{Record}
use Rattle.tpm_record.specs.declared.kept.Kept.{Kept}

-- the record that these containers store. Each function argument returns the content of one
-- container: the slots of the sessions, the slots of the transient objects, the persistent objects,
-- or the NV indices
abbrev pub kept_record : {S O P N : Type 0}
    → (S → List (Option Session)) → (O → List (Option Object)) → (P → Entries Object)
    → (N → NvContents) → Kept S O P N → Record
kept_record sessions objects persistent nv keep = record {
  fixed = keep.fixed;
  sessions = places_of sessions keep.sessions;
  objects = objects_of objects keep.objects;
  persistent = persistent keep.persistent;
  nv = nv keep.nv;
}
