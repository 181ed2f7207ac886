-- Maps from handles to values.
use Rattle.std.specs.Prelude.{◌==◌, if◌then◌else◌, Result, Ok, Err}
use Rattle.tpm_types_common.specs.declared.handle.Handle.{Handle}
use Rattle.tpm_types_common.specs.declared.refused.Refused.{Refused}

-- the map with x at this handle; other handles keep their values
abbrev pub with_at : {X : Type 0} → Handle → X → (Handle → X) → Handle → X
with_at handle x all other = if other.number == handle.number then x else all other

-- the map with the value at this handle changed
abbrev pub changed_at : {X : Type 0} → Handle → (X → X) → (Handle → X) → Handle → X
changed_at handle change all = with_at handle (change (all handle)) all

-- the map after the change at the handle that a command names; unchanged if the command names no
-- handle
abbrev pub by_handle : {X : Type 0} → Result Handle Refused → (Handle → X → X) → X → X
by_handle (Ok handle) change x = change handle x
by_handle (Err e) change x = x
