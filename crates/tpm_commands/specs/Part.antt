-- The parts of a device's state that commands may change. TPM 2.0 Library, Part 3, the detailed
-- actions in each command's section.

-- A part of a device's state that a successful command may change.
pub data Part : Type 0 where
  Nothing : Part
  Sessions : Part
  -- the transient objects
  Objects : Part
  -- the sessions and the transient objects
  SessionsAndObjects : Part
  -- the persistent objects
  Persistent : Part
  -- the NV indices: an index is written or locked
  NvData : Part
  -- the NV indices: a counter is incremented
  NvCounter : Part
  -- the NV indices: the authorization value of an index is replaced
  NvAuthValue : Part
  -- the NV indices: an index is defined
  NvDefined : Part
  -- the NV indices: an index is removed
  NvUndefined : Part
  -- the authorization values of the hierarchies and of lockout
  AuthValues : Part
  -- the protection against dictionary attacks
  Lockout : Part
  -- the PCR banks
  Banks : Part
  -- what a startup initializes, including NV indices
  Beginning : Part
  -- what a shutdown saves
  Saved : Part
  -- whether TPM2_Clear is disabled
  DisableClear : Part
  -- Clock
  Clock : Part
  -- what TPM2_Clear removes, including objects and NV indices
  Cleared : Part
