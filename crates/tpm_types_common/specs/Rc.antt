-- Response codes on the wire. TPM 2.0 Library, Part 2, sections 6.6.2 (how a handle, parameter or
-- session number is added) and 6.6.3 (the codes).
use Rattle.std.specs.Prelude.{ℕ, ◌+◌, ◌*◌}
use Rattle.tpm_types_common.specs.declared.rc.ResponseCode.{ResponseCode}
use Rattle.tpm_types_common.specs.declared.rc.ResponseCode.TheVariants as code
use Rattle.tpm_types_common.specs.declared.rc.Place.{Place}
use Rattle.tpm_types_common.specs.declared.rc.Place.TheVariants as place
use Rattle.tpm_types_common.specs.declared.rc.Rc.{Rc}

unfoldable pub code_number : ResponseCode → ℕ
code_number code.BadTag = 0x01e
code_number code.Initialize = 0x100
code_number code.Failure = 0x101
code_number code.Disabled = 0x120
code_number code.AuthMissing = 0x125
code_number code.Policy = 0x126
code_number code.PcrChanged = 0x128
code_number code.AuthUnavailable = 0x12f
code_number code.CommandSize = 0x142
code_number code.CommandCode = 0x143
code_number code.Authsize = 0x144
code_number code.AuthContext = 0x145
code_number code.NvRange = 0x146
code_number code.NvLocked = 0x148
code_number code.NvAuthorization = 0x149
code_number code.NvUninitialized = 0x14a
code_number code.NvSpace = 0x14b
code_number code.NvDefined = 0x14c
code_number code.Cphash = 0x151
code_number code.ObjectMemory = 0x902
code_number code.SessionMemory = 0x903
code_number code.Memory = 0x904
code_number code.Locality = 0x907
code_number code.ReferenceH0 = 0x910
code_number code.ReferenceH1 = 0x911
code_number code.ReferenceH2 = 0x912
code_number code.ReferenceS0 = 0x918
code_number code.ReferenceS1 = 0x919
code_number code.ReferenceS2 = 0x91a
code_number code.Lockout = 0x921
code_number code.Attributes = 0x082
code_number code.Hash = 0x083
code_number code.Value = 0x084
code_number code.Hierarchy = 0x085
code_number code.Mode = 0x089
code_number code.Type = 0x08a
code_number code.Handle = 0x08b
code_number code.Range = 0x08d
code_number code.AuthFail = 0x08e
code_number code.Nonce = 0x08f
code_number code.Scheme = 0x092
code_number code.Size = 0x095
code_number code.Symmetric = 0x096
code_number code.Insufficient = 0x09a
code_number code.Key = 0x09c
code_number code.PolicyFail = 0x09d
code_number code.Integrity = 0x09f
code_number code.ReservedBits = 0x0a1
code_number code.BadAuth = 0x0a2
code_number code.PolicyCc = 0x0a4

-- the number that is added to a response code for the handle, parameter or session at fault
abbrev pub place_number : Place → ℕ
place_number place.Nowhere = 0
place_number (place.Handle n) = 0x100 * n
place_number (place.Parameter n) = 0x040 + 0x100 * n
place_number (place.Session n) = 0x800 + 0x100 * n

abbrev pub rc_number : Rc → ℕ
rc_number rc = code_number rc.code + place_number rc.place

-- a response code without the number of a handle, parameter or session
abbrev pub plain : ResponseCode → Rc
plain code = record { code = code; place = place.Nowhere }

-- the same response code, but the fault is in this handle, parameter or session
abbrev pub at : Place → Rc → Rc
at place rc = record rc { place = place }

-- a response code for a fault in the authorization entry with this number
abbrev pub entry_fault : ℕ → ResponseCode → Rc
entry_fault n fault = at (place.Session n) (plain fault)
