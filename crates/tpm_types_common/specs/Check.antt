-- The check numbers that a row reports. The number 0 in a row means that no check failed, or that
-- the event is a power cycle.
use Rattle.std.specs.Prelude.{ℕ, ◌+◌}
use Rattle.tpm_types_common.specs.ActionCheck.{action_number}
use Rattle.tpm_types_common.specs.declared.check.Check.{Check}
use Rattle.tpm_types_common.specs.declared.check.Check.TheVariants as check

-- the number of a check: 1 to 11 for the general checks G1 to G11, 20 + k for the command's own
-- check Ak, and 255 for out of memory
abbrev pub check_number : Check → ℕ
check_number check.Length = 1
check_number check.Tag = 2
check_number check.Size = 3
check_number check.Code = 4
check_number check.Started = 5
check_number check.Handles = 6
check_number check.Sessions = 7
check_number check.Entries = 8
check_number check.Authorization = 9
check_number check.Others = 10
check_number check.Parameters = 11
check_number (check.Action a) = 20 + action_number a
check_number check.Memory = 255
