-- The numbers of a command's own checks, A1 to A7. The number of a check is its position in the
-- list of checks in the command's section of TPM 2.0 Library, Part 3.
use Rattle.std.specs.Prelude.{ℕ, ◌==◌, if◌then◌else◌}
use Rattle.tpm_types_common.specs.declared.action_check.ActionCheck.{ActionCheck}
use Rattle.tpm_types_common.specs.declared.action_check.ActionCheck.TheVariants as action

-- the number of one of a command's own checks, from 1 for A1 to 7 for A7
abbrev pub action_number : ActionCheck → ℕ
action_number action.First = 1
action_number action.Second = 2
action_number action.Third = 3
action_number action.Fourth = 4
action_number action.Fifth = 5
action_number action.Sixth = 6
action_number action.Seventh = 7

-- the check with this number, or the seventh check if no check has this number
abbrev pub action_named : ℕ → ActionCheck
action_named number =
    if number == 1 then action.First
    else (if number == 2 then action.Second
    else (if number == 3 then action.Third
    else (if number == 4 then action.Fourth
    else (if number == 5 then action.Fifth
    else (if number == 6 then action.Sixth
    else action.Seventh)))))
