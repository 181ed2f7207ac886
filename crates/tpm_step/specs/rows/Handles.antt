-- Handles that fit the rules of a command.
use Rattle.std.specs.Prelude.{◌≡◌, true, List}
use Rattle.std.specs.List.{AllZip}
use Rattle.tpm_commands.specs.declared.shape.HandleRule.{HandleRule}
use Rattle.tpm_types_common.specs.declared.handle.Handle.{Handle}
use Rattle.tpm_commands.specs.Shape.{is_of_kind}
use Rattle.tpm_record.specs.Entity.{is_present}
use Rattle.tpm_record.specs.Record.{Record}

-- The handle has the kind that its rule names, and its entity exists.
abbrev pub FitsRule : Record → HandleRule → Handle → Type 0
FitsRule r rule handle = (is_of_kind rule.kind handle ≡ true) × (is_present r handle ≡ true)

-- There is one handle for each rule, and each handle fits its rule.
abbrev pub HandlesFit : Record → List HandleRule → List Handle → Type 0
HandlesFit r rules handles = AllZip (FitsRule r) rules handles
