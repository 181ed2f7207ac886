-- Looking up a number finds a tag with that number, and each tag is found by its number.
use Rattle.std.proofs.Common.{◌≡◌, ℕ, ◌<◌, ◌^◌, Some, None, refl, arith}
use Rattle.tpm_types_common.proofs.Named.{link, none}
use Rattle.tpm_types_command.specs.declared.tag.Tag.{Tag}
use Rattle.tpm_types_command.specs.declared.tag.Tag.TheVariants.{NoSessions, Sessions}
use Rattle.tpm_types_command.specs.Tag.{tag_named, tag_number}

pub tag_named-is : (number : ℕ) (tag : Tag) → tag_named number ≡ Some tag → number ≡ tag_number tag
tag_named-is number tag = link tag_number number NoSessions _ tag λ o. link tag_number number
    Sessions None o (none tag_number number)

pub tag_named-again : (tag : Tag) → tag_named (tag_number tag) ≡ Some tag
tag_named-again NoSessions = refl
tag_named-again Sessions = refl

pub tag_number-small : (tag : Tag) → tag_number tag < 2 ^ 16
tag_number-small NoSessions = omega arith
tag_number-small Sessions = omega arith
