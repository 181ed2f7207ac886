-- The decoder of each enumerated value is exact: it returns a value if and only if the bytes begin
-- with the value's encoding.
use Rattle.std.proofs.Common.{◌≡◌, ℕ, ◌^◌, ◌<◌, Option, Some, None, refl, arith}
use Rattle.std.specs.Int.{w8, to_be_bytes}
use Rattle.tpm_image_text.proofs.FieldSpelling.{names_spelled}
use Rattle.tpm_image_text.specs.Fields.{malformed_fault}
use Rattle.tpm_bytes.proofs.Fields.{wide8}
use Rattle.tpm_sequence.specs.declared.beginning.Beginning.{Beginning}
use Rattle.tpm_sequence.specs.declared.beginning.Beginning.TheVariants as begun
use Rattle.tpm_types_common.proofs.Named.{link, none}
use Rattle.tpm_types_common.proofs.Spelled.{Spelled}
use Rattle.tpm_sequence_text.specs.Kind.{beginning_in, beginning_named, beginning_number, kind_in, kind_named, kind_number}
use Rattle.tpm_sequence_text.specs.declared.kind.SequenceKind.{SequenceKind}
use Rattle.tpm_sequence_text.specs.declared.kind.SequenceKind.TheVariants as kind

-- ---- the kind of a sequence

kind_is : (number : ℕ) (x : Option SequenceKind) → kind_named number ≡ Some x
    → number ≡ kind_number x
kind_is number x =
    link kind_number number None _ x
    λ a. link kind_number number (Some kind.Hash) _ a
    λ b. link kind_number number (Some kind.Event) _ b
    λ c. link kind_number number (Some kind.Hmac) None c (none kind_number number)

kind_again : (x : Option SequenceKind) → kind_named (kind_number x) ≡ Some x
kind_again None = refl
kind_again (Some kind.Hash) = refl
kind_again (Some kind.Event) = refl
kind_again (Some kind.Hmac) = refl

kind_small : (x : Option SequenceKind) → kind_number x < 2 ^ 8
kind_small None = omega arith
kind_small (Some kind.Hash) = omega arith
kind_small (Some kind.Event) = omega arith
kind_small (Some kind.Hmac) = omega arith

pub kind_spelled : Spelled (λ x. to_be_bytes w8 (kind_number x)) (λ x. Unit {0}) kind_in
unfolding kind_in
kind_spelled = names_spelled w8 (2 ^ 8) wide8 kind_number kind_named malformed_fault malformed_fault
    kind_is kind_again kind_small

-- ---- how the data of a hash sequence begin

beginning_is : (number : ℕ) (x : Beginning) → beginning_named number ≡ Some x
    → number ≡ beginning_number x
beginning_is number x =
    link beginning_number number begun.Empty _ x
    λ a. link beginning_number number begun.One _ a
    λ b. link beginning_number number begun.Two _ b
    λ c. link beginning_number number begun.Three _ c
    λ d. link beginning_number number begun.Generated _ d
    λ e. link beginning_number number begun.Ordinary None e (none beginning_number number)

beginning_again : (x : Beginning) → beginning_named (beginning_number x) ≡ Some x
beginning_again begun.Empty = refl
beginning_again begun.One = refl
beginning_again begun.Two = refl
beginning_again begun.Three = refl
beginning_again begun.Generated = refl
beginning_again begun.Ordinary = refl

beginning_small : (x : Beginning) → beginning_number x < 2 ^ 8
beginning_small begun.Empty = omega arith
beginning_small begun.One = omega arith
beginning_small begun.Two = omega arith
beginning_small begun.Three = omega arith
beginning_small begun.Generated = omega arith
beginning_small begun.Ordinary = omega arith

pub beginning_spelled : Spelled (λ x. to_be_bytes w8 (beginning_number x)) (λ x. Unit {0})
    beginning_in
unfolding beginning_in
beginning_spelled =
    names_spelled w8 (2 ^ 8) wide8 beginning_number beginning_named malformed_fault malformed_fault
    beginning_is beginning_again beginning_small
