-- Lemmas about listing commands one after another.
use Rattle.std.proofs.Common.{◌≡◌, ℕ, ◌+◌, ◌<◌, List, [], ◌∷◌, ◌++◌, length, take, get_or, ap, sym, ◌∙◌, append-nil}
use Rattle.std.proofs.lemmas.Grind.{flat_map-append}
use Rattle.std.proofs.lemmas.List.{take_more}
use Rattle.std.specs.List.{flat_map}
use Rattle.tpm_actions_capability.specs.declared.element.Element.{Element}
use Rattle.tpm_commands.specs.declared.command_code.CommandCode.{CommandCode}
use Rattle.tpm_completion.specs.Capability.{commands_by}

-- listing one more code appends the elements of that code
pub commands_more : (codes : List CommandCode) (i : ℕ) (d : CommandCode) (so new : List Element)
    → i < length codes → so ≡ flat_map commands_by (take i codes)
    → new ≡ so ++ commands_by (get_or codes i d) → new ≡ flat_map commands_by (take (i + 1) codes)
commands_more codes i d so new below is more =
    let one : flat_map commands_by (get_or codes i d ∷ []) ≡ commands_by (get_or codes i d) =
    append-nil (commands_by (get_or codes i d)) in
    more ∙ ap (λ (l : List Element). l ++ commands_by (get_or codes i d)) is
    ∙ ap (λ (l : List Element). flat_map commands_by (take i codes) ++ l) (sym one)
    ∙ sym (flat_map-append commands_by (take i codes) (get_or codes i d ∷ []))
    ∙ sym (ap (flat_map commands_by) (take_more codes i d below))
