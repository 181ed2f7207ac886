use Rattle.std.proofs.Common.{rules, ℕ, List, ap, ◌∙◌, ◌/◌, ◌^◌}
use Rattle.tpm_actions_capability.specs.declared.element.Element.{Element}
use Rattle.tpm_actions_capability.proofs.Handles.{told_listed}
use Rattle.tpm_actions_capability.specs.Element.{listing}
use Rattle.tpm_actions_capability.specs.GetCapability.{first_handle_of, handle_elements}
use Rattle.tpm_actions_capability.specs.declared.element.Telling.TheVariants as tell
use Rattle.tpm_actions_capability.proofs.get_capability.tell_handles.Goals as goal

pub returns : goal.returns
returns g c =
    let text = λ (from : ℕ) (es : List Element). listing tell.Value 1 from c.args.asked.count es in
    let from = first_handle_of c.args.asked.property in
    told_listed (handle_elements (g.K.Keep.record_of c.args.keep.now)
    (c.args.asked.property / 2 ^ 24)) (text from)
    c.handles.new.elements.items c.list.new.text (search rules)
    (c.list.ensures ∙ ap (λ (n : ℕ). text n c.as_slice.result.now) c.first_handle_of-from.ensures
    ∙ ap (text from) c.as_slice.ensures.value)
