use Rattle.std.proofs.Common.{sym, ap, ◌∙◌, [], ◌∷◌, Ok, Err}
use Rattle.std.specs.Option.{option_map_or}
use Rattle.std.proofs.lemmas.Result.{err_from_is_err_and}
use Rattle.tpm_text.specs.Draft.{drafted_bytes}
use Rattle.tpm_text.specs.Pieces.{pieces_of, plus}
use Rattle.tpm_text.proofs.Lists.{elements_drafted, elements_left, put_last, put_more, put_stopped}
use Rattle.tpm_text.proofs.list.put_elements.Goals as goal

pub returns-in_err-put_element : goal.returns-in_err-put_element
returns-in_err-put_element c =
    let p = err_from_is_err_and c.from_residual.result c.from_residual.ensures.1 in
    rw (p.1, p.2) (elements_drafted c.args.element _ _ (Err c.in_err-put_element.field-0.0) _
    (sym c.loop-text.invariant
    ∙ ap (elements_left c.args.element (drafted_bytes c.loop-text.draft))
    c.cut.ensures.pieces ∙ put_stopped c.args.element (drafted_bytes c.loop-text.draft) _
    c.cut.result.0.now _ c.put_element.result c.in_err-put_element.field-0.0
    c.in_err-put_element.was c.put_element.ensures))

pub loop-text-preserved : goal.loop-text-preserved
loop-text-preserved c =
    let pieces = c.cut.ensures.pieces
    ∙ ap (λ others. c.cut.result.0.now ∷ option_map_or (λ rest. pieces_of plus rest.now) others
    []) c.in-Some.is in
    sym (put_more c.args.element (drafted_bytes c.loop-text.draft)
    (drafted_bytes c.put_element.new.draft) c.cut.result.0.now _ c.put_element.result
    c.in_ok-put_element.was c.put_element.ensures)
    ∙ ap (elements_left c.args.element (drafted_bytes c.loop-text.draft)) (sym pieces)
    ∙ c.loop-text.invariant

pub returns-in-None : goal.returns-in-None
returns-in-None c =
    let pieces = c.cut.ensures.pieces
    ∙ ap (λ others. c.cut.result.0.now ∷ option_map_or (λ rest. pieces_of plus rest.now) others
    []) c.in-None.is in
    elements_drafted c.args.element _ _ (Ok tt) _
    (sym c.loop-text.invariant
    ∙ ap (elements_left c.args.element (drafted_bytes c.loop-text.draft)) pieces
    ∙ put_last c.args.element (drafted_bytes c.loop-text.draft)
    (drafted_bytes c.put_element.new.draft) c.cut.result.0.now c.put_element.result
    c.in_ok-put_element.was c.put_element.ensures)
