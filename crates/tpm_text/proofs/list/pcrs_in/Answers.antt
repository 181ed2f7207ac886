use Rattle.std.proofs.Common.{sym, ap, ◌∙◌, [], ◌∷◌}
use Rattle.std.specs.Option.{option_map_or}
use Rattle.std.proofs.lemmas.Result.{err_from_is_err_and}
use Rattle.tpm_text.specs.Pieces.{comma, pieces_of}
use Rattle.tpm_text.proofs.Lists.{pcrs_begun, pcrs_done, pcrs_left, pcrs_more, pcrs_stopped}
use Rattle.tpm_text.proofs.list.pcrs_in.Goals as goal

pub loop-text-init : goal.loop-text-init
loop-text-init c = rw c.none-select.ensures (pcrs_begun c.args.numbers.now)

pub returns-in_err-pcr_in : goal.returns-in_err-pcr_in
returns-in_err-pcr_in c =
    let p = err_from_is_err_and c.from_residual.result c.from_residual.ensures.1 in
    rw (p.1, p.2) (sym c.loop-text.invariant
    ∙ ap (pcrs_left c.loop-text.select) c.cut.ensures.pieces
    ∙ pcrs_stopped c.loop-text.select c.in_err-pcr_in.field-0.0 c.cut.result.0.now _
    c.in_err-pcr_in.ensures)

pub loop-text-preserved : goal.loop-text-preserved
loop-text-preserved c =
    let pieces = c.cut.ensures.pieces
    ∙ ap (λ others. c.cut.result.0.now ∷ option_map_or (λ rest. pieces_of comma rest.now) others
    []) c.in-Some.is in
    rw c.insert.ensures
    (sym (pcrs_more c.loop-text.select c.in_ok-pcr_in.field-0 c.cut.result.0.now _
    c.in_ok-pcr_in.ensures) ∙ ap (pcrs_left c.loop-text.select) (sym pieces)
    ∙ c.loop-text.invariant)

pub returns-in-None : goal.returns-in-None
returns-in-None c =
    let pieces = c.cut.ensures.pieces
    ∙ ap (λ others. c.cut.result.0.now ∷ option_map_or (λ rest. pieces_of comma rest.now) others
    []) c.in-None.is in
    rw c.insert.ensures (sym c.loop-text.invariant ∙ ap (pcrs_left c.loop-text.select) pieces
    ∙ pcrs_more c.loop-text.select c.in_ok-pcr_in.field-0 c.cut.result.0.now []
    c.in_ok-pcr_in.ensures ∙ pcrs_done _)
