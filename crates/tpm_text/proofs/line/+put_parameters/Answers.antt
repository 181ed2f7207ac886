use Rattle.std.proofs.Common.{rules, refl, sym, ◌∙◌, ◌++◌}
use Rattle.std.proofs.lemmas.Result.{err_from_is_err_and}
use Rattle.tpm_text.specs.Draft.{drafted_bytes}
use Rattle.tpm_text.specs.Pieces.{token_of}
use Rattle.tpm_text.specs.Tokens.{tokens_left}
use Rattle.tpm_text.proofs.Growing.{drafts_err, drafts_ok}
use Rattle.tpm_text.proofs.Laid.{column_err, column_ok, laid_behind, no_parameters, nothing_grows, parameter_bad, parameter_first, parameter_missing}
use Rattle.tpm_text.proofs.line.+put_parameters.Goals as goal

pub returns-in_default : goal.returns-in_default
returns-in_default t c =
    rw (no_parameters c.args.kinds.now (tokens_left c.args.tokens.now) (search rules))
    (sym (nothing_grows c.args.draft.now), refl)

pub returns-in_err-token : goal.returns-in_err-token
returns-in_err-token t c =
    let p = err_from_is_err_and c.from_residual.result c.from_residual.ensures.1 in
    rw (
      p.1,
      p.2,
      parameter_missing c.args.kinds.now c.in-Some.others.now c.in-Some.kind.now
          (tokens_left c.args.tokens.now) (search rules) c.in_err-token.ensures.0,
    )
    c.in_err-token.ensures.1

pub returns-in_err-told : goal.returns-in_err-told
returns-in_err-told t c =
    let p = err_from_is_err_and c.from_residual-in_err-told.result
    c.from_residual-in_err-told.ensures.1 in
    let bad = column_err c.in_ok-token.token.column c.put_parameter.result c.in_err-told.field-0.0
    (sym c.told.ensures ∙ c.in_err-told.was) in
    rw (
      p.1,
      p.2,
      parameter_bad c.args.kinds.now c.in-Some.others.now c.in-Some.kind.now
          (tokens_left c.args.tokens.now) (tokens_left c.wanted.new.self)
          (token_of c.in_ok-token.token) c.in_err-told.field-0.0 (search rules)
          c.in_ok-token.ensures bad.0 (drafts_err _ _ _ _ _ bad.1 c.put_parameter.ensures) bad.2,
    )
    refl

pub returns : goal.returns
returns t c =
    let written =
    drafts_ok _ _ _ _
    (column_ok c.in_ok-token.token.column c.put_parameter.result _
    (sym c.told.ensures ∙ c.in_ok-told.was)) c.put_parameter.ensures in
    rw (parameter_first c.args.kinds.now c.in-Some.others.now c.in-Some.kind.now
    (tokens_left c.args.tokens.now) (tokens_left c.wanted.new.self)
    (token_of c.in_ok-token.token) written.0 (search rules) c.in_ok-token.ensures written.1)
    (laid_behind (λ text. text) written.0 (λ text. written.0 ++ text) (λ text. refl) _
    (drafted_bytes c.args.draft.now) (drafted_bytes c.put_parameter.new.draft) _ _ _ written.2
    c.put_parameters.ensures)
