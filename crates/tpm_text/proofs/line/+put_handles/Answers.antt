use Rattle.std.proofs.Common.{rules, arith, refl, sym, ap, ◌∙◌, ◌∷◌, ◌-◌}
use Rattle.std.proofs.lemmas.Result.{err_from_is_err_and}
use Rattle.tpm_types_command.specs.Command.{handle_text, handles_text}
use Rattle.tpm_text.specs.Draft.{drafted_bytes}
use Rattle.tpm_text.specs.Fault.{at_column}
use Rattle.tpm_text.specs.Pieces.{token_of}
use Rattle.tpm_text.specs.Tokens.{tokens_left}
use Rattle.tpm_text.proofs.Laid.{gives_is, handle_bad, handle_before, handle_first, handle_missing, laid_behind, no_handles, no_handles_text, nothing_grows}
use Rattle.tpm_text.proofs.line.+put_handles.Goals as goal

pub returns-then-count-eq0 : goal.returns-then-count-eq0
returns-then-count-eq0 t c =
    rw (
      no_handles c.args.count (tokens_left c.args.tokens.now) c.if-count-eq0.true,
      no_handles_text,
    ) (sym (nothing_grows c.args.draft.now), refl)

pub returns-in_err-token : goal.returns-in_err-token
returns-in_err-token t c =
    let p = err_from_is_err_and c.from_residual.result c.from_residual.ensures.1 in
    rw (
      p.1,
      p.2,
      handle_missing c.args.count (tokens_left c.args.tokens.now) c.if-count-eq0.false
          c.in_err-token.ensures.0,
    ) c.in_err-token.ensures.1

pub returns-in_err-handle : goal.returns-in_err-handle
returns-in_err-handle t c =
    let p = err_from_is_err_and c.from_residual-in_err-handle.result
    c.from_residual-in_err-handle.ensures.1 in
    let read = ap (at_column c.in_ok-token.token.column)
    (gives_is _ c.handle_in.result c.handle_in.ensures) ∙ sym c.told.ensures
    ∙ c.in_err-handle.was in
    rw (
      p.1,
      p.2,
      handle_bad c.args.count (tokens_left c.args.tokens.now)
          (tokens_left c.wanted.new.self) (token_of c.in_ok-token.token) c.in_err-handle.field-0.0
          c.if-count-eq0.false c.in_ok-token.ensures read,
    ) refl

pub returns : goal.returns
returns t c =
    let read = ap (at_column c.in_ok-token.token.column)
    (gives_is _ c.handle_in.result c.handle_in.ensures) ∙ sym c.told.ensures
    ∙ c.in_ok-handle.was in
    rw (handle_first c.args.count (c.args.count - 1) (tokens_left c.args.tokens.now)
    (tokens_left c.wanted.new.self) (token_of c.in_ok-token.token) c.in_ok-handle.handle
    (omega (arith, c.if-count-eq0.false)) c.in_ok-token.ensures read)
    (laid_behind handles_text (handle_text c.in_ok-handle.handle)
    (λ handles. c.in_ok-handle.handle ∷ handles) (handle_before c.in_ok-handle.handle) _
    (drafted_bytes c.args.draft.now) (drafted_bytes c.put.new.self) _ _ _ (search rules)
    c.put_handles.ensures)
