use Rattle.std.proofs.Common.{arith, refl, sym, ap, ◌∙◌, length, subst}
use Rattle.std.specs.Prelude.{IfSome, ◌≤◌}
use Rattle.std.proofs.lemmas.Result.{err_from_is_err_and}
use Rattle.tpm_types_command.specs.Command.{handles_text, sessions_text}
use Rattle.tpm_text.specs.Draft.{drafted_bytes, grown_draft}
use Rattle.tpm_text.specs.Line.{end_of_line, handles_in, name_in, parameters_in}
use Rattle.tpm_text.specs.Tokens.{tokens_left}
use Rattle.tpm_text.proofs.Assembling.{begun, command_finished, end_fault, entries_fault, handles_fault, drafts_read_err, drafts_read_ok, reads_tokens_err, reads_tokens_ok, name_fault, parameters_fault, sessions_err, sessions_ok, still_ten}
use Rattle.tpm_text.proofs.Laid.{gives_is}
use Rattle.tpm_text.proofs.line.write_command.Goals as goal

pub returns-in_err-code : goal.returns-in_err-code
returns-in_err-code c =
    let p = err_from_is_err_and c.from_residual.result c.from_residual.ensures.1 in
    let n = ap (name_in c.args.profile) (sym c.of-tokens.ensures)
    ∙ reads_tokens_err (name_in c.args.profile (tokens_left c.of-tokens.result)) c.read_name.result
    c.in_err-code.field-0.0 (tokens_left c.read_name.new.tokens) c.in_err-code.was
    c.read_name.ensures in
    rw (p.1, p.2, name_fault c.args.profile c.args.line.now c.in_err-code.field-0.0 n) refl

pub returns-in_err-put_handles : goal.returns-in_err-put_handles
returns-in_err-put_handles c =
    let p = err_from_is_err_and c.from_residual-in_err-put_handles.result
    c.from_residual-in_err-put_handles.ensures.1 in
    let n = ap (name_in c.args.profile) (sym c.of-tokens.ensures)
    ∙ reads_tokens_ok (name_in c.args.profile (tokens_left c.of-tokens.result)) c.read_name.result
    c.in_ok-code.code (tokens_left c.read_name.new.tokens) c.in_ok-code.was
    c.read_name.ensures in
    let count = ap (λ f. length f.handles) c.shape-shape.ensures.value in
    let h = ap (λ k. handles_in k (tokens_left c.read_name.new.tokens)) (sym count)
    ∙ drafts_read_err handles_text _ _ _ c.put_handles.result c.in_err-put_handles.field-0.0 _
    c.in_err-put_handles.was c.put_handles.ensures in
    rw (
      p.1,
      p.2,
      handles_fault c.args.profile c.args.line.now c.in_ok-code.code
          (tokens_left c.read_name.new.tokens) n c.in_err-put_handles.field-0.0 h,
    ) refl

pub returns-in_err-tag : goal.returns-in_err-tag
returns-in_err-tag c =
    let p = err_from_is_err_and c.from_residual-in_err-tag.result
    c.from_residual-in_err-tag.ensures.1 in
    let n = ap (name_in c.args.profile) (sym c.of-tokens.ensures)
    ∙ reads_tokens_ok (name_in c.args.profile (tokens_left c.of-tokens.result)) c.read_name.result
    c.in_ok-code.code (tokens_left c.read_name.new.tokens) c.in_ok-code.was
    c.read_name.ensures in
    let count = ap (λ f. length f.handles) c.shape-shape.ensures.value in
    let h = drafts_read_ok handles_text _ _ _ c.put_handles.result _ c.in_ok-put_handles.was
    c.put_handles.ensures in
    let s = sessions_err _ _ _ c.put_authorization.result c.in_err-tag.field-0.0 _ c.in_err-tag.was
    c.put_authorization.ensures in
    rw (
      p.1,
      p.2,
      entries_fault c.args.profile c.args.line.now c.in_ok-code.code
          (tokens_left c.read_name.new.tokens) n h.0 (tokens_left c.put_handles.new.tokens)
          (ap (λ k. handles_in k (tokens_left c.read_name.new.tokens)) (sym count) ∙ h.1)
          c.in_err-tag.field-0.0 s,
    ) refl

pub returns-in_err-put_parameters : goal.returns-in_err-put_parameters
returns-in_err-put_parameters c =
    let p = err_from_is_err_and c.from_residual-in_err-put_parameters.result
    c.from_residual-in_err-put_parameters.ensures.1 in
    let n = ap (name_in c.args.profile) (sym c.of-tokens.ensures)
    ∙ reads_tokens_ok (name_in c.args.profile (tokens_left c.of-tokens.result)) c.read_name.result
    c.in_ok-code.code (tokens_left c.read_name.new.tokens) c.in_ok-code.was
    c.read_name.ensures in
    let count = ap (λ f. length f.handles) c.shape-shape.ensures.value in
    let h = drafts_read_ok handles_text _ _ _ c.put_handles.result _ c.in_ok-put_handles.was
    c.put_handles.ensures in
    let s = sessions_ok _ _ _ c.put_authorization.result c.in_ok-tag.tag _ c.in_ok-tag.was
    c.put_authorization.ensures in
    let kinds = ap (λ f. parameters_in f.parameters (tokens_left c.put_authorization.new.tokens))
    c.shape-shape.ensures.value in
    let q = sym kinds ∙ drafts_read_err (λ text. text) _ _ _ c.put_parameters.result
    c.in_err-put_parameters.field-0.0 _ c.in_err-put_parameters.was c.put_parameters.ensures in
    rw (
      p.1,
      p.2,
      parameters_fault c.args.profile c.args.line.now c.in_ok-code.code
          (tokens_left c.read_name.new.tokens) n h.0 (tokens_left c.put_handles.new.tokens)
          (ap (λ k. handles_in k (tokens_left c.read_name.new.tokens)) (sym count) ∙ h.1) s.0
          (tokens_left c.put_authorization.new.tokens) s.1 c.in_err-put_parameters.field-0.0 q,
    ) refl

pub returns-in_err-check_end : goal.returns-in_err-check_end
returns-in_err-check_end c =
    let p = err_from_is_err_and c.from_residual-in_err-check_end.result
    c.from_residual-in_err-check_end.ensures.1 in
    let n = ap (name_in c.args.profile) (sym c.of-tokens.ensures)
    ∙ reads_tokens_ok (name_in c.args.profile (tokens_left c.of-tokens.result)) c.read_name.result
    c.in_ok-code.code (tokens_left c.read_name.new.tokens) c.in_ok-code.was
    c.read_name.ensures in
    let count = ap (λ f. length f.handles) c.shape-shape.ensures.value in
    let h = drafts_read_ok handles_text _ _ _ c.put_handles.result _ c.in_ok-put_handles.was
    c.put_handles.ensures in
    let s = sessions_ok _ _ _ c.put_authorization.result c.in_ok-tag.tag _ c.in_ok-tag.was
    c.put_authorization.ensures in
    let kinds = ap (λ f. parameters_in f.parameters (tokens_left c.put_authorization.new.tokens))
    c.shape-shape.ensures.value in
    let q = drafts_read_ok (λ text. text) _ _ _ c.put_parameters.result _ c.in_ok-put_parameters.was
    c.put_parameters.ensures in
    let e = gives_is (end_of_line (tokens_left c.put_parameters.new.tokens)) c.check_end.result
    c.check_end.ensures ∙ c.in_err-check_end.was in
    rw (
      p.1,
      p.2,
      end_fault c.args.profile c.args.line.now c.in_ok-code.code (tokens_left c.read_name.new.tokens) n
          h.0 (tokens_left c.put_handles.new.tokens)
          (ap (λ k. handles_in k (tokens_left c.read_name.new.tokens)) (sym count) ∙ h.1) s.0
          (tokens_left c.put_authorization.new.tokens) s.1 q.0
          (tokens_left c.put_parameters.new.tokens) (sym kinds ∙ q.1) c.in_err-check_end.field-0.0
          e,
    ) refl

pub finish-requires : goal.finish-requires
finish-requires c =
    let ten = begun (drafted_bytes c.begin.new.self) c.begin.ensures.some c.begin.ensures.ten in
    let h = drafts_read_ok handles_text _ _ _ c.put_handles.result _ c.in_ok-put_handles.was
    c.put_handles.ensures in
    let s = sessions_ok _ _ _ c.put_authorization.result c.in_ok-tag.tag _ c.in_ok-tag.was
    c.put_authorization.ensures in
    let q = drafts_read_ok (λ text. text) _ _ _ c.put_parameters.result _ c.in_ok-put_parameters.was
    c.put_parameters.ensures in
    let started = subst (λ d. IfSome d (λ text. 10 ≤ length text)) (sym ten.1)
    (omega (arith, ten.2)) in
    subst (λ d. IfSome d (λ text. 10 ≤ length text)) (sym q.2)
    (still_ten _ q.0
    (subst (λ d. IfSome d (λ text. 10 ≤ length text)) (sym s.3)
    (still_ten _ (sessions_text s.0)
    (subst (λ d. IfSome d (λ text. 10 ≤ length text)) (sym h.2)
    (still_ten _ (handles_text h.0) started)))))

pub returns : goal.returns
returns c =
    let ten = begun (drafted_bytes c.begin.new.self) c.begin.ensures.some c.begin.ensures.ten in
    let n = ap (name_in c.args.profile) (sym c.of-tokens.ensures)
    ∙ reads_tokens_ok (name_in c.args.profile (tokens_left c.of-tokens.result)) c.read_name.result
    c.in_ok-code.code (tokens_left c.read_name.new.tokens) c.in_ok-code.was
    c.read_name.ensures in
    let count = ap (λ f. length f.handles) c.shape-shape.ensures.value in
    let h = drafts_read_ok handles_text _ _ _ c.put_handles.result _ c.in_ok-put_handles.was
    c.put_handles.ensures in
    let s = sessions_ok _ _ _ c.put_authorization.result c.in_ok-tag.tag _ c.in_ok-tag.was
    c.put_authorization.ensures in
    let kinds = ap (λ f. parameters_in f.parameters (tokens_left c.put_authorization.new.tokens))
    c.shape-shape.ensures.value in
    let q = drafts_read_ok (λ text. text) _ _ _ c.put_parameters.result _ c.in_ok-put_parameters.was
    c.put_parameters.ensures in
    let e = gives_is (end_of_line (tokens_left c.put_parameters.new.tokens)) c.check_end.result
    c.check_end.ensures ∙ c.in_ok-check_end.was in
    command_finished c.args.profile c.args.line.now c.in_ok-code.code (tokens_left c.read_name.new.tokens) n h.0
    (tokens_left c.put_handles.new.tokens)
    (ap (λ k. handles_in k (tokens_left c.read_name.new.tokens)) (sym count) ∙ h.1) s.0
    (tokens_left c.put_authorization.new.tokens) s.1 q.0
    (tokens_left c.put_parameters.new.tokens) (sym kinds ∙ q.1) e c.in_ok-tag.tag s.2 ten.0
    ten.2 (drafted_bytes c.put_handles.new.draft) (drafted_bytes c.put_authorization.new.draft)
    (drafted_bytes c.put_parameters.new.draft) (drafted_bytes c.finish.new.self) c.finish.result
    (h.2 ∙ ap (λ d. grown_draft d (handles_text h.0)) ten.1) s.3 q.2 c.finish.ensures
