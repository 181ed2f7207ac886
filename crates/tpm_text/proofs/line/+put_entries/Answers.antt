use Rattle.std.proofs.Common.{arith, refl, sym, ap, ◌∙◌, ◌∷◌, ◌-◌}
use Rattle.std.proofs.lemmas.Result.{err_from_is_err_and}
use Rattle.tpm_types_command.specs.AuthArea.{entries_text}
use Rattle.tpm_types_command.specs.AuthEntry.{auth_entry_text}
use Rattle.tpm_text.specs.Draft.{drafted_bytes, grown_draft}
use Rattle.tpm_text.specs.Entry.{entry_in}
use Rattle.tpm_text.specs.Pieces.{token_of}
use Rattle.tpm_text.specs.Tokens.{tokens_left}
use Rattle.tpm_text.proofs.Growing.{drafts_err, drafts_ok}
use Rattle.tpm_text.proofs.Laid.{column_err, column_ok, entries_end, entry_bad, entry_first, entry_read, entry_refused, laid_behind, no_entries, nothing_grows}
use Rattle.tpm_text.proofs.line.+put_entries.Goals as goal

pub returns-then-most-eq0 : goal.returns-then-most-eq0
returns-then-most-eq0 t c =
    rw (no_entries c.args.most (tokens_left c.args.tokens.now) c.if-most-eq0.true)
    (sym (nothing_grows c.args.draft.now), refl)

pub returns-in_default : goal.returns-in_default
returns-in_default t c =
    rw (entries_end c.args.most (tokens_left c.args.tokens.now) c.in_default.ensures.1)
    (sym (nothing_grows c.args.draft.now), c.in_default.ensures.0)

pub returns-in_err-told : goal.returns-in_err-told
returns-in_err-told t c =
    let p = err_from_is_err_and c.from_residual.result c.from_residual.ensures.1 in
    let told = sym c.told.ensures ∙ c.in_err-told.was in
    let bad = column_err c.in-Some.token.column c.put_entry.result c.in_err-told.field-0.0 told in
    let read = entry_refused (entry_in c.in-Some.token.text.now) bad.0
    (drafts_err _ _ _ _ _ bad.1 c.put_entry.ensures) in
    rw (
      p.1,
      p.2,
      entry_bad c.args.most (tokens_left c.args.tokens.now)
          (tokens_left c.next_entry.new.self) (token_of c.in-Some.token) c.in_err-told.field-0.0
          c.if-most-eq0.false c.in-Some.ensures.0 c.in-Some.ensures.1 bad.0 read bad.2,
    ) refl

pub returns : goal.returns
returns t c =
    let told = sym c.told.ensures ∙ c.in_ok-told.was in
    let written = drafts_ok _ _ _ _ (column_ok c.in-Some.token.column c.put_entry.result _ told)
    c.put_entry.ensures in
    let read = entry_read (entry_in c.in-Some.token.text.now) written.0 written.1 in
    rw (entry_first c.args.most (c.args.most - 1) (tokens_left c.args.tokens.now)
    (tokens_left c.next_entry.new.self) (token_of c.in-Some.token) read.0
    (omega (arith, c.if-most-eq0.false)) c.in-Some.ensures.0 c.in-Some.ensures.1 read.1)
    (laid_behind entries_text (auth_entry_text read.0) (λ entries. read.0 ∷ entries)
    (λ entries. refl) _ (drafted_bytes c.args.draft.now) (drafted_bytes c.put_entry.new.draft)
    _ _ _ (written.2 ∙ ap (grown_draft (drafted_bytes c.args.draft.now)) read.2)
    c.put_entries.ensures)
