use Rattle.std.proofs.Common.{rules, refl, sym}
use Rattle.tpm_text.specs.Draft.{drafted_bytes}
use Rattle.tpm_text.specs.Tokens.{tokens_left}
use Rattle.tpm_text.proofs.Assembling.{sessions_laid}
use Rattle.tpm_text.proofs.Laid.{entries_end, nothing_grows}
use Rattle.tpm_text.proofs.line.put_authorization.Goals as goal

pub returns-then-not-begins_entry : goal.returns-then-not-begins_entry
returns-then-not-begins_entry c =
    rw (entries_end 3 (tokens_left c.args.tokens.now) (search rules))
    (refl, sym (nothing_grows c.args.draft.now), refl)

pub returns : goal.returns
returns c = sessions_laid (tokens_left c.args.tokens.now) (tokens_left c.put_entries.new.tokens)
    (drafted_bytes c.args.draft.now) (drafted_bytes c.put_entries.new.draft)
    (drafted_bytes c.put_area.new.self) c.put_entries.result (search rules) c.in_ok-put_entries.was
    (search rules) c.put_area.ensures
