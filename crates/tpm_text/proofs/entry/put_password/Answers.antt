use Rattle.std.proofs.Common.{rules, ap, ◌∙◌, [], ◌∷◌}
use Rattle.std.specs.Int.{w32, to_be_bytes}
use Rattle.tpm_types_common.specs.Handle.{password_handle}
use Rattle.tpm_text.specs.Draft.{drafted_bytes, grown_draft}
use Rattle.tpm_text.proofs.EntryTexts.{password_front, password_text}
use Rattle.tpm_text.proofs.Growing.{drafted_behind, grown-grown}
use Rattle.tpm_text.proofs.entry.put_password.Goals as goal

pub returns : goal.returns
returns c =
    rw password_text (drafted_behind password_front _ (drafted_bytes c.args.draft.now)
    (drafted_bytes c.put-2.new.self) _ _
    (c.put-2.ensures ∙ ap (λ d. grown_draft d (0 ∷ 0 ∷ 1 ∷ [])) (search rules)
    ∙ grown-grown (drafted_bytes c.args.draft.now) (to_be_bytes w32 password_handle.number)
    (0 ∷ 0 ∷ 1 ∷ [])) c.put_buffer.ensures)
