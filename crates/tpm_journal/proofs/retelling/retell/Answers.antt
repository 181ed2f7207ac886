use Rattle.std.proofs.KnownBytes.{Keeps-refl}
use Rattle.std.proofs.Common.{◌+◌, ℕ, ap}
use Rattle.tpm_journal.proofs.retelling.Heads.{told_text}
use Rattle.tpm_journal.proofs.retelling.retell.Goals as goal

pub returns-in-Err : goal.returns-in-Err
returns-in-Err g c = (c.in-Err.ensures, Keeps-refl _)

pub returns-in-None : goal.returns-in-None
returns-in-None g c =
    let starts = c.in-Ok.ensures in
    told_text c.args.form g.K.Keep.can_refuse c.args.text.now _ starts.0 _ _ _ starts.1 _ _ _ _ _ _
    _ c.requires.never_refused starts.2
    c.split_at.ensures.front c.split_at.ensures.back c.in-Ok-put_head.ensures.written
    c.in-Ok-retell_entries.ensures.told c.in-None.is

pub returns-in-Some : goal.returns-in-Some
returns-in-Some g c =
    let starts = c.in-Ok.ensures in (
      told_text c.args.form g.K.Keep.can_refuse c.args.text.now _ starts.0 _ _ _ starts.1 _ _ _ _ _
          _ _ c.requires.never_refused starts.2
          c.split_at.ensures.front c.split_at.ensures.back c.in-Ok-put_head.ensures.written
          c.in-Ok-retell_entries.ensures.told c.in-Some.is,
      ap (λ (n : ℕ). n + c.in-Ok-retell_entries.followed.taken) starts.2,
    )
