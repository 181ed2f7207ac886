use Rattle.std.proofs.Common.{◌+◌, ℕ, ap}
use Rattle.tpm_journal.proofs.ReadHeads.{not_opened, read_so}
use Rattle.tpm_journal.proofs.opening.open.Goals as goal

pub returns-in-Err : goal.returns-in-Err
returns-in-Err g c = not_opened c.args.text.now c.in-Err.fault _ c.in-Err.ensures

pub returns-in-None : goal.returns-in-None
returns-in-None g c =
    let starts = c.in-Ok.ensures in
    record {
      followed = c.follow-followed.result;
      reads = read_so g.K.Keep.can_refuse c.args.text.now _ starts.0 _ _ starts.1 _ _ _
          c.requires.never_refused starts.2
          c.split_at.ensures.back c.follow-followed.ensures;
      whole = c.in-None.is;
      size = ap (λ (n : ℕ). n + c.follow-followed.result.taken) starts.2;
    }
