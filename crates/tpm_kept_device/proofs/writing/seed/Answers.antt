use Rattle.std.proofs.Common.{rules, ◌≡◌, ℕ, List, Ok, subst, sym}
use Rattle.tpm_kept_journal.specs.Seed.{seed_in}
use Rattle.tpm_kept_device.proofs.Texts.{seed_read}
use Rattle.tpm_kept_device.proofs.writing.seed.Goals as goal

pub returns-clause-text : goal.returns-clause-text
returns-clause-text c = search rules

pub returns-clause-read : goal.returns-clause-read
returns-clause-read c =
    subst (λ (text : List ℕ). seed_in text
    ≡ Ok (record {
      kind = c.args.kind;
      now = c.args.now_ms;
      start = c.args.start;
      content =
          c.args.content.now;
    }))
    (sym (returns-clause-text c))
    (seed_read c.args.kind c.args.now_ms c.args.start c.args.content.now c.ranges.kind.fits
    c.ranges.now_ms.fits c.ranges.start.fits)
