use Rattle.std.proofs.Common.{rules, ◌≡◌, ℕ, List, Ok, subst, sym}
use Rattle.tpm_kept_journal.specs.Command.{Cycles, command_of}
use Rattle.tpm_kept_device.proofs.Texts.{cycle_read}
use Rattle.tpm_kept_device.proofs.writing.power_cycle.Goals as goal

pub returns-clause-text : goal.returns-clause-text
returns-clause-text c = search rules

pub returns-clause-read : goal.returns-clause-read
returns-clause-read c =
    subst (λ (text : List ℕ). command_of text ≡ Ok (Cycles c.args.now_ms c.args.start))
    (sym (returns-clause-text c))
    (cycle_read c.args.now_ms c.args.start c.ranges.now_ms.fits c.ranges.start.fits)
