use Rattle.std.proofs.Common.{rules, ◌≡◌, ℕ, List, Ok, subst, sym, arith}
use Rattle.tpm_kept_journal.specs.Command.{At, Executes, command_of}
use Rattle.tpm_types_common.specs.Locality.{locality_number}
use Rattle.tpm_kept_device.proofs.Texts.{at_read}
use Rattle.tpm_kept_device.proofs.writing.command_at.Goals as goal

pub returns-clause-text : goal.returns-clause-text
returns-clause-text c = search rules

pub returns-clause-read : goal.returns-clause-read
returns-clause-read c =
    subst (λ (text : List ℕ). command_of text
    ≡ Ok (Executes (At c.args.now_ms) (locality_number c.args.locality) c.args.completes
    c.args.random.now c.args.buffer.now))
    (sym (returns-clause-text c))
    (at_read (locality_number c.args.locality) c.args.completes c.args.random.now c.args.buffer.now
    (c.args.locality.in_range) (omega arith) c.fits-random
    (λ i. omega (arith, c.type_inv.buffer i)) c.args.now_ms c.ranges.now_ms.fits)
