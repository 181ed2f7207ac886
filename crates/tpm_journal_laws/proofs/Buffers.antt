-- A journal records a buffer of up to 4,096 bytes whole. The device refuses the recorded part of a
-- longer buffer as it refuses the whole buffer.
use Rattle.std.proofs.Common.{◌≡◌, ℕ, ◌<◌, List, length, take, Err, refl, sym, ap, ◌∙◌, take_all, arith}
use Rattle.std.proofs.lemmas.Bool.{le-ltb, lt-ltb}
use Rattle.std.proofs.lemmas.List.{length-take-le}
use Rattle.tpm_record.specs.Record.{Record}
use Rattle.tpm_record.specs.Tick.{after_tick}
use Rattle.tpm_step.specs.step.General.{general, header_refusal}
use Rattle.tpm_step.specs.step.Step.{acceptance_in, answer_where}
use Rattle.tpm_types_command.specs.Header.{header_at}
use Rattle.tpm_types_command.specs.declared.header.HeaderFault.TheVariants as fault
use Rattle.tpm_journal_text.specs.Entry.{entry_limit}
use Rattle.tpm_journal_laws.specs.Buffers.{IsRecordedWhole, LongerAreRefusedAlike}

pub is_recorded_whole : IsRecordedWhole
is_recorded_whole buffer locality elapsed completes random few =
    take_all 4097 buffer (omega (arith, few))

-- the header of a buffer of more than 4,096 bytes has the fault Length
no_header : (buffer : List ℕ) → 4096 < length buffer → header_at buffer ≡ Err fault.Length
unfolding header_at
no_header buffer long =
    rw (le-ltb (length buffer) 10 (omega (arith, long)), lt-ltb 4096 (length buffer) long) refl

refused_so : (r : Record) (buffer : List ℕ) (locality : ℕ) (random : List ℕ) → 4096 < length buffer
    → acceptance_in r buffer locality random ≡ Err (header_refusal fault.Length)
unfolding acceptance_in general
refused_so r buffer locality random long = rw (no_header buffer long) refl

pub longer_are_refused_alike : LongerAreRefusedAlike
longer_are_refused_alike refused r buffer locality elapsed completes random long =
    let t = after_tick r elapsed in
    let cut : 4096 < length (take entry_limit buffer) =
    omega (arith, length-take-le entry_limit buffer (omega (arith, long))) in
    ap (answer_where refused t random) (refused_so t (take entry_limit buffer) locality random cut
    ∙ sym (refused_so t buffer locality random long))
