use Rattle.std.proofs.Common.{ap, sym, ◌∙◌, length, List, map, take_all, get_or, subst}
use Rattle.std.specs.List.{flat_map, AllByRecursion}
use Rattle.tpm_types_command.specs.declared.auth_entry.AuthEntry.{AuthEntry}
use Rattle.tpm_types_command.specs.AuthEntry.{HasSizes, entry_of}
use Rattle.tpm_types_command.proofs.EntriesLemmas.{entries_text-is, length_more, no_entry, sizes_at, sizes_more, small_text, text_in}
use Rattle.tpm_types_command.proofs.command_ref.writing.entries_len.Goals as goal

pub loop-entry-preserved : goal.loop-entry-preserved
loop-entry-preserved c =
    let text = c.in_ok-bytes.ensures in
    record {
      so_far = length_more c.args.entries.now c.loop-entry.entry-index c.loop-entry.bytes
          c.in_ok-bytes.field-0 no_entry c.loop-entry-test.true c.loop-entry.invariant.so_far
          text.1;
      sizes = sizes_more c.args.entries.now c.loop-entry.entry-index no_entry c.loop-entry-test.true
          c.loop-entry.invariant.sizes text.0;
      small = small_text c.loop-entry.bytes c.loop-entry.entry-index c.in_ok-bytes.field-0
          (entry_of (get_or c.args.entries.now c.loop-entry.entry-index no_entry))
          c.loop-entry.invariant.small text.0 text.1;
      few = c.loop-entry.invariant.few;
    }

pub returns-in_err-bytes-clause-value : goal.returns-in_err-bytes-clause-value
returns-in_err-bytes-clause-value c =
    rw c.from_residual.ensures
    (λ all. c.in_err-bytes.ensures
    (sizes_at c.args.entries.now c.loop-entry.entry-index no_entry all c.loop-entry-test.true))

pub returns-clause-value : goal.returns-clause-value
returns-clause-value c =
    let whole = take_all c.loop-entry.entry-index c.args.entries.now c.loop-entry-test.false in (
      subst (λ (l : List AuthEntry). AllByRecursion HasSizes (map entry_of l)) whole
          c.loop-entry.invariant.sizes,
      c.loop-entry.invariant.so_far ∙ ap (λ (l : List AuthEntry). length (flat_map text_in l)) whole
          ∙ ap length (sym (entries_text-is c.args.entries.now)),
    )
