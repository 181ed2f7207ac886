use Rattle.std.proofs.Common.{◌++◌, List, ℕ, refl, sym, ap, ◌∙◌, append-nil, rules, take_all}
use Rattle.std.specs.List.{flat_map}
use Rattle.tpm_types_command.specs.declared.auth_entry.AuthEntry.{AuthEntry}
use Rattle.tpm_bytes.proofs.WrittenTexts.{fits_more, written_more}
use Rattle.tpm_types_command.proofs.EntriesLemmas.{entries_text-is, no_entry, sizes_at, text_in}
use Rattle.tpm_types_command.proofs.command_ref.writing.write_entries.Goals as goal

pub loop-entry-init : goal.loop-entry-init
loop-entry-init g c = record {
  so_far = sym (append-nil c.args.sink.now);
  sizes = c.requires.sizes;
  room = rw (← entries_text-is c.args.entries.now) c.requires.room;
}

pub append_to-requires : goal.append_to-requires
append_to-requires g c =
    let i = c.loop-entry.invariant in (
      search rules,
      (
        sizes_at c.args.entries.now c.loop-entry.entry-index no_entry i.sizes
            c.loop-entry-test.true,
        fits_more text_in c.args.entries.now c.loop-entry.entry-index g.row.N no_entry _
            c.args.sink.now c.loop-entry.sink c.loop-entry-test.true refl i.so_far i.room,
      ),
    )

pub loop-entry-preserved : goal.loop-entry-preserved
loop-entry-preserved g c = record {
  so_far = written_more text_in c.args.entries.now c.loop-entry.entry-index no_entry _
      c.args.sink.now c.loop-entry.sink _ c.loop-entry-test.true refl c.loop-entry.invariant.so_far
      c.append_to.ensures;
  sizes = c.loop-entry.invariant.sizes;
  room = c.loop-entry.invariant.room;
}

pub returns : goal.returns
returns g c = c.loop-entry.invariant.so_far
    ∙ (ap (λ (l : List AuthEntry). c.args.sink.now ++ flat_map text_in l)
    (take_all c.loop-entry.entry-index c.args.entries.now c.loop-entry-test.false)
    ∙ ap (λ (l : List ℕ). c.args.sink.now ++ l) (sym (entries_text-is c.args.entries.now)))
