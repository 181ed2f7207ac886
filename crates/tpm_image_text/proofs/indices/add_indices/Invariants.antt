use Rattle.std.proofs.Common.{◌≡◌, length}
use Rattle.tpm_bytes.specs.Many.{many_at}
use Rattle.tpm_image_text.specs.Body.{ascend_from, index_in}
use Rattle.tpm_image_text.specs.Fields.{passing}
use Rattle.tpm_image_text.specs.Filling.{AllBelow}
use Rattle.tpm_image_text.proofs.EntriesLaws.{entries_left}
use Rattle.tpm_image_text.proofs.indices.add_indices.Given as goal

-- The indices read so far, followed by the indices still to be read, are the whole list.
abbrev pub invariant-loop : goal.invariant-loop
invariant-loop g l = record {
  joined : entries_left index_in l.count l.counter l.lowest (g.N.Indices.contents l.indices).indices
      l.text ≡ passing (ascend_from 0) (many_at index_in l.count) l.fn.text;
  below : AllBelow l.lowest (g.N.Indices.contents l.indices).indices;
  size : length (g.N.Indices.contents l.indices).indices ≡ l.counter;
  count : (g.N.Indices.contents l.indices).max_count
      ≡ (g.N.Indices.contents l.fn.indices).max_count;
}
