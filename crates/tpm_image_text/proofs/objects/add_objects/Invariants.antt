use Rattle.std.proofs.Common.{◌≡◌, length}
use Rattle.tpm_bytes.specs.Many.{many_at}
use Rattle.tpm_image_text.specs.Body.{ascend_from, object_in}
use Rattle.tpm_image_text.specs.Fields.{passing}
use Rattle.tpm_image_text.specs.Filling.{AllBelow}
use Rattle.tpm_image_text.proofs.EntriesLaws.{entries_left}
use Rattle.tpm_image_text.proofs.objects.add_objects.Given as goal

-- The objects read so far, followed by the objects still to be read, are the whole list.
abbrev pub invariant-loop : goal.invariant-loop
invariant-loop g l = record {
  joined : entries_left object_in l.count l.counter l.lowest
      (g.P.PersistentObjects.entries l.objects) l.text
      ≡ passing (ascend_from 0) (many_at object_in l.count) l.fn.text;
  below : AllBelow l.lowest (g.P.PersistentObjects.entries l.objects);
  size : length (g.P.PersistentObjects.entries l.objects) ≡ l.counter;
}
