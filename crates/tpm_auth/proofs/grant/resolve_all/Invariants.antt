use Rattle.std.proofs.Common.{◌≡◌, length, map, take}
use Rattle.tpm_record.specs.Resolved.{entities_at, found_by}
use Rattle.tpm_auth.proofs.grant.resolve_all.Given as goal

-- The entities found so far belong to the first handles.
abbrev pub invariant-loop-handle : goal.invariant-loop-handle
invariant-loop-handle g l = record {
  found : map found_by l.all.items ≡ entities_at (g.K.Keep.record_of l.keep)
      (take l.handle-index l.handles);
  size : length l.all.items ≡ l.handle-index;
}
