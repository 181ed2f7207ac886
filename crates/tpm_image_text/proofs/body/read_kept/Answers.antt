use Rattle.std.proofs.Common.{rules, ◌≡◌, ◌∙◌}
use Rattle.tpm_image_text.specs.NonVolatile.{NonVolatile}
use Rattle.tpm_image_text.proofs.PoweringOn.{kept_read, powered}
use Rattle.tpm_image_text.proofs.body.read_kept.Goals as goal

pub returns : goal.returns
returns g c =
    let state = c.in-Ok-read_state.ensures in
    let persistent = g.K.PersistentMap.PersistentObjects.entries c.read_objects.new.objects in
    let nv = g.K.Nv.Indices.contents c.read_indices.new.indices in
    let kept : NonVolatile =
    record {
      profile = c.in-Ok.profile;
      state = state.0;
      persistent = persistent;
      indices = nv.indices;
    } in
    let r = g.K.Keep.record_of c.args.keep.now in
    let written : g.K.Keep.record_of
    (g.K.Keep.with_nv
    (g.K.Keep.with_persistent
    (g.K.Keep.with_nv (g.K.Keep.with_fixed c.args.keep.now c.read_state.new.fixed)
    c.set_max_count.new.self) c.read_objects.new.objects) c.read_indices.new.indices)
    ≡ record r { fixed = c.read_state.new.fixed; persistent = persistent; nv = nv } =
    search rules in (
      kept,
      kept_read c.args.version _ c.args.text.now _ _ _ _ state.0 persistent nv.indices c.in-Ok.ensures
          state.1 c.in_ok-read_objects.ensures c.in_ok-read_indices.ensures.filled,
      written ∙ powered r _ c.fixed_mut.result.now c.read_state.new.fixed state.0 persistent nv
          c.requires c.fixed_mut.ensures.value state.2 (search rules),
    )
