use Rattle.tpm_types_common.specs.Limits.{nv_index_limit, nv_space_limit}
use Rattle.std.proofs.Common.{sym, ap, ◌∙◌, length, arith}
use Rattle.std.specs.Prelude.{◌&&◌, nat_lt, nat_le, ◌+◌}
use Rattle.tpm_nv.proofs.KeptLaws.{room_is}
use Rattle.tpm_nv.proofs.stored_indices.StoredIndices.has_room.Goals as goal

pub is_room-requires-clause-few : goal.is_room-requires-clause-few
is_room-requires-clause-few g c =
    omega (arith, ap length c.as_slice.ensures, c.self.invariant.whole, c.self.invariant.small)

pub returns : goal.returns
returns g c =
    let es = g.H.SortedMap.entries c.self.inside.heads in
    let area = g.R.Area.bytes c.self.inside.area in
    rw (← c.self.view_is) (
    c.is_room.ensures
    ∙ ap (λ n. nat_lt n nv_index_limit
    && nat_le (length c.as_slice.result.now + c.args.size) nv_space_limit) c.len.ensures
    ∙ ap (λ l. nat_lt (length es) nv_index_limit && nat_le (length l + c.args.size) nv_space_limit)
    c.as_slice.ensures
    ∙ sym (room_is es area c.self.inside.max_count c.args.size c.self.invariant)
    )
