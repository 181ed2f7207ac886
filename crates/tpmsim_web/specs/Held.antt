-- The memory that a holder owns, and the memory that a page provides for a device.
use base.Fml.{Fml, feq, flt, fsep}
use Prim.Native.Nat.{◌^◌}
use denote.RattleType.{RattleType}
use denote.RawPtr.{Ptr, count_of, null_ptr, room_at}
use Rattle.std.specs.Box.Ownership.{box_owns}
use Rattle.std.specs.declared.option.Option.{Option}
use Rattle.std.specs.declared.option.Option.TheVariants.{None, Some}
use Rattle.tpmsim_web.specs.contracts.lent.LentAllocator.TheImpl.{ghosts}
use Rattle.tpmsim_web.specs.declared.lent.Lent.{Lent}

-- the memory that a holder owns: the box of its device, at the holder's pointer. An empty holder
-- owns nothing, and its pointer is null
abbrev pub held_memory : (R : RattleType) → Lent → Ptr → Option R.Denot → Fml
held_memory R alloc at None = feq Ptr at null_ptr
held_memory R alloc at (Some device) = box_owns (ghosts.dealloc_token alloc) R at device

-- the uninitialized memory that a page provides for a device; its address may be compared with null
abbrev pub place_held : RattleType → Ptr → Fml
place_held R at = fsep (room_at R at) (flt (count_of at) (2 ^ 63))
