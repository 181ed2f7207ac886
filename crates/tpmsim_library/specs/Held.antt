-- The memory that a holder owns.
use base.Fml.{Fml, feq}
use denote.RattleType.{RattleType}
use denote.RawPtr.{Ptr, null_ptr}
use Rattle.std.specs.Box.Ownership.{box_owns}
use Rattle.std.specs.contracts.impls.GlobalAllocator.TheImpl.{ghosts}
use Rattle.std.specs.declared.alloc.Global.{Global}
use Rattle.std.specs.declared.option.Option.{Option}
use Rattle.std.specs.declared.option.Option.TheVariants.{None, Some}

-- the memory that a holder owns: the box at the holder's pointer, with the right to free it. If the
-- holder is empty, its pointer is null, and it owns nothing
abbrev pub held_memory : (R : RattleType) → Global → Ptr → Option R.Denot → Fml
held_memory R alloc at None = feq Ptr at null_ptr
held_memory R alloc at (Some device) = box_owns (ghosts.dealloc_token alloc) R at device
