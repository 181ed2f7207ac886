-- A holder may be moved to another thread, because the box of its keeper may be moved.
use mir.Raw.{raw}
use base.Shift.{Keyless}
use base.Fraction.{full_share}
use denote.Exit.{Exit, unchanged, leaves, hidden, under}
use denote.RattleType.{RattleType}
use denote.Memory.{lone}
use denote.RawPtr.{Ptr, block_ptr, null_ptr, lies_at}
use denote.Struct.Struct.{exits_of}
use denote.Struct.Owning.{shape, fields, to}
use denote.Param.Send.{IsSend, AllSend, Quiet, owning_send, part_keyless, struct_send, sendable}
use Rattle.std.proofs.Crossing as heap
use Rattle.std.proofs.alloc.Global.TheSendSync as global
use Rattle.std.specs.declared.alloc.Global.{Global}
use Rattle.std.specs.declared.option.Option.{Option}
use Rattle.std.specs.declared.option.Option.TheVariants.{None, Some}
use Rattle.tpmsim_library.specs.Held.{held_memory}
use Rattle.tpmsim_library.specs.contracts.keeper.DeviceKeeper as keeper
use Rattle.tpmsim_library.proofs.keeper.DeviceKeeper.TheSendSync.{the_send as keeper_sends}
use Rattle.tpmsim_library.specs.contracts.keeper_holder.KeeperHolder.{the_row, the_type}

-- after a holder is moved to another thread, no part of the holder remains in the first thread
quiet : {D X : Type 0} (to : D → X) (e : Exit X) → Quiet e → Quiet (hidden (under to e))
quiet to unchanged q = λ x w. tt
quiet to (leaves L l S s r₀) q = λ d. q (to d)

lies : (R : RattleType) → IsSend R → (p : Ptr) (x : R.Denot) → Keyless (lies_at R full_share p x)
lies R s (block_ptr b o) x = part_keyless R s full_share x b o
lies R s null_ptr x = tt

owned : (alloc : Global) (at : Ptr) (found : Option keeper.the_row.Denot)
    → Keyless (held_memory keeper.the_row alloc at found)
owned alloc at None = tt
owned alloc at (Some x) = (
  lies keeper.the_row keeper_sends at x,
  heap.frees.frees alloc (raw (lone keeper.the_row.mir)) at,
)

pub send : IsSend the_row
send =
    let all : AllSend (fields the_type) = (search sendable, (global.the_field_send, tt)) in
    owning_send the_type all (λ h. owned h.alloc h.at h.keeper)
    (λ k. quiet (to the_type) (exits_of k (fields the_type))
    ((struct_send (shape the_type) all).leaving k))
