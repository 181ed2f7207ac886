-- Lemmas that take holders apart and build them. A holder owns the box of its device. A null holder
-- owns nothing.
use mathlib.Core.List.{List, [], ◌∷◌}
use mathlib.Core.Path.{◌≡◌, refl}
use Prim.Native.Nat.{ℕ}
use mir.Raw.{raw as bare}
use mir.Val.{Val}
use seplogic.Ra.Ura.{Ura}
use base.Fraction.{full_share}
use base.Logic.{SProp, ent, guard, guard_i}
use contract.Monad.{fact_use}
use types.Kit.{Goal, Item, Seq, ‵, given, ◌$◌, ◌∵◌, !, qed, by, keep, drop, fsplit, fjoin, feq_l, learn, use0, use1, done}
use types.Logic.{Logic, sem}
use denote.Param.{layout}
use denote.RattleType.{RattleType}
use denote.RawPtr.{Ptr, InBlock, Testable, block_ptr, null_ptr, lies_in_block}
use denote.Struct.Struct.{Struct}
use Rattle.tpmsim_web.proofs.Comparing.{token_compares}
use Rattle.tpmsim_web.specs.declared.lent.Lent.{Lent}
use Rattle.std.specs.declared.option.Option.{Option}
use Rattle.std.specs.declared.option.Option.TheVariants.{None, Some}
use Rattle.tpmsim_web.proofs.Boxes.Words.{Fields, fields_made, word}
use Rattle.tpmsim_web.specs.Held.{held_memory}
use Rattle.tpmsim_web.specs.contracts.device.Device as device
use Rattle.tpmsim_web.specs.contracts.holder.Holder as holder
use Rattle.tpmsim_web.specs.declared.device.Device.{Device}
use Rattle.tpmsim_web.specs.declared.holder.Holder.{Holder}

abbrev pub HolderRow : RattleType
HolderRow = holder.the_row

module _ {M : Type 1} {𝓤 : Ura M} (𝓛 : Logic 𝓤) where
  -- A holder owns the same memory as its pointer, because the fields themselves own no memory.
  pub holder_opened : (h : Holder) (words : List Val)
      → ent 𝓤 (sem 𝓛 (HolderRow.own_val h words))
      (sem 𝓛 (held_memory device.the_row h.alloc h.at h.device))
  holder_opened h words = qed 𝓛 (‵ (HolderRow.own_val h words) ∷ []) ∵ fsplit ! $ drop ! $ done !

  pub holder_made : (h : Holder) → ent 𝓤 (sem 𝓛 (held_memory device.the_row h.alloc h.at h.device))
      (sem 𝓛 (HolderRow.own_val h (word h.at h.alloc ∷ [])))
  holder_made h = qed 𝓛 (‵ (held_memory device.the_row h.alloc h.at h.device) ∷ []) ∵
      use0 𝓛 (‵ ((Struct Fields).own_val (h.at, (h.alloc, tt)) (word h.at h.alloc ∷ [])))
      (fields_made 𝓛 h.at h.alloc) $ fjoin ! $ done !

  module _ (alloc : Lent) (at : Ptr) (value : Device) where
    abbrev Boxed : SProp 𝓤
    Boxed = sem 𝓛 (held_memory device.the_row alloc at (Some value))

    -- The pointer to a box is never null.
    boxed_in_block : ent 𝓤 Boxed (guard 𝓤 (InBlock at) Boxed)
    boxed_in_block =
        fact_use 𝓤 (InBlock at)
        (qed 𝓛 (‵ (held_memory device.the_row alloc at (Some value)) ∷ []) ∵ fsplit ! $ keep !
        (0 ∷ []) $
        by ! (lies_in_block 𝓛 device.the_row full_share at value)) (guard_i 𝓤 (InBlock at) Boxed)

    -- A pointer that may be freed may be compared with null.
    boxed_testable : ent 𝓤 Boxed (guard 𝓤 (Testable at) Boxed)
    boxed_testable =
        fact_use 𝓤 (Testable at)
        (qed 𝓛 (‵ (held_memory device.the_row alloc at (Some value)) ∷ []) ∵ fsplit ! $ drop ! $
        by ! (token_compares 𝓛 alloc (bare (layout device.the_row)) at))
        (guard_i 𝓤 (Testable at) Boxed)

-- Either there is no device, and the pointer is null; or there is a device in a box, and the
-- pointer may be compared with null.
module _ {M : Type 1} {𝓤 : Ura M} {𝓛 : Logic 𝓤} {K : Type 0} {Γ : List (Item 𝓤)}
    {G : Goal 𝓤 𝓛.H} where
  pub by_device : K → (alloc : Lent) (at : Ptr) (held_device : Option Device)
      → (held_device ≡ None → at ≡ null_ptr → Seq K 𝓛 Γ G)
      → ((value : Device) (b o : ℕ) → held_device ≡ Some value → at ≡ block_ptr b o
      → Testable (block_ptr b o)
      → Seq K 𝓛 (‵ (held_memory device.the_row alloc (block_ptr b o) (Some value)) ∷ Γ) G)
      → Seq K 𝓛 (‵ (held_memory device.the_row alloc at held_device) ∷ Γ) G
  by_device t alloc at None no_device one = feq_l t (λ null. no_device refl null)
  by_device t alloc null_ptr (Some value) no_device one =
      use1 𝓛 (given ⊥ (‵ (held_memory device.the_row alloc null_ptr (Some value))))
      (boxed_in_block 𝓛 alloc null_ptr value) $ learn t (λ never. absurd never)
  by_device t alloc (block_ptr b o) (Some value) no_device one =
      use1 𝓛 (given (Testable (block_ptr b o))
      (‵ (held_memory device.the_row alloc (block_ptr b o) (Some value))))
      (boxed_testable 𝓛 alloc (block_ptr b o) value) $
      learn t (λ testable. one value b o refl refl testable)
