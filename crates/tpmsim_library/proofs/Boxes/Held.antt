-- Lemmas that take holders apart and build them. A holder owns the box of its device. A null holder
-- owns nothing.
use mathlib.Core.List.{List, [], ◌∷◌}
use mathlib.Core.Path.{◌≡◌, refl}
use Prim.Native.Nat.{ℕ}
use mir.Raw.{raw as bare}
use mir.Val.{Val}
use seplogic.Ra.Ura.{Ura}
use base.Fml.{Fml}
use base.Fraction.{full_share}
use base.Logic.{SProp, ent, guard, guard_i}
use contract.Monad.{fact_use}
use types.Kit.{Goal, Item, Seq, ‵, given, ◌$◌, ◌∵◌, !, qed, by, keep, drop, fsplit, fjoin, feq_l, learn, use0, use1, done}
use types.Logic.{Logic, sem}
use denote.Param.{layout}
use denote.RattleType.{RattleType}
use denote.RawPtr.{Ptr, InBlock, Testable, block_ptr, null_ptr, lies_in_block}
use denote.Struct.Struct.{Struct}
use Rattle.std.proofs.GlobalToken.{dealloc_token-Testable}
use Rattle.std.specs.declared.alloc.Global.{Global}
use Rattle.std.specs.declared.option.Option.{Option}
use Rattle.std.specs.declared.option.Option.TheVariants.{None, Some}
use Rattle.tpmsim_library.proofs.Boxes.Words.{Fields, fields_made, word}
use Rattle.tpmsim_library.specs.Held.{held_memory}
use Rattle.tpmsim_library.specs.contracts.owner.Owner as owner

abbrev pub OwnerRow : RattleType → RattleType
OwnerRow T = owner.the_row T

-- the memory that a holder owns
abbrev pub owns_at : (T : RattleType) → Global → Ptr → Option T.Denot → Fml
owns_at T alloc at found = held_memory T alloc at found

module _ (T : RattleType) {M : Type 1} {𝓤 : Ura M} (𝓛 : Logic 𝓤) where
  -- A holder owns the same memory as its pointer, because the fields themselves own no memory.
  pub owner_opened : (h : (OwnerRow T).Denot) (words : List Val)
      → ent 𝓤 (sem 𝓛 ((OwnerRow T).own_val h words)) (sem 𝓛 (owns_at T h.alloc h.at h.value))
  owner_opened h words = qed 𝓛 (‵ ((OwnerRow T).own_val h words) ∷ []) ∵ fsplit ! $ drop ! $ done !

  pub owner_made : (h : (OwnerRow T).Denot)
      → ent 𝓤 (sem 𝓛 (owns_at T h.alloc h.at h.value))
      (sem 𝓛 ((OwnerRow T).own_val h (word h.at h.alloc ∷ [])))
  owner_made h = qed 𝓛 (‵ (owns_at T h.alloc h.at h.value) ∷ []) ∵
      use0 𝓛 (‵ ((Struct Fields).own_val (h.at, (h.alloc, tt)) (word h.at h.alloc ∷ [])))
      (fields_made 𝓛 h.at h.alloc) $ fjoin ! $ done !

  module _ (alloc : Global) (at : Ptr) (value : T.Denot) where
    abbrev Boxed : SProp 𝓤
    Boxed = sem 𝓛 (owns_at T alloc at (Some value))

    -- The pointer to a box is never null.
    boxed_in_block : ent 𝓤 Boxed (guard 𝓤 (InBlock at) Boxed)
    boxed_in_block =
        fact_use 𝓤 (InBlock at)
        (qed 𝓛 (‵ (owns_at T alloc at (Some value)) ∷ []) ∵ fsplit ! $ keep ! (0 ∷ []) $
        by ! (lies_in_block 𝓛 T full_share at value)) (guard_i 𝓤 (InBlock at) Boxed)

    -- A pointer that may be freed may be compared with null.
    boxed_testable : ent 𝓤 Boxed (guard 𝓤 (Testable at) Boxed)
    boxed_testable =
        fact_use 𝓤 (Testable at)
        (qed 𝓛 (‵ (owns_at T alloc at (Some value)) ∷ []) ∵ fsplit ! $ drop ! $
        by ! (dealloc_token-Testable 𝓛 alloc (bare (layout T)) at)) (guard_i 𝓤 (Testable at) Boxed)

-- Either the holder is empty, and its pointer is null; or it has a value in a box, and the pointer
-- may be compared with null.
module _ (T : RattleType) {M : Type 1} {𝓤 : Ura M} {𝓛 : Logic 𝓤} {K : Type 0} {Γ : List (Item 𝓤)}
    {G : Goal 𝓤 𝓛.H} where
  pub by_held : K → (alloc : Global) (at : Ptr) (found : Option T.Denot)
      → (found ≡ None → at ≡ null_ptr → Seq K 𝓛 Γ G)
      → ((value : T.Denot) (b o : ℕ) → found ≡ Some value → at ≡ block_ptr b o
      → Testable (block_ptr b o)
      → Seq K 𝓛 (‵ (owns_at T alloc (block_ptr b o) (Some value)) ∷ Γ) G)
      → Seq K 𝓛 (‵ (owns_at T alloc at found) ∷ Γ) G
  by_held t alloc at None nothing one = feq_l t (λ null. nothing refl null)
  by_held t alloc null_ptr (Some value) nothing one =
      use1 𝓛 (given ⊥ (‵ (owns_at T alloc null_ptr (Some value))))
      (boxed_in_block T 𝓛 alloc null_ptr value) $ learn t (λ never. absurd never)
  by_held t alloc (block_ptr b o) (Some value) nothing one =
      use1 𝓛 (given (Testable (block_ptr b o)) (‵ (owns_at T alloc (block_ptr b o) (Some value))))
      (boxed_testable T 𝓛 alloc (block_ptr b o) value) $
      learn t (λ testable. one value b o refl refl testable)
