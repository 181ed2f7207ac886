-- The calls that convert between a box and the pointer to it: what each requires, and what it
-- returns.
use mathlib.Core.List.{List, [], ◌∷◌}
use mathlib.Core.Path.{◌≡◌, refl, ap, ◌∙◌}
use mir.Syntax.{Args, Dict, Dicts, a_type, impl, tnil, tcons, dnil, dcons}
use mir.Val.{Val}
use seplogic.Ra.Ura.{Ura}
use base.Fml.{Fml, Lft, Share, flft, fsep, ftrue}
use base.Fraction.{full_share}
use base.Logic.{SProp, ent, sep, ex, guard, emp, id⊢}
use contract.BorrowLft.{◌⊑◌}
use contract.Monad.{Fun, fact, fact_i}
use prog.Memory.{Memory}
use prog.Routine.{Routine}
use types.Kit.{‵, raw, ◌⊛◌, some, later, ◌$◌, ◌∵◌, !, qed, move, drop, use0, use1, split, join, pick, fjoin, show, check, updating, now, await, done}
use types.Logic.{Logic, sem}
use denote.Laws.{Is, shows}
use denote.Param.{bounded, layout, param}
use denote.Param.Glue.{Met as Glued}
use denote.Param.Laws.{Laws}
use denote.RattleType.{RattleType}
use denote.RawPtr.{Ptr, RawPtr, ptr_val, rawptr_Makes}
use denote.Steps.{heard, nothing, only, owned, peeks}
use denote.Struct.Tuple.{Tuple}
use denote.Triple.Spec.{triple_of}
use denote.Triple.Statement.{Contract, Triple}
use prog.Model.{Model}
use prog.Routine.{Env}
use prog.Wired.{Wired}
use contract.Running.{Running, tables}
use Rattle.std.proofs.alloc.Global.TheLaws as global_laws
use Rattle.std.proofs.boxed.Box.from_raw.Met as from_raw_met
use Rattle.std.proofs.boxed.Box.from_raw.Symbol as from_raw_symbol
use Rattle.std.proofs.boxed.Box.into_raw_with_allocator.Met as into_raw_met
use Rattle.std.proofs.boxed.Box.into_raw_with_allocator.Symbol as into_raw_symbol
use Rattle.std.proofs.impls.GlobalAllocator.TheImpl.Met as heap_met
use Rattle.std.proofs.impls.GlobalAllocator.allocate.Symbol as allocate
use Rattle.std.proofs.impls.GlobalAllocator.deallocate.Symbol as deallocate
use Rattle.std.proofs.impls.GlobalAllocator.grow.Symbol as grow
use Rattle.std.proofs.impls.GlobalAllocator.shrink.Symbol as shrink
use Rattle.tpmsim_library.proofs.Destruct++none.drop.Symbol as drops
use Rattle.std.specs.contracts.alloc.Global as global
use Rattle.std.specs.contracts.boxed.Box as box
use Rattle.std.specs.contracts.boxed.Box.from_raw as from_raw
use Rattle.std.specs.contracts.boxed.Box.into_raw_with_allocator as into_raw
use Rattle.std.specs.contracts.impls.GlobalAllocator.TheImpl.{dict, ghosts}
use Rattle.std.specs.declared.alloc.Global.{Global}
use Rattle.std.specs.declared.option.Option.TheVariants.{Some}
use Rattle.tpmsim_library.proofs.Boxes.Words.{Heap, heap_laws, heap_word, heap_made, word, word_told}
use Rattle.tpmsim_library.specs.Held.{held_memory}

-- the drop function of a type that has nothing to free
abbrev pub plain_drop : RattleType → Dict
plain_drop R = impl ("tpmsim_library::Destruct++none::drop" ∷ []) (tcons (layout R) tnil) dnil

-- the two type arguments of a call, and the dictionaries of their traits
abbrev types_of : RattleType → Dicts → Args
types_of T = bounded (a_type ∷ a_type ∷ []) (T, (Heap, tt))

-- the box of a value of this type
abbrev pub BoxRow : RattleType → RattleType
BoxRow T = box.the_row (param 0 T) global.the_row ghosts

-- the memory that a pointer to a box owns
abbrev pub boxed_at : (T : RattleType) → Global → Ptr → T.Denot → Fml
boxed_at T alloc at value = held_memory (param 0 T) alloc at (Some value)

pub heap_outlives : {M : Type 1} {𝓤 : Ura M} (𝓛 : Logic 𝓤)
    → ent 𝓤 (emp 𝓤) (fact 𝓤 ([] ⊑ Heap.lives))
heap_outlives {𝓤 = 𝓤} 𝓛 = fact_i 𝓤 _ (emp 𝓤) (global_laws.the_within [])

module _ (T : RattleType) (drop_of : Dict) {M : Type 1} {𝓤 : Ura M} (𝓛 : Logic 𝓤)
    (at_mem : Memory → SProp 𝓤) (run : Routine → Fun 𝓤) where
  open 𝓛 use {H, A}

  -- the contract of `into_raw`, which converts a box to its pointer and its allocator
  abbrev pub Apart : Contract 𝓤
  Apart = triple_of 𝓛 (into_raw.signature T Heap ghosts dict (plain_drop Heap) drop_of)
      (into_raw.spec T Heap ghosts dict (plain_drop Heap) drop_of 𝓛 at_mem run)

  -- the contract of `from_raw`, which converts a pointer and an allocator to a box
  abbrev pub Whole : Contract 𝓤
  Whole = triple_of 𝓛 (from_raw.signature T Heap ghosts dict (plain_drop Heap))
      (from_raw.spec T Heap ghosts dict (plain_drop Heap) 𝓛 at_mem run)

  -- Context: a lifetime that has not ended, and that the value's type outlives.
  module _ (κ : Lft) (q : Share) where
    abbrev Outlives : SProp 𝓤
    Outlives = fact 𝓤 (κ ⊑ T.lives)

    module _ (boxed : (BoxRow T).Denot) (words : List Val) where
      abbrev pub at_apart : Apart.Ghost
      at_apart = (((κ, ([], tt)), (q, (full_share, tt)), tt, (boxed, tt), (words, tt)), tt)

      pub apart_asks : ent 𝓤
          (sep 𝓤 (A.lft κ q) (sep 𝓤 Outlives (sem 𝓛 ((BoxRow T).own_val boxed words))))
          (Apart.pre at_apart)
      apart_asks = qed 𝓛 (‵ (flft κ q) ∷ raw Outlives ∷ ‵ ((BoxRow T).own_val boxed words) ∷ []) ∵
          move ! (2 ∷ []) $ nothing ! $ move ! (1 ∷ 0 ∷ []) $ fjoin ! $
          nothing ! $ use0 𝓛 (‵ (flft [] full_share)) (𝓛.lfts.lft-nil full_share) $ join ! $ move !
          (2 ∷ 0 ∷ []) $ join ! $ join ! $
          nothing ! $ use0 𝓛 (raw (fact 𝓤 ([] ⊑ Heap.lives))) (heap_outlives 𝓛) $ join ! $ move !
          (2 ∷ 0 ∷ []) $ join ! $
          move ! (1 ∷ 0 ∷ []) $ join ! $ done !

      -- the memory that the box owned, which its pointer owns now
      abbrev Apart_at : Val → Ptr → SProp 𝓤
      Apart_at u at = guard 𝓤 (u ≡ word at boxed.alloc)
          (sep 𝓤 (A.lft κ q) (sem 𝓛 (boxed_at T boxed.alloc at boxed.value)))

      pub apart_gives : (u : Val) → ent 𝓤 (Apart.post at_apart u) (H.⇛ (ex 𝓤 (Apart_at u)))
      apart_gives u =
          let Pair : RattleType = Tuple (RawPtr ∷ param 1 Heap ∷ []) in let toks =
          ‵ (flft κ q) ⊛ ‵ (flft [] full_share) ⊛ ‵ ftrue in
          qed 𝓛 (raw (Apart.post at_apart u) ∷ []) ∵ updating ! $
          use1 𝓛
          (later
          (some (λ (pair : Ptr × Global). (toks ⊛ ‵ (Pair.own_val pair (u ∷ []))) ⊛ some
          (λ (_ : (Unit {0} × (Unit {0} × Unit {0})) × Unit {0}).
          ‵ (fsep (fsep ftrue (fsep ftrue ftrue)) ftrue) ⊛
          (raw (fact 𝓤 (pair.1 ≡ boxed.alloc)) ⊛ ‵
          (boxed_at T boxed.alloc pair.0 boxed.value)))))) (id⊢ 𝓤 _) $
          await ! tt $ pick !
          (λ pair. split ! $ split ! $ split ! $ move ! (1 ∷ []) $ drop ! $ move ! (1 ∷ 2 ∷ [])
          $
          peeks ! Pair (Is Pair) (shows 𝓛 Pair) pair (u ∷ [])
          (λ is. drop ! $ pick !
          (λ _. split ! $ drop ! $ split ! $ heard ! (pair.1 ≡ boxed.alloc) (λ same.
          move ! (1 ∷ 0 ∷ []) $ join ! $ now ! $ show ! (Apart_at u) pair.0 $
          check ! (ap only (word_told pair.0 pair.1 (u ∷ []) is) ∙ ap (word pair.0) same) $ done
          !))))

    module _ (alloc : Global) (at : Ptr) (value : T.Denot) where
      abbrev pub at_whole : Whole.Ghost
      at_whole = (
        (
          (κ, ([], tt)),
          (q, (full_share, tt)),
          tt,
          (alloc, (at, tt)),
          (heap_word alloc ∷ [], (ptr_val at ∷ [], tt)),
        ),
        value,
      )

      pub whole_asks : ent 𝓤
          (sep 𝓤 (A.lft κ q) (sep 𝓤 Outlives (sem 𝓛 (boxed_at T alloc at value))))
          (Whole.pre at_whole)
      whole_asks = qed 𝓛 (‵ (flft κ q) ∷ raw Outlives ∷ ‵ (boxed_at T alloc at value) ∷ []) ∵
          move ! (2 ∷ []) $ use0 𝓛 (raw (fact 𝓤 ([] ⊑ Heap.lives))) (heap_outlives 𝓛) $ join ! $
          move ! (2 ∷ 0 ∷ []) $ join ! $
          nothing ! $ owned ! RawPtr (Is RawPtr) (rawptr_Makes 𝓛) at (ptr_val at ∷ []) refl $ fjoin
          ! $
          use0 𝓛 (‵ (Heap.own_val alloc (heap_word alloc ∷ []))) (heap_made 𝓛 alloc) $ fjoin ! $
          nothing ! $ use0 𝓛 (‵ (flft [] full_share)) (𝓛.lfts.lft-nil full_share) $ join ! $ move !
          (3 ∷ 0 ∷ []) $ join ! $ join ! $ join ! $ done !

      -- the resulting box, and its machine word
      abbrev Whole_as : Val → (BoxRow T).Denot → SProp 𝓤
      Whole_as u boxed = guard 𝓤 ((boxed.value ≡ value) × (u ≡ word boxed.ptr boxed.alloc))
          (sep 𝓤 (A.lft κ q) (sem 𝓛 ((BoxRow T).own_val boxed (u ∷ []))))

      pub whole_gives : (u : Val) → ent 𝓤 (Whole.post at_whole u) (H.⇛ (ex 𝓤 (Whole_as u)))
      whole_gives u =
          let toks = ‵ (flft κ q) ⊛ ‵ (flft [] full_share) ⊛ ‵ ftrue in let Row = BoxRow T in
          qed 𝓛 (raw (Whole.post at_whole u) ∷ []) ∵ updating ! $
          use1 𝓛
          (later
          (some (λ (boxed : Row.Denot). (toks ⊛ ‵ (Row.own_val boxed (u ∷ []))) ⊛ some
          (λ (_ : Unit {0} × (Unit {0} × Unit {0})).
          ‵ (fsep ftrue (fsep ftrue ftrue)) ⊛
          (raw (fact 𝓤 (boxed.value ≡ value)) ⊛ raw (fact 𝓤 (boxed.alloc ≡ alloc)))))))
          (id⊢ 𝓤 _) $
          await ! tt $ pick !
          (λ boxed. split ! $ split ! $ split ! $ move ! (1 ∷ []) $ drop ! $ move ! (1 ∷ 2 ∷ [])
          $
          peeks ! Row (Is Row) (shows 𝓛 Row) boxed (u ∷ [])
          (λ is. move ! (1 ∷ []) $ pick !
          (λ _. split ! $ drop ! $ split ! $ heard ! (boxed.value ≡ value) (λ same. drop ! $
          move ! (1 ∷ 0 ∷ []) $ join ! $ now ! $ show ! (Whole_as u) boxed $
          check ! (same, ap only (word_told boxed.ptr boxed.alloc (u ∷ []) is.0)) $ done !))))

-- the code that a program must link to make these calls
pub record Linked (γ : Env) : Type 0 where
  pub allocate : Wired γ allocate.code
  pub deallocate : Wired γ deallocate.code
  pub grow : Wired γ grow.code
  pub shrink : Wired γ shrink.code
  pub drop : Wired γ drops.code

module _ (T : RattleType) (L : Laws T) (drop_of : Dict) {M : Type 1} {𝓤 : Ura M} (𝓛 : Logic 𝓤)
    (𝓜 : Model 𝓤 𝓛.H) (𝓡 : Running 𝓤 𝓛.H 𝓜) (glued : Glued 𝓛 𝓜 𝓡 𝓡.env T drop_of)
    (linked : Linked 𝓡.env) where
  -- `into_raw` and `from_raw` satisfy their contracts, with std's allocator and a value of any
  -- type.
  pub apart_met : Wired 𝓡.env into_raw_symbol.code
      → Triple 𝓤
      ((tables 𝓤 𝓛.H 𝓜 𝓡 𝓡.env).C
      (into_raw_symbol.name
      (types_of T (dcons dict (dcons (plain_drop Heap) (dcons drop_of dnil))))))
      (Apart T drop_of 𝓛 𝓜.mem 𝓡.returns)
  apart_met call = into_raw_met.met 𝓤 𝓛 𝓜 𝓡 call T Heap L heap_laws ghosts dict (plain_drop Heap)
      drop_of
      (heap_met.passed 𝓡.env linked.allocate linked.deallocate linked.grow linked.shrink M 𝓤 𝓛 𝓜 𝓡)
      (drops.glues 𝓡.env linked.drop Heap heap_laws M 𝓤 𝓛 𝓜 𝓡) glued

  pub whole_met : Wired 𝓡.env from_raw_symbol.code
      → Triple 𝓤
      ((tables 𝓤 𝓛.H 𝓜 𝓡 𝓡.env).C
      (from_raw_symbol.name (types_of T (dcons dict (dcons (plain_drop Heap) dnil)))))
      (Whole T drop_of 𝓛 𝓜.mem 𝓡.returns)
  whole_met call = from_raw_met.met 𝓤 𝓛 𝓜 𝓡 call T Heap L heap_laws ghosts dict (plain_drop Heap)
      (heap_met.passed 𝓡.env linked.allocate linked.deallocate linked.grow linked.shrink M 𝓤 𝓛 𝓜 𝓡)
      (drops.glues 𝓡.env linked.drop Heap heap_laws M 𝓤 𝓛 𝓜 𝓡)
