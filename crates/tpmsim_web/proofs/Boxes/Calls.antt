-- The calls that convert between the box of a device and the pointer to it: what each requires,
-- and what it returns.
use mathlib.Core.List.{List, [], ◌∷◌}
use mathlib.Core.Path.{◌≡◌, refl, ap, ◌∙◌}
use mir.Syntax.{Args, Dict, Dicts, a_type, impl, tnil, tcons, dnil, dcons}
use mir.Val.{Val}
use seplogic.Ra.Ura.{Ura}
use base.Fml.{flft, fsep, ftrue}
use base.Fraction.{full_share}
use base.Logic.{SProp, ent, sep, ex, guard, emp, id⊢}
use contract.BorrowLft.{◌⊑◌}
use contract.Monad.{Fun, fact, fact_i}
use prog.Memory.{Memory}
use prog.Routine.{Routine}
use types.Kit.{‵, raw, ◌⊛◌, some, later, ◌$◌, ◌∵◌, !, qed, move, drop, use0, use1, split, join, pick, fjoin, show, check, updating, now, await, done}
use types.Logic.{Logic, sem}
use denote.Laws.{Is, shows}
use denote.Param.{bounded, layout, param}
use denote.RattleType.{RattleType}
use denote.RawPtr.{Ptr, RawPtr, ptr_val, rawptr_Makes}
use denote.Steps.{heard, nothing, only, owned, peeks}
use denote.Struct.Tuple.{Tuple}
use denote.Triple.Spec.{triple_of}
use denote.Triple.Statement.{Contract, Triple}
use prog.Model.{Model}
use prog.Routine.{Env}
use prog.Wired.{Wired}
use contract.Running.{Running, tables}
use Rattle.tpmsim_web.proofs.lent.Lent.TheLaws as lent_laws
use Rattle.std.proofs.boxed.Box.from_raw.Met as from_raw_met
use Rattle.std.proofs.boxed.Box.from_raw.Symbol as from_raw_symbol
use Rattle.std.proofs.boxed.Box.into_raw_with_allocator.Met as into_raw_met
use Rattle.std.proofs.boxed.Box.into_raw_with_allocator.Symbol as into_raw_symbol
use Rattle.tpmsim_web.proofs.lent.LentAllocator.TheImpl.Met as source_met
use Rattle.tpmsim_web.proofs.lent.LentAllocator.allocate.Symbol as allocate
use Rattle.tpmsim_web.proofs.lent.LentAllocator.deallocate.Symbol as deallocate
use Rattle.tpmsim_web.proofs.lent.LentAllocator.grow.Symbol as grow
use Rattle.tpmsim_web.proofs.lent.LentAllocator.shrink.Symbol as shrink
use Rattle.tpmsim_web.proofs.Destruct++none.drop.Symbol as drops
use Rattle.tpmsim_web.specs.contracts.lent.Lent as lent
use Rattle.std.specs.contracts.boxed.Box as box
use Rattle.std.specs.contracts.boxed.Box.from_raw as from_raw
use Rattle.std.specs.contracts.boxed.Box.into_raw_with_allocator as into_raw
use Rattle.tpmsim_web.specs.contracts.lent.LentAllocator.TheImpl.{dict, ghosts}
use Rattle.tpmsim_web.specs.declared.lent.Lent.{Lent}
use Rattle.std.specs.declared.option.Option.TheVariants.{Some}
use Rattle.tpmsim_web.proofs.Boxes.Words.{Source, Content, content_laws, source_laws, source_word, source_made, word, word_told}
use Rattle.tpmsim_web.proofs.device.Device.TheLaws as device_laws
use Rattle.tpmsim_web.specs.Held.{held_memory}
use Rattle.tpmsim_web.specs.contracts.device.Device as device
use Rattle.tpmsim_web.specs.declared.device.Device.{Device}

-- the drop function of a type that has nothing to free
abbrev pub plain_drop : RattleType → Dict
plain_drop R = impl ("tpmsim_web::Destruct++none::drop" ∷ []) (tcons (layout R) tnil) dnil

-- the two type arguments of a call, and the dictionaries of their traits
abbrev types_of : Dicts → Args
types_of = bounded (a_type ∷ a_type ∷ []) (Content, (Source, tt))

-- a box of a device
abbrev pub BoxRow : RattleType
BoxRow = box.the_row device.the_row lent.the_row ghosts

module _ {M : Type 1} {𝓤 : Ura M} (𝓛 : Logic 𝓤) where
  open 𝓛 use {H, A}

  -- the two type arguments of a call outlive the lifetime 'static
  abbrev Alive : SProp 𝓤
  Alive = sep 𝓤 (A.lft [] full_share) (sep 𝓤 (A.lft [] full_share) (emp 𝓤))

  always : ent 𝓤 (emp 𝓤) Alive
  always = qed 𝓛 [] ∵ nothing ! $ use0 𝓛 (‵ (flft [] full_share)) (𝓛.lfts.lft-nil full_share) $ join
      ! $
      use0 𝓛 (‵ (flft [] full_share)) (𝓛.lfts.lft-nil full_share) $ join ! $ done !

  pub content_outlives : ent 𝓤 (emp 𝓤) (fact 𝓤 ([] ⊑ Content.lives))
  content_outlives = fact_i 𝓤 _ (emp 𝓤) (device_laws.the_within [])

  pub source_outlives : ent 𝓤 (emp 𝓤) (fact 𝓤 ([] ⊑ Source.lives))
  source_outlives = fact_i 𝓤 _ (emp 𝓤) (lent_laws.the_within [])

  module _ (at_mem : Memory → SProp 𝓤) (run : Routine → Fun 𝓤) where
    -- the contract of `into_raw`, which converts a box to its pointer and its allocator
    abbrev pub Apart : Contract 𝓤
    Apart =
        triple_of 𝓛 (into_raw.signature Content Source ghosts dict (plain_drop Source)
        (plain_drop Content))
        (into_raw.spec Content Source ghosts dict (plain_drop Source) (plain_drop Content) 𝓛 at_mem
        run)

    -- the contract of `from_raw`, which converts a pointer and an allocator to a box
    abbrev pub Whole : Contract 𝓤
    Whole = triple_of 𝓛 (from_raw.signature Content Source ghosts dict (plain_drop Source))
        (from_raw.spec Content Source ghosts dict (plain_drop Source) 𝓛 at_mem run)

    module _ (boxed : BoxRow.Denot) (words : List Val) where
      abbrev pub at_apart : Apart.Ghost
      at_apart = (
        (([], ([], tt)), (full_share, (full_share, tt)), tt, (boxed, tt), (words, tt)),
        tt,
      )

      pub apart_asks : ent 𝓤 (sem 𝓛 (BoxRow.own_val boxed words)) (Apart.pre at_apart)
      apart_asks = qed 𝓛 (‵ (BoxRow.own_val boxed words) ∷ []) ∵ nothing ! $ move ! (1 ∷ 0 ∷ []) $
          fjoin ! $ use0 𝓛 (raw Alive) always $ join ! $
          nothing ! $ use0 𝓛 (raw (fact 𝓤 ([] ⊑ Source.lives))) source_outlives $ join ! $ use0 𝓛
          (raw (fact 𝓤 ([] ⊑ Content.lives))) content_outlives $ join ! $
          move ! (1 ∷ 0 ∷ []) $ join ! $ done !

      pub apart_gives : (u : Val) → ent 𝓤 (Apart.post at_apart u)
          (H.⇛
          (ex 𝓤
          (λ (at : Ptr). guard 𝓤 (u ≡ word at boxed.alloc)
          (sem 𝓛 (held_memory device.the_row boxed.alloc at (Some boxed.value))))))
      apart_gives u =
          let Pair : RattleType = Tuple (RawPtr ∷ param 1 Source ∷ []) in
          qed 𝓛 (raw (Apart.post at_apart u) ∷ []) ∵ updating ! $
          use1 𝓛
          (later
          (some (λ (pair : Ptr × Lent). (raw Alive ⊛ ‵ (Pair.own_val pair (u ∷ []))) ⊛ some
          (λ (_ : (Unit {0} × (Unit {0} × Unit {0})) × Unit {0}).
          ‵ (fsep (fsep ftrue (fsep ftrue ftrue)) ftrue) ⊛
          (raw (fact 𝓤 (pair.1 ≡ boxed.alloc)) ⊛ ‵
          (held_memory device.the_row boxed.alloc pair.0 (Some boxed.value))))))) (id⊢ 𝓤 _) $
          await ! tt $ pick ! (λ pair. split ! $ split ! $ drop ! $
          peeks ! Pair (Is Pair) (shows 𝓛 Pair) pair (u ∷ [])
          (λ is. drop ! $ pick !
          (λ _. split ! $ drop ! $ split ! $ heard ! (pair.1 ≡ boxed.alloc) (λ same.
          now ! $ show !
          (λ (at : Ptr). guard 𝓤 (u ≡ word at boxed.alloc)
          (sem 𝓛 (held_memory device.the_row boxed.alloc at (Some boxed.value)))) pair.0 $
          check ! (ap only (word_told pair.0 pair.1 (u ∷ []) is) ∙ ap (word pair.0) same) $ done
          !))))

    module _ (alloc : Lent) (at : Ptr) (value : Device) where
      abbrev pub at_whole : Whole.Ghost
      at_whole = (
        (
          ([], ([], tt)),
          (full_share, (full_share, tt)),
          tt,
          (alloc, (at, tt)),
          (source_word alloc ∷ [], (ptr_val at ∷ [], tt)),
        ),
        value,
      )

      pub whole_asks : ent 𝓤 (sem 𝓛 (held_memory device.the_row alloc at (Some value)))
          (Whole.pre at_whole)
      whole_asks = qed 𝓛 (‵ (held_memory device.the_row alloc at (Some value)) ∷ []) ∵
          use0 𝓛 (raw (fact 𝓤 ([] ⊑ Source.lives))) source_outlives $ join ! $ use0 𝓛
          (raw (fact 𝓤 ([] ⊑ Content.lives))) content_outlives $ join ! $
          nothing ! $ owned ! RawPtr (Is RawPtr) (rawptr_Makes 𝓛) at (ptr_val at ∷ []) refl $ fjoin
          ! $
          use0 𝓛 (‵ (Source.own_val alloc (source_word alloc ∷ []))) (source_made 𝓛 alloc) $ fjoin !
          $
          use0 𝓛 (raw Alive) always $ join ! $ join ! $ done !

      pub whole_gives : (u : Val) → ent 𝓤 (Whole.post at_whole u)
          (H.⇛
          (ex 𝓤
          (λ (boxed : BoxRow.Denot). guard 𝓤
          ((boxed.value ≡ value) × (u ≡ word boxed.ptr boxed.alloc))
          (sem 𝓛 (BoxRow.own_val boxed (u ∷ []))))))
      whole_gives u =
          qed 𝓛 (raw (Whole.post at_whole u) ∷ []) ∵ updating ! $
          use1 𝓛
          (later
          (some (λ (boxed : BoxRow.Denot). (raw Alive ⊛ ‵ (BoxRow.own_val boxed (u ∷ []))) ⊛
          some (λ (_ : Unit {0} × (Unit {0} × Unit {0})).
          ‵ (fsep ftrue (fsep ftrue ftrue)) ⊛
          (raw (fact 𝓤 (boxed.value ≡ value)) ⊛ raw (fact 𝓤 (boxed.alloc ≡ alloc)))))))
          (id⊢ 𝓤 _) $
          await ! tt $ pick ! (λ boxed. split ! $ split ! $ drop ! $
          peeks ! BoxRow (Is BoxRow) (shows 𝓛 BoxRow) boxed (u ∷ [])
          (λ is. move ! (1 ∷ []) $ pick !
          (λ _. split ! $ drop ! $ split ! $ heard ! (boxed.value ≡ value) (λ same. drop ! $
          now ! $ show !
          (λ (d : BoxRow.Denot). guard 𝓤 ((d.value ≡ value) × (u ≡ word d.ptr d.alloc))
          (sem 𝓛 (BoxRow.own_val d (u ∷ [])))) boxed $
          check ! (same, ap only (word_told boxed.ptr boxed.alloc (u ∷ []) is.0)) $ done !))))

-- the code that a program must link to make these calls
pub record Linked (γ : Env) : Type 0 where
  pub allocate : Wired γ allocate.code
  pub deallocate : Wired γ deallocate.code
  pub grow : Wired γ grow.code
  pub shrink : Wired γ shrink.code
  pub drop : Wired γ drops.code

module _ {M : Type 1} {𝓤 : Ura M} (𝓛 : Logic 𝓤) (𝓜 : Model 𝓤 𝓛.H) (𝓡 : Running 𝓤 𝓛.H 𝓜)
    (linked : Linked 𝓡.env) where
  -- `into_raw` and `from_raw` satisfy their contracts, with the page's allocator and a device.
  pub apart_met : Wired 𝓡.env into_raw_symbol.code
      → Triple 𝓤
      ((tables 𝓤 𝓛.H 𝓜 𝓡 𝓡.env).C
      (into_raw_symbol.name
      (types_of
      (dcons dict (dcons (plain_drop Source) (dcons (plain_drop Content) dnil))))))
      (Apart 𝓛 𝓜.mem 𝓡.returns)
  apart_met call = into_raw_met.met 𝓤 𝓛 𝓜 𝓡 call Content Source content_laws source_laws ghosts dict
      (plain_drop Source) (plain_drop Content)
      (source_met.passed 𝓡.env linked.allocate linked.deallocate linked.grow linked.shrink M 𝓤 𝓛 𝓜
      𝓡)
      (drops.glues 𝓡.env linked.drop Source source_laws M 𝓤 𝓛 𝓜 𝓡)
      (drops.glues 𝓡.env linked.drop Content content_laws M 𝓤 𝓛 𝓜 𝓡)

  pub whole_met : Wired 𝓡.env from_raw_symbol.code
      → Triple 𝓤
      ((tables 𝓤 𝓛.H 𝓜 𝓡 𝓡.env).C
      (from_raw_symbol.name (types_of (dcons dict (dcons (plain_drop Source) dnil)))))
      (Whole 𝓛 𝓜.mem 𝓡.returns)
  whole_met call = from_raw_met.met 𝓤 𝓛 𝓜 𝓡 call Content Source content_laws source_laws ghosts dict
      (plain_drop Source)
      (source_met.passed 𝓡.env linked.allocate linked.deallocate linked.grow linked.shrink M 𝓤 𝓛 𝓜
      𝓡) (drops.glues 𝓡.env linked.drop Source source_laws M 𝓤 𝓛 𝓜 𝓡)
