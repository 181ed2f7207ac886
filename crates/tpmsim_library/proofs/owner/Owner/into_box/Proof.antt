-- `into_box` tests the pointer. If the pointer is not null, the call makes a box from the memory
-- that the owner owned.
use mathlib.Core.List.{[], ◌∷◌}
use mathlib.Core.Path.{◌≡◌, ◌∙◌, refl, sym, ap, subst}
use lib.Dec.{T as T-type, lit<}
use mir.MapTy.{inst_fn}
use mir.Syntax.{a_type, dcons, dnil}
use mir.Val.{Val, WT, has_ty, vcons, vnil}
use base.Fml.{flft, fsep, ftrue}
use contract.BorrowLft.{◌⊑◌}
use contract.Monad.{fact}
use contract.Running.{tables}
use prog.Wp.{WpFn}
use types.ByLocal.{alloc_all, pass_all, free_all, look_at, env, get, get_in, lands_last, sets}
use types.Kit.{‵, raw, ◌⊛◌, some, given, later, at_ret, prop, ◌$◌, ◌∵◌, !, qed, group, await, fsplit, join, keep, learn, move, pick, regoal, split, suffices, use0, use1, use3, done}
use types.Match.{live}
use types.Part.{agg, sub, whole}
use types.Run.{and_then, bin, blocks, branches, enter, exec, first, fld, lit, no_more, of_opd, returns, returns_within, skips, stop}
use denote.Exit.{no}
use denote.Param.{bounded, layout, param}
use denote.RattleType.{RattleType}
use denote.RawPtr.{block_ptr, null_ptr, tests_null}
use denote.Signature.{plain, type_at}
use denote.Steps.{nothing}
use denote.Triple.Call.{calls_at_last}
use denote.Triple.Table.{framed}
use denote.Triple.Walked.{says, Stays, stay_dropped, walk_of, ends_at}
use Rattle.std.proofs.alloc.Calls.{Goes-blank}
use Rattle.std.proofs.ResultValues.{and_tt}
use Rattle.std.proofs.alloc.Shapes.{after}
use Rattle.std.proofs.option.Made.{Some-of, none_of}
use Rattle.std.proofs.raw_atomic.Walks.{proved}
use Rattle.std.specs.declared.option.Option.TheVariants.{None, Some}
use Rattle.tpmsim_library.proofs.Boxes.Calls.{BoxRow, Linked, Whole, at_whole, whole_asks, whole_gives, whole_met}
use Rattle.tpmsim_library.proofs.Boxes.Held.{OwnerRow, by_held, owner_opened, owns_at}
use Rattle.tpmsim_library.proofs.Boxes.Words.{heap_typed, pointer_typed, word, word_told, word_typed}
use Rattle.tpmsim_library.proofs.owner.Owner.into_box.Code as code
use Rattle.tpmsim_library.proofs.owner.Owner.into_box.Statement.{statement}
use Rattle.tpmsim_library.specs.contracts.owner.Owner.into_box as promise

pub into_box_spec : {M : Type 1} → statement M
into_box_spec 𝓤 𝓛 𝓜 𝓡 wired T L drop_of glued =
    let clauses = promise.clauses T drop_of 𝓛 𝓜.mem 𝓡.returns in let ended =
    promise.ended T drop_of in let 𝓣 = tables 𝓤 𝓛.H 𝓜 𝓡 𝓡.env in
    let types = bounded (a_type ∷ []) (T, tt) (dcons drop_of dnil) in let function =
    inst_fn types code.function in let Row = OwnerRow (param 0 T) in
    -- the call consumes the owner
    let stays : Stays ended.signature.params ended.kept =
    (stay_dropped (plain (λ _. Row)) no, tt) in
    let linked : Linked 𝓡.env = record {
      allocate = code.calls-std_heap::GlobalAllocator::allocate 𝓡.env wired;
      deallocate = code.calls-std_heap::GlobalAllocator::deallocate 𝓡.env wired;
      grow = code.calls-std_heap::GlobalAllocator::grow 𝓡.env wired;
      shrink = code.calls-std_heap::GlobalAllocator::shrink 𝓡.env wired;
      drop = code.calls-tpmsim_library::Destruct++none::drop 𝓡.env wired;
    } in
    let met = whole_met T L drop_of 𝓛 𝓜 𝓡 glued linked
    (code.calls-std_alloc::boxed::Box::from_raw 𝓡.env wired) in
    proved 𝓛 ended stays clauses 𝓜 𝓡 (Goes-blank 𝓛 1 (plain (λ _. Row)) no (λ κs x f. tt), tt)
    (promise.Key.name types) function
    (code.unfolded 𝓤 𝓛.H 𝓜 𝓡 wired (T, tt) drop_of) (λ κs. ((λ h. word h.at h.alloc ∷ []), tt))
    (λ κs. ((λ h ws is. word_told h.at h.alloc ws is.0), tt)) (λ κs qs bounds a _ are.
    let h = a.0 in let w : Val = word h.at h.alloc in let W =
    walk_of 𝓛 ended stays clauses in let Out : RattleType = type_at ended.signature.result κs in
    let κ = κs.0 in let q = qs.0 in let y : W.Ghost = ((κs, qs, bounds, a, (w ∷ [], tt)), tt) in
    -- The proof context contains the memory that the owner owned, and two facts: the lifetime has
    -- not ended, and the type outlives it.
    qed 𝓛 (((‵ (flft κ q) ⊛ ‵ ftrue) ⊛ ‵ (fsep (Row.own_val h (w ∷ [])) ftrue))
    ∷ (raw (fact 𝓤 (κ ⊑ T.lives)) ⊛ ‵ ftrue) ∷ []) ∵
    split ! $ split ! $ move ! (2 ∷ []) $ fsplit ! $ move ! (4 ∷ []) $ split ! $ keep !
    (2 ∷ 4 ∷ 0 ∷ []) $
    use1 𝓛 (‵ (owns_at (param 0 T) h.alloc h.at h.value)) (owner_opened (param 0 T) 𝓛 h (w ∷ [])) $
    by_held (param 0 T) ! h.alloc h.at h.value
    (λ none null. regoal !
    (λ at. prop (WpFn 𝓤 𝓛.H 𝓣.C 𝓣.Λ function (word at h.alloc ∷ []) (W.post y))) null refl $
    enter ! _ _ _ _ _ $ alloc_all ! (λ l. pass_all ! refl (word_typed null_ptr h.alloc, tt) $
    sets ! (of_opd ! (get_in ! (fld ! refl (stop !)) (sub ! 0 refl (whole !))))
    refl (pointer_typed null_ptr) $
    sets ! (of_opd ! (get_in ! (fld ! refl (stop !)) (sub ! 1 refl (whole !))))
    refl (heap_typed h.alloc) $
    sets ! (of_opd ! (get ! refl)) refl (pointer_typed null_ptr) $ sets !
    (bin ! (get ! refl) (lit ! tt) tt) refl (tt, tt) $
    first ! $ branches ! (get ! refl)
    (λ _. sets ! (agg ! (and_then ! (lit ! tt) (no_more !)))
    refl (tt, (record { fits = lit< tt }, tt)) $
    returns_within ! (W.post y) refl (look_at ! 0 refl) $ free_all ! refl $
    -- The proof context is empty, because None owns nothing.
    use0 𝓛 (‵ (Out.own_val None (live 0 vnil ∷ []))) (none_of 𝓛 (BoxRow T)) $ keep ! (0 ∷ 1 ∷ []) $
    suffices ! _ (ends_at 𝓛 ended stays clauses y (live 0 vnil) None (tt, tt) (tt, tt)) $ says !
    none $
    nothing ! $ nothing ! $ join ! $ nothing ! $ move ! (3 ∷ 0 ∷ []) $ join ! $ group ! 3 $ done !)
    (λ not_null. absurd not_null)))
    (λ value b o is placed testable. regoal !
    (λ at. prop (WpFn 𝓤 𝓛.H 𝓣.C 𝓣.Λ function (word at h.alloc ∷ []) (W.post y))) placed refl $
    let part = Whole T drop_of 𝓛 𝓜.mem 𝓡.returns in let at_part =
    at_whole T drop_of 𝓛 𝓜.mem 𝓡.returns κ q h.alloc (block_ptr b o) value in
    enter ! _ _ _ _ _ $ alloc_all ! (λ l. pass_all ! refl (word_typed (block_ptr b o) h.alloc, tt) $
    sets ! (of_opd ! (get_in ! (fld ! refl (stop !)) (sub ! 0 refl (whole !)))) refl (tt, tt) $
    sets ! (of_opd ! (get_in ! (fld ! refl (stop !)) (sub ! 1 refl (whole !))))
    refl (heap_typed h.alloc) $
    sets ! (of_opd ! (get ! refl)) refl (tt, tt) $ sets !
    (bin ! (get ! refl) (lit ! tt) (tests_null (block_ptr b o) testable)) refl (tt, tt) $
    first ! $ branches ! (get ! refl)
    (λ null. absurd null)
    (λ _. skips ! $ let place =
    env function.locals l in exec ! 𝓣.C 𝓣.Λ place (after 5 function.body)
    (at_ret place (W.post y)) $ first ! $ blocks ! $
    sets ! (of_opd ! (get ! refl)) refl (heap_typed h.alloc) $ sets ! (of_opd ! (get ! refl))
    refl (tt, tt) $
    move ! (1 ∷ 2 ∷ 0 ∷ []) $ use3 𝓛 (raw (part.pre at_part))
    (whole_asks T drop_of 𝓛 𝓜.mem 𝓡.returns κ q h.alloc (block_ptr b o) value) $
    calls_at_last ! (framed 𝓤 𝓛.H 𝓜 𝓣) part met at_part
    (and_then ! (get ! refl) (and_then ! (get ! refl) (no_more !))) (λ u.
    -- The proof context contains the box, and the fact that the lifetime has not ended.
    use1 𝓛
    (later
    (some (λ (boxed : (BoxRow T).Denot). given
    ((boxed.value ≡ value) × (u ≡ word boxed.ptr boxed.alloc))
    (‵ (flft κ q) ⊛ ‵ ((BoxRow T).own_val boxed (u ∷ []))))))
    (whole_gives T drop_of 𝓛 𝓜.mem 𝓡.returns κ q h.alloc (block_ptr b o) value u) $ await ! tt $
    pick ! (λ boxed. learn ! (λ same. split ! $ move ! (1 ∷ 0 ∷ []) $
    let typed : T-type (has_ty (layout (BoxRow T)) u) × WT u =
    subst (λ (v : Val). T-type (has_ty (layout (BoxRow T)) v) × WT v) (sym same.1)
    (word_typed boxed.ptr boxed.alloc) in
    let one : Val = live 1 (vcons u vnil) in
    lands_last ! refl typed $ exec ! 𝓣.C 𝓣.Λ place (after 6 function.body) (at_ret place (W.post y))
    $
    sets ! (of_opd ! (get ! refl)) refl typed $
    sets ! (agg ! (and_then ! (lit ! tt) (and_then ! (get ! refl) (no_more !))))
    refl (and_tt _ typed.0, (record { fits = lit< tt }, (typed.1, tt))) $
    returns ! (look_at ! 0 refl) $ free_all ! refl $
    use1 𝓛 (‵ (Out.own_val (Some boxed) (one ∷ []))) (Some-of 𝓛 (BoxRow T) boxed u) $
    suffices ! _ (ends_at 𝓛 ended stays clauses y one (Some boxed) (tt, tt) (tt, tt)) $ says !
    (is ∙ ap Some (sym same.0)) $
    nothing ! $ nothing ! $ join ! $ nothing ! $ move ! (3 ∷ 0 ∷ []) $ join ! $ group ! 3 $ done
    !)))))))
