-- `into_box` tests the pointer. If the pointer is not null, the call makes a box from the memory
-- that the holder owned.
use mathlib.Core.List.{[], ◌∷◌}
use mathlib.Core.Path.{◌≡◌, ◌∙◌, refl, sym, ap, subst}
use lib.Dec.{T, lit<}
use mir.Val.{Val, WT, has_ty, vcons, vnil}
use base.Fml.{fsep, ftrue}
use contract.Running.{tables}
use prog.Wp.{WpFn}
use types.ByLocal.{alloc_all, pass_all, free_all, look_at, env, get, get_in, lands_last, sets}
use types.Kit.{‵, raw, ◌⊛◌, some, given, later, at_ret, prop, ◌$◌, ◌∵◌, !, qed, await, drop, fsplit, group, join, keep, learn, pick, regoal, split, suffices, use0, use1, done}
use types.Match.{live}
use types.Part.{agg, sub, whole}
use types.Run.{and_then, bin, blocks, branches, enter, exec, first, fld, lit, no_more, of_opd, returns, returns_within, skips, stop}
use denote.Exit.{yes}
use denote.Param.{layout}
use denote.RattleType.{RattleType}
use denote.RawPtr.{block_ptr, null_ptr, tests_null}
use denote.Signature.{plain, type_at}
use denote.Steps.{nothing}
use denote.Triple.Call.{calls_at_last}
use denote.Triple.Table.{framed}
use denote.Triple.Walked.{says, Stays, stay_dropped, walk_of, ends_at}
use Rattle.std.proofs.alloc.Calls.{Goes-blank}
use Rattle.std.proofs.ResultValues.{and_tt}
use Rattle.std.proofs.option.Made.{Some-of, none_of}
use Rattle.std.proofs.raw_atomic.Walks.{proved}
use Rattle.std.specs.declared.option.Option.TheVariants.{None, Some}
use Rattle.tpmsim_web.proofs.Boxes.Calls.{BoxRow, Linked, Whole, at_whole, whole_asks, whole_gives, whole_met}
use Rattle.tpmsim_web.proofs.Boxes.Held.{HolderRow, by_device, holder_opened}
use Rattle.tpmsim_web.proofs.Boxes.Words.{source_typed, pointer_typed, word, word_told, word_typed}
use Rattle.tpmsim_web.proofs.holder.Holder.into_box.Code as code
use Rattle.tpmsim_web.proofs.holder.Holder.into_box.Statement.{statement}
use Rattle.tpmsim_web.specs.Held.{held_memory}
use Rattle.tpmsim_web.specs.contracts.device.Device as device
use Rattle.tpmsim_web.specs.contracts.holder.Holder.into_box as promise

-- the call consumes the holder
abbrev stays : Stays promise.ended.signature.params promise.ended.kept
stays = (stay_dropped (plain (λ _. HolderRow)) yes, tt)

pub into_box_spec : {M : Type 1} → statement M
into_box_spec 𝓤 𝓛 𝓜 𝓡 wired =
    let clauses = promise.clauses 𝓛 𝓜.mem 𝓡.returns in let 𝓣 = tables 𝓤 𝓛.H 𝓜 𝓡 𝓡.env in
    let linked : Linked 𝓡.env = record {
      allocate = code.calls-tpmsim_web::lent::LentAllocator::allocate 𝓡.env wired;
      deallocate = code.calls-tpmsim_web::lent::LentAllocator::deallocate 𝓡.env wired;
      grow = code.calls-tpmsim_web::lent::LentAllocator::grow 𝓡.env wired;
      shrink = code.calls-tpmsim_web::lent::LentAllocator::shrink 𝓡.env wired;
      drop = code.calls-tpmsim_web::Destruct++none::drop 𝓡.env wired;
    } in
    let met = whole_met 𝓛 𝓜 𝓡 linked (code.calls-std_alloc::boxed::Box::from_raw 𝓡.env wired) in
    proved 𝓛 promise.ended stays clauses 𝓜 𝓡
    (Goes-blank 𝓛 0 (plain (λ _. HolderRow)) yes (λ κs x f. tt), tt) promise.Key.name
    code.function
    (code.unfolded 𝓤 𝓛.H 𝓜 𝓡 wired) (λ κs. ((λ h. word h.at h.alloc ∷ []), tt))
    (λ κs. ((λ h ws is. word_told h.at h.alloc ws is.0), tt)) (λ κs qs bounds a _ are.
    let h = a.0 in let w : Val = word h.at h.alloc in let W =
    walk_of 𝓛 promise.ended stays clauses in let Out : RattleType =
    type_at promise.ended.signature.result κs in
    let y : W.Ghost = ((κs, qs, bounds, a, (w ∷ [], tt)), tt) in
    -- The proof context contains the memory that the holder owned.
    qed 𝓛 ((‵ ftrue ⊛ ‵ (fsep (HolderRow.own_val h (w ∷ [])) ftrue))
    ∷ raw ((clauses κs a).requires tt) ∷ []) ∵ split ! $ drop ! $ fsplit ! $ keep ! (0 ∷ []) $
    use1 𝓛 (‵ (held_memory device.the_row h.alloc h.at h.device)) (holder_opened 𝓛 h (w ∷ [])) $
    by_device ! h.alloc h.at h.device
    (λ none null. regoal !
    (λ at. prop (WpFn 𝓤 𝓛.H 𝓣.C 𝓣.Λ code.function (word at h.alloc ∷ []) (W.post y))) null
    refl $
    enter ! _ _ _ _ _ $ alloc_all ! (λ l. pass_all ! refl (word_typed null_ptr h.alloc, tt) $
    sets ! (of_opd ! (get_in ! (fld ! refl (stop !)) (sub ! 0 refl (whole !))))
    refl (pointer_typed null_ptr) $
    sets ! (of_opd ! (get_in ! (fld ! refl (stop !)) (sub ! 1 refl (whole !))))
    refl (source_typed h.alloc) $
    sets ! (of_opd ! (get ! refl)) refl (pointer_typed null_ptr) $ sets !
    (bin ! (get ! refl) (lit ! tt) tt) refl (tt, tt) $
    first ! $ branches ! (get ! refl)
    (λ _. sets ! (agg ! (and_then ! (lit ! tt) (no_more !)))
    refl (tt, (record { fits = lit< tt }, tt)) $
    returns_within ! (W.post y) refl (look_at ! 0 refl) $ free_all ! refl $
    -- The proof context is empty, because None owns nothing.
    use0 𝓛 (‵ (Out.own_val None (live 0 vnil ∷ []))) (none_of 𝓛 BoxRow) $
    suffices ! _ (ends_at 𝓛 promise.ended stays clauses y (live 0 vnil) None (tt, tt) (tt, tt)) $
    says ! none $
    nothing ! $ nothing ! $ join ! $ nothing ! $ group ! 3 $ done !)
    (λ not_null. absurd not_null)))
    (λ value b o is placed testable. regoal !
    (λ at. prop (WpFn 𝓤 𝓛.H 𝓣.C 𝓣.Λ code.function (word at h.alloc ∷ []) (W.post y))) placed
    refl $
    enter ! _ _ _ _ _ $ alloc_all ! (λ l. pass_all ! refl (word_typed (block_ptr b o) h.alloc, tt) $
    sets ! (of_opd ! (get_in ! (fld ! refl (stop !)) (sub ! 0 refl (whole !)))) refl (tt, tt) $
    sets ! (of_opd ! (get_in ! (fld ! refl (stop !)) (sub ! 1 refl (whole !))))
    refl (source_typed h.alloc) $
    sets ! (of_opd ! (get ! refl)) refl (tt, tt) $ sets !
    (bin ! (get ! refl) (lit ! tt) (tests_null (block_ptr b o) testable)) refl (tt, tt) $
    first ! $ branches ! (get ! refl)
    (λ null. absurd null)
    (λ _. skips ! $ let place =
    env code.Mir.locals l in exec ! 𝓣.C 𝓣.Λ place code.Mir.t-6 (at_ret place (W.post y)) $
    first ! $ blocks ! $
    sets ! (of_opd ! (get ! refl)) refl (source_typed h.alloc) $ sets ! (of_opd ! (get ! refl))
    refl (tt, tt) $ sets ! (of_opd ! (get ! refl)) refl (tt, tt) $
    use1 𝓛
    (raw ((Whole 𝓛 𝓜.mem 𝓡.returns).pre
    (at_whole 𝓛 𝓜.mem 𝓡.returns h.alloc (block_ptr b o) value)))
    (whole_asks 𝓛 𝓜.mem 𝓡.returns h.alloc (block_ptr b o) value) $
    calls_at_last ! (framed 𝓤 𝓛.H 𝓜 𝓣) (Whole 𝓛 𝓜.mem 𝓡.returns) met
    (at_whole 𝓛 𝓜.mem 𝓡.returns h.alloc (block_ptr b o) value)
    (and_then ! (get ! refl) (and_then ! (get ! refl) (no_more !))) (λ u.
    -- The proof context contains the box.
    use1 𝓛
    (later
    (some
    (λ (boxed : BoxRow.Denot). given
    ((boxed.value ≡ value) × (u ≡ word boxed.ptr boxed.alloc))
    (‵ (BoxRow.own_val boxed (u ∷ []))))))
    (whole_gives 𝓛 𝓜.mem 𝓡.returns h.alloc (block_ptr b o) value u) $ await ! tt $ pick !
    (λ boxed. learn ! (λ same.
    let typed : T (has_ty (layout BoxRow) u) × WT u =
    subst (λ (v : Val). T (has_ty (layout BoxRow) v) × WT v) (sym same.1)
    (word_typed boxed.ptr boxed.alloc) in
    let one : Val = live 1 (vcons u vnil) in
    lands_last ! refl typed $ exec ! 𝓣.C 𝓣.Λ place code.Mir.t-7 (at_ret place (W.post y)) $
    sets ! (of_opd ! (get ! refl)) refl typed $
    sets ! (agg ! (and_then ! (lit ! tt) (and_then ! (get ! refl) (no_more !))))
    refl (and_tt _ typed.0, (record { fits = lit< tt }, (typed.1, tt))) $
    returns ! (look_at ! 0 refl) $ free_all ! refl $
    use1 𝓛 (‵ (Out.own_val (Some boxed) (one ∷ []))) (Some-of 𝓛 BoxRow boxed u) $
    suffices ! _ (ends_at 𝓛 promise.ended stays clauses y one (Some boxed) (tt, tt) (tt, tt)) $ says
    ! (is ∙ ap Some (sym same.0)) $
    nothing ! $ nothing ! $ join ! $ nothing ! $ group ! 3 $ done !)))))))
