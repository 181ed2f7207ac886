-- `of` converts a box to a pointer. The new owner then owns the memory that the box owned.
use mathlib.Core.List.{[], ◌∷◌}
use mathlib.Core.Path.{◌≡◌, refl}
use mir.MapTy.{inst_fn}
use mir.Syntax.{a_type, dcons, dnil}
use mir.Val.{Val}
use base.Fml.{flft, fsep, ftrue}
use contract.Monad.{fact}
use contract.BorrowLft.{◌⊑◌}
use contract.Running.{tables}
use types.ByLocal.{alloc_all, pass_all, free_all, look_at, get, get_in, lands_as, sets}
use types.Kit.{‵, raw, ◌⊛◌, some, given, later, ◌$◌, ◌∵◌, !, qed, group, await, fsplit, join, keep, learn, move, pick, split, suffices, use1, use3, done}
use types.Part.{agg, sub, whole}
use types.Run.{and_then, enter, fld, no_more, of_opd, returns, stop}
use denote.Exit.{no}
use denote.Param.{bounded, param}
use denote.RawPtr.{Ptr}
use denote.Signature.{plain}
use denote.Steps.{nothing}
use denote.Triple.Call.{calls_at}
use denote.Triple.Table.{framed}
use denote.Triple.Walked.{says, Stays, stay_dropped, walk_of, ends_at}
use Rattle.std.proofs.alloc.Calls.{Goes-blank}
use Rattle.std.proofs.raw_atomic.Walks.{proved}
use Rattle.std.specs.declared.option.Option.TheVariants.{Some}
use Rattle.tpmsim_library.proofs.Boxes.Calls.{Apart, BoxRow, Linked, apart_asks, apart_gives, apart_met, at_apart, boxed_at}
use Rattle.tpmsim_library.proofs.Boxes.Held.{OwnerRow, owner_made}
use Rattle.tpmsim_library.proofs.Boxes.Words.{heap_typed, pointer_typed, word, word_told, word_typed}
use Rattle.tpmsim_library.proofs.owner.Owner.of.Code as code
use Rattle.tpmsim_library.proofs.owner.Owner.of.Statement.{statement}
use Rattle.tpmsim_library.specs.contracts.owner.Owner.of as promise

pub of_spec : {M : Type 1} → statement M
of_spec 𝓤 𝓛 𝓜 𝓡 wired T L drop_of glued =
    let clauses = promise.clauses T drop_of 𝓛 𝓜.mem 𝓡.returns in let ended =
    promise.ended T drop_of in
    let types = bounded (a_type ∷ []) (T, tt) (dcons drop_of dnil) in let function =
    inst_fn types code.function in
    -- the call consumes the box
    let stays : Stays ended.signature.params ended.kept =
    (stay_dropped (plain (λ _. BoxRow T)) no, tt) in
    let linked : Linked 𝓡.env = record {
      allocate = code.calls-std_heap::GlobalAllocator::allocate 𝓡.env wired;
      deallocate = code.calls-std_heap::GlobalAllocator::deallocate 𝓡.env wired;
      grow = code.calls-std_heap::GlobalAllocator::grow 𝓡.env wired;
      shrink = code.calls-std_heap::GlobalAllocator::shrink 𝓡.env wired;
      drop = code.calls-tpmsim_library::Destruct++none::drop 𝓡.env wired;
    } in
    let met = apart_met T L drop_of 𝓛 𝓜 𝓡 glued linked
    (code.calls-std_alloc::boxed::Box::into_raw_with_allocator 𝓡.env wired) in
    proved 𝓛 ended stays clauses 𝓜 𝓡 (Goes-blank 𝓛 1 (plain (λ _. BoxRow T)) no (λ κs x f. tt), tt)
    (promise.Key.name types) function
    (code.unfolded 𝓤 𝓛.H 𝓜 𝓡 wired (T, tt) drop_of) (λ κs. ((λ b. word b.ptr b.alloc ∷ []), tt))
    (λ κs. ((λ b ws is. word_told b.ptr b.alloc ws is.0), tt)) (λ κs qs bounds a _ are.
    let b = a.0 in let w : Val = word b.ptr b.alloc in let κ = κs.0 in let q = qs.0 in
    let y : (walk_of 𝓛 ended stays clauses).Ghost = ((κs, qs, bounds, a, (w ∷ [], tt)), tt) in
    let part = Apart T drop_of 𝓛 𝓜.mem 𝓡.returns in let at_part =
    at_apart T drop_of 𝓛 𝓜.mem 𝓡.returns κ q b (w ∷ []) in
    -- The proof context contains the box, which the call requires, and the fact that the lifetime
    -- has not ended.
    qed 𝓛 (((‵ (flft κ q) ⊛ ‵ ftrue) ⊛ ‵ (fsep ((BoxRow T).own_val b (w ∷ [])) ftrue))
    ∷ (raw (fact 𝓤 (κ ⊑ T.lives)) ⊛ ‵ ftrue) ∷ []) ∵
    split ! $ split ! $ move ! (2 ∷ []) $ fsplit ! $ move ! (4 ∷ []) $ split ! $ keep !
    (4 ∷ 0 ∷ 2 ∷ []) $
    use3 𝓛 (raw (part.pre at_part)) (apart_asks T drop_of 𝓛 𝓜.mem 𝓡.returns κ q b (w ∷ [])) $
    enter ! _ _ _ _ _ $ alloc_all ! (λ l. pass_all ! refl (word_typed b.ptr b.alloc, tt) $
    sets ! (of_opd ! (get ! refl)) refl (word_typed b.ptr b.alloc) $
    calls_at ! (framed 𝓤 𝓛.H 𝓜 (tables 𝓤 𝓛.H 𝓜 𝓡 𝓡.env)) part met at_part
    (and_then ! (get ! refl) (no_more !)) (λ u.
    -- The proof context contains the memory that the box owned, which is now at the pointer.
    use1 𝓛
    (later
    (some (λ (at : Ptr). given (u ≡ word at b.alloc)
    (‵ (flft κ q) ⊛ ‵ (boxed_at T b.alloc at b.value)))))
    (apart_gives T drop_of 𝓛 𝓜.mem 𝓡.returns κ q b (w ∷ []) u) $
    await ! tt $ pick ! (λ at. learn ! (λ is. split ! $
    lands_as ! is refl (word_typed at b.alloc) $
    sets ! (of_opd ! (get_in ! (fld ! refl (stop !)) (sub ! 0 refl (whole !))))
    refl (pointer_typed at) $
    sets ! (of_opd ! (get_in ! (fld ! refl (stop !)) (sub ! 1 refl (whole !))))
    refl (heap_typed b.alloc) $
    sets ! (agg ! (and_then ! (get ! refl) (and_then ! (get ! refl) (no_more !))))
    refl (word_typed at b.alloc) $
    returns ! (look_at ! 0 refl) $ free_all ! refl $
    -- The proof context contains the owner, and the fact that the lifetime has not ended.
    let made : (OwnerRow (param 0 T)).Denot =
    record { at = at; alloc = b.alloc; value = Some b.value } in
    move ! (1 ∷ []) $ use1 𝓛 (‵ ((OwnerRow (param 0 T)).own_val made (word at b.alloc ∷ [])))
    (owner_made (param 0 T) 𝓛 made) $
    suffices ! _ (ends_at 𝓛 ended stays clauses y (word at b.alloc) made (tt, tt) (tt, tt)) $ says !
    refl $
    nothing ! $ nothing ! $ join ! $ nothing ! $ move ! (3 ∷ 0 ∷ []) $ join ! $ group ! 3 $ done
    !)))))
