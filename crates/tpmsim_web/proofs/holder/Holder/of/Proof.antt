-- `of` converts a box to a pointer. The new holder then owns the memory that the box owned.
use mathlib.Core.List.{[], ◌∷◌}
use mathlib.Core.Path.{◌≡◌, refl}
use base.Fml.{fsep, ftrue}
use mir.Val.{Val}
use contract.Running.{tables}
use types.ByLocal.{alloc_all, pass_all, free_all, look_at, get, get_in, lands_as, sets}
use types.Kit.{‵, raw, ◌⊛◌, some, given, later, ◌$◌, ◌∵◌, !, qed, await, drop, fsplit, group, join, keep, learn, pick, split, suffices, use1, done}
use types.Part.{agg, sub, whole}
use types.Run.{and_then, enter, fld, no_more, of_opd, returns, stop}
use denote.Exit.{yes}
use denote.RawPtr.{Ptr}
use denote.Signature.{plain}
use denote.Steps.{nothing}
use denote.Triple.Call.{calls_at}
use denote.Triple.Table.{framed}
use denote.Triple.Walked.{says, Stays, stay_dropped, walk_of, ends_at}
use Rattle.std.proofs.alloc.Calls.{Goes-blank}
use Rattle.std.proofs.raw_atomic.Walks.{proved}
use Rattle.std.specs.declared.option.Option.TheVariants.{Some}
use Rattle.tpmsim_web.proofs.Boxes.Calls.{Apart, BoxRow, Linked, apart_asks, apart_gives, apart_met, at_apart}
use Rattle.tpmsim_web.proofs.Boxes.Held.{HolderRow, holder_made}
use Rattle.tpmsim_web.proofs.Boxes.Words.{source_typed, pointer_typed, word, word_told, word_typed}
use Rattle.tpmsim_web.proofs.holder.Holder.of.Code as code
use Rattle.tpmsim_web.proofs.holder.Holder.of.Statement.{statement}
use Rattle.tpmsim_web.specs.Held.{held_memory}
use Rattle.tpmsim_web.specs.contracts.device.Device as device
use Rattle.tpmsim_web.specs.contracts.holder.Holder.of as promise

-- the call consumes the box
abbrev stays : Stays promise.ended.signature.params promise.ended.kept
stays = (stay_dropped (plain (λ _. BoxRow)) yes, tt)

pub of_spec : {M : Type 1} → statement M
of_spec 𝓤 𝓛 𝓜 𝓡 wired =
    let clauses = promise.clauses 𝓛 𝓜.mem 𝓡.returns in
    let linked : Linked 𝓡.env = record {
      allocate = code.calls-tpmsim_web::lent::LentAllocator::allocate 𝓡.env wired;
      deallocate = code.calls-tpmsim_web::lent::LentAllocator::deallocate 𝓡.env wired;
      grow = code.calls-tpmsim_web::lent::LentAllocator::grow 𝓡.env wired;
      shrink = code.calls-tpmsim_web::lent::LentAllocator::shrink 𝓡.env wired;
      drop = code.calls-tpmsim_web::Destruct++none::drop 𝓡.env wired;
    } in
    let met =
    apart_met 𝓛 𝓜 𝓡 linked
    (code.calls-std_alloc::boxed::Box::into_raw_with_allocator 𝓡.env wired) in
    proved 𝓛 promise.ended stays clauses 𝓜 𝓡
    (Goes-blank 𝓛 0 (plain (λ _. BoxRow)) yes (λ κs x f. tt), tt) promise.Key.name code.function
    (code.unfolded 𝓤 𝓛.H 𝓜 𝓡 wired) (λ κs. ((λ b. word b.ptr b.alloc ∷ []), tt))
    (λ κs. ((λ b ws is. word_told b.ptr b.alloc ws is.0), tt)) (λ κs qs bounds a _ are.
    let b = a.0 in let w : Val = word b.ptr b.alloc in
    let y : (walk_of 𝓛 promise.ended stays clauses).Ghost =
    ((κs, qs, bounds, a, (w ∷ [], tt)), tt) in
    -- The proof context contains the box, which the call requires.
    qed 𝓛 ((‵ ftrue ⊛ ‵ (fsep (BoxRow.own_val b (w ∷ [])) ftrue)) ∷ raw ((clauses κs a).requires tt)
    ∷ []) ∵ split ! $ drop ! $ fsplit ! $ keep ! (0 ∷ []) $
    use1 𝓛 (raw ((Apart 𝓛 𝓜.mem 𝓡.returns).pre (at_apart 𝓛 𝓜.mem 𝓡.returns b (w ∷ []))))
    (apart_asks 𝓛 𝓜.mem 𝓡.returns b (w ∷ [])) $
    enter ! _ _ _ _ _ $ alloc_all ! (λ l. pass_all ! refl (word_typed b.ptr b.alloc, tt) $
    sets ! (of_opd ! (get ! refl)) refl (word_typed b.ptr b.alloc) $
    calls_at ! (framed 𝓤 𝓛.H 𝓜 (tables 𝓤 𝓛.H 𝓜 𝓡 𝓡.env)) (Apart 𝓛 𝓜.mem 𝓡.returns) met
    (at_apart 𝓛 𝓜.mem 𝓡.returns b (w ∷ [])) (and_then ! (get ! refl) (no_more !)) (λ u.
    -- The proof context contains the memory that the box owned, which is now at the pointer.
    use1 𝓛
    (later
    (some (λ (at : Ptr). given (u ≡ word at b.alloc)
    (‵ (held_memory device.the_row b.alloc at (Some b.value))))))
    (apart_gives 𝓛 𝓜.mem 𝓡.returns b (w ∷ []) u) $
    await ! tt $ pick ! (λ at. learn ! (λ is.
    lands_as ! is refl (word_typed at b.alloc) $
    sets ! (of_opd ! (get_in ! (fld ! refl (stop !)) (sub ! 0 refl (whole !))))
    refl (pointer_typed at) $
    sets ! (of_opd ! (get_in ! (fld ! refl (stop !)) (sub ! 1 refl (whole !))))
    refl (source_typed b.alloc) $
    sets ! (of_opd ! (get ! refl)) refl (pointer_typed at) $
    sets ! (agg ! (and_then ! (get ! refl) (and_then ! (get ! refl) (no_more !))))
    refl (word_typed at b.alloc) $
    returns ! (look_at ! 0 refl) $ free_all ! refl $
    -- The proof context contains the holder.
    let made : HolderRow.Denot = record { at = at; alloc = b.alloc; device = Some b.value } in
    use1 𝓛 (‵ (HolderRow.own_val made (word at b.alloc ∷ []))) (holder_made 𝓛 made) $
    suffices ! _ (ends_at 𝓛 promise.ended stays clauses y (word at b.alloc) made (tt, tt) (tt, tt))
    $ says ! refl $
    nothing ! $ nothing ! $ join ! $ nothing ! $ group ! 3 $ done !)))))
