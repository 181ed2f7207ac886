-- `empty` returns an owner whose pointer is null. This owner owns no memory.
use mathlib.Core.List.{[], ◌∷◌}
use mathlib.Core.Path.{refl}
use mir.MapTy.{inst_fn}
use mir.Syntax.{a_type, dcons, dnil}
use base.Fml.{flft, fsep, ftrue}
use types.ByLocal.{alloc_all, pass_all, free_all, look_at, get, sets}
use types.Kit.{‵, raw, ◌⊛◌, ◌$◌, ◌∵◌, !, qed, group, keep, feq_i, join, move, split, suffices, use1, done}
use types.Part.{agg}
use types.Run.{lit, no_more, and_then, returns, enter}
use denote.Exit.{yes}
use denote.Param.{bounded, param}
use denote.RawPtr.{Ptr, null_ptr}
use denote.Signature.{plain}
use denote.Steps.{nothing}
use denote.Triple.Walked.{says, Stays, stay_dropped, Goes-dropped, walk_of, ends_at}
use Rattle.std.proofs.raw_atomic.Walks.{proved}
use Rattle.std.specs.contracts.alloc.Global as global
use Rattle.std.specs.declared.option.Option.TheVariants.{None}
use Rattle.tpmsim_library.proofs.Boxes.Held.{OwnerRow, owner_made}
use Rattle.tpmsim_library.proofs.Boxes.Words.{heap_told, heap_typed, heap_word, word, word_typed}
use Rattle.tpmsim_library.proofs.owner.Owner.empty.Code as code
use Rattle.tpmsim_library.proofs.owner.Owner.empty.Statement.{statement}
use Rattle.tpmsim_library.specs.contracts.owner.Owner.empty as promise

pub empty_spec : {M : Type 1} → statement M
empty_spec 𝓤 𝓛 𝓜 𝓡 wired T L drop_of glued =
    let clauses = promise.clauses T drop_of 𝓛 𝓜.mem 𝓡.returns in let ended =
    promise.ended T drop_of in
    let types = bounded (a_type ∷ []) (T, tt) (dcons drop_of dnil) in let function =
    inst_fn types code.function in
    -- the call consumes the allocator
    let stays : Stays ended.signature.params ended.kept =
    (stay_dropped (plain (λ _. global.the_row)) yes, tt) in
    proved 𝓛 ended stays clauses 𝓜 𝓡
    (Goes-dropped 𝓛 1 (plain (λ _. global.the_row)) yes (λ κs x w. refl), tt)
    (promise.Key.name types) function (code.unfolded 𝓤 𝓛.H 𝓜 𝓡 wired (T, tt) drop_of)
    (λ κs. ((λ a. heap_word a ∷ []), tt)) (λ κs. (heap_told, tt)) (λ κs qs bounds a _ are.
    let y : (walk_of 𝓛 ended stays clauses).Ghost =
    ((κs, qs, bounds, a, (heap_word a.0 ∷ [], tt)), tt) in
    let made : (OwnerRow (param 0 T)).Denot = record { at = null_ptr; alloc = a.0; value = None } in
    qed 𝓛
    (((‵ (flft κs.0 qs.0) ⊛ ‵ ftrue) ⊛ ‵
    (fsep (global.the_row.own_val a.0 (heap_word a.0 ∷ [])) ftrue))
    ∷ raw ((clauses κs a).requires tt) ∷ []) ∵ split ! $ split ! $ keep ! (0 ∷ []) $
    enter ! _ _ _ _ _ $ alloc_all ! (λ l. pass_all ! refl (heap_typed a.0, tt) $
    sets ! (agg ! (and_then ! (lit ! tt) (and_then ! (get ! refl) (no_more !))))
    refl (word_typed null_ptr a.0) $
    returns ! (look_at ! 0 refl) $ free_all ! refl $
    -- The proof context contains the owner, and the fact that the lifetime has not ended.
    feq_i ! Ptr null_ptr null_ptr refl $ use1 𝓛
    (‵ ((OwnerRow (param 0 T)).own_val made (word null_ptr a.0 ∷ [])))
    (owner_made (param 0 T) 𝓛 made) $
    suffices ! _ (ends_at 𝓛 ended stays clauses y (word null_ptr a.0) made (tt, tt) (tt, tt)) $ says
    ! refl $
    nothing ! $ nothing ! $ join ! $ nothing ! $ move ! (3 ∷ 0 ∷ []) $ join ! $ group ! 3 $ done !))
