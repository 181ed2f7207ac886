-- `empty` returns a holder whose pointer is null. This holder owns no memory.
use mathlib.Core.List.{[], ◌∷◌}
use mathlib.Core.Path.{refl}
use types.ByLocal.{alloc_all, pass_all, free_all, look_at, get, sets}
use types.Kit.{‵, raw, ◌$◌, ◌∵◌, !, qed, keep, group, feq_i, join, suffices, use1, done}
use types.Part.{agg}
use types.Run.{lit, no_more, and_then, returns, enter}
use denote.Exit.{yes}
use denote.RawPtr.{Ptr, null_ptr}
use denote.Signature.{plain}
use denote.Steps.{nothing}
use denote.Triple.Entry.{on_entry}
use denote.Triple.Walked.{says, Stays, stay_dropped, Goes-dropped, walk_of, ends_at}
use Rattle.std.proofs.raw_atomic.Walks.{proved}
use Rattle.tpmsim_web.specs.contracts.lent.Lent as lent
use Rattle.std.specs.declared.option.Option.TheVariants.{None}
use Rattle.tpmsim_web.proofs.Boxes.Held.{HolderRow, holder_made}
use Rattle.tpmsim_web.proofs.Boxes.Words.{source_told, source_typed, source_word, word, word_typed}
use Rattle.tpmsim_web.proofs.holder.Holder.empty.Code as code
use Rattle.tpmsim_web.proofs.holder.Holder.empty.Statement.{statement}
use Rattle.tpmsim_web.specs.contracts.holder.Holder.empty as promise

-- the call consumes the allocator
abbrev stays : Stays promise.ended.signature.params promise.ended.kept
stays = (stay_dropped (plain (λ _. lent.the_row)) yes, tt)

pub empty_spec : {M : Type 1} → statement M
empty_spec 𝓤 𝓛 𝓜 𝓡 wired =
    let clauses = promise.clauses 𝓛 𝓜.mem 𝓡.returns in
    proved 𝓛 promise.ended stays clauses 𝓜 𝓡
    (Goes-dropped 𝓛 0 (plain (λ _. lent.the_row)) yes (λ κs x w. refl), tt)
    promise.Key.name code.function (code.unfolded 𝓤 𝓛.H 𝓜 𝓡 wired)
    (λ κs. ((λ a. source_word a ∷ []), tt)) (λ κs. (source_told, tt)) (λ κs qs bounds a _ are.
    let y : (walk_of 𝓛 promise.ended stays clauses).Ghost =
    ((κs, qs, bounds, a, (source_word a.0 ∷ [], tt)), tt) in
    let made : HolderRow.Denot = record { at = null_ptr; alloc = a.0; device = None } in
    qed 𝓛 (raw (on_entry 𝓛 promise.signature κs qs a y.0.4) ∷ raw ((clauses κs a).requires tt) ∷ [])
    ∵ keep ! [] $
    enter ! _ _ _ _ _ $ alloc_all ! (λ l. pass_all ! refl (source_typed a.0, tt) $
    sets ! (agg ! (and_then ! (lit ! tt) (and_then ! (get ! refl) (no_more !))))
    refl (word_typed null_ptr a.0) $
    returns ! (look_at ! 0 refl) $ free_all ! refl $
    -- The proof context contains the holder.
    feq_i ! Ptr null_ptr null_ptr refl $ use1 𝓛
    (‵ (HolderRow.own_val made (word null_ptr a.0 ∷ []))) (holder_made 𝓛 made) $
    suffices ! _ (ends_at 𝓛 promise.ended stays clauses y (word null_ptr a.0) made (tt, tt)
    (tt, tt)) $ says ! refl $
    nothing ! $ nothing ! $ join ! $ nothing ! $ group ! 3 $ done !))
