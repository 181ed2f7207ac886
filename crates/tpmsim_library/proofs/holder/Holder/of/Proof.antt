-- `of` moves the owner's pointer into a new holder. The new holder then owns the memory that the
-- owner owned.
use mathlib.Core.List.{[], ◌∷◌}
use mathlib.Core.Path.{refl}
use mir.Val.{Val}
use base.Fml.{fsep, ftrue}
use types.ByLocal.{alloc_all, pass_all, free_all, look_at, get, get_in, sets}
use types.Kit.{‵, raw, ◌⊛◌, ◌$◌, ◌∵◌, !, qed, drop, fjoin, fsplit, group, join, keep, split, suffices, use0, done}
use types.Part.{agg, sub, whole}
use types.Run.{and_then, enter, fld, no_more, of_opd, returns, stop}
use denote.Exit.{yes}
use denote.RattleType.{RattleType}
use denote.Signature.{plain}
use denote.Steps.{nothing}
use denote.Struct.Struct.{Struct}
use denote.Triple.Walked.{says, Stays, stay_dropped, walk_of, ends_at}
use Rattle.std.proofs.alloc.Calls.{Goes-blank}
use Rattle.std.proofs.raw_atomic.Walks.{proved}
use Rattle.tpmsim_library.proofs.Boxes.Held.{OwnerRow}
use Rattle.tpmsim_library.proofs.Boxes.Words.{Fields, fields_made, heap_typed, pointer_typed, word, word_told, word_typed}
use Rattle.tpmsim_library.proofs.holder.Holder.of.Code as code
use Rattle.tpmsim_library.proofs.holder.Holder.of.Statement.{statement}
use Rattle.tpmsim_library.specs.contracts.device.Device as device
use Rattle.tpmsim_library.specs.contracts.holder.Holder as device_holder
use Rattle.tpmsim_library.specs.contracts.holder.Holder.of as promise

abbrev Passed : RattleType
Passed = OwnerRow device.the_row

abbrev Given : RattleType
Given = device_holder.the_row

-- the call consumes the owner
abbrev stays : Stays promise.ended.signature.params promise.ended.kept
stays = (stay_dropped (plain (λ _. Passed)) yes, tt)

pub of_spec : {M : Type 1} → statement M
of_spec 𝓤 𝓛 𝓜 𝓡 wired =
    let clauses = promise.clauses 𝓛 𝓜.mem 𝓡.returns in
    proved 𝓛 promise.ended stays clauses 𝓜 𝓡
    (Goes-blank 𝓛 0 (plain (λ _. Passed)) yes (λ κs x f. tt), tt) promise.Key.name code.function
    (code.unfolded 𝓤 𝓛.H 𝓜 𝓡 wired) (λ κs. ((λ h. word h.at h.alloc ∷ []), tt))
    (λ κs. ((λ h ws is. word_told h.at h.alloc ws is.0), tt)) (λ κs qs bounds a _ are.
    let h = a.0 in let w : Val = word h.at h.alloc in
    let y : (walk_of 𝓛 promise.ended stays clauses).Ghost =
    ((κs, qs, bounds, a, (w ∷ [], tt)), tt) in
    let made : Given.Denot = record { at = h.at; alloc = h.alloc; device = h.value } in
    -- The proof context contains the memory that the owner owned.
    qed 𝓛 ((‵ ftrue ⊛ ‵ (fsep (Passed.own_val h (w ∷ [])) ftrue)) ∷ raw ((clauses κs a).requires tt)
    ∷ []) ∵ split ! $ drop ! $ fsplit ! $ keep ! (0 ∷ []) $
    fsplit ! $ drop ! $
    enter ! _ _ _ _ _ $ alloc_all ! (λ l. pass_all ! refl (word_typed h.at h.alloc, tt) $
    sets ! (of_opd ! (get_in ! (fld ! refl (stop !)) (sub ! 0 refl (whole !))))
    refl (pointer_typed h.at) $
    sets ! (of_opd ! (get_in ! (fld ! refl (stop !)) (sub ! 1 refl (whole !))))
    refl (heap_typed h.alloc) $
    sets ! (of_opd ! (get ! refl)) refl (pointer_typed h.at) $
    sets ! (agg ! (and_then ! (get ! refl) (and_then ! (get ! refl) (no_more !))))
    refl (word_typed h.at h.alloc) $
    returns ! (look_at ! 0 refl) $ free_all ! refl $
    use0 𝓛 (‵ ((Struct Fields).own_val (h.at, (h.alloc, tt)) (w ∷ []))) (fields_made 𝓛 h.at h.alloc)
    $ fjoin ! $
    suffices ! _ (ends_at 𝓛 promise.ended stays clauses y w made (tt, tt) (tt, tt)) $ says ! refl $
    nothing ! $ nothing ! $ join ! $ nothing ! $ group ! 3 $ done !))
