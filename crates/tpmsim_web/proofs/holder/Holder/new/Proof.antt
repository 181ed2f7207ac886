-- `new` writes the device to newly allocated memory, and returns a holder with the address of that
-- memory.
use mathlib.Core.List.{List, [], ◌∷◌, ◌++◌}
use mathlib.Core.Path.{◌≡◌, refl, sym, subst}
use Prim.Native.Nat.{◌^◌}
use lib.Dec.{T}
use mir.Val.{Val, WT, has_ty, vcons, vnil, vstruct}
use base.Fml.{flt, fsep, ftrue}
use base.Fraction.{full_share}
use base.Logic.{ent, id⊢, never}
use borrow.Table.OneValue.{part_in}
use contract.Running.{tables}
use prog.Wp.{WpFn}
use types.ByLocal.{alloc_all, env, free_all, get, get_in, look_at, pass_all, sets, through}
use types.Kit.{‵, raw, ◌⊛◌, at_ret, prop, ◌$◌, ◌∵◌, !, qed, done, drop, fjoin, fsplit, group, join, keep, move, regoal, rewrite, split, suffices, use1, use2}
use types.Part.{agg, sub, whole}
use types.Run.{and_then, assigns_last, blocks, enter, exec, first, fld, init, no_more, of_opd, returns, stop}
use denote.Exit.{rest, yes}
use denote.Laws.{Typed}
use denote.Memory.{part_at}
use denote.Param.{layout}
use denote.RattleType.{RattleType}
use denote.RawPtr.{Ptr, RawPtr, block_ptr, count_of, in_a_block, ptr_val, rawptr_Tells, room_at}
use denote.Signature.{plain}
use denote.Steps.{nothing, only}
use denote.Struct.Members.{Lone}
use denote.Struct.Struct.{Shape, Struct-Tells}
use denote.Triple.Walked.{says, Stays, ends_at, stay_dropped, walk_of}
use Rattle.std.proofs.alloc.Calls.{Goes-blank}
use Rattle.std.proofs.raw_atomic.Walks.{proved_at}
use Rattle.std.specs.declared.option.Option.TheVariants.{Some}
use Rattle.tpmsim_web.proofs.Boxes.Held.{HolderRow, holder_made}
use Rattle.tpmsim_web.proofs.Boxes.Words.{content_laws, source_typed, word, word_typed}
use Rattle.tpmsim_web.proofs.holder.Holder.new.Code as code
use Rattle.tpmsim_web.proofs.holder.Holder.new.Statement.{statement}
use Rattle.tpmsim_web.specs.contracts.device.Device as device
use Rattle.tpmsim_web.specs.contracts.holder.Holder.new as promise
use Rattle.tpmsim_web.specs.contracts.holder.Place as place

abbrev DeviceRow : RattleType
DeviceRow = device.the_row

abbrev PlaceRow : RattleType
PlaceRow = place.the_row

-- the call consumes the place and the device
abbrev stays : Stays promise.ended.signature.params promise.ended.kept
stays = (stay_dropped (plain (λ _. PlaceRow)) yes, (stay_dropped (plain (λ _. DeviceRow)) yes, tt))

-- A device is represented by one machine word.
one_word : (words : List Val) → Lone words → words ≡ only words ∷ []
one_word [] lone = absurd lone
one_word (v ∷ []) lone = refl
one_word (v ∷ u ∷ us) lone = absurd lone

-- the only field of a place, as a struct without a name
abbrev Fields : Shape
Fields = record { name = []; args = []; types = []; fields = RawPtr ∷ [] }

-- the machine word of a place
abbrev place_words : Ptr → List Val
place_words at = vstruct (vcons (ptr_val at) vnil) ∷ []

pub new_spec : {M : Type 1} → statement M
new_spec 𝓤 𝓛 𝓜 𝓡 wired =
    let clauses = promise.clauses 𝓛 𝓜.mem 𝓡.returns in let 𝓣 = tables 𝓤 𝓛.H 𝓜 𝓡 𝓡.env in let W =
    walk_of 𝓛 promise.ended stays clauses in
    proved_at 𝓛 promise.ended stays clauses 𝓜 𝓡 (
      Goes-blank 𝓛 0 (plain (λ _. PlaceRow)) yes (λ κs x f. tt),
      (Goes-blank 𝓛 0 (plain (λ _. DeviceRow)) yes (λ κs x f. tt), tt),
    ) promise.Key.name
    code.function
    (code.unfolded 𝓤 𝓛.H 𝓜 𝓡 wired) (λ y are.
    let a = y.0.3 in let at : Ptr = a.0.at in let device = a.1.0 in
    let At : List Val → List Val → W.Ghost =
    λ us vs. ((y.0.0, y.0.1, y.0.2, a, (us, (vs, tt))), y.1) in
    let Goes : List Val → List Val → Type 1 =
    λ us vs. ent 𝓤 (W.pre (At us vs))
    (WpFn 𝓤 𝓛.H 𝓣.C 𝓣.Λ code.function (us ++ (vs ++ [])) (W.post (At us vs))) in
    -- the machine words of the arguments
    let place_is : y.0.4.0 ≡ place_words at =
    Struct-Tells Fields ((λ p. ptr_val p ∷ []), tt) (rawptr_Tells, tt) (at, tt) y.0.4.0
    are.0.0 in
    let w : Val = only y.0.4.1.0 in
    let device_is : y.0.4.1.0 ≡ w ∷ [] =
    one_word y.0.4.1.0 (content_laws.single device y.0.4.1.0 are.1.0) in
    let typed : T (has_ty (layout DeviceRow) w) × WT w =
    (subst (Typed (layout DeviceRow ∷ [])) device_is
    ((content_laws.lawful 𝓛).typed device y.0.4.1.0 are.1.0)).0 in
    subst (λ (us : List Val). Goes us y.0.4.1.0) (sym place_is)
    (subst (Goes (place_words at)) (sym device_is) (
    qed 𝓛
    ((‵ ftrue ⊛ ‵
    (fsep (PlaceRow.own_val a.0 (place_words at))
    (fsep (DeviceRow.own_val device (w ∷ [])) ftrue)))
    ∷ raw ((clauses y.0.0 a).requires y.1) ∷ []) ∵
    -- The proof context contains the memory of the place, whose address may be compared with null,
    -- and what the device owns.
    split ! $ drop ! $ fsplit ! $ fsplit ! $ drop ! $ fsplit ! $ move ! (2 ∷ []) $ fsplit ! $ keep !
    (2 ∷ 0 ∷ 3 ∷ []) $
    in_a_block ! at (λ s. room_at DeviceRow s) (id⊢ 𝓤 (never 𝓤)) (λ b o lies.
    regoal !
    (λ p. prop (WpFn 𝓤 𝓛.H 𝓣.C 𝓣.Λ code.function (place_words p ++ (w ∷ []))
    (W.post (At (place_words at) (w ∷ []))))) lies refl $
    enter ! _ _ _ _ _ $ alloc_all ! (λ l. pass_all ! refl ((tt, (tt, tt)), (typed, tt)) $
    sets ! (of_opd ! (get_in ! (fld ! refl (stop !)) (sub ! 0 refl (whole !)))) refl (tt, tt) $
    first ! $ blocks ! $ let locals = env code.Mir.locals l in
    assigns_last ! (of_opd ! (get ! refl)) (through ! refl (stop !)) (init ! 0 refl typed) $
    exec ! 𝓣.C 𝓣.Λ locals code.Mir.t-3 (at_ret locals (W.post (At (place_words at) (w ∷ [])))) $
    sets ! (agg ! (no_more !)) refl (source_typed (record {})) $
    sets !
    (agg ! (and_then ! (get_in ! (fld ! refl (stop !)) (sub ! 0 refl (whole !)))
    (and_then ! (get ! refl) (no_more !)))) refl (word_typed (block_ptr b o) (record {})) $
    returns ! (look_at ! 0 refl) $ free_all ! refl $
    -- The proof context contains the holder.
    use2 𝓛 (‵ (part_at DeviceRow full_share device b o))
    (part_in 𝓛 DeviceRow refl full_share device b o w) $
    rewrite ! 1 (λ (s : Ptr). ‵ (flt (count_of s) (2 ^ 63))) lies refl $ fjoin ! $
    let made : HolderRow.Denot =
    record { at = block_ptr b o; alloc = record {}; device = Some device } in
    use1 𝓛 (‵ (HolderRow.own_val made (word (block_ptr b o) (record {}) ∷ []))) (holder_made 𝓛 made)
    $
    suffices ! _ (ends_at 𝓛 promise.ended stays clauses (At (place_words at) (w ∷ []))
    (word (block_ptr b o) (record {})) made (tt, (rest (DeviceRow.exit yes) device, tt))
    (tt, (tt, tt))) $ says ! refl $
    nothing ! $ nothing ! $ join ! $ nothing ! $ join ! $ nothing ! $ group ! 3 $ done !)))))
