-- The allocator returns an error, because it has no block to allocate.
use mathlib.Core.Bool.{false}
use mathlib.Core.List.{[], ◌∷◌}
use mathlib.Core.Path.{refl}
use mir.Syntax.{w64}
use mir.Val.{vint}
use base.Fml.{flft, ftrue}
use denote.Builtin.{RefOf, usize}
use denote.Exit.{yes}
use denote.Plain.{uint_Tells, uint_vals}
use denote.Ref.{shr_vals}
use denote.RattleType.{owns}
use denote.Signature.{Slot, plain, types_at}
use denote.Steps.{nothing}
use denote.Triple.Walked.{Goes-dropped, Stays, ends_at, stay_dropped, walk_of}
use types.ByLocal.{alloc_all, free_all, get, look_at, pass_all, sets}
use types.Kit.{‵, raw, ◌⊛◌, ◌$◌, ◌∵◌, !, qed, done, fjoin, join, keep, move, split, suffices, use0}
use types.Part.{agg}
use types.Run.{and_then, enter, lit, no_more, returns}
use Rattle.std.proofs.alloc.Calls.{Answer, Answer-err, Answer-typed, answer_val}
use Rattle.std.proofs.raw_atomic.Walks.{proved}
use Rattle.std.specs.declared.result.Result.TheVariants.{Err}
use Rattle.tpmsim_web.proofs.lent.LentAllocator.allocate.Code as code
use Rattle.tpmsim_web.proofs.lent.LentAllocator.allocate.Statement.{statement}
use Rattle.tpmsim_web.specs.contracts.lent.Lent as lent
use Rattle.tpmsim_web.specs.contracts.lent.LentAllocator.allocate as promise

-- the reference to the allocator that is passed to the call
abbrev self : Slot 1
self = RefOf (0 ∷ []) tt (plain (λ _. lent.the_row)) (λ _. tt)

-- the call consumes its arguments
abbrev stays : Stays promise.ended.signature.params promise.ended.kept
stays = (
  stay_dropped self yes,
  (stay_dropped (plain (λ _. usize)) yes, (stay_dropped (plain (λ _. usize)) yes, tt)),
)

pub allocate_spec : {M : Type 1} → statement M
allocate_spec 𝓤 𝓛 𝓜 𝓡 wired =
    let clauses = promise.clauses 𝓛 𝓜.mem 𝓡.returns in
    proved 𝓛 promise.ended stays clauses 𝓜 𝓡 (
      Goes-dropped 𝓛 1 self yes (λ κs x f. refl),
      (
        Goes-dropped 𝓛 1 (plain (λ _. usize)) yes (λ κs x f. refl),
        (Goes-dropped 𝓛 1 (plain (λ _. usize)) yes (λ κs x f. refl), tt),
      ),
    )
    promise.Key.name code.function (code.unfolded 𝓤 𝓛.H 𝓜 𝓡 wired)
    (λ κs. (shr_vals, (uint_vals w64, (uint_vals w64, tt))))
    (λ κs. ((λ r vs s. s.0), (uint_Tells w64, (uint_Tells w64, tt)))) (λ κs qs bounds a τ are.
    let y : (walk_of 𝓛 promise.ended stays clauses).Ghost = (
      (κs, qs, bounds, a, (shr_vals a.0, (vint w64 a.1.0 ∷ [], (vint w64 a.1.1.0 ∷ [], tt)))),
      τ,
    ) in
    qed 𝓛
    (((‵ (flft κs.0 qs.0) ⊛ ‵ ftrue) ⊛ ‵ (owns (types_at promise.signature.params κs) a y.0.4))
    ∷ raw ((clauses κs a).requires τ) ∷ []) ∵ split ! $ keep ! (0 ∷ []) $
    enter ! _ _ _ _ _ $ alloc_all !
    (λ l. pass_all ! refl (
      (tt, tt),
      ((tt, record { fits = are.1.0.1 }), ((tt, record { fits = are.1.1.0.1 }), tt)),
    ) $
    sets ! (agg ! (no_more !)) refl (tt, tt) $
    sets ! (agg ! (and_then ! (lit ! tt) (and_then ! (get ! refl) (no_more !))))
    refl (Answer-typed false 0 0) $
    returns ! (look_at ! 0 refl) $ free_all ! refl $
    suffices ! _ (ends_at 𝓛 promise.ended stays clauses y (answer_val false 0 0) (Err (record {}))
    (tt, (tt, (tt, tt))) (tt, (tt, (tt, tt)))) $
    -- The proof context contains the error.
    nothing ! $ use0 𝓛 (‵ (Answer.own_val (Err (record {})) (answer_val false 0 0 ∷ [])))
    (Answer-err 𝓛) $
    nothing ! $ nothing ! $ fjoin ! $ nothing ! $ fjoin ! $ nothing ! $ fjoin ! $ join ! $ move !
    (2 ∷ []) $ join ! $ done !))
