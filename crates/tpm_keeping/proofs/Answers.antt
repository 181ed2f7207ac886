-- A completed call sends its response and promises what its holder's `force` setting requires.
use Rattle.std.proofs.Common.{◌≡◌, ◌⊎◌, ℕ, ◌<◌, ◌≤◌, Bool, true, false, cond, List, [], ◌∷◌, ◌++◌, length, refl, sym, ap, ◌∙◌, subst, arith, inl, inr, length-append}
use Rattle.std.specs.List.{AllByRecursion}
use Rattle.std.proofs.lemmas.List.{append-nil}
use Rattle.tpm_keeping.specs.Journal.{Journal}
use Rattle.tpm_keeping.specs.Holder.{Holder, is_always, is_never}
use Rattle.tpm_keeping.specs.World.{Answer, Content, File, Shared, folder_after_leaving, promise, with_answer}
use Rattle.tpm_keeping.specs.Kept.{Ascend}
use Rattle.tpm_keeping.proofs.Invariant.{Each, In, IsContent, IsDone, IsFile, IsForced, LastIf, Safe, Still, promises, sight}
use Rattle.tpm_keeping.proofs.Folder.{Moves, promised_within, same_grows}
use Rattle.tpm_keeping.specs.declared.holder.Force.{Force}
use Rattle.tpm_keeping.specs.declared.holder.Force.TheVariants.{Never, Power, Always}
use Rattle.tpm_keeping.specs.declared.holder.Job.{Job}
use Rattle.tpm_keeping.specs.declared.holder.Job.TheVariants.{Execute, Renew, Show, Begin, Cut}
use Rattle.tpm_keeping.specs.declared.holder.End.{End}
use Rattle.tpm_keeping.specs.declared.holder.End.TheVariants as ending
use Rattle.tpm_keeping.specs.declared.holder.Phase.TheVariants.{Leaving}

-- After a call, either the whole history is promised, so that no crash removes it, or the number of
-- promised commands has not changed.
promise_is : (j : Journal) (force : Force) (job : Job) (c : List ℕ) (s : Shared)
    → ((promises j force job c ≡ true) × (promise j force job c s ≡ length s.history))
    ⊎ (promise j force job c s ≡ s.promised)
promise_is j Always job c s = inl (refl, refl)
promise_is j Power Execute c s = by (j.is_entered c)
  where
    by : (b : Bool)
        → ((cond b false true ≡ true) × (cond b s.promised (length s.history) ≡ length s.history))
        ⊎ (cond b s.promised (length s.history) ≡ s.promised)
    by true = inr refl
    by false = inl (refl, refl)
promise_is j Power Renew c s = inl (refl, refl)
promise_is j Power Show c s = inr refl
promise_is j Power Begin c s = inr refl
promise_is j Power Cut c s = inr refl
promise_is j Never job c s = inr refl

pub promise_bounds : (j : Journal) (force : Force) (job : Job) (c : List ℕ) (s : Shared)
    → s.promised ≤ length s.history
    → (s.promised ≤ promise j force job c s) × (promise j force job c s ≤ length s.history)
promise_bounds j force job c s le =
    let P : ℕ → Type 0 = λ n. (s.promised ≤ n) × (n ≤ length s.history) in
    elim (promise_is j force job c s) [
      | inl h ↦ subst P (sym h.1) (omega (arith, le), omega arith)
      | inr h ↦ subst P (sym h) (omega arith, omega (arith, le))
    ]

word_is : (force : Force) → (force ≡ Never) ⊎ (is_never force ≡ false)
word_is Never = inl refl
word_is Power = inr refl
word_is Always = inr refl

-- if a file is synced, the whole history can be promised, since no crash removes it
all_promised : (j : Journal) (s : Shared) (lasting : Bool) → Still j s → IsForced j s.file
    → 0 < s.file.number
    → IsFile j s.origin s.history (length s.history) lasting s.next s.file
all_promised j s lasting still forced named =
    let h = still.file in
    let f = s.file in
    let cs = f.now.commands in
    let P : List Content → Type 0 =
    AllByRecursion (IsContent j f.head f.start f.number s.history f.before cs) in
    record {
      surely = cs;
      enough = λ _. forced.all;
      kept = omega (arith, ap length still.told, length-append f.before cs);
      lasts = λ _. named;
      below = h.below;
      unnamed = h.unnamed;
      headed = h.headed;
      now = record {
        rest = [];
        has = sym (append-nil cs);
        more = [];
        of = still.told ∙ ap (λ (x : List (List ℕ)). f.before ++ x) (sym (append-nil cs));
        entered = h.now.entered;
        text = h.now.text;
        empty = h.now.empty;
      };
      past = subst P (sym forced.past) tt;
    }

same_promised : (j : Journal) (s : Shared) (lasting : Bool) → Still j s → 0 < s.file.number
    → IsFile j s.origin s.history s.promised lasting s.next s.file
same_promised j s lasting still named =
    let h = still.file in
    record {
      surely = h.surely;
      enough = h.enough;
      kept = h.kept;
      lasts = λ _. named;
      below =
          h.below;
      unnamed = h.unnamed;
      headed = h.headed;
      now = h.now;
      past = h.past;
    }

left_file : (j : Journal) (s : Shared) (force : Force) (job : Job) (c : List ℕ) (lasting : Bool)
    → Still j s → 0 < s.file.number
    → (promises j force job c ≡ true → IsForced j s.file)
    → IsFile j s.origin s.history (promise j force job c s) lasting s.next s.file
left_file j s force job c lasting still named forced =
    let P : ℕ → Type 0 = λ n. IsFile j s.origin s.history n lasting s.next s.file in
    elim (promise_is j force job c s) [
      | inl h ↦ subst P (sym h.1) (all_promised j s lasting still (forced h.0) named)
      | inr h ↦ subst P (sym h) (same_promised j s lasting still named)
    ]

left_older : (j : Journal) (s : Shared) (force : Force) (job : Job) (c : List ℕ) → Still j s
    → (is_never force ≡ false → s.older ≡ [])
    → AllByRecursion
    (IsFile j s.origin s.history (promise j force job c s)
    (cond (is_never force) s.lasting true) s.next) s.older
left_older j s force job c still settled =
    let P : Force → Type 0 =
    λ x. AllByRecursion
    (IsFile j s.origin s.history (promise j x job c s) (cond (is_never x) s.lasting true)
    s.next) s.older in
    elim (word_is force) [
      | inl never ↦ subst P (sym never) still.older
      | inr other ↦
          subst (λ (fs : List File). AllByRecursion
          (IsFile j s.origin s.history (promise j force job c s)
          (cond (is_never force) s.lasting true) s.next) fs) (sym (settled other)) tt
    ]

-- ---- the responses

safe_more : (answers : List Answer) (n m : ℕ) → n ≤ m → Safe n answers → Safe m answers
safe_more [] n m le h = tt
safe_more (a ∷ answers) n m le h =
    (λ always. let x = h.0 always in (x.0, omega (arith, x.1, le)), safe_more answers n m le h.1)

always_all : (j : Journal) (force : Force) (job : Job) (c : List ℕ) (s : Shared)
    → is_always force ≡ true → length s.history ≤ promise j force job c s
always_all j Always job c s e = omega arith
always_all j Power job c s e = absurd cc
always_all j Never job c s e = absurd cc

left_safe : (s : Shared) (k : Holder) (job : Job) (n : ℕ) → s.promised ≤ n
    → (is_always k.force ≡ true → length s.history ≤ n) → Safe s.promised s.answers
    → Safe n (with_answer job s k)
left_safe s k Execute n le all h =
    (λ always. (refl, all always), safe_more s.answers s.promised n le h)
left_safe s k Renew n le all h = safe_more s.answers s.promised n le h
left_safe s k Show n le all h = safe_more s.answers s.promised n le h
left_safe s k Begin n le all h = safe_more s.answers s.promised n le h
left_safe s k Cut n le all h = safe_more s.answers s.promised n le h

left_each : (j : Journal) (s : Shared) (k : Holder) (job : Job) → Still j s
    → LastIf job j s.origin s.history s.answers k.command k.response
    → Each j s.origin s.history (with_answer job s k) × Ascend (with_answer job s k)
left_each j s k Execute still last = (
  (
    λ _. record {
      before = last.before;
      rest = [];
      is = last.is;
      place =
          ap length last.is ∙ length-append last.before (k.command ∷ []);
      response = last.gives;
    },
    still.each,
  ),
  (λ _. last.new, still.once),
)
left_each j s k Renew still last = (still.each, still.once)
left_each j s k Show still last = (still.each, still.once)
left_each j s k Begin still last = (still.each, still.once)
left_each j s k Cut still last = (still.each, still.once)

done_still : (j : Journal) (s : Shared) (k : Holder) → Still j s → IsDone j (sight s) k
    → Still j (folder_after_leaving j ending.Done s k)
done_still j s k still d =
    let answered = left_each j s k k.job still d.stays.last in
    let bounds = promise_bounds j k.force k.job k.command s (promised_within j s still) in
    record {
      told = still.told;
      file = left_file j s k.force k.job k.command (cond (is_never k.force) s.lasting true) still
          d.stays.all.named d.forced;
      older = left_older j s k.force k.job k.command still d.settled;
      alone = still.alone;
      each = answered.0;
      once = answered.1;
      safe = left_safe s k k.job (promise j k.force k.job k.command s) bounds.0
          (always_all j k.force k.job k.command s) still.safe;
    }

pub left_moves : (e : End) (j : Journal) (s : Shared) (k : Holder) → Still j s
    → In (Leaving e) j (sight s) k → Moves j s (folder_after_leaving j e s k)
left_moves ending.Done j s k still d = record {
  still = done_still j s k still d;
  grows = same_grows j s (folder_after_leaving j ending.Done s k) refl (λ none. none) (omega arith);
}
left_moves (ending.Failed f) j s k still d = record {
  still = record {
    told = still.told;
    file = still.file;
    older = still.older;
    alone =
        still.alone;
    each = still.each;
    once = still.once;
    safe = still.safe;
  };
  grows = same_grows j s (folder_after_leaving j (ending.Failed f) s k) refl (λ none. none)
      (omega arith);
}
