-- Whatever a holder knew about the file before, it reads the file to its end.
use Rattle.std.proofs.Common.{◌≡◌, ℕ, ◌+◌, ◌<◌, ◌≤◌, ◌||◌, Bool, true, false, cond, List, [], ◌∷◌, ◌++◌, length, take, drop, Some, None, Option, refl, sym, ap, ◌∙◌, subst, arith, inl, append_assoc, length-append}
use Rattle.std.proofs.lemmas.Bool.Decides.{nat_tests}
use Rattle.std.proofs.lemmas.List.{append-nil, drop_at, length-drop, take_all, take_at}
use Rattle.tpm_keeping.specs.Journal.{Entered, Journal, IsJournal, Spot, entries, first_spot, next_spot, run, trail}
use Rattle.tpm_keeping.specs.Holder.{Holder, acts, caught_up, enters, executes, finishes, found_spot, goes, is_always, is_grown, is_never, is_read, leaps, reads_on, refuses, settles, shows}
use Rattle.tpm_keeping.specs.World.{Shared, adds, leads}
use Rattle.tpm_keeping.proofs.Entries.{entered_last, trail_lives, trail_both, whole, whole_both}
use Rattle.tpm_keeping.proofs.Invariant.{spot_of, Calm, Fits, Follows, Gives, HasAll, IsAt, IsForced, IsHeaded, IsReading, IsText, KnowsOf, LastIf, Puts, StaysOf, Still, begun, body, promises, sight, state_of}
use Rattle.tpm_keeping.proofs.Folder.{state_is}
use Rattle.tpm_keeping.specs.declared.holder.Force.{Force}
use Rattle.tpm_keeping.specs.declared.holder.Force.TheVariants.{Never, Power, Always}
use Rattle.tpm_keeping.specs.declared.holder.Job.{Job}
use Rattle.tpm_keeping.specs.declared.holder.Job.TheVariants.{Execute, Renew, Show, Begin, Cut}
use Rattle.tpm_keeping.specs.declared.holder.End.TheVariants as ending
use Rattle.tpm_keeping.specs.declared.holder.Phase.TheVariants.{Reading, Putting, Settling, Leaving}

-- ---- the state after reading the file

pub record IsCaughtUp (j : Journal) (s : Shared) (k : Holder) : Type 0 where
  pub taken : ℕ
  pub is : found_spot j k.device k.read ≡ Some (spot_of j s.file, taken)
  pub all : HasAll j s.file k.force k.file (k.place + taken)
      (cond (is_always k.force) (k.unsure ++ take taken k.read) [])

-- Only a holder that syncs before each response remembers which bytes may not be synced yet. For
-- every holder, `HasAll` holds after the holder has executed the whole file.
unsure_by : (j : Journal) (s : Shared) (k : Holder) (place : ℕ) (front unsure : List ℕ) (b : Bool)
    → is_always k.force ≡ b
    → k.file ≡ s.file.number → 0 < s.file.number → body j s.file ≡ front ++ unsure
    → place ≡ length (body j s.file)
    → (is_always k.force ≡ true → length front ≤ s.file.forced)
    → HasAll j s.file k.force k.file place (cond b unsure [])
unsure_by j s k place front unsure true is same named text reached sure =
    record {
      same = same;
      named = named;
      front = front;
      text = text;
      reached = reached;
      sure =
          sure;
    }
unsure_by j s k place front unsure false is same named text reached sure = record {
  same = same;
  named = named;
  front = body j s.file;
  text = sym (append-nil (body j s.file));
  reached = reached;
  sure = λ always. absurd (let e : false ≡ true = sym is ∙ always in cc);
}

opens_all : (j : Journal) (s : Shared) (k : Holder) → IsJournal j
    → IsHeaded j s.origin s.file.head s.file.start s.file.before → Entered j s.file.now.commands
    → (t : IsText j s.file.head s.file.start s.file.now) → k.file ≡ s.file.number
    → 0 < s.file.number
    → k.device ≡ None → k.place ≡ 0 → k.unsure ≡ [] → k.read ≡ drop k.place s.file.now.text
    → IsCaughtUp j s k
opens_all j s k laws headed entered t same named none place unsure read =
    let start = s.file.start in
    let cs = s.file.now.commands in
    let head = s.file.head in
    let taken = length (body j s.file) in
    let text : k.read ≡ body j s.file ++ t.tail =
    read ∙ (ap (λ (n : ℕ). drop n s.file.now.text) place ∙ t.is) in
    let opened : found_spot j None k.read
    ≡ Some (spot_of j s.file, length head + length (entries j start cs)) =
    ap j.opened (text ∙ append_assoc head (entries j start cs) t.tail)
    ∙ laws.opens head start cs t.tail headed.after headed.lives entered t.torn in
    let size : length head + length (entries j start cs) ≡ taken =
    sym (length-append head (entries j start cs)) in
    let front : body j s.file ≡ [] ++ (k.unsure ++ take taken k.read) =
    sym (ap (take taken) text ∙ take_at (body j s.file) t.tail taken refl)
    ∙ ap (λ (x : List ℕ). x ++ take taken k.read) (sym unsure) in
    record {
      taken = taken;
      is = ap (λ (o : Option Spot). found_spot j o k.read) none
          ∙ (opened ∙ ap (λ (n : ℕ). Some (spot_of j s.file, n)) size);
      all = unsure_by j s k (k.place + taken) [] (k.unsure ++ take taken k.read) (is_always k.force)
          refl same named front (omega (arith, place)) (λ _. omega arith);
    }

follows_all : (j : Journal) (s : Shared) (k : Holder) (d : Spot) → IsJournal j
    → j.is_state s.file.start.state ≡ true → Entered j s.file.now.commands
    → (t : IsText j s.file.head s.file.start s.file.now) → k.file ≡ s.file.number
    → 0 < s.file.number
    → k.device ≡ Some d → IsAt j s.file.head s.file.start s.file.now.commands s.file.forced k.force
    d k.place k.unsure → k.read ≡ drop k.place s.file.now.text → IsCaughtUp j s k
follows_all j s k d laws lives entered t same named has a read =
    let head = s.file.head in
    let start = s.file.start in
    let mid = trail j start a.done in
    let rest = entries j mid a.ahead in
    let taken = length rest in
    let all : body j s.file ≡ whole j head start a.done ++ rest =
    ap (whole j head start) a.parts ∙ whole_both j head start a.done a.ahead in
    let text : s.file.now.text ≡ whole j head start a.done ++ (rest ++ t.tail) =
    t.is ∙ (ap (λ (x : List ℕ). x ++ t.tail) all
    ∙ append_assoc (whole j head start a.done) rest t.tail) in
    let behind : k.read ≡ rest ++ t.tail =
    read
    ∙ (ap (drop k.place) text ∙ drop_at (whole j head start a.done) (rest ++ t.tail) k.place
    (sym a.reached)) in
    let end : spot_of j s.file ≡ trail j mid a.ahead =
    ap (trail j start) a.parts ∙ trail_both j start a.done a.ahead in
    let torn : j.is_torn (trail j mid a.ahead) t.tail ≡ true =
    ap (λ (x : Spot). j.is_torn x t.tail) (sym end) ∙ t.torn in
    let ahead : Entered j a.ahead =
    entered_last j a.done a.ahead (subst (Entered j) a.parts entered) in
    let front : body j s.file ≡ a.front ++ (k.unsure ++ take taken k.read) =
    all
    ∙ (ap (λ (x : List ℕ). x ++ rest) a.text
    ∙ (append_assoc a.front k.unsure rest
    ∙ ap (λ (x : List ℕ). a.front ++ (k.unsure ++ x))
    (sym (ap (take taken) behind ∙ take_at rest t.tail taken refl)))) in
    record {
      taken = taken;
      is = ap (λ (o : Option Spot). found_spot j o k.read) has
          ∙ (ap (λ (x : Spot). j.followed x k.read) a.is
          ∙ (ap (j.followed mid) behind
          ∙ (laws.follows mid a.ahead t.tail (trail_lives j start a.done laws lives) ahead torn
          ∙ ap (λ (x : Spot). Some (x, taken)) (sym end))));
      all = unsure_by j s k (k.place + taken) a.front (k.unsure ++ take taken k.read)
          (is_always k.force) refl same named front
          (omega (arith, a.reached, ap length all, length-append (whole j head start a.done) rest))
          a.sure;
    }

pub caught : (j : Journal) (s : Shared) (k : Holder) → IsJournal j → Still j s
    → KnowsOf j (sight s) k → k.file ≡ s.file.number → 0 < s.file.number
    → k.read ≡ drop k.place s.file.now.text → IsCaughtUp j s k
caught j s k laws still knows same named read = by k.device refl
  where
    by : (device : Option Spot) → k.device ≡ device → IsCaughtUp j s k
    by None is =
        let e = knows.empty is in
        opens_all j s k laws (still.file.headed named) still.file.now.entered
        (still.file.now.text named) same named is e.0 e.1 read
    by (Some d) is = follows_all j s k d laws (still.file.headed named).lives still.file.now.entered
        (still.file.now.text named) same named is (knows.at d is same) read

-- ---- doing the job

-- a holder that has done all work on the file goes to the phase `settles k`, and its invariant
-- still holds
pub settles_fits : (j : Journal) (s : Shared) (p : ℕ) (k : Holder)
    → (s.locked ≡ true) × (s.locker ≡ p) → k.file < s.next → Calm (sight s) k.settled k.file
    → StaysOf j (sight s) k → (promises j k.force k.job k.command ≡ true → IsForced j s.file)
    → Fits j s p (goes (settles k) k)
settles_fits j s p k lock below calm stays forced = by k.settled refl (is_never k.force) refl
  where
    by : (b : Bool) → k.settled ≡ b → (c : Bool) → is_never k.force ≡ c
        → Fits j s p (goes (cond (b || c) (Leaving ending.Done) Settling) k)
    by true is c word = record {
      lock = λ _. lock;
      now = record { stays = stays; forced = forced; settled = λ _. calm is stays.all.same };
      below = below;
      calm = calm;
    }
    by false is true word = record {
      lock = λ _. lock;
      now = record {
        stays = stays;
        forced = forced;
        settled =
            λ other. absurd (let e : true ≡ false = sym word ∙ other in cc);
      };
      below = below;
      calm = calm;
    }
    by false is false word =
        record { lock = λ _. lock; now = (stays, forced); below = below; calm = calm }

pub quietly : (j : Journal) (force : Force) (job : Job) (c : List ℕ)
    → promises j Power job c ≡ false → is_always force ≡ false → promises j force job c ≡ true → ⊥
quietly j Always job c quiet word e = cc
quietly j Power job c quiet word e = let f : false ≡ true = sym quiet ∙ e in cc
quietly j Never job c quiet word e = cc

shows_fits : (j : Journal) (s : Shared) (p : ℕ) (k : Holder) (response : List ℕ) (job : Job)
    → k.job ≡ job → promises j Power job k.command ≡ false → adds j job k.command ≡ []
    → (s.locked ≡ true) × (s.locker ≡ p) → k.file < s.next → Calm (sight s) k.settled k.file
    → HasAll j s.file k.force k.file k.place k.unsure
    → LastIf job j s.origin s.history s.answers k.command response
    → Gives job j (state_of j s.file) k.command response
    → Fits j s p (shows k (spot_of j s.file) response)
shows_fits j s p k response job is quiet none lock below calm all last gives =
    by (is_always k.force) refl
  where
    by : (b : Bool) → is_always k.force ≡ b
        → Fits j s p
        (record k {
          phase = cond b Putting (settles k);
          device = Some (spot_of j s.file);
          out =
              k.unsure;
          response = response;
        })
    by true word =
        let spot = spot_of j s.file in
        let new : Holder =
        record k { phase = Putting; device = Some spot; out = k.unsure; response = response } in
        let puts : Puts j s.file job new = record {
          all = all;
          quiet = quiet;
          has = ap (λ (cs : List (List ℕ)). Some (trail j spot cs)) (sym none);
          out = sym (append-nil k.unsure)
              ∙ ap (λ (cs : List (List ℕ)). k.unsure ++ entries j spot cs) (sym none);
          gives = gives;
        } in
        record {
          lock = λ _. lock;
          now = subst (λ (x : Job). Puts j s.file x new) (sym is) puts;
          below = below;
          calm = calm;
        }
    by false word =
        let new : Holder =
        record k { device = Some (spot_of j s.file); out = k.unsure; response = response } in
        let stays : StaysOf j (sight s) new = record {
          all = all;
          has = refl;
          last = subst (λ (x : Job). LastIf x j s.origin s.history s.answers k.command response)
              (sym is) last;
        } in
        settles_fits j s p new lock below calm stays
        (λ yes'. absurd
        (quietly j k.force job k.command quiet word
        (subst (λ (x : Job). promises j k.force x k.command ≡ true) is yes')))

-- if a holder has executed the whole file, and its device has the state after the file's entries,
-- then `KnowsOf` holds for the holder
pub has_all_knows : (j : Journal) (s : Shared) (k : Holder)
    → HasAll j s.file k.force k.file k.place k.unsure → k.device ≡ Some (spot_of j s.file)
    → KnowsOf j (sight s) k
has_all_knows j s k all has = record {
  at = λ d is _. record {
    done = s.file.now.commands;
    ahead = [];
    parts = sym (append-nil s.file.now.commands);
    is = some_is d (spot_of j s.file) (sym is ∙ has);
    front = all.front;
    text = all.text;
    reached = all.reached;
    sure = all.sure;
  };
  empty = λ none. absurd (let e : None ≡ Some (spot_of j s.file) = sym none ∙ has in cc);
}
  where
    some_is : (a b : Spot) → Some a ≡ Some b → a ≡ b
    some_is a b e = cc

refuses_fits : (j : Journal) (s : Shared) (p : ℕ) (k : Holder) → (s.locked ≡ true) × (s.locker ≡ p)
    → k.file < s.next → Calm (sight s) k.settled k.file
    → HasAll j s.file k.force k.file k.place k.unsure → Fits j s p (refuses k (spot_of j s.file))
refuses_fits j s p k lock below calm all =
    record {
      lock = λ _. lock;
      now = has_all_knows j s (refuses k (spot_of j s.file)) all refl;
      below = below;
      calm = calm;
    }

leaps_fits : (j : Journal) (s : Shared) (p : ℕ) (k : Holder) → k.job ≡ Execute
    → j.is_entered k.command ≡ false
    → (s.locked ≡ true) × (s.locker ≡ p) → k.file < s.next → Calm (sight s) k.settled k.file
    → HasAll j s.file k.force k.file k.place k.unsure → Fits j s p (leaps j k (spot_of j s.file))
leaps_fits j s p k is none lock below calm all =
    let state = state_of j s.file in
    let next = j.after state k.command in
    let new : List (List ℕ) → List (List ℕ) → Type 0 = λ lead more.
    (Some (first_spot j next) ≡ Some (trail j (first_spot j (run j state lead)) more))
    × (j.head next ≡ begun j (run j state lead) more) in
    let leads' : leads j Execute k.command ≡ k.command ∷ [] = rw none refl in
    let adds' : adds j Execute k.command ≡ [] = rw none refl in
    let parts = subst (λ (x : List (List ℕ)). new x (adds j Execute k.command)) (sym leads')
    (subst (new (k.command ∷ [])) (sym adds') (refl, sym (append-nil (j.head next)))) in
    let follows : Follows j s.file Execute k.command (Some (first_spot j next)) (j.head next)
    (j.response state k.command) =
    record { named = all.named; has = parts.0; text = parts.1; gives = refl } in
    record {
      lock = λ _. lock;
      now =
          inl
          (subst (λ (x : Job). Follows j s.file x k.command (Some (first_spot j next)) (j.head next)
          (j.response state k.command)) (sym is) follows);
      below = below;
      calm = calm;
    }

enters_fits : (j : Journal) (s : Shared) (p : ℕ) (k : Holder) (b : Bool) → k.job ≡ Execute
    → j.is_entered k.command ≡ true
    → (s.locked ≡ true) × (s.locker ≡ p) → k.file < s.next → Calm (sight s) k.settled k.file
    → HasAll j s.file k.force k.file k.place k.unsure → Fits j s p (enters j k (spot_of j s.file) b)
enters_fits j s p k true is one lock below calm all =
    let state = state_of j s.file in
    let first = first_spot j state in
    let new : List (List ℕ) → List (List ℕ) → Type 0 = λ lead more.
    (Some (next_spot j first k.command) ≡ Some (trail j (first_spot j (run j state lead)) more))
    × (j.head state ++ j.entry first k.command ≡ begun j (run j state lead) more) in
    let leads' : leads j Execute k.command ≡ [] = rw one refl in
    let adds' : adds j Execute k.command ≡ k.command ∷ [] = rw one refl in
    let parts = subst (λ (x : List (List ℕ)). new x (adds j Execute k.command)) (sym leads')
    (subst (new []) (sym adds') (
      refl,
      ap (λ (x : List ℕ). j.head state ++ x)
          (sym (append-nil (j.entry first k.command))),
    )) in
    let follows : Follows j s.file Execute k.command (Some (next_spot j first k.command))
    (j.head state ++ j.entry first k.command) (j.response state k.command) =
    record { named = all.named; has = parts.0; text = parts.1; gives = refl } in
    record {
      lock = λ _. lock;
      now =
          inl
          (subst (λ (x : Job). Follows j s.file x k.command (Some (next_spot j first k.command))
          (j.head state ++ j.entry first k.command) (j.response state k.command)) (sym is)
          follows);
      below = below;
      calm = calm;
    }
enters_fits j s p k false is one lock below calm all =
    let spot = spot_of j s.file in
    let new = enters j k spot false in
    let more : List (List ℕ) → Type 0 =
    λ cs. (Some (next_spot j spot k.command) ≡ Some (trail j spot cs))
    × (k.unsure ++ j.entry spot k.command ≡ k.unsure ++ entries j spot cs) in
    let adds' : adds j Execute k.command ≡ k.command ∷ [] = rw one refl in
    let parts =
    subst more (sym adds')
    (refl, ap (λ (x : List ℕ). k.unsure ++ x) (sym (append-nil (j.entry spot k.command)))) in
    let puts : Puts j s.file Execute new =
    record { all = all; quiet = rw one refl; has = parts.0; out = parts.1; gives = refl } in
    record {
      lock = λ _. lock;
      now = subst (λ (x : Job). Puts j s.file x new) (sym is) puts;
      below = below;
      calm = calm;
    }

executes_fits : (j : Journal) (s : Shared) (p : ℕ) (k : Holder) → k.job ≡ Execute
    → (s.locked ≡ true) × (s.locker ≡ p) → k.file < s.next → Calm (sight s) k.settled k.file
    → HasAll j s.file k.force k.file k.place k.unsure → Fits j s p (executes j k (spot_of j s.file))
executes_fits j s p k is lock below calm all =
    by (j.is_command k.command) (j.is_entered k.command) refl
  where
    spot : Spot
    spot = spot_of j s.file

    by : (a b : Bool) → j.is_entered k.command ≡ b
        → Fits j s p (cond a (cond b (enters j k spot (is_grown j k spot)) (leaps j k spot))
        (refuses k spot))
    by false b entered = refuses_fits j s p k lock below calm all
    by true true entered = enters_fits j s p k (is_grown j k spot) is entered lock below calm all
    by true false entered = leaps_fits j s p k is entered lock below calm all

acts_fits : (job : Job) (j : Journal) (s : Shared) (p : ℕ) (k : Holder) → Still j s → k.job ≡ job
    → (s.locked ≡ true) × (s.locker ≡ p) → k.file < s.next → Calm (sight s) k.settled k.file
    → HasAll j s.file k.force k.file k.place k.unsure → Fits j s p (acts j job k (spot_of j s.file))
acts_fits Execute j s p k still is lock below calm all =
    executes_fits j s p k is lock below calm all
acts_fits Renew j s p k still is lock below calm all =
    let state = state_of j s.file in
    let follows : Follows j s.file Renew k.command (Some (first_spot j state)) (j.head state) [] =
    record { named = all.named; has = refl; text = sym (append-nil (j.head state)); gives = tt } in
    record {
      lock = λ _. lock;
      now =
          inl
          (subst (λ (x : Job). Follows j s.file x k.command (Some (first_spot j state))
          (j.head state) []) (sym is) follows);
      below = below;
      calm = calm;
    }
acts_fits Show j s p k still is lock below calm all =
    let state = state_of j s.file in
    shows_fits j s p k (j.head state) Show is refl refl lock below calm all
    (ap j.head (state_is j s still all.named)) refl
acts_fits Begin j s p k still is lock below calm all =
    shows_fits j s p k [] Begin is refl refl lock below calm all tt tt
acts_fits Cut j s p k still is lock below calm all =
    shows_fits j s p k [] Cut is refl refl lock below calm all tt tt

pub reads_on_fits : (j : Journal) (s : Shared) (p : ℕ) (k : Holder) → IsJournal j → Still j s
    → (s.locked ≡ true) × (s.locker ≡ p) → k.file < s.next
    → Calm (sight s) k.settled k.file → IsReading j (sight s) k → Fits j s p (reads_on j k)
reads_on_fits j s p k laws still lock below calm r = by (is_read k) refl
  where
    by : (b : Bool) → is_read k ≡ b
        → Fits j s p (cond b (finishes j k (found_spot j k.device k.read)) (goes Reading k))
    by true is =
        let le : k.size ≤ k.seen = grind (arith, nat_tests) in
        let rest = drop k.place s.file.now.text in
        let far : length rest ≤ length k.read =
        omega (arith, le, r.size, r.seen, length-drop k.place s.file.now.text) in
        let read : k.read ≡ rest = sym r.read ∙ take_all (length k.read) rest far in
        let c = caught j s k laws still r.knows r.same r.named read in
        subst (λ (o : Option (Spot × ℕ)). Fits j s p (finishes j k o)) (sym c.is)
        (acts_fits k.job j s p (caught_up k c.taken) still refl lock below calm c.all)
    by false is = record {
      lock = λ _. lock;
      now = record {
        knows = r.knows;
        same = r.same;
        named = r.named;
        size = r.size;
        seen =
            r.seen;
        read = r.read;
      };
      below = below;
      calm = calm;
    }
