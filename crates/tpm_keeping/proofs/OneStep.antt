-- Each step of a holder preserves the invariant of the folder and of all holders. The step may
-- succeed, may fail, or may be interrupted by the holder's death.
use Rattle.std.proofs.Common.{◌≡◌, ℕ, zero, suc, ◌+◌, ◌<◌, ◌≤◌, ◌==◌, ◌&&◌, Bool, true, false, cond, List, [], ◌∷◌, ◌++◌, length, take, drop, min, Some, None, Option, refl, sym, ap, ◌∙◌, subst, arith, inl, inr, append_assoc, length-append}
use Rattle.std.specs.List.{AllByRecursion}
use Rattle.std.specs.Prelude.{nat_le}
use Rattle.std.proofs.lemmas.Bool.Decides.{nat_tests}
use Rattle.std.proofs.lemmas.List.{append-nil, drop-drop, take-append-drop}
use Rattle.std.proofs.Math.Seq.{take-append-add}
use Rattle.tpm_keeping.specs.Journal.{Journal, IsJournal, Spot, entries, first_spot, run, trail}
use Rattle.tpm_keeping.specs.Holder.{Holder, Stands, Gone, begins, begins_of, has_named, has_put, has_read, holder_after_fault, holder_after_look, is_always, is_never, knows_file, newborn, next_in, reads_on, settles, sure}
use Rattle.tpm_keeping.specs.World.{Answer, Effect, Part, All, File, Shared, World, adds, leads, does, forced_file, folder_after_naming, named_from, folder_after_put, put_dropped, put_more, state_in, tells, with_holder}
use Rattle.tpm_keeping.proofs.Entries.{trail_both, whole, run_both, whole_both}
use Rattle.tpm_keeping.proofs.Invariant.{spot_of, Calm, Each, Fine, Fits, Follows, Founds, Gives, HasAll, In, IsLast, IsReading, Knows, KnowsOf, LastIf, Makes, Puts, Sight, StaysOf, Still, begun, body, holds, promises, sight, state_of}
use Rattle.tpm_keeping.proofs.Folder.{Grows, Moves, body_in, drop_moves, force_moves, fresh_moves, named_moves, put_moves, same_moves, settle_moves, state_is, unnamed_history}
use Rattle.tpm_keeping.proofs.Reading.{quietly, reads_on_fits, settles_fits}
use Rattle.tpm_keeping.specs.declared.holder.Fault.{Fault}
use Rattle.tpm_keeping.specs.declared.holder.Fault.TheVariants as fault
use Rattle.tpm_keeping.specs.declared.holder.Force.{Force}
use Rattle.tpm_keeping.specs.declared.holder.Force.TheVariants.{Power}
use Rattle.tpm_keeping.specs.declared.holder.Job.{Job}
use Rattle.tpm_keeping.specs.declared.holder.Job.TheVariants.{Execute, Renew, Show, Begin, Cut}
use Rattle.tpm_keeping.specs.declared.holder.End.TheVariants as ending
use Rattle.tpm_keeping.specs.declared.holder.Phase.{Phase}
use Rattle.tpm_keeping.specs.declared.holder.Phase.TheVariants.{Ended, Locking, Looking, Reading, Putting, Forcing, Making, Naming, Settling, Leaving}

-- ---- the folder

pub does_moves : (phase : Phase) (effect : Effect) (j : Journal) (s : Shared) (k : Holder)
    → IsJournal j → Still j s → In phase j (sight s) k → Moves j s (does j phase s k effect)
does_moves Putting (Part count) j s k laws still now = put_moves j s k count laws still now
does_moves Putting All j s k laws still now = put_moves j s k (length k.out) laws still now
does_moves Forcing (Part count) j s k laws still now = drop_moves j s still
does_moves Forcing All j s k laws still now =
    force_moves j s s.file.is_dropped refl still now.0.all.named
does_moves Making (Part count) j s k laws still now = fresh_moves j s (take count k.out) 0 still
does_moves Making All j s k laws still now = fresh_moves j s k.out (length k.out) still
does_moves Naming All j s k laws still now = named_moves j s k laws still now.0 now.1 now.2
does_moves Settling All j s k laws still now = settle_moves j s still
does_moves phase effect j s k laws still now = same_moves j s still

-- no task of a process changes the lock
pub same_lock : (j : Journal) (phase : Phase) (effect : Effect) (s : Shared) (k : Holder)
    → ((does j phase s k effect).locked ≡ s.locked) × ((does j phase s k effect).locker ≡ s.locker)
same_lock j Putting (Part count) s k = (refl, refl)
same_lock j Putting All s k = (refl, refl)
same_lock j Forcing (Part count) s k = (refl, refl)
same_lock j Forcing All s k = (refl, refl)
same_lock j Making (Part count) s k = (refl, refl)
same_lock j Making All s k = (refl, refl)
same_lock j Naming All s k = (refl, refl)
same_lock j Settling All s k = (refl, refl)
same_lock j phase effect s k = (refl, refl)

-- ---- the other holders

-- the invariant of a holder without the lock depends only on what the holder knows about the file
away_in : (phase : Phase) (j : Journal) (v w : Sight) (k : Holder) → (holds phase ≡ true → ⊥)
    → (KnowsOf j v k → KnowsOf j w k) → In phase j v k → In phase j w k
away_in (Ended e) j v w k away grows h = grows h
away_in Locking j v w k away grows h = grows h
away_in Looking j v w k away grows h = absurd (away refl)
away_in Reading j v w k away grows h = absurd (away refl)
away_in Putting j v w k away grows h = absurd (away refl)
away_in Forcing j v w k away grows h = absurd (away refl)
away_in Making j v w k away grows h = absurd (away refl)
away_in Naming j v w k away grows h = absurd (away refl)
away_in Settling j v w k away grows h = absurd (away refl)
away_in (Leaving e) j v w k away grows h = absurd (away refl)

pub away_fits : (j : Journal) (s t : Shared) (q : ℕ) (k : Holder) → Grows j s t → Fits j s q k
    → (holds k.phase ≡ true → ⊥) → Fits j t q k
away_fits j s t q k grows h away = record {
  lock = λ theirs. absurd (away theirs);
  now = away_in k.phase j (sight s) (sight t) k away
      (grows.knows k.force k.file k.device k.place k.unsure h.below) h.now;
  below = omega (arith, h.below, grows.next);
  calm = grows.calm k.settled k.file h.below h.calm;
}

-- No other process has the lock.
abbrev Alone : World → ℕ → Type 0
Alone w p = (q : ℕ) → (q == p) ≡ false → holds (w.holders q).phase ≡ true → ⊥

pub alone : (j : Journal) (w : World) (p : ℕ) (h : Fine j w) → holds (w.holders p).phase ≡ true
    → Alone w p
alone j w p h mine q apart theirs =
    let a = ((h.holders p).lock mine).1 in
    let b = ((h.holders q).lock theirs).1 in
    let same : q ≡ p = sym b ∙ a in
    grind (arith, nat_tests)

pick : (j : Journal) (s : Shared) (p q : ℕ) (new old : Holder) (b : Bool) → (q == p) ≡ b
    → ((q == p) ≡ false → Fits j s q old) → Fits j s p new → Fits j s q (cond b new old)
pick j s p q new old true is other mine =
    let same : p ≡ q = grind (arith, nat_tests) in
    subst (λ (x : ℕ). Fits j s x new) same mine
pick j s p q new old false is other mine = other is

pub update : (j : Journal) (w : World) (s : Shared) (p : ℕ) (new : Holder) → Still j s
    → ((q : ℕ) → (q == p) ≡ false → Fits j s q (w.holders q)) → Fits j s p new
    → Fine j (with_holder s w.holders p new)
update j w s p new still others mine =
    record {
      still = still;
      holders =
          λ q. pick j s p q new (w.holders q) (q == p) refl (others q) mine;
    }

-- if the process with the lock takes a step, the invariant still holds
pub goes_fine : (j : Journal) (w : World) (s : Shared) (p : ℕ) (new : Holder) → Fine j w
    → holds (w.holders p).phase ≡ true → Moves j w.shared s
    → Fits j s p new → Fine j (with_holder s w.holders p new)
goes_fine j w s p new h mine moves fits =
    update j w s p new moves.still
    (λ q apart. away_fits j w.shared s q (w.holders q) moves.grows (h.holders q)
    (alone j w p h mine q apart)) fits

-- if a process without the lock takes a step that leaves the folder unchanged, the invariant still
-- holds
pub beside : (j : Journal) (w : World) (p : ℕ) (new : Holder) → Fine j w → Fits j w.shared p new
    → Fine j (with_holder w.shared w.holders p new)
beside j w p new h fits = update j w w.shared p new h.still (λ q _. h.holders q) fits

-- ---- a holder that knows nothing

pub knows_nothing : (j : Journal) (f : File) (force : Force) → Knows j f force 0 None 0 []
knows_nothing j f force = record { at = λ d none _. absurd cc; empty = λ _. (refl, refl) }

pub newborn_fits : (j : Journal) (s : Shared) (p : ℕ) (force : Force) (limit : ℕ) → 0 < s.next
    → Fits j s p (newborn force limit)
newborn_fits j s p force limit next =
    record {
      lock = λ off. absurd cc;
      now = knows_nothing j s.file force;
      below = next;
      calm =
          λ e. absurd cc;
    }

pub dropped_fits : (j : Journal) (s : Shared) (p : ℕ) (k : Holder) (f : Fault) → 0 < s.next
    → (s.locked ≡ true) × (s.locker ≡ p) → Fits j s p (holder_after_fault f k)
dropped_fits j s p k f next lock =
    record {
      lock = λ _. lock;
      now = knows_nothing j s.file k.force;
      below = next;
      calm =
          λ e. absurd cc;
    }

-- ---- looking up the journal's file

begins_fits : (job : Job) (j : Journal) (s : Shared) (p : ℕ) (k : Holder) → IsJournal j
    → k.job ≡ job → s.file.number ≡ 0 → 0 < s.next → (s.locked ≡ true) × (s.locker ≡ p)
    → k.file < s.next → Calm (sight s) k.settled k.file → Fits j s p (begins j job k)
begins_fits Begin j s p k laws is none next lock below calm = by (j.begun k.command) refl
  where
    by : (o : Option (List ℕ)) → j.begun k.command ≡ o → Fits j s p (begins_of j k o)
    by None from = dropped_fits j s p k fault.Unreadable next lock
    by (Some state) from = record {
      lock = λ _. lock;
      now =
          inr (record {
            unnamed = none;
            is = is;
            state = state;
            lives =
                laws.begins k.command state from;
            has = refl;
            text = refl;
          });
      below = below;
      calm = calm;
    }
begins_fits Execute j s p k laws is none next lock below calm =
    dropped_fits j s p k fault.Absent next lock
begins_fits Renew j s p k laws is none next lock below calm =
    dropped_fits j s p k fault.Absent next lock
begins_fits Show j s p k laws is none next lock below calm =
    dropped_fits j s p k fault.Absent next lock
begins_fits Cut j s p k laws is none next lock below calm =
    dropped_fits j s p k fault.Absent next lock

-- the holder when it continues to read the file that it knows, from the end of the part that it
-- executed
abbrev pub again : Shared → Holder → Holder
again s k = record k { size = length s.file.now.text; seen = k.place; read = [] }

pub again_reading : (j : Journal) (s : Shared) (k : Holder)
    → knows_file k s.file.number (length s.file.now.text) ≡ true → KnowsOf j (sight s) k
    → 0 < s.file.number
    → IsReading j (sight s) (again s k)
again_reading j s k is knows named =
    let same : k.file ≡ s.file.number = grind (arith, nat_tests) in
    record {
      knows = knows;
      same = same;
      named = named;
      size = refl;
      seen = omega arith;
      read =
          refl;
    }

-- the holder when it reads another file, from the beginning
abbrev pub anew : Shared → Holder → Holder
anew s k = record (newborn k.force k.limit) {
  job = k.job;
  command = k.command;
  file =
      s.file.number;
  size = length s.file.now.text;
}

pub anew_reading : (j : Journal) (s : Shared) (k : Holder) → 0 < s.file.number
    → IsReading j (sight s) (anew s k)
anew_reading j s k named = record {
  knows = record { at = λ d none _. absurd cc; empty = λ _. (refl, refl) };
  same = refl;
  named = named;
  size = refl;
  seen = omega arith;
  read = refl;
}

looked_fits : (j : Journal) (s : Shared) (p : ℕ) (k : Holder) → IsJournal j → Still j s
    → (s.locked ≡ true) × (s.locker ≡ p) → k.file < s.next
    → Calm (sight s) k.settled k.file → KnowsOf j (sight s) k → 0 < s.file.number
    → Fits j s p (holder_after_look j k s.file.number (length s.file.now.text))
looked_fits j s p k laws still lock below calm knows named =
    by (knows_file k s.file.number (length s.file.now.text)) refl
  where
    by : (b : Bool) → knows_file k s.file.number (length s.file.now.text) ≡ b
        → Fits j s p (cond b (reads_on j (again s k)) (reads_on j (anew s k)))
    by true is = reads_on_fits j s p (again s k) laws still lock below calm
        (again_reading j s k is knows named)
    by false is = reads_on_fits j s p (anew s k) laws still lock still.file.below (λ e. absurd cc)
        (anew_reading j s k named)

pub looks_fits : (j : Journal) (s : Shared) (p : ℕ) (k : Holder) (more : ℕ) → IsJournal j
    → Still j s → (s.locked ≡ true) × (s.locker ≡ p) → k.file < s.next
    → Calm (sight s) k.settled k.file → KnowsOf j (sight s) k
    → Fits j s p (next_in j Looking k (tells Looking s k more))
looks_fits j s p k more laws still lock below calm knows = by (s.file.number == 0) refl
  where
    by : (b : Bool) → (s.file.number == 0) ≡ b
        → Fits j s p
        (next_in j Looking k (cond b Gone (Stands s.file.number (length s.file.now.text))))
    by true is =
        let none : s.file.number ≡ 0 = grind (arith, nat_tests) in
        begins_fits k.job j s p k laws refl none (omega (arith, below)) lock below calm
    by false is =
        let named' : 0 < s.file.number = grind (arith, nat_tests) in
        looked_fits j s p k laws still lock below calm knows named'

-- ---- reading the file

-- the holder after it has read these additional bytes
abbrev pub more_read : Holder → List ℕ → Holder
more_read k bytes = record k { seen = k.seen + length bytes; read = k.read ++ bytes }

pub more_reading : (j : Journal) (s : Shared) (k : Holder) (bytes : List ℕ) (n : ℕ)
    → IsReading j (sight s) k → bytes ≡ take n (drop k.seen s.file.now.text)
    → IsReading j (sight s) (more_read k bytes)
more_reading j s k bytes n r is =
    let rest = drop k.place s.file.now.text in
    let next = drop (length k.read) rest in
    let from : bytes ≡ take n next =
    is ∙ ap (take n) (ap (λ (m : ℕ). drop m s.file.now.text) r.seen
    ∙ sym (drop-drop (length k.read) k.place s.file.now.text)) in
    let parts : rest ≡ k.read ++ next = sym (take-append-drop (length k.read) rest)
    ∙ ap (λ (x : List ℕ). x ++ next) r.read in
    let fits : take (length bytes) next ≡ bytes = all_of bytes n next from in
    let all : take (length (k.read ++ bytes)) rest ≡ k.read ++ bytes =
    ap (λ (m : ℕ). take m rest) (length-append k.read bytes)
    ∙ (ap (take (length k.read + length bytes)) parts
    ∙ (take-append-add k.read next (length bytes) ∙ ap (λ (x : List ℕ). k.read ++ x) fits)) in
    record {
      knows = r.knows;
      same = r.same;
      named = r.named;
      size = r.size;
      seen = omega (arith, r.seen, length-append k.read bytes);
      read = all;
    }
  where
    front_again : (n : ℕ) (x : List ℕ) → take (length (take n x)) x ≡ take n x
    front_again zero x = refl
    front_again (suc n) [] = refl
    front_again (suc n) (y ∷ x) = ap (λ (z : List ℕ). y ∷ z) (front_again n x)

    all_of : (y : List ℕ) (n : ℕ) (x : List ℕ) → y ≡ take n x → take (length y) x ≡ y
    all_of y n x e = ap (λ (z : List ℕ). take (length z) x) e ∙ (front_again n x ∙ sym e)

pub has_read_fits : (j : Journal) (s : Shared) (p : ℕ) (k : Holder) (bytes : List ℕ) (n : ℕ)
    → IsJournal j → Still j s → (s.locked ≡ true) × (s.locker ≡ p) → k.file < s.next
    → Calm (sight s) k.settled k.file → IsReading j (sight s) k
    → bytes ≡ take n (drop k.seen s.file.now.text) → Fits j s p (has_read j k bytes)
has_read_fits j s p k [] n laws still lock below calm r is =
    dropped_fits j s p k fault.Read (omega (arith, below)) lock
has_read_fits j s p k (b ∷ bs) n laws still lock below calm r is =
    reads_on_fits j s p (more_read k (b ∷ bs)) laws still lock below calm
    (more_reading j s k (b ∷ bs) n r is)

-- ---- writing to the file

-- If a command is appended to the history, its position is later than the positions of all
-- responses that are not gone.
each_before : (j : Journal) (origin : List ℕ) (history : List (List ℕ)) (answers : List Answer)
    (n : ℕ) → length history < n → Each j origin history answers
    → AllByRecursion (λ a. a.is_gone ≡ false → a.place < n) answers
each_before j origin history [] n le h = tt
each_before j origin history (a ∷ answers) n le h = (
  λ there. (let t =
      h.0 there in omega (
        arith,
        le,
        t.place,
        ap length t.is,
        length-append t.before (a.command ∷ t.rest),
      )),
  each_before j origin history answers n le h.1,
)

last_one : (j : Journal) (s : Shared) (state c response : List ℕ) (history before : List (List ℕ))
    → Still j s → before ≡ s.history → history ≡ before ++ c ∷ []
    → state ≡ run j s.origin s.history → response ≡ j.response state c
    → IsLast j s.origin history s.answers c response
last_one j s state c response history before still same is at gives = record {
  before = before;
  is = is;
  gives =
      gives ∙ (ap (λ (x : List ℕ). j.response x c) at
      ∙ ap (λ (x : List (List ℕ)). j.response (run j s.origin x) c) (sym same));
  new = each_before j s.origin s.history s.answers (length history)
      (omega (arith, ap length is, ap length same, length-append before (c ∷ []))) still.each;
}

last_put : (job : Job) (j : Journal) (s : Shared) (c response : List ℕ) → Still j s
    → 0 < s.file.number → promises j Power job c ≡ false
    → Gives job j (state_of j s.file) c response
    → LastIf job j s.origin (s.history ++ adds j job c) s.answers c response
last_put Execute j s c response still named quiet gives = by (j.is_entered c) quiet
  where
    by : (b : Bool) → cond b false true ≡ false
        → LastIf Execute j s.origin (s.history ++ cond b (c ∷ []) []) s.answers c response
    by true quiet = last_one j s (state_of j s.file) c response (s.history ++ c ∷ []) s.history
        still refl refl (state_is j s still named) gives
    by false quiet = absurd cc
last_put Renew j s c response still named quiet gives = tt
last_put Show j s c response still named quiet gives =
    gives ∙ ap j.head (state_is j s still named ∙ ap (run j s.origin) (sym (append-nil s.history)))
last_put Begin j s c response still named quiet gives = tt
last_put Cut j s c response still named quiet gives = tt

put_all : (j : Journal) (s : Shared) (k : Holder) (t : Shared) (new : List (List ℕ)) (b : Bool)
    → is_always k.force ≡ b → (a : HasAll j s.file k.force k.file k.place k.unsure)
    → k.out ≡ k.unsure ++ entries j (spot_of j s.file) new → t.file.number ≡ s.file.number
    → body j t.file ≡ body j s.file ++ entries j (spot_of j s.file) new
    → t.file.forced ≡ min s.file.forced k.place
    → HasAll j t.file k.force k.file (sure k + length k.out) (cond b k.out [])
put_all j s k t new true word a out number text forced' =
    let rest = entries j (spot_of j s.file) new in
    let all : body j t.file ≡ a.front ++ k.out =
    text ∙ (ap (λ (x : List ℕ). x ++ rest) a.text
    ∙ (append_assoc a.front k.unsure rest ∙ ap (λ (x : List ℕ). a.front ++ x) (sym out))) in
    record {
      same = a.same ∙ sym number;
      named = omega (arith, a.named, number);
      front = a.front;
      text = all;
      reached = omega (
        arith,
        a.reached,
        ap length a.text,
        length-append a.front k.unsure,
        ap length all,
        length-append a.front k.out,
      );
      sure = λ always. omega (
        arith,
        a.sure always,
        forced',
        a.reached,
        ap length a.text,
        length-append a.front k.unsure,
      );
    }
put_all j s k t new false word a out number text forced' =
    let rest = entries j (spot_of j s.file) new in
    let all : body j t.file ≡ a.front ++ k.out =
    text ∙ (ap (λ (x : List ℕ). x ++ rest) a.text
    ∙ (append_assoc a.front k.unsure rest ∙ ap (λ (x : List ℕ). a.front ++ x) (sym out))) in
    record {
      same = a.same ∙ sym number;
      named = omega (arith, a.named, number);
      front = body j t.file;
      text = sym (append-nil (body j t.file));
      reached = omega (
        arith,
        a.reached,
        ap length a.text,
        length-append a.front k.unsure,
        ap length all,
        length-append a.front k.out,
      );
      sure = λ always. absurd (let e : false ≡ true = sym word ∙ always in cc);
    }

-- if a holder that syncs before each response has written its whole output, no dropped bytes are
-- missing from the file
undropped : (s : Shared) (k : Holder) → (is_always k.force ≡ true → sure k ≤ s.file.forced)
    → is_always k.force ≡ true → put_dropped s.file k (length k.out) ≡ false
undropped s k le word =
    let low = le word in
    let fits : (nat_le (length k.out) (length k.out) && nat_le (sure k) (min s.file.forced k.place))
    ≡ true = grind (arith, nat_tests) in
    rw fits refl

pub put_fits : (j : Journal) (s : Shared) (p : ℕ) (k : Holder) → Still j s
    → (s.locked ≡ true) × (s.locker ≡ p) → k.file < s.next → Calm (sight s) k.settled k.file
    → Puts j s.file k.job k → Fits j (folder_after_put j s k (length k.out)) p (has_put k)
put_fits j s p k still lock below calm puts = by (is_always k.force) refl
  where
    by : (b : Bool) → is_always k.force ≡ b → Fits j (folder_after_put j s k (length k.out)) p
        (record k {
          phase = cond b Forcing (settles k);
          place = sure k + length k.out;
          unsure =
              cond b k.out [];
          out = [];
        })
    by true word =
        let t = folder_after_put j s k (length k.out) in
        let new = adds j k.job k.command in
        let a = puts.all in
        let self : nat_le (length k.out) (length k.out) ≡ true = grind (arith, nat_tests) in
        let full : put_more j k (length k.out) ≡ new = rw self refl in
        let text : body j t.file ≡ body j s.file ++ entries j (spot_of j s.file) new =
        ap (λ (x : List (List ℕ)). whole j s.file.head s.file.start (s.file.now.commands ++ x)) full
        ∙ whole_both j s.file.head s.file.start s.file.now.commands new in
        let spot : spot_of j t.file ≡ trail j (spot_of j s.file) new =
        ap (λ (x : List (List ℕ)). trail j s.file.start (s.file.now.commands ++ x)) full
        ∙ trail_both j s.file.start s.file.now.commands new in
        let low : is_always k.force ≡ true → sure k ≤ s.file.forced = λ always.
        omega (arith, a.sure always, a.reached, ap length a.text, length-append a.front k.unsure) in
        record {
          lock = λ _. lock;
          now = (
            record {
              all = put_all j s k t new true word a puts.out refl text refl;
              has = puts.has ∙ ap (λ (x : Spot). Some x) (sym spot);
              last =
                  subst (λ (x : List (List ℕ)). LastIf k.job j s.origin (s.history ++ x) s.answers
                  k.command k.response) (sym full)
                  (last_put k.job j s k.command k.response still puts.all.named puts.quiet
                  puts.gives);
            },
            word,
            undropped s k low word,
          );
          below = below;
          calm = calm;
        }
    by false word =
        let t = folder_after_put j s k (length k.out) in
        let new = adds j k.job k.command in
        let self : nat_le (length k.out) (length k.out) ≡ true = grind (arith, nat_tests) in
        let full : put_more j k (length k.out) ≡ new = rw self refl in
        let text : body j t.file ≡ body j s.file ++ entries j (spot_of j s.file) new =
        ap (λ (x : List (List ℕ)). whole j s.file.head s.file.start (s.file.now.commands ++ x)) full
        ∙ whole_both j s.file.head s.file.start s.file.now.commands new in
        let spot : spot_of j t.file ≡ trail j (spot_of j s.file) new =
        ap (λ (x : List (List ℕ)). trail j s.file.start (s.file.now.commands ++ x)) full
        ∙ trail_both j s.file.start s.file.now.commands new in
        settles_fits j t p (record k { place = sure k + length k.out; unsure = []; out = [] }) lock
        below calm
        (record {
          all = put_all j s k t new false word puts.all puts.out refl text refl;
          has = puts.has ∙ ap (λ (x : Spot). Some x) (sym spot);
          last =
              subst (λ (x : List (List ℕ)). LastIf k.job j s.origin (s.history ++ x) s.answers
              k.command k.response) (sym full)
              (last_put k.job j s k.command k.response still puts.all.named puts.quiet puts.gives);
        })
        (λ yes'. absurd (quietly j k.force k.job k.command puts.quiet word yes'))

-- ---- syncing the file

pub forced_fits : (j : Journal) (s : Shared) (p : ℕ) (k : Holder) → Still j s
    → (s.locked ≡ true) × (s.locker ≡ p) → k.file < s.next → Calm (sight s) k.settled k.file
    → StaysOf j (sight s) k → s.file.is_dropped ≡ false
    → Fits j (record s { file = forced_file s.file }) p
    (record k { phase = settles k; unsure = [] })
forced_fits j s p k still lock below calm stays none =
    let t = record s { file = forced_file s.file } in
    let all = body j s.file in
    let far : length all ≤ length s.file.now.text =
    body_in j s.file.head s.file.start s.file.now (still.file.now.text stays.all.named) in
    let on : cond s.file.is_dropped s.file.forced (length s.file.now.text)
    ≡ length s.file.now.text = rw none refl in
    let past : cond s.file.is_dropped s.file.past [] ≡ [] = rw none refl in
    settles_fits j t p (record k { unsure = [] }) lock below calm
    (record {
      all = record {
        same = stays.all.same;
        named = stays.all.named;
        front = all;
        text = sym (append-nil all);
        reached = stays.all.reached;
        sure = λ _. omega (arith, far, on);
      };
      has = stays.has;
      last = stays.last;
    })
    (λ _. record { all = omega (arith, far, on); past = past })

-- ---- naming the new file

-- If the job executed a command, this command is the last command of the history after the new
-- journal gets its name.
last_named : (job : Job) (j : Journal) (s : Shared) (c response : List ℕ) → Still j s
    → 0 < s.file.number → Gives job j (state_of j s.file) c response
    → LastIf job j s.origin ((s.history ++ leads j job c) ++ adds j job c) s.answers c response
last_named Execute j s c response still named gives = by (j.is_entered c)
  where
    by : (b : Bool) → LastIf Execute j s.origin
        ((s.history ++ cond b [] (c ∷ [])) ++ cond b (c ∷ []) []) s.answers c response
    by true = last_one j s (state_of j s.file) c response ((s.history ++ []) ++ c ∷ [])
        (s.history ++ []) still (append-nil s.history) refl (state_is j s still named) gives
    by false = last_one j s (state_of j s.file) c response ((s.history ++ c ∷ []) ++ []) s.history
        still refl (append-nil (s.history ++ c ∷ [])) (state_is j s still named) gives
last_named Renew j s c response still named gives = tt
last_named Show j s c response still named gives =
    gives ∙ ap j.head (state_is j s still named
    ∙ ap (run j s.origin) (sym (append-nil (s.history ++ []) ∙ append-nil s.history)))
last_named Begin j s c response still named gives = tt
last_named Cut j s c response still named gives = tt

-- The new file contains the holder's output, and opens as the holder's device.
pub record IsNew (j : Journal) (origin : List ℕ) (s : Shared) (k : Holder) : Type 0 where
  pub body : body j (named_from j origin s k).file ≡ k.out
  pub has : k.device ≡ Some (spot_of j (named_from j origin s k).file)
  pub last : LastIf k.job j origin (named_from j origin s k).history s.answers k.command k.response

new_fits : (j : Journal) (origin : List ℕ) (s : Shared) (p : ℕ) (k : Holder)
    → (s.locked ≡ true) × (s.locker ≡ p) → 0 < s.next → length k.out ≤ s.fresh_forced
    → IsNew j origin s k → Fits j (named_from j origin s k) p (has_named k s.next)
new_fits j origin s p k lock next enough new = by (is_never k.force) refl
  where
    by : (b : Bool) → is_never k.force ≡ b → Fits j (named_from j origin s k) p
        (record k {
          phase = cond b (Leaving ending.Done) Settling;
          file = s.next;
          place =
              length k.out;
          unsure = [];
          settled = false;
        })
    by true word =
        let t = named_from j origin s k in
        let far : length (body j t.file) ≤ s.fresh_forced =
        omega (arith, enough, ap length new.body) in
        record {
          lock = λ _. lock;
          now = record {
            stays = record {
              all = record {
                same = refl;
                named = next;
                front = body j t.file;
                text =
                    sym (append-nil (body j t.file));
                reached = ap length (sym new.body);
                sure =
                    λ _. far;
              };
              has = new.has;
              last = new.last;
            };
            forced = λ _. record { all = far; past = refl };
            settled = λ other. absurd (let e : true ≡ false = sym word ∙ other in cc);
          };
          below = omega arith;
          calm = λ e. absurd cc;
        }
    by false word =
        let t = named_from j origin s k in
        let far : length (body j t.file) ≤ s.fresh_forced =
        omega (arith, enough, ap length new.body) in
        record {
          lock = λ _. lock;
          now = (
            record {
              all = record {
                same = refl;
                named = next;
                front = body j t.file;
                text =
                    sym (append-nil (body j t.file));
                reached = ap length (sym new.body);
                sure =
                    λ _. far;
              };
              has = new.has;
              last = new.last;
            },
            λ _. record { all = far; past = refl },
          );
          below = omega arith;
          calm = λ e. absurd cc;
        }

follows_new : (j : Journal) (s : Shared) (k : Holder) → Still j s
    → Follows j s.file k.job k.command k.device k.out k.response → IsNew j s.origin s k
follows_new j s k still h =
    let lead = leads j k.job k.command in
    let base : run j (state_of j s.file) lead ≡ run j s.origin (s.history ++ lead) =
    ap (λ (x : List ℕ). run j x lead) (state_is j s still h.named)
    ∙ sym (run_both j s.origin s.history lead) in
    record {
      body = ap (λ (x : List ℕ). begun j x (adds j k.job k.command)) (sym base) ∙ sym h.text;
      has = h.has ∙ ap (λ (x : List ℕ). Some (trail j (first_spot j x) (adds j k.job k.command)))
          base;
      last = last_named k.job j s k.command k.response still h.named h.gives;
    }

founds_new : (j : Journal) (s : Shared) (k : Holder) → Still j s
    → (h : Founds j s.file k.job k.device k.out) → IsNew j h.state s k
founds_new j s k still h =
    let lead = leads j k.job k.command in
    let new = adds j k.job k.command in
    let begins' : s.history ++ lead ≡ [] =
    ap (λ (x : List (List ℕ)). x ++ lead) (unnamed_history j s still h.unnamed)
    ∙ ap (λ (job : Job). leads j job k.command) h.is in
    let addless : new ≡ [] = ap (λ (job : Job). adds j job k.command) h.is in
    record {
      body = ap (λ (x : List (List ℕ)). begun j (run j h.state x) new) begins'
          ∙ (ap (begun j h.state) addless ∙ (append-nil (j.head h.state) ∙ sym h.text));
      has = h.has ∙ ap (λ (x : Spot). Some x)
          (sym (ap (λ (x : List (List ℕ)). trail j (first_spot j (run j h.state x)) new) begins'
          ∙ ap (trail j (first_spot j h.state)) addless));
      last =
          subst (λ (job : Job). LastIf job j h.state
          ((s.history ++ leads j job k.command) ++ adds j job k.command) s.answers k.command
          k.response) (sym h.is) tt;
    }

pub named_fits : (j : Journal) (s : Shared) (p : ℕ) (k : Holder) → Still j s
    → (s.locked ≡ true) × (s.locker ≡ p) → k.file < s.next → Makes j (sight s) k
    → length k.out ≤ s.fresh_forced
    → Fits j (folder_after_naming j s k) p (has_named k s.next)
named_fits j s p k still lock below (inl h) enough =
    let is : (s.file.number == 0) ≡ false = let named' = h.named in grind (arith, nat_tests) in
    subst (λ (b : Bool). Fits j (named_from j (cond b (state_in k.device) s.origin) s k) p
    (has_named k s.next)) (sym is)
    (new_fits j s.origin s p k lock (omega (arith, below)) enough (follows_new j s k still h))
named_fits j s p k still lock below (inr h) enough =
    let is : (s.file.number == 0) ≡ true = let none = h.unnamed in grind (arith, nat_tests) in
    let from : state_in k.device ≡ h.state = ap state_in h.has in
    subst (λ (b : Bool). Fits j (named_from j (cond b (state_in k.device) s.origin) s k) p
    (has_named k s.next)) (sym is)
    (subst (λ (x : List ℕ). Fits j (named_from j x s k) p (has_named k s.next)) (sym from)
    (new_fits j h.state s p k lock (omega (arith, below)) enough (founds_new j s k still h)))
