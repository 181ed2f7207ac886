-- If the host does all its tasks, a call ends after at most six steps, plus one for each byte of
-- the file.
use Rattle.std.proofs.Common.{◌≡◌, ℕ, suc, ◌+◌, ◌-◌, ◌<◌, ◌≤◌, ◌==◌, ◌||◌, Bool, true, false, cond, List, [], ◌∷◌, length, take, drop, Some, None, Option, refl, sym, ap, ◌∙◌, subst, arith}
use Rattle.std.proofs.lemmas.Bool.Decides.{nat_tests}
use Rattle.std.proofs.lemmas.List.{length-drop, take_all}
use Rattle.tpm_keeping.specs.Journal.{Journal, IsJournal, Spot}
use Rattle.tpm_keeping.specs.Holder.{Holder, Done, Gone, Stands, acts, asked_in, begins, begins_of, caught_up, enters, executes, finishes, found_spot, goes, has_named, has_put, has_read, holder_after_look, is_always, is_grown, is_never, is_read, knows_file, leaps, next_in, reads_on, refuses, settles}
use Rattle.tpm_keeping.specs.World.{All, Asks, Does, Event, IsStart, Shared, World, does, does_in, folder_after_leaving, happens, tells, with_holder, world_after}
use Rattle.tpm_keeping.specs.Kept.{HasEnded, begun_or, end_of, end_with, end_without, turns}
use Rattle.tpm_keeping.proofs.Invariant.{Fine, In, IsReading, KnowsOf, Still, sight, spot_of}
use Rattle.tpm_keeping.proofs.Reading.{caught}
use Rattle.tpm_keeping.proofs.OneStep.{again, again_reading, anew, anew_reading, more_read, more_reading}
use Rattle.tpm_keeping.proofs.Runs.{run_is_fine, step}
use Rattle.tpm_keeping.specs.declared.holder.Job.{Job}
use Rattle.tpm_keeping.specs.declared.holder.Job.TheVariants.{Execute, Renew, Show, Begin, Cut}
use Rattle.tpm_keeping.specs.declared.holder.Fault.TheVariants as fault
use Rattle.tpm_keeping.specs.declared.holder.End.{End}
use Rattle.tpm_keeping.specs.declared.holder.End.TheVariants as ending
use Rattle.tpm_keeping.specs.declared.holder.Phase.{Phase}
use Rattle.tpm_keeping.specs.declared.holder.Phase.TheVariants.{Ended, Locking, Looking, Reading, Putting, Forcing, Making, Naming, Settling, Leaving}

-- A holder in this phase ends its call with the result `e` after at most `steps` steps.
abbrev Heads : Phase → (e : End) → Journal → Shared → Holder → (steps : ℕ) → Type 0
Heads (Ended x) e j s k n = (x ≡ e) × (s.locked ≡ false)
Heads Locking e j s k n = (s.locked ≡ false) × (end_of j s.file k.job k.command ≡ e)
    × (6 + length s.file.now.text ≤ n)
Heads Looking e j s k n = (end_of j s.file k.job k.command ≡ e) × (5 + length s.file.now.text ≤ n)
Heads Reading e j s k n = (end_with j k.job k.command ≡ e) × (k.seen < k.size)
    × (4 + (k.size - k.seen) ≤ n)
Heads Putting e j s k n = (ending.Done ≡ e) × (4 ≤ n)
Heads Making e j s k n = (ending.Done ≡ e) × (4 ≤ n)
Heads Forcing e j s k n = (ending.Done ≡ e) × (3 ≤ n)
Heads Naming e j s k n = (ending.Done ≡ e) × (3 ≤ n)
Heads Settling e j s k n = (ending.Done ≡ e) × (2 ≤ n)
Heads (Leaving x) e j s k n = (x ≡ e) × (1 ≤ n)

abbrev HeadsFor : (e : End) → Journal → Shared → Holder → (steps : ℕ) → Type 0
HeadsFor e j s k n = Heads k.phase e j s k n

-- ---- what a holder does

chosen : (e : End) (j : Journal) (s : Shared) (k : Holder) (n : ℕ) (b : Bool) (x y : Phase)
    → Heads x e j s k n → Heads y e j s k n → Heads (cond b x y) e j s k n
chosen e j s k n true x y hx hy = hx
chosen e j s k n false x y hx hy = hy

settles_heads : (e : End) (j : Journal) (s : Shared) (k l : Holder) (n : ℕ) → ending.Done ≡ e
    → 2 ≤ n → Heads (settles k) e j s l n
settles_heads e j s k l n is le =
    chosen e j s l n (k.settled || is_never k.force) (Leaving ending.Done) Settling
    (is, omega (arith, le)) (is, le)

shows_heads : (e : End) (j : Journal) (s : Shared) (k l : Holder) (n : ℕ) → ending.Done ≡ e → 4 ≤ n
    → Heads (cond (is_always k.force) Putting (settles k)) e j s l n
shows_heads e j s k l n is le =
    chosen e j s l n (is_always k.force) Putting (settles k) (is, le)
    (settles_heads e j s k l n is (omega (arith, le)))

enters_heads : (e : End) (j : Journal) (s : Shared) (k : Holder) (p : Spot) (n : ℕ) (b : Bool)
    → ending.Done ≡ e → 4 ≤ n → HeadsFor e j s (enters j k p b) n
enters_heads e j s k p n true is le = (is, le)
enters_heads e j s k p n false is le = (is, le)

executes_heads : (e : End) (j : Journal) (s : Shared) (k : Holder) (p : Spot) (n : ℕ)
    → end_with j Execute k.command ≡ e → 4 ≤ n → HeadsFor e j s (executes j k p) n
executes_heads e j s k p n is le = by (j.is_command k.command) (j.is_entered k.command) is
  where
    by : (a b : Bool) → cond a ending.Done (ending.Failed fault.NoCommand) ≡ e
        → HeadsFor e j s
        (cond a (cond b (enters j k p (is_grown j k p)) (leaps j k p)) (refuses k p)) n
    by false b is = (is, omega (arith, le))
    by true true is = enters_heads e j s k p n (is_grown j k p) is le
    by true false is = (is, le)

acts_heads : (job : Job) (e : End) (j : Journal) (s : Shared) (k : Holder) (p : Spot) (n : ℕ)
    → end_with j job k.command ≡ e → 4 ≤ n → HeadsFor e j s (acts j job k p) n
acts_heads Execute e j s k p n is le = executes_heads e j s k p n is le
acts_heads Renew e j s k p n is le = (is, le)
acts_heads Show e j s k p n is le = shows_heads e j s k (acts j Show k p) n is le
acts_heads Begin e j s k p n is le = shows_heads e j s k (acts j Begin k p) n is le
acts_heads Cut e j s k p n is le = shows_heads e j s k (acts j Cut k p) n is le

-- If n is at least 4 plus the number of unread bytes, a holder that reads on ends its call with the
-- result `e` within n steps.
reads_on_heads : (e : End) (j : Journal) (s : Shared) (k : Holder) (n : ℕ) → IsJournal j → Still j s
    → IsReading j (sight s) k → end_with j k.job k.command ≡ e
    → 4 + (k.size - k.seen) ≤ n → HeadsFor e j s (reads_on j k) n
reads_on_heads e j s k n laws still r is le = by (is_read k) refl
  where
    by : (b : Bool) → is_read k ≡ b
        → HeadsFor e j s (cond b (finishes j k (found_spot j k.device k.read)) (goes Reading k)) n
    by true done =
        let far : k.size ≤ k.seen = grind (arith, nat_tests) in
        let rest = drop k.place s.file.now.text in
        let all : length rest ≤ length k.read =
        omega (arith, far, r.size, r.seen, length-drop k.place s.file.now.text) in
        let read : k.read ≡ rest = sym r.read ∙ take_all (length k.read) rest all in
        let c = caught j s k laws still r.knows r.same r.named read in
        subst (λ (o : Option (Spot × ℕ)). HeadsFor e j s (finishes j k o) n) (sym c.is)
        (acts_heads k.job e j s (caught_up k c.taken) (spot_of j s.file) n is (omega (arith, le)))
    by false more = let less : k.seen < k.size = grind (arith, nat_tests) in (is, less, le)

-- A read of at least one byte brings the holder one step closer to the end of its call.
has_read_heads : (e : End) (j : Journal) (s : Shared) (k : Holder) (bytes : List ℕ) (m n : ℕ)
    → IsJournal j → Still j s → IsReading j (sight s) k → end_with j k.job k.command ≡ e
    → bytes ≡ take m (drop k.seen s.file.now.text) → 0 < length bytes
    → 4 + (k.size - k.seen) ≤ suc n → k.seen < k.size → HeadsFor e j s (has_read j k bytes) n
has_read_heads e j s k [] m n laws still r is from some le less = absurd (omega (arith, some))
has_read_heads e j s k (b ∷ bs) m n laws still r is from some le less =
    reads_on_heads e j s (more_read k (b ∷ bs)) n laws still (more_reading j s k (b ∷ bs) m r from)
    is (omega (arith, some, le, less))

looked_heads : (e : End) (j : Journal) (s : Shared) (k : Holder) (n : ℕ) → IsJournal j → Still j s
    → KnowsOf j (sight s) k → 0 < s.file.number
    → end_with j k.job k.command ≡ e → 4 + length s.file.now.text ≤ n
    → HeadsFor e j s (holder_after_look j k s.file.number (length s.file.now.text)) n
looked_heads e j s k n laws still knows named is le =
    by (knows_file k s.file.number (length s.file.now.text)) refl
  where
    by : (b : Bool) → knows_file k s.file.number (length s.file.now.text) ≡ b
        → HeadsFor e j s (cond b (reads_on j (again s k)) (reads_on j (anew s k))) n
    by true known = reads_on_heads e j s (again s k) n laws still
        (again_reading j s k known knows named) is (omega (arith, le))
    by false other = reads_on_heads e j s (anew s k) n laws still (anew_reading j s k named) is
        (omega (arith, le))

begins_heads : (job : Job) (e : End) (j : Journal) (s : Shared) (k : Holder) (n : ℕ)
    → end_without j job k.command ≡ e → 4 ≤ n → HeadsFor e j s (begins j job k) n
begins_heads Begin e j s k n is le = by (j.begun k.command) is
  where
    by : (o : Option (List ℕ)) → begun_or o ≡ e → HeadsFor e j s (begins_of j k o) n
    by None is = (is, omega (arith, le))
    by (Some state) is = (is, le)
begins_heads Execute e j s k n is le = (is, omega (arith, le))
begins_heads Renew e j s k n is le = (is, omega (arith, le))
begins_heads Show e j s k n is le = (is, omega (arith, le))
begins_heads Cut e j s k n is le = (is, omega (arith, le))

looks_heads : (e : End) (j : Journal) (s : Shared) (k : Holder) (more n : ℕ) → IsJournal j
    → Still j s → KnowsOf j (sight s) k
    → end_of j s.file k.job k.command ≡ e → 4 + length s.file.now.text ≤ n
    → HeadsFor e j s (next_in j Looking k (tells Looking s k more)) n
looks_heads e j s k more n laws still knows is le = by (s.file.number == 0) refl is
  where
    by : (b : Bool) → (s.file.number == 0) ≡ b
        → cond b (end_without j k.job k.command) (end_with j k.job k.command) ≡ e
        → HeadsFor e j s
        (next_in j Looking k (cond b Gone (Stands s.file.number (length s.file.now.text)))) n
    by true none is = begins_heads k.job e j s k n is (omega (arith, le))
    by false there is =
        let named' : 0 < s.file.number = grind (arith, nat_tests) in
        looked_heads e j s k n laws still knows named' is le

-- ---- one step of the process

-- The process `p` ends its call with the result `e` after at most `steps` steps.
abbrev HeadsIn : (e : End) → Journal → World → (p steps : ℕ) → Type 0
HeadsIn e j w p n = HeadsFor e j w.shared (w.holders p) n

put_there : (e : End) (j : Journal) (w : World) (s : Shared) (p n : ℕ) (k : Holder)
    → HeadsFor e j s k n → HeadsIn e j (with_holder s w.holders p k) p n
put_there e j w s p n k h =
    let mine : (p == p) ≡ true = grind (arith, nat_tests) in
    subst (λ (b : Bool). HeadsFor e j s (cond b k (w.holders p)) n) (sym mine) h

some_read : (k : Holder) (s : Shared) (more : ℕ) → k.seen < length s.file.now.text
    → 0 < length (take (suc more) (drop k.seen s.file.now.text))
some_read k s more less =
    by (drop k.seen s.file.now.text) (omega (arith, less, length-drop k.seen s.file.now.text))
  where
    by : (x : List ℕ) → 0 < length x → 0 < length (take (suc more) x)
    by [] some = absurd (omega (arith, some))
    by (b ∷ x) some = omega arith

does_heads : (phase : Phase) (e : End) (j : Journal) (w : World) (p more n : ℕ) → IsJournal j
    → Fine j w → In phase j (sight w.shared) (w.holders p) → (w.holders p).phase ≡ phase
    → Heads phase e j w.shared (w.holders p) (suc n)
    → HeadsIn e j (does_in j phase w p (w.holders p) more) p n
does_heads (Ended x) e j w p more n laws fine now is h =
    subst (λ (y : Phase). Heads y e j w.shared (w.holders p) n) (sym is) h
does_heads Locking e j w p more n laws fine now is h =
    let s : Shared = record w.shared { locked = true; locker = p } in
    let new = with_holder s w.holders p (goes Looking (w.holders p)) in
    subst (λ (b : Bool). HeadsIn e j (cond b w new) p n) (sym h.0)
    (put_there e j w s p n (goes Looking (w.holders p)) (h.1, omega (arith, h.2)))
does_heads (Leaving x) e j w p more n laws fine now is h =
    put_there e j w (folder_after_leaving j x w.shared (w.holders p)) p n
    (goes (Ended x) (w.holders p)) (h.0, unlocked x)
  where
    unlocked : (x : End) → (folder_after_leaving j x w.shared (w.holders p)).locked ≡ false
    unlocked ending.Done = refl
    unlocked (ending.Failed f) = refl
does_heads Looking e j w p more n laws fine now is h =
    let k = w.holders p in
    put_there e j w w.shared p n (next_in j Looking k (tells Looking w.shared k more))
    (looks_heads e j w.shared k more n laws fine.still now h.0 (omega (arith, h.1)))
does_heads Reading e j w p more n laws fine now is h =
    let k = w.holders p in
    let s = w.shared in
    let bytes = take (suc more) (drop k.seen s.file.now.text) in
    put_there e j w s p n (has_read j k bytes)
    (has_read_heads e j s k bytes (suc more) n laws fine.still now h.0
    refl (some_read k s more (omega (arith, h.1, now.size))) h.2 h.1)
does_heads Putting e j w p more n laws fine now is h =
    let k = w.holders p in
    let s = does j Putting w.shared k All in
    put_there e j w s p n (has_put k)
    (chosen e j s (has_put k) n (is_always k.force) Forcing (settles k) (h.0, omega (arith, h.1))
    (settles_heads e j s k (has_put k) n h.0 (omega (arith, h.1))))
does_heads Forcing e j w p more n laws fine now is h =
    let k = w.holders p in
    let s = does j Forcing w.shared k All in
    let new = next_in j Forcing k Done in
    put_there e j w s p n new (settles_heads e j s k new n h.0 (omega (arith, h.1)))
does_heads Making e j w p more n laws fine now is h =
    put_there e j w (does j Making w.shared (w.holders p) All) p n (goes Naming (w.holders p))
    (h.0, omega (arith, h.1))
does_heads Naming e j w p more n laws fine now is h =
    let k = w.holders p in
    let s = does j Naming w.shared k All in
    let new = has_named k s.file.number in
    put_there e j w s p n new
    (chosen e j s new n (is_never k.force) (Leaving ending.Done) Settling
    (h.0, omega (arith, h.1)) (h.0, omega (arith, h.1)))
does_heads Settling e j w p more n laws fine now is h =
    put_there e j w (does j Settling w.shared (w.holders p) All) p n
    (next_in j Settling (w.holders p) Done) (h.0, omega (arith, h.1))

-- ---- all steps

-- a holder with zero steps left has ended its call
ended : (phase : Phase) (e : End) (j : Journal) (s : Shared) (k : Holder) → Heads phase e j s k 0
    → (phase ≡ Ended e) × (s.locked ≡ false)
ended (Ended x) e j s k h = (ap (λ (y : End). Ended y) h.0, h.1)
ended Locking e j s k h = absurd (omega (arith, h.2))
ended Looking e j s k h = absurd (omega (arith, h.1))
ended Reading e j s k h = absurd (omega (arith, h.2))
ended Putting e j s k h = absurd (omega (arith, h.1))
ended Making e j s k h = absurd (omega (arith, h.1))
ended Forcing e j s k h = absurd (omega (arith, h.1))
ended Naming e j s k h = absurd (omega (arith, h.1))
ended Settling e j s k h = absurd (omega (arith, h.1))
ended (Leaving x) e j s k h = absurd (omega (arith, h.1))

all_turns : (mores : List ℕ) (e : End) (j : Journal) (w : World) (p : ℕ) → IsJournal j → Fine j w
    → HeadsIn e j w p (length mores) → HasEnded (world_after j (turns p mores) w) p e
all_turns [] e j w p laws fine h = ended (w.holders p).phase e j w.shared (w.holders p) h
all_turns (more ∷ mores) e j w p laws fine h =
    all_turns mores e j (happens j w (Does p more)) p laws (step j w (Does p more) laws fine)
    (does_heads (w.holders p).phase e j w p more (length mores) laws fine (fine.holders p).now
    refl h)

asked_heads : (phase : Phase) (x : End) (j : Journal) (s : Shared) (k : Holder) (job : Job)
    (command : List ℕ) (n : ℕ) → phase ≡ Ended x → s.locked ≡ false
    → 6 + length s.file.now.text ≤ n
    → HeadsFor (end_of j s.file job command) j s (asked_in phase k job command) n
asked_heads (Ended y) x j s k job command n is free le = (free, refl, le)
asked_heads Locking x j s k job command n is free le = absurd cc
asked_heads Looking x j s k job command n is free le = absurd cc
asked_heads Reading x j s k job command n is free le = absurd cc
asked_heads Putting x j s k job command n is free le = absurd cc
asked_heads Forcing x j s k job command n is free le = absurd cc
asked_heads Making x j s k job command n is free le = absurd cc
asked_heads Naming x j s k job command n is free le = absurd cc
asked_heads Settling x j s k job command n is free le = absurd cc
asked_heads (Leaving y) x j s k job command n is free le = absurd cc

pub calls_end : (j : Journal) (start : World) (events : List Event) (p : ℕ) (e : End) (job : Job)
    (command mores : List ℕ) → IsJournal j → IsStart j start
    → ((world_after j events start).holders p).phase ≡ Ended e
    → (world_after j events start).shared.locked ≡ false
    → 6 + length (world_after j events start).shared.file.now.text ≤ length mores
    → HasEnded (world_after j (Asks p job command ∷ turns p mores) (world_after j events start)) p
    (end_of j (world_after j events start).shared.file job command)
calls_end j start events p e job command mores laws h rests free le =
    let w = world_after j events start in
    let k = w.holders p in
    let fine = run_is_fine j start events laws h in
    let begun = happens j w (Asks p job command) in
    all_turns mores (end_of j w.shared.file job command) j begun p laws
    (step j w (Asks p job command) laws fine)
    (put_there (end_of j w.shared.file job command) j w w.shared p (length mores)
    (asked_in k.phase k job command)
    (asked_heads k.phase e j w.shared k job command (length mores) rests free le))
