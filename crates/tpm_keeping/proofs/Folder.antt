-- Whatever a holder does to the folder, the invariant of the folder still holds.
use Rattle.std.proofs.Common.{◌≡◌, ◌⊎◌, ℕ, zero, suc, ◌+◌, ◌-◌, ◌<◌, ◌≤◌, ◌==◌, Bool, true, false, cond, List, [], ◌∷◌, ◌++◌, length, take, drop, min, Option, refl, sym, ap, ◌∙◌, subst, arith, inl, inr, append_assoc, length-append}
use Rattle.std.specs.List.{AllByRecursion}
use Rattle.std.specs.Prelude.{nat_le}
use Rattle.std.proofs.lemmas.Bool.Decides.{nat_tests}
use Rattle.std.proofs.lemmas.List.{append-nil, drop-drop, drop_all, drop_at, take_all, take_at}
use Rattle.tpm_keeping.specs.Journal.{Entered, Journal, IsJournal, Spot, entries, first_spot, run, trail}
use Rattle.tpm_keeping.specs.Holder.{Holder, is_always, sure}
use Rattle.tpm_keeping.specs.World.{Answer, Content, File, Shared, adds, leads, written_bytes, put_more, put_on, folder_after_put, forced_file, named_from, folder_after_naming, state_in}
use Rattle.tpm_keeping.proofs.Entries.{entered_both, run_lives, trail_lives, trail_state, whole, run_both, whole_both, whole_length}
use Rattle.tpm_keeping.proofs.Invariant.{spot_of, Calm, begun, body, state_of, IsText, IsContent, IsFile, Each, Still, sight, IsAt, Knows, Puts, Follows, Founds, Makes}
use Rattle.tpm_keeping.specs.declared.holder.Force.{Force}
use Rattle.tpm_keeping.specs.declared.holder.Job.{Job}
use Rattle.tpm_keeping.specs.declared.holder.Job.TheVariants.{Execute, Renew, Show, Begin, Cut}

-- ---- a longer history

content_longer : (j : Journal) (head : List ℕ) (start : Spot) (number : ℕ)
    (history before surely more : List (List ℕ)) (c : Content)
    → IsContent j head start number history before surely c
    → IsContent j head start number (history ++ more) before surely c
content_longer j head start number history before surely more c h = record {
  rest = h.rest;
  has = h.has;
  more = h.more ++ more;
  of = ap (λ (x : List (List ℕ)). x ++ more) h.of
      ∙ (append_assoc before (c.commands ++ h.more) more
      ∙ ap (λ (x : List (List ℕ)). before ++ x) (append_assoc c.commands h.more more));
  entered = h.entered;
  text = h.text;
  empty = h.empty;
}

contents_longer : (j : Journal) (head : List ℕ) (start : Spot) (number : ℕ)
    (history before surely more : List (List ℕ)) (cs : List Content)
    → AllByRecursion (IsContent j head start number history before surely) cs
    → AllByRecursion (IsContent j head start number (history ++ more) before surely) cs
contents_longer j head start number history before surely more [] h = tt
contents_longer j head start number history before surely more (c ∷ cs) h = (
  content_longer j head start number history before surely more c h.0,
  contents_longer j head start number history before surely more cs h.1,
)

file_longer : (j : Journal) (origin : List ℕ) (history more : List (List ℕ)) (promised : ℕ)
    (lasting : Bool) (next later : ℕ) (f : File) → next ≤ later
    → IsFile j origin history promised lasting next f
    → IsFile j origin (history ++ more) promised lasting later f
file_longer j origin history more promised lasting next later f le h = record {
  surely = h.surely;
  enough = h.enough;
  kept = h.kept;
  lasts = h.lasts;
  below = omega (arith, h.below, le);
  unnamed = h.unnamed;
  headed = h.headed;
  now = content_longer j f.head f.start f.number history f.before h.surely more f.now h.now;
  past = contents_longer j f.head f.start f.number history f.before h.surely more f.past h.past;
}

files_longer : (j : Journal) (origin : List ℕ) (history more : List (List ℕ)) (promised : ℕ)
    (lasting : Bool) (next later : ℕ) (fs : List File) → next ≤ later
    → AllByRecursion (IsFile j origin history promised lasting next) fs
    → AllByRecursion (IsFile j origin (history ++ more) promised lasting later) fs
files_longer j origin history more promised lasting next later [] le h = tt
files_longer j origin history more promised lasting next later (f ∷ fs) le h = (
  file_longer j origin history more promised lasting next later f le h.0,
  files_longer j origin history more promised lasting next later fs le h.1,
)

each_longer : (j : Journal) (origin : List ℕ) (history more : List (List ℕ)) (answers : List Answer)
    → Each j origin history answers → Each j origin (history ++ more) answers
each_longer j origin history more [] h = tt
each_longer j origin history more (a ∷ answers) h = (
  λ there. (
      let t = h.0 there in
      record {
        before = t.before;
        rest = t.rest ++ more;
        is = ap (λ (x : List (List ℕ)). x ++ more) t.is
            ∙ append_assoc t.before (a.command ∷ t.rest) more;
        place = t.place;
        response = t.response;
      }
      ),
  each_longer j origin history more answers h.1,
)

-- ---- the bytes after a write

-- If the first n bytes of `same ++ rest` overwrite the start of `same`, the result is `same`,
-- followed by the part of `rest` that was written.
again : (same rest : List ℕ) (n : ℕ)
    → take n (same ++ rest) ++ drop (length (take n (same ++ rest))) same
    ≡ same ++ take (n - length same) rest
again [] rest n =
    let none : drop {A = ℕ} (length (take n rest)) [] ≡ [] =
    drop_all (length (take n rest)) [] (omega arith) in
    let same : n ≡ n - 0 = omega arith in
    ap (λ (x : List ℕ). take n rest ++ x) none
    ∙ (append-nil (take n rest) ∙ ap (λ (m : ℕ). take m rest) same)
again (x ∷ same) rest zero =
    let none : 0 ≡ 0 - length (x ∷ same) = omega arith in
    sym (append-nil (x ∷ same)) ∙ ap (λ (m : ℕ). (x ∷ same) ++ take m rest) none
again (x ∷ same) rest (suc n) =
    let less : n - length same ≡ suc n - length (x ∷ same) = omega arith in
    let drops : drop (length (x ∷ take n (same ++ rest))) (x ∷ same)
    ≡ drop (length (take n (same ++ rest))) same = refl in
    ap (λ (y : List ℕ). x ∷ (take n (same ++ rest) ++ y)) drops
    ∙ (ap (λ (y : List ℕ). x ∷ y) (again same rest n)
    ∙ ap (λ (m : ℕ). x ∷ (same ++ take m rest)) less)

pub over : (front same rest : List ℕ) (n : ℕ)
    → written_bytes (front ++ same) (length front) (take n (same ++ rest))
    ≡ (front ++ same) ++ take (n - length same) rest
over front same rest n =
    let bytes = take n (same ++ rest) in
    let before : take (length front) (front ++ same) ≡ front =
    take_at front same (length front) refl in
    let behind : drop (length front + length bytes) (front ++ same) ≡ drop (length bytes) same =
    sym (drop-drop (length bytes) (length front) (front ++ same))
    ∙ ap (drop (length bytes)) (drop_at front same (length front) refl) in
    ap (λ (x : List ℕ). x ++ (bytes ++ drop (length front + length bytes) (front ++ same))) before
    ∙ (ap (λ (x : List ℕ). front ++ (bytes ++ x)) behind
    ∙ (ap (λ (x : List ℕ). front ++ x) (again same rest n)
    ∙ sym (append_assoc front same (take (n - length same) rest))))

-- ---- the commands that a job adds

-- each command that a job adds has an entry
pub adds_entered : (j : Journal) (job : Job) (c : List ℕ) → Entered j (adds j job c)
adds_entered j Execute c = by (j.is_entered c) refl
  where
    by : (b : Bool) → j.is_entered c ≡ b → Entered j (cond b (c ∷ []) [])
    by true is = (is, tt)
    by false is = tt
adds_entered j Renew c = tt
adds_entered j Show c = tt
adds_entered j Begin c = tt
adds_entered j Cut c = tt

-- After a write, the file consists of complete entries and a torn end.
pub record IsPut (j : Journal) (s : Shared) (k : Holder) (n : ℕ) : Type 0 where
  pub tail : List ℕ
  pub is : (put_on j s.file k n).now.text
      ≡ whole j s.file.head s.file.start (s.file.now.commands ++ put_more j k n) ++ tail
  pub torn : j.is_torn (trail j s.file.start (s.file.now.commands ++ put_more j k n)) tail ≡ true

-- an empty list of bytes is torn, and so is a proper prefix of the entry that a job adds
less_torn : (j : Journal) (p : Spot) (job : Job) (c : List ℕ) (m : ℕ) → IsJournal j
    → j.is_state p.state ≡ true
    → (m < length (entries j p (adds j job c))) ⊎ (m ≡ 0)
    → j.is_torn p (take m (entries j p (adds j job c))) ≡ true
less_torn j p job c m laws lives (inr none) =
    ap (λ (i : ℕ). j.is_torn p (take i (entries j p (adds j job c)))) none ∙ laws.nothing p
less_torn j p Execute c m laws lives (inl le) = by (j.is_entered c) refl le
  where
    by : (b : Bool) → j.is_entered c ≡ b → m < length (entries j p (cond b (c ∷ []) []))
        → j.is_torn p (take m (entries j p (cond b (c ∷ []) []))) ≡ true
    by true is le =
        let one : entries j p (c ∷ []) ≡ j.entry p c = append-nil (j.entry p c) in
        ap (λ (x : List ℕ). j.is_torn p (take m x)) one
        ∙ laws.front p c m lives is (omega (arith, le, ap length one))
    by false is le = absurd (omega (arith, le))
less_torn j p Renew c m laws lives (inl le) = absurd (omega (arith, le))
less_torn j p Show c m laws lives (inl le) = absurd (omega (arith, le))
less_torn j p Begin c m laws lives (inl le) = absurd (omega (arith, le))
less_torn j p Cut c m laws lives (inl le) = absurd (omega (arith, le))

-- The file's bytes after a `Put`: the complete entries, and the written part of the new entry.
put_text : (j : Journal) (s : Shared) (k : Holder) (n : ℕ)
    (t : IsText j s.file.head s.file.start s.file.now) → Puts j s.file k.job k
    → (put_on j s.file k n).now.text
    ≡ body j s.file ++ take (n - length k.unsure)
    (entries j (spot_of j s.file) (adds j k.job k.command))
put_text j s k n t puts =
    let b = body j s.file in
    let rest = entries j (spot_of j s.file) (adds j k.job k.command) in
    let a = puts.all in
    let cut : take k.place s.file.now.text ≡ a.front ++ k.unsure =
    ap (take k.place) t.is ∙ (take_at b t.tail k.place (sym a.reached) ∙ a.text) in
    let at : sure k ≡ length a.front =
    omega (arith, a.reached, ap length a.text, length-append a.front k.unsure) in
    ap (λ (x : List ℕ). written_bytes x (sure k) (take n k.out)) cut
    ∙ (ap (λ (m : ℕ). written_bytes (a.front ++ k.unsure) m (take n k.out)) at
    ∙ (ap (λ (x : List ℕ). written_bytes (a.front ++ k.unsure) (length a.front) (take n x)) puts.out
    ∙ (over a.front k.unsure rest n
    ∙ ap (λ (x : List ℕ). x ++ take (n - length k.unsure) rest) (sym a.text))))

pub is_put : (j : Journal) (s : Shared) (k : Holder) (n : ℕ) → IsJournal j
    → j.is_state (state_of j s.file) ≡ true
    → IsText j s.file.head s.file.start s.file.now → Puts j s.file k.job k → IsPut j s k n
is_put j s k n laws lives t puts = by (nat_le (length k.out) n) refl
  where
    by : (b : Bool) → nat_le (length k.out) n ≡ b → IsPut j s k n
    by true is =
        let f = s.file in
        let cs = f.now.commands in
        let new = adds j k.job k.command in
        let rest = entries j (spot_of j f) new in
        let le : length k.out ≤ n = grind (arith, nat_tests) in
        let more : put_more j k n ≡ new = rw is refl in
        let far : length rest ≤ n - length k.unsure =
        omega (arith, le, ap length puts.out, length-append k.unsure rest) in
        let all : take (n - length k.unsure) rest ≡ rest =
        take_all (n - length k.unsure) rest far in
        record {
          tail = [];
          is = put_text j s k n t puts
              ∙ (ap (λ (x : List ℕ). body j f ++ x) all
              ∙ (sym (whole_both j f.head f.start cs new)
              ∙ (ap (λ (x : List (List ℕ)). whole j f.head f.start (cs ++ x)) (sym more)
              ∙ sym (append-nil (whole j f.head f.start (cs ++ put_more j k n))))));
          torn = laws.nothing (trail j f.start (cs ++ put_more j k n));
        }
    by false is =
        let f = s.file in
        let cs = f.now.commands in
        let new = adds j k.job k.command in
        let rest = entries j (spot_of j f) new in
        let less : n < length k.out = grind (arith, nat_tests) in
        let more : cs ≡ cs ++ put_more j k n = rw is (sym (append-nil cs)) in
        let few : n < length k.unsure + length rest =
        omega (arith, less, ap length puts.out, length-append k.unsure rest) in
        let short : (n - length k.unsure < length rest) ⊎ (n - length k.unsure ≡ 0) =
        some n (length k.unsure) (length rest) (nat_le (length k.unsure) n) refl few in
        record {
          tail = take (n - length k.unsure) rest;
          is = put_text j s k n t puts
              ∙ ap (λ (x : List (List ℕ)). whole j f.head f.start x
              ++ take (n - length k.unsure) rest) more;
          torn =
              ap (λ (x : List (List ℕ)). j.is_torn (trail j f.start x)
              (take (n - length k.unsure) rest)) (sym more)
              ∙ less_torn j (spot_of j f) k.job k.command (n - length k.unsure) laws lives short;
        }
      where
        some : (n u r : ℕ) (b : Bool) → nat_le u n ≡ b → n < u + r → (n - u < r) ⊎ (n - u ≡ 0)
        some n u r true is less = let le : u ≤ n =
            grind (arith, nat_tests) in inl (omega (arith, le, less))
        some n u r false is less = let le : n < u =
            grind (arith, nat_tests) in inr (omega (arith, le))

-- If the journal exists, executing its entries gives the state after the whole history.
pub state_is : (j : Journal) (s : Shared) → Still j s → 0 < s.file.number
    → state_of j s.file ≡ run j s.origin s.history
state_is j s still named =
    let h = still.file.headed named in
    trail_state j s.file.start s.file.now.commands
    ∙ (ap (λ (x : List ℕ). run j x s.file.now.commands) h.state
    ∙ (sym (run_both j s.origin s.file.before s.file.now.commands)
    ∙ ap (run j s.origin) (sym still.told)))

pub state_lives : (j : Journal) (s : Shared) → IsJournal j → Still j s → 0 < s.file.number
    → j.is_state (state_of j s.file) ≡ true
state_lives j s laws still named =
    trail_lives j s.file.start s.file.now.commands laws (still.file.headed named).lives

-- ---- what other holders know

-- Everything that a holder knows about the folder `s` is also true of the folder `t`, for example
-- after a step of another process.
pub record Grows (j : Journal) (s t : Shared) : Type 0 where
  pub knows : (force : Force) (file : ℕ) (device : Option Spot) (place : ℕ) (unsure : List ℕ)
      → file < s.next
      → Knows j s.file force file device place unsure
      → Knows j t.file force file device place unsure
  pub calm : (settled : Bool) (file : ℕ) → file < s.next → Calm (sight s) settled file
      → Calm (sight t) settled file
  pub next : s.next ≤ t.next

pub record Moves (j : Journal) (s t : Shared) : Type 0 where
  pub still : Still j t
  pub grows : Grows j s t

-- If a file only gains commands and no entry on the disk is lost, a holder's position in the file
-- remains correct.
forced_at : (j : Journal) (f g : File) (more : List (List ℕ)) (force : Force) (state : Spot)
    (place : ℕ) (unsure : List ℕ)
    → g.head ≡ f.head → g.start ≡ f.start → g.now.commands ≡ f.now.commands ++ more
    → min f.forced (length (body j f)) ≤ g.forced
    → IsAt j f.head f.start f.now.commands f.forced force state place unsure
    → IsAt j g.head g.start g.now.commands g.forced force state place unsure
forced_at j f g more force state place unsure head start commands le a =
    let far : length (whole j f.head f.start a.done) ≤ length (body j f) =
    omega (
      arith,
      ap (λ (x : List (List ℕ)). length (whole j f.head f.start x)) a.parts,
      whole_length j f.head f.start a.done a.ahead,
    ) in
    let parts : g.now.commands ≡ a.done ++ (a.ahead ++ more) =
    commands ∙ (ap (λ (x : List (List ℕ)). x ++ more) a.parts ∙ append_assoc a.done a.ahead more) in
    let front : is_always force ≡ true → length a.front ≤ g.forced = λ always.
    omega (arith, le, a.sure always, far, ap length a.text, length-append a.front unsure) in
    subst (λ (x : List ℕ). IsAt j x g.start g.now.commands g.forced force state place unsure)
    (sym head)
    (subst (λ (x : Spot). IsAt j f.head x g.now.commands g.forced force state place unsure)
    (sym start)
    (record {
      done = a.done;
      ahead = a.ahead ++ more;
      parts = parts;
      is = a.is;
      front = a.front;
      text = a.text;
      reached = a.reached;
      sure = front;
    }))

pub forced_grows : (j : Journal) (s t : Shared) (more : List (List ℕ))
    → t.file.number ≡ s.file.number → t.file.head ≡ s.file.head → t.file.start ≡ s.file.start
    → t.file.now.commands ≡ s.file.now.commands ++ more
    → min s.file.forced (length (body j s.file)) ≤ t.file.forced
    → (s.older ≡ [] → t.older ≡ []) → s.next ≤ t.next → Grows j s t
forced_grows j s t more number head start commands le older next = record {
  knows = λ force file device place unsure below h. record {
    at = λ d has same. forced_at j s.file t.file more force d place unsure head start commands le
        (h.at d has (same ∙ number));
    empty = h.empty;
  };
  calm = λ settled file below h yes' same. older (h yes' (same ∙ number));
  next = next;
}

-- ---- writing to the file

put_still : (j : Journal) (s : Shared) (k : Holder) (n : ℕ) → IsJournal j → Still j s
    → Puts j s.file k.job k → Still j (folder_after_put j s k n)
put_still j s k n laws still puts =
    let f = s.file in
    let h = still.file in
    let more = put_more j k n in
    let told : s.history ++ more ≡ f.before ++ (f.now.commands ++ more) =
    ap (λ (x : List (List ℕ)). x ++ more) still.told ∙ append_assoc f.before f.now.commands more in
    let new = is_put j s k n laws (state_lives j s laws still puts.all.named)
    (h.now.text puts.all.named) puts in
    let far : length (whole j f.head f.start h.surely) ≤ length (body j f) =
    omega (
      arith,
      ap (λ (x : List (List ℕ)). length (whole j f.head f.start x)) h.now.has,
      whole_length j f.head f.start h.surely h.now.rest,
    ) in
    record {
      told = told;
      file = record {
        surely = h.surely;
        enough = λ named. omega (arith, h.enough named, far, puts.all.reached);
        kept = h.kept;
        lasts = h.lasts;
        below = h.below;
        unnamed = h.unnamed;
        headed = h.headed;
        now = record {
          rest = h.now.rest ++ more;
          has = ap (λ (x : List (List ℕ)). x ++ more) h.now.has
              ∙ append_assoc h.surely h.now.rest more;
          more = [];
          of = told ∙ ap (λ (x : List (List ℕ)). f.before ++ x)
              (sym (append-nil (f.now.commands ++ more)));
          entered = entered_both j f.now.commands more h.now.entered
              (more_entered (nat_le (length k.out) n));
          text = λ named. record { tail = new.tail; is = new.is; torn = new.torn };
          empty = λ none. absurd (omega (arith, none, puts.all.named));
        };
        past = (
          content_longer j f.head f.start f.number s.history f.before h.surely more f.now h.now,
          contents_longer j f.head f.start f.number s.history f.before h.surely more f.past h.past,
        );
      };
      older = files_longer j s.origin s.history more s.promised s.lasting s.next s.next s.older
          (omega arith) still.older;
      alone = still.alone;
      each = each_longer j s.origin s.history more s.answers still.each;
      once = still.once;
      safe = still.safe;
    }
  where
    more_entered : (b : Bool) → Entered j (cond b (adds j k.job k.command) [])
    more_entered true = adds_entered j k.job k.command
    more_entered false = tt

pub put_moves : (j : Journal) (s : Shared) (k : Holder) (n : ℕ) → IsJournal j → Still j s
    → Puts j s.file k.job k → Moves j s (folder_after_put j s k n)
put_moves j s k n laws still puts = record {
  still = put_still j s k n laws still puts;
  grows = forced_grows j s (folder_after_put j s k n) (put_more j k n)
      refl refl refl refl (omega (arith, puts.all.reached)) (λ none. none) (omega arith);
}

-- ---- a sync, and dropped bytes

-- if only the record of what is on the disk changes, and no entry on the disk is lost, the
-- invariant of the folder still holds
forced_still : (j : Journal) (s : Shared) (forced : ℕ) (past : List Content) (is_dropped : Bool)
    → Still j s
    → min s.file.forced (length (body j s.file)) ≤ forced → (past ≡ s.file.past) ⊎ (past ≡ [])
    → Still j
    (record s {
      file = record s.file { forced = forced; past = past; is_dropped = is_dropped };
    })
forced_still j s forced past is_dropped still le is =
    let h = still.file in
    let f = s.file in
    let far : length (whole j f.head f.start h.surely) ≤ length (body j f) =
    omega (
      arith,
      ap (λ (x : List (List ℕ)). length (whole j f.head f.start x)) h.now.has,
      whole_length j f.head f.start h.surely h.now.rest,
    ) in
    let P : List Content → Type 0 =
    AllByRecursion (IsContent j f.head f.start f.number s.history f.before h.surely) in
    record {
      told = still.told;
      file = record {
        surely = h.surely;
        enough = λ named. omega (arith, h.enough named, far, le);
        kept = h.kept;
        lasts = h.lasts;
        below = h.below;
        unnamed = h.unnamed;
        headed = h.headed;
        now = h.now;
        past = elim is [ inl same ↦ subst P (sym same) h.past | inr none ↦ subst P (sym none) tt ];
      };
      older = still.older;
      alone = still.alone;
      each = still.each;
      once = still.once;
      safe = still.safe;
    }

disk_moves : (j : Journal) (s : Shared) (forced : ℕ) (past : List Content) (is_dropped : Bool)
    → Still j s
    → min s.file.forced (length (body j s.file)) ≤ forced → (past ≡ s.file.past) ⊎ (past ≡ [])
    → Moves j s
    (record s {
      file = record s.file { forced = forced; past = past; is_dropped = is_dropped };
    })
disk_moves j s forced past is_dropped still le is =
    let t =
    record s {
      file =
          record s.file { forced = forced; past = past; is_dropped = is_dropped };
    } in
    record {
      still = forced_still j s forced past is_dropped still le is;
      grows = forced_grows j s t [] refl refl refl (sym (append-nil s.file.now.commands)) le
          (λ none. none) (omega arith);
    }

pub drop_moves : (j : Journal) (s : Shared) → Still j s
    → Moves j s (record s { file = record s.file { is_dropped = true } })
drop_moves j s still = disk_moves j s s.file.forced s.file.past true still (omega arith) (inl refl)

pub body_in : (j : Journal) (head : List ℕ) (start : Spot) (c : Content) → IsText j head start c
    → length (whole j head start c.commands) ≤ length c.text
body_in j head start c t =
    omega (arith, ap length t.is, length-append (whole j head start c.commands) t.tail)

pub force_moves : (j : Journal) (s : Shared) (b : Bool) → s.file.is_dropped ≡ b → Still j s
    → 0 < s.file.number → Moves j s (record s { file = forced_file s.file })
force_moves j s b is still named =
    let far = body_in j s.file.head s.file.start s.file.now (still.file.now.text named) in
    subst (λ (x : Bool). Moves j s
    (record s {
      file =
          record s.file {
            past = cond x s.file.past [];
            forced =
                cond x s.file.forced (length s.file.now.text);
          };
    })) (sym is)
    (by b far)
  where
    by : (b : Bool) → length (body j s.file) ≤ length s.file.now.text
        → Moves j s
        (record s {
          file =
              record s.file {
                past = cond b s.file.past [];
                forced =
                    cond b s.file.forced (length s.file.now.text);
              };
        })
    by true far = disk_moves j s s.file.forced s.file.past s.file.is_dropped still (omega arith)
        (inl refl)
    by false far = disk_moves j s (length s.file.now.text) [] s.file.is_dropped still
        (omega (arith, far)) (inr refl)

-- ---- a new file, and its name

pub same_grows : (j : Journal) (s t : Shared) → t.file ≡ s.file → (s.older ≡ [] → t.older ≡ [])
    → s.next ≤ t.next → Grows j s t
same_grows j s t file older next =
    forced_grows j s t [] (ap (λ (f : File). f.number) file) (ap (λ (f : File). f.head) file)
    (ap (λ (f : File). f.start) file)
    (ap (λ (f : File). f.now.commands) file ∙ sym (append-nil s.file.now.commands))
    (omega (arith, ap (λ (f : File). f.forced) file)) older next

pub fresh_moves : (j : Journal) (s : Shared) (fresh : List ℕ) (count : ℕ) → Still j s
    → Moves j s (record s { fresh = fresh; fresh_forced = count })
fresh_moves j s fresh count still = record {
  still = record {
    told = still.told;
    file = still.file;
    older = still.older;
    alone =
        still.alone;
    each = still.each;
    once = still.once;
    safe = still.safe;
  };
  grows = same_grows j s (record s { fresh = fresh; fresh_forced = count }) refl (λ none. none)
      (omega arith);
}

pub settle_moves : (j : Journal) (s : Shared) → Still j s → Moves j s (record s { older = [] })
settle_moves j s still = record {
  still = record {
    told = still.told;
    file = still.file;
    older = tt;
    alone = λ _. refl;
    each =
        still.each;
    once = still.once;
    safe = still.safe;
  };
  grows = same_grows j s (record s { older = [] }) refl (λ _. refl) (omega arith);
}

pub same_moves : (j : Journal) (s : Shared) → Still j s → Moves j s s
same_moves j s still =
    record { still = still; grows = same_grows j s s refl (λ none. none) (omega arith) }

-- after a new file gets the journal's name, everything that a holder knew about the folder still
-- holds
named_grows : (j : Journal) (origin : List ℕ) (s : Shared) (k : Holder)
    → Grows j s (named_from j origin s k)
named_grows j origin s k = record {
  knows = λ force file device place unsure below h.
      record { at = λ d has same. absurd (omega (arith, below, same)); empty = h.empty };
  calm = λ settled file below h yes' same. absurd (omega (arith, below, same));
  next = omega arith;
}

-- the new file satisfies the invariant of a file
named_file : (j : Journal) (origin : List ℕ) (s : Shared) (k : Holder) → IsJournal j
    → s.fresh ≡ k.out → length k.out ≤ s.fresh_forced → s.promised ≤ length s.history
    → k.out ≡ begun j (run j origin (s.history ++ leads j k.job k.command)) (adds j k.job k.command)
    → 0 < s.next → j.is_state (run j origin (s.history ++ leads j k.job k.command)) ≡ true
    → IsFile j origin ((s.history ++ leads j k.job k.command) ++ adds j k.job k.command) s.promised
    s.lasting (s.next + 1) (named_from j origin s k).file
named_file j origin s k laws fresh enough kept text next lives =
    let before = s.history ++ leads j k.job k.command in
    let new = adds j k.job k.command in
    let base = run j origin before in
    record {
      surely = new;
      enough = λ _. omega (arith, enough, ap length text);
      kept = omega (arith, kept, length-append s.history (leads j k.job k.command));
      lasts = λ _. next;
      below = omega arith;
      unnamed = λ none. absurd (omega (arith, none, next));
      headed = λ _. record { after = laws.heads base lives; lives = lives; state = refl };
      now = record {
        rest = [];
        has = sym (append-nil new);
        more = [];
        of = ap (λ (x : List (List ℕ)). before ++ x) (sym (append-nil new));
        entered = adds_entered j k.job k.command;
        text = λ _. record {
          tail = [];
          is = fresh ∙ (text ∙ sym (append-nil (begun j base new)));
          torn = laws.nothing (trail j (first_spot j base) new);
        };
        empty = λ none. absurd (omega (arith, none, next));
      };
      past = tt;
    }

-- appending two lists of commands to the history appends their concatenation
twice_longer : (history some more : List (List ℕ))
    → (history ++ some) ++ more ≡ history ++ (some ++ more)
twice_longer history some more = append_assoc history some more

pub promised_within : (j : Journal) (s : Shared) → Still j s → s.promised ≤ length s.history
promised_within j s still =
    let h = still.file in
    omega (
      arith,
      h.kept,
      ap length still.told,
      length-append s.file.before s.file.now.commands,
      ap length h.now.has,
      length-append h.surely h.now.rest,
    )

follows_still : (j : Journal) (s : Shared) (k : Holder) → IsJournal j → Still j s
    → Follows j s.file k.job k.command k.device k.out k.response
    → s.fresh ≡ k.out → length k.out ≤ s.fresh_forced → Still j (named_from j s.origin s k)
follows_still j s k laws still h fresh enough =
    let lead = leads j k.job k.command in
    let new = adds j k.job k.command in
    let base : run j (state_of j s.file) lead ≡ run j s.origin (s.history ++ lead) =
    ap (λ (x : List ℕ). run j x lead) (state_is j s still h.named)
    ∙ sym (run_both j s.origin s.history lead) in
    let text : k.out ≡ begun j (run j s.origin (s.history ++ lead)) new =
    h.text ∙ ap (λ (x : List ℕ). begun j x new) base in
    let here = state_lives j s laws still h.named in
    let lives : j.is_state (run j s.origin (s.history ++ lead)) ≡ true =
    sym (ap j.is_state base) ∙ run_lives j (state_of j s.file) lead laws here in
    let files = files_longer j s.origin s.history (lead ++ new) s.promised s.lasting s.next
    (s.next + 1) (s.file ∷ s.older) (omega arith) (still.file, still.older) in
    let same = sym (append_assoc s.history lead new) in
    record {
      told = refl;
      file = named_file j s.origin s k laws fresh enough (promised_within j s still) text
          (omega (arith, still.file.below)) lives;
      older =
          subst (λ (x : List (List ℕ)). AllByRecursion
          (IsFile j s.origin x s.promised s.lasting (s.next + 1)) (s.file ∷ s.older)) same files;
      alone = λ none. absurd (omega (arith, none, still.file.below));
      each = subst (λ (x : List (List ℕ)). Each j s.origin x s.answers) same
          (each_longer j s.origin s.history (lead ++ new) s.answers still.each);
      once = still.once;
      safe = still.safe;
    }

-- ---- the first journal

-- If there is no journal (its number is 0), the invariant `IsFile` does not depend on the state in
-- which the history began.
file_anew : (j : Journal) (origin other : List ℕ) (history : List (List ℕ)) (promised : ℕ)
    (lasting : Bool) (next : ℕ) (f : File) → f.number ≡ 0
    → IsFile j origin history promised lasting next f
    → IsFile j other history promised lasting next f
file_anew j origin other history promised lasting next f none h = record {
  surely = h.surely;
  enough = h.enough;
  kept = h.kept;
  lasts = h.lasts;
  below = h.below;
  unnamed = h.unnamed;
  headed = λ named. absurd (omega (arith, none, named));
  now = h.now;
  past = h.past;
}

-- If the history is empty, the responses do not depend on the state in which the history began.
pub each_gone : (j : Journal) (origin other : List ℕ) (history : List (List ℕ))
    (answers : List Answer) → history ≡ []
    → Each j origin history answers → Each j other history answers
each_gone j origin other history [] none h = tt
each_gone j origin other history (a ∷ answers) none h = (
  λ there. (
      let t = h.0 there in
      absurd
      (omega (
        arith,
        ap length none,
        ap length t.is,
        length-append t.before (a.command ∷ t.rest),
      ))
      ),
  each_gone j origin other history answers none h.1,
)

pub unnamed_history : (j : Journal) (s : Shared) → Still j s → s.file.number ≡ 0 → s.history ≡ []
unnamed_history j s still none =
    still.told ∙ (ap (λ (x : List (List ℕ)). x ++ s.file.now.commands) (still.file.unnamed none)
    ∙ still.file.now.empty none)

founds_still : (j : Journal) (s : Shared) (k : Holder) → IsJournal j → Still j s
    → (h : Founds j s.file k.job k.device k.out)
    → s.fresh ≡ k.out → length k.out ≤ s.fresh_forced → Still j (named_from j h.state s k)
founds_still j s k laws still h fresh enough =
    let lead = leads j k.job k.command in
    let new = adds j k.job k.command in
    let leadless : lead ≡ [] = ap (λ (job : Job). leads j job k.command) h.is in
    let addless : new ≡ [] = ap (λ (job : Job). adds j job k.command) h.is in
    let none = unnamed_history j s still h.unnamed in
    let begins : s.history ++ lead ≡ [] = ap (λ (x : List (List ℕ)). x ++ lead) none ∙ leadless in
    let all : (s.history ++ lead) ++ new ≡ [] =
    ap (λ (x : List (List ℕ)). x ++ new) begins ∙ addless in
    let text : k.out ≡ begun j (run j h.state (s.history ++ lead)) new =
    h.text ∙ (sym (append-nil (j.head h.state))
    ∙ (ap (λ (x : List (List ℕ)). begun j (run j h.state x) []) (sym begins)
    ∙ ap (λ (x : List (List ℕ)). begun j (run j h.state (s.history ++ lead)) x) (sym addless))) in
    let lives : j.is_state (run j h.state (s.history ++ lead)) ≡ true =
    ap (λ (x : List (List ℕ)). j.is_state (run j h.state x)) begins ∙ h.lives in
    let longer = file_longer j s.origin s.history (lead ++ new) s.promised s.lasting s.next
    (s.next + 1) s.file (omega arith) still.file in
    let old = file_anew j s.origin h.state (s.history ++ (lead ++ new)) s.promised s.lasting
    (s.next + 1) s.file h.unnamed longer in
    let same = sym (append_assoc s.history lead new) in
    let alone = still.alone h.unnamed in
    record {
      told = refl;
      file = named_file j h.state s k laws fresh enough (promised_within j s still) text
          (omega (arith, still.file.below)) lives;
      older =
          subst (λ (x : List File). AllByRecursion
          (IsFile j h.state ((s.history ++ lead) ++ new) s.promised s.lasting (s.next + 1))
          (s.file ∷ x)) (sym alone) (
            subst (λ (x : List (List ℕ)). IsFile j h.state x s.promised s.lasting (s.next + 1)
                s.file) same old,
            tt,
          );
      alone = λ nothing. absurd (omega (arith, nothing, still.file.below));
      each = subst (λ (x : List (List ℕ)). Each j h.state x s.answers) (none ∙ sym all)
          (each_gone j s.origin h.state s.history s.answers none still.each);
      once = still.once;
      safe = still.safe;
    }

pub named_moves : (j : Journal) (s : Shared) (k : Holder) → IsJournal j → Still j s
    → Makes j (sight s) k
    → s.fresh ≡ k.out → length k.out ≤ s.fresh_forced → Moves j s (folder_after_naming j s k)
named_moves j s k laws still (inl h) fresh enough =
    let is : (s.file.number == 0) ≡ false = let named' = h.named in grind (arith, nat_tests) in
    subst (λ (b : Bool). Moves j s (named_from j (cond b (state_in k.device) s.origin) s k))
    (sym is)
    (record {
      still = follows_still j s k laws still h fresh enough;
      grows =
          named_grows j s.origin s k;
    })
named_moves j s k laws still (inr h) fresh enough =
    let is : (s.file.number == 0) ≡ true = let none = h.unnamed in grind (arith, nat_tests) in
    let from : state_in k.device ≡ h.state = ap state_in h.has in
    subst (λ (b : Bool). Moves j s (named_from j (cond b (state_in k.device) s.origin) s k))
    (sym is)
    (subst (λ (x : List ℕ). Moves j s (named_from j x s k)) (sym from)
    (record {
      still = founds_still j s k laws still h fresh enough;
      grows =
          named_grows j h.state s k;
    }))
