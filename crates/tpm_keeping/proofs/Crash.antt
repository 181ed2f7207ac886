-- Whatever a crash of the host leaves is a journal that contains all promised commands.
use Rattle.std.proofs.Common.{◌≡◌, ℕ, zero, suc, ◌+◌, ◌-◌, ◌<◌, ◌≤◌, ◌==◌, Bool, true, false, cond, List, [], ◌∷◌, ◌++◌, length, take, max, refl, sym, ap, ◌∙◌, arith, append_assoc, length-append}
use Rattle.std.specs.List.{AllByRecursion}
use Rattle.std.specs.Prelude.{nat_le}
use Rattle.std.proofs.lemmas.Bool.Decides.{nat_tests}
use Rattle.std.proofs.lemmas.List.{append-nil}
use Rattle.tpm_keeping.specs.Journal.{Entered, Journal, IsJournal, Spot, entries, trail, whole_in}
use Rattle.tpm_keeping.specs.World.{Answer, Content, File, Shared, content_at, crashed_to, file_at, folder_after_crash, left_of, litter_of, within}
use Rattle.tpm_keeping.specs.Kept.{Ascend, IsTrue}
use Rattle.tpm_keeping.proofs.Entries.{whole, front_past, is_cut, is_front, keeps_sure, whole_in_entered}
use Rattle.tpm_keeping.proofs.Invariant.{Each, IsContent, IsFile, IsText, Safe, Still}

-- ---- the responses

-- At each position of a prefix of the history, the prefix and the history have the same command.
front_has : (before rest front more : List (List ℕ)) (c : List ℕ)
    → before ++ (c ∷ rest) ≡ front ++ more → length before < length front
    → (left : List (List ℕ)) × (front ≡ before ++ (c ∷ left))
front_has [] rest [] more c e le = absurd (omega (arith, le))
front_has [] rest (d ∷ front) more c e le =
    (front, let same : d ≡ c = cc in ap (λ (x : List ℕ). x ∷ front) same)
front_has (b ∷ before) rest [] more c e le = absurd (omega (arith, le))
front_has (b ∷ before) rest (d ∷ front) more c e le =
    let same : d ≡ b = cc in
    let others : before ++ (c ∷ rest) ≡ front ++ more = cc in
    let inside = front_has before rest front more c others (omega (arith, le)) in
    (inside.0, ap (λ (x : List ℕ). x ∷ front) same ∙ ap (λ (x : List (List ℕ)). b ∷ x) inside.1)

each_within : (j : Journal) (origin : List ℕ) (history front more : List (List ℕ))
    (answers : List Answer) → history ≡ front ++ more
    → Each j origin history answers → Each j origin front (within (length front) answers)
each_within j origin history front more [] is h = tt
each_within j origin history front more (a ∷ answers) is h = (
  by (nat_le a.place (length front)) refl,
  each_within j origin history front more answers is h.1,
)
  where
    by : (b : Bool) → nat_le a.place (length front) ≡ b → cond b a.is_gone true ≡ false
        → IsTrue j origin front (record a { is_gone = cond b a.is_gone true })
    by false le there = absurd cc
    by true le there =
        let t = h.0 there in
        let fits : a.place ≤ length front = grind (arith, nat_tests) in
        let has = front_has t.before t.rest front more a.command (sym t.is ∙ is)
        (omega (arith, fits, t.place)) in
        record {
          before = t.before;
          rest = has.0;
          is = has.1;
          place = t.place;
          response =
              t.response;
        }

was_there : (b gone : Bool) → cond b gone true ≡ false → gone ≡ false
was_there true gone e = e
was_there false gone e = absurd cc

below_within : (m count : ℕ) (answers : List Answer)
    → AllByRecursion (λ b. b.is_gone ≡ false → b.place < m) answers
    → AllByRecursion (λ b. b.is_gone ≡ false → b.place < m) (within count answers)
below_within m count [] h = tt
below_within m count (a ∷ answers) h = (
  λ there. h.0 (was_there (nat_le a.place count) a.is_gone there),
  below_within m count answers h.1,
)

ascend_within : (count : ℕ) (answers : List Answer) → Ascend answers → Ascend (within count answers)
ascend_within count [] h = tt
ascend_within count (a ∷ answers) h = (
  λ there. below_within a.place count answers
      (h.0 (was_there (nat_le a.place count) a.is_gone there)),
  ascend_within count answers h.1,
)

safe_within : (promised count : ℕ) (answers : List Answer) → promised ≤ count
    → Safe promised answers → Safe promised (within count answers)
safe_within promised count [] le h = tt
safe_within promised count (a ∷ answers) le h = (
  λ always. (
      let x = h.0 always in
      let low = x.1 in
      let fits : nat_le a.place count ≡ true = grind (arith, nat_tests) in
      (ap (λ (b : Bool). cond b a.is_gone true) fits ∙ x.0, low)
      ),
  safe_within promised count answers le h.1,
)

-- ---- the file

pub file_there : (P : File → Type 0) (f : File) (fs : List File) (n : ℕ) → P f → AllByRecursion P fs
    → P (file_at f fs n)
file_there P f [] n h hs = h
file_there P f (g ∷ gs) zero h hs = h
file_there P f (g ∷ gs) (suc n) h hs = file_there P g gs n hs.0 hs.1

pub content_there : (P : Content → Type 0) (c : Content) (cs : List Content) (n : ℕ) → P c
    → AllByRecursion P cs → P (content_at c cs n)
content_there P c [] n h hs = h
content_there P c (d ∷ ds) zero h hs = h
content_there P c (d ∷ ds) (suc n) h hs = content_there P d ds n hs.0 hs.1

is_litter : (j : Journal) (litter : List ℕ) → IsJournal j → j.is_litter (litter_of j litter) ≡ true
is_litter j litter laws = by (j.is_litter litter) refl
  where
    by : (b : Bool) → j.is_litter litter ≡ b → j.is_litter (cond b litter []) ≡ true
    by true is = is
    by false is = laws.clean

-- a crash leaves a file with a head, complete entries, and possibly the remains of one more entry
left_text : (j : Journal) (f : File) (c : Content) (count : ℕ) (litter : List ℕ) → IsJournal j
    → j.is_state f.start.state ≡ true → Entered j c.commands
    → j.is_litter litter ≡ true → IsText j f.head f.start c → length f.head ≤ count
    → IsText j f.head f.start (left_of j f c count litter).now
left_text j f c count litter laws lives entered ok t le =
    let head = f.head in
    let m = count - length head in
    let all = entries j f.start c.commands in
    let cut = is_cut j f.start c.commands t.tail m litter laws lives entered ok t.torn in
    let inside = whole_in j f.start c.commands m in
    record {
      tail = cut.left;
      is = ap (λ (x : List ℕ). take count x ++ litter) (t.is ∙ append_assoc head all t.tail)
          ∙ (ap (λ (x : List ℕ). x ++ litter) (front_past head (all ++ t.tail) count le)
          ∙ (append_assoc head (take m (all ++ t.tail)) litter
          ∙ (ap (λ (x : List ℕ). head ++ x) cut.is
          ∙ sym (append_assoc head (entries j f.start inside) cut.left))));
      torn = cut.torn;
    }

-- the commands that a crash leaves include all commands whose entries are on the disk
left_sure : (j : Journal) (head : List ℕ) (start : Spot) (surely rest : List (List ℕ)) (c : Content)
    (count : ℕ) → c.commands ≡ surely ++ rest
    → length (whole j head start surely) ≤ count
    → length surely ≤ length (whole_in j start c.commands (count - length head))
left_sure j head start surely rest c count has le =
    let m = count - length head in
    let size = length-append head (entries j start surely) in
    let kept = keeps_sure j start surely rest m (omega (arith, le, size)) in
    let others = whole_in j (trail j start surely) rest (m - length (entries j start surely)) in
    omega (
      arith,
      ap (λ (x : List (List ℕ)). length (whole_in j start x m)) has,
      ap length kept,
      length-append surely others,
    )

none_in : (j : Journal) (start : Spot) (cs : List (List ℕ)) (count : ℕ) → cs ≡ []
    → whole_in j start cs count ≡ []
none_in j start cs count none = ap (λ (x : List (List ℕ)). whole_in j start x count) none

-- the commands that a crash leaves include all promised commands
kept_in : (s : Shared) (f : File) (inside surely rest commands : List (List ℕ))
    → s.promised ≤ length f.before + length surely
    → commands ≡ surely ++ rest → (0 < f.number → length surely ≤ length inside)
    → (f.number ≡ 0 → commands ≡ [])
    → s.promised ≤ length f.before + length inside
kept_in s f inside surely rest commands kept has sure empty = by (f.number == 0) refl
  where
    by : (b : Bool) → (f.number == 0) ≡ b → s.promised ≤ length f.before + length inside
    by true is =
        let none : f.number ≡ 0 = grind (arith, nat_tests) in
        omega (arith, kept, ap length has, ap length (empty none), length-append surely rest)
    by false is =
        let named : 0 < f.number = grind (arith, nat_tests) in
        omega (arith, kept, sure named)

crash_to : (j : Journal) (s : Shared) (f : File) (content far : ℕ) (litter : List ℕ) → IsJournal j
    → Still j s
    → IsFile j s.origin s.history s.promised s.lasting s.next f
    → Still j (crashed_to j s f content far litter)
crash_to j s f content far litter laws still h =
    let c = content_at f.now f.past content in
    let count = max f.forced far in
    let junk = litter_of j litter in
    let is = content_there (IsContent j f.head f.start f.number s.history f.before h.surely) f.now
    f.past content h.now h.past in
    let m = count - length f.head in
    let inside = whole_in j f.start c.commands m in
    let front = is_front j f.start c.commands m in
    let left = left_of j f c count junk in
    let size : length f.head ≤ length (whole j f.head f.start h.surely) =
    omega (arith, length-append f.head (entries j f.start h.surely)) in
    let sure : 0 < f.number → length h.surely ≤ length inside = λ named.
    left_sure j f.head f.start h.surely is.rest c count is.has (omega (arith, h.enough named)) in
    let text : 0 < f.number → IsText j f.head f.start left.now = λ named.
    left_text j f c count junk laws (h.headed named).lives is.entered (is_litter j litter laws)
    (is.text named) (omega (arith, h.enough named, size)) in
    let none : f.number ≡ 0 → inside ≡ [] =
    λ unnamed. none_in j f.start c.commands m (is.empty unnamed) in
    let history : s.history ≡ (f.before ++ inside) ++ (front.more ++ is.more) =
    is.of
    ∙ (ap (λ (x : List (List ℕ)). f.before ++ (x ++ is.more)) front.is
    ∙ (ap (λ (x : List (List ℕ)). f.before ++ x) (append_assoc inside front.more is.more)
    ∙ sym (append_assoc f.before inside (front.more ++ is.more)))) in
    let kept : s.promised ≤ length f.before + length inside =
    kept_in s f inside h.surely is.rest c.commands h.kept is.has sure is.empty in
    record {
      told = refl;
      file = record {
        surely = inside;
        enough = λ named. (
            let t = text named in
            omega (arith, ap length t.is, length-append (whole j f.head f.start inside) t.tail)
            );
        kept = kept;
        lasts = h.lasts;
        below = h.below;
        unnamed = h.unnamed;
        headed = h.headed;
        now = record {
          rest = [];
          has = sym (append-nil inside);
          more = [];
          of = ap (λ (x : List (List ℕ)). f.before ++ x) (sym (append-nil inside));
          entered = whole_in_entered j f.start c.commands m is.entered;
          text = text;
          empty = none;
        };
        past = tt;
      };
      older = tt;
      alone = λ _. refl;
      each = each_within j s.origin s.history (f.before ++ inside) (front.more ++ is.more) s.answers
          history still.each;
      once = ascend_within (length (f.before ++ inside)) s.answers still.once;
      safe = safe_within s.promised (length (f.before ++ inside)) s.answers
          (omega (arith, kept, length-append f.before inside)) still.safe;
    }

pub crash_still : (j : Journal) (s : Shared) (file content far : ℕ) (litter : List ℕ) → IsJournal j
    → Still j s → Still j (folder_after_crash j s file content far litter)
crash_still j s file content far litter laws still =
    crash_to j s (file_at s.file s.older file) content far litter laws still
    (file_there (IsFile j s.origin s.history s.promised s.lasting s.next) s.file s.older file
    still.file still.older)
