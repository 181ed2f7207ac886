-- Lemmas about entries that are executed again and converted, one after another.
use Rattle.std.proofs.Common.{◌≡◌, ◌≢◌, ℕ, ◌+◌, ◌≤◌, Bool, List, [], ◌∷◌, ◌++◌, length, take, drop, Option, Some, None, refl, ap, sym, subst, ◌∙◌, append_assoc, append-nil, arith, length-append}
use Rattle.std.specs.Prelude.{codes, flat_map}
use Rattle.std.specs.Io.KnownBytes.{Appends}
use Rattle.std.proofs.KnownBytes.{Appends-nil, Appends-trans}
use Rattle.std.proofs.lemmas.List.{length-take-le}
use Rattle.std.proofs.lemmas.Grind.{flat_map-append}
use Rattle.tpm_record.specs.Record.{Record}
use Rattle.tpm_journal_text.specs.Entry.{PlainEntry, entry_text, executing_lines, mark_line, mark_of, setting_lines}
use Rattle.tpm_journal_text.specs.Journal.{IsTorn, IsDamaged}
use Rattle.tpm_journal_text.proofs.Standing.{mark_line_many, mark_many}
use Rattle.tpm_journal.specs.Replay.{Performance, Performs}
use Rattle.tpm_journal.specs.Retelling.{Retells, RetellsEntries, comment_of, retold, retold_by}
use Rattle.tpm_journal.specs.declared.retelling.Telling.{Telling}
use Rattle.tpm_journal.specs.declared.retelling.Telling.TheVariants.{Script, Answers}
use Rattle.tpm_journal.specs.declared.following.FollowFault.TheVariants.{Damaged, Otherwise}
use Rattle.tpm_journal.specs.declared.following.Followed.{Followed}
use Rattle.tpm_journal.specs.declared.journal.Journal.{Journal}
use Rattle.tpm_journal.proofs.Repeating.{joined, repeats_more, repeats_none, repeats_otherwise, repeats_so}

-- ---- the lines of an encoded entry

dropped : (front rest : List ℕ) (n : ℕ) → length front ≡ n → drop n (front ++ rest) ≡ rest
dropped [] rest n is = rw (← is) refl
dropped (byte ∷ front) rest n is = rw (← is) (dropped front rest (length front) refl)

pub lines_of : (sum : ℕ) (e : PlainEntry)
    → drop 72 (entry_text sum e) ≡ setting_lines e ++ executing_lines e
unfolding entry_text
lines_of sum e =
    ap (drop 72) (append_assoc (mark_line sum (mark_of e)) (setting_lines e) (executing_lines e))
    ∙ dropped (mark_line sum (mark_of e)) (setting_lines e ++ executing_lines e) 72
    (mark_line_many sum (mark_of e) (mark_many e))

pub long_enough : (can : Bool) (before : Journal) (old : Record) (left : List ℕ) (size : ℕ)
    (one : Performance) (after : Journal)
    (Holds : ℕ → ℕ → Type 0) → Performs can before old left size one after Holds → 72 ≤ size
unfolding entry_text
long_enough can before old left size one after Holds p =
    let m = mark_line before.sum (mark_of one.entry) in
    omega (
      arith,
      length-take-le size left p.within,
      ap length p.front,
      length-append (m ++ setting_lines one.entry) (executing_lines one.entry),
      length-append m (setting_lines one.entry),
      mark_line_many before.sum (mark_of one.entry) (mark_many one.entry),
    )

-- ---- converting one more entry

-- The output for an executed entry was written.
abbrev pub Tells : Telling → (size : ℕ) (left : List ℕ) → Performance → (at holds : Option (List ℕ))
    → Type 0
Tells form size left one at holds =
    Appends at holds (retold_by form (comment_of one) one.seen.step.response (take size left))

retold_so : (form : Telling) (sum : ℕ) (one : Performance) (own : List ℕ)
    → own ≡ entry_text sum one.entry
    → retold_by form (comment_of one) one.seen.step.response own ≡ retold form one
retold_so Script sum one own is =
    ap (λ (l : List ℕ). codes "# " ++ comment_of one ++ 10 ∷ [] ++ l) (ap (drop 72) is ∙ lines_of sum one.entry)
retold_so Answers sum one own is = refl

told_so : (form : Telling) (can : Bool) (mid : Journal) (here : Record) (left : List ℕ) (size : ℕ)
    (one : Performance) (after : Journal)
    (Holds : ℕ → ℕ → Type 0) (performances : List Performance) (held at holds : Option (List ℕ))
    → Appends held at (flat_map (retold form) performances)
    → Performs can mid here left size one after Holds → Tells form size left one at holds
    → Appends held holds (flat_map (retold form) (performances ++ one ∷ []))
told_so form can mid here left size one after Holds performances held at holds told p written =
    let more : flat_map (retold form) (performances ++ one ∷ [])
    ≡ flat_map (retold form) performances ++ retold form one =
    flat_map-append (retold form) performances (one ∷ [])
    ∙ ap (λ (l : List ℕ). flat_map (retold form) performances ++ l)
    (append-nil (retold form one)) in
    subst (Appends held holds) (sym more)
    (Appends-trans held at holds _ _ told
    (subst (Appends at holds) (retold_so form mid.sum one (take size left) p.front) written))

pub told_none : (form : Telling) (can : Bool) (before : Journal) (old : Record) (text : List ℕ)
    (held : Option (List ℕ))
    → Retells form can before old text held held 0 None before old
unfolding repeats_none
told_none form can before old text held =
    record { repeats = repeats_none can before old text; told = Appends-nil held }

told_more_here : (form : Telling) (can : Bool) (before : Journal) (old : Record) (text : List ℕ)
    (taken : ℕ) (mid : Journal) (here : Record)
    (size : ℕ) (one : Performance) (after : Journal) (held at holds : Option (List ℕ))
    → Retells form can before old text held at taken None mid here
    → Performs can mid here (drop taken text) size one after (λ sum said. sum ≡ said)
    → Tells form size (drop taken text) one at holds
    → Retells form can before old text held holds (taken + size) None after one.seen.step.after
unfolding joined repeats_more
told_more_here form can before old text taken mid here size one after held at holds r p written =
    record {
      repeats = repeats_more can before old text taken mid here size one after r.repeats p;
      told = told_so _ _ _ _ _ _ _ _ _ r.repeats.performances held at holds r.told p written;
    }

pub told_more : (form : Telling) (can : Bool) (before : Journal) (old : Record) (text left : List ℕ)
    (taken : ℕ) (mid : Journal) (here : Record)
    (size : ℕ) (one : Performance) (after : Journal) (held at holds : Option (List ℕ))
    → left ≡ drop taken text
    → Retells form can before old text held at taken None mid here
    → Performs can mid here left size one after (λ sum said. sum ≡ said)
    → Tells form size left one at holds
    → Retells form can before old text held holds (taken + size) None after one.seen.step.after
told_more form can before old text left taken mid here size one after held at holds is r =
    rw is (told_more_here form can before old text taken mid here size one after held at holds r)

-- ---- the end of the conversion

told_otherwise_here : (form : Telling) (can : Bool) (before : Journal) (old : Record)
    (text : List ℕ) (taken : ℕ) (mid : Journal) (here : Record)
    (size : ℕ) (one : Performance) (after : Journal) (held at holds : Option (List ℕ))
    → Retells form can before old text held at taken None mid here
    → Performs can mid here (drop taken text) size one after (λ sum said. sum ≢ said)
    → Tells form size (drop taken text) one at holds
    → RetellsEntries form can before old text held holds
    (record { taken = taken + size; fault = Some Otherwise }) after one.seen.step.after
unfolding joined repeats_otherwise
told_otherwise_here form can before old text taken mid here size one after held at holds r p
    written = record {
      replays = repeats_otherwise can before old text taken mid here size one after r.repeats p;
      told = told_so _ _ _ _ _ _ _ _ _ r.repeats.performances held at holds r.told p written;
    }

pub told_otherwise : (form : Telling) (can : Bool) (before : Journal) (old : Record)
    (text left : List ℕ) (taken : ℕ) (mid : Journal) (here : Record)
    (size : ℕ) (one : Performance) (after : Journal) (held at holds : Option (List ℕ))
    (followed : Followed)
    → left ≡ drop taken text → followed ≡ record { taken = taken + size; fault = Some Otherwise }
    → Retells form can before old text held at taken None mid here
    → Performs can mid here left size one after (λ sum said. sum ≢ said)
    → Tells form size left one at holds
    → RetellsEntries form can before old text held holds followed after one.seen.step.after
told_otherwise form can before old text left taken mid here size one after held at holds followed is
    ends r =
    rw (is, ends) (told_otherwise_here form can before old text taken mid here size one after held
    at holds r)

told_cut_here : (form : Telling) (can : Bool) (before : Journal) (old : Record) (text : List ℕ)
    (taken : ℕ) (mid : Journal) (here : Record)
    (after : Journal) (new : Record) (held holds : Option (List ℕ))
    → Retells form can before old text held holds taken None mid here
    → IsTorn mid.sum (drop taken text) × (after ≡ mid) × (new ≡ here)
    → RetellsEntries form can before old text held holds (record { taken = taken; fault = None })
    after new
told_cut_here form can before old text taken mid here after new held holds r end =
    rw (end.1, end.2)
    (record { replays = record { repeats = r.repeats; ends = end.0 }; told = r.told })

pub told_torn : (form : Telling) (can : Bool) (before : Journal) (old : Record) (text left : List ℕ)
    (taken : ℕ) (mid : Journal) (here : Record)
    (after : Journal) (new : Record) (held holds : Option (List ℕ)) (followed : Followed)
    → left ≡ drop taken text
    → followed ≡ record { taken = taken; fault = None }
    → Retells form can before old text held holds taken None mid here
    → IsTorn mid.sum left × (after ≡ mid) × (new ≡ here)
    → RetellsEntries form can before old text held holds followed after new
told_torn form can before old text left taken mid here after new held holds followed is ends r =
    rw (is, ends) (told_cut_here form can before old text taken mid here after new held holds r)

damaged : (form : Telling) (can : Bool) (before : Journal) (old : Record) (text : List ℕ)
    (taken : ℕ) (mid : Journal) (here : Record)
    (held holds : Option (List ℕ)) → Retells form can before old text held holds taken None mid here
    → IsDamaged mid.sum (drop taken text)
    → RetellsEntries form can before old text held holds
    (record { taken = taken; fault = Some Damaged }) mid here
unfolding repeats_so
damaged form can before old text taken mid here held holds r end = record {
  replays = record {
    repeats = repeats_so can before old text taken mid here r.repeats;
    ends =
        end;
  };
  told = r.told;
}

told_damaged_here : (form : Telling) (can : Bool) (before : Journal) (old : Record) (text : List ℕ)
    (taken : ℕ) (mid : Journal) (here : Record)
    (after : Journal) (new : Record) (held holds : Option (List ℕ))
    → Retells form can before old text held holds taken None mid here
    → IsDamaged mid.sum (drop taken text) × (after ≡ mid) × (new ≡ here)
    → RetellsEntries form can before old text held holds
    (record { taken = taken; fault = Some Damaged }) after new
told_damaged_here form can before old text taken mid here after new held holds r end =
    rw (end.1, end.2) (damaged form can before old text taken mid here held holds r end.0)

pub told_damaged : (form : Telling) (can : Bool) (before : Journal) (old : Record)
    (text left : List ℕ) (taken : ℕ) (mid : Journal) (here : Record)
    (after : Journal) (new : Record) (held holds : Option (List ℕ)) (followed : Followed)
    → left ≡ drop taken text
    → followed ≡ record { taken = taken; fault = Some Damaged }
    → Retells form can before old text held holds taken None mid here
    → IsDamaged mid.sum left × (after ≡ mid) × (new ≡ here)
    → RetellsEntries form can before old text held holds followed after new
told_damaged form can before old text left taken mid here after new held holds followed is ends r =
    rw (is, ends) (told_damaged_here form can before old text taken mid here after new held holds r)
