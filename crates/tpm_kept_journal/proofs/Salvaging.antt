-- Salvaging a journal creates the same device as opening some prefix of that journal.
use Rattle.std.proofs.Common.{◌≡◌, ◌≤◌, ◌<◌, ◌+◌, ℕ, zero, suc, List, [], ◌++◌, length, drop, take, Option, Some, None, Result, Ok, Err, refl, sym, ap, ◌∙◌, arith, length-append}
use Rattle.std.proofs.lemmas.List.{length-take, length-take-le, take-take}
use Rattle.std.proofs.Math.Seq.{take-append-add}
use Rattle.tpm_journal.specs.Starting.{Start, start_by}
use Rattle.tpm_journal.specs.declared.opening.OpenFault.{OpenFault}
use Rattle.tpm_journal_text.specs.Entry.{IsEntry, PlainEntry, entry_text}
use Rattle.tpm_journal_text.specs.Head.{HasHead, head_sum}
use Rattle.tpm_journal_text.proofs.Standing.{entry_text_some}
use Rattle.tpm_journal_text.proofs.Tails.{torn_nothing}
use Rattle.tpm_keeping.specs.Journal.{Spot}
use Rattle.tpm_kept_journal.specs.Opening.{Ends, Fails, found_at, found_by, found_next, opened_text, performed_on, spot_after_walk, walk}
use Rattle.tpm_kept_journal.specs.Salvage.{entries_size, salvaged_text, size_with, whole_size}
use Rattle.tpm_kept_journal.specs.State.{spot_of, state_of_bytes}
use Rattle.tpm_kept_journal.specs.texts.EntryAt.{entry_at}
use Rattle.tpm_kept_journal.specs.texts.HeadAt.{PlainHead, head_at, text_of_head}
use Rattle.tpm_kept_journal.specs.texts.NextAt.{Damaged, IsNext, PlainNext, Torn, Whole, next_at}
use Rattle.tpm_kept_journal.proofs.Starting.{opens_by, opens_not}
use Rattle.tpm_kept_journal.proofs.Walks.{found_torn, walk_ends, walk_entry, walk_fails}
use Rattle.tpm_kept_journal.proofs.texts.HeadAt.{head_found}
use Rattle.tpm_kept_journal.proofs.texts.NextAt.{next_is, torn_tells}
use Rattle.tpm_kept_journal.proofs.texts.TornText.{is_torn_text-Decides}

-- ---- what the bytes begin with

-- At a position, the bytes begin with an entry, after which there is another position; or they end
-- without a further entry; or they do not continue the journal.
pub data Finding (p : Spot) (text : List ℕ) : Type 0 where
  AtEntry : (e : PlainEntry) (q : Spot) (rest : List ℕ) → IsEntry e
      → text ≡ entry_text p.chain e ++ rest
      → performed_on p.chain e (state_of_bytes p.state) ≡ Some q → Finding p text
  AtEnd : entry_at p.chain text ≡ None → found_at p text ≡ Ends → Finding p text
  AtFault : found_at p text ≡ Fails → Finding p text

pub finding : (p : Spot) (text : List ℕ) → Finding p text
unfolding found_at
finding p text = by (next_at p.chain text) refl (next_is p.chain text)
  where
    by_entry : (e : PlainEntry) → next_at p.chain text ≡ Whole e → IsNext p.chain text (Whole e)
        → (led : Option Spot) → performed_on p.chain e (state_of_bytes p.state) ≡ led
        → Finding p text
    by_entry e at is (Some q) performed =
        AtEntry e q (drop (length (entry_text p.chain e)) text) is.0 is.1 performed
    by_entry e at is None performed =
        AtFault (ap (found_next p) at ∙ ap (found_by (length (entry_text p.chain e))) performed)

    by : (next : PlainNext) → next_at p.chain text ≡ next → IsNext p.chain text next
        → Finding p text
    by (Whole e) at is = by_entry e at is (performed_on p.chain e (state_of_bytes p.state)) refl
    by Torn at is = AtEnd (torn_tells p.chain text is).0 (ap (found_next p) at)
    by Damaged at is = AtFault (ap (found_next p) at)

-- ---- entries

abbrev pub there : Spot → ℕ → Option (Spot × ℕ)
there p n = Some (p, n)

abbrev pub taken_of : Option (Spot × ℕ) → ℕ
taken_of None = 0
taken_of (Some found) = found.1

-- A walk from position p over only the executed bytes, which are n - `taken` in number, ends at
-- position q.
record IsFront (p q : Spot) (taken n : ℕ) (text : List ℕ) : Type 0 where
  size : ℕ
  is : n ≡ taken + size
  within : size ≤ length text
  walks : (bound : ℕ) → size < bound → walk bound p taken (take size text) ≡ Some (q, n)

-- If the bytes end without a further entry, no byte is executed, and `IsFront` holds.
front_ends : (bound : ℕ) (p q : Spot) (taken n : ℕ) (text : List ℕ)
    → walk (suc bound) p taken text ≡ Some (q, n) → found_at p text ≡ Ends
    → IsFront p q taken n text
front_ends bound p q taken n text leads ends =
    let here : there p taken ≡ there q n = sym (walk_ends bound p taken text ends) ∙ leads in
    record {
      size = 0;
      is = omega (arith, ap taken_of here);
      within = omega arith;
      walks = λ more less. nothing more less here;
    }
  where
    nothing : (more : ℕ) → 0 < more → there p taken ≡ there q n → walk more p taken [] ≡ Some (q, n)
    nothing zero less here = absurd (omega (arith, less))
    nothing (suc more) less here =
        walk_ends more p taken []
        (found_torn p [] ((is_torn_text-Decides p.chain []).1 (torn_nothing p.chain))) ∙ here

-- If `IsFront` holds for the bytes after an entry, it holds for the entry and these bytes.
front_goes : (p q s : Spot) (taken n : ℕ) (e : PlainEntry) (rest text : List ℕ) → IsEntry e
    → text ≡ entry_text p.chain e ++ rest
    → performed_on p.chain e (state_of_bytes p.state) ≡ Some s
    → IsFront s q (taken + length (entry_text p.chain e)) n rest
    → IsFront p q taken n text
front_goes p q s taken n e rest text is t performed next =
    let own : List ℕ = entry_text p.chain e in
    record {
      size = length own + next.size;
      is = omega (arith, next.is);
      within = omega (arith, ap length t, length-append own rest, next.within);
      walks = λ more less. goes more less;
    }
  where
    front : take (length (entry_text p.chain e) + next.size) text
        ≡ entry_text p.chain e ++ take next.size rest
    front = ap (take (length (entry_text p.chain e) + next.size)) t
        ∙ take-append-add (entry_text p.chain e) rest next.size

    goes : (more : ℕ) → length (entry_text p.chain e) + next.size < more
        → walk more p taken (take (length (entry_text p.chain e) + next.size) text) ≡ Some (q, n)
    goes zero less = absurd (omega (arith, less))
    goes (suc more) less =
        ap (walk (suc more) p taken) front
        ∙ walk_entry more p s e taken (take next.size rest) is performed
        ∙ next.walks more (omega (arith, less, entry_text_some p.chain e))

found_front : (bound : ℕ) (p q : Spot) (taken n : ℕ) (text : List ℕ)
    → walk (suc bound) p taken text ≡ Some (q, n)
    → ((s : Spot) (from : ℕ) (left : List ℕ) → walk bound s from left ≡ Some (q, n)
    → IsFront s q from n left) → Finding p text
    → IsFront p q taken n text
found_front bound p q taken n text leads next (AtEntry e s rest is t performed) =
    let on : walk bound s (taken + length (entry_text p.chain e)) rest ≡ Some (q, n) =
    sym (ap (walk (suc bound) p taken) t ∙ walk_entry bound p s e taken rest is performed)
    ∙ leads in
    front_goes p q s taken n e rest text is t performed
    (next s (taken + length (entry_text p.chain e)) rest on)
found_front bound p q taken n text leads next (AtEnd none ends) =
    front_ends bound p q taken n text leads ends
found_front bound p q taken n text leads next (AtFault fails) =
    let none : there q n ≡ None = sym leads ∙ walk_fails bound p taken text fails in
    absurd cc

walk_front : (bound : ℕ) (p q : Spot) (taken n : ℕ) (text : List ℕ)
    → walk bound p taken text ≡ Some (q, n) → IsFront p q taken n text
unfolding walk
walk_front zero p q taken n text leads = absurd cc
walk_front (suc bound) p q taken n text leads =
    found_front bound p q taken n text leads (λ s from left on. walk_front bound s q from n left on)
    (finding p text)

-- ---- a head and the bytes after it

-- The head and the executed bytes after it, which are n bytes together, open on their own, with
-- position p.
record IsFrontOf (h : PlainHead) (rest : List ℕ) (p : Spot) (n : ℕ) : Type 0 where
  size : ℕ
  is : n ≡ length (text_of_head h) + size
  within : size ≤ length rest
  opens : opened_text (text_of_head h ++ take size rest) ≡ Some (p, n)

module _ (h : PlainHead) (rest : List ℕ) (p : Spot) (n : ℕ) (has : HasHead h.kind h.clock h.content)
    (leads : opened_text (text_of_head h ++ rest) ≡ Some (p, n)) where
  by_start : (start : Result Start OpenFault) → start_by h.kind h.clock h.content ≡ start
      → IsFrontOf h rest p n
  unfolding spot_after_walk
  by_start (Err why) is =
      let none : None ≡ there p n =
      sym (opens_not _ h.kind h.clock h.content rest (record { has = has; is = refl }) why is)
      ∙ leads in
      absurd cc
  by_start (Ok start) is =
      let from : Spot = spot_of start.journal start.device in
      let head : List ℕ = text_of_head h in
      let front = walk_front (suc (length rest)) from p (length head) n rest
      (sym (opens_by (head ++ rest) h.kind h.clock h.content rest (record { has = has; is = refl })
      start is) ∙ leads) in
      record {
        size = front.size;
        is = front.is;
        within = front.within;
        opens = (
            opens_by (head ++ take front.size rest) h.kind h.clock h.content (take front.size rest)
            (record { has = has; is = refl }) start is
            ∙ front.walks (suc (length (take front.size rest)))
            (omega (arith, length-take-le front.size rest front.within))
            );
      }

  front_opened : IsFrontOf h rest p n
  front_opened = by_start (start_by h.kind h.clock h.content) refl

-- ---- the salvaged part

salvaged_by : (text : List ℕ) (p : Spot) (n : ℕ) (found : Option PlainHead) → head_at text ≡ found
    → opened_text (take (size_with found text) text) ≡ Some (p, n)
    → opened_text (take n text) ≡ Some (p, n)
unfolding opened_text
salvaged_by text p n None at leads = absurd cc
salvaged_by text p n (Some h) at leads =
    let found = head_found text h at in
    let head : List ℕ = text_of_head h in
    let rest : List ℕ = drop (length head) text in
    let many : ℕ = entries_size (head_sum h.clock h.content) rest in
    let so : take (length head + many) text ≡ head ++ take many rest =
    ap (take (length head + many)) found.1 ∙ take-append-add head rest many in
    let front = front_opened h (take many rest) p n found.0 (sym (ap opened_text so) ∙ leads) in
    let few : front.size ≤ many = omega (arith, front.within, length-take many rest) in
    ap (λ (m : ℕ). opened_text (take m text)) front.is
    ∙ ap (λ (l : List ℕ). opened_text (take (length head + front.size) l)) found.1
    ∙ ap opened_text (take-append-add head rest front.size)
    ∙ ap (λ (l : List ℕ). opened_text (head ++ l)) (sym (take-take front.size many rest few))
    ∙ front.opens

pub salvages : (text : List ℕ) (p : Spot) (n : ℕ) → salvaged_text text ≡ Some (p, n)
    → opened_text (take n text) ≡ Some (p, n)
unfolding salvaged_text whole_size
salvages text p n is = salvaged_by text p n (head_at text) refl is
