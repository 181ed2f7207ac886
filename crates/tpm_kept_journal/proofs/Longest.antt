-- If a prefix of a journal opens, its head and its executed entries are at most as long as the part
-- of the journal that can be salvaged.
use Rattle.std.proofs.Common.{◌≡◌, ◌≤◌, ◌+◌, ◌==◌, ℕ, zero, suc, List, [], ◌∷◌, ◌++◌, length, drop, take, Option, Some, None, Result, Ok, Err, refl, subst, sym, ap, ◌∙◌, append-nil, append_assoc, arith, drop_at, take_at, length-append}
use Rattle.std.specs.List.{AllByRecursion}
use Rattle.std.proofs.lemmas.List.{take-append-drop}
use Rattle.std.proofs.Math.Seq.{take-append-add}
use Rattle.tpm_bytes.specs.Reading.{AreBytes}
use Rattle.tpm_bytes.proofs.Fields.{AreBytes-take, ok_is}
use Rattle.tpm_image_text.specs.Image.{image_of}
use Rattle.tpm_image_text.specs.NonVolatile.{NonVolatile}
use Rattle.tpm_image_text.specs.declared.fault.ImageFault.{ImageFault}
use Rattle.tpm_journal.specs.Starting.{Start, start_by, start_by_image, start_by_state}
use Rattle.tpm_journal.specs.declared.opening.OpenFault.{OpenFault}
use Rattle.tpm_journal_text.specs.Entry.{IsEntry, PlainEntry, entry_text, sum_after}
use Rattle.tpm_journal_text.specs.Head.{HasHead, head_sum}
use Rattle.tpm_journal_text.specs.Journal.{entries_text, sum_after_all}
use Rattle.tpm_journal_text.specs.Sum.{sum_of}
use Rattle.tpm_journal_text.specs.declared.head.HeadKind.{HeadKind}
use Rattle.tpm_journal_text.specs.declared.head.HeadKind.TheVariants.{Image, State, Versioned}
use Rattle.tpm_journal_text.proofs.Tails.{torn_nothing}
use Rattle.tpm_keeping.specs.Journal.{Spot}
use Rattle.tpm_state_text.specs.Body.{WholeState}
use Rattle.tpm_state_text.specs.State.{state_of_text}
use Rattle.tpm_state_text.specs.declared.fault.StateFault.{StateFault}
use Rattle.tpm_kept_journal.specs.Effect.{left_by}
use Rattle.tpm_kept_journal.specs.Opening.{opened_text, performance, performed_on, spot_after_walk, walk}
use Rattle.tpm_kept_journal.specs.Salvage.{entries_size, salvaged_text, size_with, whole_size}
use Rattle.tpm_kept_journal.specs.State.{DeviceState, bytes_of, spot_of}
use Rattle.tpm_kept_journal.specs.texts.EntriesAt.{after_entries, entries_at}
use Rattle.tpm_kept_journal.specs.texts.EntryAt.{entry_at}
use Rattle.tpm_kept_journal.specs.texts.HeadAt.{PlainHead, head_at, text_of_head}
use Rattle.tpm_kept_journal.proofs.Salvaging.{AtEnd, AtEntry, AtFault, Finding, finding, taken_of, there}
use Rattle.tpm_kept_journal.proofs.Starting.{opens_by, opens_none, opens_not}
use Rattle.tpm_kept_journal.proofs.Walks.{spot_made, walk_ends, walk_entry, walk_fails}
use Rattle.tpm_kept_journal.proofs.texts.EntriesAt.{entries_again, entries_found, entries_joined, texts_joined}
use Rattle.tpm_kept_journal.proofs.texts.HeadAt.{head_at_front, head_found}
use Rattle.tpm_kept_journal.proofs.texts.NextAt.{torn_tells}
use Rattle.tpm_kept_journal.proofs.texts.Parts.{so_found}

-- ---- the entries that a walk executed

-- The bytes consist of these entries and further bytes that do not begin with an entry. `n` is
-- `taken` plus the size of the entries.
record IsWalked (chain taken n : ℕ) (text : List ℕ) : Type 0 where
  entries : List PlainEntry
  are : AllByRecursion IsEntry entries
  rest : List ℕ
  parts : text ≡ entries_text chain entries ++ rest
  many : n ≡ taken + length (entries_text chain entries)
  ends : entry_at (sum_after_all chain entries) rest ≡ None

chain_led : (chain : ℕ) (e : PlainEntry) (state : Option DeviceState) (q : Spot)
    → performed_on chain e state ≡ Some q → sum_after chain e ≡ q.chain
chain_led chain e (Some s) q is =
    ap (λ (r : Spot). r.chain)
    (so_found (sum_of (performance s e).step.response == e.answered)
    (spot_made (bytes_of (left_by s e.elapsed (performance s e))) (sum_after chain e)) q is).1
chain_led chain e None q is = absurd cc

found_walked : (bound : ℕ) (p q : Spot) (taken n : ℕ) (text : List ℕ)
    → walk (suc bound) p taken text ≡ Some (q, n)
    → ((s : Spot) (from : ℕ) (left : List ℕ) → walk bound s from left ≡ Some (q, n)
    → IsWalked s.chain from n left) → Finding p text
    → IsWalked p.chain taken n text
found_walked bound p q taken n text leads next (AtEntry e s rest is t performed) =
    let own : List ℕ = entry_text p.chain e in
    let on : walk bound s (taken + length own) rest ≡ Some (q, n) =
    sym (ap (walk (suc bound) p taken) t ∙ walk_entry bound p s e taken rest is performed)
    ∙ leads in
    let w : IsWalked (sum_after p.chain e) (taken + length own) n rest =
    subst (λ (c : ℕ). IsWalked c (taken + length own) n rest)
    (sym (chain_led p.chain e _ s performed)) (next s (taken + length own) rest on) in
    let more : List ℕ = entries_text (sum_after p.chain e) w.entries in
    record {
      entries = e ∷ w.entries;
      are = (is, w.are);
      rest = w.rest;
      parts = t ∙ ap (λ (l : List ℕ). own ++ l) w.parts ∙ sym (append_assoc own more w.rest);
      many = omega (arith, w.many, length-append own more);
      ends = w.ends;
    }
found_walked bound p q taken n text leads next (AtEnd none ends) =
    let here : there p taken ≡ there q n = sym (walk_ends bound p taken text ends) ∙ leads in
    record {
      entries = [];
      are = tt;
      rest = text;
      parts = refl;
      many = omega (arith, ap taken_of here);
      ends = none;
    }
found_walked bound p q taken n text leads next (AtFault fails) =
    let none : there q n ≡ None = sym leads ∙ walk_fails bound p taken text fails in
    absurd cc

walk_parts : (bound : ℕ) (p q : Spot) (taken n : ℕ) (text : List ℕ)
    → walk bound p taken text ≡ Some (q, n) → IsWalked p.chain taken n text
unfolding walk
walk_parts zero p q taken n text leads = absurd cc
walk_parts (suc bound) p q taken n text leads =
    found_walked bound p q taken n text leads
    (λ s from left on. walk_parts bound s q from n left on) (finding p text)

-- ---- the executed entries are at the start of the journal; if no entry follows, they are all its
-- entries

few_entries : (sum : ℕ) (text : List ℕ) (entries : List PlainEntry) (rest : List ℕ)
    → AllByRecursion IsEntry entries
    → text ≡ entries_text sum entries ++ rest
    → length (entries_text sum entries) ≤ entries_size sum text
few_entries sum text entries rest are t =
    let more : List PlainEntry = entries_at (sum_after_all sum entries) rest in
    let all : entries_at sum text ≡ entries ++ more =
    ap (entries_at sum) t ∙ entries_joined sum entries rest are in
    let size : entries_size sum text
    ≡ length (entries_text sum entries ++ entries_text (sum_after_all sum entries) more) =
    ap (λ (es : List PlainEntry). length (entries_text sum es)) all
    ∙ ap length (texts_joined sum entries more) in
    omega (
      arith,
      size,
      length-append (entries_text sum entries)
          (entries_text (sum_after_all sum entries) more),
    )

all_walked : (sum taken n : ℕ) (text : List ℕ)
    → IsWalked sum taken n (take (entries_size sum text) text) → n ≡ taken + entries_size sum text
all_walked sum taken n text walked =
    let entries : List PlainEntry = entries_at sum text in
    let own : List ℕ = entries_text sum entries in
    let found = entries_found sum text in
    let front : take (length own) text ≡ own =
    ap (take (length own)) found.1 ∙ take_at own (after_entries sum entries text) (length own)
    refl in
    let w : IsWalked sum taken n own =
    subst (λ (l : List ℕ). IsWalked sum taken n l) front walked in
    let last : ℕ = sum_after_all sum entries in
    let mine : entries_at sum own ≡ entries =
    ap (entries_at sum) (sym (append-nil own))
    ∙ entries_again sum entries [] found.0 (torn_tells last [] (torn_nothing last)).0 in
    let others : entries_at sum own ≡ w.entries =
    ap (entries_at sum) w.parts ∙ entries_again sum w.entries w.rest w.are w.ends in
    omega (
      arith,
      w.many,
      ap (λ (es : List PlainEntry). length (entries_text sum es))
          (sym others ∙ mine),
    )

-- ---- the entries after a head

module _ (clock : ℕ) (content : List ℕ) (start : Start) where
  sum_by_image : (read : Result NonVolatile ImageFault)
      → start_by_image clock content read ≡ Ok start → start.journal.sum ≡ head_sum clock content
  sum_by_image (Ok kept) is =
      sym (ap (λ (s : Start). s.journal.sum) (ok_is {E = OpenFault} _ start is))
  sum_by_image (Err why) is = absurd cc

  sum_by_state : (read : Result WholeState StateFault)
      → start_by_state clock content read ≡ Ok start → start.journal.sum ≡ head_sum clock content
  sum_by_state (Ok whole) is =
      sym (ap (λ (s : Start). s.journal.sum) (ok_is {E = OpenFault} _ start is))
  sum_by_state (Err why) is = absurd cc

  start_sum : (kind : HeadKind) → start_by kind clock content ≡ Ok start
      → start.journal.sum ≡ head_sum clock content
  start_sum Image is = sum_by_image (image_of content) is
  start_sum State is = sum_by_state (state_of_text content) is
  start_sum (Versioned version) is = sum_by_state (state_of_text content) is

module _ (h : PlainHead) (rest : List ℕ) (p : Spot) (n : ℕ) (has : HasHead h.kind h.clock h.content)
    (leads : opened_text (text_of_head h ++ rest) ≡ Some (p, n)) where
  parts_by : (start : Result Start OpenFault) → start_by h.kind h.clock h.content ≡ start
      → IsWalked (head_sum h.clock h.content) (length (text_of_head h)) n rest
  unfolding spot_after_walk
  parts_by (Err why) is =
      let none : None ≡ there p n =
      sym (opens_not _ h.kind h.clock h.content rest (record { has = has; is = refl }) why is)
      ∙ leads in
      absurd cc
  parts_by (Ok start) is =
      let head : List ℕ = text_of_head h in
      let from : Spot = spot_of start.journal start.device in
      let on : spot_after_walk from (length head) rest ≡ Some (p, n) =
      sym (opens_by (head ++ rest) h.kind h.clock h.content rest (record { has = has; is = refl })
      start is) ∙ leads in
      subst (λ (sum : ℕ). IsWalked sum (length head) n rest)
      (start_sum h.clock h.content start h.kind is)
      (walk_parts (suc (length rest)) from p (length head) n rest on)

  opened_parts : IsWalked (head_sum h.clock h.content) (length (text_of_head h)) n rest
  opened_parts = parts_by (start_by h.kind h.clock h.content) refl

-- ---- comparing the sizes

-- The salvaged part has the size of the intact part.
salvaged_size : (text : List ℕ) (p : Spot) (n : ℕ) (found : Option PlainHead) → head_at text ≡ found
    → opened_text (take (size_with found text) text) ≡ Some (p, n) → n ≡ size_with found text
unfolding opened_text
salvaged_size text p n None at leads = absurd cc
salvaged_size text p n (Some h) at leads =
    let found = head_found text h at in
    let head : List ℕ = text_of_head h in
    let rest : List ℕ = drop (length head) text in
    let sum : ℕ = head_sum h.clock h.content in
    let many : ℕ = entries_size sum rest in
    let so : take (length head + many) text ≡ head ++ take many rest =
    ap (take (length head + many)) found.1 ∙ take-append-add head rest many in
    all_walked sum (length head) n rest
    (opened_parts h (take many rest) p n found.0 (sym (ap opened_text so) ∙ leads))

-- If a prefix of a journal opens, its head and its executed entries are at most as long as the
-- journal's intact part.
front_size : (text : List ℕ) (m : ℕ) (q : Spot) (k : ℕ) (found : Option PlainHead) → AreBytes text
    → head_at (take m text) ≡ found
    → opened_text (take m text) ≡ Some (q, k) → k ≤ size_with (head_at text) text
front_size text m q k None are at leads =
    let none : None ≡ there q k = sym (opens_none (take m text) (AreBytes-take m text are) at)
    ∙ leads in
    absurd cc
front_size text m q k (Some h) are at leads =
    let found = head_found (take m text) h at in
    let head : List ℕ = text_of_head h in
    let sum : ℕ = head_sum h.clock h.content in
    let left : List ℕ = drop (length head) (take m text) in
    let parts : text ≡ head ++ (left ++ drop m text) =
    sym (take-append-drop m text) ∙ ap (λ (l : List ℕ). l ++ drop m text) found.1
    ∙ append_assoc head left (drop m text) in
    let w = opened_parts h left q k found.0 (sym (ap opened_text found.1) ∙ leads) in
    let rest : drop (length head) text ≡ entries_text sum w.entries ++ (w.rest ++ drop m text) =
    ap (drop (length head)) parts ∙ drop_at head (left ++ drop m text) (length head) refl
    ∙ ap (λ (l : List ℕ). l ++ drop m text) w.parts
    ∙ append_assoc (entries_text sum w.entries) w.rest (drop m text) in
    let few : length (entries_text sum w.entries) ≤ entries_size sum (drop (length head) text) =
    few_entries sum (drop (length head) text) w.entries (w.rest ++ drop m text) w.are rest in
    let same : size_with (head_at text) text
    ≡ length head + entries_size sum (drop (length head) text) =
    ap (λ (o : Option PlainHead). size_with o text)
    (head_at_front h (left ++ drop m text) text found.0 parts) in
    omega (arith, w.many, few, same)

pub longest : (text : List ℕ) (p q : Spot) (n m k : ℕ) → AreBytes text
    → salvaged_text text ≡ Some (p, n) → opened_text (take m text) ≡ Some (q, k)
    → k ≤ n
unfolding salvaged_text whole_size
longest text p q n m k are salvaged leads =
    omega (
      arith,
      salvaged_size text p n (head_at text) refl salvaged,
      front_size text m q k (head_at (take m text)) are refl leads,
    )
