-- Salvaging succeeds if a prefix of the bytes opens and no whole entry follows this prefix.
use Rattle.std.proofs.Common.{◌≡◌, ◌≤◌, ◌+◌, ◌==◌, ℕ, zero, suc, List, [], ◌∷◌, ◌++◌, length, drop, take, Option, Some, None, Result, Ok, Err, refl, subst, sym, ap, ◌∙◌, append-nil, append_assoc, arith, drop_at, length-append}
use Rattle.std.specs.List.{AllByRecursion}
use Rattle.std.proofs.lemmas.List.{take-append-drop, length-take}
use Rattle.tpm_bytes.specs.Reading.{AreBytes}
use Rattle.tpm_bytes.proofs.Fields.{AreBytes-take, ok_is}
use Rattle.tpm_image_text.specs.Image.{image_of}
use Rattle.tpm_image_text.specs.NonVolatile.{NonVolatile}
use Rattle.tpm_image_text.specs.declared.fault.ImageFault.{ImageFault}
use Rattle.tpm_journal.specs.Starting.{Start, start_by, start_by_image, start_by_state}
use Rattle.tpm_journal.specs.declared.opening.OpenFault.{OpenFault}
use Rattle.tpm_journal_text.specs.Entry.{IsEntry, PlainEntry, entry_text, sum_after}
use Rattle.tpm_journal_text.specs.Head.{HasHead, head_sum}
use Rattle.tpm_journal_text.specs.Journal.{entries_text, sum_after_all}
use Rattle.tpm_journal_text.specs.Sum.{sum_of}
use Rattle.tpm_journal_text.specs.declared.head.HeadKind.{HeadKind}
use Rattle.tpm_journal_text.specs.declared.head.HeadKind.TheVariants.{Image, State, Versioned}
use Rattle.tpm_keeping.specs.Journal.{Spot}
use Rattle.tpm_state_text.specs.Body.{WholeState}
use Rattle.tpm_state_text.specs.State.{state_of_text}
use Rattle.tpm_state_text.specs.declared.fault.StateFault.{StateFault}
use Rattle.tpm_kept_journal.specs.Effect.{left_by}
use Rattle.tpm_kept_journal.specs.Opening.{opened_text, performance, performed_on, spot_after_walk, walk}
use Rattle.tpm_kept_journal.specs.Salvage.{salvaged_text, size_with, whole_size}
use Rattle.tpm_kept_journal.specs.State.{DeviceState, bytes_of, spot_of}
use Rattle.tpm_kept_journal.specs.texts.EntriesAt.{entries_at}
use Rattle.tpm_kept_journal.specs.texts.EntryAt.{entry_at}
use Rattle.tpm_kept_journal.specs.texts.HeadAt.{PlainHead, head_at, text_of_head}
use Rattle.tpm_kept_journal.proofs.Salvaging.{AtEnd, AtEntry, AtFault, Finding, finding, taken_of, there}
use Rattle.tpm_kept_journal.proofs.Starting.{opens_by, opens_none, opens_not}
use Rattle.tpm_kept_journal.proofs.Walks.{spot_made, walk_ends, walk_entry, walk_fails}
use Rattle.tpm_kept_journal.proofs.texts.EntriesAt.{entries_again}
use Rattle.tpm_kept_journal.proofs.texts.HeadAt.{head_at_front, head_found}
use Rattle.tpm_kept_journal.proofs.texts.Parts.{so_found}
use Rattle.tpm_kept_laws.specs.Salvaging.{SalvagesFront}

-- ---- the entries that a walk executed, and the checksum after them

-- The bytes consist of these entries and further bytes. `n` is `taken` plus the size of the entries,
-- and `last` is the checksum after them.
record IsWalked (chain taken n last : ℕ) (text : List ℕ) : Type 0 where
  entries : List PlainEntry
  are : AllByRecursion IsEntry entries
  rest : List ℕ
  parts : text ≡ entries_text chain entries ++ rest
  many : n ≡ taken + length (entries_text chain entries)
  ends : sum_after_all chain entries ≡ last

chain_led : (chain : ℕ) (e : PlainEntry) (state : Option DeviceState) (q : Spot)
    → performed_on chain e state ≡ Some q → sum_after chain e ≡ q.chain
chain_led chain e (Some s) q is =
    ap (λ (r : Spot). r.chain)
    (so_found (sum_of (performance s e).step.response == e.answered)
    (spot_made (bytes_of (left_by s e.elapsed (performance s e))) (sum_after chain e)) q is).1
chain_led chain e None q is = absurd cc

chain_of : Option (Spot × ℕ) → ℕ
chain_of None = 0
chain_of (Some found) = found.0.chain

found_walked : (bound : ℕ) (p q : Spot) (taken n : ℕ) (text : List ℕ)
    → walk (suc bound) p taken text ≡ Some (q, n)
    → ((s : Spot) (from : ℕ) (left : List ℕ) → walk bound s from left ≡ Some (q, n)
    → IsWalked s.chain from n q.chain left) → Finding p text
    → IsWalked p.chain taken n q.chain text
unfolding chain_of
found_walked bound p q taken n text leads next (AtEntry e s rest is t performed) =
    let own : List ℕ = entry_text p.chain e in
    let on : walk bound s (taken + length own) rest ≡ Some (q, n) =
    sym (ap (walk (suc bound) p taken) t ∙ walk_entry bound p s e taken rest is performed)
    ∙ leads in
    let w : IsWalked (sum_after p.chain e) (taken + length own) n q.chain rest =
    subst (λ (c : ℕ). IsWalked c (taken + length own) n q.chain rest)
    (sym (chain_led p.chain e _ s performed)) (next s (taken + length own) rest on) in
    let more : List ℕ = entries_text (sum_after p.chain e) w.entries in
    record {
      entries = e ∷ w.entries;
      are = (is, w.are);
      rest = w.rest;
      parts = t ∙ ap (λ (l : List ℕ). own ++ l) w.parts ∙ sym (append_assoc own more w.rest);
      many = omega (arith, w.many, length-append own more);
      ends = w.ends;
    }
found_walked bound p q taken n text leads next (AtEnd none ends) =
    let here : there p taken ≡ there q n = sym (walk_ends bound p taken text ends) ∙ leads in
    record {
      entries = [];
      are = tt;
      rest = text;
      parts = refl;
      many = omega (arith, ap taken_of here);
      ends = ap chain_of here;
    }
found_walked bound p q taken n text leads next (AtFault fails) =
    let none : there q n ≡ None = sym leads ∙ walk_fails bound p taken text fails in
    absurd cc

walk_parts : (bound : ℕ) (p q : Spot) (taken n : ℕ) (text : List ℕ)
    → walk bound p taken text ≡ Some (q, n) → IsWalked p.chain taken n q.chain text
unfolding walk
walk_parts zero p q taken n text leads = absurd cc
walk_parts (suc bound) p q taken n text leads =
    found_walked bound p q taken n text leads
    (λ s from left on. walk_parts bound s q from n left on) (finding p text)

-- ---- the entries after a head

module _ (clock : ℕ) (content : List ℕ) (start : Start) where
  sum_by_image : (read : Result NonVolatile ImageFault)
      → start_by_image clock content read ≡ Ok start → start.journal.sum ≡ head_sum clock content
  sum_by_image (Ok kept) is =
      sym (ap (λ (s : Start). s.journal.sum) (ok_is {E = OpenFault} _ start is))
  sum_by_image (Err why) is = absurd cc

  sum_by_state : (read : Result WholeState StateFault)
      → start_by_state clock content read ≡ Ok start → start.journal.sum ≡ head_sum clock content
  sum_by_state (Ok whole) is =
      sym (ap (λ (s : Start). s.journal.sum) (ok_is {E = OpenFault} _ start is))
  sum_by_state (Err why) is = absurd cc

  start_sum : (kind : HeadKind) → start_by kind clock content ≡ Ok start
      → start.journal.sum ≡ head_sum clock content
  start_sum Image is = sum_by_image (image_of content) is
  start_sum State is = sum_by_state (state_of_text content) is
  start_sum (Versioned version) is = sum_by_state (state_of_text content) is

module _ (h : PlainHead) (rest : List ℕ) (p : Spot) (n : ℕ) (has : HasHead h.kind h.clock h.content)
    (leads : opened_text (text_of_head h ++ rest) ≡ Some (p, n)) where
  parts_by : (start : Result Start OpenFault) → start_by h.kind h.clock h.content ≡ start
      → IsWalked (head_sum h.clock h.content) (length (text_of_head h)) n p.chain rest
  unfolding spot_after_walk
  parts_by (Err why) is =
      let none : None ≡ there p n =
      sym (opens_not _ h.kind h.clock h.content rest (record { has = has; is = refl }) why is)
      ∙ leads in
      absurd cc
  parts_by (Ok start) is =
      let head : List ℕ = text_of_head h in
      let from : Spot = spot_of start.journal start.device in
      let on : spot_after_walk from (length head) rest ≡ Some (p, n) =
      sym (opens_by (head ++ rest) h.kind h.clock h.content rest (record { has = has; is = refl })
      start is) ∙ leads in
      subst (λ (sum : ℕ). IsWalked sum (length head) n p.chain rest)
      (start_sum h.clock h.content start h.kind is)
      (walk_parts (suc (length rest)) from p (length head) n rest on)

  opened_parts : IsWalked (head_sum h.clock h.content) (length (text_of_head h)) n p.chain rest
  opened_parts = parts_by (start_by h.kind h.clock h.content) refl

-- ---- the size of the intact part

-- a list of no more elements than `l`, which ends with further elements, has none of them
nothing_more : (front rest : List ℕ) → length (front ++ rest) ≤ length front → rest ≡ []
nothing_more front [] few = refl
nothing_more front (byte ∷ rest) few =
    absurd (omega (arith, few, length-append front (byte ∷ rest)))

-- The prefix that opens is exactly the intact part.
front_is_whole : (text : List ℕ) (p : Spot) (n : ℕ) (found : Option PlainHead) → AreBytes text
    → head_at (take n text) ≡ found
    → opened_text (take n text) ≡ Some (p, n) → entry_at p.chain (drop n text) ≡ None
    → size_with (head_at text) text ≡ n
front_is_whole text p n None are at leads last =
    let none : None ≡ there p n = sym (opens_none (take n text) (AreBytes-take n text are) at)
    ∙ leads in
    absurd cc
front_is_whole text p n (Some h) are at leads last =
    let found = head_found (take n text) h at in
    let head : List ℕ = text_of_head h in
    let sum : ℕ = head_sum h.clock h.content in
    let left : List ℕ = drop (length head) (take n text) in
    let w = opened_parts h left p n found.0 (sym (ap opened_text found.1) ∙ leads) in
    let own : List ℕ = entries_text sum w.entries in
    let few : length (own ++ w.rest) ≤ length own =
    omega (
      arith,
      w.many,
      length-take n text,
      ap length found.1,
      length-append head left,
      ap length w.parts,
    ) in
    let all : left ≡ own = w.parts ∙ ap (λ (l : List ℕ). own ++ l) (nothing_more own w.rest few)
    ∙ append-nil own in
    let parts : text ≡ head ++ (left ++ drop n text) =
    sym (take-append-drop n text) ∙ ap (λ (l : List ℕ). l ++ drop n text) found.1
    ∙ append_assoc head left (drop n text) in
    let rest : drop (length head) text ≡ own ++ drop n text =
    ap (drop (length head)) parts ∙ drop_at head (left ++ drop n text) (length head) refl
    ∙ ap (λ (l : List ℕ). l ++ drop n text) all in
    let entries : entries_at sum (drop (length head) text) ≡ w.entries =
    ap (entries_at sum) rest
    ∙ entries_again sum w.entries (drop n text) w.are
    (ap (λ (c : ℕ). entry_at c (drop n text)) w.ends ∙ last) in
    ap (λ (o : Option PlainHead). size_with o text)
    (head_at_front h (left ++ drop n text) text found.0 parts)
    ∙ ap (λ (es : List PlainEntry). length head + length (entries_text sum es)) entries
    ∙ sym w.many

pub salvages_front : SalvagesFront
unfolding salvaged_text whole_size
salvages_front text p n are leads last =
    ap (λ (size : ℕ). opened_text (take size text))
    (front_is_whole text p n (head_at (take n text)) are refl leads last)
    ∙ leads
