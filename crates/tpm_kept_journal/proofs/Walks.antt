-- Executing the entries for commands again reaches the position after these commands.
use Rattle.std.proofs.Common.{◌≡◌, ◌<◌, ◌+◌, ◌==◌, ℕ, zero, suc, true, List, [], ◌∷◌, ◌++◌, length, drop, Option, Some, None, Result, refl, subst, sym, ap, ◌∙◌, append_assoc, arith, drop_at, length-append, eq-eqb}
use Rattle.tpm_completion.specs.Execution.{Seen}
use Rattle.tpm_image_text.specs.declared.fault.Malformed.{Malformed}
use Rattle.tpm_journal.specs.Command.{Command, entry_of}
use Rattle.tpm_journal_text.specs.Entry.{IsEntry, PlainEntry, entry_text, sum_after}
use Rattle.tpm_journal_text.specs.Sum.{sum_of}
use Rattle.tpm_journal_text.proofs.Standing.{entry_text_some}
use Rattle.tpm_keeping.specs.Journal.{Entered, Spot, entries, next_spot, trail}
use Rattle.tpm_kept_journal.specs.Command.{Executes, KeptCommand, command_of}
use Rattle.tpm_kept_journal.specs.DeviceJournal.{device_journal}
use Rattle.tpm_kept_journal.specs.Effect.{command_on, effect, entry_at_spot, entry_if_any, left_by, state_after_command, sum_if, text_if, with_both}
use Rattle.tpm_kept_journal.specs.Opening.{Ends, Fails, Found, Goes, found_at, found_by, found_next, performed_on, spot_after_walk, walk}
use Rattle.tpm_kept_journal.specs.State.{DeviceState, bytes_of, state_of_bytes}
use Rattle.tpm_kept_journal.specs.texts.NextAt.{Torn, Whole}
use Rattle.tpm_kept_journal.specs.texts.Parts.{where_so}
use Rattle.tpm_kept_journal.specs.texts.TornText.{is_torn_text}
use Rattle.tpm_kept_journal.proofs.Entries.{IsEntered, entry_of_given, is_entered}
use Rattle.tpm_kept_journal.proofs.Replay.{performed_again}
use Rattle.tpm_kept_journal.proofs.texts.NextAt.{next_only}
use Rattle.tpm_kept_journal.proofs.texts.Parts.{so_told}
use Rattle.tpm_kept_journal.proofs.texts.TornText.{is_torn_text-Decides}

-- ---- what the bytes begin with

-- If the bytes begin with an entry, `found_at` returns the result of that entry.
pub found_entry : (p : Spot) (e : PlainEntry) (rest : List ℕ) → IsEntry e
    → found_at p (entry_text p.chain e ++ rest)
    ≡ found_by (length (entry_text p.chain e)) (performed_on p.chain e (state_of_bytes p.state))
unfolding found_at
found_entry p e rest is =
    let text : List ℕ = entry_text p.chain e ++ rest in
    ap (found_next p) (next_only p.chain text (Whole e) (
      is,
      ap (λ (l : List ℕ). entry_text p.chain e ++ l)
          (sym (drop_at (entry_text p.chain e) rest (length (entry_text p.chain e)) refl)),
    ))

-- If the bytes are torn, `found_at` returns `Ends`.
pub found_torn : (p : Spot) (text : List ℕ) → is_torn_text p.chain text ≡ true
    → found_at p text ≡ Ends
unfolding found_at
found_torn p text torn =
    ap (found_next p) (next_only p.chain text Torn ((is_torn_text-Decides p.chain text).0 torn))

-- ---- a step of a walk

abbrev walk_by : Found → (bound : ℕ) → Spot → (taken : ℕ) → List ℕ → Option (Spot × ℕ)
walk_by found bound p taken text = elim found [
  | Goes q size ↦ walk bound q (taken + size) (drop size text)
  | Ends ↦ Some (p, taken)
  | Fails ↦ None
]

pub walk_goes : (bound : ℕ) (p q : Spot) (size taken : ℕ) (text : List ℕ)
    → found_at p text ≡ Goes q size
    → walk (suc bound) p taken text ≡ walk bound q (taken + size) (drop size text)
unfolding walk
walk_goes bound p q size taken text found = ap (λ (f : Found). walk_by f bound p taken text) found

pub walk_ends : (bound : ℕ) (p : Spot) (taken : ℕ) (text : List ℕ) → found_at p text ≡ Ends
    → walk (suc bound) p taken text ≡ Some (p, taken)
unfolding walk
walk_ends bound p taken text found = ap (λ (f : Found). walk_by f bound p taken text) found

pub walk_fails : (bound : ℕ) (p : Spot) (taken : ℕ) (text : List ℕ) → found_at p text ≡ Fails
    → walk (suc bound) p taken text ≡ None
unfolding walk
walk_fails bound p taken text found = ap (λ (f : Found). walk_by f bound p taken text) found

-- If the first entry can be executed, the walk continues after it.
pub walk_entry : (bound : ℕ) (p q : Spot) (e : PlainEntry) (taken : ℕ) (rest : List ℕ) → IsEntry e
    → performed_on p.chain e (state_of_bytes p.state) ≡ Some q
    → walk (suc bound) p taken (entry_text p.chain e ++ rest)
    ≡ walk bound q (taken + length (entry_text p.chain e)) rest
walk_entry bound p q e taken rest is performed =
    let size : ℕ = length (entry_text p.chain e) in
    walk_goes bound p q size taken (entry_text p.chain e ++ rest)
    (found_entry p e rest is ∙ ap (found_by size) performed)
    ∙ ap (walk bound q (taken + size)) (drop_at (entry_text p.chain e) rest size refl)

-- If the first entry cannot be executed, the walk fails.
pub walk_otherwise : (bound : ℕ) (p : Spot) (e : PlainEntry) (taken : ℕ) (rest : List ℕ) → IsEntry e
    → performed_on p.chain e (state_of_bytes p.state) ≡ None
    → walk (suc bound) p taken (entry_text p.chain e ++ rest) ≡ None
walk_otherwise bound p e taken rest is performed =
    let size : ℕ = length (entry_text p.chain e) in
    walk_fails bound p taken (entry_text p.chain e ++ rest)
    (found_entry p e rest is ∙ ap (found_by size) performed)

-- ---- one command with an entry

abbrev pub spot_made : List ℕ → ℕ → Spot
spot_made state chain = record { state = state; chain = chain }

-- The effect of a command on a position. `Nowhere`: the command's entry is empty, and the position
-- stays the same. `Further`: the command has an entry, and the position after the command is the
-- position after this entry.
pub data Leads (p : Spot) (c : List ℕ) : Type 0 where
  Nowhere : (device_journal.entry p c ≡ []) → (next_spot device_journal p c ≡ p) → Leads p c
  Further : (e : PlainEntry) → IsEntry e → (device_journal.entry p c ≡ entry_text p.chain e)
      → (performed_on p.chain e (state_of_bytes p.state) ≡ Some (next_spot device_journal p c))
      → Leads p c

module _ (p : Spot) (c : List ℕ) (found : IsEntered c) where
  abbrev given_command : KeptCommand
  given_command = Executes found.moment found.locality found.completes found.random found.buffer

  abbrev command : DeviceState → Command
  command s = command_on s found.moment found.locality found.completes found.random found.buffer

  abbrev entry : DeviceState → PlainEntry
  entry s = entry_of (command s) (effect s (command s))

  -- `with_both` returns `f` applied to this state and the command, because both can be decoded
  said : {X : Type 0} (other : X) (f : DeviceState → KeptCommand → X) (s : DeviceState)
      → state_of_bytes p.state ≡ Some s
      → with_both (state_of_bytes p.state) (command_of c) other f ≡ f s given_command
  said other f s is =
      ap (λ (o : Option DeviceState). with_both o (command_of c) other f) is
      ∙ ap (λ (r : Result KeptCommand Malformed). with_both (Some s) r other f) found.is

  unsaid : {X : Type 0} (other : X) (f : DeviceState → KeptCommand → X)
      → state_of_bytes p.state ≡ None
      → with_both (state_of_bytes p.state) (command_of c) other f ≡ other
  unsaid other f is = ap (λ (o : Option DeviceState). with_both o (command_of c) other f) is

  -- the position after the command
  abbrev spot_after : DeviceState → Spot
  spot_after s = spot_made (bytes_of (left_by s (command s).elapsed (effect s (command s))))
      (sum_after p.chain (entry s))

  performed : (s : DeviceState) → performed_on p.chain (entry s) (Some s) ≡ Some (spot_after s)
  performed s =
      let seen : Seen = effect s (command s) in
      ap (λ (x : Seen). where_so (sum_of x.step.response == (entry s).answered)
      (spot_made (bytes_of (left_by s (entry s).elapsed x)) (sum_after p.chain (entry s))))
      (performed_again s (command s) found.given.1)
      ∙ so_told (sum_of seen.step.response == sum_of seen.step.response) (spot_after s)
      (eq-eqb _ _ refl)

  -- If the position encodes a state, the position after the command is the position after the
  -- command's entry.
  further : (s : DeviceState) → state_of_bytes p.state ≡ Some s → Leads p c
  further s is =
      let entry_is : entry_at_spot p c ≡ Some (entry s) = said None entry_if_any s is in
      let step : next_spot device_journal p c ≡ spot_after s =
      ap (λ (b : List ℕ). spot_made b (sum_if p.chain (entry_at_spot p c)))
      (said p.state (λ s c. bytes_of (state_after_command s c)) s is)
      ∙ ap (λ (o : Option PlainEntry). spot_made (bytes_of (state_after_command s given_command))
      (sum_if p.chain o)) entry_is in
      Further (entry s)
      (entry_of_given s found.moment found.locality found.completes found.random found.buffer
      (effect s (command s)) found.given)
      (ap (text_if p.chain) entry_is)
      (ap (performed_on p.chain (entry s)) is ∙ performed s ∙ ap (λ (q : Spot). Some q) (sym step))

  nowhere : state_of_bytes p.state ≡ None → Leads p c
  nowhere is =
      let entry_is : entry_at_spot p c ≡ None = unsaid None entry_if_any is in
      Nowhere (ap (text_if p.chain) entry_is)
      (ap (λ (b : List ℕ). spot_made b (sum_if p.chain (entry_at_spot p c)))
      (unsaid p.state (λ s c. bytes_of (state_after_command s c)) is)
      ∙ ap (λ (o : Option PlainEntry). spot_made p.state (sum_if p.chain o)) entry_is)

  leads_by : (state : Option DeviceState) → state_of_bytes p.state ≡ state → Leads p c
  leads_by None is = nowhere is
  leads_by (Some s) is = further s is

pub leads : (p : Spot) (c : List ℕ) → device_journal.is_entered c ≡ true → Leads p c
leads p c is = leads_by p c (is_entered c is) (state_of_bytes p.state) refl

-- ---- the entries for commands

abbrev pub all : Spot → List (List ℕ) → List ℕ
all p cs = entries device_journal p cs

abbrev pub end_of : Spot → List (List ℕ) → Spot
end_of p cs = trail device_journal p cs

-- If walking over the entries of `cs` ends at the position after `cs`, walking over the entry of
-- `c` and then over these entries ends at the same position.
walk_led : (c : List ℕ) (cs : List (List ℕ)) (bound : ℕ) (p : Spot) (taken : ℕ) (tail : List ℕ)
    → ((bound taken : ℕ) → length (all (next_spot device_journal p c) cs ++ tail) < bound
    → walk bound (next_spot device_journal p c) taken
    (all (next_spot device_journal p c) cs ++ tail)
    ≡ Some (
      end_of (next_spot device_journal p c) cs,
      taken + length (all (next_spot device_journal p c) cs),
    ))
    → length ((device_journal.entry p c ++ all (next_spot device_journal p c) cs) ++ tail)
    < suc bound → Leads p c
    → walk (suc bound) p taken ((device_journal.entry p c ++ all (next_spot device_journal p c) cs)
    ++ tail)
    ≡ Some (
      end_of (next_spot device_journal p c) cs,
      taken + length (device_journal.entry p c ++ all (next_spot device_journal p c) cs),
    )
walk_led c cs bound p taken tail next less (Nowhere none still) =
    let q : Spot = next_spot device_journal p c in
    let less' : length (all q cs ++ tail) < suc bound =
    subst (λ (l : List ℕ). length ((l ++ all q cs) ++ tail) < suc bound) none less in
    ap (λ (l : List ℕ). walk (suc bound) p taken ((l ++ all q cs) ++ tail)) none
    ∙ ap (λ (r : Spot). walk (suc bound) r taken (all q cs ++ tail)) (sym still)
    ∙ next (suc bound) taken less'
    ∙ ap (λ (l : List ℕ). Some (end_of q cs, taken + length (l ++ all q cs))) (sym none)
walk_led c cs bound p taken tail next less (Further e is text performed) =
    let q : Spot = next_spot device_journal p c in
    let own : List ℕ = entry_text p.chain e in
    let rest : List ℕ = all q cs in
    let parts : (device_journal.entry p c ++ rest) ++ tail ≡ own ++ (rest ++ tail) =
    ap (λ (l : List ℕ). (l ++ rest) ++ tail) text ∙ append_assoc own rest tail in
    let size : taken + length own + length rest ≡ taken + length (own ++ rest) =
    omega (arith, length-append own rest) in
    let some : 0 < length own = entry_text_some p.chain e in
    let less' : length (rest ++ tail) < bound =
    omega (arith, less, ap length parts, length-append own (rest ++ tail), some) in
    ap (walk (suc bound) p taken) parts
    ∙ walk_entry bound p q e taken (rest ++ tail) is performed
    ∙ next bound (taken + length own) less'
    ∙ ap (λ (n : ℕ). Some (end_of q cs, n)) size
    ∙ ap (λ (l : List ℕ). Some (end_of q cs, taken + length (l ++ rest))) (sym text)

pub walk_all : (cs : List (List ℕ)) (bound : ℕ) (p : Spot) (taken : ℕ) (tail : List ℕ)
    → Entered device_journal cs
    → is_torn_text (end_of p cs).chain tail ≡ true → length (all p cs ++ tail) < bound
    → walk bound p taken (all p cs ++ tail) ≡ Some (end_of p cs, taken + length (all p cs))
walk_all [] zero p taken tail are torn less = absurd (omega (arith, less))
walk_all [] (suc bound) p taken tail are torn less =
    let none : taken ≡ taken + 0 = omega arith in
    walk_ends bound p taken tail (found_torn p tail torn) ∙ ap (λ (n : ℕ). Some (p, n)) none
walk_all (c ∷ cs) zero p taken tail are torn less = absurd (omega (arith, less))
walk_all (c ∷ cs) (suc bound) p taken tail are torn less =
    walk_led c cs bound p taken tail
    (λ bound taken less. walk_all cs bound (next_spot device_journal p c) taken tail are.1 torn
    less)
    less (leads p c are.0)

pub walked_all : (p : Spot) (cs : List (List ℕ)) (taken : ℕ) (tail : List ℕ)
    → Entered device_journal cs
    → is_torn_text (end_of p cs).chain tail ≡ true
    → spot_after_walk p taken (all p cs ++ tail) ≡ Some (end_of p cs, taken + length (all p cs))
unfolding spot_after_walk
walked_all p cs taken tail are torn =
    walk_all cs (suc (length (all p cs ++ tail))) p taken tail are torn (omega arith)
