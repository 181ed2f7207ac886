-- A line with a meaning has the effect of that meaning; a line without a meaning is bad.
use Rattle.std.proofs.Common.{◌≡◌, ℕ, ◌<◌, ◌≤◌, List, [], ◌++◌, Bool, true, false, cond, length, Option, Some, None, Result, Ok, Err, refl, sym, ap, ◌∙◌, append-nil, append_assoc}
use Rattle.std.specs.Prelude.{nat_le, option_and_then}
use Rattle.std.proofs.lemmas.Bool.{false≢true, le-leb, lt-leb}
use Rattle.std.specs.Io.KnownBytes.{Appends}
use Rattle.std.specs.Prelude.{OnOk, OnErr}
use Rattle.tpm_step.specs.step.Events.{Cycled}
use Rattle.tpm_step.specs.step.Step.{Stepped, step}
use Rattle.tpmsim_script.specs.Line.{Meaning, line_meaning}
use Rattle.tpmsim_script.specs.Answers.{CutOff}
use Rattle.tpmsim_script.specs.Player.{Did, Told}
use Rattle.tpmsim_script.proofs.CutText.{cut_after, cut_behind, cut_longer}
use Rattle.tpmsim_script.specs.declared.line_fault.LineFault.{LineFault}
use Rattle.tpmsim_script.specs.declared.line_fault.LineFault.TheVariants.{Bad, Write, Save}
use Rattle.tpmsim_script.specs.Script.{Playing, Effect, answer, command_of, cycle, cycle_to, execute, perform, perform_line, printed_response, printed_trace}

said_done : (p : Playing) (line : List ℕ) (said : Meaning) → length line ≤ 65536
    → line_meaning line ≡ Some said → perform_line p line ≡ perform p said
unfolding perform_line
said_done p line said short e =
    ap (λ b. cond b (option_and_then (perform p) (line_meaning line)) None)
    (le-leb (length line) 65536 short) ∙ ap (option_and_then (perform p)) e

chosen_none : (b : Bool) → cond b None None ≡ (let none : Option Effect = None in none)
chosen_none true = refl
chosen_none false = refl

pub unsaid_done : (p : Playing) (line : List ℕ) → line_meaning line ≡ None
    → perform_line p line ≡ None
unfolding perform_line
unsaid_done p line e =
    ap (λ said. cond (nat_le (length line) 65536) (option_and_then (perform p) said) None) e
    ∙ chosen_none (nat_le (length line) 65536)

pub nothing_printed : (known : Option (List ℕ)) → Appends known known []
nothing_printed None = tt
nothing_printed (Some known) = sym (append-nil known)

-- A line that is too long is invalid.
pub lt_none : (p : Playing) (line : List ℕ) → 65536 < length line → perform_line p line ≡ None
unfolding perform_line
lt_none p line long = ap (λ b. cond b (option_and_then (perform p) (line_meaning line)) None)
    (lt-leb (length line) 65536 long)

-- Performing the parsed meaning of a line has the effect that is defined for the line.
pub did_said : (p : Playing) (line : List ℕ) (said : Meaning) (old : Option (List ℕ))
    (before : Playing) (result : Result (Unit {0}) LineFault) (new : Option (List ℕ))
    (after : Playing)
    → length line ≤ 65536 → line_meaning line ≡ Some said
    → Did (perform p said) old before result new after
    → Did (perform_line p line) old before result new after
did_said p line said old before (Ok done) new after short e did =
    (did.0, said_done p line said short e ∙ did.1, did.2, did.3)
did_said p line said old before (Err Bad) new after short e did =
    (said_done p line said short e ∙ did.0, did.1, did.2)
did_said p line said old before (Err Write) new after short e did =
    (did.0, said_done p line said short e ∙ did.1, did.2, did.3)
did_said p line said old before (Err Save) new after short e did = did

abbrev is_bad : Result (Unit {0}) LineFault → Bool
is_bad (Err Bad) = true
is_bad other = false

bad_is_no_write : (let bad : Result (Unit {0}) LineFault = Err Bad in bad ≡ Err Write) → ⊥
bad_is_no_write e = false≢true (sym (ap is_bad e))

abbrev is_write : Result (Unit {0}) LineFault → Bool
is_write (Err Write) = true
is_write other = false

ok_is_no_write : (done : Unit {0})
    → (let ok : Result (Unit {0}) LineFault = Ok done in ok ≡ Err Write) → ⊥
ok_is_no_write done e = false≢true (ap is_write e)

save_is_no_write : (let save : Result (Unit {0}) LineFault = Err Save in save ≡ Err Write) → ⊥
save_is_no_write e = false≢true (ap is_write e)

appended_twice : (old mid new : Option (List ℕ)) (first more : List ℕ) → Appends old mid first
    → Appends mid new more → Appends old new (first ++ more)
appended_twice None mid new first more h k = tt
appended_twice (Some old) None new first more h k = absurd h
appended_twice (Some old) (Some mid) None first more h k = absurd k
appended_twice (Some old) (Some mid) (Some new) first more h k =
    k ∙ ap (λ (l : List ℕ). l ++ more) h ∙ append_assoc old first more

-- A line with a command satisfies `Did` under these conditions: the command was executed; its trace
-- was printed, if requested; and then its response was printed or, if the writer failed, truncated.
pub executed : (p : Playing) (buffer : List ℕ) (s : Stepped) (old mid : Option (List ℕ))
    (result : Result (Unit {0}) LineFault) (new : Option (List ℕ)) (after : Playing)
    → s ≡ step p.device (command_of p buffer)
    → Appends old mid (printed_trace p.traced (command_of p buffer) s)
    → OnOk result (Appends mid new (printed_response s.response))
    → OnErr result (CutOff mid new)
    → after ≡ (answer p (command_of p buffer) s).next → OnErr result (result ≡ Err Write)
    → Did (Some (execute p buffer)) old p result new after
executed p buffer s old mid (Ok done) new after is traced printed cut next err = (
  answer p (command_of p buffer) s,
  ap (λ s. Some (answer p (command_of p buffer) s)) (sym is),
  appended_twice old mid new _ _ traced printed,
  next,
)
executed p buffer s old mid (Err Bad) new after is traced printed cut next err =
    absurd (bad_is_no_write err)
executed p buffer s old mid (Err Write) new after is traced printed cut next err = (
  answer p (command_of p buffer) s,
  ap (λ s. Some (answer p (command_of p buffer) s)) (sym is),
  cut_after old mid new _ _ traced (cut_longer mid new _ cut),
  next,
)
executed p buffer s old mid (Err Save) new after is traced printed cut next err =
    absurd (save_is_no_write err)

-- A line with a command also satisfies `Did` if the command was executed, but the writer failed and
-- the output was truncated.
pub untraced : (p : Playing) (buffer : List ℕ) (s : Stepped) (old : Option (List ℕ))
    (result : Result (Unit {0}) LineFault) (new : Option (List ℕ)) (after : Playing)
    → s ≡ step p.device (command_of p buffer) → OnErr result (CutOff old new)
    → after ≡ (answer p (command_of p buffer) s).next → result ≡ Err Write
    → Did (Some (execute p buffer)) old p result new after
untraced p buffer s old (Ok done) new after is cut next e = absurd (ok_is_no_write done e)
untraced p buffer s old (Err Bad) new after is cut next e = absurd (bad_is_no_write e)
untraced p buffer s old (Err Write) new after is cut next e = (
  answer p (command_of p buffer) s,
  ap (λ s. Some (answer p (command_of p buffer) s)) (sym is),
  cut_longer old new _ cut,
  next,
)
untraced p buffer s old (Err Save) new after is cut next e = absurd (save_is_no_write e)

-- A line with a power cycle satisfies `Did` under these conditions: the device was power-cycled;
-- and the trace was printed, if requested, or, if the writer failed, truncated.
pub cycled : (p : Playing) (s : Stepped) (old : Option (List ℕ))
    (result : Result (Unit {0}) LineFault) (new : Option (List ℕ)) (after : Playing)
    → s ≡ step p.device Cycled → OnOk result (Appends old new (printed_trace p.traced Cycled s))
    → OnErr result (CutOff old new) → after ≡ (cycle_to p s).next
    → OnErr result (result ≡ Err Write)
    → Did (Some (cycle p)) old p result new after
cycled p s old (Ok done) new after is printed cut next err =
    (cycle_to p s, ap (λ s. Some (cycle_to p s)) (sym is), printed, next)
cycled p s old (Err Bad) new after is printed cut next err = absurd (bad_is_no_write err)
cycled p s old (Err Write) new after is printed cut next err =
    (cycle_to p s, ap (λ s. Some (cycle_to p s)) (sym is), cut_longer old new _ cut, next)
cycled p s old (Err Save) new after is printed cut next err = absurd (save_is_no_write err)

-- ---- the saver's notifications

-- `Told` holds for every result, if the saver was notified, and no part except the writer can have
-- failed.
pub told_then : {S : Type 0} (tells : S → Type 0) (old : S) (result : Result (Unit {0}) LineFault)
    (new : S) → OnErr result (result ≡ Err Write) → tells new → Told tells old result new
told_then tells old (Ok done) new err told = told
told_then tells old (Err Bad) new err told = absurd (bad_is_no_write err)
told_then tells old (Err Write) new err told = told
told_then tells old (Err Save) new err told = tt

pub told_unwritten : {S : Type 0} (tells : S → Type 0) (old : S)
    (result : Result (Unit {0}) LineFault) (new : S) → result ≡ Err Write → tells new
    → Told tells old result new
told_unwritten tells old (Ok done) new err told = told
told_unwritten tells old (Err Bad) new err told = absurd (bad_is_no_write err)
told_unwritten tells old (Err Write) new err told = told
told_unwritten tells old (Err Save) new err told = tt
