-- Checking a script finds the same bad line as running it.
use Rattle.std.proofs.Common.{◌≡◌, ℕ, ◌+◌, Bool, true, false, List, [], ◌∷◌, ◌++◌, Option, Some, None, IfSome, Result, Ok, Err, refl, sym, ap, ◌∙◌, not, cond, ok_or, option_map, option_and_then}
use Rattle.std.specs.Prelude.{◌^◌, ◌&&◌, nat_le, nat_lt, length}
use Rattle.std.specs.Result.{result_ok}
use Rattle.tpm_bytes.specs.Reading.{◌>>=◌, refused_if}
use Rattle.tpm_commands.specs.declared.profile.Profile.{Profile}
use Rattle.tpm_commands.specs.declared.profile.Profile.TheVariants.{Symmetric}
use Rattle.tpm_step.specs.step.Events.{Cycled}
use Rattle.tpm_step.specs.step.Profiles.{KeepsProfile}
use Rattle.tpm_step.proofs.step.Profiles.{step_keeps}
use Rattle.tpm_text.specs.Line.{assembled_for}
use Rattle.tpm_text.specs.declared.fault.AsmFault.{AsmFault}
use Rattle.tpmsim_script.specs.BadLine.{long_line, misplaced, too_large}
use Rattle.tpmsim_script.specs.Checking.{assembly_check, check, entropy_check, fault_at, faults_of, first_number, line_check, waited_behind}
use Rattle.tpmsim_script.specs.Line.{Meaning, Executes, ExecutesWords, SetsLocality, Waits, SetsEntropy, CyclesPower, DoesNothing, bytes_of, line_meaning, line_reading}
use Rattle.tpmsim_script.specs.Script.{Effect, Playing, command_of, execute, output_with, perform, perform_line, play, repeated, set_entropy, silence}
use Rattle.tpmsim_script.specs.declared.bad_line.BadLine.{BadLine}

-- the number of milliseconds waited since the last command, after a line with this effect
abbrev waited_after : Effect → ℕ
waited_after effect = effect.next.waited

hex_checked : (p : Playing) (bad : BadLine) (buffer : Option (List ℕ))
    → result_ok (ok_or buffer bad >>= λ b. Ok 0)
    ≡ option_map waited_after (option_map (execute p) buffer)
hex_checked p bad None = refl
hex_checked p bad (Some buffer) = refl

words_checked : (p : Playing) (buffer : Result (List ℕ) AsmFault)
    → result_ok (assembly_check buffer)
    ≡ option_map waited_after (option_map (execute p) (result_ok buffer))
words_checked p (Ok buffer) = refl
words_checked p (Err fault) = refl

chosen : (b : Bool) (next : ℕ) (bad : BadLine) (effect : Effect) → waited_after effect ≡ next
    → result_ok (cond b (Ok next) (Err bad)) ≡ option_map waited_after (cond b (Some effect) None)
chosen true next bad effect e = ap Some (sym e)
chosen false next bad effect e = refl

entropy_checked : (p : Playing) (bad : BadLine) (entropy : Option (List ℕ))
    → result_ok (ok_or entropy bad >>= λ e. entropy_check p.waited e)
    ≡ option_map waited_after (option_and_then (set_entropy p) entropy)
entropy_checked p bad None = refl
entropy_checked p bad (Some entropy) =
    chosen (nat_lt 0 (length entropy) && nat_le (length entropy) 256) p.waited _
    (silence (record p { random = repeated entropy })) refl

-- The device that plays is of the symmetric profile.
abbrev IsSymmetric : Playing → Type 0
IsSymmetric p = p.device.fixed.profile ≡ Symmetric

said_checked : (p : Playing) (said : Meaning) → IsSymmetric p
    → result_ok (check p.waited said) ≡ option_map waited_after (perform p said)
said_checked p (Executes digits) is = hex_checked p _ (bytes_of digits)
said_checked p (ExecutesWords words) is =
    words_checked p (assembled_for Symmetric words)
    ∙ ap (λ (profile : Profile). option_map waited_after
    (option_map (execute p) (result_ok (assembled_for profile words)))) (sym is)
said_checked p (SetsLocality number) is = refl
said_checked p (Waits milliseconds) is =
    chosen (nat_lt (p.waited + milliseconds) (2 ^ 32)) (p.waited + milliseconds) _
    (silence (record p { waited = p.waited + milliseconds })) refl
said_checked p (SetsEntropy digits) is = entropy_checked p _ (bytes_of digits)
said_checked p CyclesPower is = refl
said_checked p DoesNothing is = refl

reading_checked : (p : Playing) (short : Bool) (reading : Result Meaning BadLine) → IsSymmetric p
    → result_ok (refused_if (not short) long_line >>= λ s. reading >>= λ said. check p.waited said)
    ≡ option_map waited_after (cond short (option_and_then (perform p) (result_ok reading)) None)
reading_checked p false reading is = refl
reading_checked p true (Err bad) is = refl
reading_checked p true (Ok said) is = said_checked p said is

pub line_checked : (p : Playing) (line : List ℕ) → IsSymmetric p
    → result_ok (line_check p.waited line) ≡ option_map waited_after (perform_line p line)
unfolding line_check perform_line
line_checked p line is = reading_checked p (nat_le (length line) 65536) (line_reading line) is

-- ---- no line changes the profile

-- After this effect, the device has the profile that it had.
abbrev Keeps : Playing → Effect → Type 0
Keeps p effect = KeepsProfile p.device effect.next.device

executed_keeps : (p : Playing) (buffer : Option (List ℕ))
    → IfSome (option_map (execute p) buffer) (Keeps p)
executed_keeps p None = tt
executed_keeps p (Some buffer) = step_keeps false p.device (command_of p buffer)

chosen_keeps : (p : Playing) (b : Bool) (effect : Effect) → Keeps p effect
    → IfSome (cond b (Some effect) None) (Keeps p)
chosen_keeps p true effect keeps = keeps
chosen_keeps p false effect keeps = tt

entropy_keeps : (p : Playing) (entropy : Option (List ℕ))
    → IfSome (option_and_then (set_entropy p) entropy) (Keeps p)
entropy_keeps p None = tt
entropy_keeps p (Some entropy) =
    chosen_keeps p (nat_lt 0 (length entropy) && nat_le (length entropy) 256)
    (silence (record p { random = repeated entropy })) refl

said_keeps : (p : Playing) (said : Meaning) → IfSome (perform p said) (Keeps p)
said_keeps p (Executes digits) = executed_keeps p (bytes_of digits)
said_keeps p (ExecutesWords words) =
    executed_keeps p (result_ok (assembled_for p.device.fixed.profile words))
said_keeps p (SetsLocality number) = refl
said_keeps p (Waits milliseconds) =
    chosen_keeps p (nat_lt (p.waited + milliseconds) (2 ^ 32))
    (silence (record p { waited = p.waited + milliseconds })) refl
said_keeps p (SetsEntropy digits) = entropy_keeps p (bytes_of digits)
said_keeps p CyclesPower = step_keeps false p.device Cycled
said_keeps p DoesNothing = refl

meant_keeps : (p : Playing) (short : Bool) (said : Option Meaning)
    → IfSome (cond short (option_and_then (perform p) said) None) (Keeps p)
meant_keeps p false said = tt
meant_keeps p true None = tt
meant_keeps p true (Some said) = said_keeps p said

line_keeps : (p : Playing) (line : List ℕ) → IfSome (perform_line p line) (Keeps p)
unfolding perform_line
line_keeps p line = meant_keeps p (nat_le (length line) 65536) (line_meaning line)

some_is : (x y : ℕ) → Some x ≡ Some y → x ≡ y
some_is x y e = cc

-- Suppose that checking and playing agree on the first line, and find the same first bad line after
-- it. Then they find the same first bad line among all these lines.
first_by : (p : Playing) (number : ℕ) (line : List ℕ) (lines : List (List ℕ))
    (checked : Result ℕ BadLine) (effect : Option Effect)
    → result_ok checked ≡ option_map waited_after effect → IsSymmetric p
    → IfSome effect (Keeps p)
    → ((q : Playing) → IsSymmetric q → first_number (faults_of q.waited (number + 1) lines)
    ≡ (play q (number + 1) lines).bad)
    → first_number (fault_at checked number line
    ++ faults_of (waited_behind checked p.waited) (number + 1) lines)
    ≡ (output_with effect number (λ next. play next (number + 1) lines)).bad
first_by p number line lines (Ok next) (Some effect) e is keeps behind =
    ap (λ w. first_number (faults_of w (number + 1) lines)) (some_is _ _ e)
    ∙ behind effect.next (keeps ∙ is)
first_by p number line lines (Ok next) None e is keeps behind = absurd cc
first_by p number line lines (Err bad) (Some effect) e is keeps behind = absurd cc
first_by p number line lines (Err bad) None e is keeps behind = refl

pub script_checked : (p : Playing) (number : ℕ) (lines : List (List ℕ)) → IsSymmetric p
    → first_number (faults_of p.waited number lines) ≡ (play p number lines).bad
script_checked p number [] is = refl
script_checked p number (line ∷ lines) is =
    first_by p number line lines (line_check p.waited line) (perform_line p line)
    (line_checked p line is) is (line_keeps p line)
    (λ q also. script_checked q (number + 1) lines also)
