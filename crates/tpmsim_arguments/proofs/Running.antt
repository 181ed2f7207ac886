-- A `run` command line with a script after its options is a request to run that script.
use Rattle.std.proofs.Common.{◌≡◌, ◌∙◌, ◌++◌, ap, refl, sym, subst, true, false, codes, fold, List, [], ◌∷◌, Some, None, inl, inr, is_some, find, unwrap_or, Option}
use Rattle.clap.specs.Words.{Rule, Shape, Text}
use Rattle.clap.specs.Kinds.{or_else}
use Rattle.clap.specs.Walk.{Held, Walk, answers_to, arg_by_index, finished, nothing_held, settled, to_positional, value, walk, walk_from, walked}
use Rattle.clap.specs.Simple.{built, entered, help_shape, label_of}
use Rattle.clap.specs.Faults.{check_fault, defaults_fault, entered_fault, level_fault, settle_fault, step_fault, turn_fault, walk_fault}
use Rattle.clap.proofs.OnLiterals.{clap_on_literals}
use Rattle.tpm_commands.specs.declared.profile.Profile.TheVariants.{Symmetric, Complete}
use Rattle.tpmsim_arguments.specs.Answers.{AreTaken}
use Rattle.tpmsim_arguments.specs.CommandLine.{program}
use Rattle.tpmsim_arguments.specs.Invocation.{Invocation, asked_by, asked_in, asked_of, in_image, run}
use Rattle.tpmsim_arguments.specs.Lines.{AskFor, AskForNothing, IsScript, begins_with_hyphen, complete_image_line, complete_run_line, kept_line, run_line, trace_line}
use Rattle.tpmsim_arguments.proofs.Lines.{no_end, no_long, no_short}
use Rattle.tpmsim_arguments.proofs.Settings.{begun, level, none, step, stopped_at, stopped_fault, stopped_walk, top, top_end, top_names}

-- a word that does not begin with a hyphen becomes the first positional argument
plain_walked : (c : List Rule) (h : Held) (word : Text) → begins_with_hyphen word ≡ false
    → walked c [] (walk_from h) word ≡ to_positional c (arg_by_index c 1) word (walk_from h) h
unfolding walked
plain_walked c h word e = rw (no_end word e, no_long word e, no_short word e) refl

plain_turn : (s : Shape) (h : Held) (word : Text) → begins_with_hyphen word ≡ false
    → turn_fault s [] (walk_from h) word ≡ step_fault s 1 h value
plain_turn s h word e = rw (no_end word e, no_long word e, no_short word e) refl

-- ---- the words after `run`

abbrev run_shape : Shape
run_shape = unwrap_or (find (λ s. answers_to (codes "run") (label_of s)) (built program).subs) help_shape

abbrev R : Walk → Text → Walk
R = walked run_shape.rules []

run_met : walked top.rules top_names (walk_from nothing_held) (codes "run") ≡ stopped_at (codes "run") []
unfolding clap_on_literals
run_met = refl

run_turn : turn_fault top top_names (walk_from nothing_held) (codes "run") ≡ []
unfolding clap_on_literals
run_turn = refl

run_walk : (rest : List Text) → walk top.rules top_names nothing_held (codes "run" ∷ rest) ≡ stopped_at (codes "run") rest
run_walk rest = ap (λ w. fold (walked top.rules top_names) w rest) run_met ∙ stopped_walk top.rules top_names (codes "run") [] rest

run_fault : (rest : List Text) → walk_fault top top_names (walk_from nothing_held) (codes "run" ∷ rest) ≡ []
run_fault rest = step top top_names (walk_from nothing_held) (stopped_at (codes "run") []) (codes "run") rest run_turn run_met
    ∙ stopped_fault top top_names (codes "run") [] rest

-- what a `run` command line requests, if the walk over its words ends in this state; None if it is
-- refused
is_read : (name : Text) (rest : List Text) (end : Walk) (asked : Option Invocation)
    → (walk run_shape.rules [] nothing_held rest ≡ end) × (walk_fault run_shape [] begun rest ≡ [])
    → or_else (settle_fault run_shape.rules run_shape.args_override_self end.held)
    (or_else (defaults_fault (settled run_shape.rules end.held).rows run_shape.rules)
    (check_fault run_shape (finished run_shape.rules end.held) false)) ≡ []
    → asked_of (codes "run") (finished run_shape.rules end.held) ≡ asked
    → AreTaken (name ∷ codes "run" ∷ rest) × (asked_by (name ∷ codes "run" ∷ rest) ≡ asked)
is_read name rest end asked w r a =
    let below : entered_fault (built program) (Some (codes "run", rest)) ≡ [] = level run_shape [] rest false [] end w.1 w.0 refl r in
    let args : List Text = codes "run" ∷ rest in (
      subst (λ (w : Walk). level_fault top top_names nothing_held args
          (is_some (entered (built program) w.stopped)) (entered_fault (built program) w.stopped)
          ≡ [])
          (sym (run_walk rest))
          (level top top_names args true (entered_fault (built program) (Some (codes "run", rest))) (stopped_at (codes "run") rest)
          (run_fault rest) (run_walk rest) below top_end),
      ap (λ (w : Walk). asked_in (entered (built program) w.stopped)) (run_walk rest)
          ∙ ap (λ (w : Walk). asked_of (codes "run") (finished run_shape.rules w.held)) w.0 ∙ a,
    )

is_asked : (name : Text) (rest : List Text) (end : Walk) (asked : Invocation)
    → (walk run_shape.rules [] nothing_held rest ≡ end) × (walk_fault run_shape [] begun rest ≡ [])
    → or_else (settle_fault run_shape.rules run_shape.args_override_self end.held)
    (or_else (defaults_fault (settled run_shape.rules end.held).rows run_shape.rules)
    (check_fault run_shape (finished run_shape.rules end.held) false)) ≡ []
    → asked_of (codes "run") (finished run_shape.rules end.held) ≡ Some asked
    → AskFor (name ∷ codes "run" ∷ rest) asked
is_asked name rest end asked w r a = is_read name rest end (Some asked) w r a

-- ---- a script after options

-- the state of the walk after a script
abbrev with_script : Held → Text → Walk
with_script h script = to_positional run_shape.rules (arg_by_index run_shape.rules 1) script
    (walk_from h) h

-- these words are accepted, and the walk over them ends in this state
abbrev LeadsTo : Walk → List Text → Walk → Type 0
LeadsTo w words end = (fold R w words ≡ end) × (walk_fault run_shape [] w words ≡ [])

ahead : (w v end : Walk) (word : Text) (rest : List Text) → R w word ≡ v
    → turn_fault run_shape [] w word ≡ []
    → LeadsTo v rest end → LeadsTo w (word ∷ rest) end
ahead w v end word rest e t after =
    (ap (λ w. fold R w rest) e ∙ after.0, step run_shape [] w v word rest t e ∙ after.1)

with_script_ends : (h : Held) (script : Text) → begins_with_hyphen script ≡ false
    → step_fault run_shape 1 h value ≡ []
    → LeadsTo (walk_from h) (script ∷ []) (with_script h script)
with_script_ends h script e s =
    ahead (walk_from h) (with_script h script) (with_script h script) script []
    (plain_walked run_shape.rules h script e) (plain_turn run_shape h script e ∙ s)
    (refl, none run_shape [] (with_script h script))

-- ---- a script alone

word_is_run : (name script : Text) → begins_with_hyphen script ≡ false
    → AskFor (run_line name script) (run script false Symmetric None)
unfolding clap_on_literals
word_is_run name script e = is_asked name (script ∷ []) (with_script nothing_held script)
    (run script false Symmetric None)
    (with_script_ends nothing_held script e refl) refl refl

hyphen_is_run : (name : Text) → AskFor (run_line name (codes "-")) (run (codes "-") false Symmetric None)
unfolding clap_on_literals
hyphen_is_run name = (refl, refl)

pub script_is_run : (name script : Text) → IsScript script
    → AskFor (run_line name script) (run script false Symmetric None)
script_is_run name script (inl e) = word_is_run name script e
script_is_run name script (inr e) =
    subst (λ word. AskFor (run_line name word) (run word false Symmetric None)) (sym e) (hyphen_is_run name)

-- ---- a script after --trace

abbrev traced : Held
traced = (R begun (codes "--trace")).held

trace_met : R begun (codes "--trace") ≡ walk_from traced
unfolding clap_on_literals
trace_met = refl

trace_turn : turn_fault run_shape [] begun (codes "--trace") ≡ []
unfolding clap_on_literals
trace_turn = refl

word_is_traced : (name script : Text) → begins_with_hyphen script ≡ false
    → AskFor (trace_line name script) (run script true Symmetric None)
unfolding clap_on_literals
word_is_traced name script e = is_asked name (codes "--trace" ∷ script ∷ []) (with_script traced script) (run script true Symmetric None)
    (ahead begun (walk_from traced) (with_script traced script) (codes "--trace") (script ∷ []) trace_met trace_turn
    (with_script_ends traced script e refl)) refl refl

hyphen_is_traced : (name : Text) → AskFor (trace_line name (codes "-")) (run (codes "-") true Symmetric None)
unfolding clap_on_literals
hyphen_is_traced name = (refl, refl)

pub script_is_traced : (name script : Text) → IsScript script
    → AskFor (trace_line name script) (run script true Symmetric None)
script_is_traced name script (inl e) = word_is_traced name script e
script_is_traced name script (inr e) =
    subst (λ word. AskFor (trace_line name word) (run word true Symmetric None)) (sym e)
    (hyphen_is_traced name)

-- ---- a script after --complete

abbrev completed : Held
completed = (R begun (codes "--complete")).held

complete_met : R begun (codes "--complete") ≡ walk_from completed
unfolding clap_on_literals
complete_met = refl

complete_turn : turn_fault run_shape [] begun (codes "--complete") ≡ []
unfolding clap_on_literals
complete_turn = refl

pub script_is_complete : (name script : Text) → begins_with_hyphen script ≡ false
    → AskFor (complete_run_line name script) (run script false Complete None)
unfolding clap_on_literals
script_is_complete name script e = is_asked name (codes "--complete" ∷ script ∷ []) (with_script completed script) (run script false Complete None)
    (ahead begun (walk_from completed) (with_script completed script) (codes "--complete") (script ∷ []) complete_met complete_turn
    (with_script_ends completed script e refl)) refl refl

-- ---- a device that is kept cannot be of the complete profile

abbrev complete_imaged : Text → Held
complete_imaged image = (R (walk_from completed) (codes "--image=" ++ image)).held

complete_image_met : (image : Text)
    → R (walk_from completed) (codes "--image=" ++ image) ≡ walk_from (complete_imaged image)
unfolding clap_on_literals
complete_image_met image = refl

complete_image_turn : (image : Text)
    → turn_fault run_shape [] (walk_from completed) (codes "--image=" ++ image) ≡ []
unfolding clap_on_literals
complete_image_turn image = refl

pub image_is_not_complete : (name image script : Text) → begins_with_hyphen script ≡ false
    → AskForNothing (complete_image_line name image script)
unfolding clap_on_literals
image_is_not_complete name image script e =
    let end : Walk = with_script (complete_imaged image) script in
    let t2 : List Text = script ∷ [] in
    let t1 : List Text = (codes "--image=" ++ image) ∷ t2 in
    is_read name (codes "--complete" ∷ t1) end None
    (ahead begun (walk_from completed) end (codes "--complete") t1 complete_met complete_turn
    (ahead (walk_from completed) (walk_from (complete_imaged image)) end
    (codes "--image=" ++ image) t2 (complete_image_met image) (complete_image_turn image)
    (with_script_ends (complete_imaged image) script e refl))) refl refl

-- ---- a script on a device with an image

abbrev imaged : Text → Held
imaged image = (R (walk_from traced) (codes "--image=" ++ image)).held

image_met : (image : Text) → R (walk_from traced) (codes "--image=" ++ image) ≡ walk_from (imaged image)
unfolding clap_on_literals
image_met image = refl

image_turn : (image : Text) → turn_fault run_shape [] (walk_from traced) (codes "--image=" ++ image) ≡ []
unfolding clap_on_literals
image_turn image = refl

abbrev kept : Text → Text → Held
kept image entropy = (R (walk_from (imaged image)) (codes "--entropy=" ++ entropy)).held

entropy_met : (image entropy : Text) → R (walk_from (imaged image)) (codes "--entropy=" ++ entropy) ≡ walk_from (kept image entropy)
unfolding clap_on_literals
entropy_met image entropy = refl

entropy_turn : (image entropy : Text) → turn_fault run_shape [] (walk_from (imaged image)) (codes "--entropy=" ++ entropy) ≡ []
unfolding clap_on_literals
entropy_turn image entropy = refl

-- a request to run a script with traces, on the device in an image
abbrev run_kept : (image entropy script : Text) → Invocation
run_kept image entropy script =
    run script true Symmetric (Some (record { place = in_image image; entropy = Some entropy }))

word_is_kept : (name image entropy script : Text) → begins_with_hyphen script ≡ false
    → AskFor (kept_line name image entropy script) (run_kept image entropy script)
unfolding clap_on_literals
word_is_kept name image entropy script e =
    let end : Walk = with_script (kept image entropy) script in
    let t3 : List Text = script ∷ [] in
    let t2 : List Text = (codes "--entropy=" ++ entropy) ∷ t3 in
    let t1 : List Text = (codes "--image=" ++ image) ∷ t2 in
    is_asked name (codes "--trace" ∷ t1) end (run_kept image entropy script)
    (ahead begun (walk_from traced) end (codes "--trace") t1 trace_met trace_turn
    (ahead (walk_from traced) (walk_from (imaged image)) end (codes "--image=" ++ image) t2 (image_met image) (image_turn image)
    (ahead (walk_from (imaged image)) (walk_from (kept image entropy)) end (codes "--entropy=" ++ entropy) t3 (entropy_met image entropy) (entropy_turn image entropy)
    (with_script_ends (kept image entropy) script e refl)))) refl refl

hyphen_is_kept : (name image entropy : Text) → AskFor (kept_line name image entropy (codes "-")) (run_kept image entropy (codes "-"))
unfolding clap_on_literals
hyphen_is_kept name image entropy = (refl, refl)

pub device_is_kept : (name image entropy script : Text) → IsScript script
    → AskFor (kept_line name image entropy script)
    (run script true Symmetric (Some (record { place = in_image image; entropy = Some entropy })))
device_is_kept name image entropy script (inl e) = word_is_kept name image entropy script e
device_is_kept name image entropy script (inr e) =
    subst (λ word. AskFor (kept_line name image entropy word) (run_kept image entropy word)) (sym e)
    (hyphen_is_kept name image entropy)
