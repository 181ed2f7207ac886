-- Lemmas about what common command lines request (`AskFor`), such as to assemble a line or to serve
-- a device.
use Rattle.std.proofs.Common.{◌≡◌, Bool, List, ◌∙◌, ℕ, ◌≤◌, refl, inl, inr, true, false, [], ◌∷◌, Some, None, Option, ap, ap₂, codes, option_map, option_and_then}
use Rattle.std.proofs.lemmas.Bool.{le-leb}
use Rattle.std.specs.Str.{bytes_eq}
use Rattle.clap.specs.Lexer.{long_of, short_of, strip_byte}
use Rattle.clap.specs.Words.{Text}
use Rattle.clap.proofs.OnLiterals.{clap_on_literals}
use Rattle.tpm_commands.specs.declared.profile.Profile.TheVariants.{Symmetric, Complete}
use Rattle.tpm_number.specs.Number.{decimal_of, locality_of}
use Rattle.tpmsim_arguments.specs.Answers.{AreTaken}
use Rattle.tpmsim_arguments.specs.Invocation.{Invocation, Kept, asked_by, assemble, check, completes_by, connections_by, cycle_power, entropy_by, forms, in_image, in_state, locality_by, log_by, name_code, needed_by, past_by, replay, restore, retell, run, serve, snapshot, spell}
use Rattle.tpmsim_arguments.specs.Lines.{AskFor, AskForDevice, AskForFolder, AskForNothing, AskForSavedDevice, AskForService, IsScript, asm_line, begins_with_hyphen, check_line, code_line, complete_asm_line, complete_line, cut_line, form_line, forms_line, incomplete_line, joined_line, keeping_line, line_line, line_without_connections, line_without_entropy, line_without_locality, logging_line, played_line, power_line, replay_line, restore_line, saving_line, script_line, short_line, snapshot_line, state_line}

-- a word that does not begin with a hyphen is not the name of an argument
no_hyphen : (word : Text) → begins_with_hyphen word ≡ false → strip_byte 45 word ≡ None
no_hyphen [] e = refl
no_hyphen (byte ∷ rest) e = rw e refl

pub no_end : (word : Text) → begins_with_hyphen word ≡ false → bytes_eq word (45 ∷ 45 ∷ []) ≡ false
no_end [] e = refl
no_end (byte ∷ rest) e = rw e refl

pub no_long : (word : Text) → begins_with_hyphen word ≡ false → long_of word ≡ None
no_long word e = rw (no_hyphen word e) refl

pub no_short : (word : Text) → begins_with_hyphen word ≡ false → short_of word ≡ None
no_short word e = rw (no_hyphen word e) refl

pub line_is_assembled : (name line : Text) → begins_with_hyphen line ≡ false
    → AskFor (asm_line name line) (assemble Symmetric line)
unfolding clap_on_literals
line_is_assembled name line e = rw (no_end line e, no_long line e, no_short line e) (refl, refl)

pub line_is_assembled_for_both : (name line : Text) → begins_with_hyphen line ≡ false
    → AskFor (complete_asm_line name line) (assemble Complete line)
unfolding clap_on_literals
line_is_assembled_for_both name line e =
    rw (no_end line e, no_long line e, no_short line e) (refl, refl)

pub digits_are_spelled : (name digits : Text) → begins_with_hyphen digits ≡ false
    → AskFor (line_line name digits) (spell digits)
unfolding clap_on_literals
digits_are_spelled name digits e =
    rw (no_end digits e, no_long digits e, no_short digits e) (refl, refl)

pub forms_are_told : (name : Text) → AskFor (forms_line name) (forms None)
unfolding clap_on_literals
forms_are_told name = (refl, refl)

pub form_is_told : (name command : Text) → begins_with_hyphen command ≡ false
    → AskFor (form_line name command) (forms (Some command))
unfolding clap_on_literals
form_is_told name command e =
    rw (no_end command e, no_long command e, no_short command e) (refl, refl)

pub code_is_named : (name digits : Text) → begins_with_hyphen digits ≡ false
    → AskFor (code_line name digits) (name_code digits)
unfolding clap_on_literals
code_is_named name digits e = rw (no_end digits e, no_long digits e, no_short digits e) (refl, refl)

pub script_is_checked : (name script : Text) → IsScript script
    → AskFor (check_line name script) (check script)
unfolding clap_on_literals
script_is_checked name script (inl e) =
    rw (no_end script e, no_long script e, no_short script e) (refl, refl)
script_is_checked name script (inr e) = rw e (refl, refl)

pub power_is_cycled : (name state : Text) → begins_with_hyphen state ≡ false
    → AskFor (power_line name state) (cycle_power state false 0)
unfolding clap_on_literals
power_is_cycled name state e = rw (no_end state e, no_long state e, no_short state e) (refl, refl)

pub damage_is_cut : (name state : Text) → begins_with_hyphen state ≡ false
    → AskFor (cut_line name state) (cycle_power state true 0)
unfolding clap_on_literals
damage_is_cut name state e = rw (no_end state e, no_long state e, no_short state e) (refl, refl)

-- --keep accepts every number of journals up to 99
past_is : (keep : Text) (past : ℕ) → decimal_of keep ≡ Some past → past ≤ 99
    → past_by (Some keep) ≡ Some past
past_is keep past e small = rw (e, le-leb past 99 small) refl

-- the request of a `power` command line that keeps this number of journals; None if the number is
-- not valid
abbrev with_past : (state : Text) → Option ℕ → Option Invocation
with_past state past = option_and_then (λ count. Some (cycle_power state false count)) past

keeping_is_read : (name keep state : Text) → begins_with_hyphen state ≡ false
    → AreTaken (keeping_line name keep state)
    × (asked_by (keeping_line name keep state) ≡ with_past state (past_by (Some keep)))
unfolding clap_on_literals
keeping_is_read name keep state e =
    rw (no_end state e, no_long state e, no_short state e) (refl, refl)

pub journals_are_kept : (name keep state : Text) → begins_with_hyphen state ≡ false → (past : ℕ)
    → decimal_of keep ≡ Some past → past ≤ 99
    → AskFor (keeping_line name keep state) (cycle_power state false past)
journals_are_kept name keep state e past is small =
    let read = keeping_is_read name keep state e in
    (read.0, read.1 ∙ ap (with_past state) (past_is keep past is small))

pub state_is_told : (name state : Text) → begins_with_hyphen state ≡ false
    → AskFor (snapshot_line name state) (snapshot state)
unfolding clap_on_literals
state_is_told name state e = rw (no_end state e, no_long state e, no_short state e) (refl, refl)

pub state_is_restored : (name state text : Text) → begins_with_hyphen state ≡ false
    → begins_with_hyphen text ≡ false
    → AskFor (restore_line name state text) (restore state text 0)
unfolding clap_on_literals
state_is_restored name state text e f =
    rw (
      no_end state e,
      no_long state e,
      no_short state e,
      no_end text f,
      no_long text f,
      no_short text f,
    ) (refl, refl)

pub script_is_retold : (name state : Text) → begins_with_hyphen state ≡ false
    → AskFor (script_line name state) (retell state)
unfolding clap_on_literals
script_is_retold name state e = rw (no_end state e, no_long state e, no_short state e) (refl, refl)

pub journal_is_replayed : (name journal : Text) → begins_with_hyphen journal ≡ false
    → AskFor (replay_line name journal) (replay journal)
unfolding clap_on_literals
journal_is_replayed name journal e =
    rw (no_end journal e, no_long journal e, no_short journal e) (refl, refl)

pub state_is_played : (name state : Text) → AskFor (played_line name state) (run (codes "-") false Symmetric (Some (record { place = in_state state 0; entropy = None })))
unfolding clap_on_literals
state_is_played name state = (refl, refl)

locality_is : (number : ℕ) → number ≤ 4 → locality_of number ≡ Some number
locality_is number small = rw (le-leb number 4 small) refl

-- the request of a `serve` command line with this locality and this number of connections; None if
-- one of the numbers is not valid
abbrev pub with_numbers : (socket : Text) → Kept → (log : Option Text) → (entropy : Text) → Option ℕ
    → Option ℕ → Bool → Option Invocation
with_numbers socket place log entropy locality connections saves =
    option_map serve (option_and_then (λ l. option_and_then (λ c.
    Some (record {
      socket = socket;
      place = place;
      log = log;
      entropy = entropy;
      locality =
          l;
      connections = c;
      saves_each = saves;
      completes = false;
    }))
    (option_map (λ count. Some count) connections))
    (option_and_then locality_of locality))

pub device_is_asked_for : (words : List Text) (socket : Text) (place : Kept) (log : Option Text)
    (entropy locality connections : Text) (saves : Bool) → AreTaken words
    → asked_by words ≡ with_numbers socket place log entropy (decimal_of locality)
    (decimal_of connections) saves
    → AskForService words socket place log entropy locality connections saves
device_is_asked_for words socket place log entropy locality connections saves right e =
    λ l c is_l small is_c. (
      right,
      e ∙ ap₂ (λ l c. with_numbers socket place log entropy l c saves) is_l is_c
          ∙ given l c (locality_is l small),
    )
  where
    given : (l c : ℕ) → locality_of l ≡ Some l
        → with_numbers socket place log entropy (Some l) (Some c) saves
        ≡ Some (serve
        (record {
          socket = socket;
          place = place;
          log = log;
          entropy = entropy;
          locality =
              l;
          connections = Some c;
          saves_each = saves;
          completes = false;
        }))
    given l c e = rw e refl

joined_is_read : (name socket image entropy locality connections : Text)
    → AreTaken (joined_line name socket image entropy locality connections)
    × (asked_by (joined_line name socket image entropy locality connections)
    ≡ with_numbers socket (in_image image) None entropy (decimal_of locality)
    (decimal_of connections) false)
unfolding clap_on_literals
joined_is_read name socket image entropy locality connections = (refl, refl)

pub joined_is_served : (name socket image entropy locality connections : Text)
    → AskForDevice (joined_line name socket image entropy locality connections) socket image entropy
    locality connections
joined_is_served name socket image entropy locality connections =
    let read = joined_is_read name socket image entropy locality connections in
    device_is_asked_for (joined_line name socket image entropy locality connections) socket
    (in_image image) None entropy locality connections false read.0 read.1

saving_is_read : (name socket image entropy locality connections : Text)
    → AreTaken (saving_line name socket image entropy locality connections)
    × (asked_by (saving_line name socket image entropy locality connections)
    ≡ with_numbers socket (in_image image) None entropy (decimal_of locality)
    (decimal_of connections) true)
unfolding clap_on_literals
saving_is_read name socket image entropy locality connections = (refl, refl)

pub saving_is_served : (name socket image entropy locality connections : Text)
    → AskForSavedDevice (saving_line name socket image entropy locality connections) socket image
    entropy locality connections
saving_is_served name socket image entropy locality connections =
    let read = saving_is_read name socket image entropy locality connections in
    device_is_asked_for (saving_line name socket image entropy locality connections) socket
    (in_image image) None entropy locality connections true read.0 read.1

logging_is_read : (name socket image log entropy locality connections : Text)
    → AreTaken (logging_line name socket image log entropy locality connections)
    × (asked_by (logging_line name socket image log entropy locality connections)
    ≡ with_numbers socket (in_image image) (Some log) entropy (decimal_of locality)
    (decimal_of connections) false)
unfolding clap_on_literals
logging_is_read name socket image log entropy locality connections = (refl, refl)

pub logging_is_served : (name socket image log entropy locality connections : Text)
    → AskForService (logging_line name socket image log entropy locality connections) socket
    (in_image image) (Some log) entropy locality connections false
logging_is_served name socket image log entropy locality connections =
    let read = logging_is_read name socket image log entropy locality connections in
    device_is_asked_for (logging_line name socket image log entropy locality connections) socket
    (in_image image) (Some log) entropy locality connections false read.0 read.1

state_is_read : (name socket state entropy locality connections : Text)
    → AreTaken (state_line name socket state entropy locality connections)
    × (asked_by (state_line name socket state entropy locality connections)
    ≡ with_numbers socket (in_state state 0) None entropy (decimal_of locality)
    (decimal_of connections) false)
unfolding clap_on_literals
state_is_read name socket state entropy locality connections = (refl, refl)

pub state_is_served : (name socket state entropy locality connections : Text)
    → AskForService (state_line name socket state entropy locality connections) socket
    (in_state state 0) None entropy locality connections false
state_is_served name socket state entropy locality connections =
    let read = state_is_read name socket state entropy locality connections in
    device_is_asked_for (state_line name socket state entropy locality connections) socket
    (in_state state 0) None entropy locality connections false read.0 read.1

-- ---- omitted options

pub folder_is_served : (name socket state : Text)
    → AskForFolder (short_line name socket state) socket state 0 false
unfolding clap_on_literals
folder_is_served name socket state = (refl, refl)

-- the request of a `serve --complete` command line that keeps this number of journals; None if the
-- number is not valid
abbrev completed : (socket state : Text) → Option ℕ → Option Invocation
completed socket state past =
    option_map serve
    (option_and_then (λ place. option_and_then (λ log. option_and_then (λ completes.
    option_and_then (λ entropy. option_and_then (λ l. option_and_then (λ c.
    option_and_then (λ locality. option_and_then (λ connections.
    Some (record { socket = socket; place = place; log = log; entropy = entropy_by entropy; locality = locality; connections = connections; saves_each = false; completes = completes }))
    (connections_by c)) (locality_by l))
    (needed_by place None)) (needed_by place None)) (needed_by place None))
    (completes_by place true)) (log_by place None))
    (option_map (λ count. in_state state count) past))

complete_is_read : (name socket state keep : Text) → AreTaken (complete_line name socket state keep)
    × (asked_by (complete_line name socket state keep)
    ≡ completed socket state (past_by (Some keep)))
unfolding clap_on_literals
complete_is_read name socket state keep = (refl, refl)

pub folder_is_completed : (name socket state keep : Text) (past : ℕ) → decimal_of keep ≡ Some past
    → past ≤ 99
    → AskForFolder (complete_line name socket state keep) socket state past true
folder_is_completed name socket state keep past is small =
    let read = complete_is_read name socket state keep in
    (read.0, read.1 ∙ ap (completed socket state) (past_is keep past is small))

pub image_is_not_completed : (name socket image entropy locality connections : Text)
    → AskForNothing (incomplete_line name socket image entropy locality connections)
unfolding clap_on_literals
image_is_not_completed name socket image entropy locality connections = (refl, refl)

pub entropy_is_needed : (name socket image locality connections : Text)
    → AskForNothing (line_without_entropy name socket image locality connections)
unfolding clap_on_literals
entropy_is_needed name socket image locality connections = (refl, refl)

pub locality_is_needed : (name socket image entropy connections : Text)
    → AskForNothing (line_without_locality name socket image entropy connections)
unfolding clap_on_literals
locality_is_needed name socket image entropy connections = (refl, refl)

pub connections_are_needed : (name socket image entropy locality : Text)
    → AskForNothing (line_without_connections name socket image entropy locality)
unfolding clap_on_literals
connections_are_needed name socket image entropy locality = (refl, refl)
