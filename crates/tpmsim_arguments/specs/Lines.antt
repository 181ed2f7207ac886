-- Command lines as people write them.
use Rattle.std.specs.Prelude.{◌≡◌, ◌≤◌, ◌⊎◌, ◌==◌, ◌++◌, ℕ, Bool, false, true, List, [], ◌∷◌}
use Rattle.std.specs.Prelude.{Option, Some, None, codes}
use Rattle.std.specs.List.{AllByRecursion}
use Rattle.clap.specs.Words.{Text}
use Rattle.tpm_number.specs.Number.{decimal_of}
use Rattle.tpmsim_arguments.specs.Answers.{AreTaken}
use Rattle.tpmsim_arguments.specs.Invocation.{Invocation, Kept, asked_by, in_image, in_state, serve}

-- clap accepts these words, and they make this request.
abbrev pub AskFor : List Text → Invocation → Type 0
AskFor words asked = AreTaken words × (asked_by words ≡ Some asked)

-- whether a word begins with a hyphen (45), like the name of an argument
abbrev pub begins_with_hyphen : Text → Bool
begins_with_hyphen [] = false
begins_with_hyphen (byte ∷ rest) = byte == 45

abbrev pub NoneBeginsWithHyphen : List Text → Type 0
NoneBeginsWithHyphen = AllByRecursion (λ word. begins_with_hyphen word ≡ false)

-- A word that can name a script: it does not begin with a hyphen, or is a single hyphen, which
-- stands for standard input.
abbrev pub IsScript : Text → Type 0
IsScript script = (begins_with_hyphen script ≡ false) ⊎ (script ≡ codes "-")

-- the command line `NAME asm LINE`
abbrev pub asm_line : (name line : Text) → List Text
asm_line name line = name ∷ codes "asm" ∷ line ∷ []

-- the command line `NAME asm --complete LINE`
abbrev pub complete_asm_line : (name line : Text) → List Text
complete_asm_line name line = name ∷ codes "asm" ∷ codes "--complete" ∷ line ∷ []

-- the command line `NAME run --complete SCRIPT`
abbrev pub complete_run_line : (name script : Text) → List Text
complete_run_line name script = name ∷ codes "run" ∷ codes "--complete" ∷ script ∷ []

-- the command line `NAME run --complete --image=IMAGE SCRIPT`
abbrev pub complete_image_line : (name image script : Text) → List Text
complete_image_line name image script = name ∷ codes "run" ∷ codes "--complete"
    ∷ (codes "--image=" ++ image) ∷ script ∷ []

-- the command line `NAME run SCRIPT`
abbrev pub run_line : (name script : Text) → List Text
run_line name script = name ∷ codes "run" ∷ script ∷ []

-- the command line `NAME run --trace SCRIPT`
abbrev pub trace_line : (name script : Text) → List Text
trace_line name script = name ∷ codes "run" ∷ codes "--trace" ∷ script ∷ []

-- the command line `NAME check SCRIPT`
abbrev pub check_line : (name script : Text) → List Text
check_line name script = name ∷ codes "check" ∷ script ∷ []

-- the command line `NAME power DIR`
abbrev pub power_line : (name state : Text) → List Text
power_line name state = name ∷ codes "power" ∷ state ∷ []

-- the command line `NAME replay FILE`
abbrev pub replay_line : (name journal : Text) → List Text
replay_line name journal = name ∷ codes "replay" ∷ journal ∷ []

-- the command line `NAME power --cut DIR`
abbrev pub cut_line : (name state : Text) → List Text
cut_line name state = name ∷ codes "power" ∷ codes "--cut" ∷ state ∷ []

-- the command line `NAME power --keep=KEEP DIR`
abbrev pub keeping_line : (name keep state : Text) → List Text
keeping_line name keep state = name ∷ codes "power" ∷ (codes "--keep=" ++ keep) ∷ state ∷ []

-- the command line `NAME snapshot DIR`
abbrev pub snapshot_line : (name state : Text) → List Text
snapshot_line name state = name ∷ codes "snapshot" ∷ state ∷ []

-- the command line `NAME restore DIR FILE`
abbrev pub restore_line : (name state text : Text) → List Text
restore_line name state text = name ∷ codes "restore" ∷ state ∷ text ∷ []

-- the command line `NAME script DIR`
abbrev pub script_line : (name state : Text) → List Text
script_line name state = name ∷ codes "script" ∷ state ∷ []

-- the command line `NAME line HEX`
abbrev pub line_line : (name digits : Text) → List Text
line_line name digits = name ∷ codes "line" ∷ digits ∷ []

-- the command line `NAME lines`
abbrev pub forms_line : (name : Text) → List Text
forms_line name = name ∷ codes "lines" ∷ []

-- the command line `NAME lines COMMAND`
abbrev pub form_line : (name command : Text) → List Text
form_line name command = name ∷ codes "lines" ∷ command ∷ []

-- the command line `NAME code HEX`
abbrev pub code_line : (name digits : Text) → List Text
code_line name digits = name ∷ codes "code" ∷ digits ∷ []

-- the command line `NAME run --trace --image=IMAGE --entropy=ENTROPY SCRIPT`
abbrev pub kept_line : (name image entropy script : Text) → List Text
kept_line name image entropy script = name ∷ codes "run" ∷ codes "--trace"
    ∷ (codes "--image=" ++ image) ∷ (codes "--entropy=" ++ entropy) ∷ script ∷ []

-- the command line `NAME run --state=STATE`
abbrev pub played_line : (name state : Text) → List Text
played_line name state = name ∷ codes "run" ∷ (codes "--state=" ++ state) ∷ []

-- the command line `NAME serve --socket SOCKET --image IMAGE --entropy ENTROPY --locality LOCALITY
-- --connections CONNECTIONS`
abbrev pub serve_line : (name socket image entropy locality connections : Text) → List Text
serve_line name socket image entropy locality connections = name ∷ codes "serve"
    ∷ codes "--socket" ∷ socket ∷ codes "--image" ∷ image ∷ codes "--entropy" ∷ entropy
    ∷ codes "--locality" ∷ locality ∷ codes "--connections" ∷ connections ∷ []

-- the `serve` command line with each value joined to its name, as in `--socket=SOCKET`
abbrev pub joined_line : (name socket image entropy locality connections : Text) → List Text
joined_line name socket image entropy locality connections = name ∷ codes "serve"
    ∷ (codes "--socket=" ++ socket) ∷ (codes "--image=" ++ image)
    ∷ (codes "--entropy=" ++ entropy) ∷ (codes "--locality=" ++ locality)
    ∷ (codes "--connections=" ++ connections) ∷ []

-- the `serve` command line with `--save-each` before the other arguments
abbrev pub saving_line : (name socket image entropy locality connections : Text) → List Text
saving_line name socket image entropy locality connections = name ∷ codes "serve"
    ∷ codes "--save-each" ∷ (codes "--socket=" ++ socket) ∷ (codes "--image=" ++ image)
    ∷ (codes "--entropy=" ++ entropy) ∷ (codes "--locality=" ++ locality)
    ∷ (codes "--connections=" ++ connections) ∷ []

-- the `serve` command line with `--log=LOG` after the image
abbrev pub logging_line : (name socket image log entropy locality connections : Text) → List Text
logging_line name socket image log entropy locality connections = name ∷ codes "serve"
    ∷ (codes "--socket=" ++ socket) ∷ (codes "--image=" ++ image) ∷ (codes "--log=" ++ log)
    ∷ (codes "--entropy=" ++ entropy) ∷ (codes "--locality=" ++ locality)
    ∷ (codes "--connections=" ++ connections) ∷ []

-- the command line `NAME serve --socket=SOCKET --state=STATE`
abbrev pub short_line : (name socket state : Text) → List Text
short_line name socket state = name ∷ codes "serve" ∷ (codes "--socket=" ++ socket)
    ∷ (codes "--state=" ++ state) ∷ []

-- the command line `NAME serve --socket=SOCKET --state=STATE --keep=KEEP --complete`
abbrev pub complete_line : (name socket state keep : Text) → List Text
complete_line name socket state keep = name ∷ codes "serve" ∷ (codes "--socket=" ++ socket)
    ∷ (codes "--state=" ++ state) ∷ (codes "--keep=" ++ keep) ∷ codes "--complete" ∷ []

-- the `serve` command line with `--complete` after the image
abbrev pub incomplete_line : (name socket image entropy locality connections : Text) → List Text
incomplete_line name socket image entropy locality connections = name ∷ codes "serve"
    ∷ (codes "--socket=" ++ socket) ∷ (codes "--image=" ++ image) ∷ codes "--complete"
    ∷ (codes "--entropy=" ++ entropy) ∷ (codes "--locality=" ++ locality)
    ∷ (codes "--connections=" ++ connections) ∷ []

-- the `serve` command line without `--entropy`
abbrev pub line_without_entropy : (name socket image locality connections : Text) → List Text
line_without_entropy name socket image locality connections = name ∷ codes "serve"
    ∷ (codes "--socket=" ++ socket) ∷ (codes "--image=" ++ image)
    ∷ (codes "--locality=" ++ locality) ∷ (codes "--connections=" ++ connections) ∷ []

-- the `serve` command line without `--locality`
abbrev pub line_without_locality : (name socket image entropy connections : Text) → List Text
line_without_locality name socket image entropy connections = name ∷ codes "serve"
    ∷ (codes "--socket=" ++ socket) ∷ (codes "--image=" ++ image)
    ∷ (codes "--entropy=" ++ entropy) ∷ (codes "--connections=" ++ connections) ∷ []

-- the `serve` command line without `--connections`
abbrev pub line_without_connections : (name socket image entropy locality : Text) → List Text
line_without_connections name socket image entropy locality = name ∷ codes "serve"
    ∷ (codes "--socket=" ++ socket) ∷ (codes "--image=" ++ image)
    ∷ (codes "--entropy=" ++ entropy) ∷ (codes "--locality=" ++ locality) ∷ []

-- the `serve` command line with `--state=STATE` instead of the image
abbrev pub state_line : (name socket state entropy locality connections : Text) → List Text
state_line name socket state entropy locality connections = name ∷ codes "serve"
    ∷ (codes "--socket=" ++ socket) ∷ (codes "--state=" ++ state)
    ∷ (codes "--entropy=" ++ entropy) ∷ (codes "--locality=" ++ locality)
    ∷ (codes "--connections=" ++ connections) ∷ []

-- These words request to serve a device that is kept in this place, with these settings. `locality`
-- and `connections` must be decimal numbers, and the locality must be at most 4. `saves_each` says
-- whether the device is saved before each response.
abbrev pub AskForService : (words : List Text) (socket : Text) (place : Kept) (log : Option Text)
    (entropy locality connections : Text) (saves_each : Bool) → Type 0
AskForService words socket place log entropy locality connections saves_each = (number count : ℕ)
    → decimal_of locality ≡ Some number → number ≤ 4 → decimal_of connections ≡ Some count
    → AskFor words (serve (record {
      socket = socket;
      place = place;
      log = log;
      entropy = entropy;
      locality = number;
      connections = Some count;
      saves_each = saves_each;
      completes = false;
    }))

-- clap accepts these words, but the program refuses them.
abbrev pub AskForNothing : List Text → Type 0
AskForNothing words = AreTaken words × (asked_by words ≡ None)

-- These words request to serve the device in this folder. The random bytes are the system's, the
-- locality is 0, and there is no limit on connections. The folder keeps the newest `past` finished
-- journals. `completes` says whether the completing layer is on.
abbrev pub AskForFolder : (words : List Text) (socket state : Text) (past : ℕ) (completes : Bool)
    → Type 0
AskForFolder words socket state past completes = AskFor words (serve (record {
  socket = socket;
  place = in_state state past;
  log = None;
  entropy = codes "/dev/urandom";
  locality = 0;
  connections = None;
  saves_each = false;
  completes = completes;
}))

-- These words request to serve a device that is kept in an image, and to save the device only after
-- each connection.
abbrev pub AskForDevice : (words : List Text) (socket image entropy locality connections : Text)
    → Type 0
AskForDevice words socket image entropy locality connections =
    AskForService words socket (in_image image) None entropy locality connections false

-- These words request to serve a device that is kept in an image, and to save the device before
-- each response.
abbrev pub AskForSavedDevice : (words : List Text)
    (socket image entropy locality connections : Text) → Type 0
AskForSavedDevice words socket image entropy locality connections =
    AskForService words socket (in_image image) None entropy locality connections true
