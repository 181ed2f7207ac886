-- What a command line requests, from what clap finds in its words.
use Rattle.std.specs.Prelude.{ℕ, Bool, false, List, Option, Some, None, codes, nat_le, if◌then◌else◌}
use Rattle.std.specs.Prelude.{option_and_then, option_map}
use Rattle.std.specs.Option.{option_map_or}
use Rattle.std.specs.Str.{bytes_eq}
use Rattle.clap.specs.Words.{Row, Text, first_of, kind_of, subcommand_of}
use Rattle.clap.specs.declared.error.kind.ErrorKind.{ErrorKind}
use Rattle.tpm_commands.specs.declared.profile.Profile.{Profile}
use Rattle.tpm_commands.specs.declared.profile.Profile.TheVariants.{Symmetric, Complete}
use Rattle.tpm_types_common.specs.Locality.{locality_number}
use Rattle.tpm_number.specs.Number.{decimal_of, locality_of}
use Rattle.tpmsim_arguments.specs.CommandLine.{program}
use Rattle.tpmsim_arguments.specs.declared.arguments.Arguments.{Arguments}
use Rattle.tpmsim_arguments.specs.declared.arguments.Arguments.TheVariants as arguments
use Rattle.tpmsim_arguments.specs.declared.place.Place.{Place}
use Rattle.tpmsim_arguments.specs.declared.place.Place.TheVariants as place
use Rattle.tpmsim_arguments.specs.declared.service.Service.{Service}
use Rattle.tpmsim_arguments.specs.declared.storage.Storage.{Storage}

-- where a device is kept: in an image file; or in a folder with its state, in which this many
-- finished journals stay
pub data Kept : Type 0 where
  in_image : Text → Kept
  in_state : Text → (past : ℕ) → Kept

-- the paths and numbers with which a device is served; if `connections` is None, there is no limit
-- on the number of connections
pub record Served : Type 0 where
  pub socket : Text
  pub place : Kept
  pub log : Option Text
  pub entropy : Text
  pub locality : ℕ
  pub connections : Option ℕ
  pub saves_each : Bool
  pub completes : Bool

-- the files of a device on which a script is played: where the device is kept, and the file with
-- the random bytes from which a new device is made
pub record Stored : Type 0 where
  pub place : Kept
  pub entropy : Option Text

-- what a command line requests: run a script, with or without its trace, on a device of this profile
-- that is or is not kept; check the lines of a script; print the buffer of the command of this profile
-- that a line encodes; print the line that
-- encodes a buffer; print the form in words of one command or of all; print the meaning of a
-- response code; serve a device; power-cycle the device in a folder, with or without dropping the
-- journal after damage; print the device's state text; replace the device with the device in a
-- state text; print the device's history as a script; execute again the commands that a journal
-- recorded; print clap's help or the version. `past` is the number of finished journals that stay
-- in the folder
pub data Invocation : Type 0 where
  run : Text → (traced : Bool) → Profile → Option Stored → Invocation
  check : Text → Invocation
  assemble : Profile → Text → Invocation
  spell : Text → Invocation
  forms : Option Text → Invocation
  name_code : Text → Invocation
  serve : Served → Invocation
  cycle_power : Text → (cuts : Bool) → (past : ℕ) → Invocation
  snapshot : Text → Invocation
  restore : (state text : Text) → (past : ℕ) → Invocation
  retell : Text → Invocation
  replay : Text → Invocation
  tell : ErrorKind → Invocation

-- ---- what words request

-- whether a flag was given: if so, clap's text for it is "true", and otherwise "false"
abbrev pub is_set : Text → List Row → Bool
is_set flag rows =
    option_map_or (λ text. bytes_eq text (codes "true")) (first_of flag rows) false

infixl 10 ◌>>=◌
abbrev pub ◌>>=◌ : {A B : Type 0} → Option A → (A → Option B) → Option B
found >>= next = option_and_then next found

-- this number of finished journals to keep in a device's folder, if it is at most 99
abbrev pub past_of : ℕ → Option ℕ
past_of number = if nat_le number 99 then Some number else None

-- the number of finished journals, from its decimal digits; 0 if no digits are given
abbrev pub past_by : (keep : Option Text) → Option ℕ
past_by None = Some 0
past_by (Some digits) = decimal_of digits >>= past_of

abbrev pub past_in : List Row → Option ℕ
past_in rows = past_by (first_of (codes "keep") rows)

-- where a device is kept: either an image or a folder is given, and only a folder can have a number
-- of journals
abbrev pub place_by : (image state keep : Option Text) → Option Kept
place_by (Some image) None None = Some (in_image image)
place_by (Some image) None (Some keep) = None
place_by (Some image) (Some state) keep = None
place_by None (Some state) keep = option_map (λ past. in_state state past) (past_by keep)
place_by None None keep = None

abbrev pub place_in : List Row → Option Kept
place_in rows = place_by (first_of (codes "image") rows) (first_of (codes "state") rows)
    (first_of (codes "keep") rows)

-- the log of a device, given where the device is kept: only a device in an image can have a log
abbrev pub log_by : Kept → (log : Option Text) → Option (Option Text)
log_by place None = Some None
log_by (in_image image) (Some log) = Some (Some log)
log_by (in_state state past) (Some log) = None

-- whether the completing layer is on: only a device in a folder can have the layer
abbrev pub completes_by : Kept → Bool → Option Bool
completes_by (in_image image) completes = if completes then None else Some false
completes_by (in_state state past) completes = Some completes

-- an option of `serve` that a device in an image needs: only a device in a folder can be served
-- without this option
abbrev pub needed_by : Kept → (option : Option Text) → Option (Option Text)
needed_by (in_image image) None = None
needed_by (in_image image) (Some text) = Some (Some text)
needed_by (in_state state past) option = Some option

-- the file of random bytes: the system's file, unless another file is given
abbrev pub entropy_by : Option Text → Text
entropy_by None = codes "/dev/urandom"
entropy_by (Some path) = path

-- the locality, from its decimal digits; 0 if no digits are given
abbrev pub locality_by : Option Text → Option ℕ
locality_by None = Some 0
locality_by (Some digits) = decimal_of digits >>= locality_of

-- the number of connections, from its decimal digits; without digits, the number is None, which
-- means no limit
abbrev pub connections_by : Option Text → Option (Option ℕ)
connections_by None = Some None
connections_by (Some digits) = option_map (λ count. Some count) (decimal_of digits)

abbrev pub service_in : List Row → Option Served
service_in rows = do
  socket ← first_of (codes "socket") rows
  place ← place_in rows
  log ← log_by place (first_of (codes "log") rows)
  completes ← completes_by place (is_set (codes "complete") rows)
  entropy ← needed_by place (first_of (codes "entropy") rows)
  given_locality ← needed_by place (first_of (codes "locality") rows)
  given_connections ← needed_by place (first_of (codes "connections") rows)
  locality ← locality_by given_locality
  connections ← connections_by given_connections
  Some (record {
    socket = socket;
    place = place;
    log = log;
    entropy = entropy_by entropy;
    locality = locality;
    connections = connections;
    saves_each = is_set (codes "save-each") rows;
    completes = completes;
  })

-- the files of the device: None if neither an image nor a folder is given. The device is then not
-- kept, and it is an error to name a file of random bytes, or to say how many journals to keep
abbrev pub stored_by : (image state keep entropy : Option Text) → Option (Option Stored)
stored_by None None None None = Some None
stored_by image state keep entropy = option_map
    (λ place. Some (record { place = place; entropy = entropy })) (place_by image state keep)

abbrev pub storage_in : List Row → Option (Option Stored)
storage_in rows = stored_by (first_of (codes "image") rows) (first_of (codes "state") rows)
    (first_of (codes "keep") rows) (first_of (codes "entropy") rows)

-- the given script. If no script is given, the script for a device in a folder is standard input;
-- for any other device, there is no script
abbrev pub script_by : (script state : Option Text) → Option Text
script_by (Some script) state = Some script
script_by None (Some state) = Some (codes "-")
script_by None None = None

abbrev pub script_in : List Row → Option Text
script_in rows = script_by (first_of (codes "script") rows) (first_of (codes "state") rows)

-- the profile: complete if the flag for it was given
abbrev pub profile_of : (is_complete : Bool) → Profile
profile_of is_complete = if is_complete then Complete else Symmetric

abbrev pub profile_in : List Row → Profile
profile_in rows = profile_of (is_set (codes "complete") rows)

-- the profile of the device on which a script is played: only a device that is not kept can be of the
-- complete profile
abbrev pub profile_by : Option Stored → Profile → Option Profile
profile_by None profile = Some profile
profile_by (Some storage) Symmetric = Some Symmetric
profile_by (Some storage) Complete = None

abbrev pub run_in : List Row → Option Invocation
run_in rows = do
  script ← script_in rows
  storage ← storage_in rows
  profile ← profile_by storage (profile_in rows)
  Some (run script (is_set (codes "trace") rows) profile storage)

abbrev pub power_in : List Row → Option Invocation
power_in rows = do
  state ← first_of (codes "state") rows
  past ← past_in rows
  Some (cycle_power state (is_set (codes "cut") rows) past)

abbrev pub restore_in : List Row → Option Invocation
restore_in rows = do
  state ← first_of (codes "state") rows
  text ← first_of (codes "snapshot") rows
  past ← past_in rows
  Some (restore state text past)

-- what the command with this name requests, from clap's matches
abbrev pub asked_of : Text → List Row → Option Invocation
asked_of name rows = if bytes_eq name (codes "run") then run_in rows
    else (if bytes_eq name (codes "check") then option_map check (first_of (codes "script") rows)
    else (if bytes_eq name (codes "asm") then option_map (assemble (profile_in rows)) (first_of (codes "line") rows)
    else (if bytes_eq name (codes "line") then option_map spell (first_of (codes "hex") rows)
    else (if bytes_eq name (codes "lines") then Some (forms (first_of (codes "name") rows))
    else (if bytes_eq name (codes "code") then option_map name_code (first_of (codes "number") rows)
    else (if bytes_eq name (codes "serve") then option_map serve (service_in rows)
    else (if bytes_eq name (codes "power") then power_in rows
    else (if bytes_eq name (codes "snapshot") then option_map snapshot (first_of (codes "state") rows)
    else (if bytes_eq name (codes "restore") then restore_in rows
    else (if bytes_eq name (codes "script") then option_map retell (first_of (codes "state") rows)
    else (if bytes_eq name (codes "replay")
    then option_map replay (first_of (codes "journal") rows) else None)))))))))))

abbrev pub asked_in : Option (Text × List Row) → Option Invocation
asked_in = option_and_then (λ command. asked_of command.0 command.1)

-- what these words request; the first word is the program's name
abbrev pub asked_by : List Text → Option Invocation
asked_by words = asked_in (subcommand_of program words)

-- ---- the values of the code, as the definitions represent them

abbrev pub kept_of : Place → Kept
kept_of (place.Image path) = in_image path.now
kept_of (place.State path past) = in_state path.now past

abbrev pub served_of : Service → Served
served_of service = record {
  socket = service.socket.now;
  place = kept_of service.place;
  log = option_map (λ path. path.now) service.log;
  entropy = service.entropy.now;
  locality = locality_number service.locality;
  connections = service.connections;
  saves_each = service.saves_each;
  completes = service.completes;
}

abbrev pub stored_of : Storage → Stored
stored_of storage = record {
  place = kept_of storage.place;
  entropy = option_map (λ path. path.now) storage.entropy;
}

abbrev pub invocation_of : Arguments → Invocation
invocation_of (arguments.Run script trace profile storage) =
    run script.now trace profile (option_map stored_of storage)
invocation_of (arguments.Check script) = check script.now
invocation_of (arguments.Assemble profile line) = assemble profile line.now
invocation_of (arguments.Spell digits) = spell digits.now
invocation_of (arguments.Forms name) = forms (option_map (λ name. name.now) name)
invocation_of (arguments.Code digits) = name_code digits.now
invocation_of (arguments.Serve service) = serve (served_of service)
invocation_of (arguments.Power state cuts past) = cycle_power state.now cuts past
invocation_of (arguments.Snapshot state) = snapshot state.now
invocation_of (arguments.Restore state text past) = restore state.now text.now past
invocation_of (arguments.Retell state) = retell state.now
invocation_of (arguments.Replay journal) = replay journal.now
invocation_of (arguments.Tell error) = tell (kind_of error)
