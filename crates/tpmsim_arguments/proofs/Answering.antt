-- What clap finds in the words of a command line determines the result of parsing the command line.
use Rattle.std.proofs.Common.{◌≡◌, ◌≢◌, ◌⊎◌, ◌∙◌, ℕ, ap, inl, inr, refl, sym, true, false, Bool, codes, List, Option, Some, None, Result, Ok, Err, ok_or, option_and_then, option_map, if◌then◌else◌}
use Rattle.std.specs.Str.{bytes_eq}
use Rattle.clap.specs.Words.{IsAmong, Row, Text, fault_of, first_of, is_simple, is_simple_and_free, subcommand_of}
use Rattle.clap.specs.declared.error.kind.ErrorKind.{ErrorKind}
use Rattle.clap.specs.declared.error.kind.ErrorKind.TheVariants.{ArgumentConflict, DisplayHelp, DisplayHelpOnMissingArgumentOrSubcommand, DisplayVersion, Format, InvalidSubcommand, InvalidValue, Io, MissingRequiredArgument, MissingSubcommand, NoEquals, OutOfMemory, TooFewValues, TooManyValues, UnknownArgument, ValueValidation, WrongNumberOfValues}
use Rattle.clap.proofs.OnLiterals.{clap_on_literals}
use Rattle.tpm_commands.specs.declared.profile.Profile.{Profile}
use Rattle.tpm_bytes.specs.Reading.{Gives}
use Rattle.tpmsim_arguments.specs.Answers.{Answers, AreTaken, IsTold}
use Rattle.tpmsim_arguments.specs.Invocation.{Invocation, Served, Stored, invocation_of, asked_by, asked_in, is_set, past_in, profile_by, profile_in, script_in, service_in, storage_in, run, check, assemble, spell, forms, name_code, serve, cycle_power, snapshot, restore, retell, tell, replay}
use Rattle.tpmsim_arguments.specs.CommandLine.{program}
use Rattle.tpmsim_arguments.specs.Fault.{fault_of_words}
use Rattle.tpmsim_arguments.specs.declared.arguments.Arguments.{Arguments}
use Rattle.tpmsim_arguments.specs.declared.arguments.Arguments.TheVariants as arguments
use Rattle.tpmsim_arguments.specs.declared.fault.ArgumentFault.{ArgumentFault}
use Rattle.tpmsim_arguments.specs.declared.fault.ArgumentFault.TheVariants.{Usage, NoMemory}

-- the program's command line is simple (`is_simple`); therefore the words determine clap's matches
pub program_is_simple : is_simple program ≡ true
unfolding clap_on_literals
program_is_simple = refl

pub program_is_free : is_simple_and_free program ≡ true
unfolding clap_on_literals
program_is_free = refl

found_is : {X : Type 0} (found : Option X) (x : X) → ok_or found Usage ≡ Ok x → found ≡ Some x
found_is None x e = absurd cc
found_is (Some y) x e = cc

not_found : {X : Type 0} (found : Option X) → ok_or found Usage ≡ Err Usage → found ≡ None
not_found None e = refl
not_found (Some y) e = absurd cc

-- the request to run a script is never a request for clap's help or version
no_run : (kind : ErrorKind) (trace : Bool) (profile : Profile) (script : Option Text)
    (storage : Option (Option Stored))
    → option_and_then (λ s. option_and_then (λ kept. option_and_then (λ p.
    Some (run s trace p kept)) (profile_by kept profile)) storage) script ≡ Some (tell kind) → ⊥
no_run kind trace profile None storage e = cc
no_run kind trace profile (Some s) None e = cc
no_run kind trace profile (Some s) (Some kept) e = by (profile_by kept profile) e
  where
    by : (p : Option Profile)
        → option_and_then (λ p. Some (run s trace p kept)) p ≡ Some (tell kind) → ⊥
    by None e = cc
    by (Some p) e = cc

-- if neither of two requests is `wish`, the chosen request is not `wish`
otherwise : {A : Type 0} (wish : A) (here : Bool) (this other : Option A) → (this ≡ Some wish → ⊥)
    → (other ≡ Some wish → ⊥)
    → (if here then this else other) ≡ Some wish → ⊥
otherwise wish true this other one two e = one e
otherwise wish false this other one two e = two e

no_check : (kind : ErrorKind) (script : Option Text) → option_map check script ≡ Some (tell kind)
    → ⊥
no_check kind None e = cc
no_check kind (Some text) e = cc

no_line : (kind : ErrorKind) (profile : Profile) (line : Option Text)
    → option_map (assemble profile) line ≡ Some (tell kind) → ⊥
no_line kind profile None e = cc
no_line kind profile (Some text) e = cc

no_digits : (kind : ErrorKind) (digits : Option Text) → option_map spell digits ≡ Some (tell kind)
    → ⊥
no_digits kind None e = cc
no_digits kind (Some text) e = cc

no_forms : (kind : ErrorKind) (name : Option Text) → Some (forms name) ≡ Some (tell kind) → ⊥
no_forms kind name e = cc

no_code : (kind : ErrorKind) (number : Option Text) → option_map name_code number ≡ Some (tell kind)
    → ⊥
no_code kind None e = cc
no_code kind (Some text) e = cc

no_service : (kind : ErrorKind) (service : Option Served)
    → option_map serve service ≡ Some (tell kind) → ⊥
no_service kind None e = cc
no_service kind (Some s) e = cc

no_power : (kind : ErrorKind) (cuts : Bool) (state : Option Text) (past : Option ℕ)
    → option_and_then (λ s. option_and_then (λ p. Some (cycle_power s cuts p)) past) state
    ≡ Some (tell kind) → ⊥
no_power kind cuts None past e = cc
no_power kind cuts (Some s) None e = cc
no_power kind cuts (Some s) (Some p) e = cc

no_snapshot : (kind : ErrorKind) (state : Option Text)
    → option_map snapshot state ≡ Some (tell kind) → ⊥
no_snapshot kind None e = cc
no_snapshot kind (Some text) e = cc

no_restore : (kind : ErrorKind) (state text : Option Text) (past : Option ℕ)
    → option_and_then (λ s. option_and_then (λ t. option_and_then (λ p. Some (restore s t p)) past)
    text) state ≡ Some (tell kind) → ⊥
no_restore kind None text past e = cc
no_restore kind (Some s) None past e = cc
no_restore kind (Some s) (Some t) None e = cc
no_restore kind (Some s) (Some t) (Some p) e = cc

no_script : (kind : ErrorKind) (state : Option Text) → option_map retell state ≡ Some (tell kind)
    → ⊥
no_script kind None e = cc
no_script kind (Some text) e = cc

no_replay : (kind : ErrorKind) (journal : Option Text)
    → option_map replay journal ≡ Some (tell kind) → ⊥
no_replay kind None e = cc
no_replay kind (Some text) e = cc

unknown : (kind : ErrorKind) → (let none : Option Invocation = None in none ≡ Some (tell kind)) → ⊥
unknown kind e = cc

none_tells : (kind : ErrorKind) (command : Option (Text × List Row))
    → asked_in command ≡ Some (tell kind) → ⊥
none_tells kind None e = cc
none_tells kind (Some command) e =
    let rows = command.1 in
    otherwise (tell kind) (bytes_eq command.0 (codes "run")) _ _ (no_run kind (is_set (codes "trace") rows) (profile_in rows) (script_in rows) (storage_in rows))
    (otherwise (tell kind) (bytes_eq command.0 (codes "check")) _ _ (no_check kind (first_of (codes "script") rows))
    (otherwise (tell kind) (bytes_eq command.0 (codes "asm")) _ _ (no_line kind (profile_in rows) (first_of (codes "line") rows))
    (otherwise (tell kind) (bytes_eq command.0 (codes "line")) _ _ (no_digits kind (first_of (codes "hex") rows))
    (otherwise (tell kind) (bytes_eq command.0 (codes "lines")) _ _ (no_forms kind (first_of (codes "name") rows))
    (otherwise (tell kind) (bytes_eq command.0 (codes "code")) _ _ (no_code kind (first_of (codes "number") rows))
    (otherwise (tell kind) (bytes_eq command.0 (codes "serve")) _ _ (no_service kind (service_in rows))
    (otherwise (tell kind) (bytes_eq command.0 (codes "power")) _ _ (no_power kind (is_set (codes "cut") rows) (first_of (codes "state") rows) (past_in rows))
    (otherwise (tell kind) (bytes_eq command.0 (codes "snapshot")) _ _ (no_snapshot kind (first_of (codes "state") rows))
    (otherwise (tell kind) (bytes_eq command.0 (codes "restore")) _ _ (no_restore kind (first_of (codes "state") rows) (first_of (codes "snapshot") rows) (past_in rows))
    (otherwise (tell kind) (bytes_eq command.0 (codes "script")) _ _ (no_script kind (first_of (codes "state") rows))
    (otherwise (tell kind) (bytes_eq command.0 (codes "replay")) _ _ (no_replay kind (first_of (codes "journal") rows)) (unknown kind)))))))))))) e

-- if clap accepts the words and the program reads clap's matches, the result is as `Answers`
-- requires
pub taken : (words : List Text) (r : Result Arguments ArgumentFault) → AreTaken words
    → Gives invocation_of (ok_or (asked_by words) Usage) r → Answers words r
taken words (Ok (arguments.Run script trace profile storage)) right e = (right, found_is _ _ e)
taken words (Ok (arguments.Check script)) right e = (right, found_is _ _ e)
taken words (Ok (arguments.Assemble profile line)) right e = (right, found_is _ _ e)
taken words (Ok (arguments.Spell digits)) right e = (right, found_is _ _ e)
taken words (Ok (arguments.Forms name)) right e = (right, found_is _ _ e)
taken words (Ok (arguments.Code digits)) right e = (right, found_is _ _ e)
taken words (Ok (arguments.Serve service)) right e = (right, found_is _ _ e)
taken words (Ok (arguments.Power state cuts past)) right e = (right, found_is _ _ e)
taken words (Ok (arguments.Snapshot state)) right e = (right, found_is _ _ e)
taken words (Ok (arguments.Restore state text past)) right e = (right, found_is _ _ e)
taken words (Ok (arguments.Retell state)) right e = (right, found_is _ _ e)
taken words (Ok (arguments.Replay journal)) right e = (right, found_is _ _ e)
taken words (Ok (arguments.Tell error)) right e =
    absurd (none_tells _ (subcommand_of program words) (found_is _ _ e))
taken words (Err Usage) right e = inr (right, not_found _ e)
taken words (Err NoMemory) right e = tt

-- if clap refuses the words, but not because the user requested help or the version, the result is
-- as `Answers` requires
pub refused : (words : List Text) (kind : ErrorKind) (fault : ArgumentFault)
    → fault ≡ fault_of_words kind
    → (kind ≡ OutOfMemory) ⊎ IsAmong kind (fault_of program words) → kind ≢ DisplayHelp
    → kind ≢ DisplayVersion
    → Answers words (Err fault)
refused words kind NoMemory is why help version = tt
refused words kind Usage is (inl out) help version =
    let bad : Usage ≡ fault_of_words OutOfMemory = is ∙ ap fault_of_words out in
    absurd cc
refused words kind Usage is (inr among) help version =
    inl (kind, among, λ wish. elim wish [ inl h ↦ help h | inr v ↦ version v ])

-- if a kind of error is not different from both help and the version, it is one of the two; the
-- proof distinguishes all kinds
is_wish : (kind : ErrorKind) → ((kind ≢ DisplayHelp) × (kind ≢ DisplayVersion) → ⊥) → IsTold kind
is_wish DisplayHelp never = inl refl
is_wish DisplayVersion never = inr refl
is_wish InvalidValue never = absurd (never (λ e. cc, λ e. cc))
is_wish UnknownArgument never = absurd (never (λ e. cc, λ e. cc))
is_wish InvalidSubcommand never = absurd (never (λ e. cc, λ e. cc))
is_wish NoEquals never = absurd (never (λ e. cc, λ e. cc))
is_wish ValueValidation never = absurd (never (λ e. cc, λ e. cc))
is_wish TooManyValues never = absurd (never (λ e. cc, λ e. cc))
is_wish TooFewValues never = absurd (never (λ e. cc, λ e. cc))
is_wish WrongNumberOfValues never = absurd (never (λ e. cc, λ e. cc))
is_wish ArgumentConflict never = absurd (never (λ e. cc, λ e. cc))
is_wish MissingRequiredArgument never = absurd (never (λ e. cc, λ e. cc))
is_wish MissingSubcommand never = absurd (never (λ e. cc, λ e. cc))
is_wish DisplayHelpOnMissingArgumentOrSubcommand never = absurd (never (λ e. cc, λ e. cc))
is_wish Io never = absurd (never (λ e. cc, λ e. cc))
is_wish Format never = absurd (never (λ e. cc, λ e. cc))
is_wish OutOfMemory never = absurd (never (λ e. cc, λ e. cc))

-- if clap refuses the words because the user requested help or the version, the result is as
-- `Answers` requires
pub told : (words : List Text) (kind : ErrorKind)
    → (kind ≡ OutOfMemory) ⊎ IsAmong kind (fault_of program words)
    → ((kind ≢ DisplayHelp) × (kind ≢ DisplayVersion) → ⊥) → IsAmong kind (fault_of program words)
    × IsTold kind
told words kind (inr among) never = (among, is_wish kind never)
told words kind (inl out) never =
    elim (is_wish kind never) [
      | inl h ↦ let bad : OutOfMemory ≡ DisplayHelp = sym out ∙ h in absurd cc
      | inr v ↦ let bad : OutOfMemory ≡ DisplayVersion = sym out ∙ v in absurd cc
    ]
