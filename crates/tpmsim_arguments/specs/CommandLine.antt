-- The program's command line, as clap's types define it.
use Rattle.std.specs.Prelude.{List, [], ◌∷◌, Some, false, true, codes, fold}
use Rattle.clap.specs.Words.{App, Rule, Shape, Text, new_rule, with_subcommand}
use Rattle.clap.specs.Simple.{new_shape}
use Rattle.clap.specs.declared.builder.action.ArgAction.TheVariants.{Set, SetTrue}

-- the rule for the optional flag `--NAME`
abbrev pub flag : Text → Rule
flag name = record (new_rule name) { long = Some name; action = Some SetTrue }

-- the rule for a required positional argument
abbrev pub operand : Text → Rule
operand name = record (new_rule name) {
  action = Some Set;
  value_names = 1;
  required = true;
}

-- the rule for the required argument `--NAME VALUE`
abbrev pub setting : Text → Rule
setting name = record (operand name) { long = Some name }

-- the rule for the optional argument `--NAME VALUE`
abbrev pub choice : Text → Rule
choice name = record (setting name) { required = false }

-- the command with this name and these arguments
abbrev pub with_arguments : Text → List Rule → Shape
with_arguments name rules = record (new_shape name) { rules = rules }

-- the rule for an optional positional argument
abbrev pub optional_operand : Text → Rule
optional_operand name = record (operand name) { required = false }

-- the command `run [--trace] [--complete] [--image FILE] [--state DIR] [--keep NUMBER]
-- [--entropy FILE] [SCRIPT]`
abbrev pub run_command : Shape
run_command = with_arguments (codes "run") (flag (codes "trace") ∷ flag (codes "complete")
    ∷ choice (codes "image") ∷ choice (codes "state") ∷ choice (codes "keep")
    ∷ choice (codes "entropy") ∷ optional_operand (codes "script") ∷ [])

-- the command `check SCRIPT`
abbrev pub check_command : Shape
check_command = with_arguments (codes "check") (operand (codes "script") ∷ [])

-- the command `asm [--complete] LINE`
abbrev pub asm_command : Shape
asm_command = with_arguments (codes "asm")
    (flag (codes "complete") ∷ operand (codes "line") ∷ [])

-- the command `line HEX`
abbrev pub line_command : Shape
line_command = with_arguments (codes "line") (operand (codes "hex") ∷ [])

-- the command `lines [NAME]`
abbrev pub lines_command : Shape
lines_command = with_arguments (codes "lines") (optional_operand (codes "name") ∷ [])

-- the command `code HEX`
abbrev pub code_command : Shape
code_command = with_arguments (codes "code") (operand (codes "number") ∷ [])

-- the command `serve --socket PATH [--image FILE] [--log FILE] [--state DIR] [--keep NUMBER]
-- [--complete] [--entropy FILE] [--locality NUMBER] [--connections NUMBER] [--save-each]`
abbrev pub serve_command : Shape
serve_command = with_arguments (codes "serve") (setting (codes "socket")
    ∷ choice (codes "image") ∷ choice (codes "log") ∷ choice (codes "state")
    ∷ choice (codes "keep") ∷ flag (codes "complete") ∷ choice (codes "entropy")
    ∷ choice (codes "locality") ∷ choice (codes "connections") ∷ flag (codes "save-each") ∷ [])

-- the command `power [--cut] [--keep NUMBER] DIR`
abbrev pub power_command : Shape
power_command = with_arguments (codes "power")
    (flag (codes "cut") ∷ choice (codes "keep") ∷ operand (codes "state") ∷ [])

-- the command `snapshot DIR`
abbrev pub snapshot_command : Shape
snapshot_command = with_arguments (codes "snapshot") (operand (codes "state") ∷ [])

-- the command `restore [--keep NUMBER] DIR FILE`
abbrev pub restore_command : Shape
restore_command = with_arguments (codes "restore")
    (choice (codes "keep") ∷ operand (codes "state") ∷ operand (codes "snapshot") ∷ [])

-- the command `script DIR`
abbrev pub script_command : Shape
script_command = with_arguments (codes "script") (operand (codes "state") ∷ [])

-- the command `replay FILE`
abbrev pub replay_command : Shape
replay_command = with_arguments (codes "replay") (operand (codes "journal") ∷ [])

-- the program before its commands are added; it has a version, and a command is required
abbrev pub bare_program : App
bare_program = record {
  top = record (new_shape (codes "tpmsim")) { has_version = true; subcommand_required = true };
  subs = [];
}

-- the commands, in the order in which the help lists them
abbrev pub commands : List Shape
commands = run_command ∷ check_command ∷ asm_command ∷ line_command ∷ lines_command ∷ code_command
    ∷ serve_command ∷ power_command ∷ snapshot_command ∷ restore_command ∷ script_command
    ∷ replay_command ∷ []

abbrev pub program : App
program = fold with_subcommand bare_program commands
