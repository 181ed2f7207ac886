-- What is wrong with the words of a command line, and where the right words are explained.
use Rattle.std.specs.Prelude.{Bool, true, false, List, [], ◌∷◌, ◌++◌, codes, if◌then◌else◌}
use Rattle.std.specs.Prelude.{Option, Some, None, option_map}
use Rattle.std.specs.Str.{bytes_eq}
use Rattle.clap.specs.Words.{Text}
use Rattle.tpmsim_arguments.specs.declared.usage.Usage.{Usage}

-- whether a command has this name
abbrev pub is_command : Text → Bool
is_command name = if bytes_eq name (codes "run") then true
    else (if bytes_eq name (codes "check") then true
    else (if bytes_eq name (codes "asm") then true
    else (if bytes_eq name (codes "line") then true
    else (if bytes_eq name (codes "lines") then true
    else (if bytes_eq name (codes "code") then true
    else (if bytes_eq name (codes "serve") then true
    else (if bytes_eq name (codes "power") then true
    else (if bytes_eq name (codes "snapshot") then true
    else (if bytes_eq name (codes "restore") then true
    else (if bytes_eq name (codes "script") then true
    else bytes_eq name (codes "replay")))))))))))

-- this word, if it names a command
abbrev pub command_named : Text → Option Text
command_named word = if is_command word then Some word else None

-- the second word of a command line, if it names a command; the first word is the program's name
abbrev pub command_in : List Text → Option Text
command_in (program ∷ word ∷ words) = command_named word
command_in _ = None

-- the command whose help explains the words
abbrev pub named_in : Usage → Option Text
named_in usage = option_map (λ name. name.now) usage.command

-- where the words of a command are explained, or those of all commands
abbrev pub help_text : (command : Option Text) → Text
help_text (Some command) = codes "; see tpmsim help " ++ command
help_text None = codes "; see tpmsim help"

-- what is wrong with the words, and where the right words are explained
abbrev pub usage_text : Usage → Text
usage_text usage = usage.reason.bytes.items ++ help_text (named_in usage)
