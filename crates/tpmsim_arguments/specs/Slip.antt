-- Why options that exist are refused together, or with a value.
use Rattle.std.specs.Prelude.{Bool, false, not, ◌||◌, List, Option, is_some, codes, if◌then◌else◌}
use Rattle.std.specs.Str.{bytes_eq}
use Rattle.clap.specs.Words.{Row, Text}
use Rattle.tpmsim_arguments.specs.Invocation.{connections_by, locality_by, past_in, run_in, service_in}
use Rattle.tpmsim_arguments.specs.declared.slip.Slip.{Slip}
use Rattle.tpmsim_arguments.specs.declared.slip.Slip.TheVariants as slip

-- the reason in words
abbrev pub slip_text : Slip → Text
slip_text slip.NoScript = codes "missing SCRIPT"
slip_text slip.NoSocket = codes "missing --socket"
slip_text slip.NoPlace = codes "missing --image or --state"
slip_text slip.TwoPlaces = codes "--image excludes --state"
slip_text slip.KeepWithoutState = codes "--keep needs --state"
slip_text slip.BadKeep = codes "--keep is not a number from 0 to 99"
slip_text slip.EntropyAlone = codes "--entropy needs --image or --state"
slip_text slip.KeptProfile = codes "--complete excludes --image and --state"
slip_text slip.LogWithoutImage = codes "--log needs --image"
slip_text slip.LayerWithoutState = codes "--complete needs --state"
slip_text slip.NoEntropy = codes "missing --entropy, which --image needs"
slip_text slip.NoLocality = codes "missing --locality, which --image needs"
slip_text slip.NoConnections = codes "missing --connections, which --image needs"
slip_text slip.BadLocality = codes "--locality is not a number from 0 to 4"
slip_text slip.BadConnections = codes "--connections is not a number below 4294967296"

-- whether the locality or the number of connections is refused
abbrev pub numbers_slip : (locality connections : Option Text) → Bool
numbers_slip locality connections =
    not (is_some (locality_by locality)) || not (is_some (connections_by connections))

-- whether options of the command with this name that clap accepts are refused
abbrev pub has_slip : Text → List Row → Bool
has_slip name rows = if bytes_eq name (codes "run") then not (is_some (run_in rows))
    else (if bytes_eq name (codes "serve") then not (is_some (service_in rows))
    else (if bytes_eq name (codes "power") then not (is_some (past_in rows))
    else (if bytes_eq name (codes "restore") then not (is_some (past_in rows)) else false)))
