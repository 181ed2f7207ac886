-- Lemmas about the box of a value, the pointer to the box, and the calls that convert between them.
-- `Words` defines the machine words of both, `Calls` says what each call requires and returns, and
-- `Held` says what an owner and a holder own.
use mathlib.Core.Path.{refl}
use mir.Raw.{raw as bare}
use denote.Exit.{no}
use denote.Param.{arg, layout}
use denote.Param.Laws.{Laws, arg_laws}
use denote.RattleType.{RattleType}
use Rattle.std.proofs.BoxSteps.Form.{Bx}
use Rattle.std.specs.contracts.impls.GlobalAllocator.TheImpl.{dict, ghosts}
use Rattle.tpmsim_library.proofs.Boxes.Calls.{plain_drop}
use Rattle.tpmsim_library.proofs.Boxes.Words.{Heap, heap_laws}
use Rattle.tpmsim_library.proofs.device.Device.TheLaws as device_laws
use Rattle.tpmsim_library.specs.contracts.device.Device as device
pub mod Words
pub mod Calls
pub mod Held

-- the type of the value in the box, as an argument of a generic function
abbrev pub Content : RattleType
Content = arg (bare (layout device.the_row)) no device.the_row

pub content_laws : Laws Content
content_laws = arg_laws (bare (layout device.the_row)) no device.the_row device_laws.the_row_laws
    refl

-- the box of a device, in the form that std's proof steps for boxes expect
abbrev pub boxes : Bx
boxes = record {
  row = Content;
  laws = content_laws;
  al =
      record { row = Heap; laws = heap_laws; g = ghosts; d = dict; drops = plain_drop Heap };
}
