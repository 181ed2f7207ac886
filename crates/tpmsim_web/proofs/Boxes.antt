-- Lemmas about the box of a device, the pointer to the box, and the calls that convert between
-- them. `Words` defines the machine words of both, `Calls` says what each call requires and
-- returns, and `Held` says what a holder owns.
use Rattle.std.proofs.BoxSteps.Form.{Bx}
use Rattle.tpmsim_web.specs.contracts.lent.LentAllocator.TheImpl.{dict, ghosts}
use Rattle.tpmsim_web.proofs.Boxes.Calls.{plain_drop}
use Rattle.tpmsim_web.proofs.Boxes.Words.{Content, Source, content_laws, source_laws}
pub mod Words
pub mod Calls
pub mod Held

-- the box of a device, in the form that std's proof steps for boxes expect
abbrev pub boxes : Bx
boxes = record {
  row = Content;
  laws = content_laws;
  al =
      record { row = Source; laws = source_laws; g = ghosts; d = dict; drops = plain_drop Source };
}
