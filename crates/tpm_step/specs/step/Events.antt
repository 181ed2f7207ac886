-- Events as plain values, which do not borrow their buffers.
use Rattle.std.specs.Prelude.{◌≡◌, ℕ, ◌≤◌, ◌<◌, ◌^◌, List, length}
use Rattle.tpm_object.specs.Object.{IsObject}
use Rattle.tpm_object.specs.declared.object.Object.{Object}
use Rattle.tpm_types_common.specs.Locality.{locality_number}
use Rattle.tpm_step.specs.declared.event.Event as declared
use Rattle.tpm_step.specs.declared.event.Event.TheVariants as event

-- An event. A command has its bytes, its locality, its random bytes, and its elapsed time: the
-- milliseconds since the command before it. A power cycle has no elapsed time. An object is placed
-- when the completing layer loads a saved context: the object that the context contains gets the
-- lowest free slot of the transient objects. The code's own type `Event` has no variant for a
-- placed object.
pub data PlainEvent : Type 0 where
  Given : (buffer : List ℕ) (locality elapsed : ℕ) (random : List ℕ) → PlainEvent
  Cycled : PlainEvent
  Placed : (object : Object) → PlainEvent

-- The event can occur. Its locality is 0 to 4, its elapsed time has 32 bits, and each command has
-- 256 random bytes. A placed object satisfies the invariant of every loaded object.
abbrev pub IsEvent : PlainEvent → Type 0
IsEvent (Given buffer locality elapsed random) =
    (locality ≤ 4) × (elapsed < 2 ^ 32) × (length random ≡ 256)
IsEvent Cycled = Unit {0}
IsEvent (Placed object) = IsObject object

abbrev pub plain_event : declared.Event → PlainEvent
plain_event (event.Command buffer locality elapsed random) =
    Given buffer.now (locality_number locality) elapsed random
plain_event event.PowerCycle = Cycled
