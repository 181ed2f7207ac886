-- Lemmas about the history of a machine after turns of connections.
use Rattle.std.proofs.Common.{◌≡◌, ℕ, Bool, Option, Some, None, Result, Ok, Err, sym, subst}
use Rattle.tpm_containers.specs.Slots.{at_place}
use Rattle.tpm_step.specs.step.Step.{outcome_step}
use Rattle.tpm_machine.specs.Follows.{Follows}
use Rattle.tpm_machine.specs.History.{History}
use Rattle.tpm_machine.proofs.Following.{execution_follows}
use Rattle.tpm_wire.specs.History.{answered_history, cut_history, stream_history, turn_history}
use Rattle.tpm_wire.specs.Stream.{Cut, Stream, next_of}
use Rattle.tpm_wire.specs.Wire.{AnswersTurn, Turns, TurnsAt, TurnsBy, Wire, given_event}
use Rattle.tpm_wire.specs.declared.fault.NoConnection.{NoConnection}
use Rattle.tpm_wire.specs.declared.host.Host.{Host}
use Rattle.tpm_wire.specs.declared.turn.Turn.{Turn}
use Rattle.tpm_wire.specs.declared.turn.Turn.TheVariants.{Answer, Ended, Wants}

same_follows : (old new : Wire) (history : History) → new ≡ old → Follows old.machine history
    → Follows new.machine history
same_follows old new history same follows =
    subst (λ (w : Wire). Follows w.machine history) (sym same) follows

answered_follows : (can : Bool) (c : Cut) (old : Wire) (number : ℕ) (host : Host)
    (result : Result Turn NoConnection) (new : Wire) (history : History)
    → AnswersTurn can c old number host result new → Follows old.machine history
    → Follows new.machine (answered_history c old.machine host result history)
answered_follows can c old number host (Ok (Answer outcome)) new history answers follows =
    execution_follows can old.machine (given_event c.buffer host) (outcome_step new.machine outcome)
    history answers.0 follows
answered_follows can c old number host (Ok Wants) new history answers follows = absurd answers
answered_follows can c old number host (Ok Ended) new history answers follows = absurd answers
answered_follows can c old number host (Err e) new history answers follows = absurd answers

cut_follows : (can : Bool) (o : Option Cut) (s : Stream) (old : Wire) (number : ℕ) (host : Host)
    (result : Result Turn NoConnection) (new : Wire) (history : History)
    → TurnsBy can o s old number host result new → Follows old.machine history
    → Follows new.machine (cut_history o old.machine host result history)
cut_follows can None s old number host result new history turns follows =
    same_follows old new history turns.1 follows
cut_follows can (Some c) s old number host result new history turns follows =
    answered_follows can c old number host result new history turns follows

stream_follows : (can : Bool) (o : Option Stream) (old : Wire) (number : ℕ) (host : Host)
    (result : Result Turn NoConnection) (new : Wire) (history : History)
    → TurnsAt can o old number host result new → Follows old.machine history
    → Follows new.machine (stream_history o old.machine host result history)
stream_follows can None old number host (Ok turn) new history turns follows = absurd turns
stream_follows can None old number host (Err e) new history turns follows =
    same_follows old new history turns follows
stream_follows can (Some s) old number host result new history turns follows =
    cut_follows can (next_of s) s old number host result new history turns follows

pub turn_follows : (can : Bool) (old : Wire) (number : ℕ) (host : Host)
    (result : Result Turn NoConnection) (new : Wire) → Turns can old number host result new
    → (history : History) → Follows old.machine history
    → Follows new.machine (turn_history old number host result history)
turn_follows can old number host result new turns history follows =
    stream_follows can (at_place old.streams number) old number host result new history turns
    follows
