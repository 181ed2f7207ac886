-- One client: what it has received and not yet executed, and what is left to send to it.
use Rattle.std.specs.Prelude.{◌≡◌, ℕ, ◌-◌, ◌≤◌, ◌==◌}
use Rattle.std.specs.Prelude.{List, [], ◌++◌, length, take, drop}
use Rattle.std.specs.Prelude.{Option, Some, None, if◌then◌else◌}
use Rattle.tpm_simulator_protocol.specs.Answer.{answer_of}
use Rattle.tpm_simulator_protocol.specs.Request.{fate_after, has_ended, request_limit, request_of}
use Rattle.tpm_simulator_protocol.specs.Stream.{Cut, Stream, cut_at, next_of}
use Rattle.tpm_simulator_protocol.specs.declared.request.Due.{Due}
use Rattle.tpm_simulator_protocol.specs.declared.request.Fate.{Fate}
use Rattle.tpm_simulator_protocol.specs.declared.request.Fate.TheVariants.{Continues}
use Rattle.tpm_simulator_protocol.specs.declared.request.Port.{Port}

-- a client: its port, the bytes that it has sent but whose requests are not yet executed, the bytes
-- of its answers that it has not yet received, and what happens to it after them
pub record State : Type 0 where
  pub port : Port
  pub taken : List ℕ
  pub unsent : List ℕ
  pub fate : Fate

-- a client that has just connected to this port
abbrev pub new_state : Port → State
new_state port = record { port = port; taken = []; unsent = []; fate = Continues }

abbrev pub stream_of : State → Stream
stream_of s = record { taken = s.taken; ended = has_ended s.fate }

-- the next request, if all its bytes were received; but none while part of an answer is unsent
abbrev pub due : State → Option Cut
due s = if length s.unsent == 0 then next_of s.port (stream_of s) else None

-- the bytes of a piece that still fit
abbrev pub fitting : State → List ℕ → List ℕ
fitting s piece = take (request_limit - length s.taken) piece

abbrev pub received_state : State → List ℕ → State
received_state s piece = record s { taken = s.taken ++ fitting s piece }

-- a client after the request `c` was executed with this response
abbrev pub answered_by : Option Cut → State → List ℕ → State
answered_by None s response = s
answered_by (Some c) s response = record s {
  taken = c.after.taken;
  unsent = answer_of (request_of s.port c.text) response;
  fate = fate_after (request_of s.port c.text);
}

-- a client after its due request, if any, was executed with this response
abbrev pub answered_state : State → List ℕ → State
answered_state s response = answered_by (due s) s response

-- a client after up to `count` bytes of its answers were sent
abbrev pub sent_state : State → ℕ → State
sent_state s count = record s { unsent = drop count s.unsent }

-- The result is the due request of a client and its size, or None if no request is due.
abbrev pub IsDue : State → Option Due → Type 0
IsDue s None = due s ≡ None
IsDue s (Some d) =
    (d.size ≤ length s.taken)
    × (due s ≡ Some (cut_at s.port d.size s.taken))
    × (d.request ≡ request_of s.port (take d.size s.taken))
