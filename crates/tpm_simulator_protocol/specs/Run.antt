-- Everything that happens to one client, and what it may rely on.
use Rattle.std.specs.Prelude.{◌≡◌, ℕ, ◌<◌, false}
use Rattle.std.specs.Prelude.{List, [], ◌∷◌, ◌++◌, length, take, map, fold}
use Rattle.std.specs.Prelude.{Option, Some, None}
use Rattle.std.specs.List.{flat_map}
use Rattle.tpm_simulator_protocol.specs.Answer.{answer_of}
use Rattle.tpm_simulator_protocol.specs.Client.{State, answered_state, due, fitting, new_state, received_state, sent_state}
use Rattle.tpm_simulator_protocol.specs.Request.{has_ended, request_limit, request_of}
use Rattle.tpm_simulator_protocol.specs.Stream.{Cut, cut_of}
use Rattle.tpm_simulator_protocol.specs.declared.request.Port.{Port}

-- what happens to a client: a piece of its bytes arrives, its due request is executed with a
-- response, or up to `count` bytes of its answers are sent
pub data Event : Type 0 where
  Arrives : (piece : List ℕ) → Event
  Executes : (response : List ℕ) → Event
  Sends : (count : ℕ) → Event

-- an executed request: its text, and the response that the device returned for it
pub record Exchange : Type 0 where
  pub text : List ℕ
  pub response : List ℕ

-- the past of a client: all bytes that were received from it, its executed requests, and all bytes
-- that were sent to it, each in order
pub record Past : Type 0 where
  pub received : List ℕ
  pub exchanges : List Exchange
  pub sent : List ℕ

-- a client with its past
pub record Life : Type 0 where
  pub state : State
  pub past : Past

abbrev pub new_life : Port → Life
new_life port = record {
  state = new_state port;
  past = record { received = []; exchanges = []; sent = [] };
}

-- a past after the request `c`, if any, was executed with this response
abbrev pub exchanged : Option Cut → Past → List ℕ → Past
exchanged None past response = past
exchanged (Some c) past response = record past {
  exchanges = past.exchanges ++ record { text = c.text; response = response } ∷ [];
}

-- a client and its past after an event
abbrev pub life_after : Life → Event → Life
life_after l (Arrives piece) = record {
  state = received_state l.state piece;
  past = record l.past { received = l.past.received ++ fitting l.state piece };
}
life_after l (Executes response) = record {
  state = answered_state l.state response;
  past = exchanged (due l.state) l.past response;
}
life_after l (Sends count) = record {
  state = sent_state l.state count;
  past = record l.past { sent = l.past.sent ++ take count l.state.unsent };
}

-- a client and its past after all these events, in this order
abbrev pub life_of : Port → List Event → Life
life_of port events = fold life_after (new_life port) events

abbrev pub texts_of : List Exchange → List (List ℕ)
texts_of exchanges = map (λ x. x.text) exchanges

-- the answer to an executed request
abbrev pub exchange_answer : Port → Exchange → List ℕ
exchange_answer port x = answer_of (request_of port x.text) x.response

-- The requests that were executed are the first requests of the client's stream, each once and in
-- order.
abbrev pub ExecutesFirst : Port → Life → Type 0
ExecutesFirst port l =
    (more : List (List ℕ))
    × ((cut_of port l.past.received).requests ≡ texts_of l.past.exchanges ++ more)

-- The bytes that were sent, and then those that are left to be sent, are the answers to the
-- executed requests, each once and in order.
abbrev pub AnswersInOrder : Port → Life → Type 0
AnswersInOrder port l =
    l.past.sent ++ l.state.unsent ≡ flat_map (exchange_answer port) l.past.exchanges

-- If all answers were sent and no request is due, all requests of the stream were executed, and the
-- bytes after them are stored.
abbrev pub ExecutesAll : Port → Life → Type 0
ExecutesAll port l = l.state.unsent ≡ [] → due l.state ≡ None → cut_of port l.past.received
    ≡ record {
      requests = texts_of l.past.exchanges;
      rest = l.state.taken;
      ended = has_ended l.state.fate;
    }

-- If all answers were sent, no request is due and the stream has not ended, at least one more byte
-- can be received.
abbrev pub HasRoom : Life → Type 0
HasRoom l = l.state.unsent ≡ [] → due l.state ≡ None → has_ended l.state.fate ≡ false
    → length l.state.taken < request_limit

-- Whatever happens to a client, in whatever pieces its bytes arrive: it gets the answers to its own
-- requests, in order and each once.
abbrev pub ClientsAreServed : Type 0
ClientsAreServed = (port : Port) (events : List Event) → let l = life_of port events in
    ExecutesFirst port l × AnswersInOrder port l × ExecutesAll port l × HasRoom l
