-- What holds for a client and its past after every event.
use Rattle.std.proofs.Common.{◌≡◌, ℕ, ◌+◌, Bool, true, false, List, [], ◌∷◌, ◌++◌, length, take, drop, Option, Some, None, refl, sym, ap, ◌∙◌, subst, append_assoc, append-nil, take-append-drop, arith}
use Rattle.std.specs.Prelude.{◌==◌, fold, if◌then◌else◌}
use Rattle.std.specs.List.{flat_map}
use Rattle.std.proofs.lemmas.Grind.{flat_map-append}
use Rattle.std.proofs.lemmas.List.{map-append}
use Rattle.std.proofs.lemmas.Bool.{eqb-true}
use Rattle.tpm_simulator_protocol.specs.Client.{State, answered_by, due, fitting, stream_of}
use Rattle.tpm_simulator_protocol.specs.Request.{is_last}
use Rattle.tpm_simulator_protocol.specs.Run.{AnswersInOrder, ClientsAreServed, Event, Arrives, Executes, Sends, Exchange, ExecutesAll, ExecutesFirst, HasRoom, Life, exchange_answer, exchanged, life_after, life_of, new_life, texts_of}
use Rattle.tpm_simulator_protocol.specs.Stream.{Cut, Cutting, Stream, cut_of, cut_with, next_of}
use Rattle.tpm_simulator_protocol.specs.declared.request.Port.{Port}
use Rattle.tpm_simulator_protocol.proofs.Cutting.{cut_last, cut_next, next_room, receive_more, requests_stay}

-- The client keeps this port. Its bytes consist of the executed requests and of what it stores, and
-- its answers were sent or are left to be sent.
record Holds (port : Port) (l : Life) : Type 0 where
  same : l.state.port ≡ port
  cut : cut_of port l.past.received ≡ cut_with port (texts_of l.past.exchanges) (stream_of l.state)
  answered : AnswersInOrder port l

empty : (bytes : List ℕ) → (length bytes == 0) ≡ true → bytes ≡ []
empty [] is = refl
empty (byte ∷ bytes) is =
    let none : length (byte ∷ bytes) ≡ 0 = eqb-true (length (byte ∷ bytes)) 0 is in
    absurd (omega (arith, none))

-- If a request is due, no answer is left to be sent, and the request is the next one.
due_is : (s : State) (c : Cut) → due s ≡ Some c
    → (s.unsent ≡ []) × (next_of s.port (stream_of s) ≡ Some c)
due_is s c is = by (length s.unsent == 0) refl is
  where
    by : (b : Bool) → (length s.unsent == 0) ≡ b
        → (if b then next_of s.port (stream_of s) else None) ≡ Some c
        → (s.unsent ≡ []) × (next_of s.port (stream_of s) ≡ Some c)
    by true e f = (empty s.unsent e, f)
    by false e f = absurd cc

-- If no answer is left to be sent, and no request is due, there is no next request.
none_is : (s : State) → s.unsent ≡ [] → due s ≡ None → next_of s.port (stream_of s) ≡ None
none_is s all none =
    sym (ap (λ (l : List ℕ). if length l == 0 then next_of s.port (stream_of s) else None) all)
    ∙ none

executed_cut : (port : Port) (texts : List (List ℕ)) (s : Stream) (c : Cut)
    → next_of port s ≡ Some c
    → cut_with port texts s
    ≡ cut_with port (texts ++ c.text ∷ [])
    (record { taken = c.after.taken; ended = is_last port c.text })
executed_cut port texts s c is =
    let next = cut_next port texts s c is in
    next.1
    ∙ ap (λ (b : Bool). cut_with port (texts ++ c.text ∷ [])
    (record { taken = c.after.taken; ended = b })) next.0

answered_one : (port : Port) (sent unsent : List ℕ) (before : List Exchange) (x : Exchange)
    → unsent ≡ [] → sent ++ unsent ≡ flat_map (exchange_answer port) before
    → sent ++ exchange_answer port x ≡ flat_map (exchange_answer port) (before ++ x ∷ [])
answered_one port sent unsent before x all is =
    let whole : sent ≡ flat_map (exchange_answer port) before =
    sym (append-nil sent) ∙ ap (λ (l : List ℕ). sent ++ l) (sym all) ∙ is in
    ap (λ (l : List ℕ). l ++ exchange_answer port x) whole
    ∙ ap (λ (l : List ℕ). flat_map (exchange_answer port) before ++ l)
    (sym (append-nil (exchange_answer port x)))
    ∙ sym (flat_map-append (exchange_answer port) before (x ∷ []))

abbrev executed : Life → List ℕ → Option Cut → Life
executed l response o = record {
  state = answered_by o l.state response;
  past = exchanged o l.past response;
}

executes : (l : Life) (response : List ℕ) (o : Option Cut) → due l.state ≡ o
    → Holds l.state.port l → Holds l.state.port (executed l response o)
executes l response None is h = h
executes l response (Some c) is h =
    let port = l.state.port in
    let x : Exchange = record { text = c.text; response = response } in
    let found = due_is l.state c is in record {
      same = refl;
      cut = h.cut ∙ executed_cut port (texts_of l.past.exchanges) (stream_of l.state) c found.1
          ∙ ap (λ (texts : List (List ℕ)). cut_with port texts
          (record { taken = c.after.taken; ended = is_last port c.text }))
          (sym (map-append (λ (y : Exchange). y.text) l.past.exchanges (x ∷ [])));
      answered = answered_one port l.past.sent l.state.unsent l.past.exchanges x found.0 h.answered;
    }

steps : (l : Life) (e : Event) → Holds l.state.port l → Holds l.state.port (life_after l e)
steps l (Arrives piece) h = record {
  same = refl;
  cut = receive_more l.state.port l.past.received (fitting l.state piece)
      (texts_of l.past.exchanges) (stream_of l.state) h.cut;
  answered = h.answered;
}
steps l (Executes response) h = executes l response (due l.state) refl h
steps l (Sends count) h = record {
  same = refl;
  cut = h.cut;
  answered = append_assoc l.past.sent (take count l.state.unsent) (drop count l.state.unsent)
      ∙ ap (λ (bytes : List ℕ). l.past.sent ++ bytes) (take-append-drop count l.state.unsent)
      ∙ h.answered;
}

step : (port : Port) (l : Life) (e : Event) → Holds port l → Holds port (life_after l e)
step port l e h =
    subst (λ (p : Port). Holds p (life_after l e)) h.same
    (steps l e (subst (λ (p : Port). Holds p l) (sym h.same) h))

all_steps : (port : Port) (l : Life) (events : List Event) → Holds port l
    → Holds port (fold life_after l events)
all_steps port l [] h = h
all_steps port l (e ∷ events) h = all_steps port (life_after l e) events (step port l e h)

begins : (port : Port) → Holds port (new_life port)
begins port = record { same = refl; cut = refl; answered = refl }

promises : (l : Life) → Holds l.state.port l
    → ExecutesFirst l.state.port l × AnswersInOrder l.state.port l × ExecutesAll l.state.port l
    × HasRoom l
promises l h =
    let port = l.state.port in
    let texts = texts_of l.past.exchanges in
    let stored = stream_of l.state in
    let more = requests_stay port (record { requests = texts; rest = []; ended = stored.ended })
    stored.taken in (
      (more.0, ap (λ (c : Cutting). c.requests) h.cut ∙ more.1),
      h.answered,
      λ all none. h.cut ∙ cut_last port texts stored (none_is l.state all none),
      λ all none lives. next_room port stored (none_is l.state all none) lives,
    )

promises_at : (port : Port) (l : Life) → Holds port l
    → ExecutesFirst port l × AnswersInOrder port l × ExecutesAll port l × HasRoom l
promises_at port l h =
    subst (λ (p : Port). ExecutesFirst p l × AnswersInOrder p l × ExecutesAll p l × HasRoom l)
    h.same (promises l (subst (λ (p : Port). Holds p l) (sym h.same) h))

pub clients_are_served : ClientsAreServed
clients_are_served port events =
    promises_at port (life_of port events) (all_steps port (new_life port) events (begins port))
