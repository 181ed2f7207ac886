-- The effect of an event with the completing layer, on two devices that differ only in secret data.
use Rattle.std.proofs.Common.{ap, refl, subst, sym, ◌∙◌}
use Rattle.std.specs.Prelude.{Bool, Err, List, None, Ok, Option, Result, Some, [], false, option_map, true, ℕ, ◌&&◌, ◌==◌, ◌||◌, ◌∷◌, ◌≡◌}
use Rattle.tpm_completion.specs.Completed.{completed_after, completed_effect, completed_with, device_effect, done_after, loaded_after, sending_after}
use Rattle.tpm_completion.specs.Completion.{forgotten}
use Rattle.tpm_completion.specs.Execution.{Seen, asked_after, effect_with_reply, opened_after, reply_after, sent_after, sent_effect, sent_event}
use Rattle.tpm_completion.specs.Hiding.{heard}
use Rattle.tpm_completion.specs.Loading.{context_asked, object_opened, placed_reply}
use Rattle.tpm_completion.specs.Properties.{values_set}
use Rattle.tpm_completion.specs.Reply.{reply}
use Rattle.tpm_completion.specs.Saving.{Reply}
use Rattle.tpm_completion.specs.Sending.{sent_for, sent_reply}
use Rattle.tpm_completion.specs.declared.completion.Completion.{Completion}
use Rattle.tpm_completion.specs.declared.sending.Sent.{Sent}
use Rattle.tpm_context.specs.declared.fault.ContextFault.{ContextFault}
use Rattle.tpm_edge_secrecy.proofs.Contexts.{layer_loads_alike}
use Rattle.tpm_edge_secrecy.proofs.Layer.{forgotten_same, layer_answers_alike, layer_saves_alike}
use Rattle.tpm_edge_secrecy.proofs.NoSecretKeys.{hmac_is_not_secret}
use Rattle.tpm_edge_secrecy.proofs.Sequences.{layer_sends_alike}
use Rattle.tpm_edge_secrecy.specs.Layer.{CompletedRunTellsNothing, CompletedTellsNothing, Completions, CompletionsAlike, CompletesAlike, NoneReadsWith, RepliesAlike, SetAlike, answers_with, is_reading_with, is_saving, is_saving_with, layer_reads, reads_after, saves_secret, sent_reads, starts_secret}
use Rattle.tpm_object.specs.declared.object.Object.{Object}
use Rattle.tpm_record.specs.Objects.{next_handle, object_handle}
use Rattle.tpm_record.specs.Record.{Record}
use Rattle.tpm_row_secrecy.proofs.Each.{lowest_free_each}
use Rattle.tpm_row_secrecy.specs.Secrecy.{DifferInSecrets, Secrecy, bare_object, of_data, unless}
use Rattle.tpm_secrecy.proofs.Data.{alike_told_nothing}
use Rattle.tpm_secrecy.specs.Tells.{EventsAlike, TellsNothing, is_reading}
use Rattle.tpm_step.specs.step.Events.{Cycled, Given, Placed, PlainEvent}
use Rattle.tpm_step.specs.step.Step.{step}
use Rattle.tpm_step.specs.declared.event.Row.{Row}
use Rattle.tpm_types_object.specs.declared.public.Public.{Public}

unless_same : (saved : Bool) (a b : List ℕ) → (saved ≡ false → a ≡ b)
    → unless saved a ≡ unless saved b
unless_same true a b same = refl
unless_same false a b same = same refl

or_left : (a b : Bool) → a || b ≡ false → a ≡ false
or_left false b e = refl
or_left true b e = absurd cc

or_right : (a b : Bool) → a || b ≡ false → b ≡ false
or_right false b e = e
or_right true b e = absurd cc

module _ (indices : ℕ → Bool) (objects : Public → Bool) where
  abbrev s : Secrecy
  s = of_data indices objects

  -- ---- an execution of the device, and an answer of the layer

  layer_after : (c : Completion) (r t : Record) → DifferInSecrets s r t
      → forgotten r c ≡ forgotten t c
  layer_after c r t differ = sym (forgotten_same s r c) ∙ ap (λ (x : Record). forgotten x c) differ
      ∙ forgotten_same s t c

  passed_alike : (c : Completion) (r t : Record) → DifferInSecrets s r t → (event also : PlainEvent)
      → EventsAlike s event also → is_reading s r event ≡ false → (saved : Bool)
      → CompletesAlike s saved (device_effect c r event) (device_effect c t also)
  unfolding device_effect
  passed_alike c r t differ event also same free saved =
      let told : TellsNothing s (step r event) (step t also) =
      alike_told_nothing indices objects r t false event also differ same free in
      record {
        response = λ free. told.response;
        row = told.row;
        after = told.after;
        layer = layer_after c (step r event).after (step t also).after told.after;
      }

  answered_alike : (saved : Bool) (x y : Seen) (a b : Reply) → CompletesAlike s false x y
      → RepliesAlike saved a b
      → CompletesAlike s saved (effect_with_reply x a) (effect_with_reply y b)
  answered_alike saved x y a b alike replies = record {
    response = replies.response;
    row = alike.row;
    after = alike.after;
    layer = replies.after;
  }

  -- devices that differ only in secret data agree on which authorization values are empty
  sets_alike : (r t : Record) → DifferInSecrets s r t → SetAlike r t
  sets_alike r t differ = ap (λ (x : Record). values_set x.fixed.hierarchies) differ

  -- whether the layer's answer after a command's effect is the context of an object that has a
  -- secret
  abbrev is_saved : Seen → List ℕ → Bool
  is_saved x buffer = saves_secret s x.step.after x.layer buffer x.step.response

  reply_alike : (x y : Seen) → CompletesAlike s false x y → (buffer : List ℕ)
      → RepliesAlike (is_saved x buffer) (reply_after x buffer) (reply_after y buffer)
  reply_alike x y alike buffer =
      subst (RepliesAlike (is_saved x buffer) (reply_after x buffer))
      (ap (λ (c : Completion). reply y.step.after c buffer x.step.response (x.step.row.check == 0))
      alike.layer
      ∙ ap (λ (response : List ℕ). reply y.step.after y.layer buffer response
      (x.step.row.check == 0)) (alike.response refl)
      ∙ ap (λ (row : Row). reply y.step.after y.layer buffer y.step.response (row.check == 0))
      alike.row)
      (layer_answers_alike s x.step.after y.step.after x.layer buffer x.step.response
      (x.step.row.check == 0) alike.after (sets_alike x.step.after y.step.after alike.after))

  saved_both : (x y : Seen) → CompletesAlike s false x y → (buffer : List ℕ)
      → is_saved x buffer ≡ is_saved y buffer
  saved_both x y alike buffer =
      layer_saves_alike s x.step.after y.step.after x.layer buffer x.step.response alike.after
      ∙ ap (λ (c : Completion). saves_secret s y.step.after c buffer x.step.response) alike.layer
      ∙ ap (saves_secret s y.step.after y.layer buffer) (alike.response refl)

  -- ---- the context of an object is loaded

  next_alike : (r t : Record) → DifferInSecrets s r t
      → next_handle r.objects ≡ next_handle t.objects
  next_alike r t differ =
      ap (option_map object_handle) (sym (lowest_free_each (bare_object s) r.objects))
      ∙ ap (λ (x : Record). next_handle x.objects) differ
      ∙ ap (option_map object_handle) (lowest_free_each (bare_object s) t.objects)

  loaded_alike : (saved : Bool) (x y : Seen) → CompletesAlike s false x y
      → (opened : Result Object ContextFault)
      → CompletesAlike s saved (loaded_after x opened) (loaded_after y opened)
  loaded_alike saved x y alike (Ok object) =
      let placing : TellsNothing s (step x.step.after (Placed object))
      (step y.step.after (Placed object)) =
      alike_told_nothing indices objects x.step.after y.step.after false (Placed object)
      (Placed object) alike.after refl refl in
      let reply : placed_reply x.layer (next_handle x.step.after.objects)
      ≡ placed_reply y.layer (next_handle y.step.after.objects) =
      ap (λ (c : Completion). placed_reply c (next_handle x.step.after.objects)) alike.layer
      ∙ ap (placed_reply y.layer) (next_alike x.step.after y.step.after alike.after) in
      record {
        response = λ free. ap (λ (z : Reply). z.response) reply;
        row = alike.row;
        after = placing.after;
        layer = ap (λ (z : Reply). z.after) reply;
      }
  loaded_alike saved x y alike (Err fault) = record {
    response = λ free. refl;
    row = alike.row;
    after = alike.after;
    layer = alike.layer;
  }

  opened_alike : (x y : Seen) → CompletesAlike s false x y → (context : List ℕ)
      → opened_after x context ≡ opened_after y context
  opened_alike x y alike context =
      (layer_loads_alike s x.step.after y.step.after x.layer [] [] context alike.after).1
      ∙ ap (λ (c : Completion). object_opened y.step.after c context) alike.layer

  asked_alike : (x y : Seen) → CompletesAlike s false x y → (buffer : List ℕ)
      → asked_after x buffer ≡ asked_after y buffer
  asked_alike x y alike buffer =
      (layer_loads_alike s x.step.after y.step.after x.layer buffer x.step.response []
      alike.after).0
      ∙ ap (context_asked y.step.after buffer) (alike.response refl)

  -- ---- the layer sends a command to the device

  sent_behind_alike : (x y : Seen) → CompletesAlike s false x y → (buffer : List ℕ)
      → starts_secret s x.step.after x.layer buffer x.step.response ≡ false
      → sent_after x buffer ≡ sent_after y buffer
  sent_behind_alike x y alike buffer free =
      layer_sends_alike s x.step.after y.step.after x.layer buffer x.step.response alike.after free
      (hmac_is_not_secret indices objects x.step.after x.layer buffer x.step.response)
      ∙ ap (λ (c : Completion). sent_for y.step.after c buffer x.step.response) alike.layer
      ∙ ap (sent_for y.step.after y.layer buffer) (alike.response refl)

  second_alike : (x y : Seen) → CompletesAlike s false x y → (event : PlainEvent)
      → is_reading s x.step.after event ≡ false
      → CompletesAlike s false (device_effect x.layer x.step.after event)
      (device_effect y.layer y.step.after event)
  second_alike x y alike event free =
      subst (λ (c : Completion). CompletesAlike s false (device_effect x.layer x.step.after event)
      (device_effect c y.step.after event)) alike.layer
      (passed_alike x.layer x.step.after y.step.after alike.after event event refl free false)

  effect_alike : (saved : Bool) (x y z w : Seen) → CompletesAlike s false x y
      → CompletesAlike s false z w → (sent : Sent)
      → CompletesAlike s saved (sent_effect x z sent) (sent_effect y w sent)
  effect_alike saved x y z w first second sent =
      let same : sent_reply z.layer (z.step.row.check == 0) sent z.step.response
      ≡ sent_reply w.layer (w.step.row.check == 0) sent w.step.response =
      ap (λ (c : Completion). sent_reply c (z.step.row.check == 0) sent z.step.response)
      second.layer
      ∙ ap (λ (row : Row). sent_reply w.layer (row.check == 0) sent z.step.response) second.row
      ∙ ap (sent_reply w.layer (w.step.row.check == 0) sent) (second.response refl) in
      record {
        response = λ free. ap (λ (r : Reply). r.response) same;
        row = first.row;
        after = second.after;
        layer = ap (λ (r : Reply). r.after) same;
      }

  sending_alike : (x y : Seen) → CompletesAlike s false x y
      → (buffer : List ℕ) (locality : ℕ) (random : List ℕ) (sent : Option Sent)
      → sent_reads s x locality random sent ≡ false
      → CompletesAlike s (is_saved x buffer) (sending_after x buffer locality random sent)
      (sending_after y buffer locality random sent)
  sending_alike x y alike buffer locality random (Some sent) free =
      effect_alike (is_saved x buffer) x y
      (device_effect x.layer x.step.after (sent_event sent locality random))
      (device_effect y.layer y.step.after (sent_event sent locality random)) alike
      (second_alike x y alike (sent_event sent locality random) free) sent
  sending_alike x y alike buffer locality random None free =
      answered_alike (is_saved x buffer) x y (reply_after x buffer) (reply_after y buffer) alike
      (reply_alike x y alike buffer)

  -- ---- what comes after a command

  done_alike : (x y : Seen) → CompletesAlike s false x y
      → (buffer : List ℕ) (locality : ℕ) (random : List ℕ) (asked : Option (List ℕ))
      → reads_after s x buffer locality random ≡ false
      → CompletesAlike s (is_saved x buffer) (done_after x buffer locality random asked)
      (done_after y buffer locality random asked)
  done_alike x y alike buffer locality random (Some context) free =
      subst (λ (opened : Result Object ContextFault). CompletesAlike s (is_saved x buffer)
      (loaded_after x (opened_after x context)) (loaded_after y opened))
      (opened_alike x y alike context)
      (loaded_alike (is_saved x buffer) x y alike (opened_after x context))
  done_alike x y alike buffer locality random None free =
      let starts : Bool = starts_secret s x.step.after x.layer buffer x.step.response in
      subst (λ (sent : Option Sent). CompletesAlike s (is_saved x buffer)
      (sending_after x buffer locality random (sent_after x buffer))
      (sending_after y buffer locality random sent))
      (sent_behind_alike x y alike buffer
      (or_left starts (sent_reads s x locality random (sent_after x buffer)) free))
      (sending_alike x y alike buffer locality random (sent_after x buffer)
      (or_right starts (sent_reads s x locality random (sent_after x buffer)) free))

  after_alike : (x y : Seen) → CompletesAlike s false x y
      → (buffer : List ℕ) (locality : ℕ) (random : List ℕ)
      → reads_after s x buffer locality random ≡ false
      → CompletesAlike s (is_saved x buffer) (completed_after x buffer locality random)
      (completed_after y buffer locality random)
  after_alike x y alike buffer locality random free =
      subst (λ (asked : Option (List ℕ)). CompletesAlike s (is_saved x buffer)
      (done_after x buffer locality random (asked_after x buffer))
      (done_after y buffer locality random asked)) (asked_alike x y alike buffer)
      (done_alike x y alike buffer locality random (asked_after x buffer) free)

  -- ---- an event

  -- an event that differs from a command only in secrets is the same command
  same_command : (buffer : List ℕ) (locality elapsed : ℕ) (random : List ℕ) (also : PlainEvent)
      → EventsAlike s (Given buffer locality elapsed random) also
      → Given buffer locality elapsed random ≡ also
  same_command buffer locality elapsed random (Given others from later bytes) same = same
  same_command buffer locality elapsed random Cycled same = absurd cc
  same_command buffer locality elapsed random (Placed object) same = absurd cc

  with_alike : (c : Completion) (r t : Record) → DifferInSecrets s r t → (event also : PlainEvent)
      → EventsAlike s event also → is_reading s r event ≡ false → layer_reads s c r event ≡ false
      → CompletesAlike s (is_saving s c r event) (completed_with c r event)
      (completed_with c t also)
  with_alike c r t differ (Given buffer locality elapsed random) also same free none =
      subst (λ (e : PlainEvent). CompletesAlike s
      (is_saving s c r (Given buffer locality elapsed random))
      (completed_with c r (Given buffer locality elapsed random)) (completed_with c t e))
      (same_command buffer locality elapsed random also same)
      (after_alike (device_effect c r (Given buffer locality elapsed random))
      (device_effect c t (Given buffer locality elapsed random))
      (passed_alike c r t differ (Given buffer locality elapsed random)
      (Given buffer locality elapsed random) refl free false) buffer locality random none)
  with_alike c r t differ Cycled (Given buffer locality elapsed random) same free none = absurd cc
  with_alike c r t differ Cycled Cycled same free none =
      passed_alike c r t differ Cycled Cycled same free false
  with_alike c r t differ Cycled (Placed object) same free none = absurd cc
  with_alike c r t differ (Placed object) (Given buffer locality elapsed random) same free none =
      absurd cc
  with_alike c r t differ (Placed object) Cycled same free none = absurd cc
  with_alike c r t differ (Placed object) (Placed also) same free none =
      passed_alike c r t differ (Placed object) (Placed also) same free false

  -- two events that differ only in secrets still do so after saved sessions are hidden
  heard_alike : (c : Completion) (event also : PlainEvent) → EventsAlike s event also
      → EventsAlike s (heard c event) (heard c also)
  heard_alike c (Given buffer locality elapsed random) (Given others from later bytes) same =
      ap (heard c) same
  heard_alike c (Given buffer locality elapsed random) Cycled same = absurd cc
  heard_alike c (Given buffer locality elapsed random) (Placed object) same = absurd cc
  heard_alike c Cycled (Given buffer locality elapsed random) same = absurd cc
  heard_alike c Cycled Cycled same = same
  heard_alike c Cycled (Placed object) same = absurd cc
  heard_alike c (Placed object) (Given buffer locality elapsed random) same = absurd cc
  heard_alike c (Placed object) Cycled same = absurd cc
  heard_alike c (Placed object) (Placed also) same = same

  pub completed_alike : (completes : Bool) (c : Completion) (r t : Record) → DifferInSecrets s r t
      → (event also : PlainEvent) → EventsAlike s event also
      → is_reading_with s completes c r event ≡ false
      → CompletesAlike s (is_saving_with s completes c r event)
      (completed_effect completes c r event) (completed_effect completes c t also)
  completed_alike false c r t differ event also same free =
      passed_alike c r t differ event also same free false
  completed_alike true c r t differ event also same free =
      with_alike c r t differ (heard c event) (heard c also) (heard_alike c event also same)
      (or_left (is_reading s r (heard c event)) (layer_reads s c r (heard c event)) free)
      (or_right (is_reading s r (heard c event)) (layer_reads s c r (heard c event)) free)

  saving_both : (c : Completion) (r t : Record) → DifferInSecrets s r t → (event also : PlainEvent)
      → EventsAlike s event also → is_reading s r event ≡ false
      → is_saving s c r event ≡ is_saving s c t also
  saving_both c r t differ (Given buffer locality elapsed random) also same free =
      saved_both (device_effect c r (Given buffer locality elapsed random))
      (device_effect c t (Given buffer locality elapsed random))
      (passed_alike c r t differ (Given buffer locality elapsed random)
      (Given buffer locality elapsed random) refl free false) buffer
      ∙ ap (is_saving s c t) (same_command buffer locality elapsed random also same)
  saving_both c r t differ Cycled (Given buffer locality elapsed random) same free = absurd cc
  saving_both c r t differ Cycled Cycled same free = refl
  saving_both c r t differ Cycled (Placed object) same free = refl
  saving_both c r t differ (Placed object) (Given buffer locality elapsed random) same free =
      absurd cc
  saving_both c r t differ (Placed object) Cycled same free = refl
  saving_both c r t differ (Placed object) (Placed also) same free = refl

  -- ---- events

  shown_alike : (completes : Bool) (c : Completion) (one other : Record)
      → DifferInSecrets s one other → (event also : PlainEvent) → EventsAlike s event also
      → is_reading_with s completes c one event ≡ false
      → unless (is_saving_with s completes c one event)
      (completed_effect completes c one event).step.response
      ≡ unless (is_saving_with s completes c other also)
      (completed_effect completes c other also).step.response
  shown_alike false c one other differ event also same free =
      unless_same false
      (completed_effect false c one event).step.response
      (completed_effect false c other also).step.response
      (completed_alike false c one other differ event also same free).response
  shown_alike true c one other differ event also same free =
      unless_same (is_saving s c one (heard c event))
      (completed_effect true c one event).step.response
      (completed_effect true c other also).step.response
      (completed_alike true c one other differ event also same free).response
      ∙ ap (λ (saved : Bool). unless saved
      (completed_effect true c other also).step.response)
      (saving_both c one other differ (heard c event) (heard c also)
      (heard_alike c event also same)
      (or_left (is_reading s one (heard c event)) (layer_reads s c one (heard c event)) free))

  run_alike : (one other : Record) (c d : Completion) → c ≡ d → (events others : Completions)
      → DifferInSecrets s one other → CompletionsAlike s events others
      → NoneReadsWith s c one events → answers_with s c one events ≡ answers_with s d other others
  run_alike one other c d same [] [] differ alike none = refl
  run_alike one other c d same [] (f ∷ fs) differ alike none = absurd alike
  run_alike one other c d same (e ∷ es) [] differ alike none = absurd alike
  run_alike one other c d same (e ∷ es) (f ∷ fs) differ (flag, events, rest) none =
      let x : Seen = completed_effect e.0 c one e.1 in
      let y : Seen = completed_effect e.0 c other f.1 in
      let alike : CompletesAlike s (is_saving_with s e.0 c one e.1) x y =
      completed_alike e.0 c one other differ e.1 f.1 events none.0 in
      let shown : List ℕ = unless (is_saving_with s e.0 c other f.1) y.step.response in
      ap (λ (response : List ℕ). let z : List (List ℕ × Row) =
      (response, x.step.row) ∷ answers_with s x.layer x.step.after es in z)
      (shown_alike e.0 c one other differ e.1 f.1 events none.0)
      ∙ ap (λ (row : Row). let z : List (List ℕ × Row) =
      (shown, row) ∷ answers_with s x.layer x.step.after es in z) alike.row
      ∙ ap (λ (others : List (List ℕ × Row)). let z : List (List ℕ × Row) =
      (shown, y.step.row) ∷ others in z)
      (run_alike x.step.after y.step.after x.layer y.layer alike.layer es fs alike.after rest
      none.1)
      ∙ ap (λ (completes : Bool). answers_with s c other ((completes, f.1) ∷ fs)) flag
      ∙ ap (λ (b : Completion). answers_with s b other (f ∷ fs)) same

pub completed_tells_nothing : CompletedTellsNothing
completed_tells_nothing indices objects one other completes c event also differ same free =
    completed_alike indices objects completes c one other differ event also same free

pub completed_run_tells_nothing : CompletedRunTellsNothing
completed_run_tells_nothing indices objects one other c events others differ alike none =
    run_alike indices objects one other c c refl events others differ alike none
