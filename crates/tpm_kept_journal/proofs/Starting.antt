-- Opening a journal creates the device that `opened_text` defines.
use Rattle.std.proofs.Common.{◌≡◌, ◌<◌, ◌+◌, ◌==◌, ◌^◌, ℕ, Bool, true, false, cond, List, [], ◌∷◌, length, drop, Option, Some, None, Result, Ok, Err, refl, subst, sym, ap, ◌∙◌, arith, drop_at, eqb-true}
use Rattle.std.specs.Prelude.{IfSome}
use Rattle.tpm_bytes.specs.Reading.{AreBytes}
use Rattle.tpm_bytes.proofs.Fields.{ok_is}
use Rattle.tpm_image_text.specs.Image.{image_of}
use Rattle.tpm_image_text.specs.NonVolatile.{IsNonVolatile, NonVolatile, powered_on}
use Rattle.tpm_image_text.specs.declared.fault.ImageFault.{ImageFault}
use Rattle.tpm_image_text.proofs.ImageLaws.{image_taken}
use Rattle.tpm_completion.specs.declared.completion.Completion.{Completion}
use Rattle.tpm_journal.specs.Opening.{OpensJournal, Reads}
use Rattle.tpm_journal.specs.Starting.{BeginsWith, HoldsFault, Start, start_by, start_by_image, start_by_state}
use Rattle.tpm_journal.specs.State.{layer_in}
use Rattle.tpm_journal.specs.declared.following.FollowFault.{FollowFault}
use Rattle.tpm_journal.specs.declared.following.Followed.{Followed}
use Rattle.tpm_journal.specs.declared.journal.Journal.{Journal}
use Rattle.tpm_journal.specs.declared.opening.OpenFault.{OpenFault}
use Rattle.tpm_journal.specs.declared.opening.OpenFault.TheVariants as fault
use Rattle.tpm_journal.specs.declared.opening.Opened.{Opened}
use Rattle.tpm_journal_text.specs.Head.{head_mark, head_sum, head_text}
use Rattle.tpm_journal_text.specs.Sum.{offset_basis}
use Rattle.tpm_journal_text.specs.declared.head.HeadKind.{HeadKind}
use Rattle.tpm_journal_text.specs.declared.head.HeadKind.TheVariants.{Image, State, Versioned}
use Rattle.tpm_keeping.specs.Journal.{Spot}
use Rattle.tpm_record.specs.IsRecord.{IsRecord}
use Rattle.tpm_record.specs.Record.{Record}
use Rattle.tpm_state_text.specs.Body.{IsWholeState, WholeState}
use Rattle.tpm_state_text.specs.Layer.{IsLayer}
use Rattle.tpm_state_text.specs.State.{state_of_text}
use Rattle.tpm_state_text.specs.declared.fault.StateFault.{StateFault}
use Rattle.tpm_state_text.specs.declared.layer.Layer.{Layer}
use Rattle.tpm_state_text.proofs.StateLaws.{text_found}
use Rattle.tpm_step.proofs.step.PowerCycles.{none_taken, starting_banks}
use Rattle.tpm_types_common.specs.Limits.{object_limit, session_limit}
use Rattle.tpm_kept_journal.specs.Opening.{walked_after, opened_text, spot_by, started_at, started_by, started_no_head, spot_after_walk}
use Rattle.tpm_kept_journal.specs.State.{IsDeviceState, spot_of, state_in}
use Rattle.tpm_kept_journal.specs.texts.HeadAt.{PlainHead, head_at}
use Rattle.tpm_kept_journal.proofs.Entries.{sum_small}
use Rattle.tpm_kept_journal.proofs.Following.{Tells, followed_so}
use Rattle.tpm_kept_journal.proofs.Heads.{head_starts}
use Rattle.tpm_kept_journal.proofs.Fine.{IsFine, new_fine}
use Rattle.tpm_kept_journal.proofs.texts.HeadAt.{no_head}

-- ---- a journal starts in a state that a device can have

pub powered_record : (kept : NonVolatile) → IsNonVolatile kept → IsRecord (powered_on kept)
powered_record kept is = record {
  saved = is.state.saved;
  hierarchies = is.state.hierarchies;
  lockout = is.state.lockout;
  banks = starting_banks;
  sessions = refl;
  each_session = none_taken _ session_limit;
  objects = refl;
  each_object = none_taken _ object_limit;
  persistent = is.persistent;
  nv = is.nv;
  time = omega arith;
  clock = is.state.clock;
  reset_count = is.state.reset_count;
  restart_count = is.state.restart_count;
}

-- A time of 64 bits, a valid layer and a valid record form a valid state.
pub device_is : (time : ℕ) (layer : Completion) (device : Record) → time < 2 ^ 64 → IsFine layer
    → IsRecord device
    → IsDeviceState (record { time = time; layer = layer; device = device })
device_is time layer device small fine is = record {
  time = small;
  whole = record { device = is; layer = fine };
}

pub layer_in_fine : (sum : ℕ) (state : WholeState) → sum < 2 ^ 64 → IsWholeState state
    → IsFine (layer_in sum state.layer)
layer_in_fine sum state small is = by state.layer is.layer
  where
    by : (layer : Option Layer) → IfSome layer IsLayer → IsFine (layer_in sum layer)
    by (Some layer) is = is
    by None is = new_fine sum small

module _ (clock : ℕ) (content : List ℕ) (small : clock < 2 ^ 64) (are : AreBytes content)
    (start : Start) where
  sum_is : head_sum clock content < 2 ^ 64
  sum_is = sum_small offset_basis (head_mark clock content) (omega arith)

  by_image : (read : Result NonVolatile ImageFault) → image_of content ≡ read
      → start_by_image clock content read ≡ Ok start
      → IsDeviceState (state_in start.journal start.device)
  by_image (Ok kept) e is =
      subst (λ (s : Start). IsDeviceState (state_in s.journal s.device))
      (ok_is {E = OpenFault} _ start is)
      (device_is clock _ (powered_on kept) small (new_fine (head_sum clock content) sum_is)
      (powered_record kept (image_taken content kept are e).1))
  by_image (Err why) e is = absurd cc

  by_state : (read : Result WholeState StateFault) → state_of_text content ≡ read
      → start_by_state clock content read ≡ Ok start
      → IsDeviceState (state_in start.journal start.device)
  by_state (Ok whole) e is =
      let found = (text_found content whole are e).0 in
      subst (λ (s : Start). IsDeviceState (state_in s.journal s.device))
      (ok_is {E = OpenFault} _ start is)
      (device_is clock _ whole.device small
      (layer_in_fine (head_sum clock content) whole sum_is found) found.device)
  by_state (Err why) e is = absurd cc

  starts_whole : (kind : HeadKind) → start_by kind clock content ≡ Ok start
      → IsDeviceState (state_in start.journal start.device)
  starts_whole Image is = by_image (image_of content) refl is
  starts_whole State is = by_state (state_of_text content) refl is
  starts_whole (Versioned version) is = by_state (state_of_text content) refl is

-- ---- bytes that begin with a head

module _ (text : List ℕ) (kind : HeadKind) (clock : ℕ) (content rest : List ℕ)
    (begins : BeginsWith text kind clock content rest) where
  abbrev head : List ℕ
  head = head_text kind clock content

  abbrev head_of_text : PlainHead
  head_of_text = record { kind = kind; clock = clock; content = content }

  behind : (found : Option (Spot × ℕ)) → spot_by (length head) (start_by kind clock content) ≡ found
      → opened_text text ≡ walked_after text found
  unfolding opened_text
  behind found is =
      ap (walked_after text) (ap started_at begins.is ∙ head_starts head_of_text rest begins.has
      ∙ is)

  -- If the head starts a device, opening the journal makes this device execute the bytes after the
  -- head.
  pub opens_by : (start : Start) → start_by kind clock content ≡ Ok start
      → opened_text text ≡ spot_after_walk (spot_of start.journal start.device) (length head) rest
  opens_by start is =
      behind (Some (spot_of start.journal start.device, length head))
      (ap (spot_by (length head)) is)
      ∙ ap (λ (l : List ℕ). spot_after_walk (spot_of start.journal start.device) (length head)
      (drop (length head) l)) begins.is
      ∙ ap (spot_after_walk (spot_of start.journal start.device) (length head))
      (drop_at head rest (length head) refl)

  pub opens_not : (why : OpenFault) → start_by kind clock content ≡ Err why
      → opened_text text ≡ None
  opens_not why is = behind None (ap (spot_by (length head)) is)

-- ---- bytes that do not begin with a head

started_none : (text : List ℕ) → AreBytes text → head_at text ≡ None → started_at text ≡ None
started_none [] are none = refl
started_none (first ∷ []) are none = refl
started_none (first ∷ second ∷ text) are none =
    by (first == 256) refl
  where
    by : (same : Bool) → (first == 256) ≡ same
        → cond same (started_no_head second text) (started_by (head_at (first ∷ second ∷ text)))
        ≡ None
    by true same = absurd (omega (arith, are 0, eqb-true first 256 same))
    by false same = ap started_by none

pub opens_none : (text : List ℕ) → AreBytes text → head_at text ≡ None → opened_text text ≡ None
unfolding opened_text
opens_none text are none = ap (walked_after text) (started_none text are none)

-- ---- the result of opening a journal

-- `opened_text` agrees with the result of executing the journal's entries.
read_so : (text : List ℕ) (followed : Followed) (journal : Journal) (new : Record)
    (reads : Reads text followed journal new)
    → Tells followed.fault (opened_text text) (spot_of journal new)
    (length (head_text reads.starts.kind reads.starts.clock reads.starts.content)
    + followed.taken)
read_so text followed journal new reads =
    let s = reads.starts in
    let start = reads.start in
    let size : ℕ = length (head_text s.kind s.clock s.content) in
    let is : IsDeviceState (state_in start.journal start.device) =
    starts_whole s.clock s.content s.begins.has.in_time s.begins.has.are_bytes start s.kind s.is in
    subst (λ (o : Option (Spot × ℕ)). Tells followed.fault o (spot_of journal new)
    (size + followed.taken))
    (sym (opens_by text s.kind s.clock s.content reads.rest s.begins start s.is))
    (followed_so start.journal start.device reads.rest size followed journal new is reads.replays)

pub opened_so : (text : List ℕ) (opened : Opened) (new : Record) → OpensJournal text (Ok opened) new
    → opened_text text ≡ Some (spot_of opened.journal new, opened.taken)
opened_so text opened new is =
    let found = read_so text is.followed opened.journal new is.reads in
    let size : ℕ =
    length (head_text is.reads.starts.kind is.reads.starts.clock is.reads.starts.content) in
    subst (λ (f : Option FollowFault). Tells f (opened_text text) (spot_of opened.journal new)
    (size + is.followed.taken)) is.whole found
    ∙ ap (λ (n : ℕ). Some (spot_of opened.journal new, n)) (sym is.size)

holds_fault : (text : List ℕ) (why : OpenFault) → HoldsFault text why → opened_text text ≡ None
holds_fault text why holds = opens_not text holds.0 holds.1 holds.2 holds.3 holds.4 why holds.5

pub opened_not : (text : List ℕ) (why : OpenFault) (new : Record) → AreBytes text
    → OpensJournal text (Err why) new → opened_text text ≡ None
opened_not text fault.NoJournal new are none =
    opens_none text are
    (no_head text
    (λ h rest has is. none h.kind h.clock h.content rest (record { has = has; is = is })))
opened_not text (fault.Image why) new are holds = holds_fault text (fault.Image why) holds
opened_not text (fault.State why) new are holds = holds_fault text (fault.State why) holds
opened_not text (fault.Follow why) new are follow =
    subst (λ (f : Option FollowFault). Tells f (opened_text text) (spot_of follow.1 new)
    (length (head_text follow.2.starts.kind follow.2.starts.clock follow.2.starts.content)
    + follow.0.taken)) follow.3
    (read_so text follow.0 follow.1 new follow.2)
