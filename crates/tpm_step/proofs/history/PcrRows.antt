-- Each row has the same effect on the PCRs of a device as on those of the history.
use Rattle.std.proofs.Common.{arith, ◌≡◌, ℕ, ◌+◌, ◌-◌, ◌<◌, ◌≤◌, ◌++◌, Bool, true, false, cond, List, [], ◌∷◌, length, drop, get_or, fold, Some, None, Result, Ok, Err, IfOk, refl, ap, sym, ◌∙◌, inl, inr, ◌⊎◌}
use Rattle.std.specs.Prelude.{◌==◌, nat_lt, replicate, slice_index_or}
use Rattle.std.proofs.lemmas.Bool.{cases_lt, le-ltb, lt-ltb}
use Rattle.std.proofs.lemmas.Bool.Decides.{nat_tests}
use Rattle.std.proofs.lemmas.List.{get_or_append_left, get_or-append_right, get_or-drop}
use Rattle.tpm_bytes.proofs.Fields.{ok_is}
use Rattle.tpm_mac.specs.Digest.{digest_size}
use Rattle.tpm_mac.specs.declared.algorithm.HashAlg.{HashAlg}
use Rattle.tpm_mac.specs.declared.algorithm.HashAlg.TheVariants as alg
use Rattle.tpm_pcr.specs.Banks.{HaveAll, PcrValues, pcr_value}
use Rattle.tpm_pcr.specs.Changes.{change_check, event_digests, extend_of, may_extend, may_reset, reset_of, use_of, value_extended}
use Rattle.tpm_pcr.specs.Saved.{SavedValues, restored_in}
use Rattle.tpm_pcr.specs.Values.{BankValues}
use Rattle.tpm_pcr.specs.declared.changes.ChangeFault.{ChangeFault}
use Rattle.tpm_types_common.specs.Buffer.{buffer_at}
use Rattle.tpm_types_common.specs.DigestValues.{digest_values_at}
use Rattle.tpm_types_common.specs.Handle.{pcr_of as pcr_named}
use Rattle.tpm_types_common.specs.Limits.{data_limit}
use Rattle.tpm_types_common.specs.StartupType.{startup_type_at}
use Rattle.tpm_types_common.specs.declared.digest_values.DigestValue.{DigestValue}
use Rattle.tpm_types_common.specs.declared.handle.Handle.{Handle}
use Rattle.tpm_types_common.specs.declared.refused.Refused.{Refused}
use Rattle.tpm_types_common.specs.declared.startup_type.StartupType.{StartupType}
use Rattle.tpm_types_common.specs.declared.startup_type.StartupType.TheVariants as type
use Rattle.tpm_commands.specs.declared.command_code.CommandCode.{CommandCode}
use Rattle.tpm_commands.specs.declared.command_code.CommandCode.TheVariants as command
use Rattle.tpm_record.specs.Record.{Record}
use Rattle.tpm_record.specs.Saved.{Clear, Nothing, SavedState, State, kind_of, restored_from}
use Rattle.tpm_record.specs.rows.Request.{Request, first_handle}
use Rattle.tpm_record.specs.rows.Rows.{Success, all_read, only}
use Rattle.tpm_actions_device.specs.PcrChange.{change_row, on_pcr}
use Rattle.tpm_actions_device.specs.PcrEvent.{pcr_event_row}
use Rattle.tpm_actions_device.specs.PcrExtend.{pcr_extend_row}
use Rattle.tpm_actions_device.specs.PcrReset.{pcr_reset_row}
use Rattle.tpm_actions_device.specs.Startup.{start_of, started_record, startup_row}
use Rattle.tpm_actions_device.specs.declared.startup.Start.{Start}
use Rattle.tpm_actions_device.specs.declared.startup.Start.TheVariants.{Reset, Restart, Resume}
use Rattle.tpm_step.specs.step.Table.{row_of}
use Rattle.tpm_step.specs.rows.Footprint.{Touches}
use Rattle.tpm_commands.specs.Part.{Part, AuthValues, Banks, Beginning, Cleared}
use Rattle.tpm_commands.specs.CommandCode.{part_of}
use Rattle.tpm_step.proofs.rows.Binding.{ok_bind, ok_bind_is, ok_then, ok_weaker}
use Rattle.tpm_step.proofs.rows.Table.{row_touches}
use Rattle.tpm_step.specs.history.DevicePcrs.{AreSaved, IsSavedAs}
use Rattle.tpm_step.specs.history.Pcrs.{count_in, extended_by_all, if_pcr, measured_by, names_pcr, pcr_by, resumed_value, updates_by}
use Rattle.tpm_pcr.proofs.OneValue.{event_digest, extensions_at, extensions_count, zeros_at}

-- A success has the same effect on the PCR values and the update counter of a device as on those of
-- the history. `saved` contains the values that the last shutdown saved.
pub record Measures (code : CommandCode) (q : Request) (saved : PcrValues)
    (old new : BankValues) : Type 0 where
  pub values : (bank : HashAlg) (n : ℕ) → n < 24
      → pcr_value new bank n ≡ pcr_by code q bank n (saved bank n) (pcr_value old bank n)
  pub updates : new.update_count ≡ updates_by code q old.update_count

abbrev pub SoMeasures : CommandCode → Request → PcrValues → Record → Success → Type 0
SoMeasures code q saved r s = Measures code q saved r.fixed.banks s.after.fixed.banks

-- ---- the PCR that a handle names

-- If the handle names a PCR, this PCR has the values `new`, and the update counter increased by
-- `count`. All other PCRs have their old values.
record IsChanged (handle : Handle) (new : HashAlg → ℕ → List ℕ) (count : ℕ)
    (old banks : BankValues) : Type 0 where
  values : (bank : HashAlg) (n : ℕ) → n < 24
      → pcr_value banks bank n ≡ cond (handle.number == n) (new bank n) (pcr_value old bank n)
  updates : banks.update_count ≡ old.update_count + cond (nat_lt handle.number 24) count 0

-- The PCR with this number has the values `new`, and the update counter increased by `count`. All
-- other PCRs have their old values.
record IsMade (pcr : ℕ) (new : HashAlg → ℕ → List ℕ) (count : ℕ) (old banks : BankValues) : Type
    0 where
  values : (bank : HashAlg) (n : ℕ) → n < 24
      → pcr_value banks bank n ≡ cond (pcr == n) (new bank n) (pcr_value old bank n)
  updates : banks.update_count ≡ old.update_count + count

plus_none : (n : ℕ) → n ≡ n + 0
plus_none n = omega arith

other_pcr : (number n : ℕ) (x old : List ℕ) → n < 24 → nat_lt number 24 ≡ false
    → old ≡ cond (number == n) x old
other_pcr number n x old below e = grind (arith, nat_tests)

changed_pcr : (handle : Handle) (old : BankValues)
    (change : ℕ → BankValues → Result BankValues ChangeFault) (new : HashAlg → ℕ → List ℕ)
    (count : ℕ) → IfOk (change handle.number old) (IsMade handle.number new count old)
    → IfOk (on_pcr (pcr_named handle) change old) (IsChanged handle new count old)
changed_pcr handle old change new count made = by (nat_lt handle.number 24) refl
  where
    counted : ℕ → Bool → ℕ
    counted n b = n + cond b count 0

    of_row : (x : Result BankValues ChangeFault) → nat_lt handle.number 24 ≡ true
        → IfOk x (IsMade handle.number new count old)
        → IfOk (change_row x) (IsChanged handle new count old)
    of_row (Ok banks) is h =
        record { values = h.values; updates = h.updates ∙ sym (ap (counted old.update_count) is) }
    of_row (Err e) is h = tt

    by : (b : Bool) → nat_lt handle.number 24 ≡ b
        → IfOk (on_pcr (cond b (Some handle.number) None) change old)
        (IsChanged handle new count old)
    by true is = of_row (change handle.number old) is made
    by false is = record {
      values = λ bank n below. other_pcr handle.number n (new bank n) (pcr_value old bank n) below
          is;
      updates = plus_none old.update_count ∙ sym (ap (counted old.update_count) is);
    }

extend_makes : (pcr locality : ℕ) (ds : List DigestValue) (banks : BankValues) → HaveAll banks
    → IfOk (extend_of pcr locality ds banks)
    (IsMade pcr (λ bank n. fold (value_extended bank) (pcr_value banks bank n) ds) (length ds)
    banks)
unfolding extend_of
extend_makes pcr locality ds banks all =
    ok_bind _ (change_check (may_extend (use_of pcr) locality) (length ds) banks) _ (λ passed.
    record {
      values = λ bank n below. extensions_at pcr ds banks bank n all below;
      updates =
          extensions_count pcr ds banks;
    })

reset_makes : (pcr locality : ℕ) (banks : BankValues) → HaveAll banks
    → IfOk (reset_of pcr locality banks)
    (IsMade pcr (λ bank n. replicate (digest_size bank) 0) 2 banks)
unfolding reset_of
reset_makes pcr locality banks all =
    ok_bind _ (change_check (may_reset (use_of pcr) locality) 2 banks) _ (λ passed.
    record { values = λ bank n below. zeros_at pcr banks bank n all below; updates = omega arith })

-- ---- the handle of a request

names_first : (handles : List Handle) (handle : Handle) (n : ℕ) → first_handle handles ≡ Ok handle
    → (handle.number == n) ≡ names_pcr handles n
names_first [] handle n e = absurd cc
names_first (h ∷ handles) handle n e =
    sym (ap (λ (x : Handle). x.number == n) (ok_is {E = Refused} h handle e))

counts_first : (handles : List Handle) (handle : Handle) (count : ℕ)
    → first_handle handles ≡ Ok handle → cond (nat_lt handle.number 24) count 0
    ≡ if_pcr handles count
counts_first [] handle count e = absurd cc
counts_first (h ∷ handles) handle count e =
    sym (ap (λ (x : Handle). cond (nat_lt x.number 24) count 0) (ok_is {E = Refused} h handle e))

-- ---- rows that change a PCR

-- For this command, the history sets the PCR that the request names to the values `new`, and adds
-- `count` to the number of updates.
abbrev Tells : CommandCode → Request → PcrValues → BankValues → (HashAlg → ℕ → List ℕ) → ℕ → Type 0
Tells code q saved old new count =
    ((bank : HashAlg) (n : ℕ) → cond (names_pcr q.handles n) (new bank n) (pcr_value old bank n)
    ≡ pcr_by code q bank n (saved bank n) (pcr_value old bank n))
    × (old.update_count + if_pcr q.handles count ≡ updates_by code q old.update_count)

changed_measures : (code : CommandCode) (q : Request) (saved : PcrValues) (handle : Handle)
    (new : HashAlg → ℕ → List ℕ) (count : ℕ) (old banks : BankValues)
    → first_handle q.handles ≡ Ok handle → Tells code q saved old new count
    → IsChanged handle new count old banks → Measures code q saved old banks
changed_measures code q saved handle new count old banks is tells changed = record {
  values = λ bank n below. changed.values bank n below
      ∙ ap (λ (b : Bool). cond b (new bank n) (pcr_value old bank n))
      (names_first q.handles handle n is) ∙ tells.0 bank n;
  updates = changed.updates ∙ ap (λ (n : ℕ). old.update_count + n)
      (counts_first q.handles handle count is) ∙ tells.1;
}

extend_tells : (q : Request) (saved : PcrValues) (old : BankValues) (ds : List DigestValue)
    → only (digest_values_at q.parameters) ≡ Ok ds
    → Tells command.PcrExtend q saved old
    (λ bank n. fold (value_extended bank) (pcr_value old bank n) ds) (length ds)
extend_tells q saved old ds is = (
  λ bank n. ap (λ (x : Result (List DigestValue) Refused). cond (names_pcr q.handles n)
      (extended_by_all bank x (pcr_value old bank n)) (pcr_value old bank n)) (sym is),
  ap (λ (x : Result (List DigestValue) Refused). old.update_count + if_pcr q.handles (count_in x))
      (sym is),
)

extend_measures : (r : Record) (q : Request) (saved : PcrValues) → HaveAll r.fixed.banks
    → IfOk (row_of r command.PcrExtend q) (SoMeasures command.PcrExtend q saved r)
unfolding row_of pcr_extend_row
extend_measures r q saved all =
    let old = r.fixed.banks in
    ok_bind_is _ (first_handle q.handles) _ (λ handle handle_is.
    ok_bind_is _ (only (digest_values_at q.parameters)) _ (λ ds read.
    let new : HashAlg → ℕ → List ℕ =
    λ bank n. fold (value_extended bank) (pcr_value old bank n) ds in
    ok_then (IsChanged handle new (length ds) old) _
    (on_pcr (pcr_named handle) (λ pcr. extend_of pcr q.locality ds) old) _
    (changed_pcr handle old (λ pcr. extend_of pcr q.locality ds) new (length ds)
    (extend_makes handle.number q.locality ds old all))
    (λ banks changed. changed_measures command.PcrExtend q saved handle new (length ds) old banks
    handle_is (extend_tells q saved old ds read) changed)))

event_tells : (q : Request) (saved : PcrValues) (old : BankValues) (event : List ℕ)
    → only (buffer_at data_limit q.parameters) ≡ Ok event
    → Tells command.PcrEvent q saved old
    (λ bank n. fold (value_extended bank) (pcr_value old bank n) (event_digests event)) 2
event_tells q saved old event is = (
  λ bank n. ap (λ (x : List ℕ). cond (names_pcr q.handles n) x (pcr_value old bank n))
      (event_digest bank (pcr_value old bank n) event)
      ∙ ap (λ (x : Result (List ℕ) Refused). cond (names_pcr q.handles n)
      (measured_by bank x (pcr_value old bank n)) (pcr_value old bank n)) (sym is),
  refl,
)

event_measures : (r : Record) (q : Request) (saved : PcrValues) → HaveAll r.fixed.banks
    → IfOk (row_of r command.PcrEvent q) (SoMeasures command.PcrEvent q saved r)
unfolding row_of pcr_event_row
event_measures r q saved all =
    let old = r.fixed.banks in
    ok_bind_is _ (first_handle q.handles) _ (λ handle handle_is.
    ok_bind_is _ (only (buffer_at data_limit q.parameters)) _ (λ event read.
    let ds = event_digests event in
    let new : HashAlg → ℕ → List ℕ =
    λ bank n. fold (value_extended bank) (pcr_value old bank n) ds in
    ok_then (IsChanged handle new 2 old) _
    (on_pcr (pcr_named handle) (λ pcr. extend_of pcr q.locality ds) old) _
    (changed_pcr handle old (λ pcr. extend_of pcr q.locality ds) new 2
    (extend_makes handle.number q.locality ds old all))
    (λ banks changed. changed_measures command.PcrEvent q saved handle new 2 old banks handle_is
    (event_tells q saved old event read) changed)))

reset_measures : (r : Record) (q : Request) (saved : PcrValues) → HaveAll r.fixed.banks
    → IfOk (row_of r command.PcrReset q) (SoMeasures command.PcrReset q saved r)
unfolding row_of pcr_reset_row
reset_measures r q saved all =
    let old = r.fixed.banks in
    let zeros : HashAlg → ℕ → List ℕ = λ bank n. replicate (digest_size bank) 0 in
    ok_bind_is _ (first_handle q.handles) _ (λ handle handle_is.
    ok_bind _ (all_read q.parameters) _ (λ ended.
    ok_then (IsChanged handle zeros 2 old) _
    (on_pcr (pcr_named handle) (λ pcr. reset_of pcr q.locality) old) _
    (changed_pcr handle old (λ pcr. reset_of pcr q.locality) zeros 2
    (reset_makes handle.number q.locality old all))
    (λ banks changed. changed_measures command.PcrReset q saved handle zeros 2 old banks handle_is
    (λ bank n. refl, refl) changed)))

-- ---- TPM2_Startup

same_values : (old new : BankValues) → new.sha1 ≡ old.sha1 → new.sha256 ≡ old.sha256
    → (bank : HashAlg) (n : ℕ) → pcr_value new bank n ≡ pcr_value old bank n
same_values old new e f alg.Sha1 n = ap (λ (l : List (List ℕ)). slice_index_or l n []) e
same_values old new e f alg.Sha256 n = ap (λ (l : List (List ℕ)). slice_index_or l n []) f

front_or : (saved bank : List (List ℕ)) (n : ℕ) (value : List ℕ) → length saved ≡ 16
    → (n < 16 → get_or saved n [] ≡ value) → get_or (saved ++ drop 16 bank) n []
    ≡ cond (nat_lt n 16) value (get_or bank n [])
front_or saved bank n value sixteen is = by (cases_lt n 16)
  where
    by : (n < 16) ⊎ (16 ≤ n) → get_or (saved ++ drop 16 bank) n []
        ≡ cond (nat_lt n 16) value (get_or bank n [])
    by (inl below) =
        get_or_append_left saved (drop 16 bank) [] n (omega (arith, sixteen, below)) ∙ is below
        ∙ sym (ap (λ (b : Bool). cond b value (get_or bank n [])) (lt-ltb n 16 below))
    by (inr above) =
        get_or-append_right saved (drop 16 bank) 16 n [] sixteen above
        ∙ get_or-drop 16 bank (n - 16) []
        ∙ ap (λ (i : ℕ). get_or bank i []) (omega (arith, above))
        ∙ sym (ap (λ (b : Bool). cond b value (get_or bank n [])) (le-ltb n 16 above))

restored_at : (s : SavedValues) (values : PcrValues) (banks : BankValues) → AreSaved s values
    → (bank : HashAlg) (n : ℕ) → pcr_value (restored_in s banks) bank n
    ≡ cond (nat_lt n 16) (values bank n) (pcr_value banks bank n)
restored_at s values banks is alg.Sha1 n =
    front_or s.sha1 banks.sha1 n (values alg.Sha1 n) (is.sixteen alg.Sha1) (is.each alg.Sha1 n)
restored_at s values banks is alg.Sha256 n =
    front_or s.sha256 banks.sha256 n (values alg.Sha256 n) (is.sixteen alg.Sha256)
    (is.each alg.Sha256 n)

-- After a startup of this type, the PCRs have the values that the history determines, and the
-- update counter is 0.
abbrev Begins : StartupType → PcrValues → BankValues → BankValues → Type 0
Begins t saved old new =
    ((bank : HashAlg) (n : ℕ) → pcr_value new bank n
    ≡ resumed_value (Ok t) n (saved bank n) (pcr_value old bank n))
    × (new.update_count ≡ 0)

uncounted_begins : (t : StartupType) (saved : PcrValues) (old new : BankValues) → t ≡ type.Clear
    → new ≡ record old { update_count = 0 } → Begins t saved old new
uncounted_begins type.Clear saved old new is same = (
  same_values old new (ap (λ (b : BankValues). b.sha1) same)
      (ap (λ (b : BankValues). b.sha256) same),
  ap (λ (b : BankValues). b.update_count) same,
)
uncounted_begins type.State saved old new is same = absurd cc

start_begins : (r : Record) (t : StartupType) (state : SavedState) (start : Start) (random : List ℕ)
    (saved : PcrValues) → r.fixed.saved ≡ state → IsSavedAs state saved
    → start_of t (kind_of state) ≡ Ok start
    → Begins t saved r.fixed.banks (started_record start r random).fixed.banks
start_begins r type.Clear state Reset random saved is has starts =
    uncounted_begins type.Clear saved r.fixed.banks _ refl refl
start_begins r type.Clear state Restart random saved is has starts =
    uncounted_begins type.Clear saved r.fixed.banks _ refl refl
start_begins r type.Clear Nothing Resume random saved is has starts = absurd cc
start_begins r type.Clear Clear Resume random saved is has starts = absurd cc
start_begins r type.Clear (State s) Resume random saved is has starts = absurd cc
start_begins r type.State Nothing start random saved is has starts = absurd cc
start_begins r type.State Clear start random saved is has starts = absurd cc
start_begins r type.State (State s) Reset random saved is has starts = absurd cc
start_begins r type.State (State s) Restart random saved is has starts = absurd cc
start_begins r type.State (State s) Resume random saved is has starts =
    let restored : BankValues = restored_in s r.fixed.banks in (
      λ bank n. same_values restored (started_record Resume r random).fixed.banks
          (ap (λ (x : SavedState). (restored_from x r.fixed.banks).sha1) is)
          (ap (λ (x : SavedState). (restored_from x r.fixed.banks).sha256) is) bank n
          ∙ restored_at s saved r.fixed.banks has bank n,
      refl,
    )

startup_measures : (r : Record) (q : Request) (saved : PcrValues) → IsSavedAs r.fixed.saved saved
    → IfOk (row_of r command.Startup q) (SoMeasures command.Startup q saved r)
unfolding row_of startup_row
startup_measures r q saved has =
    ok_bind_is _ (only (startup_type_at q.parameters)) _ (λ t read.
    ok_bind_is _ (start_of t (kind_of r.fixed.saved)) _ (λ start starts.
    let begins = start_begins r t r.fixed.saved start q.random saved refl has starts in
    record {
      values = λ bank n below. begins.0 bank n
          ∙ ap (λ (x : Result StartupType Refused). resumed_value x n (saved bank n)
          (pcr_value r.fixed.banks bank n)) (sym read);
      updates = begins.1;
    }))

-- ---- other rows

abbrev leaves_banks : Part → Bool
leaves_banks Banks = false
leaves_banks Beginning = false
leaves_banks Cleared = false
leaves_banks _ = true

touched_banks : (p : Part) (old new : Record) → leaves_banks p ≡ true → Touches p old new
    → new.fixed.banks ≡ old.fixed.banks
touched_banks Banks old new leaves touches = absurd cc
touched_banks Beginning old new leaves touches = absurd cc
touched_banks Cleared old new leaves touches = absurd cc
touched_banks AuthValues old new leaves touches = ap (λ (r : Record). r.fixed.banks) touches.0
touched_banks _ old new leaves touches = ap (λ (r : Record). r.fixed.banks) touches

-- In a history, this command changes neither a PCR nor the update counter.
abbrev TellsNothing : CommandCode → Request → Type 0
TellsNothing code q =
    ((bank : HashAlg) (n : ℕ) (saved old : List ℕ) → old ≡ pcr_by code q bank n saved old)
    × ((count : ℕ) → count ≡ updates_by code q count)

other_measures : (r : Record) (code : CommandCode) (q : Request) (saved : PcrValues)
    → leaves_banks (part_of code) ≡ true → TellsNothing code q
    → IfOk (row_of r code q) (SoMeasures code q saved r)
other_measures r code q saved leaves tells =
    ok_weaker (λ s. Touches (part_of code) r s.after) (SoMeasures code q saved r) (row_of r code q)
    (row_touches r code q) (λ s touches.
    let same = touched_banks (part_of code) r s.after leaves touches in
    record {
      values = λ bank n below. ap (λ (b : BankValues). pcr_value b bank n) same
          ∙ tells.0 bank n (saved bank n) (pcr_value r.fixed.banks bank n);
      updates = ap (λ (b : BankValues). b.update_count) same ∙ tells.1 r.fixed.banks.update_count;
    })

clear_measures : (r : Record) (q : Request) (saved : PcrValues)
    → IfOk (row_of r command.Clear q) (SoMeasures command.Clear q saved r)
clear_measures r q saved =
    ok_weaker (λ s. Touches Cleared r s.after) (SoMeasures command.Clear q saved r)
    (row_of r command.Clear q) (row_touches r command.Clear q) (λ s touches.
    let counted : BankValues =
    record r.fixed.banks { update_count = r.fixed.banks.update_count + 1 } in
    let same : s.after.fixed.banks ≡ counted = ap (λ (x : Record). x.fixed.banks) touches in
    record {
      values = λ bank n below. ap (λ (b : BankValues). pcr_value b bank n) same
          ∙ same_values r.fixed.banks counted refl refl bank n;
      updates = ap (λ (b : BankValues). b.update_count) same;
    })

pub row_measures : (r : Record) (code : CommandCode) (q : Request) (saved : PcrValues)
    → HaveAll r.fixed.banks → IsSavedAs r.fixed.saved saved
    → IfOk (row_of r code q) (SoMeasures code q saved r)
row_measures r command.PcrExtend q saved all has = extend_measures r q saved all
row_measures r command.PcrEvent q saved all has = event_measures r q saved all
row_measures r command.PcrReset q saved all has = reset_measures r q saved all
row_measures r command.Startup q saved all has = startup_measures r q saved has
row_measures r command.Clear q saved all has = clear_measures r q saved
row_measures r _ q saved all has =
    other_measures r _ q saved refl (λ bank n saved old. refl, plus_none)
