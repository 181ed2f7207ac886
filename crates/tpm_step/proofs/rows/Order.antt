-- Proves, step by step, in which order a row reports refusals (`Orders`), and proves what follows
-- from this order.
use Rattle.std.specs.Option.{option_map_or}
use Rattle.std.specs.Prelude.{◌==◌, ◌||◌, if◌then◌else◌, is_some, not, ok_or}
use Rattle.std.proofs.Common.{◌+◌, ◌∙◌, ◌∷◌, ◌≡◌, ◌⊎◌, Bool, Err, IfErr, List, None, Ok, Option}
use Rattle.std.proofs.Common.{Result, Some, [], false, inl, inr, option_map, refl, rules, subst}
use Rattle.std.proofs.Common.{sym, true, ℕ}
use Rattle.std.proofs.lemmas.Bool.{eqb-true, false≢true}
use Rattle.std.proofs.lemmas.Result.{IfErr-at_err}
use Rattle.tpm_bytes.specs.Reading.{◌>>=◌}
use Rattle.tpm_types_common.specs.Handle.{handle_type}
use Rattle.tpm_types_common.specs.declared.action_fault.ActionFault.{ActionFault}
use Rattle.tpm_types_common.specs.declared.check.Check.TheVariants as check
use Rattle.tpm_types_common.specs.declared.handle.Handle.{Handle}
use Rattle.tpm_types_common.specs.declared.rc.Rc.{Rc}
use Rattle.tpm_types_common.specs.declared.refused.Refused.{Refused}
use Rattle.tpm_types_common.specs.declared.role.Role.{Role}
use Rattle.tpm_types_nv.specs.declared.nv_attributes.NvAttributes.{NvAttributes}
use Rattle.tpm_commands.specs.Shape.{rule_without_role}
use Rattle.tpm_commands.specs.declared.shape.HandleKind.TheVariants as handle_kind
use Rattle.tpm_commands.specs.declared.shape.HandleRule.{HandleRule}
use Rattle.tpm_commands.specs.declared.shape.ParameterKind.{ParameterKind}
use Rattle.tpm_session.specs.Sessions.{session_at}
use Rattle.tpm_nv.specs.Head.{head_of}
use Rattle.tpm_nv.specs.Index.{NvIndex, index_at}
use Rattle.tpm_record.specs.Entity.{AnIndex, AnObject, Entity, Permanent, entity_at, is_kept}
use Rattle.tpm_record.specs.Entity.{is_present, object_of}
use Rattle.tpm_record.specs.Record.{Record}
use Rattle.tpm_record.specs.rows.Refusals.{fault_refusal, handle_refusal, or_refusal}
use Rattle.tpm_record.specs.rows.Request.{first_handle, second_handle, third_handle}
use Rattle.tpm_record.specs.rows.Rows.{parameter}
use Rattle.tpm_record.specs.rows.Target.{attributes_of, index_or_refusal}
use Rattle.tpm_record.specs.declared.rows.target.Target.{Target}
use Rattle.tpm_step.specs.rows.Handles.{FitsRule, HandlesFit}
use Rattle.tpm_step.specs.rows.Order.{InOrder, IsLate, Late, Orders}
use Rattle.tpm_step.specs.rows.Refusals.{Passes}
use Rattle.tpm_step.specs.rows.Shapes.{ReadsParameters, behind_kind, parameters_check}
use Rattle.tpm_step.proofs.rows.Binding.{bind_assoc, err_bind, err_fault, err_if, err_or}
use Rattle.tpm_step.proofs.rows.Readings.{all_read_outcome, only_read, outcome, read_all}
use Rattle.tpm_step.proofs.rows.Readings.{read_one, trimmed_read}

-- ---- consequences of the order

-- a row that satisfies `InOrder` does not refuse parameters of the expected kinds; it refuses all
-- other parameters with their first fault, unless it refuses a handle
pub in_order_reads : {X : Type 0} (Fit : Type 0) (s : Result (Unit {0}) Refused)
    (row : Result X Refused) → InOrder Fit s row → ReadsParameters s row
in_order_reads Fit (Ok u) (Ok x) order = tt
in_order_reads Fit (Ok u) (Err e) (inl handle) =
    λ same. let never : check.Handles ≡ check.Parameters = sym handle.0 ∙ same in absurd cc
in_order_reads Fit (Ok u) (Err e) (inr (inl fault)) = absurd cc
in_order_reads Fit (Ok u) (Err e) (inr (inr late)) = λ same. subst (IsLate Fit) same late.1
in_order_reads Fit (Err fault) (Ok x) order = absurd cc
in_order_reads Fit (Err fault) (Err e) (inl handle) = inr handle.0
in_order_reads Fit (Err fault) (Err e) (inr (inl same)) = inl (sym cc)
in_order_reads Fit (Err fault) (Err e) (inr (inr late)) = let never = late.0 in absurd cc

-- if the handles fit, a row that satisfies `InOrder` refuses no handle
pub in_order_passes : {X : Type 0} (Fit : Type 0) (s : Result (Unit {0}) Refused)
    (row : Result X Refused) → IfErr s (λ e. e.check ≡ check.Parameters) → InOrder Fit s row → Fit
    → Passes check.Handles row
in_order_passes Fit s (Ok x) faults order fit = tt
in_order_passes Fit s (Err e) faults (inl handle) fit = absurd (handle.1 fit)
in_order_passes Fit s (Err e) faults (inr (inl fault)) fit = λ same.
    let kind : e.check ≡ check.Parameters =
    IfErr-at_err (λ (e : Refused). e.check ≡ check.Parameters) fault faults in
    let never : check.Parameters ≡ check.Handles = sym kind ∙ same in
    absurd cc
in_order_passes Fit s (Err e) faults (inr (inr late)) fit =
    λ same. subst (IsLate Fit) same late.1 fit

-- a row that satisfies `InOrder` never refuses with MEMORY
pub in_order_wants : {X : Type 0} (Fit : Type 0) (s : Result (Unit {0}) Refused)
    (row : Result X Refused) → IfErr s (λ e. e.check ≡ check.Parameters) → InOrder Fit s row
    → Passes check.Memory row
in_order_wants Fit s (Ok x) faults order = tt
in_order_wants Fit s (Err e) faults (inl handle) =
    λ same. let never : check.Handles ≡ check.Memory = sym handle.0 ∙ same in absurd cc
in_order_wants Fit s (Err e) faults (inr (inl fault)) = λ same.
    let kind : e.check ≡ check.Parameters =
    IfErr-at_err (λ (e : Refused). e.check ≡ check.Parameters) fault faults in
    let never : check.Parameters ≡ check.Memory = sym kind ∙ same in
    absurd cc
in_order_wants Fit s (Err e) faults (inr (inr late)) = λ same. subst (IsLate Fit) same late.1

parameter_fault : {X : Type 0} (n : ℕ) (x : Result X Rc)
    → IfErr (parameter n x) (λ e. e.check ≡ check.Parameters)
parameter_fault n (Ok x) = tt
parameter_fault n (Err rc) = refl

-- if parameters are not of the expected kinds, they are refused by the check of parameters
pub spelled_faults : (n : ℕ) (kinds : List ParameterKind) (text : List ℕ)
    → IfErr (parameters_check n kinds text) (λ e. e.check ≡ check.Parameters)
spelled_faults n [] text = err_if (λ e. e.check ≡ check.Parameters) _ _ refl
spelled_faults n (kind ∷ kinds) text =
    err_bind _ (parameter n (behind_kind kind text)) _ (parameter_fault n (behind_kind kind text))
    (λ rest. spelled_faults (n + 1) kinds rest)

-- ---- steps that read a handle

-- how a row reads authHandle, nvIndex and the index's attributes
abbrev target_at : Record → List Handle → Result Target Refused
target_at r handles = do
  auth_handle ← first_handle handles
  handle ← second_handle handles
  attributes ← attributes_of r handle
  Ok (record { auth_handle = auth_handle; handle = handle; attributes = attributes })

-- `Orders` holds for a row that begins by reading the first handle, if it holds for the rest of the
-- row
pub behind_first : {X : Type 0} (r : Record) (rule : HandleRule) (rules : List HandleRule)
    (handles : List Handle) (kinds : List ParameterKind) (text : List ℕ)
    (f : Handle → Result X Refused)
    → ((h : Handle) → (HandlesFit r (rule ∷ rules) handles → FitsRule r rule h)
    → Orders r (rule ∷ rules) handles kinds text (f h))
    → Orders r (rule ∷ rules) handles kinds text (first_handle handles >>= f)
behind_first r rule rules [] kinds text f more = record { order = inl (refl, λ fit. fit) }
behind_first r rule rules (h ∷ hs) kinds text f more = more h (λ fit. fit.0)

-- `Orders` holds for a row that begins by reading the second handle, if it holds for the rest of
-- the row
pub behind_second : {X : Type 0} (r : Record) (first rule : HandleRule) (rules : List HandleRule)
    (handles : List Handle) (kinds : List ParameterKind) (text : List ℕ)
    (f : Handle → Result X Refused)
    → ((h : Handle) → (HandlesFit r (first ∷ rule ∷ rules) handles → FitsRule r rule h)
    → Orders r (first ∷ rule ∷ rules) handles kinds text (f h))
    → Orders r (first ∷ rule ∷ rules) handles kinds text (second_handle handles >>= f)
behind_second r first rule rules [] kinds text f more = record { order = inl (refl, λ fit. fit) }
behind_second r first rule rules (h ∷ []) kinds text f more =
    record { order = inl (refl, λ fit. fit.1) }
behind_second r first rule rules (h ∷ k ∷ hs) kinds text f more = more k (λ fit. fit.1.0)

-- `Orders` holds for a row that begins by reading the third handle, if it holds for the rest of the
-- row
pub behind_third : {X : Type 0} (r : Record) (first second rule : HandleRule)
    (rules : List HandleRule) (handles : List Handle) (kinds : List ParameterKind) (text : List ℕ)
    (f : Handle → Result X Refused)
    → ((h : Handle) → (HandlesFit r (first ∷ second ∷ rule ∷ rules) handles → FitsRule r rule h)
    → Orders r (first ∷ second ∷ rule ∷ rules) handles kinds text (f h))
    → Orders r (first ∷ second ∷ rule ∷ rules) handles kinds text (third_handle handles >>= f)
behind_third r first second rule rules [] kinds text f more =
    record { order = inl (refl, λ fit. fit) }
behind_third r first second rule rules (h ∷ []) kinds text f more =
    record { order = inl (refl, λ fit. fit.1) }
behind_third r first second rule rules (h ∷ k ∷ []) kinds text f more =
    record { order = inl (refl, λ fit. fit.1.1) }
behind_third r first second rule rules (h ∷ k ∷ l ∷ hs) kinds text f more =
    more l (λ fit. fit.1.1.0)

-- `Orders` holds for a row that begins by making an assertion from the first handle, as in
-- TPM2_PolicySecret, if it holds for the row after the handle is read
pub behind_entity : {A X : Type 0} (r : Record) (rule : HandleRule) (rules : List HandleRule)
    (handles : List Handle) (kinds : List ParameterKind) (text : List ℕ)
    (g : Handle → Result A Refused) (f : A → Result X Refused)
    → ((h : Handle) → Orders r (rule ∷ rules) handles kinds text (g h >>= f))
    → Orders r (rule ∷ rules) handles kinds text ((first_handle handles >>= g) >>= f)
behind_entity r rule rules [] kinds text g f more = record { order = inl (refl, λ fit. fit) }
behind_entity r rule rules (h ∷ hs) kinds text g f more = more h

-- `Orders` holds for a row that begins by looking up an entity, if it holds for the rest of the
-- row, and the entity exists whenever the handles fit
pub behind_found : {A X : Type 0} (r : Record) (rules : List HandleRule) (handles : List Handle)
    (o : Option A) (kinds : List ParameterKind) (text : List ℕ) (f : A → Result X Refused)
    → (HandlesFit r rules handles → is_some o ≡ true)
    → ((a : A) → Orders r rules handles kinds text (f a))
    → Orders r rules handles kinds text (ok_or o handle_refusal >>= f)
behind_found r rules handles (Some a) kinds text f there more = more a
behind_found r rules handles None kinds text f there more =
    record { order = inl (refl, λ fit. false≢true (there fit)) }

pub late_found : {A : Type 0} (Fit : Type 0) (o : Option A) → (Fit → is_some o ≡ true)
    → Late Fit (ok_or o handle_refusal)
late_found Fit (Some a) there = tt
late_found Fit None there = λ fit. false≢true (there fit)

-- splits a disjunction of two tests
pub either : (a b : Bool) → (a || b) ≡ true → (a ≡ true) ⊎ (b ≡ true)
either true b is = inl refl
either false b is = inr is

-- The session or the entity that a handle names exists. `type` is the type of the handle. If it is
-- the type of a session, `session` says whether the session exists; otherwise, `entity` is the
-- entity.
abbrev pub IsThere : ℕ → Bool → Entity → Type 0
IsThere type session entity =
    (if (type == 0x02 || type == 0x03) then session
    else (is_kept entity || not (type == 0x01 || type == 0x80 || type == 0x81))) ≡ true

-- If a handle has the type of an NV index, and its entity exists, then the handle names an index.
index_present : (type : ℕ) (session : Bool) (o : Option NvIndex) (object : Entity)
    → (type == 0x01) ≡ true
    → IsThere type session (if type == 0x01
    then option_map_or AnIndex (option_map head_of o) Permanent else object)
    → is_some o ≡ true
index_present type session (Some i) object kind present = refl
index_present type session None object kind present =
    let there = λ (t : ℕ). IsThere t session (if t == 0x01 then Permanent else object) in
    absurd (false≢true (subst there (eqb-true type 0x01 kind) present))

pub index_there : (r : Record) (role : Option Role) (h : Handle)
    → FitsRule r (record { kind = handle_kind.NvIndex; role = role }) h
    → is_some (index_at r.nv h) ≡ true
unfolding is_present entity_at
index_there r role h fits = index_present (handle_type h) (is_some (session_at r.sessions h))
    (index_at r.nv h) (option_map_or AnObject (object_of r h) Permanent) fits.0 fits.1

pub behind_index : {X : Type 0} (r : Record) (rules : List HandleRule) (handles : List Handle)
    (role : Option Role) (h : Handle) (kinds : List ParameterKind) (text : List ℕ)
    (f : NvIndex → Result X Refused)
    → (HandlesFit r rules handles
    → FitsRule r (record { kind = handle_kind.NvIndex; role = role }) h) → ((i : NvIndex)
    → Orders r rules handles kinds text (f i))
    → Orders r rules handles kinds text (index_or_refusal r h >>= f)
behind_index r rules handles role h kinds text f fits more =
    behind_found r rules handles (index_at r.nv h) kinds text f
    (λ fit. index_there r role h (fits fit)) more

-- Suppose that a row begins by reading authHandle, nvIndex and the index's attributes. If `Orders`
-- holds for the rest of the row, it holds for the whole row.
pub behind_target : {X : Type 0} (r : Record) (first : HandleRule) (others : List HandleRule)
    (handles : List Handle) (kinds : List ParameterKind) (text : List ℕ)
    (f : Target → Result X Refused)
    → ((t : Target) → (HandlesFit r (first ∷ rule_without_role handle_kind.NvIndex ∷ others) handles
    → is_some (index_at r.nv t.handle) ≡ true)
    → Orders r (first ∷ rule_without_role handle_kind.NvIndex ∷ others) handles kinds text (f t))
    → Orders r (first ∷ rule_without_role handle_kind.NvIndex ∷ others) handles kinds text
    (target_at r handles >>= f)
behind_target r first others [] kinds text f more = record { order = inl (refl, λ fit. fit) }
behind_target r first others (h ∷ []) kinds text f more =
    record { order = inl (refl, λ fit. fit.1) }
behind_target r first others (h ∷ k ∷ hs) kinds text f more =
    found (index_at r.nv k) (λ fit. index_there r None k fit.1.0) (λ a there. more (target a) there)
  where
    Fit : Type 0
    Fit = HandlesFit r (first ∷ rule_without_role handle_kind.NvIndex ∷ others) (h ∷ k ∷ hs)

    target : NvAttributes → Target
    target a = record { auth_handle = h; handle = k; attributes = a }

    found : (o : Option NvIndex) → (Fit → is_some o ≡ true)
        → ((a : NvAttributes) → (Fit → is_some o ≡ true)
        → Orders r (first ∷ rule_without_role handle_kind.NvIndex ∷ others) (h ∷ k ∷ hs) kinds text
        (f (target a)))
        → Orders r (first ∷ rule_without_role handle_kind.NvIndex ∷ others) (h ∷ k ∷ hs) kinds text
        (((ok_or o handle_refusal >>= λ index. Ok index.public.attributes) >>= λ a. Ok (target a))
        >>= f)
    found (Some i) there next = next i.public.attributes there
    found None there next = record { order = inl (refl, λ fit. false≢true (there fit)) }

-- Suppose that a row begins by making an assertion from authHandle, nvIndex and the index's
-- attributes. If `Orders` holds for the rest of the row, it holds for the whole row.
pub behind_target_asserted : {A X : Type 0} (r : Record) (first : HandleRule)
    (others : List HandleRule) (handles : List Handle) (kinds : List ParameterKind) (text : List ℕ)
    (g : Target → Result A Refused) (f : A → Result X Refused)
    → ((t : Target)
    → Orders r (first ∷ rule_without_role handle_kind.NvIndex ∷ others) handles kinds text
    (g t >>= f))
    → Orders r (first ∷ rule_without_role handle_kind.NvIndex ∷ others) handles kinds text
    ((target_at r handles >>= g) >>= f)
behind_target_asserted {X = X} r first others handles kinds text g f more =
    subst (λ (row : Result X Refused). Orders r
    (first ∷ rule_without_role handle_kind.NvIndex ∷ others) handles kinds text row)
    (sym (bind_assoc (target_at r handles) g f))
    (behind_target r first others handles kinds text (λ t. g t >>= f) (λ t there. more t))

-- ---- steps that read parameters

late_after : {X : Type 0} (Fit : Type 0) (s : Result (Unit {0}) Refused)
    (row : Result X Refused) → s ≡ Ok tt → Late Fit row → InOrder Fit s row
late_after Fit s (Ok x) is late = is
late_after Fit s (Err e) is late = inr (inr (is, late))

-- a row satisfies `Orders` if it first parses all parameters, and then refuses only late (`Late`)
pub behind_reading : {P X : Type 0} (r : Record) (rules : List HandleRule) (handles : List Handle)
    (kinds : List ParameterKind) (text : List ℕ) (read : Result P Refused)
    (f : P → Result X Refused) → outcome read ≡ parameters_check 1 kinds text
    → ((p : P) → Late (HandlesFit r rules handles) (f p))
    → Orders r rules handles kinds text (read >>= f)
behind_reading r rules handles kinds text (Ok p) f is late =
    record { order = late_after _ _ (f p) (sym is) (late p) }
behind_reading r rules handles kinds text (Err e) f is late = record { order = inr (inl (sym is)) }

-- a row satisfies `Orders` if it first parses all parameters, converts them, for example to an
-- assertion, and then refuses only late (`Late`)
pub behind_handed : {P A X : Type 0} (r : Record) (rules : List HandleRule) (handles : List Handle)
    (kinds : List ParameterKind) (text : List ℕ) (read : Result P Refused) (g : P → A)
    (f : A → Result X Refused) → outcome read ≡ parameters_check 1 kinds text
    → ((a : A) → Late (HandlesFit r rules handles) (f a))
    → Orders r rules handles kinds text ((read >>= λ p. Ok (g p)) >>= f)
behind_handed r rules handles kinds text (Ok p) g f is late =
    behind_reading r rules handles kinds text (Ok (g p)) f is late
behind_handed r rules handles kinds text (Err e) g f is late =
    behind_reading r rules handles kinds text (Err e) f is late

-- ---- steps that refuse late

-- a refusal by one of the command's own checks is late (`Late`)
pub late_own_fault : {X : Type 0} (Fit : Type 0) (x : Result X ActionFault)
    → Late Fit (or_refusal fault_refusal x)
late_own_fault Fit (Ok u) = tt
late_own_fault Fit (Err fault) = tt

-- the rules for a row's steps that read handles
pub ruleset handle_steps = (
  behind_first,
  behind_second,
  behind_third,
  behind_entity,
  behind_index,
  behind_target,
  behind_target_asserted,
)

-- the rules for a row's steps that read parameters
pub ruleset reading_steps =
    (behind_reading, behind_handed, all_read_outcome, only_read, read_one, read_all, trimmed_read)

-- the rules for a row's steps that refuse late (`Late`)
pub ruleset late_steps = (rules, err_bind, err_if, err_or, err_fault, late_own_fault)

-- the rules with which `Orders` is proved for a row
pub ruleset ordered_steps = (handle_steps, reading_steps, late_steps)
