-- The rows of the commands for NV indices satisfy the laws about rows.
use Rattle.std.specs.Prelude.{◌==◌, is_some, nat_lt, not, ok_or}
use Rattle.std.proofs.Common.{◌∙◌, ◌∷◌, ◌≡◌, Bool, Err, IfOk, List, None, Ok, Option, Result, Some}
use Rattle.std.proofs.Common.{[], ap, arith, false, length, refl, rules, subst, sym, true, ℕ}
use Rattle.std.proofs.lemmas.Bool.{false≢true}
use Rattle.tpm_bytes.specs.Reading.{◌>>=◌, refused_if}
use Rattle.tpm_bytes.proofs.Fields.{passed}
use Rattle.tpm_mac.specs.Digest.{digest_size}
use Rattle.tpm_types_common.specs.AuthValue.{auth_value_at}
use Rattle.tpm_types_common.specs.Handle.{platform_handle}
use Rattle.tpm_types_common.specs.declared.action_check.ActionCheck.TheVariants as action
use Rattle.tpm_types_common.specs.declared.handle.Handle.{Handle}
use Rattle.tpm_types_common.specs.declared.rc.Rc.{Rc}
use Rattle.tpm_types_common.specs.declared.rc.ResponseCode.TheVariants as code
use Rattle.tpm_types_common.specs.declared.refused.Refused.{Refused}
use Rattle.tpm_types_common.specs.declared.role.Role.{Role}
use Rattle.tpm_types_common.specs.declared.role.Role.TheVariants as role
use Rattle.tpm_types_common.specs.Filled.{filled_by}
use Rattle.tpm_types_nv.specs.NvPublic.{nv_public_at}
use Rattle.tpm_commands.specs.CommandCode.{part_of, shape_of}
use Rattle.tpm_commands.specs.Shape.{admin, rule_without_role}
use Rattle.tpm_commands.specs.declared.command_code.CommandCode.{CommandCode}
use Rattle.tpm_commands.specs.declared.command_code.CommandCode.TheVariants as command
use Rattle.tpm_commands.specs.declared.shape.HandleKind.TheVariants as handle_kind
use Rattle.tpm_commands.specs.declared.shape.ParameterKind.TheVariants as kind
use Rattle.tpm_containers.proofs.SortedMapLaws.{put_length, removed_few}
use Rattle.tpm_nv.specs.Access.{bits_set, contents_after_extend, contents_after_increment, index_or_fault, read_locked}
use Rattle.tpm_nv.specs.Access.{contents_after_write, with_auth_value, write_locked}
use Rattle.tpm_nv.specs.Definition.{defined_index, definition_passes}
use Rattle.tpm_nv.specs.Index.{NvContents, NvIndex, has_room, index_at, with_index, without_index}
use Rattle.tpm_nv.specs.declared.definition.DefinitionFault.{DefinitionFault}
use Rattle.tpm_nv.specs.declared.fault.LockFault.{LockFault}
use Rattle.tpm_nv.specs.declared.fault.Undefined.{Undefined}
use Rattle.tpm_nv.specs.declared.fault.WriteFault.{WriteFault}
use Rattle.tpm_record.specs.Record.{Record}
use Rattle.tpm_record.specs.rows.Refusals.{handle_refusal, or_refusal, parameter_refusal}
use Rattle.tpm_record.specs.rows.Request.{Request, first_handle, second_handle}
use Rattle.tpm_record.specs.rows.Rows.{all_read, parameter}
use Rattle.tpm_record.specs.rows.Target.{target_of}
use Rattle.tpm_record.specs.declared.rows.target.Target.{Target}
use Rattle.tpm_nvactions.specs.Access.{changed_nv, lock_refusal, writer_passes, writing_refusal}
use Rattle.tpm_nvactions.specs.NvChangeAuth.{nv_change_auth_row}
use Rattle.tpm_nvactions.specs.NvDefineSpace.{definition_refusal, nv_define_space_row}
use Rattle.tpm_nvactions.specs.NvDefineSpace.{parameters_in}
use Rattle.tpm_nvactions.specs.NvExtend.{nv_extend_row}
use Rattle.tpm_nvactions.specs.NvIncrement.{nv_increment_row}
use Rattle.tpm_nvactions.specs.NvRead.{nv_read_row, parameters_in as read_parameters}
use Rattle.tpm_nvactions.specs.NvReadLock.{nv_read_lock_row}
use Rattle.tpm_nvactions.specs.NvReadPublic.{nv_read_public_row}
use Rattle.tpm_nvactions.specs.NvSetBits.{nv_set_bits_row}
use Rattle.tpm_nvactions.specs.NvUndefineSpace.{is_kept_from, nv_undefine_space_row}
use Rattle.tpm_nvactions.specs.NvWrite.{nv_write_row, parameters_in as write_parameters}
use Rattle.tpm_nvactions.specs.NvWriteLock.{nv_write_lock_row}
use Rattle.tpm_step.specs.rows.Draws.{DrawsAsSaid}
use Rattle.tpm_step.specs.rows.Footprint.{Touches}
use Rattle.tpm_step.specs.rows.Handles.{FitsRule, HandlesFit}
use Rattle.tpm_step.specs.rows.IndexChanges.{ChangesIndices, HasNoConflict}
use Rattle.tpm_step.specs.rows.Order.{IsLate, Late, Orders, Plain}
use Rattle.tpm_step.specs.rows.RowLaws.{RowLaws, SuccessLaws}
use Rattle.tpm_step.specs.rows.Shapes.{AnswersItsShape, Grows, behind, parameters_check}
use Rattle.tpm_step.proofs.rows.Binding.{err_bind, err_if, ok_bind, ok_bind_is, ok_then}
use Rattle.tpm_step.proofs.rows.IndexChanges.{auth_changes, bits_write, counts_so}
use Rattle.tpm_step.proofs.rows.IndexChanges.{extended_writes, keeps_count, none_is, passes_so}
use Rattle.tpm_step.proofs.rows.IndexChanges.{read_locked_writes, same_count, target_names}
use Rattle.tpm_step.proofs.rows.IndexChanges.{write_locked_writes, written_writes}
use Rattle.tpm_step.proofs.rows.Order.{behind_first, behind_index, behind_reading, index_there}
use Rattle.tpm_step.proofs.rows.Order.{ordered_steps}
use Rattle.tpm_step.proofs.rows.Parts.{SameCount, leaves_sessions, same_indices}
use Rattle.tpm_step.proofs.rows.PlainSteps.{plain_steps}
use Rattle.tpm_step.proofs.rows.Readings.{all_read_outcome, only_read, outcome, read_all}
use Rattle.tpm_step.proofs.rows.Readings.{read_one, trimmed_read}
use Rattle.tpm_step.proofs.rows.Successes.{GrowsNothing, beside_sessions, in_place_steps}
use Rattle.tpm_step.proofs.rows.Successes.{none_drawn}
use Rattle.tpm_row_secrecy.proofs.IndexRows as index_secrets

-- ---- how the rows of NV indices refuse

late_step : {A B F : Type 0} (Fit : Type 0) (refusal : F → Refused) (x : Result A F)
    (f : A → Result B F) → Late Fit (or_refusal refusal x)
    → ((a : A) → Late Fit (or_refusal refusal (f a))) → Late Fit (or_refusal refusal (x >>= f))
late_step Fit refusal (Ok a) f late more = more a
late_step Fit refusal (Err fault) f late more = late

late_if : {F : Type 0} (Fit : Type 0) (refusal : F → Refused) (b : Bool) (fault : F)
    → IsLate Fit (refusal fault).check → Late Fit (or_refusal refusal (refused_if b fault))
late_if Fit refusal true fault late = late
late_if Fit refusal false fault late = tt

-- A row that looks up an index, and then takes further steps, refuses late (`Late`) if the further
-- steps refuse late, and the index exists whenever the handles fit.
late_index : {X F : Type 0} (Fit : Type 0) (refusal : F → Refused) (nv : NvContents) (h : Handle)
    (absence : F) (f : NvIndex → Result X F) → refusal absence ≡ handle_refusal
    → (Fit → is_some (index_at nv h) ≡ true) → ((i : NvIndex) → Late Fit (or_refusal refusal (f i)))
    → Late Fit (or_refusal refusal (index_or_fault nv h absence >>= f))
late_index Fit refusal nv h absence f is there more = by (index_at nv h) there
  where
    by : (o : Option NvIndex) → (Fit → is_some o ≡ true)
        → Late Fit (or_refusal refusal (ok_or o absence >>= f))
    by (Some i) there = more i
    by None there = subst (λ (e : Refused). IsLate Fit e.check) (sym is)
        (λ fit. false≢true (there fit))

ruleset changes = (rules, late_step, late_if, late_index)

late_written : (Fit : Type 0) (nv : NvContents) (h : Handle) (offset : ℕ) (bytes : List ℕ)
    → (Fit → is_some (index_at nv h) ≡ true)
    → Late Fit (or_refusal writing_refusal (contents_after_write nv h offset bytes))
unfolding contents_after_write
late_written Fit nv h offset bytes there = search changes

late_incremented : (Fit : Type 0) (nv : NvContents) (h : Handle)
    → (Fit → is_some (index_at nv h) ≡ true)
    → Late Fit (or_refusal writing_refusal (contents_after_increment nv h))
unfolding contents_after_increment
late_incremented Fit nv h there = search changes

late_bits : (Fit : Type 0) (nv : NvContents) (h : Handle) (bits : ℕ)
    → (Fit → is_some (index_at nv h) ≡ true)
    → Late Fit (or_refusal writing_refusal (bits_set nv h bits))
unfolding bits_set
late_bits Fit nv h bits there = search changes

late_extended : (Fit : Type 0) (nv : NvContents) (h : Handle) (bytes : List ℕ)
    → (Fit → is_some (index_at nv h) ≡ true)
    → Late Fit (or_refusal writing_refusal (contents_after_extend nv h bytes))
unfolding contents_after_extend
late_extended Fit nv h bytes there = search changes

late_write_locked : (Fit : Type 0) (nv : NvContents) (h : Handle)
    → (Fit → is_some (index_at nv h) ≡ true)
    → Late Fit (or_refusal lock_refusal (write_locked nv h))
unfolding write_locked
late_write_locked Fit nv h there = search changes

late_read_locked : (Fit : Type 0) (nv : NvContents) (h : Handle)
    → (Fit → is_some (index_at nv h) ≡ true) → Late Fit (or_refusal lock_refusal (read_locked nv h))
unfolding read_locked
late_read_locked Fit nv h there = search changes

-- The step that sets an index's authorization value refuses late (`Late`) if the handle fits a rule
-- for NV indices whenever all handles fit their rules.
late_auth_value : (Fit : Type 0) (r : Record) (role : Option Role) (h : Handle) (value : List ℕ)
    → (Fit → FitsRule r (record { kind = handle_kind.NvIndex; role = role }) h)
    → Late Fit (or_refusal (λ absence. handle_refusal) (with_auth_value r.nv h value))
unfolding with_auth_value
late_auth_value Fit r role h value fits =
    let there = λ (fit : Fit). index_there r role h (fits fit) in
    search changes

late_definition : (Fit : Type 0) (x : Result (Unit {0}) DefinitionFault)
    → Late Fit (or_refusal definition_refusal x)
late_definition Fit x = grind arith

ruleset index_orders = (
  ordered_steps,
  late_written,
  late_incremented,
  late_bits,
  late_extended,
  late_write_locked,
  late_read_locked,
)

plain_writing : {X : Type 0} (x : Result X WriteFault) → Plain (or_refusal writing_refusal x)
plain_writing x = grind arith

plain_lock : {X : Type 0} (x : Result X LockFault) → Plain (or_refusal lock_refusal x)
plain_lock x = grind arith

plain_absence : {X : Type 0} (x : Result X Undefined)
    → Plain (or_refusal (λ absence. handle_refusal) x)
plain_absence (Ok x) = tt
plain_absence (Err absence) = refl

plain_definition : (x : Result (Unit {0}) DefinitionFault) → Plain (or_refusal definition_refusal x)
plain_definition x = grind arith

ruleset index_plain = (plain_steps, plain_writing, plain_lock, plain_absence, plain_definition)

-- ---- defining and removing an index

defined_grows : (r : Record) (h : Handle) (i : NvIndex)
    → Grows true r (record r { nv = with_index r.nv h i })
defined_grows r h i = let more = put_length r.nv.indices h.number i in omega (arith, more)

-- TPM2_NV_DefineSpace parses a buffer of at most 32 bytes and then the public area of an index. The
-- buffer is the authorization value; its trailing zeros are removed after parsing.
define_reads : (text : List ℕ)
    → outcome (parameters_in text) ≡ parameters_check 1 (kind.Buffer 32 ∷ kind.NvPublic ∷ []) text
unfolding parameters_in
define_reads text =
    let last = λ (rest : List ℕ). parameter 2 (behind (filled_by nv_public_at rest))
    >>= λ rest. all_read rest in
    read_one 1 (auth_value_at text) _ last
    (λ a. read_one 2 (filled_by nv_public_at a.1) _ (λ rest. all_read rest)
    (λ b. read_all (all_read b.1) _))
    ∙ ap (λ (b : Result (List ℕ) Rc). parameter 1 b >>= last) (trimmed_read text)

pub nv_define_space_laws : RowLaws command.NvDefineSpace nv_define_space_row
unfolding nv_define_space_row shape_of parameters_in
nv_define_space_laws = record {
  success = λ r q.
      ok_bind _ (first_handle q.handles) _ (λ authority.
      ok_bind_is _ (parameters_in q.parameters) _ (λ p read.
      let by_platform : Bool = authority.number == platform_handle.number in
      ok_then (λ u. HasNoConflict by_platform p.public) _
      (or_refusal definition_refusal (definition_passes by_platform p.public (length p.auth_value)))
      _
      (passes_so by_platform p.public (length p.auth_value)) (λ checked passes.
      ok_bind_is _ (refused_if (is_some (index_at r.nv p.public.nv_index)) _) _ (λ a5 free.
      ok_bind _ (refused_if (not (has_room r.nv p.public.data_size)) _) _ (λ a6.
      beside_sessions command.NvDefineSpace r q _ refl refl
      (defined_grows r p.public.nv_index (defined_index p.public p.auth_value)) (record {
        by_platform = by_platform;
        parameters = p;
        read = read;
        free = none_is (index_at r.nv p.public.nv_index) (passed _ _ a5 free);
        passes = passes;
        is = refl;
      }) (refl, refl) (none_drawn, λ apart. refl))))));
  order = λ r q. search (
    behind_first,
    behind_reading,
    define_reads,
    rules,
    err_bind,
    err_if,
    late_definition,
  ) depth 16;
  plain = λ r q. search index_plain depth 16;
  tells = λ s covers r q free. index_secrets.nv_define_space_tells s r q;
}

undefined_grows : (r : Record) (h : Handle) → Grows false r (record r { nv = without_index r.nv h })
undefined_grows r h = let fewer = removed_few r.nv.indices h.number in omega (arith, fewer)

pub nv_undefine_space_laws : RowLaws command.NvUndefineSpace nv_undefine_space_row
unfolding nv_undefine_space_row shape_of
nv_undefine_space_laws = record {
  success = λ r q.
      ok_then (λ (t : Target). second_handle q.handles ≡ Ok t.handle) _ (target_of r q) _
      (target_names r q) (λ target named.
      ok_bind _ (all_read q.parameters) _ (λ ended.
      ok_bind _ (refused_if (is_kept_from target) _) _ (λ a1.
      beside_sessions command.NvUndefineSpace r q _ refl refl (undefined_grows r target.handle)
      (record { handle = target.handle; named = named; is = refl }) (refl, refl)
      (none_drawn, λ apart. refl))));
  order = λ r q. search index_orders depth 16;
  plain = λ r q. search index_plain depth 16;
  tells = λ s covers r q free. index_secrets.nv_undefine_space_tells s r q;
}

-- ---- changing an index

changed_success : {F : Type 0} (c : CommandCode) (r : Record) (q : Request)
    (refusal : F → Refused) (x : Result NvContents F) → leaves_sessions (part_of c) ≡ true
    → keeps_count (part_of c) ≡ true
    → ((nv : NvContents) → Touches (part_of c) r (record r { nv = nv })) → GrowsNothing c
    → AnswersItsShape c (changed_nv r r.nv) → DrawsAsSaid c q (changed_nv r r.nv)
    → IfOk x (ChangesIndices (part_of c) q r.nv)
    → IfOk (or_refusal refusal x >>= λ nv. Ok (changed_nv r nv)) (SuccessLaws c r q)
changed_success c r q refusal (Err fault) leaves keeps touches nothing answers draws changes = tt
changed_success c r q refusal (Ok nv) leaves keeps touches nothing answers draws changes =
    let same : SameCount r.nv nv = same_count (part_of c) q r.nv nv keeps changes in
    beside_sessions c r q (changed_nv r nv) leaves (touches nv)
    (nothing r (record r { nv = nv }) (same_indices r nv same)) changes answers draws

ruleset changed_steps = (
  rules,
  ok_bind,
  changed_success,
  none_drawn,
  written_writes,
  bits_write,
  extended_writes,
  write_locked_writes,
  read_locked_writes,
  auth_changes,
)

pub nv_write_laws : RowLaws command.NvWrite nv_write_row
unfolding nv_write_row shape_of write_parameters
nv_write_laws = record {
  success = λ r q. search changed_steps depth 12;
  order = λ r q. search index_orders depth 16;
  plain = λ r q. search index_plain depth 16;
  tells = λ s covers r q free. index_secrets.nv_write_tells s r q;
}

pub nv_set_bits_laws : RowLaws command.NvSetBits nv_set_bits_row
unfolding nv_set_bits_row shape_of
nv_set_bits_laws = record {
  success = λ r q. search changed_steps depth 12;
  order = λ r q. search index_orders depth 16;
  plain = λ r q. search index_plain depth 16;
  tells = λ s covers r q free. index_secrets.nv_set_bits_tells s r q;
}

pub nv_extend_laws : RowLaws command.NvExtend nv_extend_row
unfolding nv_extend_row shape_of
nv_extend_laws = record {
  success = λ r q. search changed_steps depth 12;
  order = λ r q. search index_orders depth 16;
  plain = λ r q. search index_plain depth 16;
  tells = λ s covers r q free. index_secrets.nv_extend_tells s r q;
}

pub nv_write_lock_laws : RowLaws command.NvWriteLock nv_write_lock_row
unfolding nv_write_lock_row shape_of
nv_write_lock_laws = record {
  success = λ r q. search changed_steps depth 12;
  order = λ r q. search index_orders depth 16;
  plain = λ r q. search index_plain depth 16;
  tells = λ s covers r q free. index_secrets.nv_write_lock_tells s r q;
}

pub nv_read_lock_laws : RowLaws command.NvReadLock nv_read_lock_row
unfolding nv_read_lock_row shape_of
nv_read_lock_laws = record {
  success = λ r q. search changed_steps depth 12;
  order = λ r q. search index_orders depth 16;
  plain = λ r q. search index_plain depth 16;
  tells = λ s covers r q free. index_secrets.nv_read_lock_tells s r q;
}

pub nv_increment_laws : RowLaws command.NvIncrement nv_increment_row
unfolding nv_increment_row shape_of
nv_increment_laws = record {
  success = λ r q.
      ok_then (λ (t : Target). second_handle q.handles ≡ Ok t.handle) _ (target_of r q) _
      (target_names r q) (λ target named.
      ok_bind _ (all_read q.parameters) _ (λ ended.
      ok_bind _ (writer_passes target) _ (λ a1.
      changed_success command.NvIncrement r q writing_refusal
      (contents_after_increment r.nv target.handle)
      refl refl (λ nv. refl)
      (λ old new grows. grows) (refl, refl) (none_drawn, λ apart. refl)
      (counts_so q r.nv target.handle named))));
  order = λ r q. search index_orders depth 16;
  plain = λ r q. search index_plain depth 16;
  tells = λ s covers r q free. index_secrets.nv_increment_tells s r q free;
}

-- the row of TPM2_NV_ChangeAuth, whose only handle is nvIndex, satisfies `Orders`
change_auth_orders : (r : Record) (q : Request)
    → Orders r (admin handle_kind.NvIndex ∷ []) q.handles (kind.Buffer 32 ∷ []) q.parameters
    (nv_change_auth_row r q)
unfolding nv_change_auth_row
change_auth_orders r q =
    behind_first r (admin handle_kind.NvIndex) [] q.handles _ q.parameters _ (λ h fits.
    behind_index r _ q.handles (Some role.Admin) h _ q.parameters _ fits (λ index.
    behind_reading r _ q.handles _ q.parameters _ _
    (only_read (kind.Buffer 32) q.parameters (auth_value_at q.parameters)
    (trimmed_read q.parameters)) (λ value.
    let long : Bool = nat_lt (digest_size index.public.name_alg) (length value) in
    let refusal : Refused = parameter_refusal action.First 1 code.Size in
    err_bind _ (refused_if long refusal) _
    (err_if (λ (e : Refused). IsLate (HandlesFit r (admin handle_kind.NvIndex ∷ []) q.handles)
    e.check) long refusal tt) (λ a1.
    err_bind _ (or_refusal (λ absence. handle_refusal) (with_auth_value r.nv h value)) _
    (late_auth_value _ r (Some role.Admin) h value fits) (λ nv. tt)))))

pub nv_change_auth_laws : RowLaws command.NvChangeAuth nv_change_auth_row
unfolding nv_change_auth_row shape_of
nv_change_auth_laws = record {
  success = λ r q. search changed_steps depth 12;
  order = λ r q. change_auth_orders r q;
  plain = λ r q. search index_plain depth 16;
  tells = λ s covers r q free. index_secrets.nv_change_auth_tells s r q;
}

-- ---- reading an index

pub nv_read_laws : RowLaws command.NvRead nv_read_row
unfolding nv_read_row shape_of read_parameters
nv_read_laws = record {
  success = λ r q. search in_place_steps depth 12;
  order = λ r q. search index_orders depth 16;
  plain = λ r q. search index_plain depth 16;
  tells = λ s covers r q free. index_secrets.nv_read_tells s r q free;
}

nv_public_orders : (r : Record) (q : Request)
    → Orders r (rule_without_role handle_kind.NvIndex ∷ []) q.handles [] q.parameters
    (nv_read_public_row r q)
unfolding nv_read_public_row
nv_public_orders r q =
    behind_first r (rule_without_role handle_kind.NvIndex) [] q.handles _ q.parameters _ (λ h fits.
    behind_index r _ q.handles None h _ q.parameters _ fits (λ index.
    behind_reading r _ q.handles _ q.parameters (all_read q.parameters) _
    (all_read_outcome (all_read q.parameters)) (λ ended. tt)))

pub nv_read_public_laws : RowLaws command.NvReadPublic nv_read_public_row
unfolding nv_read_public_row shape_of
nv_read_public_laws = record {
  success = λ r q. search in_place_steps depth 12;
  order = λ r q. nv_public_orders r q;
  plain = λ r q. search index_plain depth 16;
  tells = λ s covers r q free. index_secrets.nv_read_public_tells s r q;
}
