-- If two devices differ only in secrets, an object without secrets has the same context on both,
-- and a context opens as the same object on both.
use Rattle.std.proofs.Common.{ap, refl, sym, ◌∙◌}
use Rattle.std.specs.Prelude.{Bool, Err, List, None, Ok, Result, Some, false, if◌then◌else◌, true, ℕ, ◌&&◌, ◌||◌, ◌≡◌}
use Rattle.tpm_bytes.specs.Reading.{◌>>=◌}
use Rattle.tpm_completion.specs.Loading.{context_asked, object_context_in, object_opened}
use Rattle.tpm_completion.specs.Command.{plain_command}
use Rattle.tpm_completion.specs.Answer.{is_refusal}
use Rattle.tpm_completion.specs.Saving.{binding_of}
use Rattle.tpm_completion.specs.declared.completion.Completion.{Completion}
use Rattle.tpm_completion.specs.SequenceLoading.{sequence_opened}
use Rattle.tpm_context.proofs.ContextLaws.{same_proof}
use Rattle.tpm_context.specs.Context.{blob_in, content_in, context_text, object_cipher, object_in, object_in_context, parts_in, plain_in, context_proof, sealed_text}
use Rattle.tpm_context.specs.Head.{head_at, head_of, sequence_head}
use Rattle.tpm_context.specs.Sequences.{null_proof, opened_sequence, sequence_cipher, sequence_context_text, sequence_in}
use Rattle.tpm_context.specs.declared.fault.ContextFault.{ContextFault}
use Rattle.tpm_context.specs.declared.head.ContextHead.{ContextHead}
use Rattle.tpm_sequence.specs.declared.object.SequenceObject.{SequenceObject}
use Rattle.tpm_sequence_text.specs.Slot.{slot_text}
use Rattle.tpm_context.specs.Protection.{ciphertext_of}
use Rattle.tpm_context.specs.declared.binding.Binding.{Binding}
use Rattle.tpm_edge_secrecy.specs.Layer.{LayerLoadsAlike, has_secret}
use Rattle.tpm_image_text.specs.Body.{object_fields_text}
use Rattle.tpm_object.specs.declared.object.Object.{Object}
use Rattle.tpm_record.specs.Hierarchy.{secrets_of}
use Rattle.tpm_record.specs.Record.{Record}
use Rattle.tpm_row_secrecy.specs.Secrecy.{DifferInSecrets, Secrecy, bare_object, has_secret_data, unless}
use Rattle.tpm_types_common.specs.declared.handle.HierarchyHandle.{HierarchyHandle}
use Rattle.tpm_types_common.specs.declared.handle.HierarchyHandle.TheVariants as hierarchy

pub same_bind : {A B E : Type 0} (x : Result A E) (f g : A → Result B E) → ((a : A) → f a ≡ g a)
    → (x >>= f) ≡ (x >>= g)
same_bind (Ok a) f g same = same a
same_bind (Err e) f g same = refl

-- ---- an object without secrets

module _ (s : Secrecy) where
  bare_open : (o : Object) → has_secret s o ≡ false → bare_object s o ≡ o
  bare_open o = by (s.object_values o.public) (has_secret_data s o)
    where
      by : (value content : Bool) → value || content ≡ false
          → record o {
            auth_value = unless value o.auth_value;
            seed_value =
                unless content o.seed_value;
            sensitive = unless content o.sensitive;
          } ≡ o
      by false false is = refl
      by false true is = absurd cc
      by true content is = absurd cc

  -- If two devices differ only in secrets, an object without secrets is the same on both.
  pub same_object : (a b : Object) → bare_object s a ≡ bare_object s b → has_secret s a ≡ false
      → a ≡ b
  same_object a b same bare = sym (bare_open a bare) ∙ same
      ∙ bare_open b (sym (ap (has_secret s) same) ∙ bare)

-- a plaintext with its head
abbrev with_head : ContextHead → List ℕ → Result (ContextHead × List ℕ) ContextFault
with_head head plain = Ok (head, plain)

-- ---- two devices that differ only in secrets

module _ (s : Secrecy) (one other : Record) (differ : DifferInSecrets s one other) where
  pub secrets_alike : (of : HierarchyHandle)
      → secrets_of one.fixed.hierarchies of ≡ secrets_of other.fixed.hierarchies of
  secrets_alike hierarchy.Owner = ap (λ (r : Record). r.fixed.hierarchies.owner.secrets) differ
  secrets_alike hierarchy.Endorsement =
      ap (λ (r : Record). r.fixed.hierarchies.endorsement.secrets) differ
  secrets_alike hierarchy.Platform =
      ap (λ (r : Record). r.fixed.hierarchies.platform.secrets) differ
  secrets_alike hierarchy.Null = ap (λ (r : Record). r.fixed.hierarchies.null) differ

  proof_alike : (of : HierarchyHandle)
      → context_proof one.fixed.hierarchies of ≡ context_proof other.fixed.hierarchies of
  proof_alike of =
      same_proof one.fixed.hierarchies other.fixed.hierarchies secrets_alike of

  binding_alike : (c : Completion) → binding_of one c ≡ binding_of other c
  binding_alike c = ap (λ (r : Record). binding_of r c) differ

  -- an object has the same context on two devices that differ only in secrets
  pub context_alike : (c : Completion) (number : ℕ) (o : Object)
      → context_text one.fixed.hierarchies (binding_of one c) number o
      ≡ context_text other.fixed.hierarchies (binding_of other c) number o
  unfolding context_text
  context_alike c number o =
      ap (λ (p : List ℕ). sealed_text p (binding_of one c) (head_of number o)
      (ciphertext_of p c.start (head_of number o) (object_fields_text o)))
      (proof_alike o.hierarchy)
      ∙ ap (λ (b : Binding). sealed_text (context_proof other.fixed.hierarchies o.hierarchy) b
      (head_of number o) (object_cipher other.fixed.hierarchies c.start number o))
      (binding_alike c)

  -- a sequence object has the same context on both devices
  pub sequence_context_alike : (c : Completion) (number : ℕ) (o : SequenceObject)
      → sequence_context_text one.fixed.hierarchies (binding_of one c) number o
      ≡ sequence_context_text other.fixed.hierarchies (binding_of other c) number o
  unfolding sequence_context_text
  sequence_context_alike c number o =
      ap (λ (p : List ℕ). sealed_text p (binding_of one c) (sequence_head number)
      (ciphertext_of p c.start (sequence_head number) (slot_text (Some o))))
      (proof_alike hierarchy.Null)
      ∙ ap (λ (b : Binding). sealed_text (null_proof other.fixed.hierarchies) b
      (sequence_head number) (sequence_cipher other.fixed.hierarchies c.start number o))
      (binding_alike c)

  content_alike : (c : Completion) (context : List ℕ)
      → content_in one.fixed.hierarchies (binding_of one c) context
      ≡ content_in other.fixed.hierarchies (binding_of other c) context
  unfolding content_in
  content_alike c context =
      same_bind (head_at context) _ _ (λ head.
      same_bind (blob_in head.1) _ _ (λ blob.
      same_bind (parts_in blob) _ _ (λ parts.
      ap (λ (p : List ℕ). plain_in p (binding_of one c) head.0 parts.0 parts.1 >>= with_head head.0)
      (proof_alike head.0.hierarchy)
      ∙ ap (λ (b : Binding). plain_in (context_proof other.fixed.hierarchies head.0.hierarchy) b head.0
      parts.0 parts.1 >>= with_head head.0) (binding_alike c))))

  opened_alike : (c : Completion) (context : List ℕ)
      → object_opened one c context ≡ object_opened other c context
  unfolding object_in_context
  opened_alike c context =
      ap (λ (r : Result (ContextHead × List ℕ) ContextFault). r >>= λ x. object_in x.0 x.1)
      (content_alike c context)

  pub sequence_opened_alike : (c : Completion) (context : List ℕ)
      → sequence_opened one c context ≡ sequence_opened other c context
  unfolding opened_sequence
  sequence_opened_alike c context =
      ap (λ (r : Result (ContextHead × List ℕ) ContextFault). r >>= λ x. sequence_in x.0 x.1)
      (content_alike c context)

  asked_alike : (buffer response : List ℕ) → context_asked one buffer response
      ≡ context_asked other buffer response
  unfolding context_asked
  asked_alike buffer response =
      ap (λ (r : Record). if r.fixed.started && is_refusal 0x143 response
      then object_context_in (plain_command buffer) else None) differ

pub layer_loads_alike : LayerLoadsAlike
layer_loads_alike s one other c buffer response context differ =
    (asked_alike s one other differ buffer response, opened_alike s one other differ c context)
