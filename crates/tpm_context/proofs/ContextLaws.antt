-- Opening a context returns the object from which it was made. Unless the HMAC has a collision, a
-- context opens only with the proof, the start number and the counts with which it was made.
use Rattle.std.proofs.Common.{◌≡◌, ◌⊎◌, ℕ, ◌^◌, ◌<◌, Bool, true, false, List, [], ◌++◌, length, take, drop, Ok, refl, sym, ap, ◌∙◌, arith, inl, inr}
use Rattle.std.specs.Int.{Width, w32, w64, from_be_bytes, to_be_bytes}
use Rattle.std.specs.Str.{bytes_eq}
use Rattle.std.proofs.lemmas.List.{take_at, drop_at}
use Rattle.std.proofs.lemmas.Slice.Eq.{bytes_eq-Decides}
use Rattle.std.proofs.Common.{append-nil}
use Rattle.tpm_aes.specs.Cfb.{cfb_decrypt_of}
use Rattle.tpm_bytes.specs.Reading.{◌>>=◌}
use Rattle.tpm_bytes.proofs.Fields.{IsWide, bind_ok, ok_is, wide32}
use Rattle.tpm_image_text.proofs.FieldSpelling.{wide64}
use Rattle.tpm_image_text.proofs.ObjectLaws.{object_fields_spelled}
use Rattle.tpm_image_text.specs.Body.{object_fields_in, object_fields_text}
use Rattle.tpm_image_text.specs.declared.fault.Malformed.{Malformed}
use Rattle.tpm_mac.specs.Hmac.{hmac_of}
use Rattle.tpm_mac.specs.declared.algorithm.HashAlg.TheVariants.{Sha256}
use Rattle.tpm_object.specs.Object.{IsObject}
use Rattle.tpm_object.specs.declared.object.Object.{Object}
use Rattle.tpm_record.specs.Hierarchy.{secrets_of}
use Rattle.tpm_record.specs.declared.hierarchy.Hierarchies.{Hierarchies}
use Rattle.tpm_record.specs.declared.hierarchy.Secrets.{Secrets}
use Rattle.tpm_types_common.specs.declared.handle.HierarchyHandle.{HierarchyHandle}
use Rattle.tpm_types_common.specs.declared.handle.HierarchyHandle.TheVariants as hierarchy
use Rattle.tpm_context.proofs.HeadLaws.{same_saved, saved_small}
use Rattle.tpm_context.proofs.Reading.{cipher_small, content_right, context_opens, decrypted_again, object_again}
use Rattle.tpm_context.specs.Context.{content_in, context_text, object_cipher, object_in, object_in_context, context_proof}
use Rattle.tpm_context.specs.Head.{head_of, saved_number}
use Rattle.tpm_context.specs.Meaning.{AreSame, Collides, CollidesFor, IntegrityMeans, IsBinding, IsMaking, Making, OpensAgain, OpensOnlyAsMade, RefusesAnotherBinding, RefusesAnotherOwner, context_of, covered_text, key_of, made_with, restart_of}
use Rattle.tpm_context.specs.Protection.{bound_text, cipher_bytes, cipher_iv, cipher_key, ciphertext_of, integrity_of, plaintext_of, restart_bound}
use Rattle.tpm_context.specs.declared.binding.Binding.{Binding}
use Rattle.tpm_context.specs.declared.fault.ContextFault.{ContextFault}
use Rattle.tpm_context.specs.declared.head.ContextHead.{ContextHead}
use Rattle.tpm_context.specs.declared.head.SavedHandle.{SavedHandle}
use Rattle.tpm_context.specs.declared.head.SavedHandle.TheVariants as saved

pub opens_again : OpensAgain
opens_again c is = context_opens c.hierarchies c.binding c.sequence c.object is.sequence is.object

-- ---- the fields that the integrity value covers

-- if two concatenations are equal and their first parts have the same size, the first parts are
-- equal, and so are the remaining parts
pub parted : (a b c d : List ℕ) → length a ≡ length b → a ++ c ≡ b ++ d → (a ≡ b) × (c ≡ d)
parted a b c d size e = (
  sym (take_at a c (length a) refl) ∙ ap (take (length a)) e ∙ take_at b d (length a) (sym size),
  sym (drop_at a c (length a) refl) ∙ ap (drop (length a)) e ∙ drop_at b d (length a) (sym size),
)

same_number : (w : Width) (limit : ℕ) → IsWide w limit → (n m : ℕ) → n < limit → m < limit
    → to_be_bytes w n ≡ to_be_bytes w m → n ≡ m
same_number w limit wide n m first second e =
    sym (wide.again n first) ∙ ap (from_be_bytes w) e ∙ wide.again m second

restart_small : (b : Binding) (one : SavedHandle) → IsBinding b → restart_bound b one < 2 ^ 32
restart_small b saved.Ordinary is = omega arith
restart_small b saved.Sequence is = omega arith
restart_small b saved.StClear is = is.restart_count

-- In two contexts, the fields that the integrity value covers before the encrypted object are
-- equal.
pub record SameBound (a b : Binding) (h k : ContextHead) : Type 0 where
  pub start : a.start ≡ b.start
  pub reset_count : a.reset_count ≡ b.reset_count
  pub restart_count : restart_bound a h.saved ≡ restart_bound b k.saved
  pub sequence : h.sequence ≡ k.sequence
  pub saved : h.saved ≡ k.saved

pub same_bound : (a b : Binding) (h k : ContextHead) → IsBinding a → IsBinding b
    → h.sequence < 2 ^ 64 → k.sequence < 2 ^ 64
    → bound_text a h ≡ bound_text b k → SameBound a b h k
same_bound a b h k is js counted numbered e =
    let start = to_be_bytes w64 a.start in
    let start2 = to_be_bytes w64 b.start in
    let reset = to_be_bytes w32 a.reset_count in
    let reset2 = to_be_bytes w32 b.reset_count in
    let restart = to_be_bytes w32 (restart_bound a h.saved) in
    let restart2 = to_be_bytes w32 (restart_bound b k.saved) in
    let sequence = to_be_bytes w64 h.sequence in
    let sequence2 = to_be_bytes w64 k.sequence in
    let p = parted (start ++ reset ++ restart ++ sequence)
    (start2 ++ reset2 ++ restart2 ++ sequence2)
    (to_be_bytes w32 (saved_number h.saved)) (to_be_bytes w32 (saved_number k.saved)) refl e in
    let q = parted (start ++ reset ++ restart) (start2 ++ reset2 ++ restart2) sequence sequence2
    refl p.0 in
    let r = parted (start ++ reset) (start2 ++ reset2) restart restart2 refl q.0 in
    let s = parted start start2 reset reset2 refl r.0 in
    record {
      start = same_number w64 (2 ^ 64) wide64 a.start b.start is.start js.start s.0;
      reset_count = same_number w32 (2 ^ 32) wide32 a.reset_count b.reset_count is.reset_count
          js.reset_count s.1;
      restart_count = same_number w32 (2 ^ 32) wide32 (restart_bound a h.saved)
          (restart_bound b k.saved)
          (restart_small a h.saved is) (restart_small b k.saved js) r.1;
      sequence = same_number w64 (2 ^ 64) wide64 h.sequence k.sequence counted numbered q.1;
      saved = same_saved h.saved k.saved
          (same_number w32 (2 ^ 32) wide32 (saved_number h.saved) (saved_number k.saved)
          (saved_small h.saved) (saved_small k.saved) p.1);
    }

-- ---- the encrypted object

same_bytes : (proof other : List ℕ) (m n : ℕ) (h k : ContextHead) → proof ≡ other → m ≡ n
    → h.sequence ≡ k.sequence → h.saved ≡ k.saved → cipher_bytes proof m h ≡ cipher_bytes other n k
unfolding cipher_bytes
same_bytes proof other m n h k key start sequence one =
    ap (λ (p : List ℕ). cipher_bytes p m h) key
    ∙ ap (λ (s : ℕ). cipher_bytes other s h) start
    ∙ ap (λ (s : ℕ). cipher_bytes other n (record h { sequence = s })) sequence
    ∙ ap (λ (s : SavedHandle). cipher_bytes other n (record h { sequence = k.sequence; saved = s }))
    one

-- with the same key and IV, only equal plaintexts have the same ciphertext
same_plain : (proof other : List ℕ) (m n : ℕ) (h k : ContextHead) (plain text : List ℕ)
    → cipher_bytes proof m h ≡ cipher_bytes other n k
    → ciphertext_of proof m h plain ≡ ciphertext_of other n k text → plain ≡ text
same_plain proof other m n h k plain text bytes e =
    sym (decrypted_again proof m h plain)
    ∙ ap (λ (l : List ℕ). cfb_decrypt_of (cipher_key l) (cipher_iv l)
    (ciphertext_of proof m h plain)) bytes
    ∙ ap (plaintext_of other n k) e
    ∙ decrypted_again other n k text

object_read : (o : Object) → IsObject o → object_fields_in (object_fields_text o) ≡ Ok (o, [])
object_read o is = ap object_fields_in (sym (append-nil (object_fields_text o)))
    ∙ object_fields_spelled.again o [] is

same_object : (o p : Object) → IsObject o → IsObject p → object_fields_text o ≡ object_fields_text p
    → o ≡ p
same_object o p is js e =
    let first : Object × List ℕ = (o, []) in
    let second : Object × List ℕ = (p, []) in
    ap (λ (x : Object × List ℕ). x.0)
    (ok_is {E = Malformed} first second
    (sym (object_read o is) ∙ ap object_fields_in e ∙ object_read p js))

-- ---- two contexts with the same integrity value

same_making : (c d : Making) → IsMaking c → IsMaking d → key_of c ≡ key_of d
    → covered_text c.binding c ≡ covered_text d.binding d → AreSame c d
same_making c d is js key text =
    let h = head_of c.sequence c.object in
    let k = head_of d.sequence d.object in
    let t = parted (bound_text c.binding h) (bound_text d.binding k)
    (object_cipher c.hierarchies c.binding.start c.sequence c.object)
    (object_cipher d.hierarchies d.binding.start d.sequence d.object) refl text in
    let bound = same_bound c.binding d.binding h k is.binding js.binding is.sequence js.sequence
    t.0 in
    let bytes = same_bytes (key_of c) (key_of d) c.binding.start d.binding.start h k key bound.start
    bound.sequence bound.saved in
    let plain = same_plain (key_of c) (key_of d) c.binding.start d.binding.start h k
    (object_fields_text c.object) (object_fields_text d.object) bytes t.1 in
    record {
      key = key;
      start = bound.start;
      reset_count = bound.reset_count;
      restart_count = bound.restart_count;
      sequence = bound.sequence;
      object = same_object c.object d.object is.object js.object plain;
    }

-- The two keys are equal and the two messages are equal, or their HMACs collide.
abbrev pub Alike : (key text other_key other_text : List ℕ) → Type 0
Alike key text other_key other_text =
    ((key ≡ other_key) × (text ≡ other_text)) ⊎ Collides key text other_key other_text

pub alike : (key text other_key other_text : List ℕ)
    → hmac_of Sha256 key text ≡ hmac_of Sha256 other_key other_text
    → Alike key text other_key other_text
alike key text other_key other_text e =
    by (bytes_eq key other_key) refl (bytes_eq text other_text) refl
  where
    other : (a b : List ℕ) → bytes_eq a b ≡ false → a ≡ b → ⊥
    other a b differ same = let is : bytes_eq a b ≡ true =
        (bytes_eq-Decides a b).1 same in absurd cc

    by : (k : Bool) → bytes_eq key other_key ≡ k → (t : Bool) → bytes_eq text other_text ≡ t
        → Alike key text other_key other_text
    by true first true second =
        inl ((bytes_eq-Decides key other_key).0 first, (bytes_eq-Decides text other_text).0 second)
    by true first false second =
        inr (record { differ = λ both. other text other_text second both.1; same = e })
    by false first t second =
        inr (record { differ = λ both. other key other_key first both.0; same = e })

pub integrity_means : IntegrityMeans
integrity_means c d is js e =
    by (alike (key_of c) (covered_text c.binding c) (key_of d) (covered_text d.binding d) e)
  where
    by : Alike (key_of c) (covered_text c.binding c) (key_of d) (covered_text d.binding d)
        → AreSame c d ⊎ Collides (key_of c) (covered_text c.binding c) (key_of d)
        (covered_text d.binding d)
    by (inl same) = inl (same_making c d is js same.0 same.1)
    by (inr collision) = inr collision

-- ---- a context that opens

-- decrypting a context with the proof and start number with which it was made yields the object
-- from which it was made
opened_object : (proof other : List ℕ) (m n sequence : ℕ) (o object : Object) → IsObject o
    → proof ≡ other → m ≡ n
    → object_in (head_of sequence o)
    (plaintext_of other n (head_of sequence o)
    (ciphertext_of proof m (head_of sequence o) (object_fields_text o))) ≡ Ok object
    → o ≡ object
opened_object proof other m n sequence o object is key start e =
    let head = head_of sequence o in
    let plain : List ℕ = object_fields_text o in
    ok_is {E = ContextFault} o object (
    sym (object_again sequence o is)
    ∙ ap (object_in head) (sym (decrypted_again proof m head plain))
    ∙ ap (λ (p : List ℕ). object_in head (plaintext_of p m head (ciphertext_of proof m head plain)))
    key
    ∙ ap (λ (s : ℕ). object_in head (plaintext_of other s head (ciphertext_of proof m head plain)))
    start
    ∙ e
    )

-- The integrity value of a context is correct for these hierarchies and this binding, and its
-- ciphertext decrypts to this object.
abbrev Finds : Making → Hierarchies → Binding → Object → Type 0
Finds c h b object =
    let head = head_of c.sequence c.object in
    let cipher : List ℕ = object_cipher c.hierarchies c.binding.start c.sequence c.object in
    let proof : List ℕ = context_proof h c.object.hierarchy in
    (integrity_of (key_of c) c.binding head cipher ≡ integrity_of proof b head cipher)
    × (object_in head (plaintext_of proof b.start head cipher) ≡ Ok object)

finds : (c : Making) (h : Hierarchies) (b : Binding) (object : Object) → IsMaking c
    → object_in_context h b (context_of c) ≡ Ok object → Finds c h b object
unfolding object_in_context context_text
finds c h b object is e =
    let head = head_of c.sequence c.object in
    let cipher : List ℕ = object_cipher c.hierarchies c.binding.start c.sequence c.object in
    let small = cipher_small c.hierarchies c.binding.start c.sequence c.object is.object in
    let read = bind_ok (content_in h b (context_of c)) (λ x. object_in x.0 x.1) object e in
    let right = content_right h c.binding b (key_of c) head cipher read.0 is.sequence small
    read.1 in
    (right.0, ap (λ (x : ContextHead × List ℕ). object_in x.0 x.1) right.1 ∙ read.2)

same_hmac : (c : Making) (h : Hierarchies) (b : Binding) (object : Object) → Finds c h b object
    → hmac_of Sha256 (key_of c) (covered_text c.binding c)
    ≡ hmac_of Sha256 (context_proof h c.object.hierarchy) (covered_text b c)
unfolding integrity_of
same_hmac c h b object found = found.0

pub opens_only_as_made : OpensOnlyAsMade
opens_only_as_made c h b object is bound e =
    let found = finds c h b object is e in
    by found (alike (key_of c) (covered_text c.binding c) (context_proof h c.object.hierarchy)
    (covered_text b c) (same_hmac c h b object found))
  where
    by : Finds c h b object
        → Alike (key_of c) (covered_text c.binding c) (context_proof h c.object.hierarchy)
        (covered_text b c)
        → AreSame c (made_with h b object c) ⊎ CollidesFor h b c
    by found (inr collision) = inr collision
    by found (inl same) =
        let head = head_of c.sequence c.object in
        let cipher : List ℕ = object_cipher c.hierarchies c.binding.start c.sequence c.object in
        let t = parted (bound_text c.binding head) (bound_text b head) cipher cipher refl same.1 in
        let fields = same_bound c.binding b head head is.binding bound is.sequence is.sequence
        t.0 in
        let opens = opened_object (key_of c) (context_proof h c.object.hierarchy) c.binding.start b.start
        c.sequence c.object object is.object same.0 fields.start found.1 in
        inl (
        record {
          key = same.0 ∙ ap (λ (o : Object). context_proof h o.hierarchy) opens;
          start = fields.start;
          reset_count = fields.reset_count;
          restart_count = fields.restart_count ∙ ap (restart_of b) opens;
          sequence = refl;
          object = opens;
        }
        )

pub refuses_another_binding : RefusesAnotherBinding
refuses_another_binding c h b object is bound other e =
    by (opens_only_as_made c h b object is bound e)
  where
    by : AreSame c (made_with h b object c) ⊎ CollidesFor h b c → CollidesFor h b c
    by (inl same) = absurd (other (same.start, same.reset_count))
    by (inr collision) = collision

pub refuses_another_owner : RefusesAnotherOwner
refuses_another_owner c h b object is bound platform long other e =
    by (opens_only_as_made c h b object is bound e)
  where
    by : AreSame c (made_with h b object c) ⊎ CollidesFor h b c → CollidesFor h b c
    by (inl same) =
        let key : context_proof c.hierarchies hierarchy.Platform
        ≡ context_proof h hierarchy.Platform =
        ap (context_proof c.hierarchies) (sym platform) ∙ same.key
        ∙ ap (λ (o : Object). context_proof h o.hierarchy) (sym same.object)
        ∙ ap (context_proof h) platform in
        absurd (other (parted c.hierarchies.platform.secrets.proof h.platform.secrets.proof
        c.hierarchies.owner.secrets.proof h.owner.secrets.proof long key).1)
    by (inr collision) = collision

-- hierarchies with the same proofs protect their contexts with the same secrets
pub same_proof : (g h : Hierarchies)
    → ((of : HierarchyHandle) → secrets_of g of ≡ secrets_of h of)
    → (of : HierarchyHandle) → context_proof g of ≡ context_proof h of
same_proof g h same hierarchy.Owner = ap (λ (s : Secrets). s.proof) (same hierarchy.Owner)
same_proof g h same hierarchy.Endorsement =
    ap (λ (s : Secrets). s.proof) (same hierarchy.Endorsement)
same_proof g h same hierarchy.Platform =
    ap (λ (s : Secrets). s.proof ++ g.owner.secrets.proof) (same hierarchy.Platform)
    ∙ ap (λ (s : Secrets). h.platform.secrets.proof ++ s.proof) (same hierarchy.Owner)
same_proof g h same hierarchy.Null = ap (λ (s : Secrets). s.proof) (same hierarchy.Null)
