-- The entries of an authorization area are read and written in order.
use Rattle.std.proofs.Common.{◌≡◌, ℕ, zero, suc, ◌+◌, ◌*◌, List, [], ◌∷◌, ◌++◌, ◌<◌, ◌≤◌, length, arith, map, take, get_or, append-nil, Result, Ok, Err, refl, ap, sym, subst, ◌∙◌, append_assoc, length-append}
use Rattle.std.proofs.lemmas.List.{take_more}
use Rattle.std.proofs.lemmas.List.Folds.{flat_map-map}
use Rattle.std.specs.List.{flat_map, AllByRecursion}
use Rattle.tpm_bytes.proofs.WrittenTexts.{written_more}
use Rattle.tpm_types_command.specs.declared.auth_entry.AuthEntry.{AuthEntry}
use Rattle.tpm_bytes.specs.Reading.{◌>>=◌}
use Rattle.tpm_types_command.specs.AuthEntry.{Entry, HasSizes, entry_at, entry_of, auth_entry_text}
use Rattle.tpm_types_command.specs.AuthArea.{entries_in, entries_text}
use Rattle.tpm_types_command.proofs.EntryLaws.{length-auth_entry_text}
use Rattle.tpm_types_common.specs.declared.rc.Rc.{Rc}
use Rattle.tpm_types_common.specs.declared.rc.ResponseCode.TheVariants as code
use Rattle.tpm_types_common.specs.Rc.{plain}

-- the result of a read, with the previously read entries prepended
abbrev pub behind : List Entry → Result (List Entry) Rc → Result (List Entry) Rc
behind front read = do
  entries ← read
  Ok (front ++ entries)

moved : (front : List Entry) (x : Entry) (read : Result (List Entry) Rc)
    → behind (front ++ x ∷ []) read ≡ behind front (read >>= λ others. Ok (x ∷ others))
moved front x (Err e) = refl
moved front x (Ok y) = ap Ok (append_assoc front (x ∷ []) y)

-- Reading one more entry does not change the list of all entries: first the entries that were
-- already read, and then the entries in the remaining bytes.
pub entry_more : (front : List Entry) (m n : ℕ) (x : Entry) (left rest : List ℕ) → m ≡ suc n
    → 0 < length left → entry_at left ≡ Ok (x, rest)
    → behind (front ++ x ∷ []) (entries_in n rest) ≡ behind front (entries_in m left)
entry_more front m n x [] rest e some is = absurd (omega arith)
entry_more front m n x (byte ∷ bytes) rest e some is =
    moved front x (entries_in n rest)
    ∙ ap (λ (r : Result (Entry × List ℕ) Rc). behind front
    (r >>= λ first. entries_in n first.1 >>= λ others. Ok (first.0 ∷ others))) (sym is)
    ∙ ap (λ k. behind front (entries_in k (byte ∷ bytes))) (sym e)

-- If an entry cannot be read, the read of all entries fails with the fault of that entry.
pub entry_refused : (front : List Entry) (m n : ℕ) (fault : Rc) (left : List ℕ) → m ≡ suc n
    → 0 < length left → entry_at left ≡ Err fault → behind front (entries_in m left) ≡ Err fault
entry_refused front m n fault [] e some is = absurd (omega arith)
entry_refused front m n fault (byte ∷ bytes) e some is =
    ap (λ k. behind front (entries_in k (byte ∷ bytes))) e
    ∙ ap (λ (r : Result (Entry × List ℕ) Rc). behind front
    (r >>= λ first. entries_in n first.1 >>= λ others. Ok (first.0 ∷ others))) is

-- if no bytes are left, there are no more entries, even if more would be allowed
pub no_entry_left : (front : List Entry) (most : ℕ) (left : List ℕ) → length left ≡ 0
    → behind front (entries_in most left) ≡ Ok front
no_entry_left front zero [] none = ap Ok (append-nil front)
no_entry_left front (suc most) [] none = ap Ok (append-nil front)
no_entry_left front most (byte ∷ bytes) none = absurd (omega arith)

-- if no more entries are allowed but bytes are left, the read fails with AUTHSIZE
pub entry_too_many : (front : List Entry) (most : ℕ) (left : List ℕ) → most ≡ 0 → 0 < length left
    → behind front (entries_in most left) ≡ Err (plain code.Authsize)
entry_too_many front most [] e some = absurd (omega arith)
entry_too_many front most (byte ∷ bytes) e some =
    ap (λ k. behind front (entries_in k (byte ∷ bytes))) e

-- ---- writing entries one after another

abbrev pub text_in : AuthEntry → List ℕ
text_in entry = auth_entry_text (entry_of entry)

-- the entry that a lookup returns for an index past the last entry
abbrev pub no_entry : AuthEntry
no_entry = record {
  session = record { number = 0 };
  nonce = record { ref_ptr = (0, 0); now = [] };
  attributes = record { octet = 0 };
  hmac = record { ref_ptr = (0, 0); now = [] };
}

pub entries_text-is : (entries : List AuthEntry)
    → entries_text (map entry_of entries) ≡ flat_map text_in entries
entries_text-is entries = flat_map-map auth_entry_text entry_of entries

-- if the sizes in all entries fit in their size fields, the sizes in the entry at each index also
-- fit
pub sizes_at : (entries : List AuthEntry) (i : ℕ) (d : AuthEntry)
    → AllByRecursion HasSizes (map entry_of entries) → i < length entries
    → HasSizes (entry_of (get_or entries i d))
sizes_at [] i d all below = absurd (omega arith)
sizes_at (entry ∷ entries) zero d all below = all.0
sizes_at (entry ∷ entries) (suc i) d all below = sizes_at entries i d all.1 (omega arith)

sizes_push : (entries : List AuthEntry) (entry : AuthEntry)
    → AllByRecursion HasSizes (map entry_of entries) → HasSizes (entry_of entry)
    → AllByRecursion HasSizes (map entry_of (entries ++ entry ∷ []))
sizes_push [] entry all one = (one, tt)
sizes_push (first ∷ entries) entry all one = (all.0, sizes_push entries entry all.1 one)

-- If the sizes in the previous entries and in the next entry fit in their size fields, the sizes in
-- all these entries fit.
pub sizes_more : (entries : List AuthEntry) (i : ℕ) (d : AuthEntry) → i < length entries
    → AllByRecursion HasSizes (map entry_of (take i entries))
    → HasSizes (entry_of (get_or entries i d))
    → AllByRecursion HasSizes (map entry_of (take (i + 1) entries))
sizes_more entries i d below all one =
    subst (λ (l : List AuthEntry). AllByRecursion HasSizes (map entry_of l))
    (sym (take_more entries i d below)) (sizes_push (take i entries) (get_or entries i d) all one)

pub length_more : (entries : List AuthEntry) (i bytes more : ℕ) (d : AuthEntry) → i < length entries
    → bytes ≡ length (flat_map text_in (take i entries))
    → more ≡ length (text_in (get_or entries i d))
    → bytes + more ≡ length (flat_map text_in (take (i + 1) entries))
length_more entries i bytes more d below so now =
    let before = flat_map text_in (take i entries) in
    let next = text_in (get_or entries i d) in
    rw (so, now) (sym (length-append before next)
    ∙ ap length (written_more text_in entries i d (get_or entries i d) [] before
    (before ++ next) below refl refl refl))

pub small_text : (bytes i more : ℕ) (entry : Entry) → bytes ≤ i * 131_079 → HasSizes entry
    → more ≡ length (auth_entry_text entry) → bytes + more ≤ (i + 1) * 131_079
small_text bytes i more entry so sizes is =
    let nonce = sizes.0 in
    let hmac = sizes.1 in
    omega (arith, length-auth_entry_text entry)
