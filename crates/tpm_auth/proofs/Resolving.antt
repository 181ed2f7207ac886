-- The code looks up the entity of the handle at each position, and computes the Names from these
-- entities.
use Rattle.std.proofs.Common.{◌≡◌, ℕ, zero, suc, ◌<◌, ◌≤◌, List, [], ◌∷◌, ◌++◌, length, map, take, slice_get, slice_index_or, Option, Some, None, option_map, refl, sym, subst, ap, ◌∙◌, arith}
use Rattle.std.specs.Borrow.{Bor}
use Rattle.std.specs.Option.{ForSome}
use Rattle.std.specs.Prelude.{option_copied}
use Rattle.tpm_session.specs.declared.session.Session.{Session}
use Rattle.tpm_types_common.specs.declared.handle.Handle.{Handle}
use Rattle.tpm_types_command.specs.AuthEntry.{entry_of}
use Rattle.tpm_types_command.specs.declared.auth_entry.AuthEntry.{AuthEntry}
use Rattle.tpm_record.specs.Entity.{entity_at, entity_name, entity_seen, name_of}
use Rattle.tpm_record.specs.Record.{Record}
use Rattle.tpm_record.specs.Resolved.{AreFound, Found, IsFound, found_at, found_by}
use Rattle.tpm_record.specs.declared.entity.Resolved.{Resolved}
use Rattle.tpm_auth.specs.SessionGrant.{takes_value}
use Rattle.tpm_auth.specs.Entries.{session_of}
use Rattle.tpm_auth.specs.Used.{AreSessions, IsToGrant, IsUsed, IsUsedFor, grant_by}
use Rattle.tpm_auth.specs.declared.used.Granted.{Granted}

-- The first entity found belongs to the first handle, and the others to the other handles.
first_found : (r : Record) (x : Resolved) (xs : List Resolved) (h : Handle) (hs : List Handle)
    → AreFound r (x ∷ xs) (h ∷ hs) → (found_by x ≡ found_at r h) × AreFound r xs hs
first_found r x xs h hs are = (cc, cc)

-- Exactly one entity was found for each handle.
pub as_many : (r : Record) (resolved : List Resolved) (handles : List Handle)
    → AreFound r resolved handles → length resolved ≡ length handles
as_many r [] [] are = refl
as_many r [] (h ∷ hs) are = absurd cc
as_many r (x ∷ xs) [] are = absurd cc
as_many r (x ∷ xs) (h ∷ hs) are = let others =
    as_many r xs hs (first_found r x xs h hs are).1 in omega (arith, others)

-- Each entity found belongs to the handle at the same position.
pub found_in : (r : Record) (resolved : List Resolved) (handles : List Handle) (place : ℕ)
    (x : Resolved) → AreFound r resolved handles → slice_get resolved place ≡ Some x
    → (slice_get handles place ≡ Some x.handle) × IsFound r x
found_in r [] handles place x are is = absurd cc
found_in r (y ∷ ys) [] place x are is = absurd cc
found_in r (y ∷ ys) (h ∷ hs) zero x are is =
    let same : y ≡ x = cc in
    let here : found_by x ≡ found_at r h =
    ap found_by (sym same) ∙ (first_found r y ys h hs are).0 in
    let handle : x.handle ≡ h = ap (λ (f : Found). f.handle) here in
    (ap Some (sym handle), ap (λ (f : Found). f.entity) here ∙ ap (entity_at r) (sym handle))
found_in r (y ∷ ys) (h ∷ hs) (suc place) x are is =
    found_in r ys hs place x (first_found r y ys h hs are).1 is

-- The first n entities found belong to the first n handles.
taken_found : (r : Record) (n : ℕ) (resolved : List Resolved) (handles : List Handle)
    → AreFound r resolved handles → AreFound r (take n resolved) (take n handles)
taken_found r zero [] [] are = refl
taken_found r (suc n) [] [] are = refl
taken_found r n [] (h ∷ hs) are = absurd cc
taken_found r n (x ∷ xs) [] are = absurd cc
taken_found r zero (x ∷ xs) (h ∷ hs) are = refl
taken_found r (suc n) (x ∷ xs) (h ∷ hs) are =
    let both = first_found r x xs h hs are in
    let others = taken_found r n xs hs both.1 in
    let here = both.0 in
    ap (λ f. f ∷ map found_by (take n xs)) here ∙ ap (λ l. found_at r h ∷ l) others

-- An entity found among the first n handles belongs to the handle at the same position.
pub used_in : (r : Record) (handles : List Handle) (resolved : List Resolved) (n place : ℕ)
    (used : Resolved) → AreFound r resolved handles → slice_get (take n resolved) place ≡ Some used
    → IsUsedFor r (slice_get (take n handles) place) (Some used)
used_in r handles resolved n place used are is =
    let both = found_in r (take n resolved) (take n handles) place used
    (taken_found r n resolved handles are) is in (both.0, record { found = both.1 })

-- If there is no handle at a position, no entity is found there.
none_in : (r : Record) (resolved : List Resolved) (handles : List Handle) (place : ℕ)
    → AreFound r resolved handles → slice_get resolved place ≡ None → slice_get handles place ≡ None
none_in r [] [] place are is = refl
none_in r [] (h ∷ hs) place are is = absurd cc
none_in r (x ∷ xs) [] place are is = refl
none_in r (x ∷ xs) (h ∷ hs) zero are is = absurd cc
none_in r (x ∷ xs) (h ∷ hs) (suc place) are is =
    none_in r xs hs place (first_found r x xs h hs are).1 is

pub nothing_in : (r : Record) (handles : List Handle) (resolved : List Resolved) (n place : ℕ)
    → AreFound r resolved handles → slice_get (take n resolved) place ≡ None
    → slice_get (take n handles) place ≡ None
nothing_in r handles resolved n place are is =
    none_in r (take n resolved) (take n handles) place (taken_found r n resolved handles are) is

-- ---- Names

-- The Name of the entity at a position is the Name of the handle at the same position.
pub next_named : (r : Record) (resolved : List Resolved) (handles : List Handle) (place : ℕ)
    (x : Resolved) (name : List ℕ) → AreFound r resolved handles → slice_get resolved place ≡ Some x
    → name ≡ entity_name x.handle (entity_seen x.entity)
    → Some name ≡ option_map (name_of r) (slice_get handles place)
unfolding name_of
next_named r resolved handles place x name are is name_is =
    let both = found_in r resolved handles place x are is in
    let named : name ≡ name_of r x.handle = name_is ∙ ap (entity_name x.handle) both.1 in
    sym (ap (option_map (name_of r)) both.0 ∙ ap Some (sym named))

same_handle : (a b : Handle) → a.number ≡ b.number → a ≡ b
same_handle a b same = let number : ℕ → Handle = λ n. record { number = n } in ap number same

head_of_map : {X Y : Type 0} (f : X → Y) (xs : List X) (n : ℕ) (x : X) (y : Y)
    → slice_get xs 0 ≡ Some x → slice_get (map f (take n xs)) 0 ≡ Some y → y ≡ f x
head_of_map f [] n x y at is = absurd cc
head_of_map f (z ∷ zs) zero x y at is = absurd cc
head_of_map f (z ∷ zs) (suc n) x y at is = cc

-- If a handle equals the first handle, its Name is the first Name.
pub next_again : (r : Record) (resolved : List Resolved) (handles : List Handle)
    (names : List (List ℕ)) (place : ℕ) (first x : Resolved) (name : List ℕ)
    → AreFound r resolved handles → names ≡ map (name_of r) (take (length names) handles)
    → slice_get resolved 0 ≡ Some first → slice_get resolved place ≡ Some x
    → slice_get names 0 ≡ Some name → first.handle.number ≡ x.handle.number
    → Some name ≡ option_map (name_of r) (slice_get handles place)
next_again r resolved handles names place first x name are names_are at_first at_x at_name same =
    let one = found_in r resolved handles 0 first are at_first in
    let other = found_in r resolved handles place x are at_x in
    let named : name ≡ name_of r first.handle =
    head_of_map (name_of r) handles (length names) first.handle name one.0
    (ap (λ l. slice_get l 0) (sym names_are) ∙ at_name) in
    let again : name ≡ name_of r x.handle =
    named ∙ ap (name_of r) (same_handle first.handle x.handle same) in
    sym (ap (option_map (name_of r)) other.0 ∙ ap Some (sym again))

-- Appending the mapped element at index n to the first n elements of a mapped list gives its first
-- n + 1 elements.
one_more : {X Y : Type 0} (f : X → Y) (xs : List X) (n m : ℕ) (y : Y) → m ≡ suc n
    → Some y ≡ option_map f (slice_get xs n) → map f (take n xs) ++ y ∷ [] ≡ map f (take m xs)
one_more f [] n m y next is = absurd cc
one_more f (x ∷ xs) zero m y next is =
    let this : y ≡ f x = cc in
    rw next (ap (λ l. l ∷ []) this)
one_more f (x ∷ xs) (suc n) m y next is =
    rw next (ap (λ l. f x ∷ l) (one_more f xs n (suc n) y refl is))

pub one_more_named : (r : Record) (handles : List Handle) (names : List (List ℕ)) (n m : ℕ)
    (name : List ℕ) → n ≡ length names → m ≡ suc n → names ≡ map (name_of r) (take n handles)
    → Some name ≡ option_map (name_of r) (slice_get handles n)
    → names ++ name ∷ [] ≡ map (name_of r) (take m handles)
one_more_named r handles names n m name size next are is =
    ap (λ l. l ++ name ∷ []) are ∙ one_more (name_of r) handles n m name next is

-- ---- what an entry has to authorize

pub one_to_grant : (r : Record) (session : Session) (granted : Granted) → IsUsed r granted.used
    → granted.takes_value ≡ takes_value r session (grant_by granted)
    → ForSome (Some granted) (IsToGrant r session)
one_to_grant r session granted used takes other same =
    let those : granted ≡ other = cc in
    subst (IsToGrant r session) those (record { used = used; takes = takes })

-- ---- entries and their sessions

-- There is one session, or None, for each entry.
pub sessions_as_many : (r : Record) (sessions : List (Option (Bor Session)))
    (entries : List AuthEntry) → AreSessions r sessions (map entry_of entries)
    → length sessions ≡ length entries
sessions_as_many r [] [] are = refl
sessions_as_many r [] (e ∷ es) are = absurd cc
sessions_as_many r (s ∷ ss) [] are = absurd cc
sessions_as_many r (s ∷ ss) (e ∷ es) are =
    let others : AreSessions r ss (map entry_of es) = cc in
    ap suc (sessions_as_many r ss es others)

-- The session at a position is the session that the entry at the same position names.
pub session_at_place : (r : Record) (sessions : List (Option (Bor Session)))
    (entries : List AuthEntry) (place : ℕ) (d : Option (Bor Session)) (e : AuthEntry)
    → AreSessions r sessions (map entry_of entries) → place < length entries
    → option_copied (slice_index_or sessions place d)
    ≡ session_of r (entry_of (slice_index_or entries place e))
session_at_place r [] [] place d x are within = absurd (omega (arith, within))
session_at_place r [] (e ∷ es) place d x are within = absurd cc
session_at_place r (s ∷ ss) [] place d x are within = absurd cc
session_at_place r (s ∷ ss) (e ∷ es) zero d x are within = cc
session_at_place r (s ∷ ss) (e ∷ es) (suc place) d x are within =
    let others : AreSessions r ss (map entry_of es) = cc in
    session_at_place r ss es place d x others (omega (arith, within))

-- If there is only one entry, it is the whole list of entries.
pub only_entry : (entries : List AuthEntry) (d : AuthEntry) → 1 ≤ length entries
    → length entries < 2 → map entry_of entries ≡ entry_of (slice_index_or entries 0 d) ∷ []
only_entry [] d some one = absurd (omega arith)
only_entry (entry ∷ []) d some one = refl
only_entry (entry ∷ other ∷ entries) d some one = absurd (omega arith)
