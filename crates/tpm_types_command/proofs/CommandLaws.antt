-- A read returns a command exactly when the whole input is its encoding.
use Rattle.std.proofs.Common.{◌≡◌, ℕ, ◌+◌, ◌*◌, ◌<◌, ◌≤◌, ◌^◌, Bool, true, false, List, [], ◌∷◌, ◌++◌, length, Result, Ok, Err, refl, sym, ap, subst, ◌∙◌, append_assoc, arith, length-append}
use Rattle.std.specs.Prelude.{IfOk, if◌then◌else◌}
use Rattle.std.specs.List.{flat_map, AllByRecursion}
use Rattle.tpm_bytes.specs.Reading.{◌>>=◌, Reads}
use Rattle.tpm_bytes.proofs.Fields.{AreBytes, Takes, Takes-then, bind_ok, ok_is}
use Rattle.tpm_types_command.specs.declared.header.HeaderFault.{HeaderFault}
use Rattle.tpm_types_common.specs.declared.handle.Handle.{Handle}
use Rattle.tpm_types_common.specs.declared.rc.Rc.{Rc}
use Rattle.tpm_types_command.specs.declared.tag.Tag.{Tag}
use Rattle.tpm_types_command.specs.declared.tag.Tag.TheVariants.{NoSessions, Sessions}
use Rattle.tpm_types_command.specs.declared.command.Command.{Command}
use Rattle.tpm_types_command.specs.AuthArea.{area_text, entries_text}
use Rattle.tpm_types_command.specs.AuthEntry.{Entry, IsEntry}
use Rattle.tpm_types_command.specs.Command.{IsCommand, Whole, command_body_text, command_at, command_size, command_text, handle_text, handles_at, handles_text, header_or_rc, command_after, served_command_at, sessions_at, sessions_text, tag_for, whole_command}
use Rattle.tpm_types_command.specs.Header.{header_at, header_text, if_served}
use Rattle.tpm_types_command.specs.declared.header.Header.{Header}
use Rattle.tpm_types_command.specs.declared.header.HeaderFault.TheVariants as fault
use Rattle.tpm_commands.specs.declared.profile.Profile.{Profile}
use Rattle.tpm_commands.specs.CommandCode.{handle_count, serves}
use Rattle.tpm_types_command.proofs.EntryLaws.{area_again, area_takes}
use Rattle.tpm_types_command.proofs.HandleLemmas.{handles_again, handles_take, handles_text-is, length-handles}
use Rattle.tpm_types_command.proofs.HeaderLaws.{header_again, header_takes}

header_or_rc_ok : {A : Type 0} (r : Result A HeaderFault) (x : A) → header_or_rc r ≡ Ok x → r ≡ Ok x
header_or_rc_ok (Ok y) x e = cc
header_or_rc_ok (Err f) x e = absurd cc

-- ---- the authorization area, if there are sessions

-- The bytes start with the encoding of these entries, at most three and all valid. The tag shows
-- whether there are entries.
pub record AreSessions (tag : Tag) (bytes : List ℕ) (x : List Entry × List ℕ) : Type 0 where
  pub text : Takes bytes (sessions_text x.0) x.1
  pub tag_is : tag_for x.0 ≡ tag
  pub few : length x.0 ≤ 3
  pub each : AllByRecursion IsEntry x.0

area_is : (bytes rest : List ℕ) (entries : List Entry) → Takes bytes (area_text entries) rest
    → length entries ≤ 3 → AllByRecursion IsEntry entries → 9 ≤ length (entries_text entries)
    → AreSessions Sessions bytes (entries, rest)
area_is bytes rest [] text few each some = absurd (omega arith)
area_is bytes rest (entry ∷ entries) text few each some =
    record { text = text; tag_is = refl; few = few; each = each }

sessions_take : (tag : Tag) (bytes : List ℕ) (x : List Entry × List ℕ) → AreBytes bytes
    → sessions_at tag bytes ≡ Ok x → AreSessions tag bytes x
sessions_take NoSessions bytes x fits e =
    subst (AreSessions NoSessions bytes) (ok_is ([], bytes) x e)
    (record {
      text = record { parts = refl; rest_fits = fits };
      tag_is = refl;
      few =
          omega arith;
      each = tt;
    })
sessions_take Sessions bytes x fits e = let t =
    area_takes bytes x fits e in area_is bytes x.1 x.0 t.0 t.1 t.2 t.3

sessions_again : (entries : List Entry) (rest : List ℕ) → length entries ≤ 3
    → AllByRecursion IsEntry entries → length (sessions_text entries) < 2 ^ 32
    → sessions_at (tag_for entries) (sessions_text entries ++ rest) ≡ Ok (entries, rest)
sessions_again [] rest few each small = refl
sessions_again (entry ∷ entries) rest few each small =
    area_again (entry ∷ entries) rest (omega arith) few each (omega arith)

-- ---- a command

pub command_text-is : (c : Whole) → command_text c
    ≡ header_text (tag_for c.entries) (command_size c) c.code ++ command_body_text c
unfolding command_text
command_text-is c = refl

pub command_body_text-is : (c : Whole) → command_body_text c ≡ flat_map handle_text c.handles
    ++ sessions_text c.entries ++ c.parameters
unfolding command_body_text
command_body_text-is c = ap (λ (l : List ℕ). l ++ sessions_text c.entries ++ c.parameters)
    (handles_text-is c.handles)

pub command_size-is : (c : Whole) → command_size c ≡ 10 + length (command_body_text c)
unfolding command_size
command_size-is c = refl

length-header_text : (tag : Tag) (size : ℕ) (code : _) → length (header_text tag size code) ≡ 10
unfolding header_text
length-header_text tag size code = refl

pub length-body : (c : Whole) → length (command_body_text c)
    ≡ 4 * length c.handles + length (sessions_text c.entries) + length c.parameters
length-body c =
    let handles = flat_map handle_text c.handles in
    ap length (command_body_text-is c)
    ∙ omega (
      arith,
      length-append (handles ++ sessions_text c.entries) c.parameters,
      length-append handles (sessions_text c.entries),
      length-handles c.handles,
    )

pub command_takes : (bytes : List ℕ) (x : Whole × List ℕ) → AreBytes bytes → command_at bytes ≡ Ok x
    → IsCommand x.0 × (bytes ≡ command_text x.0) × (x.1 ≡ [])
unfolding command_at
command_takes bytes x fits e =
    let a = bind_ok (header_or_rc (header_at bytes))
    (λ header. handles_at 1 (handle_count header.0.code) header.1
    >>= λ handles. sessions_at header.0.tag handles.1
    >>= λ entries.
    Ok (
      record {
        code = header.0.code;
        handles = handles.0;
        entries = entries.0;
        parameters =
            entries.1;
      },
      [],
    )) x e in
    let b = bind_ok (handles_at 1 (handle_count a.0.0.code) a.0.1)
    (λ handles. sessions_at a.0.0.tag handles.1
    >>= λ entries.
    Ok (
      record {
        code = a.0.0.code;
        handles = handles.0;
        entries = entries.0;
        parameters =
            entries.1;
      },
      [],
    )) x a.2 in
    let d = bind_ok (sessions_at a.0.0.tag b.0.1)
    (λ entries.
    Ok (
      record {
        code = a.0.0.code;
        handles = b.0.0;
        entries = entries.0;
        parameters =
            entries.1;
      },
      [],
    )) x b.2 in
    let h = header_takes bytes a.0 fits (header_or_rc_ok (header_at bytes) a.0 a.1) in
    let t1 = handles_take (handle_count a.0.0.code) 1 a.0.1 b.0 h.text.rest_fits b.1 in
    let t2 = sessions_take a.0.0.tag b.0.1 d.0 t1.0.rest_fits d.1 in
    let whole : Whole = record {
      code = a.0.0.code;
      handles = b.0.0;
      entries = d.0.0;
      parameters =
          d.0.1;
    } in
    let body : a.0.1 ≡ command_body_text whole =
    (Takes-then a.0.1 (flat_map handle_text b.0.0) b.0.1 (sessions_text d.0.0) d.0.1 t1.0
    t2.text).parts ∙ sym (command_body_text-is whole) in
    let size : length bytes ≡ command_size whole =
    ap length h.text.parts ∙ length-append (header_text a.0.0.tag (length bytes) a.0.0.code)
    a.0.1 ∙ ap (λ n. n + length a.0.1) (length-header_text a.0.0.tag (length bytes) a.0.0.code)
    ∙ ap (λ (l : List ℕ). 10 + length l) body ∙ sym (command_size-is whole) in
    let spelled : bytes ≡ command_text whole =
    h.text.parts
    ∙ ap (λ (l : List ℕ). header_text a.0.0.tag (length bytes) a.0.0.code ++ l) body
    ∙ ap (λ n. header_text a.0.0.tag n a.0.0.code ++ command_body_text whole) size
    ∙ ap (λ (t : Tag). header_text t (command_size whole) a.0.0.code ++ command_body_text whole)
    (sym t2.tag_is)
    ∙ sym (command_text-is whole) in
    let most = h.most in
    let made : Whole × List ℕ = (whole, []) in
    subst (λ (y : Whole × List ℕ). IsCommand y.0 × (bytes ≡ command_text y.0) × (y.1 ≡ []))
    (ok_is made x d.2) (
      record {
        handle_count = t1.1;
        handles = t1.2;
        entry_count = t2.few;
        entries =
            t2.each;
        size = omega arith;
      },
      spelled,
      refl,
    )

pub command_again : (c : Whole) → IsCommand c → command_at (command_text c) ≡ Ok (c, [])
unfolding command_at
command_again c is =
    let small = is.size in
    let size-is = command_size-is c in
    let length-is = length-body c in
    let header = header_again (tag_for c.entries) (command_size c) c.code (command_body_text c)
    size-is small in
    let regrouped : command_body_text c ≡ flat_map handle_text c.handles
    ++ (sessions_text c.entries ++ c.parameters) =
    command_body_text-is c ∙ append_assoc (flat_map handle_text c.handles)
    (sessions_text c.entries) c.parameters in
    let handles : handles_at 1 (handle_count c.code) (command_body_text c)
    ≡ Ok (c.handles, sessions_text c.entries ++ c.parameters) =
    ap (λ n. handles_at 1 n (command_body_text c)) (sym is.handle_count)
    ∙ ap (handles_at 1 (length c.handles)) regrouped
    ∙ handles_again c.handles 1 (sessions_text c.entries ++ c.parameters) is.handles in
    let sessions = sessions_again c.entries c.parameters is.entry_count is.entries (omega arith) in
    ap command_at (command_text-is c) ∙ rw (header, handles, sessions) refl

-- ---- the commands of a profile

-- a command that a device of some profile serves is read as one that is known
served_read : (profile : Profile) (text : List ℕ) (x : Whole × List ℕ)
    → served_command_at profile text ≡ Ok x → command_at text ≡ Ok x
unfolding served_command_at command_at
served_read profile text x e = by (header_at text) e
  where
    chosen : (h : Header × List ℕ) (b : Bool)
        → (header_or_rc (if b then Ok h else Err fault.Code) >>= command_after) ≡ Ok x
        → command_after h ≡ Ok x
    chosen h true e = e
    chosen h false e = absurd cc

    by : (read : Result (Header × List ℕ) HeaderFault)
        → (header_or_rc (if_served profile read) >>= command_after) ≡ Ok x
        → (header_or_rc read >>= command_after) ≡ Ok x
    by (Ok h) e = chosen h (serves profile h.0.code) e
    by (Err f) e = absurd cc

-- the encoding of a command that a device of this profile serves is read as that command
pub served_again : (profile : Profile) (c : Whole) → IsCommand c → serves profile c.code ≡ true
    → served_command_at profile (command_text c) ≡ Ok (c, [])
unfolding served_command_at command_at
served_again profile c is serves_it =
    let header = header_again (tag_for c.entries) (command_size c) c.code (command_body_text c)
    (command_size-is c) is.size in
    let read : header_at (command_text c)
    ≡ Ok (record { tag = tag_for c.entries; code = c.code }, command_body_text c) =
    ap header_at (command_text-is c) ∙ header in
    ap (λ (h : Result (Header × List ℕ) HeaderFault). header_or_rc (if_served profile h)
    >>= command_after) read
    ∙ ap (λ (b : Bool). header_or_rc
    (let h : Result (Header × List ℕ) HeaderFault =
    if b then Ok (record { tag = tag_for c.entries; code = c.code }, command_body_text c)
    else Err fault.Code in h) >>= command_after) serves_it
    ∙ sym (ap (λ (h : Result (Header × List ℕ) HeaderFault). header_or_rc h >>= command_after) read)
    ∙ command_again c is

-- ---- the contracts of reading a command

pub command_found : (profile : Profile) (old : List ℕ) (result : Result Command Rc) (new : List ℕ)
    → AreBytes old → Reads whole_command (served_command_at profile old) old result new
    → IfOk result (λ command. IsCommand (whole_command command)
    × (old ≡ command_text (whole_command command))
    × (new ≡ []))
command_found profile old (Ok command) new fits reads =
    command_takes old (whole_command command, new) fits
    (served_read profile old (whole_command command, new) reads)
command_found profile old (Err fault) new fits reads = tt

-- ---- writing a command

-- commandSize is the sum of the sizes of the command's parts
pub size_is : (c : Whole) (handles sessions : ℕ) → handles ≡ length c.handles
    → sessions ≡ length (sessions_text c.entries)
    → 10 + 4 * handles + sessions + length c.parameters ≡ command_size c
size_is c handles sessions e f = omega (arith, command_size-is c, length-body c)

-- If the sink has room for a whole command, it still has room for the rest of the command after the
-- header is written.
pub room_behind_header : (c : Whole) (capacity size : ℕ) (tag : Tag) (old one : List ℕ)
    → one ≡ old ++ header_text tag size c.code → length old + command_size c ≤ capacity
    → length one + 4 * length c.handles + length (sessions_text c.entries) + length c.parameters
    ≤ capacity
room_behind_header c capacity size tag old one is room =
    rw is
    (omega (
      arith,
      command_size-is c,
      length-body c,
      length-append old (header_text tag size c.code),
      length-header_text tag size c.code,
    ))

pub length-handles_text : (handles : List Handle)
    → length (handles_text handles) ≡ 4 * length handles
length-handles_text handles = ap length (handles_text-is handles) ∙ length-handles handles

pub command_written : (c : Whole) (size : ℕ) (tag : Tag) (old one two three new : List ℕ)
    → size ≡ command_size c → tag ≡ tag_for c.entries → one ≡ old ++ header_text tag size c.code
    → two ≡ one ++ handles_text c.handles → three ≡ two ++ sessions_text c.entries
    → new ≡ three ++ c.parameters → new ≡ old ++ command_text c
command_written c size tag old one two three new size-is tag-is e1 e2 e3 e4 =
    let header = header_text (tag_for c.entries) (command_size c) c.code in
    let handles = handles_text c.handles in
    let sessions = sessions_text c.entries in
    let first : one ≡ old ++ header = e1 ∙ ap (λ (t : Tag). old ++ header_text t size c.code) tag-is
    ∙ ap (λ n. old ++ header_text (tag_for c.entries) n c.code) size-is in
    let body : (handles ++ sessions) ++ c.parameters ≡ command_body_text c =
    ap (λ (l : List ℕ). l ++ sessions ++ c.parameters) (handles_text-is c.handles)
    ∙ sym (command_body_text-is c) in
    e4
    ∙ ap (λ (l : List ℕ). l ++ c.parameters) e3
    ∙ ap (λ (l : List ℕ). (l ++ sessions) ++ c.parameters) e2
    ∙ ap (λ (l : List ℕ). ((l ++ handles) ++ sessions) ++ c.parameters) first
    ∙ regroup old header handles sessions c.parameters
    ∙ ap (λ (l : List ℕ). old ++ (header ++ l)) body
    ∙ ap (λ (l : List ℕ). old ++ l) (sym (command_text-is c))
  where
    regroup : (a b c d e : List ℕ) → (((a ++ b) ++ c) ++ d) ++ e ≡ a ++ (b ++ ((c ++ d) ++ e))
    regroup a b c d e = simp append_assoc
