-- Lemmas about a line whose parts are read one after another.
use Rattle.tpm_types_common.specs.Limits.{buffer_limit}
use Rattle.std.proofs.Common.{◌≡◌, ℕ, ◌+◌, ◌≤◌, Bool, true, false, cond, List, [], ◌∷◌, ◌++◌, length, drop, Option, Some, None, IfSome, Result, Ok, Err, refl, sym, ap, ◌∙◌, subst, arith, length-append}
use Rattle.std.specs.Prelude.{nat_le, nat_lt}
use Rattle.std.specs.Option.{IsSome}
use Rattle.std.specs.Int.{w32, to_be_bytes}
use Rattle.std.proofs.lemmas.Bool.{le-ltb, leb-false, leb-true, lt-ltb}
use Rattle.std.proofs.lemmas.List.{drop_at}
use Rattle.tpm_bytes.specs.Reading.{◌>>=◌, refused_if}
use Rattle.tpm_types_common.specs.declared.handle.Handle.{Handle}
use Rattle.tpm_commands.specs.declared.command_code.CommandCode.{CommandCode}
use Rattle.tpm_types_command.specs.declared.tag.Tag.{Tag}
use Rattle.tpm_types_command.specs.declared.tag.Tag.TheVariants.{Sessions}
use Rattle.tpm_types_command.specs.AuthArea.{entries_text}
use Rattle.tpm_types_command.specs.AuthEntry.{Entry}
use Rattle.tpm_types_command.specs.Command.{command_body_text, command_size, command_text, handles_text, sessions_text, tag_for}
use Rattle.tpm_commands.specs.CommandCode.{handle_count, shape_of}
use Rattle.tpm_types_command.specs.Header.{header_text}
use Rattle.tpm_text.specs.declared.fault.AsmFault.{AsmFault}
use Rattle.tpm_text.specs.declared.fault.AsmFault.TheVariants.{TooLong}
use Rattle.tpm_text.specs.Draft.{Finishes, finished_command, grown_draft, with_area}
use Rattle.tpm_text.specs.Entry.{entry_in}
use Rattle.tpm_text.specs.Fault.{at_column}
use Rattle.tpm_text.specs.TokenReading.{DraftsRead, DraftsSessions, ReadsTokens, first_is_entry}
use Rattle.tpm_commands.specs.declared.profile.Profile.{Profile}
use Rattle.tpm_text.specs.Line.{assembled_for, end_of_line, entry_tokens_in, handles_in, name_in, parameters_in, spelled_for}
use Rattle.tpm_text.specs.Pieces.{Token, tokens_of}
use Rattle.tpm_text.proofs.Growing.{fits, grown-grown, none_grows, spills, too_much}

-- ---- the encoding of a part of a line

pub reads_tokens_ok : {A E : Type 0} (read : Result (A × List Token) E) (result : Result A E)
    (x : A) (left : List Token) → result ≡ Ok x → ReadsTokens (λ a. a) read result left
    → read ≡ Ok (x, left)
reads_tokens_ok (Ok read) (Ok y) x left e h = let same : y ≡ x =
    cc in ap (λ a. Ok (a, read.1)) (h.0 ∙ same) ∙ ap (λ l. Ok (x, l)) (sym h.1)
reads_tokens_ok (Ok read) (Err found) x left e h = absurd h
reads_tokens_ok (Err fault) (Ok y) x left e h = absurd h
reads_tokens_ok (Err fault) (Err found) x left e h = absurd cc

pub reads_tokens_err : {A E : Type 0} (read : Result (A × List Token) E) (result : Result A E)
    (fault : E) (left : List Token) → result ≡ Err fault → ReadsTokens (λ a. a) read result left
    → read ≡ Err fault
reads_tokens_err (Ok read) (Ok y) fault left e h = absurd cc
reads_tokens_err (Ok read) (Err found) fault left e h = absurd h
reads_tokens_err (Err other) (Ok y) fault left e h = absurd h
reads_tokens_err (Err other) (Err found) fault left e h = ap Err (sym h ∙ cc)

pub drafts_read_ok : {A E : Type 0} (text : A → List ℕ) (read : Result (A × List Token) E)
    (old new : Option (List ℕ)) (result : Result (Unit {0}) E) (left : List Token) → result ≡ Ok tt
    → DraftsRead text read old result new left
    → (a : A) × (read ≡ Ok (a, left)) × (new ≡ grown_draft old (text a))
drafts_read_ok text (Ok read) old new (Ok done) left e h =
    (read.0, ap (λ l. Ok (read.0, l)) (sym h.1), h.0)
drafts_read_ok text (Ok read) old new (Err found) left e h = absurd h
drafts_read_ok text (Err fault) old new (Ok done) left e h = absurd h
drafts_read_ok text (Err fault) old new (Err found) left e h = absurd cc

pub drafts_read_err : {A E : Type 0} (text : A → List ℕ) (read : Result (A × List Token) E)
    (old new : Option (List ℕ)) (result : Result (Unit {0}) E) (fault : E) (left : List Token)
    → result ≡ Err fault → DraftsRead text read old result new left → read ≡ Err fault
drafts_read_err text (Ok read) old new (Ok done) fault left e h = absurd cc
drafts_read_err text (Ok read) old new (Err found) fault left e h = absurd h
drafts_read_err text (Err other) old new (Ok done) fault left e h = absurd h
drafts_read_err text (Err other) old new (Err found) fault left e h = ap Err (sym h ∙ cc)

pub sessions_ok : {E : Type 0} (read : Result (List Entry × List Token) E)
    (old new : Option (List ℕ)) (result : Result Tag E) (tag : Tag) (left : List Token)
    → result ≡ Ok tag → DraftsSessions read old result new left
    → (entries : List Entry) × (read ≡ Ok (entries, left)) × (tag ≡ tag_for entries)
    × (new ≡ grown_draft old (sessions_text entries))
sessions_ok (Ok read) old new (Ok found) tag left e h = let same : found ≡ tag =
    cc in (read.0, ap (λ l. Ok (read.0, l)) (sym h.2), sym same ∙ h.0, h.1)
sessions_ok (Ok read) old new (Err found) tag left e h = absurd h
sessions_ok (Err fault) old new (Ok found) tag left e h = absurd h
sessions_ok (Err fault) old new (Err found) tag left e h = absurd cc

pub sessions_err : {E : Type 0} (read : Result (List Entry × List Token) E)
    (old new : Option (List ℕ)) (result : Result Tag E) (fault : E) (left : List Token)
    → result ≡ Err fault → DraftsSessions read old result new left → read ≡ Err fault
sessions_err (Ok read) old new (Ok found) fault left e h = absurd cc
sessions_err (Ok read) old new (Err found) fault left e h = absurd h
sessions_err (Err other) old new (Ok found) fault left e h = absurd h
sessions_err (Err other) old new (Err found) fault left e h = ap Err (sym h ∙ cc)

-- ---- the authorization area

-- A draft of entries (`area`) is added to another draft as its authorization area. This appends the
-- size of the entries, and then the entries.
area_is : (old area : Option (List ℕ)) (text : List ℕ) → area ≡ grown_draft (Some []) text
    → with_area old area ≡ grown_draft old (to_be_bytes w32 (length text) ++ text)
unfolding with_area
area_is old area text e = by (nat_le (length text) buffer_limit) refl
  where
    by : (b : Bool) → nat_le (length text) buffer_limit ≡ b
        → with_area old area ≡ grown_draft old (to_be_bytes w32 (length text) ++ text)
    by true short = let less =
        leb-true _ _ short in rw (e ∙ fits [] text (omega (arith, less))) refl
    by false long = let more =
        leb-false _ _ long in rw (e ∙ spills [] text (omega (arith, more)))
        (sym (too_much old (to_be_bytes w32 (length text) ++ text)
        (omega (arith, more, length-append (to_be_bytes w32 (length text)) text))))

pub sessions_laid : (tokens left : List Token) (old area new : Option (List ℕ))
    (result : Result (Unit {0}) AsmFault) → first_is_entry tokens ≡ true → result ≡ Ok tt
    → DraftsRead entries_text (entry_tokens_in 3 tokens) (Some []) result area left
    → new ≡ with_area old area
    → DraftsSessions (entry_tokens_in 3 tokens) old
    (let tag : Result Tag AsmFault = Ok Sessions in tag) new left
unfolding entry_tokens_in
sessions_laid [] left old area new result first done h e = absurd cc
sessions_laid (token ∷ tokens) left old area new result first done h e =
    let read = at_column token.column (entry_in token.text) in
    subst (λ b. DraftsRead entries_text
    (cond b (read >>= λ first. entry_tokens_in 2 tokens
    >>= λ others. Ok (first ∷ others.0, others.1)) (Ok ([], token ∷ tokens))) (Some [])
    result area left
    → DraftsSessions
    (cond b (read >>= λ first. entry_tokens_in 2 tokens
    >>= λ others. Ok (first ∷ others.0, others.1)) (Ok ([], token ∷ tokens))) old
    (Ok Sessions) new left) (sym first) (by read (entry_tokens_in 2 tokens) result done) h
  where
    by : (first : Result Entry AsmFault) (others : Result (List Entry × List Token) AsmFault)
        (result : Result (Unit {0}) AsmFault) → result ≡ Ok tt
        → DraftsRead entries_text (first >>= λ first. others
        >>= λ others. Ok (first ∷ others.0, others.1)) (Some []) result area left
        → DraftsSessions (first >>= λ first. others >>= λ others. Ok (first ∷ others.0, others.1))
        old (let tag : Result Tag AsmFault = Ok Sessions in tag) new left
    by (Ok first) (Ok others) (Ok done) d h =
        (refl, e ∙ area_is old area (entries_text (first ∷ others.0)) h.0, h.1)
    by (Ok first) (Ok others) (Err found) d h = absurd h
    by (Ok first) (Err fault) (Ok done) d h = absurd h
    by (Ok first) (Err fault) (Err found) d h = absurd cc
    by (Err fault) others (Ok done) d h = absurd h
    by (Err fault) others (Err found) d h = absurd cc

-- ---- the encoding of a whole line

fitting : (tag : Tag) (code : CommandCode) (ten body : List ℕ) → length ten ≡ 10
    → finished_command tag code (Some (ten ++ body))
    ≡ Ok (header_text tag (10 + length body) code ++ body)
unfolding finished_command
fitting tag code ten body e =
    ap (λ n. Ok (header_text tag n code ++ drop 10 (ten ++ body)))
    (length-append ten body ∙ ap (λ n. n + length body) e)
    ∙ ap (λ l. Ok (header_text tag (10 + length body) code ++ l)) (drop_at ten body 10 e)

not_fitting : (tag : Tag) (code : CommandCode) → finished_command tag code None ≡ Err TooLong
unfolding finished_command
not_fitting tag code = refl

-- A draft with at least ten bytes still has at least ten after more bytes are added.
pub still_ten : (draft : Option (List ℕ)) (bytes : List ℕ) → IfSome draft (λ text. 10 ≤ length text)
    → IfSome (grown_draft draft bytes) (λ text. 10 ≤ length text)
still_ten None bytes h = subst (λ (d : Option (List ℕ)). IfSome d (λ text. 10 ≤ length text))
    (sym (none_grows bytes)) tt
still_ten (Some text) bytes h = by (nat_le (length text + length bytes) buffer_limit) refl
  where
    by : (b : Bool) → nat_le (length text + length bytes) buffer_limit ≡ b
        → IfSome (grown_draft (Some text) bytes) (λ text. 10 ≤ length text)
    by true short = subst (λ (d : Option (List ℕ)). IfSome d (λ text. 10 ≤ length text))
        (sym (fits text bytes (leb-true _ _ short))) (omega (arith, h, length-append text bytes))
    by false long = subst (λ (d : Option (List ℕ)). IfSome d (λ text. 10 ≤ length text))
        (sym (spills text bytes (leb-false _ _ long))) tt

-- A draft that was just begun contains only ten bytes, which are reserved for the header.
pub begun : (draft : Option (List ℕ)) → IsSome draft → IfSome draft (λ text. length text ≡ 10)
    → (ten : List ℕ) × (draft ≡ Some ten) × (length ten ≡ 10)
begun None is h = absurd cc
begun (Some ten) is h = (ten, refl, h)

-- ---- the first fault of a line

pub name_fault : (profile : Profile) (line : List ℕ) (fault : AsmFault)
    → name_in profile (tokens_of line) ≡ Err fault → assembled_for profile line ≡ Err fault
unfolding assembled_for spelled_for
name_fault profile line fault n = rw n refl

module _ (profile : Profile) (line : List ℕ) (code : CommandCode) (one : List Token)
    (n : name_in profile (tokens_of line) ≡ Ok (code, one)) where
  pub handles_fault : (fault : AsmFault) → handles_in (handle_count code) one ≡ Err fault
      → assembled_for profile line ≡ Err fault
  unfolding assembled_for spelled_for
  handles_fault fault h = rw (n, h) refl

  module _ (handles : List Handle) (two : List Token)
      (h : handles_in (handle_count code) one ≡ Ok (handles, two)) where
    pub entries_fault : (fault : AsmFault) → entry_tokens_in 3 two ≡ Err fault
        → assembled_for profile line ≡ Err fault
    unfolding assembled_for spelled_for
    entries_fault fault s = rw (n, h, s) refl

    module _ (entries : List Entry) (three : List Token)
        (s : entry_tokens_in 3 two ≡ Ok (entries, three)) where
      pub parameters_fault : (fault : AsmFault)
          → parameters_in (shape_of code).parameters three ≡ Err fault
          → assembled_for profile line ≡ Err fault
      unfolding assembled_for spelled_for
      parameters_fault fault p = rw (n, h, s, p) refl

      module _ (parameters : List ℕ) (four : List Token)
          (p : parameters_in (shape_of code).parameters three ≡ Ok (parameters, four)) where
        pub end_fault : (fault : AsmFault) → end_of_line four ≡ Err fault
            → assembled_for profile line ≡ Err fault
        unfolding assembled_for spelled_for
        end_fault fault e = rw (n, h, s, p, e) refl

        body : List ℕ
        body = handles_text handles ++ sessions_text entries ++ parameters

        whole : end_of_line four ≡ Ok tt
            → assembled_for profile line
            ≡ (refused_if (nat_lt buffer_limit (10 + length body)) TooLong
            >>= λ fits. Ok (header_text (tag_for entries) (10 + length body) code ++ body))
        unfolding assembled_for spelled_for command_size command_text command_body_text body
        whole e = rw (n, h, s, p, e) refl

        -- Finishing a draft that contains ten reserved bytes and then the rest of the command
        -- yields the encoding of the command.
        command_is : end_of_line four ≡ Ok tt → (ten : List ℕ) → length ten ≡ 10
            → finished_command (tag_for entries) code (grown_draft (Some ten) body)
            ≡ assembled_for profile line
        command_is e ten ten_is =
            by (nat_le (length ten + length body) buffer_limit) refl ∙ sym (whole e)
          where
            by : (b : Bool) → nat_le (length ten + length body) buffer_limit ≡ b
                → finished_command (tag_for entries) code (grown_draft (Some ten) body)
                ≡ (refused_if (nat_lt buffer_limit (10 + length body)) TooLong
                >>= λ fits. Ok (header_text (tag_for entries) (10 + length body) code ++ body))
            by true short = let less = leb-true _ _ short in
                rw (
                  fits ten body less,
                  le-ltb buffer_limit (10 + length body) (omega (arith, less, ten_is)),
                )
                (fitting (tag_for entries) code ten body ten_is)
            by false long = let more = leb-false _ _ long in
                rw (
                  spills ten body more,
                  lt-ltb buffer_limit (10 + length body) (omega (arith, more, ten_is)),
                )
                (not_fitting (tag_for entries) code)

        pub command_finished : end_of_line four ≡ Ok tt → (tag : Tag) → tag ≡ tag_for entries
            → (ten : List ℕ) → length ten ≡ 10
            → (first second third new : Option (List ℕ)) (result : Result (Unit {0}) AsmFault)
            → first ≡ grown_draft (Some ten) (handles_text handles)
            → second ≡ grown_draft first (sessions_text entries)
            → third ≡ grown_draft second parameters
            → Finishes (finished_command tag code third) result new
            → Finishes (assembled_for profile line) result new
        unfolding body
        command_finished e tag t ten ten_is first second third new result a b c f =
            let all : third ≡ grown_draft (Some ten) body =
            c ∙ ap (λ d. grown_draft d parameters)
            (b ∙ ap (λ d. grown_draft d (sessions_text entries)) a
            ∙ grown-grown (Some ten) (handles_text handles) (sessions_text entries))
            ∙ grown-grown (Some ten) (handles_text handles ++ sessions_text entries)
            parameters in
            subst (λ r. Finishes r result new)
            (ap (λ d. finished_command tag code d) all
            ∙ ap (λ (x : Tag). finished_command x code (grown_draft (Some ten) body)) t
            ∙ command_is e ten ten_is) f
