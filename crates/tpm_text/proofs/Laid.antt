-- Lemmas about tokens that are read one after another, and about the encodings that are written for
-- their values.
use Rattle.tpm_types_common.specs.Limits.{buffer_limit}
use Rattle.std.proofs.Common.{◌≡◌, ℕ, zero, suc, ◌≤◌, true, false, List, [], ◌∷◌, ◌++◌, length, take, Option, Some, None, Result, Ok, Err, refl, sym, ap, ◌∙◌, append-nil, arith}
use Rattle.std.specs.Option.{ForSome, option_map}
use Rattle.std.proofs.lemmas.Grind.{common_steps}
use Rattle.tpm_bytes.specs.Reading.{◌>>=◌}
use Rattle.tpm_types_common.specs.declared.handle.Handle.{Handle}
use Rattle.tpm_commands.specs.declared.shape.ParameterKind.{ParameterKind}
use Rattle.tpm_types_command.specs.AuthEntry.{Entry, auth_entry_text}
use Rattle.tpm_types_command.specs.Command.{handle_text, handles_text}
use Rattle.tpm_text.specs.declared.draft.Draft.{Draft}
use Rattle.tpm_text.specs.declared.fault.AsmFault.{AsmFault}
use Rattle.tpm_text.specs.declared.fault.AsmFault.TheVariants as fault
use Rattle.tpm_number.specs.declared.fault.TokenFault.{TokenFault}
use Rattle.tpm_text.specs.Draft.{drafted_bytes, grown_draft}
use Rattle.tpm_text.specs.Entry.{begins_entry, entry_in, handle_in, text_of_entry}
use Rattle.tpm_bytes.specs.Reading.{Gives}
use Rattle.tpm_text.specs.Fault.{at_column, fault_at}
use Rattle.tpm_text.specs.TokenReading.{DraftsRead, first_is_entry}
use Rattle.tpm_text.specs.Line.{entry_tokens_in, handles_in, parameters_in}
use Rattle.tpm_text.specs.Parameter.{parameter_text}
use Rattle.tpm_text.specs.Pieces.{Token}
use Rattle.tpm_text.proofs.Growing.{fits, grown-grown, none_grows}

length-take-le-both : (size : ℕ) (bytes : List ℕ) → length (take size bytes) ≤ size
length-take-le-both size bytes = grind (arith, common_steps)

same_size : (bytes : List ℕ) (used : Option ℕ) → ForSome used (λ size. size ≤ buffer_limit)
    → (let text = option_map (λ size. take size bytes) used in grown_draft text [] ≡ text)
same_size bytes None h = none_grows []
same_size bytes (Some size) h =
    fits (take size bytes) [] (let small =
    h size refl in omega (arith, small, length-take-le-both size bytes))
    ∙ ap Some (append-nil (take size bytes))

pub nothing_grows : (draft : Draft) → grown_draft (drafted_bytes draft) [] ≡ drafted_bytes draft
nothing_grows draft = same_size draft.bytes draft.used draft.within

-- Writing the encoding of the first value, and then the encodings of the other values, writes the
-- encoding of all values.
pub laid_behind : {A E : Type 0} (text : A → List ℕ) (front : List ℕ) (join : A → A)
    → ((x : A) → text (join x) ≡ front ++ text x)
    → (rest : Result (A × List Token) E) (old middle : Option (List ℕ))
    (result : Result (Unit {0}) E) (new : Option (List ℕ)) (left : List Token)
    → middle ≡ grown_draft old front → DraftsRead text rest middle result new left
    → DraftsRead text (rest >>= λ others. Ok (join others.0, others.1)) old result new left
laid_behind text front join joins (Ok read) old middle (Ok done) new left m h = (
  h.0 ∙ ap (λ d. grown_draft d (text read.0)) m ∙ grown-grown old front (text read.0)
      ∙ ap (grown_draft old) (sym (joins read.0)),
  h.1,
)
laid_behind text front join joins (Ok read) old middle (Err found) new left m h = absurd h
laid_behind text front join joins (Err fault) old middle (Ok done) new left m h = absurd h
laid_behind text front join joins (Err fault) old middle (Err found) new left m h = h

-- ---- the result of reading a token

pub gives_is : {X E : Type 0} (definition result : Result X E) → Gives (λ x. x) definition result
    → definition ≡ result
gives_is definition (Ok x) h = h
gives_is definition (Err fault) h = h

pub column_ok : {X : Type 0} (column : ℕ) (read : Result X TokenFault) (x : X)
    → at_column column read ≡ Ok x → read ≡ Ok x
column_ok column (Ok y) x e = cc
column_ok column (Err fault) x e = absurd cc

pub column_err : {X : Type 0} (column : ℕ) (read : Result X TokenFault) (found : AsmFault)
    → at_column column read ≡ Err found → (token : TokenFault) × (read ≡ Err token)
    × (found ≡ fault_at column token)
column_err column (Ok y) found e = absurd cc
column_err column (Err token) found e = (token, refl, cc)

-- ---- handles

pub no_handles : (count : ℕ) (tokens : List Token) → count ≡ 0
    → handles_in count tokens ≡ Ok ([], tokens)
unfolding handles_in
no_handles zero tokens e = refl
no_handles (suc count) tokens e = absurd (omega (arith, e))

pub handle_missing : (count : ℕ) (tokens : List Token) → (count ≡ 0 → ⊥) → tokens ≡ []
    → handles_in count tokens ≡ Err fault.Missing
unfolding handles_in
handle_missing zero tokens some e = absurd (some refl)
handle_missing (suc count) tokens some e = rw e refl

pub handle_bad : (count : ℕ) (tokens rest : List Token) (token : Token) (found : AsmFault)
    → (count ≡ 0 → ⊥) → tokens ≡ token ∷ rest
    → at_column token.column (handle_in token.text) ≡ Err found
    → handles_in count tokens ≡ Err found
unfolding handles_in
handle_bad zero tokens rest token found some e f = absurd (some refl)
handle_bad (suc count) tokens rest token found some e f = rw (e, f) refl

pub handle_first : (count less : ℕ) (tokens rest : List Token) (token : Token) (handle : Handle)
    → count ≡ suc less → tokens ≡ token ∷ rest
    → at_column token.column (handle_in token.text) ≡ Ok handle
    → handles_in count tokens
    ≡ (handles_in less rest >>= λ others. Ok (handle ∷ others.0, others.1))
unfolding handles_in
handle_first count less tokens rest token handle some e f = rw (some, e, f) refl

pub no_handles_text : handles_text [] ≡ []
unfolding handles_text
no_handles_text = refl

pub handle_before : (handle : Handle) (handles : List Handle)
    → handles_text (handle ∷ handles) ≡ handle_text handle ++ handles_text handles
unfolding handles_text
handle_before handle handles = refl

-- ---- entries

pub no_entries : (most : ℕ) (tokens : List Token) → most ≡ 0
    → entry_tokens_in most tokens ≡ Ok ([], tokens)
unfolding entry_tokens_in
no_entries zero tokens e = refl
no_entries (suc most) tokens e = absurd (omega (arith, e))

pub entries_end : (most : ℕ) (tokens : List Token) → first_is_entry tokens ≡ false
    → entry_tokens_in most tokens ≡ Ok ([], tokens)
unfolding entry_tokens_in
entries_end zero tokens e = refl
entries_end (suc most) [] e = refl
entries_end (suc most) (token ∷ tokens) e = rw e refl

pub entry_bad : (most : ℕ) (tokens rest : List Token) (token : Token) (found : AsmFault)
    → (most ≡ 0 → ⊥) → tokens ≡ token ∷ rest → begins_entry token.text ≡ true → (fault : TokenFault)
    → entry_in token.text ≡ Err fault → found ≡ fault_at token.column fault
    → entry_tokens_in most tokens ≡ Err found
unfolding entry_tokens_in
entry_bad zero tokens rest token found some e is fault f g = absurd (some refl)
entry_bad (suc most) tokens rest token found some e is fault f g = rw (e, is, f, g) refl

pub entry_first : (most less : ℕ) (tokens rest : List Token) (token : Token) (entry : Entry)
    → most ≡ suc less → tokens ≡ token ∷ rest → begins_entry token.text ≡ true
    → entry_in token.text ≡ Ok entry
    → entry_tokens_in most tokens
    ≡ (entry_tokens_in less rest >>= λ others. Ok (entry ∷ others.0, others.1))
unfolding entry_tokens_in
entry_first most less tokens rest token entry some e is f = rw (some, e, is, f) refl

pub entry_read : (read : Result Entry TokenFault) (text : List ℕ) → text_of_entry read ≡ Ok text
    → (entry : Entry) × (read ≡ Ok entry) × (text ≡ auth_entry_text entry)
entry_read (Ok entry) text e = (entry, refl, cc)
entry_read (Err fault) text e = absurd cc

pub entry_refused : (read : Result Entry TokenFault) (fault : TokenFault)
    → text_of_entry read ≡ Err fault → read ≡ Err fault
entry_refused (Ok entry) fault e = absurd cc
entry_refused (Err other) fault e = ap Err cc

-- ---- parameters

pub no_parameters : (kinds : List ParameterKind) (tokens : List Token) → length kinds ≡ 0
    → parameters_in kinds tokens ≡ Ok ([], tokens)
unfolding parameters_in
no_parameters [] tokens e = refl
no_parameters (kind ∷ kinds) tokens e = absurd (omega (arith, e))

pub parameter_missing : (kinds others : List ParameterKind) (kind : ParameterKind)
    (tokens : List Token) → kinds ≡ kind ∷ others → tokens ≡ []
    → parameters_in kinds tokens ≡ Err fault.Missing
unfolding parameters_in
parameter_missing kinds others kind tokens k e = rw (k, e) refl

pub parameter_bad : (kinds others : List ParameterKind) (kind : ParameterKind)
    (tokens rest : List Token) (token : Token) (found : AsmFault) → kinds ≡ kind ∷ others
    → tokens ≡ token ∷ rest → (fault : TokenFault) → parameter_text kind token.text ≡ Err fault
    → found ≡ fault_at token.column fault → parameters_in kinds tokens ≡ Err found
unfolding parameters_in
parameter_bad kinds others kind tokens rest token found k e fault f g = rw (k, e, f, g) refl

pub parameter_first : (kinds others : List ParameterKind) (kind : ParameterKind)
    (tokens rest : List Token) (token : Token) (text : List ℕ) → kinds ≡ kind ∷ others
    → tokens ≡ token ∷ rest → parameter_text kind token.text ≡ Ok text
    → parameters_in kinds tokens
    ≡ (parameters_in others rest >>= λ others. Ok (text ++ others.0, others.1))
unfolding parameters_in
parameter_first kinds others kind tokens rest token text k e f = rw (k, e, f) refl
