-- The effects of calls that read tokens and write the encodings of their values.
use Rattle.std.specs.Prelude.{◌≡◌, ℕ, Bool, true, false, List, [], ◌∷◌, Option, Some, None, Result, Ok, Err}
use Rattle.tpm_types_command.specs.declared.tag.Tag.{Tag}
use Rattle.tpm_types_command.specs.AuthEntry.{Entry}
use Rattle.tpm_types_command.specs.Command.{sessions_text, tag_for}
use Rattle.tpm_text.specs.Draft.{grown_draft}
use Rattle.tpm_text.specs.Entry.{begins_entry}
use Rattle.tpm_text.specs.Pieces.{Token}
use Rattle.tpm_text.specs.declared.fault.AsmFault.{AsmFault}
use Rattle.tpm_text.specs.declared.fault.AsmFault.TheVariants.{Missing}

-- The tokens were read as the definition says. If the definition returns a value, the encoding of
-- the value was written, and the same tokens remain as in the definition. Otherwise the
-- definition's fault was returned.
abbrev pub DraftsRead : {A E : Type 0} → (A → List ℕ) → Result (A × List Token) E
    → Option (List ℕ) → Result (Unit {0}) E → Option (List ℕ) → List Token → Type 0
DraftsRead text (Ok read) old (Ok done) new left =
    (new ≡ grown_draft old (text read.0)) × (left ≡ read.1)
DraftsRead text (Err fault) old (Err found) new left = found ≡ fault
DraftsRead text _ old _ new left = ⊥

-- The first token was removed and returned; or there was no token, and the fault is Missing.
abbrev pub Takes : {X : Type 0} → (X → Token) → List Token → Result X AsmFault → List Token → Type 0
Takes view old (Ok token) new = old ≡ view token ∷ new
Takes view old (Err found) new = (old ≡ []) × (found ≡ Missing)

-- whether the first token begins like an entry
abbrev pub first_is_entry : List Token → Bool
first_is_entry [] = false
first_is_entry (token ∷ tokens) = begins_entry token.text

-- The first token was removed and returned if it begins like an entry. Otherwise no token was
-- removed.
abbrev pub TakesEntry : {X : Type 0} → (X → Token) → List Token → Option X → List Token → Type 0
TakesEntry view old (Some token) new =
    (old ≡ view token ∷ new) × (begins_entry (view token).text ≡ true)
TakesEntry view old None new = (new ≡ old) × (first_is_entry old ≡ false)

-- The tokens were read as the definition says. If the definition returns a value, the call returned
-- that value, and the same tokens remain as in the definition. Otherwise the call returned the
-- definition's fault.
abbrev pub ReadsTokens : {X A E : Type 0} → (X → A) → Result (A × List Token) E
    → Result X E → List Token → Type 0
ReadsTokens view (Ok read) (Ok x) left = (read.0 ≡ view x) × (left ≡ read.1)
ReadsTokens view (Err fault) (Err found) left = found ≡ fault
ReadsTokens view _ _ left = ⊥

-- If there are entries, their authorization area was written. The returned tag says whether there
-- are entries.
abbrev pub DraftsSessions : {E : Type 0} → Result (List Entry × List Token) E
    → Option (List ℕ) → Result Tag E → Option (List ℕ) → List Token → Type 0
DraftsSessions (Ok read) old (Ok tag) new left =
    (tag ≡ tag_for read.0) × (new ≡ grown_draft old (sessions_text read.0)) × (left ≡ read.1)
DraftsSessions (Err fault) old (Err found) new left = found ≡ fault
DraftsSessions _ old _ new left = ⊥
