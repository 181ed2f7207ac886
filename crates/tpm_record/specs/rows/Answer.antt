-- The answers of commands. TPM 2.0 Library, Part 1, section 18 (response structures).
use Rattle.std.specs.Prelude.{◌≡◌, ℕ, Bool, true, false, List, [], ◌++◌, Option, None}
use Rattle.tpm_bytes.specs.Writing.{sized_text}
use Rattle.tpm_types_common.specs.declared.handle.Handle.{Handle}
use Rattle.tpm_record.specs.declared.rows.answer.Answer.{Answer}

-- the parameters of an answer. They may begin with a sized buffer, which a session can encrypt;
-- other parameters may follow
pub data Body : Type 0 where
  Sized : (bytes : List ℕ) → Body
  SizedFirst : (bytes rest : List ℕ) → Body
  Plain : (text : List ℕ) → Body

abbrev pub answer_body_text : Body → List ℕ
answer_body_text (Sized bytes) = sized_text bytes
answer_body_text (SizedFirst bytes rest) = sized_text bytes ++ rest
answer_body_text (Plain text) = text

abbrev pub begins_sized : Body → Bool
begins_sized (Sized bytes) = true
begins_sized (SizedFirst bytes rest) = true
begins_sized (Plain text) = false

-- the answer of a command
pub record AnswerParts : Type 0 where
  -- the handle of the session or object that the command created, if it returns one
  pub handle : Option Handle
  -- the parameters of the response
  pub body : Body
  -- the number of bytes that the command drew from the start of the event's random bytes
  pub drawn : ℕ

-- an answer that consists only of parameters, of a command that returns no handle and draws no
-- random bytes
abbrev pub answer_of : Body → AnswerParts
answer_of body = record { handle = None; body = body; drawn = 0 }

-- the answer of a command that returns no parameters
abbrev pub nothing : AnswerParts
nothing = answer_of (Plain [])

-- The code's answer equals this answer.
abbrev pub IsAnswer : AnswerParts → Answer → Type 0
IsAnswer parts a =
    (a.handle ≡ parts.handle) × (a.parameters ≡ answer_body_text parts.body)
    × (a.drawn ≡ parts.drawn)

-- The code's answer is empty.
abbrev pub IsEmpty : Answer → Type 0
IsEmpty a = IsAnswer nothing a
