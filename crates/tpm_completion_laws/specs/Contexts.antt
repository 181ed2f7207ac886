-- Which contexts of sessions can be loaded. TPM 2.0 Library, Part 1, section 30 (context
-- management), and Part 3, section 28.3 (TPM2_ContextLoad).
use Rattle.std.specs.Prelude.{◌≡◌, ◌≢◌, ℕ, ◌<◌, ◌^◌, List, Ok}
use Rattle.tpm_record.specs.Record.{Record}
use Rattle.tpm_completion.specs.Context.{context_text, token_at}
use Rattle.tpm_completion.specs.Saving.{refusal_reply, session_load_reply}
use Rattle.tpm_completion.specs.declared.completion.Completion.{Completion}
use Rattle.tpm_completion.specs.declared.context.Token.{Token}

-- After the context of a session was loaded, loading it again is refused with HANDLE for parameter
-- 1 (1CB), whatever the state of the device is then.
abbrev pub IsLoadedOnce : Type 0
IsLoadedOnce = (r later : Record) (c : Completion) (context : List ℕ) (token : Token)
    → token_at c.start context ≡ Ok token → session_load_reply r c context ≢ refusal_reply c 0x1cb
    → let after : Completion = (session_load_reply r c context).after in
    session_load_reply later after context ≡ refusal_reply after 0x1cb

-- The context of a session from another start of the layer is refused with INTEGRITY for parameter
-- 1 (1DF).
abbrev pub RefusesAnotherStart : Type 0
RefusesAnotherStart = (r : Record) (c : Completion) (other : ℕ) (token : Token)
    → c.start < 2 ^ 64 → other < 2 ^ 64 → other ≢ c.start
    → session_load_reply r c (context_text other token) ≡ refusal_reply c 0x1df
