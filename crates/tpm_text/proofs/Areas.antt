-- Lemmas about a draft to which an authorization area is added, and whose header is written last.
use Rattle.std.proofs.Common.{◌≡◌, ℕ, ◌+◌, ◌-◌, ◌≤◌, Ok, List, ◌++◌, length, take, drop, Option, Some, None, IfSome, subst, refl, sym, ap, ◌∙◌, arith}
use Rattle.std.specs.Option.{option_map}
use Rattle.std.specs.Int.{w32, to_be_bytes}
use Rattle.std.proofs.lemmas.List.{drop-take, length-take-le}
use Rattle.std.proofs.Math.Seq.{take-append-add}
use Rattle.tpm_commands.specs.declared.command_code.CommandCode.{CommandCode}
use Rattle.tpm_types_command.specs.declared.tag.Tag.{Tag}
use Rattle.tpm_types_command.specs.Header.{header_text}
use Rattle.tpm_text.specs.declared.draft.Draft.{Draft}
use Rattle.tpm_text.specs.Draft.{drafted_bytes, finished_command, grown_draft, with_area}
use Rattle.tpm_text.proofs.Growing.{grown-grown}

pub area_added : (old middle new : Option (List ℕ)) (entries : List ℕ) (size : ℕ)
    → size ≡ length entries → middle ≡ grown_draft old (to_be_bytes w32 size)
    → new ≡ grown_draft middle entries → new ≡ with_area old (Some entries)
unfolding with_area
area_added old middle new entries size e m h =
    h ∙ ap (λ d. grown_draft d entries) m ∙ grown-grown old (to_be_bytes w32 size) entries
    ∙ ap (λ n. grown_draft old (to_be_bytes w32 n ++ entries)) e

pub no_area : (old : Option (List ℕ))
    → (let none : Option (List ℕ) = None in none ≡ with_area old None)
unfolding with_area
no_area old = refl

-- The size of a draft's contents is the number of bytes written.
pub taken_size : (draft : Draft) (size : ℕ) → draft.used ≡ Some size
    → length (take size draft.bytes) ≡ size
taken_size draft size e = let small =
    draft.within size e in length-take-le size draft.bytes (omega (arith, small, draft.capacity))

-- If a header overwrites the first ten bytes, the result consists of the header and the bytes after
-- the first ten.
pub headed : (header bytes : List ℕ) (size : ℕ) → length header ≡ 10 → 10 ≤ size
    → take size (header ++ drop 10 bytes) ≡ header ++ drop 10 (take size bytes)
headed header bytes size ten large =
    let whole : length header + (size - 10) ≡ size = omega (arith, ten) in
    let behind : 10 + (size - 10) ≡ size = omega arith in
    ap (λ n. take n (header ++ drop 10 bytes)) (sym whole)
    ∙ take-append-add header (drop 10 bytes) (size - 10)
    ∙ ap (λ l. header ++ l) (sym (drop-take 10 (size - 10) bytes)
    ∙ ap (λ n. drop 10 (take n bytes)) behind)

pub text_finished : (tag : Tag) (code : CommandCode) (header bytes : List ℕ) (size : ℕ)
    → header ≡ header_text tag size code → length header ≡ 10 → 10 ≤ length (take size bytes)
    → length (take size bytes) ≡ size
    → finished_command tag code (Some (take size bytes)) ≡ Ok (take size (header ++ drop 10 bytes))
unfolding finished_command
text_finished tag code header bytes size is ten large whole =
    ap (λ n. Ok (header_text tag n code ++ drop 10 (take size bytes))) whole
    ∙ ap (λ l. Ok (l ++ drop 10 (take size bytes))) (sym is)
    ∙ ap Ok (sym (headed header bytes size ten (omega (arith, large, whole))))

pub ten_taken : (draft : Draft) (size : ℕ) → draft.used ≡ Some size
    → IfSome (drafted_bytes draft) (λ text. 10 ≤ length text) → 10 ≤ length (take size draft.bytes)
ten_taken draft size e h =
    subst (λ (used : Option ℕ). IfSome (option_map (λ size. take size draft.bytes) used)
    (λ text. 10 ≤ length text)) e h
