-- The head at the start of a list of bytes.
use Rattle.std.specs.Prelude.{ℕ, ◌/◌, ◌^◌, ◌&&◌, nat_le, nat_lt, Bool, true, cond, codes, List, drop, length, take, Option}
use Rattle.std.specs.Int.{w32, w64, from_be_bytes}
use Rattle.tpm_journal_text.specs.Head.{content_limit, head_text, head_word, version_number}
use Rattle.tpm_journal_text.specs.declared.head.HeadKind.{HeadKind}
use Rattle.tpm_journal_text.specs.declared.head.HeadKind.TheVariants.{Image, State, Versioned}
use Rattle.tpm_image_text.specs.Fields.{are_bytes}
use Rattle.tpm_kept_journal.specs.texts.Parts.{begins_with, hex_at, where_so}

-- a head: its kind, the host's clock in milliseconds, and its content
pub record PlainHead : Type 0 where
  pub kind : HeadKind
  pub clock : ℕ
  pub content : List ℕ

-- the encoding of a head
abbrev pub text_of_head : PlainHead → List ℕ
text_of_head h = head_text h.kind h.clock h.content

-- whether a head can be of this kind: the number of the version fits in four bytes
abbrev pub is_kind : HeadKind → Bool
is_kind Image = true
is_kind State = true
is_kind (Versioned version) = nat_lt (version_number version) (2 ^ 32)

-- whether the fields of a head have allowed values
unfoldable pub is_head : PlainHead → Bool
is_head h =
    is_kind h.kind
    && (nat_lt h.clock (2 ^ 64)
    && (nat_le (length h.content) (content_limit h.kind) && are_bytes h.content))

-- the version in the first word of the bytes
abbrev pub version_in : List ℕ → ℕ
version_in text = from_be_bytes w32 (hex_at 10 4 text) / 251

-- the kind of the head at the start of the bytes: `Versioned` or `State` if the bytes begin with the
-- word of this kind, and `Image` otherwise
unfoldable pub kind_in : List ℕ → HeadKind
kind_in text =
    cond (begins_with text (codes "# tpmsim v")) (Versioned (version_in text))
    (cond (begins_with text (head_word State)) State Image)

-- the mark on the first line, after the line's first word, if the bytes begin with a head
unfoldable pub head_mark_in : List ℕ → List ℕ
head_mark_in text = hex_at 19 20 text

-- the head of this kind, with the numbers in this mark; its content is read from `text`
unfoldable pub head_by : HeadKind → (mark text : List ℕ) → PlainHead
head_by kind mark text = record {
  kind = kind;
  clock = from_be_bytes w64 (take 8 mark);
  content = hex_at 79 (from_be_bytes w32 (take 4 (drop 8 mark))) text;
}

-- whether the bytes begin with exactly the encoding of this head
abbrev pub begins_with_head : List ℕ → PlainHead → Bool
begins_with_head text h = is_head h && begins_with text (text_of_head h)

-- the head at the start of the bytes
unfoldable pub head_at : List ℕ → Option PlainHead
head_at text =
    let h = head_by (kind_in text) (head_mark_in text) text in
    where_so (begins_with_head text h) h
