-- The head of a journal: the host's clock, and the device at that time, either as an image from
-- when power came on, or as a state text, which contains the whole state. A head with a state text
-- also contains the version of the library that wrote it, unless an earlier library wrote it.
use Rattle.std.specs.Prelude.{◌≡◌, ℕ, ◌+◌, ◌*◌, ◌≤◌, ◌<◌, ◌^◌, List, [], ◌∷◌, ◌++◌, codes, length, take}
use Rattle.std.specs.Int.{w32, w64, to_be_bytes}
use Rattle.hex.specs.Hex.{encode_lower}
use Rattle.tpm_bytes.specs.Reading.{AreBytes}
use Rattle.tpm_journal_text.specs.declared.head.Head.{Head}
use Rattle.tpm_journal_text.specs.declared.head.HeadKind.{HeadKind}
use Rattle.tpm_journal_text.specs.declared.head.HeadKind.TheVariants.{Image, State, Versioned}
use Rattle.tpm_journal_text.specs.Marked.{marked_line}
use Rattle.tpm_journal_text.specs.Sum.{offset_basis, sum_from, sum_of}

-- the version of this library, with one byte each for major, minor and patch: 0.1.0
abbrev pub library_version : ℕ
library_version = 0x000100

-- the kind of the heads that this library writes for a kept device
abbrev pub current_kind : HeadKind
current_kind = Versioned library_version

-- the number that encodes a version in a head. All such numbers are multiples of a prime that is
-- greater than 15, so that no two of them differ in one hex digit only
abbrev pub version_number : (version : ℕ) → ℕ
version_number version = 251 * version

-- the first word of a journal whose head is of this kind
abbrev pub head_word : HeadKind → List ℕ
head_word Image = codes "# tpmsim journal 1 "
head_word State = codes "# tpmsim journal 2 "
head_word (Versioned version) =
    codes "# tpmsim v" ++ encode_lower (to_be_bytes w32 (version_number version)) ++ 32 ∷ []

-- A head can be of this kind: the number of the version fits in four bytes.
abbrev pub IsKind : HeadKind → Type 0
IsKind Image = Unit {0}
IsKind State = Unit {0}
IsKind (Versioned version) = version_number version < 2 ^ 32

-- the maximum size of the content in a head of this kind
abbrev pub content_limit : HeadKind → ℕ
content_limit Image = 28672
content_limit State = 40960
content_limit (Versioned version) = 40960

-- the mark of a head, 20 bytes: the clock in milliseconds, the size of the content, and the
-- content's checksum
unfoldable pub head_mark : (clock : ℕ) → (content : List ℕ) → List ℕ
head_mark clock content =
    to_be_bytes w64 clock ++ (to_be_bytes w32 (length content) ++ to_be_bytes w64 (sum_of content))

-- the checksum of the mark of a head
abbrev pub head_sum : (clock : ℕ) → (content : List ℕ) → ℕ
head_sum clock content = sum_from offset_basis (head_mark clock content)

-- the encoding of a head: the line for its mark, and a line with its content in hex. Neither line
-- has an effect in a script
unfoldable pub head_text : HeadKind → (clock : ℕ) → (content : List ℕ) → List ℕ
head_text kind clock content =
    marked_line (head_word kind) (head_mark clock content) (head_sum clock content)
    ++ codes "# " ++ encode_lower content ++ 10 ∷ []

-- the size of the line with a head's mark
abbrev pub head_line_size : ℕ
head_line_size = 77

-- the size of a head with `count` bytes of content
abbrev pub head_size : (count : ℕ) → ℕ
head_size count = head_line_size + (3 + 2 * count)

-- A head of this kind can contain this clock and this content.
pub record HasHead (kind : HeadKind) (clock : ℕ) (content : List ℕ) : Type 0 where
  pub named : IsKind kind
  pub in_time : clock < 2 ^ 64
  pub small : length content ≤ content_limit kind
  pub are_bytes : AreBytes content

-- The bytes begin with a head that has this kind, clock, content, size and checksum.
pub record IsHeadOf (text : List ℕ) (head : Head) : Type 0 where
  pub has : HasHead head.kind head.clock head.content.now
  pub whole : head.size ≤ length text
  pub is : take head.size text ≡ head_text head.kind head.clock head.content.now
  pub after : head.sum ≡ head_sum head.clock head.content.now
