-- The device that is salvaged from a damaged journal.
use Rattle.std.specs.Prelude.{ℕ, ◌+◌, List, drop, length, take, Option, Some, None}
use Rattle.tpm_journal_text.specs.Head.{head_sum}
use Rattle.tpm_journal_text.specs.Journal.{entries_text}
use Rattle.tpm_keeping.specs.Journal.{Spot}
use Rattle.tpm_kept_journal.specs.Opening.{opened_text}
use Rattle.tpm_kept_journal.specs.texts.EntriesAt.{entries_at}
use Rattle.tpm_kept_journal.specs.texts.HeadAt.{PlainHead, head_at, text_of_head}

-- the size of the entries at the start of the bytes; `sum` is the checksum before them
abbrev pub entries_size : (sum : ℕ) → List ℕ → ℕ
entries_size sum text = length (entries_text sum (entries_at sum text))

-- the size of a head and of the entries after it; 0 if there is no head
abbrev pub size_with : Option PlainHead → List ℕ → ℕ
size_with (Some h) text =
    let size = length (text_of_head h) in
    size + entries_size (head_sum h.clock h.content) (drop size text)
size_with None text = 0

-- the size of the intact part at the start of a journal: its head, and the entries after it
unfoldable pub whole_size : List ℕ → ℕ
whole_size text = size_with (head_at text) text

-- the position after the intact part of a journal, and the size of this part; None if there is no
-- head that starts a device, or if a response of the device differs from the recorded response
unfoldable pub salvaged_text : List ℕ → Option (Spot × ℕ)
salvaged_text text = opened_text (take (whole_size text) text)
