-- If the content of its head has at most 32,767 bytes, a journal can be played as a script. The
-- script prints the device's responses to the entries.
use Rattle.std.proofs.Common.{◌≡◌, ℕ, zero, suc, ◌+◌, ◌*◌, ◌<◌, ◌≤◌, ◌^◌, ◌&&◌, Bool, false, List, [], ◌∷◌, ◌++◌, Option, Some, None, length, max, refl, ap, ◌∙◌, length-append, arith}
use Rattle.std.specs.Prelude.{codes, nat_le, nat_lt, option_and_then, option_map, if◌then◌else◌}
use Rattle.std.specs.Int.{w64, to_be_bytes}
use Rattle.std.specs.List.{AllByRecursion}
use Rattle.std.specs.Result.{result_ok}
use Rattle.std.proofs.lemmas.Bool.{le-leb, lt-ltb}
use Rattle.hex.specs.Hex.{encode_lower, lower_digits}
use Rattle.hex.proofs.HexLemmas.{decode_of-encode_lower, length-encode_with}
use Rattle.tpm_bytes.specs.Reading.{AreBytes}
use Rattle.tpm_journal_text.specs.Entry.{IsEntry, PlainEntry, entry_word, mark_of, shown, sum_after}
use Rattle.tpm_journal_text.specs.Head.{head_mark, head_sum, head_word}
use Rattle.tpm_journal_text.specs.Journal.{entries_text}
use Rattle.tpm_journal_text.specs.Sum.{sum_from}
use Rattle.tpm_journal_text.specs.declared.head.HeadKind.{HeadKind}
use Rattle.tpm_journal_text.specs.declared.head.HeadKind.TheVariants.{Image, State, Versioned}
use Rattle.tpm_journal_text.proofs.HeadStanding.{word_many}
use Rattle.tpm_journal_text.proofs.Standing.{mark_many}
use Rattle.tpm_record.specs.Record.{Record}
use Rattle.tpm_step.specs.step.Step.{step}
use Rattle.tpmsim_script.specs.Line.{Meaning, Executes, SetsLocality, Waits, SetsEntropy, DoesNothing, bytes_of, line_meaning, lines_of}
use Rattle.tpmsim_script.specs.Script.{Effect, Playing, at_first, execute, output_before, output_with, perform, perform_line, play, printed_response, printed_trace, repeated, set_entropy, silence}
use Rattle.tpm_journal_laws.specs.Playing.{JournalPlays, printed_answers, scripted_event}
use Rattle.tpm_journal_laws.proofs.Meanings.{cmd_line, cmd_means, content_line, content_means, entropy_line, entropy_means, entry_lines, head_front_means, head_lines, loc_line, loc_means, mark_front, mark_means, wait_line, wait_means}

-- ---- performing a single line

performed : (p : Playing) (line : List ℕ) (m : Meaning) → length line ≤ 65536
    → line_meaning line ≡ Some m → perform_line p line ≡ perform p m
unfolding perform_line
performed p line m short means =
    ap (λ (b : Bool). if b then option_and_then (perform p) (line_meaning line) else None)
    (le-leb (length line) 65536 short)
    ∙ ap (option_and_then (perform p)) means

-- A line that prints nothing only changes the state of the script.
quiet : (p next : Playing) (number : ℕ) (line : List ℕ) (lines : List (List ℕ))
    → perform_line p line ≡ Some (silence next)
    → play p number (line ∷ lines) ≡ play next (number + 1) lines
quiet p next number line lines e =
    ap (λ (effect : Option Effect). output_with effect number (λ p. play p (number + 1) lines)) e

-- ---- the sizes of the lines

front_many : (word bytes : List ℕ) (sum : ℕ)
    → length (mark_front word bytes sum) ≡ length word + (2 * length bytes + 17)
unfolding mark_front
front_many word bytes sum =
    let tail = encode_lower bytes ++ (32 ∷ encode_lower (to_be_bytes w64 sum)) in
    let a = length-append word tail in
    let b = length-append (encode_lower bytes) (32 ∷ encode_lower (to_be_bytes w64 sum)) in
    let c = length-encode_with lower_digits bytes in
    let d = length-encode_with lower_digits (to_be_bytes w64 sum) in
    omega (arith, a, b, c, d)

shown_many : (drawn : List ℕ) → length (shown drawn) ≡ max 1 (length drawn)
shown_many [] = refl
shown_many (byte ∷ drawn) = omega arith

mark_short : (sum : ℕ) (e : PlainEntry)
    → length (mark_front entry_word (mark_of e) (sum_from sum (mark_of e))) ≤ 65536
mark_short sum e =
    omega (arith, front_many entry_word (mark_of e) (sum_from sum (mark_of e)), mark_many e)

wait_short : (e : PlainEntry) → length (wait_line e) ≤ 65536
unfolding wait_line Rattle.tpm_journal_text.specs.Entry.ten_digits
wait_short e = omega arith

loc_short : (e : PlainEntry) → length (loc_line e) ≤ 65536
unfolding loc_line
loc_short e = omega arith

entropy_short : (e : PlainEntry) → IsEntry e → length (entropy_line e) ≤ 65536
unfolding entropy_line
entropy_short e is =
    let few = is.drawn in
    omega (arith, few, length-append (codes "entropy ") (encode_lower (shown e.drawn)), length-encode_with lower_digits (shown e.drawn), shown_many e.drawn)

cmd_short : (e : PlainEntry) → IsEntry e → length (cmd_line e) ≤ 65536
unfolding cmd_line
cmd_short e is =
    let few = is.buffer in
    omega (arith, few, length-append (codes "cmd ") (encode_lower e.buffer), length-encode_with lower_digits e.buffer)

-- ---- the bytes of the lines

shown_bytes : (drawn : List ℕ) → AreBytes drawn → AreBytes (shown drawn)
shown_bytes [] are zero = omega arith
shown_bytes [] are (suc i) = omega arith
shown_bytes (byte ∷ drawn) are i = are i

digits_are : (bytes : List ℕ) → AreBytes bytes → bytes_of (encode_lower bytes) ≡ Some bytes
digits_are bytes are = ap result_ok (decode_of-encode_lower bytes are)

-- ---- playing an entry

-- a script that is played without traces, and has not waited since its last command
abbrev playing_at : (locality : ℕ) (random : List ℕ) (device : Record) → Playing
playing_at locality random device =
    record { traced = false; locality = locality; waited = 0; random = random; device = device }

module _ (locality : ℕ) (random : List ℕ) (r : Record) (sum number : ℕ) (e : PlainEntry)
    (is : IsEntry e) (lines : List (List ℕ)) where
  start : Playing
  start = playing_at locality random r

  waiting : Playing
  waiting = record start { waited = e.elapsed }

  there : Playing
  there = record waiting { locality = e.locality }

  ready : Playing
  ready = record there { random = repeated (shown e.drawn) }

  after : Playing
  after = playing_at e.locality (repeated (shown e.drawn)) (step r (scripted_event e)).after

  marked : perform_line start (mark_front entry_word (mark_of e) (sum_from sum (mark_of e)))
      ≡ Some (silence start)
  unfolding start
  marked = performed start (mark_front entry_word (mark_of e) (sum_from sum (mark_of e)))
      DoesNothing (mark_short sum e) (mark_means sum e)

  waited : perform_line start (wait_line e) ≡ Some (silence waiting)
  unfolding start waiting
  waited = performed start (wait_line e) (Waits e.elapsed) (wait_short e) (wait_means e is)
      ∙ ap (λ (n : ℕ). if nat_lt n (2 ^ 32) then Some (silence (record start { waited = n }))
      else None) (from_zero e.elapsed)
      ∙ ap (λ (b : Bool). if b then Some (silence waiting) else None)
      (lt-ltb e.elapsed (2 ^ 32) is.elapsed)
    where
      from_zero : (n : ℕ) → 0 + n ≡ n
      from_zero n = omega arith

  placed : perform_line waiting (loc_line e) ≡ Some (silence there)
  unfolding waiting there
  placed = performed waiting (loc_line e) (SetsLocality e.locality) (loc_short e) (loc_means e is)

  some_shown : (0 < length (shown e.drawn)) × (length (shown e.drawn) ≤ 256)
  some_shown = let few =
      is.drawn in (omega (arith, few, shown_many e.drawn), omega (arith, few, shown_many e.drawn))

  drawn : perform_line there (entropy_line e) ≡ Some (silence ready)
  unfolding there ready
  drawn = performed there (entropy_line e) (SetsEntropy (encode_lower (shown e.drawn)))
      (entropy_short e is) (entropy_means e)
      ∙ ap (option_and_then (set_entropy there))
      (digits_are (shown e.drawn) (shown_bytes e.drawn is.drawn_bytes))
      ∙ ap (λ (b : Bool). if b && nat_le (length (shown e.drawn)) 256 then Some (silence ready)
      else None) (lt-ltb 0 (length (shown e.drawn)) some_shown.0)
      ∙ ap (λ (b : Bool). if b then Some (silence ready) else None)
      (le-leb (length (shown e.drawn)) 256 some_shown.1)

  commanded : perform_line ready (cmd_line e) ≡ Some (execute ready e.buffer)
  unfolding ready
  commanded = performed ready (cmd_line e) (Executes (encode_lower e.buffer)) (cmd_short e is)
      (cmd_means e)
      ∙ ap (option_map (execute ready)) (digits_are e.buffer is.buffer_bytes)

  answered : execute ready e.buffer
      ≡ record { text = printed_response (step r (scripted_event e)).response; next = after }
  unfolding start waiting there ready after printed_trace
  answered = refl

  entry_plays : play start number
      (mark_front entry_word (mark_of e) (sum_from sum (mark_of e)) ∷ wait_line e ∷ loc_line e
      ∷ entropy_line e ∷ cmd_line e ∷ lines)
      ≡ output_before (printed_response (step r (scripted_event e)).response)
      (play after (number + 1 + 1 + 1 + 1 + 1) lines)
  entry_plays =
      quiet start start number (mark_front entry_word (mark_of e) (sum_from sum (mark_of e)))
      (wait_line e ∷ loc_line e ∷ entropy_line e ∷ cmd_line e ∷ lines) marked
      ∙ quiet start waiting (number + 1) (wait_line e)
      (loc_line e ∷ entropy_line e ∷ cmd_line e ∷ lines) waited
      ∙ quiet waiting there (number + 1 + 1) (loc_line e) (entropy_line e ∷ cmd_line e ∷ lines)
      placed
      ∙ quiet there ready (number + 1 + 1 + 1) (entropy_line e) (cmd_line e ∷ lines) drawn
      ∙ ap (λ (effect : Option Effect). output_with effect (number + 1 + 1 + 1 + 1)
      (λ p. play p (number + 1 + 1 + 1 + 1 + 1) lines)) (commanded ∙ ap Some answered)

-- ---- playing several entries

entries_play : (locality : ℕ) (random : List ℕ) (r : Record) (sum number : ℕ)
    (entries : List PlainEntry) → AllByRecursion IsEntry entries
    → play (playing_at locality random r) number (lines_of (entries_text sum entries))
    ≡ record { text = printed_answers r entries; bad = None }
unfolding start after
entries_play locality random r sum number [] are = refl
entries_play locality random r sum number (e ∷ entries) are =
    let rest = entries_text (sum_after sum e) entries in
    ap (play (playing_at locality random r) number) (entry_lines sum e rest)
    ∙ entry_plays locality random r sum number e are.0 (lines_of rest)
    ∙ ap (output_before (printed_response (step r (scripted_event e)).response))
    (entries_play e.locality (repeated (shown e.drawn)) (step r (scripted_event e)).after
    (sum_after sum e) (number + 1 + 1 + 1 + 1 + 1) entries are.1)

-- ---- playing a journal

head_short : (kind : HeadKind) (clock : ℕ) (content : List ℕ)
    → length (mark_front (head_word kind) (head_mark clock content) (head_sum clock content))
    ≤ 65536
unfolding head_mark
head_short Image clock content =
    omega (arith, front_many (head_word Image) (head_mark clock content) (head_sum clock content))
head_short State clock content =
    omega (arith, front_many (head_word State) (head_mark clock content) (head_sum clock content))
head_short (Versioned version) clock content =
    omega (
      arith,
      front_many (head_word (Versioned version)) (head_mark clock content)
          (head_sum clock content),
      word_many (Versioned version),
    )

content_short : (content : List ℕ) → length content ≤ 32767 → length (content_line content) ≤ 65536
unfolding content_line
content_short content few = omega (arith, few, length-append (codes "# ") (encode_lower content), length-encode_with lower_digits content)

pub journal_plays : JournalPlays
unfolding at_first
journal_plays kind clock content entries r number few are =
    let rest = entries_text (head_sum clock content) entries in
    let front = mark_front (head_word kind) (head_mark clock content) (head_sum clock content) in
    ap (play (at_first false r) number) (head_lines kind clock content rest)
    ∙ quiet (at_first false r) (at_first false r) number front
    (content_line content ∷ lines_of rest)
    (performed (at_first false r) front DoesNothing (head_short kind clock content)
    (head_front_means kind (head_mark clock content) (head_sum clock content)))
    ∙ quiet (at_first false r) (at_first false r) (number + 1) (content_line content)
    (lines_of rest)
    (performed (at_first false r) (content_line content) DoesNothing (content_short content few)
    (content_means content))
    ∙ entries_play 0 (at_first false r).random r (head_sum clock content) (number + 1 + 1) entries
    are
