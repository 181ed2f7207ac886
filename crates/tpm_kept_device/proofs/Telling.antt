-- When the device executes entries or writes a head, its results agree with the journal's
-- definitions.
use Rattle.std.proofs.Common.{◌≡◌, ◌≤◌, ◌+◌, ℕ, false, List, length, Option, Some, None, subst, ap, ◌∙◌, arith}
use Rattle.tpm_bytes.specs.Reading.{AreBytes}
use Rattle.tpm_journal.specs.Replay.{Replays}
use Rattle.tpm_journal.specs.declared.following.FollowFault.{FollowFault}
use Rattle.tpm_journal.specs.declared.following.Followed.{Followed}
use Rattle.tpm_journal.specs.declared.journal.Journal.{Journal}
use Rattle.tpm_journal_text.specs.Head.{content_limit, current_kind, head_sum, head_text}
use Rattle.tpm_keeping.specs.Journal.{Spot}
use Rattle.tpm_record.specs.Record.{Record}
use Rattle.tpm_state_text.specs.State.{state_text}
use Rattle.tpm_state_text.proofs.StateLaws.{text_small}
use Rattle.tpm_kept_journal.specs.Opening.{head_of, head_sum_of, spot_after_walk}
use Rattle.tpm_kept_journal.specs.State.{DeviceState, IsDeviceState, bytes_of, spot_of, state_in, whole_of}
use Rattle.tpm_kept_journal.proofs.Following.{Tells, followed_so}
use Rattle.tpm_kept_journal.proofs.Shown.{head_shown, sum_shown}

-- ---- executing entries

module _ (before : Journal) (old : Record) (text : List ℕ) (followed : Followed) (after : Journal)
    (new : Record) (is : IsDeviceState (state_in before old))
    (replays : Replays false before old text followed after new) where
  abbrev there : Spot
  there = spot_of after new

  abbrev found : Option (Spot × ℕ)
  found = spot_after_walk (spot_of before old) 0 text

  pub followed_whole : followed.fault ≡ None → found ≡ Some (there, followed.taken)
  followed_whole whole =
      let all : 0 + followed.taken ≡ followed.taken = omega arith in
      subst (λ (f : Option FollowFault). Tells f found there (0 + followed.taken)) whole
      (followed_so before old text 0 followed after new is replays)
      ∙ ap (λ (n : ℕ). Some (there, n)) all

  pub followed_not : (why : FollowFault) → followed.fault ≡ Some why → found ≡ None
  followed_not why fault =
      subst (λ (f : Option FollowFault). Tells f found there (0 + followed.taken)) fault
      (followed_so before old text 0 followed after new is replays)

-- ---- writing a head

module _ (s : DeviceState) (is : IsDeviceState s) (text : List ℕ)
    (same : text ≡ state_text (whole_of s)) where
  pub text_fits : length text ≤ content_limit current_kind
  text_fits = omega (arith, ap length same, text_small (whole_of s) is.whole)

  abbrev known : AreBytes text → AreBytes (state_text (whole_of s))
  known are = subst AreBytes same are

  pub head_written : AreBytes text → head_text current_kind s.time text ≡ head_of (bytes_of s)
  head_written are = ap (head_text current_kind s.time) same ∙ head_shown s is (known are)

  pub sum_written : AreBytes text → head_sum s.time text ≡ head_sum_of (bytes_of s)
  sum_written are = ap (head_sum s.time) same ∙ sum_shown s is (known are)
