-- The conversion of a journal begins with its head, and continues with its entries.
use Rattle.std.proofs.Common.{◌≡◌, ℕ, Bool, false, List, Option, length, take, drop, ap, subst, ◌∙◌}
use Rattle.std.specs.Io.KnownBytes.{Appends}
use Rattle.std.proofs.KnownBytes.{Appends-trans}
use Rattle.tpm_journal.specs.Retelling.{RetellsEntries, RetellsText, retold_head}
use Rattle.tpm_journal.specs.Starting.{Start, Starts, starting_head}
use Rattle.tpm_journal.specs.declared.following.FollowFault.{FollowFault}
use Rattle.tpm_journal.specs.declared.following.Followed.{Followed}
use Rattle.tpm_journal.specs.declared.journal.Journal.{Journal}
use Rattle.tpm_journal.specs.declared.retelling.Telling.{Telling}
use Rattle.tpm_journal.proofs.ReadHeads.{split_head}
use Rattle.tpm_record.specs.Record.{Record}

-- if no allocation can fail, the entries after the head are converted
abbrev pub from_head : (form : Telling) (can : Bool) (start : Start) (rest left : List ℕ)
    (followed : Followed) (after : Journal) (new : Record)
    (held holds : Option (List ℕ)) → can ≡ false → left ≡ rest
    → RetellsEntries form can start.journal start.device left held holds followed after new
    → RetellsEntries form false start.journal start.device rest held holds followed after new
from_head form can start rest left followed after new held holds cannot behind told =
    subst (λ (b : Bool). RetellsEntries form b start.journal start.device rest held holds followed
    after new) cannot
    (subst (λ (l : List ℕ). RetellsEntries form can start.journal start.device l held holds followed
    after new) behind told)

abbrev pub behind_head : (form : Telling) (text : List ℕ) (start : Start) (rest front : List ℕ)
    (starts : Starts text start rest) (followed : Followed)
    (fault : Option FollowFault) (after : Journal) (new : Record) (held at holds : Option (List ℕ))
    → front ≡ starting_head starts
    → followed.fault ≡ fault → Appends held at (retold_head form front)
    → RetellsEntries form false start.journal start.device rest at holds followed after new
    → RetellsText form text held holds fault
behind_head form text start rest front starts followed fault after new held at holds is ends written
    told = record {
      start = start;
      rest = rest;
      starts = starts;
      followed = followed;
      ends_so = ends;
      after = after;
      new = new;
      replays = told.replays;
      told = Appends-trans held at holds _ _
          (subst (Appends held at) (ap (retold_head form) is) written) told.told;
    }

abbrev pub told_text : (form : Telling) (can : Bool) (text : List ℕ) (start : Start)
    (rest front left : List ℕ) (size : ℕ) (starts : Starts text start rest)
    (followed : Followed) (fault : Option FollowFault) (after : Journal) (new : Record)
    (held at holds : Option (List ℕ)) → can ≡ false
    → size ≡ length (starting_head starts) → front ≡ take size text → left ≡ drop size text
    → Appends held at (retold_head form front)
    → RetellsEntries form can start.journal start.device left at holds followed after new
    → followed.fault ≡ fault → RetellsText form text held holds fault
told_text form can text start rest front left size starts followed fault after new held at holds
    cannot is front_is behind written told ends =
    behind_head form text start rest front starts followed fault after new held at holds
    (front_is ∙ (split_head text start rest size starts is).0) ends written
    (from_head form can start rest left followed after new at holds cannot
    (behind ∙ (split_head text start rest size starts is).1) told)
