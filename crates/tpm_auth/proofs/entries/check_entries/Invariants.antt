use Rattle.std.proofs.Common.{◌≡◌, drop, length, take, map, []}
use Rattle.tpm_types_command.specs.AuthEntry.{entry_of}
use Rattle.tpm_auth.specs.Entries.{entries_pass}
use Rattle.tpm_auth.specs.Used.{AreSessions}
use Rattle.tpm_auth.proofs.entries.check_entries.Given as goal

-- Checking the remaining entries gives the same result as checking all entries. The sessions found
-- so far are those of the first entries.
abbrev pub invariant-loop-index : goal.invariant-loop-index
invariant-loop-index g l =
    let r = g.K.Keep.record_of l.keep in
    record {
      left : entries_pass r l.code (map entry_of (take l.index l.entries))
          (map entry_of (drop l.index l.entries))
          ≡ entries_pass r l.code [] (map entry_of l.entries);
      found : AreSessions r l.sessions.items (map entry_of (take l.index l.entries));
      as_many : length l.sessions.items ≡ l.index;
    }
