-- Says which handle each entry of a command is granted.
use Rattle.std.specs.Prelude.{◌≡◌, ℕ, List, length, Option, option_and_then, option_map, slice_get}
use Rattle.tpm_types_common.specs.declared.handle.Handle.{Handle}
use Rattle.tpm_types_command.specs.Command.{Whole}
use Rattle.tpm_auth.specs.Grant.{authorized}
use Rattle.tpm_auth.specs.declared.session_grant.Grant.{Grant}

-- the handle of an entry's grant, if the entry has a grant
abbrev pub handle_in : Option Grant → Option Handle
handle_in grant = option_map (λ (g : Grant). g.handle) grant

-- the handle that is granted to the entry at this position, counted from 0; None if there is no
-- such entry or it has no grant
abbrev pub granted_handle : List (Option Grant) → ℕ → Option Handle
granted_handle grants place = option_and_then handle_in (slice_get grants place)

-- The list has one element for each of the command's entries: a grant, or None. The entry at each
-- position is granted the handle at the same position among the handles that need authorization, or
-- nothing if there is no such handle.
pub record GrantsFit (c : Whole) (grants : List (Option Grant)) : Type 0 where
  pub entries : length grants ≡ length c.entries
  pub handles : (place : ℕ) → granted_handle grants place ≡ slice_get (authorized c) place
