-- The counts in TPM2_GetCapability are the sizes of its lists. TPM 2.0 Library, Part 2, section 6.13
-- (TPM_PT), and Part 3, section 30.2 (TPM2_GetCapability).
use Rattle.std.specs.Prelude.{◌≡◌, length}
use Rattle.tpm_commands.specs.declared.profile.Profile.TheVariants.{Complete}
use Rattle.tpm_record.specs.Record.{Record}
use Rattle.tpm_actions_capability.specs.Elements.{command_elements, index_elements, persistent_elements, session_elements}
use Rattle.tpm_capability_laws.specs.Listed.{Says}

-- Each count is the size of a list: TOTAL_COMMANDS (129) and LIBRARY_COMMANDS (12A) that of the
-- commands, HR_NV_INDEX (202) that of the NV indices, HR_LOADED (203) that of the sessions, and
-- HR_PERSISTENT (208) that of the persistent objects.
pub record CountsLists (r : Record) : Type 0 where
  pub commands : Says 0x129 r (λ n. n ≡ length (command_elements Complete))
  pub library : Says 0x12a r (λ n. n ≡ length (command_elements Complete))
  pub indices : Says 0x202 r (λ n. n ≡ length (index_elements r))
  pub sessions : Says 0x203 r (λ n. n ≡ length (session_elements r))
  pub persistent : Says 0x208 r (λ n. n ≡ length (persistent_elements r))

abbrev pub ListsAreCounted : Type 0
ListsAreCounted = (r : Record) → CountsLists r
