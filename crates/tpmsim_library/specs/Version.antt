-- The version as one number.
use Rattle.std.specs.Prelude.{ℕ, ◌+◌, ◌*◌}

-- the version number: one byte each for major, minor and patch
abbrev pub version_number : (major minor patch : ℕ) → ℕ
version_number major minor patch = 65536 * major + 256 * minor + patch
