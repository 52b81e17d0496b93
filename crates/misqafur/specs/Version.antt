-- The version of the library, major.minor.patch, as one number: 3.2.0 is 30200. The first of the three is the interface's.
use Rattle.std.specs.Prelude.{ℕ, ◌+◌, ◌*◌}

abbrev pub major : ℕ
major = 3

abbrev pub minor : ℕ
minor = 2

abbrev pub patch : ℕ
patch = 0

abbrev pub version_number : ℕ
version_number = 10000 * major + 100 * minor + patch
