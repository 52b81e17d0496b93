-- Records as the code holds them, in two tables: each state in 8 bytes, and its course number.
use Rattle.std.specs.Prelude.{◌≡◌, List, map, ℕ, ◌≤◌, length, take}
use Rattle.residue.specs.Lists.{Among}
use Rattle.residue.specs.Layout.{groups, fill, in_places}
use Rattle.courses.specs.TimeCourse.{Timed}

-- A text of 16,384 bytes has fewer records than this behind its header: each has a level, a number and what ends them.
abbrev pub most_records : ℕ
most_records = 4096

abbrev pub records_size : ℕ
records_size = 32768

abbrev pub record_table : List Timed → List ℕ
record_table l = fill records_size (in_places 8 (map (λ a. a.0) l))

abbrev pub number_table : List Timed → List ℕ
number_table l = fill most_records (map (λ a. a.1) l)

-- two tables that hold these records, zeros behind them
pub record RecordedAs (l : List Timed) (records numbers : List ℕ) : Type 0 where
  pub few : length l ≤ most_records
  pub states : records ≡ record_table l
  pub courses : numbers ≡ number_table l

-- Two tables begin with these records, whose states have m numbers. What stands behind them is not said.
pub record HeldIn (m : ℕ) (l : List Timed) (records numbers : List ℕ) : Type 0 where
  pub fits : m ≤ 8
  pub long : (a : Timed) → Among a l → length a.0 ≡ m
  pub states : groups 8 (length l) records ≡ map (λ a. fill 8 a.0) l
  pub courses : take (length l) numbers ≡ map (λ a. a.1) l
