-- What entering one point among others leaves of their table and of their counts. No public promise names these: they serve the contracts of the functions that
-- gather points, here and in the reader of text.
use Rattle.std.specs.Prelude.{◌≡◌, Bool, cond, ◌&&◌, List, [], ◌∷◌, map, ℕ, suc, ◌*◌, ◌%◌, ◌<◌, length, get_or, set, take, drop, eqb, ltb}
use Rattle.residue.specs.Sizes.{counts_size}
use Rattle.residue.specs.Layout.{groups, fill, with_place}
use Rattle.residue.specs.Lists.{key_of}
use Rattle.specification.specs.Counted.{Counted, points_of, counts_of, entered, place_in}
use Rattle.specification.specs.Tables.{states_table}

-- of n points, the point standing at the given place, n where it is new: a new one comes behind them, unless 64 are there
unfoldable pub points_entered : ℕ → ℕ → List ℕ → List ℕ → List ℕ
points_entered n at point points = cond (eqb at n && ltb n 64) (with_place 8 n point points) points

-- one that is there is counted once more, unless its count is 255; the count of a new one is 1
unfoldable pub counts_entered : ℕ → ℕ → List ℕ → List ℕ
counts_entered n at counts = cond (ltb at n)
    (cond (eqb (get_or counts at 0) 255) counts (set counts at (suc (get_or counts at 0))))
    (cond (ltb n 64) (set counts n 1) counts)

-- points entered one after the other, and nothing behind the one that would be the 65th distinct point
unfoldable pub entered_while_room : List (List ℕ) → Counted → Counted
entered_while_room [] L = L
entered_while_room (P ∷ S) L = cond (ltb 64 (length (entered P L))) L (entered_while_room S (entered P L))

-- a count as a byte, which stays at 255
unfoldable pub count_byte : ℕ → ℕ
count_byte k = cond (ltb 255 k) 255 k

-- Points with their counts as bytes in a table of 512 bytes and one of 64.
pub record TabledAs (L : Counted) (n : ℕ) (points counts : List ℕ) : Type 0 where
  pub number : n ≡ length L
  pub states : points ≡ states_table (points_of L)
  pub times : counts ≡ fill counts_size (map count_byte (counts_of L))

-- Hints where points stand, at the remainders of their keys: where one is 0, none of the first n points of a table has that remainder.
unfoldable pub hint_of : List ℕ → ℕ
hint_of point = key_of 8 point % 233

pub record Hinted (n : ℕ) (points hints : List ℕ) : Type 0 where
  pub long : length hints ≡ 233
  pub told : (i : ℕ) → i < n → get_or hints (hint_of (take 8 (drop (8 * i) points))) 0 ≡ 0 → ⊥

-- What entering a point answers and leaves: its place, n where it is new; whether its count was 255 already; the table, the counts and the hints.
pub record EnteredAs (n : ℕ) (point points₀ counts₀ hints₀ : List ℕ) (at : ℕ) (over : Bool) (points counts hints : List ℕ) : Type 0 where
  pub place : at ≡ place_in point (groups 8 n points₀)
  pub full : over ≡ (ltb at n && eqb (get_or counts₀ at 0) 255)
  pub table : points ≡ points_entered n at point points₀
  pub bytes : counts ≡ counts_entered n at counts₀
  pub hinted : hints ≡ set hints₀ (hint_of point) (suc at)
