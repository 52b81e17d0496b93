-- The lines of a table's rows, one after the other.
use mathlib.Core.Path.{◌≡◌, sym, ◌∙◌, ap, ap₂}
use mathlib.Core.List.{List, [], map, zip_with}
use Prim.Native.Nat.{ℕ, ◌<◌}
use native.Mathlib.Omega.{arith}
use lib.ListN.{length, get_or, take, length-map}
use Rattle.residue.proofs.vector.Vectors.{zip_length, zip_at, map_at}
use Rattle.printing.specs.Lines.{line, row_line}

-- the first m numbers of a row
first_at : (m : ℕ) (rows : List (List ℕ)) (i : ℕ) (row : List ℕ) → i < length rows → row ≡ get_or rows i row → get_or (map (take m) rows) i [] ≡ take m row
first_at m rows i row h e = map_at (take m) rows row [] i h ∙ ap (λ (z : List ℕ). take m z) (sym e)

-- one line for each row
module _ (word : List ℕ) (m : ℕ) (rows : List (List ℕ)) where
  pub lines_length : length (map (line word) (map (take m) rows)) ≡ length rows
  lines_length = length-map (map (take m) rows) (line word) ∙ length-map rows (take m)

  pub lines_at : (i : ℕ) (row : List ℕ) → i < length rows → row ≡ get_or rows i row → get_or (map (line word) (map (take m) rows)) i [] ≡ line word (take m row)
  lines_at i row h e =
      map_at (line word) (map (take m) rows) [] [] i (omega (arith, length-map rows (take m)))
      ∙ ap (λ (z : List ℕ). line word z) (first_at m rows i row h e)

-- one line for each two rows, one of each table
module _ (m n : ℕ) (leads rows : List (List ℕ)) (as_many : length leads ≡ length rows) where
  same : length (map (take m) leads) ≡ length (map (take n) rows)
  same = length-map leads (take m) ∙ as_many ∙ sym (length-map rows (take n))

  pub rows_length : length (zip_with row_line (map (take m) leads) (map (take n) rows)) ≡ length leads
  rows_length = zip_length row_line (map (take m) leads) (map (take n) rows) same ∙ length-map leads (take m)

  pub rows_at : (i : ℕ) (lead row : List ℕ) → i < length leads → lead ≡ get_or leads i lead → row ≡ get_or rows i row
      → get_or (zip_with row_line (map (take m) leads) (map (take n) rows)) i [] ≡ row_line (take m lead) (take n row)
  rows_at i lead row h e f =
      zip_at row_line (map (take m) leads) (map (take n) rows) [] [] [] i (omega (arith, length-map leads (take m))) same
      ∙ ap₂ row_line (first_at m leads i lead h e) (first_at n rows i row (omega arith) f)
