-- The rows of a table: by the places that they are written from, and read back from a table that rows were laid into.
use mathlib.Core.Path.{◌≡◌, refl, sym, ◌∙◌, ap, ap₂}
use mathlib.Core.Logic.{inl, inr}
use mathlib.Core.List.{List, [], ◌∷◌, ◌++◌, map, append_assoc}
use Prim.Native.Nat.{ℕ, ◌+◌, ◌-◌, ◌*◌, ◌≤◌}
use native.Mathlib.Omega.{arith}
use lib.ListN.{length, take, replicate, length-map}
use Rattle.residue.specs.Lists.{Among}
use Rattle.residue.specs.Layout.{groups, fill, in_places}
use Rattle.residue.proofs.Layouts.{take_fill, places_back, table_split}
use Rattle.residue.proofs.Places.{length_groups}
use Rattle.writing.specs.Rows.{in_table}

module _ (w n m : ℕ) (t : List ℕ) where
  pub length_table : length (in_table w n m t) ≡ n
  unfolding in_table
  length_table = length-map (groups w n t) (take m) ∙ length_groups w n t

-- the rows that lie in a table, by the groups that it is cut into
pub rows_are : (w n m : ℕ) (t : List ℕ) {rows : List (List ℕ)} → rows ≡ groups w n t → map (take m) rows ≡ in_table w n m t
unfolding in_table
rows_are w n m t e = ap (map (take m)) e

each_back : (m w : ℕ) (L : List (List ℕ)) → m ≤ w → ((a : List ℕ) → Among a L → length a ≡ m) → map (take m) (map (fill w) L) ≡ L
each_back m w [] h e = refl
each_back m w (a ∷ L) h e = ap₂ (λ (x : List ℕ) (l : List (List ℕ)). x ∷ l) (take_fill m w a (e a (inl refl)) h) (each_back m w L h (λ b q. e b (inr q)))

-- rows of m numbers in the places of a table of the given size, whatever is behind it
pub table_behind : (w N n m : ℕ) (L : List (List ℕ)) (behind : List ℕ) → length L ≡ n → w * n ≤ N → m ≤ w → ((a : List ℕ) → Among a L → length a ≡ m)
    → in_table w n m (fill N (in_places w L) ++ behind) ≡ L
unfolding in_table
table_behind w N n m L behind l k h e = ap (map (take m)) (ap₂ (λ (j : ℕ) (z : List ℕ). groups w j z) (sym l) front ∙ places_back w L rest) ∙ each_back m w L h e
  where
    left : ℕ
    left = N - w * length L

    rest : List ℕ
    rest = replicate left 0 ++ behind

    fits : w * length L + left ≡ N
    fits = let j : w * length L ≡ w * n = ap (λ (i : ℕ). w * i) l in omega arith

    front : fill N (in_places w L) ++ behind ≡ in_places w L ++ rest
    front =
        ap (λ (z : List ℕ). z ++ behind) (ap (λ (j : ℕ). fill j (in_places w L)) (sym fits) ∙ table_split w L left)
        ∙ append_assoc (in_places w L) (replicate left 0) behind
