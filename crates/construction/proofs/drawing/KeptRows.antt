-- The pivot rows that drawing up has kept, given outright: those of the columns of the standard monomials found, over the bytes that were lent.
use mathlib.Core.Path.{◌≡◌, sym, ap, ap₂, ◌∙◌}
use mathlib.Core.List.{List, [], ◌∷◌, ◌++◌, map, map-append}
use Prim.Native.Nat.{ℕ, suc, ◌+◌}
use native.Mathlib.Omega.{arith}
use lib.ListN.{length, get_or, set, take, length-map}
use Rattle.residue.specs.Inverse.{inverse_of}
use Rattle.residue.specs.Layout.{fill, with_place}
use Rattle.elimination.specs.Elimination.{eliminated, multiples_of}
use Rattle.elimination.specs.Rows.{first_nonzero, pivot_row}
use Rattle.monomial.specs.Order.{Order}
use Rattle.specification.specs.Space.{Space}
use Rattle.specification.specs.Instance.{Monomial, Point, space_of}
use Rattle.specification.specs.Cancellations.{value_column}
use Rattle.construction.specs.Drawing.{PivotBytes, pivot_bytes, with_row, with_column, with_columns}
use Rattle.construction.proofs.drawing.TablesHold.{Ground, InHand}
use Rattle.construction.proofs.drawing.Hands.{hand_column}

-- a column more, behind the others
column_more : (p n t : ℕ) (columns : List (List ℕ)) (values : List ℕ) (lent : PivotBytes)
    → with_columns p n t (columns ++ (values ∷ [])) lent ≡ with_column p n (t + length columns) values (with_columns p n t columns lent)
unfolding with_columns
column_more p n t [] values lent = ap (λ (k : ℕ). with_column p n k values lent) (omega arith)
column_more p n t (c ∷ columns) values lent =
    column_more p n (suc t) columns values (with_column p n t c lent)
    ∙ ap (λ (k : ℕ). with_column p n k values (with_columns p n (suc t) columns (with_column p n t c lent))) (omega arith)

module _ {q m n : ℕ} {order : Order} {S : List (Point (suc q) m)} {p : ℕ} (G : Ground q m n order S p) where
  abbrev D : Space
  D = space_of q m order

  abbrev columns : List (Monomial m) → List (List ℕ)
  columns l = map (value_column D S) l

  -- the monomial in hand is standard
  pub standard_kept : {std lds : List (Monomial m)} {b : Monomial m} {at exponents : List ℕ} {rank : ℕ} {own : List ℕ} → InHand q m n order S std lds b at exponents rank own
      → {rows pivots work : List ℕ} → work ≡ eliminated p rows pivots (length std) (fill 128 (take n own)) → (lent : PivotBytes) → pivot_bytes rows pivots ≡ with_columns p n 0 (columns std) lent
      → pivot_bytes (with_place 1152 (length std) (multiples_of p (pivot_row p (n + length std) (inverse_of p (get_or work (first_nonzero n work) 0)) work)) rows) (set pivots (length std) (first_nonzero n work))
      ≡ with_columns p n 0 (columns (std ++ (b ∷ []))) lent
  unfolding with_column with_row
  standard_kept {std} {b = b} B {rows} {pivots} {work} left lent e =
      ap (λ (w : List ℕ). with_row p n (length std) w (pivot_bytes rows pivots)) (left ∙ ap (λ (c : List ℕ). eliminated p rows pivots (length std) (fill 128 c)) (hand_column G B))
      ∙ ap₂ (λ (k : ℕ) (kept : PivotBytes). with_column p n k (value_column D S b) kept) (omega (arith, length-map std (value_column D S))) e
      ∙ sym (ap (λ (l : List (List ℕ)). with_columns p n 0 l lent) (map-append (value_column D S) std (b ∷ [])) ∙ column_more p n 0 (columns std) (value_column D S b) lent)
