-- What the loop of drawing up holds at its head: the standard monomials and leads found with their rows, as they lie in the tables, the pivot rows, and the monomial in
-- hand with its exponents, rank and values. S are the points, n of them.
use mathlib.Core.Path.{◌≡◌}
use mathlib.Core.Bool.{true}
use mathlib.Core.List.{List, [], ◌∷◌, ◌++◌, map}
use Prim.Native.Nat.{ℕ, suc, ◌+◌, ◌*◌, ◌<◌, ◌≤◌}
use lib.ListN.{length, get_or}
use Rattle.residue.specs.Congruence.{Mod}
use Rattle.residue.specs.Lists.{Among}
use Rattle.residue.specs.Modulus.{is_modulus}
use Rattle.residue.specs.Vector.{Below}
use Rattle.residue.specs.Layout.{fill, in_places}
use Rattle.elimination.proofs.reducing.PivotRows.{PivotRows}
use Rattle.monomial.specs.Order.{Order, LightOrder}
use Rattle.monomial.specs.Rank.{rank_of, rank_bound}
use Rattle.specification.specs.Space.{Space}
use Rattle.specification.specs.Polynomial.{Distinct}
use Rattle.specification.specs.Basis.{Rows}
use Rattle.specification.specs.BasisOf.{standard_of, leads_of}
use Rattle.specification.specs.Instance.{Monomial, Point, space_of, point_of}
use Rattle.specification.proofs.drawing.UpTo.{Drawn, Front, Bordered}
use Rattle.construction.proofs.drawing.Positions.{Positions}
use Rattle.construction.proofs.drawing.Candidates.{table_of, Ranked}
use Rattle.construction.proofs.drawing.Matrix.{values_of}

module _ (q m n : ℕ) (order : Order) (S : List (Point (suc q) m)) where
  abbrev D : Space
  D = space_of q m order

  -- the ith point; the second stands where there is none
  abbrev pub point_at : ℕ → Point (suc q) m
  point_at i = get_or S i (point_of q m [])

  -- the code's modulus p, and what it is handed
  pub record Ground (p : ℕ) : Type 0 where
    pub modulus : p ≡ suc q
    pub prime : is_modulus (suc q) ≡ true
    pub few : m ≤ 8
    pub count : length S ≡ n
    pub most : n ≤ 64
    pub light : LightOrder order
    pub distinct : Distinct D S

  pub record TablesHold (std lds : List (Monomial m)) (css : List (List ℕ)) (standard leads coefficients rows pivots values ranks steps : List ℕ) : Type 0 where
    pub standard_table_lem : standard ≡ table_of q m order std
    pub leads_table_lem : leads ≡ fill 3592 (in_places 8 (map (λ a. a.0) lds))
    pub coefficients_table_lem : coefficients ≡ fill 28736 (in_places 64 css)
    pub rows_are : Rows D S std lds css
    pub pivot_rows : PivotRows q n (length std) (values_of D std S (point_of q m [])) rows pivots
    pub values_long : length values ≡ 4096
    pub values_below : Below (suc q) values
    pub values_at : (t i : ℕ) → t < length std → i < n → Mod (suc q) (get_or values (64 * t + i) 0) (D.val (get_or std t D.one) (point_at i))
    pub ranks_long : length ranks ≡ 64
    pub ranks_below : Below rank_bound ranks
    pub ranked : Ranked q m order std ranks steps

  -- the monomial in hand
  pub record InHand (std lds : List (Monomial m)) (b : Monomial m) (at exponents : List ℕ) (rank : ℕ) (own : List ℕ) : Type 0 where
    pub front : Front D S std b
    pub bordered : Bordered D std b
    pub as_lead : Among b (leads_of D S) → Drawn D S std (lds ++ (b ∷ [])) b
    pub as_standard : Among b (standard_of D S) → Drawn D S (std ++ (b ∷ [])) lds b
    pub long : length at ≡ 8
    pub positions : Positions D std b (λ v. get_or at v 0)
    pub exponents_are : exponents ≡ fill 8 b.0
    pub rank_is : rank ≡ rank_of order (fill 8 b.0)
    pub own_long : length own ≡ 64
    pub own_below : Below (suc q) own
    pub own_at : (i : ℕ) → i < n → Mod (suc q) (get_or own i 0) (D.val b (point_at i))

  -- it is decided what it is
  pub record Decided (std lds : List (Monomial m)) (at : List ℕ) : Type 0 where
    pub last : Monomial m
    pub drawn : Drawn D S std lds last
    pub long : length at ≡ 8
    pub positions : Positions D std last (λ v. get_or at v 0)
