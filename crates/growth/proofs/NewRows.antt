-- Rows of the tables when a point is added: the row that elimination makes of a monomial's values, and the rows that stay, corrected.
use mathlib.Core.Path.{◌≡◌, sym, ◌∙◌, ap}
use mathlib.Core.List.{List, [], ◌∷◌, ◌++◌, map, map-map}
use Prim.Native.Nat.{ℕ, zero, suc, ◌+◌, ◌*◌, ◌-◌, ◌%◌, ◌<◌, ◌≤◌, suc-le-suc, zero-le}
use native.Mathlib.Nat.{mod-lt, le_of_suc-le-suc}
use native.Mathlib.Omega.{arith}
use lib.ListN.{length, get_or, take, drop, replicate, length-map}
use lib.Seq.{take_all}
use Rattle.residue.specs.Congruence.{Mod}
use Rattle.residue.specs.Lists.{Among}
use Rattle.residue.specs.Vector.{Below, dot_of}
use Rattle.elimination.specs.Elimination.{eliminated}
use Rattle.residue.specs.Layout.{groups, fill, in_places, over}
use Rattle.residue.proofs.Congruence.{of, ◌then◌, reduce, negative, ring}
use Rattle.residue.proofs.vector.Vectors.{map_at, map_same}
use Rattle.residue.proofs.Layouts.{fill_front}
use Rattle.residue.proofs.Places.{table_groups, over_zeros}
use Rattle.monomial.specs.Monomial.{monomial_at}
use Rattle.monomial.specs.Order.{Order}
use Rattle.monomial.specs.Terms.{term_values}
use Rattle.monomial.proofs.Padding.{value_fill}
use Rattle.specification.specs.Space.{Space}
use Rattle.specification.specs.Polynomial.{Distinct}
use Rattle.specification.specs.BasisOf.{basis_of, row_of, interpolant_of}
use Rattle.specification.specs.Instance.{Monomial, Point, space_of}
use Rattle.specification.specs.BasisOf as B
use Rattle.specification.proofs.ideal.Laws.{Laws}
use Rattle.specification.proofs.ideal.Lists.{index_of}
use Rattle.specification.proofs.ideal.Basis.{value_at_lem, interpolant_fits, interpolant_agree}
use Rattle.growth.specs.Growing.{reduced_row}
use Rattle.growth.proofs.Negatives.{interpolant_minus}

-- the values of one term with coefficient 1 are those of its monomial
pub one_term : (p n : ℕ) (a points : List ℕ) → length a ≡ 8 → term_values p (1 ∷ []) a n points ≡ map (λ point. monomial_at point a % p) (groups 8 n points)
unfolding term_values groups dot_of
one_term p n a points h = map_same _ _ (groups 8 n points) (λ P w. ap (λ (v : ℕ). v % p) (alone (monomial_at P (take 8 a)) ∙ ap (monomial_at P) (take_all 8 a (omega arith))))
  where
    alone : (v : ℕ) → 1 * v + 0 ≡ v
    alone v = omega arith

-- zeros at the front dropped
drop_zeros : (n k : ℕ) (l : List ℕ) → n + 64 ≤ k → take 64 (drop n (fill k (replicate n 0 ++ l))) ≡ fill 64 l
unfolding fill
drop_zeros zero k l h = fill_front 64 k l (omega arith)
drop_zeros (suc n) zero l h = absurd (omega arith)
drop_zeros (suc n) (suc k) l h = drop_zeros n k l (omega arith)

module _ (q m : ℕ) (order : Order) (few : m ≤ 8) (L : Laws (space_of q m order)) (S : List (Point (suc q) m)) (d : Distinct (space_of q m order) S) where
  abbrev D : Space
  D = space_of q m order

  -- the values of a monomial at the points
  abbrev values_of : Monomial m → List ℕ
  values_of a = map (λ (Q : Point (suc q) m). monomial_at Q.0 a.0 % suc q) S

  interpolant_values : (a : Monomial m) → interpolant_of D S (values_of a) ≡ (basis_of D S).interpolant (D.val a)
  interpolant_values a = interpolant_agree D L S d (B.value_at D S (values_of a)) (D.val a) at
    where
      at : (Q : Point (suc q) m) → Among Q S → Mod (suc q) (B.value_at D S (values_of a) Q) (D.val a Q)
      at Q mem = let t = index_of S Q Q mem in
          of (ap (B.value_at D S (values_of a)) (sym t.2) ∙ value_at_lem D L S (values_of a) t.0 Q d t.1 (rw (length-map S (λ (R : Point (suc q) m). monomial_at R.0 a.0 % suc q)) t.1)
          ∙ map_at (λ (R : Point (suc q) m). monomial_at R.0 a.0 % suc q) S Q 0 t.0 t.1 ∙ ap (λ (R : Point (suc q) m). monomial_at R.0 a.0 % suc q) t.2)
          then reduce (suc q) (monomial_at Q.0 a.0)

  -- minus the interpolant of its values is its row
  row_from : (a : Monomial m) → map (λ c. (suc q - c) % suc q) (interpolant_of D S (values_of a)) ≡ row_of D S a
  row_from a = ap (map (λ c. (suc q - c) % suc q)) (interpolant_values a)
      ∙ map_same (λ c. (suc q - c) % suc q) (λ c. (q * c) % suc q) ((basis_of D S).interpolant (D.val a)) (λ c mem. let h = (interpolant_fits D L S d (D.val a)).residues c mem in (negative q c (omega arith)).same)
      ∙ ap (map (λ c. (q * c) % suc q)) (interpolant_agree D L S d (D.val a) (λ Q. q * (q * D.val a Q)) (λ Q mem. ring (q * D.val a Q) (D.val a Q) (omega arith)))
      ∙ interpolant_minus D L S d (λ Q. q * D.val a Q)

  module _ (short : length S ≤ 64) (rows pivots : List ℕ)
      (solves : (vs : List ℕ) → length vs ≡ length S → Below (suc q) vs
      → eliminated (suc q) rows pivots (length S) (fill 128 vs) ≡ fill 128 (replicate (length S) 0 ++ map (λ c. (suc q - c) % suc q) (interpolant_of D S vs))) where
    pub reduced_is : (a : Monomial m) → reduced_row (suc q) (length S) (fill 512 (in_places 8 (map (λ (Q : Point (suc q) m). Q.0) S))) rows pivots (fill 8 a.0) ≡ fill 64 (row_of D S a)
    unfolding reduced_row
    reduced_is a =
        let f : Point (suc q) m → List ℕ = λ Q. Q.0 in
        let n = length-map S f in
        let read : groups 8 (length S) (fill 512 (in_places 8 (map f S))) ≡ map (fill 8) (map f S) = ap (λ (k : ℕ). groups 8 k (fill 512 (in_places 8 (map f S)))) (sym n) ∙ table_groups 8 512 (map f S) (omega arith) in
        let value : (Q : Point (suc q) m) → monomial_at (fill 8 Q.0) (fill 8 a.0) ≡ monomial_at Q.0 a.0 =
        λ Q. value_fill Q.0 a.0 (Q.1.0 ∙ sym a.1) (rw Q.1.0 few) in
        let vs : map (λ point. monomial_at point (fill 8 a.0) % suc q) (groups 8 (length S) (fill 512 (in_places 8 (map f S)))) ≡ values_of a =
        ap (map (λ point. monomial_at point (fill 8 a.0) % suc q)) read ∙ map-map (λ point. monomial_at point (fill 8 a.0) % suc q) (fill 8) (map f S) ∙ map-map (λ point. monomial_at (fill 8 point) (fill 8 a.0) % suc q) f S
        ∙ map_same (λ (Q : Point (suc q) m). monomial_at (fill 8 Q.0) (fill 8 a.0) % suc q) (λ Q. monomial_at Q.0 a.0 % suc q) S (λ Q mem. ap (λ (z : ℕ). z % suc q) (value Q)) in
        let long : length (values_of a) ≡ length S = length-map S _ in
        ap (λ (z : List ℕ). take 64 (drop (length S) (eliminated (suc q) rows pivots (length S) z))) (ap (λ (z : List ℕ). over z (replicate 128 0)) vs ∙ over_zeros (values_of a) 128 (omega arith))
        ∙ ap (λ (z : List ℕ). take 64 (drop (length S) z)) (solves (values_of a) long (residues a))
        ∙ drop_zeros (length S) 128 (map (λ c. (suc q - c) % suc q) (interpolant_of D S (values_of a))) (omega arith) ∙ ap (fill 64) (row_from a)
      where
        residues : (a : Monomial m) → Below (suc q) (values_of a)
        residues a i h =
            let k : i < length S = rw (length-map S (λ (R : Point (suc q) m). monomial_at R.0 a.0 % suc q)) at h in
            go S i k
          where
            go : (T : List (Point (suc q) m)) (i : ℕ) → i < length T → get_or (map (λ (Q : Point (suc q) m). monomial_at Q.0 a.0 % suc q) T) i 0 < suc q
            go [] i h = absurd (omega arith)
            go (Q ∷ T) zero h = mod-lt (monomial_at Q.0 a.0) (suc-le-suc zero-le)
            go (Q ∷ T) (suc i) h = go T i (le_of_suc-le-suc h)
