-- Interpolants and remainders, as elimination of values finds them.
use mathlib.Core.Path.{◌≡◌, refl, sym, ◌∙◌, ap, ap₂, subst}
use mathlib.Core.List.{List, [], ◌∷◌, ◌++◌, map, append_assoc}
use mathlib.Core.Logic.{inl, inr}
use Prim.Native.Nat.{ℕ, zero, suc, ◌+◌, ◌-◌, ◌%◌, ◌<◌, ◌≤◌}
use native.Mathlib.Nat.{mod_self, mod-eq_of_lt}
use native.Mathlib.Omega.{arith}
use lib.ListN.{length, get_or, take, drop, replicate, length-map, length-replicate, length-append}
use lib.Seq.{take_at, drop_at}
use lib.Dec.{T}
use Rattle.residue.specs.Lists.{Among}
use Rattle.residue.specs.Congruence.{Mod}
use Rattle.residue.specs.Vector.{Below, dot_of}
use Rattle.residue.specs.Layout.{fill, in_places, over, groups}
use Rattle.residue.proofs.Congruence.{of, reduce, ◌then◌}
use Rattle.residue.proofs.vector.Vectors.{map_at}
use Rattle.residue.proofs.level.Moduli.{modulus_range}
use Rattle.residue.proofs.Layouts.{fill_tail}
use Rattle.residue.proofs.Places.{table_groups}
use Rattle.monomial.specs.Monomial.{monomial_at}
use Rattle.specification.specs.declared.settings.Settings.{Settings}
use Rattle.specification.specs.BasisOf.{value_at, interpolant_of, remainder_of}
use Rattle.specification.specs.Tables.{order_under, space_under, points_under}
use Rattle.specification.specs.Polynomial.{Polynomial, eval}
use Rattle.specification.specs.Instance.{Point, point_of}
use Rattle.specification.specs.Solving.{within_variables, polynomial_of}
use Rattle.specification.proofs.ideal.Lists.{get_d_among, index_of}
use Rattle.specification.proofs.ideal.Basis.{interpolant_fits, interpolant_agree, value_at_lem}
use Rattle.specification.proofs.ideal.Counts.{standard_length}
use Rattle.specification.specs.Points.{Points}
use Rattle.specification.proofs.agreement.Points.{point_same}
use Rattle.specification.specs.Settings.{Accepted}
use Rattle.specification.proofs.agreement.Drawings.{laws_under, distinct_points}
use Rattle.interpolation.specs.Solving.{solution}
use Rattle.construction.specs.Drawing.{Solves}
use Rattle.interpolation.proofs.Terms.{terms_value}

-- a point of the space
abbrev pub point_under : (s : Settings) → List ℕ → Point (suc (s.modulus - 1)) s.variables
point_under s = point_of (s.modulus - 1) s.variables

-- the front of a list of zeros, written over
pub front_of : (l found : List ℕ) (k n : ℕ) → found ≡ over l (replicate k 0) → length l ≡ n → take n found ≡ l
unfolding over
front_of l found k n e h = ap (take n) e ∙ take_at l _ n h

-- minus minus a residue
twice : (p c : ℕ) → c < p → (p - (p - c) % p) % p ≡ c
twice zero c h = absurd (omega arith)
twice (suc q) zero h = let z : suc q - 0 ≡ suc q = omega arith in rw (z, mod_self (suc q), z, mod_self (suc q))
twice (suc q) (suc c) h =
    let e : (suc q - suc c) % suc q ≡ suc q - suc c = mod-eq_of_lt (omega arith) in
    let d : suc q - (suc q - suc c) ≡ suc c = omega arith in
    rw (e, d) (mod-eq_of_lt h)

back : (p : ℕ) (l : List ℕ) → ((c : ℕ) → Among c l → c < p) → map (λ x. (p - x) % p) (map (λ x. (p - x) % p) l) ≡ l
back p [] h = refl
back p (c ∷ l) h = ap₂ (λ (a : ℕ) (k : List ℕ). a ∷ k) (twice p c (h c (inl refl))) (back p l (λ d w. h d (inr w)))

-- what stands behind n zeros
behind : (n k : ℕ) (l : List ℕ) → length l ≡ n → n + n ≤ k → take n (drop n (fill k (replicate n 0 ++ l))) ≡ l
behind n k l e h =
    let z : length (replicate {A = ℕ} n 0) ≡ n = length-replicate n 0 in
    let d : length (replicate n 0 ++ l) ≤ k = rw (length-append (replicate n 0) l) (omega arith) in
    ap (λ (t : List ℕ). take n (drop n t)) (fill_tail k (replicate n 0 ++ l) d ∙ append_assoc (replicate n 0) l _)
    ∙ ap (take n) (drop_at (replicate n 0) _ n z) ∙ take_at l _ n e

module _ (s : Settings) (ok : Accepted s) (S : List (List ℕ)) (h : Points s S) where
  abbrev pub interpolant : List ℕ → List ℕ
  interpolant vs = interpolant_of (space_under s) (points_under s S) vs

  pub length_interpolant : (vs : List ℕ) → length (interpolant vs) ≡ length S
  length_interpolant vs =
      (interpolant_fits (space_under s) (laws_under s ok) (points_under s S) (distinct_points s ok S h) _).long
      ∙ standard_length (space_under s) (laws_under s ok) (points_under s S) (distinct_points s ok S h) ∙ length-map S _

  -- elimination answers the interpolant
  pub solution_is : (rows pivots : List ℕ) → Solves s S rows pivots → (vs : List ℕ) → length vs ≡ length S → Below s.modulus vs
      → solution s.modulus (length S) rows pivots (fill 128 vs) ≡ interpolant vs
  unfolding solution
  solution_is rows pivots e vs l b =
      let n : ℕ = length S in
      let p : s.modulus ≡ suc (s.modulus - 1) = omega (arith, modulus_range s.modulus ok.modulus) in
      let f = interpolant_fits (space_under s) (laws_under s ok) (points_under s S) (distinct_points s ok S h) (value_at (space_under s) (points_under s S) vs) in
      ap (λ (w : List ℕ). map (λ x. (s.modulus - x) % s.modulus) (take n (drop n w))) (e.solves vs l b)
      ∙ ap (map (λ x. (s.modulus - x) % s.modulus)) (behind n 128 _ (length-map (interpolant vs) _ ∙ length_interpolant vs) (omega (arith, h.few)))
      ∙ back s.modulus (interpolant vs) (λ c w. rw p (f.residues c w))

  -- The remainder: the polynomial's values at the points, reduced.
  module _ (f : Polynomial (space_under s)) where
    pub remainder_is : (vs : List ℕ) → length vs ≡ length S → ((i : ℕ) → i < length S → get_or vs i 0 ≡ eval (space_under s) f (point_under s (get_or S i [])) % s.modulus)
        → interpolant vs ≡ remainder_of (space_under s) (points_under s S) f
    remainder_is vs l e =
        interpolant_agree (space_under s) (laws_under s ok) (points_under s S) (distinct_points s ok S h) (value_at (space_under s) (points_under s S) vs) (eval (space_under s) f) agree
      where
        agree : (P : Point (suc (s.modulus - 1)) s.variables) → Among P (points_under s S) → Mod (suc (s.modulus - 1)) (value_at (space_under s) (points_under s S) vs P) (eval (space_under s) f P)
        agree P w =
            let d = index_of (points_under s S) P P w in
            let i : ℕ = d.0 in
            let k : i < length S = omega (arith, d.1, length-map S (point_under s)) in
            let there : get_or (points_under s S) i P ≡ point_under s (get_or S i []) = map_at (point_under s) S [] P i k in
            let p : s.modulus ≡ suc (s.modulus - 1) = omega (arith, modulus_range s.modulus ok.modulus) in
            subst (λ (Z : Point (suc (s.modulus - 1)) s.variables). Mod (suc (s.modulus - 1)) (value_at (space_under s) (points_under s S) vs Z) (eval (space_under s) f Z)) d.2
            (of (value_at_lem (space_under s) (laws_under s ok) (points_under s S) vs i P (distinct_points s ok S h) d.1 (omega arith) ∙ e i k ∙ ap (λ (n : ℕ). eval (space_under s) f (point_under s (get_or S i [])) % n) p)
            then reduce (suc (s.modulus - 1)) _ then of (ap (eval (space_under s) f) (sym there)))

  -- The values of a polynomial handed in, as they are found at the places of the points.
  module _ (cs : List ℕ) (es : List (List ℕ)) (eight : (e : List ℕ) → Among e es → length e ≡ 8) (within : T (within_variables s.variables es)) where
    abbrev found : List ℕ → ℕ
    found P = dot_of cs (map (monomial_at P) es) % s.modulus

    abbrev pub values_in : List ℕ
    values_in = map found (groups 8 (length S) (fill 512 (in_places 8 S)))

    values_places : values_in ≡ map found (map (fill 8) S)
    values_places = ap (map found) (table_groups 8 512 S (omega (arith, h.few)))

    pub value_in : (i : ℕ) → i < length S
        → get_or values_in i 0 ≡ eval (space_under s) (polynomial_of s.variables cs es) (point_under s (get_or S i [])) % s.modulus
    value_in i k =
        let P : List ℕ = get_or S i [] in
        let p = point_same s ok.few P (h.points P (get_d_among S i [] k)) in
        ap (λ (l : List ℕ). get_or l i 0) values_places
        ∙ map_at found (map (fill 8) S) [] 0 i (omega (arith, length-map S (fill 8)))
        ∙ ap found (map_at (fill 8) S [] [] i k)
        ∙ ap (λ (Q : List ℕ). found (fill 8 Q)) (sym p)
        ∙ ap (λ (v : ℕ). v % s.modulus) (terms_value (s.modulus - 1) s.variables (order_under s) (point_under s P) 8 cs es ok.few eight within)
