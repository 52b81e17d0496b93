-- Modulo 2: standard monomials are without squares; x_k^2 is a lead exactly where x_k is standard, with the row x_k^2 + x_k; every other lead is without squares.
use mathlib.Core.Path.{◌≡◌, refl, sym, ap, ◌∙◌, subst}
use mathlib.Core.Bool.{Bool, ◌||◌}
use mathlib.Core.List.{List, [], ◌∷◌, map}
use mathlib.Core.Logic.{◌⊎◌, inl, inr, ◌↔◌}
use Prim.Native.Nat.{ℕ, zero, suc, ◌+◌, ◌*◌, ◌<◌, ◌≤◌}
use native.Mathlib.Omega.{arith}
use native.Mathlib.Decide.{ℕ_discrete}
use lib.ListN.{length-map}
use Rattle.residue.specs.Congruence.{Mod}
use Rattle.residue.specs.Lists.{Among}
use Rattle.residue.proofs.Congruence.{rfl, of, ◌then◌, ◌plus◌, lin}
use Rattle.residue.proofs.Tests.{Decides, so, not_so, dec_of}
use Rattle.specification.specs.Space.{Space, Less, Divides}
use Rattle.specification.specs.Polynomial.{hit, Leading, Distinct}
use Rattle.specification.specs.BasisOf.{standard_of, leads_of, row_of}
use Rattle.specification.proofs.ideal.Laws.{Laws, same_told, same?, divides_told, trans, less_ne, hit_same, hit_other}
use Rattle.specification.proofs.ideal.Lists.{among_map}
use Rattle.specification.proofs.ideal.Polynomials.{pair_terms}
use Rattle.specification.proofs.ideal.Staircase.{hit_at}
use Rattle.specification.proofs.ideal.Basis.{coefficients_of, staircase, standard_iff, row_only}
use Rattle.specification.specs.Squares.{variable, square, Squarefree, Boolean, is_in}

module _ (D : Space) (L : Laws D) where
  open D use {Mono}

  pub is_in_told : (a : Mono) (l : List Mono) → Decides (Among a l) (is_in D a l)
  unfolding is_in
  is_in_told a [] = not_so (λ z. z)
  is_in_told a (b ∷ l) = go (same_told D L a b) (is_in_told a l)
    where
      go : {s t : Bool} → Decides (a ≡ b) s → Decides (Among a l) t → Decides ((a ≡ b) ⊎ Among a l) (s || t)
      go (so e) d = so (inl e)
      go (not_so n) (so z) = so (inr z)
      go (not_so n) (not_so k) = not_so (λ u. elim u [ inl e ↦ n e | inr z ↦ k z ])

-- a number is its square, modulo 2
pub self_square : (c : ℕ) → Mod 2 (c * c) c
self_square zero = rfl
self_square (suc c) = lin (self_square c) 0 c (omega arith)

module _ (D : Space) (L : Laws D) (B : Boolean D) where
  open D use {q, m, Mono, Pt, one, x, val, coord}
  open L use {one_not_zero, val_one, val_x, x_up, dvd_x, step}

  infix 35 ◌≈◌
  abbrev ◌≈◌ : ℕ → ℕ → Type 0
  a ≈ b = Mod (suc q) a b

  -- x_k^2 and x_k have one value at every point
  pub same_value : (k : ℕ) → k < m → (P : Pt) → val (square D k) P ≈ val (variable D k) P
  same_value k h P = of (val_x k (variable D k) P h ∙ ap (λ (v : ℕ). coord k P * v) own) then rw B.two (self_square (coord k P)) then of (sym own)
    where
      own : val (variable D k) P ≡ coord k P
      own = val_x k one P h ∙ ap (λ (v : ℕ). coord k P * v) (val_one P) ∙ (omega arith)

  module _ (S : List Pt) where
    pub square_leading : (k : ℕ) → k < m → Leading D S (square D k)
    square_leading k h = (
      (1, square D k) ∷ (q, variable D k) ∷ [],
      (λ P mem. lin (same_value k h P) 0 (val (variable D k) P) (omega arith)),
      (
        (λ z. one_not_zero (of (sym (leads_one (hit_same D L {a = square D k} {b = square D k} refl) (hit_other D L {a = square D k} {b = variable D k} (λ e. less_ne D L up (sym e))))) then z)),
        λ b u. of (rest_zero b (hit_other D L {a = b} {b = square D k} (λ e. less_ne D L u (sym e))) (hit_other D L {a = b} {b = variable D k} (λ e. less_ne D L (trans D L up u) (sym e)))),
      ),
    )
      where
        up : Less D (variable D k) (square D k)
        up = x_up h

        leads_one : {u v : ℕ} → u ≡ 1 → v ≡ 0 → 1 * u + (q * v + 0) ≡ 1
        leads_one e f = rw (e, f) (omega arith)

        rest_zero : (b : Mono) {u v : ℕ} → u ≡ 0 → v ≡ 0 → 1 * u + (q * v + 0) ≡ 0
        rest_zero b e f = rw (e, f) (omega arith)

    module _ (d : Distinct D S) where
      pub square_not_standard : (k : ℕ) → k < m → ¬ Among (square D k) (standard_of D S)
      square_not_standard k h mem = (standard_iff D L S d (square D k)).0 mem (square_leading k h)

      pub standard_squarefree : (a : Mono) → Among a (standard_of D S) → Squarefree D a
      standard_squarefree a mem k h z = square_not_standard k h ((staircase D L S d).down (square D k) a z mem)

      -- x_k^2 is a lead exactly where x_k is standard
      pub square_lead : (k : ℕ) → k < m → Among (square D k) (leads_of D S) ↔ Among (variable D k) (standard_of D S)
      square_lead k h = (
        (λ mem. (staircase D L S d).minimal (square D k) mem (variable D k) (dvd_x h) (λ e. less_ne D L (x_up h) e)),
        λ mem. let t = (staircase D L S d).cover (square D k) (square_not_standard k h) in go mem t.0 t.1 t.2 (same? D L t.0 (square D k)),
      )
        where
          go : Among (variable D k) (standard_of D S) → (b : Mono) → Among b (leads_of D S) → Divides D b (square D k) → Dec (b ≡ square D k) → Among (square D k) (leads_of D S)
          go mem b at z (yes e) = subst (λ (y : Mono). Among y (leads_of D S)) e at
          go mem b at z (no e) =
              let s = step z e in
              absurd ((staircase D L S d).outside b at ((staircase D L S d).down b s.1 s.4 (rw (B.square_of h s.2 s.3) mem)))

      -- a square that divides a monomial, if there is one among the first j variables
      pub square_in_lem : (a : Mono) (j : ℕ) → j ≤ m → ((k : ℕ) → k < j → ¬ Divides D (square D k) a) ⊎ ((k : ℕ) × (k < m) × Divides D (square D k) a)
      square_in_lem a zero h = inl (λ k u z. absurd (omega arith))
      square_in_lem a (suc j) h = go (square_in_lem a j (omega arith)) (dec_of (divides_told D L (square D j) a))
        where
          last : ((k : ℕ) → k < j → ¬ Divides D (square D k) a) → ¬ Divides D (square D j) a → (k : ℕ) → k < suc j → ¬ Divides D (square D k) a
          last f n k u z = pick (ℕ_discrete k j)
            where
              pick : Dec (k ≡ j) → ⊥
              pick (yes e) = n (subst (λ (i : ℕ). Divides D (square D i) a) e z)
              pick (no e) = f k (omega arith) z

          go : ((k : ℕ) → k < j → ¬ Divides D (square D k) a) ⊎ ((k : ℕ) × (k < m) × Divides D (square D k) a) → Dec (Divides D (square D j) a)
              → ((k : ℕ) → k < suc j → ¬ Divides D (square D k) a) ⊎ ((k : ℕ) × (k < m) × Divides D (square D k) a)
          go (inr t) _ = inr t
          go (inl f) (yes z) = inr (j, omega arith, z)
          go (inl f) (no n) = inl (last f n)

      -- every other lead is without squares
      pub lead_kinds : (a : Mono) → Among a (leads_of D S) → Squarefree D a ⊎ ((k : ℕ) × (k < m) × (a ≡ square D k))
      lead_kinds a mem = go (square_in_lem a m (omega arith))
        where
          is : (k : ℕ) → k < m → Divides D (square D k) a → Dec (square D k ≡ a) → a ≡ square D k
          is k h z (yes e) = sym e
          is k h z (no n) = absurd (square_not_standard k h ((staircase D L S d).minimal a mem (square D k) z n))

          go : ((k : ℕ) → k < m → ¬ Divides D (square D k) a) ⊎ ((k : ℕ) × (k < m) × Divides D (square D k) a) → Squarefree D a ⊎ ((k : ℕ) × (k < m) × (a ≡ square D k))
          go (inl f) = inl f
          go (inr t) = inr (t.0, t.1, is t.0 t.1 t.2 (same? D L (square D t.0) a))

      -- its row is x_k^2 + x_k: the coefficient 1 at x_k, and 0 at all others
      pub square_row : (k : ℕ) → k < m → Among (variable D k) (standard_of D S) → row_of D S (square D k) ≡ map (hit D (variable D k)) (standard_of D S)
      square_row k h mem = sym (row_only D L S d (square D k) (map (hit D (variable D k)) (standard_of D S)) (record {
        long = length-map (standard_of D S) (hit D (variable D k));
        residues = λ c z. let t = among_map (hit D (variable D k)) (standard_of D S) c z in subst (λ (z : ℕ). z < suc q) (sym t.2) (subst (λ (z : ℕ). hit D (variable D k) t.0 < suc z) (sym B.two) (small t.0 (same? D L (variable D k) t.0)));
        vanishes = λ P z.
            of (ap (λ (v : ℕ). 1 * val (square D k) P + v) (pair_terms D (hit D (variable D k)) (standard_of D S) (λ b. val b P)))
            then both P (hit_at D L S (standard_of D S) (coefficients_of D S) (staircase D L S d).base (staircase D L S d).increasing (variable D k) mem P);
      }))
        where
          small : (a : Mono) → Dec (variable D k ≡ a) → hit D (variable D k) a < 2
          small a (yes e) = rw (hit_same D L {a = variable D k} {b = a} e) (omega arith)
          small a (no n) = rw (hit_other D L {a = variable D k} {b = a} n) (omega arith)

          two_times : (u : ℕ) → u + q * u ≈ 0
          two_times u = lin (rfl {x = 0}) 0 u (omega arith)

          both : (P : Pt) {v : ℕ} → v ≈ val (variable D k) P → 1 * val (square D k) P + v ≈ 0
          both P e = lin (same_value k h P plus e plus two_times (val (variable D k) P)) 0 0 (rw B.two (omega arith))
