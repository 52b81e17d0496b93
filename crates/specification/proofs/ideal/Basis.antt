-- The computed basis of distinct points is their basis, and whatever is their basis is the computed one; so are its rows, its interpolants and its remainders.
use mathlib.Core.Path.{◌≡◌, refl, sym, ◌∙◌}
use mathlib.Core.List.{List, [], ◌∷◌, map}
use mathlib.Core.Logic.{◌↔◌}
use Prim.Native.Nat.{ℕ, zero, suc, ◌*◌, ◌<◌}
use native.Mathlib.Omega.{arith}
use lib.ListN.{length, get_or}
use Rattle.residue.specs.Congruence.{Mod}
use Rattle.residue.specs.Lists.{Among}
use Rattle.residue.proofs.Congruence.{rfl, of, flip, ◌then◌, ◌plus◌, ◌times◌, scale}
use Rattle.residue.proofs.Sums.{sum_cong, sum_scale}
use Rattle.residue.proofs.Tests.{cond_so, cond_not}
use Rattle.specification.specs.Space.{Space}
use Rattle.specification.specs.Polynomial.{Polynomial, hit, eval, Greatest, Standard, Distinct, terms}
use Rattle.specification.specs.Basis.{Row, Fits, Rows, IsBasis}
use Rattle.specification.specs.BasisOf.{basis_of, standard_of, leads_of, row_of, rows_of, value_at, interpolant_of, remainder_of}
use Rattle.specification.proofs.ideal.Laws.{Laws, point_told}
use Rattle.specification.proofs.ideal.Lists.{get_d_among}
use Rattle.specification.proofs.ideal.Polynomials.{pair, Over, terms_over, collect}
use Rattle.specification.proofs.ideal.Newton.{at, error, interp_unique}
use Rattle.specification.proofs.ideal.Staircase.{Staircase, row_poly, row_at_lem, row_greatest, inside_iff, leads_iff}
use Rattle.specification.proofs.ideal.Unique.{fits_unique, fits_row, row_fits, basis_unique}
use Rattle.specification.proofs.ideal.Sound.{interpolation, eval_at, sound}

module _ (D : Space) where
  open D use {q, Mono, Pt, one, val}

  infix 35 ◌≈◌
  abbrev ◌≈◌ : ℕ → ℕ → Type 0
  a ≈ b = Mod (suc q) a b

  -- the coefficient of a monomial in the interpolant of φ
  abbrev pub coefficients_of : List Pt → (Pt → ℕ) → Mono → ℕ
  coefficients_of S = interpolation D (basis_of D S)

  -- the i-th row is the row of the i-th lead
  pub rows_at : (S : List Pt) (i : ℕ) → i < length (leads_of D S) → get_or (rows_of D S) i [] ≡ row_of D S (get_or (leads_of D S) i one)
  rows_at S i h = go (leads_of D S) i h
    where
      go : (l : List Mono) (j : ℕ) → j < length l → get_or (map (row_of D S) l) j [] ≡ row_of D S (get_or l j one)
      go [] j u = absurd (omega arith)
      go (a ∷ l) zero u = refl
      go (a ∷ l) (suc j) u = go l j (omega arith)

  module _ (L : Laws D) (S : List Pt) (d : Distinct D S) where
    pub staircase : Staircase D S (standard_of D S) (leads_of D S) (coefficients_of S)
    staircase = (sound D L S d).staircase

    -- docs/SCOPE.md, 'The sheet', Definitions: leading and standard monomials
    pub standard_iff : (a : Mono) → Among a (standard_of D S) ↔ Standard D S a
    standard_iff = inside_iff D L S (standard_of D S) (leads_of D S) (coefficients_of S) staircase

    -- docs/SCOPE.md, 'The sheet', Answers: an interpolant exists, of any values, and is the computed one.
    pub interpolant_fits : (φ : Pt → ℕ) → Fits D S (standard_of D S) φ ((basis_of D S).interpolant φ)
    interpolant_fits φ = record {
      long = (sound D L S d).long φ;
      residues = (sound D L S d).residues φ;
      values = λ P mem. eval_at D L (standard_of D S) staircase.increasing ((basis_of D S).interpolant φ) P then staircase.base.interp φ P mem;
    }

    pub interpolant_only : (φ : Pt → ℕ) (cs : List ℕ) → Fits D S (standard_of D S) φ cs → cs ≡ (basis_of D S).interpolant φ
    interpolant_only φ cs h = fits_unique D L S (standard_of D S) staircase.increasing (λ a mem. (standard_iff a).0 mem) φ cs ((basis_of D S).interpolant φ) h (interpolant_fits φ)

    -- values that agree at the points have one interpolant
    pub interpolant_agree : (φ ψ : Pt → ℕ) → ((P : Pt) → Among P S → φ P ≈ ψ P) → (basis_of D S).interpolant φ ≡ (basis_of D S).interpolant ψ
    interpolant_agree φ ψ h = let f = interpolant_fits φ in
        interpolant_only ψ ((basis_of D S).interpolant φ) (record { long = f.long; residues = f.residues; values = λ P mem. f.values P mem then h P mem })

    -- docs/SCOPE.md, 'The sheet', Definitions: a lead plus standard monomials with coefficients, zero at every point; there is only one such row
    pub row_is : (a : Mono) → Row D S (standard_of D S) a (row_of D S a)
    row_is a = fits_row D L S (standard_of D S) a (row_of D S a) (interpolant_fits (λ P. q * val a P))

    pub row_only : (a : Mono) (cs : List ℕ) → Row D S (standard_of D S) a cs → cs ≡ row_of D S a
    row_only a cs r = interpolant_only (λ P. q * val a P) cs (row_fits D L S (standard_of D S) a cs r)

    -- docs/SCOPE.md, 'The sheet': the computed tables are the basis,
    pub basis_is : IsBasis D S (standard_of D S) (leads_of D S) (rows_of D S)
    basis_is = record {
      standard_increasing = staircase.increasing;
      standard_members = standard_iff;
      leads_increasing = staircase.leads_increasing;
      leads_members = leads_iff D L S (standard_of D S) (leads_of D S) (coefficients_of S) staircase;
      rows_are = rows (leads_of D S);
    }
      where
        rows : (l : List Mono) → Rows D S (standard_of D S) l (map (row_of D S) l)
        rows [] = tt
        rows (a ∷ l) = (row_is a, rows l)

    -- and whatever is a basis of the points is the computed one
    pub basis_only : (standard leads : List Mono) (rows : List (List ℕ)) → IsBasis D S standard leads rows
        → (standard ≡ standard_of D S) × (leads ≡ leads_of D S) × (rows ≡ rows_of D S)
    basis_only standard leads rows h = basis_unique D L S standard (standard_of D S) leads (leads_of D S) rows (rows_of D S) h basis_is

    -- the computed row of a is a less its remainder, whatever the monomials stand for
    pub row_pair : (a : Mono) (φ : Mono → ℕ) → pair D ((1, a) ∷ terms D (row_of D S a) (standard_of D S)) φ ≈ pair D (row_poly D (standard_of D S) (coefficients_of S) a) φ
    row_pair a φ = rfl {x = 1 * φ a} plus (flip (collect D L (standard_of D S) staircase.increasing (terms D (row_of D S a) (standard_of D S)) over φ)
        then sum_cong (standard_of D S) (λ t mem. opposite t mem times rfl {x = φ t} then of (shape (coefficients_of S (val a) t) (φ t))) then of (sum_scale (λ t. coefficients_of S (val a) t * φ t) q (standard_of D S)))
        then of (omega arith) then flip (row_at_lem D (standard_of D S) (coefficients_of S) a φ)
      where
        shape : (u v : ℕ) → q * u * v ≡ q * (u * v)
        shape u v = omega arith

        over : Over D (standard_of D S) (terms D (row_of D S a) (standard_of D S))
        over = terms_over D (row_of D S a) (standard_of D S) (standard_of D S) (λ t mem. mem)

        scaled : (P : Pt) → at D (λ b. q * coefficients_of S (val a) b) (standard_of D S) P ≈ q * at D (coefficients_of S (val a)) (standard_of D S) P
        scaled P = sum_cong (standard_of D S) (λ b _. of (shape (coefficients_of S (val a) b) (val b P))) then of (sum_scale (λ b. coefficients_of S (val a) b * val b P) q (standard_of D S))

        opposite : (t : Mono) → Among t (standard_of D S) → coefficients_of S (λ P. q * val a P) t ≈ q * coefficients_of S (val a) t
        opposite t mem = flip (interp_unique D S (standard_of D S) (coefficients_of S) staircase.base (λ P. q * val a P) (λ b. q * coefficients_of S (val a) b)
            (λ P z. scaled P then scale q (staircase.base.interp (val a) P z)) t mem)

    -- docs/SCOPE.md, 'The sheet', Definitions: the monomials of a row are smaller than its lead
    pub row_smaller : (a : Mono) → ¬ Among a (standard_of D S) → Greatest D ((1, a) ∷ terms D (row_of D S a) (standard_of D S)) a
    row_smaller a out = ((λ z. g.0 (flip (row_pair a (hit D a)) then z)), λ b h. row_pair a (hit D b) then g.1 b h)
      where
        g : Greatest D (row_poly D (standard_of D S) (coefficients_of S) a) a
        g = row_greatest D L S (standard_of D S) (leads_of D S) (coefficients_of S) staircase a out

    -- the value of the row of a at Q, as an error of interpolation
    pub row_value_lem : (a : Mono) (Q : Pt) → eval D ((1, a) ∷ terms D (row_of D S a) (standard_of D S)) Q ≈ error D (standard_of D S) (coefficients_of S) Q (val a)
    row_value_lem a Q = row_pair a (λ b. val b Q) then row_at_lem D (standard_of D S) (coefficients_of S) a (λ b. val b Q)

    -- docs/SCOPE.md, 'The sheet', Answers: a polynomial's remainder has the polynomial's values at the points, and is alone in that
    pub remainder_fits : (f : Polynomial D) → Fits D S (standard_of D S) (eval D f) (remainder_of D S f)
    remainder_fits f = interpolant_fits (eval D f)

    pub remainder_only : (f : Polynomial D) (cs : List ℕ) → Fits D S (standard_of D S) (eval D f) cs → cs ≡ remainder_of D S f
    remainder_only f = interpolant_only (eval D f)

  module _ (L : Laws D) where
    -- the value given for the i-th point is the function's value there
    pub value_at_lem : (S : List Pt) (vs : List ℕ) (i : ℕ) (P : Pt) → Distinct D S → i < length S → i < length vs → value_at D S vs (get_or S i P) ≡ get_or vs i 0
    unfolding value_at
    value_at_lem [] vs i P d h k = absurd (omega arith)
    value_at_lem (Q ∷ S) [] i P d h k = absurd (omega arith)
    value_at_lem (Q ∷ S) (v ∷ vs) zero P d h k = cond_so (point_told D L Q Q) refl v (value_at D S vs Q)
    value_at_lem (Q ∷ S) (v ∷ vs) (suc i) P d h k =
        cond_not (point_told D L (get_or S i P) Q) (λ e. d.0 (get_or S i P) (get_d_among S i P (omega arith)) (sym e)) v (value_at D S vs (get_or S i P))
        ∙ value_at_lem S vs i P d.1 (omega arith) (omega arith)

    -- docs/SCOPE.md, 'The sheet', Answers: the interpolant of n values in the points' order has the i-th value at the i-th point
    pub interpolant_values : (S : List Pt) → Distinct D S → (vs : List ℕ) (i : ℕ) (P : Pt) → i < length S → i < length vs
        → eval D (terms D (interpolant_of D S vs) (standard_of D S)) (get_or S i P) ≈ get_or vs i 0
    interpolant_values S d vs i P h k = (interpolant_fits L S d (value_at D S vs)).values (get_or S i P) (get_d_among S i P h) then of (value_at_lem S vs i P d h k)
