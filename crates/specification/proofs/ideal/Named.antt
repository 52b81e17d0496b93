-- A basis names its points (request M-113): they are where every row is zero, so it is the basis of one set of points. Of the order only the laws are used.
use mathlib.Core.Path.{refl}
use mathlib.Core.List.{List, [], ◌∷◌}
use mathlib.Core.Logic.{◌↔◌, inl}
use Prim.Native.Nat.{ℕ}
use Rattle.residue.specs.Lists.{Among}
use Rattle.residue.proofs.Sums.{each}
use Rattle.specification.specs.Space.{Space}
use Rattle.specification.specs.Polynomial.{Polynomial, Vanishes}
use Rattle.specification.specs.Basis.{IsBasis}
use Rattle.specification.specs.Ideal.{Generated, row_polynomials}
use Rattle.specification.specs.SheetNames.{AllZero}
use Rattle.specification.proofs.ideal.Laws.{Laws}
use Rattle.specification.proofs.ideal.ZeroSet.{closed}
use Rattle.specification.proofs.ideal.Generated.{generated_vanishes}
use Rattle.specification.proofs.ideal.Rows.{has_lead, row_vanishes}
use Rattle.specification.proofs.ideal.Division.{rows_generate}

module _ (D : Space) (L : Laws D) where
  open D use {Mono, Pt}

  module _ (S : List Pt) (standard leads : List Mono) (rows : List (List ℕ)) (b : IsBasis D S standard leads rows) where
    abbrev G : List (Polynomial D)
    G = row_polynomials D standard leads rows

    -- Document 02, M-113: 'the states are precisely those at which every row is zero'. Whatever vanishes at the points is a combination of the rows, and so
    -- is zero where these are.
    pub points_are_zeros : (P : Pt) → Among P S ↔ AllZero D G P
    points_are_zeros P = (there, λ z. closed D L S P (λ f v. with_rows z f ((rows_generate D L S standard leads rows b f).0 v) P (inl refl)))
      where
        there : Among P S → AllZero D G P
        there mem g w = let r = has_lead D L S standard leads rows b g w in row_vanishes D L S standard leads rows b g r.0 r.1 P mem

        with_rows : AllZero D G P → (f : Polynomial D) → Generated D G f → Vanishes D f (P ∷ [])
        with_rows z f = generated_vanishes D L (P ∷ []) G f (λ g w. each [] (z g w) (λ Q u. absurd u))

  -- What is the basis of two lists of points is that of one set.
  pub basis_names : (S S' : List Pt) (standard leads : List Mono) (rows : List (List ℕ)) → IsBasis D S standard leads rows → IsBasis D S' standard leads rows
      → (P : Pt) → Among P S ↔ Among P S'
  basis_names S S' standard leads rows b b' P =
      let z = points_are_zeros S standard leads rows b P in
      let z' = points_are_zeros S' standard leads rows b' P in
      ((λ mem. z'.1 (z.0 mem)), λ mem. z.1 (z'.0 mem))
