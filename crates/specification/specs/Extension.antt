-- One point more (docs/SCOPE.md, 'The sheet': adding follows Lemma 2), computed. The interpolants are Newton's.
use Rattle.std.specs.Prelude.{List, [], ◌∷◌, Bool, cond, ℕ, zero, suc, ◌+◌, ◌*◌, ◌%◌, eqb}
use Rattle.residue.specs.Lists.{some}
use Rattle.monomial.specs.Increasing.{placed, inserted}
use Rattle.specification.specs.Space.{Space, same}
use Rattle.specification.specs.Polynomial.{eval, terms}

module _ (D : Space) where
  open D use {q, m, Mono, Pt, one, x, val, cmp, divides, inv}

  -- the coefficient k put among those of an increasing list of monomials, in the place that a gets there
  unfoldable pub slot : Mono → ℕ → List Mono → List ℕ → List ℕ
  slot a k [] cs = k ∷ []
  slot a k (b ∷ l) [] = []
  slot a k (b ∷ l) (c ∷ cs) = placed k c cs (slot a k l cs) (cmp a b)

  -- coefficients less k times others, reduced
  unfoldable pub minus : List ℕ → ℕ → List ℕ → List ℕ
  minus [] k rs = []
  minus (c ∷ cs) k [] = []
  minus (c ∷ cs) k (r ∷ rs) = (c + q * (k * r)) % suc q ∷ minus cs k rs

  -- the leads but a
  unfoldable pub without : Mono → List Mono → List Mono
  without a [] = []
  without a (b ∷ l) = cond (same D a b) (without a l) (b ∷ without a l)

  -- some monomial of the list divides a
  unfoldable pub divided : List Mono → Mono → Bool
  divided l a = some (λ b. divides b a) l

  -- The leads when a has become standard: the others, and for each variable k below j the product x k a if none of those divides it.
  unfoldable pub extended : List Mono → Mono → ℕ → List Mono
  extended l a zero = without a l
  extended l a (suc k) = cond (divided (without a l) (x k a)) (extended l a k) (inserted cmp (x k a) (extended l a k))

  -- A basis as it is computed: the standard monomials and the leads, both increasing, and for every function on the points the coefficients of its
  -- interpolant, in the order of the standard monomials.
  pub record Basis : Type 0 where
    pub standard : List Mono
    pub leads : List Mono
    pub interpolant : (Pt → ℕ) → List ℕ

  -- a value v at P less that of the combination cs of l
  unfoldable pub gap : List Mono → Pt → ℕ → List ℕ → ℕ
  gap l P v cs = v + q * eval D (terms D cs l) P

  -- the lead of the first of the increasing rows that does not vanish at the new point. The row of a lead is the lead less its interpolant.
  unfoldable pub first : Basis → Pt → List Mono → Mono
  first b P [] = one
  first b P (a ∷ l) = cond (eqb (gap b.standard P (val a P) (b.interpolant (val a)) % suc q) 0) (first b P l) a

  -- Newton's step: the interpolant cs, plus the multiple of (a less its remainder ν) that gives the value v at P; i is the inverse of that one's value there.
  unfoldable pub newton : List Mono → Pt → Mono → List ℕ → ℕ → ℕ → List ℕ → List ℕ
  newton l P a ν i v cs = let k = (gap l P v cs * i) % suc q in slot a k l (minus cs k ν)

  -- The basis of one point more: it costs one row, whose lead becomes standard.
  unfoldable pub grow : Pt → Basis → Basis
  grow P b = let a = first b P b.leads in
      let ν = b.interpolant (val a) in
      let i = inv (gap b.standard P (val a P) ν) in
      record {
        standard = inserted cmp a b.standard;
        leads = extended b.leads a m;
        interpolant = λ φ. newton b.standard P a ν i (φ P) (b.interpolant φ);
      }
