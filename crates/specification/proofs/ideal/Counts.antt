-- How many standard monomials and rows there are, and how large their degrees (docs/SCOPE.md, 'The sheet').
use mathlib.Core.Path.{◌≡◌, refl, ◌∙◌, ap}
use mathlib.Core.List.{List, [], ◌∷◌}
use mathlib.Core.Logic.{◌⊎◌, inl, inr}
use Prim.Native.Nat.{ℕ, suc, ◌+◌, ◌*◌, ◌≤◌, ◌<◌}
use native.Mathlib.Omega.{arith}
use lib.ListN.{length}
use Rattle.residue.specs.Lists.{Among}
use Rattle.monomial.proofs.Orders.Increasing.{inserted_only, inserted_length}
use Rattle.specification.specs.Space.{Space}
use Rattle.specification.specs.Polynomial.{Distinct}
use Rattle.specification.specs.Extension.{without, first, grow}
use Rattle.specification.specs.BasisOf.{basis_of, standard_of, leads_of}
use Rattle.specification.proofs.ideal.Laws.{Laws}
use Rattle.specification.proofs.ideal.Increasing.{without_of}
use Rattle.specification.proofs.ideal.Leads.{New, extended_of}
use Rattle.specification.proofs.ideal.Extend.{First, first_outside, fewer_leads}
use Rattle.specification.proofs.ideal.Sound.{interpolation, turned, sound}

module _ (D : Space) (L : Laws D) where
  open D use {m, Mono, Pt, one, x, cmp}
  open L use {order}

  -- the lead that a point more makes standard
  turns : (S : List Pt) (P : Pt) → Distinct D (P ∷ S) → First D (standard_of D S) (leads_of D S) (interpolation D (basis_of D S)) P (first D (basis_of D S) P (leads_of D S))
  turns S P d = turned D L S (basis_of D S) (sound D L S d.1) P d.0

  -- docs/SCOPE.md, 'The sheet', Definitions: the standard monomials are n in number, like the points
  pub standard_length : (S : List Pt) → Distinct D S → length (standard_of D S) ≡ length S
  unfolding basis_of grow
  standard_length [] d = refl
  standard_length (P ∷ S) d = inserted_length cmp order (first D (basis_of D S) P (leads_of D S)) (standard_of D S)
      (first_outside D L S (standard_of D S) (leads_of D S) (interpolation D (basis_of D S)) (sound D L S d.1).staircase P (first D (basis_of D S) P (leads_of D S)) (turns S P d))
      ∙ ap suc (standard_length S d.1)

  -- docs/SCOPE.md, 'The sheet', Definitions: r is 1 + n(m-1) at most
  pub leads_length : (S : List Pt) → Distinct D S → length (leads_of D S) + length S ≤ 1 + length S * m
  unfolding basis_of grow
  leads_length [] d = omega arith
  leads_length (P ∷ S) d = omega (
    arith,
    leads_length S d.1,
    fewer_leads D L S (standard_of D S) (leads_of D S) (interpolation D (basis_of D S)) (sound D L S d.1).staircase P (first D (basis_of D S) P (leads_of D S)) (turns S P d),
  )

  -- Total degrees: at most n in a lead and below n in a standard monomial, so that every exponent fits a byte.
  module _ (deg : Mono → ℕ) (deg-one : deg one ≡ 0) (deg-x : (k : ℕ) (a : Mono) → k < m → deg (x k a) ≡ suc (deg a)) where
    pub lead_degree : (S : List Pt) → Distinct D S → (a : Mono) → Among a (leads_of D S) → deg a ≤ length S
    unfolding basis_of grow
    lead_degree [] d a (inl e) = rw (e, deg-one) (omega arith)
    lead_degree [] d a (inr mem) = absurd mem
    lead_degree (P ∷ S) d a mem = go (extended_of D L (leads_of D S) α m a mem) (lead_degree S d.1)
      where
        α : Mono
        α = first D (basis_of D S) P (leads_of D S)

        go : Among a (without D α (leads_of D S)) ⊎ New D (leads_of D S) α m a → ((b : Mono) → Among b (leads_of D S) → deg b ≤ length S) → deg a ≤ suc (length S)
        go (inl u) h = omega (arith, h a (without_of D L α (leads_of D S) a u).0)
        go (inr (k, hk, e, nd)) h = rw e (omega (arith, deg-x k α hk, h α (turns S P d).lead))

    pub standard_degree : (S : List Pt) → Distinct D S → (a : Mono) → Among a (standard_of D S) → deg a < length S
    unfolding basis_of grow
    standard_degree [] d a mem = absurd mem
    standard_degree (P ∷ S) d a mem = go (inserted_only cmp α (standard_of D S) a mem) (λ u. standard_degree S d.1 a u)
      where
        α : Mono
        α = first D (basis_of D S) P (leads_of D S)

        go : (a ≡ α) ⊎ Among a (standard_of D S) → (Among a (standard_of D S) → deg a < length S) → deg a < suc (length S)
        go (inl e) h = rw e (omega (arith, lead_degree S d.1 α (turns S P d).lead))
        go (inr u) h = omega (arith, h u)
