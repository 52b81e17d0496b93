-- The basis, its interpolants and its remainders depend on the points and not on their order (docs/SCOPE.md, 'The two desks').
use mathlib.Core.Path.{◌≡◌, refl, sym, ◌∙◌}
use mathlib.Core.List.{List, [], ◌∷◌, ◌++◌}
use mathlib.Core.Logic.{inl, inr, ◌≢◌}
use Prim.Native.Nat.{ℕ}
use Rattle.residue.specs.Lists.{Among}
use Rattle.residue.proofs.Sums.{each}
use Rattle.specification.specs.Space.{Space}
use Rattle.specification.specs.Polynomial.{Polynomial, eval, Distinct}
use Rattle.specification.specs.Basis.{Fits}
use Rattle.specification.specs.BasisOf.{basis_of, standard_of, leads_of, rows_of, remainder_of}
use Rattle.specification.proofs.ideal.Laws.{Laws}
use Rattle.specification.proofs.ideal.Lists.{snoc_of, snoc_in}
use Rattle.specification.proofs.ideal.Unique.{basis_points}
use Rattle.specification.proofs.ideal.Basis.{basis_is, basis_only, interpolant_fits, interpolant_only}

module _ (D : Space) (L : Laws D) where
  open D use {Pt}

  module _ (S S' : List Pt) (d : Distinct D S) (d' : Distinct D S') (f : (P : Pt) → Among P S → Among P S') (g : (P : Pt) → Among P S' → Among P S) where
    pub basis_permuted : (standard_of D S ≡ standard_of D S') × (leads_of D S ≡ leads_of D S') × (rows_of D S ≡ rows_of D S')
    basis_permuted = basis_only D L S' d' (standard_of D S) (leads_of D S) (rows_of D S) (basis_points D L S S' f g (standard_of D S) (leads_of D S) (rows_of D S) (basis_is D L S d))

    pub interpolant_permuted : (φ : Pt → ℕ) → (basis_of D S).interpolant φ ≡ (basis_of D S').interpolant φ
    interpolant_permuted φ = interpolant_only D L S' d' φ ((basis_of D S).interpolant φ) (rw (← basis_permuted.0) record { long = h.long; residues = h.residues; values = λ P mem. h.values P (g P mem) })
      where
        h : Fits D S (standard_of D S) φ ((basis_of D S).interpolant φ)
        h = interpolant_fits D L S d φ

    pub remainder_permuted : (h : Polynomial D) → remainder_of D S h ≡ remainder_of D S' h
    remainder_permuted h = interpolant_permuted (eval D h)

  -- a point at the end of the list
  module _ (S : List Pt) (P : Pt) (d : Distinct D S) (far : (Q : Pt) → Among Q S → P ≢ Q) where
    pub distinct_snoc : Distinct D (S ++ (P ∷ []))
    distinct_snoc = go S d far
      where
        go : (R : List Pt) → Distinct D R → ((Q : Pt) → Among Q R → P ≢ Q) → Distinct D (R ++ (P ∷ []))
        go [] e h = ((λ Q mem. absurd mem), tt)
        go (T ∷ R) e h = ((λ Q mem. elim (snoc_of R P Q mem) [ inl z ↦ e.0 Q z | inr u ↦ λ v. h T (inl refl) (sym (v ∙ u)) ]), go R e.1 (λ Q mem. h Q (inr mem)))

    to_front : (Q : Pt) → Among Q (S ++ (P ∷ [])) → Among Q (P ∷ S)
    to_front Q mem = elim (snoc_of S P Q mem) [ inl z ↦ inr z | inr e ↦ inl e ]

    to_end : (Q : Pt) → Among Q (P ∷ S) → Among Q (S ++ (P ∷ []))
    to_end = each S (snoc_in S P P (inr refl)) (λ Q mem. snoc_in S P Q (inl mem))

    -- it gives the same basis as in front
    pub basis_snoc : (standard_of D (S ++ (P ∷ [])) ≡ standard_of D (P ∷ S)) × (leads_of D (S ++ (P ∷ [])) ≡ leads_of D (P ∷ S)) × (rows_of D (S ++ (P ∷ [])) ≡ rows_of D (P ∷ S))
    basis_snoc = basis_permuted (S ++ (P ∷ [])) (P ∷ S) distinct_snoc (far, d) to_front to_end
