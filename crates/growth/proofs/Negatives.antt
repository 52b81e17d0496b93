-- The interpolant of minus the values.
use mathlib.Core.Path.{◌≡◌, ◌∙◌}
use mathlib.Core.List.{List, [], ◌∷◌, map}
use mathlib.Core.Logic.{inl, inr}
use Prim.Native.Nat.{ℕ, suc, ◌*◌, ◌%◌, ◌<◌, suc-le-suc, zero-le}
use native.Mathlib.Omega.{arith}
use native.Mathlib.Nat.{mod-lt}
use lib.ListN.{length-map}
use Rattle.residue.specs.Congruence.{Mod}
use Rattle.residue.specs.Lists.{Among}
use Rattle.residue.proofs.Congruence.{rfl, of, ◌then◌, ◌plus◌, ◌times◌, scale, reduce, ring}
use Rattle.specification.specs.Space.{Space}
use Rattle.specification.specs.Polynomial.{eval, Distinct, terms}
use Rattle.specification.specs.Basis.{Fits}
use Rattle.specification.specs.BasisOf.{basis_of, standard_of}
use Rattle.specification.proofs.ideal.Laws.{Laws}
use Rattle.specification.proofs.ideal.Basis.{interpolant_fits, interpolant_only}

module _ (D : Space) where
  open D use {q, Mono, Pt, val}

  infix 35 ◌≈◌
  abbrev ◌≈◌ : ℕ → ℕ → Type 0
  a ≈ b = Mod (suc q) a b

  module _ (L : Laws D) (S : List Pt) (d : Distinct D S) where
    pub interpolant_minus : (φ : Pt → ℕ) → map (λ c. (q * c) % suc q) ((basis_of D S).interpolant (λ P. q * φ P)) ≡ (basis_of D S).interpolant φ
    interpolant_minus φ = interpolant_only D L S d φ (map negative ((basis_of D S).interpolant (λ P. q * φ P))) (record {
      long = length-map ((basis_of D S).interpolant (λ P. q * φ P)) negative ∙ h.long;
      residues = small ((basis_of D S).interpolant (λ P. q * φ P));
      values = λ P mem. value ((basis_of D S).interpolant (λ P. q * φ P)) (standard_of D S) P then scale q (h.values P mem) then ring (φ P) (q * φ P) (omega arith);
    })
      where
        negative : ℕ → ℕ
        negative c = (q * c) % suc q

        h : Fits D S (standard_of D S) (λ P. q * φ P) ((basis_of D S).interpolant (λ P. q * φ P))
        h = interpolant_fits D L S d (λ P. q * φ P)

        small : (cs : List ℕ) (c : ℕ) → Among c (map negative cs) → c < suc q
        small [] c mem = absurd mem
        small (b ∷ cs) c (inl e) = rw e (mod-lt (q * b) (suc-le-suc zero-le))
        small (b ∷ cs) c (inr mem) = small cs c mem

        value : (cs : List ℕ) (l : List Mono) (P : Pt) → eval D (terms D (map negative cs) l) P ≈ q * eval D (terms D cs l) P
        value [] l P = of (omega arith)
        value (c ∷ cs) [] P = of (omega arith)
        value (c ∷ cs) (a ∷ l) P = (reduce (suc q) (q * c) times rfl {x = val a P}) plus value cs l P then of (omega arith)
