-- Terms of a polynomial along their places: their values in the space.
use mathlib.Core.Path.{◌≡◌, refl, ap₂}
use mathlib.Core.List.{List, [], ◌∷◌, map}
use Prim.Native.Nat.{ℕ, suc, ◌+◌, ◌*◌, ◌≤◌}
use lib.ListN.{length, drop}
use lib.Dec.{T}
use mathlib.Core.Logic.{inl, inr}
use Rattle.residue.specs.Lists.{Among, all_zero}
use Rattle.residue.specs.Vector.{dot_of}
use Rattle.residue.specs.Layout.{fill}
use Rattle.residue.proofs.Tests.{and_left, and_right}
use Rattle.monomial.specs.Monomial.{monomial_at}
use Rattle.monomial.specs.Order.{Order}
use Rattle.monomial.proofs.Algebra.Values.{value_filled}
use Rattle.specification.specs.Polynomial.{eval}
use Rattle.specification.specs.Instance.{Point, monomial_of, space_of}
use Rattle.specification.specs.Solving.{within_variables, polynomial_of}

module _ (q m : ℕ) (order : Order) (P : Point (suc q) m) where
  pub terms_value : (w : ℕ) (cs : List ℕ) (es : List (List ℕ)) → m ≤ w → ((e : List ℕ) → Among e es → length e ≡ w) → T (within_variables m es)
      → dot_of cs (map (monomial_at (fill w P.0)) es) ≡ eval (space_of q m order) (polynomial_of m cs es) P
  unfolding dot_of polynomial_of monomial_of within_variables
  terms_value w [] es h l t = refl
  terms_value w (c ∷ cs) [] h l t = refl
  terms_value w (c ∷ cs) (e ∷ es) h l t =
      ap₂ (λ (v s : ℕ). c * v + s) (value_filled w m P.0 e P.1.0 (l e (inl refl)) h (and_left (all_zero (drop m e)) (within_variables m es) t))
      (terms_value w cs es h (λ d k. l d (inr k)) (and_right (all_zero (drop m e)) (within_variables m es) t))
