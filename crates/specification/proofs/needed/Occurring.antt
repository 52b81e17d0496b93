-- A needed variable occurs in every polynomial that has the values, so in the interpolant under every order.
use mathlib.Core.Path.{◌≡◌, refl, ap, ap₂}
use mathlib.Core.Bool.{Bool, true, false, not, ◌&&◌, true≢false}
use mathlib.Core.List.{List, [], ◌∷◌, map}
use Prim.Native.Nat.{ℕ, suc, ◌+◌, ◌*◌, ◌%◌, suc-le-suc, zero-le}
use native.Mathlib.Nat.{mod-lt}
use native.Mathlib.Omega.{arith}
use lib.ListN.{get_or}
use lib.Dec.{T, eqb}
use Rattle.residue.specs.Congruence.{Mod}
use Rattle.residue.specs.Lists.{Among}
use Rattle.residue.proofs.Congruence.{◌then◌, reduce}
use Rattle.residue.proofs.Tests.{Decides, so, not_so, neither}
use Rattle.monomial.specs.Monomial.{monomial_at}
use Rattle.monomial.specs.Order.{Order}
use Rattle.specification.specs.Polynomial.{eval, terms}
use Rattle.specification.specs.Instance.{Monomial, Point, space_of}
use Rattle.specification.specs.Needed.{Alike, Takes, Needed, occurs}
use Rattle.specification.proofs.needed.Decided.{equal_told}
use Rattle.specification.proofs.needed.Coordinates.{value_alike}
use Rattle.specification.proofs.needed.Wordings.{same_long}

module _ (q m : ℕ) (order : Order) (k : ℕ) where
  abbrev value : List ℕ → List (Monomial m) → Point (suc q) m → ℕ
  value cs l P = eval (space_of q m order) (terms (space_of q m order) cs l) P

  -- a combination in which the variable does not occur has the same value at points that agree in the others
  value_same : (cs : List ℕ) (l : List (Monomial m)) (P Q : Point (suc q) m) → Alike k P.0 Q.0 → occurs k cs (map (λ a. a.0) l) ≡ false → value cs l P ≡ value cs l Q
  unfolding occurs
  value_same [] l P Q h e = refl
  value_same (c ∷ cs) [] P Q h e = refl
  value_same (c ∷ cs) (a ∷ l) P Q h e = let w = neither (not (eqb c 0) && not (eqb (get_or a.0 k 0) 0)) (occurs k cs (map (λ b. b.0) l)) e in
      ap₂ (λ (x y : ℕ). x + y) (go (equal_told c 0) (equal_told (get_or a.0 k 0) 0) w.0) (value_same cs l P Q h w.1)
    where
      go : {s t : Bool} → Decides (c ≡ 0) s → Decides (get_or a.0 k 0 ≡ 0) t → (not s && not t) ≡ false → c * monomial_at P.0 a.0 ≡ c * monomial_at Q.0 a.0
      go (so z) d u = rw z (omega arith)
      go (not_so n) (so z) u = ap (λ (x : ℕ). c * x) (value_alike k P.0 Q.0 a.0 (same_long q m P Q) h z)
      go (not_so n) (not_so r) u = absurd (true≢false u)

  -- The combination is one of the functions with the given values, so it depends on the variable, and the variable occurs in it.
  pub needed_occurs : (S : List (Point (suc q) m)) (φ : Point (suc q) m → ℕ) → Needed (suc q) m S φ k → (cs : List ℕ) (l : List (Monomial m))
      → ((P : Point (suc q) m) → Among P S → Mod (suc q) (value cs l P) (φ P)) → T (occurs k cs (map (λ a. a.0) l))
  needed_occurs S φ need cs l has = go (occurs k cs (map (λ a. a.0) l)) refl
    where
      f : Point (suc q) m → ℕ
      f P = value cs l P % suc q

      takes : Takes (suc q) m S φ f
      takes = record { residue = λ P. mod-lt _ (suc-le-suc zero-le); values = λ P mem. reduce (suc q) (value cs l P) then has P mem }

      go : (b : Bool) → occurs k cs (map (λ a. a.0) l) ≡ b → T b
      go true e = tt
      go false e = let w = need f takes in w.3 (ap (λ (x : ℕ). x % suc q) (value_same cs l w.0 w.1 w.2.others e))
