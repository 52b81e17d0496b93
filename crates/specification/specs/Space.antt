-- What the definitions of the basis are over: monomials under an order, points, and residues modulo p.
-- The instance at docs/SCOPE.md's monomials and residues is in Instance.antt; nothing else is asked of it here than what is listed.
use Rattle.std.specs.Prelude.{◌≡◌, Bool, true}
use Prim.Native.Nat.{ℕ, Ordering}
use Rattle.std.proofs.Math.Dec.{compare_is_eq}

-- The modulus is suc q, which spares subtraction: q * a is minus a.
pub record Space : Type 1 where
  pub q : ℕ
  -- the number of variables; the first is variable 0
  pub m : ℕ
  pub Mono : Type 0
  pub Pt : Type 0
  -- the monomial 1
  pub one : Mono
  -- variable k times a monomial
  pub x : ℕ → Mono → Mono
  -- the value of a monomial at a point, not reduced
  pub val : Mono → Pt → ℕ
  -- the value of variable k at a point
  pub coord : ℕ → Pt → ℕ
  -- the monomial order
  pub cmp : Mono → Mono → Ordering
  pub divides : Mono → Mono → Bool
  pub same_point : Pt → Pt → Bool
  -- the inverse of a number modulo p; 0 where there is none
  pub inv : ℕ → ℕ

module _ (D : Space) where
  open D use {Mono, cmp, divides}

  abbrev pub Less : Mono → Mono → Type 0
  Less a b = cmp a b ≡ Ordering.lt

  abbrev pub Divides : Mono → Mono → Type 0
  Divides a b = divides a b ≡ true

  abbrev pub same : Mono → Mono → Bool
  same a b = compare_is_eq (cmp a b)
