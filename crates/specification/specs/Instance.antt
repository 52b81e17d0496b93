-- The space of docs/SCOPE.md: monomials in m variables as lists of exponents, points as lists of residues, one of the four orders.
use Rattle.std.specs.Prelude.{◌≡◌, List, [], ◌∷◌, map, length, get_or, T, ltb}
use Rattle.std.proofs.Common.{◌∙◌, mod-lt, length-set, lt→ltb}
use Prim.Native.Nat.{ℕ, suc, ◌%◌, suc-le-suc, zero-le, Ordering}
use Rattle.std.proofs.lemmas.List.{length-replicate, length-map}
use Rattle.residue.specs.Inverse.{inverse_of}
use Rattle.residue.specs.Lists.{same_list}
use Rattle.residue.specs.Layout.{fill, length_fill}
use Rattle.monomial.specs.Monomial.{one, times_variable, divides, monomial_at}
use Rattle.monomial.specs.Order.{Order, cmp}
use Rattle.specification.specs.Space.{Space}

-- m exponents, x1's first
abbrev pub Monomial : ℕ → Type 0
Monomial m = (a : List ℕ) × (length a ≡ m)

-- each number is below p
abbrev pub Residues : ℕ → List ℕ → Type 0
Residues p [] = Unit {0}
Residues p (c ∷ l) = T (ltb c p) × Residues p l

-- m residues modulo p, the value of x1 first
abbrev pub Point : ℕ → ℕ → Type 0
Point p m = (a : List ℕ) × ((length a ≡ m) × Residues p a)

-- m exponents of a list, cut or filled up with zeros
unfoldable pub monomial_of : (m : ℕ) → List ℕ → Monomial m
monomial_of m l = (fill m l, length_fill m l)

-- reduced modulo suc q
abbrev pub reduced : ℕ → List ℕ → List ℕ
reduced q l = map (λ x. x % suc q) l

pub below : (q : ℕ) (l : List ℕ) → Residues (suc q) (reduced q l)
below q [] = tt
below q (x ∷ l) = (lt→ltb (x % suc q) (suc q) (mod-lt x (suc-le-suc zero-le)), below q l)

unfoldable pub point_of : (q m : ℕ) → List ℕ → Point (suc q) m
point_of q m l = (reduced q (fill m l), (length-map (fill m l) (λ x. x % suc q) ∙ length_fill m l, below q (fill m l)))

-- under any comparison of monomials; the modulus is suc q
abbrev pub space_by : (q m : ℕ) → (Monomial m → Monomial m → Ordering) → Space
space_by q m c = record {
  q = q;
  m = m;
  Mono = Monomial m;
  Pt = Point (suc q) m;
  one = (one m, length-replicate m 0);
  x = λ k a. (times_variable k a.0, length-set a.0 k _ ∙ a.1);
  val = λ a P. monomial_at P.0 a.0;
  coord = λ k P. get_or P.0 k 0;
  cmp = c;
  divides = λ a b. divides a.0 b.0;
  same_point = λ P Q. same_list P.0 Q.0;
  inv = λ a. inverse_of (suc q) (a % suc q);
}

-- under an order
abbrev pub space_of : ℕ → ℕ → Order → Space
space_of q m order = space_by q m (λ a b. cmp order a.0 b.0)
