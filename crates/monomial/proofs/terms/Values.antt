-- The value of a polynomial at a point, reduced term by term.
use mathlib.Core.Path.{◌≡◌, ◌∙◌, ap, sym, ap₂}
use mathlib.Core.List.{List, [], map}
use Prim.Native.Nat.{ℕ, ◌*◌, ◌<◌, ◌%◌, ◌+◌}
use native.Mathlib.Omega.{arith}
use native.Mathlib.Nat.{zero-mod}
use lib.ListN.{length, get_or, take, drop, length-map}
use Rattle.residue.specs.Layout.{groups}
use Rattle.residue.specs.Vector.{dot_of}
use Rattle.residue.specs.Congruence.{Mod}
use Rattle.residue.proofs.vector.Vectors.{map_at, dot_more}
use Rattle.residue.proofs.Places.{length_groups, groups_at}
use Rattle.residue.proofs.Congruence.{reduce, scale, ◌then◌, ◌plus◌}
use Rattle.monomial.specs.Monomial.{monomial_at}

-- Values, reduced term by term.
module _ (P cs t : List ℕ) where
  abbrev pub values : List ℕ
  values = map (monomial_at P) (groups 8 (length cs) t)

  pub length_values : length values ≡ length cs
  length_values = length-map (groups 8 (length cs) t) (monomial_at P) ∙ length_groups 8 (length cs) t

  value_here : (i : ℕ) → i < length cs → get_or values i 0 ≡ monomial_at P (take 8 (drop (8 * i) t))
  value_here i h =
      let n = length_groups 8 (length cs) t in
      map_at (monomial_at P) (groups 8 (length cs) t) [] 0 i (omega arith) ∙ ap (monomial_at P) (groups_at 8 (length cs) i t [] h)

pub value_none : (p : ℕ) → 0 ≡ dot_of [] [] % p
unfolding dot_of
value_none p = sym (zero-mod p)

module _ (p : ℕ) (P cs t : List ℕ) where
  one_term : (s c v : ℕ) → (s % p + (c * (v % p)) % p) % p ≡ (s + c * v) % p
  one_term s c v = let h : Mod p (s % p + (c * (v % p)) % p) (s + c * v) = reduce p s plus (reduce p (c * (v % p)) then scale c (reduce p v)) in h.same

  pub value_more : (i sum x term : ℕ) → i < length cs → sum ≡ dot_of (take i cs) (take i (values P cs t)) % p → x ≡ monomial_at P (take 8 (drop (8 * i) t)) % p → term ≡ (get_or cs i 0 * x) % p
      → (sum + term) % p ≡ dot_of (take (i + 1) cs) (take (i + 1) (values P cs t)) % p
  value_more i sum x term h e f g =
      let n = length_values P cs t in
      let here : x ≡ get_or (values P cs t) i 0 % p = f ∙ ap (λ (y : ℕ). y % p) (sym (value_here P cs t i h)) in
      ap₂ (λ (a b : ℕ). (a + b) % p) e (g ∙ ap (λ (y : ℕ). (get_or cs i 0 * y) % p) here)
      ∙ one_term (dot_of (take i cs) (take i (values P cs t))) (get_or cs i 0) (get_or (values P cs t) i 0)
      ∙ sym (ap (λ (y : ℕ). y % p) (dot_more cs (values P cs t) i h (omega arith)))
