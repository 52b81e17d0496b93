-- Values of monomials at a point.
use mathlib.Core.Path.{◌≡◌, refl, ◌∙◌, ap}
use mathlib.Core.List.{List, [], ◌∷◌}
use Prim.Native.Nat.{ℕ, zero, suc, ◌*◌, ◌<◌, ◌^◌, ◌≤◌}
use native.Mathlib.Nat.{mul_assoc, mul_left_comm, pow-zero, pow-succ', le_of_suc-le-suc}
use native.Mathlib.Numerals.{add-one}
use native.Mathlib.Omega.{arith}
use lib.ListN.{length, get_or, drop}
use lib.Dec.{T, eqb, eqb→eq}
use Rattle.residue.specs.Lists.{all_zero}
use Rattle.residue.specs.Layout.{fill}
use Rattle.residue.proofs.Tests.{and_left, and_right}
use Rattle.monomial.specs.Monomial.{one, times_variable, monomial_at}

pub value_one : (P : List ℕ) (m : ℕ) → monomial_at P (one m) ≡ 1
value_one [] m = refl
value_one (p ∷ ps) zero = refl
value_one (p ∷ ps) (suc m) = rw (pow-zero p, value_one ps m)

pub value_times_variable : (P : List ℕ) (k : ℕ) (a : List ℕ) → k < length a → k < length P →
    monomial_at P (times_variable k a) ≡ get_or P k 0 * monomial_at P a
value_times_variable [] k a h l = absurd (omega arith)
value_times_variable (p ∷ ps) k [] h l = absurd (omega arith)
value_times_variable (p ∷ ps) zero (x ∷ xs) h l = rw (add-one x, pow-succ', mul_assoc)
value_times_variable (p ∷ ps) (suc k) (x ∷ xs) h l = rw (value_times_variable ps k xs (omega arith) (omega arith)) (mul_left_comm _ _ _)

-- The polynomial of the space: at a point in its place of 8 bytes, a term with 8 exponents has the value of its first m.
value_zeros : (P e : List ℕ) → T (all_zero e) → monomial_at P e ≡ 1
unfolding all_zero
value_zeros [] e t = refl
value_zeros (x ∷ P) [] t = refl
value_zeros (x ∷ P) (y ∷ e) t =
    let z : y ≡ 0 = eqb→eq y 0 (and_left (eqb y 0) (all_zero e) t) in
    let o : x ^ y ≡ 1 = ap (λ (k : ℕ). x ^ k) z ∙ pow-zero x in
    let h : monomial_at P e ≡ 1 = value_zeros P e (and_right (eqb y 0) (all_zero e) t) in
    rw (o, h)

pub value_filled : (w m : ℕ) (P e : List ℕ) → length P ≡ m → length e ≡ w → m ≤ w → T (all_zero (drop m e)) → monomial_at (fill w P) e ≡ monomial_at P (fill m e)
unfolding fill
value_filled w zero [] e l k h t = value_zeros (fill w []) e t
value_filled w zero (x ∷ P) e l k h t = absurd (omega arith)
value_filled w (suc m) [] e l k h t = absurd (omega arith)
value_filled w (suc m) (x ∷ P) [] l k h t = absurd (omega arith)
value_filled zero (suc m) (x ∷ P) (y ∷ e) l k h t = absurd (omega arith)
value_filled (suc w) (suc m) (x ∷ P) (y ∷ e) l k h t = ap (λ (z : ℕ). x ^ y * z) (value_filled w m P e (omega arith) (omega arith) (le_of_suc-le-suc h) t)
