-- The test of equal lists means equality.
use mathlib.Core.Path.{◌≡◌, refl, sym, ◌∙◌, ap}
use mathlib.Core.Bool.{Bool, ◌&&◌, and-true, and_assoc, true, false, and-false}
use mathlib.Core.List.{List, [], ◌∷◌}
use Prim.Native.Nat.{ℕ, zero, suc, ◌<◌, ◌≤◌}
use native.Mathlib.Nat.{not-suc-le-zero, le_of_suc-le-suc}
use native.Mathlib.Omega.{arith}
use lib.ListN.{length, get_or, take}
use lib.Dec.{T, eqb, eqb→eq, eqb_refl}
use lib.Pointwise.{pointwise}
use Rattle.residue.specs.Lists.{same_list}
use Rattle.residue.specs.Layout.{fill}
use Rattle.residue.proofs.Tests.{and_left, and_right, and_both, true_of}

pub same_is : (k l : List ℕ) → T (same_list k l) → k ≡ l
unfolding same_list
same_is [] [] h = refl
same_is [] (b ∷ l) h = absurd h
same_is (a ∷ k) [] h = absurd h
same_is (a ∷ k) (b ∷ l) h =
    let e : a ≡ b = eqb→eq a b (and_left (eqb a b) (same_list k l) h) in
    let r : k ≡ l = same_is k l (and_right (eqb a b) (same_list k l) h) in
    cc

pub same_self : (l : List ℕ) → T (same_list l l)
unfolding same_list
same_self [] = tt
same_self (a ∷ l) = and_both (eqb a a) (same_list l l) (eqb_refl a) (same_self l)

-- `==` of slices is this test
pub same_eq : (k l : List ℕ) → pointwise eqb k l ≡ same_list k l
unfolding same_list
same_eq [] [] = refl
same_eq [] (b ∷ l) = refl
same_eq (a ∷ k) [] = refl
same_eq (a ∷ k) (b ∷ l) = ap (λ (z : Bool). eqb a b && z) (same_eq k l)

-- lists of two lengths are not equal
pub same_length : (a b : List ℕ) → (length a ≡ length b → ⊥) → same_list a b ≡ false
unfolding same_list
same_length [] [] n = absurd (n refl)
same_length [] (y ∷ b) n = refl
same_length (x ∷ a) [] n = refl
same_length (x ∷ a) (y ∷ b) n = rw (same_length a b (λ e. n (ap suc e))) (and-false (eqb x y))

-- A comparison from the front, one place further: the entries there are equal or not.
pub same_more : (a b : List ℕ) (i : ℕ) → i < length a → i < length b
    → same_list (take (suc i) a) (take (suc i) b) ≡ (same_list (take i a) (take i b) && eqb (get_or a i 0) (get_or b i 0))
unfolding same_list
same_more [] b i h k = absurd (not-suc-le-zero h)
same_more (x ∷ a) [] i h k = absurd (not-suc-le-zero k)
same_more (x ∷ a) (y ∷ b) zero h k = and-true (eqb x y)
same_more (x ∷ a) (y ∷ b) (suc i) h k =
    ap (λ (z : Bool). eqb x y && z) (same_more a b i (le_of_suc-le-suc h) (le_of_suc-le-suc k))
    ∙ sym (and_assoc (eqb x y) (same_list (take i a) (take i b)) (eqb (get_or a i 0) (get_or b i 0)))

pub same_none : true ≡ same_list [] []
unfolding same_list
same_none = refl

-- Rows of one length are equal exactly where they are so filled up.
pub same_filled : (k : ℕ) (a b : List ℕ) → length a ≡ length b → length a ≤ k → same_list (fill k a) (fill k b) ≡ same_list a b
unfolding fill same_list
same_filled k [] [] e h = true_of (same_list (fill k []) (fill k [])) (same_self (fill k []))
same_filled k [] (y ∷ b) e h = absurd (omega arith)
same_filled k (x ∷ a) [] e h = absurd (omega arith)
same_filled zero (x ∷ a) (y ∷ b) e h = absurd (omega arith)
same_filled (suc k) (x ∷ a) (y ∷ b) e h = ap (λ (z : Bool). eqb x y && z) (same_filled k a b (omega arith) (le_of_suc-le-suc h))
