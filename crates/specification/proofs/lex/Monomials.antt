-- Monomials without x1 and the lex order: what has x1 is above all that has not. And points without their first coordinate.
use mathlib.Core.Path.{◌≡◌, refl, sym, ◌∙◌, ap}
use mathlib.Core.Logic.{◌≢◌}
use mathlib.Core.Bool.{true}
use mathlib.Core.List.{List, [], ◌∷◌}
use Prim.Native.Nat.compare
use Prim.Native.Nat.{Ordering}
use Prim.Native.Nat.{ℕ, zero, suc, ◌≤◌}
use native.Mathlib.Nat.{suc_inj, pow-zero, one-mul}
use native.Mathlib.Omega.{arith}
use lib.ListN.{length, get_or, drop}
use lib.Dec.{leb, leb→le}
use Rattle.monomial.specs.Monomial.{monomial_at, divides}
use Rattle.monomial.specs.Order.{lex, cmp}
use Rattle.specification.specs.Space.{Space, Less, Divides}
use Rattle.specification.specs.Polynomial.{hit}
use Rattle.specification.specs.Instance.{Monomial, Residues, Point, space_of}
use Rattle.residue.proofs.Tests.{of_true, and_left}
use Rattle.specification.proofs.Instance.{monomial_path}
use Rattle.residue.proofs.Tests.{Decides}
use Rattle.specification.specs.LeaveOut.{is_free}
use Rattle.specification.proofs.needed.Decided.{equal_told}

pub drop_long : (l : List ℕ) (m : ℕ) → length l ≡ suc m → length (drop 1 l) ≡ m
drop_long [] m e = absurd (omega arith)
drop_long (x ∷ l) m e = suc_inj e

-- x1 with exponent 0 put before a monomial, and x1 taken away
abbrev pub with0 : {m : ℕ} → Monomial m → Monomial (suc m)
with0 a = (0 ∷ a.0, ap suc a.1)

abbrev pub rest : {m : ℕ} → Monomial (suc m) → Monomial m
rest {m} a = (drop 1 a.0, drop_long a.0 m a.1)

-- x1 does not occur
abbrev pub Free : {m : ℕ} → Monomial (suc m) → Type 0
Free a = get_or a.0 0 0 ≡ 0

pub free_told : {m : ℕ} (a : Monomial (suc m)) → Decides (Free a) (is_free a.0)
unfolding is_free
free_told a = equal_told (get_or a.0 0 0) 0

free_list : (l : List ℕ) (m : ℕ) → length l ≡ suc m → get_or l 0 0 ≡ 0 → l ≡ 0 ∷ drop 1 l
free_list [] m e z = absurd (omega arith)
free_list (x ∷ l) m e z = ap (λ (y : ℕ). y ∷ l) z

pub free_is : {m : ℕ} (a : Monomial (suc m)) → Free a → a ≡ with0 (rest a)
free_is {m} a z = monomial_path (free_list a.0 m a.1 z)

pub with0_inj : {m : ℕ} {a b : Monomial m} → with0 a ≡ with0 b → a ≡ b
with0_inj {m} e = monomial_path (ap (λ (c : Monomial (suc m)). drop 1 c.0) e)

-- The order.
pub cmp_with0 : (a b : List ℕ) → cmp lex (0 ∷ a) (0 ∷ b) ≡ cmp lex a b
unfolding cmp
cmp_with0 a b = refl

cmp_above : (a b : List ℕ) (m : ℕ) → length b ≡ suc m → get_or b 0 0 ≢ 0 → cmp lex (0 ∷ a) b ≡ Ordering.lt
unfolding cmp
cmp_above a [] m e ne = absurd (omega arith)
cmp_above a (zero ∷ b) m e ne = absurd (ne refl)
cmp_above a (suc x ∷ b) m e ne = rw compare.zero-suc

-- a divisor of a monomial without x1 is without x1
divisor_list : (b a : List ℕ) → divides b (0 ∷ a) ≡ true → get_or b 0 0 ≡ 0
divisor_list [] a h = refl
divisor_list (y ∷ b) a h = let k : y ≤ 0 = leb→le y 0 (and_left (leb y 0) (divides b a) (of_true h)) in omega arith

-- Values.
value_list : (P a : List ℕ) (m : ℕ) → length P ≡ suc m → monomial_at P (0 ∷ a) ≡ monomial_at (drop 1 P) a
value_list [] a m e = absurd (omega arith)
value_list (x ∷ P) a m e = rw (pow-zero x) (one-mul (monomial_at P a))

pub residues_drop : (p : ℕ) (l : List ℕ) → Residues p l → Residues p (drop 1 l)
residues_drop p [] r = tt
residues_drop p (x ∷ l) r = r.1

module _ (q m : ℕ) where
  abbrev pub D : Space
  D = space_of q (suc m) lex

  abbrev pub D' : Space
  D' = space_of q m lex

  -- a point without its first coordinate
  abbrev pub shadow : Point (suc q) (suc m) → Point (suc q) m
  shadow P = (drop 1 P.0, (drop_long P.0 m P.1.0, residues_drop (suc q) P.0 P.1.1))

  pub above : (a : Monomial m) (b : Monomial (suc m)) → ¬ Free b → Less D (with0 a) b
  above a b ne = cmp_above a.0 b.0 m b.1 ne

  pub less_with0 : (a b : Monomial m) → Less D' a b → Less D (with0 a) (with0 b)
  less_with0 a b h = cmp_with0 a.0 b.0 ∙ h

  pub with0_less : (a b : Monomial m) → Less D (with0 a) (with0 b) → Less D' a b
  with0_less a b h = sym (cmp_with0 a.0 b.0) ∙ h

  pub divisor_free : (b : Monomial (suc m)) (a : Monomial m) → Divides D b (with0 a) → Free b
  divisor_free b a h = divisor_list b.0 a.0 h

  pub value_with0 : (P : Point (suc q) (suc m)) (a : Monomial m) → D.val (with0 a) P ≡ D'.val a (shadow P)
  value_with0 P a = value_list P.0 a.0 m P.1.0

  pub hit_with0 : (a b : Monomial m) → hit D (with0 a) (with0 b) ≡ hit D' a b
  unfolding hit
  hit_with0 a b = rw (cmp_with0 a.0 b.0)
