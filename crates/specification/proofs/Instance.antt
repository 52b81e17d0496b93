-- The space of docs/SCOPE.md obeys the laws of the theory, in any number of variables, under every modulus and every order by one argument.
use mathlib.Core.Path.{◌≡◌, refl, sym, ◌∙◌, ap, subst}
use mathlib.Core.List.{List, [], ◌∷◌}
use mathlib.Core.Logic.{inl, inr, ◌≢◌}
use mathlib.Core.Bool.{true}
use mathlib.Core.HLevel.{Σ_prop_path, ×_prop, Unit-prop}
use Prim.Native.Nat.{ℕ, suc, ◌%◌, ◌≤◌, ◌<◌}
use native.Mathlib.Nat.{ℕ_set, suc_inj, mod-eq_of_lt}
use native.Mathlib.Omega.{arith}
use native.Mathlib.Decide.{ℕ_discrete}
use lib.ListN.{length, get_or}
use lib.Ieee.Bits.{is_true}
use lib.Dec.{T, T_prop, ltb, ltb→lt}
use Rattle.residue.specs.Congruence.{Mod}
use Rattle.residue.specs.Lists.{Among, same_list}
use Rattle.residue.specs.Modulus.{is_modulus}
use Rattle.residue.proofs.Congruence.{small}
use Rattle.residue.proofs.inverse.Inverses.{inverse_mod, one_not_zero}
use Rattle.residue.proofs.bytes.Equality.{same_is, same_self}
use Rattle.residue.proofs.Layouts.{fill_exact}
use Rattle.monomial.specs.Monomial.{degree, times_variable}
use Rattle.monomial.specs.Order.{Order, cmp}
use Rattle.monomial.proofs.Algebra.Division.{Step, divides_trans, divides_one, one_divides, divides_times_variable, step, gap}
use Rattle.monomial.proofs.Algebra.Values.{value_one, value_times_variable}
use Rattle.monomial.proofs.Orders.Lawful.{lawful, told_by}
use Rattle.monomial.proofs.Orders.Descent.{wf}
use Rattle.monomial.proofs.Orders.Growth.{cmp_times_variable, divisor_smaller, times_variable_greater}
use Rattle.monomial.proofs.Padding.{degree_one}
use Rattle.monomial.proofs.Algebra.Products.{degree_times_variable, exponent_degree}
use Rattle.specification.specs.Space.{Divides}
use Rattle.specification.specs.Polynomial.{Distinct}
use Rattle.specification.specs.BasisOf.{standard_of, leads_of}
use Rattle.specification.specs.Instance.{Monomial, Residues, Point, reduced, point_of, space_of}
use Rattle.specification.proofs.ideal.Laws.{Laws}
use Rattle.specification.proofs.ideal.Counts.{lead_degree, standard_degree}

-- a monomial is its exponents, and a point its coordinates
pub monomial_path : {m : ℕ} {a b : Monomial m} → a.0 ≡ b.0 → a ≡ b
monomial_path {m} e = Σ_prop_path (λ (l : List ℕ). ℕ_set (length l) m) e

residues_prop : (p : ℕ) (l : List ℕ) → IsProp (Residues p l)
residues_prop p [] = Unit-prop
residues_prop p (c ∷ l) = ×_prop (T_prop (ltb c p)) (residues_prop p l)

pub point_path : (p : ℕ) {m : ℕ} {P Q : Point p m} → P.0 ≡ Q.0 → P ≡ Q
point_path p {m} e = Σ_prop_path (λ (l : List ℕ). ×_prop (ℕ_set (length l) m) (residues_prop p l)) e

-- two lists of residues that differ, differ at an index
differ_at : (p : ℕ) (a b : List ℕ) → length a ≡ length b → Residues p a → Residues p b → a ≢ b → (k : ℕ) × (k < length a) × ¬ Mod p (get_or a k 0) (get_or b k 0)
differ_at p [] [] e r t ne = absurd (ne refl)
differ_at p [] (y ∷ b) e r t ne = absurd (omega arith)
differ_at p (x ∷ a) [] e r t ne = absurd (omega arith)
differ_at p (x ∷ a) (y ∷ b) e r t ne = go (ℕ_discrete x y) (differ_at p a b (suc_inj e) r.1 t.1)
  where
    go : Dec (x ≡ y) → (a ≢ b → (k : ℕ) × (k < length a) × ¬ Mod p (get_or a k 0) (get_or b k 0)) → (k : ℕ) × (k < suc (length a)) × ¬ Mod p (get_or (x ∷ a) k 0) (get_or (y ∷ b) k 0)
    go (yes f) ih = let w = ih (λ u. ne (cc)) in (suc w.0, omega (arith, w.1), w.2)
    go (no f) ih = (0, omega arith, λ h. f (small (ltb→lt x p r.0) (ltb→lt y p t.0) h))

module _ (q m : ℕ) (order : Order) where
  -- a proper multiple of a monomial, from below and from above
  multiple : (a b : Monomial m) → Step a.0 b.0
      → (k : ℕ) × (c : Monomial m) × (k < m) × (b ≡ (space_of q m order).x k c) × Divides (space_of q m order) a c × Divides (space_of q m order) ((space_of q m order).x k a) b
  multiple a b (k, c, hk, lc, e, low, high) = (k, (c, lc ∙ a.1), rw a.1 at hk, monomial_path e, low, high)

  pub laws : is_modulus (suc q) ≡ true → Laws (space_of q m order)
  laws p = record {
    inv_law = λ a ne. inverse_mod (suc q) a p ne;
    one_not_zero = one_not_zero (suc q) p;
    order = told_by (λ (a : Monomial m). a.0) (λ a b e. monomial_path e) (cmp order) (lawful order);
    wf = wf order m;
    x_mono = λ {k} {a} {b} hk h. cmp_times_variable order k a.0 b.0 (a.1 ∙ sym b.1) ∙ h;
    x_up = λ {k} {a} hk. times_variable_greater order k a.0 (rw a.1 hk);
    val_one = λ P. value_one P.0 m;
    val_x = λ k a P hk. value_times_variable P.0 k a.0 (rw a.1 hk) (rw P.1.0 hk);
    dvd_trans = λ {a} {b} {c} h g. divides_trans a.0 b.0 c.0 h g;
    dvd_one = λ {a} h. monomial_path (divides_one m a.0 a.1 h);
    one_dvd = λ {a}. one_divides m a.0 a.1;
    dvd_x = λ {k} {a} hk. divides_times_variable k a.0;
    dvd_less = λ {a} {b} h ne. divisor_smaller order a.0 b.0 (a.1 ∙ sym b.1) h (λ e. ne (monomial_path e));
    step = λ {a} {b} h ne. multiple a b (step a.0 b.0 (a.1 ∙ sym b.1) h (λ e. ne (monomial_path e)));
    between = λ {k} {a} {b} hk h g. elim (gap k a.0 b.0 (a.1 ∙ sym b.1) h g) [ inl e ↦ inl (monomial_path e) | inr e ↦ inr (monomial_path e) ];
    point_self = λ P. is_true (same_list P.0 P.0) (same_self P.0);
    point_eq = λ {P} {Q} e. point_path (suc q) (same_is P.0 Q.0 (subst T (sym e) tt));
    differ = λ P Q ne. away P Q (differ_at (suc q) P.0 Q.0 (P.1.0 ∙ sym Q.1.0) P.1.1 Q.1.1 (λ e. ne (point_path (suc q) e)));
  }
    where
      away : (P Q : Point (suc q) m) → (k : ℕ) × (k < length P.0) × ¬ Mod (suc q) (get_or P.0 k 0) (get_or Q.0 k 0) → (k : ℕ) × (k < m) × ¬ Mod (suc q) (get_or P.0 k 0) (get_or Q.0 k 0)
      away P Q t = (t.0, rw P.1.0 at t.1, t.2)

-- Every exponent of a table fits a byte: n is at most 64.
module _ (q m : ℕ) (order : Order) (p : is_modulus (suc q) ≡ true) (S : List (Point (suc q) m)) (d : Distinct (space_of q m order) S) where
  degree_x : (k : ℕ) (a : Monomial m) → k < m → degree (times_variable k a.0) ≡ suc (degree a.0)
  degree_x k a h = degree_times_variable k a.0 (rw a.1 h)

  pub standard_total : (a : Monomial m) → Among a (standard_of (space_of q m order) S) → degree a.0 < length S
  standard_total a mem = standard_degree (space_of q m order) (laws q m order p) (λ b. degree b.0) (degree_one m) degree_x S d a mem

  pub lead_total : (a : Monomial m) → Among a (leads_of (space_of q m order) S) → degree a.0 ≤ length S
  lead_total a mem = lead_degree (space_of q m order) (laws q m order p) (λ b. degree b.0) (degree_one m) degree_x S d a mem

  pub standard_exponent : (a : Monomial m) → Among a (standard_of (space_of q m order) S) → (i : ℕ) → get_or a.0 i 0 < length S
  standard_exponent a mem i = omega (arith, exponent_degree a.0 i, standard_total a mem)

  pub lead_exponent : (a : Monomial m) → Among a (leads_of (space_of q m order) S) → (i : ℕ) → get_or a.0 i 0 ≤ length S
  lead_exponent a mem i = omega (arith, exponent_degree a.0 i, lead_total a mem)

-- m residues are the coordinates of their point
pub residues_reduced : (q : ℕ) (l : List ℕ) → Residues (suc q) l → reduced q l ≡ l
residues_reduced q [] r = refl
residues_reduced q (c ∷ l) r = let e : c % suc q ≡ c = mod-eq_of_lt (ltb→lt c (suc q) r.0) in let f : reduced q l ≡ l = residues_reduced q l r.1 in cc

pub coordinates_of : (q m : ℕ) (l : List ℕ) → length l ≡ m → Residues (suc q) l → (point_of q m l).0 ≡ l
unfolding point_of
coordinates_of q m l e r = ap (reduced q) (fill_exact m l e) ∙ residues_reduced q l r

pub point_of_lem : (q m : ℕ) (P : Point (suc q) m) → point_of q m P.0 ≡ P
point_of_lem q m P = point_path (suc q) (coordinates_of q m P.0 P.1.0 P.1.1)
