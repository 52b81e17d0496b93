-- Laws of sums over a list, and a fact of every member of a longer list.
use mathlib.Core.Path.{◌≡◌, refl, sym, ◌∙◌, ap, subst}
use mathlib.Core.List.{List, [], ◌∷◌, ◌++◌}
use mathlib.Core.Logic.{inl, inr}
use Prim.Native.Nat.{ℕ, ◌+◌, ◌*◌}
use native.Mathlib.Omega.{arith}
use Rattle.residue.specs.Congruence.{Mod}
use Rattle.residue.specs.Lists.{Among, sum_over}
use Rattle.residue.proofs.Congruence.{rfl, ◌plus◌}

-- what holds of a and of each member of l holds of each member of a ∷ l
pub each : {A : Type 0} {P : A → Type 0} {a : A} (l : List A) → P a → ((b : A) → Among b l → P b) → (b : A) → Among b (a ∷ l) → P b
each {P = P} l h k b (inl e) = subst P (sym e) h
each l h k b (inr m) = k b m

module _ {A : Type 0} where
  pub sum_cong : {p : ℕ} {f g : A → ℕ} (l : List A) → ((a : A) → Among a l → Mod p (f a) (g a)) → Mod p (sum_over f l) (sum_over g l)
  sum_cong [] h = rfl
  sum_cong (a ∷ l) h = h a (inl refl) plus sum_cong l (λ b m. h b (inr m))

  pub sum_zero : {p : ℕ} {f : A → ℕ} (l : List A) → ((a : A) → Among a l → Mod p (f a) 0) → Mod p (sum_over f l) 0
  sum_zero [] h = rfl
  sum_zero (a ∷ l) h = h a (inl refl) plus sum_zero l (λ b m. h b (inr m))

  pub sum_lin : (f g : A → ℕ) (k : ℕ) (l : List A) → sum_over (λ a. f a + k * g a) l ≡ sum_over f l + k * sum_over g l
  sum_lin f g k [] = omega arith
  sum_lin f g k (a ∷ l) = let h : sum_over (λ a. f a + k * g a) l ≡ sum_over f l + k * sum_over g l = sum_lin f g k l in omega arith

  pub sum_scale : (f : A → ℕ) (k : ℕ) (l : List A) → sum_over (λ a. k * f a) l ≡ k * sum_over f l
  sum_scale f k [] = omega arith
  sum_scale f k (a ∷ l) = let h : sum_over (λ a. k * f a) l ≡ k * sum_over f l = sum_scale f k l in omega arith

  pub sum_append : (f : A → ℕ) (l r : List A) → sum_over f (l ++ r) ≡ sum_over f l + sum_over f r
  sum_append f [] r = omega arith
  sum_append f (a ∷ l) r = let h : sum_over f (l ++ r) ≡ sum_over f l + sum_over f r = sum_append f l r in omega arith

  pub sum_nil : (l : List A) → sum_over (λ a. 0) l ≡ 0
  sum_nil [] = refl
  sum_nil (a ∷ l) = let h : sum_over (λ (a : A). 0) l ≡ 0 = sum_nil l in omega arith

  pub sum_add : (f g : A → ℕ) (l : List A) → sum_over (λ a. f a + g a) l ≡ sum_over f l + sum_over g l
  sum_add f g [] = refl
  sum_add f g (a ∷ l) = let h : sum_over (λ a. f a + g a) l ≡ sum_over f l + sum_over g l = sum_add f g l in omega arith

pub sum_swap : {A B : Type 0} (h : A → B → ℕ) (l : List A) (r : List B) → sum_over (λ a. sum_over (h a) r) l ≡ sum_over (λ b. sum_over (λ a. h a b) l) r
sum_swap h [] r = sym (sum_nil r)
sum_swap h (a ∷ l) r = ap (λ (z : ℕ). sum_over (h a) r + z) (sum_swap h l r) ∙ sym (sum_add (h a) (λ b. sum_over (λ a. h a b) l) r)
