-- Polynomials over a list of monomials as words: XOR is the sum, a monomial more is a bit more, and the value at a point is the parity of the ones that the mask
-- of the monomials' values leaves.
use mathlib.Core.Path.{◌≡◌, refl, sym, ap, ap₂, ◌∙◌}
use mathlib.Core.List.{List, [], ◌∷◌, ◌++◌}
use Prim.Native.Nat.{ℕ, zero, suc, ◌+◌, ◌*◌, ◌/◌, ◌%◌, ◌^◌, ◌<◌}
use native.Mathlib.Nat.{pow-suc, mul-div_cancel, mul-mod_left, zero-lt-suc}
use native.Mathlib.Omega.{arith}
use lib.ListN.{length, get_or}
use lib.Bits.{bit_and, bit_xor, and_zero_r}
use lib.Count.{ones, ones_in, ones_step}
use Rattle.residue.specs.Congruence.{Mod}
use Rattle.residue.proofs.Congruence.{rfl, of, flip, reduce, ◌then◌, ◌plus◌, ◌times◌}
use Rattle.specification.specs.Space.{Space}
use Rattle.residue.specs.Words.{bits_of, column_of}
use Rattle.words.specs.Packed.{polynomial_at}
use Rattle.residue.proofs.BitLaws.{half_lt, xor_odd, xor_half, and_odd, and_half}
use Rattle.words.proofs.ColumnLaws.{column_half, column_odd, column_none}

module _ (D : Space) where
  open D use {Mono, Pt, val}

  pub poly_none : (f : ℕ) (P : Pt) → polynomial_at D [] f P ≡ 0
  unfolding polynomial_at bits_of
  poly_none f P = refl

  pub poly_cons : (t : Mono) (l : List Mono) (f : ℕ) (P : Pt) → polynomial_at D (t ∷ l) f P ≡ (f % 2) * val t P + polynomial_at D l (f / 2) P
  unfolding polynomial_at bits_of
  poly_cons t l f P = refl

  pub poly_zero : (l : List Mono) (P : Pt) → polynomial_at D l 0 P ≡ 0
  poly_zero [] P = poly_none 0 P
  poly_zero (t ∷ l) P = poly_cons t l 0 P ∙ ap (λ (z : ℕ). 0 * val t P + z) (poly_zero l P) ∙ (omega arith)

  -- XOR is the sum
  pub poly_xor : (l : List Mono) (f g : ℕ) (P : Pt) → Mod 2 (polynomial_at D l (bit_xor f g) P) (polynomial_at D l f P + polynomial_at D l g P)
  poly_xor [] f g P = of (poly_none (bit_xor f g) P ∙ sym (ap₂ (λ (x y : ℕ). x + y) (poly_none f P) (poly_none g P)))
  poly_xor (t ∷ l) f g P =
      of (poly_cons t l (bit_xor f g) P)
      then (xor_odd f g times rfl {x = val t P}) plus (of (ap (λ (h : ℕ). polynomial_at D l h P) (xor_half f g)) then poly_xor l (f / 2) (g / 2) P)
      then of (shape (f % 2) (g % 2) (val t P) (polynomial_at D l (f / 2) P) (polynomial_at D l (g / 2) P))
      then of (sym (ap₂ (λ (x y : ℕ). x + y) (poly_cons t l f P) (poly_cons t l g P)))
    where
      shape : (a b v x y : ℕ) → (a + b) * v + (x + y) ≡ (a * v + x) + (b * v + y)
      shape a b v x y = omega arith

  -- a monomial more: polynomials stay what they are, and the new bit is the monomial
  pub poly_longer : (l : List Mono) (b : Mono) (f : ℕ) (P : Pt) → f < 2 ^ length l → polynomial_at D (l ++ (b ∷ [])) f P ≡ polynomial_at D l f P
  poly_longer [] b f P h = let e : f ≡ 0 = omega arith in rw e (poly_zero (b ∷ []) P ∙ sym (poly_none 0 P))
  poly_longer (t ∷ l) b f P h =
      poly_cons t (l ++ (b ∷ [])) f P ∙ ap (λ (z : ℕ). (f % 2) * val t P + z) (poly_longer l b (f / 2) P (half_lt (length l) f h)) ∙ sym (poly_cons t l f P)

  pub poly_new : (l : List Mono) (b : Mono) (P : Pt) → polynomial_at D (l ++ (b ∷ [])) (2 ^ length l) P ≡ val b P
  poly_new [] b P = poly_cons b [] 1 P ∙ ap (λ (z : ℕ). 1 * val b P + z) (poly_none 0 P) ∙ (omega arith)
  poly_new (t ∷ l) b P =
      poly_cons t (l ++ (b ∷ [])) (2 ^ suc (length l)) P
      ∙ ap₂ (λ (x y : ℕ). x * val t P + polynomial_at D (l ++ (b ∷ [])) y P) (ap (λ (n : ℕ). n % 2) (pow-suc 2 (length l)) ∙ mul-mod_left (2 ^ length l) 2)
      (ap (λ (n : ℕ). n / 2) (pow-suc 2 (length l)) ∙ mul-div_cancel (2 ^ length l) (zero-lt-suc 1))
      ∙ ap (λ (z : ℕ). 0 * val t P + z) (poly_new l b P) ∙ (omega arith)

  -- the value at a point is the parity of what the mask leaves
  pub value_parity : (l : List Mono) (f : ℕ) (P : Pt) → Mod 2 (polynomial_at D l f P) (ones (bit_and f (column_of (λ t. val t P) l)))
  unfolding ones ones_in
  value_parity [] f P = of (poly_none f P ∙ sym (ap ones (ap (bit_and f) (column_none (λ t. val t P)) ∙ and_zero_r f)))
  value_parity (t ∷ l) f P =
      of (poly_cons t l f P)
      then (rfl {x = f % 2} times flip (reduce 2 (val t P)) then of (sym (and_odd f mask ∙ ap (λ (n : ℕ). (f % 2) * n) (column_odd (λ s. val s P) t l))))
      plus (value_parity l (f / 2) P then of (sym (ap ones (and_half f mask ∙ ap (bit_and (f / 2)) (column_half (λ s. val s P) t l)))))
      then of (sym (ones_step (bit_and f mask)))
    where
      mask : ℕ
      mask = column_of (λ s. val s P) (t ∷ l)

  -- one bit: the monomial at its place
  pub poly_single : (l : List Mono) (i : ℕ) (d : Mono) (P : Pt) → i < length l → polynomial_at D l (2 ^ i) P ≡ val (get_or l i d) P
  poly_single [] i d P h = absurd (omega arith)
  poly_single (t ∷ l) zero d P h = poly_cons t l 1 P ∙ ap (λ (z : ℕ). 1 * val t P + z) (poly_zero l P) ∙ (omega arith)
  poly_single (t ∷ l) (suc i) d P h =
      poly_cons t l (2 ^ suc i) P
      ∙ ap₂ (λ (x y : ℕ). x * val t P + polynomial_at D l y P) (ap (λ (n : ℕ). n % 2) (pow-suc 2 i) ∙ mul-mod_left (2 ^ i) 2)
      (ap (λ (n : ℕ). n / 2) (pow-suc 2 i) ∙ mul-div_cancel (2 ^ i) (zero-lt-suc 1))
      ∙ ap (λ (z : ℕ). 0 * val t P + z) (poly_single l i d P (omega arith)) ∙ (omega arith)
