-- A power by squares.
use mathlib.Core.Path.{◌≡◌, sym, ap, ◌∙◌}
use Prim.Native.Nat.{ℕ, zero, suc, ◌+◌, ◌*◌, ◌/◌, ◌%◌, ◌^◌}
use native.Mathlib.Nat.{pow-suc, pow-zero}
use native.Mathlib.Omega.{arith}
use Rattle.residue.specs.Congruence.{Mod}
use Rattle.residue.proofs.Congruence.{of, reduce, ◌then◌, ◌times◌}

pub raise : {p a b : ℕ} → Mod p a b → (k : ℕ) → Mod p (a ^ k) (b ^ k)
raise {p} {a} {b} h zero = of (pow-zero a ∙ sym (pow-zero b))
raise {p} {a} {b} h (suc k) = of (pow-suc a k) then raise h k times h then of (sym (pow-suc b k))

squares : (s k : ℕ) → (s * s) ^ k ≡ s ^ (k + k)
squares s zero = pow-zero (s * s) ∙ sym (pow-zero s)
squares s (suc k) =
    let e : suc k + suc k ≡ suc (suc (k + k)) = omega arith in
    pow-suc (s * s) k ∙ ap (λ (z : ℕ). z * (s * s)) (squares s k) ∙ shape (s ^ (k + k)) ∙ sym (ap (λ (z : ℕ). z * s) (pow-suc s (k + k))) ∙ sym (pow-suc s (suc (k + k))) ∙ ap (λ (n : ℕ). s ^ n) (sym e)
  where
    shape : (z : ℕ) → z * (s * s) ≡ z * s * s
    shape z = omega arith

-- a turn of the loop: what is left of the power, at an even and at an odd exponent
module _ {p t s' : ℕ} (r s l : ℕ) (h : Mod p (r * s ^ l) t) (square : s' ≡ (s * s) % p) where
  halved : Mod p (s' ^ (l / 2)) (s ^ (l / 2 + l / 2))
  halved = raise (of square then reduce p (s * s)) (l / 2) then of (squares s (l / 2))

  pub even : {r' : ℕ} → (l % 2 ≡ 1 → ⊥) → r' ≡ r → Mod p (r' * s' ^ (l / 2)) t
  even n e =
      let d : l / 2 + l / 2 ≡ l = omega (arith, n) in
      of e times halved then of (ap (λ (k : ℕ). r * s ^ k) d) then h

  pub odd : {r' : ℕ} → l % 2 ≡ 1 → r' ≡ (r * s) % p → Mod p (r' * s' ^ (l / 2)) t
  odd o e =
      let d : suc (l / 2 + l / 2) ≡ l = omega arith in
      (of e then reduce p (r * s)) times halved then of (shape (s ^ (l / 2 + l / 2)) ∙ ap (λ (z : ℕ). r * z) (sym (pow-suc s (l / 2 + l / 2))) ∙ ap (λ (k : ℕ). r * s ^ k) d) then h
    where
      shape : (z : ℕ) → r * s * z ≡ r * (z * s)
      shape z = omega arith

-- nothing is left
pub whole : {p t : ℕ} (r s l : ℕ) → l ≡ 0 → Mod p (r * s ^ l) t → r % p ≡ t % p
whole {p} r s l e h =
    let o : r ≡ r * 1 = omega arith in
    ap (λ (z : ℕ). z % p) (o ∙ ap (λ (z : ℕ). r * z) (sym (pow-zero s)) ∙ ap (λ (k : ℕ). r * s ^ k) (sym e)) ∙ h.same
