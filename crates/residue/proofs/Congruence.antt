-- Laws of congruence modulo p.
use mathlib.Core.Path.{◌≡◌, refl, sym, ◌∙◌, ap, ap₂}
use Prim.Native.Nat.{ℕ, suc, ◌+◌, ◌*◌, ◌%◌, ◌/◌, ◌<◌, ◌≤◌, ◌-◌}
use native.Mathlib.Omega.{arith}
use native.Mathlib.Nat.{add-mod, div-add-mod', mod-mod, add-mul-mod_self_right, mod-eq_of_lt}
use Rattle.residue.specs.Congruence.{Mod}

-- Congruence: equivalence, sums, products.
pub rfl : {p x : ℕ} → Mod p x x
rfl = record { same = refl }

pub of : {p x y : ℕ} → x ≡ y → Mod p x y
of {p} e = record { same = ap (λ (z : ℕ). z % p) e }

pub flip : {p x y : ℕ} → Mod p x y → Mod p y x
flip h = record { same = sym h.same }

infixl 40 ◌then◌
pub ◌then◌ : {p x y z : ℕ} → Mod p x y → Mod p y z → Mod p x z
h then k = record { same = h.same ∙ k.same }

infixl 45 ◌plus◌
pub ◌plus◌ : {p a b c d : ℕ} → Mod p a b → Mod p c d → Mod p (a + c) (b + d)
◌plus◌ {p} {a} {b} {c} {d} h k = record { same = add-mod a c p ∙ ap₂ (λ (u v : ℕ). (u + v) % p) h.same k.same ∙ sym (add-mod b d p) }

-- x is its remainder
pub reduce : (p x : ℕ) → Mod p (x % p) x
reduce p x = record { same = mod-mod x p }

mul_reduce : (p x y : ℕ) → Mod p (x * y) ((x % p) * y)
mul_reduce p x y = record {
  same =
      ap (λ (u : ℕ). u % p) (ap (λ (u : ℕ). u * y) (sym (div-add-mod' x p)) ∙ shape (x / p) (x % p)) ∙ add-mul-mod_self_right ((x % p) * y) (x / p * y) p;
}
  where
    shape : (q r : ℕ) → (q * p + r) * y ≡ r * y + q * y * p
    shape q r = omega arith

infixl 47 ◌times◌
pub ◌times◌ : {p a b c d : ℕ} → Mod p a b → Mod p c d → Mod p (a * c) (b * d)
◌times◌ {p} {a} {b} {c} {d} h k = half a b c h then of (comm b c) then half c d b k then of (comm d b)
  where
    comm : (u v : ℕ) → u * v ≡ v * u
    comm u v = omega arith

    half : (u v w : ℕ) → Mod p u v → Mod p (u * w) (v * w)
    half u v w e = mul_reduce p u w then of (ap (λ (z : ℕ). z * w) e.same) then flip (mul_reduce p v w)

pub scale : {p a b : ℕ} (k : ℕ) → Mod p a b → Mod p (k * a) (k * b)
scale k h = rfl {x = k} times h

pub zero_left : {p a : ℕ} → Mod p a 0 → (k : ℕ) → Mod p (a * k) 0
zero_left h k = h times rfl {x = k} then of (omega arith)

pub zero_right : {p a : ℕ} (k : ℕ) → Mod p a 0 → Mod p (k * a) 0
zero_right k h = scale k h then of (omega arith)

-- multiples of p are nothing
pub multiple : {p : ℕ} (x z : ℕ) → Mod p (x + z * p) x
multiple {p} x z = record { same = add-mul-mod_self_right x z p }

-- Linear combination, where p is suc n: from u ≈ v, with x + v and y + u the same up to multiples of p.
pub lin : {n u v x y : ℕ} → Mod (suc n) u v → (w z : ℕ) → x + v + w * suc n ≡ y + u + z * suc n → Mod (suc n) x y
lin {n} {u} {v} {x} {y} h w z e =
    flip (multiple x v) then of (shape x v) then (flip (multiple (x + v) w) then of e then multiple (y + u) z) plus rfl {x = n * v}
    then (rfl {x = y} plus h) plus rfl {x = n * v} then of (shape' y v) then multiple y v
  where
    shape : (a b : ℕ) → a + b * suc n ≡ a + b + n * b
    shape a b = omega arith

    shape' : (a b : ℕ) → a + b + n * b ≡ a + b * suc n
    shape' a b = omega arith

pub ring : {n x y : ℕ} (w z : ℕ) → x + w * suc n ≡ y + z * suc n → Mod (suc n) x y
ring {n} {x} {y} w z e = lin (rfl {x = 0}) w z (omega arith)

pub negative : (n y : ℕ) → y ≤ suc n → Mod (suc n) (suc n - y) (n * y)
negative n y h = ring y 1 (omega arith)

pub small : {p x y : ℕ} → x < p → y < p → Mod p x y → x ≡ y
small hx hy h = sym (mod-eq_of_lt hx) ∙ h.same ∙ mod-eq_of_lt hy
