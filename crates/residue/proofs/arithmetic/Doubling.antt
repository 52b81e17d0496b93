-- A product by doubling and adding, from the highest bit of a number on.
use mathlib.Core.Path.{◌≡◌, sym, ap, ◌∙◌}
use Prim.Native.Nat.{ℕ, ◌+◌, ◌*◌, ◌-◌, ◌/◌, ◌%◌, ◌^◌, ◌<◌}
use native.Mathlib.Nat.{mod-eq_of_lt, div-eq_of_lt}
use native.Mathlib.Omega.{arith}
use lib.Pow.{shr-shr}
use Rattle.residue.proofs.Congruence.{rfl, of, reduce, scale, ◌then◌, ◌plus◌}

module _ (p x y : ℕ) where
  -- nothing stands above the bits
  pub no_bits : (bits : ℕ) → 0 < p → y < 2 ^ bits → 0 ≡ (x * (y / 2 ^ bits)) % p
  no_bits bits z h =
      let f : x * 0 ≡ 0 = omega arith in
      sym (ap (λ (u : ℕ). (x * u) % p) (div-eq_of_lt h) ∙ ap (λ (u : ℕ). u % p) f ∙ mod-eq_of_lt z)

  -- one bit more: k were left
  pub one_bit : (k sum : ℕ) → 0 < k → sum ≡ (x * (y / 2 ^ k)) % p → ((2 * sum) % p + y / 2 ^ (k - 1) % 2 * x) % p ≡ (x * (y / 2 ^ (k - 1))) % p
  one_bit k sum h e =
      let up : k ≡ k - 1 + 1 = omega arith in
      let half : y / 2 ^ (k - 1) / 2 ≡ y / 2 ^ k = shr-shr y (k - 1) 1 ∙ ap (λ (n : ℕ). y / 2 ^ n) (sym up) in
      ((reduce p (2 * sum) then scale 2 (of e then reduce p (x * (y / 2 ^ k)))) plus rfl {x = y / 2 ^ (k - 1) % 2 * x}
      then of (ap (λ (u : ℕ). 2 * (x * u) + y / 2 ^ (k - 1) % 2 * x) (sym half) ∙ joined (y / 2 ^ (k - 1)))).same
    where
      joined : (u : ℕ) → 2 * (x * (u / 2)) + u % 2 * x ≡ x * u
      joined u = let e : 2 * (u / 2) + u % 2 ≡ u = omega arith in shape (u / 2) (u % 2) ∙ ap (λ (v : ℕ). x * v) e
        where
          shape : (a b : ℕ) → 2 * (x * a) + b * x ≡ x * (2 * a + b)
          shape a b = omega arith

  -- all bits done
  pub all_bits : (k : ℕ) → k ≡ 0 → (x * (y / 2 ^ k)) % p ≡ (x * y) % p
  all_bits k z =
      let o : y / 2 ^ 0 ≡ y = omega arith in
      ap (λ (n : ℕ). (x * (y / 2 ^ n)) % p) z ∙ ap (λ (u : ℕ). (x * u) % p) o
