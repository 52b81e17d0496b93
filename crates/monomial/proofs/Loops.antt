-- One turn, a find and the end of each loop over exponents.
use mathlib.Core.Path.{◌≡◌, sym, ◌∙◌}
use mathlib.Core.List.{List}
use Prim.Native.Nat.{ℕ, ◌+◌, ◌*◌, ◌^◌, ◌%◌, ◌<◌, ◌≤◌}
use native.Mathlib.Nat.{mul_assoc, mul-one, mod-eq_of_lt}
use native.Mathlib.Numerals.{add-one}
use lib.ListN.{length, drop, get_or, drop_of_length-le}
use lib.Seq.{drop-cons}
use Rattle.residue.specs.Congruence.{Mod}
use Rattle.residue.proofs.Congruence.{rfl, of, ◌then◌, ◌times◌, reduce}
use Rattle.monomial.specs.Monomial.{monomial_at}

-- the product of the powers passed, modulo p, times the value of what is left
module _ (p : ℕ) (P a : List ℕ) (i x : ℕ) (v : Mod p (x * monomial_at (drop i P) (drop i a)) (monomial_at P a)) where
  pub value_again : i < length P → i < length a → {f : ℕ} → f ≡ (get_or P i 0 ^ get_or a i 0) % p →
      Mod p ((x * f) % p * monomial_at (drop (i + 1) P) (drop (i + 1) a)) (monomial_at P a)
  value_again h k {f} e =
      reduce p (x * f) times rfl {x = rest} then of (mul_assoc x f rest) then rfl {x = x} times ((of e then reduce p power) times rfl {x = rest}) then of turn then v
    where
      rest : ℕ
      rest = monomial_at (drop (i + 1) P) (drop (i + 1) a)

      power : ℕ
      power = get_or P i 0 ^ get_or a i 0

      turn : x * (power * rest) ≡ x * monomial_at (drop i P) (drop i a)
      turn = sym (rw (add-one, drop-cons P i 0 h, drop-cons a i 0 k))

  pub value_end : length P ≤ i → x < p → x ≡ monomial_at P a % p
  value_end h k = sym (mod-eq_of_lt k) ∙ rw (drop_of_length-le P {i = i} h, mul-one) at v.same
