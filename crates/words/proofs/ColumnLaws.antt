-- Columns of bits as words: XOR is the sum of two functions, AND their product; a column is 0 where its function vanishes; and its lowest bit that is set is a point
-- where the function does not.
use mathlib.Core.Path.{◌≡◌, refl, sym, ap, ap₂, ◌∙◌}
use mathlib.Core.List.{List, [], ◌∷◌, map}
use mathlib.Core.Logic.{inl, inr, ◌≢◌}
use Prim.Native.Nat.{ℕ, zero, suc, ◌+◌, ◌*◌, ◌/◌, ◌%◌, ◌^◌, ◌<◌, ◌≤◌}
use native.Mathlib.Nat.{mod-lt, zero-lt-suc, mod-mod}
use native.Mathlib.Omega.{arith}
use lib.ListN.{length, length-map}
use lib.Bits.{bit_and, bit_xor}
use lib.Count.{count_trailing_zeros, under}
use Rattle.residue.specs.Congruence.{Mod}
use Rattle.residue.specs.Lists.{Among}
use Rattle.residue.proofs.Congruence.{of, reduce, ◌then◌, ◌plus◌, ◌times◌}
use Rattle.specification.proofs.ideal.Lists.{among_map, map_among}
use Rattle.residue.specs.Words.{bit_of, word_of, column_of}
use Rattle.residue.proofs.BitLaws.{word_half, word_odd, word_lt, xor_odd, xor_half, and_odd, and_half, bit_first, bit_next, word_zero, zero_word}
pub use Rattle.residue.proofs.BitLaws.{halves}

module _ {A : Type 0} where
  pub column_half : (φ : A → ℕ) (P : A) (S : List A) → column_of φ (P ∷ S) / 2 ≡ column_of φ S
  unfolding column_of
  column_half φ P S = word_half (φ P) (map φ S)

  pub column_odd : (φ : A → ℕ) (P : A) (S : List A) → column_of φ (P ∷ S) % 2 ≡ φ P % 2
  unfolding column_of
  column_odd φ P S = word_odd (φ P) (map φ S)

  pub column_lt : (φ : A → ℕ) (S : List A) → column_of φ S < 2 ^ length S
  unfolding column_of
  column_lt φ S = rw (← length-map S φ) (word_lt (map φ S))

  pub column_cong : (φ ψ : A → ℕ) (S : List A) → ((P : A) → Among P S → Mod 2 (φ P) (ψ P)) → column_of φ S ≡ column_of ψ S
  unfolding column_of word_of
  column_cong φ ψ [] h = refl
  column_cong φ ψ (P ∷ S) h = ap₂ (λ (x y : ℕ). x * 2 + y) (column_cong φ ψ S (λ Q mem. h Q (inr mem))) (h P (inl refl)).same

  pub column_none : (φ : A → ℕ) → column_of φ [] ≡ 0
  unfolding column_of word_of
  column_none φ = refl

  -- XOR is the sum
  pub column_xor : (φ ψ : A → ℕ) (S : List A) → bit_xor (column_of φ S) (column_of ψ S) ≡ column_of (λ P. φ P + ψ P) S
  column_xor φ ψ [] = ap₂ bit_xor (column_none φ) (column_none ψ) ∙ sym (column_none (λ P. φ P + ψ P))
  column_xor φ ψ (P ∷ S) = halves
      (xor_half (column_of φ (P ∷ S)) (column_of ψ (P ∷ S)) ∙ ap₂ bit_xor (column_half φ P S) (column_half ψ P S) ∙ column_xor φ ψ S ∙ sym (column_half (λ Q. φ Q + ψ Q) P S))
      (sym (mod-mod (bit_xor (column_of φ (P ∷ S)) (column_of ψ (P ∷ S))) 2) ∙ (xor_odd (column_of φ (P ∷ S)) (column_of ψ (P ∷ S)) then of (ap₂ (λ (x y : ℕ). x + y) (column_odd φ P S) (column_odd ψ P S))
      then (reduce 2 (φ P) plus reduce 2 (ψ P))).same ∙ sym (column_odd (λ Q. φ Q + ψ Q) P S))

  -- AND is the product
  pub column_and : (φ ψ : A → ℕ) (S : List A) → bit_and (column_of φ S) (column_of ψ S) ≡ column_of (λ P. φ P * ψ P) S
  column_and φ ψ [] = ap₂ bit_and (column_none φ) (column_none ψ) ∙ sym (column_none (λ P. φ P * ψ P))
  column_and φ ψ (P ∷ S) = halves
      (and_half (column_of φ (P ∷ S)) (column_of ψ (P ∷ S)) ∙ ap₂ bit_and (column_half φ P S) (column_half ψ P S) ∙ column_and φ ψ S ∙ sym (column_half (λ Q. φ Q * ψ Q) P S))
      (sym (mod-mod (bit_and (column_of φ (P ∷ S)) (column_of ψ (P ∷ S))) 2) ∙ (of (and_odd (column_of φ (P ∷ S)) (column_of ψ (P ∷ S)) ∙ ap₂ (λ (x y : ℕ). x * y) (column_odd φ P S) (column_odd ψ P S))
      then (reduce 2 (φ P) times reduce 2 (ψ P))).same ∙ sym (column_odd (λ Q. φ Q * ψ Q) P S))

  -- the column is 0 exactly where the function vanishes
  pub zero_vanishes : (φ : A → ℕ) (S : List A) → column_of φ S ≡ 0 → (P : A) → Among P S → Mod 2 (φ P) 0
  unfolding column_of
  zero_vanishes φ S e P mem = record { same = word_zero (map φ S) e (φ P) (map_among φ S P mem) }

  pub vanishes_zero : (φ : A → ℕ) (S : List A) → ((P : A) → Among P S → Mod 2 (φ P) 0) → column_of φ S ≡ 0
  unfolding column_of
  vanishes_zero φ S h = zero_word (map φ S) (λ b mem. let t = among_map φ S b mem in rw t.2 (h t.0 t.1).same)

  -- the place of a point: bit i of any column is the function's residue there
  pub record Place (S : List A) (i : ℕ) (P : A) : Type 0 where
    pub among : Among P S
    pub reads : (φ : A → ℕ) → Mod 2 (bit_of i (column_of φ S)) (φ P)
    pub inside : i < length S

  pub place_here : (P : A) (S : List A) → Place (P ∷ S) zero P
  place_here P S = record { among = inl refl; reads = λ φ. of (bit_first (column_of φ (P ∷ S)) ∙ column_odd φ P S) then reduce 2 (φ P); inside = omega arith }

  pub place_on : {S : List A} {i : ℕ} {P : A} (Q : A) → Place S i P → Place (Q ∷ S) (suc i) P
  place_on {S} {i} Q h = record {
    among = inr h.among;
    reads = λ φ. of (bit_next i (column_of φ (Q ∷ S)) ∙ ap (bit_of i) (column_half φ Q S)) then h.reads φ;
    inside = omega (arith, h.inside);
  }

  -- every place below the number of points is one of a point
  pub place_at : (S : List A) (i : ℕ) → i < length S → (P : A) × Place S i P
  place_at [] i h = absurd (omega arith)
  place_at (P ∷ S) zero h = (P, place_here P S)
  place_at (P ∷ S) (suc i) h = let t = place_at S i (omega arith) in (t.0, place_on P t.1)

  first_here : (φ : A → ℕ) (P : A) (S : List A) (k : ℕ) → φ P % 2 ≡ 1 → count_trailing_zeros (suc k) (column_of φ (P ∷ S)) ≡ 0
  unfolding count_trailing_zeros
  first_here φ P S k e = ap (λ (d : ℕ). under d (count_trailing_zeros k (column_of φ (P ∷ S) / 2))) (column_odd φ P S ∙ e)

  first_other : (φ : A → ℕ) (P : A) (S : List A) (k : ℕ) → φ P % 2 ≡ 0 → count_trailing_zeros (suc k) (column_of φ (P ∷ S)) ≡ suc (count_trailing_zeros k (column_of φ S))
  unfolding count_trailing_zeros
  first_other φ P S k e =
      ap (λ (d : ℕ). under d (count_trailing_zeros k (column_of φ (P ∷ S) / 2))) (column_odd φ P S ∙ e) ∙ ap (λ (w : ℕ). suc (count_trailing_zeros k w)) (column_half φ P S)

  -- the lowest bit that is set
  pub lowest : (φ : A → ℕ) (S : List A) (k : ℕ) → length S ≤ k → column_of φ S ≢ 0
      → (P : A) × Place S (count_trailing_zeros k (column_of φ S)) P × Mod 2 (φ P) 1
  lowest φ [] k h n = absurd (n (column_none φ))
  lowest φ (P ∷ S) zero h n = absurd (omega arith)
  lowest φ (P ∷ S) (suc k) h n = go (φ P % 2) refl (mod-lt (φ P) (zero-lt-suc 1)) (lowest φ S k (omega arith))
    where
      go : (d : ℕ) → φ P % 2 ≡ d → d < 2 → (column_of φ S ≢ 0 → (Q : A) × Place S (count_trailing_zeros k (column_of φ S)) Q × Mod 2 (φ Q) 1)
          → (Q : A) × Place (P ∷ S) (count_trailing_zeros (suc k) (column_of φ (P ∷ S))) Q × Mod 2 (φ Q) 1
      go zero e u ih = let t = ih (λ z. n (halves {b = 0} (column_half φ P S ∙ z) (column_odd φ P S ∙ e))) in (t.0, rw (first_other φ P S k e) (place_on P t.1), t.2)
      go (suc zero) e u ih = (P, rw (first_here φ P S k e) (place_here P S), record { same = e })
      go (suc (suc d)) e u ih = absurd (omega arith)
