-- One pivot met, by the code's test.
use mathlib.Core.Path.{◌≡◌, refl, sym, ◌∙◌}
use mathlib.Core.Bool.{cond}
use Prim.Native.Nat.{ℕ, zero, suc, ◌/◌, ◌^◌}
use lib.Dec.{eqb}
use lib.Bits.{bit_and, bit_xor, and_mask}
use Rattle.residue.specs.Words.{bit_of}
use Rattle.words.specs.Packed.{Words, words, PivotWords, lose}

-- the code's bit
pub tested : (i w : ℕ) → bit_and (w / 2 ^ i) 1 ≡ bit_of i w
unfolding bit_of
tested i w = and_mask (w / 2 ^ i) 1

module _ (own : ℕ) (v : PivotWords) (w : Words) where
  pub lose_none : bit_and (own / 2 ^ v.place) 1 ≡ 0 → w ≡ lose own v w
  unfolding lose
  lose_none e = rw (sym (tested v.place own) ∙ e)

  pub lose_some : ¬ (bit_and (own / 2 ^ v.place) 1 ≡ 0) → words (bit_xor w.column v.column) (bit_xor w.polynomial v.polynomial) ≡ lose own v w
  unfolding lose
  lose_some n = go (bit_of v.place own) (λ e. n (tested v.place own ∙ e))
    where
      go : (d : ℕ) → ¬ (d ≡ 0) → words (bit_xor w.column v.column) (bit_xor w.polynomial v.polynomial)
          ≡ cond (eqb d 0) w (words (bit_xor w.column v.column) (bit_xor w.polynomial v.polynomial))
      go zero k = absurd (k refl)
      go (suc d) k = rw (lib.Dec.eqb-suc-zero d)
