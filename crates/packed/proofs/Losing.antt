-- What a column loses to the pivots at whose places it is 1: as a function, it gains their sum; and so does its polynomial.
use mathlib.Core.Path.{◌≡◌, refl, ap₂, ◌∙◌}
use mathlib.Core.Bool.{cond}
use mathlib.Core.List.{List, [], ◌∷◌}
use mathlib.Core.Logic.{inl, inr}
use Prim.Native.Nat.{ℕ, zero, suc, ◌+◌, ◌*◌, ◌^◌, ◌<◌}
use native.Mathlib.Omega.{arith}
use lib.ListN.{length}
use lib.Dec.{eqb}
use lib.Bits.{bit_xor, xor_lt}
use Rattle.residue.specs.Congruence.{Mod}
use Rattle.residue.specs.Lists.{Among, sum_over}
use Rattle.residue.proofs.Congruence.{of, lin, ◌then◌}
use Rattle.specification.specs.Space.{Space}
use Rattle.residue.specs.Words.{bit_of, column_of}
use Rattle.words.specs.Packed.{Words, words, PivotWords, lose, loses, polynomial_at}
use Rattle.residue.proofs.BitLaws.{bit_small}
use Rattle.words.proofs.ColumnLaws.{column_cong, column_xor}
use Rattle.packed.proofs.PolynomialLaws.{poly_xor}

module _ (D : Space) (S : List D.Pt) where
  open D use {Mono, Pt}

  -- the sum of the pivots at whose places the word is 1, at a point
  abbrev pub spread : List Mono → List PivotWords → ℕ → Pt → ℕ
  spread l pivots own P = sum_over (λ v. bit_of v.place own * polynomial_at D l v.polynomial P) pivots

  -- each pivot's column is that of its polynomial
  pub record Columned (l : List Mono) (v : PivotWords) : Type 0 where
    pub column : v.column ≡ column_of (polynomial_at D l v.polynomial) S
    pub small : v.polynomial < 2 ^ length l

  module _ (l : List Mono) (own : ℕ) where
    -- a word that shows φ, whose polynomial is within l
    pub record Shows (φ : Pt → ℕ) (w : Words) : Type 0 where
      pub column : w.column ≡ column_of φ S
      pub small : w.polynomial < 2 ^ length l

    module _ (v : PivotWords) (C : Columned l v) (φ : Pt → ℕ) (w : Words) (H : Shows φ w) where
      abbrev lost : ℕ → Words
      lost d = cond (eqb d 0) w (words (bit_xor w.column v.column) (bit_xor w.polynomial v.polynomial))

      by_bit : (d : ℕ) → d < 2 → Shows (λ P. φ P + d * polynomial_at D l v.polynomial P) (lost d)
      by_bit zero h = record { column = H.column ∙ column_cong φ (λ P. φ P + 0 * polynomial_at D l v.polynomial P) S (λ P mem. of (omega arith)); small = H.small }
      by_bit (suc zero) h = record {
        column = ap₂ bit_xor H.column C.column ∙ column_xor φ (polynomial_at D l v.polynomial) S
            ∙ column_cong (λ P. φ P + polynomial_at D l v.polynomial P) (λ P. φ P + 1 * polynomial_at D l v.polynomial P) S (λ P mem. of (omega arith));
        small = xor_lt (length l) w.polynomial v.polynomial H.small C.small;
      }
      by_bit (suc (suc d)) h = absurd (omega arith)

      poly_by_bit : (P : Pt) (d : ℕ) → d < 2 → Mod 2 (polynomial_at D l (lost d).polynomial P) (polynomial_at D l w.polynomial P + d * polynomial_at D l v.polynomial P)
      poly_by_bit P zero h = of (omega arith)
      poly_by_bit P (suc zero) h = poly_xor D l w.polynomial v.polynomial P then of (omega arith)
      poly_by_bit P (suc (suc d)) h = absurd (omega arith)

      pub lose_shows : Shows (λ P. φ P + bit_of v.place own * polynomial_at D l v.polynomial P) (lose own v w)
      unfolding lose
      lose_shows = by_bit (bit_of v.place own) (bit_small v.place own)

      pub lose_polynomial : (P : Pt)
          → Mod 2 (polynomial_at D l (lose own v w).polynomial P) (polynomial_at D l w.polynomial P + bit_of v.place own * polynomial_at D l v.polynomial P)
      unfolding lose
      lose_polynomial P = poly_by_bit P (bit_of v.place own) (bit_small v.place own)

    pub loses_shows : (pivots : List PivotWords) → ((v : PivotWords) → Among v pivots → Columned l v) → (φ : Pt → ℕ) (w : Words) → Shows φ w
        → Shows (λ P. φ P + spread l pivots own P) (loses own pivots w)
    unfolding loses
    loses_shows [] C φ w H = record { column = H.column ∙ column_cong φ (λ P. φ P + 0) S (λ P mem. of (omega arith)); small = H.small }
    loses_shows (v ∷ r) C φ w H =
        let t = loses_shows r (λ u mem. C u (inr mem)) (λ P. φ P + bit_of v.place own * polynomial_at D l v.polynomial P) (lose own v w) (lose_shows v (C v (inl refl)) φ w H) in
        record {
          column = t.column ∙ column_cong (λ P. (φ P + bit_of v.place own * polynomial_at D l v.polynomial P) + spread l r own P) (λ P. φ P + spread l (v ∷ r) own P) S (λ P mem. of (omega arith));
          small = t.small;
        }

    pub loses_polynomial : (pivots : List PivotWords) → ((v : PivotWords) → Among v pivots → Columned l v) → (φ : Pt → ℕ) (w : Words) → Shows φ w → (P : Pt)
        → Mod 2 (polynomial_at D l (loses own pivots w).polynomial P) (polynomial_at D l w.polynomial P + spread l pivots own P)
    unfolding loses
    loses_polynomial [] C φ w H P = of (omega arith)
    loses_polynomial (v ∷ r) C φ w H P =
        loses_polynomial r (λ u mem. C u (inr mem)) (λ Q. φ Q + bit_of v.place own * polynomial_at D l v.polynomial Q) (lose own v w) (lose_shows v (C v (inl refl)) φ w H) P
        then lin (lose_polynomial v (C v (inl refl)) φ w H P) 0 0 (omega arith)
