-- A column examined by the pivots of the tables: a lead, or a pivot more.
use mathlib.Core.Path.{◌≡◌, refl, sym, ap, ap₂, ◌∙◌, subst}
use mathlib.Core.List.{List, [], ◌∷◌, ◌++◌, map}
use mathlib.Core.Logic.{◌≢◌}
use Prim.Native.Nat.{ℕ, suc, ◌^◌, ◌<◌, ◌≤◌}
use native.Mathlib.Omega.{arith}
use lib.ListN.{length, set, length-set}
use lib.Seq.{get_or-set_same, get_or-set_other}
use lib.Bits.{bit_or, bit_xor}
use lib.Count.{count_trailing_zeros}
use Rattle.residue.specs.Words.{bit_of}
use Rattle.words.specs.Packed.{Words, PivotWords, pivot_words, rest_of, clear, pivot_from, with_pivot}
use Rattle.std.specs.Prelude.{Some, None}
use Rattle.words.specs.PivotTables.{pivots_in, Cleared, RowsKnown, RowsIn, LeftAt, Orthogonal, PivotsLong, Kept, ExaminedAs}
use Rattle.residue.proofs.BitLaws.{bit_zero}
use Rattle.words.proofs.ClearLaws.{pivots_same}
use Rattle.words.proofs.Orthogonal.{lowest_lt, lowest_set, orthogonal_step}
use Rattle.words.proofs.SetBits.{places_apart}
use Rattle.words.proofs.RowsKnownMore.{new_place, rows_known_more}

-- no pivots
pub kept_none : (rows columns polynomials places : List ℕ) → length places ≡ 64 → Kept 0 0 rows columns polynomials []
unfolding pivots_in
kept_none rows columns polynomials places h = record {
  places = places;
  long = h;
  are = refl;
  known = record { marked = λ j u. absurd (omega arith); known = λ i e. absurd (none i e); apart = tt };
  orthogonal = record { own = λ v mem. absurd mem; apart = tt };
}
  where
    none : (i : ℕ) → bit_of i 0 ≡ 1 → ⊥
    none i e = let z : ◌≡◌ {A = ℕ} 0 1 = sym (bit_zero i) ∙ e in omega arith

module _ (k pivots : ℕ) (rows c f : List ℕ) (vs : List PivotWords) (K : Kept k pivots rows c f vs) where
  -- the rows of the table are rows of the pivots' tables
  pub kept_rows : k ≤ 64 → PivotsLong rows c f → RowsIn pivots rows c f
  kept_rows few long = record {
    long = omega (arith, long.0);
    in_columns = λ i e. let t = K.known.known i e in omega (arith, t.0, long.1.0);
    in_polynomials = λ i e. let t = K.known.known i e in omega (arith, t.0, long.1.1);
  }

  module _ (own : ℕ) (w : Words) (left : LeftAt own pivots rows c f w) where
    pub left_is : w ≡ rest_of own vs
    left_is = left.is k K.places K.known ∙ ap (rest_of own) (sym K.are)

    module _ (n : w.column ≢ 0) (small : w.column < 2 ^ 64) (bit place : ℕ) (single : bit ≡ 2 ^ k) (mark : place ≡ 2 ^ count_trailing_zeros 64 w.column) (c' f' : List ℕ)
        (k' : ℕ) (enough : k ≤ k') (H : Cleared k' (pivot_words (count_trailing_zeros 64 w.column) w.column (bit_xor w.polynomial bit)) c f c' f') (few : k < 64) (long : PivotsLong rows c f) where
      abbrev new : PivotWords
      new = pivot_words (count_trailing_zeros 64 w.column) w.column (bit_xor w.polynomial bit)

      abbrev at : ℕ
      at = count_trailing_zeros 64 w.column

      new_is : new ≡ pivot_from k (rest_of own vs)
      unfolding pivot_from
      new_is = ap (λ (z : ℕ). pivot_words (count_trailing_zeros 64 w.column) w.column (bit_xor w.polynomial z)) single
          ∙ ap (λ (v : Words). pivot_words (count_trailing_zeros 64 v.column) v.column (bit_xor v.polynomial (2 ^ k))) left_is

      tables : pivots_in (suc k) (set K.places k at) (set c' k new.column) (set f' k new.polynomial) ≡ with_pivot (pivot_from k (rest_of own vs)) vs
      unfolding pivots_in with_pivot
      tables =
          ap₂ (λ (l : List PivotWords) (v : PivotWords). l ++ (v ∷ []))
          (pivots_same k K.places c' f' (set K.places k at) (set c' k new.column) (set f' k new.polynomial) (λ j u. get_or-set_other K.places k j _ 0 (λ z. omega arith))
          (λ j u. get_or-set_other c' k j _ 0 (λ z. omega arith)) (λ j u. get_or-set_other f' k j _ 0 (λ z. omega arith)) ∙ H.cleared k enough K.places ∙ ap (map (clear new)) (sym K.are))
          (own_place (get_or-set_same K.places k at 0 (omega (arith, K.long))) (get_or-set_same c' k new.column 0 (omega (arith, H.long_columns, long.1.0)))
          (get_or-set_same f' k new.polynomial 0 (omega (arith, H.long_polynomials, long.1.1))))
          ∙ ap (λ (v : PivotWords). map (clear v) vs ++ (v ∷ [])) new_is
        where
          own_place : {x y z : ℕ} → x ≡ at → y ≡ new.column → z ≡ new.polynomial → pivot_words x y z ≡ new
          own_place a b d = cc

      other : (rest_of own vs).column ≢ 0
      other z = n (ap (λ (v : Words). v.column) left_is ∙ z)

      more : Orthogonal (with_pivot (pivot_from k (rest_of own vs)) vs)
      more = orthogonal_step own k vs K.orthogonal (subst (λ (v : Words). v.column < 2 ^ 64) left_is small) other

      pub kept_more : Kept (suc k) (bit_or pivots place) (set rows at k) (set c' k new.column) (set f' k new.polynomial) (with_pivot (pivot_from k (rest_of own vs)) vs)
      kept_more = record {
        places = set K.places k at;
        long = length-set K.places k at ∙ K.long;
        are = sym tables;
        known = subst (λ (b : ℕ). RowsKnown (suc k) (bit_or pivots b) (set rows at k) (set K.places k at) (set c' k new.column) (set f' k new.polynomial)) (sym mark)
            (rows_known_more k pivots rows K.places c f K.known at
            (new_place k pivots rows K.places c f K.known (subst Orthogonal K.are K.orthogonal) own at
            (ap (λ (v : Words). bit_of at v.column) (sym (left.is k K.places K.known)) ∙ lowest_set 64 w.column small n))
            (omega (arith, lowest_lt 64 w.column small n, long.0)) (omega (arith, K.long)) (set c' k new.column) (set f' k new.polynomial)
            (places_apart _ (subst Orthogonal (sym tables) more)));
        orthogonal = more;
      }

-- what `examine` says
module _ (own k pivots : ℕ) (rows c f : List ℕ) (w : Words) (left : LeftAt own pivots rows c f w) where
  pub examined_lead : w.column ≡ 0 → ExaminedAs own k (Some w.polynomial) pivots pivots rows c f rows c f
  examined_lead z = record {
    as_lead = λ vs K u. (ap (λ (v : Words). Some v.polynomial) (left_is k pivots rows c f vs K own w left), K);
    as_pivot = λ vs K n. absurd (n (sym (ap (λ (v : Words). v.column) (left_is k pivots rows c f vs K own w left)) ∙ z));
  }

  pub examined_pivot : w.column ≢ 0 → w.column < 2 ^ 64 → (bit place : ℕ) → bit ≡ 2 ^ k → place ≡ 2 ^ count_trailing_zeros 64 w.column → (c' f' : List ℕ) (k' : ℕ) → k ≤ k'
      → Cleared k' (pivot_words (count_trailing_zeros 64 w.column) w.column (bit_xor w.polynomial bit)) c f c' f' → k < 64 → PivotsLong rows c f
      → ExaminedAs own k None pivots (bit_or pivots place) rows c f (set rows (count_trailing_zeros 64 w.column) k) (set c' k w.column) (set f' k (bit_xor w.polynomial bit))
  examined_pivot n small bit place single mark c' f' k' enough H few long = record {
    as_lead = λ vs K z. absurd (n (ap (λ (v : Words). v.column) (left_is k pivots rows c f vs K own w left) ∙ z));
    as_pivot = λ vs K z. (refl, kept_more k pivots rows c f vs K own w left n small bit place single mark c' f' k' enough H few long);
  }
