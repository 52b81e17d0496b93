-- The pivots are fully reduced: each is 1 at its own place and 0 at the places of the others; so what is left of a column is 0 at all of them.
use mathlib.Core.Path.{◌≡◌, refl, ap, ◌∙◌}
use mathlib.Core.Bool.{cond}
use mathlib.Core.List.{List, [], ◌∷◌, ◌++◌, map}
use mathlib.Core.Logic.{inl, inr, ◌≢◌}
use Prim.Native.Nat.{ℕ, zero, suc, ◌+◌, ◌*◌, ◌/◌, ◌%◌, ◌^◌, ◌<◌}
use native.Mathlib.Nat.{mod-lt, zero-lt-suc}
use native.Mathlib.Omega.{arith}
use lib.Dec.{eqb}
use lib.Bits.{bit_xor}
use lib.Count.{count_trailing_zeros, under}
use Rattle.residue.specs.Congruence.{Mod}
use Rattle.residue.specs.Lists.{Among}
use Rattle.residue.proofs.Congruence.{rfl, of, lin, ◌then◌, ◌plus◌, ◌times◌}
use Rattle.specification.proofs.ideal.Lists.{snoc_of, among_map}
use Rattle.residue.specs.Words.{bit_of}
use Rattle.words.specs.Packed.{Words, words, PivotWords, lose, loses, rest_of, clear, pivot_from, with_pivot}
use Rattle.words.specs.PivotTables.{Apart, Orthogonal}
use Rattle.residue.proofs.BitLaws.{half_lt, bit_small, bit_xor_lem, bit_first, bit_next}
use Rattle.words.proofs.ColumnLaws.{halves}

-- the bit of a word that has lost a pivot
pub lose_bit : (own i : ℕ) (v : PivotWords) (w : Words) → Mod 2 (bit_of i (lose own v w).column) (bit_of i w.column + bit_of v.place own * bit_of i v.column)
unfolding lose
lose_bit own i v w = go (bit_of v.place own) (bit_small v.place own)
  where
    go : (d : ℕ) → d < 2 → Mod 2 (bit_of i (cond (eqb d 0) w (words (bit_xor w.column v.column) (bit_xor w.polynomial v.polynomial))).column) (bit_of i w.column + d * bit_of i v.column)
    go zero h = of (omega arith)
    go (suc zero) h = bit_xor_lem i w.column v.column then of (omega arith)
    go (suc (suc d)) h = absurd (omega arith)

-- 0 at places where the pivots are
pub keeps : (own i : ℕ) (r : List PivotWords) (w : Words) → ((u : PivotWords) → Among u r → Mod 2 (bit_of i u.column) 0) → Mod 2 (bit_of i (loses own r w).column) (bit_of i w.column)
unfolding loses
keeps own i [] w h = rfl
keeps own i (u ∷ r) w h = keeps own i r (lose own u w) (λ v mem. h v (inr mem))
    then lose_bit own i u w then lin (rfl {x = bit_of u.place own} times h u (inl refl)) 0 0 (omega arith)

zero_from : (own : ℕ) (r : List PivotWords) (w : Words) → ((v : PivotWords) → Among v r → Mod 2 (bit_of v.place v.column) 1) → Apart r
    → ((v : PivotWords) → Among v r → Mod 2 (bit_of v.place w.column) (bit_of v.place own)) → (v : PivotWords) → Among v r → Mod 2 (bit_of v.place (loses own r w).column) 0
unfolding loses
zero_from own (u ∷ r) w o a h v (inl e) = rw e (keeps own u.place r (lose own u w) (λ z mem. (a.0 z mem).0) then lose_bit own u.place u w
    then lin (h u (inl refl) plus (rfl {x = bit_of u.place own} times o u (inl refl))) 0 (bit_of u.place own) (omega arith))
zero_from own (u ∷ r) w o a h v (inr mem) = zero_from own r (lose own u w) (λ z k. o z (inr k)) a.1
    (λ z k. lose_bit own z.place u w then lin (h z (inr k) plus (rfl {x = bit_of u.place own} times (a.0 z k).1)) 0 0 (omega arith)) v mem
zero_from own [] w o a h v x4 = elim x4 [ ]

-- what is left of a column is 0 at the pivots' places
pub rest_zero : (own : ℕ) (pivots : List PivotWords) → Orthogonal pivots → (v : PivotWords) → Among v pivots → Mod 2 (bit_of v.place (rest_of own pivots).column) 0
rest_zero own pivots O = zero_from own pivots (words own 0) O.own O.apart (λ v mem. rfl)

-- the lowest bit that is set
pub lowest_set : (k w : ℕ) → w < 2 ^ k → w ≢ 0 → bit_of (count_trailing_zeros k w) w ≡ 1
unfolding count_trailing_zeros
lowest_set zero w h n = absurd (n (omega arith))
lowest_set (suc k) w h n = go (w % 2) refl (mod-lt w (zero-lt-suc 1)) (lowest_set k (w / 2) (half_lt k w h))
  where
    go : (d : ℕ) → w % 2 ≡ d → d < 2 → (w / 2 ≢ 0 → bit_of (count_trailing_zeros k (w / 2)) (w / 2) ≡ 1) → bit_of (under d (count_trailing_zeros k (w / 2))) w ≡ 1
    go zero e u ih = bit_next (count_trailing_zeros k (w / 2)) w ∙ ih (λ z. n (halves {b = 0} z e))
    go (suc zero) e u ih = bit_first w ∙ e
    go (suc (suc d)) e u ih = absurd (omega arith)

pub lowest_lt : (k w : ℕ) → w < 2 ^ k → w ≢ 0 → count_trailing_zeros k w < k
unfolding count_trailing_zeros
lowest_lt zero w h n = absurd (n (omega arith))
lowest_lt (suc k) w h n = go (w % 2) refl (lowest_lt k (w / 2) (half_lt k w h))
  where
    go : (d : ℕ) → w % 2 ≡ d → (w / 2 ≢ 0 → count_trailing_zeros k (w / 2) < k) → under d (count_trailing_zeros k (w / 2)) < suc k
    go zero e ih = let z = ih (λ z. n (halves {b = 0} z e)) in omega arith
    go (suc d) e ih = omega arith

module _ (pivots : List PivotWords) (O : Orthogonal pivots) (new : PivotWords) (one : Mod 2 (bit_of new.place new.column) 1)
    (away : (v : PivotWords) → Among v pivots → Mod 2 (bit_of v.place new.column) 0) where
  -- a bit of a pivot that has been cleared
  clear_bit : (i : ℕ) (v : PivotWords) → Mod 2 (bit_of i (clear new v).column) (bit_of i v.column + bit_of new.place v.column * bit_of i new.column)
  unfolding clear
  clear_bit i v = lose_bit v.column i new (words v.column v.polynomial)

  clear_place : (v : PivotWords) → (clear new v).place ≡ v.place
  unfolding clear
  clear_place v = refl

  at_new : (v : PivotWords) → Mod 2 (bit_of new.place (clear new v).column) 0
  at_new v = clear_bit new.place v then lin (rfl {x = bit_of new.place v.column} times one) 0 (bit_of new.place v.column) (omega arith)

  at_old : (u v : PivotWords) → Among u pivots → Mod 2 (bit_of u.place (clear new v).column) (bit_of u.place v.column)
  at_old u v mem = clear_bit u.place v then lin (rfl {x = bit_of new.place v.column} times away u mem) 0 0 (omega arith)

  apart_all : (r : List PivotWords) → ((v : PivotWords) → Among v r → Among v pivots) → Apart r → Apart (map (clear new) r ++ (new ∷ []))
  apart_all [] in_all a = ((λ u mem. absurd mem), tt)
  apart_all (v ∷ r) in_all a = (
    (λ u mem. elim (snoc_of (map (clear new) r) new u mem) [
      | inl z ↦ let t = among_map (clear new) r u z in
          rw t.2 (
            of (ap (λ (i : ℕ). bit_of i (clear new t.0).column) (clear_place v)) then at_old v t.0 (in_all v (inl refl)) then (a.0 t.0 t.1).0,
            of (ap (λ (i : ℕ). bit_of i (clear new v).column) (clear_place t.0)) then at_old t.0 v (in_all t.0 (inr t.1)) then (a.0 t.0 t.1).1,
          )
      | inr e ↦ rw e (of (ap (λ (i : ℕ). bit_of i new.column) (clear_place v)) then away v (in_all v (inl refl)), at_new v)
    ]),
    apart_all r (λ u mem. in_all u (inr mem)) a.1,
  )

  pub orthogonal_more : Orthogonal (with_pivot new pivots)
  unfolding with_pivot
  orthogonal_more = record {
    own = λ v mem. elim (snoc_of (map (clear new) pivots) new v mem) [
      | inl z ↦ let t = among_map (clear new) pivots v z in rw t.2 (of (ap (λ (i : ℕ). bit_of i (clear new t.0).column) (clear_place t.0)) then at_old t.0 t.0 t.1 then O.own t.0 t.1)
      | inr e ↦ rw e one
    ];
    apart = apart_all pivots (λ v mem. mem) O.apart;
  }

-- one step: what is left of a column that is not 0 is orthogonal to the others once they are cleared
pub orthogonal_step : (own k : ℕ) (pivots : List PivotWords) → Orthogonal pivots → (rest_of own pivots).column < 2 ^ 64 → (rest_of own pivots).column ≢ 0
    → Orthogonal (with_pivot (pivot_from k (rest_of own pivots)) pivots)
unfolding pivot_from
orthogonal_step own k pivots O h n = orthogonal_more pivots O (pivot_from k (rest_of own pivots)) (of (lowest_set 64 (rest_of own pivots).column h n)) (rest_zero own pivots O)
