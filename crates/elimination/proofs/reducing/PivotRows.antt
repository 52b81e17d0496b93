-- The pivot rows of elimination and a working row that meets them. v j i is the value of the jth standard monomial at the ith point; the first n entries of a
-- row are values at the points, the entry n + j is the coefficient of the jth standard monomial.
use mathlib.Core.Path.{◌≡◌, sym, subst, ◌∙◌}
use mathlib.Core.List.{List}
use Prim.Native.Nat.{ℕ, zero, suc, ◌+◌, ◌*◌, ◌<◌, ◌≤◌}
use native.Mathlib.Nat.{not-suc-le-zero}
use native.Mathlib.Decide.{dec_lt}
use native.Mathlib.Omega.{arith}
use lib.ListN.{length, get_or, take, drop, get_or-eq_default}
use lib.Seq.{get_or-take, get_or-drop}
use Rattle.residue.specs.Congruence.{Mod}
use Rattle.residue.specs.Vector.{Below}
use Rattle.elimination.specs.Elimination.{cancelled, eliminated, Multiplied}
use Rattle.residue.proofs.Congruence.{rfl, of, flip, ◌then◌, ◌plus◌, scale, lin, small}
use Rattle.elimination.proofs.reducing.Eliminated.{row_long, cancelled_at, cancelled_length, cancelled_below}
use Rattle.elimination.proofs.reducing.Combinations.{combination, combination_cong, combination_add}

-- entry i of pivot row t
abbrev pub entry : List ℕ → ℕ → ℕ → ℕ
entry rows t i = get_or rows (1152 * t + i) 0

module _ (q n found : ℕ) (v : ℕ → ℕ → ℕ) where
  -- Each pivot row is a combination, of values and coefficients alike; it is 1 at its own pivot and 0 at the earlier ones. The standard monomials' values at
  -- the pivots are independent.
  pub record PivotRows (rows pivots : List ℕ) : Type 0 where
    pub long_rows : length rows ≡ 73728
    pub long_pivots : length pivots ≡ 64
    pub most : n ≤ 64
    pub room : found ≤ n
    pub multiples : Multiplied (suc q) found rows
    pub pivot : (t : ℕ) → t < found → get_or pivots t 0 < n
    pub values : (t i : ℕ) → t < found → i < n → Mod (suc q) (entry rows t i) (combination v found (λ j. entry rows t (n + j)) i)
    pub beyond : (t j : ℕ) → t < found → t < j → n + j < 128 → entry rows t (n + j) ≡ 0
    pub one : (t : ℕ) → t < found → entry rows t (get_or pivots t 0) ≡ 1
    pub zero : (s t : ℕ) → s < t → t < found → entry rows t (get_or pivots s 0) ≡ 0
    pub free : (d : ℕ → ℕ) → ((t : ℕ) → t < found → Mod (suc q) (combination v found d (get_or pivots t 0)) 0) → (j : ℕ) → j < found → Mod (suc q) (d j) 0

  -- The row's values are φ plus the combination with its coefficients.
  pub record Working (φ : ℕ → ℕ) (w : List ℕ) : Type 0 where
    pub long : length w ≡ 128
    pub below : Below (suc q) w
    pub values : (i : ℕ) → i < n → Mod (suc q) (get_or w i 0) (φ i + combination v found (λ j. get_or w (n + j) 0) i)
    pub beyond : (j : ℕ) → found ≤ j → get_or w (n + j) 0 ≡ 0

-- the row is 0 at the first t pivots
abbrev pub ZeroAt : List ℕ → ℕ → List ℕ → Type 0
ZeroAt pivots t w = (s : ℕ) → s < t → get_or w (get_or pivots s 0) 0 ≡ 0

-- a residue that is 0 modulo p is 0
pub vanishes : {q : ℕ} (w : List ℕ) (i : ℕ) → Below (suc q) w → i < length w → Mod (suc q) (get_or w i 0) 0 → get_or w i 0 ≡ 0
vanishes w i b h e = small (b i h) (omega arith) e

-- Congruences over plain numbers. The value u of a row is f plus a combination C, and k times the value e of another row, the combination D, is added to it.
kept : {q u' u e D C' : ℕ} (k f C : ℕ) → Mod (suc q) u' (u + k * e) → Mod (suc q) u (f + C) → Mod (suc q) e D → Mod (suc q) C' (C + k * D) → Mod (suc q) u' (f + C')
kept k f C g h d c = g then lin (h plus scale k d plus flip c) 0 0 (omega arith)

-- the entry x meets the entry 1 and is cancelled; an entry 0 that meets 0 stays
gone : {q u' : ℕ} (x e : ℕ) → e ≡ 1 → Mod (suc q) u' (x + q * x * e) → Mod (suc q) u' 0
gone {q} x e h g = g then lin (rfl {x = 0}) 0 x (rw h (omega arith))

stays : {q u' : ℕ} (k u e : ℕ) → u ≡ 0 → e ≡ 0 → Mod (suc q) u' (u + k * e) → Mod (suc q) u' 0
stays k u e h z g = g then of (rw (h, z) (omega arith))

module _ (q n found : ℕ) (v : ℕ → ℕ → ℕ) (rows pivots : List ℕ) (P : PivotRows q n found v rows pivots) where
  -- pivot row t, and its entries
  abbrev part : ℕ → List ℕ
  part t = take 128 (drop (1152 * t) rows)

  part_at : (t i : ℕ) → i < 128 → get_or (part t) i 0 ≡ entry rows t i
  part_at t i l = get_or-take 128 (drop (1152 * t) rows) i 0 l ∙ get_or-drop (1152 * t) rows i 0

  module _ (φ : ℕ → ℕ) where
    -- the row u meets pivot row t
    module _ (t : ℕ) (h : t < found) (u : List ℕ) (W : Working q n found v φ u) (z : ZeroAt pivots t u) where
      abbrev x : ℕ
      x = get_or u (get_or pivots t 0) 0

      abbrev met : List ℕ
      met = cancelled (suc q) (part t) (get_or pivots t 0) u

      fits : length u ≡ length (part t)
      fits = W.long ∙ sym (row_long t rows (omega (arith, P.long_rows, P.room, P.most)))

      inside : (s : ℕ) → s < found → get_or pivots s 0 < length u
      inside s l = omega (arith, P.pivot s l, W.long, P.room, P.most)

      x_small : x ≤ suc q
      x_small = omega (arith, W.below (get_or pivots t 0) (inside t h))

      gained : (i : ℕ) → i < 128 → Mod (suc q) (get_or met i 0) (get_or u i 0 + q * x * entry rows t i)
      gained i l = subst (λ (e : ℕ). Mod (suc q) (get_or met i 0) (get_or u i 0 + q * x * e)) (part_at t i l) (cancelled_at q (part t) (get_or pivots t 0) u fits x_small i (rw W.long l))

      met_long : length met ≡ 128
      met_long = cancelled_length (suc q) (part t) (get_or pivots t 0) u fits ∙ W.long

      met_below : Below (suc q) met
      met_below = cancelled_below (suc q) (part t) (get_or pivots t 0) u fits (omega arith) W.below

      met_values : (i : ℕ) → i < n → Mod (suc q) (get_or met i 0) (φ i + combination v found (λ j. get_or met (n + j) 0) i)
      met_values i l =
          let m = P.most in
          let r = P.room in
          kept (q * x) (φ i) (combination v found (λ j. get_or u (n + j) 0) i) (gained i (omega arith)) (W.values i l) (P.values t i h l)
          (combination_cong v found (λ j k. gained (n + j) (omega arith)) i then of (combination_add v (λ j. get_or u (n + j) 0) (q * x) (λ j. entry rows t (n + j)) found i))

      met_beyond : (j : ℕ) → found ≤ j → get_or met (n + j) 0 ≡ 0
      met_beyond j l = go (dec_lt (n + j) 128)
        where
          go : Dec (n + j < 128) → get_or met (n + j) 0 ≡ 0
          go (yes k) =
              vanishes met (n + j) met_below (rw met_long k)
              (stays (q * x) (get_or u (n + j) 0) (entry rows t (n + j)) (W.beyond j l) (P.beyond t j h (omega arith) k) (gained (n + j) k))
          go (no k) = get_or-eq_default met 0 (omega (arith, met_long, k))

      met_zero : (s : ℕ) → s < suc t → get_or met (get_or pivots s 0) 0 ≡ 0
      met_zero s l = vanishes met (get_or pivots s 0) met_below (omega (arith, met_long, inside s (omega arith), W.long)) (go (dec_lt s t))
        where
          at_pivot : (r : ℕ) → r < found → Mod (suc q) (get_or met (get_or pivots r 0) 0) (get_or u (get_or pivots r 0) 0 + q * x * entry rows t (get_or pivots r 0))
          at_pivot r k = gained (get_or pivots r 0) (omega (arith, inside r k, W.long))

          go : Dec (s < t) → Mod (suc q) (get_or met (get_or pivots s 0) 0) 0
          go (yes k) = stays (q * x) _ _ (z s k) (P.zero s t k h) (at_pivot s (omega arith))
          go (no k) =
              let e : t ≡ s = omega (arith, k) in
              subst (λ (r : ℕ). Mod (suc q) (get_or met (get_or pivots r 0) 0) 0) e (gone x (entry rows t (get_or pivots t 0)) (P.one t h) (at_pivot t h))

      meets : Working q n found v φ met
      meets = record { long = met_long; below = met_below; values = met_values; beyond = met_beyond }

    -- the row w after the first t pivot rows
    module _ (w : List ℕ) (W : Working q n found v φ w) where
      both : (t : ℕ) → t ≤ found → Working q n found v φ (eliminated (suc q) rows pivots t w) × ZeroAt pivots t (eliminated (suc q) rows pivots t w)
      unfolding eliminated
      both zero h = (W, λ s l. absurd (not-suc-le-zero l))
      both (suc t) h =
          let b = both t (omega arith) in
          let u : List ℕ = eliminated (suc q) rows pivots t w in (meets t h u b.0 b.1, met_zero t h u b.0 b.1)

      pub eliminated_works : Working q n found v φ (eliminated (suc q) rows pivots found w)
      eliminated_works = (both found (omega arith)).0

      pub eliminated_zero : ZeroAt pivots found (eliminated (suc q) rows pivots found w)
      eliminated_zero = (both found (omega arith)).1
