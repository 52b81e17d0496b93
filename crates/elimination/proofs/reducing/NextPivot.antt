-- The pivot rows before any monomial is found, and one pivot row more: a working row that is 0 at every pivot but not at a further point.
use mathlib.Core.Path.{◌≡◌, sym, subst, ap, ◌∙◌}
use mathlib.Core.List.{List}
use Prim.Native.Nat.{ℕ, suc, ◌+◌, ◌*◌, ◌-◌, ◌<◌, ◌≤◌}
use native.Mathlib.Nat.{not-suc-le-zero, mul_comm}
use native.Mathlib.Decide.{dec_lt}
use native.Mathlib.Omega.{arith}
use lib.ListN.{length, get_or, take, drop, set, length-set}
use lib.Seq.{get_or-set_same, get_or-set_other}
use Rattle.residue.specs.Congruence.{Mod}
use Rattle.residue.specs.Vector.{Below}
use Rattle.elimination.specs.Rows.{pivot_row}
use Rattle.residue.specs.Layout.{with_place}
use Rattle.elimination.specs.Elimination.{multiples_of, Multiplied}
use Rattle.residue.proofs.Congruence.{rfl, of, flip, ◌then◌, ◌plus◌, scale, zero_right, lin, small}
use Rattle.elimination.proofs.rows.Kept.{pivot_row_length, pivot_row_below, pivot_row_at}
use Rattle.residue.proofs.Replaced.{place_length, place_before, place_here}
use Rattle.elimination.proofs.reducing.Multiples.{block_length, block_front, block_put, block_kept}
use Rattle.elimination.proofs.reducing.Combinations.{combination, combination_cong, combination_add, combination_zero, combination_scale}
use Rattle.elimination.proofs.reducing.PivotRows.{PivotRows, Working, ZeroAt, entry}

pub no_rows : (q n : ℕ) (v : ℕ → ℕ → ℕ) (rows pivots : List ℕ) → n ≤ 64 → length rows ≡ 73728 → length pivots ≡ 64 → PivotRows q n 0 v rows pivots
no_rows q n v rows pivots m r l = record {
  long_rows = r;
  long_pivots = l;
  most = m;
  room = omega arith;
  multiples = λ t h. absurd (not-suc-le-zero h);
  pivot = λ t h. absurd (not-suc-le-zero h);
  values = λ t i h. absurd (not-suc-le-zero h);
  beyond = λ t j h. absurd (not-suc-le-zero h);
  one = λ t h. absurd (not-suc-le-zero h);
  zero = λ s t k h. absurd (not-suc-le-zero h);
  free = λ d e j h. absurd (not-suc-le-zero h);
}

-- what holds below k and of k holds below suc k
each : {Q : ℕ → Type 0} (k : ℕ) → ((t : ℕ) → t < k → Q t) → Q k → (t : ℕ) → t < suc k → Q t
each {Q} k f g t h = go (dec_lt t k)
  where
    go : Dec (t < k) → Q t
    go (yes l) = f t l
    go (no l) = let e : k ≡ t = omega (arith, l) in subst Q e g

-- Congruences over plain numbers. The row's value u is f plus the combination C of the monomials before; f is y, the value of the row's own monomial; D is the
-- coefficient of that monomial in a combination whose other part is E.
made : {q r u f y C' : ℕ} (c C : ℕ) → Mod (suc q) r (c * u) → Mod (suc q) u (f + C) → Mod (suc q) f y → Mod (suc q) C' (c * C) → (k : ℕ) → Mod (suc q) k c
    → Mod (suc q) r (C' + k * y)
made {y = y} c C r u f e k h = r then lin (scale c (u then f plus rfl {x = C}) plus flip e plus scale y (flip h)) 0 0 (omega arith)

-- at a pivot, where the row is 0: the other part less D times the row's coefficients
less : {q u f y : ℕ} (D C E : ℕ) → u ≡ 0 → Mod (suc q) u (f + C) → Mod (suc q) f y → Mod (suc q) (E + D * y) 0 → Mod (suc q) (E + q * D * C) 0
less {q} {y = y} D C E z u f h = lin (h plus scale (q * D) (flip (of (sym z) then u then f plus rfl {x = C}))) (D * y) 0 (omega arith)

-- at the new pivot, where the row times c is 1
nothing : {q u f y : ℕ} (D C E c : ℕ) → Mod (suc q) (u * c) 1 → Mod (suc q) u (f + C) → Mod (suc q) f y → Mod (suc q) (E + D * y) 0 → Mod (suc q) (E + q * D * C) 0 → Mod (suc q) D 0
nothing {u = u} {y = y} D C E c i w f h k =
    lin (flip (scale D i) plus scale (D * c) (w then f plus rfl {x = C}) plus scale c (h plus flip k)) 0 (c * D * C) (omega arith)

rest : {q D : ℕ} (d w : ℕ) → Mod (suc q) (d + q * D * w) 0 → Mod (suc q) D 0 → Mod (suc q) d 0
rest {q} {D} d w h z = lin (h plus flip (scale (q * w) z)) 0 0 (omega arith)

padded : {q C : ℕ} (e y : ℕ) → e ≡ 0 → Mod (suc q) C (C + e * y)
padded e y z = of (rw z (omega arith))

module _ (q n found : ℕ) (v : ℕ → ℕ → ℕ) (rows pivots : List ℕ) (P : PivotRows q n found v rows pivots) (two : 2 ≤ suc q) (more : found < n) where
  -- the row w of the next monomial, 0 at every pivot; at is the new pivot's point, and c the inverse of the row's value there
  module _ (φ : ℕ → ℕ) (w : List ℕ) (W : Working q n found v φ w) (z : ZeroAt pivots found w) (own : (i : ℕ) → i < n → Mod (suc q) (φ i) (v found i))
      (at : ℕ) (inside : at < n) (c : ℕ) (inverse : Mod (suc q) (get_or w at 0 * c) 1) where
    abbrev made_row : List ℕ
    made_row = pivot_row (suc q) (n + found) c w

    abbrev block : List ℕ
    block = multiples_of (suc q) made_row

    abbrev rows' : List ℕ
    rows' = with_place 1152 found block rows

    abbrev pivots' : List ℕ
    pivots' = set pivots found at

    -- the old coefficients of w
    abbrev coefficients : ℕ → ℕ
    coefficients j = get_or w (n + j) 0

    own_inside : n + found < length w
    own_inside = omega (arith, W.long, P.most)

    fits : 1152 * found + 1152 ≤ length rows
    fits = omega (arith, P.long_rows, P.most)

    made_long : length made_row ≡ 128
    made_long = pivot_row_length (suc q) (n + found) c w own_inside ∙ W.long

    made_below : Below (suc q) made_row
    made_below = pivot_row_below (suc q) (n + found) c w own_inside two W.below

    block_long : length block ≡ 1152
    block_long = block_length (suc q) made_row made_long

    -- its entries
    new_at : (i : ℕ) → i < 128 → entry rows' found i ≡ get_or made_row i 0
    new_at i h = place_here 1152 found block rows fits block_long i (omega arith) ∙ block_front (suc q) made_row made_long made_below i h

    scaled_entry : (i : ℕ) → (n + found < i → get_or w i 0 ≡ 0) → Mod (suc q) (get_or made_row i 0) (c * get_or (set w (n + found) 1) i 0)
    scaled_entry i h = pivot_row_at (suc q) (n + found) c w own_inside i h

    past : (i : ℕ) → n + found < i → get_or w i 0 ≡ 0
    past i h = let e : n + (i - n) ≡ i = omega arith in subst (λ (k : ℕ). get_or w k 0 ≡ 0) e (W.beyond (i - n) (omega arith))

    new_entry : (i : ℕ) → i < 128 → (i ≡ n + found → ⊥) → Mod (suc q) (entry rows' found i) (c * get_or w i 0)
    new_entry i h ne = of (new_at i h) then scaled_entry i (past i) then of (ap (λ (x : ℕ). c * x) (get_or-set_other w (n + found) i 1 0 ne))

    new_own : Mod (suc q) (entry rows' found (n + found)) c
    new_own =
        of (new_at (n + found) (omega (arith, W.long, own_inside)))
        then scaled_entry (n + found) (past (n + found))
        then of (ap (λ (x : ℕ). c * x) (get_or-set_same w (n + found) 1 0 own_inside) ∙ omega arith)

    -- the old rows and pivots
    old : (t i : ℕ) → t < found → i < 128 → entry rows' t i ≡ entry rows t i
    old t i h k = place_before 1152 found block rows fits block_long (1152 * t + i) (omega arith)

    old_pivot : (t : ℕ) → t < found → get_or pivots' t 0 ≡ get_or pivots t 0
    old_pivot t h = get_or-set_other pivots found t at 0 (λ e. omega arith)

    new_pivot : get_or pivots' found 0 ≡ at
    new_pivot = get_or-set_same pivots found at 0 (omega (arith, P.long_pivots, P.most))

    new_small : (i : ℕ) → i < 128 → entry rows' found i < suc q
    new_small i h = rw (new_at i h) (made_below i (rw made_long h))

    new_zero : (i : ℕ) → i < 128 → (i ≡ n + found → ⊥) → get_or w i 0 ≡ 0 → entry rows' found i ≡ 0
    new_zero i h ne e = small (new_small i h) (omega arith) (new_entry i h ne then zero_right c (of e))

    values : (t i : ℕ) → t < suc found → i < n → Mod (suc q) (entry rows' t i) (combination v (suc found) (λ j. entry rows' t (n + j)) i)
    values t i h l = each {Q = λ t. Mod (suc q) (entry rows' t i) (combination v (suc found) (λ j. entry rows' t (n + j)) i)} found before new t h
      where
        m : n + found < 128
        m = omega (arith, P.most)

        before : (t : ℕ) → t < found → Mod (suc q) (entry rows' t i) (combination v (suc found) (λ j. entry rows' t (n + j)) i)
        before t k =
            of (old t i k (omega arith)) then P.values t i k l
            then combination_cong v found (λ j b. of (sym (old t (n + j) k (omega arith)))) i
            then padded _ (v found i) (old t (n + found) k m ∙ P.beyond t found k k m)

        new : Mod (suc q) (entry rows' found i) (combination v (suc found) (λ j. entry rows' found (n + j)) i)
        new =
            made c (combination v found coefficients i) (new_entry i (omega arith) (λ e. omega arith)) (W.values i l) (own i l)
            (combination_cong v found (λ j b. new_entry (n + j) (omega arith) (λ e. omega arith)) i then of (combination_scale v c coefficients found i))
            (entry rows' found (n + found)) new_own

    beyond : (t j : ℕ) → t < suc found → t < j → n + j < 128 → entry rows' t (n + j) ≡ 0
    beyond t j h =
        each {Q = λ t. t < j → n + j < 128 → entry rows' t (n + j) ≡ 0} found
        (λ t k l m. old t (n + j) k m ∙ P.beyond t j k l m)
        (λ l m. new_zero (n + j) m (λ e. omega arith) (past (n + j) (omega arith)))
        t h

    multiplied : Multiplied (suc q) (suc found) rows'
    multiplied = each {Q = λ t. take 1152 (drop (1152 * t) rows') ≡ multiples_of (suc q) (take 128 (drop (1152 * t) rows'))} found
        (λ t h. block_kept (suc q) found block rows fits block_long t h (P.multiples t h))
        (block_put (suc q) made_row made_long made_below found rows fits)

    pivot : (t : ℕ) → t < suc found → get_or pivots' t 0 < n
    pivot = each {Q = λ t. get_or pivots' t 0 < n} found (λ t k. rw (old_pivot t k) (P.pivot t k)) (rw new_pivot inside)

    one : (t : ℕ) → t < suc found → entry rows' t (get_or pivots' t 0) ≡ 1
    one = each {Q = λ t. entry rows' t (get_or pivots' t 0) ≡ 1} found
        (λ t k. rw (old_pivot t k) (old t (get_or pivots t 0) k (omega (arith, P.pivot t k, P.most)) ∙ P.one t k))
        (rw new_pivot
        (small (new_small at (omega (arith, P.most))) two
        (new_entry at (omega (arith, P.most)) (λ e. omega arith) then of (mul_comm c (get_or w at 0)) then inverse)))

    zeros : (s t : ℕ) → s < t → t < suc found → entry rows' t (get_or pivots' s 0) ≡ 0
    zeros s t l h =
        each {Q = λ t. s < t → entry rows' t (get_or pivots' s 0) ≡ 0} found
        (λ t k l. rw (old_pivot s (omega arith)) (old t (get_or pivots s 0) k (omega (arith, P.pivot s (omega arith), P.most)) ∙ P.zero s t l k))
        (λ l. rw (old_pivot s l) (new_zero (get_or pivots s 0) (omega (arith, P.pivot s l, P.most)) (λ e. omega (arith, P.pivot s l)) (z s l)))
        t h l

    free : (d : ℕ → ℕ) → ((t : ℕ) → t < suc found → Mod (suc q) (combination v (suc found) d (get_or pivots' t 0)) 0) → (j : ℕ) → j < suc found → Mod (suc q) (d j) 0
    free d h = each {Q = λ j. Mod (suc q) (d j) 0} found (λ j k. rest (d j) (coefficients j) (others j k) last) last
      where
        -- the combination less as many times the row as takes its monomial away
        reduced : ℕ → ℕ
        reduced j = d j + q * d found * coefficients j

        apart : (i : ℕ) → Mod (suc q) (combination v found reduced i) (combination v found d i + q * d found * combination v found coefficients i)
        apart i = of (combination_add v d (q * d found) coefficients found i)

        others : (j : ℕ) → j < found → Mod (suc q) (reduced j) 0
        others = P.free reduced (λ t k.
            let a = P.pivot t k in
            apart (get_or pivots t 0)
            then less (d found) (combination v found coefficients (get_or pivots t 0)) (combination v found d (get_or pivots t 0)) (z t k) (W.values (get_or pivots t 0) a) (own (get_or pivots t 0) a)
            (subst (λ (i : ℕ). Mod (suc q) (combination v (suc found) d i) 0) (old_pivot t k) (h t (omega arith))))

        last : Mod (suc q) (d found) 0
        last =
            nothing (d found) (combination v found coefficients at) (combination v found d at) c inverse (W.values at inside) (own at inside)
            (subst (λ (i : ℕ). Mod (suc q) (combination v (suc found) d i) 0) new_pivot (h found (omega arith)))
            (flip (apart at) then combination_zero v {c = reduced} found others at)

    pub next_pivot : PivotRows q n (suc found) v rows' pivots'
    next_pivot = record {
      long_rows = place_length 1152 found block rows fits block_long ∙ P.long_rows;
      long_pivots = length-set pivots found at ∙ P.long_pivots;
      most = P.most;
      room = more;
      multiples = multiplied;
      pivot = pivot;
      values = values;
      beyond = beyond;
      one = one;
      zero = zeros;
      free = free;
    }
