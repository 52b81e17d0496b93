-- A working row before it meets the pivot rows, and what it says when it is 0 at every pivot.
use mathlib.Core.Path.{◌≡◌, sym, subst, ap, ◌∙◌}
use mathlib.Core.List.{List, ◌++◌, map}
use Prim.Native.Nat.{ℕ, suc, ◌+◌, ◌*◌, ◌-◌, ◌%◌, ◌<◌, ◌≤◌}
use native.Mathlib.Nat.{mod-lt}
use native.Mathlib.Decide.{dec_lt}
use native.Mathlib.Omega.{arith}
use lib.ListN.{length, get_or, replicate, length-replicate, get_or-replicate, length-append, length-map, get_or-append, get_or-eq_default}
use lib.Seq.{ext_get_or, get_or-append-add}
use Rattle.residue.specs.Congruence.{Mod}
use Rattle.residue.specs.Vector.{Below}
use Rattle.elimination.specs.Elimination.{eliminated}
use Rattle.residue.specs.Layout.{fill, length_fill}
use Rattle.residue.proofs.Congruence.{of, flip, reduce, negative, ◌then◌, ◌plus◌, lin, small}
use Rattle.residue.proofs.vector.Vectors.{map_at}
use Rattle.residue.proofs.Layouts.{fill_at}
use Rattle.elimination.proofs.reducing.Combinations.{combination, combination_add, combination_zero}
use Rattle.elimination.proofs.reducing.PivotRows.{PivotRows, Working, ZeroAt, vanishes, eliminated_works, eliminated_zero}

-- the negative of each residue
abbrev pub negatives : ℕ → List ℕ → List ℕ
negatives q cs = map (λ x. (suc q - x) % suc q) cs

opposed : (q c w : ℕ) → c < suc q → w < suc q → Mod (suc q) (c + 1 * w) 0 → w ≡ (suc q - c) % suc q
opposed q c w hc hw e = small hw (mod-lt (suc q - c) (omega arith)) (lin e c 0 (omega arith) then flip (negative q c (omega arith)) then flip (reduce (suc q) (suc q - c)))

module _ (q n found : ℕ) (v : ℕ → ℕ → ℕ) where
  -- values and zeros behind them: no coefficient yet
  pub loaded : (φ : ℕ → ℕ) (vs : List ℕ) → n ≤ 128 → length vs ≡ n → Below (suc q) vs → ((i : ℕ) → i < n → Mod (suc q) (get_or vs i 0) (φ i)) → Working q n found v φ (fill 128 vs)
  loaded φ vs h l b e = record {
    long = length_fill 128 vs;
    below = λ i k. let j : i < 128 = omega (arith, length_fill 128 vs) in rw (fill_at 128 vs i j) (low i (dec_lt i n));
    values = λ i k.
        of (fill_at 128 vs i (omega arith))
        then e i k
        then lin (flip (combination_zero v {c = λ j. get_or (fill 128 vs) (n + j) 0} found (λ j m. of (behind j)) i)) 0 0 (omega arith);
    beyond = λ j k. behind j;
  }
    where
      low : (i : ℕ) → Dec (i < n) → get_or vs i 0 < suc q
      low i (yes k) = b i (omega arith)
      low i (no k) = let z : get_or vs i 0 ≡ 0 = get_or-eq_default vs 0 (omega (arith, k)) in omega arith

      behind : (j : ℕ) → get_or (fill 128 vs) (n + j) 0 ≡ 0
      behind j = go (dec_lt (n + j) 128)
        where
          go : Dec (n + j < 128) → get_or (fill 128 vs) (n + j) 0 ≡ 0
          go (yes k) = fill_at 128 vs (n + j) k ∙ get_or-eq_default vs 0 (omega arith)
          go (no k) = get_or-eq_default (fill 128 vs) 0 (omega (arith, k, length_fill 128 vs))

  module _ (rows pivots : List ℕ) (P : PivotRows q n found v rows pivots) where
    -- the row is 0 at every pivot, and φ is a combination
    module _ (φ : ℕ → ℕ) (w : List ℕ) (W : Working q n found v φ w) (z : ZeroAt pivots found w) (c : ℕ → ℕ) (is : (i : ℕ) → i < n → Mod (suc q) (combination v found c i) (φ i)) where
      -- then the row is the combination with the coefficients c + w
      whole : (i : ℕ) → i < n → Mod (suc q) (combination v found (λ j. c j + 1 * get_or w (n + j) 0) i) (get_or w i 0)
      whole i h = of (combination_add v c 1 (λ j. get_or w (n + j) 0) found i) then lin (is i h plus flip (W.values i h)) 0 0 (omega arith)

      pub opposite : (j : ℕ) → j < found → Mod (suc q) (c j + 1 * get_or w (n + j) 0) 0
      opposite = P.free (λ j. c j + 1 * get_or w (n + j) 0) (λ t h. whole (get_or pivots t 0) (P.pivot t h) then of (z t h))

      pub nowhere : (i : ℕ) → i < n → get_or w i 0 ≡ 0
      nowhere i h =
          vanishes w i W.below (omega (arith, W.long, P.most)) (flip (whole i h) then combination_zero v {c = λ j. c j + 1 * get_or w (n + j) 0} found opposite i)

    -- not 0 at a point: no combination has the values φ
    pub no_combination : (φ : ℕ → ℕ) (w : List ℕ) → Working q n found v φ w → ZeroAt pivots found w → (i : ℕ) → i < n → (get_or w i 0 ≡ 0 → ⊥)
        → (c : ℕ → ℕ) → ((k : ℕ) → k < n → Mod (suc q) (combination v found c k) (φ k)) → ⊥
    no_combination φ w W z i h e c is = e (nowhere φ w W z c is i h)

    -- the row is its coefficients: the negatives of those of the combination
    module _ (φ : ℕ → ℕ) (cs : List ℕ) (l : length cs ≡ found) (b : Below (suc q) cs) (is : (i : ℕ) → i < n → Mod (suc q) (combination v found (λ j. get_or cs j 0) i) (φ i)) where
      abbrev due : List ℕ
      due = replicate n 0 ++ negatives q cs

      zeros : length (replicate {A = ℕ} n 0) ≡ n
      zeros = length-replicate n 0

      pub solved : (w : List ℕ) → Working q n found v φ w → ZeroAt pivots found w → w ≡ fill 128 due
      solved w W z = ext_get_or 0 w (fill 128 due) (W.long ∙ sym (length_fill 128 due)) (λ i h. go i (dec_lt i n) (dec_lt i (n + found)) ∙ sym (fill_at 128 due i (omega (arith, W.long))))
        where
          coefficient : (j : ℕ) → j < found → get_or w (n + j) 0 ≡ get_or due (n + j) 0
          coefficient j h =
              opposed q (get_or cs j 0) (get_or w (n + j) 0) (b j (omega arith)) (W.below (n + j) (omega (arith, W.long, P.most, P.room)))
              (opposite φ w W z (λ j. get_or cs j 0) is j h)
              ∙ sym (map_at (λ x. (suc q - x) % suc q) cs 0 0 j (omega arith))
              ∙ sym (get_or-append-add (replicate n 0) (negatives q cs) j 0)
              ∙ ap (λ (k : ℕ). get_or due (k + j) 0) zeros

          go : (i : ℕ) → Dec (i < n) → Dec (i < n + found) → get_or w i 0 ≡ get_or due i 0
          go i (yes h) d =
              nowhere φ w W z (λ j. get_or cs j 0) is i h
              ∙ sym (get_or-replicate {A = ℕ} n i 0 0 h)
              ∙ sym (get_or-append (replicate n 0) (negatives q cs) 0 i (omega (arith, zeros)))
          go i (no h) (yes k) =
              let e : n + (i - n) ≡ i = omega (arith, h) in
              subst (λ (j : ℕ). get_or w j 0 ≡ get_or due j 0) e (coefficient (i - n) (omega (arith, h)))
          go i (no h) (no k) =
              let e : n + (i - n) ≡ i = omega (arith, h) in
              let m : length due ≤ i = simp (length-append, zeros, length-map) (omega (arith, k)) in
              subst (λ (j : ℕ). get_or w j 0 ≡ 0) e (W.beyond (i - n) (omega (arith, h, k))) ∙ sym (get_or-eq_default due 0 m)

      pub solves : (vs : List ℕ) → length vs ≡ n → Below (suc q) vs → ((i : ℕ) → i < n → Mod (suc q) (get_or vs i 0) (φ i))
          → eliminated (suc q) rows pivots found (fill 128 vs) ≡ fill 128 due
      solves vs h low e =
          let W = loaded φ vs (omega (arith, P.most)) h low e in
          solved _ (eliminated_works q n found v rows pivots P φ (fill 128 vs) W) (eliminated_zero q n found v rows pivots P φ (fill 128 vs) W)
