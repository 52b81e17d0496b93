-- Elimination over the table of pivot rows does what meeting the pivots does to the front of each row, the values at the n points; the cancellations that it
-- makes are those counted.
use mathlib.Core.Path.{◌≡◌, refl, sym, ap, ap₂, ◌∙◌}
use mathlib.Core.Bool.{Bool, true, false, cond}
use mathlib.Core.List.{List, [], ◌∷◌, ◌++◌, zip_with}
use Prim.Native.Nat.{ℕ, zero, suc, ◌+◌, ◌*◌, ◌-◌, ◌<◌, ◌≤◌}
use native.Mathlib.Nat.{add-zero}
use native.Mathlib.Omega.{arith}
use lib.ListN.{length, get_or, take, drop}
use lib.Seq.{get_or-take, take-suc}
use lib.Dec.{eqb}
use borrow.Author.Tests.{eqb-true, eqb-false}
use Rattle.residue.specs.Vector.{Below, add_scaled}
use Rattle.elimination.specs.Elimination.{cancelled, eliminated, counted, cancellations}
use Rattle.residue.proofs.Congruence.{rfl, of, negative, ◌then◌, ◌plus◌, ◌times◌}
use Rattle.elimination.proofs.reducing.Eliminated.{cancel_none, cancel_some, eliminated_length, eliminated_below}
use Rattle.specification.specs.Cancellations.{Pivot, Meeting, meeting, less_times, meets, meets_all}

-- the pivots met, one more at the end
meets_snoc : (q : ℕ) (l : List Pivot) (v : Pivot) (s : Meeting) → meets_all q (l ++ (v ∷ [])) s ≡ meets q v (meets_all q l s)
unfolding meets_all
meets_snoc q [] v s = refl
meets_snoc q (u ∷ l) v s = meets_snoc q l v (meets q u s)

-- p - e in place of minus e
front_less : (q e n : ℕ) → e ≤ suc q → (w row : List ℕ) → take n (add_scaled (suc q) (suc q - e) w row) ≡ less_times q e (take n w) (take n row)
unfolding add_scaled less_times zip_with
front_less q e zero h w row = refl
front_less q e (suc n) h [] row = refl
front_less q e (suc n) h (x ∷ w) [] = refl
front_less q e (suc n) h (x ∷ w) (y ∷ row) =
    ap₂ (λ (z : ℕ) (l : List ℕ). z ∷ l) (rfl {x = x} plus (negative q e h times rfl {x = y} then of (turn e y))).same (front_less q e n h w row)
  where
    turn : (a b : ℕ) → q * a * b ≡ q * (a * b)
    turn a b = omega arith

-- The table holds the pivots: the front of row t is the column of pivot t, and the list of places has its point.
pub record RowsTabled (n : ℕ) (l : List Pivot) (rows pivots : List ℕ) : Type 0 where
  pub none : Pivot
  pub long : 1152 * length l ≤ length rows
  pub column : (t : ℕ) → t < length l → take n (take 128 (drop (1152 * t) rows)) ≡ (get_or l t none).column
  pub place : (t : ℕ) → t < length l → get_or pivots t 0 ≡ (get_or l t none).place
  pub inside : (t : ℕ) → t < length l → get_or pivots t 0 < n

module _ (q n : ℕ) (l : List Pivot) (rows pivots : List ℕ) (T : RowsTabled n l rows pivots) (w : List ℕ) (long : length w ≡ 128) (below : Below (suc q) w) (few : n ≤ 128) where
  -- the front of the row after t pivots, and the cancellations
  abbrev at : ℕ → Meeting
  at t = meeting (take n (eliminated (suc q) rows pivots t w)) (cancellations (suc q) rows pivots t w)

  turn : (t : ℕ) → t < length l → meets q (get_or l t T.none) (at t) ≡ at (suc t)
  unfolding meets eliminated cancellations counted
  turn t h = rw (sym (T.place t h), get_or-take n W j 0 (T.inside t h)) (go (eqb (get_or W j 0) 0) refl)
    where
      W : List ℕ
      W = eliminated (suc q) rows pivots t w

      j : ℕ
      j = get_or pivots t 0

      c : ℕ
      c = cancellations (suc q) rows pivots t w

      row : List ℕ
      row = take 128 (drop (1152 * t) rows)

      go : (b : Bool) → eqb (get_or W j 0) 0 ≡ b
          → cond b (meeting (take n W) c) (meeting (less_times q (get_or W j 0) (take n W) (get_or l t T.none).column) (c + 1)) ≡ meeting (take n (cancelled (suc q) row j W)) (c + cond b 0 1)
      go true e = ap₂ (λ (u : List ℕ) (k : ℕ). meeting u k) (ap (take n) (sym (cancel_none (suc q) row j W (eqb-true (get_or W j 0) 0 e)))) (sym (add-zero c))
      go false e =
          ap (λ (u : List ℕ). meeting u (c + 1))
          (ap (less_times q (get_or W j 0) (take n W)) (sym (T.column t h))
          ∙ sym (front_less q (get_or W j 0) n (omega (arith, eliminated_below (suc q) rows pivots w long (omega arith) below t (omega (arith, T.long)) j (omega (arith, T.inside t h, eliminated_length (suc q) rows pivots w long t (omega (arith, T.long)))))) W row)
          ∙ ap (take n) (sym (cancel_some (suc q) row j W (eqb-false (get_or W j 0) 0 e))))

  -- both after t pivots
  pub elimination_meets : (t : ℕ) → t ≤ length l → meets_all q (take t l) (meeting (take n w) 0) ≡ at t
  unfolding meets_all eliminated cancellations
  elimination_meets zero h = refl
  elimination_meets (suc t) h =
      ap (λ (r : List Pivot). meets_all q r (meeting (take n w) 0)) (take-suc l t T.none (omega arith))
      ∙ meets_snoc q (take t l) (get_or l t T.none) (meeting (take n w) 0)
      ∙ ap (meets q (get_or l t T.none)) (elimination_meets t (omega arith))
      ∙ turn t (omega arith)
