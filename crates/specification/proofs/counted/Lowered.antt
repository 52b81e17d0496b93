-- The points that are left when one is lowered: where its count was 1, it is gone.
use mathlib.Core.Path.{◌≡◌, refl, ap}
use mathlib.Core.Logic.{inl, inr}
use mathlib.Core.Bool.{Bool, true, false, cond}
use mathlib.Core.List.{List, [], ◌∷◌}
use Prim.Native.Nat.{ℕ, suc, ◌-◌, ◌≤◌}
use native.Mathlib.Omega.{arith}
use lib.ListN.{length}
use lib.Dec.{T, eqb, leb}
use borrow.Author.Tests.{eq-eqb, eqb-false, le-leb, leb-true}
use Rattle.residue.specs.Lists.{Among, every, same_list}
use Rattle.residue.proofs.Tests.{of_true, true_of, and_left, and_right, and_both}
use Rattle.specification.specs.declared.settings.Settings.{Settings}
use Rattle.specification.specs.Levels.{no_repeat}
use Rattle.specification.specs.Counted.{Counted, points_of, counts_of, is_count, lowered, count_of}
use Rattle.specification.proofs.agreement.Points.{once_of, of_once}
use Rattle.specification.proofs.counted.Gathered.{Entries}

module _ (P : List ℕ) where
  -- each stood among the points before
  left_of : (L : Counted) (Q : List ℕ) → Among Q (points_of (lowered P L)) → Among Q (points_of L)
  unfolding lowered
  left_of (q ∷ L) Q m = go (same_list P q.0) (eqb (q.1 - 1) 0) m (λ z. left_of L Q z)
    where
      go : (b c : Bool) → Among Q (points_of (cond b (cond c L ((q.0, q.1 - 1) ∷ L)) (q ∷ lowered P L))) → (Among Q (points_of (lowered P L)) → Among Q (points_of L)) → Among Q (q.0 ∷ points_of L)
      go true true m f = inr m
      go true false m f = m
      go false c (inl e) f = inl e
      go false c (inr z) f = inr (f z)
  left_of [] Q m = elim m [ ]

  left_once : (L : Counted) → T (no_repeat (points_of L)) → T (no_repeat (points_of (lowered P L)))
  unfolding lowered
  left_once [] t = t
  left_once (q ∷ L) t = go (same_list P q.0) (eqb (q.1 - 1) 0) (left_once L (once_of (points_of L) q.0 t).1)
    where
      go : (b c : Bool) → T (no_repeat (points_of (lowered P L))) → T (no_repeat (points_of (cond b (cond c L ((q.0, q.1 - 1) ∷ L)) (q ∷ lowered P L))))
      go true true f = (once_of (points_of L) q.0 t).1
      go true false f = t
      go false c f = of_once (points_of (lowered P L)) q.0 (λ Q z. (once_of (points_of L) q.0 t).0 Q (left_of L Q z)) f

  left_length : (L : Counted) → length (points_of (lowered P L)) ≤ length (points_of L)
  unfolding lowered
  left_length [] = omega arith
  left_length (q ∷ L) = go (same_list P q.0) (eqb (q.1 - 1) 0) (left_length L)
    where
      go : (b c : Bool) → length (points_of (lowered P L)) ≤ length (points_of L) → length (points_of (cond b (cond c L ((q.0, q.1 - 1) ∷ L)) (q ∷ lowered P L))) ≤ suc (length (points_of L))
      go true true f = omega arith
      go true false f = omega arith
      go false c f = omega arith

  -- a point whose count was 1 is gone
  pub left_one : (L : Counted) → count_of P L ≡ 1 → suc (length (lowered P L)) ≡ length L
  unfolding lowered count_of
  left_one [] e = absurd (omega arith)
  left_one (q ∷ L) e = go (same_list P q.0) e (λ f. left_one L f)
    where
      go : (b : Bool) → cond b q.1 (count_of P L) ≡ 1 → (count_of P L ≡ 1 → suc (length (lowered P L)) ≡ length L)
          → suc (length (cond b (cond (eqb (q.1 - 1) 0) L ((q.0, q.1 - 1) ∷ L)) (q ∷ lowered P L))) ≡ suc (length L)
      go true e f = rw (eq-eqb (q.1 - 1) 0 (omega arith)) refl
      go false e f = ap suc (f e)

  -- a count that is lowered and not 0 is still one
  still : (k : ℕ) → T (is_count k) → eqb (k - 1) 0 ≡ false → T (is_count (k - 1))
  unfolding is_count
  still k h e =
      let z = eqb-false (k - 1) 0 e in
      let u = leb-true k 255 (true_of _ (and_right (leb 1 k) (leb k 255) h)) in
      and_both (leb 1 (k - 1)) (leb (k - 1) 255) (of_true (le-leb 1 (k - 1) (omega (arith, z)))) (of_true (le-leb (k - 1) 255 (omega arith)))

  left_counts : (L : Counted) → T (every is_count (counts_of L)) → T (every is_count (counts_of (lowered P L)))
  unfolding lowered
  left_counts [] h = tt
  left_counts (q ∷ L) h = go (same_list P q.0) (eqb (q.1 - 1) 0) refl (left_counts L (and_right (is_count q.1) (every is_count (counts_of L)) h))
    where
      here : T (is_count q.1)
      here = and_left (is_count q.1) (every is_count (counts_of L)) h

      behind : T (every is_count (counts_of L))
      behind = and_right (is_count q.1) (every is_count (counts_of L)) h

      go : (b c : Bool) → eqb (q.1 - 1) 0 ≡ c → T (every is_count (counts_of (lowered P L)))
          → T (every is_count (counts_of (cond b (cond c L ((q.0, q.1 - 1) ∷ L)) (q ∷ lowered P L))))
      go true true e f = behind
      go true false e f = and_both (is_count (q.1 - 1)) (every is_count (counts_of L)) (still q.1 here e) behind
      go false c e f = and_both (is_count q.1) (every is_count (counts_of (lowered P L))) here f

  pub entries_lowered : (s : Settings) (L : Counted) → Entries s L → Entries s (lowered P L)
  entries_lowered s L h = record {
    points = record {
      points = λ Q q. h.points.points Q (left_of L Q q);
      once = left_once L h.points.once;
      few = omega (arith, left_length L, h.points.few);
    };
    counts = left_counts L h.counts;
  }
