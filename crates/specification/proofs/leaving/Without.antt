-- The points without a variable, with their counts: who they are, in which order, and how often each is counted.
use mathlib.Core.Path.{◌≡◌, refl, sym, ◌∙◌, ap, subst}
use mathlib.Core.Bool.{Bool, true, false, cond}
use mathlib.Core.Logic.{inr, ◌↔◌}
use mathlib.Core.List.{List, [], ◌∷◌, ◌++◌, map, map-append}
use Prim.Native.Nat.{ℕ, zero, suc, ◌+◌, ◌-◌, ◌*◌, ◌%◌, ◌≤◌, ◌<◌}
use native.Mathlib.Omega.{arith}
use lib.ListN.{length, replicate, length-map, length-append}
use lib.Dec.{T, leb, ltb}
use borrow.Author.Tests.{leb-true, le-ltb}
use Rattle.residue.specs.Lists.{Among, every, some, sum_over, same_list}
use Rattle.residue.proofs.Tests.{true_of, and_left, and_right}
use Rattle.monomial.specs.Insert.{removed_at}
use Rattle.monomial.proofs.insert.Tables.{map_removed, removed_long}
use Rattle.specification.specs.declared.settings.Settings.{Settings}
use Rattle.specification.specs.Levels.{no_repeat}
use Rattle.specification.specs.Counted.{Counted, points_of, counts_of, entered, entered_all, gathered, overfull, count_of}
use Rattle.specification.proofs.ideal.Lists.{among_map, map_among, snoc_in}
use Rattle.specification.specs.Points.{IsPoint}
use Rattle.specification.proofs.counted.Entered.{Positive}
use Rattle.specification.proofs.counted.Gathered.{Entries, Entering, there, new, entering, positive_of, among_gathered, count_gathered, entries_gathered}
use Rattle.specification.specs.LeaveOut.{repeated, without_variable, fewer}
use Rattle.specification.proofs.leaving.Repeated.{among_repeated, sum_repeated, sum_multiset, times_repeated, times_map}

-- Who they are.
pub without_members : (k : ℕ) (L : Counted) → Positive L → (Q : List ℕ) → Among Q (points_of (without_variable k L)) ↔ ((P : List ℕ) × Among P (points_of L) × (Q ≡ removed_at k P))
unfolding without_variable
without_members k L h Q = (
  (λ mem. let w = among_map (removed_at k) (repeated L) Q ((among_gathered (map (removed_at k) (repeated L)) Q).0 mem) in (w.0, (among_repeated L h w.0).0 w.1, w.2)),
  λ w. (among_gathered (map (removed_at k) (repeated L)) Q).1
      (subst (λ (R : List ℕ). Among R (map (removed_at k) (repeated L))) (sym w.2) (map_among (removed_at k) (repeated L) w.0 ((among_repeated L h w.0).1 w.1))),
)

-- 'their counts are added'
pub without_counts : (k : ℕ) (L : Counted) (Q : List ℕ) → count_of Q (without_variable k L) ≡ sum_over (λ q. cond (same_list Q (removed_at k q.0)) q.1 0) L
unfolding without_variable
without_counts k L Q =
    count_gathered Q (map (removed_at k) (repeated L)) ∙ times_map (removed_at k) Q (repeated L) ∙ sum_repeated (λ P. cond (same_list Q (removed_at k P)) 1 0) L ∙ go L
  where
    one : (b : Bool) (c : ℕ) → c * cond b 1 0 ≡ cond b c 0
    one true c = omega arith
    one false c = omega arith

    go : (K : Counted) → sum_over (λ q. q.1 * cond (same_list Q (removed_at k q.0)) 1 0) K ≡ sum_over (λ q. cond (same_list Q (removed_at k q.0)) q.1 0) K
    go [] = refl
    go (q ∷ K) = omega (arith, one (same_list Q (removed_at k q.0)) q.1, go K)

-- equal multisets: the counts are the same
pub without_agree : (k : ℕ) (L K : Counted) → T (no_repeat (points_of L)) → T (no_repeat (points_of K)) → ((P : List ℕ) → count_of P L ≡ count_of P K)
    → (Q : List ℕ) → count_of Q (without_variable k L) ≡ count_of Q (without_variable k K)
unfolding without_variable
without_agree k L K t u same Q =
    count_gathered Q (map (removed_at k) (repeated L)) ∙ times_map (removed_at k) Q (repeated L)
    ∙ sum_multiset (λ P. cond (same_list Q (removed_at k P)) 1 0) (repeated L) (repeated K) (λ P. times_repeated L t P ∙ same P ∙ sym (times_repeated K u P))
    ∙ sym (count_gathered Q (map (removed_at k) (repeated K)) ∙ times_map (removed_at k) Q (repeated K))

-- In which order: 'at the place of the first'. Entering depends on the points alone, and a point that is there leaves them as they are.
entered_points : (P : List ℕ) (L K : Counted) → points_of L ≡ points_of K → points_of (entered P L) ≡ points_of (entered P K)
entered_points P L K e = go (entering P L) (entering P K)
  where
    go : Entering P L → Entering P K → points_of (entered P L) ≡ points_of (entered P K)
    go (there m f) (there n g) = f ∙ e ∙ sym g
    go (there m f) (new n g) = absurd (n (subst (Among P) e m))
    go (new m f) (there n g) = absurd (m (subst (Among P) (sym e) n))
    go (new m f) (new n g) = f ∙ ap (λ (S : List (List ℕ)). S ++ (P ∷ [])) e ∙ sym g

entered_stays : (P : List ℕ) (L : Counted) → Among P (points_of L) → points_of (entered P L) ≡ points_of L
entered_stays P L mem = go (entering P L)
  where
    go : Entering P L → points_of (entered P L) ≡ points_of L
    go (there m f) = f
    go (new n f) = absurd (n mem)

pub entered_has : (P : List ℕ) (L : Counted) → Among P (points_of (entered P L))
entered_has P L = go (entering P L)
  where
    go : Entering P L → Among P (points_of (entered P L))
    go (there m f) = subst (Among P) (sym f) m
    go (new n f) = subst (Among P) (sym f) (snoc_in (points_of L) P P (inr refl))

all_stays : (f : List ℕ → List ℕ) (P : List ℕ) (c : ℕ) (L : Counted) → Among (f P) (points_of L) → points_of (entered_all (map f (replicate c P)) L) ≡ points_of L
unfolding entered_all
all_stays f P zero L mem = refl
all_stays f P (suc c) L mem = let e = entered_stays (f P) L mem in all_stays f P c (entered (f P) L) (subst (Among (f P)) (sym e) mem) ∙ e

pub all_append : (A B : List (List ℕ)) (L : Counted) → entered_all (A ++ B) L ≡ entered_all B (entered_all A L)
unfolding entered_all
all_append [] B L = refl
all_append (P ∷ A) B L = all_append A B (entered P L)

all_points : (f : List ℕ → List ℕ) (L : Counted) → Positive L → (G H : Counted) → points_of G ≡ points_of H
    → points_of (entered_all (map f (repeated L)) G) ≡ points_of (entered_all (map f (points_of L)) H)
unfolding entered_all repeated
all_points f [] h G H e = e
all_points f ((P, zero) ∷ L) h G H e = absurd (let k = leb-true 1 0 (true_of _ (and_left (leb 1 0) (every (leb 1) (counts_of L)) h)) in omega arith)
all_points f ((P, suc c) ∷ L) h G H e =
    ap (λ (S : List (List ℕ)). points_of (entered_all S (entered (f P) G))) (map-append f (replicate c P) (repeated L))
    ∙ ap points_of (all_append (map f (replicate c P)) (map f (repeated L)) (entered (f P) G))
    ∙ all_points f L (and_right (leb 1 (suc c)) (every (leb 1) (counts_of L)) h) (entered_all (map f (replicate c P)) (entered (f P) G)) (entered (f P) H)
    (all_stays f P c (entered (f P) G) (entered_has (f P) G) ∙ entered_points (f P) G H e)

pub without_points : (k : ℕ) (L : Counted) → Positive L → points_of (without_variable k L) ≡ points_of (gathered (map (removed_at k) (points_of L)))
unfolding without_variable gathered
without_points k L h = all_points (removed_at k) L h [] [] refl

-- they are not more than before
all_length : (S : List (List ℕ)) (L : Counted) → length (points_of (entered_all S L)) ≤ length S + length (points_of L)
unfolding entered_all
all_length [] L = omega arith
all_length (P ∷ S) L = omega (arith, all_length S (entered P L), one (entering P L))
  where
    one : Entering P L → length (points_of (entered P L)) ≤ 1 + length (points_of L)
    one (there m f) = omega (arith, ap length f)
    one (new n f) = omega (arith, ap length f, length-append (points_of L) (P ∷ []))

pub without_few : (k : ℕ) (L : Counted) → Positive L → length (without_variable k L) ≤ length L
unfolding gathered
without_few k L h = omega (arith, length-map (without_variable k L) (λ q. q.0), ap length (without_points k L h), all_length (map (removed_at k) (points_of L)) [], length-map (points_of L) (removed_at k), length-map L (λ q. q.0))

-- One place out of a point.
pub left_point : (s : Settings) (v k : ℕ) (P : List ℕ) → k < s.variables → IsPoint s P → IsPoint (fewer v s) (removed_at k P)
left_point s v k P h w = record {
  long = omega (arith, removed_long k P (omega (arith, w.long)), w.long);
  same = map_removed (λ x. x % suc (s.modulus - 1)) k P ∙ ap (removed_at k) w.same;
}

-- Entries stay entries under the settings with one variable fewer, where no count is above 255.
pub entries_without : (s : Settings) (v k : ℕ) (L : Counted) → k < s.variables → Entries s L → some (ltb 255) (counts_of (without_variable k L)) ≡ false → Entries (fewer v s) (without_variable k L)
unfolding without_variable overfull
entries_without s v k L low h small =
    let pos = positive_of (counts_of L) h.counts in
    entries_gathered (fewer v s) (map (removed_at k) (repeated L))
    (λ Q mem. let w = among_map (removed_at k) (repeated L) Q mem in subst (IsPoint (fewer v s)) (sym w.2) (left_point s v k w.0 low (h.points.points w.0 ((among_repeated L pos w.0).0 w.1))))
    (le-ltb 64 (length (without_variable k L)) (omega (arith, without_few k L pos, length-map L (λ q. q.0), h.points.few)), (small, tt))
