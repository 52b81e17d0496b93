-- Points entered one after the other: the points and the counts that there are then (request M-106).
use mathlib.Core.Path.{◌≡◌, refl, sym, ◌∙◌, ap, subst}
use mathlib.Core.Logic.{inl, inr, ◌⊎◌, ◌↔◌}
use mathlib.Core.Bool.{Bool, true, false, cond}
use mathlib.Core.List.{List, [], ◌∷◌, ◌++◌, map-append}
use Prim.Native.Nat.{ℕ, suc, ◌+◌, ◌≤◌}
use native.Mathlib.Omega.{arith}
use lib.ListN.{length, length-map}
use lib.Dec.{T, leb}
use borrow.Author.Tests.{le-leb, leb-true, ltb-false}
use Rattle.residue.specs.Lists.{Among, every, same_list}
use Rattle.residue.proofs.Tests.{of_true, true_of, and_left, and_right, and_both}
use Rattle.residue.proofs.bytes.Equality.{same_is, same_self}
use Rattle.specification.specs.declared.settings.Settings.{Settings}
use Rattle.specification.specs.Levels.{is_among, no_repeat}
use Rattle.specification.specs.Counted.{Counted, points_of, counts_of, is_count, entered, entered_all, gathered, overfull, count_of, times_in}
use Rattle.specification.proofs.Cases.{None}
use Rattle.specification.proofs.Repeats.{among_is, is_among_lem}
use Rattle.specification.specs.Points.{Points, IsPoint}
use Rattle.specification.proofs.agreement.Points.{once_snoc, no_points}
use Rattle.specification.proofs.counted.Entered.{Positive, entered_there, entered_new}
use Rattle.specification.proofs.counted.Parts.{of_parts}
use Rattle.specification.proofs.ideal.Lists.{snoc_of, snoc_in}

-- At most 64 points, none twice, each with a count from 1 to 255.
pub record Entries (s : Settings) (L : Counted) : Type 0 where
  pub points : Points s (points_of L)
  pub counts : T (every is_count (counts_of L))

pub no_entries : (s : Settings) → Entries s []
no_entries s = record { points = no_points s; counts = tt }

-- counts from 1 to 255 are positive
pub positive_of : (l : List ℕ) → T (every is_count l) → T (every (leb 1) l)
unfolding is_count
positive_of [] h = tt
positive_of (k ∷ l) h = and_both (leb 1 k) (every (leb 1) l) (and_left (leb 1 k) (leb k 255) (and_left (is_count k) (every is_count l) h)) (positive_of l (and_right (is_count k) (every is_count l) h))

-- One point entered: it is there, or it is new.
pub data Entering (P : List ℕ) (L : Counted) : Type 0 where
  there : Among P (points_of L) → points_of (entered P L) ≡ points_of L → Entering P L
  new : ¬ Among P (points_of L) → points_of (entered P L) ≡ points_of L ++ (P ∷ []) → Entering P L

module _ (P : List ℕ) where
  pub positive_entered : (L : Counted) → Positive L → Positive (entered P L)
  unfolding entered
  positive_entered [] h = tt
  positive_entered (q ∷ L) h = go (same_list P q.0) (positive_entered L (and_right (leb 1 q.1) (every (leb 1) (counts_of L)) h))
    where
      go : (b : Bool) → Positive (entered P L) → Positive (cond b ((q.0, suc q.1) ∷ L) (q ∷ entered P L))
      go true f = and_both (leb 1 (suc q.1)) (every (leb 1) (counts_of L)) (of_true (le-leb 1 (suc q.1) (omega arith))) (and_right (leb 1 q.1) (every (leb 1) (counts_of L)) h)
      go false f = and_both (leb 1 q.1) (every (leb 1) (counts_of (entered P L))) (and_left (leb 1 q.1) (every (leb 1) (counts_of L)) h) f

  -- its points are those before, or these and the new one
  pub entering : (L : Counted) → Entering P L
  entering L = go (is_among P (points_of L)) refl
    where
      go : (b : Bool) → is_among P (points_of L) ≡ b → Entering P L
      go true e = there (among_is P (points_of L) (of_true e)) (entered_there P L e).0
      go false e = new (λ q. subst T e (is_among_lem P (points_of L) q)) (ap points_of (entered_new P L e) ∙ map-append (λ q. q.0) L ((P, 1) ∷ []))

  pub among_entered : (L : Counted) (Q : List ℕ) → Among Q (points_of (entered P L)) ↔ (Q ≡ P) ⊎ Among Q (points_of L)
  among_entered L Q = go (entering L)
    where
      go : Entering P L → Among Q (points_of (entered P L)) ↔ (Q ≡ P) ⊎ Among Q (points_of L)
      go (there m f) = rw f ((λ q. inr q), λ w. elim w [ inl z ↦ subst (λ (X : List ℕ). Among X (points_of L)) (sym z) m | inr q ↦ q ])
      go (new n f) = rw f ((λ q. elim (snoc_of (points_of L) P Q q) [ inl z ↦ inr z | inr e ↦ inl e ]), λ w. snoc_in (points_of L) P Q (elim w [ inl z ↦ inr z | inr q ↦ inl q ]))

  pub once_entered : (L : Counted) → T (no_repeat (points_of L)) → T (no_repeat (points_of (entered P L)))
  once_entered L t = go (entering L)
    where
      go : Entering P L → T (no_repeat (points_of (entered P L)))
      go (there m f) = rw f t
      go (new n f) = rw f (once_snoc (points_of L) P t n)

-- All of a list.
pub positive_all : (S : List (List ℕ)) (L : Counted) → Positive L → Positive (entered_all S L)
unfolding entered_all
positive_all [] L h = h
positive_all (P ∷ S) L h = positive_all S (entered P L) (positive_entered P L h)

pub among_all : (S : List (List ℕ)) (L : Counted) (Q : List ℕ) → Among Q (points_of (entered_all S L)) ↔ Among Q S ⊎ Among Q (points_of L)
unfolding entered_all
among_all [] L Q = ((λ q. inr q), λ w. elim w [ inl z ↦ absurd z | inr q ↦ q ])
among_all (P ∷ S) L Q =
    let f = among_all S (entered P L) Q in
    let g = among_entered P L Q in
    ((λ q. elim (f.0 q) [ inl z ↦ inl (inr z) | inr z ↦ elim (g.0 z) [ inl e ↦ inl (inl e) | inr w ↦ inr w ] ]), λ w. f.1 (elim w [ inl z ↦ elim z [ inl e ↦ inr (g.1 (inl e)) | inr q ↦ inl q ] | inr q ↦ inr (g.1 (inr q)) ]))

pub once_all : (S : List (List ℕ)) (L : Counted) → T (no_repeat (points_of L)) → T (no_repeat (points_of (entered_all S L)))
unfolding entered_all
once_all [] L t = t
once_all (P ∷ S) L t = once_all S (entered P L) (once_entered P L t)

-- the distinct points of a list are its points
pub among_gathered : (S : List (List ℕ)) (Q : List ℕ) → Among Q (points_of (gathered S)) ↔ Among Q S
unfolding gathered
among_gathered S Q = ((λ q. elim ((among_all S [] Q).0 q) [ inl z ↦ z | inr z ↦ absurd z ]), λ q. (among_all S [] Q).1 (inl q))

pub once_gathered : (S : List (List ℕ)) → T (no_repeat (points_of (gathered S)))
unfolding gathered no_repeat
once_gathered S = once_all S [] tt

pub positive_gathered : (S : List (List ℕ)) → Positive (gathered S)
unfolding gathered
positive_gathered S = positive_all S [] tt

-- The count of a point is the number of its occurrences.
module _ (P : List ℕ) where
  count_entered : (Q : List ℕ) (L : Counted) → count_of P (entered Q L) ≡ cond (same_list P Q) 1 0 + count_of P L
  unfolding entered count_of
  count_entered Q [] = go (same_list P Q)
    where
      go : (b : Bool) → cond {A = ℕ} b 1 0 ≡ cond b 1 0 + 0
      go true = refl
      go false = refl
  count_entered Q (q ∷ L) = go (same_list Q q.0) refl (same_list P q.0) refl (count_entered Q L)
    where
      go : (b : Bool) → same_list Q q.0 ≡ b → (c : Bool) → same_list P q.0 ≡ c → count_of P (entered Q L) ≡ cond (same_list P Q) 1 0 + count_of P L
          → count_of P (cond b ((q.0, suc q.1) ∷ L) (q ∷ entered Q L)) ≡ cond (same_list P Q) 1 0 + cond c q.1 (count_of P L)
      go true e c f r = rw (same_is Q q.0 (of_true e)) (rw f (there c))
        where
          there : (c : Bool) → cond c (suc q.1) (count_of P L) ≡ cond c 1 0 + cond c q.1 (count_of P L)
          there true = omega arith
          there false = omega arith
      go false e true f r = rw f (apart (same_list P Q) refl)
        where
          apart : (b : Bool) → same_list P Q ≡ b → q.1 ≡ cond b 1 0 + q.1
          apart true g = absurd (let z : same_list Q q.0 ≡ true = rw (← same_is P Q (of_true g)) f in let y : ◌≡◌ {A = ℕ} 0 1 = cc in omega arith)
          apart false g = omega arith
      go false e false f r = rw f r

  count_all : (S : List (List ℕ)) (L : Counted) → count_of P (entered_all S L) ≡ times_in P S + count_of P L
  unfolding entered_all times_in
  count_all [] L = omega arith
  count_all (Q ∷ S) L = count_all S (entered Q L) ∙ omega (arith, count_entered Q L)

  pub count_gathered : (S : List (List ℕ)) → count_of P (gathered S) ≡ times_in P S
  unfolding gathered count_of
  count_gathered S = count_all S [] ∙ omega arith

  -- a point that is there, and its count
  pub count_some : (L : Counted) → Positive L → Among P (points_of L) → 1 ≤ count_of P L
  unfolding count_of
  count_some (q ∷ L) h m = go (same_list P q.0) refl m (λ z. count_some L (and_right (leb 1 q.1) (every (leb 1) (counts_of L)) h) z)
    where
      go : (b : Bool) → same_list P q.0 ≡ b → Among P (q.0 ∷ points_of L) → (Among P (points_of L) → 1 ≤ count_of P L) → 1 ≤ cond b q.1 (count_of P L)
      go true e m f = leb-true 1 q.1 (true_of _ (and_left (leb 1 q.1) (every (leb 1) (counts_of L)) h))
      go false e (inl z) f = absurd (subst T e (rw z (same_self q.0)))
      go false e (inr z) f = f z
  count_some [] h m = elim m [ ]

  pub some_count : (L : Counted) → 1 ≤ count_of P L → Among P (points_of L)
  unfolding count_of
  some_count [] h = absurd (omega arith)
  some_count (q ∷ L) h = go (same_list P q.0) refl h (λ z. some_count L z)
    where
      go : (b : Bool) → same_list P q.0 ≡ b → 1 ≤ cond b q.1 (count_of P L) → (1 ≤ count_of P L → Among P (points_of L)) → Among P (q.0 ∷ points_of L)
      go true e h f = inl (same_is P q.0 (of_true e))
      go false e h f = inr (f h)

  pub count_few : (L : Counted) → T (every is_count (counts_of L)) → count_of P L ≤ 255
  unfolding count_of is_count
  count_few [] h = omega arith
  count_few (q ∷ L) h = go (same_list P q.0) (count_few L (and_right (is_count q.1) (every is_count (counts_of L)) h))
    where
      go : (b : Bool) → count_of P L ≤ 255 → cond b q.1 (count_of P L) ≤ 255
      go true f = leb-true q.1 255 (true_of _ (and_right (leb 1 q.1) (leb q.1 255) (and_left (is_count q.1) (every is_count (counts_of L)) h)))
      go false f = f

-- Entries stay entries. What is refused of them as too many, 8 and 13, is what is asked for besides.
module _ (s : Settings) where
  -- points, none twice, each with a count
  of_entries : (L : Counted) → ((P : List ℕ) → Among P (points_of L) → IsPoint s P) → T (no_repeat (points_of L)) → Positive L → None (overfull L) → Entries s L
  unfolding overfull
  of_entries L h t p n = record {
    points = record { points = h; once = t; few = omega (arith, ltb-false 64 (length L) n.0, length-map L (λ q. q.0)) };
    counts = of_parts (counts_of L) p n.1.0;
  }

  pub entries_entered : (P : List ℕ) (L : Counted) → Entries s L → IsPoint s P → None (overfull (entered P L)) → Entries s (entered P L)
  entries_entered P L h p n =
      of_entries (entered P L) (λ Q q. elim ((among_entered P L Q).0 q) [ inl e ↦ subst (IsPoint s) (sym e) p | inr z ↦ h.points.points Q z ]) (once_entered P L h.points.once)
      (positive_entered P L (positive_of (counts_of L) h.counts)) n

  pub entries_gathered : (S : List (List ℕ)) → ((P : List ℕ) → Among P S → IsPoint s P) → None (overfull (gathered S)) → Entries s (gathered S)
  entries_gathered S h n = of_entries (gathered S) (λ Q q. h Q ((among_gathered S Q).0 q)) (once_gathered S) (positive_gathered S) n
