-- The tests of an entry by those before it mean what specs/reading/Causes.antt says.
use mathlib.Core.Path.{◌≡◌, refl, sym, ap, ◌∙◌, subst}
use mathlib.Core.Bool.{Bool, true, false, cond, not, ◌&&◌}
use mathlib.Core.List.{List, [], ◌∷◌, ◌++◌}
use mathlib.Core.Logic.{◌⊎◌, inl, inr}
use Prim.Native.Nat.{ℕ, suc, ◌≤◌}
use native.Mathlib.Omega.{arith}
use lib.IntN.{ℤ}
use lib.ListN.{length, length-map}
use lib.Dec.{T, eqb, ltb}
use borrow.Author.Tests.{ltb-true, lt-ltb, ne_eqb, eqb-false, not-true}
use Rattle.residue.specs.Lists.{Among, same_list}
use Rattle.residue.specs.Lists as Lists
use Rattle.residue.specs.Level.{residue_of}
use Rattle.std.proofs.Common.{Option, Some, None}
use Rattle.residue.proofs.Tests.{Decides, so, not_so, by_test, true_of, of_true, and_left, and_right}
use Rattle.residue.proofs.Searches.{one_of, of_one}
use Rattle.residue.proofs.bytes.Equality.{same_is, same_self}
use Rattle.specification.specs.Levels.{is_residue, in_range, no_repeat, is_among}
use Rattle.specification.specs.Counted.{Counted, points_of, counts_of, gathered, count_of}
use Rattle.specification.proofs.Repeats.{is_among_lem}
use Rattle.specification.proofs.ideal.Lists.{among_map, map_among}
use Rattle.specification.proofs.counted.Gathered.{among_gathered, once_gathered, count_gathered, some_count}
use Rattle.comma_text.specs.reading.Text.{Valued, is_outside, too_many, too_often, first_value, other_value}
use Rattle.comma_text.specs.reading.Causes.{OutOfRange, points_to, TooMany, TooOften, FirstValue, OtherValue}

-- 9: a level out of range
level_told : (l : Option ℕ) → Decides (l ≡ None) (not (is_residue l))
unfolding is_residue
level_told (Some x) = not_so (λ e. let z : ◌≡◌ {A = ℕ} 0 1 = cc in omega arith)
level_told None = so refl

pub range_told : (p : ℕ) (zs : List ℤ) → Decides (OutOfRange p [] zs) (is_outside p zs)
unfolding is_outside in_range
range_told p [] = not_so (λ w. w.1)
range_told p (z ∷ zs) = go (is_residue (residue_of p z)) (in_range p zs) (level_told (residue_of p z)) (range_told p zs)
  where
    go : (b c : Bool) → Decides (residue_of p z ≡ None) (not b) → Decides (OutOfRange p [] zs) (not c) → Decides (OutOfRange p [] (z ∷ zs)) (not (b && c))
    go true true (not_so n) (not_so k) = not_so (λ w. elim w.1 [ inl e ↦ n (ap (residue_of p) (sym e) ∙ w.2) | inr y ↦ k (w.0, y, w.2) ])
    go true false (not_so n) (so w) = so (w.0, inr w.1, w.2)
    go false c (so x) k = so (z, inl refl, x)

-- of a point that would repeat
again : (b : Bool) → T b → T (not b) → ⊥
again true x y = y
again false x y = x

-- no more points are distinct than there are
removed : (P : List ℕ) (R : List (List ℕ)) → Among P R
    → (K : List (List ℕ)) × (length R ≡ suc (length K)) × ((Q : List ℕ) → Among Q R → (Q ≡ P) ⊎ Among Q K)
removed P (A ∷ R) (inl e) = (R, omega arith, λ Q q. elim q [ inl z ↦ inl (z ∙ sym e) | inr z ↦ inr z ])
removed P (A ∷ R) (inr q) =
    let (K, l, f) = removed P R q in
    (A ∷ K, omega (arith, l), λ Q w. elim w [ inl z ↦ inr (inl z) | inr z ↦ elim (f Q z) [ inl y ↦ inl y | inr y ↦ inr (inr y) ] ])
removed P [] x' = elim x' [ ]

few : (S R : List (List ℕ)) → T (no_repeat S) → ((Q : List ℕ) → Among Q S → Among Q R) → length S ≤ length R
unfolding no_repeat
few [] R t f = omega arith
few (P ∷ S) R t f =
    let (K, l, g) = removed P R (f P (inl refl)) in
    let new = and_left (not (is_among P S)) (no_repeat S) t in
    let h = few S K (and_right (not (is_among P S)) (no_repeat S) t)
    (λ Q q. elim (g Q (f Q (inr q))) [ inl e ↦ absurd (again (is_among P S) (is_among_lem P S (subst (λ (X : List ℕ). Among X S) e q)) new) | inr w ↦ w ]) in
    omega (arith, l, h)

-- 8
pub many_told : (b : List Valued) (q : Valued) → Decides (TooMany b q) (too_many b q)
unfolding too_many
many_told b q = by_test (ltb 64 (length G))
    (λ e. (points_of G, omega (arith, ltb-true 64 (length G) e, length-map G (λ (x : Valued). x.0)), once_gathered A, λ P w. (among_gathered A P).0 w))
    (λ w. let h = few w.0 (points_of G) w.2 (λ P y. (among_gathered A P).1 (w.3 P y)) in
    lt-ltb 64 (length G) (omega (arith, w.1, h, length-map G (λ (x : Valued). x.0))))
  where
    A : List (List ℕ)
    A = points_to b q

    G : Counted
    G = gathered A

-- the counts of points of which none repeats
pub count_there : (L : Counted) → T (no_repeat (points_of L)) → (q : List ℕ × ℕ) → Among q L → count_of q.0 L ≡ q.1
unfolding no_repeat count_of
count_there (x ∷ L) t q (inl e) = rw e (rw (true_of (same_list x.0 x.0) (same_self x.0)) refl)
count_there (x ∷ L) t q (inr w) = go (same_list q.0 x.0) refl (count_there L (and_right (not (is_among x.0 (points_of L))) (no_repeat (points_of L)) t) q w)
  where
    go : (b : Bool) → same_list q.0 x.0 ≡ b → count_of q.0 L ≡ q.1 → cond b x.1 (count_of q.0 L) ≡ q.1
    go true e r =
        let z : Among x.0 (points_of L) =
        subst (λ (P : List ℕ). Among P (points_of L)) (same_is q.0 x.0 (of_true e)) (map_among (λ (y : List ℕ × ℕ). y.0) L q w) in
        absurd (again (is_among x.0 (points_of L)) (is_among_lem x.0 (points_of L) z)
        (and_left (not (is_among x.0 (points_of L))) (no_repeat (points_of L)) t))
    go false e r = r
count_there [] t q x'' = elim x'' [ ]

there_count : (P : List ℕ) (L : Counted) → Among P (points_of L) → Among (count_of P L) (counts_of L)
unfolding count_of
there_count P (x ∷ L) w = go (same_list P x.0) refl w (λ y. there_count P L y)
  where
    go : (b : Bool) → same_list P x.0 ≡ b → Among P (x.0 ∷ points_of L) → (Among P (points_of L) → Among (count_of P L) (counts_of L))
        → Among (cond b x.1 (count_of P L)) (x.1 ∷ counts_of L)
    go true e w r = inl refl
    go false e (inl z) r = absurd (subst T e (rw z (same_self x.0)))
    go false e (inr y) r = inr (r y)
there_count P [] w = elim w [ ]

-- 13
pub often_told : (b : List Valued) (q : Valued) → Decides (TooOften b q) (too_often b q)
unfolding too_often
often_told b q = by_test (Lists.some (ltb 255) (counts_of G)) found read
  where
    A : List (List ℕ)
    A = points_to b q

    G : Counted
    G = gathered A

    found : Lists.some (ltb 255) (counts_of G) ≡ true → TooOften b q
    found e =
        let (k, w) = one_of (ltb 255) (counts_of G) (of_true e) in
        let (x, y, i) = among_map (λ (x : List ℕ × ℕ). x.1) G k w.0 in
        (x.0, omega (arith, ltb-true 255 k (true_of (ltb 255 k) w.1), i, count_there G (once_gathered A) x y, count_gathered x.0 A))

    read : TooOften b q → Lists.some (ltb 255) (counts_of G) ≡ true
    read (P, h) =
        let e = count_gathered P A in
        let w = there_count P G (some_count P G (omega (arith, e, h))) in
        true_of _ (of_one (ltb 255) (counts_of G) (count_of P G) w (of_true (lt-ltb 255 (count_of P G) (omega (arith, e, h)))))

-- 14: the value of the first entry with a point
module _ (P : List ℕ) (v : ℕ) where
  value_read : (w : ℕ) (b c : List Valued) → ¬ Among P (points_of b) → first_value P v (b ++ ((P, w) ∷ c)) ≡ w
  unfolding first_value
  value_read w [] c n = rw (true_of (same_list P P) (same_self P)) refl
  value_read w (q ∷ b) c n = go (same_list P q.0) refl (value_read w b c (λ y. n (inr y)))
    where
      go : (t : Bool) → same_list P q.0 ≡ t → first_value P v (b ++ ((P, w) ∷ c)) ≡ w → cond t q.1 (first_value P v (b ++ ((P, w) ∷ c))) ≡ w
      go true e r = absurd (n (inl (same_is P q.0 (of_true e))))
      go false e r = r

  value_found : (l : List Valued) → (first_value P v l ≡ v) ⊎ FirstValue P (first_value P v l) l
  unfolding first_value
  value_found [] = inl refl
  value_found (q ∷ l) = go (same_list P q.0) refl (value_found l)
    where
      go : (t : Bool) → same_list P q.0 ≡ t → (first_value P v l ≡ v) ⊎ FirstValue P (first_value P v l) l
          → (cond t q.1 (first_value P v l) ≡ v) ⊎ FirstValue P (cond t q.1 (first_value P v l)) (q ∷ l)
      go true e r = inr (record { before = []; after = l; made = ap (λ (X : List ℕ). (X, q.1) ∷ l) (sym (same_is P q.0 (of_true e))); first = λ y. y })
      go false e (inl r) = inl r
      go false e (inr r) = inr (record {
        before = q ∷ r.before;
        after = r.after;
        made = ap (λ (x : List Valued). q ∷ x) r.made;
        first = λ y. elim y [ inl z ↦ subst T e (rw z (same_self q.0)) | inr z ↦ r.first z ];
      })

pub other_told : (b : List Valued) (q : Valued) → Decides (OtherValue b q) (other_value b q)
unfolding other_value
other_told b q = by_test (not (eqb (first_value q.0 q.1 b) q.1)) (λ e. found (not-true _ e) (value_found q.0 q.1 b)) read
  where
    found : eqb (first_value q.0 q.1 b) q.1 ≡ false
        → (first_value q.0 q.1 b ≡ q.1) ⊎ FirstValue q.0 (first_value q.0 q.1 b) b → OtherValue b q
    found e (inl z) = absurd (eqb-false (first_value q.0 q.1 b) q.1 e z)
    found e (inr f) = (first_value q.0 q.1 b, f, eqb-false (first_value q.0 q.1 b) q.1 e)

    read : OtherValue b q → not (eqb (first_value q.0 q.1 b) q.1) ≡ true
    read (w, f, n) =
        let e : first_value q.0 q.1 b ≡ w = ap (first_value q.0 q.1) f.made ∙ value_read q.0 q.1 w f.before f.after f.first in
        ap not (ap (λ (x : ℕ). eqb x q.1) e ∙ ne_eqb w q.1 n)
