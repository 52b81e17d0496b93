-- Points with their counts: what entering and lowering make of a list (request M-106).
use mathlib.Core.Path.{◌≡◌, refl, sym, ◌∙◌, ap, ap₂}
use mathlib.Core.Bool.{Bool, true, false, cond, ◌||◌}
use mathlib.Core.List.{List, [], ◌∷◌, ◌++◌, map-append, append-nil}
use Prim.Native.Nat.{ℕ, suc, ◌+◌, ◌-◌, ◌<◌}
use native.Mathlib.Omega.{arith}
use lib.ListN.{length, get_or, set, length-map}
use lib.Dec.{T, eqb, leb}
use borrow.Author.Tests.{leb-true, ne_eqb}
use Rattle.residue.specs.Lists.{every, same_list}
use Rattle.residue.proofs.Tests.{of_true, true_of, and_left, and_right, neither}
use Rattle.residue.proofs.bytes.Equality.{same_is, same_self}
use Rattle.monomial.specs.Insert.{removed_at}
use Rattle.specification.specs.Levels.{is_among}
use Rattle.specification.specs.Counted.{Counted, points_of, counts_of, entered, lowered, count_of, place_in}

-- each count is 1 at least
abbrev pub Positive : Counted → Type 0
Positive L = T (every (leb 1) (counts_of L))

-- one member of a list, behind others
set_behind : (a b : List ℕ) (x y : ℕ) → set (a ++ (x ∷ b)) (length a) y ≡ a ++ (y ∷ b)
set_behind [] b x y = refl
set_behind (z ∷ a) b x y = ap (λ (l : List ℕ). z ∷ l) (set_behind a b x y)

get_behind : (a b : List ℕ) (x : ℕ) → get_or (a ++ (x ∷ b)) (length a) 0 ≡ x
get_behind [] b x = refl
get_behind (z ∷ a) b x = get_behind a b x

removed_behind : {A : Type 0} (a b : List A) (x : A) → removed_at (length a) (a ++ (x ∷ b)) ≡ a ++ b
unfolding removed_at
removed_behind [] b x = refl
removed_behind {A} (z ∷ a) b x = ap (λ (l : List A). z ∷ l) (removed_behind a b x)

module _ (P : List ℕ) where
  -- Points that P is not among are passed.
  entered_past : (A B : Counted) → is_among P (points_of A) ≡ false → entered P (A ++ B) ≡ A ++ entered P B
  unfolding entered is_among
  entered_past [] B e = refl
  entered_past (q ∷ A) B e = let n = neither (same_list P q.0) (is_among P (points_of A)) e in rw n.0 (ap (λ (l : Counted). q ∷ l) (entered_past A B n.1))

  lowered_past : (A B : Counted) → is_among P (points_of A) ≡ false → lowered P (A ++ B) ≡ A ++ lowered P B
  unfolding lowered is_among
  lowered_past [] B e = refl
  lowered_past (q ∷ A) B e = let n = neither (same_list P q.0) (is_among P (points_of A)) e in rw n.0 (ap (λ (l : Counted). q ∷ l) (lowered_past A B n.1))

  count_past : (A B : Counted) → is_among P (points_of A) ≡ false → count_of P (A ++ B) ≡ count_of P B
  unfolding count_of is_among
  count_past [] B e = refl
  count_past (q ∷ A) B e = let n = neither (same_list P q.0) (is_among P (points_of A)) e in rw n.0 (count_past A B n.1)

  place_past : (A B : List (List ℕ)) → is_among P A ≡ false → place_in P (A ++ B) ≡ length A + place_in P B
  unfolding place_in is_among
  place_past [] B e = omega arith
  place_past (Q ∷ A) B e = let n = neither (same_list P Q) (is_among P A) e in rw n.0 (omega (arith, place_past A B n.1))

  -- The entry of a point that is there: none before it has the point.
  pub record Stands (L : Counted) : Type 0 where
    pub before : Counted
    pub count : ℕ
    pub behind : Counted
    pub none : is_among P (points_of before) ≡ false
    pub is : L ≡ before ++ ((P, count) ∷ behind)

  pub stands : (L : Counted) → is_among P (points_of L) ≡ true → Stands L
  unfolding is_among
  stands [] e = absurd (let z : ◌≡◌ {A = ℕ} 0 1 = cc in omega arith)
  stands (q ∷ L) e = go (same_list P q.0) refl e (λ f. stands L f)
    where
      go : (b : Bool) → same_list P q.0 ≡ b → (b || is_among P (points_of L)) ≡ true → (is_among P (points_of L) ≡ true → Stands L) → Stands (q ∷ L)
      go true s e f = record { before = []; count = q.1; behind = L; none = refl; is = ap (λ (X : List ℕ). (X, q.1) ∷ L) (sym (same_is P q.0 (of_true s))) }
      go false s e f = let w = f e in
          record { before = q ∷ w.before; count = w.count; behind = w.behind; none = rw s w.none; is = ap (λ (l : Counted). q ∷ l) w.is }

  same : same_list P P ≡ true
  same = true_of (same_list P P) (same_self P)

  module _ (A : Counted) (k : ℕ) (B : Counted) (none : is_among P (points_of A) ≡ false) where
    -- the list, with the count v in the place of k
    abbrev with_count : ℕ → Counted
    with_count v = A ++ ((P, v) ∷ B)

    count_here : count_of P (with_count k) ≡ k
    unfolding count_of
    count_here = count_past A ((P, k) ∷ B) none ∙ rw same refl

    place_here : place_in P (points_of (with_count k)) ≡ length (counts_of A)
    unfolding place_in
    place_here =
        ap (place_in P) (map-append (λ q. q.0) A ((P, k) ∷ B)) ∙ place_past (points_of A) (P ∷ points_of B) none
        ∙ rw same (omega (arith, length-map A (λ q. q.0), length-map A (λ q. q.1)))

    counts_here : (v : ℕ) → counts_of (with_count v) ≡ counts_of A ++ (v ∷ counts_of B)
    counts_here v = map-append (λ q. q.1) A ((P, v) ∷ B)

    -- its points are the same, and its counts but one
    recounted_here : (v : ℕ) → (points_of (with_count v) ≡ points_of (with_count k)) × (counts_of (with_count v) ≡ set (counts_of (with_count k)) (place_in P (points_of (with_count k))) v)
    recounted_here v = (
      map-append (λ q. q.0) A ((P, v) ∷ B) ∙ sym (map-append (λ q. q.0) A ((P, k) ∷ B)),
      counts_here v ∙ sym (ap₂ (λ (c : List ℕ) (i : ℕ). set c i v) (counts_here k) place_here ∙ set_behind (counts_of A) (counts_of B) k v),
    )

    -- and without the point
    removed_here : (points_of (A ++ B) ≡ removed_at (place_in P (points_of (with_count k))) (points_of (with_count k)))
        × (counts_of (A ++ B) ≡ removed_at (place_in P (points_of (with_count k))) (counts_of (with_count k)))
    removed_here =
        let long : length (counts_of A) ≡ length (points_of A) = length-map A (λ q. q.1) ∙ sym (length-map A (λ q. q.0)) in (
          map-append (λ q. q.0) A B ∙ sym (ap₂ removed_at (place_here ∙ long) (map-append (λ q. q.0) A ((P, k) ∷ B)) ∙ removed_behind (points_of A) (points_of B) P),
          map-append (λ q. q.1) A B ∙ sym (ap₂ removed_at place_here (counts_here k) ∙ removed_behind (counts_of A) (counts_of B) k),
        )

    entered_here : entered P (with_count k) ≡ with_count (suc k)
    unfolding entered
    entered_here = entered_past A ((P, k) ∷ B) none ∙ ap (λ (l : Counted). A ++ l) (rw same refl)

    lowered_here : lowered P (with_count k) ≡ A ++ cond (eqb (k - 1) 0) B ((P, k - 1) ∷ B)
    unfolding lowered
    lowered_here = lowered_past A ((P, k) ∷ B) none ∙ ap (λ (l : Counted). A ++ l) (rw same refl)

  -- A new point comes last, with 1.
  pub entered_new : (L : Counted) → is_among P (points_of L) ≡ false → entered P L ≡ L ++ ((P, 1) ∷ [])
  unfolding entered
  entered_new L e = ap (entered P) (sym (append-nil L)) ∙ entered_past L [] e

  module _ (L : Counted) (e : is_among P (points_of L) ≡ true) where
    w : Stands L
    w = stands L e

    -- The count stands in the point's place.
    pub count_at : count_of P L ≡ get_or (counts_of L) (place_in P (points_of L)) 0
    count_at = let A = w.before in let k = w.count in let B = w.behind in
        rw w.is (count_here A k B w.none ∙ sym (ap₂ (λ (c : List ℕ) (i : ℕ). get_or c i 0) (counts_here A k B w.none k) (place_here A k B w.none) ∙ get_behind (counts_of A) (counts_of B) k))

    -- A point that is there is counted once more, in its place.
    pub entered_there : (points_of (entered P L) ≡ points_of L) × (counts_of (entered P L) ≡ set (counts_of L) (place_in P (points_of L)) (suc (count_of P L)))
    entered_there = let A = w.before in let k = w.count in let B = w.behind in
        rw (w.is, entered_here A k B w.none, count_here A k B w.none) (recounted_here A k B w.none (suc k))

    -- A count above 1 is lowered in its place; at 1 point and count go, and later ones move up.
    pub lowered_more : eqb (count_of P L - 1) 0 ≡ false
        → (points_of (lowered P L) ≡ points_of L) × (counts_of (lowered P L) ≡ set (counts_of L) (place_in P (points_of L)) (count_of P L - 1))
    lowered_more m = let A = w.before in let k = w.count in let B = w.behind in
        let z = rw (w.is, count_here A k B w.none) at m in
        rw (w.is, lowered_here A k B w.none, count_here A k B w.none, z) (recounted_here A k B w.none (k - 1))

    pub lowered_last : eqb (count_of P L - 1) 0 ≡ true
        → (points_of (lowered P L) ≡ removed_at (place_in P (points_of L)) (points_of L)) × (counts_of (lowered P L) ≡ removed_at (place_in P (points_of L)) (counts_of L))
    lowered_last m = let A = w.before in let k = w.count in let B = w.behind in
        let z = rw (w.is, count_here A k B w.none) at m in
        rw (w.is, lowered_here A k B w.none, z) (removed_here A k B w.none)

  pub place_within : (S : List (List ℕ)) → is_among P S ≡ true → place_in P S < length S
  unfolding is_among place_in
  place_within [] e = absurd (let z : ◌≡◌ {A = ℕ} 0 1 = cc in omega arith)
  place_within (Q ∷ S) e = go (same_list P Q) e (λ f. place_within S f)
    where
      go : (b : Bool) → (b || is_among P S) ≡ true → (is_among P S ≡ true → place_in P S < length S) → cond b 0 (suc (place_in P S)) < suc (length S)
      go true e f = omega arith
      go false e f = omega (arith, f e)

  -- What was entered last and is lowered leaves the list.
  pub lowered_entered : (L : Counted) → Positive L → lowered P (entered P L) ≡ L
  unfolding entered lowered
  lowered_entered [] h = go (same_list P P) (same_self P)
    where
      go : (b : Bool) → T b → cond {A = Counted} b (cond (eqb (1 - 1) 0) [] ((P, 1 - 1) ∷ [])) ((P, 1) ∷ []) ≡ []
      go true t = refl
      go false t = elim t [ ]
  lowered_entered (q ∷ L) h = go (same_list P q.0) refl (lowered_entered L (and_right (leb 1 q.1) (every (leb 1) (counts_of L)) h))
    where
      some_at : eqb q.1 0 ≡ false
      some_at = let k = leb-true 1 q.1 (true_of _ (and_left (leb 1 q.1) (every (leb 1) (counts_of L)) h)) in ne_eqb q.1 0 (λ z. omega arith)

      go : (b : Bool) → same_list P q.0 ≡ b → lowered P (entered P L) ≡ L → lowered P (cond b ((q.0, suc q.1) ∷ L) (q ∷ entered P L)) ≡ q ∷ L
      go true e f = let k : suc q.1 - 1 ≡ q.1 = omega arith in rw (e, k, some_at) refl
      go false e f = rw e (ap (λ (l : Counted). q ∷ l) f)
