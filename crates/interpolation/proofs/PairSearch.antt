-- The search for pairs of a variable, along the n points of a table and their values.
use mathlib.Core.Path.{◌≡◌, refl, sym, ◌∙◌, ap}
use mathlib.Core.Bool.{Bool, true, false, ◌||◌, or-true, and-false, true≢false}
use mathlib.Core.List.{List, [], ◌∷◌, zip_with, zip}
use Prim.Native.Nat.{ℕ, zero, suc, ◌+◌, ◌-◌, ◌*◌, ◌<◌, ◌≤◌}
use native.Mathlib.Nat.{le_of_suc-le-suc}
use native.Mathlib.Decide.{ℕ_discrete}
use native.Mathlib.Numerals.{add-one}
use native.Mathlib.Omega.{arith}
use lib.ListN.{length, get_or, take, drop}
use lib.Seq.{get_or-take, get_or-drop, length-take-le}
use borrow.Author.Tests.{eq-eqb}
use Rattle.residue.specs.Lists.{some}
use Rattle.residue.specs.Layout.{groups}
use Rattle.residue.proofs.Places.{length_groups, groups_at}
use Rattle.residue.proofs.Tests.{neither}
use Rattle.specification.specs.Needed.{apart, contrary, pair_in}
use Rattle.interpolation.specs.Pairs.{valued_in, valued, some_below, contrary_to, Constant}

-- some of the numbers below i
pub below_off : (i : ℕ) (f : ℕ → Bool) → f i ≡ false → some_below (suc i) f ≡ some_below i f
unfolding some_below
below_off i f e = rw e

pub below_there : (i j : ℕ) (f : ℕ → Bool) → j < i → f j ≡ true → some_below i f ≡ true
unfolding some_below
below_there zero j f h e = absurd (omega arith)
below_there (suc i) j f h e = go (ℕ_discrete j i) (λ l. below_there i j f l e)
  where
    go : Dec (j ≡ i) → (j < i → some_below i f ≡ true) → (f i || some_below i f) ≡ true
    go (yes u) k = let t : f i ≡ true = ap f (sym u) ∙ e in rw t
    go (no u) k = ap (λ (x : Bool). f i || x) (k (omega arith)) ∙ or-true (f i)

pub below_zero : (f : ℕ → Bool) → some_below 0 f ≡ false
unfolding some_below
below_zero f = refl

pub below_found : (i : ℕ) (f : ℕ → Bool) → some_below i f ≡ true → (j : ℕ) × (j < i) × (f j ≡ true)
unfolding some_below
below_found zero f e = absurd (true≢false (sym e))
below_found (suc i) f e = go (f i) refl e (λ u. below_found i f u)
  where
    go : (b : Bool) → f i ≡ b → (b || some_below i f) ≡ true → (some_below i f ≡ true → (j : ℕ) × (j < i) × (f j ≡ true)) → (j : ℕ) × (j < suc i) × (f j ≡ true)
    go true u e k = (i, omega arith, u)
    go false u e k = let w = k e in (w.0, omega (arith, w.1), w.2)

pub below_none : (i : ℕ) (f : ℕ → Bool) → some_below i f ≡ false → (j : ℕ) → j < i → f j ≡ false
unfolding some_below
below_none zero f e j h = absurd (omega arith)
below_none (suc i) f e j h = go (ℕ_discrete j i) (neither (f i) (some_below i f) e) (λ u l. below_none i f u j l)
  where
    go : Dec (j ≡ i) → (f i ≡ false) × (some_below i f ≡ false) → (some_below i f ≡ false → j < i → f j ≡ false) → f j ≡ false
    go (yes u) w k = rw u w.0
    go (no u) w k = k w.1 (omega arith)

-- pairs of two lists from a place on
zip_at : {A B : Type 0} (a : List A) (b : List B) (j : ℕ) (d : A) (e : B) → j < length a → j < length b
    → drop j (zip a b) ≡ (get_or a j d, get_or b j e) ∷ drop (suc j) (zip a b)
unfolding zip zip_with
zip_at [] b j d e h k = absurd (omega arith)
zip_at (x ∷ a) [] j d e h k = absurd (omega arith)
zip_at (x ∷ a) (y ∷ b) zero d e h k = refl
zip_at (x ∷ a) (y ∷ b) (suc j) d e h k = zip_at a b j d e (le_of_suc-le-suc h) (le_of_suc-le-suc k)

zip_end : {A B : Type 0} (a : List A) (b : List B) (j : ℕ) → length a ≤ j → drop j (zip a b) ≡ []
unfolding zip zip_with
zip_end [] b zero h = refl
zip_end [] b (suc j) h = refl
zip_end (x ∷ a) b zero h = absurd (omega arith)
zip_end (x ∷ a) [] (suc j) h = refl
zip_end (x ∷ a) (y ∷ b) (suc j) h = zip_end a b j (le_of_suc-le-suc h)

-- one point more with the same coordinate
pub constant_more : (k i : ℕ) (points : List ℕ) → k < 8 → get_or points (8 * i + k) 0 ≡ get_or points k 0 → Constant k i points → Constant k (i + 1) points
constant_more k i points low e h j l = go (ℕ_discrete j i)
  where
    go : Dec (j ≡ i) → get_or (take 8 (drop (8 * j) points)) k 0 ≡ get_or points k 0
    go (yes u) = rw u (get_or-take 8 (drop (8 * i) points) k 0 low ∙ get_or-drop (8 * i) points k 0 ∙ e)
    go (no u) = h j (omega arith)

module _ (n : ℕ) (points values : List ℕ) (room : n ≤ length values) where
  abbrev from : ℕ → List (List ℕ × ℕ)
  from j = drop j (valued_in n points values)

  abbrev at : ℕ → List ℕ × ℕ
  at j = valued points values j

  valued_at : (j : ℕ) → j < n → from j ≡ at j ∷ from (j + 1)
  valued_at j h =
      let l = length-take-le n values room in
      let g = length_groups 8 n points in
      zip_at (groups 8 n points) (take n values) j [] 0 (omega arith) (omega arith)
      ∙ rw (groups_at 8 n j points [] h, get_or-take n values j 0 h, add-one)

  valued_end : (j : ℕ) → n ≤ j → from j ≡ []
  valued_end j h = zip_end (groups 8 n points) (take n values) j (omega (arith, length_groups 8 n points))

  -- a test of the point d behind the one at a, and of all, if d are left
  module _ (f : List ℕ × ℕ → Bool) where
    some_there : (d a i : ℕ) → i ≡ a + d → i < n → f (at i) ≡ true → some f (from a) ≡ true
    some_there zero a i e h t = ap (some f) (valued_at a (omega arith)) ∙ let u : a ≡ i = omega arith in rw (u, t)
    some_there (suc d) a i e h t =
        ap (some f) (valued_at a (omega arith)) ∙ ap (λ (x : Bool). f (at a) || x) (some_there d (a + 1) i (omega arith) h t) ∙ or-true (f (at a))

    some_none : (d a : ℕ) → n ≡ a + d → ((i : ℕ) → a ≤ i → i < n → f (at i) ≡ false) → some f (from a) ≡ false
    some_none zero a e t = ap (some f) (valued_end a (omega arith))
    some_none (suc d) a e t =
        ap (some f) (valued_at a (omega arith)) ∙ rw (t a (omega arith) (omega arith)) (some_none d (a + 1) (omega arith) (λ i l h. t i (omega arith) h))

  module _ (k : ℕ) where
    pair_there : (d a i j : ℕ) → j ≡ a + d → j < i → i < n → contrary k (at j) (at i) ≡ true → pair_in k (from a) ≡ true
    unfolding pair_in
    pair_there zero a i j e l h t =
        let u : a ≡ j = omega arith in
        ap (pair_in k) (valued_at a (omega arith)) ∙ rw (some_there (contrary k (at a)) (i - (a + 1)) (a + 1) i (omega arith) h (rw u t))
    pair_there (suc d) a i j e l h t =
        ap (pair_in k) (valued_at a (omega arith))
        ∙ ap (λ (x : Bool). some (contrary k (at a)) (from (a + 1)) || x) (pair_there d (a + 1) i j (omega arith) l h t)
        ∙ or-true (some (contrary k (at a)) (from (a + 1)))

    pair_none : (d a : ℕ) → n ≡ a + d → ((i j : ℕ) → j < i → i < n → contrary k (at j) (at i) ≡ false) → pair_in k (from a) ≡ false
    unfolding pair_in
    pair_none zero a e t = ap (pair_in k) (valued_end a (omega arith))
    pair_none (suc d) a e t =
        ap (pair_in k) (valued_at a (omega arith))
        ∙ rw (some_none (contrary k (at a)) d (a + 1) (omega arith) (λ i l h. t i a (omega arith) h)) (pair_none d (a + 1) (omega arith) t)

    pub pair_found : (i : ℕ) → i < n → some_below i (contrary_to k points values i) ≡ true → true ≡ pair_in k (valued_in n points values)
    pair_found i h e = let w = below_found i (contrary_to k points values i) e in sym (pair_there w.0 0 i w.0 (omega arith) w.1 h w.2)

    pub no_pair : ((i : ℕ) → i < n → some_below i (contrary_to k points values i) ≡ false) → false ≡ pair_in k (valued_in n points values)
    no_pair t = sym (pair_none n 0 (omega arith) (λ i j l h. below_none i (contrary_to k points values i) (t i h) j l))

    -- one point more that is no pair with an earlier one
    pub unpaired_more : (i : ℕ) → ((t : ℕ) → t < i → some_below t (contrary_to k points values t) ≡ false) → some_below i (contrary_to k points values i) ≡ false
        → (t : ℕ) → t < i + 1 → some_below t (contrary_to k points values t) ≡ false
    unpaired_more i h e t l = go (ℕ_discrete t i)
      where
        go : Dec (t ≡ i) → some_below t (contrary_to k points values t) ≡ false
        go (yes u) = rw u e
        go (no u) = h t (omega arith)

    -- a variable that is the same in all points has no pair
    pub constant_none : Constant k n points → false ≡ pair_in k (valued_in n points values)
    unfolding contrary apart
    constant_none c =
        sym (pair_none n 0 (omega arith) (λ i j l h.
        let e = eq-eqb (get_or (at j).0 k 0) (get_or (at i).0 k 0) (c j (omega arith) ∙ sym (c i h)) in
        simp (e, and-false)))
