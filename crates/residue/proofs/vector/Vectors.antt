-- Vectors of residues: their lengths, their entries, and that these are residues.
use mathlib.Core.Path.{◌≡◌, refl, sym, ap, ◌∙◌, subst, ap₂}
use mathlib.Core.Bool.{cond}
use mathlib.Core.Logic.{inl, inr}
use mathlib.Core.List.{List, [], ◌∷◌, ◌++◌, map, zip_with}
use Prim.Native.Nat.{ℕ, zero, suc, ◌+◌, ◌*◌, ◌/◌, ◌%◌, ◌^◌, ◌<◌, ◌≤◌}
use native.Mathlib.Nat.{mod-lt, mod-eq_of_lt, one-mul, not-suc-le-zero, le_of_suc-le-suc}
use native.Mathlib.Numerals.{add-one}
use native.Mathlib.Omega.{arith}
use native.Mathlib.Decide.{dec_lt}
use lib.ListN.{length, get_or, set, take, drop, replicate, length-map, length-take, length-drop, length-replicate, get_or-replicate, get_or-eq_default}
use lib.Seq.{get_or-take, get_or-drop, ext_get_or}
use lib.Dec.{eqb}
use borrow.Author.Tests.{eq-eqb, ne_eqb}
use Rattle.residue.specs.Vector.{Below, add_scaled, scaled, pointwise, powered, squares_from, squares_left, dot_of}
use Rattle.residue.specs.Lists.{Among}

-- two lists joined entry by entry, and a list changed entry by entry
module _ {A B C : Type 0} (f : A → B → C) where
  pub zip_length : (a : List A) (b : List B) → length a ≡ length b → length (zip_with f a b) ≡ length a
  unfolding zip_with
  zip_length [] b h = refl
  zip_length (x ∷ a) [] h = absurd (omega arith)
  zip_length (x ∷ a) (y ∷ b) h = ap suc (zip_length a b (omega arith))

  pub zip_at : (a : List A) (b : List B) (d : A) (e : B) (z : C) (i : ℕ) → i < length a → length a ≡ length b → get_or (zip_with f a b) i z ≡ f (get_or a i d) (get_or b i e)
  unfolding zip_with
  zip_at [] b d e z i h l = absurd (not-suc-le-zero h)
  zip_at (x ∷ a) [] d e z i h l = absurd (omega arith)
  zip_at (x ∷ a) (y ∷ b) d e z zero h l = refl
  zip_at (x ∷ a) (y ∷ b) d e z (suc i) h l = zip_at a b d e z i (le_of_suc-le-suc h) (omega arith)

pub map_at : {A B : Type 0} (f : A → B) (l : List A) (d : A) (e : B) (i : ℕ) → i < length l → get_or (map f l) i e ≡ f (get_or l i d)
map_at f [] d e i h = absurd (not-suc-le-zero h)
map_at f (x ∷ l) d e zero h = refl
map_at f (x ∷ l) d e (suc i) h = map_at f l d e i (le_of_suc-le-suc h)

module _ (p c : ℕ) (a b : List ℕ) (same : length a ≡ length b) where
  pub add_scaled_length : length (add_scaled p c a b) ≡ length a
  unfolding add_scaled
  add_scaled_length = zip_length _ a b same

  pub add_scaled_at : (i : ℕ) → i < length a → get_or (add_scaled p c a b) i 0 ≡ (get_or a i 0 + c * get_or b i 0) % p
  unfolding add_scaled
  add_scaled_at i h = zip_at _ a b 0 0 0 i h same

  pub add_scaled_below : 0 < p → Below p (add_scaled p c a b)
  add_scaled_below z i h = let k : i < length a = subst (λ (n : ℕ). i < n) add_scaled_length h in rw (add_scaled_at i k) (mod-lt _ z)

module _ (p : ℕ) (a b : List ℕ) (same : length a ≡ length b) where
  pub pointwise_length : length (pointwise p a b) ≡ length a
  unfolding pointwise
  pointwise_length = zip_length _ a b same

  pub pointwise_at : (i : ℕ) → i < length a → get_or (pointwise p a b) i 0 ≡ (get_or a i 0 * get_or b i 0) % p
  unfolding pointwise
  pointwise_at i h = zip_at _ a b 0 0 0 i h same

  pub pointwise_below : 0 < p → Below p (pointwise p a b)
  pointwise_below z i h = let k : i < length a = subst (λ (n : ℕ). i < n) pointwise_length h in rw (pointwise_at i k) (mod-lt _ z)

module _ (p e : ℕ) (a b : List ℕ) (same : length a ≡ length b) where
  pub powered_length : length (powered p e a b) ≡ length a
  unfolding powered
  powered_length = zip_length _ a b same

  pub powered_at : (i : ℕ) → i < length a → get_or (powered p e a b) i 0 ≡ (get_or a i 0 * get_or b i 0 ^ e) % p
  unfolding powered
  powered_at i h = zip_at _ a b 0 0 0 i h same

  pub powered_below : 0 < p → Below p (powered p e a b)
  powered_below z i h = let k : i < length a = subst (λ (n : ℕ). i < n) powered_length h in rw (powered_at i k) (mod-lt _ z)

-- what is left of the squares: any fuel from the exponent on gives the same, so that a turn takes away what it halves
fuelled : (p j k e : ℕ) (base : List ℕ) → e ≤ j → e ≤ k → squares_from p j e base ≡ squares_from p k e base
unfolding squares_from
fuelled p zero zero e base h l = refl
fuelled p zero (suc k) e base h l = let z : e ≡ 0 = omega arith in rw (eq-eqb e 0 z)
fuelled p (suc j) zero e base h l = let z : e ≡ 0 = omega arith in rw (eq-eqb e 0 z)
fuelled p (suc j) (suc k) e base h l = ap (cond (eqb e 0) base) (fuelled p j k (e / 2) (pointwise p base base) (omega arith) (omega arith))

pub squares_turn : (p e : ℕ) (base : List ℕ) → 0 < e → squares_left p e base ≡ squares_left p (e / 2) (pointwise p base base)
unfolding squares_from
squares_turn p zero base h = absurd (not-suc-le-zero h)
squares_turn p (suc e) base h = simp (ne_eqb (suc e) 0 (λ z. omega arith)) (fuelled p e (suc e / 2) (suc e / 2) (pointwise p base base) (omega arith) (omega arith))

pub squares_none : (p e : ℕ) (base : List ℕ) → e ≡ 0 → base ≡ squares_left p e base
unfolding squares_from
squares_none p e base z = ap (λ (k : ℕ). squares_left p k base) (sym z)

module _ (p c : ℕ) (l : List ℕ) where
  pub scaled_length : length (scaled p c l) ≡ length l
  unfolding scaled
  scaled_length = length-map l _

  pub scaled_at : (i : ℕ) → i < length l → get_or (scaled p c l) i 0 ≡ (c * get_or l i 0) % p
  unfolding scaled
  scaled_at i h = map_at _ l 0 0 i h

  pub scaled_below : 0 < p → Below p (scaled p c l)
  scaled_below z i h = let k : i < length l = subst (λ (n : ℕ). i < n) scaled_length h in rw (scaled_at i k) (mod-lt _ z)

-- what is scaled by 1 stays
pub scaled_one : (p : ℕ) (l : List ℕ) → Below p l → scaled p 1 l ≡ l
scaled_one p l b =
    ext_get_or 0 (scaled p 1 l) l (scaled_length p 1 l)
    (λ i h. let k : i < length l = omega (arith, scaled_length p 1 l) in scaled_at p 1 l i k ∙ ap (λ (x : ℕ). x % p) (one-mul (get_or l i 0)) ∙ mod-eq_of_lt (b i k))

-- the sum of products: one place more at the end, and over two lists made from one
more : (a b : List ℕ) (i : ℕ) → i < length a → i < length b → dot_of (take (suc i) a) (take (suc i) b) ≡ dot_of (take i a) (take i b) + get_or a i 0 * get_or b i 0
unfolding dot_of
more [] b i h k = absurd (not-suc-le-zero h)
more (x ∷ a) [] i h k = absurd (not-suc-le-zero k)
more (x ∷ a) (y ∷ b) zero h k = omega arith
more (x ∷ a) (y ∷ b) (suc i) h k = let e = more a b i (le_of_suc-le-suc h) (le_of_suc-le-suc k) in omega arith

pub dot_more : (a b : List ℕ) (i : ℕ) → i < length a → i < length b → dot_of (take (i + 1) a) (take (i + 1) b) ≡ dot_of (take i a) (take i b) + get_or a i 0 * get_or b i 0
dot_more a b i h k = ap (λ (n : ℕ). dot_of (take n a) (take n b)) (add-one i) ∙ more a b i h k

-- residues stay residues in a part of a list, in two lists joined, after a store, and where all are 0
pub below_take : (p k : ℕ) (l : List ℕ) → Below p l → Below p (take k l)
below_take p k l b i h =
    let n = length-take k l in
    let m : i < k = omega arith in
    rw (get_or-take k l i 0 m) (b i (omega arith))

pub below_drop : (p k : ℕ) (l : List ℕ) → Below p l → Below p (drop k l)
below_drop p k l b i h = let n = length-drop k l in rw get_or-drop (b (k + i) (omega arith))

pub below_append : (p : ℕ) (l r : List ℕ) → Below p l → Below p r → Below p (l ++ r)
below_append p [] r bl br i h = br i h
below_append p (x ∷ l) r bl br zero h = bl 0 (omega arith)
below_append p (x ∷ l) r bl br (suc i) h = below_append p l r (λ j k. bl (suc j) (omega arith)) br i (le_of_suc-le-suc h)

pub below_set : (p k a : ℕ) (l : List ℕ) → a < p → Below p l → Below p (set l k a)
below_set p k a [] s b i h = absurd (not-suc-le-zero h)
below_set p zero a (x ∷ l) s b zero h = s
below_set p zero a (x ∷ l) s b (suc i) h = b (suc i) h
below_set p (suc k) a (x ∷ l) s b zero h = b 0 (omega arith)
below_set p (suc k) a (x ∷ l) s b (suc i) h = below_set p k a l s (λ j t. b (suc j) (omega arith)) i (le_of_suc-le-suc h)

pub below_zeros : (p k : ℕ) → 0 < p → Below p (replicate k 0)
below_zeros p k z i h = rw (get_or-replicate {A = ℕ} k i 0 0 (subst (λ (n : ℕ). i < n) (length-replicate {A = ℕ} k 0) h)) z

-- two rules that give the same at each member
pub map_same : {A B : Type 0} (f g : A → B) (l : List A) → ((a : A) → Among a l → f a ≡ g a) → map f l ≡ map g l
map_same f g [] h = refl
map_same {B = B} f g (a ∷ l) h = ap₂ (λ (x : B) (z : List B). x ∷ z) (h a (inl refl)) (map_same f g l (λ b mem. h b (inr mem)))

-- a bound on all numbers is one on those of a part
pub part_small : (b k at : ℕ) (l : List ℕ) → 0 < b → ((i : ℕ) → get_or l i 0 < b) → (v : ℕ) → get_or (take k (drop at l)) v 0 < b
part_small b k at l z h v = go (dec_lt v k)
  where
    go : Dec (v < k) → get_or (take k (drop at l)) v 0 < b
    go (yes u) = rw (get_or-take k (drop at l) v 0 u, get_or-drop at l v 0) (h (at + v))
    go (no u) = let e : length (take k (drop at l)) ≤ v = omega (arith, length-take k (drop at l)) in rw (get_or-eq_default (take k (drop at l)) 0 e) z

-- a list that was changed entry by entry, and one that was joined with another so
pub mapped_is : (f : ℕ → ℕ) (l new : List ℕ) → length new ≡ length l → ((i : ℕ) → i < length l → get_or new i 0 ≡ f (get_or l i 0)) → new ≡ map f l
mapped_is f l new n e =
    let m = length-map l f in
    ext_get_or 0 new (map f l) (omega arith) (λ i h. let k : i < length l = omega arith in e i k ∙ sym (map_at f l 0 0 i k))

pub joined_is : (f : ℕ → ℕ → ℕ) (a b new : List ℕ) → length a ≡ length b → length new ≡ length a
    → ((i : ℕ) → i < length a → get_or new i 0 ≡ f (get_or a i 0) (get_or b i 0)) → new ≡ zip_with f a b
joined_is f a b new s n e =
    let m = zip_length f a b s in
    ext_get_or 0 new (zip_with f a b) (omega arith) (λ i h. let k : i < length a = omega arith in e i k ∙ sym (zip_at f a b 0 0 0 i k s))
