-- Laws of layouts: filling up, places of one width, and writing over the front of a lent list.
use mathlib.Core.Path.{◌≡◌, refl, ap, sym, ◌∙◌, ap₂}
use mathlib.Core.List.{List, [], ◌∷◌, ◌++◌, map, append_assoc, append-nil}
use Prim.Native.Nat.{ℕ, zero, suc, ◌<◌, ◌≤◌, ◌+◌, ◌*◌, ◌-◌, ◌%◌}
use native.Mathlib.Nat.{not-suc-le-zero, le_of_suc-le-suc, zero-add, mod-lt}
use native.Mathlib.Omega.{arith}
use native.Mathlib.Decide.{dec_lt}
use lib.ListN.{length, get_or, take, replicate, length-append, drop, length-drop, drop_of_length-le, set, get_or-eq_default}
use lib.Seq.{take_at, drop_at}
use lib.Dec.{T}
use Rattle.residue.specs.Layout.{fill, length_fill, in_places, groups, over, begins}
use Rattle.residue.specs.Vector.{Below}
use Rattle.residue.proofs.bytes.Equality.{same_self}
use Rattle.residue.proofs.vector.Vectors.{below_append, below_drop, below_zeros}

pub fill_at : (k : ℕ) (l : List ℕ) (i : ℕ) → i < k → get_or (fill k l) i 0 ≡ get_or l i 0
unfolding fill
fill_at zero l i h = absurd (not-suc-le-zero h)
fill_at (suc k) [] zero h = refl
fill_at (suc k) [] (suc i) h = fill_at k [] i (le_of_suc-le-suc h)
fill_at (suc k) (a ∷ l) zero h = refl
fill_at (suc k) (a ∷ l) (suc i) h = fill_at k l i (le_of_suc-le-suc h)

-- nothing is cut and nothing filled up
pub fill_whole : (l : List ℕ) → fill (length l) l ≡ l
unfolding fill
fill_whole [] = refl
fill_whole (a ∷ l) = ap (λ (z : List ℕ). a ∷ z) (fill_whole l)

pub fill_exact : (k : ℕ) (l : List ℕ) → length l ≡ k → fill k l ≡ l
fill_exact k l e = ap (λ (n : ℕ). fill n l) (sym e) ∙ fill_whole l

-- filled up, and cut or filled up again
pub fill_twice : (j k : ℕ) (l : List ℕ) → j ≤ k → fill j (fill k l) ≡ fill j l
unfolding fill
fill_twice zero k l h = refl
fill_twice (suc j) zero l h = absurd (not-suc-le-zero h)
fill_twice (suc j) (suc k) [] h = ap (λ (z : List ℕ). 0 ∷ z) (fill_twice j k [] (le_of_suc-le-suc h))
fill_twice (suc j) (suc k) (a ∷ l) h = ap (λ (z : List ℕ). a ∷ z) (fill_twice j k l (le_of_suc-le-suc h))

pub fill_front : (j k : ℕ) (l : List ℕ) → j ≤ k → take j (fill k l) ≡ fill j l
unfolding fill
fill_front zero k l h = refl
fill_front (suc j) zero l h = absurd (not-suc-le-zero h)
fill_front (suc j) (suc k) [] h = ap (λ (z : List ℕ). 0 ∷ z) (fill_front j k [] (le_of_suc-le-suc h))
fill_front (suc j) (suc k) (a ∷ l) h = ap (λ (z : List ℕ). a ∷ z) (fill_front j k l (le_of_suc-le-suc h))

pub take_fill : (n k : ℕ) (l : List ℕ) → length l ≡ n → n ≤ k → take n (fill k l) ≡ l
take_fill n k l e h = fill_front n k l h ∙ fill_exact n l e

-- zeros hold 0 at each place, and beyond
pub zeros_at : (m k : ℕ) → ◌≡◌ {A = ℕ} (get_or (replicate m 0) k 0) 0
zeros_at zero k = refl
zeros_at (suc m) zero = refl
zeros_at (suc m) (suc k) = zeros_at m k

pub fill_zeros : (k : ℕ) → fill k [] ≡ replicate k 0
unfolding fill
fill_zeros zero = refl
fill_zeros (suc k) = ap (λ (z : List ℕ). 0 ∷ z) (fill_zeros k)

-- what is filled up is behind
pub fill_append : (xs ys : List ℕ) (k : ℕ) → fill (length xs + k) (xs ++ ys) ≡ xs ++ fill k ys
unfolding fill
fill_append [] ys k = rw zero-add
fill_append (x ∷ xs) ys k =
    let e : suc (length xs) + k ≡ suc (length xs + k) = omega arith in
    ap (λ (n : ℕ). fill n (x ∷ (xs ++ ys))) e ∙ ap (λ (z : List ℕ). x ∷ z) (fill_append xs ys k)

pub length_places : (w : ℕ) (S : List (List ℕ)) → length (in_places w S) ≡ w * length S
unfolding in_places
length_places w [] = omega arith
length_places w (r ∷ S) = length-append (fill w r) (in_places w S) ∙ omega (arith, length_fill w r, length_places w S)

-- the rows read back from their places
pub places_back : (w : ℕ) (S : List (List ℕ)) (t : List ℕ) → groups w (length S) (in_places w S ++ t) ≡ map (fill w) S
unfolding groups in_places
places_back w [] t = refl
places_back w (r ∷ S) t =
    rw (append_assoc (fill w r) (in_places w S) t, take_at (fill w r) (in_places w S ++ t) w (length_fill w r), drop_at (fill w r) (in_places w S ++ t) w (length_fill w r))
    (ap (λ (z : List (List ℕ)). fill w r ∷ z) (places_back w S t))

-- a table is its places and zeros behind them
pub table_split : (w : ℕ) (S : List (List ℕ)) (k : ℕ) → fill (w * length S + k) (in_places w S) ≡ in_places w S ++ replicate k 0
table_split w S k =
    ap₂ (λ (n : ℕ) (l : List ℕ). fill (n + k) l) (sym (length_places w S)) (sym (append-nil (in_places w S))) ∙ fill_append (in_places w S) [] k
    ∙ ap (λ (z : List ℕ). in_places w S ++ z) (fill_zeros k)

-- Writing over the front.
pub over_over : (a b t : List ℕ) → length a ≡ length b → over a (over b t) ≡ over a t
unfolding over
over_over a b t e = ap (λ (z : List ℕ). a ++ z) (drop_at b (drop (length b) t) (length a) (sym e) ∙ ap (λ (n : ℕ). drop n t) (sym e))

pub length_over : (a t : List ℕ) → length a ≤ length t → length (over a t) ≡ length t
unfolding over
length_over a t h = length-append a (drop (length a) t) ∙ omega (arith, length-drop (length a) t)

-- all of it
pub over_all : (a t : List ℕ) → length a ≡ length t → over a t ≡ a
unfolding over
over_all a t e = ap (λ (z : List ℕ). a ++ z) (drop_of_length-le t {i = length a} (omega arith)) ∙ append-nil a

-- a front that was lent and came back
pub answered : (k : ℕ) (l t new : List ℕ) → new ≡ fill k l → new ++ drop k t ≡ over (fill k l) t
unfolding over
answered k l t new e = ap₂ (λ (z : List ℕ) (n : ℕ). z ++ drop n t) e (sym (length_fill k l))

pub take_over : (a t : List ℕ) → take (length a) (over a t) ≡ a
unfolding over
take_over a t = take_at a (drop (length a) t) (length a) refl

-- a table that is written, in its size
pub over_sized : (k : ℕ) (new old : List ℕ) → length new ≡ k → take k (over new old) ≡ new
over_sized k new old e = ap (λ (j : ℕ). take j (over new old)) (sym e) ∙ take_over new old

-- two tables of one layout agree in each byte of its size
pub over_same : (k : ℕ) (a b : List ℕ) → a ≡ b → (u v : List ℕ) → length a ≡ k → take k (over a u) ≡ take k (over b v)
over_same k a b e u v l = over_sized k a u l ∙ e ∙ sym (over_sized k b v (ap length (sym e) ∙ l))

pub begins_over : (a t : List ℕ) → T (begins a (over a t))
unfolding begins
begins_over a t = rw (take_over a t) (same_self a)

pub fill_cut : (k : ℕ) (l : List ℕ) → k ≤ length l → fill k l ≡ take k l
unfolding fill
fill_cut zero l h = refl
fill_cut (suc k) [] h = absurd (omega arith)
fill_cut (suc k) (a ∷ l) h = ap (λ (z : List ℕ). a ∷ z) (fill_cut k l (le_of_suc-le-suc h))

-- a list filled up is the list and zeros
pub fill_tail : (k : ℕ) (l : List ℕ) → length l ≤ k → fill k l ≡ l ++ replicate (k - length l) 0
fill_tail k l h =
    let e : k ≡ length l + (k - length l) = omega arith in
    ap₂ fill e (sym (append-nil l)) ∙ fill_append l [] (k - length l) ∙ ap (λ (z : List ℕ). l ++ z) (fill_zeros (k - length l))

-- one number more at the end of a list that is filled up
pub fill_put : (w : ℕ) (l : List ℕ) (v : ℕ) → length l < w → set (fill w l) (length l) v ≡ fill w (l ++ (v ∷ []))
unfolding fill
fill_put zero l v h = absurd (omega arith)
fill_put (suc w) [] v h = refl
fill_put (suc w) (x ∷ l) v h = ap (λ (z : List ℕ). x ∷ z) (fill_put w l v (le_of_suc-le-suc h))

-- cut shorter
pub fill_take : (m k : ℕ) (l : List ℕ) → m ≤ k → k ≤ length l → fill m (take k l) ≡ take m l
unfolding fill
fill_take zero k l h e = refl
fill_take (suc m) zero l h e = absurd (omega arith)
fill_take (suc m) (suc k) [] h e = absurd (omega arith)
fill_take (suc m) (suc k) (x ∷ l) h e = ap (λ (z : List ℕ). x ∷ z) (fill_take m k l (le_of_suc-le-suc h) (le_of_suc-le-suc e))

-- residues filled up are residues
pub below_fill : (p k : ℕ) (l : List ℕ) → 0 < p → Below p l → Below p (fill k l)
below_fill p k l z b i h = rw (fill_at k l i (omega (arith, length_fill k l))) (go (dec_lt i (length l)))
  where
    go : Dec (i < length l) → get_or l i 0 < p
    go (yes u) = b i u
    go (no u) = let e : length l ≤ i = omega (arith, u) in rw (get_or-eq_default l 0 e) z

-- values, reduced, with zeros behind
pub remainders_below : {A : Type 0} (p : ℕ) (f : A → ℕ) (l : List A) (k : ℕ) → 0 < p → Below p (over (map (λ a. f a % p) l) (replicate k 0))
unfolding over
remainders_below {A} p f l k z = below_append p (map (λ a. f a % p) l) _ (go l) (below_drop p (length (map (λ a. f a % p) l)) (replicate k 0) (below_zeros p k z))
  where
    go : (l : List A) → Below p (map (λ a. f a % p) l)
    go [] i h = absurd (omega arith)
    go (a ∷ l) zero h = mod-lt (f a) z
    go (a ∷ l) (suc i) h = go l i (le_of_suc-le-suc h)
