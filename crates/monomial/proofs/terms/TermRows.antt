-- Values of monomials and of terms at all points at once: a vector of ones is multiplied by a power of one variable after another, and added up term by term.
use mathlib.Core.Path.{◌≡◌, refl, sym, ap, ap₂, subst, ◌∙◌}
use mathlib.Core.List.{List, [], ◌∷◌, ◌++◌, map, zip_with}
use Prim.Native.Nat.{ℕ, zero, suc, ◌+◌, ◌*◌, ◌%◌, ◌^◌, ◌<◌, ◌≤◌}
use native.Mathlib.Nat.{one-mul, mul-one, pow-zero, mod-eq_of_lt, mod-lt, not-suc-le-zero, le_of_suc-le-suc}
use native.Mathlib.Omega.{arith}
use lib.ListN.{length, get_or, take, drop, replicate, length-map, length-replicate, length-drop, length-append, get_or-replicate}
use lib.Seq.{ext_get_or, length-take-le, take_all, take_at, drop_at}
use Rattle.residue.specs.Congruence.{Mod}
use Rattle.residue.specs.Vector.{Below, add_scaled, powered, dot_of}
use Rattle.residue.specs.Layout.{groups, over}
use Rattle.residue.proofs.Congruence.{rfl, of, flip, reduce, ◌then◌, ◌plus◌, ◌times◌}
use Rattle.residue.proofs.vector.Vectors.{map_at, powered_length, powered_at, powered_below, map_same}
use Rattle.residue.proofs.Layouts.{take_over}
use Rattle.residue.proofs.Places.{length_groups, groups_at}
use Rattle.monomial.specs.Monomial.{monomial_at}
use Rattle.monomial.specs.Columns.{column_of}
use Rattle.monomial.specs.Terms.{term_values}
use Rattle.monomial.proofs.Loops.{value_again, value_end}
use Rattle.monomial.proofs.columns.Entries.{column_long}
use Rattle.monomial.proofs.terms.Values.{values, length_values, value_none, value_more}

-- a variable with exponent 0
pub not_raised : (p e : ℕ) (v b : List ℕ) → e ≡ 0 → length v ≡ length b → Below p v → v ≡ powered p e v b
not_raised p e v b z same below =
    ext_get_or 0 v _ (sym (powered_length p e v b same))
    (λ i h. sym (powered_at p e v b same i h ∙ ap (λ (x : ℕ). (get_or v i 0 * x) % p) (ap (λ (k : ℕ). get_or b i 0 ^ k) z ∙ pow-zero (get_or b i 0)) ∙ ap (λ (x : ℕ). x % p) (mul-one (get_or v i 0)) ∙ mod-eq_of_lt (below i h)))

-- a column at the front of an array
pub column_front : (k n : ℕ) (points column zeros : List ℕ) → column ≡ over (column_of k n points) zeros → take n column ≡ column_of k n points
column_front k n points column zeros e =
    ap₂ (λ (j : ℕ) (l : List ℕ). take j l) (sym (column_long k n points)) e ∙ take_over (column_of k n points) zeros

-- ones at the front of an array, and what stands there in their place
pub front_ones : (n k : ℕ) → n ≤ k → take {A = ℕ} n (replicate k 1) ≡ replicate n 1
front_ones zero k h = refl
front_ones (suc n) zero h = absurd (not-suc-le-zero h)
front_ones (suc n) (suc k) h = ap (λ (r : List ℕ). 1 ∷ r) (front_ones n k (le_of_suc-le-suc h))

pub front_made : (n : ℕ) (made is rest : List ℕ) → made ≡ is → length is ≡ n → take n (made ++ rest) ≡ is
front_made n made is rest e long = take_at made rest n (ap length e ∙ long) ∙ e

pub front_room : (n : ℕ) (made rest : List ℕ) → length made ≡ n → n ≤ length (made ++ rest)
front_room n made rest e = omega (arith, length-append made rest)

-- a monomial's values at all points
module _ (p n : ℕ) (a points : List ℕ) where
  abbrev pub monomial_row : List ℕ
  monomial_row = map (λ P. monomial_at P a % p) (groups 8 n points)

  pub monomial_row_long : length monomial_row ≡ n
  monomial_row_long = length-map (groups 8 n points) _ ∙ length_groups 8 n points

  pub monomial_row_below : 0 < p → Below p monomial_row
  monomial_row_below z i h = rw (map_at (λ P. monomial_at P a % p) (groups 8 n points) [] 0 i (omega (arith, monomial_row_long, length_groups 8 n points))) (mod-lt _ z)

-- The loop over the variables.
module _ (p n : ℕ) (a points : List ℕ) where
  abbrev point : ℕ → List ℕ
  point i = get_or (groups 8 n points) i []

  -- n residues; at each point what is there, times the value of the variables from k on, is the monomial's value
  abbrev pub VariablesLeft : List ℕ → ℕ → Type 0
  VariablesLeft v k = (length v ≡ n) × Below p v × ((i : ℕ) → i < n → Mod p (get_or v i 0 * monomial_at (drop k (point i)) (drop k a)) (monomial_at (point i) a))

  pub ones_left : (v : List ℕ) → 1 < p → v ≡ replicate n 1 → VariablesLeft v 0
  ones_left v h e = (
    ap length e ∙ length-replicate {A = ℕ} n 1,
    λ i l. rw (one i (subst (λ (k : ℕ). i < k) (ap length e ∙ length-replicate {A = ℕ} n 1) l)) h,
    λ i l. of (ap (λ (x : ℕ). x * monomial_at (point i) a) (one i l) ∙ one-mul (monomial_at (point i) a)),
  )
    where
      one : (i : ℕ) → i < n → get_or v i 0 ≡ 1
      one i l = ap (λ (r : List ℕ). get_or r i 0) e ∙ get_or-replicate {A = ℕ} n i 1 0 l

  pub variable_more : (v v' : List ℕ) (k : ℕ) → 0 < p → k < 8 → length a ≡ 8 → 8 * n ≤ length points → v' ≡ powered p (get_or a k 0) v (column_of k n points) → VariablesLeft v k → VariablesLeft v' (k + 1)
  unfolding column_of
  variable_more v v' k z h eight room e (long, below, left) = (
    ap length e ∙ powered_length p (get_or a k 0) v (column_of k n points) same ∙ long,
    subst (Below p) (sym e) (powered_below p (get_or a k 0) v (column_of k n points) same z),
    λ i l. of (ap (λ (x : ℕ). x * monomial_at (drop (k + 1) (point i)) (drop (k + 1) a)) (entry i l))
        then value_again p (point i) a k (get_or v i 0) (left i l) (omega (arith, point_long i l)) (omega arith) refl,
  )
    where
      same : length v ≡ length (column_of k n points)
      same = long ∙ sym (column_long k n points)

      point_long : (i : ℕ) → i < n → length (point i) ≡ 8
      point_long i l = ap length (groups_at 8 n i points [] l) ∙ length-take-le 8 (drop (8 * i) points) (omega (arith, length-drop (8 * i) points))

      coordinate : (i : ℕ) → i < n → get_or (column_of k n points) i 0 ≡ get_or (point i) k 0
      coordinate i l = map_at _ (groups 8 n points) [] 0 i (omega (arith, length_groups 8 n points))

      entry : (i : ℕ) → i < n → get_or v' i 0 ≡ (get_or v i 0 * (get_or (point i) k 0 ^ get_or a k 0 % p)) % p
      entry i l =
          ap (λ (r : List ℕ). get_or r i 0) e ∙ powered_at p (get_or a k 0) v (column_of k n points) same i (omega arith)
          ∙ ap (λ (x : ℕ). (get_or v i 0 * x ^ get_or a k 0) % p) (coordinate i l) ∙ (rfl {x = get_or v i 0} times flip (reduce p (get_or (point i) k 0 ^ get_or a k 0))).same

  pub all_left : (v : List ℕ) (k : ℕ) → 8 ≤ k → 8 * n ≤ length points → VariablesLeft v k → v ≡ monomial_row p n a points
  all_left v k h room (long, below, left) =
      ext_get_or 0 v _ (long ∙ sym (monomial_row_long p n a points))
      (λ i l. let j : i < n = omega arith in
      value_end p (point i) a k (get_or v i 0) (left i j) (omega (arith, ap length (groups_at 8 n i points [] j) ∙ length-take-le 8 (drop (8 * i) points) (omega (arith, length-drop (8 * i) points)))) (below i l)
      ∙ sym (map_at _ (groups 8 n points) [] 0 i (omega (arith, length_groups 8 n points))))

over_none : (n w : ℕ) → n ≤ w → over (replicate n 0) (replicate w 0) ≡ replicate w 0
unfolding over
over_none zero w h = refl
over_none (suc n) zero h = absurd (not-suc-le-zero h)
over_none (suc n) (suc w) h = ap (λ (r : List ℕ). 0 ∷ r) (over_none n w (le_of_suc-le-suc h))

-- The loop over the terms: the values of the first i.
module _ (p n : ℕ) (cs t points : List ℕ) where
  abbrev pub sums : ℕ → List ℕ
  sums i = map (λ P. dot_of (take i cs) (take i (values P cs t)) % p) (groups 8 n points)

  pub sums_long : (i : ℕ) → length (sums i) ≡ n
  sums_long i = length-map (groups 8 n points) _ ∙ length_groups 8 n points

  joined : (c : ℕ) (f g h : List ℕ → ℕ) → ((P : List ℕ) → (f P + c * g P) % p ≡ h P) → (S : List (List ℕ)) → add_scaled p c (map f S) (map g S) ≡ map h S
  unfolding add_scaled zip_with
  joined c f g h e [] = refl
  joined c f g h e (P ∷ S) = ap₂ (λ (x : ℕ) (r : List ℕ). x ∷ r) (e P) (joined c f g h e S)

  pub sums_below : 0 < p → (i : ℕ) → Below p (sums i)
  sums_below z i k h = rw (map_at (λ P. dot_of (take i cs) (take i (values P cs t)) % p) (groups 8 n points) [] 0 k (omega (arith, sums_long i, length_groups 8 n points))) (mod-lt _ z)

  -- before the first the row is as it was
  pub sums_none : (w : ℕ) (row : List ℕ) → n ≤ w → row ≡ replicate w 0 → row ≡ over (sums 0) row
  sums_none w row h e = e ∙ sym (ap₂ over zeros e ∙ over_none n w h)
    where
      zeros : sums 0 ≡ replicate n 0
      zeros =
          ext_get_or 0 (sums 0) _ (sums_long 0 ∙ sym (length-replicate {A = ℕ} n 0))
          (λ k l. let j : k < n = omega (arith, sums_long 0) in
          map_at (λ P. dot_of (take 0 cs) (take 0 (values P cs t)) % p) (groups 8 n points) [] 0 k (omega (arith, length_groups 8 n points)) ∙ sym (value_none p) ∙ sym (get_or-replicate {A = ℕ} n k 0 0 j))

  pub sums_more : (i : ℕ) → i < length cs → add_scaled p (get_or cs i 0) (sums i) (monomial_row p n (take 8 (drop (8 * i) t)) points) ≡ sums (i + 1)
  sums_more i h =
      joined (get_or cs i 0) _ _ _
      (λ P. let d : ℕ = dot_of (take i cs) (take i (values P cs t)) % p in
      let x : ℕ = monomial_at P (take 8 (drop (8 * i) t)) % p in
      (rfl {x = d} plus flip (reduce p (get_or cs i 0 * x))).same ∙ value_more p P cs t i d x ((get_or cs i 0 * x) % p) h refl refl refl)
      (groups 8 n points)

  -- one term more in the row
  pub row_more : (i k : ℕ) (row w new : List ℕ) → i < length cs → k ≡ 8 → row ≡ over (sums i) w
      → new ≡ add_scaled p (get_or cs i 0) (take n row) (monomial_row p n (take k (drop (8 * i) t)) points) → new ++ drop n row ≡ over (sums (i + 1)) w
  unfolding over
  row_more i k row w new h e f g =
      ap₂ (λ (a b : List ℕ). a ++ b)
      (g ∙ ap₂ (λ (l : List ℕ) (j : ℕ). add_scaled p (get_or cs i 0) l (monomial_row p n (take j (drop (8 * i) t)) points)) (ap (take n) f ∙ take_at (sums i) (drop (length (sums i)) w) n (sums_long i)) e ∙ sums_more i h)
      (ap (drop n) f ∙ drop_at (sums i) (drop (length (sums i)) w) n (sums_long i) ∙ ap (λ (j : ℕ). drop j w) (sums_long i ∙ sym (sums_long (i + 1))))

  -- all terms
  pub sums_all : (i : ℕ) → i ≡ length cs → sums i ≡ term_values p cs t n points
  unfolding term_values
  sums_all i e =
      map_same _ _ (groups 8 n points)
      (λ P mem. ap₂ (λ (a b : List ℕ). dot_of a b % p) (take_all i cs (omega arith)) (take_all i (values P cs t) (omega (arith, length_values P cs t))))
