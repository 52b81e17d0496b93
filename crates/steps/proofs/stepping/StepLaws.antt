-- A step of the model: the powers of a state's coordinates, and the values of monomials out of their table.
use mathlib.Core.Path.{◌≡◌, refl, sym, ◌∙◌, ap, ap₂, subst}
use mathlib.Core.List.{List, [], ◌∷◌, ◌++◌, map, map-map, zip_with}
use Prim.Native.Nat.{ℕ, zero, suc, ◌+◌, ◌*◌, ◌%◌, ◌^◌, ◌<◌, ◌≤◌}
use native.Mathlib.Nat.{mod-lt, mod-eq_of_lt, pow-zero, pow-succ', mul_comm, mul_assoc, one-mul, mul-one, not-suc-le-zero}
use native.Mathlib.Numerals.{add-one}
use native.Mathlib.Decide.{dec_lt}
use native.Mathlib.Omega.{arith}
use lib.ListN.{length, get_or, take, drop, replicate, length-map, length-append, get_or-append, get_or-eq_default}
use lib.Seq.{get_or-take, get_or-drop, get_or_at, take_at}
use Rattle.residue.specs.Lists.{Among}
use Rattle.residue.specs.Vector.{Below, pointwise, dot_of}
use Rattle.residue.specs.Layout.{fill, in_places, over, groups, length_fill}
use Rattle.residue.proofs.Congruence.{rfl, reduce, ◌times◌}
use Rattle.residue.proofs.Layouts.{fill_at, take_fill, below_fill}
use Rattle.residue.proofs.Places.{length_groups, groups_at, groups_long, place_at, no_places, place_more}
use Rattle.residue.proofs.vector.Vectors.{map_at, map_same}
use Rattle.residue.proofs.vector.Filled.{filled}
use Rattle.residue.proofs.bytes.Copies.{mapped}
use Rattle.monomial.specs.Monomial.{monomial_at}
use Rattle.monomial.specs.Columns.{column_of}
use Rattle.monomial.proofs.columns.Entries.{column_long}
use Rattle.specification.proofs.Recognised.{map_take}
use Rattle.specification.proofs.ideal.Lists.{index_of}
use Rattle.construction.proofs.drawing.Grounds.{places_below}
use Rattle.steps.specs.Stepping.{powers_of, factors_of, values_at, step_of}

-- the e-th powers of residues
abbrev pub raised : ℕ → ℕ → List ℕ → List ℕ
raised p e B = map (λ x. x ^ e % p) B

pub raised_none : (p k : ℕ) (B : List ℕ) → 2 ≤ p → length B ≡ k → replicate k 1 ≡ raised p 0 B
raised_none p zero [] h e = refl
raised_none p zero (x ∷ B) h e = absurd (omega arith)
raised_none p (suc k) [] h e = absurd (omega arith)
raised_none p (suc k) (x ∷ B) h e = ap₂ (λ (y : ℕ) (l : List ℕ). y ∷ l) (sym (rw (pow-zero x) (mod-eq_of_lt h))) (raised_none p k B h (omega arith))

pub raised_more : (p e : ℕ) (B : List ℕ) → pointwise p (raised p e B) B ≡ raised p (e + 1) B
unfolding pointwise zip_with
raised_more p e [] = refl
raised_more p e (x ∷ B) =
    let f : x ^ e * x ≡ x ^ (e + 1) = mul_comm (x ^ e) x ∙ sym (rw (add-one e) (pow-succ' x e)) in
    ap₂ (λ (y : ℕ) (l : List ℕ). y ∷ l) ((reduce p (x ^ e) times rfl {x = x}).same ∙ ap (λ (z : ℕ). z % p) f) (raised_more p e B)

pub remainders_low : {A : Type 0} (p : ℕ) (f : A → ℕ) (l : List A) → 0 < p → Below p (map (λ x. f x % p) l)
remainders_low p f [] h i k = absurd (omega arith)
remainders_low p f (x ∷ l) h zero k = mod-lt (f x) h
remainders_low p f (x ∷ l) h (suc i) k = remainders_low p f l h i (omega arith)

pub raised_front : (p e : ℕ) (P : List ℕ) → length P ≡ 8 → take 8 (raised p e (fill 16 P)) ≡ raised p e P
raised_front p e P h = sym (map_take (λ x. x ^ e % p) 8 (fill 16 P)) ∙ ap (raised p e) (take_fill 8 16 P h (omega arith))

-- The table of powers.
module _ (p : ℕ) (P : List ℕ) where
  powers_long : (N : ℕ) → length (powers_of p P N) ≡ N
  unfolding powers_of
  powers_long zero = refl
  powers_long (suc N) = length-append (powers_of p P N) (raised p N P ∷ []) ∙ omega (arith, powers_long N)

  powers_at : (N e : ℕ) → e < N → get_or (powers_of p P N) e [] ≡ raised p e P
  unfolding powers_of
  powers_at zero e h = absurd (not-suc-le-zero h)
  powers_at (suc N) e h = go (dec_lt e N) (λ l. powers_at N e l)
    where
      go : Dec (e < N) → (e < N → get_or (powers_of p P N) e [] ≡ raised p e P) → get_or (powers_of p P N ++ (raised p N P ∷ [])) e [] ≡ raised p e P
      go (yes l) f = get_or-append (powers_of p P N) (raised p N P ∷ []) [] e (rw (powers_long N) l) ∙ f l
      go (no l) f = let d : N ≡ e = omega (arith, l) in get_or_at (powers_of p P N) (raised p N P) [] [] e (powers_long N ∙ d) ∙ ap (λ (k : ℕ). raised p k P) d

  pub powers_none : replicate 2048 0 ≡ fill 2048 (in_places 8 (powers_of p P 0))
  unfolding powers_of
  powers_none = no_places 8 2048

  pub powers_more : (e j : ℕ) (powers part : List ℕ) → length P ≡ 8 → e < 256 → powers ≡ fill 2048 (in_places 8 (powers_of p P e)) → j ≡ 8
      → part ≡ over (raised p e P) (take j (drop (8 * e) powers))
      → take (8 * e) powers ++ (part ++ drop j (drop (8 * e) powers)) ≡ fill 2048 (in_places 8 (powers_of p P (e + 1)))
  unfolding powers_of
  powers_more e j powers part h l f i g =
      rw (add-one e)
      (place_more 8 2048 (powers_of p P e) (raised p e P) powers part (8 * e) j f (ap (λ (z : ℕ). 8 * z) (sym (powers_long e))) i (omega arith) (omega (arith, h, length-map P (λ x. x ^ e % p))) g)

  module _ (N : ℕ) (few : N ≤ 256) (powers : List ℕ) (table : powers ≡ fill 2048 (in_places 8 (powers_of p P N))) where
    pub power_at : length P ≡ 8 → (e k : ℕ) → e < N → k < 8 → get_or powers (8 * e + k) 0 ≡ get_or P k 0 ^ e % p
    power_at h e k l i =
        ap (λ (t : List ℕ). get_or t (8 * e + k) 0) table
        ∙ sym (get_or-take 8 (drop (8 * e) (fill 2048 (in_places 8 (powers_of p P N)))) k 0 i ∙ get_or-drop (8 * e) (fill 2048 (in_places 8 (powers_of p P N))) k 0)
        ∙ ap (λ (r : List ℕ). get_or r k 0) (place_at 8 2048 (powers_of p P N) e [] (omega (arith, powers_long N)) (omega (arith, powers_long N)))
        ∙ fill_at 8 _ k i ∙ ap (λ (r : List ℕ). get_or r k 0) (powers_at N e l) ∙ map_at (λ x. x ^ e % p) P 0 0 k (omega arith)

    pub powers_below : 0 < p → Below p powers
    powers_below h = subst (Below p) (sym table) (below_fill p 2048 _ h (places_below p 8 (powers_of p P N) h each))
      where
        each : (R : List ℕ) → Among R (powers_of p P N) → Below p R
        each R mem = let w = index_of (powers_of p P N) [] R mem in
            subst (Below p) (sym (powers_at N w.0 (omega (arith, w.1, powers_long N))) ∙ w.2) (remainders_low p (λ x. x ^ w.0) P h)

-- Values of monomials.
value_more : (k : ℕ) (P a : List ℕ) → k < length P → k < length a → monomial_at (take (suc k) P) a ≡ monomial_at (take k P) a * get_or P k 0 ^ get_or a k 0
value_more k [] a h l = absurd (omega arith)
value_more k (x ∷ P) [] h l = absurd (omega arith)
value_more zero (x ∷ P) (e ∷ a) h l = mul-one (x ^ e) ∙ sym (one-mul (x ^ e))
value_more (suc k) (x ∷ P) (e ∷ a) h l = ap (λ (z : ℕ). x ^ e * z) (value_more k P a (omega arith) (omega arith)) ∙ sym (mul_assoc (x ^ e) (monomial_at (take k P) a) (get_or P k 0 ^ get_or a k 0))

factors_of_lem : {A : Type 0} (p : ℕ) (f h : A → ℕ) (l : List A) → pointwise p (map f l) (map h l) ≡ map (λ a. (f a * h a) % p) l
unfolding pointwise zip_with
factors_of_lem p f h [] = refl
factors_of_lem p f h (a ∷ l) = ap (λ (r : List ℕ). (f a * h a) % p ∷ r) (factors_of_lem p f h l)

pub values_none : (p n : ℕ) (standard P : List ℕ) → 2 ≤ p → replicate n 1 ≡ values_at p 0 n standard P
unfolding values_at groups
values_none p zero standard P h = refl
values_none p (suc n) standard P h = ap₂ (λ (x : ℕ) (r : List ℕ). x ∷ r) (sym (mod-eq_of_lt h)) (values_none p n (drop 8 standard) P h)

pub values_long : (p m n : ℕ) (standard P : List ℕ) → length (values_at p m n standard P) ≡ n
unfolding values_at
values_long p m n standard P = length-map (groups 8 n standard) _ ∙ length_groups 8 n standard

pub values_below : (p m n : ℕ) (standard P : List ℕ) → 0 < p → Below p (values_at p m n standard P)
unfolding values_at
values_below p m n standard P h = remainders_low p (monomial_at (take m P)) (groups 8 n standard) h

below_all : (p : ℕ) (l : List ℕ) → 0 < p → Below p l → (i : ℕ) → get_or l i 0 < p
below_all p l h low i = go (dec_lt i (length l))
  where
    go : Dec (i < length l) → get_or l i 0 < p
    go (yes k) = low i k
    go (no k) = let z : get_or l i 0 ≡ 0 = get_or-eq_default l 0 (omega (arith, k)) in omega arith

module _ (p n k : ℕ) (standard P powers : List ℕ) where
  pub factors_long : length (factors_of k n standard powers) ≡ n
  unfolding factors_of
  factors_long = length-map (column_of k n standard) _ ∙ column_long k n standard

  pub factors_below : k < 8 → 0 < p → Below p powers → Below p (factors_of k n standard powers)
  unfolding factors_of
  factors_below h z low i d =
      rw (map_at (λ e. get_or powers (8 * e + k) 0) (column_of k n standard) 0 0 i (omega (arith, d, length-map (column_of k n standard) (λ e. get_or powers (8 * e + k) 0)))) (below_all p powers z low _)

  pub values_more : (N : ℕ) → length P ≡ 8 → k < 8 → 8 * n ≤ length standard → N ≤ 256 → ((i : ℕ) → i < 8 * n → get_or standard i 0 < N)
      → powers ≡ fill 2048 (in_places 8 (powers_of p P N)) → pointwise p (values_at p k n standard P) (factors_of k n standard powers) ≡ values_at p (k + 1) n standard P
  unfolding values_at factors_of column_of
  values_more N long h l few low table =
      ap (pointwise p (values_at p k n standard P)) (map-map (λ e. get_or powers (8 * e + k) 0) (λ a. get_or a k 0) (groups 8 n standard))
      ∙ factors_of_lem p (λ a. monomial_at (take k P) a % p) (λ a. get_or powers (8 * get_or a k 0 + k) 0) (groups 8 n standard)
      ∙ map_same _ _ (groups 8 n standard) each
    where
      exponent : (a : List ℕ) → Among a (groups 8 n standard) → get_or a k 0 < N
      exponent a mem = let w = index_of (groups 8 n standard) [] a mem in
          let i : w.0 < n = omega (arith, w.1, length_groups 8 n standard) in
          let e = ap (λ (r : List ℕ). get_or r k 0) (sym w.2 ∙ groups_at 8 n w.0 standard [] i) ∙ get_or-take 8 (drop (8 * w.0) standard) k 0 h ∙ get_or-drop (8 * w.0) standard k 0 in
          rw e (low (8 * w.0 + k) (omega arith))

      each : (a : List ℕ) → Among a (groups 8 n standard) → (monomial_at (take k P) a % p * get_or powers (8 * get_or a k 0 + k) 0) % p ≡ monomial_at (take (k + 1) P) a % p
      each a mem =
          ap (λ (y : ℕ). (monomial_at (take k P) a % p * y) % p) (power_at p P N few powers table long (get_or a k 0) k (exponent a mem) h)
          ∙ (reduce p (monomial_at (take k P) a) times reduce p (get_or P k 0 ^ get_or a k 0)).same
          ∙ ap (λ (z : ℕ). z % p) (sym (rw (add-one k) (value_more k P a (omega arith) (omega (arith, groups_long 8 n standard l a mem)))))

  pub factors_put : (factors : List ℕ) (j : ℕ) → j ≡ n → n ≤ length factors
      → filled (λ i. get_or powers (8 * get_or (column_of k n standard) i 0 + k) 0) j factors ≡ over (factors_of k n standard powers) factors
  unfolding factors_of
  factors_put factors j e h = let c = column_long k n standard in mapped (λ x. get_or powers (8 * x + k) 0) 0 (column_of k n standard) factors j (e ∙ sym c) (omega arith)

-- The step.
pub front_ones : (n k : ℕ) → n ≤ k → take n (replicate {A = ℕ} k 1) ≡ replicate n 1
front_ones zero k h = refl
front_ones (suc n) zero h = absurd (omega arith)
front_ones (suc n) (suc k) h = ap (λ (l : List ℕ). 1 ∷ l) (front_ones n k (omega arith))

module _ (p m n : ℕ) (standard P : List ℕ) where
  -- the values at the front of a longer table
  pub values_front : (values found behind : List ℕ) → length values ≡ n → found ≡ values_at p m (length values) standard P → take n (found ++ behind) ≡ values_at p m n standard P
  values_front values found behind h e =
      let f = e ∙ ap (λ (k : ℕ). values_at p m k standard P) h in take_at found behind n (ap length f ∙ values_long p m n standard P) ∙ f

  pub step_sums : (genes values : List ℕ) → values ≡ values_at p m n standard P
      → fill 8 (map (λ cs. dot_of (take (length values) cs) values % p) (groups 64 m genes)) ≡ step_of p m n standard genes P
  unfolding step_of
  step_sums genes values e =
      ap (λ (l : List ℕ). fill 8 (map (λ cs. dot_of (take (length l) cs) l % p) (groups 64 m genes))) e
      ∙ ap (λ (k : ℕ). fill 8 (map (λ cs. dot_of (take k cs) (values_at p m n standard P) % p) (groups 64 m genes))) (values_long p m n standard P)

-- a state in 8 bytes
module _ (p m n : ℕ) (standard genes P : List ℕ) where
  pub step_long : length (step_of p m n standard genes P) ≡ 8
  unfolding step_of
  step_long = length_fill 8 _

  pub step_below : 0 < p → Below p (step_of p m n standard genes P)
  unfolding step_of
  step_below h = below_fill p 8 _ h (remainders_low p (λ cs. dot_of (take n cs) (values_at p m n standard P)) (groups 64 m genes) h)
