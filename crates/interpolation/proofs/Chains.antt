-- Chains of the points whose keys without a variable leave the same remainder: all pairs of the variable are in one.
use mathlib.Core.Path.{◌≡◌, refl, sym, ◌∙◌, ap}
use mathlib.Core.Bool.{Bool, true, false, ◌&&◌, and-true, and-false}
use mathlib.Core.List.{List, [], ◌∷◌}
use mathlib.Core.Logic.{◌≢◌}
use Prim.Native.Nat.{ℕ, zero, suc, ◌+◌, ◌-◌, ◌*◌, ◌^◌, ◌%◌, ◌<◌, ◌≤◌}
use native.Mathlib.Decide.{ℕ_discrete}
use native.Mathlib.Nat.{pow-zero, pow-suc}
use native.Mathlib.Numerals.{unary_clauses}
use native.Mathlib.Omega.{arith}
use lib.ListN.{length, get_or, set, replicate}
use lib.Seq.{get_or-set_same, get_or-set_other}
use borrow.Author.Tests.{eq-eqb, ne_eqb}
use Rattle.residue.specs.Lists.{key_of}
use Rattle.residue.proofs.Tests.{true_told}
use Rattle.residue.proofs.Layouts.{zeros_at}
use Rattle.specification.specs.Needed.{alike, apart, contrary}
use Rattle.specification.proofs.needed.Decided.{lists_told}
use Rattle.interpolation.specs.Pairs.{point_at, rest_of, Rests, chain_of, Last, Chained, some_below, contrary_to}
use Rattle.interpolation.proofs.PairSearch.{below_off, below_there, below_zero}

-- what the coordinates of a point count in its key
abbrev weights : List ℕ
weights = 72057594037927936 ∷ 281474976710656 ∷ 1099511627776 ∷ 4294967296 ∷ 16777216 ∷ 65536 ∷ 256 ∷ 1 ∷ []

pub weight : (k : ℕ) → k < 8 → get_or weights k 0 ≡ 256 ^ (7 - k)
weight zero h = refl
weight (suc zero) h = refl
weight (suc (suc zero)) h = refl
weight (suc (suc (suc zero))) h = refl
weight (suc (suc (suc (suc zero)))) h = refl
weight (suc (suc (suc (suc (suc zero))))) h = refl
weight (suc (suc (suc (suc (suc (suc zero)))))) h = refl
weight (suc (suc (suc (suc (suc (suc (suc zero))))))) h = refl
weight (suc (suc (suc (suc (suc (suc (suc (suc k)))))))) h = absurd (omega arith)

key_front : (n k : ℕ) (P : List ℕ) → n ≤ k → key_of n (set P k 0) ≡ key_of n P
unfolding key_of
key_front zero k P h = refl
key_front (suc n) k P h = rw (key_front n k P (omega arith), get_or-set_other P k n 0 0 (λ z. omega arith))

-- d digits come after the one that is left out
key_left : (n d k : ℕ) (P : List ℕ) → n ≡ k + d → k < length P → key_of (suc n) P ≡ 256 ^ d * get_or P k 0 + key_of (suc n) (set P k 0)
unfolding key_of
key_left n zero k P e h = let u : n ≡ k = omega arith in rw (u, key_front k k P (omega arith), get_or-set_same P k 0 0 h, pow-zero 256) (omega arith)
key_left zero (suc d) k P e h = absurd (omega arith)
key_left (suc n) (suc d) k P e h =
    rw (get_or-set_other P k (suc n) 0 0 (λ z. omega arith), pow-suc 256 d) (omega (arith, key_left n d k P (omega arith) h))

pub left_out : (P : List ℕ) (k w : ℕ) → length P ≡ 8 → k < 8 → w ≡ 256 ^ (7 - k) → key_of 8 P ≡ w * get_or P k 0 + rest_of k P
left_out P k w l h e = rw e (key_left 7 (7 - k) k P (omega arith) (omega arith))

refuted : (b : Bool) → (b ≡ true → ⊥) → b ≡ false
refuted true h = absurd (h refl)
refuted false h = refl

and_first : (x y : Bool) → (x && y) ≡ true → x ≡ true
and_first true y e = refl
and_first false y e = e

-- one key more
pub rests_more : (k i : ℕ) (points rests : List ℕ) (x : ℕ) → i < length rests → x ≡ rest_of k (point_at points i) → Rests k i points rests
    → Rests k (i + 1) points (set rests i x)
rests_more k i points rests x room e h j l = go (ℕ_discrete j i)
  where
    go : Dec (j ≡ i) → get_or (set rests i x) j 0 ≡ rest_of k (point_at points j)
    go (yes u) = rw u (get_or-set_same rests i x 0 room ∙ e)
    go (no u) = get_or-set_other rests i j x 0 u ∙ h j (omega arith)

module _ (rests : List ℕ) where
  -- the last of each chain among the first i points
  abbrev pub Lasts : ℕ → List ℕ → Type 0
  Lasts i last = (h : ℕ) → h < 251 → Last rests h i (get_or last h 0)

  last_none : (h : ℕ) → Last rests h 0 0
  last_none h = record { early = omega arith; belongs = λ j e. absurd (omega arith); others = λ j l m. absurd (omega arith) }

  pub lasts_none : Lasts 0 (replicate 251 0)
  lasts_none h l = rw (zeros_at 251 h) (last_none h)

  pub lasts_more : (i : ℕ) (last : List ℕ) → length last ≡ 251 → chain_of rests i < 251 → Lasts i last → Lasts (i + 1) (set last (chain_of rests i) (i + 1))
  lasts_more i last long low t h l = go (ℕ_discrete h (chain_of rests i))
    where
      go : Dec (h ≡ chain_of rests i) → Last rests h (i + 1) (get_or (set last (chain_of rests i) (i + 1)) h 0)
      go (yes u) = rw (u, get_or-set_same last (chain_of rests i) (i + 1) 0 (omega arith)) (record {
        early = omega arith;
        belongs = λ j e. let z : j ≡ i = omega arith in ap (chain_of rests) z;
        others = λ j a b. absurd (omega arith);
      })
      go (no u) = rw (get_or-set_other last (chain_of rests i) h (i + 1) 0 u) (record {
        early = omega (arith, (t h l).early);
        belongs = (t h l).belongs;
        others = λ j a b. other j a b (ℕ_discrete j i);
      })
        where
          other : (j : ℕ) → get_or last h 0 ≤ j → j < i + 1 → Dec (j ≡ i) → chain_of rests j ≢ h
          other j a b (yes z) e = u (sym e ∙ ap (chain_of rests) z)
          other j a b (no z) e = (t h l).others j a (omega arith) e

  pub chained_more : (i x : ℕ) (before : List ℕ) → i < length before → Last rests (chain_of rests i) i x → Chained rests i before
      → Chained rests (i + 1) (set before i x)
  chained_more i x before room e t j l = go (ℕ_discrete j i)
    where
      go : Dec (j ≡ i) → Last rests (chain_of rests j) j (get_or (set before i x) j 0)
      go (yes u) = rw (u, get_or-set_same before i x 0 room) e
      go (no u) = rw (get_or-set_other before i j x 0 u) (t j (omega arith))

  -- Along the chain of point i: what is left of a search is the whole search.
  pub record Left (i : ℕ) (f : ℕ → Bool) (x : ℕ) : Type 0 where
    pub early : x ≤ i
    pub belongs : (j : ℕ) → x ≡ suc j → chain_of rests j ≡ chain_of rests i
    pub whole : some_below x f ≡ some_below i f

  -- a test that only points of the chain pass
  module _ (i : ℕ) (f : ℕ → Bool) (within : (j : ℕ) → j < i → f j ≡ true → chain_of rests j ≡ chain_of rests i) where
    skip : (d x j : ℕ) → j ≡ x + d → ((t : ℕ) → x ≤ t → t < j → f t ≡ false) → some_below x f ≡ some_below j f
    skip zero x j e t = let u : x ≡ j = omega arith in ap (λ (z : ℕ). some_below z f) u
    skip (suc d) x (suc j) e t = skip d x j (omega arith) (λ s a b. t s a (omega arith)) ∙ sym (below_off j f (t j (omega arith) (omega arith)))
    skip (suc d) x zero e t = absurd (omega arith)

    -- the link of a point of the chain, or of point i
    linked : (x j : ℕ) → j ≤ i → Last rests (chain_of rests i) j x → some_below j f ≡ some_below i f → Left i f x
    linked x j h t e = record {
      early = omega (arith, t.early);
      belongs = t.belongs;
      whole = skip (j - x) x j (omega (arith, t.early)) (λ s a b. refuted (f s) (λ z. t.others s a b (within s (omega arith) z))) ∙ e;
    }

    pub left_start : (x : ℕ) → Last rests (chain_of rests i) i x → Left i f x
    left_start x t = linked x i (omega arith) t refl

    pub left_on : (x y : ℕ) → Left i f x → x ≢ 0 → f (x - 1) ≡ false → Last rests (chain_of rests (x - 1)) (x - 1) y → Left i f y
    left_on zero y l ne e t = absurd (ne refl)
    left_on (suc j) y l ne e t =
        linked y j (omega (arith, l.early)) (rw (← l.belongs j refl) (simp unary_clauses at t)) (sym (below_off j f (simp unary_clauses at e)) ∙ l.whole)

    pub left_hit : (x : ℕ) → Left i f x → x ≢ 0 → f (x - 1) ≡ true → true ≡ some_below i f
    left_hit x l ne e = sym (below_there i (x - 1) f (omega (arith, l.early)) e)

    pub left_end : (x : ℕ) → Left i f x → x ≡ 0 → false ≡ some_below i f
    left_end x l e = sym (below_zero f) ∙ ap (λ (z : ℕ). some_below z f) (sym e) ∙ l.whole

-- The points of a pair have the same key without the variable.
module _ (k : ℕ) (points values rests : List ℕ) (i : ℕ) (keyed : Rests k (i + 1) points rests) where
  abbrev test : ℕ → Bool
  test = contrary_to k points values i

  same_rest : (j : ℕ) → j < i → test j ≡ true → get_or rests j 0 ≡ get_or rests i 0
  unfolding contrary apart alike
  same_rest j h e =
      let P = set (point_at points j) k 0 in
      let Q = set (point_at points i) k 0 in
      keyed j (omega arith) ∙ ap (key_of 8) (true_told (lists_told P Q) (and_first _ _ (and_first _ _ e))) ∙ sym (keyed i (omega arith))

  pub within_chain : (j : ℕ) → j < i → test j ≡ true → chain_of rests j ≡ chain_of rests i
  within_chain j h e = ap (λ (x : ℕ). x % 251) (same_rest j h e)

  pub other_rest : (j : ℕ) → j < i → (get_or rests j 0 ≡ get_or rests i 0 → ⊥) → test j ≡ false
  other_rest j h ne = refuted (test j) (λ e. ne (same_rest j h e))

  pub same_value : (j : ℕ) → get_or values j 0 ≡ get_or values i 0 → test j ≡ false
  unfolding contrary
  same_value j e = let f = eq-eqb (get_or values j 0) (get_or values i 0) e in simp (f, and-false)

  pub by_apart : (j : ℕ) → (get_or values j 0 ≡ get_or values i 0 → ⊥) → test j ≡ apart k (point_at points j) (point_at points i)
  unfolding contrary
  by_apart j ne = let f = ne_eqb (get_or values j 0) (get_or values i 0) ne in simp (f, and-true)
