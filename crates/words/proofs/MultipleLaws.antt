-- The sets of the variables' multiples: those of a byte's variables in common, and those of the variables above the first m.
use mathlib.Core.Path.{◌≡◌, refl, sym, ap, ap₂, ◌∙◌, subst}
use mathlib.Core.List.{List}
use mathlib.Core.Logic.{◌⊎◌, inl, inr, ◌≢◌, ◌↔◌}
use Prim.Native.Nat.{ℕ, zero, suc, ◌+◌, ◌*◌, ◌-◌, ◌/◌, ◌%◌, ◌^◌, ◌<◌, ◌≤◌}
use native.Mathlib.Omega.{arith}
use native.Mathlib.Decide.{ℕ_discrete}
use lib.ListN.{length, get_or, take, drop, replicate}
use lib.Seq.{get_or-take, get_or-drop}
use lib.Bits.{bit_and, bit_or}
use lib.Count.{count_trailing_zeros}
use Rattle.residue.specs.Words.{bit_of}
use Rattle.residue.proofs.BitLaws.{bit_zero}
use Rattle.words.specs.PlaceSets.{in_set, multiple_at, Wordwise, Passed, OfMultiple, OfAbove}
use Rattle.words.proofs.Orthogonal.{lowest_set, lowest_lt}
use Rattle.words.proofs.LeftLaws.{drop_bits}
use Rattle.words.proofs.PlaceLaws.{ALL, all_bits, joined, met, max_of, of_max, in_small}

both_one : (x y : ℕ) → x < 2 → y < 2 → x * y ≡ 1 → (x ≡ 1) × (y ≡ 1)
both_one zero y h k e = absurd (omega arith)
both_one (suc zero) y h k e = (refl, omega (arith, e))
both_one (suc (suc x)) y h k e = absurd (omega arith)

-- the set of variable k among the eight
pub row_set : (k i j : ℕ) (multiples : List ℕ) → i < 256 → j ≡ 4 → in_set i (take j (drop (4 * k) multiples)) ≡ multiple_at k i multiples
unfolding in_set multiple_at
row_set k i j multiples h e = ap (bit_of (i % 64)) (get_or-take j (drop (4 * k) multiples) (i / 64) 0 (omega arith) ∙ get_or-drop (4 * k) multiples (i / 64) 0)

-- The sets of a byte's variables in common: of those that have been met, the others being left.
pub record Common (byte left : ℕ) (multiples common : List ℕ) : Type 0 where
  pub long : length common ≡ 4
  pub within : (k : ℕ) → k < 8 → bit_of k left ≡ 1 → bit_of k byte ≡ 1
  pub each : (i : ℕ) → i < 256 → (in_set i common ≡ 1) ↔ ((k : ℕ) → k < 8 → bit_of k byte ≡ 1 → bit_of k left ≡ 0 → multiple_at k i multiples ≡ 1)

pub common_none : (byte : ℕ) (multiples : List ℕ) → Common byte byte multiples (replicate 4 ALL)
unfolding in_set
common_none byte multiples = record {
  long = refl;
  within = λ k h b. b;
  each = λ i h. ((λ b k u x y. clash x y), λ f. ap (bit_of (i % 64)) (word (i / 64) (omega arith)) ∙ all_bits (i % 64) (omega arith));
}
  where
    clash : {b : ℕ} {X : Type 0} → b ≡ 1 → b ≡ 0 → X
    clash x y = absurd (omega arith)

    word : (w : ℕ) → w < 4 → get_or (replicate 4 ALL) w 0 ≡ ALL
    word zero h = refl
    word (suc zero) h = refl
    word (suc (suc zero)) h = refl
    word (suc (suc (suc zero))) h = refl
    word (suc (suc (suc (suc w)))) h = absurd (omega arith)

pub common_more : (byte left : ℕ) (multiples common part common' : List ℕ) → Common byte left multiples common → left < 2 ^ 8 → left ≢ 0
    → ((i : ℕ) → i < 256 → in_set i part ≡ multiple_at (count_trailing_zeros 8 left) i multiples) → Wordwise (λ x y. bit_and x y) common part common'
    → Common byte (bit_and left (left - 1)) multiples common'
common_more byte left multiples common part common' C small n row W = record {
  long = W.long ∙ C.long;
  within = λ k h b. C.within k h (still k b (ℕ_discrete k (count_trailing_zeros 8 left)));
  each = λ i h. (
    (λ b k u x y. let t = both_one _ _ (in_small i common) (in_small i part) (sym (met common part common' W i h) ∙ b) in
        pick i h t k u x y (ℕ_discrete k (count_trailing_zeros 8 left))),
    λ f. met common part common' W i h ∙ ap₂ (λ (x y : ℕ). x * y)
        ((C.each i h).1 (λ k u x y. f k u x (other k y)))
        (row i h ∙ f (count_trailing_zeros 8 left) (lowest_lt 8 left small n) (C.within (count_trailing_zeros 8 left) (lowest_lt 8 left small n) (lowest_set 8 left small n))
        ((drop_bits 8 left (count_trailing_zeros 8 left) small n).0 refl)),
  );
}
  where
    still : (k : ℕ) → bit_of k (bit_and left (left - 1)) ≡ 1 → Dec (k ≡ count_trailing_zeros 8 left) → bit_of k left ≡ 1
    still k b (yes e) = let z : ◌≡◌ {A = ℕ} 0 1 = sym ((drop_bits 8 left k small n).0 e) ∙ b in absurd (omega arith)
    still k b (no u) = sym ((drop_bits 8 left k small n).1 u) ∙ b

    other : (k : ℕ) → bit_of k left ≡ 0 → bit_of k (bit_and left (left - 1)) ≡ 0
    other k y = (drop_bits 8 left k small n).1 (λ e. let z : ◌≡◌ {A = ℕ} 1 0 = sym (ap (λ (j : ℕ). bit_of j left) e ∙ lowest_set 8 left small n) ∙ y in omega arith) ∙ y

    pick : (i : ℕ) → i < 256 → (in_set i common ≡ 1) × (in_set i part ≡ 1) → (k : ℕ) → k < 8 → bit_of k byte ≡ 1 → bit_of k (bit_and left (left - 1)) ≡ 0
        → Dec (k ≡ count_trailing_zeros 8 left) → multiple_at k i multiples ≡ 1
    pick i h t k u x y (yes e) = ap (λ (j : ℕ). multiple_at j i multiples) e ∙ sym (row i h) ∙ t.1
    pick i h t k u x y (no e) = (C.each i h).0 t.0 k u x (sym ((drop_bits 8 left k small n).1 e) ∙ y)

-- all are met, and put in
pub passed_multiples : (byte left : ℕ) (multiples common known known' : List ℕ) → left ≡ 0 → Common byte left multiples common → Wordwise (λ x y. bit_or x y) known common known'
    → Passed (OfMultiple byte multiples) known known'
passed_multiples byte left multiples common known known' z C W = record {
  long = W.long;
  each = λ i h. (
    (λ b. elim (max_of _ _ (in_small i known) (in_small i common) (sym (joined known common known' W i h) ∙ b)) [ inl x ↦ inl x | inr x ↦ inr (λ k u y. (C.each i h).0 x k u y (ap (bit_of k) z ∙ bit_zero k)) ]),
    λ d. joined known common known' W i h
        ∙ of_max _ _ (in_small i known) (in_small i common) (elim d [ inl x ↦ inl x | inr f ↦ inr ((C.each i h).1 (λ k u y z. f k u y)) ]),
  );
}

-- the sets of the variables from m on, up to k
abbrev pub From : ℕ → ℕ → List ℕ → ℕ → Type 0
From m k multiples i = (j : ℕ) × (m ≤ j) × (j < k) × (multiple_at j i multiples ≡ 1)

pub passed_none : (m : ℕ) (multiples known : List ℕ) → Passed (From m m multiples) known known
passed_none m multiples known = record { long = refl; each = λ i h. ((λ b. inl b), λ d. elim d [ inl b ↦ b | inr t ↦ absurd (omega (arith, t.1, t.2)) ]) }

pub passed_all : (m k : ℕ) (multiples start known : List ℕ) → k ≡ 8 → Passed (From m k multiples) start known → Passed (OfAbove m multiples) start known
passed_all m k multiples start known e P = subst (λ (j : ℕ). Passed (From m j multiples) start known) e P

pub passed_more : (m k : ℕ) (multiples start known part known' : List ℕ) → m ≤ k → Passed (From m k multiples) start known
    → ((i : ℕ) → i < 256 → in_set i part ≡ multiple_at k i multiples) → Wordwise (λ x y. bit_or x y) known part known' → Passed (From m (k + 1) multiples) start known'
passed_more m k multiples start known part known' low P row W = record {
  long = W.long ∙ P.long;
  each = λ i h. (
    (λ b. elim (max_of _ _ (in_small i known) (in_small i part) (sym (joined known part known' W i h) ∙ b)) [
      | inl x ↦ elim ((P.each i h).0 x) [ inl y ↦ inl y | inr t ↦ inr (t.0, t.1, omega (arith, t.2), t.3) ]
      | inr x ↦ inr (k, low, omega arith, sym (row i h) ∙ x)
    ]),
    λ d. joined known part known' W i h ∙ of_max _ _ (in_small i known) (in_small i part) (elim d [
      | inl x ↦ inl ((P.each i h).1 (inl x))
      | inr t ↦ last i h t (ℕ_discrete t.0 k)
    ]),
  );
}
  where
    last : (i : ℕ) → i < 256 → (t : From m (k + 1) multiples i) → Dec (t.0 ≡ k) → (in_set i known ≡ 1) ⊎ (in_set i part ≡ 1)
    last i h t (yes e) = inr (row i h ∙ ap (λ (j : ℕ). multiple_at j i multiples) (sym e) ∙ t.3)
    last i h t (no n) = inl ((P.each i h).1 (inr (t.0, t.1, omega (arith, t.2), t.3)))
