-- Sets of places in four words, and the turns of the code that looks into them and fills them.
use mathlib.Core.Path.{◌≡◌, refl, sym, ap, ap₂, ◌∙◌, subst}
use mathlib.Core.List.{List}
use mathlib.Core.Logic.{◌⊎◌, inl, inr, ◌≢◌, ◌↔◌}
use Prim.Native.Nat.{ℕ, zero, suc, ◌+◌, ◌*◌, ◌-◌, ◌/◌, ◌%◌, ◌^◌, ◌<◌, ◌≤◌, max}
use native.Mathlib.Nat.{mod-lt, zero-lt-suc}
use native.Mathlib.Omega.{arith}
use native.Mathlib.Decide.{ℕ_discrete}
use lib.ListN.{length, get_or, set, length-set}
use lib.Seq.{get_or-set_same, get_or-set_other}
use lib.Dec.{eqb, eqb→eq}
use lib.Bits.{bit_and, bit_or}
use lib.Count.{count_trailing_zeros, under}
use Rattle.residue.specs.Congruence.{Mod}
use Rattle.residue.proofs.level.Moduli.{below_at}
use Rattle.residue.specs.Words.{bit_of}
use Rattle.words.specs.PlaceSets.{in_set, others, Wordwise, KnownBelow, FirstOpen, Passed}
use Rattle.residue.proofs.BitLaws.{bit_small, bit_first, bit_next, bit_zero, bit_xor_lem, bit_and_lem}
use Rattle.words.proofs.Orthogonal.{lowest_set, lowest_lt}
use Rattle.words.proofs.RowsKnownMore.{bit_or_lem, bit_single, bit_other}

abbrev pub ALL : ℕ
ALL = 18446744073709551615

-- below the lowest bit that is set
pub low_zero : (k w j : ℕ) → j < count_trailing_zeros k w → bit_of j w ≡ 0
unfolding count_trailing_zeros
low_zero zero w j h = absurd (omega arith)
low_zero (suc k) w j h = go (w % 2) refl (mod-lt w (zero-lt-suc 1)) h (low_zero k (w / 2))
  where
    at : (j : ℕ) → w % 2 ≡ 0 → j < suc (count_trailing_zeros k (w / 2)) → ((i : ℕ) → i < count_trailing_zeros k (w / 2) → bit_of i (w / 2) ≡ 0) → bit_of j w ≡ 0
    at zero e u ih = bit_first w ∙ e
    at (suc j) e u ih = bit_next j w ∙ ih j (omega arith)

    go : (d : ℕ) → w % 2 ≡ d → d < 2 → j < under d (count_trailing_zeros k (w / 2)) → ((i : ℕ) → i < count_trailing_zeros k (w / 2) → bit_of i (w / 2) ≡ 0) → bit_of j w ≡ 0
    go zero e u v ih = at j e v ih
    go (suc zero) e u v ih = absurd (omega arith)
    go (suc (suc d)) e u v ih = absurd (omega arith)

-- two numbers
pub below_or : (a b : ℕ) → (a < b) ⊎ (b ≤ a)
below_or a zero = inr (omega arith)
below_or zero (suc b) = inl (omega arith)
below_or (suc a) (suc b) = elim (below_or a b) [ inl h ↦ inl (omega arith) | inr h ↦ inr (omega arith) ]

-- every bit of the greatest word is set
pub all_bits : (i : ℕ) → i < 64 → bit_of i ALL ≡ 1
unfolding bit_of
all_bits i h = eqb→eq (ALL / 2 ^ i % 2) 1 (below_at (λ i. eqb (ALL / 2 ^ i % 2) 1) 64 tt i h)

turned : (i w : ℕ) → i < 64 → (bit_of i (others w) + bit_of i w) % 2 ≡ 1
unfolding others
turned i w h = odd _ _ _ (bit_xor_lem i ALL w) (all_bits i h)
  where
    odd : (x a b : ℕ) → Mod 2 x (a + b) → a ≡ 1 → (x + b) % 2 ≡ 1
    odd x a b m e = let t = m.same in omega arith

pub closed_bit : (i w : ℕ) → i < 64 → bit_of i (others w) ≡ 0 → bit_of i w ≡ 1
closed_bit i w h e = other_zero _ _ (turned i w h) (bit_small i w) e
  where
    other_zero : (x y : ℕ) → (x + y) % 2 ≡ 1 → y < 2 → x ≡ 0 → y ≡ 1
    other_zero x y t u e = omega arith

pub open_bit : (i w : ℕ) → i < 64 → bit_of i (others w) ≡ 1 → bit_of i w ≡ 0
open_bit i w h e = other_one _ _ (turned i w h) (bit_small i w) e
  where
    other_one : (x y : ℕ) → (x + y) % 2 ≡ 1 → y < 2 → x ≡ 1 → y ≡ 0
    other_one x y t u e = omega arith

-- a place by its word and bit
pub in_word : (i w j : ℕ) (l : List ℕ) → i ≡ 64 * w + j → j < 64 → in_set i l ≡ bit_of j (get_or l w 0)
unfolding in_set
in_word i w j l e h = let a : i / 64 ≡ w = omega arith in let b : i % 64 ≡ j = omega arith in rw (a, b)

module _ (known : List ℕ) where
  split : (w : ℕ) (n : ℕ) → KnownBelow (64 * w) known → n ≤ 64 → ((j : ℕ) → j < n → bit_of j (get_or known w 0) ≡ 1) → KnownBelow (64 * w + n) known
  split w n low few h i u = elim (below_or i (64 * w)) [
    | inl v ↦ low i v
    | inr v ↦ let k : ℕ = i - 64 * w in in_word i w k known (omega arith) (omega arith) ∙ h k (omega arith)
  ]

  pub full_word : (w : ℕ) → KnownBelow (64 * w) known → others (get_or known w 0) ≡ 0 → KnownBelow (64 * (w + 1)) known
  full_word w low e i u = split w 64 low (omega arith) (λ j h. closed_bit j (get_or known w 0) h (ap (bit_of j) e ∙ bit_zero j)) i (omega arith)

  -- the first open place is that of the lowest bit that is set in the word of open places
  first_in : (w o : ℕ) → w < 4 → KnownBelow (64 * w) known → o < 2 ^ 64 → o ≢ 0 → ((j : ℕ) → j < 64 → bit_of j o ≡ 0 → bit_of j (get_or known w 0) ≡ 1)
      → ((j : ℕ) → j < 64 → bit_of j o ≡ 1 → bit_of j (get_or known w 0) ≡ 0) → (z : ℕ) → z ≡ count_trailing_zeros 64 o → z < 64 → FirstOpen known (64 * w + z)
  first_in w o few low small n closed opened z e t = record {
    most = omega (arith, few, t);
    before = split w z low (omega (arith, t)) (λ j h. closed j (omega (arith, h, t)) (low_zero 64 o j (subst (λ (y : ℕ). j < y) e h)));
    here = λ h. in_word (64 * w + z) w z known refl t ∙ opened z t (ap (λ (y : ℕ). bit_of y o) e ∙ lowest_set 64 o small n);
  }

  pub open_word : (w o : ℕ) → o ≡ others (get_or known w 0) → w < 4 → KnownBelow (64 * w) known → o < 2 ^ 64 → o ≢ 0 → FirstOpen known (64 * w + count_trailing_zeros 64 o)
  open_word w o e few low small n = first_in w o few low small n (λ j h b. closed_bit j (get_or known w 0) h (ap (bit_of j) (sym e) ∙ b))
      (λ j h b. open_bit j (get_or known w 0) h (ap (bit_of j) (sym e) ∙ b)) (count_trailing_zeros 64 o) refl (lowest_lt 64 o small n)

  pub no_open : KnownBelow 256 known → FirstOpen known 256
  no_open h = record { most = omega arith; before = h; here = λ u. absurd (omega arith) }

-- what is known stays so
pub still_known : {Kind : ℕ → Type 0} {known known' : List ℕ} {i : ℕ} → Passed Kind known known' → FirstOpen known i → KnownBelow i known'
still_known p f j h = (p.each j (omega (arith, h, f.most))).1 (inl (f.before j h))

-- a set made of two, word by word
module _ (a b a' : List ℕ) where
  pub joined : Wordwise (λ x y. bit_or x y) a b a' → (i : ℕ) → i < 256 → in_set i a' ≡ max (in_set i a) (in_set i b)
  unfolding in_set
  joined W i h = ap (bit_of (i % 64)) (W.each (i / 64) (omega arith)) ∙ bit_or_lem (i % 64) (get_or a (i / 64) 0) (get_or b (i / 64) 0)

  pub met : Wordwise (λ x y. bit_and x y) a b a' → (i : ℕ) → i < 256 → in_set i a' ≡ in_set i a * in_set i b
  unfolding in_set
  met W i h = ap (bit_of (i % 64)) (W.each (i / 64) (omega arith)) ∙ bit_and_lem (i % 64) (get_or a (i / 64) 0) (get_or b (i / 64) 0)

-- a bit of two
pub max_of : (x y : ℕ) → x < 2 → y < 2 → max x y ≡ 1 → (x ≡ 1) ⊎ (y ≡ 1)
max_of zero zero h k e = absurd (none e)
  where
    none : ◌≡◌ {A = ℕ} 0 1 → ⊥
    none e = omega arith
max_of zero (suc zero) h k e = inr refl
max_of (suc zero) y h k e = inl refl
max_of (suc (suc x)) y h k e = absurd (omega arith)
max_of zero (suc (suc y)) h k e = absurd (omega arith)

pub of_max : (x y : ℕ) → x < 2 → y < 2 → (x ≡ 1) ⊎ (y ≡ 1) → max x y ≡ 1
of_max zero zero h k (inl e) = absurd (omega arith)
of_max zero zero h k (inr e) = absurd (omega arith)
of_max zero (suc zero) h k e = refl
of_max (suc zero) zero h k e = refl
of_max (suc zero) (suc zero) h k e = refl
of_max (suc (suc x)) y h k e = absurd (omega arith)
of_max zero (suc (suc y)) h k e = absurd (omega arith)
of_max (suc zero) (suc (suc y)) h k e = absurd (omega arith)

pub in_small : (i : ℕ) (l : List ℕ) → in_set i l < 2
unfolding in_set
in_small i l = bit_small (i % 64) (get_or l (i / 64) 0)

-- one word of a set with one bit more
pub passed_one : (at bit : ℕ) (known : List ℕ) → at < 256 → length known ≡ 4 → bit ≡ 2 ^ (at % 64)
    → Passed (λ i. i ≡ at) known (set known (at / 64) (bit_or (get_or known (at / 64) 0) bit))
unfolding in_set
passed_one at bit known h l e = record { long = length-set known (at / 64) _; each = λ i u. go i u (ℕ_discrete (i / 64) (at / 64)) }
  where
    here : (i : ℕ) → i / 64 ≡ at / 64 → bit_of (i % 64) (get_or (set known (at / 64) (bit_or (get_or known (at / 64) 0) bit)) (i / 64) 0) ≡ max (bit_of (i % 64) (get_or known (i / 64) 0)) (bit_of (i % 64) (2 ^ (at % 64)))
    here i z = ap (λ (w : ℕ). bit_of (i % 64) (get_or (set known (at / 64) (bit_or (get_or known (at / 64) 0) bit)) w 0)) z ∙ ap (bit_of (i % 64)) (get_or-set_same known (at / 64) (bit_or (get_or known (at / 64) 0) bit) 0 (omega arith))
        ∙ bit_or_lem (i % 64) (get_or known (at / 64) 0) bit ∙ ap₂ (λ (w x : ℕ). max (bit_of (i % 64) (get_or known w 0)) (bit_of (i % 64) x)) (sym z) e

    single : (i : ℕ) → bit_of (i % 64) (2 ^ (at % 64)) ≡ 1 → i % 64 ≡ at % 64
    single i b = pick (ℕ_discrete (i % 64) (at % 64))
      where
        pick : Dec (i % 64 ≡ at % 64) → i % 64 ≡ at % 64
        pick (yes z) = z
        pick (no n) = let z : ◌≡◌ {A = ℕ} 0 1 = sym (bit_other (i % 64) (at % 64) n) ∙ b in absurd (omega arith)

    go : (i : ℕ) → i < 256 → Dec (i / 64 ≡ at / 64)
        → (bit_of (i % 64) (get_or (set known (at / 64) (bit_or (get_or known (at / 64) 0) bit)) (i / 64) 0) ≡ 1) ↔ ((bit_of (i % 64) (get_or known (i / 64) 0) ≡ 1) ⊎ (i ≡ at))
    go i u (no n) = let same = ap (bit_of (i % 64)) (get_or-set_other known (at / 64) (i / 64) (bit_or (get_or known (at / 64) 0) bit) 0 n) in
        ((λ b. inl (sym same ∙ b)), λ d. elim d [ inl b ↦ same ∙ b | inr z ↦ absurd (n (ap (λ (x : ℕ). x / 64) z)) ])
    go i u (yes z) = (
      (λ b. elim (max_of _ _ (bit_small (i % 64) (get_or known (i / 64) 0)) (bit_small (i % 64) (2 ^ (at % 64))) (sym (here i z) ∙ b)) [ inl x ↦ inl x | inr x ↦ let y = single i x in inr (omega arith) ]),
      λ d. here i z ∙ of_max _ _ (bit_small (i % 64) (get_or known (i / 64) 0)) (bit_small (i % 64) (2 ^ (at % 64)))
          (elim d [ inl x ↦ inl x | inr x ↦ inr (ap (λ (y : ℕ). bit_of (y % 64) (2 ^ (at % 64))) x ∙ bit_single (at % 64)) ]),
    )

-- a loop over four words
pub record Turned (op : ℕ → ℕ → ℕ) (w : ℕ) (a b a' : List ℕ) : Type 0 where
  pub long : length a' ≡ length a
  pub done : (j : ℕ) → j < w → get_or a' j 0 ≡ op (get_or a j 0) (get_or b j 0)
  pub ahead : (j : ℕ) → w ≤ j → get_or a' j 0 ≡ get_or a j 0

module _ (op : ℕ → ℕ → ℕ) (a b : List ℕ) where
  pub turned_none : Turned op 0 a b a
  turned_none = record { long = refl; done = λ j h. absurd (omega arith); ahead = λ j h. refl }

  pub turned_more : (w : ℕ) (a' : List ℕ) → w < length a → Turned op w a b a' → Turned op (w + 1) a b (set a' w (op (get_or a' w 0) (get_or b w 0)))
  turned_more w a' h t = record {
    long = length-set a' w _ ∙ t.long;
    done = λ j u. go j u (ℕ_discrete j w);
    ahead = λ j u. get_or-set_other a' w j _ 0 (λ z. omega arith) ∙ t.ahead j (omega arith);
  }
    where
      go : (j : ℕ) → j < w + 1 → Dec (j ≡ w) → get_or (set a' w (op (get_or a' w 0) (get_or b w 0))) j 0 ≡ op (get_or a j 0) (get_or b j 0)
      go j u (no n) = get_or-set_other a' w j _ 0 n ∙ t.done j (omega arith)
      go j u (yes e) = ap (λ (i : ℕ). get_or (set a' w (op (get_or a' w 0) (get_or b w 0))) i 0) e ∙ get_or-set_same a' w (op (get_or a' w 0) (get_or b w 0)) 0 (omega (arith, t.long))
          ∙ ap (λ (x : ℕ). op x (get_or b w 0)) (t.ahead w (omega arith)) ∙ ap (λ (i : ℕ). op (get_or a i 0) (get_or b i 0)) (sym e)

  pub turned_all : (w : ℕ) (a' : List ℕ) → w ≡ 4 → Turned op w a b a' → Wordwise op a b a'
  turned_all w a' e t = record { long = t.long; each = λ j h. t.done j (omega arith) }
