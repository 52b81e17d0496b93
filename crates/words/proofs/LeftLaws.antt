-- The pivots taken away bit by bit: the lowest bit left names the next.
use mathlib.Core.Path.{◌≡◌, refl, sym, ap, ap₂, ◌∙◌}
use mathlib.Core.List.{List}
use mathlib.Core.Logic.{◌⊎◌, inl, inr, ◌≢◌}
use Prim.Native.Nat.{ℕ, zero, suc, ◌+◌, ◌-◌, ◌*◌, ◌/◌, ◌%◌, ◌^◌, ◌<◌}
use native.Mathlib.Nat.{mod-lt, zero-lt-suc}
use native.Mathlib.Omega.{arith}
use native.Mathlib.Decide.{ℕ_discrete}
use lib.ListN.{get_or}
use lib.Bits.{bit_and, bit_xor, and_self, xor_self, xor_zero_r}
use lib.Count.{count_trailing_zeros, under}
use Rattle.residue.specs.Congruence.{Mod}
use Rattle.residue.specs.Lists.{Among}
use Rattle.residue.proofs.Congruence.{rfl, of, flip, small, ◌then◌}
use Rattle.specification.proofs.ideal.Lists.{snoc_in, snoc_of}
use Rattle.residue.specs.Words.{bit_of}
use Rattle.words.specs.Packed.{Words, words, PivotWords, pivot_words, loses}
use Rattle.words.specs.PivotTables.{pivots_in, RowsKnown, LeftAt}
use Rattle.residue.proofs.BitLaws.{half_lt, bit_small, bit_first, bit_next, bit_and_lem, bit_xor_lem, bit_zero, and_odd, and_half}
use Rattle.words.proofs.ColumnLaws.{halves}
use Rattle.words.proofs.Orthogonal.{lowest_set}
use Rattle.words.proofs.SetBits.{gain, loses_same, loses_none, loses_toggle}

-- the bits of a word without its lowest
pub drop_bits : (k w n : ℕ) → w < 2 ^ k → w ≢ 0 → (n ≡ count_trailing_zeros k w → bit_of n (bit_and w (w - 1)) ≡ 0) × (n ≢ count_trailing_zeros k w → bit_of n (bit_and w (w - 1)) ≡ bit_of n w)
unfolding count_trailing_zeros
drop_bits zero w n h z = absurd (z (omega arith))
drop_bits (suc k) w n h z = go n (w % 2) refl (mod-lt w (zero-lt-suc 1)) (λ i. drop_bits k (w / 2) i (half_lt k w h))
  where
    odd : (a : ℕ) → a % 2 ≡ 1 → ((a - 1) / 2 ≡ a / 2) × ((a - 1) % 2 ≡ 0)
    odd a e = (omega arith, omega arith)

    even : (a : ℕ) → a % 2 ≡ 0 → a ≢ 0 → ((a - 1) / 2 ≡ a / 2 - 1) × ((a - 1) % 2 ≡ 1)
    even a e q = (omega arith, omega arith)

    first : bit_of 0 (bit_and w (w - 1)) ≡ (w % 2) * ((w - 1) % 2)
    first = bit_first (bit_and w (w - 1)) ∙ and_odd w (w - 1)

    next : (i : ℕ) → bit_of (suc i) (bit_and w (w - 1)) ≡ bit_of i (bit_and (w / 2) ((w - 1) / 2))
    next i = bit_next i (bit_and w (w - 1)) ∙ ap (bit_of i) (and_half w (w - 1))

    go : (n d : ℕ) → w % 2 ≡ d → d < 2
        → ((i : ℕ) → w / 2 ≢ 0 → (i ≡ count_trailing_zeros k (w / 2) → bit_of i (bit_and (w / 2) (w / 2 - 1)) ≡ 0) × (i ≢ count_trailing_zeros k (w / 2) → bit_of i (bit_and (w / 2) (w / 2 - 1)) ≡ bit_of i (w / 2)))
        → (n ≡ under d (count_trailing_zeros k (w / 2)) → bit_of n (bit_and w (w - 1)) ≡ 0) × (n ≢ under d (count_trailing_zeros k (w / 2)) → bit_of n (bit_and w (w - 1)) ≡ bit_of n w)
    go zero zero e u ih = ((λ q. absurd (omega arith)), λ q. first ∙ ap₂ (λ (x y : ℕ). x * y) e (even w e z).1 ∙ sym (bit_first w ∙ e))
    go (suc n) zero e u ih =
        let t = ih n (λ q. z (halves {b = 0} q e)) in
        let same : bit_of (suc n) (bit_and w (w - 1)) ≡ bit_of n (bit_and (w / 2) (w / 2 - 1)) = next n ∙ ap (λ (y : ℕ). bit_of n (bit_and (w / 2) y)) (even w e z).0 in
        ((λ q. same ∙ t.0 (omega arith)), λ q. same ∙ t.1 (λ p. q (ap suc p)) ∙ sym (bit_next n w))
    go zero (suc zero) e u ih = ((λ q. first ∙ ap₂ (λ (x y : ℕ). x * y) e (odd w e).1), λ q. absurd (q refl))
    go (suc n) (suc zero) e u ih =
        ((λ q. absurd (omega arith)), λ q. next n ∙ ap (λ (y : ℕ). bit_of n (bit_and (w / 2) y)) (odd w e).0 ∙ ap (bit_of n) (and_self (w / 2)) ∙ sym (bit_next n w))
    go n (suc (suc d)) e u ih = absurd (omega arith)

-- the pivots of the tables by number
pub pivot_in : (k j : ℕ) (places columns polynomials : List ℕ) → j < k → Among (pivot_words (get_or places j 0) (get_or columns j 0) (get_or polynomials j 0)) (pivots_in k places columns polynomials)
unfolding pivots_in
pivot_in zero j places columns polynomials h = absurd (omega arith)
pivot_in (suc k) j places columns polynomials h =
    snoc_in (pivots_in k places columns polynomials) _ _ (go (ℕ_discrete j k) (pivot_in k j places columns polynomials))
  where
    go : Dec (j ≡ k) → (j < k → Among (pivot_words (get_or places j 0) (get_or columns j 0) (get_or polynomials j 0)) (pivots_in k places columns polynomials))
        → Among (pivot_words (get_or places j 0) (get_or columns j 0) (get_or polynomials j 0)) (pivots_in k places columns polynomials)
        ⊎ (pivot_words (get_or places j 0) (get_or columns j 0) (get_or polynomials j 0) ≡ pivot_words (get_or places k 0) (get_or columns k 0) (get_or polynomials k 0))
    go (yes e) ih = inr (ap (λ (i : ℕ). pivot_words (get_or places i 0) (get_or columns i 0) (get_or polynomials i 0)) e)
    go (no n) ih = inl (ih (omega arith))

pub pivot_of : (k : ℕ) (places columns polynomials : List ℕ) (v : PivotWords) → Among v (pivots_in k places columns polynomials) → (j : ℕ) × (j < k) × (v.place ≡ get_or places j 0)
unfolding pivots_in
pivot_of (suc k) places columns polynomials v mem = elim (snoc_of (pivots_in k places columns polynomials) _ v mem) [
  | inl z ↦ let t = pivot_of k places columns polynomials v z in (t.0, omega (arith, t.1), t.2)
  | inr e ↦ (k, omega arith, ap (λ (u : PivotWords). u.place) e)
]
pivot_of zero places columns polynomials v mem = elim mem [ ]

-- The turns: `left` are the bits still to come of own & pivots, and the others have been taken away.
module _ (own pivots : ℕ) (row_of columns polynomials : List ℕ) where
  abbrev mask : ℕ
  mask = bit_and own pivots

  pub record Leaving (left : ℕ) (w : Words) : Type 0 where
    pub within : (i : ℕ) → bit_of i left ≡ 1 → bit_of i mask ≡ 1
    pub taken : (k : ℕ) (places : List ℕ) → RowsKnown k pivots row_of places columns polynomials
        → w ≡ loses (bit_xor mask left) (pivots_in k places columns polynomials) (words own 0)

  pub leaving_all : Leaving mask (words own 0)
  leaving_all = record {
    within = λ i e. e;
    taken = λ k places R. sym (loses_none (pivots_in k places columns polynomials) (bit_xor mask mask) (words own 0) (λ u mem. ap (bit_of u.place) (xor_self mask) ∙ bit_zero u.place));
  }

  both : (x y : ℕ) → x < 2 → y < 2 → x * y ≡ 1 → y ≡ 1
  both x zero h k e = absurd (omega arith)
  both x (suc zero) h k e = refl
  both x (suc (suc y)) h k e = absurd (omega arith)

  -- a bit that is left is that of a pivot's place
  pub in_pivots : (left : ℕ) (w : Words) → Leaving left w → (i : ℕ) → bit_of i left ≡ 1 → bit_of i pivots ≡ 1
  in_pivots left w H i e = both (bit_of i own) (bit_of i pivots) (bit_small i own) (bit_small i pivots) (sym (bit_and_lem i own pivots) ∙ H.within i e)

  pub leaving_none : (w : Words) → Leaving 0 w → LeftAt own pivots row_of columns polynomials w
  leaving_none w H = record { is = λ k places R. H.taken k places R ∙ loses_same own (bit_xor mask 0) (pivots_in k places columns polynomials) (words own 0) (λ u mem. same k places R u mem) }
    where
      one_more : (x : ℕ) {y : ℕ} → y ≡ 1 → x * y ≡ x
      one_more x e = rw e (omega arith)

      same : (k : ℕ) (places : List ℕ) → RowsKnown k pivots row_of places columns polynomials → (u : PivotWords) → Among u (pivots_in k places columns polynomials)
          → bit_of u.place (bit_xor mask 0) ≡ bit_of u.place own
      same k places R u mem = let t = pivot_of k places columns polynomials u mem in
          ap (bit_of u.place) (xor_zero_r mask) ∙ bit_and_lem u.place own pivots ∙ one_more (bit_of u.place own) (ap (λ (i : ℕ). bit_of i pivots) t.2 ∙ R.marked t.0 t.1)

  -- one turn
  module _ (left : ℕ) (w : Words) (H : Leaving left w) (fits : left < 2 ^ 64) (n : ¬ (left ≡ 0)) where
    abbrev i : ℕ
    i = count_trailing_zeros 64 left

    abbrev rest : ℕ
    rest = bit_and left (left - 1)

    set : bit_of i left ≡ 1
    set = lowest_set 64 left fits n

    -- a bit of a sum modulo 2
    of_xor : (m a : ℕ) {x y : ℕ} → bit_of m mask ≡ x → bit_of m a ≡ y → (z : ℕ) → z < 2 → Mod 2 (x + y) z → bit_of m (bit_xor mask a) ≡ z
    of_xor m a e f z h k = small (bit_small m (bit_xor mask a)) h (bit_xor_lem m mask a then of (ap₂ (λ (u v : ℕ). u + v) e f) then k)

    others : (m : ℕ) → m ≢ i → bit_of m (bit_xor mask rest) ≡ bit_of m (bit_xor mask left)
    others m q = small (bit_small m (bit_xor mask rest)) (bit_small m (bit_xor mask left))
        (bit_xor_lem m mask rest then of (ap (λ (z : ℕ). bit_of m mask + z) ((drop_bits 64 left m fits n).1 q)) then flip (bit_xor_lem m mask left))

    pub leaving_on : Leaving rest (words (bit_xor w.column (get_or columns (get_or row_of i 0) 0)) (bit_xor w.polynomial (get_or polynomials (get_or row_of i 0) 0)))
    leaving_on = record {
      within = λ m e. within m e (ℕ_discrete m i);
      taken = λ k places R. taken k places R (R.known i (in_pivots left w H i set));
    }
      where
        within : (m : ℕ) → bit_of m rest ≡ 1 → Dec (m ≡ i) → bit_of m mask ≡ 1
        within m e (yes q) = let z : ◌≡◌ {A = ℕ} 0 1 = sym ((drop_bits 64 left m fits n).0 q) ∙ e in absurd (omega arith)
        within m e (no q) = H.within m (sym ((drop_bits 64 left m fits n).1 q) ∙ e)

        taken : (k : ℕ) (places : List ℕ) → RowsKnown k pivots row_of places columns polynomials → (get_or row_of i 0 < k) × (get_or places (get_or row_of i 0) 0 ≡ i)
            → words (bit_xor w.column (get_or columns (get_or row_of i 0) 0)) (bit_xor w.polynomial (get_or polynomials (get_or row_of i 0) 0))
            ≡ loses (bit_xor mask rest) (pivots_in k places columns polynomials) (words own 0)
        taken k places R t =
            let v = pivot_words (get_or places (get_or row_of i 0) 0) (get_or columns (get_or row_of i 0) 0) (get_or polynomials (get_or row_of i 0) 0) in
            ap (λ (x : Words). gain x v) (H.taken k places R)
            ∙ sym (loses_toggle (bit_xor mask left) (bit_xor mask rest) (pivots_in k places columns polynomials) v (words own 0) (pivot_in k (get_or row_of i 0) places columns polynomials t.0) R.apart
            (ap (λ (m : ℕ). bit_of m (bit_xor mask left)) t.1 ∙ of_xor i left (H.within i set) set 0 (omega arith) (record { same = refl }))
            (ap (λ (m : ℕ). bit_of m (bit_xor mask rest)) t.1 ∙ of_xor i rest (H.within i set) ((drop_bits 64 left i fits n).0 refl) 1 (omega arith) rfl)
            (λ m q. others m (λ z. q (z ∙ sym t.1))))
