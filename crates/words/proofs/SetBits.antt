-- Going over the set bits of a word only: XOR in any order, the lowest bit dropped, and one pivot more taken away when one bit more is looked at.
use mathlib.Core.Path.{◌≡◌, refl, sym, ap, ap₂, ◌∙◌}
use mathlib.Core.Bool.{cond}
use mathlib.Core.List.{List, [], ◌∷◌}
use mathlib.Core.Logic.{inl, inr, ◌≢◌}
use Prim.Native.Nat.{ℕ, zero, suc, ◌+◌, ◌-◌, ◌*◌, ◌/◌, ◌%◌, ◌^◌, ◌<◌}
use native.Mathlib.Nat.{mod-lt, zero-lt-suc, pow-suc, div-add-mod'}
use native.Mathlib.Omega.{arith}
use lib.Arith.{bin_ind}
use lib.Dec.{eqb, eqb-suc-zero}
use lib.Bits.{bit_and, bit_xor, and_self, xor_zero_l, xor_comm}
use lib.Count.{count_trailing_zeros, under}
use Rattle.residue.specs.Congruence.{Mod}
use Rattle.residue.specs.Lists.{Among}
use Rattle.residue.proofs.Congruence.{rfl, of, flip, small, ◌then◌, ◌plus◌}
use Rattle.residue.specs.Words.{bit_of}
use Rattle.words.specs.PivotTables.{Orthogonal, Apart}
use Rattle.words.specs.Packed.{Words, words, PivotWords, PlacesApart, lose, loses}
use Rattle.residue.proofs.BitLaws.{half_lt, xor_odd, xor_half, and_odd, and_half}
use Rattle.words.proofs.ColumnLaws.{halves}

low : (n : ℕ) → n % 2 < 2
low n = mod-lt n (zero-lt-suc 1)

pub xor_assoc : (a b c : ℕ) → bit_xor a (bit_xor b c) ≡ bit_xor (bit_xor a b) c
xor_assoc = bin_ind (λ (n : ℕ). (b c : ℕ) → bit_xor n (bit_xor b c) ≡ bit_xor (bit_xor n b) c) (λ b c. xor_zero_l (bit_xor b c) ∙ ap (λ (z : ℕ). bit_xor z c) (sym (xor_zero_l b))) step
  where
    step : (n : ℕ) → ((b c : ℕ) → bit_xor (n / 2) (bit_xor b c) ≡ bit_xor (bit_xor (n / 2) b) c) → (b c : ℕ) → bit_xor n (bit_xor b c) ≡ bit_xor (bit_xor n b) c
    step n ih b c = halves
        (xor_half n (bit_xor b c) ∙ ap (bit_xor (n / 2)) (xor_half b c) ∙ ih (b / 2) (c / 2) ∙ sym (xor_half (bit_xor n b) c ∙ ap (λ (z : ℕ). bit_xor z (c / 2)) (xor_half n b)))
        (small (low (bit_xor n (bit_xor b c))) (low (bit_xor (bit_xor n b) c))
        (xor_odd n (bit_xor b c) then rfl {x = n % 2} plus xor_odd b c then of (shape (n % 2) (b % 2) (c % 2)) then flip (xor_odd (bit_xor n b) c then xor_odd n b plus rfl {x = c % 2})))
      where
        shape : (x y z : ℕ) → x + (y + z) ≡ x + y + z
        shape x y z = omega arith

xor_swap : (a b c : ℕ) → bit_xor (bit_xor a b) c ≡ bit_xor (bit_xor a c) b
xor_swap a b c = sym (xor_assoc a b c) ∙ ap (bit_xor a) (xor_comm b c) ∙ xor_assoc a c b

-- the lowest bit dropped
pub drop_lowest : (k w : ℕ) → w < 2 ^ k → w ≢ 0 → bit_and w (w - 1) + 2 ^ count_trailing_zeros k w ≡ w
unfolding count_trailing_zeros
drop_lowest zero w h n = absurd (n (omega arith))
drop_lowest (suc k) w h n = go (w % 2) refl (low w) (drop_lowest k (w / 2) (half_lt k w h))
  where
    whole : (a : ℕ) → a / 2 * 2 + a % 2 ≡ a
    whole a = div-add-mod' a 2

    odd : (a : ℕ) → a % 2 ≡ 1 → ((a - 1) / 2 ≡ a / 2) × ((a - 1) % 2 ≡ 0)
    odd a e = (omega arith, omega arith)

    even : (a : ℕ) → a % 2 ≡ 0 → a ≢ 0 → ((a - 1) / 2 ≡ a / 2 - 1) × ((a - 1) % 2 ≡ 1)
    even a e z = (omega arith, omega arith)

    go : (d : ℕ) → w % 2 ≡ d → d < 2 → (w / 2 ≢ 0 → bit_and (w / 2) (w / 2 - 1) + 2 ^ count_trailing_zeros k (w / 2) ≡ w / 2)
        → bit_and w (w - 1) + 2 ^ under d (count_trailing_zeros k (w / 2)) ≡ w
    go zero e u ih =
        let t = even w e n in
        let half : bit_and w (w - 1) / 2 ≡ bit_and (w / 2) (w / 2 - 1) = and_half w (w - 1) ∙ ap (bit_and (w / 2)) t.0 in
        let last : bit_and w (w - 1) % 2 ≡ 0 = and_odd w (w - 1) ∙ ap₂ (λ (x y : ℕ). x * y) e t.1 in
        omega (arith, whole w, whole (bit_and w (w - 1)), ih (λ z. n (halves {b = 0} z e)), pow-suc 2 (count_trailing_zeros k (w / 2)))
    go (suc zero) e u ih =
        let t = odd w e in
        let half : bit_and w (w - 1) / 2 ≡ w / 2 = and_half w (w - 1) ∙ ap (bit_and (w / 2)) t.0 ∙ and_self (w / 2) in
        let last : bit_and w (w - 1) % 2 ≡ 0 = and_odd w (w - 1) ∙ ap₂ (λ (x y : ℕ). x * y) e t.1 in
        omega (arith, whole w, whole (bit_and w (w - 1)))
    go (suc (suc d)) e u ih = absurd (omega arith)

-- a pivot taken away, whatever the test says
abbrev pub gain : Words → PivotWords → Words
gain w v = words (bit_xor w.column v.column) (bit_xor w.polynomial v.polynomial)

gain_swap : (w : Words) (u v : PivotWords) → gain (gain w v) u ≡ gain (gain w u) v
gain_swap w u v = ap₂ (λ (x y : ℕ). words x y) (xor_swap w.column v.column u.column) (xor_swap w.polynomial v.polynomial u.polynomial)

gain_lose : (own : ℕ) (w : Words) (u v : PivotWords) → lose own u (gain w v) ≡ gain (lose own u w) v
unfolding lose
gain_lose own w u v = go (bit_of u.place own)
  where
    go : (d : ℕ) → cond (eqb d 0) (gain w v) (gain (gain w v) u) ≡ gain (cond (eqb d 0) w (gain w u)) v
    go zero = refl
    go (suc d) = rw (eqb-suc-zero d) (gain_swap w u v)

pub gain_loses : (own : ℕ) (l : List PivotWords) (w : Words) (v : PivotWords) → loses own l (gain w v) ≡ gain (loses own l w) v
unfolding loses
gain_loses own [] w v = refl
gain_loses own (u ∷ l) w v = ap (loses own l) (gain_lose own w u v) ∙ gain_loses own l (lose own u w) v

lose_same : (o o' : ℕ) (u : PivotWords) (w : Words) → bit_of u.place o' ≡ bit_of u.place o → lose o' u w ≡ lose o u w
unfolding lose
lose_same o o' u w e = ap (λ (d : ℕ). cond (eqb d 0) w (gain w u)) e

lose_zero : (o : ℕ) (u : PivotWords) (w : Words) → bit_of u.place o ≡ 0 → lose o u w ≡ w
unfolding lose
lose_zero o u w e = ap (λ (d : ℕ). cond (eqb d 0) w (gain w u)) e

lose_one : (o : ℕ) (u : PivotWords) (w : Words) → bit_of u.place o ≡ 1 → lose o u w ≡ gain w u
unfolding lose
lose_one o u w e = ap (λ (d : ℕ). cond (eqb d 0) w (gain w u)) e

-- only the bits at the pivots' places count
pub loses_same : (o o' : ℕ) (l : List PivotWords) (w : Words) → ((u : PivotWords) → Among u l → bit_of u.place o' ≡ bit_of u.place o) → loses o' l w ≡ loses o l w
unfolding loses
loses_same o o' [] w h = refl
loses_same o o' (u ∷ l) w h = ap (loses o' l) (lose_same o o' u w (h u (inl refl))) ∙ loses_same o o' l (lose o u w) (λ v mem. h v (inr mem))

pub loses_none : (l : List PivotWords) (o : ℕ) (w : Words) → ((u : PivotWords) → Among u l → bit_of u.place o ≡ 0) → loses o l w ≡ w
unfolding loses lose
loses_none [] o w h = refl
loses_none (u ∷ l) o w h = rw (h u (inl refl)) (loses_none l o w (λ v mem. h v (inr mem)))

pub places_apart : (l : List PivotWords) → Orthogonal l → PlacesApart l
places_apart l O = go l O.own O.apart
  where
    go : (r : List PivotWords) → ((v : PivotWords) → Among v r → Mod 2 (bit_of v.place v.column) 1) → Apart r → PlacesApart r
    go [] o a = tt
    go (v ∷ r) o a = ((λ u mem e. clash (a.0 u mem).1 (o v (inl refl)) (ap (λ (i : ℕ). bit_of i v.column) e)), go r (λ u mem. o u (inr mem)) a.1)
      where
        clash : {x y : ℕ} → Mod 2 x 0 → Mod 2 y 1 → x ≡ y → ⊥
        clash h k e = let z : ◌≡◌ {A = ℕ} 0 1 = sym h.same ∙ ap (λ (n : ℕ). n % 2) e ∙ k.same in omega arith

-- one bit more looked at: its pivot is taken away
pub loses_toggle : (o o' : ℕ) (l : List PivotWords) (v : PivotWords) (w : Words) → Among v l → PlacesApart l → bit_of v.place o ≡ 0 → bit_of v.place o' ≡ 1
    → ((i : ℕ) → i ≢ v.place → bit_of i o' ≡ bit_of i o) → loses o' l w ≡ gain (loses o l w) v
unfolding loses
loses_toggle o o' (u ∷ r) v w (inl e) a z y h =
    ap (loses o' r) (lose_one o' u w y_at) ∙ gain_loses o' r w u
    ∙ ap (λ (x : Words). gain x u) (loses_same o o' r w (λ t mem. h t.place (λ q. a.0 t mem (q ∙ ap (λ (p : PivotWords). p.place) e))) ∙ ap (loses o r) (sym (lose_zero o u w z_at)))
    ∙ ap (gain (loses o r (lose o u w))) (sym e)
  where
    z_at : bit_of u.place o ≡ 0
    z_at = ap (λ (p : PivotWords). bit_of p.place o) (sym e) ∙ z

    y_at : bit_of u.place o' ≡ 1
    y_at = ap (λ (p : PivotWords). bit_of p.place o') (sym e) ∙ y
loses_toggle o o' (u ∷ r) v w (inr mem) a z y h =
    ap (loses o' r) (lose_same o o' u w (h u.place (λ q. a.0 v mem (sym q)))) ∙ loses_toggle o o' r v (lose o u w) mem a.1 z y h
loses_toggle o o' [] v w x5 a z y h = elim x5 [ ]
