-- Hints where points stand: a point without one is new, and entering a point keeps them.
use mathlib.Core.Path.{◌≡◌, refl, sym, ap, subst, ◌∙◌}
use mathlib.Core.Bool.{Bool, true, cond, ◌&&◌}
use mathlib.Core.Logic.{inl, inr, ◌⊎◌}
use mathlib.Core.List.{List, []}
use Prim.Native.Nat.{ℕ, suc, ◌+◌, ◌*◌, ◌-◌, ◌<◌, ◌≤◌}
use native.Mathlib.Nat.{mod-lt}
use native.Mathlib.Decide.{ℕ_discrete}
use native.Mathlib.Omega.{arith}
use lib.ListN.{length, get_or, set, take, drop, replicate, length-set}
use lib.Seq.{get_or-set_same, get_or-set_other, set-get_or}
use lib.Dec.{T, eqb, ltb}
use borrow.Author.Tests.{ltb-true, lt-ltb, eq-eqb, ne_eqb}
use Rattle.residue.specs.Vector.{Below}
use Rattle.residue.specs.Lists.{key_of}
use Rattle.residue.specs.Layout.{groups, with_place, row_at}
use Rattle.residue.proofs.Tests.{true_of, of_true, and_left, and_right}
use Rattle.residue.proofs.Places.{length_groups, groups_at}
use Rattle.residue.proofs.Replaced.{place_there, place_apart}
use Rattle.specification.specs.Levels.{no_repeat}
use Rattle.specification.specs.Counted.{place_in}
use Rattle.points.specs.Gathering.{hint_of, Hinted, points_entered, EnteredAs}
use Rattle.points.proofs.places.PointPlaces.{keys_told, guessed, place_le, place_has}

pub hint_small : (P : List ℕ) → hint_of P < 233
unfolding hint_of
hint_small P = mod-lt (key_of 8 P) (omega arith)

-- a place where the key of a point stands is the point's place
pub hint_told : (P t : List ℕ) (n i own : ℕ) → Below 256 P → Below 256 t → length P ≡ 8 → 8 * n ≤ length t → T (no_repeat (groups 8 n t)) → own ≡ key_of 8 P
    → (ltb i n && eqb own (key_of 8 (row_at 8 i t))) ≡ true → i ≡ place_in P (groups 8 n t)
hint_told P t n i own f g long room once u e =
    let same : Bool = eqb own (key_of 8 (row_at 8 i t)) in
    let within : i < n = ltb-true i n (true_of (ltb i n) (and_left (ltb i n) same (of_true e))) in
    let eight : 8 ≡ 8 * i + 8 - 8 * i = omega arith in
    guessed P t n i once within (keys_told P t i f g long (omega arith) u (ap (λ (k : ℕ). key_of 8 (take k (drop (8 * i) t))) eight)
    ∙ true_of same (and_right (ltb i n) same (of_true e)))

-- a hint that holds is written as it was
pub hint_again : (hints : List ℕ) (k i : ℕ) → get_or hints k 0 ≡ suc i → hints ≡ set hints k (suc i)
hint_again hints k i e = sym (ap (set hints k) (sym e) ∙ set-get_or hints k 0)

-- no hints at all
pub hinted_none : (points : List ℕ) → Hinted 0 points (replicate 233 0)
hinted_none points = record { long = refl; told = λ i h. absurd (omega arith) }

module _ {n : ℕ} {points hints : List ℕ} (H : Hinted n points hints) (P : List ℕ) where
  -- without a hint a point is new
  pub unhinted : get_or hints (hint_of P) 0 ≡ 0 → n ≡ place_in P (groups 8 n points)
  unhinted e = go (ℕ_discrete n (place_in P S))
    where
      S : List (List ℕ)
      S = groups 8 n points

      go : Dec (n ≡ place_in P S) → n ≡ place_in P S
      go (yes z) = z
      go (no z) =
          let low : place_in P S < n = omega (arith, place_le P S, length_groups 8 n points) in
          let is : P ≡ take 8 (drop (8 * place_in P S) points) = place_has P S (omega (arith, low, length_groups 8 n points)) ∙ groups_at 8 n (place_in P S) points [] low in
          absurd (H.told (place_in P S) low (ap (λ (Q : List ℕ). get_or hints (hint_of Q) 0) (sym is) ∙ e))

  -- a hint more leaves none at 0
  more : (k at : ℕ) → (get_or hints k 0 ≡ 0 → ⊥) → get_or (set hints (hint_of P) (suc at)) k 0 ≡ 0 → ⊥
  more k at z = go (ℕ_discrete k (hint_of P))
    where
      go : Dec (k ≡ hint_of P) → get_or (set hints (hint_of P) (suc at)) k 0 ≡ 0 → ⊥
      go (yes y) w =
          omega (arith, sym (get_or-set_same hints (hint_of P) (suc at) 0 (omega (arith, hint_small P, H.long))) ∙ ap (λ (j : ℕ). get_or (set hints (hint_of P) (suc at)) j 0) (sym y) ∙ w)
      go (no y) w = z (sym (get_or-set_other hints (hint_of P) k (suc at) 0 y) ∙ w)

  module _ (few : n ≤ 64) (sized : length points ≡ 512) (eight : length P ≡ 8) {counts table bytes after : List ℕ} {at : ℕ} {over : Bool}
      (e : EnteredAs n P points counts hints at over table bytes after) (room : at ≡ 64 → ⊥) where
    abbrev Kept : ℕ → List ℕ → Type 0
    Kept k t = (i : ℕ) → i < k → get_or (set hints (hint_of P) (suc at)) (hint_of (take 8 (drop (8 * i) t))) 0 ≡ 0 → ⊥

    old : Kept n points
    old i h = more (hint_of (take 8 (drop (8 * i) points))) at (H.told i h)

    space : at ≡ n → 8 * n + 8 ≤ length points
    space z = below n (λ y. room (z ∙ y)) few
      where
        below : (k : ℕ) → (k ≡ 64 → ⊥) → k ≤ 64 → 8 * k + 8 ≤ length points
        below k y h = omega (arith, sized, y, h)

    new : at ≡ n → Kept (n + 1) (with_place 8 n P points)
    new z i h = go (ℕ_discrete i n)
      where
        go : Dec (i ≡ n) → get_or (set hints (hint_of P) (suc at)) (hint_of (take 8 (drop (8 * i) (with_place 8 n P points)))) 0 ≡ 0 → ⊥
        go (yes y) w =
            let is : take 8 (drop (8 * i) (with_place 8 n P points)) ≡ P = ap (λ (j : ℕ). take 8 (drop (8 * j) (with_place 8 n P points))) y ∙ place_there 8 n P points (space z) eight in
            omega (arith, sym (get_or-set_same hints (hint_of P) (suc at) 0 (omega (arith, hint_small P, H.long))) ∙ ap (λ (Q : List ℕ). get_or (set hints (hint_of P) (suc at)) (hint_of Q) 0) (sym is) ∙ w)
        go (no y) w =
            let is : take 8 (drop (8 * i) (with_place 8 n P points)) ≡ take 8 (drop (8 * i) points) = place_apart 8 n P points (space z) eight (8 * i) 8 (omega (arith, h, y)) in
            old i (omega (arith, h, y)) (ap (λ (Q : List ℕ). get_or (set hints (hint_of P) (suc at)) (hint_of Q) 0) (sym is) ∙ w)

    keeping : {k : ℕ} → Kept k table → Hinted k table after
    keeping h = record {
      long = ap length e.hinted ∙ length-set hints (hint_of P) (suc at) ∙ H.long;
      told = λ i l. subst (λ (t : List ℕ). get_or t (hint_of (take 8 (drop (8 * i) table))) 0 ≡ 0 → ⊥) (sym e.hinted) (h i l);
    }

    pub hinted_next : (k : ℕ) → ((at ≡ n) × (k ≡ n + 1)) ⊎ ((at ≡ n → ⊥) × (k ≡ n)) → Hinted k table after
    unfolding points_entered
    hinted_next k (inl (z, f)) =
        let is : table ≡ with_place 8 n P points = e.table ∙ rw (eq-eqb at n z, lt-ltb n 64 (omega (arith, few, room, z))) refl in
        rw f (keeping (subst (Kept (n + 1)) (sym is) (new z)))
    hinted_next k (inr (z, f)) =
        let is : table ≡ points = e.table ∙ rw (ne_eqb at n z) refl in
        rw f (keeping (subst (Kept n) (sym is) old))

    pub hinted_turn : {k : ℕ} → k ≡ cond (eqb at n) (suc n) n → Hinted k table after
    hinted_turn {k} f = go (ℕ_discrete at n)
      where
        go : Dec (at ≡ n) → Hinted k table after
        go (yes z) = hinted_next k (inl (z, f ∙ ap (λ (b : Bool). cond b (suc n) n) (eq-eqb at n z) ∙ omega arith))
        go (no z) = hinted_next k (inr (z, f ∙ ap (λ (b : Bool). cond b (suc n) n) (ne_eqb at n z)))
