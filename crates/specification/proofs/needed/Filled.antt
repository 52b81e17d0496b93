-- Points filled up with zeros, as they stand in a table, have the same wiring list.
use mathlib.Core.Path.{◌≡◌, refl, sym, ◌∙◌, ap, ap₂}
use mathlib.Core.Bool.{Bool, not, cond, ◌&&◌, ◌||◌}
use mathlib.Core.Logic.{inl, inr}
use mathlib.Core.List.{List, [], ◌∷◌, ◌++◌, map, zip_with, zip}
use Prim.Native.Nat.{ℕ, zero, suc, ◌<◌, ◌≤◌}
use native.Mathlib.Nat.{le_of_suc-le-suc}
use native.Mathlib.Omega.{arith}
use lib.ListN.{length, set, length-set}
use lib.Dec.{eqb}
use Rattle.residue.specs.Lists.{Among, some, same_list}
use Rattle.residue.specs.Layout.{groups, fill, in_places}
use Rattle.residue.proofs.bytes.Equality.{same_filled}
use Rattle.residue.proofs.Layouts.{fill_at}
use Rattle.residue.proofs.Places.{table_groups}
use Rattle.specification.specs.declared.settings.Settings.{Settings}
use Rattle.specification.specs.Needed.{alike, apart, contrary, pair_in, wiring_of}
use Rattle.specification.specs.Points.{Points}
use Rattle.specification.specs.Settings.{Accepted}

set_filled : (w : ℕ) (P : List ℕ) (k x : ℕ) → k < length P → length P ≤ w → set (fill w P) k x ≡ fill w (set P k x)
unfolding fill
set_filled w [] k x h f = absurd (omega arith)
set_filled zero (a ∷ P) k x h f = absurd (omega arith)
set_filled (suc w) (a ∷ P) zero x h f = refl
set_filled (suc w) (a ∷ P) (suc k) x h f = ap (λ (l : List ℕ). a ∷ l) (set_filled w P k x (le_of_suc-le-suc h) (le_of_suc-le-suc f))

module _ (w m : ℕ) (fits : m ≤ w) (k : ℕ) (has : k < m) where
  contrary_filled : (P Q : List ℕ) (v u : ℕ) → length P ≡ m → length Q ≡ m → contrary k (fill w P, v) (fill w Q, u) ≡ contrary k (P, v) (Q, u)
  unfolding contrary apart alike
  contrary_filled P Q v u p q =
      let a : length (set P k 0) ≡ m = length-set P k 0 ∙ p in
      let b : length (set Q k 0) ≡ m = length-set Q k 0 ∙ q in
      let same : same_list (set (fill w P) k 0) (set (fill w Q) k 0) ≡ same_list (set P k 0) (set Q k 0) =
      ap₂ same_list (set_filled w P k 0 (omega arith) (omega arith)) (set_filled w Q k 0 (omega arith) (omega arith)) ∙ same_filled w (set P k 0) (set Q k 0) (omega arith) (omega arith) in
      ap₂ (λ (s t : Bool). (s && not t) && not (eqb v u)) same (ap₂ eqb (fill_at w P k (omega arith)) (fill_at w Q k (omega arith)))

  abbrev EachLong : List (List ℕ) → Type 0
  EachLong S = (Q : List ℕ) → Among Q S → length Q ≡ m

  against_filled : (P : List ℕ) (v : ℕ) (S : List (List ℕ)) (vs : List ℕ) → length P ≡ m → EachLong S
      → some (contrary k (fill w P, v)) (zip (map (fill w) S) vs) ≡ some (contrary k (P, v)) (zip S vs)
  unfolding zip zip_with
  against_filled P v [] vs p h = refl
  against_filled P v (Q ∷ S) [] p h = refl
  against_filled P v (Q ∷ S) (u ∷ vs) p h = ap₂ ◌||◌ (contrary_filled P Q v u p (h Q (inl refl))) (against_filled P v S vs p (λ R q. h R (inr q)))

  pair_filled : (S : List (List ℕ)) (vs : List ℕ) → EachLong S → pair_in k (zip (map (fill w) S) vs) ≡ pair_in k (zip S vs)
  unfolding pair_in zip zip_with
  pair_filled [] vs h = refl
  pair_filled (P ∷ S) [] h = refl
  pair_filled (P ∷ S) (v ∷ vs) h = ap₂ ◌||◌ (against_filled P v S vs (h P (inl refl)) (λ R q. h R (inr q))) (pair_filled S vs (λ R q. h R (inr q)))

names_filled : (w m : ℕ) → m ≤ w → (S : List (List ℕ)) (vs : List ℕ) → ((Q : List ℕ) → Among Q S → length Q ≡ m) → (i : ℕ) → i ≤ m
    → wiring_of i (map (fill w) S) vs ≡ wiring_of i S vs
unfolding wiring_of
names_filled w m fits S vs h zero e = refl
names_filled w m fits S vs h (suc i) e =
    ap₂ (λ (l : List ℕ) (b : Bool). l ++ cond b (suc i ∷ []) []) (names_filled w m fits S vs h i (omega arith)) (pair_filled w m fits i e S vs h)

-- in the places of the table of points
pub names_tabled : (s : Settings) → Accepted s → (S : List (List ℕ)) → Points s S → (n : ℕ) → length S ≡ n → (vs : List ℕ)
    → wiring_of s.variables (groups 8 n (fill 512 (in_places 8 S))) vs ≡ wiring_of s.variables S vs
names_tabled s ok S h n e vs =
    ap (λ (R : List (List ℕ)). wiring_of s.variables R vs) (ap (λ (k : ℕ). groups 8 k (fill 512 (in_places 8 S))) (sym e) ∙ table_groups 8 512 S (omega (arith, h.few)))
    ∙ names_filled 8 s.variables ok.few S vs (λ Q q. (h.points Q q).long) s.variables (omega arith)
