-- The pivots of the tables cleared one after the other.
use mathlib.Core.Path.{◌≡◌, refl, sym, ap, ap₂, ◌∙◌, subst}
use mathlib.Core.List.{List, [], ◌∷◌, ◌++◌, map}
use Prim.Native.Nat.{ℕ, zero, suc, ◌+◌, ◌<◌, ◌≤◌}
use native.Mathlib.Numerals.{add-one}
use native.Mathlib.Omega.{arith}
use native.Mathlib.Nat.{le_refl}
use native.Mathlib.Decide.{ℕ_discrete}
use lib.ListN.{length, get_or, set, length-set}
use lib.Seq.{get_or-set_same, get_or-set_other}
use Rattle.words.specs.Packed.{Words, words, PivotWords, pivot_words, lose, clear}
use Rattle.words.specs.PivotTables.{pivots_in, Cleared}

-- only the first k entries count
pub pivots_same : (k : ℕ) (places columns polynomials places' columns' polynomials' : List ℕ) → ((j : ℕ) → j < k → get_or places' j 0 ≡ get_or places j 0)
    → ((j : ℕ) → j < k → get_or columns' j 0 ≡ get_or columns j 0) → ((j : ℕ) → j < k → get_or polynomials' j 0 ≡ get_or polynomials j 0)
    → pivots_in k places' columns' polynomials' ≡ pivots_in k places columns polynomials
unfolding pivots_in
pivots_same zero places columns polynomials places' columns' polynomials' e h g = refl
pivots_same (suc k) places columns polynomials places' columns' polynomials' e h g =
    let l = pivots_same k places columns polynomials places' columns' polynomials' (λ j u. e j (omega arith)) (λ j u. h j (omega arith)) (λ j u. g j (omega arith)) in
    let x = e k (omega arith) in
    let y = h k (omega arith) in
    let z = g k (omega arith) in
    cc

pub map_snoc : {A B : Type 0} (f : A → B) (l : List A) (a : A) → map f (l ++ (a ∷ [])) ≡ map f l ++ (f a ∷ [])
map_snoc f [] a = refl
map_snoc f (b ∷ l) a = ap (λ (r : List _). f b ∷ r) (map_snoc f l a)

pub cleared_none : (new : PivotWords) (columns polynomials : List ℕ) → Cleared 0 new columns polynomials columns polynomials
unfolding pivots_in
cleared_none new columns polynomials = record {
  long_columns = refl;
  long_polynomials = refl;
  cleared = none;
  behind_columns = λ j h. refl;
  behind_polynomials = λ j h. refl;
}
  where
    none : (i : ℕ) → i ≤ 0 → (places : List ℕ) → pivots_in i places columns polynomials ≡ map (clear new) (pivots_in i places columns polynomials)
    none zero h places = refl
    none (suc i) h places = absurd (omega arith)

module _ (k : ℕ) (new : PivotWords) (columns polynomials c f : List ℕ) (H : Cleared k new columns polynomials c f) (left : Words) (hc : k < length c) (hf : k < length f)
    (e : left ≡ lose (get_or c k 0) new (words (get_or c k 0) (get_or f k 0))) where
  low_c : (j : ℕ) → j < k → get_or (set c k left.column) j 0 ≡ get_or c j 0
  low_c j u = get_or-set_other c k j left.column 0 (λ z. omega arith)

  low_f : (j : ℕ) → j < k → get_or (set f k left.polynomial) j 0 ≡ get_or f j 0
  low_f j u = get_or-set_other f k j left.polynomial 0 (λ z. omega arith)

  own : (places : List ℕ) → pivot_words (get_or places k 0) (get_or (set c k left.column) k 0) (get_or (set f k left.polynomial) k 0)
      ≡ clear new (pivot_words (get_or places k 0) (get_or columns k 0) (get_or polynomials k 0))
  unfolding clear
  own places =
      ap₂ (λ (x y : ℕ). pivot_words (get_or places k 0) x y) (get_or-set_same c k left.column 0 hc) (get_or-set_same f k left.polynomial 0 hf)
      ∙ ap (λ (w : Words). pivot_words (get_or places k 0) w.column w.polynomial)
      (e ∙ ap₂ (λ (x y : ℕ). lose x new (words x y)) (H.behind_columns k (omega arith)) (H.behind_polynomials k (omega arith)))

  step_low : (i : ℕ) → i ≤ k → (places : List ℕ) → pivots_in i places (set c k left.column) (set f k left.polynomial) ≡ map (clear new)
      (pivots_in i places columns polynomials)
  step_low i h places =
      pivots_same i places c f places (set c k left.column) (set f k left.polynomial) (λ j u. refl) (λ j u. low_c j (omega arith))
      (λ j u. low_f j (omega arith))
      ∙ H.cleared i h places

  step : (places : List ℕ) → pivots_in (suc k) places (set c k left.column) (set f k left.polynomial) ≡ map (clear new) (pivots_in (suc k) places columns polynomials)
  unfolding pivots_in
  step places =
      ap₂ (λ (l : List PivotWords) (v : PivotWords). l ++ (v ∷ []))
      (step_low k (le_refl k) places) (own places)
      ∙ sym (map_snoc (clear new) (pivots_in k places columns polynomials) (pivot_words (get_or places k 0) (get_or columns k 0) (get_or polynomials k 0)))

  pub cleared_more : Cleared (k + 1) new columns polynomials (set c k left.column) (set f k left.polynomial)
  cleared_more = rw (add-one k) (record {
    long_columns = length-set c k left.column ∙ H.long_columns;
    long_polynomials = length-set f k left.polynomial ∙ H.long_polynomials;
    cleared = λ i h places. go i h places (ℕ_discrete i (suc k));
    behind_columns = λ j h. get_or-set_other c k j left.column 0 (λ z. omega arith) ∙ H.behind_columns j (omega arith);
    behind_polynomials = λ j h. get_or-set_other f k j left.polynomial 0 (λ z. omega arith) ∙ H.behind_polynomials j (omega arith);
  })
    where
      go : (i : ℕ) → i ≤ suc k → (places : List ℕ) → Dec (i ≡ suc k)
          → pivots_in i places (set c k left.column) (set f k left.polynomial) ≡ map (clear new) (pivots_in i places columns polynomials)
      go i h places (yes e) = subst (λ (i : ℕ). pivots_in i places (set c k left.column) (set f k left.polynomial) ≡ map (clear new)
          (pivots_in i places columns polynomials)) (sym e) (step places)
      go i h places (no n) = step_low i (omega arith) places
