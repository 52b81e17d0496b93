-- The look at lent tables: its number, test by test; what it leaves in the arrays lent for it; and what it says that nothing refuses.
use mathlib.Core.Path.{◌≡◌, refl, sym, ap, ◌∙◌}
use mathlib.Core.Bool.{Bool, true, false, not, cond, ◌&&◌, ◌||◌}
use mathlib.Core.List.{List, [], ◌∷◌, ◌++◌, append_assoc}
use Prim.Native.Nat.{ℕ, ◌/◌, ◌≤◌}
use native.Mathlib.Omega.{arith}
use lib.IntN.{ℤ}
use lib.ListN.{length}
use lib.Dec.{ltb}
use borrow.Author.Tests.{ne_eqb, ltb-false, not-false}
use Rattle.residue.specs.Layout.{groups, fill, in_places}
use Rattle.residue.proofs.Tests.{neither, of_true, true_of, and_left, and_right}
use Rattle.specification.specs.declared.refusals.Refusal.{Refusal}
use Rattle.specification.specs.declared.settings.Settings.{Settings}
use Rattle.specification.specs.Answers.{number_of}
use Rattle.specification.specs.Refusal.{Case, first_of}
use Rattle.specification.specs.Settings.{Accepted, settings_cases}
use Rattle.specification.specs.Levels.{in_range}
use Rattle.specification.specs.Tables.{Tables, too_short, points_in, recognised}
use Rattle.specification.specs.Solving.{within_variables}
use Rattle.specification.proofs.Cases.{first_stop, first_on}
use Rattle.specification.proofs.Recognised.{none_of}
use Rattle.specification.proofs.agreement.Refusals.{accepted, settings_pass}
use Rattle.construction.specs.Drawing.{Solves, PivotBytes, pivot_bytes, pivot_rows_left}
use Rattle.recognition.specs.Looking.{look_cases, looked_at, Looked}
use Rattle.recognition.specs.declared.looking.Faults.{Faults}
use Rattle.recognition.proofs.settings.ByNumber.{number_above_0}
use Rattle.recognition.proofs.settings.BySize.{sizes, sizes_not_10, by_size, by_rest}

-- The arrays, as they were lent and by the number k.
module _ (s : Settings) (n : ℕ) (states points₀ rows₀ pivots₀ : List ℕ) where
  abbrev S : List (List ℕ)
  S = points_in s n states

  abbrev table_if : Bool → List ℕ
  table_if b = cond b (fill 512 (in_places 8 S)) points₀

  abbrev rows_if : Bool → PivotBytes
  rows_if b = cond b (pivot_rows_left s S rows₀ pivots₀) (pivot_bytes rows₀ pivots₀)

  -- the tables were not looked at: k is neither 0 nor 10
  unlooked : (k : ℕ) → (k ≡ 0 → ⊥) → (k ≡ 10 → ⊥) → Looked s n states k points₀ rows₀ pivots₀ points₀ rows₀ pivots₀
  unfolding looked_at
  unlooked k z ten = let e : looked_at k ≡ false = simp (ne_eqb k 0 z, ne_eqb k 10 ten) in record {
    table = sym (ap table_if e);
    pivot_rows = sym (ap rows_if e);
    solves = λ y. absurd (z y);
  }

  -- what recognition leaves that answers b
  abbrev Recognition : Bool → List ℕ → List ℕ → List ℕ → Type 0
  Recognition b points rows pivots =
      (points ≡ fill 512 (in_places 8 S)) × ((b ≡ true → Solves s S rows pivots) × (pivot_bytes rows pivots ≡ pivot_rows_left s S rows₀ pivots₀))

  -- the tables were looked at
  looked : (b : Bool) {k : ℕ} → k ≡ cond b 0 10 → {points rows pivots : List ℕ} → Recognition b points rows pivots
      → Looked s n states k points₀ rows₀ pivots₀ points rows pivots
  unfolding looked_at
  looked true e g = record { table = g.0 ∙ sym (ap (λ (j : ℕ). table_if (looked_at j)) e); pivot_rows = g.1.1 ∙ sym (ap (λ (j : ℕ). rows_if (looked_at j)) e); solves = λ z. g.1.0 refl }
  looked false e g = record { table = g.0 ∙ sym (ap (λ (j : ℕ). table_if (looked_at j)) e); pivot_rows = g.1.1 ∙ sym (ap (λ (j : ℕ). rows_if (looked_at j)) e); solves = λ z. absurd (omega arith) }

-- nothing refuses: the points are in their table
pub points_there : {s : Settings} {n : ℕ} {states : List ℕ} {k : ℕ} {points₀ rows₀ pivots₀ points rows pivots : List ℕ}
    → Looked s n states k points₀ rows₀ pivots₀ points rows pivots → k ≡ 0 → points ≡ fill 512 (in_places 8 (points_in s n states))
unfolding looked_at
points_there {s} {n} {states} {points₀ = points₀} L e =
    L.table ∙ ap (λ (j : ℕ). cond (looked_at j) (fill 512 (in_places 8 (points_in s n states))) points₀) e

-- no variable above m occurs in the terms of a polynomial
abbrev terms_within : Settings → List ℕ → Bool
terms_within s exponents = within_variables s.variables (groups 8 (length exponents / 8) exponents)

module _ (s : Settings) (n r : ℕ) (t : Tables) (f : Faults) (numbers : List ℤ) (exponents : List ℕ) where
  abbrev short : Bool
  short = f.short || too_short t

  abbrev many : Bool
  many = f.many || ltb 64 n

  -- the refusals on lengths and counts
  abbrev pub look_sizes : ℕ
  look_sizes = first_of 0 (settings_cases s ++ sizes s short f.wrong many)

  -- behind them: a number out of range or a variable above m, and tables that are not recognised
  abbrev pub inside : Bool
  inside = terms_within s exponents && in_range s.modulus numbers

  abbrev behind : List Case
  behind = (not inside, 9) ∷ (not (recognised s n r t), 10) ∷ []

  -- The number beside the arrays.
  module _ (points₀ rows₀ pivots₀ : List ℕ) where
    abbrev Told : ℕ → List ℕ → List ℕ → List ℕ → Type 0
    Told k points rows pivots =
        (k ≡ first_of 0 (look_cases s n r t f numbers exponents)) × Looked s n t.states k points₀ rows₀ pivots₀ points rows pivots

    pub told_size : (e : Refusal) → number_of e ≡ look_sizes → Told (number_of e) points₀ rows₀ pivots₀
    unfolding look_cases
    told_size e h =
        let z = number_above_0 e in
        (by_size s short f.wrong many behind (number_of e) h z, unlooked s n t.states points₀ rows₀ pivots₀ (number_of e) z (λ y. sizes_not_10 s short f.wrong many (sym h ∙ y)))

    module _ (e : look_sizes ≡ 0) where
      pub told_outside : inside ≡ false → Told 9 points₀ rows₀ pivots₀
      unfolding first_of look_cases
      told_outside g = ((rw g) ∙ by_rest s short f.wrong many behind e, unlooked s n t.states points₀ rows₀ pivots₀ 9 (λ z. omega arith) (λ z. omega arith))

      -- recognition answers b
      pub told_judged : inside ≡ true → {b : Bool} {points rows pivots : List ℕ} → (b ≡ recognised s n r t) × Recognition s n t.states points₀ rows₀ pivots₀ b points rows pivots
          → {k : ℕ} → k ≡ cond b 0 10 → Told k points rows pivots
      unfolding first_of look_cases
      told_judged g {b} h i =
          (i ∙ by b ∙ (rw (g, ← h.0) refl) ∙ by_rest s short f.wrong many behind e, looked s n t.states points₀ rows₀ pivots₀ b i h.1)
        where
          by : (b : Bool) → cond {A = ℕ} b 0 10 ≡ cond (not b) 10 0
          by true = refl
          by false = refl

  -- those behind the settings, and cases of the call's own behind these
  abbrev tests : List Case
  tests = sizes s short f.wrong many ++ behind

  pub look_first : (l : List Case) (k : ℕ) → k ≡ first_of 0 (look_cases s n r t f numbers exponents) → (k ≡ 0 → ⊥) → k ≡ first_of 0 (settings_cases s ++ (tests ++ l))
  unfolding look_cases
  look_first l k e z = e ∙ first_stop (look_cases s n r t f numbers exponents) l (λ y. z (e ∙ y)) ∙ ap (first_of 0) (append_assoc (settings_cases s) tests l)

  pub look_then : (l : List Case) → first_of 0 (look_cases s n r t f numbers exponents) ≡ 0 → first_of 0 l ≡ first_of 0 (settings_cases s ++ (tests ++ l))
  unfolding look_cases
  look_then l e = let none = none_of s tests tt e in first_on tests l none.1 ∙ sym (settings_pass s none.0 (tests ++ l))

-- Nothing refuses.
pub record Open (s : Settings) (n r : ℕ) (t : Tables) (f : Faults) (numbers : List ℤ) (exponents : List ℕ) : Type 0 where
  pub settings : Accepted s
  pub room : f.short ≡ false
  pub long_tables : too_short t ≡ false
  pub right : f.wrong ≡ false
  pub few_terms : f.many ≡ false
  pub few : n ≤ 64
  pub within : terms_within s exponents ≡ true
  pub range : in_range s.modulus numbers ≡ true
  pub known : recognised s n r t ≡ true

pub open_of : {s : Settings} {n r : ℕ} {t : Tables} {f : Faults} {numbers : List ℤ} {exponents : List ℕ} → first_of 0 (look_cases s n r t f numbers exponents) ≡ 0
    → Open s n r t f numbers exponents
unfolding look_cases
open_of {s} {n} {r} {t} {f} {numbers} {exponents} e =
    let none = none_of s (tests s n r t f numbers exponents) tt e in
    let large = neither f.short (too_short t) none.1.0 in
    let few = neither f.many (ltb 64 n) none.1.1.1.0 in
    let good = of_true (not-false (inside s n r t f numbers exponents) none.1.1.1.1.0) in
    record {
      settings = accepted s none.0;
      room = large.0;
      long_tables = large.1;
      right = none.1.1.0;
      few_terms = few.0;
      few = ltb-false 64 n few.1;
      within = true_of _ (and_left (terms_within s exponents) (in_range s.modulus numbers) good);
      range = true_of _ (and_right (terms_within s exponents) (in_range s.modulus numbers) good);
      known = not-false _ none.1.1.1.1.1.0;
    }
