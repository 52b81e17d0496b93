-- What a call stands on whose number is 0: no case holds; its points, offered as levels or read from a table, are points; its tables are
-- those of their basis.
use mathlib.Core.Path.{◌≡◌, refl, sym, ◌∙◌, ap, subst}
use mathlib.Core.Bool.{Bool, true, false, ◌&&◌, true≢false}
use mathlib.Core.List.{List, [], ◌∷◌, ◌++◌, map}
use mathlib.Core.Logic.{inl, inr}
use Prim.Native.Nat.{ℕ, zero, suc, ◌-◌, ◌*◌, ◌/◌, ◌%◌, ◌≤◌}
use native.Mathlib.Nat.{div-add-mod', mul_comm}
use native.Mathlib.Decide.{ℕ_discrete}
use native.Mathlib.Omega.{arith}
use lib.IntN.{ℤ}
use lib.ListN.{length, take, drop, length-drop}
use lib.Seq.{length-take-le}
use lib.Dec.{T, eqb}
use borrow.Author.Tests.{eqb-true}
use Rattle.residue.specs.Sizes.{counts_size}
use Rattle.residue.specs.Lists.{Among, every}
use Rattle.residue.proofs.level.Moduli.{modulus_range}
use Rattle.specification.specs.declared.settings.Settings.{Settings}
use Rattle.specification.specs.Refusal.{Case, first_of}
use Rattle.specification.specs.Settings.{Accepted, settings_cases}
use Rattle.specification.specs.Levels.{in_range, residues, no_repeat}
use Rattle.residue.specs.Layout.{groups, fill, begins}
use Rattle.specification.specs.Instance.{Point, reduced, point_of}
use Rattle.specification.specs.Counted.{is_count, gathered, overfull}
use Rattle.specification.specs.Tables.{Tables, points_under, row_count, states_table, standard_table, leads_table, coefficients_table, tables_of, points_in, recognised}
use Rattle.specification.specs.Adding.{points_offered}
use Rattle.specification.proofs.Cases.{numbered, None, none_holds, first_stop}
use Rattle.specification.proofs.Instance.{point_of_lem}
use Rattle.residue.proofs.Layouts.{fill_exact}
use Rattle.specification.proofs.ideal.Lists.{among_map}
use Rattle.specification.specs.Points.{Points, IsPoint}
use Rattle.specification.proofs.agreement.Points.{read_count, residues_same, length_residues}
use Rattle.specification.proofs.counted.Gathered.{Entries, entries_gathered}
use Rattle.specification.proofs.counted.Held.{points_held, counts_held}
use Rattle.specification.proofs.agreement.Refusals.{settings_pass}

-- no case of the settings holds, and none of those behind them
pub none_of : (s : Settings) (l : List Case) → T (numbered l) → first_of 0 (settings_cases s ++ l) ≡ 0 → (first_of 0 (settings_cases s) ≡ 0) × None l
none_of s l t e = go (ℕ_discrete (first_of 0 (settings_cases s)) 0)
  where
    go : Dec (first_of 0 (settings_cases s) ≡ 0) → (first_of 0 (settings_cases s) ≡ 0) × None l
    go (yes z) = (z, none_holds l t (sym (settings_pass s z l) ∙ e))
    go (no z) = absurd (z (first_stop (settings_cases s) l z ∙ e))

-- parts of a mapped list
module _ {A B : Type 0} (f : A → B) where
  pub map_take : (k : ℕ) (l : List A) → map f (take k l) ≡ take k (map f l)
  map_take zero l = refl
  map_take (suc k) [] = refl
  map_take (suc k) (x ∷ l) = ap (λ (z : List B). f x ∷ z) (map_take k l)

  pub map_drop : (k : ℕ) (l : List A) → map f (drop k l) ≡ drop k (map f l)
  map_drop zero l = refl
  map_drop (suc k) [] = refl
  map_drop (suc k) (x ∷ l) = map_drop k l

-- groups of m residues each
rows_of : (q m k : ℕ) (R : List ℕ) → reduced q R ≡ R → length R ≡ m * k → (P : List ℕ) → Among P (groups m k R) → (length P ≡ m) × (reduced q P ≡ P)
unfolding groups
rows_of q m zero R e l P w = absurd w
rows_of q m (suc k) R e l P (inl f) =
    (ap length f ∙ length-take-le m R (omega arith), ap (reduced q) f ∙ map_take _ m R ∙ ap (take m) e ∙ sym f)
rows_of q m (suc k) R e l P (inr w) =
    let d : length (drop m R) ≡ m * k = length-drop m R ∙ omega arith in
    rows_of q m k (drop m R) (map_drop _ m R ∙ ap (drop m) e) d P w

module _ (s : Settings) (ok : Accepted s) where
  -- Points offered.
  module _ (levels : List ℤ) (whole : length levels % s.variables ≡ 0) (range : T (in_range s.modulus levels)) where
    pub whole_levels : length levels ≡ s.variables * (length levels / s.variables)
    whole_levels = sym (div-add-mod' (length levels) s.variables) ∙ omega (arith, mul_comm (length levels / s.variables) s.variables)

    pub offered_each : (P : List ℕ) → Among P (points_offered s levels) → IsPoint s P
    unfolding points_offered
    offered_each P w =
        let p = modulus_range s.modulus ok.modulus in
        let g = rows_of (s.modulus - 1) s.variables (length levels / s.variables) (residues s.modulus levels) (residues_same s.modulus levels (omega arith) range)
        (length_residues s.modulus levels ∙ whole_levels) P w in
        record { long = g.0; same = g.1 }

    pub offered : None (overfull (gathered (points_offered s levels))) → Entries s (gathered (points_offered s levels))
    offered n = entries_gathered s (points_offered s levels) offered_each n

  -- Points read.
  pub is_read : (X : Point (suc (s.modulus - 1)) s.variables) → IsPoint s X.0
  unfolding point_of
  is_read X = record {
    long = X.1.0;
    same =
        ap (reduced (s.modulus - 1)) (sym (fill_exact s.variables X.0 X.1.0))
        ∙ ap (λ (Y : Point (suc (s.modulus - 1)) s.variables). Y.0) (point_of_lem (s.modulus - 1) s.variables X);
  }

  pub read_each : (n : ℕ) (t P : List ℕ) → Among P (points_in s n t) → IsPoint s P
  unfolding points_in
  read_each n t P w = let g = among_map (λ X. X.0) (points_under s (groups 8 n t)) P w in subst (IsPoint s) (sym g.2) (is_read g.0)

  pub length_read : (n : ℕ) (t : List ℕ) → length (points_in s n t) ≡ n
  length_read = read_count s

  pub read : (n : ℕ) (t : List ℕ) → n ≤ 64 → T (no_repeat (points_in s n t)) → Points s (points_in s n t)
  read n t few once = record { points = read_each n t; once = once; few = omega (arith, length_read n t) }

-- Refusal 10, test by test: what it says that tables are recognised.
module _ (s : Settings) (n r : ℕ) (t : Tables) where
  abbrev pub read_in : List (List ℕ)
  read_in = points_in s n t.states

  pub record Parts : Type 0 where
    pub once : no_repeat read_in ≡ true
    pub rows : r ≡ row_count s read_in
    pub states : begins (states_table read_in) t.states ≡ true
    pub standard : begins (standard_table s read_in) t.standard ≡ true
    pub leads : begins (leads_table s read_in) t.leads ≡ true
    pub coefficients : begins (coefficients_table s read_in) t.coefficients ≡ true
    -- the counts: 1 to 255 for each point, and 0 for unused places
    pub range : every is_count (fill n t.counts) ≡ true
    pub counts : begins (fill counts_size (fill n t.counts)) t.counts ≡ true

  -- the tests, over the points and the counts as they are read
  abbrev pub tests : Bool
  tests = no_repeat read_in && eqb r (row_count s read_in) && begins (states_table read_in) t.states && begins (standard_table s read_in) t.standard
      && begins (leads_table s read_in) t.leads && begins (coefficients_table s read_in) t.coefficients && every is_count (fill n t.counts)
      && begins (fill counts_size (fill n t.counts)) t.counts

  pub recognised_tests : recognised s n r t ≡ tests
  unfolding recognised tables_of
  recognised_tests = rw (points_held s n t, counts_held s n t) refl

  both : (a b : Bool) → (a && b) ≡ true → (a ≡ true) × (b ≡ true)
  both true b e = (refl, e)
  both false b e = absurd (true≢false (sym e))

  pub recognised_parts : recognised s n r t ≡ true → Parts
  recognised_parts e =
      let h = both _ (begins (fill counts_size (fill n t.counts)) t.counts) (sym recognised_tests ∙ e) in
      let g = both _ (every is_count (fill n t.counts)) h.0 in
      let a = both _ (begins (coefficients_table s read_in) t.coefficients) g.0 in
      let b = both _ (begins (leads_table s read_in) t.leads) a.0 in
      let c = both _ (begins (standard_table s read_in) t.standard) b.0 in
      let d = both _ (begins (states_table read_in) t.states) c.0 in
      let f = both (no_repeat read_in) (eqb r (row_count s read_in)) d.0 in
      record {
        once = f.0;
        rows = eqb-true r (row_count s read_in) f.1;
        states = d.1;
        standard = c.1;
        leads = b.1;
        coefficients = a.1;
        range = g.1;
        counts = h.1;
      }
