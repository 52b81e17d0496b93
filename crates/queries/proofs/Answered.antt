-- What a call that answers from recognised tables stands on when nothing refuses it, and its answer.
use mathlib.Core.Path.{◌≡◌, sym, ap, ap₂, ◌∙◌}
use mathlib.Core.List.{List, [], map}
use Prim.Native.Nat.{ℕ, ◌*◌, ◌/◌, ◌%◌, ◌≤◌}
use native.Mathlib.Omega.{arith}
use lib.Dec.{T}
use lib.IntN.{ℤ}
use lib.ListN.{length, take, get_or, replicate}
use borrow.Author.Tests.{ltb-false, eqb-true, not-false}
use Rattle.residue.specs.Vector.{Below, dot_of}
use Rattle.residue.specs.Layout.{groups, fill, in_places, over}
use Rattle.residue.proofs.Tests.{of_true}
use Rattle.residue.proofs.Places.{groups_long}
use Rattle.monomial.specs.Monomial.{monomial_at}
use Rattle.monomial.specs.Terms.{term_values}
use Rattle.specification.specs.declared.settings.Settings.{Settings}
use Rattle.specification.specs.Levels.{residues}
use Rattle.specification.specs.BasisOf.{interpolant_of}
use Rattle.specification.specs.Tables.{Tables, space_under, points_under, points_in}
use Rattle.specification.specs.Solving.{interpolant_in, within_variables, polynomial_under, remainder_in}
use Rattle.specification.specs.Needed.{wiring_of}
use Rattle.specification.specs.Points.{Points}
use Rattle.specification.proofs.agreement.Points.{length_residues}
use Rattle.specification.proofs.needed.Filled.{names_tabled}
use Rattle.interpolation.specs.Solving.{solution}
use Rattle.construction.specs.Drawing.{Solves}
use Rattle.interpolation.proofs.TermValues.{length_terms, terms_below}
use Rattle.points.proofs.levels.LevelLists.{residues_below}
use Rattle.interpolation.proofs.Interpolants.{front_of, solution_is, remainder_is, values_in, value_in}
use Rattle.recognition.specs.declared.looking.Faults.{Faults}
use Rattle.recognition.proofs.looking.Looks.{Open}
use Rattle.recognition.proofs.recognising.Recognised.{count, points, positive}
use Rattle.queries.proofs.Refusals.{values_faults, terms_faults, eight_fold}

-- What the look at the tables says and leaves.
module _ {s : Settings} {n r : ℕ} {t : Tables} {f : Faults} {numbers : List ℤ} {exponents : List ℕ} (o : Open s n r t f numbers exponents) where
  abbrev K : List (List ℕ)
  K = points_in s n t.states

  -- the numbers are residues
  pub numbers_below : Below s.modulus (residues s.modulus numbers)
  numbers_below = residues_below s.modulus numbers (positive o) (of_true o.range)

  -- elimination answers the interpolant
  solved : {rows pivots : List ℕ} → Solves s K rows pivots → (vs : List ℕ) → length vs ≡ n → Below s.modulus vs
      → solution s.modulus n rows pivots (fill 128 vs) ≡ interpolant_of (space_under s) (points_under s K) vs
  solved {rows} {pivots} e vs l b =
      ap (λ (k : ℕ). solution s.modulus k rows pivots (fill 128 vs)) (sym (count o))
      ∙ solution_is s o.settings K (points o) rows pivots e vs (l ∙ sym (count o)) b

-- Values at the points.
module _ {s : Settings} {n r : ℕ} {t : Tables} {values : List ℤ} (size : ℕ) (buffer : List ℕ) (o : Open s n r t (values_faults size n values buffer) values []) where
  pub values_room : size ≤ length buffer
  values_room = ltb-false (length buffer) size o.room

  pub values_count : length values ≡ n
  values_count = eqb-true (length values) n (not-false _ o.right)

  pub values_answer : {rows pivots : List ℕ} → Solves s (points_in s n t.states) rows pivots
      → solution s.modulus n rows pivots (fill 128 (residues s.modulus values)) ≡ interpolant_in s n t values
  unfolding interpolant_in
  values_answer e = solved o e (residues s.modulus values) (length_residues s.modulus values ∙ values_count) (numbers_below o)

  -- the wiring list, from the table of the points and the residues of the values in 64 bytes
  pub values_names : {table found : List ℕ} → table ≡ fill 512 (in_places 8 (points_in s n t.states)) → found ≡ over (residues s.modulus values) (replicate 64 0)
      → wiring_of s.variables (groups 8 n table) (take n found) ≡ wiring_of s.variables (points_in s n t.states) (residues s.modulus values)
  values_names {found = found} e f =
      ap₂ (λ (t l : List ℕ). wiring_of s.variables (groups 8 n t) l) e (front_of (residues s.modulus values) found 64 n f (length_residues s.modulus values ∙ values_count))
      ∙ names_tabled s o.settings _ (points o) n (count o) (residues s.modulus values)

-- A polynomial.
module _ {s : Settings} {n r : ℕ} {t : Tables} {coefficients : List ℤ} {exponents : List ℕ} (buffer : List ℕ)
    (o : Open s n r t (terms_faults coefficients exponents buffer) coefficients exponents) where
  pub terms_room : 64 ≤ length buffer
  terms_room = ltb-false (length buffer) 64 o.room

  pub terms_count : length exponents ≡ 8 * length coefficients
  terms_count =
      eqb-true (length exponents) (8 * length coefficients) (sym (eight_fold (length exponents) (length coefficients)) ∙ not-false _ o.right)

  pub terms_most : length coefficients ≤ 256
  terms_most = ltb-false 256 (length coefficients) o.few_terms

  abbrev R : List ℕ
  R = residues s.modulus coefficients

  abbrev es : List (List ℕ)
  es = groups 8 (length coefficients) exponents

  abbrev S : List (List ℕ)
  S = points_in s n t.states

  abbrev vs : List ℕ
  vs = term_values s.modulus R exponents n (fill 512 (in_places 8 S))

  abbrev at : Points s S
  at = points o

  within : T (within_variables s.variables es)
  within =
      let q : length exponents / 8 ≡ length coefficients = omega (arith, terms_count) in
      of_true (ap (λ (k : ℕ). within_variables s.variables (groups 8 k exponents)) (sym q) ∙ o.within)

  pub terms_answer : {rows pivots : List ℕ} → Solves s S rows pivots → solution s.modulus n rows pivots (fill 128 vs) ≡ remainder_in s n t coefficients exponents
  unfolding remainder_in term_values
  terms_answer e =
      let many = length_terms s.modulus R exponents n (fill 512 (in_places 8 S)) in
      let long = groups_long 8 (length coefficients) exponents (omega (arith, terms_count)) in
      -- the same terms and points, by their number
      let are : vs ≡ values_in s o.settings S at R es long within = ap₂ (λ (j k : ℕ). map (λ P. dot_of R (map (monomial_at P) (groups 8 j exponents)) % s.modulus) (groups 8 k (fill 512 (in_places 8 S)))) (length_residues s.modulus coefficients) (sym (count o)) in
      solved o e vs many (terms_below s.modulus R exponents n _ (positive o))
      ∙ remainder_is s o.settings S at (polynomial_under s coefficients exponents) vs (many ∙ sym (count o)) (λ i h. ap (λ (l : List ℕ). get_or l i 0) are ∙ value_in s o.settings S at R es long within i h)
