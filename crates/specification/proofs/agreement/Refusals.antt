-- Which refusals are left for tables that hold the basis of their points, under settings that no call refuses.
use mathlib.Core.Path.{◌≡◌, sym, ◌∙◌, ap}
use mathlib.Core.Bool.{Bool, true, false, ◌&&◌, ◌||◌}
use mathlib.Core.List.{List, [], ◌∷◌, ◌++◌}
use Prim.Native.Nat.{ℕ, zero, suc, ◌≤◌}
use native.Mathlib.Omega.{arith}
use lib.ListN.{length, take, drop, take-append-drop}
use lib.Dec.{T, eqb, leb, ltb, leb→le, eqb→eq, eqb_refl}
use borrow.Author.Tests.{ne_eqb, le-leb, le-ltb, ltb-false, not-false}
use Rattle.residue.specs.Sizes.{states_size, standard_size, leads_size, coefficients_size, counts_size}
use Rattle.residue.specs.Lists.{every}
use Rattle.residue.specs.Modulus.{is_modulus}
use Rattle.residue.specs.Layout.{fill, over, begins, length_fill}
use Rattle.residue.proofs.bytes.Equality.{same_is}
use Rattle.residue.proofs.Tests.{true_of, of_true, neither, and_left, and_right}
use Rattle.residue.proofs.Layouts.{length_over, begins_over}
use Rattle.monomial.specs.Order.{order_of, Light, LightOrder}
use Rattle.specification.specs.declared.settings.Settings.{Settings}
use Rattle.specification.specs.Refusal.{Case, first_of}
use Rattle.specification.specs.Settings.{Accepted, settings_of, weighs_first, right_weights, settings_cases}
use Rattle.specification.specs.Levels.{no_repeat}
use Rattle.specification.specs.Counted.{Counted, points_of, counts_of, is_count}
use Rattle.specification.specs.Tables.{order_under, Tables, row_count, states_table, standard_table, leads_table, coefficients_table, tables_of, written, short_lengths, too_short, points_in, held_in, recognised}
use Rattle.specification.proofs.Cases.{none_holds, first_on}
use Rattle.specification.proofs.counted.Gathered.{Entries}
use Rattle.specification.proofs.counted.Held.{points_held, held_back}

pub accepted : (s : Settings) → first_of 0 (settings_cases s) ≡ 0 → Accepted s
unfolding settings_cases
accepted s e =
    let n = none_holds (settings_cases s) tt e in
    let v = of_true (not-false (leb 1 s.variables && leb s.variables 8) n.1.0) in
    record {
      modulus = not-false (is_modulus s.modulus) n.0;
      some = leb→le 1 s.variables (and_left (leb 1 s.variables) (leb s.variables 8) v);
      few = leb→le s.variables 8 (and_right (leb 1 s.variables) (leb s.variables 8) v);
      order = ltb-false 3 s.order n.1.1.0;
      weights = not-false (right_weights s) n.1.1.1.0;
    }

pub not_refused : (s : Settings) → Accepted s → first_of 0 (settings_cases s) ≡ 0
unfolding settings_cases first_of
not_refused s ok = simp (ok.modulus, le-leb 1 s.variables ok.some, le-leb s.variables 8 ok.few, le-ltb 3 s.order ok.order, ok.weights)

-- orders 0 to 2 have no weights
pub no_weights : (p m order : ℕ) → order ≤ 2 → right_weights (settings_of p m order) ≡ true
unfolding right_weights weighs_first
no_weights p m order h = rw (ne_eqb order 3 (λ e. omega arith))

-- weights that are not refused are light, so that ranks fit
first_light : (m : ℕ) (w : List ℕ) → weighs_first m w ≡ true → Light w
unfolding weighs_first
first_light m [] h = tt
first_light zero (w ∷ ws) h =
    let t = of_true h in
    (omega (arith, eqb→eq w 0 (and_left (eqb w 0) (weighs_first zero ws) t)), first_light zero ws (true_of _ (and_right (eqb w 0) (weighs_first zero ws) t)))
first_light (suc m) (w ∷ ws) h =
    let t = and_right (leb 1 w) (leb w 99 && weighs_first m ws) (of_true h) in
    (leb→le w 99 (and_left (leb w 99) (weighs_first m ws) t), first_light m ws (true_of _ (and_right (leb w 99) (weighs_first m ws) t)))

light_order : (n : ℕ) (w : List ℕ) → Light w → LightOrder (order_of n w)
unfolding order_of
light_order zero w h = tt
light_order (suc zero) w h = tt
light_order (suc (suc zero)) w h = tt
light_order (suc (suc (suc n))) w h = h

pub light_under : (s : Settings) → right_weights s ≡ true → LightOrder (order_under s)
unfolding right_weights
light_under s h = light_order s.order s.weights (first_light _ s.weights h)

-- the cases behind those of the settings decide
pub settings_pass : (s : Settings) → first_of 0 (settings_cases s) ≡ 0 → (l : List Case) → first_of 0 (settings_cases s ++ l) ≡ first_of 0 l
unfolding settings_cases
settings_pass s e l = sym (first_on (settings_cases s) l (none_holds (settings_cases s) tt e))

-- No table is shorter than its size.
pub record Large (t : Tables) : Type 0 where
  pub states : states_size ≤ length t.states
  pub standard : standard_size ≤ length t.standard
  pub leads : leads_size ≤ length t.leads
  pub coefficients : coefficients_size ≤ length t.coefficients
  pub counts : counts_size ≤ length t.counts

pub not_short : (t : Tables) → Large t → too_short t ≡ false
unfolding too_short short_lengths
not_short t h = simp (
  le-ltb (length t.states) states_size h.states,
  le-ltb (length t.standard) standard_size h.standard,
  le-ltb (length t.leads) leads_size h.leads,
  le-ltb (length t.coefficients) coefficients_size h.coefficients,
  le-ltb (length t.counts) counts_size h.counts,
)

pub large_of : (t : Tables) → too_short t ≡ false → Large t
unfolding too_short short_lengths
large_of t e =
    let a = neither (states || standard || leads || coefficients) counts e in
    let b = neither (states || standard || leads) coefficients a.0 in
    let c = neither (states || standard) leads b.0 in
    let d = neither states standard c.0 in
    record {
      states = ltb-false (length t.states) states_size d.0;
      standard = ltb-false (length t.standard) standard_size d.1;
      leads = ltb-false (length t.leads) leads_size c.1;
      coefficients = ltb-false (length t.coefficients) coefficients_size b.1;
      counts = ltb-false (length t.counts) counts_size a.1;
    }
  where
    states : Bool
    states = ltb (length t.states) states_size

    standard : Bool
    standard = ltb (length t.standard) standard_size

    leads : Bool
    leads = ltb (length t.leads) leads_size

    coefficients : Bool
    coefficients = ltb (length t.coefficients) coefficients_size

    counts : Bool
    counts = ltb (length t.counts) counts_size

-- the front of a list is what it begins with
pub over_begins : (a t : List ℕ) → T (begins a t) → over a t ≡ t
unfolding begins over
over_begins a t h = ap (λ (z : List ℕ). z ++ drop (length a) t) (same_is a (take (length a) t) h) ∙ take-append-drop (length a) t

-- writing keeps the lengths
kept : (k : ℕ) (l t : List ℕ) → k ≤ length t → k ≤ length (over (fill k l) t)
kept k l t h = omega (arith, length_over (fill k l) t (omega (arith, length_fill k l)))

pub written_large : (s : Settings) (L : Counted) (t : Tables) → Large t → Large (written (tables_of s L) t)
unfolding written tables_of states_table standard_table leads_table coefficients_table
written_large s L t h = record {
  states = kept states_size _ t.states h.states;
  standard = kept standard_size _ t.standard h.standard;
  leads = kept leads_size _ t.leads h.leads;
  coefficients = kept coefficients_size _ t.coefficients h.coefficients;
  counts = kept counts_size _ t.counts h.counts;
}

module _ (s : Settings) (ok : Accepted s) (L : Counted) (h : Entries s L) (t : Tables) where
  -- the points of the tables of L with their counts are L
  pub written_held : held_in s (length L) (written (tables_of s L) t) ≡ L
  written_held = held_back s ok.few L h t

  pub written_points : points_in s (length L) (written (tables_of s L) t).states ≡ points_of L
  written_points = sym (points_held s (length L) (written (tables_of s L) t)) ∙ ap points_of written_held

  -- tables that hold the basis of their points are recognised
  pub written_recognised : recognised s (length L) (row_count s (points_of L)) (written (tables_of s L) t) ≡ true
  unfolding recognised written
  written_recognised =
      rw written_held
      (simp (
        true_of (no_repeat (points_of L)) h.points.once,
        true_of (eqb (row_count s (points_of L)) (row_count s (points_of L))) (eqb_refl (row_count s (points_of L))),
        begun (tables_of s L).states t.states,
        begun (tables_of s L).standard t.standard,
        begun (tables_of s L).leads t.leads,
        begun (tables_of s L).coefficients t.coefficients,
        true_of (every is_count (counts_of L)) h.counts,
        begun (tables_of s L).counts t.counts,
      ))
    where
      begun : (a l : List ℕ) → begins a (over a l) ≡ true
      begun a l = true_of (begins a (over a l)) (begins_over a l)
