-- `recognising::recognise` meets its contract: at each return the tests that led there decide whether the tables are recognised.
use mathlib.Core.Path.{◌≡◌, refl, sym, ap, ap₂, subst, ◌∙◌}
use mathlib.Core.Bool.{true, false, true≢false}
use mathlib.Core.List.{List}
use Prim.Native.Nat.{ℕ}
use native.Mathlib.Omega.{arith}
use lib.ListN.{length}
use Rattle.residue.specs.Layout.{groups, fill, in_places, length_fill}
use Rattle.residue.proofs.level.Moduli.{modulus_range}
use Rattle.residue.proofs.Tests.{of_true}
use Rattle.specification.specs.declared.settings.Settings.{Settings}
use Rattle.specification.specs.Levels.{no_repeat}
use Rattle.specification.specs.Tables.{states_table, standard_table, leads_table, coefficients_table, points_in}
use Rattle.specification.specs.Lent.{lent}
use Rattle.specification.specs.Points.{Points}
use Rattle.specification.specs.Settings.{Accepted}
use Rattle.specification.proofs.agreement.Refusals.{accepted, large_of}
use Rattle.construction.specs.Drawing.{PointsGiven, DrawnUp, pivot_bytes, pivot_rows_under, pivot_rows_left}
use Rattle.points.proofs.levels.PointTables.{length_points, points_in_lem}
use Rattle.specification.proofs.Recognised.{read_each, read}
use Rattle.construction.proofs.drawing.Given.{table_repeat, table_points, given, drawn_long, drawn_of}
use Rattle.recognition.proofs.recognising.Tests.{not_once, not_count, by_tables}
use Rattle.recognition.proofs.recognising.recognise.Goals as goal
use Rattle.recognition.proofs.recognising.recognise.Goals.{After-draw-drawn, After-no_repeat, After-read_points, Else-not-no_repeat, Start}

-- the pivot rows at exit, where a point repeats and where none does
module _ (s : Settings) (S : List (List ℕ)) (rows pivots : List ℕ) where
  left_as_lent : no_repeat S ≡ false → pivot_bytes rows pivots ≡ pivot_rows_left s S rows pivots
  unfolding pivot_rows_left
  left_as_lent e = sym (simp e)

  left_drawn : no_repeat S ≡ true → pivot_rows_under s S rows pivots ≡ pivot_rows_left s S rows pivots
  unfolding pivot_rows_left
  left_drawn e = sym (simp e)

-- the points are in their table
module _ (w : After-read_points) where
  abbrev S : List (List ℕ)
  S = points_in w.args.settings w.args.n w.args.tables.states.now

  is_table : w.read_points.new.points ≡ fill 512 (in_places 8 S)
  is_table = w.read_points.ensures

  good : Accepted w.args.settings
  good = accepted w.args.settings w.requires.settings_value.0

  count : length S ≡ w.args.n
  count =
      ap length (sym (points_in_lem w.args.settings w.args.n w.args.tables.states.now))
      ∙ length_points w.args.settings.modulus w.args.settings.variables w.args.n w.args.tables.states.now

  long : length w.read_points.new.points ≡ 512
  long = ap length is_table ∙ length_fill 512 (in_places 8 S)

asked : (k : After-no_repeat) → k.no_repeat.result ≡ no_repeat (S (goal.at.After-no_repeat k).After-read_points)
asked k =
    let w = (goal.at.After-no_repeat k).After-read_points in
    k.no_repeat.ensures ∙ ap₂ (λ (j : ℕ) (t : List ℕ). no_repeat (groups 8 j t)) (sym (count w)) (is_table w)
    ∙ table_repeat k.args.settings (good w) (S w) (read_each k.args.settings (good w) k.args.n k.args.tables.states.now) (omega (arith, count w, k.requires.settings_value.1))

-- no point repeats
module _ (g : Else-not-no_repeat) where
  abbrev w : After-read_points
  w = (goal.at.Else-not-no_repeat g).After-read_points

  once : no_repeat (S w) ≡ true
  once = sym (asked (goal.at.Else-not-no_repeat g).After-no_repeat) ∙ g.if-not-no_repeat.false

  points : Points g.args.settings (S w)
  points = read g.args.settings (good w) g.args.n g.args.tables.states.now g.requires.settings_value.1 (of_true once)

  ready : PointsGiven g.args.settings g.args.n g.read_points.new.points
  ready =
      subst (λ (k : ℕ). PointsGiven g.args.settings k g.read_points.new.points) (count w)
      (subst (PointsGiven g.args.settings (length (S w))) (sym (is_table w)) (given g.args.settings (good w) (S w) points))

  back : points_in g.args.settings g.args.n g.read_points.new.points ≡ S w
  back = ap₂ (points_in g.args.settings) (sym (count w)) (is_table w) ∙ table_points g.args.settings (good w) (S w) points

-- after the drawing
module _ (d : After-draw-drawn) where
  abbrev g : Else-not-no_repeat
  g = (goal.at.After-draw-drawn d).Else-not-no_repeat

  drawn : DrawnUp d.args.settings (S (w g)) d.draw-drawn.result.r d.draw-drawn.new.standard d.draw-drawn.new.leads d.draw-drawn.new.coefficients d.draw-drawn.new.rows d.draw-drawn.new.pivots
  drawn = drawn_of (back g) d.draw-drawn.ensures.drawn_up

  rows_left : pivot_bytes d.draw-drawn.new.rows d.draw-drawn.new.pivots ≡ pivot_rows_left d.args.settings (S (w g)) d.args.rows.now d.args.pivots.now
  rows_left =
      d.draw-drawn.ensures.pivots_after
      ∙ ap (λ (K : List (List ℕ)). pivot_rows_under d.args.settings K d.args.rows.now d.args.pivots.now) (back g)
      ∙ left_drawn d.args.settings (S (w g)) d.args.rows.now d.args.pivots.now (once g)

pub read_points-requires : goal.read_points-requires
read_points-requires c =
    let s = c.args.settings in
    let ok = accepted s c.requires.settings_value.0 in
    let p = modulus_range s.modulus ok.modulus in
    record {
      le_modulus = (p.0, p.1, ok.few);
      n_bound = (c.requires.settings_value.1, (large_of (lent c.args.tables) c.requires.counts_value).states);
      points_value = c.requires.points_value.0;
    }

pub no_repeat-requires : goal.no_repeat-requires
no_repeat-requires c = omega (arith, long (goal.at.no_repeat-requires c).After-read_points, c.requires.settings_value.1)

pub returns-then-not-no_repeat : goal.returns-then-not-no_repeat
returns-then-not-no_repeat c =
    let s = c.args.settings in
    let w = (goal.at.returns-then-not-no_repeat c).After-read_points in
    let twice = sym (asked (goal.at.returns-then-not-no_repeat c).After-no_repeat) ∙ c.if-not-no_repeat.true in
    record {
      value = not_once s c.args.n c.args.r (lent c.args.tables) twice;
      points_after = is_table w;
      solves = λ e. absurd (true≢false (sym e));
      pivots_after = left_as_lent s (S w) c.args.rows.now c.args.pivots.now twice;
    }

pub draw-drawn-requires : goal.draw-drawn-requires
draw-drawn-requires c = record {
  points_given = ready (goal.at.draw-drawn-requires c).Else-not-no_repeat;
  standard_value = (refl, (refl, refl));
  rows_long = c.requires.points_value.1;
}

pub returns-then-drawn-r : goal.returns-then-drawn-r
returns-then-drawn-r c =
    let d = (goal.at.returns-then-drawn-r c).After-draw-drawn in
    record {
      value = not_count c.args.settings c.args.n c.args.r (lent c.args.tables) (once (g d)) (λ e. c.if-drawn-r.true ((drawn d).tabled.row_count ∙ sym e));
      points_after = is_table (w (g d));
      solves = λ e. absurd (true≢false (sym e));
      pivots_after = rows_left d;
    }

pub agree-requires : goal.agree-requires
agree-requires c =
    let d = (goal.at.agree-requires c).After-draw-drawn in
    record {
      n_le_counts_size = c.requires.settings_value.1;
      new_states_len = (long (w (g d)), drawn_long _ _ _ _ _ _ _ _ (drawn d));
      counts_value = c.requires.counts_value;
    }

pub returns : goal.returns
unfolding states_table standard_table leads_table coefficients_table
returns c =
    let d = (goal.at.returns c).After-draw-drawn in
    let t = (drawn d).tabled in
    record {
      value =
          c.agree.ensures
          ∙ by_tables c.args.settings c.args.n c.args.r (lent c.args.tables) (once (g d)) (sym c.if-drawn-r.false ∙ t.row_count) _ _ _ _ (is_table (w (g d)))
          t.standard_table_lem t.leads_table_lem t.coefficients_table_lem;
      points_after = is_table (w (g d));
      solves = λ e. (drawn d).pivot_rows;
      pivots_after = rows_left d;
    }
