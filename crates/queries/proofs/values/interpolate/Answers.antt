-- `values::interpolate` meets its contract: it is refused as the look says, or the values are eliminated.
use mathlib.Core.Path.{◌≡◌, refl, sym, ap, ◌∙◌}
use mathlib.Core.List.{List, []}
use Prim.Native.Nat.{ℕ}
use native.Mathlib.Omega.{arith}
use Rattle.std.proofs.lemmas.Result.{err_from_is_err_and}
use Rattle.residue.specs.Layout.{fill, over}
use Rattle.residue.proofs.level.Moduli.{modulus_range}
use Rattle.specification.specs.Answers.{number_of, refusal_of}
use Rattle.specification.specs.Lent.{lent}
use Rattle.specification.specs.Refusal.{first_of}
use Rattle.specification.specs.Tables.{points_in}
use Rattle.specification.specs.Solving.{values_cases, interpolate_outcome}
use Rattle.construction.specs.Drawing.{Solves}
use Rattle.recognition.proofs.settings.ByNumber.{number_above_0, fill_refused, fill_accepted}
use Rattle.recognition.proofs.looking.Looks.{Open, open_of}
use Rattle.recognition.proofs.recognising.Recognised.{rows_long, rows_multiplied, rows_inside}
use Rattle.queries.proofs.Refusals.{values_faults, values_cases_lem}
use Rattle.queries.proofs.Answered.{numbers_below, values_room, values_count, values_answer}
use Rattle.queries.proofs.values.interpolate.Goals as goal
use Rattle.queries.proofs.values.interpolate.Goals.{After-look, In_ok-look}

-- the look at the tables
told : (d : After-look) → refusal_of d.look.result ≡ first_of 0 (values_cases 64 d.args.settings d.args.n d.args.r (lent d.args.tables) d.args.values.now d.args.out.now)
told d = d.look.ensures.value ∙ values_cases_lem d.args.settings d.args.n d.args.r (lent d.args.tables) 64 d.args.values.now d.args.out.now

-- nothing refuses
module _ (e : In_ok-look) where
  good : Open e.args.settings e.args.n e.args.r (lent e.args.tables) (values_faults 64 e.args.n e.args.values.now e.args.out.now) e.args.values.now []
  unfolding refusal_of
  good = open_of (sym e.in_ok-look.ensures.value)

  solves : Solves e.args.settings (points_in e.args.settings e.args.n e.args.tables.states.now) e.look.new.rows e.look.new.pivots
  unfolding refusal_of
  solves = e.in_ok-look.ensures.looked.solves refl

pub returns-in_err-look : goal.returns-in_err-look
unfolding refusal_of interpolate_outcome
returns-in_err-look c =
    let p = err_from_is_err_and c.from_residual.result c.from_residual.ensures.1 in
    let e = c.in_err-look.field-0.0 in
    rw (p.1, p.2) (fill_refused _ c.args.out.now _ (number_of e) (ap refusal_of (sym c.in_err-look.was) ∙ told (goal.at.returns-in_err-look c).After-look) (number_above_0 e))

pub overflow_cast-settings : goal.overflow_cast-settings
overflow_cast-settings c = omega (arith, modulus_range c.args.settings.modulus (good (goal.at.overflow_cast-settings c).In_ok-look).settings.modulus)

pub solve_values-requires : goal.solve_values-requires
solve_values-requires c =
    let e = (goal.at.solve_values-requires c).In_ok-look in
    let out = c.args.out.now in
    let o = good e in
    record {
      le_p = modulus_range c.args.settings.modulus o.settings.modulus;
      n_bound = (o.few, (values_count 64 out o, values_room 64 out o));
      n_in_bounds = rows_long o (solves e);
      multiplied = (rows_multiplied o (solves e), numbers_below o);
      by_index = rows_inside o (solves e);
    }

pub returns : goal.returns
unfolding refusal_of interpolate_outcome
returns c =
    let e = (goal.at.returns c).In_ok-look in
    let out = c.args.out.now in
    fill_accepted _ out _ _ (ap refusal_of (sym c.in_ok-look.was) ∙ told (goal.at.returns c).After-look)
    (c.solve_values.ensures ∙ ap (λ (l : List ℕ). over (fill 64 l) out) (values_answer 64 out (good e) (solves e)))
