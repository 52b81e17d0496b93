-- `remainders::remainder` meets its contract: it is refused as the look says, or the polynomial's values are eliminated.
use mathlib.Core.Path.{◌≡◌, refl, sym, ap, subst, ◌∙◌}
use mathlib.Core.Bool.{Bool, not, ◌&&◌}
use mathlib.Core.List.{List}
use Prim.Native.Nat.{ℕ, ◌/◌, ◌%◌}
use native.Mathlib.Omega.{arith}
use lib.Dec.{eqb, ltb}
use lib.ListN.{length}
use borrow.Author.Tests.{eq-eqb, ne_eqb}
use Rattle.std.proofs.lemmas.Result.{err_from_is_err_and}
use Rattle.residue.specs.Vector.{Below}
use Rattle.residue.specs.Layout.{fill, in_places, over, length_fill}
use Rattle.residue.proofs.level.Moduli.{modulus_range}
use Rattle.monomial.specs.Terms.{term_values}
use Rattle.specification.specs.Answers.{number_of, refusal_of}
use Rattle.specification.specs.Lent.{lent}
use Rattle.specification.specs.Refusal.{first_of}
use Rattle.specification.specs.Levels.{residues}
use Rattle.specification.specs.Tables.{points_in}
use Rattle.specification.specs.Solving.{remainder_cases, remainder_outcome}
use Rattle.interpolation.specs.Solving.{solution}
use Rattle.construction.specs.Drawing.{Solves}
use Rattle.recognition.specs.Looking.{look_cases}
use Rattle.recognition.proofs.settings.ByNumber.{number_above_0, fill_refused, fill_accepted}
use Rattle.recognition.proofs.looking.Looks.{Open, open_of, points_there}
use Rattle.recognition.proofs.recognising.Recognised.{table_below, rows_long, rows_multiplied, rows_inside}
use Rattle.queries.proofs.Refusals.{terms_faults, terms_cases}
use Rattle.queries.proofs.Answered.{numbers_below, terms_room, terms_count, terms_most, terms_answer}
use Rattle.queries.proofs.remainders.remainder.Goals as goal
use Rattle.queries.proofs.remainders.remainder.Goals.{After-look, In_ok-look, then-exponents-terms, else-exponents-terms}

-- the look at the tables: whether there are 8 exponents for each coefficient, and what refuses
module _ (d : After-look) where
  whole : d.if-exponents-terms.whole ≡ (eqb (length d.args.exponents.now / 8) (length d.args.term_coefficients.now) && eqb (length d.args.exponents.now % 8) 0)
  whole = elim d.if-exponents-terms.branch [
    | then-exponents-terms w ↦ simp (w.whole-is, eq-eqb _ _ w.if-exponents-terms.true)
    | else-exponents-terms w ↦ simp (w.whole-is, ne_eqb _ _ w.if-exponents-terms.false)
  ]

  looked : refusal_of d.look.result
      ≡ first_of 0 (look_cases d.args.settings d.args.n d.args.r (lent d.args.tables) (terms_faults d.args.term_coefficients.now d.args.exponents.now d.args.out.now) d.args.term_coefficients.now d.args.exponents.now)
  looked =
      let k = d.args.term_coefficients.now in
      let e = d.args.exponents.now in
      d.look.ensures.value
      ∙ ap (λ (b : Bool). first_of 0 (look_cases d.args.settings d.args.n d.args.r (lent d.args.tables) (record { short = ltb (length d.args.out.now) 64; wrong = not b; many = ltb 256 (length k) }) k e)) whole

  told : refusal_of d.look.result ≡ first_of 0 (remainder_cases d.args.settings d.args.n d.args.r (lent d.args.tables) d.args.term_coefficients.now d.args.exponents.now d.args.out.now)
  told = looked ∙ terms_cases d.args.settings d.args.n d.args.r (lent d.args.tables) d.args.term_coefficients.now d.args.exponents.now d.args.out.now

-- nothing refuses
module _ (e : In_ok-look) where
  good : Open e.args.settings e.args.n e.args.r (lent e.args.tables) (terms_faults e.args.term_coefficients.now e.args.exponents.now e.args.out.now) e.args.term_coefficients.now e.args.exponents.now
  unfolding refusal_of
  good = open_of (sym (looked (goal.at.In_ok-look e).After-look) ∙ ap refusal_of e.in_ok-look.was)

  table : e.look.new.points ≡ fill 512 (in_places 8 (points_in e.args.settings e.args.n e.args.tables.states.now))
  unfolding refusal_of
  table = points_there e.in_ok-look.ensures.looked refl

  solves : Solves e.args.settings (points_in e.args.settings e.args.n e.args.tables.states.now) e.look.new.rows e.look.new.pivots
  unfolding refusal_of
  solves = e.in_ok-look.ensures.looked.solves refl

pub returns-in_err-look : goal.returns-in_err-look
unfolding refusal_of remainder_outcome
returns-in_err-look c =
    let p = err_from_is_err_and c.from_residual.result c.from_residual.ensures.1 in
    let e = c.in_err-look.field-0.0 in
    rw (p.1, p.2) (fill_refused _ c.args.out.now _ (number_of e) (ap refusal_of (sym c.in_err-look.was) ∙ told (goal.at.returns-in_err-look c).After-look) (number_above_0 e))

pub overflow_cast-settings : goal.overflow_cast-settings
overflow_cast-settings c = omega (arith, modulus_range c.args.settings.modulus (good (goal.at.overflow_cast-settings c).In_ok-look).settings.modulus)

pub solve_terms-requires : goal.solve_terms-requires
solve_terms-requires c =
    let e = (goal.at.solve_terms-requires c).In_ok-look in
    let o = good e in
    let out = c.args.out.now in
    record {
      le_p = modulus_range c.args.settings.modulus o.settings.modulus;
      coefficients_len_bound = (terms_most out o, terms_count out o);
      n_bound = (o.few, (ap length (table e) ∙ length_fill 512 _, terms_room out o));
      n_in_bounds = rows_long o (solves e);
      multiplied = (rows_multiplied o (solves e), (numbers_below o, subst (Below c.args.settings.modulus) (sym (table e)) (table_below o)));
      by_index = rows_inside o (solves e);
    }

pub returns : goal.returns
unfolding refusal_of remainder_outcome
returns c =
    let e = (goal.at.returns c).In_ok-look in
    let out = c.args.out.now in
    let p : ℕ = c.args.settings.modulus in
    fill_accepted _ out _ _ (ap refusal_of (sym c.in_ok-look.was) ∙ told (goal.at.returns c).After-look)
    (c.solve_terms.ensures
    ∙ ap (λ (l : List ℕ). over (fill 64 (solution p c.args.n c.look.new.rows c.look.new.pivots (fill 128 (term_values p (residues p c.args.term_coefficients.now) c.args.exponents.now c.args.n l)))) out) (table e)
    ∙ ap (λ (l : List ℕ). over (fill 64 l) out) (terms_answer out (good e) (solves e)))
