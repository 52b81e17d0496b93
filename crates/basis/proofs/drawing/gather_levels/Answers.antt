-- `drawing::gather_levels` meets its contract: at each return the tests that led there decide the number.
use borrow.Author.Tests.{eqb-true, not-false}
use mathlib.Core.Path.{◌≡◌, sym, ap, ◌∙◌}
use mathlib.Core.Bool.{false, not}
use Prim.Native.Nat.{◌%◌}
use native.Mathlib.Omega.{arith}
use lib.ListN.{length}
use lib.Dec.{eqb}
use Rattle.std.proofs.Common.{rules}
use Rattle.residue.proofs.level.Moduli.{modulus_range}
use Rattle.residue.proofs.Tests.{of_true}
use Rattle.specification.specs.Answers.{number_of, refusal_of}
use Rattle.specification.specs.Adding.{points_offered}
use Rattle.specification.proofs.Recognised.{whole_levels}
use Rattle.specification.proofs.Refused.{number_above_0}
use Rattle.points.proofs.gathering.Gathering.{all_held}
use Rattle.recognition.proofs.settings.BySize.{Passed, passed}
use Rattle.basis.proofs.drawing.Outcomes.{draw_sizes, draw_size, draw_range, draw_gathered}
use Rattle.basis.proofs.drawing.gather_levels.Goals as goal
use Rattle.basis.proofs.drawing.gather_levels.Goals.{After-in_range, In_ok-draw_sizes}

-- the refusals on numbers do not hold
module _ (c : In_ok-draw_sizes) where
  fine : draw_sizes c.args.settings c.args.short c.args.levels.now ≡ 0
  unfolding refusal_of
  fine = sym c.in_ok-draw_sizes.ensures

  room : Passed c.args.settings c.args.short (not (eqb (length c.args.levels.now % c.args.settings.variables) 0)) false
  room = passed _ _ _ _ fine

  whole : length c.args.levels.now % c.args.settings.variables ≡ 0
  whole = eqb-true _ 0 (not-false _ room.right)

pub returns-in_err-draw_sizes-clause-refusal_value : goal.returns-in_err-draw_sizes-clause-refusal_value
unfolding refusal_of
returns-in_err-draw_sizes-clause-refusal_value c =
    let e = c.in_err-draw_sizes.field-0.0 in
    let told : refusal_of c.from_residual.result ≡ number_of e = search rules in
    told ∙ draw_size c.args.settings c.args.short c.args.levels.now (number_of e) c.in_err-draw_sizes.ensures (number_above_0 e)

pub overflow_cast-p : goal.overflow_cast-p
overflow_cast-p c = omega (arith, modulus_range c.args.settings.modulus (room (goal.at.overflow_cast-p c).In_ok-draw_sizes).settings.modulus)

pub returns-then-not-in_range-clause-refusal_value : goal.returns-then-not-in_range-clause-refusal_value
unfolding refusal_of number_of
returns-then-not-in_range-clause-refusal_value c =
    draw_range c.args.settings c.args.short c.args.levels.now (fine (goal.at.returns-then-not-in_range-clause-refusal_value c).In_ok-draw_sizes) (sym c.if-not-in_range.ensures)

pub nonzero_div-levels : goal.nonzero_div-levels
nonzero_div-levels c = omega (arith, (room (goal.at.nonzero_div-levels c).In_ok-draw_sizes).settings.some)

pub gather-requires : goal.gather-requires
gather-requires c =
    let r = (goal.at.gather-requires c).In_ok-draw_sizes in
    record {
      m_bound = ((room r).settings.few, whole_levels c.args.settings (room r).settings c.args.levels.now (whole r) (of_true (sym c.if-not-in_range.ensures)));
      points_value = (c.requires.0, c.requires.1);
    }

pub returns : goal.returns
unfolding points_offered refusal_of
returns c =
    let r = (goal.at.returns c).In_ok-draw_sizes in
    let g = c.gather.ensures in
    record {
      refusal_value = draw_gathered c.args.settings c.args.short c.args.levels.now (fine r) (sym c.if-not-in_range.ensures) (refusal_of c.gather.result) g.refusal_value;
      tabled = λ n e. let w = all_held _ (sym g.refusal_value ∙ ap refusal_of e) g.tabled_as in (g.n_value n e ∙ w.0, w.1);
    }
