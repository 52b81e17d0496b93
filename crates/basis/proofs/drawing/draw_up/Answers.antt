-- `drawing::draw_up` meets its contract: refused, or the distinct points are drawn up.
use mathlib.Core.Path.{◌≡◌, refl, ap, ◌∙◌}
use mathlib.Core.Bool.{Bool}
use Rattle.std.proofs.Common.{rules, Err}
use Rattle.specification.specs.Answers.{number_of, refusal_of}
use Rattle.specification.specs.Lent.{lent_mut}
use Rattle.specification.specs.Tables.{Tables, too_short}
use Rattle.specification.proofs.Refused.{number_above_0}
use Rattle.recognition.proofs.settings.ByNumber.{drawn_alone}
use Rattle.basis.proofs.drawing.Outcomes.{draw_number, draw_refused, enough, draw_given, draw_done}
use Rattle.basis.proofs.drawing.draw_up.Goals as goal
use Rattle.basis.proofs.drawing.draw_up.Goals.{In_ok-n}

-- nothing refuses
none : (c : In_ok-n) → 0 ≡ draw_number c.args.settings (too_short (lent_mut c.args.tables)) c.args.levels.now
unfolding refusal_of
none c = c.in_ok-n.ensures.refusal_value ∙ ap (λ (b : Bool). draw_number c.args.settings b c.args.levels.now) c.too_short.ensures

pub returns-in_err-n : goal.returns-in_err-n
unfolding refusal_of
returns-in_err-n c =
    let t : Tables = lent_mut c.args.tables in
    let e = c.in_err-n.field-0.0 in
    let told : c.from_residual.result ≡ Err e = search rules in
    let counted = c.in_err-n.ensures.refusal_value ∙ ap (λ (b : Bool). draw_number c.args.settings b c.args.levels.now) c.too_short.ensures in
    rw told (drawn_alone e t ∙ draw_refused c.args.settings t c.args.levels.now (number_of e) counted (number_above_0 e))

pub draw_points-requires-clause-points_given : goal.draw_points-requires-clause-points_given
draw_points-requires-clause-points_given c =
    let r = (goal.at.draw_points-requires-clause-points_given c).In_ok-n in
    let w = c.in_ok-n.ensures.tabled c.in_ok-n.n refl in
    draw_given c.args.settings (lent_mut c.args.tables) c.args.levels.now 0 (none r) refl c.in_ok-n.n c.gather_levels.new.points w.0 w.1.0

pub draw_points-requires-clause-counts_value : goal.draw_points-requires-clause-counts_value
draw_points-requires-clause-counts_value c = enough c.args.settings (lent_mut c.args.tables) c.args.levels.now 0 (none (goal.at.draw_points-requires-clause-counts_value c).In_ok-n) refl

pub returns : goal.returns
returns c =
    let r = (goal.at.returns c).In_ok-n in
    let w = c.in_ok-n.ensures.tabled c.in_ok-n.n refl in
    c.draw_points.ensures.counts_after
    ∙ draw_done c.args.settings (lent_mut c.args.tables) c.args.levels.now 0 (none r) refl c.in_ok-n.n c.gather_levels.new.points w.0 w.1.0 c.gather_levels.new.times w.1.1
