-- `running::write_course` meets its contract: the points are drawn up, their successors interpolated, and the model is run.
use mathlib.Core.Path.{◌≡◌, refl, sym, ◌∙◌, ap, ap₂, subst}
use mathlib.Core.List.{List}
use Prim.Native.Nat.{ℕ, ◌+◌, ◌-◌, ◌*◌, ◌<◌, ◌≤◌}
use native.Mathlib.Omega.{arith}
use lib.ListN.{length, take, drop, length-take}
use lib.Seq.{length-take-le}
use Rattle.residue.specs.Vector.{Below}
use Rattle.elimination.specs.Elimination.{Multiplied}
use Rattle.residue.specs.Layout.{fill, in_places, over, length_fill}
use Rattle.residue.proofs.Layouts.{take_over}
use Rattle.residue.proofs.level.Moduli.{modulus_range}
use Rattle.specification.specs.Answers.{drawn_of}
use Rattle.specification.specs.declared.settings.Settings.{Settings}
use Rattle.specification.specs.Tables.{points_in, standard_table}
use Rattle.specification.specs.Adding.{DrawOutcome, uncosted}
use Rattle.construction.specs.Drawing.{PivotBytes, pivot_bytes, Solves}
use Rattle.construction.proofs.drawing.Given.{given_count}
use Rattle.courses.specs.TimeCourse.{told_return, return_of}
use Rattle.steps.specs.Stepping.{solutions_of, step_of}
use Rattle.forward.specs.Outcome.{course_answer}
use Rattle.forward.specs.Running.{sheet_of, pivots_of, genes_in}
use Rattle.forward.proofs.running.Interpolants.{genes_low}
use Rattle.forward.proofs.running.write_course.Goals as goal

-- a table at the front of a lent one that was written over
front : (k : ℕ) (a t : List ℕ) → length a ≡ k → take k (over a t) ≡ a
front k a t e = ap (λ (j : ℕ). take j (over a t)) (sym e) ∙ take_over a t

-- the length of a record's part
eight : (i : ℕ) → 8 * i + 8 - 8 * i ≡ 8
eight i = omega arith

standard_size_lem : (s : Settings) (S : List (List ℕ)) → length (standard_table s S) ≡ 512
unfolding standard_table
standard_size_lem s S = length_fill 512 _

-- the standard monomials of points, in a lent table
module _ (s : Settings) (S : List (List ℕ)) (before : List ℕ) {standard : List ℕ} (e : standard ≡ over (standard_table s S) before) where
  standard_is : take 512 standard ≡ standard_table s S
  standard_is = ap (take 512) e ∙ front 512 (standard_table s S) before (standard_size_lem s S)

  standard_long : 512 ≤ length standard
  standard_long = omega (arith, ap (λ (t : List ℕ). length t) standard_is ∙ standard_size_lem s S, length-take 512 standard)

-- the interpolants of the successors, in a lent buffer
module _ (s : Settings) (n : ℕ) (S : List (List ℕ)) (rows pivots records firsts before : List ℕ) (kept : pivot_bytes rows pivots ≡ pivots_of s S) {genes : List ℕ}
    (put : genes ≡ over (fill 512 (in_places 64 (solutions_of s.modulus n rows pivots records firsts s.variables))) before) where
  genes_are : genes ≡ over (genes_in s n S records firsts) before
  genes_are =
      put
      ∙ ap₂ (λ (r q : List ℕ). over (fill 512 (in_places 64 (solutions_of s.modulus n r q records firsts s.variables))) before)
      (ap (λ (b : PivotBytes). b.rows) kept) (ap (λ (b : PivotBytes). b.pivots) kept)

  genes_front : take 512 genes ≡ genes_in s n S records firsts
  genes_front = ap (take 512) genes_are ∙ front 512 _ before (length_fill 512 _)

  genes_long : 512 ≤ length genes
  genes_long = omega (arith, ap (λ (t : List ℕ). length t) genes_front ∙ length_fill 512 _, length-take 512 genes)

pub overflow_cast-p : goal.overflow_cast-p
overflow_cast-p c = let h = modulus_range _ c.requires.points_given.0.settings.modulus in omega arith

pub put_model-requires-clause-le_p : goal.put_model-requires-clause-le_p
put_model-requires-clause-le_p c =
    let given = c.requires.points_given.0 in
    let range = modulus_range _ given.settings.modulus in
    (range.0, range.1, given.settings.few, given.most, omega (arith, given.most, c.requires.firsts_len.0))

pub put_model-requires-clause-multiplied : goal.put_model-requires-clause-multiplied
put_model-requires-clause-multiplied c =
    let u = c.draw_points-drawn.ensures.solves in
    let count = given_count c.requires.points_given.0 in
    (subst (λ (k : ℕ). Multiplied c.args.settings.modulus k c.draw_points-drawn.new.rows) count u.multiples, λ t l. omega (arith, u.inside t (omega (arith, l, count)), count))

pub slice_bounds-run-end : goal.slice_bounds-run-end
slice_bounds-run-end c =
    standard_long c.args.settings (points_in c.args.settings c.args.n c.args.points.now) c.args.tables.standard.now
    (ap (λ (o : DrawOutcome). o.tables.standard) c.draw_points-drawn.ensures.counts_after)

pub slice_bounds-run-end-2 : goal.slice_bounds-run-end-2
slice_bounds-run-end-2 c =
    let long = standard_long c.args.settings (points_in c.args.settings c.args.n c.args.points.now) c.args.tables.standard.now
    (ap (λ (o : DrawOutcome). o.tables.standard) c.draw_points-drawn.ensures.counts_after) in
    sym (length-take-le 512 c.draw_points-drawn.new.tables.1.0 long)

pub slice_bounds-run-end-4 : goal.slice_bounds-run-end-4
slice_bounds-run-end-4 c =
    let long = genes_long c.args.settings c.args.n (points_in c.args.settings c.args.n c.args.points.now) c.draw_points-drawn.new.rows c.draw_points-drawn.new.pivots
    c.args.records.now c.args.firsts.now c.args.interpolants.now c.draw_points-drawn.ensures.pivots_after c.put_model.ensures in
    sym (length-take-le 512 c.put_model.new.out long)

pub run-requires-clause-le_p : goal.run-requires-clause-le_p
run-requires-clause-le_p c =
    let given = c.requires.points_given.0 in
    let range = modulus_range _ given.settings.modulus in
    (range.0, range.1, given.settings.few, given.most)

pub run-requires-clause-in_bounds : goal.run-requires-clause-in_bounds
run-requires-clause-in_bounds c =
    let s = c.args.settings in
    let S = points_in s c.args.n c.args.points.now in
    let standard_room = standard_long s S c.args.tables.standard.now (ap (λ (o : DrawOutcome). o.tables.standard) c.draw_points-drawn.ensures.counts_after) in
    let genes_room = genes_long s c.args.n S c.draw_points-drawn.new.rows c.draw_points-drawn.new.pivots c.args.records.now c.args.firsts.now
    c.args.interpolants.now c.draw_points-drawn.ensures.pivots_after c.put_model.ensures in
    let genes_at = genes_front s c.args.n S c.draw_points-drawn.new.rows c.draw_points-drawn.new.pivots c.args.records.now c.args.firsts.now
    c.args.interpolants.now c.draw_points-drawn.ensures.pivots_after c.put_model.ensures in
    let range = modulus_range _ c.requires.points_given.0.settings.modulus in
    let p : 0 < s.modulus = omega (arith, range.0) in (
      omega (arith, length-take-le 512 c.draw_points-drawn.new.tables.1.0 standard_room),
      omega (arith, length-take-le 512 c.put_model.new.out genes_room),
      subst (Below s.modulus) (sym genes_at) (genes_low s.modulus c.args.n _ _ c.args.records.now c.args.firsts.now p s.variables),
    )

pub overflow_cast-result : goal.overflow_cast-result
overflow_cast-result c = let h = modulus_range _ c.requires.points_given.0.settings.modulus in omega arith

pub returns : goal.returns
unfolding course_answer drawn_of
returns c =
    let s = c.args.settings in
    let n = c.args.n in
    let S = points_in s n c.args.points.now in
    let kept = c.draw_points-drawn.ensures.pivots_after in
    let standard = c.draw_points-drawn.new.tables.1.0 in
    let genes = c.put_model.new.out in
    let standard_at = standard_is s S c.args.tables.standard.now (ap (λ (o : DrawOutcome). o.tables.standard) c.draw_points-drawn.ensures.counts_after) in
    let genes_at = genes_front s n S c.draw_points-drawn.new.rows c.draw_points-drawn.new.pivots c.args.records.now c.args.firsts.now
    c.args.interpolants.now kept c.put_model.ensures in
    record {
      sheet = ap (λ (o : DrawOutcome). sheet_of (uncosted o)) c.draw_points-drawn.ensures.counts_after;
      model = genes_are s n S c.draw_points-drawn.new.rows c.draw_points-drawn.new.pivots c.args.records.now c.args.firsts.now c.args.interpolants.now kept c.put_model.ensures;
      back =
          c.unwrap_or-back.ensures ∙ ap told_return c.run.ensures
          ∙ ap (λ (k : ℕ). told_return (return_of (step_of s.modulus s.variables n (take 512 standard) (take 512 genes)) (take k (drop (8 * c.args.first) c.args.records.now)))) (eight c.args.first)
          ∙ ap₂ (λ (x y : List ℕ). told_return (return_of (step_of s.modulus s.variables n x y) (take 8 (drop (8 * c.args.first) c.args.records.now)))) standard_at genes_at;
      solves = subst (λ (k : PivotBytes). Solves s S k.rows k.pivots) kept c.draw_points-drawn.ensures.solves;
      settings = (refl, refl, refl, refl, refl);
    }
