-- `drawing::draw_anew` meets its contract: three tables of their sizes are cleared, and drawn up.
use mathlib.Core.Path.{◌≡◌, ap, ◌∙◌}
use mathlib.Core.List.{List}
use Prim.Native.Nat.{ℕ}
use lib.ListN.{length, replicate}
use Rattle.construction.proofs.drawing.draw_anew.Goals as goal
use Rattle.construction.proofs.drawing.draw_anew.Goals.{After-clear, After-clear-2, After-clear-3, After-draw, After-slice_known-13-1, Start}

-- a table of zeros, by its size
blank : (k : ℕ) (t zeros : List ℕ) → length t ≡ k → zeros ≡ replicate (length t) 0 → zeros ≡ replicate k 0
blank k t zeros e f = f ∙ ap (λ (j : ℕ). replicate j 0) e

-- the three calls before, one from the next, and where the parameters come in
module _ (k : After-clear-3) where
  abbrev second : After-clear-2
  second = (goal.at.After-clear-3 k).After-clear-2

  abbrev first : After-clear
  first = (goal.at.After-clear-2 second).After-clear

  abbrev s : Start
  s = (goal.at.After-clear first).Start

pub draw-requires : goal.draw-requires
draw-requires c = let k = c in
    let o = s (goal.at.draw-requires k).After-clear-3 in record { points_given = o.requires.points_given; standard_value = (blank 512 o.args.standard.now _ o.requires.standard_len.0 (first (goal.at.draw-requires k).After-clear-3).clear.ensures, (blank 3592 o.args.leads.now _ o.requires.standard_len.1.0 (second (goal.at.draw-requires k).After-clear-3).clear-2.ensures, blank 28736 o.args.coefficients.now _ o.requires.standard_len.1.1 k.clear-3.ensures)); rows_long = o.requires.rows_long }

-- the drawing, and the clearing before it
abbrev drawing : After-slice_known-13-1 → After-draw
drawing c = (goal.at.After-slice_known-13-1 c).After-draw

abbrev cleared : After-draw → After-clear-3
cleared d = (goal.at.After-draw d).After-clear-3

pub returns : goal.returns
returns c =
    let e = (drawing (goal.at.returns c).After-slice_known-13-1).draw.ensures in
    record { drawn_up = e.drawn_up; cancellations_value = e.cancellations_value; pivots_after = e.pivots_after }
