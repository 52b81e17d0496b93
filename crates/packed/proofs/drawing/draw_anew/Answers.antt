-- `drawing::draw_anew` meets its contract: the tables are cleared, and the walk is that of the order.
use mathlib.Core.Path.{◌≡◌, ap, ◌∙◌}
use mathlib.Core.List.{List}
use Prim.Native.Nat.{ℕ}
use native.Mathlib.Omega.{arith}
use lib.ListN.{replicate}
use Rattle.residue.specs.Sizes.{standard_size, leads_size, coefficients_size}
use Rattle.packed.proofs.drawing.draw_anew.Goals as goal
use Rattle.packed.proofs.drawing.draw_anew.Goals.{After-clear-3, Start}

-- the tables are cleared
abbrev start : After-clear-3 → Start
start k = (goal.at.After-clear-3 k).Start

cleared : {t : List ℕ} {k n : ℕ} → k ≡ n → t ≡ replicate k 0 → t ≡ replicate n 0
cleared l e = e ∙ ap (λ (k : ℕ). replicate k 0) l

all_cleared : (k : After-clear-3)
    → (k.clear.new.to ≡ replicate standard_size 0)
    × ((k.clear-2.new.to ≡ replicate leads_size 0) × (k.clear-3.new.to ≡ replicate coefficients_size 0))
all_cleared k = (
  cleared (start k).requires.standard_len.0 k.clear.ensures,
  (cleared (start k).requires.standard_len.1.0 k.clear-2.ensures, cleared (start k).requires.standard_len.1.1 k.clear-3.ensures),
)

pub draw_lex-requires : goal.draw_lex-requires
draw_lex-requires c = let k = c in record { points_given = ((start (goal.at.draw_lex-requires k).After-clear-3).requires.points_given.0, ((start (goal.at.draw_lex-requires k).After-clear-3).requires.points_given.1, c.in-0.is)); standard_value = all_cleared (goal.at.draw_lex-requires k).After-clear-3 }

pub draw_grlex-requires : goal.draw_grlex-requires
draw_grlex-requires c = let k = c in record { points_given = ((start (goal.at.draw_grlex-requires k).After-clear-3).requires.points_given.0, ((start (goal.at.draw_grlex-requires k).After-clear-3).requires.points_given.1, c.in-1.is)); standard_value = all_cleared (goal.at.draw_grlex-requires k).After-clear-3 }

pub draw_grevlex-requires : goal.draw_grevlex-requires
draw_grevlex-requires c = let k = c in record { points_given = ((start (goal.at.draw_grevlex-requires k).After-clear-3).requires.points_given.0, ((start (goal.at.draw_grevlex-requires k).After-clear-3).requires.points_given.1, c.in-2.is)); standard_value = all_cleared (goal.at.draw_grevlex-requires k).After-clear-3 }

pub draw_weighted-requires : goal.draw_weighted-requires
draw_weighted-requires c = let k = c in record {
  points_given = (
    (start (goal.at.draw_weighted-requires k).After-clear-3).requires.points_given.0,
    (
      (start (goal.at.draw_weighted-requires k).After-clear-3).requires.points_given.1,
      omega (arith, (start (goal.at.draw_weighted-requires k).After-clear-3).requires.points_given.0.settings.order),
    ),
  );
  standard_value = all_cleared (goal.at.draw_weighted-requires k).After-clear-3;
}
