-- `drawing::draw` meets its contract. At the loop's head the tables hold what is found, and a monomial is in hand; each turn keeps it and finds the next.
use Prim.Native.Nat.{◌+◌, ◌-◌}
use Rattle.construction.proofs.drawing.LoopState.{Head}
use Rattle.construction.proofs.drawing.draw.Given as goal

-- A turn of the loop of `drawing::draw`, place by place: its head, the working row reduced, the monomial kept.
abbrev pub invariant-loop-exponents : goal.invariant-loop-exponents
invariant-loop-exponents l = Head l.settings l.n l.points l.initial.rows l.initial.pivots l.found l.r l.cancellations l.standard l.leads l.coefficients l.rows l.pivots l.values l.ranks l.steps l.at l.exponents l.rank l.own

abbrev pub decreases-loop-exponents : goal.decreases-loop-exponents
decreases-loop-exponents l = 513 - (l.found + l.r)
