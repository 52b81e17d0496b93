-- `stepping::put_powers` meets its contract. The loop has written the powers with exponents below e, and holds the e-th.
use mathlib.Core.Path.{◌≡◌}
use Prim.Native.Nat.{◌-◌, ◌≤◌}
use Rattle.residue.specs.Layout.{fill, in_places}
use Rattle.steps.specs.Stepping.{powers_of}
use Rattle.steps.proofs.stepping.StepLaws.{raised}
use Rattle.steps.proofs.stepping.put_powers.Given as goal

abbrev pub invariant-loop-e : goal.invariant-loop-e
invariant-loop-e l = (l.e ≤ l.exponents) × (l.powers ≡ fill 2048 (in_places 8 (powers_of l.p l.state l.e))) × (l.power ≡ raised l.p l.e (fill 16 l.state))

abbrev pub decreases-loop-e : goal.decreases-loop-e
decreases-loop-e l = l.exponents - l.e
