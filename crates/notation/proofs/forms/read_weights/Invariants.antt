-- `forms::read_weights` meets its contract. The weights from `at` on, kept behind those so far, are all that is to be kept.
use mathlib.Core.Path.{◌≡◌}
use mathlib.Core.Option.{map}
use Prim.Native.Nat.{◌-◌, ◌≤◌}
use lib.ListN.{length, drop}
use Rattle.notation.specs.Forms.{weights_of, weighted}
use Rattle.notation.proofs.forms.WeightsRead.{keeps}
use Rattle.notation.proofs.forms.read_weights.Given as goal

abbrev pub invariant-loop-i : goal.invariant-loop-i
invariant-loop-i l = record {
  within : l.at ≤ length l.content;
  kept : keeps l.i l.weights (weights_of (l.names - l.i) (drop l.at l.content)) ≡ map weighted (weights_of l.names l.content);
}
