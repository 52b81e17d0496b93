-- `vector::dot` meets its contract. The sum so far is that of the products before the index.
use mathlib.Core.Path.{◌≡◌}
use Prim.Native.Nat.{◌%◌}
use lib.ListN.{take}
use Rattle.residue.specs.Vector.{dot_of}
use Rattle.residue.proofs.vector.dot.Given as goal

abbrev pub invariant-loop-x : goal.invariant-loop-x
invariant-loop-x l = l.total ≡ dot_of (take l.x-index l.a) (take l.x-index l.b) % l.p
