-- `reducing::gain_three` meets its contract. The loop has written the entries before i, each as the definition has it.
use mathlib.Core.Path.{◌≡◌}
use mathlib.Core.List.{List}
use Prim.Native.Nat.{ℕ, ◌+◌, ◌%◌, ◌≤◌}
use lib.ListN.{get_or}
use Rattle.residue.proofs.vector.Filled.{filled}
use Rattle.elimination.proofs.reducing.gain_three.Given as goal

abbrev pub entry : ℕ → List ℕ → List ℕ → List ℕ → List ℕ → ℕ → ℕ
entry p dst a b c i = (((get_or dst i 0 + get_or a i 0) % p + get_or b i 0) % p + get_or c i 0) % p

abbrev pub invariant-loop-i : goal.invariant-loop-i
invariant-loop-i l = (l.i ≤ l.width) × (l.dst ≡ filled (entry l.p l.initial.dst l.a l.b l.c) l.i l.initial.dst)
