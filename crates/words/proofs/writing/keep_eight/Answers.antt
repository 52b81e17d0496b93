-- `writing::keep_eight` meets its contract.
use Prim.Native.Nat.{◌+◌, ◌*◌, ◌-◌}
use native.Mathlib.Omega.{arith}
use Rattle.residue.proofs.Replaced.{put_whole}
use Rattle.residue.proofs.Words.{bytes_length}
use Rattle.words.proofs.writing.keep_eight.Goals as goal

pub returns : goal.returns
returns c = let a = c in put_whole 8 a.args.i (8 * a.args.i + 8 - 8 * a.args.i) _ _ (omega arith) a.requires.1 (bytes_length 8 _) c.put_eight.ensures
