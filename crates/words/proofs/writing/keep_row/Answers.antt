-- `writing::keep_row` meets its contract.
use Prim.Native.Nat.{◌+◌, ◌*◌, ◌-◌}
use native.Mathlib.Omega.{arith}
use Rattle.residue.proofs.Replaced.{put_whole}
use Rattle.residue.proofs.BitLaws.{bits_length}
use Rattle.words.proofs.writing.keep_row.Goals as goal

pub returns : goal.returns
returns c = let a = c in put_whole 64 a.args.r (64 * a.args.r + 64 - 64 * a.args.r) _ _ (omega arith) a.requires.1 (bits_length 64 _) c.put_row.ensures
