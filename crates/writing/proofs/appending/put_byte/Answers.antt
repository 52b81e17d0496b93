-- `appending::put_byte` meets its contract.
use native.Mathlib.Omega.{arith}
use Rattle.writing.proofs.appending.Appends.{put_set}
use Rattle.writing.proofs.appending.put_byte.Goals as goal

pub returns : goal.returns
returns c = put_set _ _ _ (omega arith)
