-- `writing::put_row` meets its contract.
use lib.ListN.{length}
use Prim.Native.Nat.{◌+◌, ◌*◌, ◌-◌, ◌/◌, ◌^◌}
use mathlib.Core.Path.{sym, ap, ◌∙◌}
use lib.Bits.{and_le_r}
use native.Mathlib.Omega.{arith}
use Rattle.words.proofs.WritingLaws.{written_none, written_long, written_more, written_all, bits_low}
use Rattle.words.proofs.writing.put_row.Goals as goal

pub loop-k-init : goal.loop-k-init
loop-k-init c = (omega arith, (c.requires, written_none _ _))

pub overflow_cast-word : goal.overflow_cast-word
overflow_cast-word c = record { fits = omega (arith, and_le_r (c.args.word / 2 ^ (8 * c.loop-k.k)) 255) }

pub loop-k-preserved : goal.loop-k-preserved
loop-k-preserved c = let l = c in
    let a = l in
    let now = written_more l.loop-k.k (8 * l.loop-k.k + 8 - 8 * l.loop-k.k) a.args.word a.args.to.now l.loop-k.to _ l.loop-k.invariant.1.1 (omega arith)
    (c.put_eight.ensures ∙ c.spread.ensures ∙ bits_low (a.args.word / 2 ^ (8 * l.loop-k.k))) in
    (omega arith, (ap length now ∙ written_long (l.loop-k.k + 1) a.args.word a.args.to.now (omega arith) a.requires, now))

pub shape_of-to : goal.shape_of-to
shape_of-to c = c.loop-k.invariant.1.0 ∙ sym c.requires

pub returns : goal.returns
returns c = c.loop-k.invariant.1.1 ∙ written_all c.loop-k.k _ _ (omega arith) c.requires
