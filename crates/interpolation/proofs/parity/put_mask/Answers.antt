-- `parity::put_mask` meets its contract.
use native.Mathlib.Omega.{arith}
use Rattle.interpolation.proofs.MaskLaws.{mask_written}
use Rattle.interpolation.proofs.parity.put_mask.Goals as goal

pub kept-next-requires : goal.kept-next-requires
kept-next-requires c = let s = c in s.requires.1 6 (omega arith)

pub kept-requires : goal.kept-requires
kept-requires c = let s = c in s.requires.1 7 (omega arith)

pub kept-requires-2 : goal.kept-requires-2
kept-requires-2 c = let s = c in s.requires.1 7 (omega arith)

pub returns : goal.returns
returns c = let s = c in
    mask_written s.args.point.now s.args.mask.now _ _ _ _ s.requires.2 (s.requires.1 6 (omega arith)) (s.requires.1 7 (omega arith)) c.low_mask-low.ensures c.kept-next.ensures
    c.kept.ensures c.kept-2.ensures
