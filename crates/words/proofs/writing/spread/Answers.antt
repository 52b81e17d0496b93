-- `writing::spread` meets its contract.
use Rattle.words.proofs.WritingLaws.{spread_bits, spread_fits}
use Rattle.words.proofs.writing.spread.Goals as goal

pub overflow_add-result : goal.overflow_add-result
overflow_add-result c = record { fits = spread_fits c.args.byte }

pub returns : goal.returns
returns c = spread_bits _ c.ranges.byte.fits
