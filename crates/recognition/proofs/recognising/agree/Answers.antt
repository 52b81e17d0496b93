-- `recognising::agree` meets its contract: the lent tables have their sizes.
use native.Mathlib.Omega.{arith}
use Rattle.specification.specs.Lent.{lent}
use Rattle.specification.proofs.agreement.Refusals.{large_of}
use Rattle.recognition.proofs.recognising.agree.Goals as goal

pub begins-requires : goal.begins-requires
begins-requires c = omega (arith, (large_of (lent c.args.tables) c.requires.counts_value).states)

pub begins-requires-then-begins : goal.begins-requires-then-begins
begins-requires-then-begins c = omega (arith, (large_of (lent c.args.tables) c.requires.counts_value).standard)

pub begins-requires-then-begins-2 : goal.begins-requires-then-begins-2
begins-requires-then-begins-2 c = omega (arith, (large_of (lent c.args.tables) c.requires.counts_value).leads)

pub begins-requires-then-begins-3 : goal.begins-requires-then-begins-3
begins-requires-then-begins-3 c = omega (arith, (large_of (lent c.args.tables) c.requires.counts_value).coefficients)

pub counts_fit-requires : goal.counts_fit-requires
counts_fit-requires c = (c.requires.n_le_counts_size, (large_of (lent c.args.tables) c.requires.counts_value).counts)
