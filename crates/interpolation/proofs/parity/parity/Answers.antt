-- `parity::parity` meets its contract: what is left of all words has the parity of the ones that are left.
use Rattle.std.proofs.Common.{rules}
use Rattle.std.proofs.lemmas.Iterator.{YieldsList-from_slice, YieldsList-from_zip}
use Rattle.std.proofs.lemmas.Iterator.Consumers.{fold_from_yields_List}
use Rattle.interpolation.proofs.ParityLaws.{left_in, folded_parity}
use Rattle.interpolation.proofs.parity.parity.Goals as goal

pub returns : goal.returns
returns c =
    let s = c.args.polynomial.now in
    let mask = c.args.mask.now in
    folded_parity s mask c.fold-left.result
    (fold_from_yields_List _ left_in 0 c.fold-left.result c.fold-left.ensures.ran (YieldsList-from_zip (YieldsList-from_slice s cc) (YieldsList-from_slice mask cc)) (λ a x b q k. search rules))
