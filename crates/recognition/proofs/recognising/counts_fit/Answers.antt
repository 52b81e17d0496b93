-- `recognising::counts_fit` meets its contract: the bytes from n to 63 are 0 exactly where the others fill the table.
use native.Mathlib.Omega.{arith}
use mathlib.Core.Path.{◌≡◌, sym, ap, ◌∙◌}
use mathlib.Core.Bool.{not}
use Rattle.residue.specs.Lists.{every}
use Rattle.residue.specs.Layout.{fill}
use Rattle.specification.specs.Counted.{is_count}
use Rattle.recognition.proofs.recognising.Counts.{all_counts, unused}
use Rattle.recognition.proofs.recognising.counts_fit.Goals as goal
use Rattle.recognition.proofs.recognising.counts_fit.Goals.{After-contains}

counts : (c : After-contains) → not c.contains.result ≡ every is_count (fill c.args.n c.args.counts.now)
counts c = ap not c.contains.ensures.value ∙ all_counts c.args.n c.args.counts.now (omega arith) (λ i. (c.type_inv.counts i).fits)

pub returns-then-not-contains : goal.returns-then-not-contains
returns-then-not-contains c =
    let told = sym (counts (goal.at.returns-then-not-contains c).After-contains) ∙ ap not c.if-not-contains.true in
    c.all_zero.ensures ∙ sym (unused 64 c.args.n c.args.counts.now c.requires.0 c.requires.1) ∙ simp told

pub returns-else-not-contains : goal.returns-else-not-contains
returns-else-not-contains c =
    let told = sym (counts (goal.at.returns-else-not-contains c).After-contains) ∙ ap not c.if-not-contains.false in
    simp (told, c.if-not-contains.false)
