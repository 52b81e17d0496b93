-- `pairs::has_pair` meets its contract: the first i points are linked, and no two of them are a pair.
use mathlib.Core.Path.{◌≡◌, refl, sym, ◌∙◌}
use mathlib.Core.List.{List}
use Prim.Native.Nat.{ℕ, ◌+◌, ◌<◌}
use native.Mathlib.Nat.{mod-lt}
use native.Mathlib.Omega.{arith}
use lib.ListN.{length, get_or, set, length-set}
use Rattle.interpolation.specs.Pairs.{chain_of, Chained}
use Rattle.interpolation.proofs.PairSearch.{pair_found, no_pair, unpaired_more}
use Rattle.interpolation.proofs.Chains.{lasts_none, lasts_more, chained_more}
use Rattle.interpolation.proofs.pairs.has_pair.Goals as goal
use Rattle.interpolation.proofs.pairs.has_pair.Goals.{At-loop-i, Start}

-- at the loop's head
module _ (l : At-loop-i) where
  abbrev start : Start
  start = (goal.at.At-loop-i l).Start

  abbrev rests : List ℕ
  rests = l.put_rests.new.rests

  abbrev chain : ℕ
  chain = chain_of rests l.loop-i.i

  low : chain < 251
  low = mod-lt (get_or rests l.loop-i.i 0) (omega arith)

  -- with the link of point i
  abbrev links : List ℕ
  links = set l.loop-i.before l.loop-i.i (get_or l.loop-i.last chain 0)

  long : length links ≡ 64
  long = length-set l.loop-i.before l.loop-i.i (get_or l.loop-i.last chain 0) ∙ l.loop-i.invariant.1.0

  linked : l.loop-i.i < 64 → Chained rests (l.loop-i.i + 1) links
  linked h =
      chained_more rests l.loop-i.i (get_or l.loop-i.last chain 0) l.loop-i.before
      (omega (arith, l.loop-i.invariant.1.0)) (l.loop-i.invariant.2.0 chain low) l.loop-i.invariant.2.1

pub put_rests-requires : goal.put_rests-requires
put_rests-requires c = (omega arith, omega arith, omega arith)

pub loop-i-init : goal.loop-i-init
loop-i-init c = (omega arith, (refl, refl), (lasts_none _, λ j h. absurd (omega arith)), λ t h. absurd (omega arith))

pub bounds-last-chain : goal.bounds-last-chain
bounds-last-chain c = low (goal.at.bounds-last-chain c).At-loop-i

pub slice_bounds-against_earlier-end : goal.slice_bounds-against_earlier-end
slice_bounds-against_earlier-end c = sym c.put_rests.auto.rests

pub slice_bounds-against_earlier-end-in-loop-i : goal.slice_bounds-against_earlier-end-in-loop-i
slice_bounds-against_earlier-end-in-loop-i c = sym (long (goal.at.slice_bounds-against_earlier-end-in-loop-i c).At-loop-i)

pub against_earlier-requires : goal.against_earlier-requires
against_earlier-requires c = let l = c in
    let p = l.put_rests in record { k_bound = (omega arith, omega arith, omega (arith, p.auto.rests), omega (arith, long (goal.at.against_earlier-requires l).At-loop-i), omega arith); rests = λ j h. p.ensures j (omega arith); chained = linked (goal.at.against_earlier-requires l).At-loop-i (omega arith) }

pub returns-then-against_earlier : goal.returns-then-against_earlier
returns-then-against_earlier c = let l = c in
    let s = start (goal.at.returns-then-against_earlier l).At-loop-i in
    pair_found s.args.n s.args.points.now s.args.values.now (omega arith) s.args.k l.loop-i.i (omega arith)
    (sym c.against_earlier.ensures ∙ c.if-against_earlier.true)

pub bounds-last-chain-in-loop-i : goal.bounds-last-chain-in-loop-i
bounds-last-chain-in-loop-i c = low (goal.at.bounds-last-chain-in-loop-i c).At-loop-i

pub loop-i-preserved : goal.loop-i-preserved
loop-i-preserved c = let l = c in
    let s = start (goal.at.loop-i-preserved l).At-loop-i in (
      omega arith,
      (long (goal.at.loop-i-preserved l).At-loop-i, length-set l.loop-i.last (chain (goal.at.loop-i-preserved l).At-loop-i) (l.loop-i.i + 1) ∙ l.loop-i.invariant.1.1),
      (lasts_more (rests (goal.at.loop-i-preserved l).At-loop-i) l.loop-i.i l.loop-i.last l.loop-i.invariant.1.1 (low (goal.at.loop-i-preserved l).At-loop-i) l.loop-i.invariant.2.0, linked (goal.at.loop-i-preserved l).At-loop-i (omega arith)),
      unpaired_more s.args.n s.args.points.now s.args.values.now (omega arith) s.args.k l.loop-i.i l.loop-i.invariant.3
          (sym c.against_earlier.ensures ∙ c.if-against_earlier.false),
    )

pub returns : goal.returns
returns c = let l = c in
    let s = start (goal.at.returns l).At-loop-i in
    no_pair s.args.n s.args.points.now s.args.values.now (omega arith) s.args.k (λ t h. l.loop-i.invariant.3 t (omega arith))
