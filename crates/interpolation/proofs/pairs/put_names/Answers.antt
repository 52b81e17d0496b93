-- `pairs::put_names` meets its contract: the names of the first k variables have been put.
use mathlib.Core.Path.{◌≡◌, refl, sym, ap, ap₂, ◌∙◌}
use mathlib.Core.List.{List, [], ◌∷◌}
use Prim.Native.Nat.{ℕ, ◌+◌, ◌≤◌}
use native.Mathlib.Omega.{arith}
use lib.ListN.{length, take, set, length-append}
use mathlib.Core.Logic.{⊎_elim}
use Rattle.residue.specs.Layout.{groups, fill, length_fill}
use Rattle.residue.proofs.Layouts.{fill_zeros, fill_put}
use Rattle.specification.proofs.Wiring.{names_on, names_off, names_length}
use Rattle.specification.specs.Needed.{wiring_of}
use Rattle.interpolation.proofs.pairs.put_names.Invariants.{put}
use Rattle.interpolation.proofs.pairs.put_names.Goals as goal
use Rattle.interpolation.proofs.pairs.put_names.Goals.{At-loop-k, Start}

-- at the loop's head
module _ (l : At-loop-k) where
  abbrev start : Start
  start = (goal.at.At-loop-k l).Start

  abbrev so_far : List ℕ
  so_far = put start.args.n start.args.points.now start.args.values.now l.loop-k.k

  few : l.loop-k.count ≤ l.loop-k.k
  few =
      let vs = take start.args.n start.args.values.now in
      rw l.loop-k.invariant.1.0 (names_length (groups 8 start.args.n start.args.points.now) vs l.loop-k.k)

  long : length l.loop-k.out ≡ 8
  long = ap length l.loop-k.invariant.1.1 ∙ length_fill 8 so_far

pub loop-k-init : goal.loop-k-init
unfolding wiring_of
loop-k-init c = (omega arith, (refl, c.requires.out_value ∙ sym (fill_zeros 8)))

pub is_needed-requires : goal.is_needed-requires
is_needed-requires c = record { k_bound = (omega arith, omega arith); n_in_bounds = (omega arith, omega arith) }

pub bounds-out-count : goal.bounds-out-count
bounds-out-count c = omega (arith, few (goal.at.bounds-out-count c).At-loop-k, long (goal.at.bounds-out-count c).At-loop-k)

pub overflow_add-count : goal.overflow_add-count
overflow_add-count c = omega (arith, few (goal.at.overflow_add-count c).At-loop-k)

pub loop-k-preserved : goal.loop-k-preserved
loop-k-preserved c = let l = c in
    let S : List (List ℕ) = groups 8 (start (goal.at.loop-k-preserved l).At-loop-k).args.n (start (goal.at.loop-k-preserved l).At-loop-k).args.points.now in
    let vs : List ℕ = take (start (goal.at.loop-k-preserved l).At-loop-k).args.n (start (goal.at.loop-k-preserved l).At-loop-k).args.values.now in
    let k : ℕ = l.loop-k.k in
    let r = sym c.is_needed.ensures in
    ⊎_elim
    (λ w.
    let e = names_on S vs k (r ∙ w.if-is_needed.true) in
    let n = length-append (so_far (goal.at.loop-k-preserved l).At-loop-k) ((k + 1) ∷ []) in
    let f = few (goal.at.loop-k-preserved l).At-loop-k in (
      omega arith,
      (
        w.count-is ∙ omega (arith, l.loop-k.invariant.1.0) ∙ sym (ap length e),
        w.out-is
            ∙ ap₂ (λ (o : List ℕ) (j : ℕ). set o j (k + 1)) l.loop-k.invariant.1.1 l.loop-k.invariant.1.0
            ∙ fill_put 8 (so_far (goal.at.loop-k-preserved l).At-loop-k) (k + 1) (omega (arith, l.loop-k.invariant.1.0))
            ∙ ap (fill 8) (sym e),
      ),
    ))
    (λ w.
    let e = sym (names_off S vs k (r ∙ w.if-is_needed.false)) in
    (omega arith, (w.count-is ∙ l.loop-k.invariant.1.0 ∙ ap length e, w.out-is ∙ l.loop-k.invariant.1.1 ∙ ap (fill 8) e)))
    c.if-is_needed.branch-raw

pub overflow_cast-result : goal.overflow_cast-result
overflow_cast-result c = record { fits = omega (arith, few (goal.at.overflow_cast-result c).At-loop-k) }

pub shape_of-out : goal.shape_of-out
shape_of-out c = long (goal.at.shape_of-out c).At-loop-k ∙ sym (ap length (start (goal.at.shape_of-out c).At-loop-k).requires.out_value)

pub returns : goal.returns
returns c = let l = c in
    let e : l.loop-k.k ≡ (start (goal.at.returns l).At-loop-k).args.m = omega arith in
    let f = ap (put (start (goal.at.returns l).At-loop-k).args.n (start (goal.at.returns l).At-loop-k).args.points.now (start (goal.at.returns l).At-loop-k).args.values.now) e in record { value = l.loop-k.invariant.1.0 ∙ ap length f; out_after = l.loop-k.invariant.1.1 ∙ ap (fill 8) f }
