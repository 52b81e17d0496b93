-- `pairs::against_earlier` meets its contract: along the chain, what is left of the search is the whole search.
use mathlib.Core.Path.{◌≡◌, sym, ap₂, ◌∙◌}
use mathlib.Core.Bool.{Bool, true}
use mathlib.Core.Logic.{◌≢◌, ⊎_elim}
use mathlib.Core.List.{List}
use Prim.Native.Nat.{ℕ, ◌+◌, ◌*◌, ◌-◌, ◌<◌}
use native.Mathlib.Omega.{arith}
use lib.ListN.{get_or, take, drop}
use Rattle.residue.proofs.Replaced.{part_long}
use Rattle.specification.specs.Needed.{apart}
use Rattle.interpolation.specs.Pairs.{chain_of, Last, contrary_to}
use Rattle.interpolation.proofs.Chains.{left_start, left_on, left_hit, left_end, within_chain, other_rest, same_value, by_apart}
use Rattle.interpolation.proofs.Differences.{told_same}
use Rattle.interpolation.proofs.pairs.against_earlier.Goals as goal
use Rattle.interpolation.proofs.pairs.against_earlier.Goals.{At-loop-next, Start}

-- the width of a point's place
eight : (i : ℕ) → 8 * i + 8 - 8 * i ≡ 8
eight i = omega arith

-- at the loop's head
module _ (l : At-loop-next) where
  abbrev start : Start
  start = (goal.at.At-loop-next l).Start

  abbrev j : ℕ
  j = l.loop-next.next - 1

  abbrev test : ℕ → Bool
  test = contrary_to start.args.k start.args.points.now start.args.values.now start.args.i

  -- the link of the point at j
  link : l.loop-next.next ≢ 0 → Last start.args.rests.now (chain_of start.args.rests.now j) j (get_or start.args.before.now j 0)
  link ne = start.requires.chained j (omega (arith, l.loop-next.invariant.early))

  -- what the comparison of the two points says, their values being different
  compared : (same : Bool) → same ≡ apart start.args.k (take (8 * j + 8 - 8 * j) (drop (8 * j) start.args.points.now))
      (take (8 * start.args.i + 8 - 8 * start.args.i) (drop (8 * start.args.i) start.args.points.now))
      → (get_or start.args.values.now j 0 ≡ get_or start.args.values.now start.args.i 0 → ⊥) → test j ≡ same
  compared same e ne =
      let t : List ℕ = start.args.points.now in
      let i : ℕ = start.args.i in
      by_apart start.args.k t start.args.values.now start.args.rests.now i start.requires.rests j ne
      ∙ sym (e ∙ ap₂ (λ (u v : ℕ). apart start.args.k (take u (drop (8 * j) t)) (take v (drop (8 * i) t))) (eight j) (eight i))

  abbrev within : (t : ℕ) → t < start.args.i → test t ≡ true → chain_of start.args.rests.now t ≡ chain_of start.args.rests.now start.args.i
  within = within_chain start.args.k start.args.points.now start.args.values.now start.args.rests.now start.args.i start.requires.rests

pub overflow_cast-next : goal.overflow_cast-next
overflow_cast-next c = omega (arith, c.shared_slice_known-6-1.given c.args.i)

pub loop-next-init : goal.loop-next-init
loop-next-init c = let s = c in
    left_start s.args.rests.now s.args.i (contrary_to s.args.k s.args.points.now s.args.values.now s.args.i)
    (within_chain s.args.k s.args.points.now s.args.values.now s.args.rests.now s.args.i s.requires.rests)
    (get_or s.args.before.now s.args.i 0) (s.requires.chained s.args.i (omega arith))

pub offset_bounds-rests-j : goal.offset_bounds-rests-j
offset_bounds-rests-j c = omega (arith, c.loop-next.invariant.early)

pub bounds-rests-j : goal.bounds-rests-j
bounds-rests-j c = omega (arith, c.loop-next.invariant.early)

pub bounds-values-j : goal.bounds-values-j
bounds-values-j c = omega (arith, c.loop-next.invariant.early)

pub overflow_mul-first : goal.overflow_mul-first
overflow_mul-first c = omega (arith, c.loop-next.invariant.early)

pub overflow_add-first : goal.overflow_add-first
overflow_add-first c = omega (arith, c.loop-next.invariant.early)

pub slice_bounds-only_difference-count : goal.slice_bounds-only_difference-count
slice_bounds-only_difference-count c = omega (arith, c.loop-next.invariant.early)

pub slice_bounds-only_difference-start : goal.slice_bounds-only_difference-start
slice_bounds-only_difference-start c = omega (arith, c.loop-next.invariant.early)

pub slice_bounds-only_difference-end : goal.slice_bounds-only_difference-end
slice_bounds-only_difference-end c = omega (arith, c.loop-next.invariant.early)

pub only_difference-requires : goal.only_difference-requires
only_difference-requires c = let l = c in
    let t = (start (goal.at.only_difference-requires l).At-loop-next).args.points.now in
    let i = (start (goal.at.only_difference-requires l).At-loop-next).args.i in (
      part_long (8 * j (goal.at.only_difference-requires l).At-loop-next) (8 * j (goal.at.only_difference-requires l).At-loop-next + 8 - 8 * j (goal.at.only_difference-requires l).At-loop-next) 8 t (eight (j (goal.at.only_difference-requires l).At-loop-next)) (omega (arith, l.loop-next.invariant.early)),
      part_long (8 * i) (8 * i + 8 - 8 * i) 8 t (eight i) (omega arith),
    )

pub returns-then-eq : goal.returns-then-eq
returns-then-eq c =
    let l = (goal.at.returns-then-eq c).At-loop-next in
    let s = start l in
    left_hit s.args.rests.now s.args.i (test l) (within l) c.loop-next.next c.loop-next.invariant (λ e. omega arith)
    (compared l _ (told_same c.only_difference.result s.args.k _ (c.only_difference.ensures s.args.k (omega arith))) c.if-values-j.true ∙ sym c.eq.ensures ∙ c.if-eq.true)

pub bounds-before-j : goal.bounds-before-j
bounds-before-j c = omega (arith, c.loop-next.invariant.early)

pub overflow_cast-next-in-loop-next : goal.overflow_cast-next-in-loop-next
overflow_cast-next-in-loop-next c = let l = c in omega (arith, l.loop-next.invariant.early, (link (goal.at.overflow_cast-next-in-loop-next l).At-loop-next (λ e. omega arith)).early)

pub loop-next-smaller : goal.loop-next-smaller
loop-next-smaller c = let l = c in omega (arith, (link (goal.at.loop-next-smaller l).At-loop-next (λ e. omega arith)).early)

pub loop-next-preserved : goal.loop-next-preserved
loop-next-preserved c = let l = c in
    let s = start (goal.at.loop-next-preserved l).At-loop-next in
    let t = s.args.points.now in
    let vs = s.args.values.now in
    let rs = s.args.rests.now in
    let i : ℕ = s.args.i in
    let ne : l.loop-next.next ≢ 0 = λ e. omega arith in
    let early : j (goal.at.loop-next-preserved l).At-loop-next < i = omega (arith, l.loop-next.invariant.early) in
    left_on rs i (test (goal.at.loop-next-preserved l).At-loop-next) (within (goal.at.loop-next-preserved l).At-loop-next) l.loop-next.next (get_or s.args.before.now (j (goal.at.loop-next-preserved l).At-loop-next) 0) l.loop-next.invariant ne
    (⊎_elim
    (λ w. compared (goal.at.loop-next-preserved l).At-loop-next _ (told_same w.only_difference.result s.args.k _ (w.only_difference.ensures s.args.k (omega arith))) w.if-values-j.true ∙ sym w.eq.ensures ∙ w.if-eq.false)
    (⊎_elim
    (λ w. same_value s.args.k t vs rs i s.requires.rests (j (goal.at.loop-next-preserved l).At-loop-next) w.if-values-j.false)
    (λ w. other_rest s.args.k t vs rs i s.requires.rests (j (goal.at.loop-next-preserved l).At-loop-next) early w.if-rests-j.false))
    c.if-rests-j.branch-raw)
    (link (goal.at.loop-next-preserved l).At-loop-next ne)

pub returns : goal.returns
returns c = let l = c in
    let s = start (goal.at.returns l).At-loop-next in
    left_end s.args.rests.now s.args.i (test (goal.at.returns l).At-loop-next) (within (goal.at.returns l).At-loop-next) l.loop-next.next l.loop-next.invariant (omega arith)
