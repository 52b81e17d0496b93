-- `gathering::gather` meets its contract: the points from the ith on, entered into the list that stands in the table and the bytes, give all.
use mathlib.Core.Path.{◌≡◌, sym, ap, ◌∙◌, subst}
use mathlib.Core.Bool.{Bool, cond}
use mathlib.Core.Logic.{inl, inr, ◌⊎◌}
use mathlib.Core.List.{List, []}
use Prim.Native.Nat.{ℕ, ◌+◌, ◌*◌, ◌≤◌}
use native.Mathlib.Nat.{mul-le-mul_left}
use native.Mathlib.Omega.{arith}
use lib.ListN.{length, take, drop}
use Rattle.residue.specs.Layout.{groups, fill, length_fill}
use Rattle.specification.specs.Answers.{number_of, refusal_of}
use Rattle.specification.specs.Levels.{residues}
use Rattle.specification.specs.Counted.{gathered}
use Rattle.specification.proofs.agreement.Points.{length_residues}
use Rattle.points.specs.Gathering.{EnteredAs, TabledAs, entered_while_room}
use Rattle.points.proofs.gathering.Hints.{hinted_none, hinted_next}
use Rattle.points.proofs.gathering.Gathering.{holds_sizes, once_held, before_first, refused_full, stopped, before_next, all_in, all_tabled, as_long, all_told}
use Rattle.points.proofs.gathering.gather.Goals as goal
use Rattle.points.proofs.gathering.gather.Goals.{After-enter-met, After-put_point, At-loop-i, In-loop-i, Start, then-met-n, else-met-n}

-- at the loop's head
module _ (l : At-loop-i) where
  abbrev s : Start
  s = l.before.before.before

  -- the numbers of all points
  abbrev R : List ℕ
  R = residues s.args.p s.args.levels.now

  sizes : (length l.loop-i.points ≡ 512) × (length l.loop-i.counts ≡ 64)
  sizes = holds_sizes l.loop-i.invariant.2.holds

  -- and where the loop ends
  module _ (end : s.args.count ≤ l.loop-i.i) where
    entered_all : l.loop-i.invariant.2.list ≡ gathered (groups s.args.m s.args.count R)
    entered_all = all_in s.args.m R s.args.count l.loop-i.invariant.2 end

    tabled : TabledAs (entered_while_room (groups s.args.m s.args.count R) []) l.loop-i.n l.loop-i.points l.loop-i.counts
    tabled = all_tabled s.args.m R s.args.count l.loop-i.invariant.2 end

-- in a turn: the levels of the ith point are there
module _ (c : In-loop-i) where
  abbrev a : Start
  a = s (goal.at.In-loop-i c).At-loop-i

  last : a.args.m * c.loop-i.i + a.args.m ≤ length a.args.levels.now
  last = let h = mul-le-mul_left a.args.m c.loop-i-test.true in omega (arith, a.requires.m_bound.1)

-- the point is in its bytes
module _ (c : After-put_point) where
  abbrev turn : In-loop-i
  turn = (goal.at.After-put_point c).In-loop-i

  abbrev point : List ℕ
  point = c.put_point.new.to

  long : length point ≡ 8
  long = ap length c.put_point.ensures ∙ length_fill 8 _

-- and it is entered
module _ (c : After-enter-met) where
  abbrev filled : After-put_point
  filled = (goal.at.After-enter-met c).After-put_point

  abbrev t : In-loop-i
  t = turn filled

  abbrev l : At-loop-i
  l = (goal.at.In-loop-i t).At-loop-i

  abbrev b : Start
  b = s l

  abbrev EntersIt : List ℕ → Type 0
  EntersIt P = EnteredAs l.loop-i.n P l.loop-i.points l.loop-i.counts l.loop-i.hints c.enter-met.result.at c.enter-met.result.over c.enter-met.new.points
      c.enter-met.new.counts c.enter-met.new.hints

  enters : EntersIt (fill 8 (take b.args.m (drop (b.args.m * l.loop-i.i) (R l))))
  enters = subst EntersIt filled.put_point.ensures c.enter-met.ensures

  enough : b.args.m * b.args.count ≤ length (R l)
  enough = omega (arith, b.requires.m_bound.1, length_residues b.args.p b.args.levels.now)

pub loop-i-init : goal.loop-i-init
loop-i-init c = let s = c in
    (omega arith, hinted_none s.args.points.now, before_first s.args.m (residues s.args.p s.args.levels.now) s.args.count s.requires.points_value.0 s.requires.points_value.1)

pub overflow_mul-m : goal.overflow_mul-m
overflow_mul-m c = omega (arith, last (goal.at.overflow_mul-m c).In-loop-i, (a (goal.at.overflow_mul-m c).In-loop-i).well_formed.1.1.1.0.0)

pub enter-met-requires : goal.enter-met-requires
enter-met-requires c =
    let f = (goal.at.enter-met-requires c).After-put_point in
    let b = c.loop-i.invariant.2 in
    let sized = holds_sizes b.holds in
    record { n_bound = (b.holds.few, c.key.ensures); points_len = (sized.0, sized.1, long f); t = (once_held b.holds c.requires.m_bound.0 b.once, c.loop-i.invariant.1) }

pub returns-then-met-eq64-clause-refusal_value : goal.returns-then-met-eq64-clause-refusal_value
unfolding refusal_of number_of
returns-then-met-eq64-clause-refusal_value c = let e = (goal.at.returns-then-met-eq64-clause-refusal_value c).After-enter-met in
    refused_full (b e).args.m (R (l e)) (b e).args.count (l e).loop-i.invariant.2 (b e).requires.m_bound.0 (t e).loop-i-test.true (enough e) (enters e) c.if-met-eq64.true

pub returns-then-met-eq64-clause-tabled_as : goal.returns-then-met-eq64-clause-tabled_as
returns-then-met-eq64-clause-tabled_as c = let e = (goal.at.returns-then-met-eq64-clause-tabled_as c).After-enter-met in
    as_long (stopped (b e).args.m (R (l e)) (b e).args.count (l e).loop-i.invariant.2 (b e).requires.m_bound.0 (t e).loop-i-test.true (enough e) (enters e) c.if-met-eq64.true)

pub loop-i-preserved : goal.loop-i-preserved
loop-i-preserved c =
    let e = (goal.at.loop-i-preserved c).After-enter-met in
    let v = (l e).loop-i.invariant in
    let came : ((c.enter-met.result.at ≡ c.loop-i.n) × (c.if-met-n.n ≡ c.loop-i.n + 1)) ⊎ ((c.enter-met.result.at ≡ c.loop-i.n → ⊥) × (c.if-met-n.n ≡ c.loop-i.n)) =
    elim c.if-met-n.branch [ then-met-n z ↦ inl (z.if-met-n.true, z.n-is) | else-met-n z ↦ inr (z.if-met-n.false, z.n-is) ] in (
      omega arith,
      hinted_next v.1 (point (filled e)) v.2.holds.few (sizes (l e)).0 (long (filled e)) c.enter-met.ensures c.if-met-eq64.false _ came,
      before_next (b e).args.m (R (l e)) (b e).args.count v.2 (b e).requires.m_bound.0 (t e).loop-i-test.true (enough e) (enters e) c.if-met-eq64.false _ came,
    )

pub returns-then-over-clause-refusal_value : goal.returns-then-over-clause-refusal_value
unfolding refusal_of number_of
returns-then-over-clause-refusal_value c = let l = (goal.at.returns-then-over-clause-refusal_value c).At-loop-i in
    ap (λ (b : Bool). cond {A = ℕ} b 13 0) (sym c.if-over.true) ∙ all_told l.loop-i.invariant.2.holds (groups (s l).args.m (s l).args.count (R l)) (entered_all l (omega arith))

pub returns-then-over-clause-tabled_as : goal.returns-then-over-clause-tabled_as
returns-then-over-clause-tabled_as c = let l = (goal.at.returns-then-over-clause-tabled_as c).At-loop-i in as_long (tabled l (omega arith))

pub returns-clause-refusal_value : goal.returns-clause-refusal_value
unfolding refusal_of
returns-clause-refusal_value c = let l = (goal.at.returns-clause-refusal_value c).At-loop-i in
    ap (λ (b : Bool). cond {A = ℕ} b 13 0) (sym c.if-over.false) ∙ all_told l.loop-i.invariant.2.holds (groups (s l).args.m (s l).args.count (R l)) (entered_all l (omega arith))

pub returns-clause-n_value : goal.returns-clause-n_value
returns-clause-n_value c = λ n e. let l = (goal.at.returns-clause-n_value c).At-loop-i in let t = tabled l (omega arith) in cc (t.number)

pub returns-clause-tabled_as : goal.returns-clause-tabled_as
returns-clause-tabled_as c = let l = (goal.at.returns-clause-tabled_as c).At-loop-i in as_long (tabled l (omega arith))
