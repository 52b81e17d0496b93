-- `model::put_next` meets its contract. The loop has written the values before its index.
use mathlib.Core.Path.{◌≡◌, ap, ◌∙◌}
use Prim.Native.Nat.{ℕ, ◌+◌, ◌*◌, ◌<◌}
use native.Mathlib.Omega.{arith}
use lib.ListN.{length, get_or, take}
use lib.Seq.{length-take-le, get_or-take}
use Rattle.residue.proofs.vector.Filled.{filled_none, kept_length, filled_more}
use Rattle.steps.proofs.model.ModelLaws.{next_put}
use Rattle.steps.proofs.model.put_next.Goals as goal
use Rattle.steps.proofs.model.put_next.Goals.{At-loop-j, In-loop-j, Start}

abbrev value_at_lem : Start → ℕ → ℕ
value_at_lem s i = get_or s.args.records.now (8 * (get_or (take s.args.n s.args.firsts.now) i 0 + 1) + s.args.g) 0

long : (l : At-loop-j) → length l.loop-j.values ≡ length l.args.values.now
long l = kept_length (value_at_lem (goal.at.At-loop-j l).Start) l.loop-j.j l.args.values.now l.loop-j.values l.loop-j.invariant.1

pub loop-j-init : goal.loop-j-init
loop-j-init c = (omega arith, filled_none _ _)

-- as many as are named
named : (c : In-loop-j) → c.loop-j.j < c.args.n
named c = omega (arith, length-take-le c.args.n c.args.firsts.now (omega arith))

pub bounds-records-from : goal.bounds-records-from
bounds-records-from c =
    let h = named (goal.at.bounds-records-from c).In-loop-j in
    let e = get_or-take c.args.n c.args.firsts.now c.loop-j.j 0 h in
    omega (arith, c.requires.by_index c.loop-j.j h, c.from.ensures)

pub bounds-values-j : goal.bounds-values-j
bounds-values-j c = omega (arith, named (goal.at.bounds-values-j c).In-loop-j, long (goal.at.bounds-values-j c).At-loop-j)

pub loop-j-preserved : goal.loop-j-preserved
loop-j-preserved c =
    let h = named (goal.at.loop-j-preserved c).In-loop-j in (
      omega arith,
      filled_more (value_at_lem (goal.at.loop-j-preserved c).Start) c.loop-j.j c.args.values.now c.loop-j.values c.loop-j.invariant.1 _ (omega arith)
          (ap (λ (i : ℕ). get_or c.args.records.now (8 * (i + 1) + c.args.g) 0) c.from.ensures),
    )

pub shape_of-values : goal.shape_of-values
shape_of-values c = long (goal.at.shape_of-values c).At-loop-j

pub returns : goal.returns
returns c =
    let a = c.args in
    let e = length-take-le a.n a.firsts.now (omega arith) in
    c.loop-j.invariant.1 ∙ next_put a.g a.n a.records.now a.firsts.now (omega arith) a.values.now c.loop-j.j (omega arith) (omega arith)
