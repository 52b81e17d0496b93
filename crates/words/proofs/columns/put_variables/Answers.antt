-- `columns::put_variables` meets its contract.
use mathlib.Core.Path.{refl, ◌∙◌}
use mathlib.Core.Logic.{⊎_elim}
use Prim.Native.Nat.{ℕ, ◌+◌, ◌*◌, ◌-◌}
use native.Mathlib.Omega.{arith}
use lib.ListN.{length-drop}
use lib.Seq.{length-take-le}
use Rattle.words.proofs.EightLaws.{gathered_same, gathered_none, Turn, turn, gathered_all}
use Rattle.words.proofs.columns.put_variables.Goals as goal
use Rattle.words.proofs.columns.put_variables.Goals.{After-key-point, At-loop-j, Start}

pub loop-j-init : goal.loop-j-init
loop-j-init c = let a = c in (omega arith, gathered_none a.args.n a.args.points.now _ a.requires.n_bound.1.1)

pub key-point-requires : goal.key-point-requires
key-point-requires c = let l = c in
    let a = l in
    length-take-le (8 * (a.args.n - 1 - l.loop-j.j) + 8 - 8 * (a.args.n - 1 - l.loop-j.j)) _ (simp length-drop (omega arith)) ∙ (omega arith)

-- twice the word and a point more
module _ (c : After-key-point) where
  abbrev l : At-loop-j
  l = (goal.at.After-key-point c).At-loop-j

  abbrev a : Start
  a = (goal.at.At-loop-j l).Start

  abbrev i : ℕ
  i = a.args.n - 1 - l.loop-j.j

  turned : Turn a.args.n a.args.points.now l.loop-j.j l.loop-j.eight l.loop-j.columns i c.key-point.result
  turned = turn a.args.n a.args.points.now l.loop-j.j l.loop-j.eight l.loop-j.columns l.loop-j.invariant.1 i (8 * i + 8 - 8 * i) c.key-point.result
      (omega arith) a.requires.n_bound.0 refl (omega arith) a.requires.n_bound.1.0 a.requires.below c.key-point.ensures (omega (arith, c.key-point.type_inv))

pub overflow_mul-eight : goal.overflow_mul-eight
overflow_mul-eight c = record { fits = omega (arith, (turned (goal.at.overflow_mul-eight c).After-key-point).fits) }

pub overflow_add-eight : goal.overflow_add-eight
overflow_add-eight c = record { fits = omega (arith, (turned (goal.at.overflow_add-eight c).After-key-point).fits) }

pub push_eight-requires : goal.push_eight-requires
push_eight-requires c = let k = c in record { columns_len = (l (goal.at.push_eight-requires k).After-key-point).loop-j.invariant.1.long; by_index = (turned (goal.at.push_eight-requires k).After-key-point).room c.if-i-eq0.true }

pub loop-j-preserved : goal.loop-j-preserved
loop-j-preserved c = let k = c in (
  omega arith,
  ⊎_elim
      (λ w. gathered_same (a (goal.at.loop-j-preserved k).After-key-point).args.n (a (goal.at.loop-j-preserved k).After-key-point).args.points.now w.eight-is w.columns-is ((turned (goal.at.loop-j-preserved k).After-key-point).pushed w.if-i-eq0.true _ w.push_eight.ensures))
      (λ w. gathered_same (a (goal.at.loop-j-preserved k).After-key-point).args.n (a (goal.at.loop-j-preserved k).After-key-point).args.points.now w.eight-is w.columns-is ((turned (goal.at.loop-j-preserved k).After-key-point).more w.if-i-eq0.false))
      c.if-i-eq0.branch-raw,
)

pub returns : goal.returns
returns c = let l = c in let a = l in gathered_all a.args.n a.args.points.now l.loop-j.j l.loop-j.eight _
    (omega arith) l.loop-j.invariant.1
