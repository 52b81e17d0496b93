-- `stepping::put_factors` meets its contract. The loop has written the factors of the monomials seen so far.
use Rattle.std.proofs.Common.{◌≡◌, ℕ, ◌+◌, ◌*◌, List, length, get_or, drop, sym, ap, ◌∙◌, arith}
use Rattle.std.proofs.lemmas.Iterator.Consumers.{YieldsList-turn, YieldsList-end}
use Rattle.std.proofs.lemmas.List.{length_push, get_or-take, get_or-drop}
use Rattle.residue.proofs.Chunks.{numbered_given, numbered_turn, numbered_long, row_long}
use Rattle.residue.proofs.vector.Filled.{filled_none, kept_length, filled_more}
use Rattle.monomial.specs.Columns.{column_of}
use Rattle.monomial.proofs.columns.Entries.{column_at}
use Rattle.steps.proofs.stepping.StepLaws.{factors_put}
use Rattle.steps.proofs.stepping.put_factors.Goals as goal
use Rattle.steps.proofs.stepping.put_factors.Goals.{At-loop-j, Start}

abbrev factor_at : Start → ℕ → ℕ
factor_at s i = get_or s.args.powers.now (8 * get_or (column_of s.args.k s.args.n s.args.standard.now) i 0 + s.args.k) 0

long : (l : At-loop-j) → length l.loop-j.factors ≡ length l.args.factors.now
long l = kept_length (factor_at (goal.at.At-loop-j l).Start) (length l.loop-j.yielded) l.args.factors.now l.loop-j.factors l.loop-j.invariant

pub loop-j-init : goal.loop-j-init
loop-j-init c = filled_none _ _

pub bounds-monomial-k : goal.bounds-monomial-k
bounds-monomial-k c =
    let t = numbered_turn 8 c.args.n c.args.standard.now _ _ _
    (YieldsList-turn (numbered_given 8 c.args.n c.args.standard.now {s = c.into_iter-j-iterator.result} (omega arith) (omega arith) (cc) (cc) (cc)) c.loop-j.yielded c.loop-j.j-iterator c.loop-j.yielded_by c.next.result c.next.new.self (c.in-Some.j, c.in-Some.monomial) c.in-Some.is c.next.ensures.steps) in
    omega (arith, ap length t.1.1, row_long 8 c.args.n c.args.standard.now (length c.loop-j.yielded) t.0 (omega arith))

pub bounds-factors-j : goal.bounds-factors-j
bounds-factors-j c =
    let t = numbered_turn 8 c.args.n c.args.standard.now _ _ _
    (YieldsList-turn (numbered_given 8 c.args.n c.args.standard.now {s = c.into_iter-j-iterator.result} (omega arith) (omega arith) (cc) (cc) (cc)) c.loop-j.yielded c.loop-j.j-iterator c.loop-j.yielded_by c.next.result c.next.new.self (c.in-Some.j, c.in-Some.monomial) c.in-Some.is c.next.ensures.steps) in
    omega (arith, t.0, t.1.0, long (goal.at.bounds-factors-j c).At-loop-j)

pub loop-j-preserved : goal.loop-j-preserved
loop-j-preserved c =
    let t = numbered_turn 8 c.args.n c.args.standard.now _ _ _
    (YieldsList-turn (numbered_given 8 c.args.n c.args.standard.now {s = c.into_iter-j-iterator.result} (omega arith) (omega arith) (cc) (cc) (cc)) c.loop-j.yielded c.loop-j.j-iterator c.loop-j.yielded_by c.next.result c.next.new.self (c.in-Some.j, c.in-Some.monomial) c.in-Some.is c.next.ensures.steps) in
    let i = length c.loop-j.yielded in
    let k = c.args.k in
    let P = c.args.standard.now in
    let e = c.from.ensures ∙ ap (λ (x : List ℕ). get_or x k 0) t.1.1 ∙ get_or-take 8 (drop (8 * i) P) k 0 (omega arith) ∙ get_or-drop (8 * i) P k 0
    ∙ sym (column_at k c.args.n P i (omega (arith, t.0)) (omega arith)) in
    rw (length_push c.loop-j.yielded (c.in-Some.j, c.in-Some.monomial), t.1.0)
    (filled_more (factor_at (goal.at.loop-j-preserved c).Start) i c.args.factors.now c.loop-j.factors c.loop-j.invariant _ (omega (arith, t.0))
    (ap (λ (x : ℕ). get_or c.args.powers.now (8 * x + k) 0) e))

pub shape_of-factors : goal.shape_of-factors
shape_of-factors c = long (goal.at.shape_of-factors c).At-loop-j

pub returns : goal.returns
returns c =
    let a = c.args in
    let t = YieldsList-end (numbered_given 8 c.args.n c.args.standard.now {s = c.into_iter-j-iterator.result} (omega arith) (omega arith) (cc) (cc) (cc)) c.loop-j.yielded c.loop-j.j-iterator c.loop-j.yielded_by c.next.result c.next.new.self c.in-None.is c.next.ensures.steps in
    c.loop-j.invariant ∙ factors_put 0 a.n a.k a.standard.now a.standard.now a.powers.now a.factors.now (length c.loop-j.yielded) (omega (arith, t.1, numbered_long 8 a.n a.standard.now)) (omega arith)
