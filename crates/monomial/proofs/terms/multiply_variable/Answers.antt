-- `terms::multiply_variable` meets its contract.
use mathlib.Core.Path.{◌≡◌, sym, ap, subst, ◌∙◌}
use mathlib.Core.List.{List}
use Prim.Native.Nat.{ℕ}
use native.Mathlib.Omega.{arith}
use lib.ListN.{length, take}
use Rattle.residue.specs.Vector.{Below, powered}
use Rattle.monomial.specs.Columns.{column_of}
use Rattle.monomial.proofs.columns.Entries.{column_long, column_below}
use Rattle.monomial.proofs.terms.TermRows.{not_raised, column_front}
use Rattle.monomial.proofs.terms.multiply_variable.Goals as goal
use Rattle.monomial.proofs.terms.multiply_variable.Goals.{After-put_column, Start}

-- the column in its array
module _ (r : After-put_column) where
  abbrev start : Start
  start = (goal.at.After-put_column r).Start

  abbrev column : List ℕ
  column = take start.args.n r.put_column.new.column

  is_column : column ≡ column_of start.args.k start.args.n start.args.points.now
  is_column = column_front start.args.k start.args.n start.args.points.now _ _ r.put_column.ensures

  long : length column ≡ start.args.n
  long = ap length is_column ∙ column_long start.args.k start.args.n start.args.points.now

  below : Below start.args.p column
  below = subst (Below start.args.p) (sym is_column) (column_below start.args.k start.args.n start.args.points.now start.args.p start.requires.points_len.1 (omega arith) (omega arith))

pub returns-then-e-eq0 : goal.returns-then-e-eq0
returns-then-e-eq0 c = let s = c in
    not_raised s.args.p s.args.e s.args.values.now (column_of s.args.k s.args.n s.args.points.now) c.if-e-eq0.true (s.requires.values_len.0 ∙ sym (column_long s.args.k s.args.n s.args.points.now)) s.requires.values_len.1

pub multiply_powers-requires : goal.multiply_powers-requires
multiply_powers-requires c = let r = c in
    let s = start (goal.at.multiply_powers-requires r).After-put_column in record { le_p = s.requires.le_p.0; dst_len = s.requires.values_len.0 ∙ sym (long (goal.at.multiply_powers-requires r).After-put_column); below = (s.requires.values_len.1, below (goal.at.multiply_powers-requires r).After-put_column) }

pub returns : goal.returns
returns c = let m = c in
    let r = m in
    let s = start (goal.at.returns r).After-put_column in
    m.multiply_powers.ensures.dst_after ∙ ap (powered s.args.p s.args.e s.args.values.now) (is_column (goal.at.returns r).After-put_column)
