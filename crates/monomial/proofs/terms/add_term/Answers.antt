-- `terms::add_term` meets its contract.
use mathlib.Core.Path.{◌≡◌, sym, ap, subst, ◌∙◌}
use mathlib.Core.List.{List, ◌++◌}
use Prim.Native.Nat.{ℕ}
use native.Mathlib.Omega.{arith}
use lib.ListN.{length, take, replicate}
use Rattle.residue.specs.Vector.{Below, add_scaled}
use Rattle.monomial.proofs.terms.TermRows.{front_ones, front_made, monomial_row, monomial_row_long, monomial_row_below}
use Rattle.monomial.proofs.terms.add_term.Goals as goal
use Rattle.monomial.proofs.terms.add_term.Goals.{After-multiply_monomial, Start}

module _ (s : Start) where
  abbrev row : List ℕ
  row = monomial_row s.args.p s.args.n s.args.a.now s.args.points.now

  long : length row ≡ s.args.n
  long = monomial_row_long s.args.p s.args.n s.args.a.now s.args.points.now

  ones : take {A = ℕ} s.args.n (replicate 64 1) ≡ replicate s.args.n 1
  ones = front_ones s.args.n 64 (omega arith)

-- the values in their array
module _ (m : After-multiply_monomial) where
  abbrev start : Start
  start = (goal.at.After-multiply_monomial m).Start

  abbrev made : List ℕ
  made = m.multiply_monomial.new.values

  front : (rest : List ℕ) → take start.args.n (made ++ rest) ≡ row start
  front rest = front_made start.args.n made (row start) rest m.multiply_monomial.ensures (long start)

pub multiply_monomial-requires : goal.multiply_monomial-requires
multiply_monomial-requires c = let s = c in record { le_p = (s.requires.le_p.0, s.requires.le_p.1.0); points_len = s.requires.points_len; values_value = ones (goal.at.multiply_monomial-requires s).Start }

pub add_scaled-requires : goal.add_scaled-requires
add_scaled-requires c = let m = c in
    let s = start (goal.at.add_scaled-requires m).After-multiply_monomial in record { le_p = s.requires.le_p.0; dst_len = s.requires.values_len.0 ∙ sym (ap length (front (goal.at.add_scaled-requires m).After-multiply_monomial _) ∙ long s); below = s.requires.values_len.1; c_lt_p = s.requires.le_p.1.1; below_2 = subst (Below s.args.p) (sym (front (goal.at.add_scaled-requires m).After-multiply_monomial _)) (monomial_row_below s.args.p s.args.n s.args.a.now s.args.points.now (omega arith)) }

pub returns : goal.returns
returns c = let d = c in
    let m = d in
    let s = start (goal.at.returns m).After-multiply_monomial in
    d.add_scaled.ensures ∙ ap (add_scaled s.args.p s.args.c s.args.values.now) (front (goal.at.returns m).After-multiply_monomial _)
