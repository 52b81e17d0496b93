-- `moves::keep_first` meets its contract.
use mathlib.Core.Path.{refl, ap₂, ◌∙◌}
use Prim.Native.Nat.{ℕ, suc, ◌<◌}
use native.Mathlib.Omega.{arith}
use native.Mathlib.Numerals.{add-one}
use lib.ListN.{get_or}
use borrow.Author.Tests.{eq-eqb, ne_eqb}
use Rattle.residue.specs.Lists.{same_list}
use Rattle.residue.specs.Layout.{row_at}
use Rattle.courses.proofs.moves.keep_first.Goals as goal
use Rattle.courses.proofs.moves.keep_first.Goals.{After-slice_known-2-1}

-- the record that is kept with a point that is there
kept : (c : After-slice_known-2-1) → let a = c.args in suc (get_or a.firsts.now a.at 0) < 4096
kept c = let s = c in s.requires.records_len.1 (omega (arith, s.requires.at_bound.1, c.if-at-n.false))

pub returns-then-at-n : goal.returns-then-at-n
returns-then-at-n c = let e = eq-eqb _ _ c.if-at-n.true in record { fact_1 = rw e (add-one _); fact_2 = rw e refl; fact_3 = rw e refl }

pub overflow_cast-first : goal.overflow_cast-first
overflow_cast-first c = let f = kept (goal.at.overflow_cast-first c).After-slice_known-2-1 in omega arith

pub overflow_add-first : goal.overflow_add-first
overflow_add-first c = let f = kept (goal.at.overflow_add-first c).After-slice_known-2-1 in omega arith

pub same_state-requires : goal.same_state-requires
same_state-requires c = let f = kept (goal.at.same_state-requires c).After-slice_known-2-1 in (omega arith, omega arith)

pub returns : goal.returns
returns c = let e = ne_eqb _ _ c.if-at-n.false in
    let a = c.args in
    let same = ap₂ (λ (j k : ℕ). same_list (row_at 8 j a.records.now) (row_at 8 k a.records.now)) (add-one (get_or a.firsts.now a.at 0))
    (add-one a.i) in record { fact_1 = rw e refl; fact_2 = rw e (c.same_state.ensures ∙ same); fact_3 = rw e refl }
