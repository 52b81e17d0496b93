-- `columns::push_eight` meets its contract: each column is shifted by a byte, and has one of the word's at the front.
use mathlib.Core.Path.{refl, sym, subst}
use Prim.Native.Nat.{ℕ, ◌-◌, ◌^◌, ◌<◌}
use native.Mathlib.Omega.{arith}
use lib.ListN.{get_or}
use Rattle.words.proofs.EightLaws.{fronted_none, fronted_more, fronted_all}
use Rattle.words.proofs.columns.push_eight.Goals as goal
use Rattle.words.proofs.columns.push_eight.Goals.{In-loop-j}

pub loop-j-init : goal.loop-j-init
loop-j-init c = (omega arith, fronted_none _ _)

-- what is shifted
small : (i : In-loop-j) → get_or i.loop-j.columns (7 - i.loop-j.j) 0 < 2 ^ 56
small i = let l = i in
    subst (λ (x : ℕ). x < 2 ^ 56) (sym (l.loop-j.invariant.1.ahead (7 - l.loop-j.j) (omega arith))) (l.requires.by_index (7 - l.loop-j.j) (omega arith))

pub overflow_mul-columns : goal.overflow_mul-columns
overflow_mul-columns c = record { fits = omega (arith, small (goal.at.overflow_mul-columns c).In-loop-j) }

pub overflow_add-columns : goal.overflow_add-columns
overflow_add-columns c = record { fits = omega (arith, small (goal.at.overflow_add-columns c).In-loop-j) }

pub loop-j-preserved : goal.loop-j-preserved
loop-j-preserved c = let l = c in (
  omega arith,
  fronted_more _ _ l.loop-j.j l.loop-j.rest l.loop-j.columns (omega arith) l.loop-j.invariant.1 (7 - l.loop-j.j) refl
      (omega (arith, l.loop-j.invariant.1.long, l.requires.columns_len)),
)

pub returns : goal.returns
returns c = let l = c in fronted_all _ _ l.loop-j.j l.loop-j.rest _ (omega arith) l.loop-j.invariant.1
