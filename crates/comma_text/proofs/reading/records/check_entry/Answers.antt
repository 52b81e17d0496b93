-- `records::check_entry` meets its contract. What the levels from `from` on say of the entry is what all say.
use mathlib.Core.Path.{◌≡◌, refl, sym, ◌∙◌}
use mathlib.Core.List.{List}
use Prim.Native.Nat.{ℕ, ◌+◌, ◌-◌, ◌≤◌}
use native.Mathlib.Omega.{arith}
use lib.ListN.{drop}
use Rattle.std.specs.Prelude.{Some, None}
use Rattle.std.proofs.Common.{rules}
use Rattle.notation.specs.Fields.{field, broken}
use Rattle.notation.specs.Said.{with_sign}
use Rattle.comma_text.specs.reading.Records.{level_field, level_at_said, LevelRead, entry_said}
use Rattle.comma_text.specs.declared.reading.records.LevelAt.{LevelAt}
use Rattle.comma_text.proofs.reading.records.EntriesChecked.{check_broken, check_long, check_last, check_short, check_more}
use Rattle.comma_text.proofs.reading.records.check_entry.Goals as goal

-- What was read, by whether it is a level.
module _ (text : List ℕ) (at : ℕ) where
  nothing : LevelRead text at None → level_field (drop at text) ≡ broken
  unfolding level_at_said
  nothing h = sym h.said

  level : (l : LevelAt) → LevelRead text at (Some l) → field (with_sign l.negative l.size) l.more (drop l.next text) ≡ level_field (drop at text)
  unfolding level_at_said
  level l h = h.said

-- as many are left as were passed
all_passed : (n i : ℕ) → n ≤ i → n - i ≡ 0
all_passed n i h = omega arith

one_less : (n i : ℕ) → n - (i + 1) ≡ n - i - 1
one_less n i = omega arith

pub returns-in_default : goal.returns-in_default
unfolding entry_said
returns-in_default c = record {
  said = check_broken _ _ (c.args.variables - c.loop.counter) (nothing _ _ c.in_default.ensures) ∙ c.loop.invariant.same;
  within = refl;
}

pub returns-then-not-level : goal.returns-then-not-level
unfolding entry_said
returns-then-not-level c =
    let l = level _ _ c.in-Some.level c.in-Some.ensures in
    record {
      said = check_short _ _ (c.args.variables - c.loop.counter) _ _ _ l (λ e. omega arith) (search rules) ∙ c.loop.invariant.same;
      within = refl;
    }

pub loop-preserved : goal.loop-preserved
loop-preserved c =
    let l = level _ _ c.in-Some.level c.in-Some.ensures in
    record {
      within = c.in-Some.ensures.within;
      same = rw (one_less c.args.variables c.loop.counter) (check_more _ _ (c.args.variables - c.loop.counter) _ _ _ l (λ e. omega arith) (search rules) ∙ c.loop.invariant.same);
    }

pub returns-in_default-level_at : goal.returns-in_default-level_at
unfolding entry_said
returns-in_default-level_at c = record {
  said = check_broken _ _ (c.args.variables - c.loop.counter) (nothing _ _ c.in_default-level_at.ensures) ∙ c.loop.invariant.same;
  within = refl;
}

pub returns-then-last : goal.returns-then-last
unfolding entry_said
returns-then-last c =
    let l = level _ _ c.in-Some-level_at.last c.in-Some-level_at.ensures in
    record {
      said = check_long _ _ (c.args.variables - c.loop.counter) _ _ _ l (all_passed _ _ c.loop-test.false) c.if-last.true ∙ c.loop.invariant.same;
      within = refl;
    }

pub returns : goal.returns
unfolding entry_said
returns c =
    let l = level _ _ c.in-Some-level_at.last c.in-Some-level_at.ensures in
    record {
      said = check_last _ _ (c.args.variables - c.loop.counter) _ _ _ l (all_passed _ _ c.loop-test.false) c.if-last.false ∙ c.loop.invariant.same;
      within = c.in-Some-level_at.ensures.within;
    }
