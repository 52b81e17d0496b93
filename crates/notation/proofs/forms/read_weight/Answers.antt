-- `forms::read_weight` meets its contract: the space, and one or two digits behind it.
use mathlib.Core.Path.{◌≡◌}
use mathlib.Core.List.{List}
use Prim.Native.Nat.{ℕ, ◌<◌}
use native.Mathlib.Omega.{arith}
use lib.ListN.{length, get_or}
use Rattle.std.specs.Prelude.{Some}
use Rattle.std.proofs.Common.{rules}
use Rattle.notation.specs.Said.{LeadingRead, weight_said}
use Rattle.notation.proofs.fields.FieldSpans.{rest_size, rest_first}
use Rattle.notation.proofs.forms.WeightsRead.{behind, read_behind, first_end, first_other, first_none, first_long, first_within, first_small, first_read}
use Rattle.notation.proofs.forms.read_weight.Goals as goal
use Rattle.notation.proofs.forms.read_weight.Goals.{After-read_leading, In_ok-number}

-- The place: a space stands there, and the digits behind it were looked for.
module _ (c : After-read_leading) where
  abbrev content : List ℕ
  content = c.args.content.now

  inside : c.args.at < length content
  inside = omega (arith, rest_size content c.args.at, c.in-32.len_at_least)

  space : get_or content c.args.at 0 ≡ 32
  space = rw (← rest_first content c.args.at inside) (search rules)

-- the digits were found
module _ (c : In_ok-number) where
  abbrev looked : After-read_leading
  looked = (goal.at.In_ok-number c).After-read_leading

  found : LeadingRead (behind (content looked) c.args.at (inside looked)) (Some c.in_ok-number.number)
  found = read_behind (content looked) c.args.at (inside looked) c.in_ok-number.ensures

pub returns-in_default : goal.returns-in_default
unfolding weight_said
returns-in_default c = let a = c.args in record { fact_1 = first_end a.content.now a.at (omega (arith, rest_size a.content.now a.at)); fact_2 = tt }

pub returns-in_default-2 : goal.returns-in_default-2
unfolding weight_said
returns-in_default-2 c = let a = c.args in
    let h : a.at < length a.content.now = omega (arith, rest_size a.content.now a.at) in
    record { fact_1 = first_other a.content.now a.at h (rw (← rest_first a.content.now a.at h) (search rules)); fact_2 = tt }

pub returns-in_err-number : goal.returns-in_err-number
unfolding weight_said
returns-in_err-number c = let l = (goal.at.returns-in_err-number c).After-read_leading in
    rw c.from_residual.ensures (record { fact_1 = first_none _ _ (inside l) (space l) (read_behind (content l) c.args.at (inside l) c.in_err-number.ensures); fact_2 = tt })

pub returns-then-number-gt2 : goal.returns-then-number-gt2
unfolding weight_said
returns-then-number-gt2 c = let k = (goal.at.returns-then-number-gt2 c).In_ok-number in
    let l = looked k in
    record { fact_1 = first_long _ _ (inside l) (space l) _ (found k) c.if-number-gt2.true; fact_2 = tt }

pub overflow_cast-result : goal.overflow_cast-result
overflow_cast-result c = let k = (goal.at.overflow_cast-result c).In_ok-number in
    let l = looked k in
    omega (arith, first_small _ _ (inside l) (space l) _ (found k) c.if-number-gt2.false)

pub returns : goal.returns
unfolding weight_said
returns c = let k = (goal.at.returns c).In_ok-number in
    let l = looked k in
    record {
      fact_1 = first_read _ _ (inside l) (space l) _ (found k) c.if-number-gt2.false;
      fact_2 = first_within _ _ (inside l) (space l) _ (found k);
    }
