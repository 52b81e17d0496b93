-- `records::sized_level` meets its contract: the digits, and what stands behind them.
use mathlib.Core.Path.{◌≡◌, ◌∙◌, subst}
use mathlib.Core.List.{List}
use Prim.Native.Nat.{ℕ, ◌+◌, ◌-◌, ◌≤◌}
use native.Mathlib.Omega.{arith}
use lib.ListN.{length, take, drop, length-drop}
use Rattle.std.specs.Prelude.{Option, Some, None}
use Rattle.notation.specs.Digits.{is_digit}
use Rattle.notation.specs.Spans.{ended_by}
use Rattle.notation.specs.Said.{leading_said, LeadingRead}
use Rattle.notation.specs.declared.digits.Leading.{Leading}
use Rattle.notation.specs.declared.fields.End.{End}
use Rattle.comma_text.specs.reading.Records.{reading, size_of, size_field, level_at_said}
use Rattle.notation.proofs.fields.FieldSpans.{all_behind, front_le}
use Rattle.notation.proofs.digits.LeadingDigits.{digits}
use Rattle.comma_text.proofs.reading.records.ScannedLevels.{size_none, size_some, size_ended}
use Rattle.comma_text.proofs.reading.records.sized_level.Goals as goal
use Rattle.comma_text.proofs.reading.records.sized_level.Goals.{After-content_end, After-read_leading, In_ok-number}

-- The places: the digits were looked for, they were found, and what stands behind them was read.
module _ (c : After-read_leading) where
  abbrev text : List ℕ
  text = c.args.text.now

  abbrev behind : List ℕ
  behind = drop c.args.at text

  leading : {r : Option Leading} → LeadingRead (take (length text - c.args.at) (drop c.args.at text)) r → LeadingRead behind r
  leading {r = r} d = subst (λ (l : List ℕ). LeadingRead l r) (all_behind text c.args.at) d

module _ (c : In_ok-number) where
  abbrev number : Leading
  number = c.in_ok-number.number

  abbrev looked : After-read_leading
  looked = (goal.at.In_ok-number c).After-read_leading

  found : LeadingRead (behind looked) (Some number)
  found = leading looked c.in_ok-number.ensures

  within : c.args.at + number.count ≤ length (text looked)
  within = omega (arith, found.ends, front_le is_digit (behind looked), length-drop c.args.at (text looked), c.requires)

said : (c : After-content_end) → let l = looked (goal.at.After-content_end c).In_ok-number in (e : Option End) → c.content_end.result ≡ e
    → reading (size_of c.args.negative) (ended_by (text l) (digits (behind l)) e) ≡ size_field c.args.quotes c.args.negative (behind l)
said c e i = let k = (goal.at.After-content_end c).In_ok-number in
    subst (λ (e : Option End). reading (size_of c.args.negative) (ended_by (text (looked k)) (digits (behind (looked k))) e) ≡ size_field c.args.quotes c.args.negative (behind (looked k))) i
    (size_ended c.args.quotes c.args.negative (text (looked k)) c.args.at (number k).count c.content_end.result (found k).ends c.content_end.ensures.said)

pub returns-in_err-number : goal.returns-in_err-number
unfolding level_at_said leading_said
returns-in_err-number c = let l = (goal.at.returns-in_err-number c).After-read_leading in
    rw c.from_residual.ensures (record { fact_1 = size_none c.args.quotes c.args.negative (behind l) (leading l c.in_err-number.ensures).said; fact_2 = tt })

pub overflow_add-at : goal.overflow_add-at
overflow_add-at c = omega (arith, within (goal.at.overflow_add-at c).In_ok-number)

pub content_end-requires : goal.content_end-requires
content_end-requires c = within (goal.at.content_end-requires c).In_ok-number

pub returns-in_err-more : goal.returns-in_err-more
unfolding level_at_said ended_by reading
returns-in_err-more c = rw c.from_residual-in_err-more.ensures (record { fact_1 = said (goal.at.returns-in_err-more c).After-content_end None c.in_err-more.was; fact_2 = tt })

pub returns : goal.returns
unfolding level_at_said ended_by leading_said
returns c = let e = (goal.at.returns c).After-content_end in
    let k = (goal.at.After-content_end e).In_ok-number in record {
      fact_1 = size_some c.args.negative (behind (looked k)) (found k).said _ _ ∙ said e (Some c.in_ok-more.field-0) c.in_ok-more.was;
      fact_2 = c.in_ok-more.ensures.within;
    }
