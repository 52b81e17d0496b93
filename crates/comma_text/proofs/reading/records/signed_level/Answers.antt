-- `records::signed_level` meets its contract: with a minus sign or without.
use mathlib.Core.Path.{◌≡◌, ◌∙◌}
use Prim.Native.Nat.{◌-◌, ◌<◌}
use native.Mathlib.Omega.{arith}
use lib.ListN.{length, get_or, take, drop}
use Rattle.std.proofs.Common.{rules}
use Rattle.notation.proofs.fields.FieldSpans.{rest_size, rest_first}
use Rattle.comma_text.proofs.reading.records.ScannedLevels.{level_signed, level_unsigned}
use Rattle.comma_text.proofs.reading.records.signed_level.Goals as goal
use Rattle.comma_text.proofs.reading.records.signed_level.Goals.{then-text-at-lt1, else-text-at-lt1+in_default-1}

pub returns-in-45 : goal.returns-in-45
returns-in-45 c = let t = c.args.text.now in
    let at = c.args.at in
    let h : at < length t = omega (arith, rest_size t at) in
    let m : get_or t at 0 ≡ 45 = rw (← rest_first t at h) (search rules) in
    record { fact_1 = c.sized_level.ensures.fact_1 ∙ level_signed _ _ _ h m; fact_2 = c.sized_level.ensures.fact_2 }

pub returns : goal.returns
returns c = let t = c.args.text.now in
    let at = c.args.at in
    let n : at < length t → get_or t at 0 ≡ 45 → ⊥ = λ h. elim c.if-text-at-lt1.branch [
      | then-text-at-lt1 w ↦ let z : length (take (length t - at) (drop at t)) < 1 = search rules in λ e. absurd (omega (arith, rest_size t at))
      | else-text-at-lt1+in_default-1 w ↦ rw (← rest_first t at h) (search rules)
    ] in
    record { fact_1 = c.sized_level-2.ensures.fact_1 ∙ level_unsigned c.args.quotes t at n; fact_2 = c.sized_level-2.ensures.fact_2 }
