-- `records::level_at` meets its contract: with quotes or without.
use mathlib.Core.Path.{◌≡◌, ap, ◌∙◌}
use Prim.Native.Nat.{◌-◌, ◌<◌}
use native.Mathlib.Omega.{arith}
use lib.ListN.{length, get_or, take, drop}
use Rattle.std.proofs.Common.{rules}
use Rattle.notation.specs.Forms.{level_of}
use Rattle.comma_text.specs.reading.Records.{reading, level_field}
use Rattle.notation.proofs.fields.FieldSpans.{rest_size, rest_first, field_quoted, field_plain}
use Rattle.comma_text.proofs.reading.records.Numbers.{level_read}
use Rattle.comma_text.proofs.reading.records.level_at.Goals as goal
use Rattle.comma_text.proofs.reading.records.level_at.Goals.{then-text-at-lt1, else-text-at-lt1+in_default-1}

pub returns-in-34 : goal.returns-in-34
unfolding level_field
returns-in-34 c = let t = c.args.text.now in
    let at = c.args.at in
    let h : at < length t = omega (arith, rest_size t at) in
    let q : get_or t at 0 ≡ 34 = rw (← rest_first t at h) (search rules) in
    level_read _ _ _ (c.signed_level.ensures.fact_1 ∙ ap (reading level_of) (field_quoted t at h q)) c.signed_level.ensures.fact_2

pub returns : goal.returns
unfolding level_field
returns c = let t = c.args.text.now in
    let at = c.args.at in
    let n : at < length t → get_or t at 0 ≡ 34 → ⊥ = λ h. elim c.if-text-at-lt1.branch [
      | then-text-at-lt1 w ↦ let z : length (take (length t - at) (drop at t)) < 1 = search rules in λ e. absurd (omega (arith, rest_size t at))
      | else-text-at-lt1+in_default-1 w ↦ rw (← rest_first t at h) (search rules)
    ] in
    level_read _ _ _ (c.signed_level-2.ensures.fact_1 ∙ ap (reading level_of) (field_plain t at n)) c.signed_level-2.ensures.fact_2
