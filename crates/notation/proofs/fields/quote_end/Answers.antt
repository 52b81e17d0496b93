-- `fields::quote_end` meets its contract. The search from `i` on is the search from `at` on.
use mathlib.Core.Path.{◌≡◌, ◌∙◌}
use mathlib.Core.List.{List}
use Prim.Native.Nat.{ℕ, ◌+◌, ◌-◌, ◌<◌}
use native.Mathlib.Omega.{arith}
use lib.ListN.{length, get_or, take, drop}
use Rattle.std.proofs.Common.{rules}
use Rattle.notation.specs.Fields.{quote}
use Rattle.notation.proofs.fields.FieldSpans.{rest_size, rest_first, rest_second}
use Rattle.notation.proofs.fields.Searches.{closing_on, closing_last, closing_here, closing_pair, closing_end}
use Rattle.notation.proofs.fields.quote_end.Goals as goal
use Rattle.notation.proofs.fields.quote_end.Goals.{in_default-via-then-text-i-lt1, in_default-via-else-text-i-lt1+in_default-1}

-- what is left of a text from a place on
abbrev left : List ℕ → ℕ → List ℕ
left t i = take (length t - i) (drop i t)

-- what is left behind the first byte of that begins with the second
second : (t : List ℕ) (i : ℕ) → i + 1 < length t → get_or (left (left t i) 1) 0 0 ≡ get_or t (i + 1) 0
second t i h = let n = rest_size t i in rest_first (left t i) 1 (omega arith) ∙ rest_second t i

pub loop-i-preserved-in-34-1 : goal.loop-i-preserved-in-34-1
loop-i-preserved-in-34-1 c = let t = c.args.text.now in
    let i = c.loop-i.i in
    let n = rest_size t i in
    let m = rest_size (left t i) 1 in
    let k : i + 1 < length t = omega (arith, c.in-34-rest.len_at_least) in
    let q : get_or t i 0 ≡ quote = rw (← rest_first t i c.loop-i-test.true) (search rules) in
    let r : get_or t (i + 1) 0 ≡ quote = rw (← second t i k) (search rules) in
    (omega arith, closing_pair t i k q r ∙ c.loop-i.invariant.1)

pub returns-in_default-rest : goal.returns-in_default-rest
returns-in_default-rest c = let t = c.args.text.now in
    let i = c.loop-i.i in
    let n = rest_size t i in
    let m = rest_size (left t i) 1 in
    let q : get_or t i 0 ≡ quote = rw (← rest_first t i c.loop-i-test.true) (search rules) in
    closing_last t i c.loop-i-test.true (omega (arith, c.in_default-rest.len_below)) q ∙ c.loop-i.invariant.1

pub returns-in_default-rest-2 : goal.returns-in_default-rest-2
returns-in_default-rest-2 c = let t = c.args.text.now in
    let i = c.loop-i.i in
    let n = rest_size t i in
    let m = rest_size (left t i) 1 in
    let k : i + 1 < length t = omega (arith, c.in_default-rest.len_at_least) in
    let q : get_or t i 0 ≡ quote = rw (← rest_first t i c.loop-i-test.true) (search rules) in
    let r : get_or t (i + 1) 0 ≡ quote → ⊥ = rw (← second t i k) (search rules) in
    closing_here t i k q r ∙ c.loop-i.invariant.1

pub loop-i-preserved : goal.loop-i-preserved
loop-i-preserved c = let t = c.args.text.now in
    let i = c.loop-i.i in
    let n = rest_size t i in
    let q : get_or t i 0 ≡ quote → ⊥ = rw (← rest_first t i c.loop-i-test.true) (elim c.in_default.branch [
      | in_default-via-then-text-i-lt1 w ↦ let z : length (left t i) < 1 = search rules in absurd (omega arith)
      | in_default-via-else-text-i-lt1+in_default-1 w ↦ search rules
    ]) in
    (omega arith, closing_on t i c.loop-i-test.true q ∙ c.loop-i.invariant.1)

pub returns : goal.returns
returns c = closing_end _ c.loop-i.i c.loop-i-test.false ∙ c.loop-i.invariant.1
