-- `reading::common_length` meets its contract.
use mathlib.Core.Path.{◌≡◌, sym, ◌∙◌, ap, ap₂}
use mathlib.Core.Bool.{true, false}
use Prim.Native.Nat.{ℕ}
use native.Mathlib.Omega.{arith}
use Rattle.std.proofs.Common.{Option, Some}
use Rattle.std.specs.Option.{option_eq}
use lib.Dec.{eqb}
use Rattle.json_text.proofs.Stored.{common_first, common_more}
use Rattle.json_text.proofs.reading.common_length.Goals as goal
use Rattle.json_text.proofs.reading.common_length.Goals.{then-rows-eq0-via-then-rows-eq0, then-rows-eq0-via-else-rows-eq0+then-eq}

told : {x y : Option ℕ} {j k : ℕ} → x ≡ y → j ≡ k → option_eq eqb x (Some j) ≡ option_eq eqb y (Some k)
told e s = ap₂ (λ (x : Option ℕ) (j : ℕ). option_eq eqb x (Some j)) e s

pub returns-then-rows-eq0 : goal.returns-then-rows-eq0
returns-then-rows-eq0 c = λ L l n e s. elim c.then-rows-eq0.branch [
  | then-rows-eq0-via-then-rows-eq0 w ↦ ap Some s ∙ common_first L l (sym n ∙ w.if-rows-eq0.true)
  | then-rows-eq0-via-else-rows-eq0+then-eq w ↦ ap Some s ∙ common_more L l true (omega arith) (sym w.if-eq.true ∙ w.eq.ensures ∙ told e s)
]

pub returns : goal.returns
returns c = λ L l n e s. common_more L l false (omega arith) (sym c.if-eq.false ∙ c.eq.ensures ∙ told e s)
