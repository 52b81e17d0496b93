-- `squares::square_comes` meets its contract.
use mathlib.Core.Path.{◌≡◌, refl, ap, ◌∙◌}
use mathlib.Core.Bool.{false}
use mathlib.Core.List.{List}
use mathlib.Core.Logic.{◌≢◌}
use Prim.Native.Nat.{ℕ, ◌-◌}
use native.Mathlib.Omega.{arith}
use lib.ListN.{get_or}
use lib.Dec.{leb}
use borrow.Author.Tests.{ne_eqb, le-ltb}
use Rattle.words.specs.Sequences.{square_comes}
use Rattle.words.proofs.squares.square_comes.Goals as goal

none : (left at : ℕ) (before : List ℕ) → left ≡ 0 → false ≡ square_comes left at before
unfolding square_comes
none left at before e = rw e refl

last : (left at : ℕ) (before : List ℕ) → left ≢ 0 → leb (get_or before (left - 1) 0) at ≡ square_comes left at before
unfolding square_comes
last left at before n = rw (ne_eqb left 0 n) refl

pub returns-then-left-gt0 : goal.returns-then-left-gt0
returns-then-left-gt0 c =
    let e = c.from.ensures in
    ap (λ (x : ℕ). leb x c.args.at) e ∙ last c.args.left c.args.at c.args.before.now (λ z. omega arith)

pub returns-else-left-gt0 : goal.returns-else-left-gt0
returns-else-left-gt0 c = le-ltb 0 c.args.left (omega arith) ∙ none c.args.left c.args.at c.args.before.now (omega arith)
