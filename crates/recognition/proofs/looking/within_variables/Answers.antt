-- `looking::within_variables` meets its contract: each term is tested.
use mathlib.Core.Path.{◌∙◌}
use mathlib.Core.List.{List}
use Prim.Native.Nat.{ℕ, ◌/◌}
use native.Mathlib.Omega.{arith}
use borrow.Author.Rules.{rules}
use lib.ListN.{length, drop}
use Rattle.std.proofs.lemmas.Iterator.Search.{all_from_yields_List}
use Rattle.residue.specs.Lists.{all_zero}
use Rattle.residue.specs.Layout.{groups}
use Rattle.residue.proofs.Chunks.{YieldsList-from_chunks_exact}
use Rattle.recognition.proofs.looking.Variables.{within_all}
use Rattle.recognition.proofs.looking.within_variables.Goals as goal

pub returns : goal.returns
returns c =
    let es = c.args.exponents.now in
    all_from_yields_List {s = c.chunks_exact.result} (λ (e : List ℕ). all_zero (drop c.args.m e)) c.all.new.self _ _ c.all.ensures.ran
    (YieldsList-from_chunks_exact 8 es (omega arith) c.chunks_exact.ensures.rest c.chunks_exact.ensures.size) (λ x r q k. search rules)
    ∙ within_all c.args.m (groups 8 (length es / 8) es)
