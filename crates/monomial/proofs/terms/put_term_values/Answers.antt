-- `terms::put_term_values` meets its contract. The working row begins with the values of the terms taken so far.
use mathlib.Core.Path.{◌≡◌, refl, sym, ap, ap₂, subst, ◌∙◌}
use mathlib.Core.List.{List, []}
use Prim.Native.Nat.{ℕ}
use native.Mathlib.Omega.{arith}
use lib.ListN.{length, get_or, take}
use Rattle.std.proofs.lemmas.List.{length_push}
use Rattle.std.proofs.lemmas.Slice.Zip.{zip_turn, zip_end}
use Rattle.residue.specs.Vector.{Below, add_scaled}
use Rattle.residue.specs.Layout.{over}
use Rattle.residue.proofs.Layouts.{take_over}
use Rattle.residue.proofs.Places.{groups_at}
use Rattle.monomial.proofs.terms.TermRows.{sums, sums_long, sums_below, sums_none, sums_all, row_more, monomial_row}
use Rattle.monomial.proofs.terms.put_term_values.Goals as goal

pub loop-c-init : goal.loop-c-init
loop-c-init c =
    let s = c.args in
    sums_none s.p s.n s.coefficients.now s.exponents.now s.points.now 128 s.work.now (omega arith) c.requires.work_value

pub add_term-requires-clause-values_len : goal.add_term-requires-clause-values_len
add_term-requires-clause-values_len c =
    let s = c.args in
    let i : ℕ = length c.loop-c.yielded in
    let so_far = sums s.p s.n s.coefficients.now s.exponents.now s.points.now i in
    let long = sums_long s.p s.n s.coefficients.now s.exponents.now s.points.now i in
    let front : take s.n c.loop-c.work ≡ so_far = ap₂ (λ (k : ℕ) (w : List ℕ). take k w) (sym long) c.loop-c.invariant ∙ take_over so_far s.work.now in
    (ap length front ∙ long, subst (Below s.p) (sym front) (sums_below s.p s.n s.coefficients.now s.exponents.now s.points.now (omega arith) i))

pub loop-c-preserved : goal.loop-c-preserved
loop-c-preserved c =
    let s = c.args in
    let l = c.loop-c in
    let cs = s.coefficients.now in
    let t = zip_turn cs c.rows-monomials.result.now l.yielded _ _ c.next.new.self _ (cc) (cc) l.yielded_by _ c.in-Some.is c.next.ensures.steps in
    let i : ℕ = length l.yielded in
    let row = t.3 [] ∙ ap (λ (rows : List (List ℕ)). get_or rows i []) c.rows-monomials.ensures.value ∙ groups_at 8 (length cs) i s.exponents.now [] t.0 in
    rw (length_push l.yielded (c.in-Some.c, c.in-Some.a))
    (row_more s.p s.n cs s.exponents.now s.points.now i 8 l.work s.work.now _ t.0 refl l.invariant
    (c.add_term.ensures ∙ ap₂ (λ (x : ℕ) (a : List ℕ). add_scaled s.p x (take s.n l.work) (monomial_row s.p s.n a s.points.now)) (t.2 0) row))

pub returns : goal.returns
returns c =
    let s = c.args in
    let l = c.loop-c in
    let e = zip_end s.coefficients.now c.rows-monomials.result.now l.yielded _ _ c.next.new.self _ (cc) (cc) l.yielded_by c.in-None.is c.next.ensures.steps in
    let n = c.rows-monomials.ensures.len in
    l.invariant
    ∙ ap (λ (v : List ℕ). over v s.work.now) (sums_all s.p s.n s.coefficients.now s.exponents.now s.points.now (length l.yielded) (omega arith))
