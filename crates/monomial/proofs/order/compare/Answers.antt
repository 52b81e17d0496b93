-- `order::compare` meets its contract: degrees or weights first, but in lex, and then the first or the last difference.
use mathlib.Core.Path.{sym, ap, ap₂, ◌∙◌}
use Prim.Native.Nat.{compare}
use borrow.Author.Rules.{rules}
use Rattle.std.specs.Ordering.{nat_cmp}
use Rattle.monomial.specs.Monomial.{degree}
use Rattle.monomial.specs.Order.{by_first, by_last, cmp}
use Rattle.monomial.specs.Comparison.{comparison_of, meant}
use Rattle.monomial.proofs.Orders.Compared.{number_compared, graded}
use Rattle.monomial.proofs.order.compare.Goals as goal

pub returns-in-Lex : goal.returns-in-Lex
unfolding cmp
returns-in-Lex c = c.by_first.ensures ∙ ap (λ o. comparison_of (cmp (meant o) c.args.a.now c.args.b.now)) (sym c.in-Lex.is)

pub returns-in-Grlex : goal.returns-in-Grlex
unfolding cmp
returns-in-Grlex c =
    let a = c.args.a.now in
    let b = c.args.b.now in
    graded (compare (degree a) (degree b)) (by_first a b) c.cmp.result c.then_with.result (c.cmp.ensures ∙ ap₂ nat_cmp c.degree.ensures c.degree-in-Grlex.ensures ∙ number_compared _ _) c.then_with.ensures (λ h. search rules)
    ∙ ap (λ o. comparison_of (cmp (meant o) a b)) (sym c.in-Grlex.is)

pub returns-in-Grevlex : goal.returns-in-Grevlex
unfolding cmp
returns-in-Grevlex c =
    let a = c.args.a.now in
    let b = c.args.b.now in
    graded (compare (degree a) (degree b)) (by_last a b) c.cmp-in-Grevlex.result c.then_with-in-Grevlex.result (c.cmp-in-Grevlex.ensures ∙ ap₂ nat_cmp c.degree-in-Grevlex.ensures c.degree-in-Grevlex-2.ensures ∙ number_compared _ _) c.then_with-in-Grevlex.ensures (λ h. search rules)
    ∙ ap (λ o. comparison_of (cmp (meant o) a b)) (sym c.in-Grevlex.is)

pub returns-in-Weighted : goal.returns-in-Weighted
unfolding cmp
returns-in-Weighted c =
    let a = c.args.a.now in
    let b = c.args.b.now in
    graded _ (by_first a b) c.cmp-in-Weighted.result c.then_with-in-Weighted.result (c.cmp-in-Weighted.ensures ∙ ap₂ nat_cmp c.weigh.ensures c.weigh-in-Weighted.ensures ∙ number_compared _ _) c.then_with-in-Weighted.ensures (λ h. search rules)
    ∙ ap (λ o. comparison_of (cmp (meant o) a b)) (sym c.in-Weighted.is)
