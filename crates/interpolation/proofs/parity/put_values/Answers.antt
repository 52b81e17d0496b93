-- `parity::put_values` meets its contract.
use mathlib.Core.Path.{◌≡◌, ap, subst, ◌∙◌}
use Prim.Native.Nat.{ℕ}
use native.Mathlib.Omega.{arith}
use Rattle.residue.specs.Vector.{Below}
use Rattle.residue.specs.Layout.{over}
use Rattle.monomial.specs.Terms.{term_values}
use Rattle.interpolation.proofs.parity.put_values.Goals as goal

pub put_parities-requires : goal.put_parities-requires
put_parities-requires c = let s = c in
    let e : s.args.p ≡ 2 = omega arith in record { below = subst (λ (q : ℕ). Below q s.args.coefficients.now) e s.requires.below; exponents_len = s.requires.exponents_len; n_bound = (s.requires.n_bound.0, (s.requires.n_bound.1.0, subst (λ (q : ℕ). Below q s.args.points.now) e s.requires.n_bound.1.1)); work_value = s.requires.work_value }

pub returns-then-p-eq2 : goal.returns-then-p-eq2
returns-then-p-eq2 c = let s = c in
    let e : 2 ≡ s.args.p = omega arith in
    c.put_parities.ensures
    ∙ ap (λ (q : ℕ). over (term_values q s.args.coefficients.now s.args.exponents.now s.args.n s.args.points.now) s.args.work.now) e
