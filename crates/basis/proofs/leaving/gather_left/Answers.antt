-- `leaving::gather_left` meets its contract: refused with the settings or the variable, for the tables, or by the points that are gathered.
use mathlib.Core.Path.{◌≡◌, refl, sym, ap, subst, ◌∙◌}
use mathlib.Core.Bool.{cond}
use Prim.Native.Nat.{◌-◌, ◌≤◌, ◌<◌}
use native.Mathlib.Omega.{arith}
use lib.ListN.{length}
use lib.Dec.{ltb}
use Rattle.std.proofs.Common.{rules}
use Rattle.residue.specs.Lists.{some}
use Rattle.residue.specs.Layout.{fill, in_places, length_fill}
use Rattle.specification.specs.Answers.{number_of, refusal_of}
use Rattle.specification.specs.Lent.{lent}
use Rattle.specification.specs.Counted.{Counted, counts_of}
use Rattle.specification.specs.Tables.{points_in, held_in}
use Rattle.specification.specs.LeaveOut.{without_variable}
use Rattle.specification.proofs.Refused.{number_above_0}
use Rattle.specification.proofs.agreement.Refusals.{large_of}
use Rattle.points.specs.Gathering.{TabledAs}
use Rattle.points.specs.Leaving.{counted_in}
use Rattle.recognition.proofs.looking.Looks.{points_there}
use Rattle.basis.proofs.leaving.Outcome.{early, looking, number_early, number_looked, number_gathered, long_tables, low, positive, counted_held}
use Rattle.basis.proofs.leaving.gather_left.Goals as goal
use Rattle.basis.proofs.leaving.gather_left.Goals.{In_ok-check_variable, In_ok-look}

-- the variable can be left out
none : (c : In_ok-check_variable) → early c.args.settings c.args.n c.args.r (lent c.args.tables) c.args.variable c.args.short ≡ 0
unfolding refusal_of
none c = sym c.in_ok-check_variable.ensures

-- and the tables are recognised
module _ (c : In_ok-look) where
  abbrev d : In_ok-check_variable
  d = (goal.at.In_ok-look c).In_ok-check_variable

  known : looking c.args.settings c.args.n c.args.r (lent c.args.tables) c.args.variable c.args.short ≡ 0
  unfolding refusal_of
  known = sym c.in_ok-look.ensures.value

  table : c.look.new.points ≡ fill 512 (in_places 8 (points_in c.args.settings c.args.n c.args.tables.states.now))
  unfolding refusal_of
  table = points_there c.in_ok-look.ensures.looked refl

  -- the points that are gathered are those of the tables
  held : counted_in c.args.settings.variables c.args.n c.look.new.points c.args.tables.counts.now ≡ held_in c.args.settings c.args.n (lent c.args.tables)
  held = counted_held c.args.settings c.args.n c.args.r (lent c.args.tables) c.args.variable c.args.short (none d) known table

  bounds : (1 ≤ c.args.variable) × (c.args.variable - 1 < c.args.settings.variables) × (c.args.settings.variables ≤ 8) × (c.args.n ≤ 64)
  bounds = low c.args.settings c.args.n c.args.r (lent c.args.tables) c.args.variable c.args.short (none d) known

pub returns-in_err-check_variable-clause-refusal_value : goal.returns-in_err-check_variable-clause-refusal_value
unfolding refusal_of
returns-in_err-check_variable-clause-refusal_value c =
    let e = c.in_err-check_variable.field-0.0 in
    let told : refusal_of c.from_residual.result ≡ number_of e = search rules in
    told ∙ number_early c.args.settings c.args.n c.args.r (lent c.args.tables) c.args.variable c.args.short (number_of e) c.in_err-check_variable.ensures (number_above_0 e)

pub returns-in_err-look-clause-refusal_value : goal.returns-in_err-look-clause-refusal_value
unfolding refusal_of
returns-in_err-look-clause-refusal_value c =
    let d = (goal.at.returns-in_err-look-clause-refusal_value c).In_ok-check_variable in
    let e = c.in_err-look.field-0.0 in
    let told : refusal_of c.from_residual-in_err-look.result ≡ number_of e = search rules in
    told ∙ number_looked c.args.settings c.args.n c.args.r (lent c.args.tables) c.args.variable c.args.short (none d) (number_of e) c.in_err-look.ensures.value (number_above_0 e)

pub overflow_sub-variable : goal.overflow_sub-variable
overflow_sub-variable c = (bounds c).0

pub gather_without-requires-clause-k_lt_m : goal.gather_without-requires-clause-k_lt_m
gather_without-requires-clause-k_lt_m c = let b = bounds (goal.at.gather_without-requires-clause-k_lt_m c).In_ok-look in (b.1, b.2, b.3)

pub gather_without-requires-clause-n_in_bounds : goal.gather_without-requires-clause-n_in_bounds
gather_without-requires-clause-n_in_bounds c =
    let f = (goal.at.gather_without-requires-clause-n_in_bounds c).In_ok-look in
    let a = c.args in
    let t = lent a.tables in
    let large = large_of t (long_tables a.settings a.n a.r t a.variable a.short (none (d f)) (known f)) in (
      omega (arith, (bounds f).3, ap length (table f) ∙ length_fill 512 _),
      omega (arith, (bounds f).3, large.counts),
      positive a.settings a.n a.r t a.variable a.short (none (d f)) (known f),
    )

pub returns-clause-refusal_value : goal.returns-clause-refusal_value
returns-clause-refusal_value c =
    let f = (goal.at.returns-clause-refusal_value c).In_ok-look in
    let a = c.args in
    number_gathered a.settings a.n a.r (lent a.tables) a.variable a.short (none (d f)) (known f)
    (c.gather_without.ensures.refusal_value ∙ ap (λ (L : Counted). cond (some (ltb 255) (counts_of (without_variable (a.variable - 1) L))) 13 0) (held f))

pub returns-clause-tabled_as : goal.returns-clause-tabled_as
returns-clause-tabled_as c = λ left e.
    let f = (goal.at.returns-clause-tabled_as c).In_ok-look in
    subst (λ (L : Counted). TabledAs (without_variable (c.args.variable - 1) L) left c.gather_without.new.points c.gather_without.new.counts) (held f)
    (c.gather_without.ensures.tabled_as left e)
