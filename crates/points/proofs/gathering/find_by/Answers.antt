-- `gathering::find_by` meets its contract: a point without a hint is new; where the hint fails, the table is searched.
use mathlib.Core.Path.{◌≡◌, refl, sym, ap, ◌∙◌}
use Prim.Native.Nat.{ℕ, suc, ◌+◌, ◌%◌, ◌≤◌}
use native.Mathlib.Omega.{arith}
use lib.ListN.{get_or, set}
use Rattle.points.specs.Gathering.{hint_of}
use Rattle.points.proofs.places.PointPlaces.{place_few}
use Rattle.points.proofs.gathering.Hints.{hint_told, hint_again, unhinted}
use Rattle.points.proofs.gathering.find_by.Goals as goal
use Rattle.points.proofs.gathering.find_by.Goals.{After-hint_place-remainder, After-place_of-at}

-- the remainder is that of the point's key
module _ (c : After-hint_place-remainder) where
  here : c.hint_place-remainder.result ≡ hint_of c.args.point.now
  unfolding hint_of
  here = c.hint_place-remainder.ensures ∙ ap (λ (k : ℕ). k % 233) c.requires.n_bound.3

  noted : (i : ℕ) → set c.args.hints.now c.hint_place-remainder.result (i + 1) ≡ set c.args.hints.now (hint_of c.args.point.now) (suc i)
  noted i = let next : i + 1 ≡ suc i = omega arith in rw (next, here) refl

few : (c : After-place_of-at) → c.place_of-at.result ≤ 64
few c = omega (arith, c.place_of-at.ensures, place_few c.args.point.now c.args.points.now c.args.n, c.requires.n_bound.0)

pub returns-in_default-clause-value : goal.returns-in_default-clause-value
returns-in_default-clause-value c =
    let r = (goal.at.returns-in_default-clause-value c).After-hint_place-remainder in
    let none = c.in_default.ensures in
    let zero : get_or c.args.hints.now c.hint_place-remainder.result 0 ≡ 0 = omega arith in
    unhinted c.requires.t.1 c.args.point.now (ap (λ (k : ℕ). get_or c.args.hints.now k 0) (sym (here r)) ∙ zero)

pub returns-in_default-clause-hints_after : goal.returns-in_default-clause-hints_after
returns-in_default-clause-hints_after c = noted (goal.at.returns-in_default-clause-hints_after c).After-hint_place-remainder c.args.n

pub returns-then-hint_holds-clause-value : goal.returns-then-hint_holds-clause-value
returns-then-hint_holds-clause-value c =
    hint_told c.args.point.now c.args.points.now c.args.n c.in-Some.guess c.args.own (λ j h. (c.type_inv.point j).fits) (λ j h. (c.type_inv.points j).fits)
    c.requires.n_bound.2 c.requires.n_bound.1 c.requires.t.0 c.requires.n_bound.3 (sym c.if-hint_holds.ensures)

pub returns-then-hint_holds-clause-hints_after : goal.returns-then-hint_holds-clause-hints_after
returns-then-hint_holds-clause-hints_after c =
    let r = (goal.at.returns-then-hint_holds-clause-hints_after c).After-hint_place-remainder in
    let some = c.in-Some.ensures in
    let one_more : get_or c.args.hints.now c.hint_place-remainder.result 0 ≡ suc c.in-Some.guess = omega arith in
    hint_again c.args.hints.now (hint_of c.args.point.now) c.in-Some.guess (ap (λ (k : ℕ). get_or c.args.hints.now k 0) (sym (here r)) ∙ one_more)

pub overflow_cast-hints-2 : goal.overflow_cast-hints-2
overflow_cast-hints-2 c = omega (arith, few c)

pub overflow_add-hints-2 : goal.overflow_add-hints-2
overflow_add-hints-2 c = omega (arith, few c)

pub returns-clause-hints_after : goal.returns-clause-hints_after
returns-clause-hints_after c = noted (goal.at.returns-clause-hints_after c).After-hint_place-remainder c.place_of-at.result
