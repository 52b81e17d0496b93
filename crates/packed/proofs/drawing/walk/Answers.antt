-- `drawing::walk` meets its contract.
use mathlib.Core.Path.{◌≡◌, refl, sym, ap, ◌∙◌, subst}
use mathlib.Core.Bool.{true, false}
use mathlib.Core.List.{List}
use mathlib.Core.Logic.{◌≢◌}
use Prim.Native.Nat.{ℕ, ◌-◌, ◌<◌, ◌≤◌}
use native.Mathlib.Omega.{arith}
use lib.ListN.{length, get_or}
use Rattle.residue.specs.Layout.{length_fill}
use Rattle.residue.specs.Vector.{Below}
use Rattle.construction.proofs.drawing.Grounds.{points_below}
use Rattle.words.specs.PlaceSets.{FirstOpen}
use Rattle.words.specs.PivotTables.{PivotsLong}
use Rattle.words.specs.Sequences.{square_comes}
use Rattle.packed.proofs.Given.{Lent, AtHead, walked_start}
use Rattle.words.proofs.PlaceLaws.{still_known}
use Rattle.packed.proofs.Turns.{known_long, left_few, found_few, standard_long, leads_long, coefficients_long, some_left, last_fits, square_skipped, square_fits, square_done, ended_as}
use Rattle.packed.proofs.Turns.{inside_is, examine_fits, lead_fits, lead_done, standard_fits, standard_done}
use Rattle.packed.proofs.drawing.walk.Goals as goal
use Rattle.packed.proofs.drawing.walk.Goals.{After-polynomials-else-square_comes-1, After-square_comes, At-loop-left, Else-at-eq256, In-None, Else-square_comes, Start, In-Some, Then-place-ne0, Then-square_comes}

-- what the walk is lent, and what holds at the head of the loop under its own settings
module _ (l : At-loop-left) where
  abbrev start : Start
  start = (goal.at.At-loop-left l).Start

  lent : Lent start.args.settings start.args.n start.args.points.now start.args.bytes.now start.args.multiples.now
      start.args.squares.now start.args.before.now
  lent = record { given = start.requires.points_given.0; two = start.requires.points_given.1; sequence = start.requires.sequence; squares_are = start.requires.squares }

  abbrev variables : List ℕ
  variables = l.put_variables.new.columns

  held : AtHead start.args.settings start.args.n start.args.points.now start.args.bytes.now start.args.multiples.now
      start.args.squares.now start.args.before.now
      l.ones-whole.result variables l.loop-left.known l.loop-left.left l.loop-left.found l.loop-left.r
      l.loop-left.pivots l.loop-left.values l.loop-left.places l.loop-left.rows l.loop-left.columns
      l.loop-left.polynomials l.loop-left.standard l.loop-left.leads l.loop-left.coefficients
  held = l.loop-left.invariant.0 start.args.settings refl lent

-- the first open place, and what the answer about the square says of it
module _ (c : After-square_comes) where
  abbrev head : At-loop-left
  head = (goal.at.After-square_comes c).At-loop-left

  abbrev place : ℕ
  place = c.first_open-at.result

  opened : FirstOpen head.loop-left.known place
  opened = c.first_open-at.ensures

-- the square comes
module _ (t : Then-square_comes) where
  comes : square_comes (head (goal.at.Then-square_comes t).After-square_comes).loop-left.left (place (goal.at.Then-square_comes t).After-square_comes) (start (head (goal.at.Then-square_comes t).After-square_comes)).args.before.now ≡ true
  comes = sym t.square_comes.ensures ∙ t.if-square_comes.true

  some : (head (goal.at.Then-square_comes t).After-square_comes).loop-left.left ≢ 0
  some = some_left (held (head (goal.at.Then-square_comes t).After-square_comes)) (place (goal.at.Then-square_comes t).After-square_comes) (opened (goal.at.Then-square_comes t).After-square_comes) comes

  low : get_or (start (head (goal.at.Then-square_comes t).After-square_comes)).args.squares.now ((head (goal.at.Then-square_comes t).After-square_comes).loop-left.left - 1) 0 < 8
  low = last_fits (held (head (goal.at.Then-square_comes t).After-square_comes)) (place (goal.at.Then-square_comes t).After-square_comes) (opened (goal.at.Then-square_comes t).After-square_comes) comes

-- it is a lead
module _ (u : Then-place-ne0) where
  abbrev turn : Then-square_comes
  turn = (goal.at.Then-place-ne0 u).Then-square_comes

  abbrev its_place : ℕ
  its_place = get_or (head (goal.at.Then-square_comes turn).After-square_comes).loop-left.places (get_or (start (head (goal.at.Then-square_comes turn).After-square_comes)).args.squares.now ((head (goal.at.Then-square_comes turn).After-square_comes).loop-left.left - 1) 0) 0

  fits : ((head (goal.at.Then-square_comes turn).After-square_comes).loop-left.r < 449) × (its_place ≤ 64)
  fits = square_fits (held (head (goal.at.Then-square_comes turn).After-square_comes)) (place (goal.at.Then-square_comes turn).After-square_comes) (opened (goal.at.Then-square_comes turn).After-square_comes) (comes turn) u.if-place-ne0.true

-- no square comes
module _ (t : Else-square_comes) where
  comes_not : square_comes (head (goal.at.Else-square_comes t).After-square_comes).loop-left.left (place (goal.at.Else-square_comes t).After-square_comes) (start (head (goal.at.Else-square_comes t).After-square_comes)).args.before.now ≡ false
  comes_not = sym t.square_comes.ensures ∙ t.if-square_comes.false

module _ (t : Else-at-eq256) where
  within : place (goal.at.Else-at-eq256 t).After-square_comes < 256
  within = inside_is (held (head (goal.at.Else-at-eq256 t).After-square_comes)) (place (goal.at.Else-at-eq256 t).After-square_comes) (opened (goal.at.Else-at-eq256 t).After-square_comes) (comes_not (goal.at.Else-at-eq256 t).Else-square_comes) t.if-at-eq256.false

pub ones-whole-requires : goal.ones-whole-requires
ones-whole-requires c = c.requires.points_given.0.most

pub put_variables-requires : goal.put_variables-requires
put_variables-requires c = let a = c in record { n_bound = (a.requires.points_given.0.most, (ap length a.requires.points_given.0.table ∙ length_fill 512 _, refl)); below = subst (λ (p : ℕ). Below p a.args.points.now) a.requires.points_given.1 (points_below a.requires.points_given.0) }

pub pass_above-requires : goal.pass_above-requires
pass_above-requires c = let a = c in
    (a.requires.points_given.0.settings.few, (a.requires.sequence.multiples_long, refl))

pub loop-left-init : goal.loop-left-init
loop-left-init c = (
  λ s m t. let a = c in
      record {
        given = t.given;
        two = t.two;
        sequence = t.sequence;
        squares_are = t.squares_are;
        variables_are = c.put_variables.ensures;
        whole_is = c.ones-whole.ensures;
        now = walked_start s _ _ t.given t.two _ _ t.sequence _ _ t.squares_are _ m _ _ _ _ c.pass_above.ensures a.requires.standard_value.0
            a.requires.standard_value.1.0 a.requires.standard_value.1.1;
      },
  λ i h. absurd (omega arith),
)

pub slice_bounds-first_open-end : goal.slice_bounds-first_open-end
slice_bounds-first_open-end c = sym (known_long (held (goal.at.slice_bounds-first_open-end c).At-loop-left))

pub first_open-at-requires : goal.first_open-at-requires
first_open-at-requires c = (known_long (held (goal.at.first_open-at-requires c).At-loop-left), c.loop-left.invariant.1)

pub square_comes-requires : goal.square_comes-requires
square_comes-requires c = let h = held (goal.at.square_comes-requires c).At-loop-left in (left_few h, h.squares_are.before_long)

pub overflow_sub-left : goal.overflow_sub-left
overflow_sub-left c = let h = some (goal.at.overflow_sub-left c).Then-square_comes in omega (arith, h)

pub bounds-squares-left : goal.bounds-squares-left
bounds-squares-left c = let h = held (head (goal.at.bounds-squares-left c).After-square_comes) in omega (arith, left_few h, some (goal.at.bounds-squares-left c).Then-square_comes, h.squares_are.squares_long)

pub overflow_cast-k : goal.overflow_cast-k
overflow_cast-k c = let h = low (goal.at.overflow_cast-k c).Then-square_comes in record { fits = omega (arith, h) }

pub bounds-places-k : goal.bounds-places-k
bounds-places-k c = low (goal.at.bounds-places-k c).Then-square_comes

pub keep_square-requires : goal.keep_square-requires
keep_square-requires c = let u = c in let h = held (head (goal.at.Then-square_comes (turn (goal.at.keep_square-requires u).Then-place-ne0)).After-square_comes) in let f = fits (goal.at.keep_square-requires u).Then-place-ne0 in let z = u.if-place-ne0.true in record { k_bound = (low (turn (goal.at.keep_square-requires u).Then-place-ne0), (f.0, (omega (arith, z), f.1))); leads_len = (leads_long h, coefficients_long h) }

pub overflow_add-r : goal.overflow_add-r
overflow_add-r c = let f = fits (goal.at.overflow_add-r c).Then-place-ne0 in record { fits = omega (arith, f.0) }

pub loop-left-smaller-then-place-ne0 : goal.loop-left-smaller-then-place-ne0
loop-left-smaller-then-place-ne0 c = let u = c in let f = fits (goal.at.loop-left-smaller-then-place-ne0 u).Then-place-ne0 in let z = some (turn (goal.at.loop-left-smaller-then-place-ne0 u).Then-place-ne0) in omega (arith, f, z)

pub loop-left-preserved-then-place-ne0 : goal.loop-left-preserved-then-place-ne0
loop-left-preserved-then-place-ne0 c = let u = c in let k = c in (
  λ s m t. square_done ((head (goal.at.Then-square_comes (turn (goal.at.loop-left-preserved-then-place-ne0 u).Then-place-ne0)).After-square_comes).loop-left.invariant.0 s m t) (place (goal.at.Then-square_comes (turn (goal.at.loop-left-preserved-then-place-ne0 u).Then-place-ne0)).After-square_comes) (opened (goal.at.Then-square_comes (turn (goal.at.loop-left-preserved-then-place-ne0 u).Then-place-ne0)).After-square_comes) (comes (turn (goal.at.loop-left-preserved-then-place-ne0 u).Then-place-ne0)) u.if-place-ne0.true _ _
      k.keep_square.ensures.leads_after k.keep_square.ensures.coefficients_after,
  (opened (goal.at.Then-square_comes (turn (goal.at.loop-left-preserved-then-place-ne0 u).Then-place-ne0)).After-square_comes).before,
)

pub loop-left-smaller-else-place-ne0 : goal.loop-left-smaller-else-place-ne0
loop-left-smaller-else-place-ne0 c = let z = some (goal.at.loop-left-smaller-else-place-ne0 c).Then-square_comes in omega (arith, z)

pub loop-left-preserved-else-place-ne0 : goal.loop-left-preserved-else-place-ne0
loop-left-preserved-else-place-ne0 c = let v = c in (
  λ s m t. square_skipped ((head (goal.at.loop-left-preserved-else-place-ne0 v).After-square_comes).loop-left.invariant.0 s m t) (place (goal.at.loop-left-preserved-else-place-ne0 v).After-square_comes) (opened (goal.at.loop-left-preserved-else-place-ne0 v).After-square_comes) (comes (goal.at.loop-left-preserved-else-place-ne0 v).Then-square_comes) c.if-place-ne0.false,
  (opened (goal.at.loop-left-preserved-else-place-ne0 v).After-square_comes).before,
)

pub shape_of-standard-then-at-eq256 : goal.shape_of-standard-then-at-eq256
shape_of-standard-then-at-eq256 c = let l = head (goal.at.shape_of-standard-then-at-eq256 c).After-square_comes in standard_long (held l) ∙ sym (ap length (start l).requires.standard_value.0)

pub shape_of-leads-then-at-eq256 : goal.shape_of-leads-then-at-eq256
shape_of-leads-then-at-eq256 c = let l = head (goal.at.shape_of-leads-then-at-eq256 c).After-square_comes in leads_long (held l) ∙ sym (ap length (start l).requires.standard_value.1.0)

pub shape_of-coefficients-then-at-eq256 : goal.shape_of-coefficients-then-at-eq256
shape_of-coefficients-then-at-eq256 c = let l = head (goal.at.shape_of-coefficients-then-at-eq256 c).After-square_comes in coefficients_long (held l) ∙ sym (ap length (start l).requires.standard_value.1.1)

pub returns-then-at-eq256 : goal.returns-then-at-eq256
returns-then-at-eq256 c = ended_as (held (head (goal.at.returns-then-at-eq256 c).After-square_comes)) (place (goal.at.returns-then-at-eq256 c).After-square_comes) (opened (goal.at.returns-then-at-eq256 c).After-square_comes) (comes_not (goal.at.returns-then-at-eq256 c).Else-square_comes) c.if-at-eq256.true

-- the column has been examined
module _ (x : After-polynomials-else-square_comes-1) where
  abbrev before : Else-at-eq256
  before = (goal.at.After-polynomials-else-square_comes-1 x).Else-at-eq256

  lengths : PivotsLong x.examine-e.new.rows x.examine-e.new.columns
      x.examine-e.new.polynomials
  lengths = let e = x in let h = (held (head (goal.at.Else-at-eq256 before).After-square_comes)).now.pivots_long in
      (e.examine-e.auto.rows ∙ h.0, (e.examine-e.auto.columns ∙ h.1.0, e.examine-e.auto.polynomials ∙ h.1.1))

module _ (u : In-Some) where
  lead_in : (head (goal.at.Else-at-eq256 (before (goal.at.In-Some u).After-polynomials-else-square_comes-1)).After-square_comes).loop-left.r < 449
  lead_in = let t = before (goal.at.In-Some u).After-polynomials-else-square_comes-1 in
      lead_fits (held (head (goal.at.Else-at-eq256 t).After-square_comes)) (place (goal.at.Else-at-eq256 t).After-square_comes) (opened (goal.at.Else-at-eq256 t).After-square_comes) (comes_not (goal.at.Else-at-eq256 t).Else-square_comes) t.if-at-eq256.false _
      u.own_column-own.ensures _ _ _ _ _ _
      u.examine-e.ensures (lengths (goal.at.In-Some u).After-polynomials-else-square_comes-1) u.in-Some.is

module _ (u : In-None) where
  standard_in : (head (goal.at.Else-at-eq256 (before (goal.at.In-None u).After-polynomials-else-square_comes-1)).After-square_comes).loop-left.found < 64
  standard_in = let t = before (goal.at.In-None u).After-polynomials-else-square_comes-1 in
      standard_fits (held (head (goal.at.Else-at-eq256 t).After-square_comes)) (place (goal.at.Else-at-eq256 t).After-square_comes) (opened (goal.at.Else-at-eq256 t).After-square_comes) (comes_not (goal.at.Else-at-eq256 t).Else-square_comes) t.if-at-eq256.false _
      u.own_column-own.ensures _ 0 _ _ _ _
      u.examine-e.ensures (lengths (goal.at.In-None u).After-polynomials-else-square_comes-1) u.in-None.is

pub bounds-bytes-at : goal.bounds-bytes-at
bounds-bytes-at c = let h = within (goal.at.bounds-bytes-at c).Else-at-eq256 in omega (arith, h, (held (goal.at.bounds-bytes-at c).At-loop-left).sequence.long)

pub slice_bounds-own_column-end : goal.slice_bounds-own_column-end
slice_bounds-own_column-end c = sym (held (goal.at.slice_bounds-own_column-end c).At-loop-left).variables_are.long

pub slice_bounds-own_column-end-else-square_comes : goal.slice_bounds-own_column-end-else-square_comes
slice_bounds-own_column-end-else-square_comes c = sym (held (goal.at.slice_bounds-own_column-end-else-square_comes c).At-loop-left).now.memory.values_long

pub own_column-own-requires : goal.own_column-own-requires
own_column-own-requires c = let h = held (goal.at.own_column-own-requires c).At-loop-left in
    (h.variables_are.long, h.now.memory.values_long)

pub slice_bounds-examine-end : goal.slice_bounds-examine-end
slice_bounds-examine-end c = sym (held (goal.at.slice_bounds-examine-end c).At-loop-left).now.pivots_long.0

pub slice_bounds-examine-end-else-square_comes : goal.slice_bounds-examine-end-else-square_comes
slice_bounds-examine-end-else-square_comes c = sym (held (goal.at.slice_bounds-examine-end-else-square_comes c).At-loop-left).now.pivots_long.1.0

pub slice_bounds-examine-end-else-square_comes-2 : goal.slice_bounds-examine-end-else-square_comes-2
slice_bounds-examine-end-else-square_comes-2 c = sym
    (held (goal.at.slice_bounds-examine-end-else-square_comes-2 c).At-loop-left).now.pivots_long.1.1

pub examine-e-requires : goal.examine-e-requires
examine-e-requires c = let t = c in
    let h = held (goal.at.examine-e-requires c).At-loop-left in record {
      some_kept = examine_fits h (place (goal.at.examine-e-requires t).After-square_comes) (opened (goal.at.examine-e-requires t).After-square_comes) (comes_not (goal.at.examine-e-requires t).Else-square_comes) t.if-at-eq256.false _
          c.own_column-own.ensures;
      pivots_long = h.now.pivots_long;
      k_bound = found_few h;
    }

pub slice_bounds-keep_lead-end : goal.slice_bounds-keep_lead-end
slice_bounds-keep_lead-end c = sym
    (known_long (held (goal.at.slice_bounds-keep_lead-end c).At-loop-left))

pub keep_lead-requires : goal.keep_lead-requires
keep_lead-requires c = let h =
    held (goal.at.keep_lead-requires c).At-loop-left in record { r_lt_most_rows = lead_in (goal.at.keep_lead-requires c).In-Some; multiples_len = (h.sequence.multiples_long, known_long h); leads_len = (leads_long h, coefficients_long h) }

pub overflow_add-r-in-Some : goal.overflow_add-r-in-Some
overflow_add-r-in-Some c = let h = lead_in (goal.at.overflow_add-r-in-Some c).In-Some in record { fits = omega (arith, h) }

pub loop-left-smaller-in-Some : goal.loop-left-smaller-in-Some
loop-left-smaller-in-Some c = let h = lead_in (goal.at.loop-left-smaller-in-Some c).In-Some in omega (arith, h)

pub loop-left-preserved-in-Some : goal.loop-left-preserved-in-Some
loop-left-preserved-in-Some c = let u = c in
    let t = c in let k = c in (
      λ s m w.
          lead_done (c.loop-left.invariant.0 s m w) (place (goal.at.loop-left-preserved-in-Some t).After-square_comes) (opened (goal.at.loop-left-preserved-in-Some t).After-square_comes)
          (comes_not (goal.at.loop-left-preserved-in-Some t).Else-square_comes) t.if-at-eq256.false _
          c.own_column-own.ensures _ _ _ _ _ _
          c.examine-e.ensures (lengths (goal.at.loop-left-preserved-in-Some u).After-polynomials-else-square_comes-1)
          u.in-Some.is _ _ _ k.keep_lead.ensures.passed k.keep_lead.ensures.leads_after k.keep_lead.ensures.coefficients_after,
      still_known k.keep_lead.ensures.passed (opened (goal.at.loop-left-preserved-in-Some t).After-square_comes),
    )

pub slice_bounds-keep_standard-end : goal.slice_bounds-keep_standard-end
slice_bounds-keep_standard-end c = sym (held (goal.at.slice_bounds-keep_standard-end c).At-loop-left).now.memory.values_long

pub slice_bounds-keep_standard-end-in-None : goal.slice_bounds-keep_standard-end-in-None
slice_bounds-keep_standard-end-in-None c = sym (held (goal.at.slice_bounds-keep_standard-end-in-None c).At-loop-left).now.memory.places_long

pub slice_bounds-keep_standard-end-in-None-2 : goal.slice_bounds-keep_standard-end-in-None-2
slice_bounds-keep_standard-end-in-None-2 c = sym (known_long (held (goal.at.slice_bounds-keep_standard-end-in-None-2 c).At-loop-left))

pub keep_standard-requires : goal.keep_standard-requires
keep_standard-requires c = let h =
    held (goal.at.keep_standard-requires c).At-loop-left in record {
      found_bound = (
        standard_in (goal.at.keep_standard-requires c).In-None,
        within
            (goal.at.keep_standard-requires c).Else-at-eq256,
      );
      values_len = (h.now.memory.values_long, (h.now.memory.places_long, known_long h));
      standard_len = standard_long h;
    }

pub overflow_add-found : goal.overflow_add-found
overflow_add-found c = let h = standard_in (goal.at.overflow_add-found c).In-None in record { fits = omega (arith, h) }

pub loop-left-smaller : goal.loop-left-smaller
loop-left-smaller c = let h = standard_in (goal.at.loop-left-smaller c).In-None in omega (arith, h)

pub loop-left-preserved : goal.loop-left-preserved
loop-left-preserved c = let u = c in
    let t = c in let k = c in (
      λ s m w.
          standard_done (c.loop-left.invariant.0 s m w) (place (goal.at.loop-left-preserved t).After-square_comes)
          (opened (goal.at.loop-left-preserved t).After-square_comes) (comes_not (goal.at.loop-left-preserved t).Else-square_comes) t.if-at-eq256.false _
          c.own_column-own.ensures _ 0 _ _ _ _
          c.examine-e.ensures
          (lengths (goal.at.loop-left-preserved u).After-polynomials-else-square_comes-1) u.in-None.is _ _ _ _ k.keep_standard.ensures.passed k.keep_standard.ensures.standard_after k.keep_standard.ensures.values_after.0
          k.keep_standard.ensures.values_after.1,
      still_known k.keep_standard.ensures.passed (opened (goal.at.loop-left-preserved t).After-square_comes),
    )
