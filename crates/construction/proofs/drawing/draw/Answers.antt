-- `drawing::draw` meets its contract. At the loop's head the tables hold what is found, and a monomial is in hand; each turn keeps it and finds the next.
use mathlib.Core.Path.{refl, sym, ◌∙◌, ◌≡◌, ap, subst}
use native.Mathlib.Omega.{arith}
use Rattle.residue.proofs.level.Moduli.{modulus_range}
use Rattle.construction.proofs.drawing.Grounds.{points_long, points_below}
use Rattle.construction.proofs.drawing.Loop.{head_start, own_below, cost_fits, kept_few, ends, ends_rows, costs, next_small, next_exponent, goes_on, head_sized, worked_long, worked_below, room_lead, keeps_lead, room_standard, keeps_standard, kept_sized}
use mathlib.Core.Logic.{⊎_elim}
use mathlib.Core.List.{List}
use Prim.Native.Nat.{ℕ, ◌+◌, ◌*◌, ◌<◌, ◌≤◌}
use lib.ListN.{length, take, drop}
use Rattle.residue.specs.Vector.{Below}
use Rattle.elimination.specs.Rows.{first_nonzero}
use Rattle.monomial.specs.Order.{order_of}
use Rattle.monomial.specs.Columns.{column_of}
use Rattle.monomial.specs.Rank.{rank_bound}
use Rattle.monomial.proofs.rank.Steps.{steps_below}
use Rattle.monomial.proofs.columns.Entries.{column_below, column_in}
use Rattle.specification.proofs.agreement.Refusals.{light_under}
use Rattle.construction.specs.Drawing.{product_values, PointsGiven}
use Rattle.construction.proofs.drawing.LoopState.{DrawingSized, Kept, kept_as}
use Rattle.construction.proofs.drawing.draw.Goals as goal
use Rattle.construction.proofs.drawing.draw.Goals.{After-first_nonzero, After-keep, After-keep_lead, After-keep_standard, After-next, After-exponents_of-exponents, After-put_columns, After-variable_ranks_under-steps, After-reduce-cancellations, After-struct_known-1, At-loop-exponents, In-Some, In-Some-next, Joined-first_nonzero, Start, In-None}

pub pivot_room : {n found r v : ℕ} → found < n → n ≤ 64 → r ≡ 73728 → v ≡ 64 → (n + found < 128) × ((1152 * found + 1152 ≤ r) × (found < v))
pivot_room h k er ev = (omega arith, (omega arith, omega arith))

pub within_64 : {n found : ℕ} → found ≤ n → n ≤ 64 → found ≤ 64
within_64 h k = omega arith

-- before the loop, where the settings are read and the steps of the ranks are written
abbrev pub opened : After-struct_known-1 → Start
opened c = (goal.at.After-struct_known-1 c).Start

abbrev pub stepped : After-variable_ranks_under-steps → After-struct_known-1
stepped c = (goal.at.After-variable_ranks_under-steps c).After-struct_known-1

-- at the loop's head
module _ (l : At-loop-exponents) where
  abbrev pub start : Start
  start = opened (stepped (goal.at.At-loop-exponents l).After-variable_ranks_under-steps)

  pub given : PointsGiven start.args.settings start.args.n start.args.points.now
  given = start.requires.points_given

  pub head_sizes : DrawingSized start.args.settings.modulus start.args.n l.loop-exponents.found l.loop-exponents.standard l.loop-exponents.leads l.loop-exponents.coefficients l.loop-exponents.rows l.loop-exponents.pivots l.loop-exponents.values l.loop-exponents.ranks
  head_sizes = head_sized given l.loop-exponents.invariant

  pub range : (2 ≤ start.args.settings.modulus) × (start.args.settings.modulus ≤ 61)
  range = modulus_range start.args.settings.modulus given.settings.modulus

-- the working row is reduced
module _ (c : After-reduce-cancellations) where
  abbrev pub top : At-loop-exponents
  top = (goal.at.After-reduce-cancellations c).At-loop-exponents

  abbrev pub work : List ℕ
  work = c.reduce-cancellations.new.work

  pub work_128 : length work ≡ 128
  work_128 = worked_long (given top) top.loop-exponents.invariant c.reduce-cancellations.ensures.work_after

  pub work_residues : Below (start top).args.settings.modulus work
  work_residues = worked_below (given top) top.loop-exponents.invariant c.reduce-cancellations.ensures.work_after

-- its first value that is not 0 is sought
module _ (f : After-first_nonzero) where
  abbrev pub reduced : After-reduce-cancellations
  reduced = (goal.at.After-first_nonzero f).After-reduce-cancellations

  abbrev pub head : At-loop-exponents
  head = top reduced

  pub lead_fits : first_nonzero (start head).args.n (work reduced) ≡ (start head).args.n → head.loop-exponents.r < 449
  lead_fits e = room_lead (given head) head.loop-exponents.invariant reduced.reduce-cancellations.ensures.work_after e

  pub standard_fits : first_nonzero (start head).args.n (work reduced) < (start head).args.n → head.loop-exponents.found < (start head).args.n
  standard_fits h = room_standard (given head) head.loop-exponents.invariant reduced.reduce-cancellations.ensures.work_after h

-- it is kept as a lead, or as a standard monomial
abbrev pub as_lead : After-keep_lead → In-None
as_lead c = (goal.at.After-keep_lead c).In-None

abbrev pub as_standard : After-keep_standard → In-Some
as_standard c = (goal.at.After-keep_standard c).In-Some

some_found : (e : In-Some) → first_nonzero e.args.n (work (reduced (goal.at.In-Some e).After-first_nonzero)) < e.args.n
some_found e = let h = e.in-Some.ensures in omega (arith, h.0, h.1)

pub found_64 : (e : In-Some) → (head (goal.at.In-Some e).After-first_nonzero).loop-exponents.found < 64
found_64 e = omega (arith, standard_fits (goal.at.In-Some e).After-first_nonzero (some_found e), (given (head (goal.at.In-Some e).After-first_nonzero)).most)

-- the monomial is kept
module _ (j : Joined-first_nonzero) where
  abbrev pub above : At-loop-exponents
  above = head (goal.at.Joined-first_nonzero j).After-first_nonzero

  abbrev gathered : After-put_columns
  gathered = (goal.at.At-loop-exponents above).After-put_columns

  abbrev ranked : After-variable_ranks_under-steps
  ranked = (goal.at.After-put_columns gathered).After-variable_ranks_under-steps

  abbrev pub steps : List ℕ
  steps = ranked.variable_ranks_under-steps.result

  abbrev pub columns : List ℕ
  columns = gathered.put_columns.new.columns

  pub kept : Kept (start above).args.settings (start above).args.n (start above).args.points.now (start above).args.rows.now (start above).args.pivots.now j.match-first_nonzero.found j.match-first_nonzero.r (above.loop-exponents.cancellations + (reduced (goal.at.Joined-first_nonzero j).After-first_nonzero).reduce-cancellations.result)
      j.match-first_nonzero.standard j.match-first_nonzero.leads j.match-first_nonzero.coefficients j.match-first_nonzero.rows j.match-first_nonzero.pivots j.match-first_nonzero.values j.match-first_nonzero.ranks steps above.loop-exponents.at
  kept =
      let left = (reduced (goal.at.Joined-first_nonzero j).After-first_nonzero).reduce-cancellations.ensures.work_after in
      let cost = (reduced (goal.at.Joined-first_nonzero j).After-first_nonzero).reduce-cancellations.ensures.value in
      ⊎_elim
      (λ w. kept_as w.found-is w.r-is w.standard-is w.leads-is w.coefficients-is w.rows-is w.pivots-is w.values-is w.ranks-is
      (keeps_lead (given above) above.loop-exponents.invariant left cost w.in-None.ensures w.keep_lead.ensures.leads_after w.keep_lead.ensures.coefficients_after))
      (λ w. let e = w.keep_standard.ensures in let k = w.keep.ensures in kept_as w.found-is w.r-is w.standard-is w.leads-is w.coefficients-is w.rows-is w.pivots-is w.values-is w.ranks-is
      (keeps_standard (given above) above.loop-exponents.invariant left cost w.in-Some.ensures.1 w.in-Some.ensures.0 e.standard_after refl e.values_after k.rows_after k.pivots_after))
      j.match-first_nonzero.branch-raw

  pub one_more : j.match-first_nonzero.found + j.match-first_nonzero.r ≡ above.loop-exponents.found + above.loop-exponents.r + 1
  one_more = ⊎_elim (λ w. omega (arith, w.found-is, w.r-is)) (λ w. omega (arith, w.found-is, w.r-is)) j.match-first_nonzero.branch-raw

  pub sizes : DrawingSized (start above).args.settings.modulus (start above).args.n j.match-first_nonzero.found j.match-first_nonzero.standard j.match-first_nonzero.leads j.match-first_nonzero.coefficients j.match-first_nonzero.rows j.match-first_nonzero.pivots j.match-first_nonzero.values j.match-first_nonzero.ranks
  sizes = kept_sized (given above) kept

  pub steps_small : Below rank_bound steps
  steps_small = subst (Below rank_bound) (sym ranked.variable_ranks_under-steps.ensures) (steps_below (order_of (start above).args.settings.order (start above).args.settings.weights) (light_under (start above).args.settings (given above).settings.weights))

  module _ (k : ℕ) (h : k < 8) where
    column : take (start above).args.n (drop (64 * k) columns) ≡ column_of k (start above).args.n (start above).args.points.now
    column = column_in (start above).args.n (start above).args.points.now k columns gathered.put_columns.ensures h (given above).most

    pub column_small : Below (start above).args.settings.modulus (take (start above).args.n (drop (64 * k) columns))
    column_small =
        subst (Below (start above).args.settings.modulus) (sym column)
        (column_below k (start above).args.n (start above).args.points.now (start above).args.settings.modulus (points_below (given above)) h (omega (arith, points_long (given above), (given above).most)))

    pub values_are : (values : List ℕ) {own : List ℕ} → own ≡ product_values (start above).args.settings.modulus (start above).args.n (take (start above).args.n (drop (64 * k) columns)) values
        → own ≡ product_values (start above).args.settings.modulus (start above).args.n (column_of k (start above).args.n (start above).args.points.now) values
    values_are values e = e ∙ ap (λ (l : List ℕ). product_values (start above).args.settings.modulus (start above).args.n l values) column

-- the next one has been sought
abbrev pub joined : After-next → Joined-first_nonzero
joined c = (goal.at.After-next c).Joined-first_nonzero

-- it is x_(k+1) times standard monomial t
module _ (c : In-Some-next) where
  abbrev pub sought : After-next
  sought = (goal.at.In-Some-next c).After-next

  abbrev pub onward : Joined-first_nonzero
  onward = joined sought

-- and its exponents are written
abbrev pub chosen : After-exponents_of-exponents → In-Some-next
chosen c = (goal.at.After-exponents_of-exponents c).In-Some-next

pub overflow_cast-p : goal.overflow_cast-p
overflow_cast-p c = let g = (opened (goal.at.overflow_cast-p c).After-struct_known-1).requires.points_given in omega (arith, modulus_range _ g.settings.modulus)

pub loop-exponents-init : goal.loop-exponents-init
loop-exponents-init c = let w = c in
    let s = opened (stepped (goal.at.loop-exponents-init w).After-variable_ranks_under-steps) in
    head_start s.requires.points_given s.requires.standard_value.0 s.requires.standard_value.1.0 s.requires.standard_value.1.1 s.requires.rows_long.0 s.requires.rows_long.1 w.variable_ranks_under-steps.ensures

pub reduce-cancellations-requires : goal.reduce-cancellations-requires
reduce-cancellations-requires c = let l = c in
    let z = head_sizes (goal.at.reduce-cancellations-requires l).At-loop-exponents in record { le_p = (range (goal.at.reduce-cancellations-requires l).At-loop-exponents, ((given (goal.at.reduce-cancellations-requires l).At-loop-exponents).most, z.found_room)); rows_long = (z.rows_long, z.pivots_long); below = (own_below (given (goal.at.reduce-cancellations-requires l).At-loop-exponents) l.loop-exponents.invariant, z.rows_multiplied); by_index = z.pivots_inside; zero_behind = z.rows_zero; work_value = refl }

pub overflow_add-cancellations : goal.overflow_add-cancellations
overflow_add-cancellations c = let e = c in
    let l = top (goal.at.overflow_add-cancellations e).After-reduce-cancellations in
    omega (arith, cost_fits (given l) l.loop-exponents.invariant e.reduce-cancellations.ensures.work_after e.reduce-cancellations.ensures.value)

pub keep_lead-requires : goal.keep_lead-requires
keep_lead-requires c = let t = c in
    let l = head (goal.at.keep_lead-requires t).After-first_nonzero in
    let z = head_sizes l in record { n_bound = ((given l).most, (z.found_room, lead_fits (goal.at.keep_lead-requires t).After-first_nonzero t.in-None.ensures)); leads_len = (z.leads_long, z.coefficients_long); work_len = work_128 (reduced (goal.at.keep_lead-requires t).After-first_nonzero) }

pub keep_standard-requires : goal.keep_standard-requires
keep_standard-requires c = let e = c in
    let l = head (goal.at.keep_standard-requires e).After-first_nonzero in
    let z = head_sizes l in record { found_bound = found_64 (goal.at.keep_standard-requires e).In-Some; standard_len = (z.standard_long, z.values_long) }

pub bounds-ranks-found : goal.bounds-ranks-found
bounds-ranks-found c = let e = as_standard (goal.at.bounds-ranks-found c).After-keep_standard in omega (arith, found_64 e, (head_sizes (head (goal.at.In-Some e).After-first_nonzero)).ranks_long)

pub keep-requires : goal.keep-requires
keep-requires c = let e = as_standard (goal.at.keep-requires c).After-keep_standard in
    let l = head (goal.at.In-Some e).After-first_nonzero in
    let z = head_sizes l in
    let w = pivot_room (standard_fits (goal.at.In-Some e).After-first_nonzero (some_found e)) (given l).most z.rows_long z.pivots_long in record { le_p = range l; at_lt_n = (e.in-Some.ensures.0, (w.0, work_128 (reduced (goal.at.In-Some e).After-first_nonzero))); block_size_in_bounds = w.1; below = work_residues (reduced (goal.at.In-Some e).After-first_nonzero) }

pub returns-in_default : goal.returns-in_default
returns-in_default c = let s = c in
    let g = given (above (joined (goal.at.returns-in_default s).After-next)) in
    let k = kept (joined (goal.at.returns-in_default s).After-next) in
    let z = c.in_default.is in record { drawn_up = ends g k z s.next.ensures; cancellations_value = costs g k z s.next.ensures; pivots_after = ends_rows g k z s.next.ensures }

pub loop-exponents-smaller : goal.loop-exponents-smaller
loop-exponents-smaller c = let j = onward (chosen (goal.at.loop-exponents-smaller c).After-exponents_of-exponents) in
    omega (arith, one_more j, kept_few (given (above j)) (kept j))

pub loop-exponents-preserved : goal.loop-exponents-preserved
loop-exponents-preserved c = let w = c in
    let u = chosen (goal.at.loop-exponents-preserved w).After-exponents_of-exponents in
    let j = onward u in
    let z = u.in-Some-next.is in
    let e = (sought u).next.ensures in
    goes_on (given (above j)) (kept j) z e w.exponents_of-exponents.ensures (values_are j _ (next_small (given (above j)) (kept j) z e).0 _ c.put_values.ensures)

pub put_columns-requires-clause-points_len : goal.put_columns-requires-clause-points_len
put_columns-requires-clause-points_len c = (points_long c.requires.points_given, c.requires.points_given.most)

pub next-requires-clause-m_bound : goal.next-requires-clause-m_bound
next-requires-clause-m_bound c = (c.requires.points_given.settings.few, within_64 (sizes (goal.at.next-requires-clause-m_bound c).Joined-first_nonzero).found_room c.requires.points_given.most)

pub next-requires-clause-below : goal.next-requires-clause-below
next-requires-clause-below c = (sizes (goal.at.next-requires-clause-below c).Joined-first_nonzero).ranks_below

pub next-requires-clause-below_2 : goal.next-requires-clause-below_2
next-requires-clause-below_2 c = steps_small (goal.at.next-requires-clause-below_2 c).Joined-first_nonzero

-- the product found is of the space, and its exponents are bytes
small : (c : In-Some-next) → (c.in-Some-next.product.variable < 8) × (c.in-Some-next.product.standard < 64)
small c = let j = onward c in next_small (given (above j)) (kept j) c.in-Some-next.is c.next.ensures

pub exponents_of-exponents-requires-clause-product_bound : goal.exponents_of-exponents-requires-clause-product_bound
exponents_of-exponents-requires-clause-product_bound c =
    let u = (goal.at.exponents_of-exponents-requires-clause-product_bound c).In-Some-next in
    let f = small u in
    (f.0, (f.1, (sizes (onward u)).standard_long))

pub exponents_of-exponents-requires-clause-exponent_bound : goal.exponents_of-exponents-requires-clause-exponent_bound
exponents_of-exponents-requires-clause-exponent_bound c =
    let j = onward (goal.at.exponents_of-exponents-requires-clause-exponent_bound c).In-Some-next in
    next_exponent (given (above j)) (kept j) c.in-Some-next.is c.next.ensures

pub put_values-requires-clause-le_p : goal.put_values-requires-clause-le_p
put_values-requires-clause-le_p c =
    let u = (goal.at.put_values-requires-clause-le_p c).In-Some-next in
    let l = above (onward u) in
    (range l, ((given l).most, small u))

pub put_values-requires-clause-below : goal.put_values-requires-clause-below
put_values-requires-clause-below c =
    let u = (goal.at.put_values-requires-clause-below c).In-Some-next in
    (column_small (onward u) _ (small u).0, (sizes (onward u)).values_below)
