-- `growing::add_tables` meets its contract: the new tables are made beside the old ones, and copied over them.
use mathlib.Core.Path.{◌≡◌}
use native.Mathlib.Omega.{arith}
use lib.ListN.{length}
use Rattle.construction.proofs.drawing.Given.{tabled_long, tabled_over}
use Rattle.growth.proofs.growing.add_tables.Goals as goal
use Rattle.growth.proofs.growing.add_tables.Goals.{After-add_to-k, After-copy, After-copy-2, After-copy-3, After-new_coefficients-1, After-new_coefficients-3-1, After-new_leads-3-1, After-new_standard-3-1, After-slice_known-6-1, Start}

-- the places, one from the next: the new tables are made
abbrev opened : After-new_coefficients-1 → Start
opened d = (goal.at.After-new_coefficients-1 d).Start

abbrev start : After-add_to-k → Start
start d = opened (goal.at.After-add_to-k d).After-new_coefficients-1

abbrev made : After-new_standard-3-1 → After-add_to-k
made d = (goal.at.After-new_standard-3-1 d).After-add_to-k

-- and copied, one after the other
abbrev added : After-copy → After-add_to-k
added d = made (goal.at.After-copy d).After-new_standard-3-1

abbrev first : After-new_leads-3-1 → After-copy
first d = (goal.at.After-new_leads-3-1 d).After-copy

abbrev second : After-new_coefficients-3-1 → After-copy-2
second d = (goal.at.After-new_coefficients-3-1 d).After-copy-2

abbrev third : After-slice_known-6-1 → After-copy-3
third d = (goal.at.After-slice_known-6-1 d).After-copy-3

abbrev copied_2 : After-slice_known-6-1 → After-copy-2
copied_2 d = second (goal.at.After-copy-3 (third d)).After-new_coefficients-3-1

abbrev copied_1 : After-slice_known-6-1 → After-copy
copied_1 d = first (goal.at.After-copy-2 (copied_2 d)).After-new_leads-3-1

-- the sizes of the old tables
sizes : (d : After-add_to-k) → let s = start d in (length s.args.standard.now ≡ 512) × ((length s.args.leads.now ≡ 3592) × (length s.args.coefficients.now ≡ 28736))
sizes d = tabled_long (start d).requires.drawn_up.tabled

pub copy-requires : goal.copy-requires
copy-requires c = let a = made (goal.at.copy-requires c).After-new_standard-3-1 in
    omega (arith, sizes a, a.add_to-k.auto.new_standard)

pub copy-requires-2 : goal.copy-requires-2
copy-requires-2 c = let a = added (first (goal.at.copy-requires-2 c).After-new_leads-3-1) in
    omega (arith, sizes a, a.add_to-k.auto.new_leads)

pub copy-requires-3 : goal.copy-requires-3
copy-requires-3 c = let a = added (first (goal.at.After-copy-2 (second (goal.at.copy-requires-3 c).After-new_coefficients-3-1)).After-new_leads-3-1) in
    omega (arith, sizes a, a.add_to-k.auto.new_coefficients)

pub returns : goal.returns
returns c = let x = copied_1 (goal.at.returns c).After-slice_known-6-1 in
    let a = added x in
    tabled_over (start a).requires.drawn_up.tabled a.add_to-k.ensures x.copy.ensures (copied_2 (goal.at.returns c).After-slice_known-6-1).copy-2.ensures (third (goal.at.returns c).After-slice_known-6-1).copy-3.ensures
