-- `text::print_points` meets its contract: the tables, the interpolant and the wiring list are those of the points.
use mathlib.Core.Path.{◌≡◌, refl, sym, ◌∙◌, ap}
use mathlib.Core.List.{List}
use Prim.Native.Nat.{ℕ, ◌≤◌}
use native.Mathlib.Omega.{arith}
use lib.ListN.{length, take}
use lib.Seq.{length-take-le}
use Rattle.residue.specs.Layout.{groups, length_fill}
use Rattle.residue.proofs.level.Moduli.{modulus_range}
use Rattle.specification.specs.declared.settings.Settings.{Settings}
use Rattle.specification.specs.Tables.{points_in}
use Rattle.specification.specs.Needed.{wiring_of}
use Rattle.specification.proofs.Wiring.{names_length}
use Rattle.construction.proofs.drawing.Given.{drawn_long}
use Rattle.writing.specs.Appending.{Room, Put}
use Rattle.writing.specs.Rows.{in_table}
use Rattle.printing.specs.Lines.{basis_lines}
use Rattle.printing.specs.Text.{lines_of}
use Rattle.writing.proofs.appending.Appends.{put_within}
use Rattle.printing.proofs.text.PointsPrinted.{few, inside, multiplied, told_room, told}
use Rattle.printing.proofs.text.print_points.Goals as goal
use Rattle.printing.proofs.text.print_points.Goals.{After-draw-drawn, After-put_names-count, After-solve_bytes, Start}

abbrev start : After-draw-drawn → Start
start d = (goal.at.After-draw-drawn d).Start

abbrev drawn : After-solve_bytes → After-draw-drawn
drawn v = (goal.at.After-solve_bytes v).After-draw-drawn

abbrev solved : After-put_names-count → After-solve_bytes
solved n = (goal.at.After-put_names-count n).After-solve_bytes

module _ (d : After-draw-drawn) where
  abbrev under : Settings
  under = (start d).args.settings

  abbrev points : List (List ℕ)
  points = points_in under (start d).args.n (start d).args.points.now

  abbrev standard : List ℕ
  standard = d.draw-drawn.new.standard

  abbrev leads : List ℕ
  leads = d.draw-drawn.new.leads

  abbrev coefficients : List ℕ
  coefficients = d.draw-drawn.new.coefficients

  abbrev rows : List ℕ
  rows = d.draw-drawn.new.rows

  abbrev pivots : List ℕ
  pivots = d.draw-drawn.new.pivots

  long : (length standard ≡ 512) × ((length leads ≡ 3592) × (length coefficients ≡ 28736))
  long = drawn_long under points d.draw-drawn.result.r standard leads coefficients rows pivots d.draw-drawn.ensures.drawn_up

abbrev interpolant : After-solve_bytes → List ℕ
interpolant v = v.solve_bytes.new.out

interpolant_length : (v : After-solve_bytes) → length (interpolant v) ≡ 64
interpolant_length v = ap (λ (z : List ℕ). length z) v.solve_bytes.ensures ∙ length_fill 64 _

-- the wiring list
module _ (n : After-put_names-count) where
  abbrev d : After-draw-drawn
  d = drawn (solved n)

  abbrev s : Start
  s = start d

  abbrev names : List ℕ
  names = n.put_names-count.new.out

  abbrev list : List ℕ
  list = wiring_of s.args.settings.variables (groups 8 s.args.n s.args.points.now) (take s.args.n s.args.values.now)

  names_long : length names ≡ 8
  names_long = ap (λ (z : List ℕ). length z) n.put_names-count.ensures.out_after ∙ length_fill 8 list

  names_few : n.put_names-count.result ≤ 8
  names_few =
      let e = n.put_names-count.ensures.value in
      let l = names_length (groups 8 s.args.n s.args.points.now) (take s.args.n s.args.values.now) s.args.settings.variables in
      let few = s.requires.points_given.settings.few in
      omega arith

  abbrev lines : List ℕ
  lines = let m = s.args.settings.variables in
      basis_lines (in_table 8 s.args.n m (standard d)) (in_table 8 d.draw-drawn.result.r m (leads d))
      (in_table 64 d.draw-drawn.result.r s.args.n (coefficients d)) (take s.args.n (interpolant (solved n))) (take n.put_names-count.result names)

  room : Room 0 lines s.args.out.now
  room =
      told_room (under d) s.args.n s.args.points.now s.args.values.now s.requires.points_given s.requires.values_len.0 s.requires.values_len.1
      d.draw-drawn.result.r (standard d) (leads d) (coefficients d) (rows d) (pivots d) d.draw-drawn.ensures.drawn_up
      (interpolant (solved n)) (solved n).solve_bytes.ensures n.put_names-count.result names n.put_names-count.ensures.value n.put_names-count.ensures.out_after
      s.args.out.now s.requires.in_bounds

  printed : {after : List ℕ} {end : ℕ} → Put 0 lines s.args.out.now after end → Put 0 (lines_of (under d) (points d) s.args.values.now) s.args.out.now after end
  printed p =
      told (under d) s.args.n s.args.points.now s.args.values.now s.requires.points_given s.requires.values_len.0 s.requires.values_len.1
      d.draw-drawn.result.r (standard d) (leads d) (coefficients d) (rows d) (pivots d) d.draw-drawn.ensures.drawn_up
      (interpolant (solved n)) (solved n).solve_bytes.ensures n.put_names-count.result names n.put_names-count.ensures.value n.put_names-count.ensures.out_after p

pub draw-drawn-requires : goal.draw-drawn-requires
draw-drawn-requires c = record { points_given = c.requires.points_given; standard_value = (refl, (refl, refl)); rows_long = (refl, refl) }

pub overflow_cast-settings : goal.overflow_cast-settings
overflow_cast-settings c = omega (arith, modulus_range _ (start (goal.at.overflow_cast-settings c).After-draw-drawn).requires.points_given.settings.modulus)

pub solve_bytes-requires : goal.solve_bytes-requires
solve_bytes-requires c = let d = c in
    let s = start (goal.at.solve_bytes-requires d).After-draw-drawn in
    let u = d.draw-drawn.ensures.drawn_up.pivot_rows in record { le_p = modulus_range _ s.requires.points_given.settings.modulus; values_len = s.requires.values_len; n_bound = (s.requires.points_given.most, u.long_rows, u.long_pivots); multiplied = (multiplied (under (goal.at.solve_bytes-requires d).After-draw-drawn) s.args.n s.args.points.now s.args.values.now s.requires.points_given s.requires.values_len.0 s.requires.values_len.1 d.draw-drawn.result.r (standard (goal.at.solve_bytes-requires d).After-draw-drawn) (leads (goal.at.solve_bytes-requires d).After-draw-drawn) (coefficients (goal.at.solve_bytes-requires d).After-draw-drawn) (rows (goal.at.solve_bytes-requires d).After-draw-drawn) (pivots (goal.at.solve_bytes-requires d).After-draw-drawn) d.draw-drawn.ensures.drawn_up, inside (under (goal.at.solve_bytes-requires d).After-draw-drawn) s.args.n s.args.points.now s.args.values.now s.requires.points_given s.requires.values_len.0 s.requires.values_len.1 d.draw-drawn.result.r (standard (goal.at.solve_bytes-requires d).After-draw-drawn) (leads (goal.at.solve_bytes-requires d).After-draw-drawn) (coefficients (goal.at.solve_bytes-requires d).After-draw-drawn) (rows (goal.at.solve_bytes-requires d).After-draw-drawn) (pivots (goal.at.solve_bytes-requires d).After-draw-drawn) d.draw-drawn.ensures.drawn_up); out_value = refl }

pub put_names-count-requires : goal.put_names-count-requires
put_names-count-requires c = let s = start (drawn (goal.at.put_names-count-requires c).After-solve_bytes) in
    let l = ap length s.requires.points_given.table ∙ length_fill 512 _ in
    let most = s.requires.points_given.most in record { m_bound = (s.requires.points_given.settings.few, most); n_in_bounds = (omega arith, omega arith); out_value = refl }

pub slice_bounds-interpolant-end : goal.slice_bounds-interpolant-end
slice_bounds-interpolant-end c = let v = solved (goal.at.slice_bounds-interpolant-end c).After-put_names-count in
    let i = interpolant_length v in
    let most = (start (drawn v)).requires.points_given.most in
    omega arith

pub slice_bounds-print_basis-end-4 : goal.slice_bounds-print_basis-end-4
slice_bounds-print_basis-end-4 c = let v = solved (goal.at.slice_bounds-print_basis-end-4 c).After-put_names-count in
    let i = interpolant_length v in
    let most = (start (drawn v)).requires.points_given.most in
    sym (length-take-le _ _ (omega arith))

pub slice_bounds-names-end : goal.slice_bounds-names-end
slice_bounds-names-end c = let n = c in
    let k = names_few (goal.at.slice_bounds-names-end n).After-put_names-count in
    let l = names_long (goal.at.slice_bounds-names-end n).After-put_names-count in
    omega arith

pub slice_bounds-print_basis-end-5 : goal.slice_bounds-print_basis-end-5
slice_bounds-print_basis-end-5 c = let n = c in
    let k = names_few (goal.at.slice_bounds-print_basis-end-5 n).After-put_names-count in
    let l = names_long (goal.at.slice_bounds-print_basis-end-5 n).After-put_names-count in
    sym (length-take-le n.put_names-count.result (names (goal.at.slice_bounds-print_basis-end-5 n).After-put_names-count) (omega arith))

pub print_basis-requires : goal.print_basis-requires
print_basis-requires c = let n = c in
    let d = drawn (solved (goal.at.print_basis-requires n).After-put_names-count) in
    let s = start d in
    let r = few (under d) s.args.n s.args.points.now s.args.values.now s.requires.points_given s.requires.values_len.0 s.requires.values_len.1
    d.draw-drawn.result.r (standard d) (leads d) (coefficients d) (rows d) (pivots d) d.draw-drawn.ensures.drawn_up in
    let most = s.requires.points_given.most in
    let t = long d in record { m_bound = (s.requires.points_given.settings.few, most, r); n_in_bounds = (omega arith, omega arith, omega arith); room = room (goal.at.print_basis-requires n).After-put_names-count }

pub returns : goal.returns
returns c = let n = c in
    let p = c.print_basis.ensures in record { fact_1 = printed (goal.at.returns n).After-put_names-count p; fact_2 = put_within {a = lines (goal.at.returns n).After-put_names-count} p (room (goal.at.returns n).After-put_names-count) }
