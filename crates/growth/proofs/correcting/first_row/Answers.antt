-- `correcting::first_row` meets its contract. In a row the sum is, modulo p, that of the terms passed; the rows passed are 0 at the point.
use mathlib.Core.Path.{◌≡◌, sym, ap, ap₂, ◌∙◌}
use mathlib.Core.List.{List, []}
use Prim.Native.Nat.{ℕ, ◌<◌, ◌*◌, ◌+◌, ◌%◌}
use native.Mathlib.Nat.{mod-lt, mod-eq_of_lt, mod-add-mod}
use native.Mathlib.Omega.{arith}
use lib.ListN.{length, get_or, take, drop, length-drop}
use lib.Seq.{length-take-le, get_or-take, get_or-drop}
use Rattle.residue.specs.Vector.{dot_of}
use Rattle.residue.specs.Layout.{row_at}
use Rattle.residue.proofs.Congruence.{of, reduce, ◌then◌, ◌plus◌}
use Rattle.residue.proofs.Places.{groups_at}
use Rattle.residue.proofs.vector.Vectors.{dot_more}
use Rattle.monomial.specs.Monomial.{monomial_at}
use Rattle.growth.specs.Growing.{row_value_at, value_of_row}
use Rattle.growth.proofs.Searches.{first_end, first_skip, first_hit}
use Rattle.growth.proofs.correcting.first_row.Goals as goal
use Rattle.growth.proofs.correcting.first_row.Goals.{Start, Then-j-n}

-- the value of a row
abbrev f : Start → ℕ → ℕ
f s = value_of_row s.args.p s.args.n s.args.point.now s.args.values.now s.args.leads.now s.args.coefficients.now

-- a remainder is a residue
left : (s : Start) {x : ℕ} (y : ℕ) → x ≡ y % s.args.p → x < s.args.p
left s y e = rw e (mod-lt y (omega arith))

-- the value that was tested is that of row i
value : (c : Then-j-n) → c.rows.i < c.args.r → c.terms.sum ≡ f (goal.at.Then-j-n c).Start c.rows.i
unfolding value_of_row row_value_at
value c h =
    let s = c.args in
    let i : ℕ = c.rows.i in
    let v : ℕ = monomial_at s.point.now (row_at 8 i s.leads.now) in
    let row : List ℕ = row_at 64 i s.coefficients.now in
    let d : ℕ = dot_of (take s.n row) (take s.n s.values.now) in
    let lead = ap (λ (t : List (List ℕ)). get_or t i []) c.rows-monomials.ensures.value ∙ groups_at 8 s.r i s.leads.now [] h in
    let first : c.value-sum.result ≡ v % s.p = c.value-sum.ensures ∙ ap (λ (a : List ℕ). monomial_at s.point.now a % s.p) lead in
    let rest : dot_of (take c.terms.j row) (take c.terms.j s.values.now) ≡ d = ap (λ (n : ℕ). dot_of (take n row) (take n s.values.now)) c.if-j-n.true in
    sym (mod-eq_of_lt c.terms.invariant.1) ∙ c.terms.invariant.2.same ∙ ap (λ (z : ℕ). z % s.p) (ap₂ ◌+◌ first rest) ∙ mod-add-mod v s.p d

pub terms-init : goal.terms-init
unfolding dot_of
terms-init c = (omega arith, left (goal.at.terms-init c).Start _ c.value-sum.ensures, of (omega arith))

pub terms-preserved : goal.terms-preserved
terms-preserved c =
    let s = c.args in
    let j : ℕ = c.terms.j in
    let values : List ℕ = s.values.now in
    let table : List ℕ = s.coefficients.now in
    let x : ℕ = get_or table (64 * c.rows.i + j) 0 in
    let y : ℕ = get_or values j 0 in
    let row : List ℕ = row_at 64 c.rows.i table in
    let long : length row ≡ 64 = length-take-le 64 (drop (64 * c.rows.i) table) (simp length-drop (omega arith)) in
    let e : get_or row j 0 ≡ x = get_or-take 64 (drop (64 * c.rows.i) table) j 0 (omega arith) ∙ get_or-drop (64 * c.rows.i) table j 0 in
    let m : dot_of (take (j + 1) row) (take (j + 1) values) ≡ dot_of (take j row) (take j values) + x * y =
    dot_more row values j (omega arith) (omega arith) ∙ ap (λ (z : ℕ). dot_of (take j row) (take j values) + z * y) e in (
      omega arith,
      left (goal.at.terms-preserved c).Start _ c.add-sum.ensures,
      of c.add-sum.ensures then reduce s.p (c.terms.sum + c.mul-term.result)
          then (c.terms.invariant.2 plus (of c.mul-term.ensures then reduce s.p (x * y))) then of (omega arith),
    )

pub rows-preserved : goal.rows-preserved
rows-preserved c =
    let g = goal.at.rows-preserved c in
    (omega arith, sym (first_skip (f g.Start) c.rows.i c.args.r (omega arith) (sym (value g.Then-j-n (omega arith)) ∙ c.if-sum-ne0.false)) ∙ c.rows.invariant.1)

pub returns-then-i-r-clause-place : goal.returns-then-i-r-clause-place
returns-then-i-r-clause-place c = sym c.if-i-r.true ∙ sym (first_end (f (goal.at.returns-then-i-r-clause-place c).Start) c.rows.i c.args.r c.if-i-r.true) ∙ c.rows.invariant.1

pub returns-then-sum-ne0-clause-place : goal.returns-then-sum-ne0-clause-place
returns-then-sum-ne0-clause-place c =
    let g = goal.at.returns-then-sum-ne0-clause-place c in
    sym (first_hit (f g.Start) c.rows.i c.args.r (omega arith) (λ e. c.if-sum-ne0.true (value g.Then-j-n (omega arith) ∙ e))) ∙ c.rows.invariant.1
