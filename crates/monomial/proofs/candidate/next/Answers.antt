-- `candidate::next` meets its contract. What is left of the search ends as the whole does; each turn passes a product.
use mathlib.Core.Path.{◌≡◌, sym, ap, ◌∙◌}
use mathlib.Core.List.{List, []}
use Prim.Native.Nat.{ℕ, ◌*◌, ◌<◌, ◌≤◌}
use native.Mathlib.Omega.{arith}
use lib.ListN.{length, get_or, take, drop}
use Rattle.std.specs.Prelude.{Some}
use Rattle.residue.proofs.Places.{groups_at}
use Rattle.monomial.specs.Candidate.{least_of, occurring_in, search_ends}
use Rattle.monomial.proofs.candidate.Products.{passed_length, passed_fewer, least_last, search_start, search_none, search_found, search_again}
use Rattle.monomial.proofs.candidate.next.Goals as goal
use Rattle.monomial.proofs.candidate.next.Goals.{After-occurring, After-pass-parents}

-- once the products of the least rank are passed
module _ (c : After-pass-parents) where
  ranked : least_of c.args.found c.args.ranks.now c.args.steps.now c.loop-rank.at c.args.m ≡ Some c.in_ok-rank.rank
  ranked = sym c.least.ensures ∙ c.in_ok-rank.was

  within : c.pass-parents.result.standard < c.args.found
  within =
      let w = least_last _ _ _ _ _ c.in_ok-rank.rank ranked c.pass-parents.result c.pass-parents.ensures.value in
      omega (arith, w.standard, w.product.0)

  room : c.args.m ≤ length c.loop-rank.at
  room = omega (arith, c.requires.m_bound.0, c.loop-rank.invariant.0)

-- once the variables that occur are counted
counted : (c : After-occurring) → c.occurring.result ≡ occurring_in (take 8 (drop (8 * c.pass-parents.result.standard) c.args.standard.now)) c.pass-parents.result.variable 8
counted c =
    let t : ℕ = c.pass-parents.result.standard in
    let h = within (goal.at.After-occurring c).After-pass-parents in
    c.occurring.ensures
    ∙ ap (λ (a : List ℕ). occurring_in a c.pass-parents.result.variable 8)
    (ap (λ (rows : List (List ℕ)). get_or rows t []) c.rows.ensures.value ∙ groups_at 8 64 t c.args.standard.now [] (omega (arith, h)))

pub loop-rank-init : goal.loop-rank-init
loop-rank-init c = (omega arith, search_start _ _ _ _ _ _)

pub returns-in_err-rank : goal.returns-in_err-rank
returns-in_err-rank c =
    ap (λ o. search_ends o c.loop-rank.at) c.from_residual.ensures ∙ search_none _ _ _ _ _ _ _ c.loop-rank.invariant.1 (sym c.least.ensures ∙ c.in_err-rank.was)

pub offset_bounds-rows-parents : goal.offset_bounds-rows-parents
offset_bounds-rows-parents c = omega (arith, within (goal.at.offset_bounds-rows-parents c).After-pass-parents)

pub bounds-rows-parents : goal.bounds-rows-parents
bounds-rows-parents c = omega (arith, within (goal.at.bounds-rows-parents c).After-pass-parents, c.rows.ensures.len)

pub returns-then-parents-occurring : goal.returns-then-parents-occurring
returns-then-parents-occurring c =
    search_found _ _ _ _ _ _ _ c.loop-rank.invariant.1 c.in_ok-rank.rank (ranked (goal.at.returns-then-parents-occurring c).After-pass-parents)
    c.pass-parents.result c.pass-parents.ensures.value _ c.pass-parents.ensures.at_after _ (counted (goal.at.returns-then-parents-occurring c).After-occurring) c.if-parents-occurring.true

pub loop-rank-smaller : goal.loop-rank-smaller
loop-rank-smaller c =
    let p = (goal.at.loop-rank-smaller c).After-pass-parents in
    passed_fewer _ _ _ _ _ c.in_ok-rank.rank (ranked p) _ c.pass-parents.ensures.at_after (room p)

pub loop-rank-preserved : goal.loop-rank-preserved
loop-rank-preserved c =
    let p = (goal.at.loop-rank-preserved c).After-pass-parents in (
      ap length c.pass-parents.ensures.at_after ∙ passed_length _ _ _ _ _ _ ∙ c.loop-rank.invariant.0,
      search_again _ _ _ _ _ _ _ c.loop-rank.invariant.1 c.in_ok-rank.rank (ranked p) c.pass-parents.result c.pass-parents.ensures.value _ c.pass-parents.ensures.at_after _
          (counted (goal.at.loop-rank-preserved c).After-occurring) c.if-parents-occurring.false (room p),
    )
