-- `values::wiring` meets its contract: it is refused with the number of the look, or the variables with a pair of points are named.
use mathlib.Core.Path.{◌≡◌, refl, sym, ap, ◌∙◌}
use mathlib.Core.List.{List, []}
use Prim.Native.Nat.{ℕ}
use native.Mathlib.Omega.{arith}
use lib.ListN.{length, take}
use Rattle.std.proofs.lemmas.Result.{err_from_is_err_and}
use Rattle.residue.specs.Layout.{groups, fill, in_places, over, length_fill}
use Rattle.residue.proofs.level.Moduli.{modulus_range}
use Rattle.specification.specs.Answers.{number_of, refusal_of, wired_of}
use Rattle.specification.specs.Lent.{lent}
use Rattle.specification.specs.Refusal.{first_of}
use Rattle.specification.specs.Levels.{residues}
use Rattle.specification.specs.Tables.{points_in}
use Rattle.specification.specs.Needed.{wiring_of}
use Rattle.specification.specs.Solving.{values_cases, wiring_outcome}
use Rattle.specification.proofs.Wiring.{list_refused, list_accepted}
use Rattle.recognition.proofs.settings.ByNumber.{number_above_0}
use Rattle.recognition.proofs.looking.Looks.{Open, open_of, points_there}
use Rattle.queries.proofs.Refusals.{values_faults, values_cases_lem}
use Rattle.queries.proofs.Answered.{values_room, values_count, values_names}
use Rattle.queries.proofs.values.wiring.Goals as goal
use Rattle.queries.proofs.values.wiring.Goals.{After-look, In_ok-look}

-- the look at the tables
told : (d : After-look) → refusal_of d.look.result ≡ first_of 0 (values_cases 8 d.args.settings d.args.n d.args.r (lent d.args.tables) d.args.values.now d.args.out.now)
told d = d.look.ensures.value ∙ values_cases_lem d.args.settings d.args.n d.args.r (lent d.args.tables) 8 d.args.values.now d.args.out.now

-- nothing refuses
module _ (e : In_ok-look) where
  good : Open e.args.settings e.args.n e.args.r (lent e.args.tables) (values_faults 8 e.args.n e.args.values.now e.args.out.now) e.args.values.now []
  unfolding refusal_of
  good = open_of (sym e.in_ok-look.ensures.value)

  tabled : e.look.new.points ≡ fill 512 (in_places 8 (points_in e.args.settings e.args.n e.args.tables.states.now))
  unfolding refusal_of
  tabled = points_there e.in_ok-look.ensures.looked refl

pub returns-in_err-look : goal.returns-in_err-look
unfolding refusal_of wired_of wiring_outcome
returns-in_err-look c =
    let p = err_from_is_err_and c.from_residual.result c.from_residual.ensures.1 in
    let e = c.in_err-look.field-0.0 in
    rw (p.1, p.2) (list_refused _ c.args.out.now _ (number_of e) (ap refusal_of (sym c.in_err-look.was) ∙ told (goal.at.returns-in_err-look c).After-look) (number_above_0 e))

pub overflow_cast-settings : goal.overflow_cast-settings
overflow_cast-settings c = omega (arith, modulus_range c.args.settings.modulus (good (goal.at.overflow_cast-settings c).In_ok-look).settings.modulus)

pub put_residues-requires : goal.put_residues-requires
put_residues-requires c =
    let o = good (goal.at.put_residues-requires c).In_ok-look in
    omega (arith, values_count 8 c.args.out.now o, o.few)

pub put_names-count-requires : goal.put_names-count-requires
put_names-count-requires c =
    let e = (goal.at.put_names-count-requires c).In_ok-look in
    let few = (good e).few in
    record { m_bound = ((good e).settings.few, few); n_in_bounds = (omega (arith, ap length (tabled e) ∙ length_fill 512 _), omega (arith, c.put_residues.auto.to)); out_value = refl }

pub copy-requires : goal.copy-requires
copy-requires c = omega (arith, ap length c.put_names-count.ensures.out_after ∙ length_fill 8 _, values_room 8 c.args.out.now (good (goal.at.copy-requires c).In_ok-look))

pub returns : goal.returns
unfolding refusal_of wired_of wiring_outcome
returns c =
    let e = (goal.at.returns c).In_ok-look in
    let s = c.args.settings in
    let is : wiring_of s.variables (groups 8 c.args.n c.look.new.points) (take c.args.n c.put_residues.new.to) ≡ wiring_of s.variables (points_in s c.args.n c.args.tables.states.now) (residues s.modulus c.args.values.now) =
    values_names 8 c.args.out.now (good e) (tabled e) c.put_residues.ensures in
    list_accepted _ c.args.out.now _ _ _ (ap refusal_of (sym c.in_ok-look.was) ∙ told (goal.at.returns c).After-look) (c.put_names-count.ensures.value ∙ ap length is)
    (c.copy.ensures ∙ ap (λ (l : List ℕ). over l c.args.out.now) (c.put_names-count.ensures.out_after ∙ ap (fill 8) is))
