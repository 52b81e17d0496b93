-- The count under settings that no call refuses, and distinct points: the examination finds the basis, and its cancellations are few.
use mathlib.Core.Path.{◌≡◌, refl, ap, subst}
use mathlib.Core.List.{List}
use Prim.Native.Nat.{ℕ, suc, ◌+◌, ◌*◌, ◌-◌, ◌≤◌, ◌<◌}
use native.Mathlib.Nat.{mod-eq_of_lt}
use lib.ListN.{length, length-map}
use Rattle.residue.specs.Inverse.{inverse_of}
use Rattle.monomial.specs.Order.{Order}
use Rattle.specification.specs.declared.settings.Settings.{Settings}
use Rattle.specification.specs.Instance.{space_of, point_of}
use Rattle.specification.specs.Cancellations.{cancellations_of, examined_all}
use Rattle.specification.specs.Tables.{space_under, points_under}
use Rattle.specification.specs.Adding.{cancellations_under}
use Rattle.specification.specs.CallByCall.{Costs}
use Rattle.specification.specs.Points.{Points}
use Rattle.specification.specs.Settings.{Accepted}
use Rattle.specification.proofs.agreement.Drawings.{laws_under, distinct_points}
use Rattle.specification.proofs.ideal.Laws.{Laws}
use Rattle.specification.proofs.cancellations.Counted.{examination, counted, examination_only, cancellations_few}

-- the inverse that the code uses is the space's
pub inverse_at : (q m : ℕ) (order : Order) (e : ℕ) → e < suc q → (space_of q m order).inv e ≡ inverse_of (suc q) e
inverse_at q m order e h = ap (inverse_of (suc q)) (mod-eq_of_lt h)

module _ (s : Settings) (ok : Accepted s) (S : List (List ℕ)) (h : Points s S) where
  pub few_cancellations : cancellations_under s S ≤ length S * (length S * s.variables + 1)
  unfolding cancellations_under
  few_cancellations =
      subst (λ (n : ℕ). cancellations_of (space_under s) (points_under s S) ≤ n * (n * s.variables + 1)) (length-map S (point_of (s.modulus - 1) s.variables))
      (cancellations_few (space_under s) (laws_under s ok) (points_under s S) (distinct_points s ok S h))

  pub costs : Costs s S (cancellations_under s S)
  unfolding cancellations_under
  costs =
      let d = distinct_points s ok S h in
      let L : Laws (space_under s) = laws_under s ok in
      let e = counted (space_under s) L (points_under s S) d in record {
        found = examined_all (space_under s) (points_under s S);
        examination = examination (space_under s) L (points_under s S) d;
        only = examination_only (space_under s) L (points_under s S) d;
        count = refl;
        standard = e.standard_are;
        leads = e.leads_are;
        most = few_cancellations;
      }
