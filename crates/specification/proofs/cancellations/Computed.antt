-- The examples of the count, computed from its definition.
use mathlib.Core.Path.{refl}
use mathlib.Core.List.{zip_with}
use Rattle.residue.specs.Lists.{same_list, all_zero}
use Rattle.residue.specs.Modulus.{primes, is_one_of, is_modulus}
use Rattle.residue.specs.Inverse.{inverse_below, inverse_of}
use Rattle.residue.specs.Layout.{fill}
use Rattle.monomial.specs.Order.{order_of, cmp}
use Rattle.specification.specs.Extension.{divided}
use Rattle.specification.specs.Counted.{entered, entered_all, gathered}
use Rattle.specification.specs.Instance.{point_of}
use Rattle.specification.specs.Cancellations.{less_times, meets, meets_all, first_place, pivot_of, settled, examined, least_due, products_of, next_after, examined_from, examined_all}
use Rattle.specification.specs.Adding.{cancellations_under}
use Rattle.specification.specs.Examples.{ExaminedExamples}

pub examined_examples : ExaminedExamples
unfolding less_times meets meets_all all_zero first_place pivot_of settled examined least_due products_of next_after examined_from examined_all cancellations_under divided primes
    is_one_of is_modulus inverse_below inverse_of order_of cmp fill point_of zip_with entered entered_all gathered same_list
examined_examples = record {
  points_A = record { standard_are = refl; leads_are = refl; count_is = refl };
  in_order = record { standard_are = refl; leads_are = refl; count_is = refl };
  out_of_order = record { standard_are = refl; leads_are = refl; count_is = refl };
  replicates = record { standard_are = refl; leads_are = refl; count_is = refl };
  no_points = record { standard_are = refl; leads_are = refl; count_is = refl };
}
