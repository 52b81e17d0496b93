-- A sheet by its points: what the theorems on its three algebra tables stand on, however it was reached.
use mathlib.Core.Path.{◌≡◌, sym, ◌∙◌, ap}
use mathlib.Core.Bool.{true}
use mathlib.Core.List.{List}
use Prim.Native.Nat.{ℕ}
use lib.ListN.{length, take, length-map}
use Rattle.residue.specs.Sizes.{standard_size, leads_size, coefficients_size}
use Rattle.residue.proofs.Layouts.{over_sized}
use Rattle.specification.specs.declared.settings.Settings.{Settings}
use Rattle.specification.specs.Settings.{Accepted}
use Rattle.specification.specs.Counted.{Counted, points_of}
use Rattle.specification.specs.Points.{Points}
use Rattle.specification.specs.Tables.{Tables, row_count, standard_table, leads_table, coefficients_table, tables_of, written, held_in, recognised}
use Rattle.specification.specs.CallByCall.{HoldsBasis}
use Rattle.specification.proofs.agreement.Refusals.{written_held, written_recognised}
use Rattle.specification.proofs.agreement.Drawings.{standard_size_lem, leads_size_lem, coefficients_size_lem}
use Rattle.specification.proofs.CallByCall.{basis_entries}

-- Of the points S: n, r and the three tables in their sizes.
pub record Sheet (s : Settings) (S : List (List ℕ)) (n r : ℕ) (t : Tables) : Type 0 where
  pub points : Points s S
  pub count : n ≡ length S
  pub rows : r ≡ row_count s S
  pub standard : take standard_size t.standard ≡ standard_table s S
  pub leads : take leads_size t.leads ≡ leads_table s S
  pub coefficients : take coefficients_size t.coefficients ≡ coefficients_table s S

module _ (s : Settings) (ok : Accepted s) where
  -- What any call has left whose number is 0: its points with their counts are read back from it, and it is the sheet of them.
  module _ {L : Counted} {lent : Tables} {n r : ℕ} {end : Tables} (h : HoldsBasis s L lent n r end) where
    pub held_of : held_in s n end ≡ L
    held_of = rw (h.tables, h.count) (written_held s ok L (basis_entries s ok L h) lent)

    pub recognised_of : recognised s n r end ≡ true
    recognised_of = rw (h.tables, h.count, h.rows) (written_recognised s ok L (basis_entries s ok L h) lent)

    pub of_holds : Sheet s (points_of L) n r end
    unfolding written tables_of
    of_holds = record {
      points = (basis_entries s ok L h).points;
      count = h.count ∙ sym (length-map L (λ q. q.0));
      rows = h.rows;
      standard = ap (λ (t : Tables). take standard_size t.standard) h.tables ∙ over_sized standard_size (standard_table s (points_of L)) lent.standard (standard_size_lem s (points_of L));
      leads = ap (λ (t : Tables). take leads_size t.leads) h.tables ∙ over_sized leads_size (leads_table s (points_of L)) lent.leads (leads_size_lem s (points_of L));
      coefficients = ap (λ (t : Tables). take coefficients_size t.coefficients) h.tables ∙ over_sized coefficients_size (coefficients_table s (points_of L)) lent.coefficients (coefficients_size_lem s (points_of L));
    }
