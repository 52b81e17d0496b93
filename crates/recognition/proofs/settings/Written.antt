-- What the writers of tables left, the answer beside it.
use mathlib.Core.Path.{◌≡◌}
use mathlib.Core.List.{List, ◌++◌}
use Prim.Native.Nat.{ℕ}
use lib.ListN.{length, drop}
use Rattle.residue.specs.Sizes.{counts_size}
use Rattle.residue.specs.Layout.{fill, over}
use Rattle.residue.proofs.Layouts.{answered}
use Rattle.specification.specs.declared.settings.Settings.{Settings}
use Rattle.specification.specs.Tables.{Tables, five_tables, states_table, standard_table, leads_table, coefficients_table}
use Rattle.specification.specs.Adding.{ended, holding_both}
use Rattle.construction.specs.Drawing.{Tabled}

-- the fronts of the tables of S, the rest behind them, and the states and counts as they lie in the lent tables
pub both_written : (s : Settings) (S : List (List ℕ)) (k : List ℕ) (t : Tables) (n r : ℕ) (a x y z e : List ℕ) → n ≡ length S → a ≡ over (states_table S) t.states → Tabled s S r x y z
    → e ≡ over (fill counts_size k) t.counts
    → ended (record { refusal = 0; n = n; r = r }) (five_tables a (x ++ drop 512 t.standard) (y ++ drop 3592 t.leads) (z ++ drop 28736 t.coefficients) e) ≡ holding_both s S k t
unfolding standard_table leads_table coefficients_table
both_written s S k t n r a x y z e f g h i =
    rw (f, g, h.row_count, answered 512 _ t.standard x h.standard_table_lem, answered 3592 _ t.leads y h.leads_table_lem, answered 28736 _ t.coefficients z h.coefficients_table_lem, i)
