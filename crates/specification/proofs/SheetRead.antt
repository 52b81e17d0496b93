-- The basis of a sheet by the bytes of its tables.
use mathlib.Core.Path.{◌≡◌, sym, ◌∙◌, ap}
use mathlib.Core.List.{List, ◌++◌}
use Prim.Native.Nat.{ℕ}
use lib.ListN.{take, drop, take-append-drop}
use Rattle.residue.specs.Sizes.{standard_size, leads_size, coefficients_size}
use Rattle.specification.specs.declared.settings.Settings.{Settings}
use Rattle.specification.specs.Settings.{Accepted}
use Rattle.specification.specs.Tables.{Tables, standard_under, leads_under, rows_under, standard_table, leads_table, coefficients_table}
use Rattle.specification.specs.TablesRead.{monomials_in, rows_in}
use Rattle.specification.proofs.SheetBack.{standard_back, leads_back, rows_back}
use Rattle.specification.proofs.Sheets.{Sheet}

module _ (s : Settings) (ok : Accepted s) (n r : ℕ) (S : List (List ℕ)) (t : Tables) (h : Sheet s S n r t) where
  whole : (k : ℕ) (new old : List ℕ) → take k old ≡ new → new ++ drop k old ≡ old
  whole k new old e = ap (λ (l : List ℕ). l ++ drop k old) (sym e) ∙ take-append-drop k old

  -- the basis by the tables' bytes
  pub standard_in : standard_under s S ≡ monomials_in s.variables n t.standard
  standard_in = sym (standard_back s ok S h.points (drop standard_size t.standard) n h.count) ∙ ap (monomials_in s.variables n) (whole standard_size (standard_table s S) t.standard h.standard)

  pub leads_in : leads_under s S ≡ monomials_in s.variables r t.leads
  leads_in = sym (leads_back s ok S h.points (drop leads_size t.leads) r h.rows) ∙ ap (monomials_in s.variables r) (whole leads_size (leads_table s S) t.leads h.leads)

  pub rows_in_lem : rows_under s S ≡ rows_in n r t.coefficients
  rows_in_lem = sym (rows_back s ok S h.points (drop coefficients_size t.coefficients) n r h.count h.rows) ∙ ap (rows_in n r) (whole coefficients_size (coefficients_table s S) t.coefficients h.coefficients)
