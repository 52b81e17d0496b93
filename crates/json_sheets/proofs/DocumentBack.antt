-- The other way: the document of the tables that a document leaves is the document.
use mathlib.Core.Path.{◌≡◌, refl, ◌∙◌}
use mathlib.Core.Bool.{Bool, true, false, cond}
use mathlib.Core.List.{List}
use Prim.Native.Nat.{ℕ, ◌*◌, ◌≤◌}
use native.Mathlib.Omega.{arith}
use lib.ListN.{length, take, drop}
use lib.Seq.{take-append-le}
use lib.Dec.{eqb}
use borrow.Author.Tests.{eqb-true}
use Rattle.residue.specs.Lists.{Among, every}
use Rattle.residue.specs.Layout.{fill, in_places, over, length_fill}
use Rattle.residue.proofs.Layouts.{take_fill}
use Rattle.specification.specs.Tables.{Tables}
use Rattle.specification.specs.Tables.{written as writtenOver}
use Rattle.writing.specs.Rows.{in_table}
use Rattle.json_text.specs.Documents.{Document, is_table, weight_count, fitting}
use Rattle.json_text.specs.Tables.{document_in}
use Rattle.json_sheets.specs.Sheets.{document_of, settings_in, state_count, row_count_in, tables_in}
use Rattle.json_text.proofs.Digits.{both}
use Rattle.writing.proofs.TableRows.{table_behind}
use Rattle.json_sheets.proofs.SheetBytes.{every_at}

-- What fitting lists say.
pub record Fitting (d : Document) : Type 0 where
  pub points : is_table (state_count d) d.variables d.points ≡ true
  pub standard : is_table (state_count d) d.variables d.standard ≡ true
  pub leads : is_table (row_count_in d) d.variables d.leads ≡ true
  pub coefficients : is_table (row_count_in d) (state_count d) d.coefficients ≡ true
  pub weights : eqb (length d.weights) (weight_count d.order d.variables) ≡ true

pub fitting_parts : (d : Document) → fitting d ≡ true → Fitting d
unfolding fitting
fitting_parts d e =
    let w = both {b = eqb (length d.weights) (weight_count d.order d.variables)} e in
    let c = both {b = is_table (row_count_in d) (state_count d) d.coefficients} w.0 in
    let l = both {b = is_table (row_count_in d) d.variables d.leads} c.0 in
    let s = both {b = is_table (state_count d) d.variables d.standard} l.0 in
    record { points = s.0; standard = s.1; leads = l.1; coefficients = c.1; weights = w.1 }

pub table_of : (k m : ℕ) (L : List (List ℕ)) → is_table k m L ≡ true → (length L ≡ k) × ((a : List ℕ) → Among a L → length a ≡ m)
unfolding is_table
table_of k m L e =
    let p = both {a = eqb (length L) k} {b = every (λ l. eqb (length l) m) L} e in
    (eqb-true (length L) k p.0, λ a q. eqb-true (length a) m (every_at (λ l. eqb (length l) m) L p.1 a q))

-- a table that was left, whatever is behind it
left_over : (w N k m : ℕ) (L : List (List ℕ)) (t : List ℕ) → is_table k m L ≡ true → w * k ≤ N → m ≤ w → in_table w k m (over (fill N (in_places w L)) t) ≡ L
unfolding over
left_over w N k m L t e room h = let p = table_of k m L e in table_behind w N k m L (drop (length (fill N (in_places w L))) t) p.0 room h p.1

counts_over : (k : ℕ) (l t : List ℕ) → length l ≡ k → k ≤ 64 → take k (over (fill 64 l) t) ≡ l
unfolding over
counts_over k l t e h = take-append-le k (fill 64 l) _ (omega (arith, length_fill 64 l)) ∙ take_fill k 64 l e h

-- eight places are enough for the weights
weights_kept : (d : Document) → fitting d ≡ true → d.variables ≤ 8 → take (weight_count d.order d.variables) (fill 8 d.weights) ≡ d.weights
weights_kept d f few =
    take_fill (weight_count d.order d.variables) 8 d.weights
    (eqb-true (length d.weights) (weight_count d.order d.variables) (fitting_parts d f).weights) (go (eqb d.order 3))
  where
    go : (x : Bool) → cond x d.variables 0 ≤ 8
    go true = few
    go false = omega arith

pub document_back : (d : Document) (t : Tables) → fitting d ≡ true → d.variables ≤ 8 → state_count d ≤ 64 → row_count_in d ≤ 449
    → document_of (settings_in d) (state_count d) (row_count_in d) (writtenOver (tables_in d) t) ≡ d
unfolding document_of document_in settings_in writtenOver tables_in
document_back d t f few n r = let p = fitting_parts d f in λ i. record {
  coefficients = left_over 64 28736 (row_count_in d) (state_count d) d.coefficients t.coefficients p.coefficients (omega arith) n i;
  counts = counts_over (state_count d) d.counts t.counts refl n i;
  leads = left_over 8 3592 (row_count_in d) d.variables d.leads t.leads p.leads (omega arith) few i;
  modulus = d.modulus;
  order = d.order;
  points = left_over 8 512 (state_count d) d.variables d.points t.states p.points (omega arith) few i;
  standard = left_over 8 512 (state_count d) d.variables d.standard t.standard p.standard (omega arith) few i;
  variables = d.variables;
  weights = weights_kept d f few i;
}
