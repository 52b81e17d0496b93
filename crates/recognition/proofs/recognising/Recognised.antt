-- What a call stands on whose tables are recognised: their points, and what the tables and the pivot rows hold.
use mathlib.Core.Path.{◌≡◌, sym, ap, subst, ◌∙◌}
use mathlib.Core.Bool.{true}
use mathlib.Core.List.{List}
use Prim.Native.Nat.{ℕ, suc, ◌*◌, ◌-◌, ◌<◌, ◌≤◌}
use native.Mathlib.Omega.{arith}
use lib.IntN.{ℤ}
use lib.ListN.{length, take, get_or}
use Rattle.residue.specs.Vector.{Below}
use Rattle.elimination.specs.Elimination.{Multiplied}
use Rattle.residue.specs.Layout.{fill, in_places, begins, length_fill}
use Rattle.residue.proofs.level.Moduli.{modulus_range}
use Rattle.residue.proofs.Tests.{of_true}
use Rattle.residue.proofs.bytes.Equality.{same_is}
use Rattle.residue.proofs.Layouts.{below_fill}
use Rattle.specification.specs.declared.settings.Settings.{Settings}
use Rattle.specification.specs.Tables.{Tables, standard_table, leads_table, coefficients_table}
use Rattle.specification.specs.Points.{Points, IsPoint}
use Rattle.specification.proofs.Recognised.{read, Parts, recognised_parts, read_in, length_read}
use Rattle.construction.specs.Drawing.{Solves}
use Rattle.construction.proofs.drawing.Grounds.{places_below}
use Rattle.points.proofs.levels.LevelLists.{below_reduced}
use Rattle.recognition.specs.declared.looking.Faults.{Faults}
use Rattle.recognition.proofs.looking.Looks.{Open}

-- what a lent table begins with
front : (k : ℕ) (l t : List ℕ) → begins (fill k l) t ≡ true → take k t ≡ fill k l
unfolding begins
front k l t e = sym (same_is _ _ (of_true e) ∙ ap (λ (j : ℕ). take j t) (length_fill k l))

-- Recognised tables.
module _ {s : Settings} {n r : ℕ} {t : Tables} {f : Faults} {numbers : List ℤ} {exponents : List ℕ} (o : Open s n r t f numbers exponents) where
  abbrev pub S : List (List ℕ)
  S = read_in s n r t

  pub count : length S ≡ n
  count = length_read s o.settings n t.states

  pub parts : Parts s n r t
  parts = recognised_parts s n r t o.known

  pub points : Points s S
  points = read s o.settings n t.states o.few (of_true parts.once)

  pub positive : 0 < s.modulus
  positive = omega (arith, modulus_range s.modulus o.settings.modulus)

  pub table_below : Below s.modulus (fill 512 (in_places 8 S))
  table_below = below_fill s.modulus 512 (in_places 8 S) positive (places_below s.modulus 8 S positive (λ P q. low P (points.points P q)))
    where
      low : (P : List ℕ) → IsPoint s P → Below s.modulus P
      low P h = let e : suc (s.modulus - 1) ≡ s.modulus = omega (arith, positive) in subst (λ (k : ℕ). Below k P) e (below_reduced (s.modulus - 1) P h.same)

  -- the lent tables have the standard monomials, the leads and their rows
  pub standard_there : take 512 t.standard ≡ standard_table s S
  unfolding standard_table
  standard_there = front 512 _ t.standard parts.standard

  pub leads_there : take 3592 t.leads ≡ leads_table s S
  unfolding leads_table
  leads_there = front 3592 _ t.leads parts.leads

  pub coefficients_there : take 28736 t.coefficients ≡ coefficients_table s S
  unfolding coefficients_table
  coefficients_there = front 28736 _ t.coefficients parts.coefficients

  -- what elimination asks of the pivot rows
  module _ {rows pivots : List ℕ} (e : Solves s S rows pivots) where
    pub rows_long : (1152 * n ≤ length rows) × (n ≤ length pivots)
    rows_long = let a = e.long_rows in let b = e.long_pivots in (omega (arith, o.few), omega (arith, o.few))

    pub rows_multiplied : Multiplied s.modulus n rows
    rows_multiplied = subst (λ (j : ℕ). Multiplied s.modulus j rows) count e.multiples

    pub rows_inside : (k : ℕ) → k < n → get_or pivots k 0 < n
    rows_inside = subst (λ (j : ℕ). (k : ℕ) → k < j → get_or pivots k 0 < j) count e.inside
