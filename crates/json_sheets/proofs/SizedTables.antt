-- The bytes of a sheet's sizes are the tables of the points that it holds, and are recognised wherever they are written.
use mathlib.Core.Path.{◌≡◌, sym, ◌∙◌, ap, subst, subst₂}
use mathlib.Core.Bool.{true}
use mathlib.Core.List.{List, [], ◌++◌, append-nil}
use Prim.Native.Nat.{ℕ}
use native.Mathlib.Omega.{arith}
use lib.ListN.{length, take}
use lib.Seq.{take_all, drop-nil}
use Rattle.residue.specs.Layout.{fill, in_places, over, length_fill}
use Rattle.residue.proofs.Tests.{of_true}
use Rattle.specification.specs.declared.settings.Settings.{Settings}
use Rattle.specification.specs.Counted.{Counted, points_of}
use Rattle.specification.specs.Tables.{Tables, five_tables, tables_of, row_count, states_table, standard_table, leads_table, coefficients_table, held_in, recognised}
use Rattle.specification.specs.Tables.{written as writtenOver}
use Rattle.specification.specs.Points.{Points}
use Rattle.specification.proofs.agreement.Refusals.{written_recognised}
use Rattle.specification.proofs.counted.Gathered.{Entries}
use Rattle.specification.proofs.counted.Held.{points_held, counts_held, length_held}
use Rattle.json_text.specs.Documents.{Document}
use Rattle.json_sheets.specs.Sheets.{tables_in, sized}
use Rattle.json_sheets.proofs.SheetDocuments.{Checked, front_is, parts, given}

-- written over nothing
over_nothing : (a : List ℕ) → over a [] ≡ a
unfolding over
over_nothing a = ap (λ (z : List ℕ). a ++ z) (drop-nil (length a)) ∙ append-nil a

abbrev pub nothing : Tables
nothing = five_tables [] [] [] [] []

pub written_nothing : (t : Tables) → writtenOver t nothing ≡ t
unfolding writtenOver
written_nothing t = λ i. record {
  states = over_nothing t.states i;
  standard = over_nothing t.standard i;
  leads = over_nothing t.leads i;
  coefficients = over_nothing t.coefficients i;
  counts = over_nothing t.counts i;
}

-- a document's tables have their sizes
cut_filled : (k : ℕ) (l : List ℕ) → take k (fill k l) ≡ fill k l
cut_filled k l = take_all k (fill k l) (omega (arith, length_fill k l))

pub sized_in : (d : Document) → sized (tables_in d) ≡ tables_in d
unfolding sized tables_in
sized_in d = λ i. record {
  states = cut_filled 512 (in_places 8 d.points) i;
  standard = cut_filled 512 (in_places 8 d.standard) i;
  leads = cut_filled 3592 (in_places 8 d.leads) i;
  coefficients = cut_filled 28736 (in_places 64 d.coefficients) i;
  counts = cut_filled 64 d.counts i;
}

module _ (s : Settings) (n r : ℕ) (t : Tables) (h : Checked s n r t) where
  abbrev L : Counted
  L = held_in s n t

  entries : Entries s L
  entries = record {
    points = subst (λ (K : List (List ℕ)). Points s K) (sym (points_held s n t)) (given s n r t h);
    counts = rw (counts_held s n t) (of_true (parts s n r t h).range);
  }

  pub sized_held : sized t ≡ tables_of s L
  unfolding sized tables_of states_table standard_table leads_table coefficients_table
  sized_held = let p = parts s n r t h in rw (points_held s n t, counts_held s n t) (λ i. record {
    states = sym (front_is 512 _ t.states p.states) i;
    standard = sym (front_is 512 _ t.standard p.standard) i;
    leads = sym (front_is 3592 _ t.leads p.leads) i;
    coefficients = sym (front_is 28736 _ t.coefficients p.coefficients) i;
    counts = sym (front_is 64 _ t.counts p.counts) i;
  })

  -- recognised wherever they are written
  pub known_over : (u : Tables) → recognised s n r (writtenOver (sized t) u) ≡ true
  known_over u =
      rw sized_held (subst₂ (λ (j k : ℕ). recognised s j k (writtenOver (tables_of s L) u) ≡ true) (length_held s n t) rows (written_recognised s h.settings L entries u))
    where
      rows : row_count s (points_of L) ≡ r
      rows = ap (row_count s) (points_held s n t) ∙ sym (parts s n r t h).rows

  pub known_sized : recognised s n r (sized t) ≡ true
  known_sized = subst (λ (u : Tables). recognised s n r u ≡ true) (written_nothing (sized t)) (known_over nothing)
