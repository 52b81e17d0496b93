-- Refusal 10 test by test: the points, the row count, four tables and the counts.
use mathlib.Core.Path.{◌≡◌, sym, ◌∙◌}
use mathlib.Core.Bool.{Bool, true, false, ◌&&◌, and_assoc}
use mathlib.Core.List.{List}
use Prim.Native.Nat.{ℕ}
use lib.Dec.{eqb}
use borrow.Author.Tests.{eq-eqb, ne_eqb}
use Rattle.residue.specs.Sizes.{counts_size}
use Rattle.residue.specs.Lists.{every}
use Rattle.residue.specs.Layout.{fill, begins}
use Rattle.specification.specs.declared.settings.Settings.{Settings}
use Rattle.specification.specs.Levels.{no_repeat}
use Rattle.specification.specs.Counted.{is_count}
use Rattle.specification.specs.Tables.{Tables, row_count, states_table, standard_table, leads_table, coefficients_table, recognised}
use Rattle.specification.proofs.Recognised.{read_in, recognised_tests}

module _ (s : Settings) (n r : ℕ) (t : Tables) where
  abbrev pub same_tables : List ℕ → List ℕ → List ℕ → List ℕ → Bool
  same_tables a b c d = begins a t.states && (begins b t.standard && (begins c t.leads && (begins d t.coefficients
      && (every is_count (fill n t.counts) && begins (fill counts_size (fill n t.counts)) t.counts))))

  abbrev S : List (List ℕ)
  S = read_in s n r t

  pub recognised_is : recognised s n r t ≡ (no_repeat S && (eqb r (row_count s S) && same_tables (states_table S) (standard_table s S) (leads_table s S) (coefficients_table s S)))
  recognised_is = recognised_tests s n r t ∙ simp and_assoc

  pub not_once : no_repeat S ≡ false → false ≡ recognised s n r t
  not_once e = sym (recognised_is ∙ simp e)

  pub not_count : no_repeat S ≡ true → (r ≡ row_count s S → ⊥) → false ≡ recognised s n r t
  not_count e f = sym (recognised_is ∙ simp (e, ne_eqb r (row_count s S) f))

  pub by_tables : no_repeat S ≡ true → r ≡ row_count s S → (a b c d : List ℕ) → a ≡ states_table S → b ≡ standard_table s S → c ≡ leads_table s S → d ≡ coefficients_table s S
      → same_tables a b c d ≡ recognised s n r t
  by_tables e f a b c d g h i j = rw (g, h, i, j) (sym (recognised_is ∙ simp (e, eq-eqb r (row_count s S) f)))
