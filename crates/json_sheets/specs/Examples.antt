-- The sheets of document 02's example and of no state.
use Rattle.std.specs.Prelude.{[], ◌∷◌}
use Rattle.specification.specs.declared.settings.Settings.{Settings}
use Rattle.specification.specs.Settings.{settings_of}
use Rattle.specification.specs.Tables.{Tables, tables_of}

-- one state 1 with p = 2, m = 1, lex; no state with p = 5, m = 2, grlex
abbrev pub one_settings : Settings
one_settings = settings_of 2 1 0

abbrev pub no_settings : Settings
no_settings = settings_of 5 2 1

unfoldable pub one_tables : Tables
one_tables = tables_of one_settings ((1 ∷ [], 1) ∷ [])

unfoldable pub no_tables : Tables
no_tables = tables_of no_settings []
