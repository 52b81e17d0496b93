-- What the readers of residues answer, in the terms of the definitions.
use Rattle.std.specs.Prelude.{◌≡◌, Bool, cond, List, [], ◌++◌, map, ℕ, suc, ◌*◌, ◌-◌, ◌^◌, ◌≤◌, ℤ, pos, length, take, drop, eqb, Option, Some, None}
use Rattle.std.proofs.Math.Option.{get_or}
use Rattle.residue.specs.Sizes.{counts_size}
use Rattle.residue.specs.Level.{residue_of}
use Rattle.residue.specs.Lists.{key_of}
use Rattle.residue.specs.Layout.{fill}
use Rattle.specification.specs.declared.settings.Settings.{Settings}
use Rattle.specification.specs.Levels.{in_range}
use Rattle.specification.specs.Counted.{points_of, counts_of, gathered}
use Rattle.specification.specs.Tables.{states_table}
use Rattle.notation.specs.Fields.{Field, field, broken, Part, part, faulty}
use Rattle.specification.specs.Refusal.{first_of}
use Rattle.comma_text.specs.reading.Text.{Contents, Valued, TextOutcome, entry_value, valued_point, first_values, text_accepted, text_decided}
use Rattle.comma_text.specs.reading.Text.{not_refused, short_buffers, header_cases, entries_cases}
use Rattle.comma_text.specs.reading.Records.{entry_part, entries_at}
use Rattle.comma_text.specs.reading.Answers.{Refusal, Gathered}
use Rattle.comma_text.specs.declared.reading.entries.Placed.{Placed}
use Rattle.comma_text.specs.declared.reading.entries.Point.{Point}
use Rattle.comma_text.specs.declared.reading.entries.Filled.{Filled}

-- the level in a field that has one, and the text behind it
unfoldable pub level_in : Field ℤ → ℤ
level_in (field level more rest) = level
level_in broken = pos 0

unfoldable pub behind_level : Field ℤ → List ℕ
behind_level (field level more rest) = rest
behind_level broken = []

-- the residue of that level
pub record PlacedAs (p : ℕ) (text : List ℕ) (f : Field ℤ) (r : Placed) : Type 0 where
  pub residue : r.residue ≡ residue_of p (level_in f)
  pub rest : drop r.next text ≡ behind_level f
  pub within : r.next ≤ length text

-- the levels of an entry, and the text behind it
unfoldable pub levels_in : Part (List ℤ) → List ℤ
levels_in (part levels rest) = levels
levels_in faulty = []

unfoldable pub behind_entry : Part (List ℤ) → List ℕ
behind_entry (part levels rest) = rest
behind_entry faulty = []

-- whether the m levels of the point are in range, the number that its bytes in the row spell, with zeros behind them up to 8 digits, and the last column behind it
pub record PointAs (p m : ℕ) (text : List ℕ) (e : Part (List ℤ)) (r : Point) (row : List ℕ) : Type 0 where
  pub inside : r.inside ≡ in_range p (take m (levels_in e))
  pub key : r.key ≡ key_of m row * 2 ^ (8 * (8 - m))
  pub last : entry_part 0 (drop r.next text) ≡ part (drop m (levels_in e)) (behind_entry e)
  pub within : r.next ≤ length text

-- whether all levels are in range, the value, and the key of the point
pub record FilledAs (p m : ℕ) (text : List ℕ) (e : Part (List ℤ)) (r : Filled) (row : List ℕ) : Type 0 where
  pub inside : r.inside ≡ in_range p (levels_in e)
  pub value : r.value ≡ entry_value p m (levels_in e)
  pub key : r.key ≡ key_of m row * 2 ^ (8 * (8 - m))
  pub rest : drop r.next text ≡ behind_entry e
  pub within : r.next ≤ length text

-- the levels of all entries
unfoldable pub levels_at : ℕ → List ℕ → List (List ℤ)
levels_at m l = map (λ e. get_or e []) (entries_at m l)

-- what is said by these settings and these levels of the entries
abbrev pub contents : Settings → List (List ℤ) → Contents
contents s S = record { header = record { variables = s.variables; modulus = s.modulus; order = s.order; weights = s.weights }; entries = S }

-- what a text says with these settings in its header and these entries behind it
unfoldable pub saying : Settings → List ℕ → Contents
saying s l = contents s (levels_at s.variables l)

-- what is left of a text of right form, by its settings and its entries
abbrev pub entries_outcome : Settings → List ℕ → List ℕ → List ℕ → List ℕ → List ℕ → TextOutcome
entries_outcome s l states values counts weights =
    let said = saying s l in
    let short = short_buffers (length states) (length values) (length counts) (length weights) in
    text_decided (first_of not_refused (header_cases s short ++ entries_cases said)) (text_accepted said states values counts weights) states values counts weights

-- the place, from 1, of the entry that was found; 0 where there is none
unfoldable pub place_of : Option ℕ → ℕ
place_of (Some entry) = suc entry
place_of None = 0

-- the first place found, or this one if it has a fault
unfoldable pub earlier_place : ℕ → Bool → ℕ → ℕ
earlier_place found inside place = cond (eqb found 0) (cond inside 0 place) found

-- the distinct points of entries in three tables, with their counts and their first values
pub record EntriesTabled (l : List Valued) (points counts values : List ℕ) : Type 0 where
  pub states : points ≡ states_table (points_of (gathered (points_of l)))
  pub times : counts ≡ fill counts_size (counts_of (gathered (points_of l)))
  pub firsts : values ≡ fill 64 (first_values (points_of (gathered (points_of l))) l)

-- a refusal with its record and no points, or 0 with the number of points
unfoldable pub answered : Refusal → ℕ → Gathered
answered r n = record { refusal = r.refusal; at = r.at; n = cond (eqb r.refusal 0) n 0 }

-- `gather_entries`: the answer to entries with these levels, in which the order and its weights have no part, and their tables where they are not refused
pub record GatheredAs (p m : ℕ) (S : List (List ℤ)) (r : Gathered) (points counts values : List ℕ) : Type 0 where
  pub answer : (order : ℕ) (weights : List ℕ) → let s : Settings = record { modulus = p; variables = m; order = order; weights = weights } in
      r ≡ answered (first_of not_refused (entries_cases (contents s S))) (length (gathered (points_of (map (valued_point p m) S))))
  pub tabled : r.refusal ≡ 0 → EntriesTabled (map (valued_point p m) S) points counts values
