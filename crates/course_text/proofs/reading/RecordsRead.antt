-- A record's state and course number, and the records one after the other in two tables.
use mathlib.Core.Path.{◌≡◌, refl, sym, ap, ap₂, ◌∙◌}
use mathlib.Core.Bool.{Bool, true, false, not}
use mathlib.Core.List.{List, [], ◌∷◌, ◌++◌, map}
use Prim.Native.Nat.{ℕ, suc, ◌+◌, ◌*◌, ◌-◌, ◌<◌, ◌≤◌}
use native.Mathlib.Omega.{arith}
use lib.IntN.{ℤ, pos}
use lib.ListN.{length, get_or, set, take, drop, length-drop, length-map}
use lib.Seq.{get_or-drop, length-take-le}
use Rattle.residue.specs.Layout.{fill, in_places, over, length_fill}
use Rattle.residue.proofs.Layouts.{fill_put}
use Rattle.residue.proofs.Replaced.{put_place, part_long, table_more}
use Rattle.specification.specs.Levels.{in_range}
use Rattle.notation.specs.Fields.{field, broken, Part}
use Rattle.comma_text.specs.reading.Text.{first_fault, is_outside, entry_point}
use Rattle.comma_text.specs.reading.Records.{level_field, entry_part, entries_at, counted_entries}
use Rattle.comma_text.specs.reading.Text.{last_level}
use Rattle.comma_text.specs.reading.Points.{level_in, behind_level, levels_in, levels_at, PointAs}
use Rattle.comma_text.specs.declared.reading.entries.Point.{Point}
use Rattle.std.specs.Prelude.{Ok, Err}
use Rattle.comma_text.proofs.reading.EntryLengths.{point_long}
use Rattle.comma_text.proofs.reading.entries.EntryFilled.{last_column}
use Rattle.comma_text.proofs.reading.entries.EntriesRead.{ReadOn, begun, next, next_long, levels, one_more, goes_on, all_read}
use Rattle.comma_text.proofs.reading.entries.EntriesInside.{inside_on, outside_here, all_inside}
use Rattle.comma_text.proofs.reading.entries.OneMore.{map_snoc}
use Rattle.courses.specs.TimeCourse as C
use Rattle.courses.specs.Records.{most_records, records_size}
use Rattle.course_text.specs.Form.{course_in, number_of, timed_of, all_timed, state_outside, first_state_outside}
use Rattle.course_text.specs.Reading.{TimedAs, place_outside, ReadAs}
use Rattle.course_text.specs.declared.reading.Timed.{Timed}
use Rattle.course_text.proofs.reading.FewRecords.{few_records}

-- the last column behind a point is the number's
module _ (p m : ℕ) (t : List ℕ) (e : Part (List ℤ)) (row : List ℕ) (q : Point) (f : PointAs p m t e q row) where
  pub column_there : broken ≡ level_field (drop q.next t) → ⊥
  column_there b = (last_column p m t e row q f).read (sym b)

  pub number_done : (z : ℤ) (more : Bool) (next : ℕ) → field z more (drop next t) ≡ level_field (drop q.next t) → next ≤ length t
      → (number : ℕ) → number ≡ course_in z → TimedAs p m t e (record { inside = q.inside; number = number; next = next })
  unfolding level_in behind_level number_of last_level
  number_done z more next h w number is =
      let n = last_column p m t e row q f in
      let k : m + 0 ≡ m = omega arith in
      let column : get_or (levels_in e) m (pos 0) ≡ z =
      ap (λ (i : ℕ). get_or (levels_in e) i (pos 0)) (sym k) ∙ sym (get_or-drop m (levels_in e) 0 (pos 0)) ∙ ap (λ (l : List ℤ). get_or l 0 (pos 0)) n.only ∙ ap level_in (sym h) in
      record { inside = f.inside; number = is ∙ ap course_in (sym column); rest = ap behind_level h ∙ n.then; within = w }

-- the states and the numbers of entries
abbrev states : ℕ → ℕ → List (List ℤ) → List (List ℕ)
states p m S = map (λ a. a.0) (all_timed p m S)

abbrev courses : ℕ → ℕ → List (List ℤ) → List ℕ
courses p m S = map (λ a. a.1) (all_timed p m S)

-- How far the reading has come: i records are in the tables, none of which has a level out of range; the others are to be read from `from` on.
pub record RecordsOn (p m n : ℕ) (t : List ℕ) (S : List (List ℤ)) (records numbers : List ℕ) (from i : ℕ) : Type 0 where
  pub on : ReadOn m n t S from i
  pub none : first_fault (state_outside p m) (take i S) ≡ 0
  pub few : n ≤ most_records
  pub table : records ≡ fill records_size (in_places 8 (states p m (take i S)))
  pub column : numbers ≡ fill most_records (courses p m (take i S))

pub none_read : (p m n : ℕ) (t : List ℕ) (at : ℕ) {records numbers : List ℕ} → 1 ≤ m → at ≤ length t → length t ≤ 16384
    → counted_entries 0 (entries_at m (drop at t)) ≡ Ok n → records ≡ fill records_size [] → numbers ≡ fill most_records []
    → RecordsOn p m n t (levels_at m (drop at t)) records numbers at 0
unfolding first_fault all_timed in_places
none_read p m n t at h w l c er en =
    let g = begun m n t at w c in
    record {
      on = g;
      none = refl;
      few = omega (arith, few_records m (drop at t) (levels_at m (drop at t)) h g.left, g.count, length-drop at t);
      table = er;
      column = en;
    }

module _ {p m n : ℕ} {t : List ℕ} (S : List (List ℤ)) {records numbers : List ℕ} {from i : ℕ} (g : RecordsOn p m n t S records numbers from i) where
  pub records_long : length records ≡ records_size
  records_long = ap length g.table ∙ length_fill records_size (in_places 8 (states p m (take i S)))

  pub numbers_long : length numbers ≡ most_records
  numbers_long = ap length g.column ∙ length_fill most_records (courses p m (take i S))

  -- the place of the next record has room for a state
  pub part_fits : i < n → m ≤ 8 → m ≤ length (take (8 * i + 8 - 8 * i) (drop (8 * i) records))
  part_fits h fits =
      let w : 8 * i + 8 - 8 * i ≡ 8 = omega arith in
      omega (arith, part_long (8 * i) (8 * i + 8 - 8 * i) 8 records w (omega (arith, records_long, g.few)), fits)

  count : length (take i S) ≡ i
  count = length-take-le i S (omega (arith, g.on.count, g.on.bound))

  pub all_recorded : n ≤ i → ReadAs p m S (Ok tt) records numbers
  unfolding place_outside first_state_outside all_timed
  all_recorded h =
      let a = all_read S g.on h in
      record {
        place = all_inside (state_outside p m) S g.on h g.none;
        recorded = λ z. record {
          few = omega (arith, length-map S (timed_of p m), g.on.count, g.few);
          states = g.table ∙ ap (λ (l : List (List ℤ)). fill records_size (in_places 8 (states p m l))) a;
          courses = g.column ∙ ap (λ (l : List (List ℤ)). fill most_records (courses p m l)) a;
        };
      }

  module _ (h : i < n) {r : Timed} (f : TimedAs p m t (entry_part m (drop from t)) r) where
    abbrev this : List ℤ
    this = next S g.on h

    told : state_outside p m this ≡ not r.inside
    unfolding state_outside is_outside
    told = ap not (sym (f.inside ∙ ap (λ (l : List ℤ). in_range p (take m l)) (levels S g.on h)))

    pub outside_record : r.inside ≡ false → (recs nums : List ℕ) → ReadAs p m S (Err i) recs nums
    unfolding place_outside first_state_outside
    outside_record e recs nums = record {
      place = let one : suc i ≡ i + 1 = omega arith in one ∙ outside_here (state_outside p m) S g.on h g.none r.inside told e;
      recorded = λ z. absurd (omega arith);
    }

    pub record_more : m ≤ 8 → r.inside ≡ true → (j : ℕ) {part : List ℕ} → j ≡ 8
        → part ≡ over (entry_point p m (levels_in (entry_part m (drop from t)))) (take j (drop (8 * i) records))
        → RecordsOn p m n t S (take (8 * i) records ++ (part ++ drop j (drop (8 * i) records))) (set numbers i r.number) r.next (i + 1)
    unfolding all_timed timed_of
    record_more fits e j {part} k written = record {
      on = goes_on S g.on h r.next f.within f.rest;
      none = inside_on (state_outside p m) S g.on h g.none r.inside told e;
      few = g.few;
      table =
          put_place 8 i j point records k (written ∙ ap (λ (l : List ℤ). over (entry_point p m l) (take j (drop (8 * i) records))) said)
          ∙ table_more 8 records_size i (states p m (take i S)) point records g.table (sym long) (omega (arith, g.few)) (omega (arith, point_long p m this (next_long S g.on h), fits))
          ∙ ap (λ (l : List (List ℕ)). fill records_size (in_places 8 l)) (sym (more (λ a. a.0)));
      column =
          ap₂ (λ (l : List ℕ) (x : ℕ). set l i x) g.column (f.number ∙ ap (number_of m) said)
          ∙ ap (λ (k : ℕ). set (fill most_records (courses p m (take i S))) k (number_of m this)) (sym wide)
          ∙ fill_put most_records (courses p m (take i S)) (number_of m this) (omega (arith, wide, g.few))
          ∙ ap (fill most_records) (sym (more (λ a. a.1)));
    }
      where
        point : List ℕ
        point = entry_point p m this

        said : levels_in (entry_part m (drop from t)) ≡ this
        said = levels S g.on h

        timed_long : {A : Type 0} (f : C.Timed → A) → length (map f (all_timed p m (take i S))) ≡ i
        timed_long f = length-map (all_timed p m (take i S)) f ∙ length-map (take i S) (timed_of p m) ∙ count

        long : length (states p m (take i S)) ≡ i
        long = timed_long (λ a. a.0)

        wide : length (courses p m (take i S)) ≡ i
        wide = timed_long (λ a. a.1)

        more : {A : Type 0} (f : C.Timed → A) → map f (all_timed p m (take (i + 1) S)) ≡ map f (all_timed p m (take i S)) ++ (f (timed_of p m this) ∷ [])
        more f =
            ap (λ (l : List (List ℤ)). map f (map (timed_of p m) l)) (one_more S g.on h) ∙ ap (map f) (map_snoc (timed_of p m) (take i S) this)
            ∙ map_snoc f (map (timed_of p m) (take i S)) (timed_of p m this)
