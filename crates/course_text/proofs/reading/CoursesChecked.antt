-- The records are checked one after the other, each by those before it.
use mathlib.Core.Path.{◌≡◌, refl, sym, ap, ◌∙◌, subst}
use mathlib.Core.Bool.{Bool, true, false, not, cond, ◌&&◌, ◌||◌}
use mathlib.Core.List.{List, [], ◌∷◌, ◌++◌}
use mathlib.Core.Option
use mathlib.Core.Option.{Option, some, none}
use Prim.Native.Nat.{ℕ, ◌+◌, ◌<◌, ◌≤◌}
use native.Mathlib.Omega.{arith}
use lib.IntN.{ℤ}
use lib.ListN.{length, get_or, set, drop, replicate, length-drop, length-append, drop_of_length-le}
use lib.Dec.{eqb}
use Rattle.notation.specs.Fields.{part, records_from, records_of}
use Rattle.specification.specs.declared.refusals.Fault.{Fault}
use Rattle.comma_text.specs.reading.Records.{entry_part, entries_at, ends, refuses, checked}
use Rattle.comma_text.specs.reading.Text.{last_level}
use Rattle.std.specs.Prelude.{Ok, Err}
use Rattle.comma_text.specs.reading.Records.{form_fault_at}
use Rattle.comma_text.proofs.reading.records.EntriesChecked.{entry_shorter, entries_more, entries_none, of_ends, of_refuses}
use Rattle.comma_text.proofs.reading.entries.OneMore.{map_snoc}
use Rattle.course_text.specs.Form.{course_in, number_of, numbers_of, latest, comes_back, course_fault}
use Rattle.course_text.specs.Reading.{counted_courses}
use Rattle.course_text.proofs.reading.Marks.{course_small, latest_snoc, Marked, none_marked, mark_more, back_told}

-- How far the checking has come: n records are passed, whose numbers are marked, and the others are to be checked from `from` on.
pub record CheckedOn (m : ℕ) (t : List ℕ) (at : ℕ) (marks : List ℕ) (last from n : ℕ) : Type 0 where
  pub seen : List (Option (List ℤ))
  pub within : from ≤ length t
  pub few : n ≤ from
  pub count : length seen ≡ n
  pub marked : Marked (numbers_of m seen) marks
  pub newest : last ≡ latest (numbers_of m seen)
  pub rest : counted_courses m seen (entries_at m (drop from t)) ≡ counted_courses m [] (entries_at m (drop at t))

snoc_numbers : (m : ℕ) (seen : List (Option (List ℤ))) (zs : List ℤ) → numbers_of m (seen ++ (some zs ∷ [])) ≡ numbers_of m seen ++ (number_of m zs ∷ [])
unfolding numbers_of
snoc_numbers m seen zs = map_snoc (λ e. number_of m (Option.get_or e [])) seen (some zs)

pub none_checked : (m : ℕ) (t : List ℕ) (at : ℕ) → at ≤ length t → CheckedOn m t at (replicate 100 0) 0 at 0
unfolding numbers_of latest
none_checked m t at h = record { seen = []; within = h; few = omega arith; count = refl; marked = none_marked; newest = refl; rest = refl }

module _ {m : ℕ} {t : List ℕ} {at : ℕ} {marks : List ℕ} {last from n : ℕ} (g : CheckedOn m t at marks last from n) where
  pub all_checked : length t ≤ from → Ok n ≡ counted_courses m [] (entries_at m (drop at t))
  unfolding entries_at records_of records_from counted_courses
  all_checked h = ap (λ (k : ℕ). Ok k) (sym g.count) ∙ sym (ap (λ (l : List ℕ). counted_courses m g.seen (entries_at m l)) (drop_of_length-le t h)) ∙ g.rest

  module _ (h : from < length t) where
    some_left : 0 < length (drop from t)
    some_left = omega (arith, length-drop from t)

    -- the next record is at fault
    fault : (e : Option (List ℤ)) (l : List (Option (List ℤ))) → entries_at m (drop from t) ≡ e ∷ l → course_fault m g.seen e ≡ true
        → Err (form_fault_at (n + 2)) ≡ counted_courses m [] (entries_at m (drop at t))
    unfolding counted_courses
    fault e l q f =
        ap (λ (k : ℕ). Err (form_fault_at (k + 2))) (sym g.count)
        ∙ sym (ap (counted_courses m g.seen) q ∙ ap (λ (b : Bool). cond b (Err (form_fault_at (length g.seen + 2))) (counted_courses m (g.seen ++ (e ∷ [])) l)) f)
        ∙ g.rest

    pub no_record : (f : Fault) → refuses f ≡ checked (n + 2) m (entry_part m (drop from t))
        → Err f ≡ counted_courses m [] (entries_at m (drop at t))
    unfolding course_fault
    no_record f e =
        let p = of_refuses (n + 2) m f (entry_part m (drop from t)) e in
        let q = entries_none m (drop from t) some_left p.0 in
        ap (λ (x : Fault). Err x) p.1 ∙ fault none q.0 q.1 refl

    module _ (z : ℤ) (next : ℕ) (w : next ≤ length t) (e : ends z (drop next t) ≡ checked (n + 2) m (entry_part m (drop from t)))
        (number : ℕ) (is : number ≡ course_in z) (wrong : Bool)
        (tested : wrong ≡ (eqb number 0 || (not (eqb (get_or marks number 0) 0) && not (eqb number last)))) where
      read : (zs : List ℤ) × (entry_part m (drop from t) ≡ part zs (drop next t)) × (z ≡ last_level m zs)
      read = of_ends (n + 2) m z (drop next t) (entry_part m (drop from t)) e

      abbrev levels : List ℤ
      levels = read.0

      there : entries_at m (drop from t) ≡ some levels ∷ entries_at m (drop next t)
      there = entries_more m (drop from t) some_left levels (drop next t) read.1

      pub passes : from < next
      passes = let k = entry_shorter m (drop from t) some_left levels (drop next t) read.1 in omega (arith, length-drop from t, length-drop next t)

      own : number ≡ number_of m levels
      unfolding number_of
      own = is ∙ ap course_in read.2

      pub number_small : number < 100
      number_small = rw is (course_small z)

      told : wrong ≡ course_fault m g.seen (some levels)
      unfolding course_fault
      told =
          tested ∙ ap (λ (b : Bool). eqb number 0 || b) (back_told g.marked number last number_small g.newest)
          ∙ ap (λ (c : ℕ). eqb c 0 || comes_back (numbers_of m g.seen) c) own

      pub wrong_here : wrong ≡ true → Err (form_fault_at (n + 2)) ≡ counted_courses m [] (entries_at m (drop at t))
      wrong_here b = fault (some levels) (entries_at m (drop next t)) there (sym told ∙ b)

      pub checked_more : wrong ≡ false → CheckedOn m t at (set marks number 1) number next (n + 1)
      unfolding counted_courses
      checked_more b = record {
        seen = g.seen ++ (some levels ∷ []);
        within = w;
        few = let p = passes in omega (arith, g.few);
        count = length-append g.seen (some levels ∷ []) ∙ ap (λ (k : ℕ). k + 1) g.count;
        marked = subst (λ (l : List ℕ). Marked l (set marks number 1)) (sym numbers) (mark_more g.marked number number_small);
        newest = sym (ap latest numbers ∙ latest_snoc (numbers_of m g.seen) number);
        rest =
            sym (ap (λ (b : Bool). cond b (Err (form_fault_at (length g.seen + 2))) (counted_courses m (g.seen ++ (some levels ∷ [])) (entries_at m (drop next t)))) (sym told ∙ b))
            ∙ sym (ap (counted_courses m g.seen) there) ∙ g.rest;
      }
        where
          numbers : numbers_of m (g.seen ++ (some levels ∷ [])) ≡ numbers_of m g.seen ++ (number ∷ [])
          numbers = snoc_numbers m g.seen levels ∙ ap (λ (c : ℕ). numbers_of m g.seen ++ (c ∷ [])) (sym own)
