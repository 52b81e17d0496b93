-- `running::run_records` meets its contract: the settings, the records' levels and the records decide, and what nothing refuses is written.
use mathlib.Core.Path.{◌≡◌, refl, sym, ap, ◌∙◌}
use mathlib.Core.Bool.{Bool}
use mathlib.Core.List.{List}
use Prim.Native.Nat.{ℕ, suc, ◌+◌, ◌*◌, ◌≤◌}
use native.Mathlib.Omega.{arith}
use lib.IntN.{ℤ}
use lib.ListN.{length, drop, length-drop, length-map}
use Rattle.std.specs.Prelude.{Result, Ok, Err}
use Rattle.std.proofs.lemmas.Result.{err_from_is_err_and}
use Rattle.residue.specs.Layout.{length_fill}
use Rattle.residue.specs.Lists.{Among}
use Rattle.residue.specs.Vector.{Below}
use Rattle.residue.proofs.Layouts.{fill_zeros}
use Rattle.residue.proofs.level.Moduli.{modulus_range}
use Rattle.specification.specs.Answers.{number_of}
use Rattle.specification.specs.Lent.{lent_mut}
use Rattle.specification.specs.declared.settings.Settings.{Settings}
use Rattle.specification.specs.Settings.{Accepted}
use Rattle.specification.specs.Points.{IsPoint}
use Rattle.specification.specs.Refusal.{first_of}
use Rattle.specification.proofs.Refused.{number_above_0}
use Rattle.comma_text.specs.reading.Answers.{fault_of}
use Rattle.comma_text.specs.reading.Text.{refusal_at, not_refused, header_cases}
use Rattle.comma_text.specs.reading.Records.{entries_at, counted_entries}
use Rattle.comma_text.specs.reading.Points.{levels_at}
use Rattle.comma_text.proofs.reading.FirstPlaces.{fault_le}
use Rattle.comma_text.proofs.reading.TextCases.{Allowed, room}
use Rattle.comma_text.proofs.reading.WholeText.{count_small}
use Rattle.courses.specs.TimeCourse.{Timed}
use Rattle.courses.specs.Records.{RecordedAs, HeldIn}
use Rattle.course_text.specs.Reading.{place_outside}
use Rattle.course_text.specs.Form.{all_timed, timed_of, first_state_outside}
use Rattle.forward.specs.Outcome.{course_answer}
use Rattle.forward.specs.Running.{decided_of}
use Rattle.forward.proofs.running.Recorded.{entries_all, each_point, held, records_low}
use Rattle.forward.proofs.running.RunCases.{settings_refuse, state_refuses, records_decide, run_refused, run_accepted, run_written}
use Rattle.forward.proofs.running.Accepted.{given, inside, answer_is, tables_are, genes_told}
use Rattle.forward.proofs.running.run_records.Goals as goal

-- a place of the first fault is one of the list's
outside_few : (p m : ℕ) (E : List (List ℤ)) → first_state_outside p m E ≤ length E
unfolding first_state_outside
outside_few p m E = fault_le _ E

timed_many : (p m : ℕ) (E : List (List ℤ)) → length (all_timed p m E) ≡ length E
unfolding all_timed
timed_many p m E = length-map E (timed_of p m)

-- settings and lengths that are not refused
space : (s : Settings) (short : Bool) {x : Unit {0}} → fault_of (Ok x) ≡ first_of not_refused (header_cases s short) → Allowed s short
unfolding fault_of
space s short e = room s short _ e refl

accepted : {s : Settings} {short : Bool} → Allowed s short → s.order ≤ 3 → Accepted s
accepted h order = record { modulus = h.modulus; some = h.some; few = h.few; order = order; weights = h.right }

module _ (s : Settings) (text : List ℕ) (n : ℕ) (counted : counted_entries 0 (entries_at s.variables text) ≡ Ok n) where
  abbrev E : List (List ℤ)
  E = levels_at s.variables text

  abbrev l : List Timed
  l = all_timed s.modulus s.variables E

  all : length E ≡ n
  all = (entries_all s.variables n text counted).1

  many : length l ≡ n
  many = timed_many s.modulus s.variables E ∙ all

  -- the place of a level out of range
  place_few : {k : ℕ} → length text ≤ 16384 → k ≡ first_state_outside s.modulus s.variables E → k ≤ 16384
  place_few h e = omega (arith, e, outside_few s.modulus s.variables E, all, count_small s.variables n text h counted)

  -- the records are read
  module _ (ok : Accepted s) (none : first_state_outside s.modulus s.variables E ≡ 0) where
    each : (a : Timed) → Among a l → IsPoint s a.0
    each = each_point s ok E (entries_all s.variables n text counted).0 none

    holds : {table numbers : List ℕ} → RecordedAs l table numbers → HeldIn s.variables l table numbers
    holds r = held s ok E (entries_all s.variables n text counted).0 none r

    low : {table numbers : List ℕ} → RecordedAs l table numbers → Below s.modulus table
    low r = records_low s ok E (entries_all s.variables n text counted).0 none r

table_long : {l : List Timed} {table numbers : List ℕ} → RecordedAs l table numbers → length table ≡ 32768
table_long r = ap (λ (t : List ℕ). length t) r.states ∙ length_fill 32768 _

numbers_long : {l : List Timed} {table numbers : List ℕ} → RecordedAs l table numbers → length numbers ≡ 4096
numbers_long r = ap (λ (t : List ℕ). length t) r.courses ∙ length_fill 4096 _

rows_fit : {l : List Timed} {table numbers : List ℕ} → RecordedAs l table numbers → 8 * length l ≤ length table
rows_fit r = omega (arith, table_long r, r.few)

-- the place, from 1, of the record that was out of range, or 0
all_read : (r : Result (Unit {0}) ℕ) → ((k : ℕ) → r ≡ Err k → ⊥) → place_outside r ≡ 0
unfolding place_outside
all_read (Ok u) n = refl
all_read (Err k) n = absurd (n k refl)

one_outside : (r : Result (Unit {0}) ℕ) (k : ℕ) → r ≡ Err k → place_outside r ≡ suc k
unfolding place_outside
one_outside r k e = ap place_outside e

-- the text's part is no longer than the text
part_small : (from : ℕ) (text : List ℕ) → length text ≤ 16384 → length (drop from text) ≤ 16384
part_small from text h = omega (arith, length-drop from text, h)

pub returns-in_err-check_settings : goal.returns-in_err-check_settings
unfolding course_answer fault_of
returns-in_err-check_settings c =
    let p = err_from_is_err_and c.from_residual.result c.from_residual.ensures.1 in
    let f = c.in_err-check_settings.field-0.0 in
    let s = c.args.settings in
    let text = drop c.args.from c.args.text.now in
    let first = settings_refuse s text c.args.course c.args.short _ c.in_err-check_settings.ensures (number_above_0 f.refusal) in
    rw (p.1, p.2) (run_refused s text c.args.course c.args.short (lent_mut c.args.tables) c.args.interpolants.now _ first (number_above_0 f.refusal))

pub overflow_cast-p : goal.overflow_cast-p
overflow_cast-p c = let h = modulus_range _ (space c.args.settings c.args.short c.in_ok-check_settings.ensures).modulus in omega arith

pub read_records-requires-clause-at_in_bounds : goal.read_records-requires-clause-at_in_bounds
read_records-requires-clause-at_in_bounds c =
    let h = space c.args.settings c.args.short c.in_ok-check_settings.ensures in
    let k = modulus_range _ h.modulus in
    (c.requires.from_in_bounds.0, c.requires.from_in_bounds.1, h.some, h.few, omega arith)

pub read_records-requires-clause-records_value : goal.read_records-requires-clause-records_value
read_records-requires-clause-records_value c = (sym (fill_zeros 32768), sym (fill_zeros 4096))

pub overflow_cast-result : goal.overflow_cast-result
overflow_cast-result c =
    let few = place_few c.args.settings (drop c.args.from c.args.text.now) c.args.entries c.requires.text_value
    (part_small c.args.from c.args.text.now c.requires.from_in_bounds.1) c.read_records.ensures.place in
    omega (arith, one_outside c.read_records.result c.in-Err.record c.in-Err.is, few)

pub overflow_add-result : goal.overflow_add-result
overflow_add-result c =
    let few = place_few c.args.settings (drop c.args.from c.args.text.now) c.args.entries c.requires.text_value
    (part_small c.args.from c.args.text.now c.requires.from_in_bounds.1) c.read_records.ensures.place in
    omega (arith, one_outside c.read_records.result c.in-Err.record c.in-Err.is, few)

pub returns-in-Err : goal.returns-in-Err
unfolding course_answer number_of
returns-in-Err c =
    let k = place_outside c.read_records.result in
    let s = c.args.settings in
    let text = drop c.args.from c.args.text.now in
    let h = space s c.args.short c.in_ok-check_settings.ensures in
    let i = one_outside c.read_records.result c.in-Err.record c.in-Err.is in
    let j : c.in-Err.record + 2 ≡ suc k = omega (arith, i) in
    rw j
    (run_refused s text c.args.course c.args.short (lent_mut c.args.tables) c.args.interpolants.now (refusal_at 9 (suc k))
    (state_refuses s text c.args.course c.args.short h k c.read_records.ensures.place (λ z. omega (arith, i, z))) (λ z. omega (arith, z)))

pub decide-requires-clause-count_le_most_records : goal.decide-requires-clause-count_le_most_records
decide-requires-clause-count_le_most_records c =
    let r = c.read_records.ensures.recorded (all_read c.read_records.result c.in_default.not-Err) in
    (omega (arith, r.few, many c.args.settings (drop c.args.from c.args.text.now) c.args.entries c.requires.text_value), table_long r, numbers_long r)

pub returns-in_err-decided : goal.returns-in_err-decided
unfolding course_answer decided_of
returns-in_err-decided c =
    let p = err_from_is_err_and c.from_residual-in_err-decided.result c.from_residual-in_err-decided.ensures.1 in
    let f = c.in_err-decided.field-0.0 in
    let s = c.args.settings in
    let text = drop c.args.from c.args.text.now in
    let h = space s c.args.short c.in_ok-check_settings.ensures in
    let ok = accepted h c.requires.order_bound.0 in
    let r = c.read_records.ensures.recorded (all_read c.read_records.result c.in_default.not-Err) in
    let none = sym c.read_records.ensures.place ∙ all_read c.read_records.result c.in_default.not-Err in
    let d = c.in_err-decided.ensures s.variables (l s text c.args.entries c.requires.text_value)
    (holds s text c.args.entries c.requires.text_value ok none r) (many s text c.args.entries c.requires.text_value) in
    rw (p.1, p.2)
    (run_refused s text c.args.course c.args.short (lent_mut c.args.tables) c.args.interpolants.now (refusal_at (number_of f.refusal) f.at)
    (records_decide s text c.args.course c.args.short h none _ _ d.answer) (number_above_0 f.refusal))

pub write_course-requires-clause-points_given : goal.write_course-requires-clause-points_given
unfolding decided_of
write_course-requires-clause-points_given c =
    let s = c.args.settings in
    let text = drop c.args.from c.args.text.now in
    let k = c.requires.text_value in
    let ok = accepted (space s c.args.short c.in_ok-check_settings.ensures) c.requires.order_bound.0 in
    let r = c.read_records.ensures.recorded (all_read c.read_records.result c.in_default.not-Err) in
    let none = sym c.read_records.ensures.place ∙ all_read c.read_records.result c.in_default.not-Err in
    let d = c.in_ok-decided.ensures s.variables (l s text c.args.entries k) (holds s text c.args.entries k ok none r) (many s text c.args.entries k) in
    let zero = sym (ap (λ (x : ℕ × ℕ). x.0) d.answer) in
    (given s ok c.args.course (l s text c.args.entries k) (each s text c.args.entries k ok none) zero (d.tabled refl), ap (λ (t : List ℕ). length t) (d.tabled refl).times ∙ length_fill 64 _)

pub write_course-requires-clause-counts_value : goal.write_course-requires-clause-counts_value
write_course-requires-clause-counts_value c = c.requires.counts_value (space c.args.settings c.args.short c.in_ok-check_settings.ensures).long

pub write_course-requires-clause-records_len : goal.write_course-requires-clause-records_len
unfolding decided_of
write_course-requires-clause-records_len c =
    let s = c.args.settings in
    let text = drop c.args.from c.args.text.now in
    let k = c.requires.text_value in
    let ok = accepted (space s c.args.short c.in_ok-check_settings.ensures) c.requires.order_bound.0 in
    let r = c.read_records.ensures.recorded (all_read c.read_records.result c.in_default.not-Err) in
    let none = sym c.read_records.ensures.place ∙ all_read c.read_records.result c.in_default.not-Err in
    let d = c.in_ok-decided.ensures s.variables (l s text c.args.entries k) (holds s text c.args.entries k ok none r) (many s text c.args.entries k) in
    (table_long r, low s text c.args.entries k ok none r, omega (arith, d.inside refl, r.few))

pub write_course-requires-clause-firsts_len : goal.write_course-requires-clause-firsts_len
unfolding decided_of
write_course-requires-clause-firsts_len c =
    let s = c.args.settings in
    let text = drop c.args.from c.args.text.now in
    let k = c.requires.text_value in
    let ok = accepted (space s c.args.short c.in_ok-check_settings.ensures) c.requires.order_bound.0 in
    let r = c.read_records.ensures.recorded (all_read c.read_records.result c.in_default.not-Err) in
    let none = sym c.read_records.ensures.place ∙ all_read c.read_records.result c.in_default.not-Err in
    let d = c.in_ok-decided.ensures s.variables (l s text c.args.entries k) (holds s text c.args.entries k ok none r) (many s text c.args.entries k) in
    let zero = sym (ap (λ (x : ℕ × ℕ). x.0) d.answer) in (
      c.decide.auto.firsts,
      inside s ok c.args.course (l s text c.args.entries k) (each s text c.args.entries k ok none) zero (d.tabled refl) (d.kept refl) (rows_fit r)
          (low s text c.args.entries k ok none r) c.decide.auto.firsts,
    )

pub returns : goal.returns
unfolding decided_of
returns c =
    let s = c.args.settings in
    let text = drop c.args.from c.args.text.now in
    let k = c.requires.text_value in
    let n = c.args.entries in
    let h = space s c.args.short c.in_ok-check_settings.ensures in
    let ok = accepted h c.requires.order_bound.0 in
    let r = c.read_records.ensures.recorded (all_read c.read_records.result c.in_default.not-Err) in
    let none = sym c.read_records.ensures.place ∙ all_read c.read_records.result c.in_default.not-Err in
    let d = c.in_ok-decided.ensures s.variables (l s text n k) (holds s text n k ok none r) (many s text n k) in
    let zero = sym (ap (λ (x : ℕ × ℕ). x.0) d.answer) in
    run_written s text c.args.course c.args.short (lent_mut c.args.tables) c.args.interpolants.now
    (answer_is s ok c.args.course (l s text n k) (each s text n k ok none) zero (d.tabled refl) (d.kept refl) (rows_fit r) (low s text n k ok none r)
    c.decide.auto.firsts (d.first refl) c.write_course.ensures)
    (tables_are s ok c.args.course (l s text n k) (each s text n k ok none) zero (d.tabled refl) (d.kept refl) (rows_fit r) (low s text n k ok none r)
    c.decide.auto.firsts (d.first refl) c.write_course.ensures)
    (genes_told s ok c.args.course (l s text n k) (each s text n k ok none) zero (d.tabled refl) (d.kept refl) (rows_fit r) (low s text n k ok none r)
    c.decide.auto.firsts (d.first refl) c.write_course.ensures)
    ∙ run_accepted s text c.args.course c.args.short (lent_mut c.args.tables) c.args.interpolants.now (refusal_at 0 0)
    (records_decide s text c.args.course c.args.short h none _ _ d.answer) refl
