-- `running::time_course` meets its contract: the length, the header, the form of the records, and what they decide and leave.
use borrow.Author.Tests.{ltb-false}
use mathlib.Core.Path.{◌≡◌, refl, sym, ap, ◌∙◌}
use mathlib.Core.Bool.{Bool, false, ◌||◌}
use mathlib.Core.List.{List, []}
use Prim.Native.Nat.{ℕ, ◌≤◌}
use native.Mathlib.Omega.{arith}
use lib.Dec.{ltb}
use lib.ListN.{length, drop}
use Rattle.std.specs.Prelude.{Err}
use Rattle.std.proofs.Common.{rules}
use Rattle.std.proofs.lemmas.Result.{err_from_is_err_and}
use Rattle.residue.proofs.Tests.{neither}
use Rattle.specification.specs.Answers.{number_of}
use Rattle.specification.specs.Lent.{lent_mut}
use Rattle.specification.specs.Tables.{Tables, too_short}
use Rattle.specification.specs.declared.settings.Settings.{Settings}
use Rattle.specification.proofs.Refused.{number_above_0}
use Rattle.notation.specs.Forms.{Header}
use Rattle.comma_text.specs.reading.Text.{settings_by}
use Rattle.comma_text.specs.reading.Records.{header_said, entries_at}
use Rattle.comma_text.proofs.reading.WholeText.{header_order}
use Rattle.forward.specs.Outcome.{short_for, course_answer, course_refused}
use Rattle.forward.specs.Running.{RunOutcome, run_outcome}
use Rattle.forward.proofs.running.RunCases.{taken_long}
use Rattle.forward.proofs.running.WholeCourse.{with_weights, counted_free, too_long, header_broken, course_broken, course_taken, course_kept}
use Rattle.forward.proofs.running.time_course.Goals as goal

-- buffers that are long enough
module _ (u : Tables) (g w : List ℕ) (e : short_for u g w ≡ false) where
  both : ((too_short u || ltb (length g) 512) ≡ false) × (ltb (length w) 8 ≡ false)
  unfolding short_for
  both = neither (too_short u || ltb (length g) 512) (ltb (length w) 8) e

  rooms : (too_short u ≡ false) × (512 ≤ length g)
  rooms = let k = neither (too_short u) (ltb (length g) 512) both.0 in (k.0, ltb-false (length g) 512 k.1)

  weights_room : 8 ≤ length w
  weights_room = ltb-false (length w) 8 both.1

-- what a header says, with its weights
abbrev header : ℕ → ℕ → ℕ → List ℕ → Header
header modulus variables order weights = record { variables = variables; modulus = modulus; order = order; weights = weights }

-- what was run, under what is known of the lengths
ran : (s : Settings) (rest : List ℕ) (course : ℕ) (u : Tables) (g w : List ℕ) {short : Bool} {o : RunOutcome} → short ≡ short_for u g w
    → o ≡ run_outcome s rest course short u g → o ≡ run_outcome s rest course (short_for u g w) u g
ran s rest course u g w e r = r ∙ ap (λ (b : Bool). run_outcome s rest course b u g) e

pub returns-then-text-gt16384 : goal.returns-then-text-gt16384
unfolding course_refused course_answer number_of
returns-then-text-gt16384 c = too_long c.args.text.now c.args.course (lent_mut c.args.tables) c.args.interpolants.now c.args.weights.now c.if-text-gt16384.true

pub returns-in_default : goal.returns-in_default
unfolding course_refused course_answer number_of header_said
returns-in_default c =
    header_broken c.args.text.now c.args.course (lent_mut c.args.tables) c.args.interpolants.now c.args.weights.now c.if-text-gt16384.false
    (sym c.in_default.ensures.said)

pub returns-in_err-n : goal.returns-in_err-n
unfolding course_refused course_answer header_said
returns-in_err-n c =
    let e : c.from_residual.result ≡ Err c.in_err-n.field-0.0 = search rules in
    let h = header c.in-Some.field-0.modulus c.in-Some.field-0.variables c.in-Some.field-0.order c.read_header.new.weights in
    rw e (course_broken c.args.text.now c.args.course (lent_mut c.args.tables) c.args.interpolants.now c.args.weights.now c.if-text-gt16384.false h
    (drop c.in-Some.field-0.next c.args.text.now) (sym c.in-Some.ensures.said) _ c.in_err-n.ensures)

pub run_records-requires-clause-order_bound : goal.run_records-requires-clause-order_bound
unfolding header_said
run_records-requires-clause-order_bound c =
    let h = header c.in-Some.field-0.modulus c.in-Some.field-0.variables c.in-Some.field-0.order c.read_header.new.weights in
    (header_order h (drop c.in-Some.field-0.next c.args.text.now) _ (sym c.in-Some.ensures.said), c.read_header.auto.weights)

pub run_records-requires-clause-text_value : goal.run_records-requires-clause-text_value
run_records-requires-clause-text_value c =
    (counted_free c.in-Some.field-0.variables c.in_ok-n.n [] (entries_at c.in-Some.field-0.variables (drop c.in-Some.field-0.next c.args.text.now)) c.in_ok-n.ensures).1

pub run_records-requires-clause-counts_value : goal.run_records-requires-clause-counts_value
run_records-requires-clause-counts_value c =
    λ z. rooms (lent_mut c.args.tables) c.args.interpolants.now c.args.weights.now (sym c.short_buffers-short.ensures ∙ z)

pub returns-in_err-ran : goal.returns-in_err-ran
unfolding course_answer header_said
returns-in_err-ran c =
    let p = err_from_is_err_and c.from_residual-in_err-ran.result c.from_residual-in_err-ran.ensures.1 in
    let f = c.in_err-ran.field-0.0 in
    let h = header c.in-Some.field-0.modulus c.in-Some.field-0.variables c.in-Some.field-0.order c.read_header.new.weights in
    let rest = drop c.in-Some.field-0.next c.args.text.now in
    let u = lent_mut c.args.tables in
    rw (p.1, p.2)
    (course_kept c.args.text.now c.args.course u c.args.interpolants.now c.args.weights.now c.if-text-gt16384.false h rest (sym c.in-Some.ensures.said)
    c.in_ok-n.n c.in_ok-n.ensures _
    (ran (settings_by h) rest c.args.course u c.args.interpolants.now c.args.weights.now c.short_buffers-short.ensures c.in_err-ran.ensures) (number_above_0 f.refusal))

pub copy-requires : goal.copy-requires
unfolding course_answer
copy-requires c =
    let h = header c.in-Some.field-0.modulus c.in-Some.field-0.variables c.in-Some.field-0.order c.read_header.new.weights in
    let rest = drop c.in-Some.field-0.next c.args.text.now in
    let u = lent_mut c.args.tables in
    let g = c.args.interpolants.now in
    let w = c.args.weights.now in
    let run = ran (settings_by h) rest c.args.course u g w c.short_buffers-short.ensures c.in_ok-ran.ensures in
    omega (arith, c.read_header.auto.weights, weights_room u g w (taken_long (settings_by h) rest c.args.course _ u g _ run refl))

pub returns : goal.returns
unfolding course_answer header_said
returns c =
    let h = header c.in-Some.field-0.modulus c.in-Some.field-0.variables c.in-Some.field-0.order c.read_header.new.weights in
    let rest = drop c.in-Some.field-0.next c.args.text.now in
    let u = lent_mut c.args.tables in
    let g = c.args.interpolants.now in
    let w = c.args.weights.now in
    let run = ran (settings_by h) rest c.args.course u g w c.short_buffers-short.ensures c.in_ok-ran.ensures in
    ap (with_weights _) c.copy.ensures
    ∙ course_taken c.args.text.now c.args.course u g w c.if-text-gt16384.false h rest (sym c.in-Some.ensures.said) c.in_ok-n.n c.in_ok-n.ensures _ run refl
