-- `reading::read_entries` meets its contract: each refusal is the first case that holds, and an accepted text leaves the gathered tables.
use mathlib.Core.Path.{◌≡◌, refl, sym, ap, ◌∙◌}
use mathlib.Core.Bool.{Bool}
use mathlib.Core.List.{List, ◌++◌}
use Prim.Native.Nat.{ℕ, ◌^◌, ◌<◌, ◌≤◌}
use native.Mathlib.Omega.{arith}
use lib.ListN.{length, drop, length-drop}
use Rattle.std.specs.Prelude.{Ok}
use Rattle.std.proofs.lemmas.Result.{err_from_is_err_and}
use Rattle.residue.proofs.level.Moduli.{modulus_range}
use Rattle.residue.proofs.Layouts.{fill_zeros}
use Rattle.specification.specs.Refusal.{first_of}
use Rattle.specification.specs.declared.settings.Settings.{Settings}
use Rattle.specification.proofs.Refused.{number_above_0}
use Rattle.comma_text.specs.reading.Answers.{Refusal, fault_of, Gathered, gathered_of, read_of}
use Rattle.comma_text.specs.reading.Text.{Contents, valued_points, entries_cases, header_cases, not_refused, refusal_at}
use Rattle.comma_text.specs.reading.Text.{text_refused}
use Rattle.comma_text.specs.reading.Records.{entries_at, counted_entries}
use Rattle.comma_text.specs.reading.Points.{levels_at, saying, answered, GatheredAs}
use Rattle.comma_text.proofs.reading.TextCases.{Allowed, room, long_buffers, first_of_both, settings_over, answer_refusal, answer_number}
use Rattle.comma_text.proofs.reading.TextCases.{text_refused_lem, text_accepted_lem, assembled}
use Rattle.comma_text.proofs.reading.FirstValues.{gathered_points}
use Rattle.comma_text.proofs.reading.WholeText.{count_small}
use Rattle.comma_text.proofs.reading.read_entries.Goals as goal

-- over plain numbers
at_most : {a b n : ℕ} → a ≡ n → n ≤ b → a ≤ b
at_most e h = omega (arith, e, h)

byte : {a : ℕ} → a ≤ 8 → a < 2 ^ 8
byte h = omega (arith, h)

wide : {a : ℕ} → (2 ≤ a) × (a ≤ 61) → a < 2 ^ 16
wide h = omega (arith, h)

-- There are no more entries than bytes.
few : (m n from : ℕ) (text : List ℕ) → length text ≤ 16384 → counted_entries 0 (entries_at m (drop from text)) ≡ Ok n → n ≤ 16384
few m n from text h e = count_small m n (drop from text) (omega (arith, length-drop from text, h)) e

module _ (u : Settings) {b short : Bool} (e : b ≡ short) where
  first : {r : Refusal} → r ≡ first_of not_refused (header_cases u b) → r ≡ first_of not_refused (header_cases u short)
  first d = d ∙ ap (λ (k : Bool). first_of not_refused (header_cases u k)) e

  -- settings and lengths that are not refused
  space : {x : Unit {0}} → fault_of (Ok x) ≡ first_of not_refused (header_cases u b) → Allowed u short
  unfolding fault_of
  space d = room u short _ (first d) refl

-- what the entries decide
module _ (u : Settings) (text : List ℕ) where
  abbrev says : Contents
  says = saying u text

  abbrev number : ℕ
  number = length (gathered_points (valued_points says))

  module _ {a : Gathered} {points counts values : List ℕ} (g : GatheredAs u.modulus u.variables (levels_at u.variables text) a points counts values) where
    answer : a ≡ answered (first_of not_refused (entries_cases says)) number
    unfolding saying valued_points
    answer = g.answer u.order u.weights

    decided : {short : Bool} → Allowed u short → refusal_at a.refusal a.at ≡ first_of not_refused (header_cases u short ++ entries_cases says)
    decided h = answer_refusal _ number answer ∙ sym (settings_over _ _ h.modulus h.some h.few h.right h.long (entries_cases says))

pub returns-in_err-check_settings : goal.returns-in_err-check_settings
unfolding text_refused read_of fault_of
returns-in_err-check_settings c =
    let p = err_from_is_err_and c.from_residual.result c.from_residual.ensures.1 in
    let f = c.in_err-check_settings.field-0.0 in
    let d = first c.args.settings c.short_buffers-short.ensures c.in_err-check_settings.ensures in
    rw (p.1, p.2) (text_refused_lem _ _ _ _ _ _ _ (first_of_both _ _ _ (number_above_0 f.refusal) d) (number_above_0 f.refusal))

pub overflow_cast-p : goal.overflow_cast-p
overflow_cast-p c =
    let h = modulus_range _ (space _ c.short_buffers-short.ensures c.in_ok-check_settings.ensures).modulus in
    omega arith

pub gather_entries-requires-clause-at_in_bounds : goal.gather_entries-requires-clause-at_in_bounds
gather_entries-requires-clause-at_in_bounds c =
    let h = space _ c.short_buffers-short.ensures c.in_ok-check_settings.ensures in
    let k = modulus_range _ h.modulus in
    (c.requires.from_in_bounds.0, h.some, h.few, few _ _ c.args.from _ c.requires.from_in_bounds.1 c.requires.text_value, omega arith)

pub gather_entries-requires-clause-points_value : goal.gather_entries-requires-clause-points_value
gather_entries-requires-clause-points_value c = (sym (fill_zeros 512), sym (fill_zeros 64), sym (fill_zeros 64))

pub returns-in_err-n : goal.returns-in_err-n
unfolding text_refused read_of gathered_of
returns-in_err-n c =
    let p = err_from_is_err_and c.from_residual-in_err-n.result c.from_residual-in_err-n.ensures.1 in
    let f = c.in_err-n.field-0.0 in
    let h = space _ c.short_buffers-short.ensures c.in_ok-check_settings.ensures in
    rw (p.1, p.2) (text_refused_lem _ _ _ _ _ _ _ (decided c.args.settings _ c.in_err-n.ensures h) (number_above_0 f.refusal))

pub copy-requires : goal.copy-requires
copy-requires c =
    let h = space _ c.short_buffers-short.ensures c.in_ok-check_settings.ensures in
    at_most c.gather_entries.auto.points (long_buffers _ _ _ _ h.long).0

pub copy-requires-2 : goal.copy-requires-2
copy-requires-2 c =
    let h = space _ c.short_buffers-short.ensures c.in_ok-check_settings.ensures in
    at_most c.gather_entries.auto.values (long_buffers _ _ _ _ h.long).1

pub copy-requires-3 : goal.copy-requires-3
copy-requires-3 c =
    let h = space _ c.short_buffers-short.ensures c.in_ok-check_settings.ensures in
    at_most c.gather_entries.auto.counts (long_buffers _ _ _ _ h.long).2

pub copy-requires-4 : goal.copy-requires-4
copy-requires-4 c =
    let h = space _ c.short_buffers-short.ensures c.in_ok-check_settings.ensures in
    at_most c.requires.order_bound.1 (long_buffers _ _ _ _ h.long).3

pub overflow_cast-result : goal.overflow_cast-result
overflow_cast-result c = record { fits = wide (modulus_range _ (space _ c.short_buffers-short.ensures c.in_ok-check_settings.ensures).modulus) }

pub overflow_cast-result-2 : goal.overflow_cast-result-2
overflow_cast-result-2 c = record { fits = byte (space _ c.short_buffers-short.ensures c.in_ok-check_settings.ensures).few }

pub returns : goal.returns
unfolding read_of gathered_of
returns c =
    let u = c.args.settings in
    let text = drop c.args.from c.args.text.now in
    let h = space _ c.short_buffers-short.ensures c.in_ok-check_settings.ensures in
    let d = decided u text c.in_ok-n.ensures h in
    assembled u text _ _ _ _ (answer_number _ (number u text) (answer u text c.in_ok-n.ensures) refl) (c.in_ok-n.ensures.tabled refl)
    c.copy.ensures c.copy-2.ensures c.copy-3.ensures c.copy-4.ensures
    ∙ text_accepted_lem _ _ _ _ _ _ _ d refl
