-- What C takes out of the number that the text reader returns: the refusal with its record, or the number of points and the settings.
use mathlib.Core.Path.{◌≡◌, refl, sym, ◌∙◌, ap, subst}
use mathlib.Core.Bool.{Bool, true, false, cond}
use mathlib.Core.List.{List, [], ◌∷◌}
use mathlib.Core.Logic.{◌≢◌}
use Prim.Native.Nat.{ℕ, ◌≤◌}
use native.Mathlib.Omega.{arith}
use native.Mathlib.Decide.{ℕ_discrete}
use lib.ListN.{length}
use lib.Dec.{eqb}
use borrow.Author.Tests.{eqb-true, eq-eqb, ne_eqb}
use Rattle.residue.proofs.level.Moduli.{modulus_range}
use Rattle.specification.specs.Refusal.{first_of}
use Rattle.specification.specs.Counted.{entered_all, gathered}
use Rattle.specification.proofs.Numbers.{at_most}
use Rattle.notation.specs.Fields.{records_of}
use Rattle.comma_text.specs.reading.Answers.{Refusal}
use Rattle.comma_text.specs.reading.Answers.{Read}
use Rattle.comma_text.specs.reading.Text.{header_in, form_fault, Contents, valued_points, not_refused, TextCase}
use Rattle.comma_text.specs.reading.Text.{TextOutcome}
use Rattle.comma_text.specs.reading.Text.{short_buffers, header_cases, points_cases, entries_cases, read_cases, text_accepted, text_refused, text_decided, read_outcome}
use Rattle.comma_text.proofs.reading.FirstValues.{few_points}
use Rattle.comma_text.proofs.reading.PassedText.{said_in, PassedText, text_passed}
use Rattle.comma_text.proofs.reading.WholeText.{text_never_eleven}
use Rattle.misqafur.specs.Packing.{packed, packed_read}
use Rattle.misqafur.specs.Unpacking.{refusal_from, points_from, fault_from, modulus_from, variables_from, order_from}

-- the parts of an answer that is not refused, each within a byte
settings_back : (n p m o : ℕ) → n ≤ 255 → p ≤ 255 → m ≤ 255 → o ≤ 15 → let k = packed (0 ∷ n ∷ p ∷ m ∷ o ∷ []) in
    (refusal_from k ≡ 0) × (points_from k ≡ n) × (modulus_from k ≡ p) × (variables_from k ≡ m) × (order_from k ≡ o)
unfolding refusal_from points_from modulus_from variables_from order_from
settings_back n p m o a b c d = (omega arith, omega arith, omega arith, omega arith, omega arith)

-- and of one that is
record_back : (a b : ℕ) → a ≤ 255 → (refusal_from (packed (a ∷ b ∷ [])) ≡ a) × (fault_from (packed (a ∷ b ∷ [])) ≡ b)
unfolding refusal_from fault_from
record_back a b h = (omega arith, omega arith)

module _ (text states values counts weights : List ℕ) where
  -- what the text says, if its form is right; the cases in which it is refused, and what they decide
  abbrev pub says : Contents
  says = said_in text

  abbrev pub cases : List TextCase
  cases = read_cases text (form_fault (header_in (records_of text)) (records_of text)) says (short_buffers (length states) (length values) (length counts) (length weights))

  abbrev pub decided : Refusal
  decided = first_of not_refused cases

  abbrev pub o : TextOutcome
  o = read_outcome text states values counts weights

  abbrev pub r : Read
  r = o.answer

  pub accepted_is : decided.refusal ≡ 0 → o ≡ text_accepted says states values counts weights
  unfolding read_outcome text_decided
  accepted_is e = ap (λ (b : Bool). cond b (text_accepted says states values counts weights) (text_refused decided states values counts weights)) (eq-eqb decided.refusal 0 e)

  refused_is : decided.refusal ≢ 0 → o ≡ text_refused decided states values counts weights
  unfolding read_outcome text_decided
  refused_is n = ap (λ (b : Bool). cond b (text_accepted says states values counts weights) (text_refused decided states values counts weights)) (ne_eqb decided.refusal 0 n)

  pub refusal_is : r.refusal ≡ decided.refusal
  unfolding text_accepted text_refused
  refusal_is = go (ℕ_discrete decided.refusal 0)
    where
      go : Dec (decided.refusal ≡ 0) → r.refusal ≡ decided.refusal
      go (yes e) = ap (λ (x : TextOutcome). x.answer.refusal) (accepted_is e) ∙ sym e
      go (no n) = ap (λ (x : TextOutcome). x.answer.refusal) (refused_is n)

  refusal_few : r.refusal ≤ 15
  unfolding read_cases header_cases entries_cases points_cases
  refusal_few = rw refusal_is (at_most (λ c. c.refusal) 15 not_refused cases (omega arith) tt)

  -- what an accepted text has passed
  pub taken : r.refusal ≡ 0 → PassedText text
  taken z = text_passed text (short_buffers (length states) (length values) (length counts) (length weights)) (sym refusal_is ∙ z)

  -- so its numbers lie within a byte
  settings_few : r.refusal ≡ 0 → (r.n ≤ 64) × (r.modulus ≤ 61) × (r.variables ≤ 8) × (r.order ≤ 3)
  unfolding text_accepted gathered entered_all
  settings_few z = let w = taken z in
      subst Few (sym (accepted_is (sym refusal_is ∙ z))) (
        few_points [] (valued_points says) none_few w.many,
        omega (arith, modulus_range says.header.modulus w.settings.modulus),
        w.settings.few,
        w.settings.order,
      )
    where
      Few : TextOutcome → Type 0
      Few x = (x.answer.n ≤ 64) × (x.answer.modulus ≤ 61) × (x.answer.variables ≤ 8) × (x.answer.order ≤ 3)

      none_few : length (gathered []) ≤ 64
      none_few = omega arith

  parts_back : r.refusal ≡ 0 → let k = packed (0 ∷ r.n ∷ r.modulus ∷ r.variables ∷ r.order ∷ []) in
      (refusal_from k ≡ 0) × (points_from k ≡ r.n) × (modulus_from k ≡ r.modulus) × (variables_from k ≡ r.variables) × (order_from k ≡ r.order)
  parts_back z = let f = settings_few z in
      settings_back r.n r.modulus r.variables r.order (omega (arith, f.0)) (omega (arith, f.1)) (omega (arith, f.2)) (omega (arith, f.3))

  -- The reader's refusal is read back, with its record where there is one, and else with the number of points and the settings.
  pub read_refusal : refusal_from (packed_read r) ≡ r.refusal
  read_refusal = go (eqb r.refusal 0) refl
    where
      go : (b : Bool) → eqb r.refusal 0 ≡ b
          → refusal_from (cond b (packed (0 ∷ r.n ∷ r.modulus ∷ r.variables ∷ r.order ∷ [])) (packed (r.refusal ∷ r.at ∷ []))) ≡ r.refusal
      go true e =
          let z = eqb-true r.refusal 0 e in
          (parts_back z).0 ∙ sym z
      go false e = (record_back r.refusal r.at (omega (arith, refusal_few))).0

  pub read_record : r.refusal ≢ 0 → fault_from (packed_read r) ≡ r.at
  read_record n = rw (ne_eqb r.refusal 0 n) (record_back r.refusal r.at (omega (arith, refusal_few))).1

  pub read_settings : r.refusal ≡ 0 → let k = packed_read r in
      (points_from k ≡ r.n) × (modulus_from k ≡ r.modulus) × (variables_from k ≡ r.variables) × (order_from k ≡ r.order)
  read_settings z =
      let b = parts_back z in rw (eq-eqb r.refusal 0 z) (b.1, b.2, b.3, b.4)

  -- A refusal comes with its record alone, and no lent byte has changed.
  pub read_alone : r.refusal ≢ 0
      → ((r.n ≡ 0) × (r.modulus ≡ 0) × (r.variables ≡ 0) × (r.order ≡ 0)) × (o.states ≡ states) × (o.values ≡ values) × (o.counts ≡ counts) × (o.weights ≡ weights)
  unfolding text_refused
  read_alone n = subst Same (sym (refused_is (λ z. n (refusal_is ∙ z)))) ((refl, refl, refl, refl), refl, refl, refl, refl)
    where
      Same : TextOutcome → Type 0
      Same x = ((x.answer.n ≡ 0) × (x.answer.modulus ≡ 0) × (x.answer.variables ≡ 0) × (x.answer.order ≡ 0))
          × (x.states ≡ states) × (x.values ≡ values) × (x.counts ≡ counts) × (x.weights ≡ weights)

  -- no text is refused with 11
  pub read_never_eleven : refusal_from (packed_read r) ≢ 11
  read_never_eleven e = text_never_eleven text states values counts weights (sym read_refusal ∙ e)
