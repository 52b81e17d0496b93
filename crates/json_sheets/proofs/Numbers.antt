-- The numbers that the two calls can give, and that a refusal comes alone: no other part of the answer, and no lent byte changed.
use mathlib.Core.Path.{◌≡◌, refl, sym, ◌∙◌, subst}
use mathlib.Core.Logic.{◌≢◌}
use mathlib.Core.List.{List}
use Prim.Native.Nat.{ℕ, ◌≤◌}
use native.Mathlib.Decide.{ℕ_discrete}
use native.Mathlib.Omega.{arith}
use lib.ListN.{length}
use borrow.Author.Tests.{ne_eqb}
use Rattle.residue.proofs.level.Moduli.{modulus_range}
use Rattle.specification.specs.declared.settings.Settings.{Settings}
use Rattle.specification.specs.Refusal.{first_of}
use Rattle.specification.specs.Settings.{settings_cases}
use Rattle.specification.specs.Tables.{Tables}
use Rattle.specification.proofs.Numbers.{never, at_most}
use Rattle.json_sheets.specs.Calls.{Taken}
use Rattle.json_sheets.specs.Sheets.{settings_in, state_count, row_count_in}
use Rattle.json_sheets.specs.Calls.{WrittenText, wrote, writing, sheet_cases, write_cases, write_outcome, Received, read_refused, sheet_taken, document_cases, read_cases, read_outcome}
use Rattle.json_sheets.proofs.SheetDocuments.{Checked, few_leads}
use Rattle.json_sheets.proofs.TextLength.{sheet_bound}
use Rattle.json_sheets.proofs.ReadBack.{writable, write_ends}
use Rattle.json_sheets.proofs.ReadOnly.{d, taken, passed, refusal_is}

-- what the parts of an answer do not exceed
pub record TakenFits (a : Taken) : Type 0 where
  pub number : a.refusal ≤ 19
  pub n : a.n ≤ 64
  pub modulus : a.modulus ≤ 61
  pub variables : a.variables ≤ 8
  pub order : a.order ≤ 3
  pub r : a.r ≤ 449

taken_fits : (s : Settings) (n r : ℕ) (u : Tables) → Checked s n r u → (new t : Tables) (w : List ℕ) → TakenFits (sheet_taken s n r new t w).answer
unfolding sheet_taken
taken_fits s n r u c new t w = record {
  number = omega arith;
  n = c.few;
  modulus = (modulus_range s.modulus c.settings.modulus).1;
  variables = c.settings.few;
  order = c.settings.order;
  r = few_leads s n r u c;
}

refused_fits : (k : ℕ) (t : Tables) (w : List ℕ) → k ≤ 19 → TakenFits (read_refused k t w).answer
unfolding read_refused
refused_fits k t w h = record { number = h; n = omega arith; modulus = omega arith; variables = omega arith; order = omega arith; r = omega arith }

module _ (s : Settings) (n r : ℕ) (t : Tables) (buffer : List ℕ) where
  abbrev o : WrittenText
  o = write_outcome s n r t buffer

  number : o.answer.refusal ≡ first_of 0 (write_cases s n r t buffer)
  unfolding write_outcome writing
  number = refl

  pub write_never_eleven : o.answer.refusal ≢ 11
  unfolding write_cases sheet_cases settings_cases
  write_never_eleven e = never (λ k. k) 11 0 (write_cases s n r t buffer) (λ z. omega arith) tt (sym number ∙ e)

  pub write_few : o.answer.refusal ≤ 15
  unfolding write_cases sheet_cases settings_cases
  write_few = rw number (at_most (λ k. k) 15 0 (write_cases s n r t buffer) (omega arith) tt)

  pub write_alone : o.answer.refusal ≢ 0 → o ≡ wrote (record { refusal = o.answer.refusal; count = 0 }) buffer
  unfolding write_outcome writing
  write_alone z = simp (ne_eqb (first_of 0 (write_cases s n r t buffer)) 0 (λ e. z (number ∙ e)))

  -- a text fits the buffer, and its length 24 bits
  pub write_count : length s.weights ≡ 8 → o.answer.count ≤ 103534
  write_count eight = go (ℕ_discrete (first_of 0 (write_cases s n r t buffer)) 0)
    where
      go : Dec (first_of 0 (write_cases s n r t buffer) ≡ 0) → o.answer.count ≤ 103534
      go (yes z) = rw (write_ends s eight n r t buffer z) (sheet_bound s n r t (writable s eight n r t buffer z).sheet)
      go (no z) = rw (write_alone (λ e. z (sym number ∙ e))) (omega arith)

module _ (text : List ℕ) (t : Tables) (w : List ℕ) where
  abbrev q : Received
  q = read_outcome text t w

  pub read_never_eleven : q.answer.refusal ≢ 11
  unfolding read_cases document_cases sheet_cases settings_cases
  read_never_eleven e = never (λ k. k) 11 0 (read_cases text t w) (λ z. omega arith) tt (sym (refusal_is text t w) ∙ e)

  pub read_few : q.answer.refusal ≤ 19
  unfolding read_cases document_cases sheet_cases settings_cases
  read_few = rw (refusal_is text t w) (at_most (λ k. k) 19 0 (read_cases text t w) (omega arith) tt)

  pub read_alone : q.answer.refusal ≢ 0 → q ≡ read_refused q.answer.refusal t w
  unfolding read_outcome
  read_alone z = rw (refusal_is text t w) (simp (ne_eqb (first_of 0 (read_cases text t w)) 0 (λ e. z (refusal_is text t w ∙ e))))

  -- the parts of the answer, refused or not
  pub read_fits : TakenFits q.answer
  read_fits = go (ℕ_discrete (first_of 0 (read_cases text t w)) 0)
    where
      go : Dec (first_of 0 (read_cases text t w) ≡ 0) → TakenFits q.answer
      go (yes z) =
          let c = (passed text t w z).sheet in
          subst (λ (x : Received). TakenFits x.answer) (sym (taken text t w z)) (taken_fits (settings_in (d text t w z)) (state_count (d text t w z)) (row_count_in (d text t w z)) _ c _ t w)
      go (no z) = subst (λ (x : Received). TakenFits x.answer) (sym (read_alone (λ e. z (sym (refusal_is text t w) ∙ e)))) (refused_fits q.answer.refusal t w read_few)
