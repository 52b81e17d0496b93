-- A text is refused for the first cause that holds of it, with its number and record: the claim of specs/reading/Causes.antt.
use mathlib.Core.Path.{◌≡◌, refl, sym, ap, ◌∙◌, subst}
use mathlib.Core.Bool.{Bool, true, false, not, cond, ◌&&◌, ◌||◌}
use mathlib.Core.List.{List, []}
use mathlib.Core.Logic.{◌≢◌, ◌⊎◌, inl, inr, ◌↔◌}
use mathlib.Core.Option.{Option}
use Prim.Native.Nat.{ℕ, zero, suc, ◌<◌, ◌≤◌}
use native.Mathlib.Omega.{arith}
use lib.IntN.{ℤ}
use lib.ListN.{length}
use lib.Dec.{T, eqb, leb, ltb, leb→le}
use borrow.Author.Tests.{ltb-true, lt-ltb, leb-true, leb-false, eqb-true, eqb-false, eq-eqb, ne_eqb, not-true, not-false}
use Rattle.residue.specs.Lists.{Among}
use Rattle.residue.specs.Modulus.{primes, is_one_of, is_modulus}
use Rattle.residue.proofs.level.Moduli as Moduli
use Rattle.residue.proofs.Tests.{Decides, so, not_so, by_test, of_true, and_right}
use Rattle.residue.proofs.Searches.{of_one}
use Rattle.specification.specs.Refusal.{first_of}
use Rattle.specification.specs.Settings.{right_weights}
use Rattle.notation.specs.Fields.{records_of}
use Rattle.notation.specs.Forms.{Header}
use Rattle.comma_text.specs.reading.Answers.{Refusal}
use Rattle.comma_text.specs.reading.Text.{header_in, form_fault, Contents, Valued, valued_points, is_outside, first_outside, first_after}
use Rattle.comma_text.specs.reading.Text.{too_many, too_often, other_value, not_refused}
use Rattle.comma_text.specs.reading.Text.{settings_by, short_buffers, header_cases, points_cases, entries_cases, read_cases}
use Rattle.comma_text.specs.reading.Text.{TextOutcome, text_accepted, text_refused, text_decided, read_outcome}
use Rattle.comma_text.specs.reading.Faults.{FirstAt, Says, Wrong, FaultAt, empty, no_header_lem, no_entry, TextFault}
use Rattle.comma_text.specs.reading.Causes.{OutOfRange, TooMany, TooOften, OtherValue, WeightZero, cause_number, causes, AtEntry, HoldsAt, ReadRefusals}
use Rattle.comma_text.specs.reading.Causes.{Cause, length_of_text, form, modulus, variables, weights, buffers, range, points, replicates, values}
use Rattle.comma_text.proofs.reading.FirstFault.{first_at, first_alone}
use Rattle.comma_text.proofs.reading.FormFaults.{form_faults, fault_read, text_faults}
use Rattle.comma_text.proofs.reading.SaidText.{said_by, says_read, says_found}
use Rattle.comma_text.proofs.reading.HeaderWeights.{weights_told}
use Rattle.comma_text.proofs.reading.PointFaults.{range_told, many_told, often_told, other_told}
use Rattle.comma_text.proofs.reading.FirstCause.{number_some, Told, Tells, none, more, tells, entry_tells, first_cause, no_cause, some_cause}

lt_told : (a b : ℕ) → Decides (a < b) (ltb a b)
lt_told a b = by_test (ltb a b) (ltb-true a b) (lt-ltb a b)

any_told : {W X Y Z : Type 0} {a b c d : Bool} → Decides W a → Decides X b → Decides Y c → Decides Z d → Decides (W ⊎ X ⊎ Y ⊎ Z) (a || b || c || d)
any_told (so w) e f g = so (inl w)
any_told (not_so n) (so x) f g = so (inr (inl x))
any_told (not_so n) (not_so k) (so y) g = so (inr (inr (inl y)))
any_told (not_so n) (not_so k) (not_so l) (so z) = so (inr (inr (inr z)))
any_told (not_so n) (not_so k) (not_so l) (not_so m) =
    not_so (λ u. elim u [ inl w ↦ n w | inr v ↦ elim v [ inl x ↦ k x | inr t ↦ elim t [ inl y ↦ l y | inr z ↦ m z ] ] ])

some_told : (k : ℕ) → Decides (k ≢ 0) (not (eqb k 0))
some_told k = by_test (not (eqb k 0)) (λ e. eqb-false k 0 (not-true _ e)) (λ n. ap not (ne_eqb k 0 n))

-- 3 and 4
modulus_told : (p : ℕ) → Decides (¬ Among p primes) (not (is_modulus p))
unfolding is_modulus is_one_of
modulus_told p = go (is_one_of primes p) refl
  where
    go : (b : Bool) → is_one_of primes p ≡ b → Decides (¬ Among p primes) (not b)
    go true e = not_so (λ n. n (Moduli.among primes p e))
    go false e = so (λ w. subst T e (of_one (eqb p) primes p w (of_true (eq-eqb p p refl))))

variables_told : (m : ℕ) → Decides ((m < 1) ⊎ (8 < m)) (not (leb 1 m && leb m 8))
variables_told m = go (leb 1 m) refl (leb m 8) refl
  where
    go : (a : Bool) → leb 1 m ≡ a → (b : Bool) → leb m 8 ≡ b → Decides ((m < 1) ⊎ (8 < m)) (not (a && b))
    go true e true f = not_so (λ w. elim w [ inl h ↦ omega (arith, h, leb-true 1 m e) | inr h ↦ omega (arith, h, leb-true m 8 f) ])
    go true e false f = so (inr (leb-false m 8 f))
    go false e b f = so (inl (leb-false 1 m e))

-- a record is counted from 1
fault_some : {t : List (Option (List (List ℕ)))} {k : ℕ} → FaultAt Wrong t k → k ≢ 0
fault_some empty e = omega arith
fault_some (no_header_lem n) e = omega arith
fault_some (no_entry g f) e = omega arith

module _ (text : List ℕ) (s v c w : ℕ) where
  abbrev t : List (Option (List (List ℕ)))
  t = records_of text

  abbrev fault : ℕ
  fault = form_fault (header_in t) t

  abbrev e : Contents
  e = said_by t

  abbrev X : Cause → ℕ → Type 0
  X = HoldsAt text s v c w

  abbrev said : Header → List (List ℤ) → Contents
  said h E = record { header = h; entries = E }

  long_told : Told X length_of_text (ltb 16384 (length text)) 0
  unfolding HoldsAt
  long_told = tells X (lt_told 16384 (length text)) (λ h. (h, refl)) (λ k x. x)

  form_told : Told X form (not (eqb fault 0)) fault
  unfolding HoldsAt
  form_told =
      tells X (some_told fault) (λ n. go fault refl n)
      (λ k x. let f = (text_faults Wrong text k).0 x in let q = fault_read f in (λ z. fault_some f (sym q ∙ z), sym q))
    where
      go : (k : ℕ) → fault ≡ k → fault ≢ 0 → TextFault Wrong text fault
      go zero q n = absurd (n q)
      go (suc k) q n = subst (TextFault Wrong text) (sym q) ((text_faults Wrong text (suc k)).1 ((form_faults t k).1 q))

  -- where the form is right
  module _ (fine : fault ≡ 0) where
    says : Says text e.header e.entries
    says = says_found text fine

    -- nothing else is said
    only : (P : Contents → Type 0) (h : Header) (E : List (List ℤ)) → Says text h E → P (said h E) → P e
    only P h E g x = subst P (sym (says_read text h E g).1) x

    header_modulus : Told X modulus (not (is_modulus e.header.modulus)) 1
    unfolding HoldsAt
    header_modulus = tells X (modulus_told e.header.modulus) (λ n. (e.header, e.entries, says, n, refl))
        (λ k x. let (h, E, g, n, q) = x in (only (λ y. ¬ Among y.header.modulus primes) h E g n, q))

    header_variables : Told X variables (not (leb 1 e.header.variables && leb e.header.variables 8)) 1
    unfolding HoldsAt
    header_variables = tells X (variables_told e.header.variables) (λ n. (e.header, e.entries, says, n, refl))
        (λ k x. let (h, E, g, n, q) = x in (only (λ y. (y.header.variables < 1) ⊎ (8 < y.header.variables)) h E g n, q))

    header_weights : e.header.variables ≤ 8 → Told X weights (not (right_weights (settings_by e.header))) 1
    unfolding HoldsAt
    header_weights few = tells X (weights_told e.header says.header few) (λ n. (e.header, e.entries, says, n, refl))
        (λ k x. let (h, E, g, n, q) = x in (only (λ y. WeightZero y.header) h E g n, q))

    buffers_told : Told X buffers (short_buffers s v c w) 0
    unfolding HoldsAt short_buffers
    buffers_told = tells X (any_told (lt_told s 512) (lt_told v 64) (lt_told c 64) (lt_told w 8)) (λ u. (u, refl)) (λ k x. x)

    range_first : Told X range (not (eqb (first_outside e) 0)) (suc (first_outside e))
    unfolding HoldsAt first_outside
    range_first =
        let p = e.header.modulus in
        entry_tells X (first_outside e) (first_alone (OutOfRange p []) (is_outside p) (range_told p) e.entries)
        (λ k f. (e.header, e.entries, k, says, f, refl))
        (λ at x. let (h, E, k, g, f, q) = x in (k, only (λ y. FirstAt (OutOfRange y.header.modulus) y.entries k) h E g f, q))

    -- 8, 13 and 14
    entry_told : {c : Cause} (Fault : List Valued → Valued → Type 0) (f : List Valued → Valued → Bool) → ((b : List Valued) (q : Valued) → Decides (Fault b q) (f b q))
        → ((at : ℕ) → AtEntry text Fault at ↔ X c at) → Told X c (not (eqb (first_after f [] (valued_points e)) 0)) (suc (first_after f [] (valued_points e)))
    unfolding valued_points
    entry_told Fault f told is =
        entry_tells X (first_after f [] (valued_points e)) (first_at Fault f told (valued_points e))
        (λ k g. (is (suc (suc k))).0 (e.header, e.entries, k, says, g, refl))
        (λ at x. let (h, E, k, g, i, q) = (is at).1 x in (k, only (λ y. FirstAt Fault (valued_points y) k) h E g i, q))

    points_told : Told X points (not (eqb (first_after too_many [] (valued_points e)) 0)) (suc (first_after too_many [] (valued_points e)))
    unfolding HoldsAt
    points_told = entry_told TooMany too_many many_told (λ at. ((λ x. x), λ x. x))

    replicates_told : Told X replicates (not (eqb (first_after too_often [] (valued_points e)) 0)) (suc (first_after too_often [] (valued_points e)))
    unfolding HoldsAt
    replicates_told = entry_told TooOften too_often often_told (λ at. ((λ x. x), λ x. x))

    values_told : Told X values (not (eqb (first_after other_value [] (valued_points e)) 0)) (suc (first_after other_value [] (valued_points e)))
    unfolding HoldsAt
    values_told = entry_told OtherValue other_value other_told (λ at. ((λ x. x), λ x. x))

  few_variables : (m : ℕ) → not (leb 1 m && leb m 8) ≡ false → m ≤ 8
  few_variables m i = leb→le m 8 (and_right (leb 1 m) (leb m 8) (of_true (not-false (leb 1 m && leb m 8) i)))

  all_tell : Tells X causes (read_cases text fault e (short_buffers s v c w))
  unfolding read_cases header_cases entries_cases points_cases cause_number
  all_tell =
      more long_told
      (λ _. more form_told
      (λ i. let z = eqb-true fault 0 (not-false _ i) in
      more (header_modulus z)
      (λ _. more (header_variables z)
      (λ j. more (header_weights z (few_variables e.header.variables j))
      (λ _. more (buffers_told z)
      (λ _. more (range_first z)
      (λ _. more (points_told z)
      (λ _. more (replicates_told z)
      (λ _. more (values_told z) (λ _. none))))))))))

-- what is decided, with its number and record
module _ (r : Refusal) (e : Contents) (s v c w : List ℕ) where
  abbrev pub outcome : TextOutcome
  outcome = text_decided r (text_accepted e s v c w) s v c w

  pub same_number : outcome.answer.refusal ≡ r.refusal
  unfolding text_decided text_accepted text_refused
  same_number = go (eqb r.refusal 0) refl
    where
      go : (b : Bool) → eqb r.refusal 0 ≡ b → (cond b (text_accepted e s v c w) (text_refused r s v c w)).answer.refusal ≡ r.refusal
      go true i = sym (eqb-true r.refusal 0 i)
      go false i = refl

  same_record : r.refusal ≢ 0 → outcome.answer.at ≡ r.at
  unfolding text_decided text_refused
  same_record n = ap (λ (b : Bool). (cond b (text_accepted e s v c w) (text_refused r s v c w)).answer.at) (ne_eqb r.refusal 0 n)

each_cause : (c : Cause) → Among c causes
each_cause length_of_text = inl refl
each_cause form = inr (inl refl)
each_cause modulus = inr (inr (inl refl))
each_cause variables = inr (inr (inr (inl refl)))
each_cause weights = inr (inr (inr (inr (inl refl))))
each_cause buffers = inr (inr (inr (inr (inr (inl refl)))))
each_cause range = inr (inr (inr (inr (inr (inr (inl refl))))))
each_cause points = inr (inr (inr (inr (inr (inr (inr (inl refl)))))))
each_cause replicates = inr (inr (inr (inr (inr (inr (inr (inr (inl refl))))))))
each_cause values = inr (inr (inr (inr (inr (inr (inr (inr (inr (inl refl)))))))))

pub read_refusals : ReadRefusals
unfolding read_outcome
read_refusals text s v k w =
    let t = records_of text in
    let e = said_by t in
    let r = first_of not_refused (read_cases text (form_fault (header_in t) t) e (short_buffers (length s) (length v) (length k) (length w))) in
    let tell = all_tell text (length s) (length v) (length k) (length w) in
    let X = HoldsAt text (length s) (length v) (length k) (length w) in
    let n = same_number r e s v k w in
    let number : (c : Cause) → r.refusal ≡ cause_number c → r.refusal ≢ 0 = λ c q z. number_some c (sym z ∙ q) in (
      λ c at. (
        λ f. let (p, q) = (first_cause X tell c at).0 f in (n ∙ p, same_record r e s v k w (number c p) ∙ q),
        λ h. let p = sym n ∙ h.0 in (first_cause X tell c at).1 (p, sym (same_record r e s v k w (number c p)) ∙ h.1),
      ),
      ((λ f. n ∙ (no_cause X tell).0 (λ c at h. f c at)), λ z c at. (no_cause X tell).1 (sym n ∙ z) c at (each_cause c)),
      λ m. let (c, q) = some_cause X tell (λ z. m (n ∙ z)) in (c, n ∙ q),
    )
