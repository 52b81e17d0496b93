-- What C takes out of the number that a time course returns: the refusal with its record, or n, r, the settings, the step and the distance back.
use mathlib.Core.Path.{◌≡◌, refl, sym, ◌∙◌, subst}
use mathlib.Core.List.{List, [], ◌∷◌}
use mathlib.Core.Logic.{◌≢◌}
use Prim.Native.Nat.{ℕ, ◌+◌, ◌*◌, ◌≤◌}
use native.Mathlib.Omega.{arith}
use native.Mathlib.Decide.{ℕ_discrete}
use borrow.Author.Tests.{eq-eqb, ne_eqb}
use Rattle.residue.proofs.level.Moduli.{modulus_range}
use Rattle.specification.specs.Tables.{Tables}
use Rattle.std.specs.Prelude.{Option}
use Rattle.courses.specs.TimeCourse.{told_return}
use Rattle.courses.specs.Returns.{Ends, comes, never}
use Rattle.courses.specs.declared.returns.Return.{Return}
use Rattle.forward.specs.Outcome.{Course}
use Rattle.forward.specs.Outcome.{CourseOutcome, course_accepted, course_outcome}
use Rattle.forward.proofs.PassedCourse.{course_few, course_never, course_alone, taken, accepted_is, course_holds, course_ends}
use Rattle.misqafur.specs.Packing.{packed, packed_course, CourseFits}
use Rattle.misqafur.specs.Unpacking.{refusal_from, points_from, fault_from, modulus_from, variables_from, order_from, course_elements_from, step_from, back_from}
use Rattle.misqafur.proofs.Unpacked.{few_held}

-- a return within 256 steps
ends_few : {f : List ℕ → List ℕ} {P : List ℕ} (r : Option Return) → Ends f P 256 r → ((told_return r).step ≤ 256) × ((told_return r).back ≤ 256)
ends_few r (comes k d h) = (h.soon, omega (arith, h.within, h.soon))
ends_few r (never n) = (omega arith, omega arith)

-- the parts of an answer that is not refused
parts_back : (n p m o r s b : ℕ) → n ≤ 255 → p ≤ 255 → m ≤ 255 → o ≤ 15 → r ≤ 1023 → s ≤ 511 → let k = packed (0 ∷ n ∷ p ∷ m ∷ (o + 16 * (r + 1024 * (s + 512 * b))) ∷ []) in
    (refusal_from k ≡ 0) × (points_from k ≡ n) × (modulus_from k ≡ p) × (variables_from k ≡ m) × (order_from k ≡ o) × (course_elements_from k ≡ r) × (step_from k ≡ s) × (back_from k ≡ b)
unfolding refusal_from points_from modulus_from variables_from order_from course_elements_from step_from back_from
parts_back n p m o r s b hn hp hm ho hr hs = (omega arith, omega arith, omega arith, omega arith, omega arith, omega arith, omega arith, omega arith)

-- and of one that is
record_back : (a b : ℕ) → a ≤ 255 → (refusal_from (packed (a ∷ b ∷ [])) ≡ a) × (fault_from (packed (a ∷ b ∷ [])) ≡ b)
unfolding refusal_from fault_from
record_back a b h = (omega arith, omega arith)

module _ (text : List ℕ) (c : ℕ) (u : Tables) (genes weights : List ℕ) where
  abbrev pub a : Course
  a = (course_outcome text c u genes weights).answer

  settings_few : a.refusal ≡ 0 → (a.modulus ≤ 61) × (a.variables ≤ 8) × (a.order ≤ 3)
  unfolding course_accepted
  settings_few z = let w = (taken text c u genes weights z).settings in
      subst (λ (x : CourseOutcome). (x.answer.modulus ≤ 61) × (x.answer.variables ≤ 8) × (x.answer.order ≤ 3)) (sym (accepted_is text c u genes weights z))
      ((modulus_range _ w.modulus).1, w.few, w.order)

  -- its parts fit the places that they have in the number
  pub course_fits : CourseFits a
  course_fits = go (ℕ_discrete a.refusal 0)
    where
      go : Dec (a.refusal ≡ 0) → CourseFits a
      go (yes z) =
          let s = settings_few z in
          let h = few_held (course_holds text c u genes weights z) in
          let t = course_ends text c u genes weights z in
          let e : (a.step ≤ 256) × (a.back ≤ 256) = subst (λ (x : Return). (x.step ≤ 256) × (x.back ≤ 256)) (sym t.1) (ends_few t.0 t.2) in
          record {
            n = omega (arith, h.0);
            modulus = omega (arith, s.0);
            variables = omega (arith, s.1);
            order = omega (arith, s.2);
            r = omega (arith, h.1);
            step = omega (arith, e.0);
            back = omega (arith, e.1);
          }
      go (no n) = subst CourseFits (sym (course_alone text c u genes weights n).0)
          (record { n = omega arith; modulus = omega arith; variables = omega arith; order = omega arith; r = omega arith; step = omega arith; back = omega arith })

  back : let k = packed (0 ∷ a.n ∷ a.modulus ∷ a.variables ∷ (a.order + 16 * (a.r + 1024 * (a.step + 512 * a.back))) ∷ []) in
      (refusal_from k ≡ 0) × (points_from k ≡ a.n) × (modulus_from k ≡ a.modulus) × (variables_from k ≡ a.variables) × (order_from k ≡ a.order)
      × (course_elements_from k ≡ a.r) × (step_from k ≡ a.step) × (back_from k ≡ a.back)
  back = let f = course_fits in
      parts_back a.n a.modulus a.variables a.order a.r a.step a.back f.n f.modulus f.variables f.order f.r f.step

  -- The refusal is read back, with its record where there is one, and else with the other parts.
  pub course_refusal : refusal_from (packed_course a) ≡ a.refusal
  course_refusal = go (ℕ_discrete a.refusal 0)
    where
      go : Dec (a.refusal ≡ 0) → refusal_from (packed_course a) ≡ a.refusal
      go (yes z) = rw (eq-eqb a.refusal 0 z) (back.0 ∙ sym z)
      go (no n) = rw (ne_eqb a.refusal 0 n) (record_back a.refusal a.at (omega (arith, course_few text c u genes weights))).0

  pub course_record : a.refusal ≢ 0 → fault_from (packed_course a) ≡ a.at
  course_record n = rw (ne_eqb a.refusal 0 n) (record_back a.refusal a.at (omega (arith, course_few text c u genes weights))).1

  pub course_parts : a.refusal ≡ 0 → let k = packed_course a in
      (points_from k ≡ a.n) × (modulus_from k ≡ a.modulus) × (variables_from k ≡ a.variables) × (order_from k ≡ a.order) × (course_elements_from k ≡ a.r)
      × (step_from k ≡ a.step) × (back_from k ≡ a.back)
  course_parts z = let b = back in rw (eq-eqb a.refusal 0 z) (b.1, b.2, b.3, b.4, b.5, b.6, b.7)

  -- no time course is refused with 11
  pub course_never_eleven : refusal_from (packed_course a) ≢ 11
  course_never_eleven e = course_never text c u genes weights 11 refl (sym course_refusal ∙ e)
