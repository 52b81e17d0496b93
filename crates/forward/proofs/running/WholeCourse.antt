-- The whole text of a time course, from its length to what is left.
use mathlib.Core.Path.{◌≡◌, refl, sym, ap, ap₂, subst, ◌∙◌}
use mathlib.Core.Bool.{Bool, true, false, cond}
use mathlib.Core.List.{List, [], ◌∷◌, ◌++◌, map}
use mathlib.Core.Option.{Option, some, none, get_or}
use Prim.Native.Nat.{ℕ, suc, ◌+◌, ◌<◌, ◌≤◌}
use native.Mathlib.Omega.{arith}
use lib.IntN.{ℤ}
use lib.ListN.{length, length-append}
use lib.Dec.{T, eqb}
use borrow.Author.Tests.{lt-ltb, le-ltb, eq-eqb, ne_eqb}
use Rattle.residue.specs.Layout.{over}
use Rattle.specification.specs.Refusal.{first_of}
use Rattle.specification.specs.Tables.{Tables}
use Rattle.notation.specs.Fields.{records_of, part, faulty}
use Rattle.notation.specs.Forms.{Header}
use Rattle.std.specs.Prelude.{Ok, Err}
use Rattle.comma_text.specs.reading.Answers.{Refusal}
use Rattle.specification.specs.declared.refusals.Fault.{Fault}
use Rattle.specification.specs.declared.refusals.Refusal.{Refusal as R}
use Rattle.specification.specs.declared.refusals.Refusal.TheVariants.{Form}
use Rattle.specification.specs.Answers.{number_of}
use Rattle.comma_text.specs.reading.Records.{form_fault_at}
use Rattle.comma_text.specs.reading.Text.{further, first_after, header_in, no_header, entry_in, entries_in, Contents, contents_of, refusal_at, not_refused, settings_by}
use Rattle.comma_text.specs.reading.Records.{header_part, entries_at, counted_entries}
use Rattle.comma_text.specs.reading.Points.{levels_at, saying}
use Rattle.comma_text.proofs.reading.WholeText.{no_header_lem, some_header}
use Rattle.course_text.specs.Form.{course_fault, course_form_fault}
use Rattle.course_text.specs.Reading.{counted_courses}
use Rattle.forward.specs.Outcome.{CourseOutcome, short_for, time_cases, course_refused, course_accepted, course_decided, course_outcome}
use Rattle.forward.specs.Running.{RunOutcome, without_weights, run_cases, run_outcome}

-- an outcome of records, with the weights
abbrev pub with_weights : RunOutcome → List ℕ → CourseOutcome
with_weights o weights = record { answer = o.answer; tables = o.tables; interpolants = o.interpolants; weights = weights }

eqb_off : (a b : ℕ) → eqb a b ≡ false → a ≡ b → ⊥
eqb_off a b e q = subst T (sym (eq-eqb a b q) ∙ e) tt

-- The records that were counted, those of `seen` being passed: none has a fault of form, so that all are entries.
pub counted_free : (m n : ℕ) (seen es : List (Option (List ℤ))) → Ok n ≡ counted_courses m seen es
    → (first_after (course_fault m) seen es ≡ 0) × (counted_entries (length seen) es ≡ Ok n)
unfolding counted_courses first_after course_fault counted_entries further
counted_free m n seen [] e = (refl, sym e)
counted_free m n seen (none ∷ es) e = let z : ◌≡◌ {A = ℕ} 0 1 = cc in absurd (omega arith)
counted_free m n seen (some zs ∷ es) e = go (course_fault m seen (some zs)) e (counted_free m n (seen ++ (some zs ∷ [])) es)
  where
    go : (b : Bool) → Ok n ≡ cond b (Err (form_fault_at (length seen + 2))) (counted_courses m (seen ++ (some zs ∷ [])) es)
        → (Ok n ≡ counted_courses m (seen ++ (some zs ∷ [])) es
        → (first_after (course_fault m) (seen ++ (some zs ∷ [])) es ≡ 0) × (counted_entries (length (seen ++ (some zs ∷ []))) es ≡ Ok n))
        → (cond b 1 (cond (eqb (first_after (course_fault m) (seen ++ (some zs ∷ [])) es) 0) 0 (suc (first_after (course_fault m) (seen ++ (some zs ∷ [])) es))) ≡ 0)
        × (counted_entries (suc (length seen)) es ≡ Ok n)
    go true q f = let z : ◌≡◌ {A = ℕ} 0 1 = cc in absurd (omega arith)
    go false q f =
        let w = f q in
        let long : length (seen ++ (some zs ∷ [])) ≡ suc (length seen) = omega (arith, length-append seen (some zs ∷ [])) in
        (rw w.0 refl, ap (λ (k : ℕ). counted_entries k es) (sym long) ∙ w.1)

-- A record that was refused is the first that has a fault of form.
pub record Counted (seen : ℕ) (f : Fault) (place many : ℕ) : Type 0 where
  pub refusal : f.refusal ≡ Form
  pub record_is : f.at ≡ seen + suc place
  pub found : 1 ≤ place
  pub low : place ≤ many

pub counted_faulty : (m : ℕ) (f : Fault) (seen es : List (Option (List ℤ))) → Err f ≡ counted_courses m seen es
    → Counted (length seen) f (first_after (course_fault m) seen es) (length es)
unfolding counted_courses first_after further
counted_faulty m f seen [] e = let z : ◌≡◌ {A = ℕ} 0 1 = cc in absurd (omega arith)
counted_faulty m f seen (x ∷ es) e = go (course_fault m seen x) e (counted_faulty m f (seen ++ (x ∷ [])) es)
  where
    go : (b : Bool) → Err f ≡ cond b (Err (form_fault_at (length seen + 2))) (counted_courses m (seen ++ (x ∷ [])) es)
        → (Err f ≡ counted_courses m (seen ++ (x ∷ [])) es → Counted (length (seen ++ (x ∷ []))) f (first_after (course_fault m) (seen ++ (x ∷ [])) es) (length es))
        → Counted (length seen) f (cond b 1 (cond (eqb (first_after (course_fault m) (seen ++ (x ∷ [])) es) 0) 0 (suc (first_after (course_fault m) (seen ++ (x ∷ [])) es)))) (suc (length es))
    go true q h =
        let s : f ≡ form_fault_at (length seen + 2) = cc in
        let a = ap (λ (y : Fault). y.refusal) s in
        let b : f.at ≡ length seen + 2 = ap (λ (y : Fault). y.at) s in
        record { refusal = a; record_is = omega (arith, b); found = omega arith; low = omega arith }
    go false q h =
        let w = h q in
        let long : length (seen ++ (x ∷ [])) ≡ suc (length seen) = omega (arith, length-append seen (x ∷ [])) in
        rw (ne_eqb (first_after (course_fault m) (seen ++ (x ∷ [])) es) 0 (λ z. omega (arith, z, w.found)))
        (record { refusal = w.refusal; record_is = omega (arith, w.record_is, long); found = omega arith; low = omega (arith, w.low) })

module _ (t : List ℕ) (c : ℕ) (u : Tables) (g w : List ℕ) where
  abbrev short : Bool
  short = short_for u g w

  -- a refusal is the outcome where it is the first case that holds
  by_refusal : (f : ℕ) (e : Contents) (r : Refusal) → r ≡ first_of not_refused (time_cases t f e short c) → (r.refusal ≡ 0 → ⊥)
      → course_refused r u g w ≡ course_decided (first_of not_refused (time_cases t f e short c)) (course_accepted e c u g w) u g w
  unfolding course_decided
  by_refusal f e r q n = sym (ap (λ (x : Refusal). course_decided x (course_accepted e c u g w) u g w) (sym q) ∙ rw (ne_eqb r.refusal 0 n))

  pub too_long : 16384 < length t → course_refused (refusal_at 1 0) u g w ≡ course_outcome t c u g w
  unfolding course_outcome time_cases first_of
  too_long h = let r = records_of t in
      by_refusal (course_form_fault (header_in r) r) (contents_of (get_or (header_in r) no_header) r) (refusal_at 1 0) (simp (lt-ltb 16384 (length t) h)) (λ z. omega (arith, z))

  module _ (h : length t ≤ 16384) where
    refuse_2 : (f : ℕ) (e : Contents) → (f ≡ 0 → ⊥) → refusal_at 2 f ≡ first_of not_refused (time_cases t f e short c)
    unfolding first_of time_cases
    refuse_2 f e n = simp (le-ltb 16384 (length t) h, ne_eqb f 0 n)

    pub header_broken : header_part t ≡ faulty → course_refused (refusal_at 2 1) u g w ≡ course_outcome t c u g w
    unfolding course_outcome course_form_fault
    header_broken e =
        let r = records_of t in
        let k = get_or (header_in r) no_header in
        by_refusal (course_form_fault (header_in r) r) (contents_of k r) (refusal_at 2 1)
        (refuse_2 1 (contents_of k r) (λ z. omega (arith, z))
        ∙ ap (λ (o : Option Header). first_of not_refused (time_cases t (course_form_fault o r) (contents_of k r) short c)) (sym (no_header_lem t e)))
        (λ z. omega (arith, z))

    module _ (k : Header) (rest : List ℕ) (e : header_part t ≡ part k rest) where
      says : Contents
      says = saying (settings_by k) rest

      abbrev place : ℕ
      place = further (first_after (course_fault k.variables) [] (entries_at k.variables rest))

      behind : entries_in k.variables (records_of t) ≡ entries_at k.variables rest
      unfolding entries_in entries_at
      behind = ap (map (entry_in k.variables)) (some_header k rest t e).1

      outcome : course_outcome t c u g w ≡ course_decided (first_of not_refused (time_cases t place says short c)) (course_accepted says c u g w) u g w
      unfolding course_outcome course_form_fault contents_of says saying levels_at
      outcome = ap of_header (some_header k rest t e).0 ∙ ap of_entries behind
        where
          of_header : Option Header → CourseOutcome
          of_header o = let f = contents_of (get_or o no_header) (records_of t) in
              course_decided (first_of not_refused (time_cases t (course_form_fault o (records_of t)) f short c)) (course_accepted f c u g w) u g w

          of_entries : List (Option (List ℤ)) → CourseOutcome
          of_entries es = let f : Contents = record { header = k; entries = map (λ x. get_or x []) es } in
              course_decided (first_of not_refused (time_cases t (further (first_after (course_fault k.variables) [] es)) f short c)) (course_accepted f c u g w) u g w

      pub course_broken : (r : Fault) → Err r ≡ counted_courses k.variables [] (entries_at k.variables rest)
          → course_refused (refusal_at (number_of r.refusal) r.at) u g w ≡ course_outcome t c u g w
      unfolding further number_of
      course_broken r q =
          let b = counted_faulty k.variables r [] (entries_at k.variables rest) q in
          let i : place ≡ r.at = rw (ne_eqb (first_after (course_fault k.variables) [] (entries_at k.variables rest)) 0 (λ z. omega (arith, z, b.found))) (omega (arith, b.record_is)) in
          ap₂ (λ (x : R) (y : ℕ). course_refused (refusal_at (number_of x) y) u g w) b.refusal (sym i)
          ∙ by_refusal place says (refusal_at 2 place) (refuse_2 place says (λ z. omega (arith, z, i, b.record_is))) (λ z. omega (arith, z))
          ∙ sym outcome

      -- Of right form: the outcome is that of its records, with the weights.
      module _ (n : ℕ) (q : Ok n ≡ counted_courses k.variables [] (entries_at k.variables rest)) where
        abbrev f : Refusal
        f = first_of not_refused (run_cases (saying (settings_by k) rest) c short)

        form_right : course_outcome t c u g w ≡ course_decided f (course_accepted (saying (settings_by k) rest) c u g w) u g w
        unfolding says time_cases first_of further
        form_right =
            outcome
            ∙ ap (λ (x : Refusal). course_decided x (course_accepted (saying (settings_by k) rest) c u g w) u g w)
            (simp (le-ltb 16384 (length t) h, (counted_free k.variables n [] (entries_at k.variables rest) q).0))

        module _ (o : RunOutcome) (ran : o ≡ run_outcome (settings_by k) rest c short u g) where
          -- where the records are taken, and where they are refused
          taken : (b : Bool) → eqb f.refusal 0 ≡ b → o.answer.refusal ≡ 0
              → o ≡ without_weights (cond b (course_accepted (saying (settings_by k) rest) c u g []) (course_refused f u g []))
              → with_weights o (over k.weights w) ≡ cond b (course_accepted (saying (settings_by k) rest) c u g w) (course_refused f u g w)
          unfolding course_accepted saying course_refused
          taken true e z r = ap (λ (x : RunOutcome). with_weights x (over k.weights w)) r
          taken false e z r = absurd (eqb_off f.refusal 0 e (sym (ap (λ (x : RunOutcome). x.answer.refusal) r) ∙ z))

          kept : (b : Bool) → eqb f.refusal 0 ≡ b → (o.answer.refusal ≡ 0 → ⊥)
              → o ≡ without_weights (cond b (course_accepted (saying (settings_by k) rest) c u g []) (course_refused f u g []))
              → with_weights o w ≡ cond b (course_accepted (saying (settings_by k) rest) c u g w) (course_refused f u g w)
          unfolding course_accepted saying course_refused
          kept true e z r = absurd (z (ap (λ (x : RunOutcome). x.answer.refusal) r))
          kept false e z r = ap (λ (x : RunOutcome). with_weights x w) r

          pub course_taken : o.answer.refusal ≡ 0 → with_weights o (over k.weights w) ≡ course_outcome t c u g w
          unfolding run_outcome course_decided
          course_taken z = taken (eqb f.refusal 0) refl z ran ∙ sym form_right

          pub course_kept : (o.answer.refusal ≡ 0 → ⊥) → with_weights o w ≡ course_outcome t c u g w
          unfolding run_outcome course_decided
          course_kept z = kept (eqb f.refusal 0) refl z ran ∙ sym form_right
