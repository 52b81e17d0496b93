-- What the text of a time course says, by the grammar, is what is computed.
use mathlib.Core.Path.{◌≡◌, refl, sym, ap, ap₂, ◌∙◌, subst}
use mathlib.Core.Bool.{false}
use mathlib.Core.List.{List, [], ◌∷◌, ◌++◌, map}
use mathlib.Core.Logic.{inl, inr}
use mathlib.Core.Option.{Option, some, none, get_or}
use Prim.Native.Nat.{ℕ, suc, ◌≤◌}
use native.Mathlib.Omega.{arith}
use lib.IntN.{ℤ, pos}
use lib.ListN.{length, take, drop, length-append}
use Rattle.residue.specs.Lists.{Among}
use Rattle.notation.specs.Fields.{records_of}
use Rattle.notation.specs.Forms.{Header}
use Rattle.comma_text.specs.reading.Text.{further, first_fault, first_after, is_none, header_in, entry_in, entries_in, form_fault, no_header, Contents, contents_of}
use Rattle.comma_text.specs.reading.Faults.{Says}
use Rattle.comma_text.proofs.reading.EntryLengths.{AllLong, entries_long}
use Rattle.comma_text.proofs.reading.FirstPlaces.{fault_step}
use Rattle.comma_text.proofs.reading.SaidText.{said_by, says_read, says_found}
use Rattle.comma_text.proofs.reading.FormFaults.{Records}
use Rattle.course_text.specs.Form.{number_of, course_fault, course_form_fault, timed_of, all_timed}
use Rattle.course_text.specs.Grammar.{Together, SaysCourses}
use Rattle.course_text.proofs.reading.Returning.{Free, AllCourses, runs_iff}
use Rattle.course_text.proofs.NumbersTogether.{numbers, runs_together, together_runs}
use Rattle.course_text.proofs.CourseGrammar.{entry_split, split_number}

-- an entry by its levels and its number
abbrev pub split : ℕ → List ℤ → List ℤ × ℕ
split m zs = (take m zs, number_of m zs)

abbrev joined : List ℤ × ℕ → List ℤ
joined a = a.0 ++ (pos a.1 ∷ [])

-- entries without a fault are entries
free_entries : (m : ℕ) (seen es : List (Option (List ℤ))) → first_after (course_fault m) seen es ≡ 0 → first_fault is_none es ≡ 0
unfolding first_after first_fault course_fault is_none further
free_entries m seen [] e = refl
free_entries m seen (none ∷ es) e = absurd (omega arith)
free_entries m seen (some zs ∷ es) e = rw (free_entries m (seen ++ (some zs ∷ [])) es (fault_step (course_fault m seen (some zs)) _ e).1)

form_free : (o : Option Header) (t : Records) → course_form_fault o t ≡ 0 → form_fault o t ≡ 0
unfolding course_form_fault form_fault further
form_free none t e = e
form_free (some h) t e = ap further (free_entries h.variables [] (entries_in h.variables t) (fault_step false _ e).1)

all_some : (es : List (Option (List ℤ))) → first_fault is_none es ≡ 0 → es ≡ map some (map (λ e. get_or e []) es)
unfolding first_fault is_none
all_some [] e = refl
all_some (none ∷ es) e = absurd (omega arith)
all_some (some zs ∷ es) e = ap (λ (l : List (Option (List ℤ))). some zs ∷ l) (all_some es (fault_step false _ e).1)

-- of a text whose records are entries: what they say, and where one has a fault
module _ (t : Records) (z : form_fault (header_in t) t ≡ 0) where
  abbrev m : ℕ
  m = (said_by t).header.variables

  abbrev E : List (List ℤ)
  E = (said_by t).entries

  behind : (map (entry_in m) (drop 1 t) ≡ map some E) × (course_form_fault (header_in t) t ≡ further (first_after (course_fault m) [] (map some E)))
  unfolding contents_of form_fault course_form_fault entries_in
  behind = go (header_in t) z
    where
      go : (o : Option Header) → form_fault o t ≡ 0
          → let c = contents_of (get_or o no_header) t in
          (map (entry_in c.header.variables) (drop 1 t) ≡ map some c.entries)
          × (course_form_fault o t ≡ further (first_after (course_fault c.header.variables) [] (map some c.entries)))
      go none y = absurd (omega arith)
      go (some h) y =
          let e = all_some (map (entry_in h.variables) (drop 1 t)) (fault_step false _ y).1 in
          (e, ap (λ (l : List (Option (List ℤ))). further (first_after (course_fault h.variables) [] l)) e)

  long : AllLong (suc m) E
  long = entries_long m (drop 1 t) E behind.0

  pub found_free : course_form_fault (header_in t) t ≡ 0 → Free m [] E
  found_free e = (fault_step false _ (sym behind.1 ∙ e)).1

  pub free_found : Free m [] E → course_form_fault (header_in t) t ≡ 0
  unfolding further
  free_found f = behind.1 ∙ ap further f

-- the numbers of entries
timed_numbers : (m : ℕ) (E : List (List ℤ)) → numbers (all_timed 0 m E) ≡ map (number_of m) E
unfolding all_timed timed_of
timed_numbers m [] = refl
timed_numbers m (zs ∷ E) = ap (λ (l : List ℕ). number_of m zs ∷ l) (timed_numbers m E)

split_numbers : (m : ℕ) (E : List (List ℤ)) → map (λ a. a.1) (map (split m) E) ≡ map (number_of m) E
split_numbers m [] = refl
split_numbers m (zs ∷ E) = ap (λ (l : List ℕ). number_of m zs ∷ l) (split_numbers m E)

-- entries with course numbers, as levels with their numbers and back
joined_split : (m : ℕ) (E : List (List ℤ)) → AllLong (suc m) E → AllCourses 0 m E → map joined (map (split m) E) ≡ E
joined_split m [] l a = refl
joined_split m (zs ∷ E) l a =
    ap₂ (λ (y : List ℤ) (ys : List (List ℤ)). y ∷ ys) (sym (entry_split m zs (number_of m zs) (l zs (inl refl)) refl (a zs (inl refl))).0)
    (joined_split m E (λ y q. l y (inr q)) (λ y q. a y (inr q)))

split_range : (m : ℕ) (E : List (List ℤ)) → AllLong (suc m) E → AllCourses 0 m E → (a : List ℤ × ℕ) → Among a (map (split m) E) → (1 ≤ a.1) × (a.1 ≤ 99)
split_range m [] l c a w = absurd w
split_range m (zs ∷ E) l c a (inl e) =
    let k = entry_split m zs (number_of m zs) (l zs (inl refl)) refl (c zs (inl refl)) in
    let n : a.1 ≡ number_of m zs = ap (λ (x : List ℤ × ℕ). x.1) e in
    (omega (arith, n, k.1), omega (arith, n, k.2))
split_range m (zs ∷ E) l c a (inr q) = split_range m E (λ y v. l y (inr v)) (λ y v. c y (inr v)) a q

-- levels with course numbers, as entries
module _ (m : ℕ) where
  abbrev Ranged : List (List ℤ × ℕ) → Type 0
  Ranged l = (a : List ℤ × ℕ) → Among a l → (1 ≤ a.1) × (a.1 ≤ 99)

  joined_number : (a : List ℤ × ℕ) → length (joined a) ≡ suc m → a.1 ≤ 99 → number_of m (joined a) ≡ a.1
  joined_number a l h = split_number m a.0 a.1 (omega (arith, l, length-append a.0 (pos a.1 ∷ []))) h

  joined_courses : (l : List (List ℤ × ℕ)) → AllLong (suc m) (map joined l) → Ranged l → AllCourses 0 m (map joined l) × (map (number_of m) (map joined l) ≡ map (λ a. a.1) l)
  joined_courses [] long r = ((λ zs w. absurd w), refl)
  joined_courses (a ∷ l) long r =
      let n = joined_number a (long (joined a) (inl refl)) (r a (inl refl)).1 in
      let w = joined_courses l (λ y q. long y (inr q)) (λ b q. r b (inr q)) in
      ((λ zs v. elim v [ inl q ↦ (λ e. omega (arith, ap (number_of m) q ∙ n, e, (r a (inl refl)).0)) | inr q ↦ w.0 zs q ]), ap₂ (λ (x : ℕ) (xs : List ℕ). x ∷ xs) n w.1)

module _ (text : List ℕ) where
  abbrev T : Records
  T = records_of text

  pub courses_found : course_form_fault (header_in T) T ≡ 0
      → SaysCourses text (said_by T).header (map (split (said_by T).header.variables) (said_by T).entries)
  courses_found e =
      let z = form_free (header_in T) T e in
      let f = (runs_iff 0 (m T z) (E T z)).0 (found_free T z e) in
      record {
        says = subst (λ (x : List (List ℤ)). Says text (said_by T).header x) (sym (joined_split (m T z) (E T z) (long T z) f.0)) (says_found text z);
        range = split_range (m T z) (E T z) (long T z) f.0;
        together = subst Together (timed_numbers (m T z) (E T z) ∙ sym (split_numbers (m T z) (E T z))) (runs_together (all_timed 0 (m T z) (E T z)) f.1);
      }

  pub courses_read : (h : Header) (l : List (List ℤ × ℕ)) → SaysCourses text h l
      → (course_form_fault (header_in T) T ≡ 0) × (said_by T ≡ record { header = h; entries = map joined l })
  courses_read h l s =
      let r = says_read text h (map joined l) s.says in
      let k = h.variables in
      let w = subst (λ (x : Contents). AllLong (suc x.header.variables) x.entries) r.1 (long T r.0) in
      let c = joined_courses k l w s.range in
      let runs = together_runs (all_timed 0 k (map joined l)) (subst Together (sym (timed_numbers k (map joined l) ∙ c.1)) s.together) in
      let f = (runs_iff 0 k (map joined l)).1 (c.0, runs) in
      (free_found T r.0 (subst (λ (x : Contents). Free x.header.variables [] x.entries) (sym r.1) f), r.1)
