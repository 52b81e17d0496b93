-- A text without a fault of form has its course numbers in runs, and conversely: what is looked for record by record is what `in_runs` says of them all.
use mathlib.Core.Path.{◌≡◌, refl, sym, ap, ◌∙◌, subst}
use mathlib.Core.Bool.{Bool, false, not, ◌&&◌, ◌||◌}
use mathlib.Core.List.{List, [], ◌∷◌, ◌++◌, map}
use mathlib.Core.Logic.{◌⊎◌, inl, inr, ◌↔◌, ◌≢◌}
use mathlib.Core.Option.{Option, some, get_or}
use Prim.Native.Nat.{ℕ}
use native.Mathlib.Omega.{arith}
use lib.IntN.{ℤ}
use lib.Dec.{T, eqb, not_T, T_not}
use borrow.Author.Tests.{eqb-true, eq-eqb}
use Rattle.residue.specs.Lists.{Among}
use Rattle.residue.specs.Lists as Lists
use Rattle.residue.proofs.Tests.{Decides, so, not_so, of_true, true_of, told_false, and_left, and_right, and_both}
use Rattle.residue.proofs.Searches.{one_of, of_one}
use Rattle.specification.proofs.needed.Decided.{equal_told}
use Rattle.specification.proofs.ideal.Lists.{snoc_of, snoc_in}
use Rattle.comma_text.specs.reading.Text.{further, first_after}
use Rattle.comma_text.proofs.reading.FirstPlaces.{fault_step}
use Rattle.comma_text.proofs.reading.entries.OneMore.{map_snoc}
use Rattle.courses.specs.TimeCourse.{Timed, in_runs}
use Rattle.course_text.specs.Form.{number_of, numbers_of, latest, comes_back, course_fault, timed_of, all_timed}
use Rattle.course_text.proofs.reading.Marks.{latest_snoc}

-- 'returning after another', said
abbrev pub Returns : List ℕ → ℕ → Type 0
Returns before c = Among c before × (c ≢ latest before)

number_told : (c : ℕ) (l : List ℕ) → Decides (Among c l) (Lists.some (eqb c) l)
number_told c [] = not_so (λ z. z)
number_told c (d ∷ l) = go (equal_told c d) (number_told c l)
  where
    go : {x y : Bool} → Decides (c ≡ d) x → Decides (Among c l) y → Decides (Among c (d ∷ l)) (x || y)
    go (so e) z = so (inl e)
    go (not_so n) (so h) = so (inr h)
    go (not_so n) (not_so m) = not_so (λ z. elim z [ inl e ↦ n e | inr q ↦ m q ])

pub returns_told : (before : List ℕ) (c : ℕ) → Decides (Returns before c) (comes_back before c)
unfolding comes_back
returns_told before c = go (number_told c before) (equal_told c (latest before))
  where
    go : {x y : Bool} → Decides (Among c before) x → Decides (c ≡ latest before) y → Decides (Returns before c) (x && not y)
    go (so h) (so e) = not_so (λ r. r.1 e)
    go (so h) (not_so n) = so (h, n)
    go (not_so m) e = not_so (λ r. m r.0)

-- a record that is an entry has a fault of form: its number is none, or returns
abbrev pub Faulty : ℕ → List (Option (List ℤ)) → List ℤ → Type 0
Faulty m before zs = (number_of m zs ≡ 0) ⊎ Returns (numbers_of m before) (number_of m zs)

pub fault_told : (m : ℕ) (before : List (Option (List ℤ))) (zs : List ℤ) → Decides (Faulty m before zs) (course_fault m before (some zs))
unfolding course_fault
fault_told m before zs = go (equal_told (number_of m zs) 0) (returns_told (numbers_of m before) (number_of m zs))
  where
    go : {x y : Bool} → Decides (number_of m zs ≡ 0) x → Decides (Returns (numbers_of m before) (number_of m zs)) y → Decides (Faulty m before zs) (x || y)
    go (so e) r = so (inl e)
    go (not_so n) (so r) = so (inr r)
    go (not_so n) (not_so r) = not_so (λ z. elim z [ inl e ↦ n e | inr q ↦ r q ])

-- entries without a fault, those of `before` being passed
abbrev pub Free : ℕ → List (Option (List ℤ)) → List (List ℤ) → Type 0
Free m before E = first_after (course_fault m) before (map some E) ≡ 0

abbrev after : List (Option (List ℤ)) → List ℤ → List (Option (List ℤ))
after before zs = before ++ (some zs ∷ [])

free_first : (m : ℕ) (before : List (Option (List ℤ))) (zs : List ℤ) (E : List (List ℤ)) → Free m before (zs ∷ E) → (¬ Faulty m before zs) × Free m (after before zs) E
unfolding first_after
free_first m before zs E e = let s = fault_step (course_fault m before (some zs)) (first_after (course_fault m) (after before zs) (map some E)) e in (out (fault_told m before zs) s.0, s.1)
  where
    out : {b : Bool} → Decides (Faulty m before zs) b → b ≡ false → ¬ Faulty m before zs
    out (not_so n) h = n
    out (so x) h = absurd (let z : ◌≡◌ {A = ℕ} 0 1 = cc in omega arith)

free_more : (m : ℕ) (before : List (Option (List ℤ))) (zs : List ℤ) (E : List (List ℤ)) → ¬ Faulty m before zs → Free m (after before zs) E → Free m before (zs ∷ E)
unfolding first_after further
free_more m before zs E n e = rw (told_false (fault_told m before zs) n) (ap further e)

after_numbers : (m : ℕ) (before : List (Option (List ℤ))) (zs : List ℤ) → numbers_of m (after before zs) ≡ numbers_of m before ++ (number_of m zs ∷ [])
unfolding numbers_of
after_numbers m before zs = map_snoc (λ e. number_of m (get_or e [])) before (some zs)

module _ (p m : ℕ) where
  -- the numbers before, but for the latest, come no more
  abbrev Closed : List ℕ → ℕ → List (List ℤ) → Type 0
  Closed before c E = (d : ℕ) → Among d before → d ≢ c → (zs : List ℤ) → Among zs E → d ≢ number_of m zs

  abbrev pub AllCourses : List (List ℤ) → Type 0
  AllCourses E = (zs : List ℤ) → Among zs E → number_of m zs ≢ 0

  -- no later record has this number
  abbrev gone : ℕ → List (List ℤ) → Bool
  gone c E = not (Lists.some (λ (e : Timed). eqb e.1 c) (map (timed_of p m) E))

  timed_among : (E : List (List ℤ)) (e : Timed) → Among e (map (timed_of p m) E) → (zs : List ℤ) × Among zs E × (e ≡ timed_of p m zs)
  timed_among [] e w = absurd w
  timed_among (zs ∷ E) e (inl q) = (zs, inl refl, q)
  timed_among (zs ∷ E) e (inr q) = let r = timed_among E e q in (r.0, inr r.1, r.2)

  among_timed : (E : List (List ℤ)) (zs : List ℤ) → Among zs E → Among (timed_of p m zs) (map (timed_of p m) E)
  among_timed (y ∷ E) zs (inl q) = inl (ap (timed_of p m) q)
  among_timed (y ∷ E) zs (inr q) = inr (among_timed E zs q)
  among_timed [] zs x' = elim x' [ ]

  is_gone : (c : ℕ) (E : List (List ℤ)) → ((zs : List ℤ) → Among zs E → c ≢ number_of m zs) → T (gone c E)
  unfolding timed_of
  is_gone c E h =
      not_T (Lists.some (λ (e : Timed). eqb e.1 c) (map (timed_of p m) E))
      (λ t. let w = one_of (λ (e : Timed). eqb e.1 c) (map (timed_of p m) E) t in
      let r = timed_among E w.0 w.1.0 in
      h r.0 r.1 (sym (eqb-true w.0.1 c (true_of _ w.1.1)) ∙ ap (λ (e : Timed). e.1) r.2))

  gone_not : (c : ℕ) (E : List (List ℤ)) → T (gone c E) → (zs : List ℤ) → Among zs E → c ≢ number_of m zs
  unfolding timed_of
  gone_not c E t zs w e =
      T_not (Lists.some (λ (e : Timed). eqb e.1 c) (map (timed_of p m) E)) t
      (of_one (λ (e : Timed). eqb e.1 c) (map (timed_of p m) E) (timed_of p m zs) (among_timed E zs w) (of_true (eq-eqb (number_of m zs) c (sym e))))

  -- the first of two entries and those behind it
  runs_more : (zs ys : List ℤ) (E : List (List ℤ)) → (number_of m zs ≢ number_of m ys → T (gone (number_of m zs) (ys ∷ E)))
      → T (in_runs (map (timed_of p m) (ys ∷ E))) → T (in_runs (map (timed_of p m) (zs ∷ ys ∷ E)))
  unfolding in_runs timed_of
  runs_more zs ys E h t = and_both (eqb (number_of m zs) (number_of m ys) || gone (number_of m zs) (ys ∷ E)) _ (go (equal_told (number_of m zs) (number_of m ys))) t
    where
      go : {x : Bool} → Decides (number_of m zs ≡ number_of m ys) x → T (x || gone (number_of m zs) (ys ∷ E))
      go (so e) = tt
      go (not_so n) = h n

  runs_first : (zs ys : List ℤ) (E : List (List ℤ)) → T (in_runs (map (timed_of p m) (zs ∷ ys ∷ E)))
      → (number_of m zs ≢ number_of m ys → T (gone (number_of m zs) (ys ∷ E))) × T (in_runs (map (timed_of p m) (ys ∷ E)))
  unfolding in_runs timed_of
  runs_first zs ys E t =
      let joined = eqb (number_of m zs) (number_of m ys) || gone (number_of m zs) (ys ∷ E) in
      ((λ n. go (equal_told (number_of m zs) (number_of m ys)) n (and_left joined _ t)), and_right joined _ t)
    where
      go : {x : Bool} → Decides (number_of m zs ≡ number_of m ys) x → number_of m zs ≢ number_of m ys → T (x || gone (number_of m zs) (ys ∷ E)) → T (gone (number_of m zs) (ys ∷ E))
      go (so e) n u = absurd (n e)
      go (not_so k) n u = u

  -- behind an entry zs, which is the latest
  module _ (before : List (Option (List ℤ))) (zs : List ℤ) where
    abbrev passed : List ℕ
    passed = numbers_of m (after before zs)

    newest : latest passed ≡ number_of m zs
    newest = ap latest (after_numbers m before zs) ∙ latest_snoc (numbers_of m before) (number_of m zs)

    newest_in : Among (number_of m zs) passed
    newest_in = rw (after_numbers m before zs) (snoc_in (numbers_of m before) (number_of m zs) (number_of m zs) (inr refl))

    -- what was passed, and one more
    passed_more : (ys : List ℤ) (d : ℕ) → Among d passed → Among d (numbers_of m (after (after before zs) ys))
    passed_more ys d w = rw (after_numbers m (after before zs) ys) (snoc_in passed (number_of m ys) d (inl w))

    passed_of : (ys : List ℤ) (d : ℕ) → Among d (numbers_of m (after (after before zs) ys)) → Among d passed ⊎ (d ≡ number_of m ys)
    passed_of ys d w = snoc_of passed (number_of m ys) d (subst (Among d) (after_numbers m (after before zs) ys) w)

  free_runs : (before : List (Option (List ℤ))) (zs : List ℤ) (E : List (List ℤ)) → Free m (after before zs) E
      → T (in_runs (map (timed_of p m) (zs ∷ E))) × Closed (passed before zs) (number_of m zs) E × AllCourses E
  unfolding in_runs
  free_runs before zs [] f = (tt, (λ d w n y v. absurd v), λ y v. absurd v)
  free_runs before zs (ys ∷ E) f =
      let s = free_first m (after before zs) ys E f in
      go s.0 (free_runs (after before zs) ys E s.1)
    where
      go : ¬ Faulty m (after before zs) ys → T (in_runs (map (timed_of p m) (ys ∷ E))) × Closed (passed (after before zs) ys) (number_of m ys) E × AllCourses E
          → T (in_runs (map (timed_of p m) (zs ∷ ys ∷ E))) × Closed (passed before zs) (number_of m zs) (ys ∷ E) × AllCourses (ys ∷ E)
      go s r = (runs_more zs ys E (λ n. is_gone (number_of m zs) (ys ∷ E) (last n)) r.0, closed, courses)
        where
          -- the next number is none of those passed but the latest
          back : (d : ℕ) → Among d (passed before zs) → d ≢ number_of m zs → d ≢ number_of m ys
          back d w n e = s (inr (subst (λ (k : ℕ). Among k (passed before zs)) e w, λ z. n (e ∙ z ∙ newest before zs)))

          last : number_of m zs ≢ number_of m ys → (y : List ℤ) → Among y (ys ∷ E) → number_of m zs ≢ number_of m y
          last n y (inl q) = λ e. n (e ∙ ap (number_of m) q)
          last n y (inr q) = r.1 (number_of m zs) (passed_more before zs ys (number_of m zs) (newest_in before zs)) n y q

          closed : Closed (passed before zs) (number_of m zs) (ys ∷ E)
          closed d w n y (inl q) = λ e. back d w n (e ∙ ap (number_of m) q)
          closed d w n y (inr q) = r.1 d (passed_more before zs ys d w) (back d w n) y q

          courses : AllCourses (ys ∷ E)
          courses y (inl q) = λ e. s (inl (sym (ap (number_of m) q) ∙ e))
          courses y (inr q) = r.2 y q

  runs_free : (before : List (Option (List ℤ))) (zs : List ℤ) (E : List (List ℤ)) → T (in_runs (map (timed_of p m) (zs ∷ E))) → AllCourses E
      → Closed (passed before zs) (number_of m zs) E → Free m (after before zs) E
  unfolding first_after
  runs_free before zs [] t a c = refl
  runs_free before zs (ys ∷ E) t a c =
      let s = runs_first zs ys E t in
      free_more m (after before zs) ys E fine (runs_free (after before zs) ys E s.1 (λ y q. a y (inr q)) (closed s.0))
    where
      fine : ¬ Faulty m (after before zs) ys
      fine (inl e) = a ys (inl refl) e
      fine (inr q) = c (number_of m ys) q.0 (λ e. q.1 (e ∙ sym (newest before zs))) ys (inl refl) refl

      closed : (number_of m zs ≢ number_of m ys → T (gone (number_of m zs) (ys ∷ E))) → Closed (passed (after before zs) ys) (number_of m ys) E
      closed g d w n y q = go (passed_of before zs ys d w) (equal_told d (number_of m zs))
        where
          go : {b : Bool} → Among d (passed before zs) ⊎ (d ≡ number_of m ys) → Decides (d ≡ number_of m zs) b → d ≢ number_of m y
          go (inr e) h = absurd (n e)
          go (inl v) (not_so k) = c d v k y (inr q)
          go (inl v) (so e) = λ u. gone_not (number_of m zs) (ys ∷ E) (g (λ z. n (e ∙ z))) y (inr q) (sym e ∙ u)

  -- the first entry
  first_fine : (zs : List ℤ) → number_of m zs ≢ 0 → ¬ Faulty m [] zs
  unfolding numbers_of
  first_fine zs n (inl e) = n e
  first_fine zs n (inr q) = q.0

  only_first : (zs : List ℤ) (d : ℕ) → Among d (passed [] zs) → d ≡ number_of m zs
  unfolding numbers_of
  only_first zs d (inl e) = e
  only_first zs d (inr q) = absurd q

  -- Entries have no fault of form exactly where each has a course number and the numbers stand in runs.
  pub runs_iff : (E : List (List ℤ)) → Free m [] E ↔ (AllCourses E × T (in_runs (all_timed p m E)))
  unfolding all_timed first_after in_runs
  runs_iff [] = ((λ e. ((λ zs q. absurd q), tt)), λ h. refl)
  runs_iff (zs ∷ E) = (from, to)
    where
      from : Free m [] (zs ∷ E) → AllCourses (zs ∷ E) × T (in_runs (map (timed_of p m) (zs ∷ E)))
      from f =
          let s = free_first m [] zs E f in
          let r = free_runs [] zs E s.1 in
          ((λ y v. elim v [ inl q ↦ (λ e. s.0 (inl (sym (ap (number_of m) q) ∙ e))) | inr q ↦ r.2 y q ]), r.0)

      to : AllCourses (zs ∷ E) × T (in_runs (map (timed_of p m) (zs ∷ E))) → Free m [] (zs ∷ E)
      to h =
          free_more m [] zs E (first_fine zs (h.0 zs (inl refl)))
          (runs_free [] zs E h.1 (λ y q. h.0 y (inr q)) (λ d w n y q. absurd (n (only_first zs d w))))
