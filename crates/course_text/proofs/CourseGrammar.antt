-- The form of a time course's text: what is computed means what specs/Grammar.antt says.
use mathlib.Core.Path.{◌≡◌, refl, sym, ap, ap₂, ◌∙◌, subst}
use mathlib.Core.Bool.{Bool, true, false, cond}
use mathlib.Core.List.{List, [], ◌∷◌, ◌++◌, map}
use mathlib.Core.Logic.{inl, inr, ◌↔◌, ◌≢◌}
use mathlib.Core.Option
use mathlib.Core.Option.{Option, some, none}
use Prim.Native.Nat.{ℕ, suc, ◌≤◌}
use native.Mathlib.Omega.{arith}
use lib.IntN.{ℤ, pos, negsuc}
use lib.ListN.{length, get_or, take, length-append, take-append-drop, drop_of_length-le}
use lib.Seq.{get_or_at, drop-cons}
use lib.Dec.{leb}
use borrow.Author.Tests.{leb-true, le-leb}
use Rattle.residue.specs.Lists.{Among}
use Rattle.residue.proofs.Tests.{Decides, so, not_so}
use Rattle.specification.proofs.needed.Decided.{equal_told, told_as}
use Rattle.notation.specs.Forms.{Header, entry_of}
use Rattle.notation.specs.FormGrammar.{AreLevels, no_levels, levels, IsEntry}
use Rattle.notation.proofs.Grammar.LevelForm.{entry_grammar}
use Rattle.comma_text.specs.reading.Text.{further, first_after, header_in, entry_in, entries_in}
use Rattle.comma_text.specs.reading.Text.{last_level}
use Rattle.comma_text.specs.reading.Faults.{FirstAt}
use Rattle.comma_text.proofs.reading.FirstFault.{first_at}
use Rattle.comma_text.proofs.reading.FormFaults.{Records, under, under_read, under_found}
use Rattle.comma_text.proofs.reading.entries.OneMore.{map_snoc}
use Rattle.course_text.specs.Form.{course_in, number_of, numbers_of, latest, course_fault, course_form_fault}
use Rattle.course_text.specs.Grammar.{HasNumber, ReturnsAfter, WrongCourse, CourseFaults}
use Rattle.course_text.proofs.reading.Marks.{latest_snoc}
use Rattle.course_text.proofs.reading.Returning.{Returns, Faulty, fault_told}

-- a level that is a course's number
course_of : (z : ℤ) (c : ℕ) → course_in z ≡ c → c ≢ 0 → (z ≡ pos c) × (1 ≤ c) × (c ≤ 99)
unfolding course_in
course_of (negsuc k) c e n = absurd (n (sym e))
course_of (pos k) c e n = go (leb k 99) refl e
  where
    go : (b : Bool) → leb k 99 ≡ b → cond b k 0 ≡ c → (pos k ≡ pos c) × (1 ≤ c) × (c ≤ 99)
    go true h q = (ap pos q, omega (arith, n), omega (arith, leb-true k 99 h, q))
    go false h q = absurd (n (sym q))

course_is : (c : ℕ) → c ≤ 99 → course_in (pos c) ≡ c
unfolding course_in
course_is c h = ap (λ (b : Bool). cond b c 0) (le-leb c 99 h)

-- an entry is its levels with its number
pub entry_split : (m : ℕ) (zs : List ℤ) (c : ℕ) → length zs ≡ suc m → number_of m zs ≡ c → c ≢ 0 → (zs ≡ take m zs ++ (pos c ∷ [])) × (1 ≤ c) × (c ≤ 99)
unfolding number_of last_level
entry_split m zs c l q n =
    let k = course_of (get_or zs m (pos 0)) c q n in
    let short : length zs ≤ suc m = omega arith in
    (sym (take-append-drop m zs) ∙ ap (λ (x : List ℤ). take m zs ++ x) (drop-cons zs m (pos 0) (omega arith) ∙ ap₂ (λ (y : ℤ) (x : List ℤ). y ∷ x) k.0 (drop_of_length-le zs short)), k.1, k.2)

pub split_number : (m : ℕ) (ls : List ℤ) (c : ℕ) → length ls ≡ m → c ≤ 99 → number_of m (ls ++ (pos c ∷ [])) ≡ c
unfolding number_of last_level
split_number m ls c l h = ap course_in (get_or_at ls (pos c) [] (pos 0) m l) ∙ course_is c h

levels_long : {fs : List (List ℕ)} {zs : List ℤ} → AreLevels fs zs → length zs ≡ length fs
levels_long no_levels = refl
levels_long (levels a r) = ap suc (levels_long r)

module _ (m : ℕ) where
  -- the computed number of a record
  abbrev number : Option (List (List ℕ)) → ℕ
  number r = number_of m (Option.get_or (entry_in m r) [])

  has_number : (r : Option (List (List ℕ))) (c : ℕ) → HasNumber m r c → (number r ≡ c) × (c ≢ 0)
  unfolding entry_in number_of last_level
  has_number r c (fields, ls, q, i) =
      let zs = ls ++ (pos c ∷ []) in
      let e : entry_in m r ≡ some zs = ap (entry_in m) q ∙ (entry_grammar m fields zs).0 i.entry in
      let l : length ls ≡ m = omega (arith, levels_long i.entry.each, i.entry.count, length-append ls (pos c ∷ [])) in
      (ap (λ (o : Option (List ℤ)). number_of m (Option.get_or o [])) e ∙ split_number m ls c l i.most, λ z. omega (arith, z, i.least))

  number_has : (r : Option (List (List ℕ))) (c : ℕ) → number r ≡ c → c ≢ 0 → HasNumber m r c
  unfolding entry_in number_of last_level course_in
  number_has none c e n = absurd (n (sym e))
  number_has (some fields) c e n = go (entry_of m fields) refl e
    where
      go : (o : Option (List ℤ)) → entry_of m fields ≡ o → number_of m (Option.get_or o []) ≡ c → HasNumber m (some fields) c
      go none h q = absurd (n (sym q))
      go (some zs) h q =
          let i = (entry_grammar m fields zs).1 h in
          let w = entry_split m zs c (levels_long i.each ∙ i.count) q n in
          (fields, take m zs, refl, record { entry = subst (IsEntry m fields) w.0 i; least = w.1; most = w.2 })

  -- the records before: one of them has a number, and the last has it
  abbrev numbers : Records → List ℕ
  numbers before = numbers_of m (map (entry_in m) before)

  numbers_snoc : (b : Records) (r : Option (List (List ℕ))) → numbers (b ++ (r ∷ [])) ≡ numbers b ++ (number r ∷ [])
  unfolding numbers_of
  numbers_snoc b r =
      ap (map (λ e. number_of m (Option.get_or e []))) (map_snoc (entry_in m) b r) ∙ map_snoc (λ e. number_of m (Option.get_or e [])) (map (entry_in m) b) (entry_in m r)

  module _ (c : ℕ) (n : c ≢ 0) where
    one_has : (before : Records) → Among c (numbers before) → (r : Option (List (List ℕ))) × Among r before × HasNumber m r c
    unfolding numbers_of
    one_has [] w = absurd w
    one_has (r ∷ before) (inl e) = (r, inl refl, number_has r c (sym e) n)
    one_has (r ∷ before) (inr q) = let w = one_has before q in (w.0, inr w.1, w.2)

    has_one : (before : Records) (r : Option (List (List ℕ))) → Among r before → HasNumber m r c → Among c (numbers before)
    unfolding numbers_of
    has_one (s ∷ before) r (inl e) h = inl (sym (has_number r c h).0 ∙ ap number e)
    has_one (s ∷ before) r (inr q) h = inr (has_one before r q h)
    has_one [] r x'' h = elim x'' [ ]

    last_has : (before : Records) → latest (numbers before) ≡ c → (b : Records) × (r : Option (List (List ℕ))) × (before ≡ b ++ (r ∷ [])) × HasNumber m r c
    unfolding numbers_of latest
    last_has [] e = absurd (n (sym e))
    last_has (r ∷ []) e = ([], r, refl, number_has r c e n)
    last_has (r ∷ s ∷ before) e = let w = last_has (s ∷ before) e in (r ∷ w.0, w.1, ap (λ (l : Records). r ∷ l) w.2, w.3)

    has_last : (before b : Records) (r : Option (List (List ℕ))) → before ≡ b ++ (r ∷ []) → HasNumber m r c → latest (numbers before) ≡ c
    has_last before b r e h = ap (λ (l : Records). latest (numbers l)) e ∙ ap latest (numbers_snoc b r) ∙ latest_snoc (numbers b) (number r) ∙ (has_number r c h).0

    returns_said : (before : Records) → Returns (numbers before) c → ReturnsAfter m before c
    returns_said before r = (one_has before r.0, λ w. r.1 (sym (has_last before w.0 w.1 w.2 w.3)))

    said_returns : (before : Records) → ReturnsAfter m before c → Returns (numbers before) c
    said_returns before w = (has_one before w.0.0 w.0.1 w.0.2, λ e. w.1 (last_has before (sym e)))

  -- wrong form, by the test
  module _ (before : Records) (r : Option (List (List ℕ))) where
    none_wrong : entry_in m r ≡ none → WrongCourse m before r
    unfolding number_of last_level course_in
    none_wrong e c h = let q = has_number r c h in absurd (q.1 (sym q.0 ∙ ap (λ (x : Option (List ℤ)). number_of m (Option.get_or x [])) e))

    module _ (zs : List ℤ) (e : entry_in m r ≡ some zs) where
      own : number r ≡ number_of m zs
      own = ap (λ (x : Option (List ℤ)). number_of m (Option.get_or x [])) e

      faulty_wrong : Faulty m (map (entry_in m) before) zs → WrongCourse m before r
      faulty_wrong (inl z) c h = let q = has_number r c h in absurd (q.1 (sym q.0 ∙ own ∙ z))
      faulty_wrong (inr f) c h =
          let q = has_number r c h in
          returns_said c q.1 before (subst (Returns (numbers before)) (sym own ∙ q.0) f)

      wrong_faulty : WrongCourse m before r → Faulty m (map (entry_in m) before) zs
      wrong_faulty w = go (equal_told (number_of m zs) 0)
        where
          go : {b : Bool} → Decides (number_of m zs ≡ 0) b → Faulty m (map (entry_in m) before) zs
          go (so z) = inl z
          go (not_so n) = inr (said_returns (number_of m zs) n before (w (number_of m zs) (number_has r (number_of m zs) own n)))

  wrong_told : (before : Records) (r : Option (List (List ℕ))) → Decides (WrongCourse m before r) (course_fault m (map (entry_in m) before) (entry_in m r))
  unfolding course_fault
  wrong_told before r = go (entry_in m r) refl
    where
      go : (o : Option (List ℤ)) → entry_in m r ≡ o → Decides (WrongCourse m before r) (course_fault m (map (entry_in m) before) o)
      go none e = so (none_wrong before r e)
      go (some zs) e = told_as (faulty_wrong before r zs e) (wrong_faulty before r zs e) (fault_told m (map (entry_in m) before) zs)

-- a search by what records say
after_map : {A B : Type 0} (f : List B → B → Bool) (g : A → B) (seen l : List A) → first_after f (map g seen) (map g l) ≡ first_after (λ b a. f (map g b) (g a)) seen l
unfolding first_after
after_map f g seen [] = refl
after_map f g seen (a ∷ l) =
    ap (λ (n : ℕ). cond (f (map g seen) (g a)) 1 (further n)) (ap (λ (s : List _). first_after f s (map g l)) (sym (map_snoc g seen a)) ∙ after_map f g (seen ++ (a ∷ [])) l)

module _ (m : ℕ) where
  -- the place in a text under its header
  abbrev first_wrong : Records → ℕ
  first_wrong t = first_after (course_fault m) [] (map (entry_in m) t)

  behind_header : (t : Records) (k : ℕ) → FirstAt (WrongCourse m) t k ↔ (first_wrong t ≡ suc k)
  behind_header t k =
      let e = after_map (course_fault m) (entry_in m) [] t in
      let g = first_at (WrongCourse m) (λ b a. course_fault m (map (entry_in m) b) (entry_in m a)) (wrong_told m) t k in
      ((λ f. e ∙ g.0 f), λ h. g.1 (sym e ∙ h))

form_under : (o : Option Header) (t : Records) → course_form_fault o t ≡ under WrongCourse first_wrong behind_header o t
unfolding course_form_fault under entries_in
form_under none t = refl
form_under (some h) t = refl

pub course_faults : CourseFaults
course_faults t k = (
  (λ f. form_under (header_in t) t ∙ under_read WrongCourse first_wrong behind_header f),
  λ e. under_found WrongCourse first_wrong behind_header t k (sym (form_under (header_in t) t) ∙ e),
)
