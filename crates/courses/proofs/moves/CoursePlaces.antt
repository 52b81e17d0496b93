-- Where a course begins: the search along the numbers, and what its place says of the records.
use mathlib.Core.Path.{◌≡◌, refl, sym, ◌∙◌, ap, ap₂}
use mathlib.Core.Bool.{Bool, true, false, cond, ◌||◌}
use mathlib.Core.Logic.{◌≢◌}
use mathlib.Core.List.{List, [], ◌∷◌, map}
use Prim.Native.Nat.{ℕ, suc, ◌+◌, ◌<◌}
use native.Mathlib.Numerals.{add-one}
use native.Mathlib.Omega.{arith}
use lib.ListN.{length, get_or, take}
use lib.Dec.{eqb, ltb, leb-suc-suc}
use borrow.Author.Tests.{lt-ltb, eq-eqb, ne_eqb}
use Rattle.residue.specs.Lists.{some}
use Rattle.residue.specs.Layout.{fill, row_at}
use Rattle.courses.specs.TimeCourse.{Timed, course_of}
use Rattle.courses.specs.Records.{HeldIn}
use Rattle.courses.specs.Moves.{state_at, place_of_course}
use Rattle.courses.proofs.moves.HeldRecords.{row_is}

-- the place of a course among numbers, by the first of them
pub course_hit : (c x : ℕ) (l : List ℕ) → x ≡ c → place_of_course c (x ∷ l) ≡ 0
unfolding place_of_course
course_hit c x l e = rw (eq-eqb x c e) refl

pub course_miss : (c x : ℕ) (l : List ℕ) → x ≢ c → place_of_course c (x ∷ l) ≡ place_of_course c l + 1
unfolding place_of_course
course_miss c x l n = rw (ne_eqb x c n) (sym (add-one (place_of_course c l)))

pub course_none : (c : ℕ) → place_of_course c [] ≡ 0
unfolding place_of_course
course_none c = refl

-- 18 is given where the place is the end
pub course_named : (c : ℕ) (l : List Timed) → some (λ a. eqb a.1 c) l ≡ ltb (place_of_course c (map (λ a. a.1) l)) (length l)
unfolding place_of_course
course_named c [] = refl
course_named c (a ∷ l) = go (eqb a.1 c) (course_named c l)
  where
    go : (b : Bool) → some (λ d. eqb d.1 c) l ≡ ltb (place_of_course c (map (λ d. d.1) l)) (length l)
        → (b || some (λ d. eqb d.1 c) l) ≡ ltb (cond b 0 (suc (place_of_course c (map (λ d. d.1) l)))) (suc (length l))
    go true e = sym (lt-ltb 0 (suc (length l)) (omega arith))
    go false e = e ∙ sym (leb-suc-suc (suc (place_of_course c (map (λ d. d.1) l))) (length l))

-- any other place is that of the course's first state
pub course_first : (c : ℕ) (l : List Timed) → place_of_course c (map (λ a. a.1) l) < length l
    → get_or (course_of c l) 0 [] ≡ state_at (place_of_course c (map (λ a. a.1) l)) l
unfolding place_of_course course_of
course_first c [] h = absurd (omega arith)
course_first c (a ∷ l) h = go (eqb a.1 c) h (course_first c l)
  where
    go : (b : Bool) → cond b 0 (suc (place_of_course c (map (λ d. d.1) l))) < suc (length l)
        → (place_of_course c (map (λ d. d.1) l) < length l → get_or (course_of c l) 0 [] ≡ state_at (place_of_course c (map (λ d. d.1) l)) l)
        → get_or (cond b (a.0 ∷ course_of c l) (course_of c l)) 0 [] ≡ state_at (cond b 0 (suc (place_of_course c (map (λ d. d.1) l)))) (a ∷ l)
    go true k f = refl
    go false k f = f (omega arith)

-- What the search along the numbers of a table answers of the records that stand there.
module _ {m count : ℕ} {l : List Timed} {records numbers : List ℕ} (h : HeldIn m l records numbers) (all : length l ≡ count) (c r : ℕ)
    (e : r ≡ place_of_course c (take count numbers)) where
  place : r ≡ place_of_course c (map (λ a. a.1) l)
  place = e ∙ ap (place_of_course c) (ap (λ (k : ℕ). take k numbers) (sym all) ∙ h.courses)

  pub found_named : some (λ a. eqb a.1 c) l ≡ ltb r count
  found_named = course_named c l ∙ ap₂ ltb (sym place) all

  pub found_first : r < count → row_at 8 r records ≡ fill 8 (get_or (course_of c l) 0 [])
  found_first low =
      row_is h r (omega (arith, low, all))
      ∙ ap (fill 8) (ap (λ (k : ℕ). state_at k l) place ∙ sym (course_first c l (omega (arith, place, low, all))))
