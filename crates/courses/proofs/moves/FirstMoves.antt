-- The first move at fault: one move more, the one at fault with others behind it, and no 8 among at most 64 points.
use mathlib.Core.Path.{◌≡◌, refl, ◌∙◌, ap}
use mathlib.Core.Bool.{Bool, true, false, cond, ◌&&◌}
use mathlib.Core.Logic.{inl, inr}
use mathlib.Core.List.{List, [], ◌∷◌, ◌++◌, map-append, append_assoc, append-nil}
use Prim.Native.Nat.{ℕ, ◌≤◌}
use native.Mathlib.Omega.{arith}
use lib.ListN.{length}
use lib.Dec.{eqb}
use borrow.Author.Tests.{ne_eqb, le-ltb}
use Rattle.residue.specs.Lists.{Among}
use Rattle.specification.specs.Counted.{entered, entered_all, gathered}
use Rattle.specification.proofs.counted.Room.{all_grow}
use Rattle.specification.proofs.leaving.Without.{all_append}
use Rattle.courses.specs.TimeCourse.{Move, states_of, points_of_moves, first_move, many_points}

-- records of moves are numbered from 1
abbrev pub Numbered : List Move → Type 0
Numbered l = (a : Move) → Among a l → 1 ≤ a.at

module _ (f : List Move → Move → Bool) where
  -- the one found before, or this one
  pub first_more : (seen l : List Move) (a : Move) → Numbered l
      → first_move f seen (l ++ (a ∷ [])) ≡ cond (eqb (first_move f seen l) 0 && f (seen ++ l) a) a.at (first_move f seen l)
  unfolding first_move
  first_more seen [] a h = rw (append-nil seen) refl
  first_more seen (b ∷ l) a h = go (f seen b) (first_more (seen ++ (b ∷ [])) l a (λ c mem. h c (inr mem)))
    where
      R : ℕ
      R = first_move f (seen ++ (b ∷ [])) l

      go : (x : Bool) → first_move f (seen ++ (b ∷ [])) (l ++ (a ∷ [])) ≡ cond (eqb R 0 && f ((seen ++ (b ∷ [])) ++ l) a) a.at R
          → cond x b.at (first_move f (seen ++ (b ∷ [])) (l ++ (a ∷ [])))
          ≡ cond (eqb (cond x b.at R) 0 && f (seen ++ (b ∷ l)) a) a.at (cond x b.at R)
      go true e = rw (ne_eqb b.at 0 (λ z. omega (arith, z, h b (inl refl)))) refl
      go false e = e ∙ ap (λ (s : List Move). cond (eqb R 0 && f s a) a.at R) (append_assoc seen (b ∷ []) l)

  pub first_found : (seen l : List Move) (a : Move) (rest : List Move) → Numbered l → first_move f seen l ≡ 0 → f (seen ++ l) a ≡ true
      → first_move f seen (l ++ (a ∷ rest)) ≡ a.at
  unfolding first_move
  first_found seen [] a rest h z e = rw (rw (append-nil seen) at e) refl
  first_found seen (b ∷ l) a rest h z e = go (f seen b) z (λ y. first_found (seen ++ (b ∷ [])) l a rest (λ c mem. h c (inr mem)) y
      (ap (λ (s : List Move). f s a) (append_assoc seen (b ∷ []) l) ∙ e))
    where
      go : (x : Bool) → cond x b.at (first_move f (seen ++ (b ∷ [])) l) ≡ 0
          → (first_move f (seen ++ (b ∷ [])) l ≡ 0 → first_move f (seen ++ (b ∷ [])) (l ++ (a ∷ rest)) ≡ a.at)
          → cond x b.at (first_move f (seen ++ (b ∷ [])) (l ++ (a ∷ rest))) ≡ a.at
      go true y k = absurd (omega (arith, y, h b (inl refl)))
      go false y k = k y

-- the points with those of more moves
points_on : (A B : List Move) → points_of_moves (A ++ B) ≡ entered_all (states_of B) (points_of_moves A)
unfolding points_of_moves gathered
points_on A B = ap gathered (map-append (λ a. a.state) A B) ∙ all_append (states_of A) (states_of B) []

pub points_more : (ms : List Move) (a : Move) → points_of_moves (ms ++ (a ∷ [])) ≡ entered a.state (points_of_moves ms)
unfolding entered_all
points_more ms a = points_on ms (a ∷ [])

pub never_many : (seen l : List Move) → length (points_of_moves (seen ++ l)) ≤ 64 → first_move many_points seen l ≡ 0
unfolding first_move many_points
never_many seen [] h = refl
never_many seen (a ∷ l) h =
    let front = seen ++ (a ∷ []) in
    let whole : front ++ l ≡ seen ++ (a ∷ l) = append_assoc seen (a ∷ []) l in
    let all : length (points_of_moves (front ++ l)) ≤ 64 = omega (arith, ap (λ (s : List Move). length (points_of_moves s)) whole, h) in
    let few : length (points_of_moves front) ≤ 64 = omega (arith, all_grow (states_of l) (points_of_moves front), ap length (points_on front l), all) in
    ap (λ (b : Bool). cond b a.at (first_move many_points front l)) (le-ltb 64 (length (points_of_moves front)) few) ∙ never_many front l all
