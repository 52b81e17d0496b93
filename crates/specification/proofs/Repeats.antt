-- A point among others, and points of which none repeats.
use mathlib.Core.Path.{◌≡◌, refl, sym, ap₂, subst}
use mathlib.Core.Bool.{Bool, true, false, ◌||◌, not, ◌&&◌}
use mathlib.Core.Logic.{inl, inr}
use mathlib.Core.List.{List, [], ◌∷◌, map}
use Prim.Native.Nat.{ℕ, ◌+◌, ◌*◌, ◌-◌, ◌<◌, ◌≤◌}
use native.Mathlib.Omega.{arith}
use lib.ListN.{take, drop, length}
use lib.Dec.{T}
use Rattle.residue.specs.Lists.{Among, same_list}
use Rattle.residue.specs.Layout.{groups, fill}
use Rattle.residue.proofs.Searches.{one_of, of_one}
use Rattle.residue.proofs.bytes.Equality.{same_is, same_self, same_filled}
use Rattle.residue.proofs.Places.{groups_step, groups_end}
use Rattle.specification.specs.Levels.{is_among, no_repeat}

pub among_is : (P : List ℕ) (S : List (List ℕ)) → T (is_among P S) → Among P S
unfolding is_among
among_is P S h = let w = one_of (same_list P) S h in subst (λ (Q : List ℕ). Among Q S) (sym (same_is P w.0 w.1.1)) w.1.0

pub is_among_lem : (P : List ℕ) (S : List (List ℕ)) → Among P S → T (is_among P S)
unfolding is_among
is_among_lem P S q = of_one (same_list P) S P q (same_self P)

-- A search for a repeat.
module _ (t : List ℕ) (n i : ℕ) (h : i < n) where
  abbrev pub again : Bool
  again = is_among (take 8 (drop (8 * i) t)) (groups 8 (n - (i + 1)) (drop (8 * (i + 1)) t))

  pub repeat_on : again ≡ false → no_repeat (groups 8 (n - (i + 1)) (drop (8 * (i + 1)) t)) ≡ no_repeat (groups 8 (n - i) (drop (8 * i) t))
  unfolding no_repeat
  repeat_on e = rw (groups_step 8 n i t h) (simp e)

  pub repeat_hit : again ≡ true → false ≡ no_repeat (groups 8 (n - i) (drop (8 * i) t))
  unfolding no_repeat
  repeat_hit e = rw (groups_step 8 n i t h) (simp e)

pub repeat_end : (t : List ℕ) (n i : ℕ) → n ≤ i → true ≡ no_repeat (groups 8 (n - i) t)
unfolding no_repeat
repeat_end t n i h = rw (groups_end 8 n i t h)

module _ (k m : ℕ) (fits : m ≤ k) where
  pub among_filled : (P : List ℕ) (S : List (List ℕ)) → length P ≡ m → ((Q : List ℕ) → Among Q S → length Q ≡ m) → is_among (fill k P) (map (fill k) S) ≡ is_among P S
  unfolding is_among
  among_filled P [] e h = refl
  among_filled P (Q ∷ S) e h =
      let l = h Q (inl refl) in
      ap₂ ◌||◌ (same_filled k P Q (omega arith) (omega arith)) (among_filled P S e (λ R q. h R (inr q)))

  pub repeat_filled : (S : List (List ℕ)) → ((Q : List ℕ) → Among Q S → length Q ≡ m) → no_repeat (map (fill k) S) ≡ no_repeat S
  unfolding no_repeat
  repeat_filled [] h = refl
  repeat_filled (P ∷ S) h =
      ap₂ (λ (a b : Bool). not a && b) (among_filled P S (h P (inl refl)) (λ R q. h R (inr q))) (repeat_filled S (λ R q. h R (inr q)))
