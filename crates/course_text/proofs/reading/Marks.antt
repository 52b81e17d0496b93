-- Course numbers: those that a level can be, and the table of those that were met.
use mathlib.Core.Path.{◌≡◌, refl, sym, ap, ap₂, ◌∙◌}
use mathlib.Core.Bool.{Bool, true, false, not, cond, ◌&&◌, ◌||◌, not-not}
use mathlib.Core.List.{List, [], ◌∷◌, ◌++◌}
use Prim.Native.Nat.{ℕ, ◌<◌}
use native.Mathlib.Omega.{arith}
use lib.IntN.{ℤ, pos, negsuc}
use lib.ListN.{length, get_or, set, replicate, length-replicate, get_or-replicate, length-set}
use lib.Seq.{get_or-set_same, get_or-set_other}
use lib.Dec.{eqb, leb}
use borrow.Author.Tests.{leb-true, eq-eqb, ne_eqb}
use Rattle.residue.specs.Lists.{some}
use Rattle.residue.proofs.Tests.{Decides, so, not_so}
use Rattle.specification.proofs.needed.Decided.{equal_told}
use Rattle.course_text.specs.Form.{course_in, latest, comes_back}

pub course_small : (z : ℤ) → course_in z < 100
unfolding course_in
course_small (negsuc k) = omega arith
course_small (pos k) = go (leb k 99) refl
  where
    go : (b : Bool) → leb k 99 ≡ b → cond b k 0 < 100
    go true e = let h = leb-true k 99 e in omega arith
    go false e = omega arith

-- the latest of numbers
pub latest_snoc : (l : List ℕ) (c : ℕ) → latest (l ++ (c ∷ [])) ≡ c
unfolding latest
latest_snoc [] c = refl
latest_snoc (a ∷ []) c = refl
latest_snoc (a ∷ b ∷ l) c = latest_snoc (b ∷ l) c

some_snoc : (d : ℕ) (l : List ℕ) (c : ℕ) → some (eqb d) (l ++ (c ∷ [])) ≡ (some (eqb d) l || eqb d c)
some_snoc d [] c = go (eqb d c)
  where
    go : (b : Bool) → (b || false) ≡ b
    go true = refl
    go false = refl
some_snoc d (a ∷ l) c = go (eqb d a) (some_snoc d l c)
  where
    go : (b : Bool) → some (eqb d) (l ++ (c ∷ [])) ≡ (some (eqb d) l || eqb d c) → (b || some (eqb d) (l ++ (c ∷ []))) ≡ ((b || some (eqb d) l) || eqb d c)
    go true h = refl
    go false h = h

-- the numbers that were met, and no others, are marked
pub record Marked (before marks : List ℕ) : Type 0 where
  pub long : length marks ≡ 100
  pub each : (c : ℕ) → c < 100 → eqb (get_or marks c 0) 0 ≡ not (some (eqb c) before)

pub none_marked : Marked [] (replicate 100 0)
none_marked = record { long = length-replicate {A = ℕ} 100 0; each = λ c h. eq-eqb _ _ (get_or-replicate 100 c 0 0 h) }

pub mark_more : {before marks : List ℕ} → Marked before marks → (c : ℕ) → c < 100 → Marked (before ++ (c ∷ [])) (set marks c 1)
mark_more {before} {marks} m c h = record { long = length-set marks c 1 ∙ m.long; each = each }
  where
    here : {d : ℕ} → {b : Bool} → Decides (d ≡ c) b → d < 100 → eqb (get_or (set marks c 1) d 0) 0 ≡ not (some (eqb d) before || b)
    here {d} (so e) k = ne_eqb _ _ (λ z. absurd (one (sym (ap (λ (i : ℕ). get_or (set marks c 1) i 0) e ∙ get_or-set_same marks c 1 0 (omega (arith, m.long))) ∙ z))) ∙ sym (ap not (met (some (eqb d) before)))
      where
        one : ◌≡◌ {A = ℕ} 1 0 → ⊥
        one z = omega arith

        met : (b : Bool) → (b || true) ≡ true
        met true = refl
        met false = refl
    here {d} (not_so n) k = ap (λ (x : ℕ). eqb x 0) (get_or-set_other marks c d 1 0 n) ∙ m.each d k ∙ sym (ap not (same (some (eqb d) before)))
      where
        same : (b : Bool) → (b || false) ≡ b
        same true = refl
        same false = refl

    each : (d : ℕ) → d < 100 → eqb (get_or (set marks c 1) d 0) 0 ≡ not (some (eqb d) (before ++ (c ∷ [])))
    each d k = here (equal_told d c) k ∙ ap not (sym (some_snoc d before c))

-- the test of a number by the marks
pub back_told : {before marks : List ℕ} → Marked before marks → (c last : ℕ) → c < 100 → last ≡ latest before
    → (not (eqb (get_or marks c 0) 0) && not (eqb c last)) ≡ comes_back before c
unfolding comes_back
back_told {before} m c last h e =
    ap₂ (λ (x y : Bool). x && y) (ap not (m.each c h) ∙ not-not (some (eqb c) before)) (ap (λ (k : ℕ). not (eqb c k)) e)
