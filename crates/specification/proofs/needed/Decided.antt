-- Tests with their meaning, put together.
use mathlib.Core.Path.{◌≡◌, refl, subst}
use mathlib.Core.Bool.{Bool, true, not, ◌&&◌}
use mathlib.Core.List.{List}
use Prim.Native.Nat.{ℕ}
use lib.Dec.{eqb}
use borrow.Author.Tests.{eq-eqb, eqb-true}
use Rattle.residue.specs.Lists.{same_list}
use Rattle.residue.proofs.Tests.{Decides, so, not_so, by_test, true_of, of_true}
use Rattle.residue.proofs.bytes.Equality.{same_is, same_self}

pub equal_told : (a b : ℕ) → Decides (a ≡ b) (eqb a b)
equal_told a b = by_test (eqb a b) (eqb-true a b) (eq-eqb a b)

pub lists_told : (P Q : List ℕ) → Decides (P ≡ Q) (same_list P Q)
lists_told P Q = by_test (same_list P Q) (λ e. same_is P Q (of_true e)) (λ e. subst (λ (R : List ℕ). same_list P R ≡ true) e (true_of (same_list P P) (same_self P)))

pub both_told : {X Y : Type 0} {s t : Bool} → Decides X s → Decides Y t → Decides (X × Y) (s && t)
both_told (so x) (so y) = so (x, y)
both_told (so x) (not_so y) = not_so (λ z. y z.1)
both_told (not_so x) d = not_so (λ z. x z.0)

pub not_told : {X : Type 0} {t : Bool} → Decides X t → Decides (¬ X) (not t)
not_told (so x) = not_so (λ n. n x)
not_told (not_so n) = so n

-- the meaning by another of the same force
pub told_as : {X Y : Type 0} {t : Bool} → (X → Y) → (Y → X) → Decides X t → Decides Y t
told_as f g (so x) = so (f x)
told_as f g (not_so n) = not_so (λ y. n (g y))

-- tests of the same force have the same answer
pub same_answer : {X Y : Type 0} {s t : Bool} → (X → Y) → (Y → X) → Decides X s → Decides Y t → s ≡ t
same_answer f g (so x) (so y) = refl
same_answer f g (so x) (not_so n) = absurd (n (f x))
same_answer f g (not_so n) (so y) = absurd (n (g y))
same_answer f g (not_so n) (not_so k) = refl
