-- What the answer of a test says.
use mathlib.Core.Path.{◌≡◌, refl, sym, subst}
use mathlib.Core.Bool.{Bool, true, false, ◌&&◌, ◌||◌, true≢false, cond}
use lib.Dec.{T}

-- a test that holds, as an equation and as a fact
pub true_of : (b : Bool) → T b → b ≡ true
true_of true h = refl
true_of false h = absurd h

pub of_true : {b : Bool} → b ≡ true → T b
of_true e = subst T (sym e) tt

pub and_left : (a b : Bool) → T (a && b) → T a
and_left true b h = tt
and_left false b h = h

pub and_right : (a b : Bool) → T (a && b) → T b
and_right true b h = h
and_right false b h = absurd h

pub and_both : (a b : Bool) → T a → T b → T (a && b)
and_both true b h k = k
and_both false b h k = h

pub neither : (a b : Bool) → (a || b) ≡ false → (a ≡ false) × (b ≡ false)
neither true b e = absurd (true≢false e)
neither false b e = (refl, e)

-- A test's answer with its meaning: matching on it also settles the test in the goal.
pub data Decides (X : Type 0) : Bool → Type 0 where
  so : X → Decides X true
  not_so : ¬ X → Decides X false

pub dec_of : {X : Type 0} {b : Bool} → Decides X b → Dec X
dec_of (so h) = yes h
dec_of (not_so h) = no h

pub cond_so : {X A : Type 0} {b : Bool} → Decides X b → X → (u v : A) → cond b u v ≡ u
cond_so (so h) k u v = refl
cond_so (not_so h) k u v = absurd (h k)

pub cond_not : {X A : Type 0} {b : Bool} → Decides X b → ¬ X → (u v : A) → cond b u v ≡ v
cond_not (so h) k u v = absurd (k h)
cond_not (not_so h) k u v = refl

-- a test that is true exactly where X holds
pub by_test : {X : Type 0} (b : Bool) → (b ≡ true → X) → (X → b ≡ true) → Decides X b
by_test true f g = so (f refl)
by_test false f g = not_so (λ h. true≢false (sym (g h)))

pub told_true : {X : Type 0} {b : Bool} → Decides X b → X → b ≡ true
told_true (so h) x = refl
told_true (not_so h) x = absurd (h x)

pub true_told : {X : Type 0} {b : Bool} → Decides X b → b ≡ true → X
true_told (so h) e = h
true_told (not_so h) e = absurd (true≢false (sym e))

pub told_false : {X : Type 0} {b : Bool} → Decides X b → ¬ X → b ≡ false
told_false (so h) x = absurd (x h)
told_false (not_so h) x = refl
