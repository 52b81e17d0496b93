-- Readers taken apart: what was read before what is read behind it.
use mathlib.Core.Path.{◌≡◌, refl, sym, ap, ap₂}
use mathlib.Core.Bool.{Bool, true, false, cond}
use mathlib.Core.List.{List, [], ◌∷◌, ◌++◌}
use Prim.Native.Nat.{ℕ}
use native.Mathlib.Omega.{arith}
use lib.Dec.{eqb}
use borrow.Author.Tests.{eqb-true, eq-eqb}
use Rattle.notation.specs.Fields.{Part, part, faulty, with_first}
use Rattle.json_text.specs.Reading.{Reader, after, exactly}
use Rattle.json_text.proofs.Digits.{Stops}

-- A reader takes what is written of fine values, where no digit follows, and nothing else; nothing that begins with a closing bracket.
pub record Exact {A : Type 0} (write : A → List ℕ) (fine : A → Bool) (r : Reader A) : Type 0 where
  pub takes : (a : A) (rest : List ℕ) → fine a ≡ true → Stops rest → r (write a ++ rest) ≡ part a rest
  pub only : (t : List ℕ) (a : A) (rest : List ℕ) → r t ≡ part a rest → (t ≡ write a ++ rest) × (fine a ≡ true)
  pub shut : (l : List ℕ) → r (93 ∷ l) ≡ faulty

pub not_faulty : {A B : Type 0} {a : A} {rest : List ℕ} → faulty ≡ part a rest → B
not_faulty e = let z : ◌≡◌ {A = ℕ} 0 1 = cc in absurd (omega arith)

-- a part is its value and the text behind it
pub same_part : {A : Type 0} {a b : A} {k l : List ℕ} → part a k ≡ part b l → (a ≡ b) × (k ≡ l)
same_part e = (cc, cc)

pub after_of : {A B : Type 0} (p : Part A) (next : A → Reader B) (b : B) (rest : List ℕ) → after p next ≡ part b rest
    → (a : A) × (mid : List ℕ) × (p ≡ part a mid) × (next a mid ≡ part b rest)
unfolding after
after_of (part a mid) next b rest e = (a, mid, refl, e)
after_of faulty next b rest e = not_faulty e

pub first_of : {A : Type 0} (a : A) (p : Part (List A)) (l : List A) (rest : List ℕ) → with_first a p ≡ part l rest
    → (k : List A) × (p ≡ part k rest) × (l ≡ a ∷ k)
unfolding with_first
first_of a (part k mid) l rest e = let q = same_part e in (k, ap (λ (z : List ℕ). part k z) q.1, sym q.0)
first_of a faulty l rest e = not_faulty e

-- Exactly these bytes.
pub exactly_takes : (bs rest : List ℕ) → exactly bs (bs ++ rest) ≡ part tt rest
unfolding exactly
exactly_takes [] rest = refl
exactly_takes (b ∷ bs) rest = rw (eq-eqb b b refl) (exactly_takes bs rest)

pub exactly_only : (bs t : List ℕ) (u : Unit {0}) (rest : List ℕ) → exactly bs t ≡ part u rest → t ≡ bs ++ rest
unfolding exactly
exactly_only [] t u rest e = (same_part e).1
exactly_only (b ∷ bs) [] u rest e = not_faulty e
exactly_only (b ∷ bs) (c ∷ t) u rest e = go (eqb c b) refl (λ f. exactly_only bs t u rest f) e
  where
    go : (x : Bool) → eqb c b ≡ x → (exactly bs t ≡ part u rest → t ≡ bs ++ rest) → cond x (exactly bs t) faulty ≡ part u rest → c ∷ t ≡ b ∷ (bs ++ rest)
    go true f rec g = ap₂ (λ (k : ℕ) (l : List ℕ). k ∷ l) (eqb-true c b f) (rec g)
    go false f rec g = not_faulty g
