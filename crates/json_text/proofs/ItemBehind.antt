-- What stands behind an item of an array that was read: the bracket that ends the array, or a comma and further items.
use mathlib.Core.Path.{◌≡◌, refl, sym, ap, ap₂}
use mathlib.Core.Bool.{Bool, true, false, cond}
use mathlib.Core.List.{List, [], ◌∷◌}
use mathlib.Core.Logic.{◌⊎◌, inl, inr}
use Prim.Native.Nat.{ℕ}
use lib.Dec.{eqb}
use borrow.Author.Tests.{eqb-true}
use Rattle.notation.specs.Fields.{part, faulty, with_first}
use Rattle.json_text.specs.Reading.{Reader, behind_item}
use Rattle.json_text.proofs.Readers.{not_faulty, same_part, first_of}

pub behind_of : {A : Type 0} (a : A) (more : Reader (List A)) (t : List ℕ) (l : List A) (rest : List ℕ) → behind_item a more t ≡ part l rest
    → ((t ≡ 93 ∷ rest) × (l ≡ a ∷ [])) ⊎ ((u : List ℕ) × (k : List A) × (t ≡ 44 ∷ u) × (more u ≡ part k rest) × (l ≡ a ∷ k))
unfolding behind_item
behind_of a more [] l rest e = not_faulty e
behind_of {A} a more (b ∷ t) l rest e = go (eqb b 93) (eqb b 44) refl refl e
  where
    go : (x y : Bool) → eqb b 93 ≡ x → eqb b 44 ≡ y → cond x (part (a ∷ []) t) (cond y (with_first a (more t)) faulty) ≡ part l rest
        → ((b ∷ t ≡ 93 ∷ rest) × (l ≡ a ∷ [])) ⊎ ((u : List ℕ) × (k : List A) × (b ∷ t ≡ 44 ∷ u) × (more u ≡ part k rest) × (l ≡ a ∷ k))
    go true y f g h = let q = same_part h in inl (ap₂ (λ (k : ℕ) (m : List ℕ). k ∷ m) (eqb-true b 93 f) q.1, sym q.0)
    go false true f g h = let q = first_of a (more t) l rest h in inr (t, q.0, ap (λ (k : ℕ). k ∷ t) (eqb-true b 44 g), q.1, q.2)
    go false false f g h = not_faulty h
