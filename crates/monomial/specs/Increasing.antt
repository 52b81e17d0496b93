-- Increasing lists, as the tables of monomials are (docs/SCOPE.md, 'The sheet': tables).
use Rattle.std.specs.Prelude.{◌≡◌, List, [], ◌∷◌}
use Prim.Native.Nat.{Ordering}

-- x put before y, kept out as y's equal, or put further on
abbrev pub placed : {A : Type 0} → A → A → List A → List A → Ordering → List A
placed x y ys r Ordering.lt = x ∷ y ∷ ys
placed x y ys r Ordering.eq = y ∷ ys
placed x y ys r Ordering.gt = y ∷ r

module _ {A : Type 0} (c : A → A → Ordering) where
  -- x is less than each of the list
  abbrev pub Precedes : A → List A → Type 0
  Precedes x [] = Unit {0}
  Precedes x (y ∷ ys) = (c x y ≡ Ordering.lt) × Precedes x ys

  -- each is less than all behind it
  abbrev pub Increasing : List A → Type 0
  Increasing [] = Unit {0}
  Increasing (x ∷ xs) = Precedes x xs × Increasing xs

  -- x put at its place in an increasing list, where it does not stand there already
  abbrev pub inserted : A → List A → List A
  inserted x [] = x ∷ []
  inserted x (y ∷ ys) = placed x y ys (inserted x ys) (c x y)
