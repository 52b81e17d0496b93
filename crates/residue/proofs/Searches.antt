-- Tests of every number of a list and of some: what their answers say of the members.
use mathlib.Core.Path.{◌≡◌, refl, sym, subst}
use mathlib.Core.Logic.{inl, inr}
use mathlib.Core.Bool.{Bool, true, false, ◌||◌}
use mathlib.Core.List.{List, [], ◌∷◌}
use lib.Dec.{T}
use Rattle.residue.specs.Lists.{Among, every, some}
use Rattle.residue.proofs.Tests.{and_left, and_right, and_both}

module _ {A : Type 0} (f : A → Bool) where
  pub each_of : (l : List A) → T (every f l) → (a : A) → Among a l → T (f a)
  each_of (b ∷ l) t a (inl e) = subst (λ (z : A). T (f z)) (sym e) (and_left (f b) (every f l) t)
  each_of (b ∷ l) t a (inr q) = each_of l (and_right (f b) (every f l) t) a q
  each_of [] t a x'' = elim x'' [ ]

  pub of_each : (l : List A) → ((a : A) → Among a l → T (f a)) → T (every f l)
  of_each [] h = tt
  of_each (b ∷ l) h = and_both (f b) (every f l) (h b (inl refl)) (of_each l (λ a q. h a (inr q)))

  pub one_of : (l : List A) → T (some f l) → (a : A) × (Among a l × T (f a))
  one_of (b ∷ l) t = go (f b) refl t (λ k. one_of l k)
    where
      go : (c : Bool) → f b ≡ c → T (c || some f l) → (T (some f l) → (a : A) × (Among a l × T (f a))) → (a : A) × (Among a (b ∷ l) × T (f a))
      go true e t k = (b, (inl refl, subst T (sym e) tt))
      go false e t k = let w = k t in (w.0, (inr w.1.0, w.1.1))
  one_of [] t = elim t [ ]

  pub of_one : (l : List A) (a : A) → Among a l → T (f a) → T (some f l)
  of_one (b ∷ l) a (inl e) t = first (f b) (subst (λ (z : A). T (f z)) e t)
    where
      first : (c : Bool) → T c → T (c || some f l)
      first true h = tt
      first false h = elim h [ ]
  of_one (b ∷ l) a (inr q) t = later (f b) (of_one l a q t)
    where
      later : (c : Bool) → T (some f l) → T (c || some f l)
      later true h = tt
      later false h = h
  of_one [] a x'' t = elim x'' [ ]
