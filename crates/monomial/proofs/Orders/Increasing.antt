-- Increasing lists, for any lawful comparison: what they hold decides what they are, and a member more keeps them increasing.
use mathlib.Core.Path.{◌≡◌, refl, sym, ap, ◌∙◌}
use mathlib.Core.Logic.{◌⊎◌, inl, inr}
use mathlib.Core.List.{List, [], ◌∷◌}
use Prim.Native.Nat.{suc, Ordering}
use lib.ListN.{length}
use Rattle.residue.specs.Lists.{Among}
use Rattle.monomial.specs.Increasing.{Precedes, Increasing, placed, inserted}
use Rattle.monomial.proofs.Orders.Lawful.{Lawful, turn, differ, trans, asym}

module _ {A : Type 0} (c : A → A → Ordering) where
  pub below_member : (x : A) (l : List A) → Precedes c x l → (z : A) → Among z l → c x z ≡ Ordering.lt
  below_member x (y ∷ ys) u z (inl e) = rw e u.0
  below_member x (y ∷ ys) u z (inr m) = below_member x ys u.1 z m
  below_member x [] u z x3 = elim x3 [ ]

  pub member_below : (x : A) (l : List A) → ((z : A) → Among z l → c x z ≡ Ordering.lt) → Precedes c x l
  member_below x [] h = tt
  member_below x (y ∷ ys) h = (h y (inl refl), member_below x ys (λ z m. h z (inr m)))

  -- who stands in a list once x has been put in
  pub inserted_only : (x : A) (l : List A) (z : A) → Among z (inserted c x l) → (z ≡ x) ⊎ Among z l
  inserted_only x [] z m = m
  inserted_only x (y ∷ ys) z m = go (c x y) (inserted_only x ys z) m
    where
      go : (o : Ordering) → (Among z (inserted c x ys) → (z ≡ x) ⊎ Among z ys) → Among z (placed x y ys (inserted c x ys) o) → (z ≡ x) ⊎ Among z (y ∷ ys)
      go Ordering.lt ih n = n
      go Ordering.eq ih n = inr n
      go Ordering.gt ih (inl e) = inr (inl e)
      go Ordering.gt ih (inr n) = elim (ih n) [ inl e ↦ inl e | inr k ↦ inr (inr k) ]

module _ {A : Type 0} (c : A → A → Ordering) (L : Lawful c) where
  below_less : (x y : A) (l : List A) → c x y ≡ Ordering.lt → Precedes c y l → Precedes c x l
  below_less x y [] h u = tt
  below_less x y (z ∷ zs) h u = (trans c L h u.0, below_less x y zs h u.1)

  heads : (x y : A) (xs ys : List A) → Increasing c (x ∷ xs) → Increasing c (y ∷ ys) → Among x (y ∷ ys) → Among y (x ∷ xs) → x ≡ y
  heads x y xs ys s t (inl e) q = e
  heads x y xs ys s t (inr m) (inl e) = sym e
  heads x y xs ys s t (inr m) (inr n) = absurd (asym c L (below_member c y ys t.0 x m) (below_member c x xs s.0 y n))

  tails : (x y : A) (xs ys : List A) → x ≡ y → Precedes c x xs → ((z : A) → Among z (x ∷ xs) → Among z (y ∷ ys)) → (z : A) → Among z xs → Among z ys
  tails x y xs ys e s f z m = elim (f z (inr m)) [ inl h ↦ absurd (differ c L (e ∙ sym h) (below_member c x xs s z m)) | inr n ↦ n ]

  -- two increasing lists with the same members are equal
  pub unique : (l r : List A) → Increasing c l → Increasing c r → ((z : A) → Among z l → Among z r) → ((z : A) → Among z r → Among z l) → l ≡ r
  unique [] [] s t f g = refl
  unique [] (y ∷ ys) s t f g = absurd (g y (inl refl))
  unique (x ∷ xs) [] s t f g = absurd (f x (inl refl))
  unique (x ∷ xs) (y ∷ ys) s t f g =
      let e : x ≡ y = heads x y xs ys s t (f x (inl refl)) (g y (inl refl)) in
      let h : xs ≡ ys = unique xs ys s.1 t.1 (tails x y xs ys e s.0 f) (tails y x ys xs (sym e) t.0 g) in
      cc

  pub inserted_increasing : (x : A) (l : List A) → Increasing c l → Increasing c (inserted c x l)
  inserted_increasing x [] s = (tt, tt)
  inserted_increasing x (y ∷ ys) s = go (c x y) refl (inserted_increasing x ys s.1)
    where
      go : (o : Ordering) → c x y ≡ o → Increasing c (inserted c x ys) → Increasing c (placed x y ys (inserted c x ys) o)
      go Ordering.lt e ih = ((e, below_less x y ys e s.0), s)
      go Ordering.eq e ih = s
      go Ordering.gt e ih = (
        member_below c y (inserted c x ys)
            (λ z m. elim (inserted_only c x ys z m) [ inl q ↦ rw q (turn c L e) | inr n ↦ below_member c y ys s.0 z n ]),
        ih,
      )

  pub inserted_adds : (x : A) (l : List A) (z : A) → (z ≡ x) ⊎ Among z l → Among z (inserted c x l)
  inserted_adds x [] z m = m
  inserted_adds x (y ∷ ys) z m = go (c x y) refl (inserted_adds x ys z) m
    where
      go : (o : Ordering) → c x y ≡ o → ((z ≡ x) ⊎ Among z ys → Among z (inserted c x ys)) → (z ≡ x) ⊎ Among z (y ∷ ys) → Among z (placed x y ys (inserted c x ys) o)
      go Ordering.lt f ih m = m
      go Ordering.eq f ih (inl e) = inl (e ∙ L.eq x y f)
      go Ordering.eq f ih (inr n) = n
      go Ordering.gt f ih (inl e) = inr (ih (inl e))
      go Ordering.gt f ih (inr (inl e)) = inl e
      go Ordering.gt f ih (inr (inr n)) = inr (ih (inr n))

  pub inserted_length : (x : A) (l : List A) → ¬ Among x l → length (inserted c x l) ≡ suc (length l)
  inserted_length x [] n = refl
  inserted_length x (y ∷ ys) n = go (c x y) refl (inserted_length x ys (λ m. n (inr m)))
    where
      go : (o : Ordering) → c x y ≡ o → length (inserted c x ys) ≡ suc (length ys) → length (placed x y ys (inserted c x ys) o) ≡ suc (suc (length ys))
      go Ordering.lt e ih = refl
      go Ordering.eq e ih = absurd (n (inl (L.eq x y e)))
      go Ordering.gt e ih = ap suc ih
