-- Members of a list by index and of a mapped list, and a list with one element put at its end.
use mathlib.Core.Path.{◌≡◌, refl, sym, ap}
use mathlib.Core.List.{List, [], ◌∷◌, ◌++◌, map}
use mathlib.Core.Logic.{◌⊎◌, inl, inr}
use Prim.Native.Nat.{ℕ, zero, suc, ◌<◌, Ordering}
use native.Mathlib.Omega.{arith}
use lib.ListN.{length, get_or}
use Rattle.residue.specs.Lists.{Among}
use Rattle.monomial.specs.Increasing.{Increasing}
use Rattle.monomial.proofs.Orders.Increasing.{below_member, member_below}

pub get_d_among : {A : Type 0} (l : List A) (i : ℕ) (d : A) → i < length l → Among (get_or l i d) l
get_d_among [] i d h = absurd (omega arith)
get_d_among (a ∷ l) zero d h = inl refl
get_d_among (a ∷ l) (suc i) d h = inr (get_d_among l i d (omega arith))

pub index_of : {A : Type 0} (l : List A) (d a : A) → Among a l → (i : ℕ) × (i < length l) × (get_or l i d ≡ a)
index_of (b ∷ l) d a (inl e) = (0, omega arith, sym e)
index_of (b ∷ l) d a (inr mem) = let t = index_of l d a mem in (suc t.0, omega (arith, t.1), t.2)
index_of {A = A} [] d a x' = elim x' [ ]

pub among_map : {A B : Type 0} (f : A → B) (l : List A) (b : B) → Among b (map f l) → (a : A) × Among a l × (b ≡ f a)
among_map f (a ∷ l) b (inl e) = (a, inl refl, e)
among_map f (a ∷ l) b (inr mem) = let t = among_map f l b mem in (t.0, inr t.1, t.2)
among_map {A = A} {B = B} f [] b x' = elim x' [ ]

pub map_among : {A B : Type 0} (f : A → B) (l : List A) (a : A) → Among a l → Among (f a) (map f l)
map_among f (b ∷ l) a (inl e) = inl (ap f e)
map_among f (b ∷ l) a (inr mem) = inr (map_among f l a mem)
map_among {A = A} {B = B} f [] a x' = elim x' [ ]

pub snoc_of : {A : Type 0} (l : List A) (c b : A) → Among b (l ++ (c ∷ [])) → Among b l ⊎ (b ≡ c)
snoc_of [] c b (inl e) = inr e
snoc_of (a ∷ l) c b (inl e) = inl (inl e)
snoc_of (a ∷ l) c b (inr mem) = elim (snoc_of l c b mem) [ inl z ↦ inl (inr z) | inr e ↦ inr e ]
snoc_of {A = A} [] c b (inr mem) = elim mem [ ]

pub snoc_in : {A : Type 0} (l : List A) (c b : A) → Among b l ⊎ (b ≡ c) → Among b (l ++ (c ∷ []))
snoc_in [] c b (inl mem) = absurd mem
snoc_in [] c b (inr e) = inl e
snoc_in (a ∷ l) c b (inl (inl e)) = inl e
snoc_in (a ∷ l) c b (inl (inr mem)) = inr (snoc_in l c b (inl mem))
snoc_in (a ∷ l) c b (inr e) = inr (snoc_in l c b (inr e))

-- by any comparison
module _ {A : Type 0} (cmp : A → A → Ordering) where
  pub snoc_increasing : (l : List A) (c : A) → Increasing cmp l → ((a : A) → Among a l → cmp a c ≡ Ordering.lt) → Increasing cmp (l ++ (c ∷ []))
  snoc_increasing [] c i h = (tt, tt)
  snoc_increasing (a ∷ l) c i h = (member_below cmp a (l ++ (c ∷ [])) above, snoc_increasing l c i.1 (λ b mem. h b (inr mem)))
    where
      above : (b : A) → Among b (l ++ (c ∷ [])) → cmp a b ≡ Ordering.lt
      above b mem = elim (snoc_of l c b mem) [ inl z ↦ below_member cmp a l i.0 b z | inr e ↦ rw e (h a (inl refl)) ]
