-- What the search for the next monomial finds among the products: the least of those above the last monomial that no lead found divides.
use mathlib.Core.Path.{◌≡◌, refl, subst, ◌∙◌}
use mathlib.Core.Bool.{Bool, not, cond, ◌&&◌}
use mathlib.Core.List.{List, [], ◌∷◌, ◌++◌, map}
use mathlib.Core.Logic.{inl, inr}
use Prim.Native.Nat.{ℕ, zero, suc, ◌<◌, Ordering}
use native.Mathlib.Omega.{arith}
use native.Mathlib.Decide.{ℕ_discrete}
use Rattle.residue.specs.Lists.{Among}
use Rattle.specification.specs.Space.{Space, Less, Divides}
use Rattle.specification.proofs.ideal.Laws.{Laws, Compares, lt, eq, gt, compared, irrefl, trans, less_ne}
use Rattle.residue.proofs.Tests.{Decides, so, not_so}
use Rattle.specification.proofs.ideal.Increasing.{divided_told}
use Rattle.specification.specs.Examination.{Undivided}
use Rattle.specification.specs.Cancellations.{is_less, Next, nothing, next, lesser, is_due, least_due, products_of}

module _ (D : Space) where
  open D use {Mono, x}

  abbrev pub Due : Mono → List Mono → Mono → Type 0
  Due c leads a = Less D c a × Undivided D leads a

  -- what an answer says of a list
  abbrev pub Answers : Mono → List Mono → List Mono → Next D → Type 0
  Answers c leads l nothing = (a : Mono) → Among a l → ¬ Due c leads a
  Answers c leads l (next b) = Among b l × (Due c leads b × ((a : Mono) → Among a l → Due c leads a → ¬ Less D a b))

  -- members of the list of products
  map_in : {A B : Type 0} (f : A → B) (l : List A) (a : A) → Among a l → Among (f a) (map f l)
  map_in f (b ∷ l) a (inl e) = inl (rw e)
  map_in f (b ∷ l) a (inr mem) = inr (map_in f l a mem)
  map_in {A = A} {B = B} f [] a x'' = elim x'' [ ]

  in_left : {A : Type 0} (l r : List A) (a : A) → Among a l → Among a (l ++ r)
  in_left (b ∷ l) r a (inl e) = inl e
  in_left (b ∷ l) r a (inr mem) = inr (in_left l r a mem)
  in_left {A = A} [] r a x'' = elim x'' [ ]

  in_right : {A : Type 0} (l r : List A) (a : A) → Among a r → Among a (l ++ r)
  in_right [] r a mem = mem
  in_right (b ∷ l) r a mem = inr (in_right l r a mem)

  pub product_in : (l : List Mono) (j k : ℕ) (s : Mono) → k < j → Among s l → Among (x k s) (products_of D l j)
  unfolding products_of
  product_in l zero k s h mem = absurd (omega arith)
  product_in l (suc j) k s h mem = go (ℕ_discrete k j) (λ u. product_in l j k s u mem)
    where
      go : Dec (k ≡ j) → (k < j → Among (x k s) (products_of D l j)) → Among (x k s) (map (x j) l ++ products_of D l j)
      go (yes e) ih = rw e (in_left (map (x j) l) (products_of D l j) (x j s) (map_in (x j) l s mem))
      go (no n) ih = in_right (map (x j) l) (products_of D l j) (x k s) (ih (omega arith))

  module _ (L : Laws D) where
    due_told : (c : Mono) (leads : List Mono) (a : Mono) → Decides (Due c leads a) (is_due D c leads a)
    due_told c leads a = go (compared D L c a) (divided_told D L leads a)
      where
        go : {o : Ordering} {b : Bool} → Compares D c a o → Decides ((b : Mono) × Among b leads × Divides D b a) b → Decides (Due c leads a) (is_less o && not b)
        go (lt h) (so (b, mem, k)) = not_so (λ d. d.1 b mem k)
        go (lt h) (not_so n) = so (h, λ b mem k. n (b, mem, k))
        go (eq e) d = not_so (λ u. less_ne D L u.0 e)
        go (gt h) d = not_so (λ u. irrefl D L (trans D L h u.0))

    pub least_due_lem : (c : Mono) (leads l : List Mono) → Answers c leads l (least_due D c leads l)
    unfolding least_due
    least_due_lem c leads [] = λ a mem. absurd mem
    least_due_lem c leads (a ∷ l) = go (due_told c leads a) (least_due D c leads l) (least_due_lem c leads l)
      where
        passed : (r : Next D) → ¬ Due c leads a → Answers c leads l r → Answers c leads (a ∷ l) r
        passed nothing n h = λ b mem d. elim mem [ inl e ↦ n (subst (Due c leads) e d) | inr z ↦ h b z d ]
        passed (next b) n h = (inr h.0, (h.1.0, λ e mem d. elim mem [ inl z ↦ absurd (n (subst (Due c leads) z d)) | inr z ↦ h.1.1 e z d ]))

        chosen : {o : Ordering} (b : Mono) → Compares D a b o → Due c leads a → Answers c leads l (next b) → Answers c leads (a ∷ l) (cond (is_less o) (next a) (next b))
        chosen b (lt u) d h = (inl refl, (d, λ e mem f v. elim mem [ inl z ↦ less_ne D L v z | inr z ↦ h.1.1 e z f (trans D L v u) ]))
        chosen b (eq u) d h = (inr h.0, (h.1.0, λ e mem f v. elim mem [ inl z ↦ less_ne D L v (z ∙ u) | inr z ↦ h.1.1 e z f v ]))
        chosen b (gt u) d h =
            (inr h.0, (h.1.0, λ e mem f v. elim mem [ inl z ↦ irrefl D L (trans D L u (subst (λ (w : Mono). Less D w b) z v)) | inr z ↦ h.1.1 e z f v ]))

        taken : (r : Next D) → Due c leads a → Answers c leads l r → Answers c leads (a ∷ l) (lesser D a r)
        taken nothing d h = (inl refl, (d, λ e mem f v. elim mem [ inl z ↦ less_ne D L v z | inr z ↦ h e z f ]))
        taken (next b) d h = chosen b (compared D L a b) d h

        go : {b : Bool} → Decides (Due c leads a) b → (r : Next D) → Answers c leads l r → Answers c leads (a ∷ l) (cond b (lesser D a r) r)
        go (so d) r h = taken r d h
        go (not_so n) r h = passed r n h
