-- The products of the least rank are as many as the variables that occur in it exactly if there is one for each of these variables.
use mathlib.Core.Path.{◌≡◌, refl, sym, ap, ◌∙◌}
use mathlib.Core.Bool.{Bool, true, false, not, cond, true≢false, ◌&&◌, ◌||◌}
use mathlib.Core.Logic.{◌⊎◌, inl, inr}
use mathlib.Core.List.{List}
use Prim.Native.Nat.{ℕ, zero, suc, ◌+◌, ◌<◌, ◌≤◌}
use native.Mathlib.Nat.{le_antisymm}
use native.Mathlib.Omega.{arith}
use native.Mathlib.Decide.{ℕ_discrete}
use borrow.Author.Tests.{eqb-true, eqb-false}
use lib.Dec.{eqb, ltb}
use lib.ListN.{get_or}
use Rattle.residue.proofs.Tests.{Decides, so, not_so, told_true, true_told, told_false}
use Rattle.monomial.specs.Candidate.{is_of, products_passed, parents_of, occurring_in}
use Rattle.monomial.proofs.candidate.Turns.{parents}
use Rattle.monomial.proofs.candidate.Products.{Product, product_told, passed_later}

-- how many of the first n numbers pass a test
unfoldable count : (ℕ → Bool) → ℕ → ℕ
count f zero = 0
count f (suc i) = cond (f i) (count f i + 1) (count f i)

-- none from m on
count_to : (f : ℕ → Bool) (m n : ℕ) → m ≤ n → ((i : ℕ) → m ≤ i → i < n → f i ≡ false) → count f n ≡ count f m
unfolding count
count_to f m zero l h = let e : m ≡ 0 = omega arith in rw e
count_to f m (suc n) l h = go (ℕ_discrete m (suc n)) (λ z. count_to f m n z (λ i u v. h i u (omega arith)))
  where
    go : Dec (m ≡ suc n) → (m ≤ n → count f n ≡ count f m) → count f (suc n) ≡ count f m
    go (yes e) ih = ap (count f) (sym e)
    go (no e) ih = rw (h n (omega arith) (omega arith)) (ih (omega arith))

module _ (f g : ℕ → Bool) where
  abbrev Implies : ℕ → Type 0
  Implies n = (i : ℕ) → i < n → f i ≡ true → g i ≡ true

  count_le : (n : ℕ) → Implies n → count f n ≤ count g n
  unfolding count
  count_le zero h = omega arith
  count_le (suc n) h = go (f n) refl (g n) refl (count_le n (λ i l. h i (omega arith)))
    where
      go : (b : Bool) → f n ≡ b → (c : Bool) → g n ≡ c → count f n ≤ count g n → cond b (count f n + 1) (count f n) ≤ cond c (count g n + 1) (count g n)
      go true e true k ih = omega arith
      go true e false k ih = absurd (true≢false (sym (h n (omega arith) e) ∙ k))
      go false e true k ih = omega arith
      go false e false k ih = ih

  count_all : (n : ℕ) → Implies n → count f n ≡ count g n → (i : ℕ) → i < n → g i ≡ true → f i ≡ true
  unfolding count
  count_all zero h e i l p = absurd (omega arith)
  count_all (suc n) h e i l p =
      go (f n) refl (g n) refl e (ℕ_discrete i n) (count_le n (λ j u. h j (omega arith))) (λ z u. count_all n (λ j v. h j (omega arith)) z i u p)
    where
      go : (b : Bool) → f n ≡ b → (c : Bool) → g n ≡ c → cond b (count f n + 1) (count f n) ≡ cond c (count g n + 1) (count g n) → Dec (i ≡ n) →
          count f n ≤ count g n → (count f n ≡ count g n → i < n → f i ≡ true) → f i ≡ true
      go true u true v w (yes z) le ih = rw z u
      go true u true v w (no z) le ih = ih (omega arith) (omega arith)
      go true u false v w d le ih = absurd (true≢false (sym (h n (omega arith) u) ∙ v))
      go false u true v w d le ih = absurd (omega arith)
      go false u false v w (yes z) le ih = absurd (true≢false (sym (rw z at p) ∙ v))
      go false u false v w (no z) le ih = ih w (omega arith)

-- variable i occurs in x_(k+1) times a
abbrev pub Occurs : List ℕ → ℕ → ℕ → Type 0
Occurs a k i = (i ≡ k) ⊎ (¬ (get_or a i 0 ≡ 0))

abbrev occurs : List ℕ → ℕ → ℕ → Bool
occurs a k i = eqb i k || not (eqb (get_or a i 0) 0)

occurs_told : (a : List ℕ) (k i : ℕ) → Decides (Occurs a k i) (occurs a k i)
occurs_told a k i = go (eqb i k) refl (eqb (get_or a i 0) 0) refl
  where
    go : (s : Bool) → eqb i k ≡ s → (t : Bool) → eqb (get_or a i 0) 0 ≡ t → Decides (Occurs a k i) (s || not t)
    go true e t f = so (inl (eqb-true i k e))
    go false e true f = not_so (λ h. elim h [ inl z ↦ eqb-false i k e z | inr z ↦ z (eqb-true _ _ f) ])
    go false e false f = so (inr (eqb-false _ _ f))

occurring_count : (a : List ℕ) (k n : ℕ) → occurring_in a k n ≡ count (occurs a k) n
unfolding occurring_in count
occurring_count a k zero = refl
occurring_count a k (suc n) = rw (occurring_count a k n)

module _ (found : ℕ) (ranks steps : List ℕ) (r : ℕ) (at : List ℕ) where
  abbrev test : ℕ → Bool
  test i = is_of found ranks steps r at i

  parents_count : (m : ℕ) → (parents_of found ranks steps r at m).count ≡ count test m
  unfolding parents_of count
  parents_count zero = refl
  parents_count (suc i) = go _ _ same (parents_count i)
    where
      same : is_of found ranks steps r (products_passed found ranks steps r at i) i ≡ test i
      same = ap (λ (z : ℕ). ltb z found && eqb (get_or ranks z 0 + get_or steps i 0) r) (passed_later found ranks steps r at i i (omega arith))

      go : (b c : Bool) → b ≡ c → (parents_of found ranks steps r at i).count ≡ count test i →
          (cond b (parents ((parents_of found ranks steps r at i).count + 1) i (get_or (products_passed found ranks steps r at i) i 0)) (parents_of found ranks steps r at i)).count
          ≡ cond c (count test i + 1) (count test i)
      go true true e ih = ap (λ (z : ℕ). z + 1) ih
      go true false e ih = absurd (true≢false e)
      go false true e ih = absurd (true≢false (sym e))
      go false false e ih = ih

  -- each product is one for a variable that occurs, and no variable from m on does
  module _ (m : ℕ) (l : m ≤ 8) (a : List ℕ) (k : ℕ) (own : (i : ℕ) → i < m → Product found ranks steps r at i → Occurs a k i)
      (none : (i : ℕ) → m ≤ i → i < 8 → ¬ Occurs a k i) where
    occurring_to : occurring_in a k 8 ≡ count (occurs a k) m
    occurring_to = occurring_count a k 8 ∙ count_to (occurs a k) m 8 l (λ i u v. told_false (occurs_told a k i) (none i u v))

    implies : (i : ℕ) → i < m → test i ≡ true → occurs a k i ≡ true
    implies i u e = told_true (occurs_told a k i) (own i u (true_told (product_told found ranks steps r at i) e))

    pub count_whole : (parents_of found ranks steps r at m).count ≡ occurring_in a k 8 → (i : ℕ) → i < m → Occurs a k i → Product found ranks steps r at i
    count_whole e i u o =
        true_told (product_told found ranks steps r at i)
        (count_all test (occurs a k) m implies (sym (parents_count m) ∙ e ∙ occurring_to) i u (told_true (occurs_told a k i) o))

    pub whole_count : ((i : ℕ) → i < m → Occurs a k i → Product found ranks steps r at i) → (parents_of found ranks steps r at m).count ≡ occurring_in a k 8
    whole_count h =
        parents_count m
        ∙ le_antisymm (count_le test (occurs a k) m implies)
        (count_le (occurs a k) test m (λ i u e. told_true (product_told found ranks steps r at i) (h i u (true_told (occurs_told a k i) e))))
        ∙ sym occurring_to
