-- What the search for the next product finds: the least rank, the products of a rank, and an end.
use mathlib.Core.Path.{◌≡◌, refl, sym, ap, subst, ◌∙◌}
use mathlib.Core.Bool.{Bool, true, false, cond, ◌&&◌}
use mathlib.Core.List.{List}
use Prim.Native.Nat.{ℕ, zero, suc, ◌+◌, ◌-◌, ◌*◌, min, ◌<◌, ◌≤◌}
use native.Mathlib.Omega.{arith}
use borrow.Author.Tests.{ltb-true, ltb-false, eqb-true, eqb-false, eq-eqb, ne_eqb}
use lib.Dec.{eqb, ltb}
use lib.ListN.{length, take, drop, get_or, set, length-set}
use lib.Seq.{get_or-set_same, get_or-set_other}
use Rattle.residue.proofs.Tests.{Decides, so, not_so}
use Rattle.std.specs.Prelude.{Option, Some, None}
use native.Mathlib.Decide.{dec_lt, ℕ_discrete}
use Rattle.monomial.specs.declared.candidate.Parents.{Parents}
use Rattle.monomial.specs.Candidate.{rank_at, lesser, least_of, is_of, products_passed, parents_of, occurring_in, Searched, search_ends, is_whole, at_least, next_from, next_of}
use Rattle.monomial.proofs.candidate.Turns.{parents}

-- what holds at i and below i
each : (P : ℕ → Type 0) (i : ℕ) → P i → ((k : ℕ) → k < i → P k) → (k : ℕ) → k < suc i → P k
each P i p f k h = go (ℕ_discrete k i)
  where
    go : Dec (k ≡ i) → P k
    go (yes e) = subst P (sym e) p
    go (no n) = f k (omega arith)

-- how many products with the first k variables are not passed
unfoldable pub remaining : ℕ → List ℕ → ℕ → ℕ
remaining found at zero = 0
remaining found at (suc k) = remaining found at k + (found - get_or at k 0)

module _ (found : ℕ) where
  pub remaining_most : (at : List ℕ) (m : ℕ) → remaining found at m ≤ m * found
  unfolding remaining
  remaining_most at zero = omega arith
  remaining_most at (suc k) = omega (arith, remaining_most at k)

  module _ (a b : List ℕ) (h : (k : ℕ) → get_or a k 0 ≤ get_or b k 0) where
    remaining_le : (m : ℕ) → remaining found b m ≤ remaining found a m
    unfolding remaining
    remaining_le zero = omega arith
    remaining_le (suc k) = omega (arith, remaining_le k, h k)

    remaining_less : (m k : ℕ) → k < m → get_or a k 0 < found → get_or a k 0 < get_or b k 0 → remaining found b m < remaining found a m
    unfolding remaining
    remaining_less zero k l p q = absurd (omega arith)
    remaining_less (suc i) k l p q = go (eqb k i) refl (λ z. remaining_less i k z p q)
      where
        go : (t : Bool) → eqb k i ≡ t → (k < i → remaining found b i < remaining found a i) → remaining found b (suc i) < remaining found a (suc i)
        go true e f = let d : k ≡ i = eqb-true k i e in omega (arith, remaining_le i, ap (λ (z : ℕ). get_or a z 0) d, ap (λ (z : ℕ). get_or b z 0) d)
        go false e f = let d : ¬ (k ≡ i) = eqb-false k i e in omega (arith, f (omega arith), h i)

module _ (found : ℕ) (ranks steps : List ℕ) where
  abbrev rank : List ℕ → ℕ → ℕ
  rank at k = rank_at ranks steps at k

  -- variable k has a next product, and its rank is r
  abbrev pub Product : ℕ → List ℕ → ℕ → Type 0
  Product r at k = (get_or at k 0 < found) × (rank at k ≡ r)

  pub product_told : (r : ℕ) (at : List ℕ) (k : ℕ) → Decides (Product r at k) (is_of found ranks steps r at k)
  product_told r at k = go (ltb (get_or at k 0) found) refl (eqb (rank at k) r) refl
    where
      go : (s : Bool) → ltb (get_or at k 0) found ≡ s → (t : Bool) → eqb (rank at k) r ≡ t → Decides (Product r at k) (s && t)
      go true e true f = so (ltb-true _ _ e, eqb-true _ _ f)
      go true e false f = not_so (λ h. eqb-false _ _ f h.1)
      go false e t f = not_so (λ h. let z : found ≤ get_or at k 0 = ltb-false _ _ e in let y : get_or at k 0 < found = h.0 in omega arith)

  -- the least rank
  module _ (at : List ℕ) where
    -- The least rank is that of a next product, and none has a smaller one.
    pub record Least (m r : ℕ) : Type 0 where
      pub variable : ℕ
      pub within : variable < m
      pub product : Product r at variable
      pub least : (k : ℕ) → k < m → get_or at k 0 < found → r ≤ rank at k

    -- what the search for it tells: nothing is left, or that
    abbrev Told : ℕ → Option ℕ → Type 0
    Told m None = (k : ℕ) → k < m → found ≤ get_or at k 0
    Told m (Some r) = Least m r

    told : (m : ℕ) → Told m (least_of found ranks steps at m)
    unfolding least_of
    told zero = λ k h. absurd (omega arith)
    told (suc i) = go (ltb (get_or at i 0) found) refl (least_of found ranks steps at i) (told i)
      where
        go : (s : Bool) → ltb (get_or at i 0) found ≡ s → (o : Option ℕ) → Told i o → Told (suc i) (cond s (Some (lesser o (rank at i))) o)
        go false e None w = each (λ k. found ≤ get_or at k 0) i (ltb-false _ _ e) w
        go false e (Some r) w =
            record {
              variable = w.variable;
              within = omega (arith, w.within);
              product = w.product;
              least = each (λ k. get_or at k 0 < found → r ≤ rank at k) i (λ h. let z : found ≤ get_or at i 0 = ltb-false _ _ e in absurd (omega arith)) w.least;
            }
        go true e None w =
            record {
              variable = i;
              within = omega arith;
              product = (ltb-true _ _ e, refl);
              least = each (λ k. get_or at k 0 < found → rank at i ≤ rank at k) i (λ h. omega arith) (λ k l h. absurd (omega (arith, w k l)));
            }
        go true e (Some r) w = pick (dec_lt (rank at i) r)
          where
            pick : Dec (rank at i < r) → Least (suc i) (min r (rank at i))
            pick (yes h) =
                let z : min r (rank at i) ≡ rank at i = omega arith in
                record {
                  variable = i;
                  within = omega arith;
                  product = (ltb-true _ _ e, sym z);
                  least = each (λ k. get_or at k 0 < found → min r (rank at i) ≤ rank at k) i (λ u. omega (arith, z)) (λ k l u. omega (arith, z, h, w.least k l u));
                }
            pick (no h) =
                let z : min r (rank at i) ≡ r = omega (arith, h) in
                record {
                  variable = w.variable;
                  within = omega (arith, w.within);
                  product = (w.product.0, w.product.1 ∙ sym z);
                  least = each (λ k. get_or at k 0 < found → min r (rank at i) ≤ rank at k) i (λ u. omega (arith, z, h)) (λ k l u. omega (arith, z, w.least k l u));
                }

    pub least_of_lem : (m r : ℕ) → least_of found ranks steps at m ≡ Some r → Least m r
    least_of_lem m r e = subst (Told m) e (told m)

    -- nothing is left
    pub least_nothing : (m : ℕ) → least_of found ranks steps at m ≡ None → (k : ℕ) → k < m → found ≤ get_or at k 0
    least_nothing m e = subst (Told m) e (told m)

  -- the products of rank r
  module _ (r : ℕ) (at : List ℕ) where
    abbrev moved : ℕ → List ℕ
    moved i = products_passed found ranks steps r at i

    pub passed_length : (i : ℕ) → length (moved i) ≡ length at
    unfolding products_passed
    passed_length zero = refl
    passed_length (suc i) = go (is_of found ranks steps r (moved i) i) (passed_length i)
      where
        go : (b : Bool) → length (moved i) ≡ length at → length (cond b (set (moved i) i (get_or (moved i) i 0 + 1)) (moved i)) ≡ length at
        go true h = simp length-set h
        go false h = h

    -- a variable that comes later has its position still
    pub passed_later : (i k : ℕ) → i ≤ k → get_or (moved i) k 0 ≡ get_or at k 0
    unfolding products_passed
    passed_later zero k h = refl
    passed_later (suc i) k h = go (is_of found ranks steps r (moved i) i) (passed_later i k (omega arith))
      where
        go : (b : Bool) → get_or (moved i) k 0 ≡ get_or at k 0 → get_or (cond b (set (moved i) i (get_or (moved i) i 0 + 1)) (moved i)) k 0 ≡ get_or at k 0
        go true e = get_or-set_other (moved i) i k _ 0 (λ z. omega arith) ∙ e
        go false e = e

    here : (i : ℕ) → Decides (Product r at i) (is_of found ranks steps r (moved i) i)
    here i = rw (passed_later i i (omega arith)) (product_told r at i)

    pub passed_is : (m k : ℕ) → k < m → k < length at → Product r at k → get_or (moved m) k 0 ≡ get_or at k 0 + 1
    unfolding products_passed
    passed_is zero k l n h = absurd (omega arith)
    passed_is (suc i) k l n h = go (here i) (eqb k i) refl (λ z. passed_is i k z n h)
      where
        go : {b : Bool} → Decides (Product r at i) b → (s : Bool) → eqb k i ≡ s → (k < i → get_or (moved i) k 0 ≡ get_or at k 0 + 1) →
            get_or (cond b (set (moved i) i (get_or (moved i) i 0 + 1)) (moved i)) k 0 ≡ get_or at k 0 + 1
        go (so p) true e f =
            rw (eqb-true k i e)
            (get_or-set_same (moved i) i _ 0 (rw (passed_length i, ← eqb-true k i e) n) ∙ ap (λ (z : ℕ). z + 1) (passed_later i i (omega arith)))
        go (so p) false e f = get_or-set_other (moved i) i k _ 0 (eqb-false k i e) ∙ f (let d : ¬ (k ≡ i) = eqb-false k i e in omega arith)
        go (not_so p) true e f = absurd (p (rw (eqb-true k i e) at h))
        go (not_so p) false e f = f (let d : ¬ (k ≡ i) = eqb-false k i e in omega arith)

    pub passed_not : (m k : ℕ) → ¬ Product r at k → get_or (moved m) k 0 ≡ get_or at k 0
    unfolding products_passed
    passed_not zero k h = refl
    passed_not (suc i) k h = go (here i) (passed_not i k h)
      where
        go : {b : Bool} → Decides (Product r at i) b → get_or (moved i) k 0 ≡ get_or at k 0 → get_or (cond b (set (moved i) i (get_or (moved i) i 0 + 1)) (moved i)) k 0 ≡ get_or at k 0
        go (so p) e = get_or-set_other (moved i) i k _ 0 (λ z. h (rw z p)) ∙ e
        go (not_so p) e = e

    passed_grows : (m k : ℕ) → m ≤ length at → get_or at k 0 ≤ get_or (moved m) k 0
    passed_grows m k l = go (ltb k m) refl (product_told r at k)
      where
        go : (s : Bool) → ltb k m ≡ s → {b : Bool} → Decides (Product r at k) b → get_or at k 0 ≤ get_or (moved m) k 0
        go true e (so h) = let z : k < m = ltb-true k m e in omega (arith, passed_is m k z (omega arith) h)
        go true e (not_so h) = omega (arith, passed_not m k h)
        go false e d = omega (arith, passed_later m k (ltb-false k m e))

    -- The last of them.
    pub record Last (m : ℕ) (p : Parents) : Type 0 where
      pub within : p.variable < m
      pub product : Product r at p.variable
      pub standard : p.standard ≡ get_or at p.variable 0

    parents_last : (m k : ℕ) → k < m → Product r at k → Last m (parents_of found ranks steps r at m)
    unfolding parents_of
    parents_last zero k l h = absurd (omega arith)
    parents_last (suc i) k l h = go (here i) (eqb k i) refl (λ z. parents_last i k z h)
      where
        go : {b : Bool} → Decides (Product r at i) b → (s : Bool) → eqb k i ≡ s → (k < i → Last i (parents_of found ranks steps r at i)) →
            Last (suc i) (cond b (parents ((parents_of found ranks steps r at i).count + 1) i (get_or (moved i) i 0)) (parents_of found ranks steps r at i))
        go (so p) s e f = record { within = omega arith; product = p; standard = passed_later i i (omega arith) }
        go (not_so p) true e f = absurd (p (rw (eqb-true k i e) at h))
        go (not_so p) false e f =
            let w = f (let d : ¬ (k ≡ i) = eqb-false k i e in omega arith) in
            record { within = omega (arith, w.within); product = w.product; standard = w.standard }

-- passing the products of the least rank leaves fewer
module _ (found : ℕ) (ranks steps : List ℕ) (m : ℕ) (at : List ℕ) (r : ℕ) (e : least_of found ranks steps at m ≡ Some r) where
  pub passed_fewer : (next : List ℕ) → next ≡ products_passed found ranks steps r at m → m ≤ length at → remaining found next m < remaining found at m
  passed_fewer next f l =
      let u = least_of_lem found ranks steps at m r e in
      rw f
      (remaining_less found at (products_passed found ranks steps r at m) (λ k. passed_grows found ranks steps r at m k l) m u.variable u.within u.product.0
      (omega (arith, passed_is found ranks steps r at m u.variable u.within (omega (arith, u.within)) u.product)))

  pub least_last : (p : Parents) → p ≡ parents_of found ranks steps r at m → Last found ranks steps r at m p
  least_last p g = let u = least_of_lem found ranks steps at m r e in rw g (parents_last found ranks steps r at m u.variable u.within u.product)

-- The search: there are turns enough for the products that are left.
module _ (m found : ℕ) (standard ranks steps : List ℕ) where
  abbrev from : ℕ → List ℕ → Searched
  from n at = next_from m found standard ranks steps n at

  pub record Searching (at : List ℕ) (end : Searched) : Type 0 where
    pub turns : ℕ
    pub enough : remaining found at m ≤ turns
    pub reached : from (suc turns) at ≡ end

  pub search_start : (at : List ℕ) → Searching at (next_of m found standard ranks steps at)
  unfolding next_of
  search_start at = record { turns = m * found; enough = remaining_most found at m; reached = refl }

  module _ (at : List ℕ) (end : Searched) (w : Searching at end) where
    pub search_none : least_of found ranks steps at m ≡ None → search_ends None at ≡ end
    unfolding next_from at_least
    search_none e = rw e at w.reached

    module _ (r : ℕ) (e : least_of found ranks steps at m ≡ Some r) where
      -- what the turn has found, and how many variables occur
      module _ (p : Parents) (g : p ≡ parents_of found ranks steps r at m) (next : List ℕ) (f : next ≡ products_passed found ranks steps r at m) (n : ℕ)
          (o : n ≡ occurring_in (take 8 (drop (8 * p.standard) standard)) p.variable 8) where
        pub search_found : p.count ≡ n → search_ends (Some (record { variable = p.variable; standard = p.standard; rank = r })) next ≡ end
        unfolding next_from at_least
        search_found h =
            let z : is_whole standard p ≡ true = eq-eqb _ _ (h ∙ o) in
            rw (g, f) (rw (e, rw g at z) at w.reached)

        pub search_again : ¬ (p.count ≡ n) → m ≤ length at → Searching next end
        unfolding next_from at_least
        search_again h l =
            let z : is_whole standard p ≡ false = ne_eqb _ _ (λ y. h (y ∙ sym o)) in
            go w.turns (omega (arith, passed_fewer found ranks steps m at r e next f l, w.enough)) (rw f (rw (e, rw g at z) at w.reached))
          where
            go : (i : ℕ) → remaining found next m < i → from i next ≡ end → Searching next end
            go zero k y = absurd (omega arith)
            go (suc i) k y = record { turns = i; enough = omega arith; reached = y }
