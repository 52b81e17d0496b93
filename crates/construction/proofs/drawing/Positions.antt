-- Which monomial is next in drawing up: each variable has a position among the standard monomials found, up to which its products have been passed. The next
-- monomial is the least product at a position, and it is bordered if it is the product at the position of each of its variables.
use mathlib.Core.Path.{◌≡◌, sym, ◌∙◌, ap, subst}
use mathlib.Core.List.{List, [], ◌∷◌, ◌++◌}
use mathlib.Core.Logic.{◌⊎◌, inl, inr}
use Prim.Native.Nat.{ℕ, zero, suc, ◌≤◌, ◌<◌, Ordering}
use native.Mathlib.Omega.{arith}
use native.Mathlib.Decide.{dec_lt, ℕ_discrete}
use lib.ListN.{length, get_or, length-append, get_or-append}
use lib.Seq.{get_or_at}
use Rattle.residue.specs.Lists.{Among}
use Rattle.monomial.specs.Increasing.{Increasing}
use Rattle.monomial.proofs.Orders.Increasing.{below_member}
use Rattle.specification.specs.Space.{Space, Less}
use Rattle.specification.proofs.ideal.Laws.{Laws, Compares, lt, eq, gt, compared, same?, irrefl, trans, less_ne}
use Rattle.specification.proofs.ideal.Lists.{get_d_among, index_of}
use Rattle.specification.proofs.drawing.UpTo.{Next, Bordered}

module _ (D : Space) where
  open D use {m, Mono, one, x, cmp}

  -- the product of variable v and the t-th monomial found
  abbrev pub product_at : List Mono → ℕ → ℕ → Mono
  product_at standard v t = x v (get_or standard t one)

  -- the products up to c are those before the positions
  pub record Positions (standard : List Mono) (c : Mono) (at : ℕ → ℕ) : Type 0 where
    pub within : (v : ℕ) → v < m → at v ≤ length standard
    pub passed : (v t : ℕ) → v < m → t < at v → ¬ Less D c (product_at standard v t)
    pub left : (v t : ℕ) → v < m → at v ≤ t → t < length standard → Less D c (product_at standard v t)

  -- b is not above any product at a position
  abbrev pub Lowest : List Mono → (ℕ → ℕ) → Mono → Type 0
  Lowest standard at b = (v : ℕ) → v < m → at v < length standard → ¬ Less D (product_at standard v (at v)) b

  -- a position goes on where its product is b, and stays elsewhere
  pub record Advances (standard : List Mono) (b : Mono) (at at' : ℕ → ℕ) : Type 0 where
    pub moves : (v : ℕ) → v < m → at v < length standard → product_at standard v (at v) ≡ b → at' v ≡ suc (at v)
    pub stays : (v : ℕ) → v < m → ¬ ((at v < length standard) × (product_at standard v (at v) ≡ b)) → at' v ≡ at v

  module _ (L : Laws D) where
    open L use {x_mono, x_up}

    increasing_at : (l : List Mono) (i j : ℕ) → Increasing cmp l → i < j → j < length l → Less D (get_or l i one) (get_or l j one)
    increasing_at [] i j s h k = absurd (omega arith)
    increasing_at (a ∷ l) i zero s h k = absurd (omega arith)
    increasing_at (a ∷ l) zero (suc j) s h k = below_member cmp a l s.0 (get_or l j one) (get_d_among l j one (omega arith))
    increasing_at (a ∷ l) (suc i) (suc j) s h k = increasing_at l i j s.1 (omega arith) (omega arith)

    x_injective : (v : ℕ) (a b : Mono) → v < m → x v a ≡ x v b → a ≡ b
    x_injective v a b hv e = go (compared D L a b)
      where
        go : {o : Ordering} → Compares D a b o → a ≡ b
        go (lt h) = absurd (less_ne D L (x_mono {k = v} hv h) e)
        go (eq u) = u
        go (gt h) = absurd (less_ne D L (x_mono {k = v} hv h) (sym e))

    module _ (standard : List Mono) (i : Increasing cmp standard) (c : Mono) (at : ℕ → ℕ) (p : Positions standard c at) where
      products : (v s t : ℕ) → v < m → s < t → t < length standard → Less D (product_at standard v s) (product_at standard v t)
      products v s t hv h k = x_mono hv (increasing_at standard s t i h k)

      -- no product is left
      pub none_left : ((v : ℕ) → v < m → at v ≡ length standard) → (k : ℕ) (s : Mono) → k < m → Among s standard → ¬ Less D c (x k s)
      none_left all k s hk mem h = let t = index_of standard one s mem in
          p.passed k t.0 hk (omega (arith, all k hk, t.1)) (subst (λ (z : Mono). Less D c (x k z)) (sym t.2) h)

      module _ (b : Mono) (low : Lowest standard at b) where
        -- the product at v's position and those behind are not below b
        above : (v t : ℕ) → v < m → at v ≤ t → t < length standard → ¬ Less D (product_at standard v t) b
        above v t hv h k u = go (ℕ_discrete (at v) t)
          where
            go : Dec (at v ≡ t) → ⊥
            go (yes e) = low v hv (omega arith) (subst (λ (z : ℕ). Less D (product_at standard v z) b) (sym e) u)
            go (no e) = low v hv (omega arith) (trans D L (products v (at v) t hv (omega arith) k) u)

        -- a product that is above c stands at a position or behind
        position : (v t : ℕ) → v < m → Less D c (product_at standard v t) → at v ≤ t
        position v t hv h = go (dec_lt t (at v))
          where
            go : Dec (t < at v) → at v ≤ t
            go (yes u) = absurd (p.passed v t hv u h)
            go (no u) = omega arith

        pub next_at : (leads : List Mono) → Less D c b → Next D standard leads c b
        next_at leads after = record {
          after = after;
          least = λ k s hk mem h z u. let t = index_of standard one s mem in
              above k t.0 hk (position k t.0 hk (subst (λ (z : Mono). Less D c (x k z)) (sym t.2) h)) t.1 (subst (λ (z : Mono). Less D (x k z) b) (sym t.2) u);
        }

        -- bordered, by the positions
        pub bordered_at : ((v : ℕ) (a : Mono) → v < m → b ≡ x v a → (at v < length standard) × (product_at standard v (at v) ≡ b)) → Bordered D standard b
        bordered_at h v a hv e = let t = h v a hv e in subst (λ (z : Mono). Among z standard) (x_injective v (get_or standard (at v) one) a hv (t.1 ∙ e)) (get_d_among standard (at v) one t.0)

        pub at_bordered : Less D c b → Bordered D standard b → (v : ℕ) (a : Mono) → v < m → b ≡ x v a → (at v < length standard) × (product_at standard v (at v) ≡ b)
        at_bordered after h v a hv e = let t = index_of standard one a (h v a hv e) in
            let is : product_at standard v t.0 ≡ b = ap (x v) t.2 ∙ sym e in
            go t.0 t.1 is (position v t.0 hv (subst (Less D c) (sym is) after)) (ℕ_discrete (at v) t.0)
          where
            go : (t : ℕ) → t < length standard → product_at standard v t ≡ b → at v ≤ t → Dec (at v ≡ t) → (at v < length standard) × (product_at standard v (at v) ≡ b)
            go t k is h (yes u) = (omega arith, ap (product_at standard v) u ∙ is)
            go t k is h (no u) = absurd (low v hv (omega arith) (subst (Less D (product_at standard v (at v))) is (products v (at v) t hv (omega arith) k)))

        -- b is done, and the positions go on
        module _ (at' : ℕ → ℕ) (after : Less D c b) (A : Advances standard b at at') where
          abbrev Here : ℕ → Type 0
          Here v = (at v < length standard) × (product_at standard v (at v) ≡ b)

          turn : (v : ℕ) → v < m → (Here v × (at' v ≡ suc (at v))) ⊎ ((¬ Here v) × (at' v ≡ at v))
          turn v hv = go (dec_lt (at v) (length standard)) (same? D L (product_at standard v (at v)) b)
            where
              go : Dec (at v < length standard) → Dec (product_at standard v (at v) ≡ b) → (Here v × (at' v ≡ suc (at v))) ⊎ ((¬ Here v) × (at' v ≡ at v))
              go (yes h) (yes e) = inl ((h, e), A.moves v hv h e)
              go (yes h) (no e) = inr ((λ t. e t.1), A.stays v hv (λ t. e t.1))
              go (no h) _ = inr ((λ t. h t.0), A.stays v hv (λ t. h t.0))

          behind : (v t : ℕ) → v < m → ¬ Here v → at v ≤ t → t < length standard → Less D b (product_at standard v t)
          behind v t hv ne h k = go (compared D L b (product_at standard v t)) (ℕ_discrete (at v) t)
            where
              go : {o : Ordering} → Compares D b (product_at standard v t) o → Dec (at v ≡ t) → Less D b (product_at standard v t)
              go (lt u) _ = u
              go (eq u) (yes e) = absurd (ne (omega arith, ap (product_at standard v) e ∙ sym u))
              go (eq u) (no e) = absurd (low v hv (omega arith) (subst (Less D (product_at standard v (at v))) (sym u) (products v (at v) t hv (omega arith) k)))
              go (gt u) _ = absurd (above v t hv h k u)

          pub advanced : Positions standard b at'
          advanced = record {
            within = λ v hv. within v (turn v hv) (p.within v hv);
            passed = λ v t hv h. passed v t hv (turn v hv) h (ℕ_discrete t (at v));
            left = λ v t hv h k. left v t hv (turn v hv) h k;
          }
            where
              within : (v : ℕ) → (Here v × (at' v ≡ suc (at v))) ⊎ ((¬ Here v) × (at' v ≡ at v)) → at v ≤ length standard → at' v ≤ length standard
              within v (inl (h, e)) k = omega (arith, h.0)
              within v (inr (h, e)) k = omega arith

              passed : (v t : ℕ) → v < m → (Here v × (at' v ≡ suc (at v))) ⊎ ((¬ Here v) × (at' v ≡ at v)) → t < at' v → Dec (t ≡ at v) → ¬ Less D b (product_at standard v t)
              passed v t hv (inl (h, e)) k (yes u) z = irrefl D L (subst (Less D b) (ap (product_at standard v) u ∙ h.1) z)
              passed v t hv (inl (h, e)) k (no u) z = p.passed v t hv (omega arith) (trans D L after z)
              passed v t hv (inr (h, e)) k _ z = p.passed v t hv (omega arith) (trans D L after z)

              left : (v t : ℕ) → v < m → (Here v × (at' v ≡ suc (at v))) ⊎ ((¬ Here v) × (at' v ≡ at v)) → at' v ≤ t → t < length standard → Less D b (product_at standard v t)
              left v t hv (inl (h, e)) k u = subst (λ (z : Mono). Less D z (product_at standard v t)) h.1 (products v (at v) t hv (omega arith) u)
              left v t hv (inr (h, e)) k u = behind v t hv h (omega arith) u

      -- the last monomial done was standard: its products are left
      pub grown : Positions (standard ++ (c ∷ [])) c at
      grown = record {
        within = λ v hv. omega (arith, p.within v hv, length-append standard (c ∷ []));
        passed = λ v t hv h. subst (λ (z : Mono). ¬ Less D c (x v z)) (sym (get_or-append standard (c ∷ []) one t (omega (arith, p.within v hv)))) (p.passed v t hv h);
        left = λ v t hv h k. left v t hv h (dec_lt t (length standard)) k;
      }
        where
          left : (v t : ℕ) → v < m → at v ≤ t → Dec (t < length standard) → t < length (standard ++ (c ∷ [])) → Less D c (product_at (standard ++ (c ∷ [])) v t)
          left v t hv h (yes u) k = subst (λ (z : Mono). Less D c (x v z)) (sym (get_or-append standard (c ∷ []) one t u)) (p.left v t hv h u)
          left v t hv h (no u) k = let e : length standard ≡ t = omega (arith, length-append standard (c ∷ [])) in
              subst (λ (z : Mono). Less D c (x v z)) (sym (get_or_at standard c [] one t e)) (x_up hv)

    -- the start: nothing has been passed, and the products of 1 are left where it is standard
    pub positions_start : (at : ℕ → ℕ) → ((v : ℕ) → v < m → at v ≡ 0) → Positions [] one at
    positions_start at h = record {
      within = λ v hv. omega (arith, h v hv);
      passed = λ v t hv k. absurd (omega (arith, h v hv));
      left = λ v t hv k u. absurd (omega arith);
    }
