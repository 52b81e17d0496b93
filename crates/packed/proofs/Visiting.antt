-- Which place is open, and which squares are left, while the walk goes through an order of bytes.
use mathlib.Core.Path.{◌≡◌, refl, sym, ap, ◌∙◌, subst}
use mathlib.Core.List.{List}
use mathlib.Core.Logic.{◌⊎◌, inl, inr, ◌≢◌}
use Prim.Native.Nat.{ℕ, zero, suc, ◌<◌, ◌≤◌, Ordering}
use native.Mathlib.Omega.{arith}
use native.Mathlib.Decide.{ℕ_discrete}
use lib.ListN.{length}
use Rattle.residue.specs.Lists.{Among}
use Rattle.specification.specs.Space.{Space, Less, Divides}
use Rattle.specification.specs.Examination.{Undivided}
use Rattle.specification.specs.Squares.{square, Squarefree}
use Rattle.specification.proofs.ideal.Laws.{Laws, Compares, lt, eq, gt, compared, irrefl, trans, less_ne}
use Rattle.words.specs.PlaceSets.{in_set, FirstOpen, Passed}
use Rattle.words.proofs.PlaceLaws.{below_or, in_small}
use Rattle.packed.proofs.Walking.{Candidate}
use Rattle.packed.proofs.Ready.{Last, last, Above, NextAfter, above_trans}

-- The places of monomials without squares in an order: 256 of them, some of which stand for monomials of the space; and the variables from the one with the
-- largest square down.
pub record Ordered (D : Space) (Valid : ℕ → Type 0) (at : ℕ → D.Mono) (sq : ℕ → ℕ) : Type 0 where
  pub at_less : (i j : ℕ) → i < j → j < 256 → Valid i → Valid j → Less D (at i) (at j)
  pub at_place : (a : D.Mono) → Squarefree D a → (i : ℕ) × (i < 256) × Valid i × (at i ≡ a)
  pub at_free : (i : ℕ) → Squarefree D (at i)
  pub not_square : (i k : ℕ) → k < D.m → at i ≢ square D k
  pub square_in_lem : (j : ℕ) → j < D.m → sq j < D.m
  pub square_each : (k : ℕ) → k < D.m → (j : ℕ) × (j < D.m) × (sq j ≡ k)
  pub squares : (j k : ℕ) → j < k → k < D.m → Less D (square D (sq k)) (square D (sq j))

module _ (D : Space) (L : Laws D) (Valid : ℕ → Type 0) (at : ℕ → D.Mono) (sq : ℕ → ℕ) (O : Ordered D Valid at sq) where
  open D use {m, Mono}

  -- what is open, and what is not
  pub record Places (known : List ℕ) (leads : List (Mono)) (o : Last D) : Type 0 where
    pub long : length known ≡ 4
    pub closed : (i : ℕ) → i < 256 → in_set i known ≡ 1 → Valid i → Above D o (at i) → ¬ Undivided D leads (at i)
    pub opened : (i : ℕ) → i < 256 → in_set i known ≡ 0 → (Valid i) × (Above D o (at i) × Undivided D leads (at i))

  -- the squares of the first of the variables are left
  pub record SquaresLeft (count : ℕ) (o : Last D) : Type 0 where
    pub few : count ≤ m
    pub ahead : (k : ℕ) → k < count → Above D o (square D (sq k))
    pub behind : (k : ℕ) → count ≤ k → k < m → ¬ Above D o (square D (sq k))

  -- a candidate that is above the last, and that no lead divides, has an open place or is a square that is left
  data Left (known : List ℕ) (count : ℕ) (a : Mono) : Type 0 where
    placed : (i : ℕ) → i < 256 → in_set i known ≡ 0 → at i ≡ a → Left known count a
    squared : (k : ℕ) → k < count → a ≡ square D (sq k) → Left known count a

  module _ (known : List ℕ) (leads : List (Mono)) (o : Last D) (count : ℕ) (P : Places known leads o) (R : SquaresLeft count o) where
    left : (a : Mono) → Candidate D a → Above D o a → Undivided D leads a → Left known count a
    left a (inl f) h u = let t = O.at_place a f in go t.0 t.1 t.2 t.3 (ℕ_discrete (in_set t.0 known) 0)
      where
        go : (i : ℕ) → i < 256 → Valid i → at i ≡ a → Dec (in_set i known ≡ 0) → Left known count a
        go i v w e (yes z) = placed i v z e
        go i v w e (no n) = absurd (P.closed i v (one_of (in_small i known) n) w (subst (Above D o) (sym e) h) (subst (Undivided D leads) (sym e) u))
          where
            one_of : {x : ℕ} → x < 2 → x ≢ 0 → x ≡ 1
            one_of z n = omega (arith, n)
    left a (inr t) h u = let p = O.square_each t.0 t.1 in go p.0 p.1 (t.2 ∙ ap (square D) (sym p.2)) (below_or p.0 count)
      where
        go : (k : ℕ) → k < m → a ≡ square D (sq k) → (k < count) ⊎ (count ≤ k) → Left known count a
        go k v e (inl z) = squared k z e
        go k v e (inr z) = absurd (R.behind k z v (subst (Above D o) e h))

    -- nothing open and no square left
    pub none_left : FirstOpen known 256 → count ≡ 0 → (a : Mono) → Candidate D a → Above D o a → ¬ Undivided D leads a
    none_left F e a c h u = go (left a c h u)
      where
        go : Left known count a → ⊥
        go (placed i v z e) = let t = F.before i v in let w : ◌≡◌ {A = ℕ} 0 1 = sym z ∙ t in omega arith
        go (squared k v z) = omega arith

    module _ (i : ℕ) (F : FirstOpen known i) where
      -- not below the first open place
      at_most : (j : ℕ) → j < 256 → in_set j known ≡ 0 → (i ≡ j) ⊎ (i < j)
      at_most j h z = go (below_or j i) (ℕ_discrete i j)
        where
          go : (j < i) ⊎ (i ≤ j) → Dec (i ≡ j) → (i ≡ j) ⊎ (i < j)
          go (inl u) _ = let t = F.before j u in let w : ◌≡◌ {A = ℕ} 0 1 = sym z ∙ t in absurd (omega arith)
          go (inr u) (yes e) = inl e
          go (inr u) (no n) = inr (omega (arith, n))

      not_less : (j : ℕ) (b : Mono) → j < 256 → in_set j known ≡ 0 → (i < 256 → Less D b (at i) ⊎ (b ≡ at i)) → ¬ Less D (at j) b
      not_less j b h z low u = go (at_most j h z)
        where
          lower : Less D b (at i) ⊎ (b ≡ at i) → ¬ Less D (at i) b
          lower (inl v) w = irrefl D L (trans D L v w)
          lower (inr e) w = less_ne D L w (sym e)

          go : (i ≡ j) ⊎ (i < j) → ⊥
          go (inl e) = let w : i < 256 = omega arith in lower (low w) (subst (λ (x : ℕ). Less D (at x) b) (sym e) u)
          go (inr v) = let w : i < 256 = omega arith in
              lower (low w) (trans D L (O.at_less i j v h (P.opened i w (F.here w)).0 (P.opened j h z).0) u)

      ordered_to : (j k : ℕ) → j ≤ k → k < m → (square D (sq j) ≡ square D (sq k)) ⊎ Less D (square D (sq k)) (square D (sq j))
      ordered_to j k h u = go (ℕ_discrete j k)
        where
          go : Dec (j ≡ k) → (square D (sq j) ≡ square D (sq k)) ⊎ Less D (square D (sq k)) (square D (sq j))
          go (yes e) = inl (ap (λ (x : ℕ). square D (sq x)) e)
          go (no n) = inr (O.squares j k (omega (arith, n)) u)

      -- The square of the last variable that is left, where it comes before the first open place.
      module _ (k : ℕ) (last_is : count ≡ suc k) (before : i < 256 → Less D (square D (sq k)) (at i)) where
        pub square_next : NextAfter D leads o (square D (sq k))
        square_next = record {
          after = R.ahead k (omega arith);
          least = λ a c h u z. go a z (left a c h u);
        }
          where
            go : (a : Mono) → Less D a (square D (sq k)) → Left known count a → ⊥
            go a z (placed j v w e) = not_less j (square D (sq k)) v w (λ h. inl (before h)) (subst (λ (x : Mono). Less D x (square D (sq k))) (sym e) z)
            go a z (squared j v e) = elim (ordered_to j k (omega arith) (omega (arith, R.few))) [
              | inl s ↦ less_ne D L z (e ∙ s)
              | inr s ↦ irrefl D L (trans D L z (subst (Less D (square D (sq k))) (sym e) s))
            ]

        pub square_left : SquaresLeft k (last (square D (sq k)))
        square_left = record {
          few = omega (arith, R.few);
          ahead = λ j h. O.squares j k h (omega (arith, R.few));
          behind = λ j h u z. go j h u z (ℕ_discrete j k);
        }
          where
            go : (j : ℕ) → k ≤ j → j < m → Less D (square D (sq k)) (square D (sq j)) → Dec (j ≡ k) → ⊥
            go j h u z (yes e) = less_ne D L z (ap (λ (x : ℕ). square D (sq x)) (sym e))
            go j h u z (no n) = R.behind j (omega (arith, n)) u (above_trans D L o (square D (sq k)) (square D (sq j)) (R.ahead k (omega arith)) z)

        -- the places are as they were, whether the square is a lead or not
        pub square_places : (leads' : List (Mono)) → ((a : Mono) → Among a leads' → Among a leads ⊎ (a ≡ square D (sq k))) → ((a : Mono) → Among a leads → Among a leads')
            → Places known leads' (last (square D (sq k)))
        square_places leads' of-new of-old = record {
          long = P.long;
          closed = λ j h e w z u. P.closed j h e w (above_trans D L o (square D (sq k)) (at j) (R.ahead k (omega arith)) z) (λ a mem v. u a (of-old a mem) v);
          opened = λ j h e. let t = P.opened j h e in (t.0, (above j h e, λ a mem v. elim (of-new a mem) [ inl y ↦ t.1.1 a y v | inr y ↦ O.at_free j (sq k) (O.square_in_lem k (omega (arith, R.few))) (subst (λ (x : Mono). Divides D x (at j)) y v) ]));
        }
          where
            above : (j : ℕ) → j < 256 → in_set j known ≡ 0 → Less D (square D (sq k)) (at j)
            above j h e = go (at_most j h e)
              where
                go : (i ≡ j) ⊎ (i < j) → Less D (square D (sq k)) (at j)
                go (inl s) = let w : i < 256 = omega arith in subst (λ (x : ℕ). Less D (square D (sq k)) (at x)) s (before w)
                go (inr s) = let w : i < 256 = omega arith in trans D L (before w) (O.at_less i j s h (P.opened i w (F.here w)).0 (P.opened j h e).0)

      -- The first open place, where no square that is left comes before it.
      module _ (inside : i < 256) (after : (k : ℕ) → suc k ≡ count → ¬ Less D (square D (sq k)) (at i)) where
        own : (Valid i) × (Above D o (at i) × Undivided D leads (at i))
        own = P.opened i inside (F.here inside)

        square_above : (k : ℕ) → k < count → Less D (at i) (square D (sq k))
        square_above k h = go count refl h
          where
            other : {c : Ordering} (j : ℕ) → suc j ≡ count → Compares D (at i) (square D (sq j)) c → Less D (at i) (square D (sq j))
            other j e (lt z) = z
            other j e (eq z) = absurd (O.not_square i (sq j) (O.square_in_lem j (omega (arith, R.few))) z)
            other j e (gt z) = absurd (after j e z)

            go : (c : ℕ) → count ≡ c → k < c → Less D (at i) (square D (sq k))
            go zero e u = absurd (omega arith)
            go (suc j) e u = let z = other j (sym e) (compared D L (at i) (square D (sq j))) in elim (ordered_to k j (omega arith) (omega (arith, R.few))) [
              | inl s ↦ subst (Less D (at i)) (sym s) z
              | inr s ↦ trans D L z s
            ]

        pub byte_next : NextAfter D leads o (at i)
        byte_next = record { after = own.1.0; least = λ a c h u z. go a z (left a c h u) }
          where
            go : (a : Mono) → Less D a (at i) → Left known count a → ⊥
            go a z (placed j v w e) = not_less j (at i) v w (λ h. inr refl) (subst (λ (x : Mono). Less D x (at i)) (sym e) z)
            go a z (squared j v e) = irrefl D L (trans D L z (subst (Less D (at i)) (sym e) (square_above j v)))

        pub byte_left : SquaresLeft count (last (at i))
        byte_left = record {
          few = R.few;
          ahead = square_above;
          behind = λ k h u z. R.behind k h u (above_trans D L o (at i) (square D (sq k)) own.1.0 z);
        }

        -- places that are known after it: its own, and where it is a lead those of its multiples
        pub byte_places : (Kind : ℕ → Type 0) (known' : List ℕ) (leads' : List (Mono)) → Passed Kind known known' → Kind i → ((a : Mono) → Among a leads → Among a leads')
            → ((j : ℕ) → j < 256 → Kind j → Valid j → Less D (at i) (at j) → ¬ Undivided D leads' (at j))
            → ((j : ℕ) → j < 256 → Valid j → ¬ Kind j → Undivided D leads (at j) → Undivided D leads' (at j))
            → Places known' leads' (last (at i))
        byte_places Kind known' leads' T self of-old shut still = record {
          long = T.long ∙ P.long;
          closed = λ j h e w z u. elim ((T.each j h).0 e) [
            | inl y ↦ P.closed j h y w (above_trans D L o (at i) (at j) own.1.0 z) (λ a mem v. u a (of-old a mem) v)
            | inr y ↦ shut j h y w z u
          ];
          opened = λ j h e. let t = P.opened j h (old j h e) in (t.0, (above j h e t.0, still j h t.0 (λ y. clash e ((T.each j h).1 (inr y))) t.1.1));
        }
          where
            clash : {x : ℕ} → x ≡ 0 → x ≡ 1 → ⊥
            clash e z = omega arith

            old : (j : ℕ) → j < 256 → in_set j known' ≡ 0 → in_set j known ≡ 0
            old j h e = go (ℕ_discrete (in_set j known) 0)
              where
                go : Dec (in_set j known ≡ 0) → in_set j known ≡ 0
                go (yes z) = z
                go (no n) = absurd (clash e ((T.each j h).1 (inl (one_of (in_small j known) n))))
                  where
                    one_of : {x : ℕ} → x < 2 → x ≢ 0 → x ≡ 1
                    one_of z n = omega (arith, n)

            above : (j : ℕ) → j < 256 → in_set j known' ≡ 0 → Valid j → Less D (at i) (at j)
            above j h e w = elim (at_most j h (old j h e)) [
              | inl s ↦ absurd (clash e ((T.each j h).1 (inr (subst Kind s self))))
              | inr s ↦ O.at_less i j s h own.0 w
            ]
