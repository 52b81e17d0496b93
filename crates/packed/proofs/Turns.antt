-- The turns of the walk as its loop has them: what holds at its head, and what is asked of each call.
use Rattle.std.specs.Prelude.{Option, Some, None}
use mathlib.Core.Path.{◌≡◌, refl, sym, ap, ◌∙◌, subst}
use mathlib.Core.Bool.{true, false, true≢false}
use mathlib.Core.List.{List}
use mathlib.Core.Logic.{◌≢◌, ◌↔◌}
use Prim.Native.Nat.{ℕ, suc, ◌+◌, ◌-◌, ◌^◌, ◌<◌, ◌≤◌, Ordering}
use native.Mathlib.Omega.{arith}
use native.Mathlib.Decide.{ℕ_discrete}
use lib.ListN.{length, get_or, set}
use borrow.Author.Tests.{ne_eqb, leb-true, leb-false}
use Rattle.residue.specs.Layout.{with_place, length_fill}
use Rattle.monomial.specs.Order.{Order}
use Rattle.specification.specs.declared.settings.Settings.{Settings}
use Rattle.specification.specs.Space.{Space, Less}
use Rattle.specification.specs.Tables.{order_under, space_under, points_under, points_in}
use Rattle.specification.specs.Instance.{Monomial}
use Rattle.specification.specs.Squares.{square}
use Rattle.specification.proofs.ideal.Laws.{Laws, Compares, lt, eq, gt, compared, irrefl, trans}
use Rattle.construction.specs.Drawing.{Tabled}
use Rattle.residue.specs.Words.{bits_of, column_of, length_bits}
use Rattle.words.specs.PivotTables.{PivotsLong, SomeKept, ExaminedAs}
use Rattle.words.specs.PlaceSets.{FirstOpen, Passed, OfMultiple}
use Rattle.words.specs.ByteColumns.{OwnColumn, noted}
use Rattle.words.specs.Sequences.{square_comes}
use Rattle.packed.proofs.ByteOrder.{square_in, square_below}
use Rattle.packed.proofs.Given.{AtHead, Now, L, B, distinct, few, most, variables_at, ones_at, walked_end}
use Rattle.packed.proofs.Steps.{ready_fit}
use Rattle.packed.proofs.Visiting.{Ordered}
use Rattle.packed.proofs.Walked.{O, square_passed, square_room, square_kept, own_is, kept_some, lead_room, lead_kept, standard_room, standard_kept}

-- what the answer of `square_comes` says
pub comes_some : (left i : ℕ) (before : List ℕ) → square_comes left i before ≡ true → (left ≢ 0) × (get_or before (left - 1) 0 ≤ i)
unfolding square_comes
comes_some left i before e = go (ℕ_discrete left 0)
  where
    go : Dec (left ≡ 0) → (left ≢ 0) × (get_or before (left - 1) 0 ≤ i)
    go (yes z) = absurd (true≢false (sym e ∙ rw z refl))
    go (no n) = (n, leb-true _ _ (sym (rw (ne_eqb left 0 n) refl) ∙ e))

comes_later : (left i : ℕ) (before : List ℕ) → square_comes left i before ≡ false → left ≢ 0 → i < get_or before (left - 1) 0
unfolding square_comes
comes_later left i before e n = leb-false _ _ (sym (rw (ne_eqb left 0 n) refl) ∙ e)

module _ {s : Settings} {n : ℕ} {points bytes multiples squares before : List ℕ} {whole : ℕ} {variables known : List ℕ} {left found r pivots : ℕ}
    {values places rows columns polynomials standard leads coefficients : List ℕ}
    (H : AtHead s n points bytes multiples squares before whole variables known left found r pivots values places rows columns polynomials standard leads
    coefficients) where
  abbrev order : Order
  order = order_under s

  abbrev D : Space
  D = space_under s

  abbrev q : ℕ
  q = s.modulus - 1

  abbrev m : ℕ
  m = s.variables

  laws : Laws D
  laws = L s n points H.given H.two bytes multiples H.sequence squares before H.squares_are

  ordered : Ordered D (λ i. get_or bytes i 0 < 2 ^ m) (λ i. (bits_of m (get_or bytes i 0), length_bits m (get_or bytes i 0))) (λ i. get_or squares i 0)
  ordered = O q m order H.given.settings.few bytes multiples H.sequence squares before H.squares_are laws
      (B s n points H.given H.two bytes multiples H.sequence squares before H.squares_are) (points_under s (points_in s n points))
      (distinct s n points H.given H.two bytes multiples H.sequence squares before H.squares_are)
      (few s n points H.given H.two bytes multiples H.sequence squares before H.squares_are)

  pub known_long : length known ≡ 4
  known_long = H.now.state.places.long

  pub left_few : left ≤ 8
  left_few = let h = H.now.state.squares.few in omega (arith, h, H.given.settings.few)

  pub found_few : found ≤ 64
  found_few = subst (λ (x : ℕ). x ≤ 64) (sym H.now.tabled.found_is)
      (ready_fit D (L s n points H.given H.two bytes multiples H.sequence squares before H.squares_are)
      (B s n points H.given H.two bytes multiples H.sequence squares before H.squares_are) (points_under s (points_in s n points))
      (distinct s n points H.given H.two bytes multiples H.sequence squares before H.squares_are)
      (few s n points H.given H.two bytes multiples H.sequence squares before H.squares_are) (λ i. get_or bytes i 0 < 2 ^ m)
      (λ i. (bits_of m (get_or bytes i 0), length_bits m (get_or bytes i 0))) (λ i. get_or squares i 0)
      (O q m order (most s n points H.given H.two bytes multiples H.sequence squares before H.squares_are) bytes multiples
      H.sequence squares before H.squares_are (L s n points H.given H.two bytes multiples H.sequence squares before H.squares_are)
      (B s n points H.given H.two bytes multiples H.sequence squares before H.squares_are) (points_under s (points_in s n points))
      (distinct s n points H.given H.two bytes multiples H.sequence squares before H.squares_are)
      (few s n points H.given H.two bytes multiples H.sequence squares before H.squares_are)) H.now.f H.now.o H.now.state.ready)

  pub standard_long : length standard ≡ 512
  standard_long = ap length H.now.tabled.standard_table_lem ∙ length_fill 512 _

  pub leads_long : length leads ≡ 3592
  leads_long = ap length H.now.tabled.leads_table_lem ∙ length_fill 3592 _

  pub coefficients_long : length coefficients ≡ 28736
  coefficients_long = ap length H.now.tabled.coefficients_table_lem ∙ length_fill 28736 _

  module _ (i : ℕ) (F : FirstOpen known i) where
    place : ℕ → (z : i < 256) → get_or bytes i 0 < 2 ^ m
    place k z = (H.now.state.places.opened i z (F.here z)).0

    inside : i ≢ 256 → i < 256
    inside z = let h = F.most in omega (arith, h, z)

    abbrev here : Monomial m
    here = (bits_of m (get_or bytes i 0), length_bits m (get_or bytes i 0))

    here_below : (j : ℕ) → j < m → i < 256 → (i < get_or before j 0) ↔ Less D here (square D (get_or squares j 0))
    here_below j h z = square_below q m order H.given.settings.few bytes multiples H.sequence squares before H.squares_are j i h z (place j z)

    -- the last of the squares that are left
    module _ (e : square_comes left i before ≡ true) where
      pub some_left : left ≢ 0
      some_left = (comes_some left i before e).0

      split : left ≡ suc (left - 1)
      split = omega (arith, some_left)

      last_in : left - 1 < m
      last_in = let h = H.now.state.squares.few in omega (arith, h, some_left)

      pub last_fits : get_or squares (left - 1) 0 < 8
      last_fits = let h = H.squares_are.variable (left - 1) last_in in omega (arith, h, H.given.settings.few)

      first : i < 256 → Less D (square D (get_or squares (left - 1) 0)) here
      first z = go (compared D laws here (square D (get_or squares (left - 1) 0)))
        where
          go : {c : Ordering} → Compares D here (square D (get_or squares (left - 1) 0)) c → Less D (square D (get_or squares (left - 1) 0)) here
          go (lt u) = let h = (here_below (left - 1) last_in z).1 u in let t = (comes_some left i before e).1 in absurd (omega (arith, h, t))
          go (eq u) = absurd (ordered.not_square i (get_or squares (left - 1) 0) (H.squares_are.variable (left - 1) last_in) u)
          go (gt u) = u

      pub square_skipped : get_or places (get_or squares (left - 1) 0) 0 ≡ 0
          → AtHead s n points bytes multiples squares before whole variables known
          (left - 1) found r pivots values places rows columns polynomials standard leads coefficients
      square_skipped z = record {
        given = H.given;
        two = H.two;
        sequence = H.sequence;
        squares_are = H.squares_are;
        variables_are = H.variables_are;
        whole_is = H.whole_is;
        now = square_passed q m order _ bytes multiples H.sequence squares before
            H.squares_are _ _ _ _ _ known left found r pivots values places rows columns polynomials standard leads coefficients H.now i F
            (left - 1) split first z;
      }

      pub square_fits : get_or places (get_or squares (left - 1) 0) 0 ≢ 0 → (r < 449) × (get_or places (get_or squares (left - 1) 0) 0 ≤ 64)
      square_fits z = square_room q m order _ bytes multiples H.sequence squares before
          H.squares_are _ _ _ _ _ known left found r pivots values places rows columns polynomials standard leads coefficients H.now i F
          (left - 1) split first z

      pub square_done : get_or places (get_or squares (left - 1) 0) 0 ≢ 0 → (leads' coefficients' : List ℕ)
          → leads' ≡ with_place 8 r (square_in 8 (get_or squares (left - 1) 0)) leads
          → coefficients' ≡ with_place 64 r (bits_of 64 (2 ^ (get_or places (get_or squares (left - 1) 0) 0 - 1))) coefficients
          → AtHead s n points bytes multiples squares before whole variables known (left - 1) found
          (r + 1) pivots values places rows columns polynomials standard leads' coefficients'
      square_done z leads' coefficients' a b = record {
        given = H.given;
        two = H.two;
        sequence = H.sequence;
        squares_are = H.squares_are;
        variables_are = H.variables_are;
        whole_is = H.whole_is;
        now = square_kept q m order _ bytes multiples H.sequence squares before
            H.squares_are _ _ _ _ _ known left found r pivots values places rows columns polynomials standard leads coefficients H.now i F
            (left - 1) split first z leads' coefficients' a b;
      }

    -- the monomial of the first open place, or the end
    module _ (e : square_comes left i before ≡ false) where
      pub ended_as : i ≡ 256 → Tabled s (points_in s n points) r standard leads coefficients
      ended_as z = walked_end s n points H.given H.two bytes multiples H.sequence squares before
          H.squares_are known found r pivots values places rows columns polynomials standard leads coefficients
          (subst (λ (k : ℕ). Now s n points H.given H.two bytes multiples H.sequence squares before
          H.squares_are known k found r pivots values places rows columns polynomials standard leads coefficients)
          (done (ℕ_discrete left 0)) H.now) (subst (FirstOpen known) z F)
        where
          done : Dec (left ≡ 0) → left ≡ 0
          done (yes u) = u
          done (no n) =
              let h = H.now.state.squares.few in
              let t = comes_later left i before e n in
              let b = H.squares_are.most (left - 1) (omega (arith, h, n)) in
              absurd (omega (arith, t, b, z))

      module _ (z : i ≢ 256) where
        pub inside_is : i < 256
        inside_is = inside z

        after : (k : ℕ) → suc k ≡ left → ¬ Less D (square D (get_or squares k 0)) here
        after k u v = irrefl D laws {a = square D (get_or squares k 0)}
            (trans D laws {a = square D (get_or squares k 0)} {b = here} {c = square D (get_or squares k 0)} v
            ((here_below k (omega (arith, h, u)) inside_is).0 early))
          where
            h : left ≤ m
            h = H.now.state.squares.few

            last_is : left - 1 ≡ k
            last_is = omega (arith, u)

            early : i < get_or before k 0
            early = subst (λ (x : ℕ). i < get_or before x 0) last_is (comes_later left i before e (λ y. omega (arith, u, y)))

        module _ (own : ℕ) (C : OwnColumn (get_or bytes i 0) whole variables values own) where
          column : own ≡ column_of (D.val here) (points_under s (points_in s n points))
          column = own_is q m order _ bytes multiples H.sequence squares before
              H.squares_are _ _ _ _ _ known left found r pivots values places rows columns polynomials standard leads coefficients
              H.now i F inside_is after
              whole own variables (ones_at s n points H.given H.two bytes multiples H.sequence squares before H.squares_are whole H.whole_is)
              (variables_at s n points H.given H.two bytes multiples H.sequence squares before H.squares_are variables H.variables_are) C

          pub examine_fits : SomeKept own found pivots rows columns polynomials
          examine_fits = kept_some q m order _ bytes multiples H.sequence squares before
              H.squares_are _ _ _ _ _ known left found r pivots values places rows columns polynomials standard leads coefficients
              H.now i F inside_is after own column

          module _ (row : Option ℕ) (g pivots' : ℕ) (rows' columns' polynomials' : List ℕ)
              (E : ExaminedAs own found row pivots pivots' rows columns polynomials rows' columns' polynomials')
              (long : PivotsLong rows' columns' polynomials') where
            module _ (y : row ≡ Some g) where
              pub lead_fits : r < 449
              lead_fits = lead_room q m order _ bytes multiples H.sequence squares before
                  H.squares_are _ _ _ _ _ known left found r pivots values places rows columns polynomials standard leads coefficients
                  H.now i F inside_is after
                  own column row g pivots' rows' columns' polynomials' E long y

              pub lead_done : (known' leads' coefficients' : List ℕ) → Passed (OfMultiple (get_or bytes i 0) multiples) known known'
                  → leads' ≡ with_place 8 r (bits_of 8 (get_or bytes i 0)) leads
                  → coefficients' ≡ with_place 64 r (bits_of 64 g) coefficients
                  → AtHead s n points bytes multiples squares before whole variables known' left found
                  (r + 1) pivots' values places rows' columns' polynomials' standard leads' coefficients'
              lead_done known' leads' coefficients' T a b = record {
                given = H.given;
                two = H.two;
                sequence = H.sequence;
                squares_are = H.squares_are;
                variables_are = H.variables_are;
                whole_is = H.whole_is;
                now = lead_kept q m order _ bytes multiples H.sequence squares before
                    H.squares_are _ _ _ _ _ known left found r pivots values places rows columns polynomials standard leads coefficients
                    H.now i F inside_is after
                    own column row g pivots' rows' columns' polynomials' E long y known' leads' coefficients' T a b;
              }

            module _ (y : row ≡ None) where
              pub standard_fits : found < 64
              standard_fits = standard_room q m order _ bytes multiples H.sequence squares before
                  H.squares_are _ _ _ _ _ known left found r pivots values places rows columns polynomials standard leads coefficients
                  H.now i F inside_is after
                  own column row g pivots' rows' columns' polynomials' E long y

              pub standard_done : (known' standard' values' places' : List ℕ) → Passed (λ j. j ≡ i) known known'
                  → standard' ≡ with_place 8 found (bits_of 8 (get_or bytes i 0)) standard
                  → values' ≡ set values (get_or bytes i 0) own → places' ≡ noted (get_or bytes i 0) (suc found) places
                  → AtHead s n points bytes multiples squares before whole variables known' left
                  (found + 1) r pivots' values' places' rows' columns' polynomials' standard' leads coefficients
              standard_done known' standard' values' places' T a b c = record {
                given = H.given;
                two = H.two;
                sequence = H.sequence;
                squares_are = H.squares_are;
                variables_are = H.variables_are;
                whole_is = H.whole_is;
                now = standard_kept q m order _ bytes multiples H.sequence squares before
                    H.squares_are _ _ _ _ _ known left found r pivots values places rows columns polynomials standard leads coefficients
                    H.now i F inside_is after
                    own column row g pivots' rows' columns' polynomials' E long y known' standard' values' places' T a b c;
              }
