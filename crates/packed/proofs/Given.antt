-- What the walk is handed under settings, its start and its end.
use mathlib.Core.Path.{◌≡◌, refl, sym, ap, ap₂, ◌∙◌, subst}
use mathlib.Core.List.{List, [], ◌∷◌, map}
use mathlib.Core.Logic.{inl, inr, ◌≢◌}
use Prim.Native.Nat.{ℕ, zero, suc, ◌+◌, ◌*◌, ◌-◌, ◌/◌, ◌%◌, ◌^◌, ◌<◌, ◌≤◌}
use native.Mathlib.Nat.{lt_of_lt_of_le, one-mul, div-lt_iff_lt-mul, pow-succ'}
use native.Mathlib.Omega.{arith}
use lib.Pow.{pow_pos, pow_mono}
use Rattle.residue.proofs.Congruence.{of, ◌then◌}
use lib.ListN.{length, get_or, replicate, length-map}
use Rattle.residue.specs.Congruence.{Mod}
use Rattle.residue.specs.Layout.{groups, fill, in_places, length_fill}
use Rattle.residue.proofs.Layouts.{zeros_at, fill_at, fill_zeros}
use Rattle.residue.proofs.Places.{table_groups}
use Rattle.specification.specs.declared.settings.Settings.{Settings}
use Rattle.specification.specs.Polynomial.{Distinct}
use Rattle.specification.specs.Settings.{Accepted}
use Rattle.specification.specs.Space.{Space}
use Rattle.specification.specs.Squares.{Boolean}
use Rattle.specification.specs.Instance.{Point, point_of}
use Rattle.specification.specs.Tables.{order_under, space_under, points_under, points_in}
use Rattle.specification.proofs.ideal.Laws.{Laws}
use Rattle.specification.proofs.agreement.Drawings.{laws_under, distinct_points}
use Rattle.construction.specs.Drawing.{PointsGiven, Tabled}
use Rattle.construction.proofs.drawing.Given.{given_count, given_points}
use Rattle.residue.specs.Words.{bit_of, word_of, column_of}
use Rattle.packed.specs.PackedWalk.{packed_found, PackedBasis}
use Rattle.words.specs.PlaceSets.{in_set, FirstOpen, Passed, OfAbove}
use Rattle.words.specs.ByteColumns.{VariableColumns}
use Rattle.words.specs.Sequences.{Sequence, Squares}
use Rattle.residue.proofs.BitLaws.{bit_zero}
use Rattle.orders.proofs.ByteInstance.{boolean}
use Rattle.orders.proofs.ByteSteps.{high_bit}
use Rattle.words.proofs.ColumnLaws.{column_cong}
use Rattle.words.proofs.ExamineLaws.{kept_none}
use Rattle.packed.proofs.Found.{place_none}
use Rattle.packed.proofs.PackedUnder.{packed_rows, packed_standard, packed_leads, packed_coefficients}
use Rattle.packed.proofs.Ready.{none, ready_ended}
use Rattle.packed.proofs.Visiting.{none_left}
use Rattle.orders.proofs.SequenceLaws.{get_d_map}
use Rattle.packed.proofs.Walked
use Rattle.packed.proofs.Walked.{Walked}

halved : (k w : ℕ) → w < 2 ^ suc k → bit_of k w ≢ 1 → w < 2 ^ k
unfolding bit_of
halved k w u n = subst (λ (x : ℕ). w < x) (one-mul (2 ^ k)) ((div-lt_iff_lt-mul {k = 2 ^ k} {x = w} {y = 1} (pow_pos k)).0 (none (w / 2 ^ k) ((div-lt_iff_lt-mul {k = 2 ^ k} {x = w} {y = 2} (pow_pos k)).1 (subst (λ (x : ℕ). w < x) (pow-succ' 2 k) u)) n))
  where
    none : (x : ℕ) → x < 2 → x % 2 ≢ 1 → x < 1
    none x h n = omega (arith, n)

-- a byte without bits from m on is below 2 ^ m
low_byte : (m e w : ℕ) → w < 2 ^ (m + e) → ((k : ℕ) → m ≤ k → k < m + e → bit_of k w ≢ 1) → w < 2 ^ m
low_byte m zero w h f = subst (λ (x : ℕ). w < 2 ^ x) (omega arith) h
low_byte m (suc e) w h f = low_byte m e w (halved (m + e) w (subst (λ (x : ℕ). w < 2 ^ x) (omega arith) h) (f (m + e) (omega arith) (omega arith))) (λ k u v. f k u (omega arith))

none_in : (i : ℕ) → in_set i (replicate 4 0) ≢ 1
unfolding in_set
none_in i e = let z : ◌≡◌ {A = ℕ} 0 1 = sym (ap (bit_of (i % 64)) (zeros_at 4 (i / 64)) ∙ bit_zero (i % 64)) ∙ e in omega arith

map_map : {A B : Type 0} (φ : B → ℕ) (g : A → B) (l : List A) → column_of φ (map g l) ≡ column_of (λ (a : A). φ (g a)) l
unfolding column_of word_of
map_map φ g [] = refl
map_map φ g (a ∷ l) = ap (λ (x : ℕ). x * 2 + φ (g a) % 2) (map_map φ g l)

module _ (s : Settings) (n : ℕ) (points : List ℕ) (g : PointsGiven s n points) (two : s.modulus ≡ 2) (bytes multiples : List ℕ) (Q : Sequence (order_under s) bytes multiples)
    (squares before : List ℕ) (R : Squares (order_under s) s.variables bytes squares before) where
  abbrev q : ℕ
  q = s.modulus - 1

  abbrev m : ℕ
  m = s.variables

  abbrev K : List (List ℕ)
  K = points_in s n points

  abbrev D : Space
  D = space_under s

  abbrev S : List (Point (suc q) m)
  S = points_under s K

  ok : Accepted s
  ok = g.settings

  pub L : Laws D
  L = laws_under s ok

  pub B : Boolean D
  B = boolean q m (order_under s) (rw two)

  pub distinct : Distinct D S
  distinct = distinct_points s ok K (given_points g)

  many : length S ≡ n
  many = length-map K (point_of q m) ∙ given_count g

  pub few : length S ≤ 64
  few = subst (λ (x : ℕ). x ≤ 64) (sym many) g.most

  pub most : m ≤ 8
  most = ok.few

  abbrev pub Now : List ℕ → ℕ → ℕ → ℕ → ℕ → List ℕ → List ℕ → List ℕ → List ℕ → List ℕ → List ℕ → List ℕ → List ℕ → Type 0
  Now = Walked q m (order_under s) most bytes multiples Q squares before R L B S distinct few

  -- the columns of the variables
  pub variables_at : (variables : List ℕ) → VariableColumns n points variables → (k : ℕ) → k < m → get_or variables k 0 ≡ column_of (D.coord k) S
  unfolding point_of
  variables_at variables C k h =
      C.each k (omega (arith, most)) ∙ ap (column_of (λ (P : List ℕ). get_or P k 0)) grouped ∙ map_map (λ (P : List ℕ). get_or P k 0) (fill 8) K
      ∙ column_cong (λ (P : List ℕ). get_or (fill 8 P) k 0) (λ (P : List ℕ). D.coord k (point_of q m P)) K (λ P mem. same P)
      ∙ sym (map_map (D.coord k) (point_of q m) K)
    where
      grouped : groups 8 n points ≡ map (fill 8) K
      grouped = ap₂ (groups 8) (sym (given_count g)) g.table ∙ table_groups 8 512 K (omega (arith, given_count g, g.most))

      residue : (x y : ℕ) → y ≡ x % suc q → Mod 2 x y
      residue x y e = record { same = rest (x % suc q) (ap (λ (z : ℕ). x % z) modulus) ∙ ap (λ (z : ℕ). z % 2) (sym e) }
        where
          modulus : suc q ≡ 2
          modulus = omega (arith, two)

          rest : (z : ℕ) → z ≡ x % 2 → x % 2 ≡ z % 2
          rest z u = omega arith

      same : (P : List ℕ) → Mod 2 (get_or (fill 8 P) k 0) (D.coord k (point_of q m P))
      same P = of (fill_at 8 P k (omega (arith, most)) ∙ sym (fill_at m P k h))
          then residue (get_or (fill m P) k 0) _ (get_d_map (λ (x : ℕ). x % suc q) (fill m P) k (subst (λ (x : ℕ). k < x) (sym (length_fill m P)) h))

  pub ones_at : (ones : ℕ) → ones ≡ 2 ^ n - 1 → ones ≡ 2 ^ length S - 1
  ones_at ones e = e ∙ ap (λ (x : ℕ). 2 ^ x - 1) (sym many)

  -- the start
  start_in : (known standard leads coefficients : List ℕ) → Passed (OfAbove m multiples) (replicate 4 0) known → standard ≡ replicate 512 0 → leads ≡ replicate 3592 0
      → coefficients ≡ replicate 28736 0 → Now known m 0 0 0 (replicate 256 0) (replicate 8 0) (replicate 64 0) (replicate 64 0) (replicate 64 0) standard leads coefficients
  unfolding in_places
  start_in known standard leads coefficients T a b c = record {
    f = packed_found D [] [] [] [];
    o = none;
    state = record {
      ready = refl;
      places = record {
        long = T.long;
        closed = λ i h e v z u. absurd (elim ((T.each i h).0 e) [ inl y ↦ none_in i y | inr t ↦ high i h t v ]);
        opened = λ i h e. (low i h e, (tt, λ l mem. absurd mem));
      };
      squares = record { few = omega arith; ahead = λ k h. tt; behind = λ k h u. absurd (omega arith) };
    };
    tabled = record {
      found_is = refl;
      r_is = refl;
      rows_many = refl;
      standard_table_lem = a ∙ sym (fill_zeros 512);
      leads_table_lem = b ∙ sym (fill_zeros 3592);
      coefficients_table_lem = c ∙ sym (fill_zeros 28736);
    };
    kept = kept_none _ _ _ (replicate 64 0) refl;
    pivots_long = (refl, (refl, refl));
    memory = record {
      values_long = refl;
      places_long = refl;
      values_at = λ w h mem. absurd mem;
      places_at = λ k h. zeros_at 8 k ∙ sym (place_none D L _ [] (λ z. z));
    };
  }
    where
      high : (i : ℕ) → i < 256 → OfAbove m multiples i → get_or bytes i 0 < 2 ^ m → ⊥
      high i h t v = let z : ◌≡◌ {A = ℕ} 0 1 = sym (high_bit (get_or bytes i 0) t.0 (lt_of_lt_of_le v (pow_mono t.1))) ∙ sym (Q.variables t.0 i t.2 h) ∙ t.3 in omega arith

      low : (i : ℕ) → i < 256 → in_set i known ≡ 0 → get_or bytes i 0 < 2 ^ m
      low i h e = low_byte m (8 - m) (get_or bytes i 0) (subst (λ (x : ℕ). get_or bytes i 0 < 2 ^ x) (sym whole) (Q.small i h))
          (λ k u v b. clash e ((T.each i h).1 (inr (k, u, omega (arith, v, whole), Q.variables k i (omega (arith, v, whole)) h ∙ b))))
        where
          whole : m + (8 - m) ≡ 8
          whole = omega (arith, most)

          clash : {x : ℕ} → x ≡ 0 → x ≡ 1 → ⊥
          clash a b = omega arith

  pub walked_start : (left : ℕ) → m ≡ left → (known standard leads coefficients : List ℕ) → Passed (OfAbove left multiples) (replicate 4 0) known → standard ≡ replicate 512 0
      → leads ≡ replicate 3592 0 → coefficients ≡ replicate 28736 0
      → Now known left 0 0 0 (replicate 256 0) (replicate 8 0) (replicate 64 0) (replicate 64 0) (replicate 64 0) standard leads coefficients
  walked_start left e known standard leads coefficients T a b c =
      subst (λ (k : ℕ). Now known k 0 0 0 (replicate 256 0) (replicate 8 0) (replicate 64 0) (replicate 64 0) (replicate 64 0) standard leads coefficients) e
      (start_in known standard leads coefficients (subst (λ (k : ℕ). Passed (OfAbove k multiples) (replicate 4 0) known) (sym e) T) a b c)

  -- the end
  pub walked_end : (known : List ℕ) (found r pivots : ℕ) (values places rows columns polynomials standard leads coefficients : List ℕ)
      → Now known 0 found r pivots values places rows columns polynomials standard leads coefficients → FirstOpen known 256 → Tabled s K r standard leads coefficients
  walked_end known found r pivots values places rows columns polynomials standard leads coefficients W F = record {
    row_count = W.tabled.r_is ∙ sym (packed_rows s ok two K (given_points g) W.f basis);
    standard_table_lem = W.tabled.standard_table_lem ∙ sym (packed_standard s ok two K (given_points g) W.f basis);
    leads_table_lem = W.tabled.leads_table_lem ∙ sym (packed_leads s ok two K (given_points g) W.f basis);
    coefficients_table_lem = W.tabled.coefficients_table_lem ∙ sym (packed_coefficients s ok two K (given_points g) W.f basis);
  }
    where
      basis : PackedBasis D S W.f
      basis = ready_ended D L B S distinct few W.f W.o W.state.ready
          (none_left D L _ _ _ (Walked.O q m (order_under s) most bytes multiples Q squares before R L B S distinct few) known W.f.leads W.o 0 W.state.places W.state.squares F refl)

-- What the walk is lent.
pub record Lent (s : Settings) (n : ℕ) (points bytes multiples squares before : List ℕ) : Type 0 where
  pub given : PointsGiven s n points
  pub two : s.modulus ≡ 2
  pub sequence : Sequence (order_under s) bytes multiples
  pub squares_are : Squares (order_under s) s.variables bytes squares before

-- What holds at the head of the loop.
pub record AtHead (s : Settings) (n : ℕ) (points bytes multiples squares before : List ℕ) (whole : ℕ) (variables : List ℕ) (known : List ℕ) (left found r pivots : ℕ)
    (values places rows columns polynomials standard leads coefficients : List ℕ) : Type 0 where
  pub given : PointsGiven s n points
  pub two : s.modulus ≡ 2
  pub sequence : Sequence (order_under s) bytes multiples
  pub squares_are : Squares (order_under s) s.variables bytes squares before
  pub variables_are : VariableColumns n points variables
  pub whole_is : whole ≡ 2 ^ n - 1
  pub now : Now s n points given two bytes multiples sequence squares before squares_are known left found r pivots values places rows columns polynomials standard leads coefficients

-- The loop itself reads no settings: this holds under any of as many variables for which the walk is lent what it is.
abbrev pub AtHeads : ℕ → ℕ → List ℕ → List ℕ → List ℕ → List ℕ → List ℕ → ℕ → List ℕ → List ℕ → ℕ → ℕ → ℕ → ℕ → List ℕ → List ℕ → List ℕ → List ℕ → List ℕ → List ℕ → List ℕ
    → List ℕ → Type 0
AtHeads m n points bytes multiples squares before whole variables known left found r pivots values places rows columns polynomials standard leads coefficients =
    (s : Settings) → s.variables ≡ m → Lent s n points bytes multiples squares before
    → AtHead s n points bytes multiples squares before whole variables known left found r pivots values places rows columns polynomials standard leads coefficients
