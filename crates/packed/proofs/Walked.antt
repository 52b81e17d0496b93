-- The state of the walk with its tables, and its turns.
use Rattle.std.specs.Prelude.{Option, Some, None}
use mathlib.Core.Path.{◌≡◌, refl, sym, ap, ap₂, ◌∙◌, subst}
use mathlib.Core.Bool.{Bool}
use mathlib.Core.List.{List, [], ◌∷◌, ◌++◌, map}
use mathlib.Core.Logic.{inl, inr, ◌≢◌}
use Prim.Native.Nat.{ℕ, suc, ◌+◌, ◌-◌, ◌^◌, ◌<◌, ◌≤◌}
use native.Mathlib.Nat.{lt_of_le_of_lt}
use native.Mathlib.Numerals.{add-one}
use native.Mathlib.Omega.{arith}
use native.Mathlib.Decide.{ℕ_discrete}
use lib.ListN.{length, get_or, set, length-map, length-append, length-set}
use lib.Seq.{get_or-set_same, get_or-set_other}
use lib.Bits.{bit_and, and_le_l}
use lib.Count.{count_trailing_zeros}
use lib.Pow.{pow-lt}
use Rattle.residue.specs.Lists.{Among}
use Rattle.residue.specs.Layout.{fill, in_places, with_place}
use Rattle.residue.proofs.Replaced.{table_more}
use Rattle.residue.proofs.Tests.{Decides, so, not_so, cond_so, cond_not}
use Rattle.monomial.specs.Order.{Order}
use Rattle.specification.specs.Space.{Space, Less, Divides}
use Rattle.specification.specs.Polynomial.{Distinct}
use Rattle.specification.specs.Instance.{Monomial, Point, space_of}
use Rattle.specification.specs.Squares.{variable, square, Boolean}
use Rattle.specification.proofs.Squares.{is_in_told}
use Rattle.specification.proofs.ideal.Laws.{Laws}
use Rattle.specification.proofs.ideal.Lists.{snoc_of}
use Rattle.residue.specs.Words.{bits_of, word_of, column_of, length_bits}
use Rattle.words.specs.Packed.{rest_of, pivot_from, with_pivot}
use Rattle.packed.specs.PackedWalk.{PackedFound, packed_found, examined_words, square_words, index_in}
use Rattle.words.specs.PivotTables.{PivotsLong, Kept, SomeKept, ExaminedAs}
use Rattle.words.specs.PlaceSets.{FirstOpen, Passed, OfMultiple}
use Rattle.words.specs.ByteColumns.{OwnColumn, noted}
use Rattle.words.specs.Sequences.{Sequence, Squares}
use Rattle.residue.proofs.BitLaws.{bits_length, word_bits}
use Rattle.packed.proofs.ByteOrder.{square_in, long_square, square_fill, ordered}
use Rattle.orders.proofs.ByteSteps.{byte_divides, divides_bytes, variable_byte, byte_rest, byte_own, one_own}
use Rattle.words.proofs.ClearLaws.{map_snoc}
use Rattle.packed.proofs.ExaminedFound.{found_lead, found_standard}
use Rattle.words.proofs.NotedLaws.{noted_length, noted_same, noted_other}
use Rattle.packed.proofs.Found.{place_in, place_of, place_none, place_other, place_last, wide_more}
use Rattle.packed.proofs.PackedUnder.{bits_fill}
use Rattle.packed.proofs.Ready.{Last, last}
use Rattle.packed.proofs.Standing.{index_at}
use Rattle.packed.proofs.Steps.{State, leads_fit, standard_fit, square_step, own_open, byte_bordered, byte_new, pivot_room, found_standing, standard_step, lead_step}
use Rattle.packed.proofs.Visiting.{Ordered}

module _ (q m : ℕ) (order : Order) (most : m ≤ 8) (bytes multiples : List ℕ) (Q : Sequence order bytes multiples)
    (squares before : List ℕ) (R : Squares order m bytes squares before) (L : Laws (space_of q m order)) (B : Boolean (space_of q m order))
    (S : List (Point (suc q) m)) (d : Distinct (space_of q m order) S) (few : length S ≤ 64) where
  abbrev pub D : Space
  D = space_of q m order

  abbrev pub mono : ℕ → Monomial m
  mono w = (bits_of m w, length_bits m w)

  abbrev pub Valid : ℕ → Type 0
  Valid i = get_or bytes i 0 < 2 ^ m

  abbrev pub at : ℕ → Monomial m
  at i = mono (get_or bytes i 0)

  -- the variable of a square
  abbrev pub sq : ℕ → ℕ
  sq j = get_or squares j 0

  pub O : Ordered D Valid at sq
  O = ordered q m order most bytes multiples Q squares before R

  -- what is found, as it lies in the tables
  pub record Tabled (f : PackedFound D) (found r : ℕ) (standard leads coefficients : List ℕ) : Type 0 where
    pub found_is : found ≡ length f.standard
    pub r_is : r ≡ length f.leads
    pub rows_many : length f.rows ≡ length f.leads
    pub standard_table_lem : standard ≡ fill 512 (in_places 8 (map (λ a. a.0) f.standard))
    pub leads_table_lem : leads ≡ fill 3592 (in_places 8 (map (λ a. a.0) f.leads))
    pub coefficients_table_lem : coefficients ≡ fill 28736 (in_places 64 (map (bits_of 64) f.rows))

  -- the columns of the standard monomials by their bytes, and the variables' places among them
  pub record Known (standard : List (Monomial m)) (values places : List ℕ) : Type 0 where
    pub values_long : length values ≡ 256
    pub places_long : length places ≡ 8
    pub values_at : (w : ℕ) → w < 2 ^ m → Among (mono w) standard → get_or values w 0 ≡ column_of (D.val (mono w)) S
    pub places_at : (k : ℕ) → k < m → get_or places k 0 ≡ place_in D (variable D k) standard

  pub record Walked (known : List ℕ) (left found r pivots : ℕ) (values places rows columns polynomials standard leads coefficients : List ℕ) : Type 0 where
    pub f : PackedFound D
    pub o : Last D
    pub state : State D L B S d few Valid at sq O f o known left
    pub tabled : Tabled f found r standard leads coefficients
    pub kept : Kept found pivots rows columns polynomials f.pivots
    pub pivots_long : PivotsLong rows columns polynomials
    pub memory : Known f.standard values places

  -- the tables with one lead more, whose exponents are filled up to eight
  lead_tabled : (f : PackedFound D) (found r : ℕ) (standard leads coefficients eight : List ℕ) (a : Monomial m) (w : ℕ) → Tabled f found r standard leads coefficients → r < 449
      → length eight ≡ 8 → fill 8 a.0 ≡ eight → (leads' coefficients' : List ℕ) → leads' ≡ with_place 8 r eight leads → coefficients' ≡ with_place 64 r (bits_of 64 w) coefficients
      → Tabled (packed_found D f.standard (f.leads ++ (a ∷ [])) (f.rows ++ (w ∷ [])) f.pivots) found (r + 1) standard leads' coefficients'
  lead_tabled f found r standard leads coefficients eight a w T h l e leads' coefficients' u v = record {
    found_is = T.found_is;
    r_is = ap (λ (x : ℕ). x + 1) T.r_is ∙ sym (length-append f.leads (a ∷ []));
    rows_many = length-append f.rows (w ∷ []) ∙ ap (λ (x : ℕ). x + 1) T.rows_many ∙ sym (length-append f.leads (a ∷ []));
    standard_table_lem = T.standard_table_lem;
    leads_table_lem = u ∙ wide_more 3592 r (map (λ a. a.0) f.leads) a.0 eight leads T.leads_table_lem (T.r_is ∙ sym (length-map f.leads (λ a. a.0))) (omega arith) l e
        ∙ ap (λ (x : List (List ℕ)). fill 3592 (in_places 8 x)) (sym (map_snoc (λ (a : Monomial m). a.0) f.leads a));
    coefficients_table_lem = v ∙ table_more 64 28736 r (map (bits_of 64) f.rows) (bits_of 64 w) coefficients T.coefficients_table_lem
        (T.r_is ∙ sym T.rows_many ∙ sym (length-map f.rows (bits_of 64))) (omega arith) (omega (arith, bits_length 64 w))
        ∙ ap (λ (x : List (List ℕ)). fill 28736 (in_places 64 x)) (sym (map_snoc (bits_of 64) f.rows w));
  }

  module _ (known : List ℕ) (left found r pivots : ℕ) (values places rows columns polynomials standard leads coefficients : List ℕ)
      (W : Walked known left found r pivots values places rows columns polynomials standard leads coefficients) (i : ℕ) (F : FirstOpen known i) where
    abbrev f : PackedFound D
    f = W.f

    -- The last of the squares that are left.
    module _ (k : ℕ) (e : left ≡ suc k) (first : i < 256 → Less D (square D (sq k)) (at i)) where
      in_m : sq k < m
      in_m = R.variable k (let h = W.state.squares.few in omega arith)

      place_is : get_or places (sq k) 0 ≡ place_in D (variable D (sq k)) f.standard
      place_is = W.memory.places_at (sq k) in_m

      turned : State D L B S d few Valid at sq O (square_words D (sq k) f) (last (square D (sq k))) known k
      turned = square_step D L B S d few Valid at sq O f W.o known left W.state i F k e first

      pub square_passed : get_or places (sq k) 0 ≡ 0 → Walked known k found r pivots values places rows columns polynomials standard leads coefficients
      unfolding square_words
      square_passed z = record {
        f = f;
        o = last (square D (sq k));
        state = subst (λ (g : PackedFound D). State D L B S d few Valid at sq O g (last (square D (sq k))) known k) same turned;
        tabled = W.tabled;
        kept = W.kept;
        pivots_long = W.pivots_long;
        memory = W.memory;
      }
        where
          out : ¬ Among (variable D (sq k)) f.standard
          out mem = let t : ◌≡◌ {A = ℕ} 0 (suc (index_in D (variable D (sq k)) f.standard)) = sym z ∙ place_is ∙ place_of D L (variable D (sq k)) f.standard mem in omega arith

          same : square_words D (sq k) f ≡ f
          same = cond_not (is_in_told D L (variable D (sq k)) f.standard) out _ f

      in_standard : get_or places (sq k) 0 ≢ 0 → Among (variable D (sq k)) f.standard
      in_standard n = go (is_in_told D L (variable D (sq k)) f.standard)
        where
          go : {t : Bool} → Decides (Among (variable D (sq k)) f.standard) t → Among (variable D (sq k)) f.standard
          go (so mem) = mem
          go (not_so out) = absurd (n (place_is ∙ place_none D L (variable D (sq k)) f.standard out))

      abbrev kept_square : PackedFound D
      kept_square = packed_found D f.standard (f.leads ++ (square D (sq k) ∷ [])) (f.rows ++ (2 ^ index_in D (variable D (sq k)) f.standard ∷ [])) f.pivots

      square_is : get_or places (sq k) 0 ≢ 0 → square_words D (sq k) f ≡ kept_square
      unfolding square_words
      square_is n = cond_so (is_in_told D L (variable D (sq k)) f.standard) (in_standard n) kept_square f

      pub square_room : get_or places (sq k) 0 ≢ 0 → (r < 449) × (get_or places (sq k) 0 ≤ 64)
      square_room n =
          let W' = subst (λ (g : PackedFound D). State D L B S d few Valid at sq O g (last (square D (sq k))) known k) (square_is n) turned in
          let h = leads_fit D L B S d few Valid at sq O kept_square (square D (sq k)) W'.ready most in
          let l = length-append f.leads (square D (sq k) ∷ []) in
          let s = standard_fit D L B S d few Valid at sq O kept_square (square D (sq k)) W'.ready in
          (omega (arith, h, l, W.tabled.r_is), bound (place_is ∙ place_of D L (variable D (sq k)) f.standard (in_standard n)) (index_at D S L (variable D (sq k)) (variable D (sq k)) f.standard (in_standard n)).0 s)
        where
          bound : {p x y : ℕ} → p ≡ suc x → x < y → y ≤ 64 → p ≤ 64
          bound a b c = omega arith

      pub square_kept : get_or places (sq k) 0 ≢ 0 → (leads' coefficients' : List ℕ) → leads' ≡ with_place 8 r (square_in 8 (sq k)) leads
          → coefficients' ≡ with_place 64 r (bits_of 64 (2 ^ (get_or places (sq k) 0 - 1))) coefficients
          → Walked known k found (r + 1) pivots values places rows columns polynomials standard leads' coefficients'
      square_kept n leads' coefficients' u v = record {
        f = kept_square;
        o = last (square D (sq k));
        state = subst (λ (g : PackedFound D). State D L B S d few Valid at sq O g (last (square D (sq k))) known k) (square_is n) turned;
        tabled = lead_tabled f found r standard leads coefficients (square_in 8 (sq k)) (square D (sq k)) (2 ^ index_in D (variable D (sq k)) f.standard) W.tabled (square_room n).0
            (long_square 8 (sq k)) (square_fill m (sq k) most in_m) leads' coefficients' u
            (v ∙ ap (λ (x : ℕ). with_place 64 r (bits_of 64 (2 ^ (x - 1))) coefficients) (place_is ∙ place_of D L (variable D (sq k)) f.standard (in_standard n))
            ∙ ap (λ (x : ℕ). with_place 64 r (bits_of 64 (2 ^ x)) coefficients) (less_one (index_in D (variable D (sq k)) f.standard)));
        kept = W.kept;
        pivots_long = W.pivots_long;
        memory = W.memory;
      }
        where
          less_one : (n : ℕ) → suc n - 1 ≡ n
          less_one n = omega arith

    -- The monomial of the first open place.
    module _ (inside : i < 256) (after : (k : ℕ) → suc k ≡ left → ¬ Less D (square D (sq k)) (at i)) where
      abbrev byte : ℕ
      byte = get_or bytes i 0

      valid : byte < 2 ^ m
      valid = (own_open D L B S d few Valid at sq O f W.o known left W.state i F inside after).0

      -- its column
      pub own_is : (ones own : ℕ) (variables : List ℕ) → ones ≡ 2 ^ length S - 1 → ((k : ℕ) → k < m → get_or variables k 0 ≡ column_of (D.coord k) S)
          → OwnColumn byte ones variables values own → own ≡ column_of (D.val (at i)) S
      own_is ones own variables e vs C = go (ℕ_discrete byte 0)
        where
          go : Dec (byte ≡ 0) → own ≡ column_of (D.val (at i)) S
          go (yes z) = C.of_one z ∙ e ∙ sym (one_own q m order most L S) ∙ ap (λ (w : ℕ). column_of (D.val (mono w)) S) (sym z)
          go (no n) =
              let t = byte_rest q m order most byte (Q.small i inside) valid n in
              let w : ℕ = bit_and byte (byte - 1) in
              let mem = byte_bordered D L B S d few Valid at sq O f W.o known left W.state i F inside after (count_trailing_zeros 8 byte) (mono w) t.0 t.1 in
              C.of_more n ∙ ap₂ bit_and (vs (count_trailing_zeros 8 byte) t.0) (W.memory.values_at w (lt_of_le_of_lt (and_le_l byte (byte - 1)) valid) mem)
              ∙ sym (byte_own q m order most L S (count_trailing_zeros 8 byte) (mono w) t.0) ∙ ap (λ (a : Monomial m). column_of (D.val a) S) (sym t.1)

      module _ (own : ℕ) (column : own ≡ column_of (D.val (at i)) S) where
        pub kept_some : SomeKept own found pivots rows columns polynomials
        kept_some = (f.pivots, W.kept, λ n. subst (λ (x : ℕ). x < 64) (sym W.tabled.found_is) (pivot_room D L B S d few Valid at sq O f W.o known left W.state i F inside after own column n))

        module _ (row : Option ℕ) (g pivots' : ℕ) (rows' columns' polynomials' : List ℕ)
            (E : ExaminedAs own found row pivots pivots' rows columns polynomials rows' columns' polynomials') (long : PivotsLong rows' columns' polynomials') where
          -- a lead
          module _ (z : row ≡ Some g) where
            found_as : (examined_words D S (at i) f ≡ packed_found D f.standard (f.leads ++ (at i ∷ [])) (f.rows ++ (g ∷ [])) f.pivots) × Kept found pivots' rows' columns' polynomials' f.pivots
            found_as = found_lead D S (at i) f own found row g pivots pivots' rows columns polynomials rows' columns' polynomials' W.tabled.found_is W.kept column E z

            abbrev kept_lead : PackedFound D
            kept_lead = packed_found D f.standard (f.leads ++ (at i ∷ [])) (f.rows ++ (g ∷ [])) f.pivots

            pub lead_room : r < 449
            lead_room =
                let h = leads_fit D L B S d few Valid at sq O kept_lead (at i) (found_standing D L B S d few Valid at sq O f W.o known left W.state i F inside after kept_lead found_as.0) most in
                let l = length-append f.leads (at i ∷ []) in
                omega (arith, h, l, W.tabled.r_is)

            pub lead_kept : (known' leads' coefficients' : List ℕ) → Passed (OfMultiple byte multiples) known known' → leads' ≡ with_place 8 r (bits_of 8 byte) leads
                → coefficients' ≡ with_place 64 r (bits_of 64 g) coefficients → Walked known' left found (r + 1) pivots' values places rows' columns' polynomials' standard leads' coefficients'
            lead_kept known' leads' coefficients' T u v = record {
              f = kept_lead;
              o = last (at i);
              state = lead_step D L B S d few Valid at sq O f W.o known left W.state i F inside after kept_lead found_as.0 (OfMultiple byte multiples) known' refl T
                  (λ k h b. Q.variables k i h inside ∙ b) divides (λ j h z k u b. Q.variables k j u h ∙ divides_bytes q m order most byte (get_or bytes j 0) valid z k u b);
              tabled = lead_tabled f found r standard leads coefficients (bits_of 8 byte) (at i) g W.tabled lead_room (bits_length 8 byte) (bits_fill m 8 byte most valid) leads' coefficients' u v;
              kept = found_as.1;
              pivots_long = long;
              memory = W.memory;
            }
              where
                divides : (j : ℕ) → j < 256 → OfMultiple byte multiples j → Divides D (at i) (at j)
                divides j h all = byte_divides q m order most byte (get_or bytes j 0) (λ k u b. sym (Q.variables k j u h) ∙ all k u b)

          -- a standard monomial
          module _ (z : row ≡ None) where
            found_new : (examined_words D S (at i) f ≡ packed_found D (f.standard ++ (at i ∷ [])) f.leads f.rows (with_pivot (pivot_from found (rest_of own f.pivots)) f.pivots))
                × Kept (suc found) pivots' rows' columns' polynomials' (with_pivot (pivot_from found (rest_of own f.pivots)) f.pivots)
            found_new = found_standard D S (at i) f own found row g pivots pivots' rows columns polynomials rows' columns' polynomials' W.tabled.found_is W.kept column E z

            abbrev kept_new : PackedFound D
            kept_new = packed_found D (f.standard ++ (at i ∷ [])) f.leads f.rows (with_pivot (pivot_from found (rest_of own f.pivots)) f.pivots)

            pub standard_room : found < 64
            standard_room =
                let h = standard_fit D L B S d few Valid at sq O kept_new (at i) (found_standing D L B S d few Valid at sq O f W.o known left W.state i F inside after kept_new found_new.0) in
                let l = length-append f.standard (at i ∷ []) in
                omega (arith, h, l, W.tabled.found_is)

            -- another byte is another monomial
            byte_of_lem : (v : ℕ) → v < 2 ^ m → mono v ≡ at i → v ≡ byte
            byte_of_lem v h e = sym (word_bits m v h) ∙ ap (λ (a : Monomial m). word_of a.0) e ∙ word_bits m byte valid

            in_256 : byte < 256
            in_256 = Q.small i inside

            new_memory : Known (f.standard ++ (at i ∷ [])) (set values byte own) (noted byte (suc found) places)
            new_memory = record {
              values_long = length-set values byte own ∙ W.memory.values_long;
              places_long = noted_length byte (suc found) places ∙ W.memory.places_long;
              values_at = λ v h mem. value v h mem (ℕ_discrete v byte);
              places_at = λ k h. place k h (ℕ_discrete (2 ^ k) byte);
            }
              where
                value : (v : ℕ) → v < 2 ^ m → Among (mono v) (f.standard ++ (at i ∷ [])) → Dec (v ≡ byte) → get_or (set values byte own) v 0 ≡ column_of (D.val (mono v)) S
                value v h mem (yes e) = ap (λ (x : ℕ). get_or (set values byte own) x 0) e ∙ get_or-set_same values byte own 0 (omega (arith, in_256, W.memory.values_long)) ∙ column
                    ∙ ap (λ (x : ℕ). column_of (D.val (mono x)) S) (sym e)
                value v h mem (no n) = get_or-set_other values byte v own 0 n ∙ W.memory.values_at v h (elim (snoc_of f.standard (at i) (mono v) mem) [ inl u ↦ u | inr e ↦ absurd (n (byte_of_lem v h e)) ])

                place : (k : ℕ) → k < m → Dec (2 ^ k ≡ byte) → get_or (noted byte (suc found) places) k 0 ≡ place_in D (variable D k) (f.standard ++ (at i ∷ []))
                place k h (yes e) =
                    let same : variable D k ≡ at i = variable_byte q m order most k h ∙ ap mono e in
                    noted_same k byte (suc found) places (omega (arith, most)) W.memory.places_long (sym e) ∙ ap suc W.tabled.found_is
                    ∙ sym (place_last D L (at i) f.standard (byte_new D L B S d few Valid at sq O f W.o known left W.state i F inside after))
                    ∙ ap (λ (a : Monomial m). place_in D a (f.standard ++ (at i ∷ []))) (sym same)
                place k h (no n) = noted_other k byte (suc found) places in_256 (λ e. n (sym e)) ∙ W.memory.places_at k h
                    ∙ sym (place_other D L (variable D k) (at i) f.standard (λ e. n (byte_of_lem (2 ^ k) (pow-lt h) (sym (variable_byte q m order most k h) ∙ e))))

            pub standard_kept : (known' standard' values' places' : List ℕ) → Passed (λ j. j ≡ i) known known' → standard' ≡ with_place 8 found (bits_of 8 byte) standard
                → values' ≡ set values byte own → places' ≡ noted byte (suc found) places
                → Walked known' left (found + 1) r pivots' values' places' rows' columns' polynomials' standard' leads coefficients
            standard_kept known' standard' values' places' T u v w = record {
              f = kept_new;
              o = last (at i);
              state = standard_step D L B S d few Valid at sq O f W.o known left W.state i F inside after kept_new found_new.0 known' refl T;
              tabled = record {
                found_is = ap (λ (x : ℕ). x + 1) W.tabled.found_is ∙ sym (length-append f.standard (at i ∷ []));
                r_is = W.tabled.r_is;
                rows_many = W.tabled.rows_many;
                standard_table_lem = u ∙ wide_more 512 found (map (λ a. a.0) f.standard) (at i).0 (bits_of 8 byte) standard W.tabled.standard_table_lem
                    (W.tabled.found_is ∙ sym (length-map f.standard (λ a. a.0))) (omega (arith, standard_room)) (bits_length 8 byte) (bits_fill m 8 byte most valid)
                    ∙ ap (λ (x : List (List ℕ)). fill 512 (in_places 8 x)) (sym (map_snoc (λ (a : Monomial m). a.0) f.standard (at i)));
                leads_table_lem = W.tabled.leads_table_lem;
                coefficients_table_lem = W.tabled.coefficients_table_lem;
              };
              kept = subst (λ (k : ℕ). Kept k pivots' rows' columns' polynomials' kept_new.pivots) (sym (add-one found)) found_new.1;
              pivots_long = long;
              memory = subst (λ (l : List ℕ). Known (f.standard ++ (at i ∷ [])) l places') (sym v) (subst (λ (l : List ℕ). Known (f.standard ++ (at i ∷ [])) (set values byte own) l) (sym w) new_memory);
            }
