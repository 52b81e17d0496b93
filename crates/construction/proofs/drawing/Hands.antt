-- The monomial in hand at the start of drawing up, which is 1, and after each turn, which is what the search for the next product finds.
use mathlib.Core.Path.{◌≡◌, refl, sym, ap, ◌∙◌}
use mathlib.Core.List.{List, [], ◌∷◌, map}
use Prim.Native.Nat.{ℕ, zero, suc, ◌+◌, ◌*◌, ◌%◌, ◌<◌, ◌≤◌}
use native.Mathlib.Nat.{not-suc-le-zero, mul_comm}
use native.Mathlib.Omega.{arith}
use lib.ListN.{length, get_or, take, drop, replicate, length-map, length-replicate, get_or-replicate, get_or-map}
use lib.Seq.{get_or-take, get_or-drop}
use Rattle.residue.specs.Congruence.{Mod}
use Rattle.residue.specs.Layout.{fill}
use Rattle.residue.proofs.Congruence.{of, reduce, ◌then◌, ◌times◌}
use Rattle.residue.proofs.level.Moduli.{modulus_range}
use Rattle.residue.proofs.vector.Vectors.{below_take, below_drop, below_zeros}
use Rattle.residue.proofs.Layouts.{fill_at, fill_zeros}
use Rattle.residue.proofs.Places.{place_at, no_places}
use Rattle.residue.proofs.Replaced.{part_long}
use Rattle.elimination.proofs.reducing.NextPivot.{no_rows}
use Rattle.monomial.specs.Monomial.{times_variable}
use Rattle.monomial.specs.Order.{Order, lex, grlex, grevlex, weighted}
use Rattle.monomial.specs.Rank.{key, rank_of, steps_of}
use Rattle.monomial.specs.Columns.{column_of}
use Rattle.monomial.proofs.Orders.Weights.{weigh_one}
use Rattle.monomial.proofs.rank.Steps.{steps_at}
use Rattle.monomial.proofs.columns.Entries.{column_long, column_at}
use Rattle.monomial.proofs.Padding.{fill_times_variable}
use Rattle.specification.specs.Space.{Space}
use Rattle.specification.specs.Instance.{Monomial, Point, space_of, point_of}
use Rattle.specification.specs.Cancellations.{value_column}
use Rattle.specification.proofs.Instance.{laws, standard_exponent}
use Rattle.specification.proofs.cancellations.Turns.{own_column_lem}
use Rattle.specification.proofs.ideal.Laws.{Laws}
use Rattle.specification.proofs.ideal.Lists.{get_d_among}
use Rattle.construction.specs.Drawing.{product_values}
use Rattle.construction.proofs.drawing.ProductValues.{product_long, product_below, product_at_lem}
use Rattle.specification.proofs.drawing.UpTo.{bordered_start, front_start, start_standard, start_lead, front_next, take_standard, take_lead}
use Rattle.construction.proofs.drawing.Positions.{product_at, positions_start}
use Rattle.construction.proofs.drawing.Candidates.{Found}
use Rattle.construction.proofs.drawing.TablesHold.{Ground, TablesHold, InHand, point_at}

-- the exponents of 1
one_filled : (k m : ℕ) → fill k (replicate m 0) ≡ replicate k 0
unfolding fill
one_filled zero m = refl
one_filled (suc k) zero = ap (λ (z : List ℕ). 0 ∷ z) (fill_zeros k)
one_filled (suc k) (suc m) = ap (λ (z : List ℕ). 0 ∷ z) (one_filled k m)

-- and its rank
rank_one : (order : Order) → 0 ≡ rank_of order (replicate 8 0)
unfolding rank_of key
rank_one lex = refl
rank_one grlex = refl
rank_one grevlex = refl
rank_one (weighted w) = rw (weigh_one w 8)

module _ {q m n : ℕ} {order : Order} {S : List (Point (suc q) m)} {p : ℕ} (G : Ground q m n order S p) where
  abbrev D : Space
  D = space_of q m order

  L : Laws D
  L = laws q m order G.prime

  pub start_held : {standard leads coefficients rows pivots : List ℕ} → standard ≡ replicate 512 0 → leads ≡ replicate 3592 0 → coefficients ≡ replicate 28736 0 → length rows ≡ 73728
      → length pivots ≡ 64 → TablesHold q m n order S [] [] [] standard leads coefficients rows pivots (replicate 4096 0) (replicate 64 0) (steps_of order)
  start_held {rows = rows} {pivots = pivots} s l c r e = record {
    standard_table_lem = s ∙ no_places 8 512;
    leads_table_lem = l ∙ no_places 8 3592;
    coefficients_table_lem = c ∙ no_places 64 28736;
    rows_are = tt;
    pivot_rows = no_rows q n _ rows pivots G.most r e;
    values_long = length-replicate {A = ℕ} 4096 0;
    values_below = below_zeros (suc q) 4096 (omega arith);
    values_at = λ t i h. absurd (not-suc-le-zero h);
    ranks_long = length-replicate {A = ℕ} 64 0;
    ranks_below = below_zeros _ 64 (omega arith);
    ranked = record { ranked = λ t h. absurd (not-suc-le-zero h); step = λ k h. steps_at order k (omega (arith, G.few)) };
  }

  pub start_hand : InHand q m n order S [] [] D.one (replicate 8 0) (replicate 8 0) 0 (replicate 64 1)
  start_hand = record {
    front = front_start D L S G.distinct;
    bordered = bordered_start D L S G.distinct;
    as_lead = start_lead D L S G.distinct;
    as_standard = start_standard D L S G.distinct;
    long = length-replicate {A = ℕ} 8 0;
    positions = positions_start D L (λ v. get_or (replicate 8 0) v 0) (λ v h. get_or-replicate {A = ℕ} 8 v 0 0 (omega (arith, G.few)));
    exponents_are = sym (one_filled 8 m);
    rank_is = rank_one order ∙ ap (rank_of order) (sym (one_filled 8 m));
    own_long = length-replicate {A = ℕ} 64 1;
    own_below = λ i h. let l : length (replicate {A = ℕ} 64 1) ≡ 64 = length-replicate {A = ℕ} 64 1 in
        let e : get_or (replicate {A = ℕ} 64 1) i 0 ≡ 1 = get_or-replicate {A = ℕ} 64 i 1 0 (omega arith) in
        omega (arith, (modulus_range (suc q) G.prime).0);
    own_at = λ i h. of (get_or-replicate {A = ℕ} 64 i 1 0 (omega (arith, G.most)) ∙ sym (L.val_one (point_at q m n order S i)));
  }

  -- its values at the points are its column
  pub hand_column : {std lds : List (Monomial m)} {b : Monomial m} {at exponents : List ℕ} {rank : ℕ} {own : List ℕ} → InHand q m n order S std lds b at exponents rank own
      → take n own ≡ value_column D S b
  hand_column {b = b} {own = own} B =
      own_column_lem D S (point_of q m []) n G.count b own (omega (arith, B.own_long, G.most)) B.own_below B.own_at

  module _ {std lds : List (Monomial m)} {css : List (List ℕ)} {standard leads coefficients rows pivots values ranks steps : List ℕ}
      (H : TablesHold q m n order S std lds css standard leads coefficients rows pivots values ranks steps) {k t r : ℕ} {at : List ℕ}
      (F : Found q m order S std lds k t r at) where
    abbrev parent : Monomial m
    parent = get_or std t D.one

    abbrev b : Monomial m
    b = product_at D std k t

    exponents_at : take 8 (drop (8 * t) standard) ≡ fill 8 parent.0
    exponents_at =
        ap (λ (z : List ℕ). take 8 (drop (8 * t) z)) H.standard_table_lem
        ∙ place_at 8 512 (map (λ a. a.0) std) t D.one.0 (rw (length-map std (λ a. a.0)) (omega (arith, H.pivot_rows.room, G.most))) (rw (length-map std (λ a. a.0)) F.parent)
        ∙ ap (fill 8) (get_or-map (λ (a : Monomial m). a.0) std t D.one)

    -- what the code asks
    pub few_found : (k < 8) × (t < 64)
    few_found = (omega (arith, F.variable, G.few), omega (arith, F.parent, H.pivot_rows.room, G.most))

    pub exponent_small : get_or standard (8 * t + k) 0 < 255
    exponent_small =
        omega (
          arith,
          sym (get_or-drop (8 * t) standard k 0) ∙ sym (get_or-take 8 (drop (8 * t) standard) k 0 few_found.0) ∙ ap (λ (z : List ℕ). get_or z k 0) exponents_at ∙ fill_at 8 parent.0 k few_found.0,
          standard_exponent q m order G.prime S G.distinct parent (F.drawn.standard_to.of_all parent (get_d_among std t D.one F.parent)) k,
          G.count,
          G.most,
        )

    module _ (points : List ℕ) (coordinate : (i : ℕ) → i < n → Mod (suc q) (get_or points (8 * i + k) 0) (D.coord k (point_at q m n order S i))) where
      abbrev row : List ℕ
      row = take 64 (drop (64 * t) values)

      row_long : length row ≡ 64
      row_long = part_long (64 * t) 64 64 values refl (omega (arith, few_found.1, H.values_long))

      row_at_lem : (i : ℕ) → i < n → get_or row i 0 ≡ get_or values (64 * t + i) 0
      row_at_lem i h = get_or-take 64 (drop (64 * t) values) i 0 (omega (arith, G.most)) ∙ get_or-drop (64 * t) values i 0

      wide : n ≤ length row
      wide = omega (arith, row_long, G.most)

      value_at_lem : (i : ℕ) → i < n → Mod (suc q) (get_or (product_values (suc q) n (column_of k n points) row) i 0) (D.val b (point_at q m n order S i))
      value_at_lem i h =
          of (product_at_lem (suc q) n (column_of k n points) row (column_long k n points) wide i h ∙ ap (λ (x : ℕ). (get_or row i 0 * x) % suc q) (column_at k n points i h few_found.0))
          then reduce (suc q) (get_or row i 0 * get_or points (8 * i + k) 0)
          then ((of (row_at_lem i h) then H.values_at t i F.parent h) times coordinate i h)
          then of (mul_comm _ _ ∙ sym (L.val_x k parent (point_at q m n order S i) F.variable))

      pub next_hand : {exponents own : List ℕ} → exponents ≡ times_variable k (take 8 (drop (8 * t) standard)) → own ≡ product_values p n (column_of k n points) row
          → InHand q m n order S std lds b at exponents r own
      next_hand {own = own} x o = record {
        front = front_next D L S G.distinct std lds F.last F.drawn b F.next;
        bordered = F.bordered;
        as_lead = take_lead D L S G.distinct std lds F.last F.drawn b F.next;
        as_standard = take_standard D L S G.distinct std lds F.last F.drawn b F.next;
        long = F.long;
        positions = F.positions;
        exponents_are = x ∙ ap (times_variable k) exponents_at ∙ sym (fill_times_variable parent.0 (rw parent.1 G.few) k (rw parent.1 F.variable));
        rank_is = F.ranked;
        own_long = ap length e ∙ product_long (suc q) n (column_of k n points) row (column_long k n points) wide ∙ row_long;
        own_below = rw e (product_below (suc q) n (column_of k n points) row (column_long k n points) wide (omega arith) (below_take (suc q) 64 (drop (64 * t) values) (below_drop (suc q) (64 * t) values H.values_below)));
        own_at = λ i h. rw e (value_at_lem i h);
      }
        where
          e : own ≡ product_values (suc q) n (column_of k n points) row
          e = o ∙ ap (λ (z : ℕ). product_values z n (column_of k n points) row) G.modulus
