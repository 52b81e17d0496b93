-- One turn of drawing up examines one monomial: with the pivots in the table, elimination of its values leaves its column and makes its cancellations; it is a
-- lead or a pivot by the first value that is not 0, and the table with the new pivot row holds the pivots then found.
use mathlib.Core.Path.{◌≡◌, refl, sym, ap, ap₂, ◌∙◌}
use mathlib.Core.List.{List, [], ◌∷◌, ◌++◌, map}
use Prim.Native.Nat.{ℕ, zero, suc, ◌+◌, ◌*◌, ◌%◌, ◌<◌, ◌≤◌, suc-le-suc, zero-le}
use native.Mathlib.Nat.{mod-lt, mod-eq_of_lt}
use native.Mathlib.Omega.{arith}
use native.Mathlib.Decide.{ℕ_discrete}
use lib.ListN.{length, get_or, set, take, drop, length-map, length-append, get_or-append}
use lib.Seq.{get_or-take, get_or_at, get_or-set_same, get_or-set_other, take_all, length-take-le, ext_get_or}
use Rattle.residue.specs.Congruence.{Mod}
use Rattle.residue.specs.Vector.{Below, scaled}
use Rattle.residue.specs.Inverse.{inverse_of}
use Rattle.elimination.specs.Elimination.{eliminated, cancellations, multiples_of}
use Rattle.residue.proofs.vector.Vectors.{map_at}
use Rattle.elimination.proofs.reducing.Eliminated.{eliminated_length, eliminated_below}
use Rattle.specification.specs.Space.{Space}
use Rattle.residue.specs.Layout.{fill, with_place, length_fill}
use Rattle.residue.proofs.Layouts.{fill_at, take_fill}
use Rattle.elimination.specs.Rows.{first_nonzero, pivot_row}
use Rattle.elimination.proofs.rows.Kept.{pivot_row_length, pivot_row_below}
use Rattle.residue.proofs.Replaced.{place_length, place_apart}
use Rattle.elimination.proofs.reducing.Multiples.{block_length, block_row}
use Rattle.specification.specs.Cancellations.{Pivot, meeting, meets_all, Found, found, value_column, pivot_of, settled, examined}
use Rattle.specification.proofs.cancellations.Fronts.{first_same, zero_same, other_same, pivot_front}
use Rattle.specification.proofs.cancellations.Tables.{RowsTabled, elimination_meets}

module _ (D : Space) (S : List D.Pt) (n : ℕ) (count : length S ≡ n) (few : n ≤ 64) (f : Found D) (b : D.Mono) (rows pivots : List ℕ) (T : RowsTabled n f.pivots rows pivots) where
  open D use {q, Mono, Pt, val}

  abbrev k : ℕ
  k = length f.pivots

  -- the working row of the monomial's values, and what elimination leaves of it
  abbrev work : List ℕ
  work = fill 128 (value_column D S b)

  abbrev left : List ℕ
  left = eliminated (suc q) rows pivots k work

  residue_at : (R : List Pt) (i : ℕ) → get_or (value_column D R b) i 0 < suc q
  residue_at [] i = suc-le-suc zero-le
  residue_at (P ∷ R) zero = mod-lt (val b P) (suc-le-suc zero-le)
  residue_at (P ∷ R) (suc i) = residue_at R i

  work_below : Below (suc q) work
  work_below i h = rw (fill_at 128 (value_column D S b) i (omega (arith, length_fill 128 (value_column D S b)))) (residue_at S i)

  column_long : length (value_column D S b) ≡ n
  column_long = length-map S (λ P. val b P % suc q) ∙ count

  left_long : length left ≡ 128
  left_long = eliminated_length (suc q) rows pivots work (length_fill 128 (value_column D S b)) k T.long

  met : meets_all q f.pivots (meeting (value_column D S b) 0) ≡ meeting (take n left) (cancellations (suc q) rows pivots k work)
  met =
      ap₂ (λ (l : List Pivot) (w : List ℕ). meets_all q l (meeting w 0)) (sym (take_all k f.pivots (omega arith))) (sym (take_fill n 128 (value_column D S b) column_long (omega arith)))
      ∙ elimination_meets q n f.pivots rows pivots T work (length_fill 128 (value_column D S b)) work_below (omega arith) k (omega arith)

  -- all 0
  pub lead_turn : first_nonzero n left ≡ n
      → examined D S b f ≡ found D f.standard (f.leads ++ (b ∷ [])) f.pivots (f.cancellations + cancellations (suc q) rows pivots k work)
  unfolding examined settled
  lead_turn e = rw (met, zero_same n left (omega (arith, left_long)) e)

  -- not all 0
  module _ (some : first_nonzero n left < n) where
    pub standard_turn : examined D S b f
        ≡ found D (f.standard ++ (b ∷ [])) f.leads (f.pivots ++ (pivot_of D (take n left) ∷ [])) (f.cancellations + cancellations (suc q) rows pivots k work)
    unfolding examined settled
    standard_turn = rw (met, other_same n left (omega (arith, left_long)) some)

    module _ (inverse : D.inv (get_or left (first_nonzero n left) 0) ≡ inverse_of (suc q) (get_or left (first_nonzero n left) 0)) (fits : 1152 * k + 1152 ≤ length rows) (room : k < length pivots)
        (own : n + k < 128) (range : 2 ≤ suc q) where
      abbrev new : List ℕ
      new = pivot_row (suc q) (n + k) (inverse_of (suc q) (get_or left (first_nonzero n left) 0)) left

      new_long : length new ≡ 128
      new_long = pivot_row_length (suc q) (n + k) _ left (omega (arith, left_long)) ∙ left_long

      new_below : Below (suc q) new
      new_below =
          pivot_row_below (suc q) (n + k) _ left (omega (arith, left_long)) range
          (eliminated_below (suc q) rows pivots work (length_fill 128 (value_column D S b)) (omega arith) work_below k T.long)

      -- the row with its multiples, put into the table: it is there, and those before it are as they were
      abbrev put : List ℕ
      put = with_place 1152 k (multiples_of (suc q) new) rows

      front_here : take 128 (drop (1152 * k) put) ≡ new
      front_here = block_row (suc q) new new_long new_below k rows fits

      front_before : (t : ℕ) → t < k → take 128 (drop (1152 * t) put) ≡ take 128 (drop (1152 * t) rows)
      front_before t h = place_apart 1152 k (multiples_of (suc q) new) rows fits (block_length (suc q) new new_long) (1152 * t) 128 (omega arith)

      new_place : (pivot_of D (take n left)).place ≡ first_nonzero n left
      unfolding pivot_of
      new_place = sym (first_same n left (omega (arith, left_long)))

      new_column : take n new ≡ (pivot_of D (take n left)).column
      unfolding pivot_of scaled
      new_column =
          pivot_front (suc q) n (n + k) _ left (omega arith) (omega (arith, left_long))
          ∙ ap (λ (c : ℕ). map (λ x. (c * x) % suc q) (take n left))
          (sym inverse ∙ ap D.inv (sym (get_or-take n left (first_nonzero n left) 0 some) ∙ ap (λ (i : ℕ). get_or (take n left) i 0) (first_same n left (omega (arith, left_long)))))

      pub table_turn : RowsTabled n (f.pivots ++ (pivot_of D (take n left) ∷ [])) put (set pivots k (first_nonzero n left))
      table_turn = record {
        none = T.none;
        long = omega (arith, length-append f.pivots (v ∷ []), place_length 1152 k (multiples_of (suc q) new) rows fits (block_length (suc q) new new_long));
        column = λ t h. columns t (ℕ_discrete t k) (within t h);
        place = λ t h. places t (ℕ_discrete t k) (within t h);
        inside = λ t h. insides t (ℕ_discrete t k) (within t h);
      }
        where
          v : Pivot
          v = pivot_of D (take n left)

          within : (t : ℕ) → t < length (f.pivots ++ (v ∷ [])) → t < suc k
          within t h = omega (arith, length-append f.pivots (v ∷ []))

          columns : (t : ℕ) → Dec (t ≡ k) → t < suc k → take n (take 128 (drop (1152 * t) put)) ≡ (get_or (f.pivots ++ (v ∷ [])) t T.none).column
          columns t (yes e) h = rw (e, get_or_at f.pivots v [] T.none k refl) (ap (take n) front_here ∙ new_column)
          columns t (no z) h =
              let u : t < k = omega arith in
              ap (take n) (front_before t u) ∙ T.column t u ∙ ap (λ (w : Pivot). w.column) (sym (get_or-append f.pivots (v ∷ []) T.none t u))

          places : (t : ℕ) → Dec (t ≡ k) → t < suc k → get_or (set pivots k (first_nonzero n left)) t 0 ≡ (get_or (f.pivots ++ (v ∷ [])) t T.none).place
          places t (yes e) h = rw (e, get_or_at f.pivots v [] T.none k refl) (get_or-set_same pivots k (first_nonzero n left) 0 room ∙ sym new_place)
          places t (no z) h =
              let u : t < k = omega arith in
              get_or-set_other pivots k t (first_nonzero n left) 0 z ∙ T.place t u ∙ ap (λ (w : Pivot). w.place) (sym (get_or-append f.pivots (v ∷ []) T.none t u))

          insides : (t : ℕ) → Dec (t ≡ k) → t < suc k → get_or (set pivots k (first_nonzero n left)) t 0 < n
          insides t (yes e) h = rw (e, get_or-set_same pivots k (first_nonzero n left) 0 room) some
          insides t (no z) h = rw (get_or-set_other pivots k t (first_nonzero n left) 0 z) (T.inside t (omega arith))

-- at the start the table holds none
pub table_none : (n : ℕ) (rows pivots : List ℕ) → RowsTabled n [] rows pivots
table_none n rows pivots = record {
  none = record { place = 0; column = [] };
  long = omega arith;
  column = λ t h. absurd (omega arith);
  place = λ t h. absurd (omega arith);
  inside = λ t h. absurd (omega arith);
}

-- residues with the monomial's values at the n points are its column; Q stands where there is no point
pub own_column_lem : (D : Space) (S : List D.Pt) (Q : D.Pt) (n : ℕ) → length S ≡ n → (b : D.Mono) (own : List ℕ) → n ≤ length own → Below (suc D.q) own
    → ((i : ℕ) → i < n → Mod (suc D.q) (get_or own i 0) (D.val b (get_or S i Q))) → take n own ≡ value_column D S b
own_column_lem D S Q n count b own long below h =
    ext_get_or 0 (take n own) (value_column D S b) (length-take-le n own long ∙ sym (length-map S (λ P. D.val b P % suc D.q) ∙ count))
    (λ i l.
    let j : i < n = omega (arith, length-take-le n own long) in
    get_or-take n own i 0 j ∙ sym (mod-eq_of_lt (below i (omega arith))) ∙ (h i j).same ∙ sym (map_at (λ P. D.val b P % suc D.q) S Q 0 i (omega arith)))
