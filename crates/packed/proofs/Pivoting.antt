-- What is left of a column that is not 0 becomes a pivot at its lowest bit that is set, the others are cleared there, and all are fully reduced again.
use mathlib.Core.Path.{◌≡◌, refl, sym, ap, ap₂, ◌∙◌, subst}
use mathlib.Core.List.{List, [], ◌∷◌, ◌++◌, map}
use mathlib.Core.Logic.{inl, inr, ◌≢◌}
use Prim.Native.Nat.{ℕ, suc, ◌+◌, ◌*◌, ◌^◌, ◌<◌, ◌≤◌}
use native.Mathlib.Nat.{lt_trans}
use native.Mathlib.Omega.{arith}
use lib.ListN.{length, length-append}
use lib.Pow.{pow-lt}
use lib.Bits.{xor_lt}
use lib.Count.{count_trailing_zeros}
use Rattle.residue.specs.Congruence.{Mod}
use Rattle.residue.specs.Lists.{Among, sum_over}
use Rattle.residue.proofs.Congruence.{rfl, of, flip, scale, lin, ◌then◌, ◌plus◌, ◌times◌}
use Rattle.residue.proofs.Sums.{sum_cong, sum_lin, sum_append}
use Rattle.specification.specs.Space.{Space}
use Rattle.specification.proofs.ideal.Lists.{snoc_of, among_map}
use Rattle.residue.specs.Words.{bit_of}
use Rattle.words.specs.Packed.{Words, words, PivotWords, rest_of, clear, pivot_from, with_pivot, polynomial_at}
use Rattle.words.proofs.ColumnLaws.{column_cong, Place, lowest}
use Rattle.packed.proofs.PolynomialLaws.{poly_xor, poly_longer, poly_new}
use Rattle.packed.proofs.Losing.{spread, Columned, Shows, lose_shows, lose_polynomial}
use Rattle.packed.proofs.Reduction.{own, Reduced, rest_small, rest_polynomial, rest_column}

sum_map : {A B : Type 0} (f : B → ℕ) (g : A → B) (l : List A) → sum_over f (map g l) ≡ sum_over (λ a. f (g a)) l
sum_map f g [] = refl
sum_map f g (a ∷ l) = ap (λ (z : ℕ). f (g a) + z) (sum_map f g l)

module _ (D : Space) (S : List D.Pt) (few : length S ≤ 64) (l : List D.Mono) (pivots : List PivotWords) (R : Reduced D S l pivots) (b : D.Mono)
    (n : (rest_of (own D S b) pivots).column ≢ 0) where
  open D use {Mono, Pt, val}

  abbrev rest : Words
  rest = rest_of (own D S b) pivots

  abbrev k : ℕ
  k = length l

  abbrev more : List Mono
  more = l ++ (b ∷ [])

  abbrev pub new : PivotWords
  new = pivot_from k rest

  more_long : length more ≡ suc k
  more_long = omega (arith, length-append l (b ∷ []))

  wider : (f : ℕ) → f < 2 ^ k → f < 2 ^ length more
  wider f h = rw more_long (lt_trans h (pow-lt (omega arith)))

  -- the function of the new pivot
  abbrev φ : Pt → ℕ
  φ P = val b P + polynomial_at D l rest.polynomial P

  new_polynomial : (P : Pt) → Mod 2 (polynomial_at D more new.polynomial P) (φ P)
  unfolding pivot_from
  new_polynomial P = poly_xor D more rest.polynomial (2 ^ k) P
      then of (ap₂ (λ (x y : ℕ). x + y) (poly_longer D l b rest.polynomial P (rest_small D S l pivots R b)) (poly_new D l b P)) then of (omega arith)

  pub new_columned : Columned D S more new
  unfolding pivot_from
  new_columned = record {
    column = rest_column D S l pivots R b ∙ sym (column_cong (polynomial_at D more new.polynomial) φ S (λ P mem. new_polynomial P));
    small = xor_lt (length more) rest.polynomial (2 ^ k) (wider rest.polynomial (rest_small D S l pivots R b)) (rw more_long (pow-lt (omega arith)));
  }

  first : (P : Pt) × Place S new.place P × Mod 2 (φ P) 1
  unfolding pivot_from
  first = let t = lowest φ S 64 few (λ z. n (rest_column D S l pivots R b ∙ z)) in
      (t.0, subst (λ (w : ℕ). Place S (count_trailing_zeros 64 w) t.0) (sym (rest_column D S l pivots R b)) t.1, t.2)

  module _ (v : PivotWords) (mem : Among v pivots) where
    shows : Shows D S more v.column (polynomial_at D l v.polynomial) (words v.column v.polynomial)
    shows = record { column = (R.columned v mem).column; small = wider v.polynomial (R.columned v mem).small }

    clear_polynomial : (P : Pt)
        → Mod 2 (polynomial_at D more (clear new v).polynomial P) (polynomial_at D l v.polynomial P + bit_of new.place v.column * polynomial_at D more new.polynomial P)
    unfolding clear
    clear_polynomial P = lose_polynomial D S more v.column new new_columned (polynomial_at D l v.polynomial) (words v.column v.polynomial) shows P
        then of (ap (λ (z : ℕ). z + bit_of new.place v.column * polynomial_at D more new.polynomial P) (poly_longer D l b v.polynomial P (R.columned v mem).small))

    pub clear_columned : Columned D S more (clear new v)
    unfolding clear
    clear_columned = let h = lose_shows D S more v.column new new_columned (polynomial_at D l v.polynomial) (words v.column v.polynomial) shows in
        record { column = h.column ∙ sym (column_cong _ _ S (λ P z. clear_polynomial P)); small = h.small }

    pub clear_placed : (P : Pt) × Place S (clear new v).place P
    unfolding clear
    clear_placed = R.placed v mem

    -- its bit at the new place is its value at the new pivot's point
    at_new : Mod 2 (bit_of new.place v.column) (polynomial_at D l v.polynomial first.0)
    at_new = of (ap (bit_of new.place) (R.columned v mem).column) then first.1.reads (polynomial_at D l v.polynomial)

  place_same : (v : PivotWords) → (clear new v).place ≡ v.place
  unfolding clear
  place_same v = refl

  -- a column spread over the new pivots
  total : (t : Mono) (P : Pt)
      → Mod 2 (spread D S more (with_pivot new pivots) (own D S t) P) (spread D S l pivots (own D S t) P + φ P * (spread D S l pivots (own D S t) first.0 + val t first.0))
  unfolding with_pivot
  total t P =
      of (sum_append term (map (clear new) pivots) (new ∷ []) ∙ ap (λ (z : ℕ). z + (term new + 0)) (sum_map term (clear new) pivots))
      then (sum_cong pivots each then of (sum_lin (λ v. bit v * polynomial_at D l v.polynomial P) (λ v. bit v * polynomial_at D l v.polynomial first.0) (φ P) pivots))
      plus (first.1.reads (val t) times new_polynomial P plus rfl {x = 0})
      then of (shape (spread D S l pivots (own D S t) P) (φ P) (spread D S l pivots (own D S t) first.0) (val t first.0))
    where
      term : PivotWords → ℕ
      term v = bit_of v.place (own D S t) * polynomial_at D more v.polynomial P

      bit : PivotWords → ℕ
      bit v = bit_of v.place (own D S t)

      turn : (x y z w : ℕ) → x * (y + z * w) ≡ x * y + w * (x * z)
      turn x y z w = omega arith

      each : (v : PivotWords) → Among v pivots → Mod 2 (term (clear new v)) (bit v * polynomial_at D l v.polynomial P + φ P * (bit v * polynomial_at D l v.polynomial first.0))
      each v mem = of (ap (λ (i : ℕ). bit_of i (own D S t) * polynomial_at D more (clear new v).polynomial P) (place_same v))
          then scale (bit v) (clear_polynomial v mem P then rfl {x = polynomial_at D l v.polynomial P} plus (at_new v mem times new_polynomial P))
          then of (turn (bit v) (polynomial_at D l v.polynomial P) (polynomial_at D l v.polynomial first.0) (φ P))

      shape : (x f y z : ℕ) → (x + f * y) + (z * f + 0) ≡ x + f * (y + z)
      shape x f y z = omega arith

  -- what was found before, and the new monomial
  old_dual : (t : Mono) → Among t l → (P : Pt) → Among P S → Mod 2 (val t P) (spread D S more (with_pivot new pivots) (own D S t) P)
  old_dual t mem P z = flip (total t P then flip (R.dual t mem P z) plus scale (φ P) (flip (R.dual t mem first.0 first.1.among) plus rfl {x = val t first.0})
      then lin (rfl {x = 0}) 0 (φ P * val t first.0) (omega arith))

  new_dual : (P : Pt) → Mod 2 (val b P) (spread D S more (with_pivot new pivots) (own D S b) P)
  new_dual P = flip (total b P then gathered P plus (scale (φ P) (gathered first.0 plus rfl {x = val b first.0}) then rfl {x = φ P} times (of (omega arith) then first.2))
      then lin (rfl {x = 0}) 0 (polynomial_at D l rest.polynomial P) (omega arith))
    where
      gathered : (Q : Pt) → Mod 2 (spread D S l pivots (own D S b) Q) (polynomial_at D l rest.polynomial Q)
      gathered Q = flip (rest_polynomial D S l pivots R b Q)

  pub reduced_more : Reduced D S more (with_pivot new pivots)
  unfolding with_pivot
  reduced_more = record {
    placed = λ v mem. elim (snoc_of (map (clear new) pivots) new v mem) [
      | inl z ↦ let t = among_map (clear new) pivots v z in subst (λ (u : PivotWords). (P : Pt) × Place S u.place P) (sym t.2) (clear_placed t.0 t.1)
      | inr e ↦ subst (λ (u : PivotWords). (P : Pt) × Place S u.place P) (sym e) (first.0, first.1)
    ];
    columned = λ v mem. elim (snoc_of (map (clear new) pivots) new v mem) [
      | inl z ↦ let t = among_map (clear new) pivots v z in subst (Columned D S more) (sym t.2) (clear_columned t.0 t.1)
      | inr e ↦ subst (Columned D S more) (sym e) new_columned
    ];
    dual = λ t mem P z. elim (snoc_of l b t mem) [ inl u ↦ old_dual t u P z | inr e ↦ subst (λ (a : Mono). Mod 2 (val a P) (spread D S more (with_pivot new pivots) (own D S a) P)) (sym e) (new_dual P) ];
  }
