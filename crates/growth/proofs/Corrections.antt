-- A row corrected, in the tables' bytes, is the row that the definitions keep.
use mathlib.Core.Path.{◌≡◌, refl, sym, ◌∙◌, ap, ap₂}
use mathlib.Core.List.{List, [], ◌∷◌, map, zip_with}
use mathlib.Core.Logic.{◌≢◌}
use Prim.Native.Nat.{ℕ, zero, suc, ◌+◌, ◌*◌, ◌-◌, ◌%◌, ◌<◌, ◌≤◌}
use native.Mathlib.Nat.{le_of_suc-le-suc, mod-lt, zero-mod}
use native.Mathlib.Omega.{arith}
use lib.ListN.{length, length-map}
use Rattle.residue.specs.Congruence.{Mod}
use Rattle.residue.specs.Lists.{Among, sum_over}
use Rattle.residue.specs.Vector.{add_scaled, dot_of}
use Rattle.residue.specs.Layout.{fill}
use Rattle.residue.proofs.Congruence.{rfl, of, ◌then◌, ◌plus◌, ◌times◌, scale, reduce, negative}
use Rattle.residue.proofs.Layouts.{fill_twice}
use Rattle.monomial.specs.Monomial.{monomial_at}
use Rattle.monomial.specs.Order.{Order}
use Rattle.monomial.specs.Insert.{inserted_at, place_of}
use Rattle.monomial.proofs.Padding.{value_fill}
use Rattle.monomial.proofs.insert.Tables.{place_bound}
use Rattle.specification.specs.Space.{Space}
use Rattle.specification.specs.Polynomial.{terms}
use Rattle.specification.specs.Extension.{minus}
use Rattle.specification.specs.Instance.{Monomial, Point, space_of}
use Rattle.specification.proofs.ideal.Laws.{Laws}
use Rattle.specification.proofs.ideal.Columns.{minus_length}
use Rattle.growth.specs.Growing.{row_value_at, factor_of, corrected_by, corrected_row}
use Rattle.growth.proofs.KeptRows.{row_value, ratio, kept}
use Rattle.growth.proofs.Insertion.{slot_at}

-- put in before it is filled up or after
pub fill_inserted : (k i f : ℕ) (l : List ℕ) → i ≤ length l → fill k (inserted_at i f (fill k l)) ≡ fill k (inserted_at i f l)
unfolding fill inserted_at
fill_inserted zero i f l h = refl
fill_inserted (suc k) zero f l h = ap (λ (z : List ℕ). f ∷ z) (fill_twice k (suc k) l (omega arith))
fill_inserted (suc k) (suc i) f [] h = absurd (omega arith)
fill_inserted (suc k) (suc i) f (a ∷ l) h = ap (λ (z : List ℕ). a ∷ z) (fill_inserted k i f l (le_of_suc-le-suc h))

-- sums of products, and multiples added, of lists filled up
pub dot_fill : (k : ℕ) (a b : List ℕ) → length a ≡ length b → length a ≤ k → dot_of (fill k a) (fill k b) ≡ dot_of a b
unfolding fill dot_of
dot_fill zero [] [] e h = refl
dot_fill zero [] (y ∷ b) e h = absurd (omega arith)
dot_fill zero (x ∷ a) b e h = absurd (omega arith)
dot_fill (suc k) [] [] e h = let z : dot_of (fill k []) (fill k []) ≡ 0 = dot_fill k [] [] refl (omega arith) in omega arith
dot_fill (suc k) [] (y ∷ b) e h = absurd (omega arith)
dot_fill (suc k) (x ∷ a) [] e h = absurd (omega arith)
dot_fill (suc k) (x ∷ a) (y ∷ b) e h = ap (λ (z : ℕ). x * y + z) (dot_fill k a b (omega arith) (le_of_suc-le-suc h))

pub scaled_fill : (p c k : ℕ) (a b : List ℕ) → length a ≡ length b → add_scaled p c (fill k a) (fill k b) ≡ fill k (add_scaled p c a b)
unfolding fill add_scaled zip_with
scaled_fill p c zero a b e = refl
scaled_fill p c (suc k) [] [] e =
    let z : (0 + c * 0) % p ≡ 0 = let y : 0 + c * 0 ≡ 0 = omega arith in ap (λ (n : ℕ). n % p) y ∙ zero-mod p in
    ap₂ (λ (n : ℕ) (l : List ℕ). n ∷ l) z (scaled_fill p c k [] [] refl)
scaled_fill p c (suc k) [] (y ∷ b) e = absurd (omega arith)
scaled_fill p c (suc k) (x ∷ a) [] e = absurd (omega arith)
scaled_fill p c (suc k) (x ∷ a) (y ∷ b) e = ap (λ (l : List ℕ). (x + c * y) % p ∷ l) (scaled_fill p c k a b (omega arith))

module _ (q m : ℕ) (order : Order) (few : m ≤ 8) where
  abbrev D : Space
  D = space_of q m order

  -- the value of a row
  values_sum : (l : List (Monomial m)) (P : Point (suc q) m) (cs : List ℕ)
      → Mod (suc q) (dot_of cs (map (λ b. monomial_at P.0 b.0 % suc q) l)) (sum_over (λ t. t.0 * D.val t.1 P) (terms D cs l))
  unfolding dot_of
  values_sum [] P [] = rfl
  values_sum [] P (c ∷ cs) = rfl
  values_sum (b ∷ l) P [] = rfl
  values_sum (b ∷ l) P (c ∷ cs) = scale c (reduce (suc q) (monomial_at P.0 b.0)) plus values_sum l P cs

  module _ (l : List (Monomial m)) (P : Point (suc q) m) (short : length l ≤ 64) where
    abbrev pub values_at : List ℕ
    values_at = fill 64 (map (λ b. monomial_at P.0 b.0 % suc q) l)

    pub row_value_is : (a : Monomial m) (cs : List ℕ) → row_value_at (suc q) (fill 8 P.0) (map (λ b. monomial_at P.0 b.0 % suc q) l) (fill 8 a.0) cs ≡ row_value D l a cs P % suc q
    unfolding row_value_at
    row_value_is a cs =
        let vs : List ℕ = map (λ b. monomial_at P.0 b.0 % suc q) l in
        let value : monomial_at (fill 8 P.0) (fill 8 a.0) ≡ monomial_at P.0 a.0 = value_fill P.0 a.0 (P.1.0 ∙ sym a.1) (rw P.1.0 few) in
        let both : Mod (suc q) (monomial_at P.0 a.0 + dot_of cs vs) (row_value D l a cs P) = of (omega arith) plus values_sum l P cs in
        ap (λ (u : ℕ). (u + dot_of cs vs) % suc q) value ∙ both.same

    pub row_value_filled : (a : Monomial m) (cs : List ℕ) → length cs ≡ length l → row_value_at (suc q) (fill 8 P.0) values_at (fill 8 a.0) (fill 64 cs) ≡ row_value D l a cs P % suc q
    unfolding row_value_at
    row_value_filled a cs e =
        let vs : List ℕ = map (λ b. monomial_at P.0 b.0 % suc q) l in
        let long : length cs ≡ length vs = e ∙ sym (length-map l _) in
        ap (λ (z : ℕ). (monomial_at (fill 8 P.0) (fill 8 a.0) + z) % suc q) (dot_fill 64 cs vs long (omega arith)) ∙ row_value_is a cs

    module _ (α : Monomial m) (rs : List ℕ) (lr : length rs ≡ length l) where
      abbrev pub inverse_at : ℕ
      inverse_at = D.inv (row_value D l α rs P)

      -- minus the multiple of the lost row
      factor_is : (a : Monomial m) (cs : List ℕ) → factor_of (suc q) inverse_at (row_value D l a cs P % suc q) ≡ (q * ratio D l P α rs a cs) % suc q
      unfolding factor_of ratio
      factor_is a cs =
          let v : ℕ = row_value D l a cs P in
          let k : ℕ = (v * inverse_at) % suc q in
          let less : k < suc q = mod-lt (v * inverse_at) (omega arith) in
          let is : (v % suc q * inverse_at) % suc q ≡ k = (reduce (suc q) v times rfl {x = inverse_at}).same in
          ap (λ (z : ℕ). (suc q - z) % suc q) is ∙ (negative q k (omega arith)).same

      -- the rows' difference
      difference : (k : ℕ) (cs ts : List ℕ) → length cs ≡ length ts → add_scaled (suc q) ((q * k) % suc q) cs ts ≡ minus D cs k ts
      unfolding add_scaled zip_with minus
      difference k [] ts e = refl
      difference k (c ∷ cs) [] e = absurd (omega arith)
      difference k (c ∷ cs) (t ∷ ts) e =
          let h : Mod (suc q) (c + (q * k) % suc q * t) (c + q * (k * t)) = rfl {x = c} plus ((reduce (suc q) (q * k) times rfl {x = t}) then of (omega arith)) in
          ap₂ (λ (x : ℕ) (z : List ℕ). x ∷ z) h.same (difference k cs ts (omega arith))

      module _ (L : Laws D) (out : (b : Monomial m) → Among b l → α ≢ b) where
        pub corrected_is : (a : Monomial m) (cs : List ℕ) → length cs ≡ length l
            → corrected_row (suc q) (place_of D.cmp α l) inverse_at (fill 64 rs) (fill 8 P.0) values_at (fill 8 a.0) (fill 64 cs) ≡ fill 64 (kept D l P α rs a cs)
        unfolding corrected_row corrected_by kept
        corrected_is a cs e =
            let k : ℕ = ratio D l P α rs a cs in
            let f : ℕ = (q * k) % suc q in
            let i : ℕ = place_of D.cmp α l in
            let even : length cs ≡ length rs = e ∙ sym lr in
            let long : length (minus D cs k rs) ≡ length l = minus_length D cs k rs even ∙ e in
            let factor : factor_of (suc q) inverse_at (row_value_at (suc q) (fill 8 P.0) values_at (fill 8 a.0) (fill 64 cs)) ≡ f = ap (factor_of (suc q) inverse_at) (row_value_filled a cs e) ∙ factor_is a cs in
            ap (λ (g : ℕ). fill 64 (inserted_at i g (add_scaled (suc q) g (fill 64 cs) (fill 64 rs)))) factor
            ∙ ap (λ (z : List ℕ). fill 64 (inserted_at i f z)) (scaled_fill (suc q) f 64 cs rs even ∙ ap (fill 64) (difference k cs rs even))
            ∙ fill_inserted 64 i f (minus D cs k rs) (rw long (place_bound D.cmp α l))
            ∙ ap (fill 64) (sym (slot_at D L α f l (minus D cs k rs) long out))
