-- The leads and their rows while the products of the lost lead are put in.
use mathlib.Core.Path.{◌≡◌, refl, sym, ◌∙◌, ap, ap₂}
use mathlib.Core.Bool.{Bool, true, false, cond}
use mathlib.Core.List.{List}
use Prim.Native.Nat.{ℕ, zero, suc, ◌+◌, ◌*◌, ◌-◌, ◌≤◌}
use native.Mathlib.Nat.{mul-le-mul_left}
use native.Mathlib.Numerals.{add-one}
use native.Mathlib.Omega.{arith}
use lib.ListN.{length, take, drop, length-set, length-append, length-drop}
use lib.Seq.{length-take-le}
use Rattle.residue.specs.Inverse.{inverse_of}
use Rattle.residue.specs.Layout.{groups, row_at}
use Rattle.monomial.specs.Monomial.{times_variable}
use Rattle.monomial.specs.Order.{Order, cmp}
use Rattle.monomial.specs.Insert.{place_of, divided_by, with_row_at}
use Rattle.monomial.proofs.insert.Searches.{place_within}
use Rattle.growth.specs.Growing.{Grown, grown, row_value_at, others_of, others_corrected, grown_by, corrected_row, reduced_row, put_with_row, product_put, products_put}
use Rattle.growth.proofs.Writes.{length_row}

-- the tables keep their sizes, and v products are at most v leads more
pub record GrownSized (k v : ℕ) (g : Grown) : Type 0 where
  pub most : g.count ≤ k + v
  pub leads : length g.leads ≡ 3592
  pub coefficients : length g.coefficients ≡ 28736

pub with_length : (w k i : ℕ) (row t : List ℕ) → i ≤ k → w * k + w ≤ length t → length row ≡ w → length (with_row_at w k i row t) ≡ length t
unfolding with_row_at
with_length w k i row t h l e =
    let m : w * i ≤ w * k = mul-le-mul_left w h in
    let a : length (take (w * i) t) ≡ w * i = length-take-le (w * i) t (omega arith) in
    let b : length (take (w * k - w * i) (drop (w * i) t)) ≡ w * k - w * i = length-take-le (w * k - w * i) (drop (w * i) t) (simp length-drop (omega arith)) in
    simp (length-append, length-drop) (omega arith)

module _ (p : ℕ) (order : Order) (n : ℕ) (points rows pivots : List ℕ) (place inverse : ℕ) (gone point values : List ℕ) where
  abbrev pub put : List ℕ → Grown → Grown
  put = put_with_row p order n points rows pivots place inverse gone point values

  put_sized : (k v : ℕ) (a : List ℕ) (g : Grown) → length a ≡ 8 → k + v ≤ 448 → GrownSized k v g → GrownSized k (v + 1) (put a g)
  unfolding put_with_row
  put_sized k v a g l h z =
      let i = place_within (cmp order) a g.leads g.count in
      record {
        most = omega (arith, z.most);
        leads = with_length 8 g.count _ a g.leads i (omega (arith, z.most, z.leads)) l ∙ z.leads;
        coefficients = with_length 64 g.count _ (corrected_row p place inverse gone point values a (reduced_row p n points rows pivots a)) g.coefficients i (omega (arith, z.most, z.coefficients)) (length_row p place inverse gone point values a _) ∙ z.coefficients;
      }

  module _ (k : ℕ) (others : List ℕ) where
    -- a product that another lead divides, and one that none does
    pub product_passed : (a : List ℕ) (g : Grown) → divided_by (groups 8 k others) a ≡ true → g ≡ product_put p order n points rows pivots place inverse gone point values k others a g
    unfolding product_put
    product_passed a g e = sym (ap (λ (b : Bool). cond b g (put a g)) e)

    pub product_put_lem : (a : List ℕ) (g : Grown) → divided_by (groups 8 k others) a ≡ false → product_put p order n points rows pivots place inverse gone point values k others a g ≡ put a g
    unfolding product_put
    product_put_lem a g e = ap (λ (b : Bool). cond b g (put a g)) e

    pub product_taken : (a : List ℕ) (count : ℕ) (leads coefficients : List ℕ) (i : ℕ) (leads' coefficients' : List ℕ) → divided_by (groups 8 k others) a ≡ false
        → i ≡ place_of (cmp order) a (groups 8 count leads) → leads' ≡ with_row_at 8 count i a leads
        → coefficients' ≡ with_row_at 64 count i (corrected_row p place inverse gone point values a (reduced_row p n points rows pivots a)) coefficients
        → grown (count + 1) leads' coefficients' ≡ product_put p order n points rows pivots place inverse gone point values k others a (grown count leads coefficients)
    unfolding put_with_row
    product_taken a count leads coefficients i leads' coefficients' e ei el ec =
        let row : List ℕ = corrected_row p place inverse gone point values a (reduced_row p n points rows pivots a) in
        ap₂ (grown (count + 1)) (el ∙ ap (λ (j : ℕ). with_row_at 8 count j a leads) ei) (ec ∙ ap (λ (j : ℕ). with_row_at 64 count j row coefficients) ei)
        ∙ sym (product_put_lem a (grown count leads coefficients) e)

    module _ (lead : List ℕ) where
      pub products_none : (g : Grown) → products_put p order n points rows pivots place inverse gone point values k others lead 0 g ≡ g
      unfolding products_put
      products_none g = refl

      products_more : (g : Grown) (v : ℕ) → products_put p order n points rows pivots place inverse gone point values k others lead (v + 1) g
          ≡ product_put p order n points rows pivots place inverse gone point values k others (times_variable v lead) (products_put p order n points rows pivots place inverse gone point values k others lead v g)
      unfolding products_put
      products_more g v = ap (λ (j : ℕ). products_put p order n points rows pivots place inverse gone point values k others lead j g) (add-one v)

      pub products_next : (g₀ : Grown) {g g' : Grown} {a : List ℕ} (v : ℕ) → a ≡ times_variable v lead → g ≡ products_put p order n points rows pivots place inverse gone point values k others lead v g₀ → g' ≡ product_put p order n points rows pivots place inverse gone point values k others a g
          → g' ≡ products_put p order n points rows pivots place inverse gone point values k others lead (v + 1) g₀
      products_next g₀ v ea eg e = e ∙ ap₂ (λ (b : List ℕ) (h : Grown). product_put p order n points rows pivots place inverse gone point values k others b h) ea eg ∙ sym (products_more g₀ v)

      pub products_sized : (leads coefficients : List ℕ) → length lead ≡ 8 → length leads ≡ 3592 → length coefficients ≡ 28736 → (v : ℕ) → k + v ≤ 449
          → GrownSized k v (products_put p order n points rows pivots place inverse gone point values k others lead v (grown k leads coefficients))
      unfolding products_put product_put
      products_sized leads coefficients l a b zero h = record { most = omega arith; leads = a; coefficients = b }
      products_sized leads coefficients l a b (suc v) h =
          let g : Grown = products_put p order n points rows pivots place inverse gone point values k others lead v (grown k leads coefficients) in
          let z : GrownSized k v g = products_sized leads coefficients l a b v (omega arith) in
          go (divided_by (groups 8 k others) (times_variable v lead)) g z (put_sized k v (times_variable v lead) g (length-set lead v _ ∙ l) (omega arith) z)
        where
          go : (t : Bool) (g : Grown) → GrownSized k v g → GrownSized k (v + 1) (put (times_variable v lead) g) → GrownSized k (suc v) (cond t g (put (times_variable v lead) g))
          go true g z y = record { most = omega (arith, z.most); leads = z.leads; coefficients = z.coefficients }
          go false g z y = record { most = omega (arith, y.most); leads = y.leads; coefficients = y.coefficients }

-- what the functions made of the tables, put together
pub grown_by_lem : {g : Grown} (p m : ℕ) (order : Order) (n r : ℕ) (points standard leads coefficients rows pivots point values : List ℕ) (j : ℕ) (lead gone : List ℕ) (place i : ℕ) (others coefficients' : List ℕ)
    → lead ≡ row_at 8 j leads → gone ≡ row_at 64 j coefficients → place ≡ place_of (cmp order) lead (groups 8 n standard) → i ≡ inverse_of p (row_value_at p point values lead gone)
    → others ≡ others_of r j leads → coefficients' ≡ others_corrected p place i gone point values r j leads coefficients
    → g ≡ products_put p order n points rows pivots place i gone point values (r - 1) others lead m (grown (r - 1) others coefficients') → g ≡ grown_by p m order n r points standard leads coefficients rows pivots point values j
unfolding grown_by
grown_by_lem p m order n r points standard leads coefficients rows pivots point values j lead gone place i others coefficients' el eg ep ei eo ec e = e ∙ rw (ec, eo, ei, ep, eg, el)
