-- The count of a turn of drawing up: the monomial in hand is examined, and the cancellations that its working row took are those that its column costs.
use mathlib.Core.Path.{◌≡◌, sym, ap₂, subst, ◌∙◌}
use mathlib.Core.List.{List, [], ◌∷◌, ◌++◌}
use Prim.Native.Nat.{ℕ, suc, ◌+◌, ◌<◌}
use native.Mathlib.Omega.{arith}
use lib.ListN.{length, get_or, set, take}
use Rattle.residue.specs.Inverse.{inverse_of}
use Rattle.elimination.specs.Elimination.{eliminated, cancellations, multiples_of}
use Rattle.residue.specs.Layout.{fill, with_place}
use Rattle.elimination.specs.Rows.{first_nonzero, pivot_row}
use Rattle.residue.proofs.level.Moduli.{modulus_range}
use Rattle.monomial.specs.Order.{Order}
use Rattle.specification.specs.Space.{Space}
use Rattle.specification.specs.Instance.{Monomial, Point, space_of}
use Rattle.specification.specs.Cancellations.{value_column}
use Rattle.specification.proofs.Instance.{laws}
use Rattle.specification.proofs.cancellations.Under.{inverse_at}
use Rattle.specification.proofs.cancellations.Progress.{Ready, Passed, pass_lead, pass_standard}
use Rattle.construction.proofs.drawing.TablesHold.{Ground, TablesHold, InHand}
use Rattle.construction.proofs.drawing.Decisions.{work_long, work_below, standard_more}
use Rattle.construction.proofs.drawing.Hands.{hand_column}

module _ {q m n : ℕ} {order : Order} {S : List (Point (suc q) m)} {p : ℕ} (G : Ground q m n order S p) {std lds : List (Monomial m)} {css : List (List ℕ)}
    {standard leads coefficients rows pivots values ranks steps : List ℕ} (H : TablesHold q m n order S std lds css standard leads coefficients rows pivots values ranks steps) {b : Monomial m}
    {at exponents : List ℕ} {rank : ℕ} {own : List ℕ} (B : InHand q m n order S std lds b at exponents rank own) {total : ℕ} (R : Ready (space_of q m order) S n std lds total rows pivots b)
    {work : List ℕ} (left : work ≡ eliminated p rows pivots (length std) (fill 128 (take n own))) {k : ℕ}
    (cost : k ≡ cancellations p rows pivots (length std) (fill 128 (take n own))) where
  abbrev D : Space
  D = space_of q m order

  is_left : work ≡ eliminated (suc q) rows pivots (length std) (fill 128 (value_column D S b))
  is_left = left ∙ ap₂ (λ (z : ℕ) (c : List ℕ). eliminated z rows pivots (length std) (fill 128 c)) G.modulus (hand_column G B)

  is_cost : k ≡ cancellations (suc q) rows pivots (length std) (fill 128 (value_column D S b))
  is_cost = cost ∙ ap₂ (λ (z : ℕ) (c : List ℕ). cancellations z rows pivots (length std) (fill 128 c)) G.modulus (hand_column G B)

  pub lead_passed : first_nonzero n work ≡ n → Passed D S n std (lds ++ (b ∷ [])) (total + k) rows pivots b
  lead_passed z =
      rw is_cost
      (pass_lead D (laws q m order G.prime) S G.distinct n G.count G.most std lds total rows pivots b R H.pivot_rows.room (rw is_left at z))

  pub standard_passed : first_nonzero n work < n → Passed D S n (std ++ (b ∷ [])) lds (total + k)
      (with_place 1152 (length std) (multiples_of p (pivot_row p (n + length std) (inverse_of p (get_or work (first_nonzero n work) 0)) work)) rows) (set pivots (length std) (first_nonzero n work)) b
  standard_passed z =
      rw (G.modulus, is_cost)
      (subst
      (λ (w : List ℕ). Passed D S n (std ++ (b ∷ [])) lds (total + cancellations (suc q) rows pivots (length std) (fill 128 (value_column D S b)))
      (with_place 1152 (length std) (multiples_of (suc q) (pivot_row (suc q) (n + length std) (inverse_of (suc q) (get_or w (first_nonzero n w) 0)) w)) rows) (set pivots (length std) (first_nonzero n w)) b)
      (sym is_left)
      (pass_standard D (laws q m order G.prime) S G.distinct n G.count G.most std lds total rows pivots b R H.pivot_rows.room (rw is_left at z)
      (subst (λ (w : List ℕ). D.inv (get_or w (first_nonzero n w) 0) ≡ inverse_of (suc q) (get_or w (first_nonzero n w) 0)) is_left inverse)
      (omega (arith, more, H.pivot_rows.long_rows, G.most)) (omega (arith, more, H.pivot_rows.long_pivots, G.most)) (omega (arith, more, G.most))
      (modulus_range (suc q) G.prime).0))
    where
      more : length std < n
      more = standard_more G H B left z

      inverse : D.inv (get_or work (first_nonzero n work) 0) ≡ inverse_of (suc q) (get_or work (first_nonzero n work) 0)
      inverse = inverse_at q m order (get_or work (first_nonzero n work) 0)
          (omega (arith, work_below G H B left (first_nonzero n work) (omega (arith, work_long G H B left, G.most)), G.modulus))
