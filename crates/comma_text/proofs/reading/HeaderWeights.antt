-- The weights of a header of the right form: they are eight, and those of at most 8 variables are wrong only where one is 0.
use mathlib.Core.Path.{◌≡◌, refl, sym, subst}
use mathlib.Core.Bool.{Bool, true, false, not, ◌&&◌}
use mathlib.Core.List.{List, [], ◌∷◌}
use Prim.Native.Nat.{ℕ, zero, suc, ◌<◌, ◌≤◌}
use native.Mathlib.Omega.{arith}
use lib.ListN.{length, get_or}
use lib.Dec.{leb}
use borrow.Author.Tests.{leb-true, leb-false, le-leb}
use Rattle.residue.specs.Layout.{fill, length_fill}
use Rattle.residue.proofs.Tests.{Decides, so, not_so}
use Rattle.specification.specs.Settings.{weighs_first, right_weights}
use Rattle.notation.specs.Forms.{Header}
use Rattle.notation.specs.FormGrammar.{AreWeights, no_weights, weights, IsOrder, unsaid, lex, grlex, grevlex, weighted, IsHeader}
use Rattle.notation.proofs.forms.WeightsRead.{number_small}
use Rattle.comma_text.specs.reading.Text.{settings_by}
use Rattle.comma_text.specs.reading.Causes.{WeightZero}

order_eight : {m : ℕ} {word : List ℕ} {k : ℕ} {ws : List ℕ} → IsOrder m word k ws → length ws ≡ 8
order_eight unsaid = refl
order_eight lex = refl
order_eight grlex = refl
order_eight grevlex = refl
order_eight (weighted {ws = ws} r n) = length_fill 8 ws

pub header_eight : {fields : List (List ℕ)} (h : Header) → IsHeader fields h → length h.weights ≡ 8
header_eight h is = order_eight is.order

-- no weight is wrong where none is weighed
none_weighed : (k : ℕ) → weighs_first 0 (fill k []) ≡ true
unfolding weighs_first fill
none_weighed zero = refl
none_weighed (suc k) = none_weighed k

-- one of the weights is 0
abbrev Zero : ℕ → List ℕ → Type 0
Zero m l = (i : ℕ) × (i < m) × (get_or l i 0 ≡ 0)

-- weights as they are read, in k places
filled_told : {l ws : List ℕ} → AreWeights l ws → (k : ℕ) → length ws ≤ k → Decides (Zero (length ws) (fill k ws)) (not (weighs_first (length ws) (fill k ws)))
unfolding weighs_first fill
filled_told no_weights k h = subst (λ (b : Bool). Decides (Zero 0 (fill k [])) (not b)) (sym (none_weighed k)) (not_so (λ z. omega (arith, z.1)))
filled_told (weights {w = w} n d r) zero h = absurd (omega arith)
filled_told (weights {ws = ws} {w = w} n d r) (suc k) h =
    subst (λ (b : Bool). Decides (Zero (suc (length ws)) (w ∷ fill k ws)) (not (leb 1 w && (b && weighs_first (length ws) (fill k ws)))))
    (sym (le-leb w 99 (number_small n d))) (first (leb 1 w) refl (filled_told r k (omega arith)))
  where
    behind : 1 ≤ w → {b : Bool} → Decides (Zero (length ws) (fill k ws)) b → Decides (Zero (suc (length ws)) (w ∷ fill k ws)) b
    behind p (so (i, l, e)) = so (suc i, omega (arith, l), e)
    behind p (not_so z) = not_so none
      where
        none : Zero (suc (length ws)) (w ∷ fill k ws) → ⊥
        none (zero, l, e) = omega (arith, p, e)
        none (suc i, l, e) = z (i, omega (arith, l), e)

    first : (b : Bool) → leb 1 w ≡ b → Decides (Zero (length ws) (fill k ws)) (not (weighs_first (length ws) (fill k ws)))
        → Decides (Zero (suc (length ws)) (w ∷ fill k ws)) (not (b && weighs_first (length ws) (fill k ws)))
    first true e t = behind (leb-true 1 w e) t
    first false e t = so (0, omega arith, omega (arith, leb-false 1 w e))

order_told : (p m : ℕ) {word : List ℕ} {k : ℕ} {ws : List ℕ} → IsOrder m word k ws → m ≤ 8
    → Decides ((k ≡ 3) × Zero m ws) (not (right_weights (record { modulus = p; variables = m; order = k; weights = ws })))
unfolding right_weights weighs_first
order_told p m unsaid h = not_so (λ z. omega (arith, z.0))
order_told p m lex h = not_so (λ z. omega (arith, z.0))
order_told p m grlex h = not_so (λ z. omega (arith, z.0))
order_told p m grevlex h = not_so (λ z. omega (arith, z.0))
order_told p m (weighted {ws = ws} r n) h = subst (λ (j : ℕ). Decides (◌≡◌ {A = ℕ} 3 3 × Zero j (fill 8 ws)) (not (weighs_first j (fill 8 ws)))) n
    (with_order (filled_told r 8 (omega (arith, n, h))))
  where
    with_order : {X : Type 0} {b : Bool} → Decides X b → Decides (◌≡◌ {A = ℕ} 3 3 × X) b
    with_order (so x) = so (refl, x)
    with_order (not_so x) = not_so (λ z. x z.1)

pub weights_told : {fields : List (List ℕ)} (h : Header) → IsHeader fields h → h.variables ≤ 8 → Decides (WeightZero h) (not (right_weights (settings_by h)))
weights_told h is few =
    order_told h.modulus h.variables (subst (λ (m : ℕ). IsOrder m is.word h.order h.weights) (sym is.variables) is.order) few
