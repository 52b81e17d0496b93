-- The weights of settings that no call refuses: as many as a document has of them, each below 100, and zeros behind them.
use mathlib.Core.Path.{◌≡◌, refl, sym, ap, ap₂}
use mathlib.Core.Bool.{true, true≢false, ◌&&◌}
use mathlib.Core.Logic.{inl, inr}
use mathlib.Core.List.{List, [], ◌∷◌}
use Prim.Native.Nat.{ℕ, zero, suc, ◌<◌}
use native.Mathlib.Omega.{arith}
use lib.ListN.{length, take}
use lib.Dec.{eqb, leb}
use borrow.Author.Tests.{eqb-true, leb-true}
use Rattle.residue.specs.Lists.{Among}
use Rattle.residue.specs.Layout.{fill}
use Rattle.specification.specs.Settings.{weighs_first}
use Rattle.json_text.proofs.Digits.{both}

pub weights_filled : (k : ℕ) (ws : List ℕ) → weighs_first k ws ≡ true → fill (length ws) (take k ws) ≡ ws
unfolding weighs_first fill
weights_filled zero [] e = refl
weights_filled (suc k) [] e = absurd (true≢false (sym e))
weights_filled zero (w ∷ ws) e =
    let p = both {a = eqb w 0} {b = weighs_first zero ws} e in
    ap₂ (λ (x : ℕ) (l : List ℕ). x ∷ l) (sym (eqb-true w 0 p.0)) (weights_filled zero ws p.1)
weights_filled (suc k) (w ∷ ws) e =
    ap (λ (l : List ℕ). w ∷ l) (weights_filled k ws (both {a = leb w 99} {b = weighs_first k ws} (both {a = leb 1 w} {b = leb w 99 && weighs_first k ws} e).1).1)

pub weights_counted : (k : ℕ) (ws : List ℕ) → weighs_first k ws ≡ true → length (take k ws) ≡ k
unfolding weighs_first
weights_counted zero ws e = refl
weights_counted (suc k) [] e = absurd (true≢false (sym e))
weights_counted (suc k) (w ∷ ws) e =
    ap suc (weights_counted k ws (both {a = leb w 99} {b = weighs_first k ws} (both {a = leb 1 w} {b = leb w 99 && weighs_first k ws} e).1).1)

pub weights_small : (k : ℕ) (ws : List ℕ) → weighs_first k ws ≡ true → (c : ℕ) → Among c (take k ws) → c < 100
unfolding weighs_first
weights_small zero ws e c q = absurd q
weights_small (suc k) [] e c q = absurd (true≢false (sym e))
weights_small (suc k) (w ∷ ws) e c (inl z) =
    omega (arith, z, leb-true w 99 (both {a = leb w 99} {b = weighs_first k ws} (both {a = leb 1 w} {b = leb w 99 && weighs_first k ws} e).1).0)
weights_small (suc k) (w ∷ ws) e c (inr z) =
    weights_small k ws (both {a = leb w 99} {b = weighs_first k ws} (both {a = leb 1 w} {b = leb w 99 && weighs_first k ws} e).1).1 c z
