-- The settings as C hands them over: eight bytes one above the other are read as the eight weights (request M-109).
use mathlib.Core.Path.{◌≡◌, refl, sym, ◌∙◌, ap, ap₂}
use mathlib.Core.List.{List, [], ◌∷◌}
use Prim.Native.Nat.{ℕ, suc, ◌+◌, ◌*◌, ◌/◌, ◌%◌, ◌<◌}
use native.Mathlib.Omega.{arith}
use lib.ListN.{length}
use Rattle.residue.specs.Words.{bytes_of}
use Rattle.residue.specs.Vector.{Below}
use Rattle.misqafur.specs.Packing.{packed, settings_given}

bytes_handed : (ws : List ℕ) → Below 256 ws → bytes_of (length ws) (packed ws) ≡ ws
unfolding bytes_of
bytes_handed [] h = refl
bytes_handed (w ∷ ws) h =
    let x : ℕ = packed ws in
    let first : w < 256 = h 0 (omega arith) in
    let low : (w + 256 * x) % 256 ≡ w = omega arith in
    let high : (w + 256 * x) / 256 ≡ x = omega arith in
    ap₂ ◌∷◌ low (ap (bytes_of (length ws)) high) ∙ ap (λ (l : List ℕ). w ∷ l) (bytes_handed ws (λ i l. h (suc i) (omega arith)))

pub weights_handed : (p m order : ℕ) (ws : List ℕ) → length ws ≡ 8 → Below 256 ws
    → settings_given p m order (packed ws) ≡ record { modulus = p; variables = m; order = order; weights = ws }
weights_handed p m order ws e h =
    ap (λ (l : List ℕ). record { modulus = p; variables = m; order = order; weights = l }) (ap (λ (k : ℕ). bytes_of k (packed ws)) (sym e) ∙ bytes_handed ws h)
