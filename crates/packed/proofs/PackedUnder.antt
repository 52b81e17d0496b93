-- Under settings with the modulus 2: the tables of the packed basis are the tables of the definition.
use mathlib.Core.Path.{◌≡◌, refl, sym, ap, ap₂, ◌∙◌}
use mathlib.Core.List.{List, [], ◌∷◌, ◌++◌, map}
use mathlib.Core.Logic.{inl, inr}
use Prim.Native.Nat.{ℕ, zero, suc, ◌-◌, ◌^◌, ◌/◌, ◌%◌, ◌<◌, ◌≤◌}
use native.Mathlib.Omega.{arith}
use lib.ListN.{length, length-map}
use Rattle.residue.specs.Sizes.{standard_size, leads_size, coefficients_size}
use Rattle.residue.specs.Lists.{Among}
use Rattle.residue.specs.Layout.{fill, in_places}
use Rattle.residue.proofs.Layouts.{fill_exact}
use Rattle.specification.specs.declared.settings.Settings.{Settings}
use Rattle.specification.specs.Space.{Space}
use Rattle.specification.specs.Tables.{space_under, points_under, row_count, standard_table, leads_table, coefficients_table}
use Rattle.specification.specs.Instance.{point_of}
use Rattle.specification.specs.Points.{Points}
use Rattle.specification.specs.Settings.{Accepted}
use Rattle.residue.specs.Words.{bits_of}
use Rattle.packed.specs.PackedWalk.{PackedFound, PackedBasis}
use Rattle.residue.proofs.BitLaws.{half_lt, bits_length}

-- a word's bits in a wider place
bits_none : (k : ℕ) → fill k [] ≡ bits_of k 0
unfolding fill bits_of
bits_none zero = refl
bits_none (suc k) = ap (λ (l : List ℕ). 0 ∷ l) (bits_none k)

pub bits_fill : (n k w : ℕ) → n ≤ k → w < 2 ^ n → fill k (bits_of n w) ≡ bits_of k w
unfolding fill bits_of
bits_fill zero k w h u = let e : w ≡ 0 = omega arith in rw e (bits_none k)
bits_fill (suc n) zero w h u = absurd (omega arith)
bits_fill (suc n) (suc k) w h u = ap (λ (l : List ℕ). w % 2 ∷ l) (bits_fill n k (w / 2) (omega arith) (half_lt n w u))

-- so rows of n coefficients are written as 64 bits each
pub rows_wide : (n : ℕ) (ws : List ℕ) → n ≤ 64 → ((w : ℕ) → Among w ws → w < 2 ^ n) → in_places 64 (map (bits_of n) ws) ≡ in_places 64 (map (bits_of 64) ws)
unfolding in_places
rows_wide n [] h small = refl
rows_wide n (w ∷ ws) h small =
    ap₂ (λ (u v : List ℕ). u ++ v) (bits_fill n 64 w h (small w (inl refl)) ∙ sym (fill_exact 64 (bits_of 64 w) (bits_length 64 w))) (rows_wide n ws h (λ v mem. small v (inr mem)))

module _ (s : Settings) (ok : Accepted s) (two : s.modulus ≡ 2) (K : List (List ℕ)) (h : Points s K) where
  abbrev D : Space
  D = space_under s

  few : length (points_under s K) ≤ 64
  few = rw (length-map K (point_of (s.modulus - 1) s.variables)) h.few

  -- the tables of the basis, from the packed one
  module _ (f : PackedFound D) (b : PackedBasis D (points_under s K) f) where
    pub packed_rows : row_count s K ≡ length f.leads
    unfolding row_count
    packed_rows = sym (ap length b.leads_are)

    pub packed_standard : standard_table s K ≡ fill standard_size (in_places 8 (map (λ a. a.0) f.standard))
    unfolding standard_table
    packed_standard = rw b.standard_are

    pub packed_leads : leads_table s K ≡ fill leads_size (in_places 8 (map (λ a. a.0) f.leads))
    unfolding leads_table
    packed_leads = rw b.leads_are

    pub packed_coefficients : coefficients_table s K ≡ fill coefficients_size (in_places 64 (map (bits_of 64) f.rows))
    unfolding coefficients_table
    packed_coefficients = ap (λ (l : List (List ℕ)). fill coefficients_size (in_places 64 l)) (sym b.rows_are)
        ∙ ap (fill coefficients_size) (rows_wide (length (points_under s K)) f.rows few b.rows_small)
