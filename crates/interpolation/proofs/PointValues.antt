-- The values of a polynomial at the points, by parity.
use mathlib.Core.Path.{◌≡◌, sym, ap, ◌∙◌}
use mathlib.Core.List.{List, [], ◌∷◌, map}
use Prim.Native.Nat.{ℕ, ◌*◌, ◌%◌, ◌<◌, ◌≤◌}
use native.Mathlib.Omega.{arith}
use lib.ListN.{length, get_or, take, drop, length-drop}
use lib.Seq.{length-take-le}
use Rattle.residue.specs.Congruence.{Mod}
use Rattle.residue.specs.Vector.{Below, dot_of}
use Rattle.residue.specs.Layout.{groups, over}
use Rattle.residue.proofs.Congruence.{rfl, of, reduce, scale, ◌then◌, ◌plus◌}
use Rattle.residue.proofs.vector.Vectors.{map_at, map_same, below_take, below_drop}
use Rattle.residue.proofs.vector.Filled.{filled, filled_front}
use Rattle.residue.proofs.Places.{length_groups, groups_at, groups_long}
use Rattle.monomial.specs.Monomial.{monomial_at}
use Rattle.monomial.specs.Terms.{term_values}
use Rattle.interpolation.specs.Parity.{ones_left, SetOf, mask_of}
use Rattle.interpolation.proofs.TermValues.{length_terms}
use Rattle.interpolation.proofs.MaskLaws.{mask_long, mask_read}

-- the value at a point is the parity of what its mask leaves
pub value_is : (cs exponents s P : List ℕ) → SetOf cs exponents s → 8 * length cs ≤ length exponents → length P ≡ 8 → Below 2 P
    → ones_left s (mask_of P) % 2 ≡ dot_of cs (map (monomial_at P) (groups 8 (length cs) exponents)) % 2
unfolding dot_of
value_is cs exponents s P S room eight bits =
    (S.parity (mask_of P) (mask_long P)
    then of (ap (dot_of cs) (map_same _ (λ e. monomial_at P e % 2) (groups 8 (length cs) exponents) (λ e mem. mask_read P e eight bits (groups_long 8 (length cs) exponents room e mem))))
    then reduced cs (groups 8 (length cs) exponents)).same
  where
    reduced : (cs : List ℕ) (es : List (List ℕ)) → Mod 2 (dot_of cs (map (λ e. monomial_at P e % 2) es)) (dot_of cs (map (monomial_at P) es))
    reduced [] es = rfl
    reduced (c ∷ cs) [] = rfl
    reduced (c ∷ cs) (e ∷ es) = scale c (reduce 2 (monomial_at P e)) plus reduced cs es

-- and those at all points
abbrev pub parity_at : List ℕ → List ℕ → ℕ → ℕ
parity_at s points i = ones_left s (mask_of (take 8 (drop (8 * i) points))) % 2

module _ (cs exponents s : List ℕ) (n : ℕ) (points work : List ℕ) where
  pub parities_all : (i : ℕ) → i ≡ n → SetOf cs exponents s → 8 * length cs ≤ length exponents → 8 * n ≤ length points → Below 2 points → n ≤ length work
      → filled (parity_at s points) i work ≡ over (term_values 2 cs exponents n points) work
  unfolding over term_values
  parities_all i e S room have bits fits =
      ap (λ (k : ℕ). filled (parity_at s points) k work) (e ∙ sym (length_terms 2 cs exponents n points))
      ∙ filled_front (parity_at s points) (term_values 2 cs exponents n points) work 0 (omega (arith, length_terms 2 cs exponents n points)) (λ j h. at j (omega (arith, length_terms 2 cs exponents n points)))
    where
      at : (j : ℕ) → j < n → get_or (term_values 2 cs exponents n points) j 0 ≡ parity_at s points j
      at j h =
          map_at (λ P. dot_of cs (map (monomial_at P) (groups 8 (length cs) exponents)) % 2) (groups 8 n points) [] 0 j (omega (arith, length_groups 8 n points))
          ∙ ap (λ (P : List ℕ). dot_of cs (map (monomial_at P) (groups 8 (length cs) exponents)) % 2) (groups_at 8 n j points [] h)
          ∙ sym (value_is cs exponents s (take 8 (drop (8 * j) points)) S room (length-take-le 8 (drop (8 * j) points) (omega (arith, length-drop (8 * j) points))) (below_take 2 8 (drop (8 * j) points) (below_drop 2 (8 * j) points bits)))
