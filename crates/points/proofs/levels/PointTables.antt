-- Tables of points: the points of levels, and the points that are read from a table.
use mathlib.Core.Path.{◌≡◌, refl, sym, ◌∙◌, ap}
use mathlib.Core.List.{List, [], ◌∷◌, ◌++◌, map, map-append}
use Prim.Native.Nat.{ℕ, suc, ◌+◌, ◌-◌, ◌*◌, ◌%◌, ◌<◌, ◌≤◌}
use native.Mathlib.Omega.{arith}
use lib.IntN.{ℤ, pos}
use lib.ListN.{length, get_or, take, drop, length-map, length-take, get_or-eq_default}
use lib.Seq.{get_or-take, length-take-le}
use Rattle.residue.specs.Level.{residue_of}
use Rattle.residue.specs.Layout.{groups, fill}
use Rattle.residue.proofs.Places.{length_groups, groups_more}
use Rattle.residue.proofs.Layouts.{fill_at, fill_take}
use Rattle.residue.proofs.vector.Vectors.{map_at}
use Rattle.specification.specs.declared.settings.Settings.{Settings}
use Rattle.specification.specs.Levels.{residue_or0, residues}
use Rattle.specification.specs.Instance.{reduced, point_of}
use Rattle.specification.specs.Tables.{points_in}
use Rattle.specification.proofs.Recognised.{map_take, map_drop}
use Rattle.specification.proofs.agreement.Points.{length_residues}

-- the residues of a part of the levels
pub residues_part : (p k at : ℕ) (zs : List ℤ) → residues p (take k (drop at zs)) ≡ take k (drop at (residues p zs))
unfolding residues
residues_part p k at zs = map_take _ k (drop at zs) ∙ ap (take k) (map_drop _ at zs)

-- the residues of the first m levels, with zeros behind them: at a level, and behind the levels
module _ (p m i : ℕ) (zs : List ℤ) (h : i < 8) where
  pub first_there : i < m → m ≤ length zs → residue_or0 (residue_of p (get_or zs i (pos 0))) ≡ get_or (fill 8 (residues p (take m zs))) i 0
  unfolding residues
  first_there k room =
      let f : ℤ → ℕ = λ z. residue_or0 (residue_of p z) in
      sym (fill_at 8 (map f (take m zs)) i h ∙ map_at f (take m zs) (pos 0) 0 i (omega (arith, length-take-le m zs room)) ∙ ap f (get_or-take m zs i (pos 0) k))

  pub first_past : m ≤ i → 0 ≡ get_or (fill 8 (residues p (take m zs))) i 0
  first_past k =
      sym (fill_at 8 (residues p (take m zs)) i h
      ∙ get_or-eq_default (residues p (take m zs)) 0 (omega (arith, length_residues p (take m zs), length-take m zs)))

module _ (p m : ℕ) where
  -- a point is what its place holds, cut and reduced
  abbrev pub point_at : List ℕ → ℕ → List ℕ
  point_at t i = (point_of (p - 1) m (take 8 (drop (8 * i) t))).0

  abbrev pub points_as : ℕ → List ℕ → List (List ℕ)
  points_as n t = map (λ P. P.0) (map (point_of (p - 1) m) (groups 8 n t))

  pub length_points : (n : ℕ) (t : List ℕ) → length (points_as n t) ≡ n
  length_points n t = length-map (map (point_of (p - 1) m) (groups 8 n t)) _ ∙ length-map (groups 8 n t) _ ∙ length_groups 8 n t

  pub points_more : (i : ℕ) (t : List ℕ) → points_as (i + 1) t ≡ points_as i t ++ (point_at t i ∷ [])
  points_more i t =
      ap (λ (z : List (List ℕ)). map (λ P. P.0) (map (point_of (p - 1) m) z)) (groups_more 8 i t)
      ∙ ap (map (λ P. P.0)) (map-append (point_of (p - 1) m) (groups 8 i t) _) ∙ map-append (λ P. P.0) (map (point_of (p - 1) m) (groups 8 i t)) _

  pub point_read : (t : List ℕ) (i k : ℕ) → 1 ≤ p → m ≤ 8 → k ≡ m → 8 ≤ length (drop (8 * i) t) → map (λ x. x % p) (take k (drop (8 * i) t)) ≡ point_at t i
  unfolding point_of
  point_read t i k one few e h =
      let q : p ≡ suc (p - 1) = omega arith in
      ap (λ (n : ℕ). map (λ x. x % n) (take k (drop (8 * i) t))) q
      ∙ ap (reduced (p - 1)) (ap (λ (n : ℕ). take n (drop (8 * i) t)) e ∙ sym (fill_take m 8 (drop (8 * i) t) few h))

-- the points of lent tables
pub points_in_lem : (s : Settings) (n : ℕ) (t : List ℕ) → points_as s.modulus s.variables n t ≡ points_in s n t
unfolding points_in
points_in_lem s n t = refl
