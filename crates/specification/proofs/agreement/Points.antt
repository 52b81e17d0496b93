-- Lists of distinct points under settings: what is written to a table of points is read back, and one more point keeps such a list so.
use mathlib.Core.Path.{◌≡◌, refl, sym, ◌∙◌, ap, ap₂, subst}
use mathlib.Core.Bool.{not}
use mathlib.Core.List.{List, [], ◌∷◌, ◌++◌, map, append_assoc}
use mathlib.Core.Logic.{inl, inr, ◌≢◌}
use Prim.Native.Nat.{ℕ, suc, ◌+◌, ◌-◌, ◌*◌, ◌≤◌, ◌<◌}
use native.Mathlib.Omega.{arith}
use native.Mathlib.Nat.{mod-eq_of_lt}
use lib.IntN.{ℤ}
use lib.ListN.{length, drop, replicate, length-map, length-append}
use lib.Dec.{T, not_T, T_not}
use Rattle.residue.specs.Sizes.{states_size}
use Rattle.residue.specs.Lists.{Among}
use Rattle.residue.specs.Level.{residue_of}
use Rattle.std.proofs.Common.{Option, Some, None}
use Rattle.residue.specs.Layout.{groups, fill, in_places, over}
use Rattle.residue.proofs.level.Levels.{residue_below}
use Rattle.residue.proofs.Tests.{and_left, and_right, and_both}
use Rattle.residue.proofs.Layouts.{fill_exact, fill_twice, places_back, table_split}
use Rattle.residue.proofs.Places.{length_groups}
use Rattle.specification.specs.declared.settings.Settings.{Settings}
use Rattle.specification.specs.Levels.{is_residue, residue_or0, in_range, residues, is_among, no_repeat}
use Rattle.specification.specs.Instance.{reduced, point_of}
use Rattle.specification.specs.Points.{IsPoint, Points}
use Rattle.specification.specs.Tables.{points_under, points_in, states_table}
use Rattle.specification.proofs.Repeats.{among_is, is_among_lem}
use Rattle.specification.proofs.ideal.Lists.{snoc_of}

pub no_points : (s : Settings) → Points s []
unfolding no_repeat
no_points s = record { points = λ P q. absurd q; once = tt; few = omega arith }

-- as many points as are read
pub read_count : (s : Settings) (n : ℕ) (t : List ℕ) → length (points_in s n t) ≡ n
unfolding points_in
read_count s n t = length-map (points_under s (groups 8 n t)) _ ∙ length-map (groups 8 n t) _ ∙ length_groups 8 n t

module _ (s : Settings) (small : s.variables ≤ 8) where
  abbrev coordinates : List ℕ → List ℕ
  coordinates l = (point_of (s.modulus - 1) s.variables l).0

  -- a point is what is read of it, and of its place in a table
  pub point_same : (P : List ℕ) → IsPoint s P → coordinates P ≡ P
  unfolding point_of
  point_same P h = ap (reduced (s.modulus - 1)) (fill_exact s.variables P h.long) ∙ h.same

  place_same : (P : List ℕ) → IsPoint s P → coordinates (fill 8 P) ≡ P
  unfolding point_of
  place_same P h = ap (reduced (s.modulus - 1)) (fill_twice s.variables 8 P small ∙ fill_exact s.variables P h.long) ∙ h.same

  all_same : (L : List (List ℕ)) → ((P : List ℕ) → Among P L → IsPoint s P) → map (λ P. P.0) (points_under s (map (fill 8) L)) ≡ L
  all_same [] h = refl
  all_same (P ∷ L) h =
      ap₂ (λ (a : List ℕ) (l : List (List ℕ)). a ∷ l) (place_same P (h P (inl refl))) (all_same L (λ Q q. h Q (inr q)))

  -- The points of a table of points.
  pub points_back : (L : List (List ℕ)) → Points s L → (t : List ℕ) → points_in s (length L) (over (states_table L) t) ≡ L
  unfolding points_in over states_table
  points_back L h t = ap (λ (z : List (List ℕ)). map (λ P. P.0) (points_under s z)) (ap (groups 8 (length L)) front ∙ places_back 8 L rest) ∙ all_same L h.points
    where
      size : 8 * length L + (states_size - 8 * length L) ≡ states_size
      size = omega (arith, h.few)

      table : fill states_size (in_places 8 L) ≡ in_places 8 L ++ replicate (states_size - 8 * length L) 0
      table = ap (λ (k : ℕ). fill k (in_places 8 L)) (sym size) ∙ table_split 8 L (states_size - 8 * length L)

      behind : List ℕ
      behind = drop (length (fill states_size (in_places 8 L))) t

      rest : List ℕ
      rest = replicate (states_size - 8 * length L) 0 ++ behind

      front : fill states_size (in_places 8 L) ++ behind ≡ in_places 8 L ++ rest
      front = ap (λ (z : List ℕ). z ++ behind) table ∙ append_assoc (in_places 8 L) (replicate (states_size - 8 * length L) 0) behind

-- the residues of levels in range are below p
residue_small : (p : ℕ) (z : ℤ) → T (is_residue (residue_of p z)) → residue_or0 (residue_of p z) < p
unfolding is_residue residue_or0
residue_small p z h = go (residue_of p z) refl h
  where
    go : (r : Option ℕ) → residue_of p z ≡ r → T (is_residue r) → residue_or0 r < p
    go (Some k) e t = residue_below p k z e
    go None e t = absurd t

pub residues_same : (p : ℕ) (zs : List ℤ) → 0 < p → T (in_range p zs) → reduced (p - 1) (residues p zs) ≡ residues p zs
unfolding residues in_range
residues_same p [] h t = refl
residues_same p (z ∷ zs) h t = ap₂ (λ (a : ℕ) (l : List ℕ). a ∷ l) (mod-eq_of_lt low) (residues_same p zs h (and_right (is_residue (residue_of p z)) (in_range p zs) t))
  where
    low : residue_or0 (residue_of p z) < suc (p - 1)
    low = omega (arith, residue_small p z (and_left (is_residue (residue_of p z)) (in_range p zs) t))

pub length_residues : (p : ℕ) (zs : List ℤ) → length (residues p zs) ≡ length zs
unfolding residues
length_residues p zs = length-map zs (λ z. residue_or0 (residue_of p z))

-- the residues of m levels in range are a point
pub levels_point : (s : Settings) (zs : List ℤ) → 0 < s.modulus → length zs ≡ s.variables → T (in_range s.modulus zs) → IsPoint s (residues s.modulus zs)
levels_point s zs h e t = record { long = length_residues s.modulus zs ∙ e; same = residues_same s.modulus zs h t }

-- no point twice: as a fact of members
pub once_of : (L : List (List ℕ)) (P : List ℕ) → T (no_repeat (P ∷ L)) → ((Q : List ℕ) → Among Q L → P ≢ Q) × T (no_repeat L)
unfolding no_repeat
once_of L P t = ((λ Q q e. T_not (is_among P L) (and_left (not (is_among P L)) (no_repeat L) t) (is_among_lem P L (subst (λ (z : List ℕ). Among z L) (sym e) q))), and_right (not (is_among P L)) (no_repeat L) t)

pub of_once : (L : List (List ℕ)) (P : List ℕ) → ((Q : List ℕ) → Among Q L → P ≢ Q) → T (no_repeat L) → T (no_repeat (P ∷ L))
unfolding no_repeat
of_once L P far t = and_both (not (is_among P L)) (no_repeat L) (not_T (is_among P L) (λ k. far P (among_is P L k) refl)) t

-- one point more at the end
pub once_snoc : (L : List (List ℕ)) (P : List ℕ) → T (no_repeat L) → ¬ Among P L → T (no_repeat (L ++ (P ∷ [])))
once_snoc [] P t out = of_once [] P (λ Q q. absurd q) t
once_snoc (R ∷ L) P t out =
    of_once (L ++ (P ∷ [])) R
    (λ Q q. elim (snoc_of L P Q q) [ inl z ↦ (once_of L R t).0 Q z | inr e ↦ λ u. out (inl (sym (u ∙ e))) ])
    (once_snoc L P (once_of L R t).1 (λ q. out (inr q)))

pub points_more : (s : Settings) (L : List (List ℕ)) (P : List ℕ) → Points s L → IsPoint s P → ¬ Among P L → length L < 64 → Points s (L ++ (P ∷ []))
points_more s L P h point out room = record {
  points = λ Q q. elim (snoc_of L P Q q) [ inl z ↦ h.points Q z | inr e ↦ subst (IsPoint s) (sym e) point ];
  once = once_snoc L P h.once out;
  few = omega (arith, length-append L (P ∷ []));
}
