-- The points of lent tables with their counts: read back from the tables that were written of them.
use mathlib.Core.Path.{◌≡◌, refl, sym, ◌∙◌, ap, ap₂}
use mathlib.Core.List.{List, [], ◌∷◌, ◌++◌, zip_with, zip}
use Prim.Native.Nat.{ℕ, zero, suc, ◌≤◌}
use native.Mathlib.Nat.{suc_inj, le_of_suc-le-suc}
use native.Mathlib.Omega.{arith}
use lib.ListN.{length, length-map}
use Rattle.residue.specs.Sizes.{counts_size}
use Rattle.residue.specs.Layout.{fill, over, length_fill}
use Rattle.residue.proofs.Layouts.{fill_exact, fill_twice}
use Rattle.specification.specs.declared.settings.Settings.{Settings}
use Rattle.specification.specs.Counted.{Counted, points_of, counts_of}
use Rattle.specification.specs.Tables.{Tables, tables_of, written, points_in, held_in}
use Rattle.specification.proofs.agreement.Points.{read_count, points_back}
use Rattle.specification.proofs.counted.Gathered.{Entries}

-- points and counts beside each other
zip_points : (S : List (List ℕ)) (c : List ℕ) → length S ≡ length c → points_of (zip S c) ≡ S
unfolding zip zip_with
zip_points [] c e = refl
zip_points (P ∷ S) [] e = absurd (omega arith)
zip_points (P ∷ S) (k ∷ c) e = ap (λ (l : List (List ℕ)). P ∷ l) (zip_points S c (suc_inj e))

pub zip_counts : (S : List (List ℕ)) (c : List ℕ) → length S ≡ length c → counts_of (zip S c) ≡ c
unfolding zip zip_with
zip_counts [] [] e = refl
zip_counts [] (k ∷ c) e = absurd (omega arith)
zip_counts (P ∷ S) [] e = absurd (omega arith)
zip_counts (P ∷ S) (k ∷ c) e = ap (λ (l : List ℕ). k ∷ l) (zip_counts S c (suc_inj e))

zip_back : (L : Counted) → zip (points_of L) (counts_of L) ≡ L
unfolding zip zip_with
zip_back [] = refl
zip_back (q ∷ L) = ap (λ (l : Counted). q ∷ l) (zip_back L)

module _ (s : Settings) (n : ℕ) (t : Tables) where
  as_many : length (points_in s n t.states) ≡ length (fill n t.counts)
  as_many = read_count s n t.states ∙ sym (length_fill n t.counts)

  pub points_held : points_of (held_in s n t) ≡ points_in s n t.states
  unfolding held_in
  points_held = zip_points (points_in s n t.states) (fill n t.counts) as_many

  pub counts_held : counts_of (held_in s n t) ≡ fill n t.counts
  unfolding held_in
  counts_held = zip_counts (points_in s n t.states) (fill n t.counts) as_many

  pub length_held : length (held_in s n t) ≡ n
  length_held = sym (length-map (held_in s n t) (λ q. q.1)) ∙ ap length counts_held ∙ length_fill n t.counts

-- the front of a front
fill_front_of : (j : ℕ) (a b : List ℕ) → j ≤ length a → fill j (a ++ b) ≡ fill j a
unfolding fill
fill_front_of zero a b h = refl
fill_front_of (suc j) [] b h = absurd (omega arith)
fill_front_of (suc j) (x ∷ a) b h = ap (λ (l : List ℕ). x ∷ l) (fill_front_of j a b (le_of_suc-le-suc h))

fill_over : (j k : ℕ) (l t : List ℕ) → j ≤ k → fill j (over (fill k l) t) ≡ fill j l
unfolding over
fill_over j k l t h = fill_front_of j (fill k l) _ (omega (arith, length_fill k l)) ∙ fill_twice j k l h

-- The tables of a list of entries hold them.
pub held_back : (s : Settings) → s.variables ≤ 8 → (L : Counted) → Entries s L → (t : Tables) → held_in s (length L) (written (tables_of s L) t) ≡ L
unfolding held_in written tables_of
held_back s small L h t =
    ap₂ (λ (S : List (List ℕ)) (c : List ℕ). zip S c) points counts ∙ zip_back L
  where
    long : length (points_of L) ≡ length L
    long = length-map L (λ q. q.0)

    points : points_in s (length L) (written (tables_of s L) t).states ≡ points_of L
    points = ap (λ (k : ℕ). points_in s k (written (tables_of s L) t).states) (sym long) ∙ points_back s small (points_of L) h.points t.states

    counts : fill (length L) (over (fill counts_size (counts_of L)) t.counts) ≡ counts_of L
    counts = fill_over (length L) counts_size (counts_of L) t.counts (omega (arith, long, h.points.few)) ∙ fill_exact (length L) (counts_of L) (length-map L (λ q. q.1))
