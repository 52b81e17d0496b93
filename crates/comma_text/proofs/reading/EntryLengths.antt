-- Each entry of m variables has m levels and a value, and its point m residues.
use mathlib.Core.Path.{◌≡◌, refl, sym, ap, ◌∙◌}
use mathlib.Core.Bool.{Bool, true, false, cond}
use mathlib.Core.List.{List, [], ◌∷◌, map}
use mathlib.Core.Logic.{inl, inr}
use mathlib.Core.Option.{Option, some, none}
use Prim.Native.Nat.{ℕ, suc}
use native.Mathlib.Omega.{arith}
use lib.IntN.{ℤ}
use lib.ListN.{length, take}
use lib.Seq.{length-take-le}
use lib.Dec.{eqb}
use borrow.Author.Tests.{eqb-true}
use Rattle.residue.specs.Lists.{Among}
use Rattle.specification.proofs.agreement.Points.{length_residues}
use Rattle.notation.specs.Forms.{level_of, together, levels_of, entry_of}
use Rattle.comma_text.specs.reading.Text.{entry_in, entry_point}

-- all of them are so long
abbrev pub AllLong : ℕ → List (List ℤ) → Type 0
AllLong k S = (zs : List ℤ) → Among zs S → length zs ≡ k

levels_length : (fields : List (List ℕ)) (zs : List ℤ) → levels_of fields ≡ some zs → length zs ≡ length fields
unfolding levels_of together
levels_length [] zs e = let q : [] ≡ zs = cc in ap length (sym q)
levels_length (f ∷ fields) zs e = go (level_of f) (levels_of fields) e (levels_length fields)
  where
    go : (a : Option ℤ) (b : Option (List ℤ)) → together a b ≡ some zs → ((ys : List ℤ) → b ≡ some ys → length ys ≡ length fields) → length zs ≡ suc (length fields)
    go none b h rec = let z : ◌≡◌ {A = ℕ} 0 1 = cc in absurd (omega arith)
    go (some z) none h rec = let c : ◌≡◌ {A = ℕ} 0 1 = cc in absurd (omega arith)
    go (some z) (some ys) h rec = let q : z ∷ ys ≡ zs = cc in sym (ap length q) ∙ ap suc (rec ys refl)

entry_length : (m : ℕ) (fields : List (List ℕ)) (zs : List ℤ) → entry_of m fields ≡ some zs → length zs ≡ suc m
unfolding entry_of
entry_length m fields zs e = go (eqb (length fields) (suc m)) refl e
  where
    go : (b : Bool) → eqb (length fields) (suc m) ≡ b → cond b (levels_of fields) none ≡ some zs → length zs ≡ suc m
    go true h k = levels_length fields zs k ∙ eqb-true (length fields) (suc m) h
    go false h k = let z : ◌≡◌ {A = ℕ} 0 1 = cc in absurd (omega arith)

pub entries_long : (m : ℕ) (records : List (Option (List (List ℕ)))) (S : List (List ℤ)) → map (entry_in m) records ≡ map some S → AllLong (suc m) S
unfolding entry_in
entries_long m [] [] e zs w = absurd w
entries_long m [] (s ∷ S) e zs w = let z : ◌≡◌ {A = ℕ} 0 1 = cc in absurd (omega arith)
entries_long m (r ∷ records) [] e zs w = absurd w
entries_long m (none ∷ records) (s ∷ S) e zs w = let z : ◌≡◌ {A = ℕ} 0 1 = cc in absurd (omega arith)
entries_long m (some fields ∷ records) (s ∷ S) e zs (inl q) = let h : entry_of m fields ≡ some s = cc in ap length q ∙ entry_length m fields s h
entries_long m (some fields ∷ records) (s ∷ S) e zs (inr q) = let k : map (entry_in m) records ≡ map some S = cc in entries_long m records S k zs q

pub point_long : (p m : ℕ) (zs : List ℤ) → length zs ≡ suc m → length (entry_point p m zs) ≡ m
unfolding entry_point
point_long p m zs e = length_residues p (take m zs) ∙ length-take-le m zs (omega arith)
