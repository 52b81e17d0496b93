-- One number more at a list's end: of residues, of a range and of lent bytes.
use mathlib.Core.Path.{◌≡◌, refl, sym, ap, ◌∙◌}
use mathlib.Core.Bool.{Bool, true, false, ◌&&◌, and-true}
use mathlib.Core.List.{List, [], ◌∷◌, ◌++◌, map, append_assoc}
use Prim.Native.Nat.{ℕ, suc, ◌<◌}
use native.Mathlib.Omega.{arith}
use lib.IntN.{ℤ}
use lib.ListN.{length, get_or, set, drop, length-append}
use lib.Seq.{set_at, drop-cons}
use Rattle.residue.specs.Level.{residue_of}
use Rattle.residue.specs.Layout.{over}
use Rattle.specification.specs.Levels.{is_residue, residue_or0, in_range, residues}

pub map_snoc : {A B : Type 0} (f : A → B) (l : List A) (a : A) → map f (l ++ (a ∷ [])) ≡ map f l ++ (f a ∷ [])
map_snoc f [] a = refl
map_snoc f (b ∷ l) a = ap (λ (r : List _). f b ∷ r) (map_snoc f l a)

pub residues_snoc : (p : ℕ) (l : List ℤ) (z : ℤ) → residues p (l ++ (z ∷ [])) ≡ residues p l ++ (residue_or0 (residue_of p z) ∷ [])
unfolding residues
residues_snoc p l z = map_snoc (λ y. residue_or0 (residue_of p y)) l z

pub range_snoc : (p : ℕ) (l : List ℤ) (z : ℤ) → in_range p (l ++ (z ∷ [])) ≡ (in_range p l && is_residue (residue_of p z))
unfolding in_range
range_snoc p [] z = and-true (is_residue (residue_of p z))
range_snoc p (y ∷ l) z = go (is_residue (residue_of p y)) (range_snoc p l z)
  where
    go : (b : Bool) → in_range p (l ++ (z ∷ [])) ≡ (in_range p l && is_residue (residue_of p z)) → (b && in_range p (l ++ (z ∷ []))) ≡ (b && in_range p l && is_residue (residue_of p z))
    go true h = h
    go false h = refl

-- one byte more is written over
pub over_snoc : (l old : List ℕ) (x : ℕ) → length l < length old → set (over l old) (length l) x ≡ over (l ++ (x ∷ [])) old
unfolding over
over_snoc l old x h =
    let n : length (l ++ (x ∷ [])) ≡ suc (length l) = length-append l (x ∷ []) ∙ omega arith in
    ap (λ (r : List ℕ). set (l ++ r) (length l) x) (drop-cons old (length l) 0 h) ∙ set_at l (get_or old (length l) 0) (drop (suc (length l)) old) x (length l) refl
    ∙ sym (append_assoc l (x ∷ []) (drop (length (l ++ (x ∷ []))) old) ∙ ap (λ (k : ℕ). l ++ (x ∷ drop k old)) n)
