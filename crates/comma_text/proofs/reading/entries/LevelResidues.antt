-- The residue of a level by its sign and size, and of the level in a field.
use mathlib.Core.Path.{◌≡◌, refl, sym, ap, ◌∙◌, subst}
use mathlib.Core.Bool.{Bool, true, false}
use mathlib.Core.List.{List}
use Prim.Native.Nat.{ℕ, zero, suc, ◌-◌, ◌^◌, ◌<◌, ◌≤◌}
use native.Mathlib.Omega.{arith}
use lib.IntN.{ℤ, pos, negsuc, ◌-ℤ◌}
use mir.Syntax.{w8}
use mir.Val.{SFits, to_z, of_z}
use mir.Facts.{to_z-of_z, to_z_pos}
use lib.ListN.{length, drop}
use borrow.Author.Tests.{lt-ltb, le-ltb}
use Rattle.residue.specs.Level.{residue_of}
use Rattle.std.proofs.Common.{Option, None}
use Rattle.notation.specs.Fields.{Field, field}
use Rattle.notation.specs.Forms.{negative}
use Rattle.notation.specs.Said.{with_sign}
use Rattle.comma_text.specs.reading.Points.{level_in, behind_level, PlacedAs}

pub outside : (p : ℕ) (n : Bool) (size : ℕ) → p ≤ size → None ≡ residue_of p (with_sign n size)
unfolding residue_of with_sign negative
outside p true zero h = simp (le-ltb 0 p h)
outside p true (suc k) h = simp (le-ltb (suc k) p h)
outside p false size h = simp (le-ltb size p h)

-- a size below 128 as a signed byte, and its negation
below_zero : (k : ℕ) → pos 0 -ℤ pos k ≡ negative k
unfolding negative
below_zero zero = refl
below_zero (suc k) =
    let e : suc k - 1 ≡ k = omega arith in
    simp (lt-ltb 0 (suc k) (omega arith)) (ap negsuc e)

negative_fits : (k : ℕ) → k ≤ 127 → SFits w8 (negative k)
unfolding negative
negative_fits zero h = record { sfits = omega arith }
negative_fits (suc k) h = record { sfits = omega arith }

module _ (size : ℕ) (h : size ≤ 127) where
  as_byte : to_z w8 size ≡ pos size
  as_byte = let k : size < 2 ^ 7 = omega arith in to_z_pos w8 k

  negated : pos 0 -ℤ to_z w8 size ≡ negative size
  negated = ap (λ (y : ℤ). pos 0 -ℤ y) as_byte ∙ below_zero size

  pub negation_fits : SFits w8 (pos 0 -ℤ to_z w8 size)
  negation_fits = subst (SFits w8) (sym negated) (negative_fits size h)

  pub minus : (n : Bool) → n ≡ true → to_z w8 (of_z w8 (pos 0 -ℤ to_z w8 size)) ≡ with_sign n size
  unfolding with_sign
  minus true e = to_z-of_z {w = w8} negation_fits ∙ negated
  minus false e = let z : ◌≡◌ {A = ℕ} 0 1 = cc in absurd (omega arith)

  pub plus : (n : Bool) → n ≡ false → to_z w8 size ≡ with_sign n size
  unfolding with_sign
  plus true e = let z : ◌≡◌ {A = ℕ} 0 1 = cc in absurd (omega arith)
  plus false e = as_byte

pub placed : (p : ℕ) (t : List ℕ) (f : Field ℤ) (z : ℤ) (more : Bool) (next : ℕ) → field z more (drop next t) ≡ f → next ≤ length t
    → (r : Option ℕ) → r ≡ residue_of p z → PlacedAs p t f (record { residue = r; next = next })
unfolding level_in behind_level
placed p t f z more next e w r h = record {
  residue = h ∙ ap (λ (g : Field ℤ). residue_of p (level_in g)) e;
  rest = ap behind_level e;
  within = w;
}
