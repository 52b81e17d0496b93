-- The values of a variable times a monomial, as drawing up makes them.
use mathlib.Core.Path.{◌≡◌, sym, ap, ap₂, ◌∙◌}
use mathlib.Core.List.{List, ◌++◌}
use Prim.Native.Nat.{ℕ, ◌*◌, ◌%◌, ◌<◌, ◌≤◌}
use native.Mathlib.Omega.{arith}
use lib.ListN.{length, get_or, take, drop, get_or-append}
use lib.Seq.{get_or-take, length-take-le}
use Rattle.residue.specs.Vector.{Below, pointwise}
use Rattle.residue.specs.Layout.{over}
use Rattle.residue.proofs.vector.Vectors.{pointwise_length, pointwise_at, pointwise_below, below_drop, below_append}
use Rattle.residue.proofs.Layouts.{length_over}
use Rattle.construction.specs.Drawing.{product_values}

-- the values of a product
module _ (p n : ℕ) (column values : List ℕ) (c : length column ≡ n) (h : n ≤ length values) where
  abbrev made : List ℕ
  made = pointwise p (take n values) column

  even : length (take n values) ≡ length column
  even = length-take-le n values h ∙ sym c

  made_long : length made ≡ n
  made_long = pointwise_length p (take n values) column even ∙ length-take-le n values h

  pub product_long : length (product_values p n column values) ≡ length values
  unfolding product_values
  product_long = length_over made values (omega (arith, made_long))

  pub product_below : 0 < p → Below p values → Below p (product_values p n column values)
  unfolding product_values over
  product_below z b = below_append p made (drop (length made) values) (pointwise_below p (take n values) column even z) (below_drop p (length made) values b)

  pub product_at_lem : (i : ℕ) → i < n → get_or (product_values p n column values) i 0 ≡ (get_or values i 0 * get_or column i 0) % p
  unfolding product_values over
  product_at_lem i l =
      get_or-append made (drop (length made) values) 0 i (rw made_long l)
      ∙ pointwise_at p (take n values) column even i (rw (length-take-le n values h) l)
      ∙ ap (λ (x : ℕ). (x * get_or column i 0) % p) (get_or-take n values i 0 l)

  -- as they are made in place
  pub product_made : {part : List ℕ} → part ≡ pointwise p (take n values) column → part ++ drop n values ≡ product_values p n column values
  unfolding product_values over
  product_made e = ap₂ (λ (a : List ℕ) (i : ℕ). a ++ drop i values) e (sym made_long)
