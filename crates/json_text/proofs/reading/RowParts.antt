-- A row that was read into a part of a table, or nowhere.
use mathlib.Core.Path.{◌≡◌, ◌∙◌, ap₂}
use mathlib.Core.List.{List, ◌++◌}
use Prim.Native.Nat.{ℕ, suc, ◌+◌, ◌*◌, ◌<◌, ◌≤◌}
use native.Mathlib.Nat.{mul-le-mul_left}
use native.Mathlib.Omega.{arith}
use lib.ListN.{length, take, drop, length-drop}
use lib.Seq.{length-take-le}
use borrow.Author.Tests.{lt-ltb, le-ltb}
use Rattle.residue.specs.Layout.{over, with_place}
use Rattle.json_text.specs.Places.{Found, row_in}
use Rattle.json_text.specs.Said.{ListRead, RowRead}
use Rattle.json_text.specs.declared.reading.Numbers.{Numbers}
use Rattle.std.proofs.Common.{Option, Some, None}

pub place_fits : (w places row N : ℕ) → w * places ≡ N → row < places → w * row + w ≤ N
place_fits w places row N e h = let k : w * suc row ≤ w * places = mul-le-mul_left w h in omega arith

module _ (w places row : ℕ) (x : Found (List ℕ)) (t : List ℕ) where
  pub row_part : (ys : List ℕ) (k : ℕ) → row < places → w * places ≡ length t → k ≡ w → (r : Option Numbers) → ListRead x (take k (drop (w * row) t)) ys r
      → RowRead w places row x t (take (w * row) t ++ (ys ++ drop k (drop (w * row) t))) r
  unfolding row_in with_place
  row_part ys k h e f (Some r) p =
      let l : length (take k (drop (w * row) t)) ≡ w = length-take-le k (drop (w * row) t) (omega (arith, length-drop (w * row) t, place_fits w places row (length t) e h)) ∙ f in (
        p.0,
        p.1,
        p.2,
        rw (lt-ltb row places h)
            (ap₂ (λ (y : List ℕ) (j : ℕ). take (w * row) t ++ (y ++ drop j (drop (w * row) t)))
            (p.3 ∙ ap₂ (λ (n j : ℕ). over (take n p.0) (take j (drop (w * row) t))) l f) f),
      )
  row_part ys k h e f None p = p

  pub row_nowhere : (b ys : List ℕ) → places ≤ row → (r : Option Numbers) → ListRead x b ys r → RowRead w places row x t t r
  unfolding row_in
  row_nowhere b ys h (Some r) p = (p.0, p.1, p.2, rw (le-ltb row places h))
  row_nowhere b ys h None p = p
