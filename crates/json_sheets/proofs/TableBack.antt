-- What a lent table begins with, read back as rows.
use mathlib.Core.Path.{◌≡◌, sym, ◌∙◌, ap}
use mathlib.Core.Bool.{true}
use mathlib.Core.List.{List}
use Prim.Native.Nat.{ℕ, ◌*◌, ◌≤◌}
use native.Mathlib.Omega.{arith}
use lib.ListN.{length, take, drop, length-take}
use Rattle.residue.specs.Lists.{Among}
use Rattle.residue.specs.Layout.{fill, in_places, over, begins}
use Rattle.residue.proofs.Tests.{of_true}
use Rattle.residue.proofs.bytes.Equality.{same_is}
use Rattle.specification.proofs.agreement.Refusals.{over_begins}
use Rattle.writing.specs.Rows.{in_table}
use Rattle.writing.proofs.TableRows.{table_behind}

-- what a lent list begins with
pub begins_with : (a t : List ℕ) → begins a t ≡ true → take (length a) t ≡ a
unfolding begins
begins_with a t e = sym (same_is a (take (length a) t) (of_true e))

pub begins_long : (a t : List ℕ) → begins a t ≡ true → length a ≤ length t
begins_long a t e = let l = ap (λ (z : List ℕ). length z) (begins_with a t e) in omega (arith, length-take (length a) t)

pub table_read : (w N n m : ℕ) (L : List (List ℕ)) (t : List ℕ) → begins (fill N (in_places w L)) t ≡ true → length L ≡ n → w * n ≤ N → m ≤ w
    → ((a : List ℕ) → Among a L → length a ≡ m) → in_table w n m t ≡ L
unfolding over
table_read w N n m L t b l k h e =
    ap (in_table w n m) (sym (over_begins (fill N (in_places w L)) t (of_true b))) ∙ table_behind w N n m L (drop (length (fill N (in_places w L))) t) l k h e
