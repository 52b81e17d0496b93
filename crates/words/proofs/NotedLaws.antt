-- The variables among the bytes: those with one bit, of which one test over all bytes says which.
use mathlib.Core.Path.{◌≡◌, refl, sym, ap, ◌∙◌, subst}
use mathlib.Core.Bool.{Bool, true, false, cond, ◌&&◌}
use mathlib.Core.List.{List}
use mathlib.Core.Logic.{◌≢◌}
use Prim.Native.Nat.{ℕ, ◌^◌, ◌<◌}
use native.Mathlib.Omega.{arith}
use lib.ListN.{length, get_or, set, length-set}
use lib.Seq.{get_or-set_same, get_or-set_other}
use lib.Count.{ones, count_trailing_zeros}
use lib.Dec.{T, eqb, ltb, eqb→eq, ltb→lt}
use borrow.Author.Tests.{ne_eqb}
use Rattle.residue.proofs.Tests.{and_left, and_right}
use Rattle.residue.proofs.level.Moduli.{below_at}
use Rattle.words.specs.ByteColumns.{noted}

variable_byte : (k : ℕ) → k < 8 → (eqb (ones (2 ^ k)) 1 ≡ true) × (count_trailing_zeros 8 (2 ^ k) ≡ k)
unfolding ones count_trailing_zeros
variable_byte k h = let t = below_at (λ k. eqb (ones (2 ^ k)) 1 && eqb (count_trailing_zeros 8 (2 ^ k)) k) 8 tt k h in
    (true_is _ (and_left (eqb (ones (2 ^ k)) 1) _ t), eqb→eq _ k (and_right (eqb (ones (2 ^ k)) 1) _ t))
  where
    true_is : (b : Bool) → T b → b ≡ true
    true_is true h = refl
    true_is false h = elim h [ ]

told : (t u : Bool) → T (cond t u true) → t ≡ true → T u
told true u v e = v
told false u v e = absurd (subst T (sym e) tt)

one_bit : (b : ℕ) → b < 256 → eqb (ones b) 1 ≡ true → b ≡ 2 ^ count_trailing_zeros 8 b
unfolding ones count_trailing_zeros
one_bit b h e = eqb→eq b _ (told (eqb (ones b) 1) (eqb b (2 ^ count_trailing_zeros 8 b))
    (below_at (λ b. cond (eqb (ones b) 1) (eqb b (2 ^ count_trailing_zeros 8 b)) true) 256 tt b h) e)

pub noted_length : (byte place : ℕ) (places : List ℕ) → length (noted byte place places) ≡ length places
unfolding noted
noted_length byte place places = go (eqb (ones byte) 1)
  where
    go : (t : Bool) → length (cond t (set places (count_trailing_zeros 8 byte) place) places) ≡ length places
    go true = length-set places (count_trailing_zeros 8 byte) place
    go false = refl

pub noted_same : (k byte place : ℕ) (places : List ℕ) → k < 8 → length places ≡ 8 → byte ≡ 2 ^ k → get_or (noted byte place places) k 0 ≡ place
unfolding noted
noted_same k byte place places h l e = rw (e, (variable_byte k h).0, (variable_byte k h).1) (get_or-set_same places k place 0 (omega arith))

pub noted_other : (k byte place : ℕ) (places : List ℕ) → byte < 256 → byte ≢ 2 ^ k → get_or (noted byte place places) k 0 ≡ get_or places k 0
unfolding noted
noted_other k byte place places h n = go (eqb (ones byte) 1) refl
  where
    go : (t : Bool) → eqb (ones byte) 1 ≡ t → get_or (cond t (set places (count_trailing_zeros 8 byte) place) places) k 0 ≡ get_or places k 0
    go true e = get_or-set_other places (count_trailing_zeros 8 byte) k place 0 (λ z. n (one_bit byte h e ∙ ap (λ (x : ℕ). 2 ^ x) (sym z)))
    go false e = refl

-- as the code has it
pub variable_low : (b : ℕ) → b < 256 → ones b ≡ 1 → count_trailing_zeros 8 b < 8
unfolding ones count_trailing_zeros
variable_low b h e = ltb→lt _ 8
    (told (eqb (ones b) 1) (ltb (count_trailing_zeros 8 b) 8) (below_at (λ b. cond (eqb (ones b) 1) (ltb (count_trailing_zeros 8 b) 8) true) 256 tt b h) (rw e refl))

pub noted_variable : (byte place : ℕ) (places : List ℕ) → ones byte ≡ 1 → set places (count_trailing_zeros 8 byte) place ≡ noted byte place places
unfolding noted
noted_variable byte place places e = rw e refl

pub noted_none : (byte place : ℕ) (places : List ℕ) → ones byte ≢ 1 → places ≡ noted byte place places
unfolding noted
noted_none byte place places n = rw (ne_eqb (ones byte) 1 n) refl
