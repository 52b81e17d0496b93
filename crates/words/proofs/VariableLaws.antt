-- The columns of the variables, gathered from the last point to the first.
use mathlib.Core.Path.{◌≡◌, refl, sym, ap, ap₂, ◌∙◌, subst}
use mathlib.Core.List.{List, [], ◌∷◌}
use Prim.Native.Nat.{ℕ, suc, ◌+◌, ◌*◌, ◌-◌, ◌%◌, ◌^◌, ◌<◌, ◌≤◌}
use native.Mathlib.Nat.{lt_of_lt_of_le, sub-zero}
use native.Mathlib.Omega.{arith}
use lib.ListN.{length, get_or, take, drop, replicate, length-drop}
use lib.Pow.{pow_mono}
use lib.Seq.{drop-length, drop-cons}
use Rattle.residue.specs.Layout.{groups}
use Rattle.residue.proofs.Layouts.{zeros_at}
use Rattle.residue.proofs.Places.{length_groups, groups_at}
use Rattle.residue.specs.Words.{word_of, column_of}
use Rattle.words.proofs.ColumnLaws.{column_lt, column_none}

module _ (n : ℕ) (points : List ℕ) where
  abbrev at : ℕ → List ℕ → ℕ
  at k P = get_or P k 0

  -- the column of variable k at the last j points
  abbrev pub behind : ℕ → ℕ → ℕ
  behind j k = column_of (λ (P : List ℕ). get_or P k 0) (drop (n - j) (groups 8 n points))

  long : length (groups 8 n points) ≡ n
  long = length_groups 8 n points

  pub behind_none : (columns : List ℕ) → columns ≡ replicate 8 0 → (k : ℕ) → get_or columns k 0 ≡ behind 0 k
  behind_none columns e k = ap (λ (l : List ℕ). get_or l k 0) e ∙ zeros_at 8 k ∙ sym (column_none (at k)) ∙ ap (column_of (at k)) (sym (subst (λ (i : ℕ). drop i (groups 8 n points) ≡ []) (long ∙ sym (sub-zero n)) (drop-length (groups 8 n points))))

  pub behind_small : (j k : ℕ) → j < n → n ≤ 64 → behind j k < 2 ^ 63
  behind_small j k h few = lt_of_lt_of_le (column_lt (at k) (drop (n - j) (groups 8 n points))) (pow_mono (counted (length-drop (n - j) (groups 8 n points)) long))
    where
      counted : {x y : ℕ} → x ≡ y - (n - j) → y ≡ n → x ≤ 63
      counted e f = omega arith

  column_cons : (φ : List ℕ → ℕ) (P : List ℕ) (S : List (List ℕ)) → column_of φ (P ∷ S) ≡ column_of φ S * 2 + φ P % 2
  unfolding column_of word_of
  column_cons φ P S = refl

  pub behind_more : (j k i w : ℕ) → j < n → i ≡ n - 1 - j → w ≡ 8 → behind (j + 1) k ≡ behind j k * 2 + get_or (take w (drop (8 * i) points)) k 0 % 2
  behind_more j k i w h e u =
      ap (λ (x : ℕ). column_of (at k) (drop x (groups 8 n points))) next ∙ ap (column_of (at k)) (drop-cons (groups 8 n points) i [] (omega (arith, long)))
      ∙ column_cons (at k) (get_or (groups 8 n points) i []) (drop (suc i) (groups 8 n points))
      ∙ ap₂ (λ (x : ℕ) (P : List ℕ). column_of (at k) (drop x (groups 8 n points)) * 2 + get_or P k 0 % 2) after
      (groups_at 8 n i points [] (omega arith) ∙ ap (λ (x : ℕ). take x (drop (8 * i) points)) (sym u))
    where
      next : n - (j + 1) ≡ i
      next = omega arith

      after : suc i ≡ n - j
      after = omega arith

  pub behind_all : (j k : ℕ) → j ≡ n → behind j k ≡ column_of (λ (P : List ℕ). get_or P k 0) (groups 8 n points)
  behind_all j k e = let z : n - j ≡ 0 = omega arith in ap (λ (i : ℕ). column_of (at k) (drop i (groups 8 n points))) z
