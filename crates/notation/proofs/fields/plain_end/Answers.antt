-- `fields::plain_end` meets its contract: the first byte that is not plain stands behind the plain ones at the front.
use mathlib.Core.Path.{◌≡◌, refl, ap, ◌∙◌}
use mathlib.Core.Bool.{Bool, true, false, cond, not}
use mathlib.Core.List.{List, [], ◌∷◌}
use Prim.Native.Nat.{ℕ, suc, ◌+◌, ◌-◌}
use native.Mathlib.Omega.{arith}
use lib.ListN.{length, take, drop}
use lib.Dec.{ltb}
use borrow.Author.Tests.{ltb-false}
use Rattle.std.specs.Prelude.{Option, unwrap_or, Some, None}
use Rattle.std.specs.List.{position, position_or_len}
use Rattle.std.proofs.Common.{rules}
use Rattle.std.proofs.lemmas.Iterator.{YieldsList-from_slice}
use Rattle.std.proofs.lemmas.Iterator.Search.{position_from_yields_List}
use Rattle.notation.specs.Fields.{front, is_plain}
use Rattle.notation.proofs.fields.FieldSpans.{all_behind, front_le}
use Rattle.notation.proofs.fields.plain_end.Goals as goal

module _ (kind : ℕ → Bool) where
  abbrev other : ℕ → Bool
  other b = not (kind b)

  first_other : (l : List ℕ) → position_or_len other l ≡ front kind l
  unfolding front
  first_other [] = refl
  first_other (b ∷ l) = go (kind b) (first_other l)
    where
      go : (x : Bool) → position_or_len other l ≡ front kind l → cond (not (not x)) (1 + position_or_len other l) 0 ≡ cond x (suc (front kind l)) 0
      go true e = omega arith
      go false e = refl

  found_other : (l : List ℕ) → unwrap_or (position other l) (length l) ≡ front kind l
  found_other l = go (ltb (position_or_len other l) (length l)) refl
    where
      go : (x : Bool) → ltb (position_or_len other l) (length l) ≡ x → unwrap_or (cond x (Some (position_or_len other l)) None) (length l) ≡ front kind l
      go true e = first_other l
      go false e = let h = ltb-false _ _ e in omega (arith, h, first_other l, front_le kind l)

pub returns : goal.returns
returns c =
    let t = c.args.text.now in
    let at = c.args.at in
    let rest = take (length t - at) (drop at t) in
    let found = position_from_yields_List (λ b. not (is_plain b)) _ _ c.position.result c.position.ensures.ran (YieldsList-from_slice rest cc) (λ x b q k. (search rules, search rules)) in
    ap (λ (k : ℕ). at + k) (c.unwrap_or.ensures ∙ ap (λ (o : Option ℕ). unwrap_or o (length rest)) found ∙ found_other is_plain rest ∙ ap (front is_plain) (all_behind t at))
