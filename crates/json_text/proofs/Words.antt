-- A byte, a word, and what stands behind it, as the library's methods find them.
use mathlib.Core.Path.{◌≡◌, sym, ◌∙◌, ap, ap₂}
use mathlib.Core.Bool.{Bool, cond}
use mathlib.Core.List.{List}
use Prim.Native.Nat.{ℕ, ◌+◌, ◌-◌, ◌<◌, ◌≤◌}
use lib.ListN.{length, get_or, take, drop}
use lib.Dec.{eqb, ltb}
use Rattle.std.proofs.Common.{Option, Some, None}
use Rattle.std.specs.Option.{is_some, IfSome, option_eq}
use Rattle.std.proofs.lemmas.Grind.{get_or_default_zero}
use borrow.Author.Tests.{true-ltb}
use denote.Ref.{Bor}
use Rattle.std.specs.List.{starts_with}
use Rattle.notation.proofs.fields.FieldSpans.{all_behind}
use Rattle.json_text.specs.Places.{found, broken, Cursor, after_at, here, exactly_at, behind_word}
use Rattle.json_text.specs.Said.{word_said}
use Rattle.json_text.proofs.Places.{placed_exactly, exactly_is, found_inside}

-- the byte at a place, by `get`
pub here_got : (b : ℕ) (text : List ℕ) (at : ℕ) (r : Option (Bor ℕ)) (y : Bor ℕ) → is_some r ≡ ltb at (length text) → IfSome r (λ x. x.now ≡ get_or text at x.now) → y.now ≡ b
    → option_eq (λ x y. eqb x.now y.now) r (Some y) ≡ here b text at
unfolding here
here_got b text at None y e i f = rw (← e)
here_got b text at (Some x) y e i f = let h : at < length text = true-ltb at (length text) e in
    rw (← e) (ap₂ eqb (i ∙ get_or_default_zero text at x.now h) f)

module _ (word text : List ℕ) (at : ℕ) (h : at ≤ length text) where
  pub compared : (x : Bool) → x ≡ starts_with eqb (take (length text - at) (drop at text)) word → cond x (found tt (at + length word)) broken ≡ exactly_at word text at
  compared x e = ap (λ (y : Bool). cond y (found tt (at + length word)) broken) (e ∙ ap (λ (l : List ℕ). starts_with eqb l word) (all_behind text at)) ∙ sym (exactly_is word text at h)

  -- What was said of the word, and the value behind it.
  module _ (r : Option ℕ) (said : word_said r ≡ exactly_at word text at) where
    pub no_word : {A : Type 0} (q : Cursor A) → r ≡ None → behind_word word q text at ≡ broken
    unfolding behind_word after_at word_said
    no_word q e = rw (← said, e)

    module _ (next : ℕ) (e : r ≡ Some next) where
      pub word_inside : next ≤ length text
      unfolding word_said
      word_inside = found_inside (placed_exactly word) h (sym said ∙ ap word_said e)

      pub word_value : {A : Type 0} (q : Cursor A) → behind_word word q text at ≡ q text next
      unfolding behind_word after_at word_said
      word_value q = rw (← said, e)
