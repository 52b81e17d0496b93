-- `forms::read_order` meets its contract: the words are told apart by their lengths and bytes.
use mathlib.Core.Path.{◌≡◌, sym, ap, ◌∙◌, subst}
use mathlib.Core.List.{List, []}
use mathlib.Core.Option.{map}
use Prim.Native.Nat.{ℕ, ◌<◌}
use native.Mathlib.Omega.{arith}
use lib.ListN.{length}
use Rattle.std.proofs.Common.{rules}
use Rattle.std.proofs.lemmas.Slice.Eq.{HasBytesAt, text_from_reads}
use Rattle.notation.specs.Forms.{lex_word, grlex_word, grevlex_word, weights_of, weighted}
use Rattle.notation.specs.Said.{order_said}
use Rattle.notation.proofs.Numbers.{order_says}
use Rattle.notation.proofs.forms.LastField.{word_none, word_lex, word_grlex, word_grevlex, word_other, word_weights}
use Rattle.notation.proofs.forms.read_order.Goals as goal

-- the length and the bytes of each word
module _ {l : List ℕ} where
  lex_bytes : l ≡ lex_word → (length l ≡ 4) × HasBytesAt l 0 lex_word
  lex_bytes e = (ap length e, subst (λ (k : List ℕ). HasBytesAt k 0 lex_word) (sym e) (search rules))

  grlex_bytes : l ≡ grlex_word → (length l ≡ 6) × HasBytesAt l 0 grlex_word
  grlex_bytes e = (ap length e, subst (λ (k : List ℕ). HasBytesAt k 0 grlex_word) (sym e) (search rules))

  grevlex_bytes : l ≡ grevlex_word → (length l ≡ 8) × HasBytesAt l 0 grevlex_word
  grevlex_bytes e = (ap length e, subst (λ (k : List ℕ). HasBytesAt k 0 grevlex_word) (sym e) (search rules))

  no_bytes : length l < 1 → l ≡ []
  no_bytes h = text_from_reads l [] (omega arith) tt

pub returns-in-empty : goal.returns-in-empty
unfolding order_said
returns-in-empty c = order_says (word_none _ _ _ c.requires (no_bytes c.in-empty.len_below))

pub returns-in-32 : goal.returns-in-32
unfolding order_said
returns-in-32 c = order_says (word_lex _ _ _ c.requires (text_from_reads c.args.word.now lex_word (omega arith) (search rules)))

pub returns-in-32-2 : goal.returns-in-32-2
unfolding order_said
returns-in-32-2 c = order_says (word_grlex _ _ _ c.requires (text_from_reads c.args.word.now grlex_word (omega arith) (search rules)))

pub returns-in-32-3 : goal.returns-in-32-3
unfolding order_said
returns-in-32-3 c = order_says (word_grevlex _ _ _ c.requires (text_from_reads c.args.word.now grevlex_word (omega arith) (search rules)))

pub returns-in_err-strip_prefix-in_default : goal.returns-in_err-strip_prefix-in_default
unfolding order_said
returns-in_err-strip_prefix-in_default c =
    rw c.from_residual.ensures (order_says (word_other c.args.names c.args.word.now
    (λ e. let h = ap length e in grind arith)
    (λ e. let h = lex_bytes e in grind arith)
    (λ e. let h = grlex_bytes e in grind arith)
    (λ e. let h = grevlex_bytes e in grind arith)
    c.in_err-strip_prefix-in_default.ensures.cases))

pub returns-in_ok-strip_prefix-in_default : goal.returns-in_ok-strip_prefix-in_default
unfolding order_said
returns-in_ok-strip_prefix-in_default c = let found = c.in_ok-strip_prefix-in_default.ensures.cases in
    order_says (c.read_weights.ensures.said ∙ ap (λ (l : List ℕ). map weighted (weights_of c.args.names l)) found.1 ∙ word_weights _ _ found.0)
