-- Laws of the header's last field: the settings behind `mod `, and the order word.
use mathlib.Core.Path.{◌≡◌, refl, sym, ap, ap₂, ◌∙◌}
use mathlib.Core.Bool.{Bool, true, false, ◌&&◌}
use mathlib.Core.List.{List, [], ◌∷◌, ◌++◌}
use mathlib.Core.Option.{Option, some, none, map}
use Prim.Native.Nat.{ℕ, ◌-◌}
use lib.ListN.{length, take, drop, replicate}
use lib.Dec.{eqb}
use lib.Pointwise.{pointwise, bytes_decides}
use Rattle.residue.specs.Lists.{same_list}
use Rattle.std.specs.Prelude.{nat_eq, Some, None}
use Rattle.notation.specs.Fields.{front}
use Rattle.notation.specs.Digits.{is_digit}
use Rattle.notation.specs.Forms.{mod_word, lex_word, grlex_word, grevlex_word, weight_word, weights_of, Ordered, unweighted, weighted}
use Rattle.notation.specs.Forms.{default_order, order_word, header, modulus_and_order, last_field}
use Rattle.notation.specs.Said.{leading_said, LeadingRead}
use Rattle.notation.specs.declared.digits.Leading.{Leading}
use Rattle.std.proofs.lemmas.List.{take-append-drop}
use Rattle.notation.proofs.fields.FieldSpans.{all_behind}

-- lists compared pair by pair
pub same_pairs : (k l : List ℕ) → pointwise nat_eq k l ≡ same_list k l
unfolding same_list
same_pairs [] [] = refl
same_pairs [] (b ∷ l) = refl
same_pairs (a ∷ k) [] = refl
same_pairs (a ∷ k) (b ∷ l) = ap (λ (r : Bool). eqb a b && r) (same_pairs k l)

-- different lists
unlike : (k l : List ℕ) → (k ≡ l → ⊥) → same_list k l ≡ false
unlike k l n = sym (same_pairs k l) ∙ go (pointwise nat_eq k l) refl
  where
    go : (x : Bool) → pointwise nat_eq k l ≡ x → x ≡ false
    go true e = absurd (n ((bytes_decides k l).0 e))
    go false e = refl

-- the order word, with zeros for weights
module _ (m : ℕ) (l ws : List ℕ) (z : ws ≡ replicate 8 0) where
  zeros : {o : Option Ordered} (k : ℕ) → o ≡ some (unweighted k) → some (k, ws) ≡ o
  zeros k e = ap (λ (w : List ℕ). some (k, w)) z ∙ sym e

  pub word_none : l ≡ [] → some (default_order, ws) ≡ order_word m l
  unfolding order_word same_list
  word_none e = zeros default_order (ap (order_word m) e)

  pub word_lex : l ≡ lex_word → some (0, ws) ≡ order_word m l
  unfolding order_word same_list
  word_lex e = zeros 0 (ap (order_word m) e)

  pub word_grlex : l ≡ grlex_word → some (1, ws) ≡ order_word m l
  unfolding order_word same_list
  word_grlex e = zeros 1 (ap (order_word m) e)

  pub word_grevlex : l ≡ grevlex_word → some (2, ws) ≡ order_word m l
  unfolding order_word same_list
  word_grevlex e = zeros 2 (ap (order_word m) e)

-- `weight` and the weights, or no order
module _ (m : ℕ) (l : List ℕ) where
  pub word_weights : pointwise nat_eq (take 7 l) weight_word ≡ true → map weighted (weights_of m (drop 7 l)) ≡ order_word m l
  unfolding order_word same_list
  word_weights h = sym (ap (order_word m) (sym (take-append-drop 7 l) ∙ ap (λ (w : List ℕ). w ++ drop 7 l) ((bytes_decides (take 7 l) weight_word).0 h)))

  pub word_other : (l ≡ [] → ⊥) → (l ≡ lex_word → ⊥) → (l ≡ grlex_word → ⊥) → (l ≡ grevlex_word → ⊥) → pointwise nat_eq (take 7 l) weight_word ≡ false
      → none ≡ order_word m l
  unfolding order_word
  word_other n e f g h = sym (simp (unlike l [] n, unlike l lex_word e, unlike l grlex_word f, unlike l grevlex_word g, sym (same_pairs (take 7 l) weight_word) ∙ h))

-- digits, read or not, and what stands behind them
module _ (m : ℕ) (l : List ℕ) where
  pub no_digits : LeadingRead l None → none ≡ modulus_and_order m l
  unfolding header leading_said modulus_and_order
  no_digits d = ap (λ (p : Option ℕ). header m p (order_word m (drop (front is_digit l) l))) d.said

  pub digits_and : (n : Leading) (word : Option Ordered) → LeadingRead l (Some n) → word ≡ order_word m (take (length l - n.count) (drop n.count l))
      → header m (some n.size) word ≡ modulus_and_order m l
  unfolding leading_said modulus_and_order
  digits_and n word d e = ap₂ (header m) d.said (e ∙ ap (order_word m) (all_behind l n.count ∙ ap (λ (j : ℕ). drop j l) d.ends))

-- `mod `
module _ (m : ℕ) (l : List ℕ) where
  pub last_other : same_list (take 4 l) mod_word ≡ false → none ≡ last_field m l
  unfolding last_field
  last_other e = sym (simp e)

  pub last_mod : same_list (take 4 l) mod_word ≡ true → modulus_and_order m (drop 4 l) ≡ last_field m l
  unfolding last_field
  last_mod e = sym (simp e)
