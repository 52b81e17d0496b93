-- `document_parts::read_end` meets its contract: member behind member, and the end of the text.
use mathlib.Core.Path.{◌≡◌, sym, ◌∙◌, ap, subst}
use mathlib.Core.List.{List, ◌∷◌}
use Prim.Native.Nat.{ℕ, ◌≤◌}
use lib.ListN.{length}
use Rattle.std.proofs.Common.{Some}
use Rattle.json_text.specs.Writing.{key}
use Rattle.json_text.specs.Documents.{variables_name, weights_name}
use Rattle.json_text.specs.Reading.{read_number}
use Rattle.json_text.specs.Places.{Found, found, number_at, list_at, member_at}
use Rattle.json_text.specs.Said.{number_said, ListRead}
use Rattle.json_text.proofs.Places.{found_inside, placed_number}
use Rattle.json_text.proofs.PlacedDocuments.{placed_member}
use Rattle.json_text.proofs.Stored.{zeros_listed}
use Rattle.json_text.proofs.Words.{no_word, word_inside, word_value}
use Rattle.json_text.proofs.DocumentAt.{end_1, end_2, end_not, end_all}
use Rattle.json_text.proofs.document_parts.read_end.Goals as goal
use Rattle.json_text.proofs.document_parts.read_end.Goals.{In_ok-next, In_ok-variables, In_ok-next-2, In_ok-weighed}

-- Behind the name of the variables.
module _ (k : In_ok-next) where
  abbrev text : List ℕ
  text = k.args.text.now

  abbrev at : ℕ
  at = k.args.at

  variables_named : member_at 44 variables_name number_at text at ≡ number_at text k.in_ok-next.next
  variables_named = word_value (44 ∷ key variables_name) text at k.requires.at_in_bounds _ k.read_word.ensures _ k.in_ok-next.was number_at

-- Behind the variables.
module _ (k : In_ok-variables) where
  abbrev first : In_ok-next
  first = (goal.at.In_ok-variables k).In_ok-next

  abbrev m : ℕ
  m = k.in_ok-variables.variables.value

  abbrev behind_variables : ℕ
  behind_variables = k.in_ok-variables.variables.next

  variables : member_at 44 variables_name number_at (text first) (at first) ≡ found m behind_variables
  unfolding number_said
  variables = variables_named first ∙ sym k.read_number.ensures ∙ ap number_said k.in_ok-variables.was

  variables_inside : behind_variables ≤ length (text first)
  variables_inside = found_inside (placed_member read_number number_at placed_number 44 variables_name) k.requires.at_in_bounds variables

-- Behind the name of the weights.
module _ (k : In_ok-next-2) where
  abbrev second : In_ok-variables
  second = (goal.at.In_ok-next-2 k).In_ok-variables

  weights_named : member_at 44 weights_name list_at (text (first second)) (behind_variables second) ≡ list_at (text (first second)) k.in_ok-next-2.next
  weights_named = word_value (44 ∷ key weights_name) (text (first second)) (behind_variables second) (variables_inside second) _ k.read_word-2.ensures _ k.in_ok-next-2.was list_at

-- Behind the weights.
module _ (k : In_ok-weighed) where
  abbrev third : In_ok-next-2
  third = (goal.at.In_ok-weighed k).In_ok-next-2

  abbrev lent : List ℕ
  lent = k.args.weights.now

  weights : ListRead (member_at 44 weights_name list_at (text (first (second third))) (behind_variables (second third))) lent k.read_list.new.out (Some k.in_ok-weighed.weighed)
  weights =
      subst (λ (x : Found (List ℕ)). ListRead x lent k.read_list.new.out (Some k.in_ok-weighed.weighed)) (sym (weights_named third))
      (subst (ListRead (list_at k.args.text.now k.in_ok-next-2.next) lent k.read_list.new.out) k.in_ok-weighed.was k.read_list.ensures)

pub returns-in_err-next : goal.returns-in_err-next
returns-in_err-next c = rw c.from_residual.ensures (λ a b d p o u v. end_1 _ _ a b d p o u v (no_word (44 ∷ key variables_name) c.args.text.now c.args.at c.requires.at_in_bounds _ c.read_word.ensures number_at c.in_err-next.was))

pub read_number-requires : goal.read_number-requires
read_number-requires c = word_inside (44 ∷ key variables_name) c.args.text.now c.args.at c.requires.at_in_bounds _ c.read_word.ensures _ c.in_ok-next.was

pub returns-in_err-variables : goal.returns-in_err-variables
unfolding number_said
returns-in_err-variables c = let k = (goal.at.returns-in_err-variables c).In_ok-next in
    rw c.from_residual-in_err-variables.ensures (λ a b d p o u v. end_1 _ _ a b d p o u v (variables_named k ∙ sym c.read_number.ensures ∙ ap number_said c.in_err-variables.was))

pub read_word-requires-2 : goal.read_word-requires-2
read_word-requires-2 c = variables_inside (goal.at.read_word-requires-2 c).In_ok-variables

pub returns-in_err-next-2 : goal.returns-in_err-next-2
returns-in_err-next-2 c = let k = (goal.at.returns-in_err-next-2 c).In_ok-variables in
    let e = no_word (44 ∷ key weights_name) c.args.text.now (behind_variables k) (variables_inside k) _ c.read_word-2.ensures list_at c.in_err-next-2.was in
    rw c.from_residual-in_err-next-2.ensures (λ a b d p o u v. end_2 _ _ a b d p o u v (variables k) e)

pub read_list-requires : goal.read_list-requires
read_list-requires c = let k = (goal.at.read_list-requires c).In_ok-variables in
    word_inside (44 ∷ key weights_name) c.args.text.now (behind_variables k) (variables_inside k) _ c.read_word-2.ensures _ c.in_ok-next-2.was

pub returns-in_err-weighed : goal.returns-in_err-weighed
returns-in_err-weighed c = let j = (goal.at.returns-in_err-weighed c).In_ok-next-2 in
    let e = weights_named j ∙ subst (ListRead (list_at c.args.text.now c.in_ok-next-2.next) c.args.weights.now c.read_list.new.out) c.in_err-weighed.was c.read_list.ensures in
    rw c.from_residual-in_err-weighed.ensures (λ a b d p o u v. end_2 _ _ a b d p o u v (variables (second j)) e)

pub returns-then-not-is_end : goal.returns-then-not-is_end
returns-then-not-is_end c = let k = (goal.at.returns-then-not-is_end c).In_ok-weighed in
    let e = sym (c.if-not-is_end.true) ∙ c.is_end.ensures in
    λ a b d p o u v. end_not _ _ a b d p o u v (variables (second (third k))) (weights k).1 e

pub returns : goal.returns
returns c = let k = (goal.at.returns c).In_ok-weighed in
    let e = sym (c.if-not-is_end.false) ∙ c.is_end.ensures in record {
      of_weights = (weights k).0;
      goes_on = λ a b d p o u v. end_all _ _ a b d p o u v (variables (second (third k))) (weights k).1 e;
      count_is = (weights k).2;
      in_weights = zeros_listed 8 (weights k).0 (lent k) _ c.requires.weights_value (weights k).3;
    }
