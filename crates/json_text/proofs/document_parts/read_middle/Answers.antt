-- `document_parts::read_middle` meets its contract: member behind member.
use mathlib.Core.Path.{◌≡◌, sym, ◌∙◌, ap, subst}
use mathlib.Core.List.{List, ◌∷◌}
use Prim.Native.Nat.{ℕ, ◌≤◌}
use lib.ListN.{length}
use Rattle.std.proofs.Common.{Some}
use Rattle.residue.specs.Sizes.{most_points, states_size, standard_size}
use Rattle.json_text.specs.Writing.{key}
use Rattle.json_text.specs.Documents.{modulus_name, order_name, points_name, standard_name}
use Rattle.json_text.specs.Reading.{read_number, read_rows}
use Rattle.json_text.specs.Places.{Found, found, number_at, rows_at, member_at}
use Rattle.json_text.specs.Said.{number_said, RowsRead}
use Rattle.json_text.proofs.Places.{found_inside, placed_number}
use Rattle.json_text.proofs.PlacedDocuments.{placed_rows, placed_member}
use Rattle.json_text.proofs.Stored.{zeros_room}
use Rattle.json_text.proofs.Words.{no_word, word_inside, word_value}
use Rattle.json_text.proofs.DocumentAt.{middle_1, middle_2, middle_3, middle_4, middle_all}
use Rattle.json_text.proofs.document_parts.read_middle.Goals as goal
use Rattle.json_text.proofs.document_parts.read_middle.Goals.{In_ok-next, In_ok-modulus, In_ok-next-2, In_ok-order, In_ok-next-3, In_ok-pointed, In_ok-next-4, In_ok-standing}

-- Behind the name of the modulus.
module _ (k : In_ok-next) where
  abbrev text : List ℕ
  text = k.args.text.now

  abbrev at : ℕ
  at = k.args.at

  modulus_named : member_at 44 modulus_name number_at text at ≡ number_at text k.in_ok-next.next
  modulus_named = word_value (44 ∷ key modulus_name) text at k.requires.at_in_bounds _ k.read_word.ensures _ k.in_ok-next.was number_at

-- Behind the modulus.
module _ (k : In_ok-modulus) where
  abbrev named_modulus : In_ok-next
  named_modulus = (goal.at.In_ok-modulus k).In_ok-next

  abbrev behind_modulus : ℕ
  behind_modulus = k.in_ok-modulus.modulus.next

  modulus_found : member_at 44 modulus_name number_at k.args.text.now k.args.at ≡ found k.in_ok-modulus.modulus.value behind_modulus
  unfolding number_said
  modulus_found = modulus_named named_modulus ∙ sym k.read_number.ensures ∙ ap number_said k.in_ok-modulus.was

  modulus_inside : behind_modulus ≤ length k.args.text.now
  modulus_inside = found_inside (placed_member read_number number_at placed_number 44 modulus_name) k.requires.at_in_bounds modulus_found

-- Behind the name of the order.
module _ (k : In_ok-next-2) where
  abbrev at_modulus : In_ok-modulus
  at_modulus = (goal.at.In_ok-next-2 k).In_ok-modulus

  order_named : member_at 44 order_name number_at k.args.text.now (behind_modulus at_modulus) ≡ number_at k.args.text.now k.in_ok-next-2.next
  order_named = word_value (44 ∷ key order_name) k.args.text.now (behind_modulus at_modulus) (modulus_inside at_modulus) _ k.read_word-2.ensures _ k.in_ok-next-2.was number_at

-- Behind the order.
module _ (k : In_ok-order) where
  abbrev named_order : In_ok-next-2
  named_order = (goal.at.In_ok-order k).In_ok-next-2

  abbrev behind_order : ℕ
  behind_order = k.in_ok-order.order.next

  order_found : member_at 44 order_name number_at k.args.text.now (behind_modulus (at_modulus named_order)) ≡ found k.in_ok-order.order.value behind_order
  unfolding number_said
  order_found = order_named named_order ∙ sym k.read_number-2.ensures ∙ ap number_said k.in_ok-order.was

  order_inside : behind_order ≤ length k.args.text.now
  order_inside = found_inside (placed_member read_number number_at placed_number 44 order_name) (modulus_inside (at_modulus named_order)) order_found

-- Behind the name of the points.
module _ (k : In_ok-next-3) where
  abbrev at_order : In_ok-order
  at_order = (goal.at.In_ok-next-3 k).In_ok-order

  pointed_named : member_at 44 points_name rows_at k.args.text.now (behind_order at_order) ≡ rows_at k.args.text.now k.in_ok-next-3.next
  pointed_named = word_value (44 ∷ key points_name) k.args.text.now (behind_order at_order) (order_inside at_order) _ k.read_word-3.ensures _ k.in_ok-next-3.was rows_at

-- Behind the points.
module _ (k : In_ok-pointed) where
  abbrev named_pointed : In_ok-next-3
  named_pointed = (goal.at.In_ok-pointed k).In_ok-next-3

  abbrev behind_pointed : ℕ
  behind_pointed = k.in_ok-pointed.pointed.next

  pointed_found : RowsRead 8 most_points (member_at 44 points_name rows_at k.args.text.now (behind_order (at_order named_pointed))) k.read_rows.new.out (Some k.in_ok-pointed.pointed)
  pointed_found =
      subst (λ (x : Found (List (List ℕ))). RowsRead 8 most_points x k.read_rows.new.out (Some k.in_ok-pointed.pointed)) (sym (pointed_named named_pointed))
      (subst (RowsRead 8 most_points (rows_at k.args.text.now k.in_ok-next-3.next) k.read_rows.new.out) k.in_ok-pointed.was k.read_rows.ensures)

  pointed_inside : behind_pointed ≤ length k.args.text.now
  pointed_inside = found_inside (placed_member read_rows rows_at placed_rows 44 points_name) (order_inside (at_order named_pointed)) pointed_found.1

-- Behind the name of the standard monomials.
module _ (k : In_ok-next-4) where
  abbrev at_pointed : In_ok-pointed
  at_pointed = (goal.at.In_ok-next-4 k).In_ok-pointed

  standing_named : member_at 44 standard_name rows_at k.args.text.now (behind_pointed at_pointed) ≡ rows_at k.args.text.now k.in_ok-next-4.next
  standing_named = word_value (44 ∷ key standard_name) k.args.text.now (behind_pointed at_pointed) (pointed_inside at_pointed) _ k.read_word-4.ensures _ k.in_ok-next-4.was rows_at

-- Behind the standard monomials.
module _ (k : In_ok-standing) where
  abbrev named_standing : In_ok-next-4
  named_standing = (goal.at.In_ok-standing k).In_ok-next-4

  abbrev behind_standing : ℕ
  behind_standing = k.in_ok-standing.standing.next

  standing_found : RowsRead 8 most_points (member_at 44 standard_name rows_at k.args.text.now (behind_pointed (at_pointed named_standing))) k.read_rows-2.new.out (Some k.in_ok-standing.standing)
  standing_found =
      subst (λ (x : Found (List (List ℕ))). RowsRead 8 most_points x k.read_rows-2.new.out (Some k.in_ok-standing.standing)) (sym (standing_named named_standing))
      (subst (RowsRead 8 most_points (rows_at k.args.text.now k.in_ok-next-4.next) k.read_rows-2.new.out) k.in_ok-standing.was k.read_rows-2.ensures)

  standing_inside : behind_standing ≤ length k.args.text.now
  standing_inside = found_inside (placed_member read_rows rows_at placed_rows 44 standard_name) (pointed_inside (at_pointed named_standing)) standing_found.1

pub returns-in_err-next : goal.returns-in_err-next
returns-in_err-next c =
    let e = no_word (44 ∷ key modulus_name) c.args.text.now c.args.at c.requires.at_in_bounds _ c.read_word.ensures number_at c.in_err-next.was in
    rw c.from_residual.ensures (λ a b d. middle_1 _ _ a b d e)

pub read_number-requires : goal.read_number-requires
read_number-requires c =
    word_inside (44 ∷ key modulus_name) c.args.text.now c.args.at c.requires.at_in_bounds _ c.read_word.ensures _ c.in_ok-next.was

pub returns-in_err-modulus : goal.returns-in_err-modulus
unfolding number_said
returns-in_err-modulus c =
    let j = (goal.at.returns-in_err-modulus c).In_ok-next in
    let e = modulus_named j ∙ sym c.read_number.ensures ∙ ap number_said c.in_err-modulus.was in
    rw c.from_residual-in_err-modulus.ensures (λ a b d. middle_1 _ _ a b d e)

pub read_word-requires-2 : goal.read_word-requires-2
read_word-requires-2 c = modulus_inside (goal.at.read_word-requires-2 c).In_ok-modulus

pub returns-in_err-next-2 : goal.returns-in_err-next-2
returns-in_err-next-2 c =
    let k = (goal.at.returns-in_err-next-2 c).In_ok-modulus in
    let e = no_word (44 ∷ key order_name) c.args.text.now (behind_modulus k) (modulus_inside k) _ c.read_word-2.ensures number_at c.in_err-next-2.was in
    rw c.from_residual-in_err-next-2.ensures (λ a b d. middle_2 _ _ a b d (modulus_found k) e)

pub read_number-requires-2 : goal.read_number-requires-2
read_number-requires-2 c =
    let k = (goal.at.read_number-requires-2 c).In_ok-modulus in
    word_inside (44 ∷ key order_name) c.args.text.now (behind_modulus k) (modulus_inside k) _ c.read_word-2.ensures _ c.in_ok-next-2.was

pub returns-in_err-order : goal.returns-in_err-order
unfolding number_said
returns-in_err-order c =
    let j = (goal.at.returns-in_err-order c).In_ok-next-2 in
    let e = order_named j ∙ sym c.read_number-2.ensures ∙ ap number_said c.in_err-order.was in
    rw c.from_residual-in_err-order.ensures (λ a b d. middle_2 _ _ a b d (modulus_found (at_modulus j)) e)

pub read_word-requires-3 : goal.read_word-requires-3
read_word-requires-3 c = order_inside (goal.at.read_word-requires-3 c).In_ok-order

pub returns-in_err-next-3 : goal.returns-in_err-next-3
returns-in_err-next-3 c =
    let k = (goal.at.returns-in_err-next-3 c).In_ok-order in
    let e = no_word (44 ∷ key points_name) c.args.text.now (behind_order k) (order_inside k) _ c.read_word-3.ensures rows_at c.in_err-next-3.was in
    rw c.from_residual-in_err-next-3.ensures (λ a b d. middle_3 _ _ a b d (modulus_found (at_modulus (named_order k))) (order_found k) e)

pub read_rows-requires : goal.read_rows-requires
read_rows-requires c =
    let k = (goal.at.read_rows-requires c).In_ok-order in
    let room = zeros_room states_size c.args.points.now c.requires.points_value.0 in
    record { at_in_bounds = word_inside (44 ∷ key points_name) c.args.text.now (behind_order k) (order_inside k) _ c.read_word-3.ensures _ c.in_ok-next-3.was; places_value = room.0; out_value = room.1 }

pub returns-in_err-pointed : goal.returns-in_err-pointed
returns-in_err-pointed c =
    let j = (goal.at.returns-in_err-pointed c).In_ok-next-3 in
    let e = pointed_named j ∙ subst (RowsRead 8 most_points (rows_at c.args.text.now c.in_ok-next-3.next) c.read_rows.new.out) c.in_err-pointed.was c.read_rows.ensures in
    rw c.from_residual-in_err-pointed.ensures (λ a b d. middle_3 _ _ a b d (modulus_found (at_modulus (named_order (at_order j)))) (order_found (at_order j)) e)

pub read_word-requires-4 : goal.read_word-requires-4
read_word-requires-4 c = pointed_inside (goal.at.read_word-requires-4 c).In_ok-pointed

pub returns-in_err-next-4 : goal.returns-in_err-next-4
returns-in_err-next-4 c =
    let k = (goal.at.returns-in_err-next-4 c).In_ok-pointed in
    let e = no_word (44 ∷ key standard_name) c.args.text.now (behind_pointed k) (pointed_inside k) _ c.read_word-4.ensures rows_at c.in_err-next-4.was in
    rw c.from_residual-in_err-next-4.ensures (λ a b d. middle_4 _ _ a b d (modulus_found (at_modulus (named_order (at_order (named_pointed k))))) (order_found (at_order (named_pointed k))) (pointed_found k).1 e)

pub read_rows-requires-2 : goal.read_rows-requires-2
read_rows-requires-2 c =
    let k = (goal.at.read_rows-requires-2 c).In_ok-pointed in
    let room = zeros_room standard_size c.args.standard.now c.requires.points_value.1 in
    record { at_in_bounds = word_inside (44 ∷ key standard_name) c.args.text.now (behind_pointed k) (pointed_inside k) _ c.read_word-4.ensures _ c.in_ok-next-4.was; places_value = room.0; out_value = room.1 }

pub returns-in_err-standing : goal.returns-in_err-standing
returns-in_err-standing c =
    let j = (goal.at.returns-in_err-standing c).In_ok-next-4 in
    let e = standing_named j ∙ subst (RowsRead 8 most_points (rows_at c.args.text.now c.in_ok-next-4.next) c.read_rows-2.new.out) c.in_err-standing.was c.read_rows-2.ensures in
    rw c.from_residual-in_err-standing.ensures (λ a b d. middle_4 _ _ a b d (modulus_found (at_modulus (named_order (at_order (named_pointed (at_pointed j)))))) (order_found (at_order (named_pointed (at_pointed j)))) (pointed_found (at_pointed j)).1 e)

pub returns : goal.returns
returns c =
    let k = (goal.at.returns c).In_ok-standing in
    record {
      of_points = (pointed_found (at_pointed (named_standing k))).0;
      of_standard = (standing_found k).0;
      goes_on = λ a b d. middle_all _ _ a b d (modulus_found (at_modulus (named_order (at_order (named_pointed (at_pointed (named_standing k))))))) (order_found (at_order (named_pointed (at_pointed (named_standing k))))) (pointed_found (at_pointed (named_standing k))).1 (standing_found k).1;
      inside = standing_inside k;
      pointed_are = (pointed_found (at_pointed (named_standing k))).2;
      standing_are = (standing_found k).2;
      in_points = (pointed_found (at_pointed (named_standing k))).3;
      in_standard = (standing_found k).3;
    }
