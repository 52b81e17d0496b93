-- `document_parts::read_front` meets its contract: member behind member.
use mathlib.Core.Path.{◌≡◌, sym, ◌∙◌, subst}
use mathlib.Core.List.{List, ◌∷◌}
use Prim.Native.Nat.{ℕ, ◌≤◌}
use native.Mathlib.Omega.{arith}
use lib.ListN.{length}
use Rattle.std.proofs.Common.{Some}
use Rattle.residue.specs.Sizes.{most_rows, coefficients_size, counts_size, leads_size}
use Rattle.json_text.specs.Writing.{key}
use Rattle.json_text.specs.Documents.{coefficients_name, counts_name, leads_name}
use Rattle.json_text.specs.Reading.{read_list, read_rows}
use Rattle.json_text.specs.Places.{Found, list_at, rows_at, member_at}
use Rattle.json_text.specs.Said.{ListRead, RowsRead}
use Rattle.json_text.proofs.Places.{found_inside}
use Rattle.json_text.proofs.PlacedDocuments.{placed_list, placed_rows, placed_member}
use Rattle.json_text.proofs.Stored.{zeros_room, zeros_listed}
use Rattle.json_text.proofs.Words.{no_word, word_inside, word_value}
use Rattle.json_text.proofs.DocumentAt.{front_1, front_2, front_3, front_all}
use Rattle.json_text.proofs.document_parts.read_front.Goals as goal
use Rattle.json_text.proofs.document_parts.read_front.Goals.{In_ok-next, In_ok-rows, In_ok-next-2, In_ok-counted, In_ok-next-3, In_ok-leading}

-- Behind the name of the coefficients.
module _ (k : In_ok-next) where
  abbrev text : List ℕ
  text = k.args.text.now

  rows_named : member_at 123 coefficients_name rows_at text 0 ≡ rows_at text k.in_ok-next.next
  rows_named = word_value (123 ∷ key coefficients_name) text 0 (omega arith) _ k.read_word.ensures _ k.in_ok-next.was rows_at

-- Behind the coefficients.
module _ (k : In_ok-rows) where
  abbrev named_rows : In_ok-next
  named_rows = (goal.at.In_ok-rows k).In_ok-next

  abbrev behind_rows : ℕ
  behind_rows = k.in_ok-rows.rows.next

  rows_found : RowsRead 64 most_rows (member_at 123 coefficients_name rows_at k.args.text.now 0) k.read_rows.new.out (Some k.in_ok-rows.rows)
  rows_found =
      subst (λ (x : Found (List (List ℕ))). RowsRead 64 most_rows x k.read_rows.new.out (Some k.in_ok-rows.rows)) (sym (rows_named named_rows))
      (subst (RowsRead 64 most_rows (rows_at k.args.text.now k.in_ok-next.next) k.read_rows.new.out) k.in_ok-rows.was k.read_rows.ensures)

  rows_inside : behind_rows ≤ length k.args.text.now
  rows_inside = found_inside (placed_member read_rows rows_at placed_rows 123 coefficients_name) (omega arith) rows_found.1

-- Behind the name of the counts.
module _ (k : In_ok-next-2) where
  abbrev at_rows : In_ok-rows
  at_rows = (goal.at.In_ok-next-2 k).In_ok-rows

  counted_named : member_at 44 counts_name list_at k.args.text.now (behind_rows at_rows) ≡ list_at k.args.text.now k.in_ok-next-2.next
  counted_named = word_value (44 ∷ key counts_name) k.args.text.now (behind_rows at_rows) (rows_inside at_rows) _ k.read_word-2.ensures _ k.in_ok-next-2.was list_at

-- Behind the counts.
module _ (k : In_ok-counted) where
  abbrev named_counted : In_ok-next-2
  named_counted = (goal.at.In_ok-counted k).In_ok-next-2

  abbrev behind_counted : ℕ
  behind_counted = k.in_ok-counted.counted.next

  counted_found : ListRead (member_at 44 counts_name list_at k.args.text.now (behind_rows (at_rows named_counted))) k.args.counts.now k.read_list.new.out (Some k.in_ok-counted.counted)
  counted_found =
      subst (λ (x : Found (List ℕ)). ListRead x k.args.counts.now k.read_list.new.out (Some k.in_ok-counted.counted)) (sym (counted_named named_counted))
      (subst (ListRead (list_at k.args.text.now k.in_ok-next-2.next) k.args.counts.now k.read_list.new.out) k.in_ok-counted.was k.read_list.ensures)

  counted_inside : behind_counted ≤ length k.args.text.now
  counted_inside = found_inside (placed_member read_list list_at placed_list 44 counts_name) (rows_inside (at_rows named_counted)) counted_found.1

-- Behind the name of the leads.
module _ (k : In_ok-next-3) where
  abbrev at_counted : In_ok-counted
  at_counted = (goal.at.In_ok-next-3 k).In_ok-counted

  leading_named : member_at 44 leads_name rows_at k.args.text.now (behind_counted at_counted) ≡ rows_at k.args.text.now k.in_ok-next-3.next
  leading_named = word_value (44 ∷ key leads_name) k.args.text.now (behind_counted at_counted) (counted_inside at_counted) _ k.read_word-3.ensures _ k.in_ok-next-3.was rows_at

-- Behind the leads.
module _ (k : In_ok-leading) where
  abbrev named_leading : In_ok-next-3
  named_leading = (goal.at.In_ok-leading k).In_ok-next-3

  abbrev behind_leading : ℕ
  behind_leading = k.in_ok-leading.leading.next

  leading_found : RowsRead 8 most_rows (member_at 44 leads_name rows_at k.args.text.now (behind_counted (at_counted named_leading))) k.read_rows-2.new.out (Some k.in_ok-leading.leading)
  leading_found =
      subst (λ (x : Found (List (List ℕ))). RowsRead 8 most_rows x k.read_rows-2.new.out (Some k.in_ok-leading.leading)) (sym (leading_named named_leading))
      (subst (RowsRead 8 most_rows (rows_at k.args.text.now k.in_ok-next-3.next) k.read_rows-2.new.out) k.in_ok-leading.was k.read_rows-2.ensures)

  leading_inside : behind_leading ≤ length k.args.text.now
  leading_inside = found_inside (placed_member read_rows rows_at placed_rows 44 leads_name) (counted_inside (at_counted named_leading)) leading_found.1

pub returns-in_err-next : goal.returns-in_err-next
returns-in_err-next c =
    let e = no_word (123 ∷ key coefficients_name) c.args.text.now 0 (omega arith) _ c.read_word.ensures rows_at c.in_err-next.was in
    rw c.from_residual.ensures (front_1 c.args.text.now e)

pub read_rows-requires : goal.read_rows-requires
read_rows-requires c =
    let room = zeros_room coefficients_size c.args.coefficients.now c.requires.0 in
    record { at_in_bounds = word_inside (123 ∷ key coefficients_name) c.args.text.now 0 (omega arith) _ c.read_word.ensures _ c.in_ok-next.was; places_value = room.0; out_value = room.1 }

pub returns-in_err-rows : goal.returns-in_err-rows
returns-in_err-rows c =
    let j = (goal.at.returns-in_err-rows c).In_ok-next in
    let e = rows_named j ∙ subst (RowsRead 64 most_rows (rows_at c.args.text.now c.in_ok-next.next) c.read_rows.new.out) c.in_err-rows.was c.read_rows.ensures in
    rw c.from_residual-in_err-rows.ensures (front_1 c.args.text.now e)

pub read_word-requires-2 : goal.read_word-requires-2
read_word-requires-2 c = rows_inside (goal.at.read_word-requires-2 c).In_ok-rows

pub returns-in_err-next-2 : goal.returns-in_err-next-2
returns-in_err-next-2 c =
    let k = (goal.at.returns-in_err-next-2 c).In_ok-rows in
    let e = no_word (44 ∷ key counts_name) c.args.text.now (behind_rows k) (rows_inside k) _ c.read_word-2.ensures list_at c.in_err-next-2.was in
    rw c.from_residual-in_err-next-2.ensures (front_2 c.args.text.now (rows_found k).1 e)

pub read_list-requires : goal.read_list-requires
read_list-requires c =
    let k = (goal.at.read_list-requires c).In_ok-rows in
    word_inside (44 ∷ key counts_name) c.args.text.now (behind_rows k) (rows_inside k) _ c.read_word-2.ensures _ c.in_ok-next-2.was

pub returns-in_err-counted : goal.returns-in_err-counted
returns-in_err-counted c =
    let j = (goal.at.returns-in_err-counted c).In_ok-next-2 in
    let e = counted_named j ∙ subst (ListRead (list_at c.args.text.now c.in_ok-next-2.next) c.args.counts.now c.read_list.new.out) c.in_err-counted.was c.read_list.ensures in
    rw c.from_residual-in_err-counted.ensures (front_2 c.args.text.now (rows_found (at_rows j)).1 e)

pub read_word-requires-3 : goal.read_word-requires-3
read_word-requires-3 c = counted_inside (goal.at.read_word-requires-3 c).In_ok-counted

pub returns-in_err-next-3 : goal.returns-in_err-next-3
returns-in_err-next-3 c =
    let k = (goal.at.returns-in_err-next-3 c).In_ok-counted in
    let e = no_word (44 ∷ key leads_name) c.args.text.now (behind_counted k) (counted_inside k) _ c.read_word-3.ensures rows_at c.in_err-next-3.was in
    rw c.from_residual-in_err-next-3.ensures (front_3 c.args.text.now (rows_found (at_rows (named_counted k))).1 (counted_found k).1 e)

pub read_rows-requires-2 : goal.read_rows-requires-2
read_rows-requires-2 c =
    let k = (goal.at.read_rows-requires-2 c).In_ok-counted in
    let room = zeros_room leads_size c.args.leads.now c.requires.2 in
    record { at_in_bounds = word_inside (44 ∷ key leads_name) c.args.text.now (behind_counted k) (counted_inside k) _ c.read_word-3.ensures _ c.in_ok-next-3.was; places_value = room.0; out_value = room.1 }

pub returns-in_err-leading : goal.returns-in_err-leading
returns-in_err-leading c =
    let j = (goal.at.returns-in_err-leading c).In_ok-next-3 in
    let e = leading_named j ∙ subst (RowsRead 8 most_rows (rows_at c.args.text.now c.in_ok-next-3.next) c.read_rows-2.new.out) c.in_err-leading.was c.read_rows-2.ensures in
    rw c.from_residual-in_err-leading.ensures (front_3 c.args.text.now (rows_found (at_rows (named_counted (at_counted j)))).1 (counted_found (at_counted j)).1 e)

pub returns : goal.returns
returns c =
    let k = (goal.at.returns c).In_ok-leading in record {
      of_coefficients = (rows_found (at_rows (named_counted (at_counted (named_leading k))))).0;
      of_counts = (counted_found (at_counted (named_leading k))).0;
      of_leads = (leading_found k).0;
      goes_on = front_all c.args.text.now (rows_found (at_rows (named_counted (at_counted (named_leading k))))).1 (counted_found (at_counted (named_leading k))).1 (leading_found k).1;
      inside = leading_inside k;
      rows_are = (rows_found (at_rows (named_counted (at_counted (named_leading k))))).2;
      n_is = (counted_found (at_counted (named_leading k))).2;
      leading_are = (leading_found k).2;
      in_coefficients = (rows_found (at_rows (named_counted (at_counted (named_leading k))))).3;
      in_counts = zeros_listed counts_size (counted_found (at_counted (named_leading k))).0 c.args.counts.now _ c.requires.1 (counted_found (at_counted (named_leading k))).3;
      in_leads = (leading_found k).3;
    }
