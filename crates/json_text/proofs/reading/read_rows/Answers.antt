-- `reading::read_rows` meets its contract: the rows from the place on are those read and the rest of the reading.
use mathlib.Core.Path.{◌≡◌, refl, sym, ◌∙◌, ap, subst}
use mathlib.Core.List.{List, [], ◌∷◌, ◌++◌}
use Prim.Native.Nat.{ℕ, ◌+◌, ◌*◌, ◌≤◌, ◌<◌}
use native.Mathlib.Omega.{arith}
use lib.ListN.{length, replicate, length-append}
use Rattle.residue.specs.Layout.{fill, in_places}
use Rattle.residue.proofs.Places.{no_places}
use Rattle.json_text.specs.Places.{list_at}
use Rattle.json_text.proofs.Places.{here_inside}
use Rattle.json_text.proofs.Stored.{row_in_lem, lengths_told}
use Rattle.json_text.proofs.RowLoops.{Rest, rows_none, rows_empty, rows_opens, rows_broken, rows_place, rows_closed, rows_comma, rows_neither}
use Rattle.json_text.specs.Said.{RowRead, columns_of, common_length, lengths_of}
use Rattle.std.proofs.Common.{Option, Some}
use Rattle.json_text.proofs.reading.read_rows.Goals as goal
use Rattle.json_text.proofs.reading.read_rows.Goals.{In_ok-size, Start}

-- The place where a row was read.
module _ (k : In_ok-size) where
  abbrev text : List ℕ
  text = k.args.text.now

  abbrev at : ℕ
  at = k.args.at

  abbrev width : ℕ
  width = k.args.width

  abbrev places : ℕ
  places = k.args.places

  abbrev i : ℕ
  i = k.loop-size.i

  abbrev rows : List (List ℕ)
  rows = k.loop-size.invariant.0

  abbrev here_text : i ≤ length text
  here_text = k.loop-size.invariant.1

  abbrev rest : Rest text at rows i
  rest = k.loop-size.invariant.4

  abbrev size : ℕ
  size = k.in_ok-size.field-0.count

  abbrev next : ℕ
  next = k.in_ok-size.field-0.next

  abbrev left : List ℕ
  left = k.read_row.new.out

  -- the row
  row : RowRead width places k.loop-size.count (list_at text i) k.loop-size.out left (Some k.in_ok-size.field-0)
  row = subst (RowRead width places k.loop-size.count (list_at text i) k.loop-size.out left) k.in_ok-size.was k.read_row.ensures

  abbrev line : List ℕ
  line = row.0

  place : (i < next) × (next ≤ length text)
  place = rows_place text at rows i here_text rest line next (sym row.1)

  kept : left ≡ fill (width * places) (in_places width (rows ++ (line ∷ [])))
  kept = row.3 ∙ row_in_lem width places rows line k.loop-size.out k.loop-size.count k.loop-size.invariant.2 k.loop-size.invariant.6

  more : k.loop-size.count + 1 ≡ length (rows ++ (line ∷ []))
  more = omega (arith, k.loop-size.invariant.2, length-append rows (line ∷ []))

  columns_kept : (columns : Option ℕ) → ((L : List (List ℕ)) (l : List ℕ) → k.loop-size.count ≡ length L → k.loop-size.columns ≡ common_length L → size ≡ length l → columns ≡ common_length (L ++ (l ∷ []))) → columns ≡ common_length (rows ++ (line ∷ []))
  columns_kept columns e = e rows line k.loop-size.invariant.2 k.loop-size.invariant.5 row.2

-- no row yet: the table as it was lent
no_rows : (s : Start) → s.args.out.now ≡ fill (s.args.width * s.args.places) (in_places s.args.width [])
no_rows s = s.requires.out_value ∙ ap (λ (n : ℕ). replicate n 0) (sym s.requires.places_value) ∙ no_places s.args.width (s.args.width * s.args.places)

pub returns-then-not-is_here : goal.returns-then-not-is_here
returns-then-not-is_here c = rows_none _ _ (sym c.is_here.ensures ∙ c.if-not-is_here.true)

pub returns-then-is_here : goal.returns-then-is_here
unfolding columns_of common_length lengths_of
returns-then-is_here c = let e = sym c.is_here.ensures ∙ c.if-not-is_here.false in
    ([], rows_empty _ _ e (sym c.is_here-2.ensures ∙ c.if-is_here.true), refl, no_rows (goal.at.returns-then-is_here c).Start)

pub loop-size-init : goal.loop-size-init
unfolding columns_of common_length
loop-size-init c = let e = sym c.is_here.ensures ∙ c.if-not-is_here.false in
    let h = here_inside 91 _ _ e in
    ([], omega arith, refl, omega arith, rows_opens _ _ e (sym c.is_here-2.ensures ∙ c.if-is_here.false), refl, no_rows (goal.at.loop-size-init c).Start)

pub returns-in_err-size : goal.returns-in_err-size
returns-in_err-size c = rw c.from_residual.ensures (rows_broken _ _ c.loop-size.invariant.0 _ c.loop-size.invariant.1 c.loop-size.invariant.4 (sym (subst (RowRead c.args.width c.args.places c.loop-size.count (list_at c.args.text.now c.loop-size.i) c.loop-size.out c.read_row.new.out) c.in_err-size.was c.read_row.ensures)))

pub overflow_add-result-then-is_here-2 : goal.overflow_add-result-then-is_here-2
overflow_add-result-then-is_here-2 c = let h = here_inside 93 _ _ (sym c.is_here-in-loop-size.ensures ∙ c.if-is_here-2.true) in record { fits = omega arith }

pub returns-then-is_here-2 : goal.returns-then-is_here-2
returns-then-is_here-2 c = let k = (goal.at.returns-then-is_here-2 c).In_ok-size in (
  rows k ++ (line k ∷ []),
  rows_closed (text k) (at k) (rows k) (i k) (here_text k) (rest k) (line k) (next k) (sym (row k).1) (sym c.is_here-in-loop-size.ensures ∙ c.if-is_here-2.true),
  lengths_told (rows k ++ (line k ∷ [])) _ _ (more k) (columns_kept k c.common_length-columns.result c.common_length-columns.ensures),
  kept k,
)

pub returns-then-not-is_here-2 : goal.returns-then-not-is_here-2
returns-then-not-is_here-2 c = let k = (goal.at.returns-then-not-is_here-2 c).In_ok-size in
    rows_neither (text k) (at k) (rows k) (i k) (here_text k) (rest k) (line k) (next k) (sym (row k).1) (sym c.is_here-in-loop-size.ensures ∙ c.if-is_here-2.false) (sym c.is_here-in-loop-size-2.ensures ∙ c.if-not-is_here-2.true)

pub overflow_add-i-in-loop-size : goal.overflow_add-i-in-loop-size
overflow_add-i-in-loop-size c = let h = here_inside 44 _ _ (sym c.is_here-in-loop-size-2.ensures ∙ c.if-not-is_here-2.false) in record { fits = omega arith }

pub loop-size-smaller : goal.loop-size-smaller
loop-size-smaller c = let k = (goal.at.loop-size-smaller c).In_ok-size in let h = here_inside 44 (text k) (next k) (sym c.is_here-in-loop-size-2.ensures ∙ c.if-not-is_here-2.false) in let p = place k in omega arith

pub loop-size-preserved : goal.loop-size-preserved
loop-size-preserved c =
    let k = (goal.at.loop-size-preserved c).In_ok-size in
    let h = here_inside 44 (text k) (next k) (sym c.is_here-in-loop-size-2.ensures ∙ c.if-not-is_here-2.false) in
    let p = place k in
    let q = c.loop-size.invariant.3 in (
      rows k ++ (line k ∷ []),
      omega arith,
      more k,
      omega arith,
      rows_comma (text k) (at k) (rows k) (i k) (here_text k) (rest k) (line k) (next k) (sym (row k).1) (sym c.is_here-in-loop-size.ensures ∙ c.if-is_here-2.false) (sym c.is_here-in-loop-size-2.ensures ∙ c.if-not-is_here-2.false),
      columns_kept k c.common_length-columns.result c.common_length-columns.ensures,
      kept k,
    )
