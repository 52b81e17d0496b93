-- `document_text::put_document` meets its contract: member behind member, in a straight line.
use mathlib.Core.Path.{◌≡◌, sym, ◌∙◌, ap, subst}
use mathlib.Core.List.{List, [], ◌∷◌, ◌++◌, map}
use native.Mathlib.Omega.{arith}
use Prim.Native.Nat.{ℕ}
use lib.ListN.{take}
use Rattle.residue.specs.Layout.{groups}
use Rattle.writing.specs.Appending.{Room, Put}
use Rattle.writing.specs.Rows.{in_table}
use Rattle.writing.specs.Decimal.{decimal}
use Rattle.writing.proofs.TableRows.{rows_are}
use Rattle.json_text.specs.Writing.{key, list_text, rows_text}
use Rattle.json_text.specs.Documents.{Document, written}
use Rattle.json_text.specs.Documents.{coefficients_name, counts_name, leads_name, modulus_name, order_name}
use Rattle.json_text.specs.Documents.{points_name, standard_name, variables_name, weights_name}
use Rattle.json_text.specs.Tables.{document_in, Holds}
use Rattle.json_text.proofs.DocumentTexts.{from1, from2, from3, from4, from5, from6, from7, from8, from9, written_laid}
use Rattle.json_text.proofs.StraightLine.{Going, start, going_room, going_on, going_end}
use Rattle.json_text.proofs.document_text.put_document.Goals as goal
use Rattle.json_text.proofs.document_text.put_document.Goals.{After-put_byte, After-put_list_member-next, After-put_list_member-next-2, After-put_number_member-next, After-put_number_member-next-2, After-put_number_member-next-3, After-put_rows_member-next, After-put_rows_member-next-2, After-put_rows_member-next-3, After-put_rows_member-next-4, After-weights_in-w, Start}

-- What a member says of a table, said of its rows.
module _ (w k m : ℕ) (t : List ℕ) {rows : List (List ℕ)} (e : rows ≡ groups w k t) where
  wrote : (word : List ℕ) {at next : ℕ} {o mid : List ℕ} → Put at (word ++ rows_text (map (take m) rows)) o mid next → Put at (word ++ rows_text (in_table w k m t)) o mid next
  wrote word {at} {next} {o} {mid} p = subst (λ (L : List (List ℕ)). Put at (word ++ rows_text L) o mid next) (rows_are w k m t e) p

  roomy : (word : List ℕ) (at : ℕ) (o : List ℕ) → Room at (word ++ rows_text (in_table w k m t)) o → Room at (word ++ rows_text (map (take m) rows)) o
  roomy word at o h = subst (λ (L : List (List ℕ)). Room at (word ++ rows_text L) o) (sym (rows_are w k m t e)) h

-- Before the first member.
module _ (p : After-weights_in-w) where
  abbrev entry : Start
  entry = (goal.at.After-weights_in-w p).Start

  abbrev lent : List ℕ
  lent = entry.args.out.now

  abbrev given : Document
  given =
      let a = entry.args in
      document_in a.shape a.lists.coefficients.now a.lists.counts.now a.lists.leads.now a.lists.points.now a.lists.standard.now a.lists.weights.now

  -- the document, with so many weights
  abbrev weighing : ℕ → Document
  weighing w =
      let a = entry.args in
      record {
        coefficients = in_table 64 a.shape.r a.shape.n a.lists.coefficients.now;
        counts = take a.shape.n a.lists.counts.now;
        leads = in_table 8 a.shape.r a.shape.variables a.lists.leads.now;
        modulus = a.shape.modulus;
        order = a.shape.order;
        points = in_table 8 a.shape.n a.shape.variables a.lists.points.now;
        standard = in_table 8 a.shape.n a.shape.variables a.lists.standard.now;
        variables = a.shape.variables;
        weights = take w a.lists.weights.now;
      }

  abbrev due : Document
  due = weighing p.weights_in-w.result

  same : given ≡ due
  unfolding document_in
  same = sym (ap weighing p.weights_in-w.ensures)

  abbrev Left : List ℕ → List ℕ → ℕ → Type 0
  Left rest mid next = Going 0 (written given) lent rest mid next

  left1 : Left (from1 due []) lent 0
  left1 = start (ap written same ∙ written_laid due) entry.requires.room

  abbrev held : let a = entry.args in
      Holds a.shape a.lists.coefficients.now a.lists.counts.now a.lists.leads.now a.lists.points.now a.lists.standard.now a.lists.weights.now
  held = entry.requires.holds

-- Behind each member: where it began, and what is left.
module _ (c : After-put_rows_member-next) where
  abbrev begun1 : After-weights_in-w
  begun1 = (goal.at.After-put_rows_member-next c).After-weights_in-w

  left2 : Left begun1 (from2 (due begun1) []) c.put_rows_member-next.new.out c.put_rows_member-next.result
  left2 = going_on ((123 ∷ key coefficients_name) ++ rows_text (due begun1).coefficients) _ (left1 (goal.at.After-put_rows_member-next c).After-weights_in-w) (wrote 64 (entry begun1).args.shape.r (entry begun1).args.shape.n (entry begun1).args.lists.coefficients.now c.rows.ensures.value (123 ∷ key coefficients_name) c.put_rows_member-next.ensures)

module _ (c : After-put_list_member-next) where
  abbrev begun2 : After-weights_in-w
  begun2 = begun1 (goal.at.After-put_list_member-next c).After-put_rows_member-next

  left3 : Left begun2 (from3 (due begun2) []) c.put_list_member-next.new.out c.put_list_member-next.result
  left3 = going_on _ _ (left2 (goal.at.After-put_list_member-next c).After-put_rows_member-next) c.put_list_member-next.ensures

module _ (c : After-put_rows_member-next-2) where
  abbrev begun3 : After-weights_in-w
  begun3 = begun2 (goal.at.After-put_rows_member-next-2 c).After-put_list_member-next

  left4 : Left begun3 (from4 (due begun3) []) c.put_rows_member-next-2.new.out c.put_rows_member-next-2.result
  left4 = going_on ((44 ∷ key leads_name) ++ rows_text (due begun3).leads) _ (left3 (goal.at.After-put_rows_member-next-2 c).After-put_list_member-next) (wrote 8 (entry begun3).args.shape.r (entry begun3).args.shape.variables (entry begun3).args.lists.leads.now c.rows-2.ensures.value (44 ∷ key leads_name) c.put_rows_member-next-2.ensures)

module _ (c : After-put_number_member-next) where
  abbrev begun4 : After-weights_in-w
  begun4 = begun3 (goal.at.After-put_number_member-next c).After-put_rows_member-next-2

  left5 : Left begun4 (from5 (due begun4) []) c.put_number_member-next.new.out c.put_number_member-next.result
  left5 = going_on _ _ (left4 (goal.at.After-put_number_member-next c).After-put_rows_member-next-2) c.put_number_member-next.ensures

module _ (c : After-put_number_member-next-2) where
  abbrev begun5 : After-weights_in-w
  begun5 = begun4 (goal.at.After-put_number_member-next-2 c).After-put_number_member-next

  left6 : Left begun5 (from6 (due begun5) []) c.put_number_member-next-2.new.out c.put_number_member-next-2.result
  left6 = going_on _ _ (left5 (goal.at.After-put_number_member-next-2 c).After-put_number_member-next) c.put_number_member-next-2.ensures

module _ (c : After-put_rows_member-next-3) where
  abbrev begun6 : After-weights_in-w
  begun6 = begun5 (goal.at.After-put_rows_member-next-3 c).After-put_number_member-next-2

  left7 : Left begun6 (from7 (due begun6) []) c.put_rows_member-next-3.new.out c.put_rows_member-next-3.result
  left7 = going_on ((44 ∷ key points_name) ++ rows_text (due begun6).points) _ (left6 (goal.at.After-put_rows_member-next-3 c).After-put_number_member-next-2) (wrote 8 (entry begun6).args.shape.n (entry begun6).args.shape.variables (entry begun6).args.lists.points.now c.rows-3.ensures.value (44 ∷ key points_name) c.put_rows_member-next-3.ensures)

module _ (c : After-put_rows_member-next-4) where
  abbrev begun7 : After-weights_in-w
  begun7 = begun6 (goal.at.After-put_rows_member-next-4 c).After-put_rows_member-next-3

  left8 : Left begun7 (from8 (due begun7) []) c.put_rows_member-next-4.new.out c.put_rows_member-next-4.result
  left8 = going_on ((44 ∷ key standard_name) ++ rows_text (due begun7).standard) _ (left7 (goal.at.After-put_rows_member-next-4 c).After-put_rows_member-next-3) (wrote 8 (entry begun7).args.shape.n (entry begun7).args.shape.variables (entry begun7).args.lists.standard.now c.rows-4.ensures.value (44 ∷ key standard_name) c.put_rows_member-next-4.ensures)

module _ (c : After-put_number_member-next-3) where
  abbrev begun8 : After-weights_in-w
  begun8 = begun7 (goal.at.After-put_number_member-next-3 c).After-put_rows_member-next-4

  left9 : Left begun8 (from9 (due begun8) []) c.put_number_member-next-3.new.out c.put_number_member-next-3.result
  left9 = going_on _ _ (left8 (goal.at.After-put_number_member-next-3 c).After-put_rows_member-next-4) c.put_number_member-next-3.ensures

module _ (c : After-put_list_member-next-2) where
  abbrev begun9 : After-weights_in-w
  begun9 = begun8 (goal.at.After-put_list_member-next-2 c).After-put_number_member-next-3

  left10 : Left begun9 (125 ∷ []) c.put_list_member-next-2.new.out c.put_list_member-next-2.result
  left10 = going_on _ _ (left9 (goal.at.After-put_list_member-next-2 c).After-put_number_member-next-3) c.put_list_member-next-2.ensures

left11 : (c : After-put_byte) → Left (begun9 (goal.at.After-put_byte c).After-put_list_member-next-2) [] c.put_byte.new.out c.put_byte.result
left11 c = going_on (125 ∷ []) [] (left10 (goal.at.After-put_byte c).After-put_list_member-next-2) c.put_byte.ensures

pub put_rows_member-next-requires : goal.put_rows_member-next-requires
put_rows_member-next-requires c = let p = (goal.at.put_rows_member-next-requires c).After-weights_in-w in
    let d = due p in let a = (entry p).args in
    (omega arith, ((held p).few, roomy 64 a.shape.r a.shape.n a.lists.coefficients.now c.rows.ensures.value (123 ∷ key coefficients_name) _ _ (going_room ((123 ∷ key coefficients_name) ++ rows_text d.coefficients) (from2 d []) (left1 p))))

pub put_list_member-next-requires : goal.put_list_member-next-requires
put_list_member-next-requires c = let q = (goal.at.put_list_member-next-requires c).After-put_rows_member-next in
    let d = due (begun1 q) in
    going_room ((44 ∷ key counts_name) ++ list_text d.counts) (from3 d []) (left2 q)

pub put_rows_member-next-requires-2 : goal.put_rows_member-next-requires-2
put_rows_member-next-requires-2 c = let q = (goal.at.put_rows_member-next-requires-2 c).After-put_list_member-next in
    let p = begun2 q in
    let d = due p in let a = (entry p).args in
    (omega arith, ((held p).narrow, roomy 8 a.shape.r a.shape.variables a.lists.leads.now c.rows-2.ensures.value (44 ∷ key leads_name) _ _ (going_room ((44 ∷ key leads_name) ++ rows_text d.leads) (from4 d []) (left3 q))))

pub put_number_member-next-requires : goal.put_number_member-next-requires
put_number_member-next-requires c = let q = (goal.at.put_number_member-next-requires c).After-put_rows_member-next-2 in
    let d = due (begun3 q) in
    going_room ((44 ∷ key modulus_name) ++ decimal d.modulus) (from5 d []) (left4 q)

pub put_number_member-next-requires-2 : goal.put_number_member-next-requires-2
put_number_member-next-requires-2 c = let q = (goal.at.put_number_member-next-requires-2 c).After-put_number_member-next in
    let d = due (begun4 q) in
    going_room ((44 ∷ key order_name) ++ decimal d.order) (from6 d []) (left5 q)

pub put_rows_member-next-requires-3 : goal.put_rows_member-next-requires-3
put_rows_member-next-requires-3 c = let q = (goal.at.put_rows_member-next-requires-3 c).After-put_number_member-next-2 in
    let p = begun5 q in
    let d = due p in let a = (entry p).args in
    (omega arith, ((held p).narrow, roomy 8 a.shape.n a.shape.variables a.lists.points.now c.rows-3.ensures.value (44 ∷ key points_name) _ _ (going_room ((44 ∷ key points_name) ++ rows_text d.points) (from7 d []) (left6 q))))

pub put_rows_member-next-requires-4 : goal.put_rows_member-next-requires-4
put_rows_member-next-requires-4 c = let q = (goal.at.put_rows_member-next-requires-4 c).After-put_rows_member-next-3 in
    let p = begun6 q in
    let d = due p in let a = (entry p).args in
    (omega arith, ((held p).narrow, roomy 8 a.shape.n a.shape.variables a.lists.standard.now c.rows-4.ensures.value (44 ∷ key standard_name) _ _ (going_room ((44 ∷ key standard_name) ++ rows_text d.standard) (from8 d []) (left7 q))))

pub put_number_member-next-requires-3 : goal.put_number_member-next-requires-3
put_number_member-next-requires-3 c = let q = (goal.at.put_number_member-next-requires-3 c).After-put_rows_member-next-4 in
    let d = due (begun7 q) in
    going_room ((44 ∷ key variables_name) ++ decimal d.variables) (from9 d []) (left8 q)

pub put_list_member-next-requires-2 : goal.put_list_member-next-requires-2
put_list_member-next-requires-2 c = let q = (goal.at.put_list_member-next-requires-2 c).After-put_number_member-next-3 in
    let d = due (begun8 q) in
    going_room ((44 ∷ key weights_name) ++ list_text d.weights) (125 ∷ []) (left9 q)

pub put_byte-requires : goal.put_byte-requires
put_byte-requires c = going_room (125 ∷ []) [] (left10 (goal.at.put_byte-requires c).After-put_list_member-next-2)

pub returns : goal.returns
returns c = going_end (left11 (goal.at.returns c).After-put_byte)
