-- `read::read_json` meets its contract: each refusal is the first case that holds, and a sheet that is taken stands in the lent tables.
use mathlib.Core.Path.{◌≡◌, sym, ◌∙◌, ap, subst}
use mathlib.Core.Bool.{Bool, ◌||◌}
use mathlib.Core.List.{List}
use Prim.Native.Nat.{ℕ, ◌≤◌}
use native.Mathlib.Omega.{arith}
use lib.ListN.{length}
use lib.Dec.{ltb}
use Rattle.std.proofs.Common.{Option, Some}
use Rattle.std.proofs.lemmas.Result.{err_from_is_err_and}
use Rattle.residue.specs.Layout.{over}
use Rattle.specification.specs.Answers.{number_of, refusal_of}
use Rattle.specification.specs.Lent.{lent_mut}
use Rattle.specification.specs.Refusal.{first_of}
use Rattle.specification.specs.Tables.{Tables, five_tables, too_short, written}
use Rattle.recognition.proofs.settings.ByNumber.{number_above_0}
use Rattle.json_text.specs.Tables.{DocumentRead}
use Rattle.json_text.specs.declared.documents.Shape.{Shape}
use Rattle.json_sheets.specs.Calls.{received, read_refused, taken_of, document_cases, read_outcome}
use Rattle.json_sheets.proofs.read.Takes.{read_long, read_broken, read_refused_lem, read_accepted_lem, judged_laid, few_points, few_rows, room, room_weights, assembled}
use Rattle.json_sheets.proofs.read.read_json.Goals as goal
use Rattle.json_sheets.proofs.read.read_json.Goals.{After-judge, After-read_document, In_ok-judge, Start}

-- the lent tables
abbrev tables : Start → Tables
tables s = lent_mut s.args.tables

-- the text was read, and its lists stand in tables of their sizes
module _ (w : After-read_document) where
  abbrev s : Start
  s = (goal.at.After-read_document w).Start

  abbrev c : List ℕ
  c = w.read_document.new.coefficients

  abbrev k : List ℕ
  k = w.read_document.new.counts

  abbrev l : List ℕ
  l = w.read_document.new.leads

  abbrev p : List ℕ
  p = w.read_document.new.points

  abbrev t : List ℕ
  t = w.read_document.new.standard

  abbrev v : List ℕ
  v = w.read_document.new.weights

  abbrev Said : Option Shape → Type 0
  Said r = DocumentRead s.args.text.now r c k l p t v

  short : length s.args.text.now ≤ 131072
  short = omega (arith, w.if-text-gt-TEXT.false)

-- it is that of a document, and was judged
module _ (d : After-judge) where
  abbrev w : After-read_document
  w = (goal.at.After-judge d).After-read_document

  abbrev shape : Shape
  shape = d.in-Some.shape

  said : Said w (Some shape)
  said = subst (Said w) d.in-Some.is w.read_document.ensures

  told : refusal_of d.judge.result ≡ first_of 0 (document_cases said.0 (tables (s w)) (s w).args.weights.now)
  unfolding too_short
  told = d.judge.ensures
      ∙ judged_laid said.0 (tables (s w)) (s w).args.weights.now shape (c w) (k w) (l w) (p w) (t w) (v w) said.2 said.3 _
      (ap (λ (b : Bool). b || ltb (length (s w).args.weights.now) 8) (d.too_short.ensures ∙ ap too_short d.read.ensures))

-- nothing refuses it
module _ (e : In_ok-judge) where
  abbrev d : After-judge
  d = (goal.at.In_ok-judge e).After-judge

  abbrev b : Start
  b = s (w d)

  fine : first_of 0 (document_cases (said d).0 (tables b) b.args.weights.now) ≡ 0
  unfolding refusal_of
  fine = sym (told d) ∙ ap refusal_of e.in_ok-judge.was

  small : ((shape d).n ≤ 64) × ((shape d).r ≤ 449)
  small = (
    few_points (said d).0 (tables b) b.args.weights.now (shape d) (c (w d)) (k (w d)) (l (w d)) (p (w d)) (t (w d)) (v (w d)) (said d).2 (said d).3 fine,
    few_rows (said d).0 (tables b) b.args.weights.now (shape d) (c (w d)) (k (w d)) (l (w d)) (p (w d)) (t (w d)) (v (w d)) (said d).2 (said d).3 fine,
  )

  tables_room : ((length (p (w d)) ≤ length b.args.tables.states.now) × (length (t (w d)) ≤ length b.args.tables.standard.now) × (length (l (w d)) ≤ length b.args.tables.leads.now))
      × ((length (c (w d)) ≤ length b.args.tables.coefficients.now) × (length (k (w d)) ≤ length b.args.tables.counts.now))
  tables_room = room (said d).0 (tables b) b.args.weights.now (shape d) (c (w d)) (k (w d)) (l (w d)) (p (w d)) (t (w d)) (v (w d)) (said d).2 (said d).3 fine

  weights_room : length (v (w d)) ≤ length b.args.weights.now
  weights_room = room_weights (said d).0 (tables b) b.args.weights.now (shape d) (c (w d)) (k (w d)) (l (w d)) (p (w d)) (t (w d)) (v (w d)) (said d).2 (said d).3 fine

  left : (u : Tables) (x : List ℕ) → u ≡ written (five_tables (p (w d)) (t (w d)) (l (w d)) (c (w d)) (k (w d))) (tables b) → x ≡ over (v (w d)) b.args.weights.now
      → received (record { refusal = 0; modulus = (shape d).modulus; variables = (shape d).variables; order = (shape d).order; n = (shape d).n; r = (shape d).r }) u x
      ≡ read_outcome b.args.text.now (tables b) b.args.weights.now
  left u x hu hx =
      assembled (said d).0 (tables b) b.args.weights.now (shape d) (c (w d)) (k (w d)) (l (w d)) (p (w d)) (t (w d)) (v (w d)) (said d).2 (said d).3 fine u x hu hx
      ∙ read_accepted_lem b.args.text.now (tables b) b.args.weights.now (short (w d)) (said d).0 (said d).1 fine

pub returns-then-text-gt-TEXT : goal.returns-then-text-gt-TEXT
unfolding read_refused taken_of number_of
returns-then-text-gt-TEXT c = read_long c.args.text.now (lent_mut c.args.tables) c.args.weights.now c.if-text-gt-TEXT.true

pub returns-in_default : goal.returns-in_default
unfolding read_refused taken_of number_of
returns-in_default c = let w = (goal.at.returns-in_default c).After-read_document in
    read_broken c.args.text.now (lent_mut c.args.tables) c.args.weights.now (short w) (subst (Said w) c.in_default.is c.read_document.ensures)

pub returns-in_err-judge : goal.returns-in_err-judge
unfolding read_refused taken_of refusal_of
returns-in_err-judge c =
    let p = err_from_is_err_and c.from_residual.result c.from_residual.ensures.1 in
    let e = c.in_err-judge.field-0.0 in
    let d = (goal.at.returns-in_err-judge c).After-judge in
    rw (p.1, p.2) (read_refused_lem c.args.text.now (lent_mut c.args.tables) c.args.weights.now (short (w d)) (said d).0 (said d).1 (number_of e)
    (ap refusal_of (sym c.in_err-judge.was) ∙ told d) (number_above_0 e))

pub copy-requires : goal.copy-requires
copy-requires c = (tables_room (goal.at.copy-requires c).In_ok-judge).0.0

pub copy-requires-2 : goal.copy-requires-2
copy-requires-2 c = (tables_room (goal.at.copy-requires-2 c).In_ok-judge).0.1

pub copy-requires-3 : goal.copy-requires-3
copy-requires-3 c = (tables_room (goal.at.copy-requires-3 c).In_ok-judge).0.2

pub copy-requires-4 : goal.copy-requires-4
copy-requires-4 c = (tables_room (goal.at.copy-requires-4 c).In_ok-judge).1.0

pub copy-requires-5 : goal.copy-requires-5
copy-requires-5 c = (tables_room (goal.at.copy-requires-5 c).In_ok-judge).1.1

pub copy-requires-6 : goal.copy-requires-6
copy-requires-6 c = weights_room (goal.at.copy-requires-6 c).In_ok-judge

pub overflow_cast-result : goal.overflow_cast-result
overflow_cast-result c = omega (arith, (small (goal.at.overflow_cast-result c).In_ok-judge).0)

pub overflow_cast-result-2 : goal.overflow_cast-result-2
overflow_cast-result-2 c = omega (arith, (small (goal.at.overflow_cast-result-2 c).In_ok-judge).1)

pub returns : goal.returns
unfolding taken_of written
returns c = left (goal.at.returns c).In_ok-judge _ _
    (λ i. record {
      states = c.copy.ensures i;
      standard = c.copy-2.ensures i;
      leads = c.copy-3.ensures i;
      coefficients = c.copy-4.ensures i;
      counts = c.copy-5.ensures i;
    }) c.copy-6.ensures
