-- `documents::read_document` meets its contract: the three parts of the text, and the tests of their lengths.
use mathlib.Core.Path.{◌≡◌, sym, ◌∙◌, ap, subst}
use mathlib.Core.Bool.{Bool, cond, ◌&&◌}
use mathlib.Core.List.{List}
use mathlib.Core.Option.{some, none}
use Rattle.std.proofs.Common.{Option}
use Prim.Native.Nat.{ℕ}
use lib.ListN.{length}
use lib.Dec.{eqb}
use Rattle.json_text.specs.Documents.{Document, fitting}
use Rattle.json_text.specs.Reading.{read}
use Rattle.json_text.specs.Places.{whole_at}
use Rattle.json_text.specs.Said.{lengths_of}
use Rattle.json_text.specs.Parts.{FrontIn, FrontRead, MiddleIn, MiddleRead, EndIn, EndRead}
use Rattle.json_text.specs.declared.reading.Lengths.{Lengths}
use Rattle.json_text.specs.declared.document_parts.Front.{Front}
use Rattle.json_text.specs.declared.document_parts.Middle.{Middle}
use Rattle.json_text.specs.declared.document_parts.End.{End}
use Rattle.json_text.proofs.DocumentAt.{read_found, fits_told, read_whole, read_broken, shape_told}
use Rattle.json_text.proofs.documents.read_document.Goals as goal
use Rattle.json_text.proofs.documents.read_document.Goals.{In_ok-front, In_ok-middle, In_ok-end, After-weights_in}

-- Where the first three members were read.
module _ (k : In_ok-front) where
  abbrev text : List ℕ
  text = k.args.text.now

  abbrev coefficients : List ℕ
  coefficients = k.read_front.new.coefficients

  abbrev counts : List ℕ
  counts = k.read_front.new.counts

  abbrev leads : List ℕ
  leads = k.read_front.new.leads

  abbrev n : ℕ
  n = k.in_ok-front.front.n

  abbrev leading : Lengths
  leading = k.in_ok-front.front.leads

  abbrev behind_front : ℕ
  behind_front = k.in_ok-front.front.next

  front : FrontIn text k.in_ok-front.front coefficients counts leads
  front = subst (λ (x : Option Front). FrontRead text x coefficients counts leads) k.in_ok-front.was k.read_front.ensures

-- Where the next four were read.
module _ (k : In_ok-middle) where
  abbrev first : In_ok-front
  first = (goal.at.In_ok-middle k).In_ok-front

  abbrev points : List ℕ
  points = k.read_middle.new.points

  abbrev standard : List ℕ
  standard = k.read_middle.new.standard

  abbrev p : ℕ
  p = k.in_ok-middle.middle.modulus

  abbrev o : ℕ
  o = k.in_ok-middle.middle.order

  abbrev behind_middle : ℕ
  behind_middle = k.in_ok-middle.middle.next

  abbrev pointed : Lengths
  pointed = k.in_ok-middle.middle.points

  abbrev standing : Lengths
  standing = k.in_ok-middle.middle.standard

  middle : MiddleIn (text first) (behind_front first) k.in_ok-middle.middle points standard
  middle =
      subst (λ (x : Option Middle). MiddleRead (text first) (behind_front first) x points standard) k.in_ok-middle.was k.read_middle.ensures

-- Where the last two were read.
module _ (k : In_ok-end) where
  abbrev second : In_ok-middle
  second = (goal.at.In_ok-end k).In_ok-middle

  abbrev weights : List ℕ
  weights = k.read_end.new.weights

  abbrev m : ℕ
  m = k.in_ok-end.end.variables

  end : EndIn (text (first second)) (behind_middle second) k.in_ok-end.end weights
  end = subst (λ (x : Option End). EndRead (text (first second)) (behind_middle second) x weights) k.in_ok-end.was k.read_end.ensures

  abbrev document : Document
  document = record {
    coefficients = (front (first second)).of_coefficients;
    counts = (front (first second)).of_counts;
    leads = (front (first second)).of_leads;
    modulus = p second;
    order = o second;
    points = (middle second).of_points;
    standard = (middle second).of_standard;
    variables = m;
    weights = end.of_weights;
  }

  whole : read (text (first second)) ≡ cond (fitting document) (some document) none
  whole = read_found (text (first second)) document ((front (first second)).goes_on ∙ (middle second).goes_on _ _ _ ∙ end.goes_on _ _ _ _ _ _ _)

  abbrev r : ℕ
  r = (leading (first second)).count

  r_is : r ≡ length document.leads
  unfolding lengths_of
  r_is = ap (λ (x : Lengths). x.count) (front (first second)).leading_are

-- Where the lengths were tested.
module _ (k : After-weights_in) where
  abbrev third : In_ok-end
  third = (goal.at.After-weights_in k).In_ok-end

  abbrev tests : Bool
  tests = k.is_table.result && k.is_table-2.result && k.is_table-3.result && k.is_table-4.result && eqb k.in_ok-end.end.count k.weights_in.result

  tested : tests ≡ fitting (document third)
  tested =
      let l = second third in
      let f = first l in
      let e1 = k.is_table.ensures _ (middle l).pointed_are in
      let e2 = k.is_table-2.ensures _ (middle l).standing_are in
      let e3 = k.is_table-3.ensures _ (front f).leading_are in
      let e4 = k.is_table-4.ensures _ (front f).rows_are in
      fits_told (document third) (n f) (r third) (front f).n_is (r_is third) _ _ _ _ _ _ e1 e2 e3 e4 (end third).count_is k.weights_in.ensures

  outcome : (b : Bool) → fitting (document third) ≡ b → read (text (first (second third))) ≡ cond b (some (document third)) none
  outcome b e = whole third ∙ ap (λ (x : Bool). cond x (some (document third)) none) e

pub returns-in_err-front : goal.returns-in_err-front
returns-in_err-front c =
    let t = c.args.text.now in
    let l = c.read_front in
    rw c.from_residual.ensures (read_broken t (subst (λ (x : Option Front). FrontRead t x l.new.coefficients l.new.counts l.new.leads) c.in_err-front.was l.ensures))

pub returns-in_err-middle : goal.returns-in_err-middle
returns-in_err-middle c =
    let k = (goal.at.returns-in_err-middle c).In_ok-front in
    let l = c.read_middle in
    let e = subst (λ (x : Option Middle). MiddleRead (text k) (behind_front k) x l.new.points l.new.standard) c.in_err-middle.was l.ensures in
    rw c.from_residual-in_err-middle.ensures (read_broken (text k) ((front k).goes_on ∙ e _ _ _))

pub returns-in_err-end : goal.returns-in_err-end
returns-in_err-end c =
    let k = (goal.at.returns-in_err-end c).In_ok-middle in
    let t = text (first k) in
    let l = c.read_end in
    let e = subst (λ (x : Option End). EndRead t (behind_middle k) x l.new.weights) c.in_err-end.was l.ensures in
    rw c.from_residual-in_err-end.ensures (read_whole t ∙ ap (whole_at t) ((front (first k)).goes_on ∙ (middle k).goes_on _ _ _) ∙ e _ _ _ _ _ _ _)

pub returns-then-not-fits : goal.returns-then-not-fits
returns-then-not-fits c =
    let k = (goal.at.returns-then-not-fits c).After-weights_in in
    outcome k _ (sym (tested k) ∙ c.if-not-fits.true)

pub returns : goal.returns
returns c =
    let k = (goal.at.returns c).After-weights_in in
    let t = third k in
    let l = second t in
    let f = first l in (
      document t,
      outcome k _ (sym (tested k) ∙ c.if-not-fits.false),
      shape_told (document t) (n f) (r t) (front f).n_is (r_is t),
      record {
        in_coefficients = (front f).in_coefficients;
        in_counts = (front f).in_counts;
        in_leads = (front f).in_leads;
        in_points = (middle l).in_points;
        in_standard = (middle l).in_standard;
        in_weights = (end t).in_weights;
      },
    )
