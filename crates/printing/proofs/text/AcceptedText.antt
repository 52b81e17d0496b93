-- The points and values of an accepted text, as printing asks for them.
use mathlib.Core.Path.{◌≡◌, refl, sym, ◌∙◌, ap, ap₂, subst}
use mathlib.Core.Bool.{Bool, true, false}
use mathlib.Core.List.{List, []}
use Prim.Native.Nat.{ℕ, suc, ◌-◌, ◌%◌, ◌<◌, ◌≤◌}
use native.Mathlib.Nat.{zero-add, mod-lt}
use native.Mathlib.Omega.{arith}
use lib.IntN.{ℤ}
use lib.ListN.{length, get_or, take, length-map, length-replicate, replicate}
use lib.Dec.{T, eqb}
use borrow.Author.Tests.{eq-eqb, ne_eqb, eqb-true, eqb-false, lt-ltb, le-ltb}
use Rattle.residue.specs.Lists.{Among}
use Rattle.residue.specs.Vector.{Below}
use Rattle.residue.specs.Layout.{fill, over, length_fill}
use Rattle.residue.proofs.level.Moduli.{modulus_range}
use Rattle.residue.proofs.vector.Vectors.{map_at}
use Rattle.residue.proofs.Layouts.{take_fill, over_all}
use Rattle.specification.specs.declared.settings.Settings.{Settings}
use Rattle.specification.specs.Levels.{in_range, residues}
use Rattle.specification.specs.Counted.{Counted, points_of, entered_all, gathered}
use Rattle.specification.specs.Tables.{states_table, points_in}
use Rattle.specification.specs.Refusal.{first_of}
use Rattle.specification.proofs.ideal.Lists.{among_map}
use Rattle.specification.specs.Points.{Points, IsPoint}
use Rattle.specification.proofs.agreement.Points.{residues_same, length_residues}
use Rattle.specification.specs.Settings.{no_weights, Accepted}
use Rattle.specification.proofs.counted.Gathered.{among_gathered, once_gathered}
use Rattle.construction.specs.Drawing.{PointsGiven}
use Rattle.construction.proofs.drawing.Given as G
use Rattle.comma_text.specs.reading.Answers.{Refusal}
use Rattle.notation.specs.Fields.{records_of}
use Rattle.comma_text.specs.reading.Text.{Contents, Valued, TextOutcome, header_in, no_header, form_fault, contents_of, entry_point, entry_value, valued_point, valued_points}
use Rattle.comma_text.specs.reading.Text.{first_outside, first_value, first_values, settings_by, short_buffers, read_cases, not_refused}
use Rattle.comma_text.specs.reading.Text.{text_accepted, text_decided, text_refused, read_outcome}
use Rattle.writing.specs.Appending.{put_at, Put}
use Rattle.printing.specs.Lines.{refusal_line}
use Rattle.printing.specs.Text.{lines_of, settings_read, lines_read, lines_for, printed, print_outcome}
use Rattle.comma_text.proofs.reading.EntryLengths.{AllLong, point_long}
use Rattle.comma_text.proofs.reading.FirstValues.{few_points, value_below}
use Rattle.comma_text.proofs.reading.AcceptedPoints.{no_fault, all_long, all_inside}
use Rattle.comma_text.proofs.reading.HeaderWeights.{header_eight}
use Rattle.comma_text.proofs.reading.SaidText.{says_found}
use Rattle.comma_text.proofs.reading.PassedText.{said_in, text_passed, range_take}

-- the distinct points of what is said, with their counts
abbrev pub points_said : Contents → Counted
points_said e = gathered (points_of (valued_points e))

pub record Says (e : Contents) : Type 0 where
  pub settings : Accepted (settings_by e.header)
  pub eight : length e.header.weights ≡ 8
  pub most : length (points_said e) ≤ 64
  pub long : AllLong (suc e.header.variables) e.entries
  pub inside : (zs : List ℤ) → Among zs e.entries → T (in_range e.header.modulus zs)

pub says : (text : List ℕ) (short : Bool)
    → (first_of not_refused (read_cases text (form_fault (header_in (records_of text)) (records_of text)) (said_in text) short)).refusal ≡ 0 → Says (said_in text)
unfolding contents_of first_outside gathered entered_all
says text short h =
    let t = records_of text in
    let e : Contents = said_in text in
    let w = text_passed text short h in
    record {
      settings = w.settings;
      eight = header_eight e.header (says_found text w.form).header;
      most = few_points [] (valued_points e) none_few w.many;
      long = all_long e.header.variables t (no_fault (header_in t) no_header t w.form);
      inside = all_inside e.header.modulus e.entries w.inside;
    }
  where
    none_few : length (gathered []) ≤ 64
    none_few = omega arith

module _ (e : Contents) (h : Says e) where
  abbrev p : ℕ
  p = e.header.modulus

  abbrev m : ℕ
  m = e.header.variables

  abbrev pub under : Settings
  under = settings_by e.header

  positive : 0 < p
  positive = omega (arith, modulus_range p h.settings.modulus)

  -- an entry of the text: its point and its value
  module _ (q : Valued) (w : Among q (valued_points e)) where
    of_entry : (zs : List ℤ) × Among zs e.entries × (q ≡ valued_point p m zs)
    unfolding valued_points
    of_entry = among_map (valued_point p m) e.entries q w

    zs : List ℤ
    zs = of_entry.0

    long : length zs ≡ suc m
    unfolding zs
    long = h.long of_entry.0 of_entry.1

    point_is : IsPoint under q.0
    unfolding zs valued_point entry_point
    point_is =
        subst (IsPoint under) (sym (ap (λ (x : Valued). x.0) of_entry.2))
        (record {
          long = point_long p m of_entry.0 long;
          same = residues_same p (take m of_entry.0) positive (range_take p m of_entry.0 (h.inside of_entry.0 of_entry.1));
        })

    value_is : q.1 < p
    unfolding zs valued_point entry_value
    value_is =
        let l : length (residues p zs) ≡ suc m = length_residues p zs ∙ long in
        let n : p ≡ suc (p - 1) = omega (arith, positive) in
        let r : get_or (residues p zs) m 0 ≡ get_or (residues p zs) m 0 % suc (p - 1) =
        ap (λ (z : List ℕ). get_or z m 0) (sym (residues_same p zs positive (h.inside zs of_entry.1))) ∙ map_at (λ x. x % suc (p - 1)) (residues p zs) 0 0 m (omega arith) in
        omega (arith, ap (λ (x : Valued). x.1) of_entry.2, mod-lt (get_or (residues p zs) m 0) {m = suc (p - 1)} (omega arith))

  -- the distinct points
  S : List (List ℕ)
  S = points_of (points_said e)

  points_long : length S ≡ length (points_said e)
  unfolding S
  points_long = length-map (points_said e) (λ q. q.0)

  is_points : Points under S
  unfolding S
  is_points = record {
    points = λ P w. (let t = among_map (λ (q : Valued). q.0) (valued_points e) P ((among_gathered (points_of (valued_points e)) P).0 w) in subst (IsPoint under) (sym t.2) (point_is t.0 t.1));
    once = once_gathered (points_of (valued_points e));
    few = omega (arith, points_long, h.most);
  }

  pub given : PointsGiven under (length (points_said e)) (states_table (points_of (points_said e)))
  unfolding S states_table
  given = subst (λ (n : ℕ). PointsGiven under n (states_table S)) points_long (G.given under h.settings S is_points)

  -- and their values
  pub values_long : length (first_values (points_of (points_said e)) (valued_points e)) ≡ length (points_said e)
  unfolding S first_values
  values_long = length-map S (λ P. first_value P 0 (valued_points e)) ∙ points_long

  pub values_below : Below p (first_values (points_of (points_said e)) (valued_points e))
  unfolding S first_values
  values_below i k =
      let j : i < length S = omega (arith, length-map S (λ P. first_value P 0 (valued_points e))) in
      subst (λ (x : ℕ). x < p) (sym (map_at (λ P. first_value P 0 (valued_points e)) S [] 0 i j)) (value_below p (get_or S i []) 0 (valued_points e) positive value_is)

-- What the reader left is fit to be printed.
abbrev pub Fit : TextOutcome → Type 0
Fit o =
    PointsGiven (settings_read o) o.answer.n o.states
    × (length (take o.answer.n o.values) ≡ o.answer.n) × Below o.answer.modulus (take o.answer.n o.values) × (o.answer.n ≤ length o.values)

-- the lent buffers of the printer
abbrev reading : List ℕ → TextOutcome
reading text = read_outcome text (replicate 512 0) (replicate 64 0) (replicate 64 0) no_weights

fit_accepted : (e : Contents) → Says e → Fit (text_accepted e (replicate 512 0) (replicate 64 0) (replicate 64 0) no_weights)
unfolding text_accepted states_table
fit_accepted e h =
    let weighing : List ℕ → Settings = λ ws.
    record { modulus = e.header.modulus; variables = e.header.variables; order = e.header.order; weights = ws } in
    let n = length (points_said e) in
    let S = points_of (points_said e) in
    let vs = first_values S (valued_points e) in
    let s : over (states_table S) (replicate 512 0) ≡ states_table S = over_all (states_table S) (replicate 512 0) (length_fill 512 _ ∙ sym (length-replicate {A = ℕ} 512 0)) in
    let v : over (fill 64 vs) (replicate 64 0) ≡ fill 64 vs = over_all (fill 64 vs) (replicate 64 0) (length_fill 64 _ ∙ sym (length-replicate {A = ℕ} 64 0)) in
    let l = values_long e h in
    let w : take n (over (fill 64 vs) (replicate 64 0)) ≡ vs = ap (take n) v ∙ take_fill n 64 vs l h.most in
    let k : length (over (fill 64 vs) (replicate 64 0)) ≡ 64 = ap length v ∙ length_fill 64 vs in
    let z : over e.header.weights no_weights ≡ e.header.weights = over_all e.header.weights no_weights h.eight in
    let g = subst (PointsGiven (under e h) n) (sym s) (given e h) in
    let f = subst (λ (ws : List ℕ). PointsGiven (weighing ws) n (over (states_table S) (replicate 512 0))) (sym z) g in
    (f, ap length w ∙ l, subst (Below e.header.modulus) (sym w) (values_below e h), omega (arith, h.most))

abbrev deciding : List ℕ → Refusal
deciding text = first_of not_refused (read_cases text (form_fault (header_in (records_of text)) (records_of text)) (said_in text)
    (short_buffers (length (replicate {A = ℕ} 512 0)) (length (replicate {A = ℕ} 64 0)) (length (replicate {A = ℕ} 64 0)) (length no_weights)))

pub fit : (text : List ℕ) (o : TextOutcome) → o ≡ reading text → o.answer.refusal ≡ 0 → Fit o
unfolding read_outcome text_decided text_refused
fit text o e z = go (eqb (deciding text).refusal 0) refl
  where
    go : (b : Bool) → eqb (deciding text).refusal 0 ≡ b → Fit o
    go true k =
        let y : reading text ≡ text_accepted (said_in text) (replicate 512 0) (replicate 64 0) (replicate 64 0) no_weights = simp k in
        subst Fit (sym (e ∙ y)) (fit_accepted (said_in text) (says text _ (eqb-true (deciding text).refusal 0 k)))
    go false k =
        let y : reading text ≡ text_refused (deciding text) (replicate 512 0) (replicate 64 0) (replicate 64 0) no_weights = simp k in
        absurd (eqb-false (deciding text).refusal 0 k (sym (ap (λ (x : TextOutcome). x.answer.refusal) (e ∙ y)) ∙ z))

-- what was read, printed
module _ {o w : TextOutcome} (e : o ≡ w) where
  pub printed_refusal : (o.answer.refusal ≡ 0 → ⊥) → refusal_line o.answer.refusal o.answer.at ≡ lines_read w
  unfolding lines_read
  printed_refusal n = rw (← e) (simp (ne_eqb o.answer.refusal 0 n))

  pub printed_basis : o.answer.refusal ≡ 0
      → lines_of (settings_read o) (points_in (settings_read o) o.answer.n o.states) (take o.answer.n o.values) ≡ lines_read w
  unfolding lines_read
  printed_basis z = rw (← e) (simp (eq-eqb o.answer.refusal 0 z))

-- into a buffer that is too short, and into one that is not
module _ (text before : List ℕ) where
  pub print_short : length before < 131072 → printed 0 before ≡ print_outcome text before
  unfolding print_outcome lines_for over
  print_short h = simp (lt-ltb (length before) 131072 h)

  pub print_long : {lines after : List ℕ} {end : ℕ} → 131072 ≤ length before → lines ≡ lines_read (reading text) → Put 0 lines before after end
      → printed end after ≡ print_outcome text before
  unfolding print_outcome lines_for over put_at
  print_long h e put = rw (le-ltb (length before) 131072 h, ← e) (simp zero-add at (ap₂ printed put.ends put.holds))
