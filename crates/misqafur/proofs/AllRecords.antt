-- A text that is taken, and its counts (request M-106; include/misqafur.h, of misqafur_read_text): its points, packed from the table of states and drawn up,
-- with its counts copied over the fifth table, are what drawing up all of its records leaves and answers.
use mathlib.Core.Path.{◌≡◌, refl, sym, ◌∙◌, ap, subst}
use mathlib.Core.Bool.{false}
use mathlib.Core.List.{List, [], ◌∷◌, ◌++◌, append-nil, append_assoc}
use Prim.Native.Nat.{ℕ, suc, ◌≤◌, ◌%◌}
use native.Mathlib.Omega.{arith}
use lib.IntN.{ℤ}
use lib.ListN.{length, take, length-map}
use lib.Dec.{T, ltb}
use borrow.Author.Tests.{eq-eqb, le-ltb}
use Rattle.residue.specs.Sizes.{counts_size}
use Rattle.residue.specs.Lists.{Among}
use Rattle.residue.specs.Lists as Lists
use Rattle.residue.specs.Layout.{fill, over, length_fill}
use Rattle.residue.proofs.level.Moduli.{modulus_range}
use Rattle.residue.proofs.Layouts.{fill_exact, take_over}
use Rattle.residue.proofs.Tests.{true_of}
use Rattle.specification.specs.declared.settings.Settings.{Settings}
use Rattle.specification.specs.Refusal.{first_of}
use Rattle.specification.specs.Settings.{Accepted}
use Rattle.specification.specs.Levels.{in_range}
use Rattle.specification.specs.Points.{Points, IsPoint}
use Rattle.specification.specs.Counted.{Counted, points_of, counts_of, entered_all, gathered, overfull}
use Rattle.specification.specs.Tables.{Tables, states_table, too_short, points_in}
use Rattle.specification.specs.Adding.{draw_cases, draw_refusal, draw_outcome}
use Rattle.specification.specs.CallByCall.{as_levels, counting}
use Rattle.specification.proofs.ideal.Lists.{among_map}
use Rattle.specification.proofs.agreement.Points.{residues_same, points_back}
use Rattle.specification.proofs.agreement.Refusals.{not_refused, settings_pass}
use Rattle.specification.proofs.counted.Gathered.{among_gathered, once_gathered}
use Rattle.specification.proofs.CallByCall.{drawn_number}
use Rattle.specification.proofs.Records.{whole_of, range_of, offered_of, draw_counted}
use Rattle.notation.specs.Fields.{records_of}
use Rattle.comma_text.specs.reading.Text.{no_header, header_in, Contents, contents_of, entry_point, Valued, valued_point, valued_points, first_outside, first_after, too_often}
use Rattle.comma_text.specs.reading.Text.{settings_by, text_accepted, TextOutcome}
use Rattle.comma_text.specs.reading.Answers.{Read}
use Rattle.comma_text.proofs.reading.FirstPlaces.{fault_step}
use Rattle.comma_text.proofs.reading.FirstValues.{few_points}
use Rattle.comma_text.proofs.reading.EntryLengths.{AllLong, point_long}
use Rattle.comma_text.proofs.reading.AcceptedPoints.{no_fault, all_long, all_inside}
use Rattle.comma_text.proofs.reading.PassedText.{PassedText, range_take}
use Rattle.comma_text.proofs.reading.SaidText.{says_found}
use Rattle.comma_text.proofs.reading.HeaderWeights.{header_eight}
use Rattle.misqafur.proofs.ReadBack.{says, o, r, refusal_is, accepted_is, taken}

-- the settings that a host reads from an answer and the buffer of weights
abbrev pub settings_read : Read → List ℕ → Settings
settings_read r weights = record { modulus = r.modulus; variables = r.variables; order = r.order; weights = take 8 weights }

-- no entry is once too often: no count is above 255
few_times : (seen l : List Valued) → Lists.some (ltb 255) (counts_of (gathered (points_of seen))) ≡ false → first_after too_often seen l ≡ 0
    → Lists.some (ltb 255) (counts_of (gathered (points_of (seen ++ l)))) ≡ false
unfolding first_after too_often
few_times seen [] h z = rw (append-nil seen) h
few_times seen (q ∷ l) h z =
    let s = fault_step (Lists.some (ltb 255) (counts_of (gathered (points_of (seen ++ (q ∷ [])))))) (first_after too_often (seen ++ (q ∷ [])) l) z in
    rw (← append_assoc seen (q ∷ []) l) (few_times (seen ++ (q ∷ [])) l s.0 s.1)

module _ (text states values counts weights : List ℕ) (z : (r text states values counts weights).refusal ≡ 0) where
  -- what the text says, and its settings
  abbrev e : Contents
  e = says text states values counts weights

  abbrev p : ℕ
  p = e.header.modulus

  abbrev m : ℕ
  m = e.header.variables

  abbrev s : Settings
  s = settings_by e.header

  w : PassedText text
  w = taken text states values counts weights z

  ok : Accepted s
  ok = w.settings

  -- the point of each record, and the distinct ones with their counts
  abbrev S : List (List ℕ)
  S = points_of (valued_points e)

  abbrev G : Counted
  G = gathered S

  long : AllLong (suc m) e.entries
  unfolding contents_of
  long = all_long m (records_of text) (no_fault (header_in (records_of text)) no_header (records_of text) w.form)

  inside : (zs : List ℤ) → Among zs e.entries → T (in_range p zs)
  unfolding first_outside
  inside = all_inside p e.entries w.inside

  is_point : (P : List ℕ) → Among P S → IsPoint s P
  unfolding valued_points valued_point entry_point
  is_point P q =
      let x = among_map (λ (v : Valued). v.0) (valued_points e) P q in
      let y = among_map (valued_point p m) e.entries x.0 x.1 in
      let range = range_take p m y.0 (inside y.0 y.1) in
      subst (IsPoint s) (sym (x.2 ∙ ap (λ (v : Valued). v.0) y.2))
      (record {
        long = point_long p m y.0 (long y.0 y.1);
        same = residues_same p (take m y.0) (omega (arith, modulus_range p ok.modulus)) range;
      })

  few : length G ≤ 64
  unfolding gathered entered_all
  few = few_points [] (valued_points e) (omega arith) w.many

  times : Lists.some (ltb 255) (counts_of G) ≡ false
  unfolding gathered entered_all
  times = few_times [] (valued_points e) refl w.often

  points : Points s (points_of G)
  points = record { points = λ P q. is_point P ((among_gathered S P).0 q); once = once_gathered S; few = omega (arith, few, length-map G (λ q. q.0)) }

  -- all records, drawn up
  drawn : (t : Tables) → too_short t ≡ false → (draw_outcome s t (as_levels s S)).answer.refusal ≡ 0
  unfolding draw_refusal draw_cases overfull first_of
  drawn t large =
      drawn_number s t (as_levels s S) ∙ settings_pass s (not_refused s ok) _
      ∙ rw (
        large,
        eq-eqb (length (as_levels s S) % m) 0 (whole_of s ok S is_point),
        true_of (in_range p (as_levels s S)) (range_of s ok S is_point),
        offered_of s ok S is_point,
        le-ltb 64 (length G) few,
        times,
      ) refl

  once : (t : Tables) → too_short t ≡ false → counting (counts_of G) (draw_outcome s t (as_levels s (points_of G))) ≡ draw_outcome s t (as_levels s S)
  once t large =
      subst (λ (K : List (List ℕ)). counting (counts_of (gathered K)) (draw_outcome s t (as_levels s (points_of (gathered K)))) ≡ draw_outcome s t (as_levels s S))
      (offered_of s ok S is_point) (draw_counted s t (as_levels s S) (drawn t large))

  -- what stands in the reader's buffers
  packed_points : points_in s (length G) (over (states_table (points_of G)) states) ≡ points_of G
  packed_points = ap (λ (k : ℕ). points_in s k (over (states_table (points_of G)) states)) (sym (length-map G (λ q. q.0)))
      ∙ points_back s ok.few (points_of G) points states

  copied : fill counts_size (take 64 (over (fill counts_size (counts_of G)) counts)) ≡ fill counts_size (counts_of G)
  copied =
      let l = length_fill counts_size (counts_of G) in
      ap (fill counts_size) (ap (λ (k : ℕ). take k (over (fill counts_size (counts_of G)) counts)) (sym l) ∙ take_over (fill counts_size (counts_of G)) counts)
      ∙ fill_exact counts_size (fill counts_size (counts_of G)) l

  copied_weights : take 8 (over e.header.weights weights) ≡ e.header.weights
  copied_weights = ap (λ (k : ℕ). take k (over e.header.weights weights)) (sym (header_eight e.header (says_found text w.form).header))
      ∙ take_over e.header.weights weights

  -- The settings, points and counts that a reader's outcome has, drawn up and copied.
  abbrev Basis : TextOutcome → Tables → Type 0
  Basis x t = let u = settings_read x.answer x.weights in
      counting (take 64 x.counts) (draw_outcome u t (as_levels u (points_in u x.answer.n x.states))) ≡ draw_outcome u t (as_levels u S)

  pub text_basis : (t : Tables) → too_short t ≡ false → Basis (o text states values counts weights) t
  unfolding text_accepted counting
  text_basis t large =
      subst (λ (x : TextOutcome). Basis x t) (sym (accepted_is text states values counts weights (sym (refusal_is text states values counts weights) ∙ z)))
      (rw (copied_weights, packed_points, copied) (once t large))
