-- What a text has passed that is not refused, case by case; printing, and what C reads, stand on it.
use mathlib.Core.Path.{◌≡◌}
use mathlib.Core.Bool.{Bool, not, ◌&&◌}
use mathlib.Core.List.{List, [], ◌∷◌}
use mathlib.Core.Option.{get_or}
use Prim.Native.Nat.{ℕ, zero, suc}
use native.Mathlib.Omega.{arith}
use lib.IntN.{ℤ}
use lib.ListN.{length, take}
use lib.Dec.{T, eqb, leb, ltb, leb→le}
use borrow.Author.Tests.{not-false, eqb-true}
use Rattle.residue.specs.Level.{residue_of}
use Rattle.residue.specs.Modulus.{is_modulus}
use Rattle.residue.proofs.Tests.{of_true, and_left, and_right, and_both}
use Rattle.specification.specs.Refusal.{first_of}
use Rattle.specification.specs.Settings.{right_weights, Accepted}
use Rattle.specification.specs.Levels.{is_residue, in_range}
use Rattle.notation.specs.Fields.{records_of}
use Rattle.comma_text.specs.reading.Text.{Contents, header_in, no_header, form_fault, contents_of, valued_points, first_outside, first_after, too_many, too_often}
use Rattle.comma_text.specs.reading.Text.{settings_by, header_cases, points_cases, entries_cases, read_cases, not_refused}
use Rattle.comma_text.proofs.reading.TextCases.{passed}
use Rattle.comma_text.proofs.reading.AcceptedPoints.{in_small, or_small}

-- what is said in the text, if its form is right
abbrev pub said_in : List ℕ → Contents
said_in text = contents_of (get_or (header_in (records_of text)) no_header) (records_of text)

-- Its settings are such that calls take, its form is right, and of its entries none is out of range, one too many, or once too often.
pub record PassedText (text : List ℕ) : Type 0 where
  pub settings : Accepted (settings_by (said_in text).header)
  pub form : form_fault (header_in (records_of text)) (records_of text) ≡ 0
  pub inside : first_outside (said_in text) ≡ 0
  pub many : first_after too_many [] (valued_points (said_in text)) ≡ 0
  pub often : first_after too_often [] (valued_points (said_in text)) ≡ 0

pub text_passed : (text : List ℕ) (short : Bool)
    → (first_of not_refused (read_cases text (form_fault (header_in (records_of text)) (records_of text)) (said_in text) short)).refusal ≡ 0 → PassedText text
unfolding read_cases header_cases entries_cases points_cases contents_of
text_passed text short z =
    let t = records_of text in
    let e : Contents = said_in text in
    let c₁ = passed (ltb 16384 (length text)) 0 0 _ z in
    let c₂ = passed (not (eqb (form_fault (header_in t) t) 0)) 1 (form_fault (header_in t) t) _ c₁.1 in
    let c₃ = passed (not (is_modulus e.header.modulus)) 2 1 _ c₂.1 in
    let c₄ = passed (not (leb 1 e.header.variables && leb e.header.variables 8)) 3 1 _ c₃.1 in
    let c₅ = passed (not (right_weights (settings_by e.header))) 14 1 _ c₄.1 in
    let c₆ = passed (not (eqb (first_outside e) 0)) 8 (suc (first_outside e)) _ (passed short 5 0 _ c₅.1).1 in
    let c₇ = passed (not (eqb (first_after too_many [] (valued_points e)) 0)) 7 (suc (first_after too_many [] (valued_points e))) _ c₆.1 in
    let c₈ = passed (not (eqb (first_after too_often [] (valued_points e)) 0)) 12 (suc (first_after too_often [] (valued_points e))) _ c₇.1 in
    let m = of_true (not-false (leb 1 e.header.variables && leb e.header.variables 8) c₄.0) in
    record {
      settings = record {
        modulus = not-false (is_modulus e.header.modulus) c₃.0;
        some = leb→le 1 e.header.variables (and_left (leb 1 e.header.variables) (leb e.header.variables 8) m);
        few = leb→le e.header.variables 8 (and_right (leb 1 e.header.variables) (leb e.header.variables 8) m);
        order = or_small (header_in t) no_header (in_small t) (omega arith);
        weights = not-false (right_weights (settings_by e.header)) c₅.0;
      };
      form = eqb-true (form_fault (header_in t) t) 0 (not-false _ c₂.0);
      inside = eqb-true (first_outside e) 0 (not-false _ c₆.0);
      many = eqb-true (first_after too_many [] (valued_points e)) 0 (not-false _ c₇.0);
      often = eqb-true (first_after too_often [] (valued_points e)) 0 (not-false _ c₈.0);
    }

-- levels in range, the first of them
pub range_take : (p m : ℕ) (zs : List ℤ) → T (in_range p zs) → T (in_range p (take m zs))
unfolding in_range
range_take p zero zs h = tt
range_take p (suc m) [] h = tt
range_take p (suc m) (z ∷ zs) h =
    and_both (is_residue (residue_of p z)) (in_range p (take m zs)) (and_left (is_residue (residue_of p z)) (in_range p zs) h)
    (range_take p m zs (and_right (is_residue (residue_of p z)) (in_range p zs) h))
