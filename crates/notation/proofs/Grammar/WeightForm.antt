-- The weights of a header: what the definitions read has the form, and whatever has it is read.
use mathlib.Core.Path.{◌≡◌, refl, sym, ap, ap₂, ◌∙◌}
use mathlib.Core.Bool.{Bool, true, false, cond}
use mathlib.Core.List.{List, [], ◌∷◌, ◌++◌}
use mathlib.Core.Option.{Option, some, none, map}
use Prim.Native.Nat.{ℕ, zero, suc, ◌≤◌}
use native.Mathlib.Omega.{arith}
use lib.ListN.{length, take, drop, take-append-drop}
use lib.Seq.{take-append_seam, drop-append_seam}
use lib.Dec.{eqb, leb}
use borrow.Author.Tests.{eqb-true, leb-true, le-leb}
use Rattle.notation.specs.Digits.{is_digit, decimal_number}
use Rattle.notation.specs.Fields.{front, Part, part, faulty, kept}
use Rattle.notation.specs.Forms.{weight_of, weight_first, behind_weight, weights_of}
use Rattle.notation.specs.FormGrammar.{IsNumber, one, two, three, AreWeights, no_weights, weights}
use Rattle.notation.proofs.Grammar.LevelForm.{none_some, some_is, is_digit_lem, number_read, number_found}

faulty_part : {A : Type 0} {a : A} {l : List ℕ} → faulty ≡ part a l → ⊥
faulty_part e = let z : ◌≡◌ {A = ℕ} 0 1 = cc in omega arith

part_is : {A : Type 0} {a b : A} {l r : List ℕ} → part a l ≡ part b r → (a ≡ b) × (l ≡ r)
part_is e = (cc, cc)

-- weights behind their word: none begins with a digit, so each number ends where the next space stands
no_weight_digit : {l ws : List ℕ} → AreWeights l ws → front is_digit l ≡ 0
unfolding front is_digit
no_weight_digit no_weights = refl
no_weight_digit (weights n h r) = refl

pub front_digits : {d : List ℕ} (w : List ℕ) {n : ℕ} → IsNumber d n → front is_digit w ≡ 0 → front is_digit (d ++ w) ≡ length d
unfolding front
front_digits w (one {a = a} h) o = simp (is_digit_lem a h, o)
front_digits w (two {a = a} {b = b} h i) o = simp (is_digit_lem a h, is_digit_lem b i, o)
front_digits w (three {a = a} {b = b} {c = c} h i j) o = simp (is_digit_lem a h, is_digit_lem b i, is_digit_lem c j, o)

weight_read : {d : List ℕ} {n : ℕ} → IsNumber d n → length d ≤ 2 → weight_of d ≡ some n
unfolding weight_of
weight_read {d} n h = rw (le-leb (length d) 2 h) (number_read n)

first_read : (d l : List ℕ) {w : ℕ} → IsNumber d w → length d ≤ 2 → front is_digit l ≡ 0 → weight_first (32 ∷ (d ++ l)) ≡ part w l
unfolding weight_first kept
first_read d l n h o =
    ap (λ (k : ℕ). kept (weight_of (take k (d ++ l))) (drop k (d ++ l))) (front_digits l n o)
    ∙ ap₂ kept (ap weight_of (take-append_seam d l) ∙ weight_read n h) (drop-append_seam d l)

pub weights_read : {l ws : List ℕ} → AreWeights l ws → weights_of (length ws) l ≡ some ws
unfolding weights_of behind_weight
weights_read no_weights = refl
weights_read (weights {d = d} {l = l} {ws = ws} {w = w} n h r) =
    ap (behind_weight (weights_of (length ws))) (first_read d l n h (no_weight_digit r)) ∙ ap (map (λ (vs : List ℕ). w ∷ vs)) (weights_read r)

-- what a weight at the front leaves
record First (l : List ℕ) (w : ℕ) (rest : List ℕ) : Type 0 where
  digits : List ℕ
  made : l ≡ 32 ∷ (digits ++ rest)
  number : IsNumber digits w
  few : length digits ≤ 2

first_found : (l : List ℕ) (w : ℕ) (rest : List ℕ) → weight_first l ≡ part w rest → First l w rest
unfolding weight_first weight_of kept
first_found [] w rest e = absurd (faulty_part e)
first_found (b ∷ l) w rest e = pick (eqb b 32) refl e
  where
    k : ℕ
    k = front is_digit l

    go : b ≡ 32 → length (take k l) ≤ 2 → (o : Option ℕ) → decimal_number (take k l) ≡ o → kept o (drop k l) ≡ part w rest → First (b ∷ l) w rest
    go s h none n e = absurd (faulty_part e)
    go s h (some v) n e = let (p, q) = part_is e in record {
      digits = take k l;
      made = ap₂ (λ (x : ℕ) (y : List ℕ). x ∷ y) s (sym (take-append-drop k l) ∙ ap (λ (y : List ℕ). take k l ++ y) q);
      number = number_found (take k l) w (n ∙ ap some p);
      few = h;
    }

    few : b ≡ 32 → (t : Bool) → leb (length (take k l)) 2 ≡ t → kept (cond t (decimal_number (take k l)) none) (drop k l) ≡ part w rest → First (b ∷ l) w rest
    few s true h e = go s (leb-true (length (take k l)) 2 h) (decimal_number (take k l)) refl e
    few s false h e = absurd (faulty_part e)

    pick : (t : Bool) → eqb b 32 ≡ t → cond t (kept (weight_of (take k l)) (drop k l)) faulty ≡ part w rest → First (b ∷ l) w rest
    pick true s e = few (eqb-true b 32 s) (leb (length (take k l)) 2) refl e
    pick false s e = absurd (faulty_part e)

pub weights_found : (m : ℕ) (l ws : List ℕ) → weights_of m l ≡ some ws → AreWeights l ws × (length ws ≡ m)
unfolding weights_of behind_weight
weights_found zero [] ws e = rw (← (some_is e)) (no_weights, refl)
weights_found zero (b ∷ l) ws e = absurd (none_some e)
weights_found (suc m) l ws e = go (weight_first l) (λ w rest q. first_found l w rest q) (λ rest vs q. weights_found m rest vs q) e
  where
    more : (w : ℕ) (rest : List ℕ) → First l w rest → (o : Option (List ℕ)) → ((vs : List ℕ) → o ≡ some vs → AreWeights rest vs × (length vs ≡ m))
        → map (λ (vs : List ℕ). w ∷ vs) o ≡ some ws → AreWeights l ws × (length ws ≡ suc m)
    more w rest f none g e = absurd (none_some e)
    more w rest f (some vs) g e =
        let (r, n) = g vs refl in
        rw (← (some_is e), f.made) (weights f.number f.few r, ap suc n)

    go : (p : Part ℕ) → ((w : ℕ) (rest : List ℕ) → p ≡ part w rest → First l w rest)
        → ((rest vs : List ℕ) → weights_of m rest ≡ some vs → AreWeights rest vs × (length vs ≡ m))
        → behind_weight (weights_of m) p ≡ some ws → AreWeights l ws × (length ws ≡ suc m)
    go faulty f g e = absurd (none_some e)
    go (part w rest) f g e = more w rest (f w rest refl) (weights_of m rest) (λ vs q. g rest vs q) e
