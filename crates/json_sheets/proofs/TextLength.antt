-- The longest text of a sheet: 103,534 bytes at most, so that 131,072 are enough for each.
use mathlib.Core.Path.{◌≡◌, refl, sym, ap, subst}
use mathlib.Core.Bool.{Bool, true, false, cond}
use mathlib.Core.Logic.{inl, inr}
use mathlib.Core.List.{List, [], ◌∷◌, map}
use Prim.Native.Nat.{ℕ, ◌+◌, ◌*◌, ◌≤◌, ◌<◌}
use native.Mathlib.Nat.{mul-le-mul}
use native.Mathlib.Decide.{dec_lt}
use native.Mathlib.Omega.{arith}
use lib.ListN.{length, take, length-append, length-map}
use lib.Dec.{eqb}
use Rattle.residue.specs.Lists.{Among}
use Rattle.residue.specs.Layout.{fill, length_fill}
use Rattle.residue.proofs.level.Moduli.{modulus_range}
use Rattle.specification.specs.declared.settings.Settings.{Settings}
use Rattle.specification.specs.Tables.{Tables, standard_under, leads_under, rows_under, held_in}
use Rattle.specification.proofs.ideal.Lists.{among_map}
use Rattle.specification.proofs.counted.Held.{points_held, counts_held}
use Rattle.writing.specs.Decimal.{decimal}
use Rattle.json_text.specs.Writing.{separated, array, list_text, rows_text}
use Rattle.json_text.specs.Documents.{Document, written, weight_count, is_byte, are_bytes}
use Rattle.json_text.proofs.Digits.{one_digit, two_digits, three_digits}
use Rattle.json_text.proofs.Numbers.{byte_bound}
use Rattle.json_text.proofs.DocumentTexts.{from2, from3, from4, from5, from6, from7, from8, from9, written_laid}
use Rattle.json_sheets.specs.Sheets.{document_of, document_under}
use Rattle.json_sheets.proofs.SheetDocuments.{Checked, S, given, count, right, few_leads, exponents_long, standards, leads, rows, rows_long, document_held}
use Rattle.json_sheets.proofs.SheetBytes.{EachBelow, every_at, points_small, standard_small, leads_small, rows_small, counts_small}
use Rattle.json_sheets.proofs.Weights.{weights_counted, weights_small}

-- at most two digits, and three
pub two_long : (v : ℕ) → v < 100 → length (decimal v) ≤ 2
two_long v h = go (dec_lt v 10)
  where
    go : Dec (v < 10) → length (decimal v) ≤ 2
    go (yes i) = rw (one_digit v i) (omega arith)
    go (no i) = let j : 10 ≤ v = omega (arith, i) in rw (two_digits v j h) (omega arith)

pub three_long : (v : ℕ) → v < 256 → length (decimal v) ≤ 3
three_long v h = go (dec_lt v 100)
  where
    go : Dec (v < 100) → length (decimal v) ≤ 3
    go (yes i) = omega (arith, two_long v i)
    go (no i) = let j : 100 ≤ v = omega (arith, i) in rw (three_digits v j h) (omega arith)

-- texts of at most k bytes each
separated_bound : (k : ℕ) (l : List (List ℕ)) → ((x : List ℕ) → Among x l → length x ≤ k) → length (separated l) ≤ (k + 1) * length l
unfolding separated
separated_bound k [] h = omega arith
separated_bound k (x ∷ []) h = omega (arith, h x (inl refl))
separated_bound k (x ∷ y ∷ l) h =
    omega (arith, h x (inl refl), length-append x (44 ∷ separated (y ∷ l)), separated_bound k (y ∷ l) (λ z w. h z (inr w)))

array_bound : {A : Type 0} (write : A → List ℕ) (k : ℕ) (l : List A) → ((a : A) → Among a l → length (write a) ≤ k) → length (array (map write l)) ≤ (k + 1) * length l + 2
unfolding array
array_bound write k l h =
    omega (
      arith,
      length-append (separated (map write l)) (93 ∷ []),
      ap (λ (j : ℕ). (k + 1) * j) (length-map l write),
      separated_bound k (map write l) (λ x w. let q = among_map write l x w in subst (λ (z : List ℕ). length z ≤ k) (sym q.2) (h q.0 q.1)),
    )

pub list_bound : (k : ℕ) (l : List ℕ) → ((c : ℕ) → Among c l → length (decimal c) ≤ k) → length (list_text l) ≤ (k + 1) * length l + 2
unfolding list_text
list_bound k l h = array_bound decimal k l h

-- lists of w numbers below 100
pub rows_bound : (w : ℕ) (L : List (List ℕ)) → EachBelow 100 L → ((a : List ℕ) → Among a L → length a ≡ w) → length (rows_text L) ≤ (3 * w + 3) * length L + 2
unfolding rows_text
rows_bound w L b h =
    omega (arith, array_bound list_text (3 * w + 2) L (λ a q. omega (arith, list_bound 2 a (λ c i. two_long c (b a q c i)), h a q)))

-- all of it: 101 bytes of names and what is between them
pub text_bound : (d : Document) (a b c m o p s v w : ℕ) → length (rows_text d.coefficients) ≤ a → length (list_text d.counts) ≤ b → length (rows_text d.leads) ≤ c
    → length (decimal d.modulus) ≤ m → length (decimal d.order) ≤ o → length (rows_text d.points) ≤ p → length (rows_text d.standard) ≤ s
    → length (decimal d.variables) ≤ v → length (list_text d.weights) ≤ w
    → length (written d) ≤ 102 + (a + b + c + m + o + p + s + v + w)
text_bound d a b c m o p s v w h1 h2 h3 h4 h5 h6 h7 h8 h9 =
    rw (written_laid d) (omega (
      arith,
      length-append (rows_text d.coefficients) (from2 d []),
      length-append (list_text d.counts) (from3 d []),
      length-append (rows_text d.leads) (from4 d []),
      length-append (decimal d.modulus) (from5 d []),
      length-append (decimal d.order) (from6 d []),
      length-append (rows_text d.points) (from7 d []),
      length-append (rows_text d.standard) (from8 d []),
      length-append (decimal d.variables) (from9 d []),
      length-append (list_text d.weights) (125 ∷ []),
    ))

-- A sheet's text.
module _ (s : Settings) (n r : ℕ) (t : Tables) (h : Checked s n r t) where
  abbrev P : List (List ℕ)
  P = S s n r t h

  abbrev pub k : ℕ
  k = weight_count s.order s.variables

  pub few_weights : k ≤ 8
  few_weights = go (eqb s.order 3)
    where
      go : (x : Bool) → cond x s.variables 0 ≤ 8
      go true = h.settings.few
      go false = omega arith

  -- a table of j lists of w numbers
  table_bound : (w j b c : ℕ) (L : List (List ℕ)) → EachBelow 100 L → ((a : List ℕ) → Among a L → length a ≡ w) → length L ≡ j → w ≤ b → j ≤ c
      → length (rows_text L) ≤ (3 * b + 3) * c + 2
  table_bound w j b c L small long e i l =
      let f : (3 * w + 3) * length L ≤ (3 * b + 3) * c = mul-le-mul (omega arith) (omega arith) in
      omega (arith, rows_bound w L small long)

  under_bound : length (written (document_under s (held_in s n t))) ≤ 103534
  unfolding document_under are_bytes
  under_bound =
      rw (points_held s n t, counts_held s n t) (text_bound _ 87557 258 12125 2 2 1730 1730 2 26
      (table_bound n r 64 449 (rows_under s P) (rows_small s n r t h) (rows_long s n r t h) (rows s n r t h) h.few (few_leads s n r t h))
      (omega (arith, list_bound 3 (fill n t.counts) (λ c q. three_long c (byte_bound c (every_at is_byte (fill n t.counts) (counts_small s n r t h) c q))), length_fill n t.counts, h.few))
      (table_bound s.variables r 8 449 (map (λ a. a.0) (leads_under s P)) (leads_small s n r t h) (exponents_long s n r t h (leads_under s P)) (leads s n r t h) h.settings.few (few_leads s n r t h))
      (two_long s.modulus (omega (arith, modulus_range s.modulus h.settings.modulus)))
      (two_long s.order (omega (arith, h.settings.order)))
      (table_bound s.variables n 8 64 P (points_small s n r t h) (λ a q. ((given s n r t h).points a q).long) (count s n r t h) h.settings.few h.few)
      (table_bound s.variables n 8 64 (map (λ a. a.0) (standard_under s P)) (standard_small s n r t h) (exponents_long s n r t h (standard_under s P)) (standards s n r t h) h.settings.few h.few)
      (two_long s.variables (omega (arith, h.settings.few)))
      (omega (
        arith,
        list_bound 2 (take k s.weights) (λ c q. two_long c (weights_small k s.weights (right s n r t h) c q)),
        weights_counted k s.weights (right s n r t h),
        few_weights,
      )))

  pub sheet_bound : length (written (document_of s n r t)) ≤ 103534
  sheet_bound = rw (document_held s n r t h) under_bound
