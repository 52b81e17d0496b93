-- The text of a document is read back, and what is read is the text of a document: the round trip, both ways.
use mathlib.Core.Path.{◌≡◌, refl, ◌∙◌, ap, subst}
use mathlib.Core.Bool.{Bool, true}
use mathlib.Core.List.{List, [], ◌∷◌, ◌++◌, append_assoc}
use Prim.Native.Nat.{ℕ}
use lib.ListN.{drop}
use Rattle.residue.specs.Lists.{every}
use Rattle.notation.specs.Digits.{is_digit, decimal_number}
use Rattle.notation.specs.Fields.{part, front}
use Rattle.writing.specs.Decimal.{decimal}
use Rattle.json_text.specs.Writing.{separated, object, member, key, list_text, rows_text}
use Rattle.json_text.specs.Documents.{Document, written, is_byte, are_bytes, bytes_only}
use Rattle.json_text.specs.Documents.{coefficients_name, counts_name, leads_name, modulus_name, order_name, points_name, standard_name, variables_name, weights_name}
use Rattle.json_text.specs.Reading.{Reader, after, done, exactly, number_said, read_number, read_list, read_rows, read_member, read_document}
use Rattle.json_text.proofs.Digits.{Stops, both}
use Rattle.json_text.proofs.Numbers.{number_taken, number_only}
use Rattle.json_text.proofs.Readers.{Exact, same_part, after_of, exactly_takes, exactly_only}
use Rattle.json_text.proofs.Arrays.{array_exact}

-- The three kinds of values.
pub number_exact : Exact decimal is_byte read_number
unfolding read_number number_said front is_digit decimal_number
number_exact = record { takes = number_taken; only = number_only; shut = λ l. refl }

pub list_exact : Exact list_text are_bytes read_list
unfolding list_text are_bytes read_list
list_exact = array_exact decimal is_byte read_number number_exact

pub rows_exact : Exact rows_text (every are_bytes) read_rows
unfolding rows_text read_rows
rows_exact = array_exact list_text are_bytes read_list list_exact

-- A member.
module _ {A : Type 0} (write : A → List ℕ) (fine : A → Bool) (r : Reader A) (ex : Exact write fine r) (before : ℕ) (name : List ℕ) where
  pub member_takes : (a : A) (rest : List ℕ) → fine a ≡ true → Stops rest → read_member before name r ((before ∷ key name) ++ (write a ++ rest)) ≡ part a rest
  unfolding read_member after
  member_takes a rest f s = rw (exactly_takes (before ∷ key name) (write a ++ rest)) (ex.takes a rest f s)

  pub member_only : (t : List ℕ) (a : A) (rest : List ℕ) → read_member before name r t ≡ part a rest → (t ≡ (before ∷ key name) ++ (write a ++ rest)) × (fine a ≡ true)
  unfolding read_member
  member_only t a rest e =
      let p = after_of (exactly (before ∷ key name) t) (λ u. r) a rest e in
      let q = ex.only p.1 a rest p.3 in
      (exactly_only (before ∷ key name) t p.0 p.1 p.2 ∙ ap (λ (z : List ℕ). (before ∷ key name) ++ z) q.0, q.1)

  -- a member, and what is read behind it
  pub behind_member : {B C : Type 0} (next : A → Reader B) (t : List ℕ) (b : B) (rest : List ℕ) → after (read_member before name r t) next ≡ part b rest
      → ((a : A) (mid : List ℕ) → t ≡ (before ∷ key name) ++ (write a ++ mid) → fine a ≡ true → next a mid ≡ part b rest → C) → C
  behind_member next t b rest e go =
      let p = after_of (read_member before name r t) next b rest e in
      let q = member_only t p.0 p.1 p.2 in
      go p.0 p.1 q.0 q.1 p.3

-- The text of a document, member behind member.
module _ (d : Document) (rest : List ℕ) where
  abbrev pub from9 : List ℕ
  from9 = (44 ∷ key weights_name) ++ (list_text d.weights ++ (125 ∷ rest))

  abbrev pub from8 : List ℕ
  from8 = (44 ∷ key variables_name) ++ (decimal d.variables ++ from9)

  abbrev pub from7 : List ℕ
  from7 = (44 ∷ key standard_name) ++ (rows_text d.standard ++ from8)

  abbrev pub from6 : List ℕ
  from6 = (44 ∷ key points_name) ++ (rows_text d.points ++ from7)

  abbrev pub from5 : List ℕ
  from5 = (44 ∷ key order_name) ++ (decimal d.order ++ from6)

  abbrev pub from4 : List ℕ
  from4 = (44 ∷ key modulus_name) ++ (decimal d.modulus ++ from5)

  abbrev pub from3 : List ℕ
  from3 = (44 ∷ key leads_name) ++ (rows_text d.leads ++ from4)

  abbrev pub from2 : List ℕ
  from2 = (44 ∷ key counts_name) ++ (list_text d.counts ++ from3)

  abbrev pub from1 : List ℕ
  from1 = (123 ∷ key coefficients_name) ++ (rows_text d.coefficients ++ from2)

-- one text more in front of separated ones
more : (x y : List ℕ) (l : List (List ℕ)) (end F : List ℕ) → separated (y ∷ l) ++ end ≡ F → separated (x ∷ y ∷ l) ++ end ≡ x ++ (44 ∷ F)
unfolding separated
more x y l end F e = append_assoc x (44 ∷ separated (y ∷ l)) end ∙ ap (λ (z : List ℕ). x ++ (44 ∷ z)) e

pub written_laid : (d : Document) → written d ≡ from1 d []
unfolding written object separated member
written_laid d =
    let m1 = member coefficients_name (rows_text d.coefficients) in
    let m2 = member counts_name (list_text d.counts) in
    let m3 = member leads_name (rows_text d.leads) in
    let m4 = member modulus_name (decimal d.modulus) in
    let m5 = member order_name (decimal d.order) in
    let m6 = member points_name (rows_text d.points) in
    let m7 = member standard_name (rows_text d.standard) in
    let m8 = member variables_name (decimal d.variables) in
    let m9 = member weights_name (list_text d.weights) in
    let e : List ℕ = 125 ∷ [] in
    let l8 = more m8 m9 ([]) e (drop 1 (from9 d [])) refl in
    let l7 = more m7 m8 (m9 ∷ []) e (drop 1 (from8 d [])) l8 in
    let l6 = more m6 m7 (m8 ∷ m9 ∷ []) e (drop 1 (from7 d [])) l7 in
    let l5 = more m5 m6 (m7 ∷ m8 ∷ m9 ∷ []) e (drop 1 (from6 d [])) l6 in
    let l4 = more m4 m5 (m6 ∷ m7 ∷ m8 ∷ m9 ∷ []) e (drop 1 (from5 d [])) l5 in
    let l3 = more m3 m4 (m5 ∷ m6 ∷ m7 ∷ m8 ∷ m9 ∷ []) e (drop 1 (from4 d [])) l4 in
    let l2 = more m2 m3 (m4 ∷ m5 ∷ m6 ∷ m7 ∷ m8 ∷ m9 ∷ []) e (drop 1 (from3 d [])) l3 in
    let l1 = more m1 m2 (m3 ∷ m4 ∷ m5 ∷ m6 ∷ m7 ∷ m8 ∷ m9 ∷ []) e (drop 1 (from2 d [])) l2 in
    ap (λ (z : List ℕ). 123 ∷ z) l1

-- what the test of bytes says, member by member
pub record Bytes (d : Document) : Type 0 where
  pub coefficients : every are_bytes d.coefficients ≡ true
  pub counts : are_bytes d.counts ≡ true
  pub leads : every are_bytes d.leads ≡ true
  pub modulus : is_byte d.modulus ≡ true
  pub order : is_byte d.order ≡ true
  pub points : every are_bytes d.points ≡ true
  pub standard : every are_bytes d.standard ≡ true
  pub variables : is_byte d.variables ≡ true
  pub weights : are_bytes d.weights ≡ true

pub bytes_parts : (d : Document) → bytes_only d ≡ true → Bytes d
unfolding bytes_only
bytes_parts d e =
    let p9 = both {b = are_bytes d.weights} e in
    let p8 = both {b = is_byte d.variables} p9.0 in
    let p7 = both {b = (every are_bytes) d.standard} p8.0 in
    let p6 = both {b = (every are_bytes) d.points} p7.0 in
    let p5 = both {b = is_byte d.order} p6.0 in
    let p4 = both {b = is_byte d.modulus} p5.0 in
    let p3 = both {b = (every are_bytes) d.leads} p4.0 in
    let p2 = both {b = are_bytes d.counts} p3.0 in
    record {
      coefficients = p2.0;
      counts = p2.1;
      leads = p3.1;
      modulus = p4.1;
      order = p5.1;
      points = p6.1;
      standard = p7.1;
      variables = p8.1;
      weights = p9.1;
    }

pub bytes_all : (d : Document) → Bytes d → bytes_only d ≡ true
unfolding bytes_only
bytes_all d b = rw (b.coefficients, b.counts, b.leads, b.modulus, b.order, b.points, b.standard, b.variables, b.weights)

-- A document of bytes is read back from its text.
pub document_taken : (d : Document) (rest : List ℕ) → Bytes d → read_document (from1 d rest) ≡ part d rest
unfolding read_document after done exactly is_digit
document_taken d rest b =
    rw (
      member_takes rows_text (every are_bytes) read_rows rows_exact 123 coefficients_name d.coefficients (from2 d rest) b.coefficients refl,
      member_takes list_text are_bytes read_list list_exact 44 counts_name d.counts (from3 d rest) b.counts refl,
      member_takes rows_text (every are_bytes) read_rows rows_exact 44 leads_name d.leads (from4 d rest) b.leads refl,
      member_takes decimal is_byte read_number number_exact 44 modulus_name d.modulus (from5 d rest) b.modulus refl,
      member_takes decimal is_byte read_number number_exact 44 order_name d.order (from6 d rest) b.order refl,
      member_takes rows_text (every are_bytes) read_rows rows_exact 44 points_name d.points (from7 d rest) b.points refl,
      member_takes rows_text (every are_bytes) read_rows rows_exact 44 standard_name d.standard (from8 d rest) b.standard refl,
      member_takes decimal is_byte read_number number_exact 44 variables_name d.variables (from9 d rest) b.variables refl,
      member_takes list_text are_bytes read_list list_exact 44 weights_name d.weights (125 ∷ rest) b.weights refl,
    )

-- member behind member
chained : (d : Document) (rest t m1 m2 m3 m4 m5 m6 m7 m8 m9 : List ℕ)
    → t ≡ (123 ∷ key coefficients_name) ++ (rows_text d.coefficients ++ m1)
    → m1 ≡ (44 ∷ key counts_name) ++ (list_text d.counts ++ m2)
    → m2 ≡ (44 ∷ key leads_name) ++ (rows_text d.leads ++ m3)
    → m3 ≡ (44 ∷ key modulus_name) ++ (decimal d.modulus ++ m4)
    → m4 ≡ (44 ∷ key order_name) ++ (decimal d.order ++ m5)
    → m5 ≡ (44 ∷ key points_name) ++ (rows_text d.points ++ m6)
    → m6 ≡ (44 ∷ key standard_name) ++ (rows_text d.standard ++ m7)
    → m7 ≡ (44 ∷ key variables_name) ++ (decimal d.variables ++ m8)
    → m8 ≡ (44 ∷ key weights_name) ++ (list_text d.weights ++ m9)
    → m9 ≡ 125 ∷ rest → t ≡ from1 d rest
chained d rest t m1 m2 m3 m4 m5 m6 m7 m8 m9 q1 q2 q3 q4 q5 q6 q7 q8 q9 z = rw (q1, q2, q3, q4, q5, q6, q7, q8, q9, z)

-- What is read as a document is its text.
pub document_only : (t : List ℕ) (d : Document) (rest : List ℕ) → read_document t ≡ part d rest → (t ≡ from1 d rest) × Bytes d
unfolding read_document done
document_only t d rest e =
    behind_member rows_text (every are_bytes) read_rows rows_exact 123 coefficients_name _ t d rest e (λ a1 m1 q1 f1 g1.
    behind_member list_text are_bytes read_list list_exact 44 counts_name _ m1 d rest g1 (λ a2 m2 q2 f2 g2.
    behind_member rows_text (every are_bytes) read_rows rows_exact 44 leads_name _ m2 d rest g2 (λ a3 m3 q3 f3 g3.
    behind_member decimal is_byte read_number number_exact 44 modulus_name _ m3 d rest g3 (λ a4 m4 q4 f4 g4.
    behind_member decimal is_byte read_number number_exact 44 order_name _ m4 d rest g4 (λ a5 m5 q5 f5 g5.
    behind_member rows_text (every are_bytes) read_rows rows_exact 44 points_name _ m5 d rest g5 (λ a6 m6 q6 f6 g6.
    behind_member rows_text (every are_bytes) read_rows rows_exact 44 standard_name _ m6 d rest g6 (λ a7 m7 q7 f7 g7.
    behind_member decimal is_byte read_number number_exact 44 variables_name _ m7 d rest g7 (λ a8 m8 q8 f8 g8.
    behind_member list_text are_bytes read_list list_exact 44 weights_name _ m8 d rest g8 (λ a9 m9 q9 f9 g9.
    let z = after_of (exactly (125 ∷ []) m9) _ d rest g9 in
    let w = same_part z.3 in
    let c : Document = record { coefficients = a1; counts = a2; leads = a3; modulus = a4; order = a5; points = a6; standard = a7; variables = a8; weights = a9 } in
    let e10 : m9 ≡ 125 ∷ rest = exactly_only (125 ∷ []) m9 z.0 z.1 z.2 ∙ ap (λ (y : List ℕ). 125 ∷ y) w.1 in
    subst (λ (x : Document). (t ≡ from1 x rest) × Bytes x) w.0 (chained c rest t m1 m2 m3 m4 m5 m6 m7 m8 m9 q1 q2 q3 q4 q5 q6 q7 q8 q9 e10, record { coefficients = f1; counts = f2; leads = f3; modulus = f4; order = f5; points = f6; standard = f7; variables = f8; weights = f9 }))))))))))
