-- The largest length of what is printed: 31 bytes of the first line, 33 of each of 64 standard lines, 222 of each of 449 row lines, 204 of the
-- interpolant's line and 23 of the wiring line: 102,048 in all.
use mathlib.Core.Path.{◌≡◌, refl, sym, ◌∙◌, ap}
use mathlib.Core.List.{List, [], ◌∷◌, ◌++◌, flatten, zip_with}
use mathlib.Core.Logic.{inl, inr}
use Prim.Native.Nat.{ℕ, zero, suc, ◌+◌, ◌*◌, ◌/◌, ◌%◌, ◌^◌, ◌<◌, ◌≤◌}
use native.Mathlib.Nat.{pow-suc}
use native.Mathlib.Decide.{dec_lt}
use native.Mathlib.Omega.{arith}
use lib.ListN.{length, length-append}
use Rattle.residue.specs.Lists.{Among}
use Rattle.residue.specs.Vector.{Below}
use Rattle.writing.specs.Decimal.{decimal}
use Rattle.printing.specs.Lines.{spaced, spaced_numbers, line, labelled, line_end, colon, points_word, standard_word, rows_word, row_word, interpolant_word, wiring_word, refused_word, refusal_line, first_line, standard_lines, row_line, row_lines, basis_lines}
use Rattle.writing.proofs.decimal.DecimalDigits.{decimal_digit, decimal_more}

-- a number has at most as many digits as the power of ten that it is below
one : (n : ℕ) → n < 10 → length (decimal n) ≡ 1
one n h = ap (λ (l : List ℕ). length l) (sym (decimal_digit n h))

more : (n : ℕ) → 10 ≤ n → length (decimal n) ≡ length (decimal (n / 10)) + 1
more n h = ap (λ (l : List ℕ). length l) (sym (decimal_more n h)) ∙ length-append (decimal (n / 10)) ((48 + n % 10) ∷ [])

pub decimal_length : (k n : ℕ) → n < 10 ^ suc k → length (decimal n) ≤ suc k
decimal_length zero n h = omega (arith, one n h)
decimal_length (suc k) n h = pick (dec_lt n 10) (λ e. decimal_length k (n / 10) e)
  where
    pick : Dec (n < 10) → (n / 10 < 10 ^ suc k → length (decimal (n / 10)) ≤ suc k) → length (decimal n) ≤ suc (suc k)
    pick (yes s) rec = omega (arith, one n s)
    pick (no s) rec =
        let t : 10 ≤ n = omega (arith, s) in
        let p = pow-suc 10 (suc k) in
        omega (arith, more n t, rec (omega arith))

spaced_length : (k n : ℕ) → n < 10 ^ suc k → length (spaced n) ≤ k + 2
unfolding spaced
spaced_length k n h = omega (arith, decimal_length k n h)

pub numbers_length : (k : ℕ) (l : List ℕ) → Below (10 ^ suc k) l → length (spaced_numbers l) ≤ (k + 2) * length l
unfolding spaced_numbers flatten
numbers_length k [] h = omega arith
numbers_length k (x ∷ l) h =
    omega (arith, length-append (spaced x) (spaced_numbers l), spaced_length k x (h 0 (omega arith)), numbers_length k l (λ i e. h (suc i) (omega arith)))

pub line_length : (k : ℕ) (word l : List ℕ) → Below (10 ^ suc k) l → length (line word l) ≤ length word + (k + 2) * length l + 1
unfolding line
line_length k word l h = omega (arith, length-append word (spaced_numbers l ++ line_end), length-append (spaced_numbers l) line_end, numbers_length k l h)

labelled_length : (k : ℕ) (word : List ℕ) (n : ℕ) → n < 10 ^ suc k → length (labelled word n) ≤ length word + (k + 2)
unfolding labelled
labelled_length k word n h = omega (arith, length-append word (spaced n), spaced_length k n h)

first_length : (n r : ℕ) → n < 100 → r < 1000 → length (first_line n r) ≤ 31
unfolding first_line
first_length n r h k =
    let a = labelled points_word n in
    let b = labelled (32 ∷ standard_word) n in
    let d = labelled (32 ∷ rows_word) r in
    omega (
      arith,
      length-append a (b ++ (d ++ line_end)),
      length-append b (d ++ line_end),
      length-append d line_end,
      labelled_length 1 points_word n h,
      labelled_length 1 (32 ∷ standard_word) n h,
      labelled_length 2 (32 ∷ rows_word) r k,
    )

-- at most so many numbers, each of at most two digits
abbrev pub Short : ℕ → List ℕ → Type 0
Short k l = (length l ≤ k) × Below 100 l

abbrev pub EachShort : ℕ → List (List ℕ) → Type 0
EachShort k L = (l : List ℕ) → Among l L → Short k l

standard_length : (L : List (List ℕ)) → EachShort 8 L → length (standard_lines L) ≤ 33 * length L
unfolding standard_lines flatten
standard_length [] h = omega arith
standard_length (l ∷ L) h =
    let s = h l (inl refl) in
    omega (arith, length-append (line standard_word l) (standard_lines L), line_length 1 standard_word l s.1, standard_length L (λ k e. h k (inr e)))

row_length : (a l : List ℕ) → Short 8 a → Short 64 l → length (row_line a l) ≤ 222
unfolding row_line
row_length a l h k =
    omega (
      arith,
      length-append row_word (spaced_numbers a ++ line colon l),
      length-append (spaced_numbers a) (line colon l),
      numbers_length 1 a h.1,
      line_length 1 colon l k.1,
    )

rows_length : (L R : List (List ℕ)) → EachShort 8 L → EachShort 64 R → length (row_lines L R) ≤ 222 * length L
unfolding row_lines flatten zip_with
rows_length [] R h k = omega arith
rows_length (a ∷ L) [] h k = omega arith
rows_length (a ∷ L) (l ∷ R) h k =
    omega (arith, length-append (row_line a l) (row_lines L R), row_length a l (h a (inl refl)) (k l (inl refl)), rows_length L R (λ b e. h b (inr e)) (λ b e. k b (inr e)))

-- the whole
pub printed_length : (standard leads rows : List (List ℕ)) (interpolant names : List ℕ) → length standard ≤ 64 → length leads ≤ 449
    → EachShort 8 standard → EachShort 8 leads → EachShort 64 rows → Short 64 interpolant → (length names ≤ 8) × Below 10 names
    → length (basis_lines standard leads rows interpolant names) ≤ 102048
unfolding basis_lines
printed_length standard leads rows interpolant names n r hs hl hr hi hn =
    let a = first_line (length standard) (length leads) in
    let b = standard_lines standard in
    let d = row_lines leads rows in
    let e = line interpolant_word interpolant in
    let f = line wiring_word names in
    omega (
      arith,
      length-append a (b ++ (d ++ (e ++ f))),
      length-append b (d ++ (e ++ f)),
      length-append d (e ++ f),
      length-append e f,
      first_length (length standard) (length leads) (omega arith) (omega arith),
      standard_length standard hs,
      rows_length leads rows hl hr,
      line_length 1 interpolant_word interpolant hi.1,
      line_length 0 wiring_word names hn.1,
    )

pub refusal_length : (k at : ℕ) → k < 1000 → at < 100000 → length (refusal_line k at) ≤ 18
unfolding refusal_line
refusal_length k at h j =
    omega (
      arith,
      length-append (labelled refused_word k) (spaced at ++ line_end),
      length-append (spaced at) line_end,
      labelled_length 2 refused_word k h,
      spaced_length 4 at j,
    )
