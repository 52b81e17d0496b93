-- Numbers: a number from 0 to 255 in decimal is read back, and nothing else is read as it.
use mathlib.Core.Path.{◌≡◌, refl, sym, ◌∙◌, ap, ap₂, subst}
use mathlib.Core.Bool.{Bool, true, false, not, cond, ◌&&◌, ◌||◌}
use mathlib.Core.List.{List, [], ◌∷◌, ◌++◌}
use mathlib.Core.Option.{Option, some, none}
use Prim.Native.Nat.{ℕ, ◌+◌, ◌*◌, ◌-◌, ◌/◌, ◌%◌, ◌≤◌, ◌<◌}
use native.Mathlib.Decide.{dec_lt}
use native.Mathlib.Omega.{arith}
use lib.ListN.{length, get_or, take, drop, take-append-drop}
use lib.Seq.{take_at, drop_at, get_or-take, length-take-le}
use lib.Dec.{eqb, leb}
use borrow.Author.Tests.{leb-true, ne_eqb, not-true, eqb-false}
use Rattle.residue.specs.Lists.{every}
use Rattle.notation.specs.Digits.{is_digit, digits_from, decimal_number}
use Rattle.notation.specs.Fields.{part, faulty, front}
use Rattle.notation.proofs.digits.NumberDigits.{digit_range}
use Rattle.notation.proofs.fields.FieldSpans.{front_le}
use Rattle.writing.specs.Decimal.{decimal}
use Rattle.json_text.specs.Documents.{is_byte}
use Rattle.json_text.specs.Reading.{number_said, read_number}
use Rattle.json_text.proofs.Digits.{Stops, one_digit, two_digits, three_digits, both, front_all, front_digits, is_digit_lem}

-- what a number's digits are read as
read_digits : (v : ℕ) (ds rest : List ℕ) → every is_digit ds ≡ true → Stops rest → decimal_number ds ≡ some v → (eqb (length ds) 1 || not (eqb (get_or (ds ++ rest) 0 0) 48)) ≡ true
    → is_byte v ≡ true → read_number (ds ++ rest) ≡ part v rest
unfolding read_number number_said
read_digits v ds rest e h n p b =
    rw (front_all ds rest e h, take_at ds rest (length ds) refl, drop_at ds rest (length ds) refl, n, p, b)

no_zero : (k : ℕ) → 1 ≤ k → eqb (48 + k) 48 ≡ false
no_zero k h = ne_eqb (48 + k) 48 (λ e. omega arith)

pub byte_bound : (v : ℕ) → is_byte v ≡ true → v < 256
unfolding is_byte
byte_bound v b = let h = leb-true v 255 b in omega arith

-- A number is read back where no digit follows.
pub number_taken : (v : ℕ) (rest : List ℕ) → is_byte v ≡ true → Stops rest → read_number (decimal v ++ rest) ≡ part v rest
unfolding decimal_number digits_from
number_taken v rest b h = go (dec_lt v 10) (dec_lt v 100)
  where
    small : v < 256
    small = byte_bound v b

    go : Dec (v < 10) → Dec (v < 100) → read_number (decimal v ++ rest) ≡ part v rest
    go (yes i) k =
        let d = is_digit_lem v i in
        let e : 10 * 0 + (48 + v - 48) ≡ v = omega arith in
        rw (one_digit v i) (read_digits v ((48 + v) ∷ []) rest (rw d refl) h (rw d (ap some e)) refl b)
    go (no i) (yes k) =
        let x : 10 ≤ v = omega (arith, i) in
        let a : v / 10 < 10 = omega arith in
        let f : 1 ≤ v / 10 = omega arith in
        let c : v % 10 < 10 = omega arith in
        let e : 10 * (10 * 0 + (48 + v / 10 - 48)) + (48 + v % 10 - 48) ≡ v = omega arith in
        rw (two_digits v x k) (read_digits v ((48 + v / 10) ∷ (48 + v % 10) ∷ []) rest (rw (is_digit_lem (v / 10) a, is_digit_lem (v % 10) c) refl) h
        (rw (is_digit_lem (v / 10) a, is_digit_lem (v % 10) c) (ap some e)) (rw (no_zero (v / 10) f) refl) b)
    go (no i) (no k) =
        let x : 100 ≤ v = omega (arith, k) in
        let a : v / 100 < 10 = omega (arith, small) in
        let f : 1 ≤ v / 100 = omega arith in
        let m : v / 10 % 10 < 10 = omega arith in
        let c : v % 10 < 10 = omega arith in
        let e : 10 * (10 * (10 * 0 + (48 + v / 100 - 48)) + (48 + v / 10 % 10 - 48)) + (48 + v % 10 - 48) ≡ v = omega arith in
        rw (three_digits v x small) (read_digits v ((48 + v / 100) ∷ (48 + v / 10 % 10) ∷ (48 + v % 10) ∷ []) rest
        (rw (is_digit_lem (v / 100) a, is_digit_lem (v / 10 % 10) m, is_digit_lem (v % 10) c) refl) h
        (rw (is_digit_lem (v / 100) a, is_digit_lem (v / 10 % 10) m, is_digit_lem (v % 10) c) (ap some e)) (rw (no_zero (v / 100) f) refl) b)

-- digits with no zero in front that are read as a number below 256 are its own
some_is : {v w : ℕ} → some v ≡ some w → v ≡ w
some_is e = cc

two_parts : (a b v : ℕ) → 48 ≤ a → a ≤ 57 → 48 ≤ b → b ≤ 57 → (a ≡ 48 → ⊥) → 10 * (10 * 0 + (a - 48)) + (b - 48) ≡ v
    → (10 ≤ v) × (v < 100) × (a ≡ 48 + v / 10) × (b ≡ 48 + v % 10)
two_parts a b v h i j k z f = let n : 49 ≤ a = omega (arith, z) in (omega arith, omega arith, omega arith, omega arith)

three_parts : (a b c v : ℕ) → 48 ≤ a → a ≤ 57 → 48 ≤ b → b ≤ 57 → 48 ≤ c → c ≤ 57 → (a ≡ 48 → ⊥) → 10 * (10 * (10 * 0 + (a - 48)) + (b - 48)) + (c - 48) ≡ v
    → (100 ≤ v) × (a ≡ 48 + v / 100) × (b ≡ 48 + v / 10 % 10) × (c ≡ 48 + v % 10)
three_parts a b c v h i j k l m z f = let n : 49 ≤ a = omega (arith, z) in (omega arith, omega arith, omega arith, omega arith)

own_digits : (ds : List ℕ) (v : ℕ) → every is_digit ds ≡ true → length ds ≤ 3 → 1 ≤ length ds → (eqb (length ds) 1 || not (eqb (get_or ds 0 0) 48)) ≡ true
    → digits_from 0 ds ≡ some v → v < 256 → ds ≡ decimal v
unfolding digits_from
own_digits [] v e few one p d small = absurd (omega arith)
own_digits (a ∷ []) v e few one p d small =
    let x = both {a = is_digit a} {b = true} e in
    let ra = digit_range a x.0 in
    let f : 10 * 0 + (a - 48) ≡ v = some_is (sym (rw x.0 refl) ∙ d) in
    let i : v < 10 = omega (arith, ra.0, ra.1) in
    let g : a ≡ 48 + v = omega (arith, ra.0, ra.1) in
    ap (λ (z : ℕ). z ∷ []) g ∙ sym (one_digit v i)
own_digits (a ∷ b ∷ []) v e few one p d small =
    let x = both {a = is_digit a} {b = is_digit b && true} e in
    let y = both {a = is_digit b} {b = true} x.1 in
    let ra = digit_range a x.0 in
    let rb = digit_range b y.0 in
    let z : a ≡ 48 → ⊥ = eqb-false a 48 (not-true (eqb a 48) p) in
    let f : 10 * (10 * 0 + (a - 48)) + (b - 48) ≡ v = some_is (sym (rw (x.0, y.0) refl) ∙ d) in
    let q = two_parts a b v ra.0 ra.1 rb.0 rb.1 z f in
    ap₂ (λ (k l : ℕ). k ∷ l ∷ []) q.2 q.3 ∙ sym (two_digits v q.0 q.1)
own_digits (a ∷ b ∷ c ∷ []) v e few one p d small =
    let x = both {a = is_digit a} {b = is_digit b && (is_digit c && true)} e in
    let y = both {a = is_digit b} {b = is_digit c && true} x.1 in
    let u = both {a = is_digit c} {b = true} y.1 in
    let ra = digit_range a x.0 in
    let rb = digit_range b y.0 in
    let rc = digit_range c u.0 in
    let z : a ≡ 48 → ⊥ = eqb-false a 48 (not-true (eqb a 48) p) in
    let f : 10 * (10 * (10 * 0 + (a - 48)) + (b - 48)) + (c - 48) ≡ v = some_is (sym (rw (x.0, y.0, u.0) refl) ∙ d) in
    let q = three_parts a b c v ra.0 ra.1 rb.0 rb.1 rc.0 rc.1 z f in
    ap₂ (λ (k : ℕ) (l : List ℕ). k ∷ l) q.1 (ap₂ (λ (k l : ℕ). k ∷ l ∷ []) q.2 q.3) ∙ sym (three_digits v q.0 small)
own_digits (a ∷ b ∷ c ∷ k ∷ ds) v e few one p d small = absurd (omega arith)

-- What is said of digits, taken apart.
said_of : (plain : Bool) (o : Option ℕ) (behind : List ℕ) (v : ℕ) (rest : List ℕ) → number_said plain o behind ≡ part v rest
    → (o ≡ some v) × (plain ≡ true) × (is_byte v ≡ true) × (behind ≡ rest)
unfolding number_said
said_of plain none behind v rest e = let z : ◌≡◌ {A = ℕ} 0 1 = cc in absurd (omega arith)
said_of plain (some w) behind v rest e = go (plain && is_byte w) refl e
  where
    go : (x : Bool) → (plain && is_byte w) ≡ x → cond x (part w behind) faulty ≡ part v rest → (some w ≡ some v) × (plain ≡ true) × (is_byte v ≡ true) × (behind ≡ rest)
    go true f g =
        let p = both {a = plain} {b = is_byte w} f in
        let h : w ≡ v = cc in
        let i : behind ≡ rest = cc in
        (ap some h, p.0, subst (λ (k : ℕ). is_byte k ≡ true) h p.1, i)
    go false f g = let z : ◌≡◌ {A = ℕ} 0 1 = cc in absurd (omega arith)

pub few_of : (ds : List ℕ) (v : ℕ) → decimal_number ds ≡ some v → (1 ≤ length ds) × (length ds ≤ 3) × (digits_from 0 ds ≡ some v)
unfolding decimal_number
few_of ds v e = go (leb 1 (length ds) && leb (length ds) 3) refl e
  where
    go : (x : Bool) → (leb 1 (length ds) && leb (length ds) 3) ≡ x → cond x (digits_from 0 ds) none ≡ some v → (1 ≤ length ds) × (length ds ≤ 3) × (digits_from 0 ds ≡ some v)
    go true f g = let p = both {a = leb 1 (length ds)} {b = leb (length ds) 3} f in (leb-true 1 (length ds) p.0, leb-true (length ds) 3 p.1, g)
    go false f g = let z : ◌≡◌ {A = ℕ} 0 1 = cc in absurd (omega arith)

-- What is read as a number is its decimal, and no other text.
pub number_only : (t : List ℕ) (v : ℕ) (rest : List ℕ) → read_number t ≡ part v rest → (t ≡ decimal v ++ rest) × (is_byte v ≡ true)
unfolding read_number
number_only t v rest e =
    let k = front is_digit t in
    let s = said_of (eqb k 1 || not (eqb (get_or t 0 0) 48)) (decimal_number (take k t)) (drop k t) v rest e in
    let f = few_of (take k t) v s.0 in
    let l : length (take k t) ≡ k = length-take-le k t (front_le is_digit t) in
    let g : get_or (take k t) 0 0 ≡ get_or t 0 0 = get_or-take k t 0 0 (omega (arith, f.0)) in
    let plain : (eqb (length (take k t)) 1 || not (eqb (get_or (take k t) 0 0) 48)) ≡ true = rw (l, g) s.1 in
    let own = own_digits (take k t) v (front_digits t) f.1 f.0 plain f.2 (byte_bound v s.2) in
    (sym (take-append-drop k t) ∙ ap₂ (λ (x y : List ℕ). x ++ y) own s.3, s.2)
