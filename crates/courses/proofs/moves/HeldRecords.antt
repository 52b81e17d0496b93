-- Records in their two tables: the bytes of a state, the number of a course, and what the functions that look at two records answer of the list.
use mathlib.Core.Path.{◌≡◌, refl, sym, ◌∙◌, ap, ap₂}
use mathlib.Core.Bool.{Bool, true, false, not, ◌&&◌}
use mathlib.Core.Logic.{inl, inr}
use mathlib.Core.List.{List, [], ◌∷◌, map, zip, zip_with}
use Prim.Native.Nat.{ℕ, suc, ◌*◌, ◌<◌, ◌≤◌}
use native.Mathlib.Nat.{suc_inj}
use native.Mathlib.Omega.{arith}
use lib.ListN.{length, get_or, take, length-map}
use lib.Seq.{get_or-take, length-take-le}
use lib.Dec.{eqb, ltb}
use borrow.Author.Tests.{ltb-true}
use Rattle.residue.specs.Lists.{Among, same_list}
use Rattle.residue.specs.Layout.{groups, fill, row_at}
use Rattle.residue.proofs.Tests.{and_left, true_of, of_true}
use Rattle.residue.proofs.Layouts.{fill_exact, take_fill}
use Rattle.residue.proofs.Places.{table_groups, length_groups, groups_at, groups_long}
use Rattle.residue.proofs.vector.Vectors.{zip_length, map_at}
use Rattle.residue.proofs.bytes.Equality.{same_filled}
use Rattle.specification.proofs.agreement.Values.{point_of_lem}
use Rattle.specification.proofs.counted.Held.{zip_counts}
use Rattle.specification.proofs.ideal.Lists.{get_d_among}
use Rattle.courses.specs.TimeCourse.{Timed}
use Rattle.courses.specs.Records.{RecordedAs, HeldIn}
use Rattle.courses.specs.Moves.{state_at, course_at, has_next, next_in, other_in}

module _ {m : ℕ} {l : List Timed} {records numbers : List ℕ} (h : HeldIn m l records numbers) where
  pub row_is : (i : ℕ) → i < length l → row_at 8 i records ≡ fill 8 (state_at i l)
  row_is i low =
      sym (groups_at 8 (length l) i records [] low) ∙ ap (λ (S : List (List ℕ)). get_or S i []) h.states
      ∙ map_at (λ (a : Timed). fill 8 a.0) l ([], 0) [] i low

  pub number_is : (i : ℕ) → i < length l → get_or numbers i 0 ≡ course_at i l
  number_is i low =
      sym (get_or-take (length l) numbers i 0 low) ∙ ap (λ (t : List ℕ). get_or t i 0) h.courses ∙ map_at (λ (a : Timed). a.1) l ([], 0) 0 i low

  pub state_long : (i : ℕ) → i < length l → length (state_at i l) ≡ m
  state_long i low = h.long (get_or l i ([], 0)) (get_d_among l i ([], 0) low)

  -- states are equal where their bytes are
  pub same_rows : (i j : ℕ) → i < length l → j < length l → same_list (row_at 8 i records) (row_at 8 j records) ≡ same_list (state_at i l) (state_at j l)
  same_rows i j a b =
      ap₂ same_list (row_is i a) (row_is j b)
      ∙ same_filled 8 (state_at i l) (state_at j l) (state_long i a ∙ sym (state_long j b)) (omega (arith, state_long i a, h.fits))

  next_is : (i : ℕ) → next_in i (length l) numbers ≡ has_next i l
  unfolding next_in has_next
  next_is i = go (ltb (suc i) (length l)) refl
    where
      go : (b : Bool) → ltb (suc i) (length l) ≡ b → (b && eqb (get_or numbers i 0) (get_or numbers (suc i) 0)) ≡ (b && eqb (course_at i l) (course_at (suc i) l))
      go true e = let low : suc i < length l = ltb-true (suc i) (length l) e in ap₂ eqb (number_is i (omega arith)) (number_is (suc i) low)
      go false e = refl

  pub next_known : {count : ℕ} → length l ≡ count → (i : ℕ) {has : Bool} → has ≡ next_in i count numbers → has_next i l ≡ has
  next_known all i e = sym (next_is i) ∙ ap (λ (k : ℕ). next_in i k numbers) all ∙ sym e

  pub other_is : (i j : ℕ) → suc i < length l → j < i
      → other_in i j (length l) records numbers
      ≡ (has_next j l && (same_list (state_at j l) (state_at i l) && not (same_list (state_at (suc j) l) (state_at (suc i) l))))
  unfolding other_in
  other_is i j low below =
      ap₂ ◌&&◌ (next_is j) (ap₂ (λ (a b : Bool). a && not b) (same_rows j i (omega arith) (omega arith)) (same_rows (suc j) (suc i) (omega arith) low))

pub next_below : (i : ℕ) (l : List Timed) → has_next i l ≡ true → suc i < length l
unfolding has_next
next_below i l e = ltb-true (suc i) (length l) (true_of _ (and_left (ltb (suc i) (length l)) (eqb (course_at i l) (course_at (suc i) l)) (of_true e)))

-- records that fill two tables
pub recorded_held : {m : ℕ} {l : List Timed} {records numbers : List ℕ} → m ≤ 8 → ((a : Timed) → Among a l → length a.0 ≡ m) → RecordedAs l records numbers
    → HeldIn m l records numbers
recorded_held {m} {l} fits long r = record {
  fits = fits;
  long = long;
  states =
      let S = map (λ (a : Timed). a.0) l in
      let many : length S ≡ length l = length-map l (λ a. a.0) in
      ap₂ (groups 8) (sym many) r.states ∙ table_groups 8 32768 S (omega (arith, many, r.few)) ∙ filled l;
  courses = ap (take (length l)) r.courses ∙ take_fill (length l) 4096 (map (λ a. a.1) l) (length-map l (λ a. a.1)) r.few;
}
  where
    filled : (k : List Timed) → map (fill 8) (map (λ a. a.0) k) ≡ map (λ a. fill 8 a.0) k
    filled [] = refl
    filled (a ∷ k) = ap (λ (S : List (List ℕ)). fill 8 a.0 ∷ S) (filled k)

-- Any two tables begin with records whose states have 8 numbers.
unfoldable pub timed_in : ℕ → List ℕ → List ℕ → List Timed
timed_in count records numbers = zip (groups 8 count records) (take count numbers)

full_rows : (S : List (List ℕ)) (c : List ℕ) → length S ≡ length c → ((P : List ℕ) → Among P S → length P ≡ 8) → map (λ q. fill 8 q.0) (zip S c) ≡ S
unfolding zip zip_with
full_rows [] c e g = refl
full_rows (P ∷ S) [] e g = absurd (omega arith)
full_rows (P ∷ S) (k ∷ c) e g =
    ap₂ (λ (Q : List ℕ) (K : List (List ℕ)). Q ∷ K) (fill_exact 8 P (g P (inl refl))) (full_rows S c (suc_inj e) (λ Q q. g Q (inr q)))

module _ (count : ℕ) (records numbers : List ℕ) (a : 8 * count ≤ length records) (b : count ≤ length numbers) where
  as_many : length (groups 8 count records) ≡ length (take count numbers)
  as_many = length_groups 8 count records ∙ sym (length-take-le count numbers b)

  pub timed_many : length (timed_in count records numbers) ≡ count
  unfolding timed_in zip
  timed_many = zip_length _ (groups 8 count records) (take count numbers) as_many ∙ length_groups 8 count records

  pub timed_held : HeldIn 8 (timed_in count records numbers) records numbers
  unfolding timed_in
  timed_held = record {
    fits = omega arith;
    long = λ q mem. eight q.0 (point_of_lem (groups 8 count records) (take count numbers) q.0 q.1 mem);
    states = ap (λ (k : ℕ). groups 8 k records) timed_many ∙ sym (full_rows (groups 8 count records) (take count numbers) as_many eight);
    courses = ap (λ (k : ℕ). take k numbers) timed_many ∙ sym (zip_counts (groups 8 count records) (take count numbers) as_many);
  }
    where
      eight : (P : List ℕ) → Among P (groups 8 count records) → length P ≡ 8
      eight P mem = groups_long 8 count records a P mem
