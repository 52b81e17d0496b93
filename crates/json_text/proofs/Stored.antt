-- What a reader's loops store: numbers and rows as far as the lent room goes, and the rows' lengths.
use mathlib.Core.Path.{◌≡◌, refl, sym, ◌∙◌, ap, ap₂}
use mathlib.Core.Bool.{Bool, true, false, cond, ◌&&◌, ◌||◌, and_assoc, and_comm}
use mathlib.Core.List.{List, [], ◌∷◌, ◌++◌, append_assoc}
use Prim.Native.Nat.{ℕ, zero, suc, ◌+◌, ◌*◌, ◌≤◌, ◌<◌}
use native.Mathlib.Nat.{mul-le-mul_left}
use native.Mathlib.Decide.{dec_lt}
use native.Mathlib.Omega.{arith}
use lib.ListN.{length, get_or, take, drop, set, replicate, length-append, length-take}
use lib.Seq.{take-append-le, take_all, take-nil, drop-cons, set_at, set_out}
use lib.Dec.{eqb, ltb, eqb-suc-zero, eqb-zero-suc}
use borrow.Author.Tests.{eqb-true, eqb-false, eq-eqb, ne_eqb, ltb-true, ltb-false}
use Rattle.residue.specs.Lists.{every}
use Rattle.residue.specs.Layout.{fill, in_places, over, with_place}
use Rattle.residue.proofs.Layouts.{fill_cut, length_places, length_over}
use Rattle.residue.proofs.Places.{places_append, place_more, over_zeros}
use Rattle.residue.proofs.Replaced.{zeros_long}
use Rattle.json_text.specs.Documents.{is_table}
use Rattle.std.proofs.Common.{Option, Some, None}
use Rattle.std.specs.Option.{option_eq}
use Rattle.json_text.specs.Places.{row_in}
use Rattle.json_text.specs.Said.{columns_of, common_length, lengths_of}
use Rattle.json_text.specs.declared.reading.Lengths.{Lengths}

-- a list that is as long already keeps its first k numbers
past : (k : ℕ) (l m : List ℕ) → k ≤ length l → fill k (l ++ m) ≡ fill k l
past k l m h = fill_cut k (l ++ m) (omega (arith, length-append l m)) ∙ take-append-le k l m h ∙ sym (fill_cut k l h)

-- Numbers over what the buffer held.
module _ (o : List ℕ) where
  -- the buffer with so many of the items at its front
  abbrev pub stored : List ℕ → List ℕ
  stored items = over (take (length o) items) o

  pub stored_none : o ≡ stored []
  unfolding over
  stored_none = rw (take-nil {A = ℕ} (length o))

  pub stored_length : (items : List ℕ) → length (stored items) ≡ length o
  stored_length items = length_over (take (length o) items) o (omega (arith, length-take (length o) items))

  pub stored_more : (items : List ℕ) (v : ℕ) → length items < length o → set (stored items) (length items) v ≡ stored (items ++ (v ∷ []))
  unfolding over
  stored_more items v h =
      let n = length items in
      let a : take (length o) items ≡ items = take_all (length o) items (omega arith) in
      let b : take (length o) (items ++ (v ∷ [])) ≡ items ++ (v ∷ []) = take_all (length o) (items ++ (v ∷ [])) (omega (arith, length-append items (v ∷ []))) in
      let l : length (items ++ (v ∷ [])) ≡ suc n = length-append items (v ∷ []) ∙ omega arith in
      rw (a, b, l, drop-cons o n 0 h) (set_at items (get_or o n 0) (drop (suc n) o) v n refl ∙ sym (append_assoc items (v ∷ []) (drop (suc n) o)))

  pub stored_past : (items : List ℕ) (v : ℕ) → length o ≤ length items → stored items ≡ stored (items ++ (v ∷ []))
  stored_past items v h = ap (λ (z : List ℕ). over z o) (sym (take-append-le (length o) items (v ∷ []) h))

  -- where there is no room, nothing is set
  pub stored_put : (items : List ℕ) (v : ℕ) → set (stored items) (length items) v ≡ stored (items ++ (v ∷ []))
  stored_put items v = go (dec_lt (length items) (length o))
    where
      go : Dec (length items < length o) → set (stored items) (length items) v ≡ stored (items ++ (v ∷ []))
      go (yes h) = stored_more items v h
      go (no h) = let k : length o ≤ length items = omega (arith, h) in set_out (stored items) (length items) v (omega (arith, stored_length items)) ∙ stored_past items v k

-- a row more where there is no room
pub row_past : (w N : ℕ) (rows : List (List ℕ)) (l : List ℕ) → N ≤ w * length rows → fill N (in_places w rows) ≡ fill N (in_places w (rows ++ (l ∷ [])))
row_past w N rows l h = sym (past N (in_places w rows) (in_places w (l ∷ [])) (omega (arith, length_places w rows))) ∙ ap (fill N) (sym (places_append w rows (l ∷ [])))

-- a row of any length in its place, cut to the width
cut_row : (w : ℕ) (l : List ℕ) → fill w (take w l) ≡ fill w l
unfolding fill
cut_row zero l = refl
cut_row (suc w) [] = refl
cut_row (suc w) (x ∷ l) = ap (λ (z : List ℕ). x ∷ z) (cut_row w l)

pub row_stored : (w N : ℕ) (rows : List (List ℕ)) (l t ys : List ℕ) (at k : ℕ) → t ≡ fill N (in_places w rows) → at ≡ w * length rows → k ≡ w → at + w ≤ N
    → ys ≡ over (take w l) (take k (drop at t)) → take at t ++ (ys ++ drop k (drop at t)) ≡ fill N (in_places w (rows ++ (l ∷ [])))
unfolding in_places
row_stored w N rows l t ys at k e a f h y =
    place_more w N rows (take w l) t ys at k e a f h (omega (arith, length-take w l)) y
    ∙ ap (fill N) (places_append w rows (take w l ∷ []) ∙ ap (λ (z : List ℕ). in_places w rows ++ (z ++ [])) (cut_row w l) ∙ sym (places_append w rows (l ∷ [])))

-- one row more of a table of so many places that held none but rows
pub row_in_lem : (w places : ℕ) (rows : List (List ℕ)) (l t : List ℕ) (row : ℕ) → row ≡ length rows → t ≡ fill (w * places) (in_places w rows)
    → row_in w places row l t ≡ fill (w * places) (in_places w (rows ++ (l ∷ [])))
unfolding row_in with_place
row_in_lem w places rows l t row r e = go (ltb row places) refl
  where
    go : (x : Bool) → ltb row places ≡ x → cond x (take (w * row) t ++ (over (take w l) (take w (drop (w * row) t)) ++ drop w (drop (w * row) t))) t ≡ fill (w * places) (in_places w (rows ++ (l ∷ [])))
    go true f = let h : w * suc row ≤ w * places = mul-le-mul_left w (ltb-true row places f) in
        row_stored w (w * places) rows l t (over (take w l) (take w (drop (w * row) t))) (w * row) w e (ap (λ (j : ℕ). w * j) r) refl (omega arith) refl
    go false f = let h : w * places ≤ w * length rows = mul-le-mul_left w (omega (arith, ltb-false row places f)) in e ∙ row_past w (w * places) rows l h

-- The lengths of rows, one row more.
every_snoc : {A : Type 0} (f : A → Bool) (L : List A) (a : A) → every f (L ++ (a ∷ [])) ≡ (every f L && f a)
every_snoc f [] a = and_comm (f a) true
every_snoc f (b ∷ L) a = ap (λ (x : Bool). f b && x) (every_snoc f L a) ∙ sym (and_assoc (f b) (every f L) (f a))

-- what a longer list of rows has in common
common_all : (L : List (List ℕ)) (l : List ℕ) → 0 < length L → common_length (L ++ (l ∷ [])) ≡ cond (every (λ x. eqb (length x) (columns_of L)) L && eqb (length l) (columns_of L)) (Some (columns_of L)) None
unfolding common_length columns_of
common_all [] l h = absurd (omega arith)
common_all (a ∷ L) l h = ap (λ (x : Bool). cond x (Some (length a)) None) (every_snoc (λ x. eqb (length x) (length a)) (a ∷ L) l)

pub common_first : (L : List (List ℕ)) (l : List ℕ) → length L ≡ 0 → Some (length l) ≡ common_length (L ++ (l ∷ []))
unfolding common_length columns_of
common_first [] l h = rw (eq-eqb (length l) (length l) refl)
common_first (a ∷ L) l h = absurd (omega arith)

-- a row more, behind others: as long as they all are, or not
pub common_more : (L : List (List ℕ)) (l : List ℕ) (x : Bool) → 0 < length L → x ≡ option_eq eqb (common_length L) (Some (length l)) → cond x (Some (length l)) None ≡ common_length (L ++ (l ∷ []))
unfolding common_length
common_more L l x h e = ap (λ (y : Bool). cond y (Some (length l)) None) e ∙ go (every (λ x. eqb (length x) (columns_of L)) L) (columns_of L) ∙ sym (common_all L l h)
  where
    same : (j k : ℕ) (z : Bool) → eqb j k ≡ z → cond z (Some k) None ≡ cond (eqb k j) (Some j) None
    same j k true f = let g = eqb-true j k f in rw (eq-eqb k j (sym g), g)
    same j k false f = rw (ne_eqb k j (λ g. eqb-false j k f (sym g)))

    go : (y : Bool) (j : ℕ) → cond (option_eq eqb (cond y (Some j) None) (Some (length l))) (Some (length l)) None ≡ cond (y && eqb (length l) j) (Some j) None
    go true j = same j (length l) (eqb j (length l)) refl
    go false j = refl

pub lengths_told : (L : List (List ℕ)) (count : ℕ) (columns : Option ℕ) → count ≡ length L → columns ≡ common_length L → record { count = count; columns = columns } ≡ lengths_of L
unfolding lengths_of
lengths_told L count columns e f = rw (e, f)

-- So many rows of m numbers, by what the loop keeps.
pub table_kept : (k m : ℕ) (L : List (List ℕ)) → is_table k m L ≡ (eqb (length L) k && (eqb k 0 || option_eq eqb (common_length L) (Some m)))
unfolding is_table common_length columns_of
table_kept zero m [] = refl
table_kept (suc k) m [] = rw (eqb-zero-suc k)
table_kept zero m (a ∷ L) = rw (eqb-suc-zero (length L))
table_kept (suc k) m (a ∷ L) = rw (eqb-suc-zero k, eq-eqb (length a) (length a) refl) (ap (λ (x : Bool). eqb (suc (length L)) (suc k) && x) (go (eqb (length a) m) refl ∙ told (every (λ l. eqb (length l) (length a)) L) (length a)))
  where
    go : (x : Bool) → eqb (length a) m ≡ x → (x && every (λ l. eqb (length l) m) L) ≡ (every (λ l. eqb (length l) (length a)) L && x)
    go true e = ap (λ (j : ℕ). every (λ l. eqb (length l) j) L) (sym (eqb-true (length a) m e)) ∙ and_comm true (every (λ l. eqb (length l) (length a)) L)
    go false e = and_comm false (every (λ l. eqb (length l) (length a)) L)

    told : (x : Bool) (j : ℕ) → (x && eqb j m) ≡ option_eq eqb (cond x (Some j) None) (Some m)
    told true j = refl
    told false j = refl

pub table_told : (k m : ℕ) (L : List (List ℕ)) (x : Lengths) → x ≡ lengths_of L → (eqb x.count k && (eqb k 0 || option_eq eqb x.columns (Some m))) ≡ is_table k m L
unfolding lengths_of
table_told k m L x e = rw e (sym (table_kept k m L))

-- A table of zeros has room for so many bytes, and holds a list as far as it goes.
pub zeros_room : (k : ℕ) (t : List ℕ) → t ≡ replicate k 0 → (k ≡ length t) × (t ≡ replicate (length t) 0)
zeros_room k t e = let l : k ≡ length t = sym (zeros_long t k e) in (l, e ∙ ap (λ (j : ℕ). replicate j 0) l)

pub zeros_listed : (k : ℕ) (items t new : List ℕ) → t ≡ replicate k 0 → new ≡ over (take (length t) items) t → new ≡ fill k items
zeros_listed k items t new e f =
    f ∙ ap₂ (λ (j : ℕ) (z : List ℕ). over (take j items) z) (zeros_long t k e) e
    ∙ over_zeros (take k items) k (omega (arith, length-take k items)) ∙ cut_row k items
