-- What the functions of the addition leave of the bytes that they are lent.
use mathlib.Core.Path.{◌≡◌, refl, sym, ◌∙◌, ap, ap₂}
use mathlib.Core.List.{List, [], ◌∷◌, ◌++◌, append_assoc, append-nil}
use Prim.Native.Nat.{ℕ, zero, suc, ◌+◌, ◌*◌, ◌-◌, ◌<◌, ◌≤◌}
use native.Mathlib.Omega.{arith}
use native.Mathlib.Nat.{mod-lt}
use native.Mathlib.Numerals.{add-one}
use lib.ListN.{length, get_or, set, take, drop, replicate, length-append, length-drop, drop_of_length-le}
use lib.Seq.{length-take-le, take_all, drop-cons, take_at, drop_at, set_at}
use Rattle.residue.specs.Vector.{Below}
use Rattle.residue.specs.Layout.{fill, in_places, over, row_at, length_fill}
use Rattle.residue.proofs.vector.Vectors.{below_append, below_take, below_drop, below_zeros}
use Rattle.residue.proofs.Layouts.{fill_append, over_all, fill_cut}
use Rattle.residue.proofs.Places.{over_more, over_keep, over_own}
use Rattle.monomial.specs.Insert.{inserted_at, taken_out}
use Rattle.growth.specs.Growing.{row_value_at, corrected_by, corrected_row, corrected_rows, rows_left}

-- a row of numbers was written with f put in before a place
pub put_corrected_lem : (place f k : ℕ) (S row one two ys : List ℕ) → place < 64 → length S ≡ 64 → length row ≡ 64 → k ≡ length two - (place + 1)
    → one ≡ over (take place S) row → two ≡ set one place f → ys ≡ over (take (63 - place) (drop place S)) (take k (drop (place + 1) two))
    → take (place + 1) two ++ (ys ++ drop k (drop (place + 1) two)) ≡ fill 64 (inserted_at place f S)
unfolding over inserted_at
put_corrected_lem place f k S row one two ys h lS lrow ek e1 e2 ey =
    let F : List ℕ = take place S in
    let G : List ℕ = take (63 - place) (drop place S) in
    let H : List ℕ = F ++ (f ∷ []) in
    let lF : length F ≡ place = length-take-le place S (omega arith) in
    let lG : length G ≡ 63 - place = length-take-le (63 - place) (drop place S) (simp length-drop (omega arith)) in
    let behind : List ℕ = drop (suc place) row in
    let lb : length behind ≡ 63 - place = length-drop (suc place) row ∙ omega arith in
    let is1 : one ≡ F ++ (get_or row place 0 ∷ behind) = e1 ∙ ap (λ (n : ℕ). F ++ drop n row) lF ∙ ap (λ (z : List ℕ). F ++ z) (drop-cons row place 0 (omega arith)) in
    let is2 : two ≡ H ++ behind = e2 ∙ ap (λ (z : List ℕ). set z place f) is1 ∙ set_at F (get_or row place 0) behind f place lF ∙ sym (append_assoc F (f ∷ []) behind) in
    let lH : length H ≡ place + 1 = length-append F (f ∷ []) ∙ omega arith in
    let l2 : length two ≡ 64 = ap length is2 ∙ length-append H behind ∙ omega arith in
    let tail : drop (place + 1) two ≡ behind = ap (drop (place + 1)) is2 ∙ drop_at H behind (place + 1) lH in
    let cut : take k (drop (place + 1) two) ≡ behind = ap (take k) tail ∙ take_all k behind (omega arith) in
    let none : drop k (drop (place + 1) two) ≡ [] = ap (drop k) tail ∙ drop_of_length-le behind {i = k} (omega arith) in
    let last : ys ≡ G = ey ∙ ap (over G) cut ∙ over_all G behind (omega arith) in
    let whole : 64 ≡ length H + (63 - place) = omega arith in
    ap₂ (λ (u v : List ℕ). u ++ v) (ap (take (place + 1)) is2 ∙ take_at H behind (place + 1) lH) (ap₂ (λ (u v : List ℕ). u ++ v) last none ∙ append-nil G)
    ∙ sym (ap₂ (λ (n : ℕ) (z : List ℕ). fill n z) whole (sym (append_assoc F (f ∷ []) (drop place S))) ∙ fill_append H (drop place S) (63 - place)
    ∙ ap (λ (z : List ℕ). H ++ z) (fill_cut (63 - place) (drop place S) (simp length-drop (omega arith))))

pub length_corrected : (p place f : ℕ) (gone cs : List ℕ) → length (corrected_by p place f gone cs) ≡ 64
unfolding corrected_by
length_corrected p place f gone cs = length_fill 64 _

-- the value of a row is a residue
pub value_below : (p : ℕ) (point values lead cs : List ℕ) → 0 < p → row_value_at p point values lead cs < p
unfolding row_value_at
value_below p point values lead cs h = mod-lt _ h

module _ (p place i : ℕ) (gone point values leads table : List ℕ) where
  pub rows_none : table ≡ over (in_places 64 (corrected_rows p place i gone point values leads table 0)) table
  unfolding over in_places corrected_rows
  rows_none = refl

  pub corrected_more : (k : ℕ) → corrected_rows p place i gone point values leads table (k + 1)
      ≡ corrected_rows p place i gone point values leads table k ++ (corrected_row p place i gone point values (row_at 8 k leads) (row_at 64 k table) ∷ [])
  unfolding corrected_rows
  corrected_more k = ap (corrected_rows p place i gone point values leads table) (add-one k)

  pub rows_length : (k : ℕ) → length (corrected_rows p place i gone point values leads table k) ≡ k
  unfolding corrected_rows
  rows_length zero = refl
  rows_length (suc k) = length-append (corrected_rows p place i gone point values leads table k) _ ∙ omega (arith, rows_length k)

pub length_row : (p place i : ℕ) (gone point values lead cs : List ℕ) → length (corrected_row p place i gone point values lead cs) ≡ 64
unfolding corrected_row
length_row p place i gone point values lead cs = length_corrected p place _ gone cs

-- in a turn of the loop over the rows the table is as long as it came, and its row i is still its own
module _ (p place inverse : ℕ) (gone point values leads table now : List ℕ) (i : ℕ) (e : now ≡ over (in_places 64 (corrected_rows p place inverse gone point values leads table i)) table) where
  abbrev rows_done : List (List ℕ)
  rows_done = corrected_rows p place inverse gone point values leads table i

  done_many : length rows_done ≡ i
  done_many = rows_length p place inverse gone point values leads table i

  pub rows_keep : 64 * i ≤ length table → length now ≡ length table
  rows_keep h = over_keep rows_done table now e (omega (arith, done_many))

  pub own_row : {k : ℕ} {copy : List ℕ} → 64 * i + 64 ≤ length table → k ≡ 64 → copy ≡ over (take k (drop (64 * i) now)) (replicate 64 0) → copy ≡ row_at 64 i table
  own_row h f g =
      g ∙ ap (λ (z : List ℕ). over z (replicate 64 0)) (ap (λ (n : ℕ). take n (drop (64 * i) now)) f ∙ over_own rows_done table now e (64 * i) (ap (λ (n : ℕ). 64 * n) (sym done_many)))
      ∙ over_all (row_at 64 i table) (replicate 64 0) (omega (arith, length-take-le 64 (drop (64 * i) table) (simp length-drop (omega arith))))

  pub row_corrected : {k : ℕ} {row lead copy : List ℕ} → 64 * i + 64 ≤ length table → k ≡ 64 → lead ≡ row_at 8 i leads → copy ≡ row_at 64 i table → row ≡ corrected_row p place inverse gone point values lead copy
      → take (64 * i) now ++ (row ++ drop k (drop (64 * i) now)) ≡ over (in_places 64 (corrected_rows p place inverse gone point values leads table (i + 1))) table
  row_corrected h f l c g =
      over_more rows_done (corrected_row p place inverse gone point values (row_at 8 i leads) (row_at 64 i table)) table now _ (64 * i) _ e (ap (λ (n : ℕ). 64 * n) (sym done_many)) h f
      (g ∙ ap₂ (corrected_row p place inverse gone point values) l c) (length_row p place inverse gone point values (row_at 8 i leads) (row_at 64 i table))
      ∙ ap (λ (z : List (List ℕ)). over (in_places 64 z) table) (sym (corrected_more p place inverse gone point values leads table i))

-- the rows left are residues where all rows were
pub left_below : (p r j : ℕ) (t : List ℕ) → 0 < p → Below p t → Below p (rows_left r j t)
unfolding rows_left over taken_out
left_below p r j t z b =
    let A : List ℕ = take (64 * j) t in
    let B : List ℕ = take (64 * r - (64 * j + 64)) (drop (64 * j + 64) t) in
    below_append p (A ++ B) (drop (length (A ++ B)) (replicate 28736 0))
    (below_append p A B (below_take p (64 * j) t b) (below_take p (64 * r - (64 * j + 64)) (drop (64 * j + 64) t) (below_drop p (64 * j + 64) t b)))
    (below_drop p (length (A ++ B)) (replicate 28736 0) (below_zeros p 28736 z))
