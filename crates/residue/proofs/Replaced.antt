-- A part of a table replaced, and a place of it written.
use mathlib.Core.Path.{◌≡◌, sym, ap, ◌∙◌, refl, ap₂}
use mathlib.Core.List.{List, ◌++◌, [], ◌∷◌}
use Prim.Native.Nat.{ℕ, zero, suc, ◌+◌, ◌<◌, ◌≤◌, ◌*◌}
use native.Mathlib.Omega.{arith}
use lib.ListN.{length, get_or, take, drop, length-append, length-drop, get_or-append, replicate, length-replicate}
use lib.Seq.{get_or-take, get_or-append-add, length-take-le, take-take, take_at, drop_at, take-append-le, drop-append-le}
use Rattle.residue.specs.Vector.{Below}
use Rattle.residue.specs.Layout.{over, with_place, fill, in_places}
use Rattle.residue.proofs.vector.Vectors.{below_take, below_drop, below_append}
use Rattle.residue.proofs.Layouts.{over_all}
use Rattle.residue.proofs.Places.{place_more, over_zeros}

-- A part of a table replaced by as many numbers: the table's length, residues, what lies before, and the part itself.
module _ (at w : ℕ) (new table : List ℕ) (fits : at + w ≤ length table) (long : length new ≡ w) where
  abbrev pub replaced : List ℕ
  replaced = take at table ++ (new ++ drop w (drop at table))

  before_length : length (take at table) ≡ at
  before_length = length-take-le at table (omega arith)

  pub replaced_length : length replaced ≡ length table
  replaced_length = simp (length-append, length-drop, before_length) (omega arith)

  pub replaced_below : (p : ℕ) → Below p new → Below p table → Below p replaced
  replaced_below p b c =
      below_append p (take at table) (new ++ drop w (drop at table)) (below_take p at table c)
      (below_append p new (drop w (drop at table)) b (below_drop p w (drop at table) (below_drop p at table c)))

  pub replaced_before : (i : ℕ) → i < at → get_or replaced i 0 ≡ get_or table i 0
  replaced_before i h = get_or-append (take at table) _ 0 i (rw before_length h) ∙ get_or-take at table i 0 h

  pub replaced_here : (i : ℕ) → i < w → get_or replaced (at + i) 0 ≡ get_or new i 0
  replaced_here i h =
      ap (λ (k : ℕ). get_or replaced (k + i) 0) (sym before_length)
      ∙ get_or-append-add (take at table) (new ++ drop w (drop at table)) i 0
      ∙ get_or-append new (drop w (drop at table)) 0 i (rw long h)

-- a part that was lent, and came back written over at its front
pub put_place : (w k j : ℕ) (new table : List ℕ) {part : List ℕ} → j ≡ w → part ≡ over new (take j (drop (w * k) table))
    → take (w * k) table ++ (part ++ drop j (drop (w * k) table)) ≡ with_place w k new table
unfolding with_place
put_place w k j new table {part} e h =
    ap (λ (l : List ℕ). take (w * k) table ++ (l ++ drop j (drop (w * k) table))) h
    ∙ ap (λ (i : ℕ). take (w * k) table ++ (over new (take i (drop (w * k) table)) ++ drop i (drop (w * k) table))) e

-- the part is as long as the place
pub part_long : (at j w : ℕ) (table : List ℕ) → j ≡ w → at + w ≤ length table → length (take j (drop at table)) ≡ w
part_long at j w table e h = length-take-le j (drop at table) (simp length-drop (omega arith)) ∙ e

-- a whole place, written and read
pub put_whole : (w k j : ℕ) (new table : List ℕ) {part : List ℕ} → j ≡ w → w * k + w ≤ length table → length new ≡ w → part ≡ new
    → take (w * k) table ++ (part ++ drop j (drop (w * k) table)) ≡ with_place w k new table
put_whole w k j new table e h l g = put_place w k j new table e (g ∙ sym (over_all new _ (l ∙ sym (part_long (w * k) j w table e h))))

pub read_whole : (at j w : ℕ) (table old : List ℕ) → j ≡ w → at + w ≤ length table → length old ≡ w → over (take j (drop at table)) old ≡ take w (drop at table)
read_whole at j w table old e h l =
    over_all (take j (drop at table)) old (part_long at j w table e h ∙ sym l) ∙ ap (λ (i : ℕ). take i (drop at table)) e

-- one row more in a table whose places behind are 0
pub table_more : (w N k : ℕ) (S : List (List ℕ)) (r t : List ℕ) → t ≡ fill N (in_places w S) → k ≡ length S → w * k + w ≤ N → length r ≤ w
    → with_place w k r t ≡ fill N (in_places w (S ++ (r ∷ [])))
unfolding with_place
table_more w N k S r t e c h l = place_more w N S r t (over r (take w (drop (w * k) t))) (w * k) w e (ap (λ (z : ℕ). w * z) c) refl h l refl

-- a part of a part
part_within : (m k n : ℕ) (l : List ℕ) → k + m ≤ n → take m (drop k (take n l)) ≡ take m (drop k l)
part_within m zero n l h = take-take m n l (omega arith)
part_within m (suc k) zero l h = absurd (omega arith)
part_within m (suc k) (suc n) [] h = refl
part_within m (suc k) (suc n) (x ∷ l) h = part_within m k n l (omega arith)

-- a place that is written whole: the table's length, residues, what lies before, and the place itself
module _ (w k : ℕ) (new table : List ℕ) (fits : w * k + w ≤ length table) (long : length new ≡ w) where
  whole : with_place w k new table ≡ take (w * k) table ++ (new ++ drop w (drop (w * k) table))
  whole = sym (put_whole w k w new table refl fits long refl)

  pub place_length : length (with_place w k new table) ≡ length table
  place_length = rw whole (replaced_length (w * k) w new table fits long)

  pub place_below : (p : ℕ) → Below p new → Below p table → Below p (with_place w k new table)
  place_below p b c = rw whole (replaced_below (w * k) w new table fits long p b c)

  pub place_before : (i : ℕ) → i < w * k → get_or (with_place w k new table) i 0 ≡ get_or table i 0
  place_before i h = rw whole (replaced_before (w * k) w new table fits long i h)

  pub place_here : (i : ℕ) → i < w → get_or (with_place w k new table) (w * k + i) 0 ≡ get_or new i 0
  place_here i h = rw whole (replaced_here (w * k) w new table fits long i h)

  front_long : length (take (w * k) table) ≡ w * k
  front_long = length-take-le (w * k) table (omega arith)

  pub place_there : take w (drop (w * k) (with_place w k new table)) ≡ new
  place_there = rw whole (ap (take w) (drop_at (take (w * k) table) (new ++ drop w (drop (w * k) table)) (w * k) front_long) ∙ take_at new (drop w (drop (w * k) table)) w long)

  -- a part before the place
  pub place_apart : (at n : ℕ) → at + n ≤ w * k → take n (drop at (with_place w k new table)) ≡ take n (drop at table)
  place_apart at n h =
      let f : at ≤ length (take (w * k) table) = omega (arith, front_long) in
      rw whole
      (ap (take n) (drop-append-le at (take (w * k) table) (new ++ drop w (drop (w * k) table)) f)
      ∙ take-append-le n (drop at (take (w * k) table)) (new ++ drop w (drop (w * k) table)) (omega (arith, length-drop at (take (w * k) table), front_long))
      ∙ part_within n at (w * k) table h)

pub zeros_long : (l : List ℕ) (k : ℕ) → l ≡ replicate k 0 → length l ≡ k
zeros_long l k e = ap length e ∙ length-replicate k 0

-- values loaded into an empty working row
pub load : (own work : List ℕ) (n : ℕ) {part : List ℕ} → work ≡ replicate 128 0 → n ≤ length own → n ≤ 128 → part ≡ take n own → part ++ drop n work ≡ fill 128 (take n own)
unfolding over
load own work n {part} e h l f =
    let g : length (take n own) ≡ n = length-take-le n own h in
    ap₂ (λ (a w : List ℕ). a ++ drop n w) f e ∙ ap (λ (i : ℕ). take n own ++ drop i (replicate 128 0)) (sym g) ∙ over_zeros (take n own) 128 (omega arith)
