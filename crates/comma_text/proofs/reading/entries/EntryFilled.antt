-- The levels of an entry one by one: what is read, what is left, and what has been written.
use mathlib.Core.Path.{◌≡◌, refl, sym, ap, ap₂, ◌∙◌, subst}
use mathlib.Core.Bool.{Bool, true, false, ◌&&◌}
use mathlib.Core.List.{List, [], ◌∷◌, ◌++◌}
use Prim.Native.Nat.{ℕ, suc, ◌+◌, ◌*◌, ◌-◌, ◌%◌, ◌^◌, ◌<◌, ◌≤◌}
use native.Mathlib.Numerals.{add-one}
use native.Mathlib.Omega.{arith}
use lib.IntN.{ℤ, pos}
use lib.ListN.{length, get_or, set, take, drop, length-set, length-drop, take-append-drop}
use lib.Seq.{take-suc, drop-cons, drop-drop, get_or_at, length-take-le}
use Rattle.residue.specs.Level.{residue_of}
use Rattle.residue.specs.Lists.{key_of}
use Rattle.residue.specs.Layout.{over}
use Rattle.residue.proofs.bytes.Keys.{digit_more, key_none, key_put, key_moved}
use Rattle.std.specs.Prelude.{Option, Some, None, is_some, unwrap_or}
use Rattle.specification.specs.Levels.{is_residue, residue_or0, in_range, residues}
use Rattle.specification.proofs.agreement.Points.{length_residues}
use Rattle.notation.specs.Fields.{Field, field, broken, Part, part, faulty, with_first}
use Rattle.comma_text.specs.reading.Text.{entry_point, entry_value}
use Rattle.comma_text.specs.reading.Records.{level_field, entry_part}
use Rattle.comma_text.specs.reading.Points.{level_in, behind_level, PlacedAs, levels_in, behind_entry, PointAs, FilledAs}
use Rattle.comma_text.specs.declared.reading.entries.Placed.{Placed}
use Rattle.comma_text.specs.declared.reading.entries.Point.{Point}
use Rattle.comma_text.proofs.reading.records.EntryLevels.{entry_broken, entry_more, entry_long, entry_last, entry_short}
use Rattle.comma_text.proofs.reading.entries.OneMore.{residues_snoc, range_snoc, over_snoc}

-- a residue that is there or not, and 0 in the place of none
module _ (p : ℕ) (z : ℤ) (r : Option ℕ) (e : r ≡ residue_of p z) where
  as_test : {b : Bool} → b ≡ is_some r → b ≡ is_residue (residue_of p z)
  unfolding is_residue
  as_test g = g ∙ go r ∙ ap is_residue e
    where
      go : (r : Option ℕ) → is_some r ≡ is_residue r
      go (Some x) = refl
      go None = refl

  as_value : {x : ℕ} → x ≡ unwrap_or r 0 → x ≡ residue_or0 (residue_of p z)
  unfolding residue_or0
  as_value y = y ∙ ap residue_or0 e

-- what an entry that is not faulty is
pub whole : (e : Part (List ℤ)) → (e ≡ faulty → ⊥) → e ≡ part (levels_in e) (behind_entry e)
unfolding levels_in behind_entry
whole (part zs rest) n = refl
whole faulty n = absurd (n refl)

with_first_lem : (z : ℤ) (ys : List ℤ) (rest : List ℕ) (p : Part (List ℤ)) → with_first z p ≡ part ys rest → (ys ≡ z ∷ drop 1 ys) × (p ≡ part (drop 1 ys) rest)
unfolding with_first
with_first_lem z ys rest faulty e = let c : ◌≡◌ {A = ℕ} 0 1 = cc in absurd (omega arith)
with_first_lem z ys rest (part ws r) e =
    let q : z ∷ ws ≡ ys = cc in
    let s : r ≡ rest = cc in
    (sym q ∙ ap (λ (l : List ℤ). z ∷ drop 1 l) q, ap₂ part (ap (drop 1) q) s)

-- The next level, k levels and the value being behind it.
pub record Next (k : ℕ) (f : Field ℤ) (ys : List ℤ) (rest : List ℕ) : Type 0 where
  pub read : f ≡ broken → ⊥
  pub first : ys ≡ level_in f ∷ drop 1 ys
  pub then : entry_part k (behind_level f) ≡ part (drop 1 ys) rest

pub entry_next : (k : ℕ) (l : List ℕ) (ys : List ℤ) (rest : List ℕ) → entry_part (suc k) l ≡ part ys rest → Next k (level_field l) ys rest
unfolding level_in behind_level
entry_next k l ys rest e = go (level_field l) refl
  where
    apart : (p : Part (List ℤ)) → p ≡ faulty → p ≡ part ys rest → ⊥
    apart p h g = let z : ◌≡◌ {A = ℕ} 0 1 = cc in omega arith

    go : (f : Field ℤ) → level_field l ≡ f → Next k f ys rest
    go broken h = absurd (apart _ (entry_broken l (suc k) h) e)
    go (field z false r) h = absurd (apart _ (entry_short l z r h k) e)
    go (field z true r) h =
        let w = with_first_lem z ys rest (entry_part k r) (sym (entry_more l z r h k) ∙ e) in
        record { read = λ b. (let c : ◌≡◌ {A = ℕ} 0 1 = cc in omega arith); first = w.0; then = w.1 }

-- The value, the last field.
pub record Last (f : Field ℤ) (ys : List ℤ) (rest : List ℕ) : Type 0 where
  pub read : f ≡ broken → ⊥
  pub only : ys ≡ level_in f ∷ []
  pub then : behind_level f ≡ rest

pub entry_end : (l : List ℕ) (ys : List ℤ) (rest : List ℕ) → entry_part 0 l ≡ part ys rest → Last (level_field l) ys rest
unfolding level_in behind_level
entry_end l ys rest e = go (level_field l) refl
  where
    apart : (p : Part (List ℤ)) → p ≡ faulty → p ≡ part ys rest → ⊥
    apart p h g = let z : ◌≡◌ {A = ℕ} 0 1 = cc in omega arith

    go : (f : Field ℤ) → level_field l ≡ f → Last f ys rest
    go broken h = absurd (apart _ (entry_broken l 0 h) e)
    go (field z true r) h = absurd (apart _ (entry_long l z r h) e)
    go (field z false r) h =
        let q : part (z ∷ []) r ≡ part ys rest = sym (entry_last l z r h) ∙ e in
        record { read = λ b. (let c : ◌≡◌ {A = ℕ} 0 1 = cc in omega arith); only = cc; then = cc }

-- the level at place j, behind the first j
module _ (p j : ℕ) (zs : List ℤ) (z : ℤ) (tl : List ℤ) (e : drop j zs ≡ z ∷ tl) where
  pub here : j < length zs
  here = let h = ap length e in omega (arith, length-drop j zs)

  pub taken : take (j + 1) zs ≡ take j zs ++ (z ∷ [])
  taken =
      let q : get_or zs j (pos 0) ∷ drop (suc j) zs ≡ z ∷ tl = sym (drop-cons zs j (pos 0) here) ∙ e in
      let d : get_or zs j (pos 0) ≡ z = cc in
      ap (λ (n : ℕ). take n zs) (add-one j) ∙ take-suc zs j (pos 0) here ∙ ap (λ (y : ℤ). take j zs ++ (y ∷ [])) d

  pub range_next : (a b : Bool) → a ≡ in_range p (take j zs) → b ≡ is_residue (residue_of p z) → (a && b) ≡ in_range p (take (j + 1) zs)
  range_next a b f g = ap₂ ◌&&◌ f g ∙ sym (ap (in_range p) taken ∙ range_snoc p (take j zs) z)

  count : length (residues p (take j zs)) ≡ j
  count = let h = here in length_residues p (take j zs) ∙ length-take-le j zs (omega arith)

  pub row_next : (row old : List ℕ) (x : ℕ) → j < length old → row ≡ over (residues p (take j zs)) old → x ≡ residue_or0 (residue_of p z)
      → set row j x ≡ over (residues p (take (j + 1) zs)) old
  row_next row old x h r f =
      let c = count in
      ap₂ (λ (l : List ℕ) (y : ℕ). set l j y) r f ∙ ap (λ (i : ℕ). set (over (residues p (take j zs)) old) i (residue_or0 (residue_of p z))) (sym c)
      ∙ over_snoc (residues p (take j zs)) old (residue_or0 (residue_of p z)) (omega arith)
      ∙ ap (λ (l : List ℕ). over l old) (sym (ap (residues p) taken ∙ residues_snoc p (take j zs) z))

-- the value, behind all levels
module _ (p m : ℕ) (zs : List ℤ) (z : ℤ) (e : drop m zs ≡ z ∷ []) where
  all : zs ≡ take m zs ++ (z ∷ [])
  all = sym (take-append-drop m zs) ∙ ap (λ (l : List ℤ). take m zs ++ l) e

  pub range_all : (a b : Bool) → a ≡ in_range p (take m zs) → b ≡ is_residue (residue_of p z) → (a && b) ≡ in_range p zs
  range_all a b f g = ap₂ ◌&&◌ f g ∙ sym (ap (in_range p) all ∙ range_snoc p (take m zs) z)

  pub value_last : residue_or0 (residue_of p z) ≡ entry_value p m zs
  unfolding entry_value
  value_last =
      sym (ap (λ (l : List ℕ). get_or l m 0) (ap (residues p) all ∙ residues_snoc p (take m zs) z)
      ∙ get_or_at (residues p (take m zs)) (residue_or0 (residue_of p z)) [] 0 m (count p m zs z [] e))

-- How far the filling of a row has come: the first j levels are written, and the key spells them; the others and the value are to be read from `from` on.
pub record SoFar (p m : ℕ) (t : List ℕ) (e : Part (List ℤ)) (old row : List ℕ) (from : ℕ) (inside : Bool) (key j : ℕ) : Type 0 where
  pub bound : j ≤ m
  pub within : from ≤ length t
  pub left : entry_part (m - j) (drop from t) ≡ part (drop j (levels_in e)) (behind_entry e)
  pub written : row ≡ over (residues p (take j (levels_in e))) old
  pub ranged : inside ≡ in_range p (take j (levels_in e))
  pub spelled : key ≡ key_of j row
  pub small : key < 2 ^ (8 * j)
  pub kept : length row ≡ length old

module _ (p m : ℕ) (t : List ℕ) where
  pub start : (at : ℕ) (old : List ℕ) → at ≤ length t → (entry_part m (drop at t) ≡ faulty → ⊥) → SoFar p m t (entry_part m (drop at t)) old old at true 0 0
  unfolding over residues in_range
  start at old w n =
      let z : m - 0 ≡ m = omega arith in
      record {
        bound = omega arith;
        within = w;
        left = ap (λ (k : ℕ). entry_part k (drop at t)) z ∙ whole (entry_part m (drop at t)) n;
        written = refl;
        ranged = refl;
        spelled = key_none old;
        small = omega arith;
        kept = refl;
      }

  module _ (e : Part (List ℤ)) (old row : List ℕ) (from : ℕ) (inside : Bool) (key j : ℕ) (s : SoFar p m t e old row from inside key j) where
    next : j < m → Next (m - (j + 1)) (level_field (drop from t)) (drop j (levels_in e)) (behind_entry e)
    next h =
        let k : m - j ≡ suc (m - (j + 1)) = omega arith in
        entry_next (m - (j + 1)) (drop from t) (drop j (levels_in e)) (behind_entry e) (ap (λ (i : ℕ). entry_part i (drop from t)) (sym k) ∙ s.left)

    pub level_there : j < m → level_field (drop from t) ≡ broken → ⊥
    level_there h = (next h).read

    module _ (r : Placed) (f : PlacedAs p t (level_field (drop from t)) r) (b : Bool) (g : b ≡ is_some r.residue) (x : ℕ) (y : x ≡ unwrap_or r.residue 0) where
      pub step : j < m → m ≤ length old → x < 256 → SoFar p m t e old (set row j x) r.next (inside && b) (256 * key + x) (j + 1)
      step h w byte =
          let n = next h in
          let z = level_in (level_field (drop from t)) in
          record {
            bound = omega arith;
            within = f.within;
            left =
                ap (entry_part (m - (j + 1))) f.rest ∙ n.then ∙ ap (λ (l : List ℤ). part l (behind_entry e)) (drop-drop 1 j (levels_in e));
            written = row_next p j (levels_in e) z (drop 1 (drop j (levels_in e))) n.first row old x (omega arith) s.written (as_value p z r.residue f.residue y);
            ranged = range_next p j (levels_in e) z (drop 1 (drop j (levels_in e))) n.first inside b s.ranged (as_test p z r.residue f.residue g);
            spelled = key_put row j x (omega (arith, s.kept)) s.spelled;
            small = digit_more j s.small byte;
            kept = length-set row j x ∙ s.kept;
          }

    -- the point is written, and the value is what is left
    pub point_done : m ≤ j → m ≤ 8
        → PointAs p m t e (record { inside = inside; key = (key * 2 ^ (64 - 8 * m)) % 18446744073709551616; next = from }) row
        × (row ≡ over (entry_point p m (levels_in e)) old)
    unfolding entry_point
    point_done h few =
        let i : j ≡ m = let b = s.bound in omega arith in
        let k : m - j ≡ 0 = let b = s.bound in omega arith in (
          record {
            inside = s.ranged ∙ ap (λ (k : ℕ). in_range p (take k (levels_in e))) i;
            key =
                key_moved m few (subst (λ (k : ℕ). key < 2 ^ (8 * k)) i s.small) ∙ ap (λ (x : ℕ). x * 2 ^ (8 * (8 - m))) (s.spelled ∙ ap (λ (k : ℕ). key_of k row) i);
            last =
                ap (λ (i : ℕ). entry_part i (drop from t)) (sym k) ∙ s.left ∙ ap (λ (i : ℕ). part (drop i (levels_in e)) (behind_entry e)) i;
            within = s.within;
          },
          s.written ∙ ap (λ (k : ℕ). over (residues p (take k (levels_in e))) old) i,
        )

  -- the last column behind the point
  module _ (e : Part (List ℤ)) (row : List ℕ) (q : Point) (f : PointAs p m t e q row) where
    pub last_column : Last (level_field (drop q.next t)) (drop m (levels_in e)) (behind_entry e)
    last_column = entry_end (drop q.next t) (drop m (levels_in e)) (behind_entry e) f.last

    pub value_done : (r : Placed) → PlacedAs p t (level_field (drop q.next t)) r → (b : Bool) → b ≡ is_some r.residue → (x : ℕ) → x ≡ unwrap_or r.residue 0
        → FilledAs p m t e (record { inside = q.inside && b; value = x; key = q.key; next = r.next }) row
    value_done r g b h x y =
        let n = last_column in
        let z = level_in (level_field (drop q.next t)) in
        record {
          inside = range_all p m (levels_in e) z n.only q.inside b f.inside (as_test p z r.residue g.residue h);
          value = as_value p z r.residue g.residue y ∙ value_last p m (levels_in e) z n.only;
          key = f.key;
          rest = g.rest ∙ n.then;
          within = g.within;
        }
