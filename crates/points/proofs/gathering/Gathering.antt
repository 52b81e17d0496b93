-- Points gathered one after the other into a table and bytes of counts: what `enter` leaves holds the list with one point more. The list itself is nowhere in
-- memory: its counts may be above 255, where a byte stays and a flag says so.
use mathlib.Core.Path.{◌≡◌, refl, sym, ◌∙◌, ap, ap₂, subst}
use mathlib.Core.Bool.{Bool, true, false, cond, ◌||◌, or-false, or-true}
use mathlib.Core.Logic.{inl, inr, ◌⊎◌}
use mathlib.Core.List.{List, [], ◌∷◌, ◌++◌, map-append}
use Prim.Native.Nat.{ℕ, suc, ◌+◌, ◌*◌, ◌-◌, ◌<◌, ◌≤◌}
use native.Mathlib.Omega.{arith}
use lib.ListN.{length, take, drop, replicate, get_or, set, length-map, length-append}
use lib.Dec.{T, eqb, ltb}
use borrow.Author.Tests.{lt-ltb, le-ltb, ltb-false, eq-eqb, ne_eqb}
use Rattle.residue.specs.Lists.{Among}
use Rattle.residue.specs.Layout.{groups, fill, with_place, length_fill}
use Rattle.residue.proofs.Layouts.{fill_at, fill_put, fill_zeros}
use Rattle.residue.proofs.Places.{table_groups, places_filled, no_places, length_groups, groups_long, groups_at, groups_step, groups_end}
use Rattle.residue.proofs.Replaced.{table_more}
use Rattle.specification.specs.Refusal.{first_of}
use Rattle.specification.specs.Levels.{is_among, no_repeat}
use Rattle.specification.specs.Counted.{Counted, points_of, counts_of, entered, entered_all, gathered, overfull, place_in}
use Rattle.specification.specs.Tables.{states_table}
use Rattle.specification.proofs.Repeats.{repeat_filled}
use Rattle.specification.proofs.Replicates.{set_filled}
use Rattle.specification.proofs.counted.Entered.{entered_there, entered_new}
use Rattle.specification.proofs.counted.Gathered.{among_entered, once_entered}
use Rattle.specification.proofs.counted.Room.{all_grow}
use Rattle.specification.proofs.counted.Saturated.{saturated, beyond, there_on, there_full, new_last, all_entered, all_full, none_capped}
use Rattle.specification.proofs.ideal.Lists.{get_d_among}
use Rattle.points.specs.Gathering.{points_entered, counts_entered, EnteredAs, entered_while_room, count_byte, TabledAs}
use Rattle.points.proofs.places.PointPlaces.{place_filled, place_le, among_place}

-- The points of L, of m numbers each, stand in the table, their counts in the bytes, and the flag says whether one is above 255.
pub record Holds (m : ℕ) (L : Counted) (n : ℕ) (points counts : List ℕ) (over : Bool) : Type 0 where
  pub count : n ≡ length L
  pub few : n ≤ 64
  pub table : points ≡ states_table (points_of L)
  pub bytes : counts ≡ fill 64 (saturated L)
  pub flag : over ≡ beyond L
  pub long : (Q : List ℕ) → Among Q (points_of L) → length Q ≡ m

pub holds_sizes : {m n : ℕ} {L : Counted} {points counts : List ℕ} {over : Bool} → Holds m L n points counts over → (length points ≡ 512) × (length counts ≡ 64)
unfolding states_table
holds_sizes h = (ap length h.table ∙ length_fill 512 _, ap length h.bytes ∙ length_fill 64 _)

-- no point repeats in the table where none does in the list
pub once_held : {m n : ℕ} {L : Counted} {points counts : List ℕ} {over : Bool} → Holds m L n points counts over → m ≤ 8 → T (no_repeat (points_of L))
    → T (no_repeat (groups 8 n points))
unfolding states_table
once_held {m} {n} {L} h few t =
    let S = points_of L in
    let many : length S ≡ n = length-map L (λ q. q.0) ∙ sym h.count in
    subst T (sym (ap₂ (λ (k : ℕ) (t : List ℕ). no_repeat (groups 8 k t)) (sym many) h.table
    ∙ ap no_repeat (table_groups 8 512 S (omega (arith, many, h.few))) ∙ repeat_filled 8 m few S h.long)) t

-- nothing is gathered yet
pub holds_none : (m : ℕ) (points counts : List ℕ) → points ≡ states_table [] → counts ≡ fill 64 [] → Holds m [] 0 points counts false
holds_none m points counts e f = record { count = refl; few = omega arith; table = e; bytes = f; flag = refl; long = λ Q q. absurd q }

module _ {m n : ℕ} {L : Counted} {points counts : List ℕ} {over : Bool} (h : Holds m L n points counts over) where
  pub held_many : length (points_of L) ≡ n
  held_many = length-map L (λ q. q.0) ∙ sym h.count

  -- the place of a point in the table is its place in the list
  pub place_held : m ≤ 8 → (P : List ℕ) → length P ≡ m → place_in (fill 8 P) (groups 8 n points) ≡ place_in P (points_of L)
  unfolding states_table
  place_held few P own =
      ap₂ (λ (k : ℕ) (t : List ℕ). place_in (fill 8 P) (groups 8 k t)) (sym held_many) h.table
      ∙ ap (place_in (fill 8 P)) (table_groups 8 512 (points_of L) (omega (arith, held_many, h.few))) ∙ place_filled 8 m few P (points_of L) own h.long

  -- a point put behind those of the table is put behind those of the list
  pub table_put : n < 64 → (P : List ℕ) → with_place 8 n (fill 8 P) points ≡ states_table (points_of L ++ (P ∷ []))
  unfolding states_table
  table_put room P =
      table_more 8 512 n (points_of L) (fill 8 P) points h.table (sym held_many) (omega (arith, room)) (omega (arith, length_fill 8 P))
      ∙ ap (fill 512) (places_filled 8 (points_of L) P)

module _ {m n : ℕ} {L : Counted} {points counts : List ℕ} {over : Bool} (h : Holds m L n points counts over) (few : m ≤ 8) (P : List ℕ) (own : length P ≡ m)
    {hints : List ℕ} {at : ℕ} {hit : Bool} {table bytes noted : List ℕ} (e : EnteredAs n (fill 8 P) points counts hints at hit table bytes noted) where
  abbrev S : List (List ℕ)
  S = points_of L

  abbrev i : ℕ
  i = place_in P S

  many : length S ≡ n
  many = held_many h

  pub placed : at ≡ i
  placed = e.place ∙ place_held h few P own

  pub among : ltb at n ≡ is_among P S
  among = ap₂ ltb placed (sym many) ∙ among_place P S

  all_long : (Q : List ℕ) → Among Q (points_of (entered P L)) → length Q ≡ m
  all_long Q q = elim ((among_entered P L Q).0 q) [ inl z ↦ ap length z ∙ own | inr z ↦ h.long Q z ]

  -- The point is there.
  module _ (below : at < n) where
    there : is_among P S ≡ true
    there = sym among ∙ lt-ltb at n below

    within : length (saturated L) ≡ n
    within = length-map (counts_of L) _ ∙ length-map L (λ q. q.1) ∙ sym h.count

    byte : get_or counts at 0 ≡ get_or (saturated L) i 0
    byte = ap₂ (λ (c : List ℕ) (k : ℕ). get_or c k 0) h.bytes placed ∙ fill_at 64 (saturated L) i (omega (arith, placed, below, h.few))

    same_table : table ≡ points
    unfolding points_entered
    same_table = e.table ∙ rw (ne_eqb at n (λ z. omega (arith, z, below))) refl

    counted : (b : Bool) → eqb (get_or counts at 0) 255 ≡ b → (bytes ≡ fill 64 (saturated (entered P L))) × ((over || hit) ≡ beyond (entered P L))
    unfolding counts_entered
    counted true f =
        let w = there_full P L there (ap (λ (k : ℕ). eqb k 255) (sym byte) ∙ f) in
        let is : bytes ≡ counts = e.bytes ∙ rw (lt-ltb at n below, f) refl in
        let so : hit ≡ true = e.full ∙ rw (lt-ltb at n below, f) refl in
        (is ∙ h.bytes ∙ ap (fill 64) (sym w.0), ap (λ (b : Bool). over || b) so ∙ or-true over ∙ sym w.1)
    counted false f =
        let w = there_on P L there (ap (λ (k : ℕ). eqb k 255) (sym byte) ∙ f) in
        let is : bytes ≡ set counts at (suc (get_or counts at 0)) = e.bytes ∙ rw (lt-ltb at n below, f) refl in
        let so : hit ≡ false = e.full ∙ rw (lt-ltb at n below, f) refl in (
          is ∙ ap₂ (λ (k j : ℕ). set counts k (suc j)) placed byte ∙ ap (λ (c : List ℕ). set c i (suc (get_or (saturated L) i 0))) h.bytes
              ∙ sym (set_filled 64 (saturated L) i (suc (get_or (saturated L) i 0)) (omega (arith, within, placed, below)) (omega (arith, within, h.few))) ∙ ap (fill 64) (sym w.0),
          ap (λ (b : Bool). over || b) so ∙ or-false over ∙ h.flag ∙ sym w.1,
        )

    -- it is counted once more
    pub holds_there : Holds m (entered P L) n table bytes (over || hit)
    holds_there =
        let w = (entered_there P L there).0 in
        let c = counted (eqb (get_or counts at 0) 255) refl in
        record {
          count = sym many ∙ ap length (sym w) ∙ length-map (entered P L) (λ q. q.0);
          few = h.few;
          table = same_table ∙ h.table ∙ ap states_table (sym w);
          bytes = c.0;
          flag = c.1;
          long = all_long;
        }

  -- The point is new.
  module _ (end : at ≡ n) where
    pub is_new : is_among P S ≡ false
    is_new = sym among ∙ le-ltb at n (omega (arith, end))

    -- there is room for it: it comes last
    pub holds_new : n < 64 → Holds m (entered P L) (n + 1) table bytes (over || hit)
    unfolding points_entered counts_entered
    holds_new room =
        let w = entered_new P L is_new in
        let c = new_last P L is_new in
        let no : ltb at n ≡ false = le-ltb at n (omega (arith, end)) in
        let so : hit ≡ false = e.full ∙ rw no refl in
        let wide : length (saturated L) ≡ n = length-map (counts_of L) _ ∙ length-map L (λ q. q.1) ∙ sym h.count in
        let put : bytes ≡ set counts n 1 = e.bytes ∙ rw (no, lt-ltb n 64 room) refl in
        let written : table ≡ with_place 8 n (fill 8 P) points = e.table ∙ rw (eq-eqb at n end, lt-ltb n 64 room) refl in
        record {
          count = ap (λ (k : ℕ). k + 1) h.count ∙ sym (ap length w ∙ length-append L ((P, 1) ∷ []));
          few = omega (arith, room);
          table = written ∙ table_put h room P ∙ ap states_table (sym (ap points_of w ∙ map-append (λ q. q.0) L ((P, 1) ∷ [])));
          bytes = put ∙ ap₂ (λ (l : List ℕ) (k : ℕ). set l k 1) h.bytes (sym wide) ∙ fill_put 64 (saturated L) 1 (omega (arith, wide, room)) ∙ ap (fill 64) (sym c.0);
          flag = ap (λ (b : Bool). over || b) so ∙ or-false over ∙ h.flag ∙ sym c.1;
          long = all_long;
        }

    -- there is none: it is the 65th
    pub no_more : (rest G : List (List ℕ)) → n ≡ 64 → entered_all (P ∷ rest) L ≡ gathered G → 8 ≡ first_of 0 (overfull (gathered G))
    no_more rest G full f = all_full G P rest L f is_new (sym h.count ∙ full)

-- All points are gathered: 13 where the flag is set.
module _ {m n : ℕ} {L : Counted} {points counts : List ℕ} {over : Bool} (h : Holds m L n points counts over) (G : List (List ℕ)) (all : L ≡ gathered G) where
  pub all_told : cond {A = ℕ} over 13 0 ≡ first_of 0 (overfull (gathered G))
  all_told = ap (λ (b : Bool). cond {A = ℕ} b 13 0) h.flag ∙ all_entered G L all (omega (arith, h.count, h.few))

-- the table and the bytes are those of the list, whatever its counts
pub held_as : {m n : ℕ} {L K : Counted} {points counts : List ℕ} {over : Bool} → Holds m L n points counts over → L ≡ K → TabledAs K n points counts
unfolding count_byte
held_as {n = n} {points = points} {counts = counts} h e =
    subst (λ (K : Counted). TabledAs K n points counts) e (record { number = h.count; states = h.table; times = h.bytes })

pub as_long : {L : Counted} {n : ℕ} {points counts : List ℕ} → TabledAs L n points counts → TabledAs L (length L) points counts
as_long t = record { number = refl; states = t.states; times = t.times }

-- Points that are not refused are all entered, and no count is above 255.
all_room : (S : List (List ℕ)) (L : Counted) → length (entered_all S L) ≤ 64 → entered_while_room S L ≡ entered_all S L
unfolding entered_all entered_while_room
all_room [] L h = refl
all_room (P ∷ S) L h =
    rw (le-ltb 64 (length (entered P L)) (omega (arith, all_grow S (entered P L), h))) (all_room S (entered P L) h)

not_over : (L : Counted) → first_of 0 (overfull L) ≡ 0 → (length L ≤ 64) × (beyond L ≡ false)
unfolding first_of overfull
not_over L z = go (ltb 64 (length L)) refl (beyond L) z
  where
    go : (a : Bool) → ltb 64 (length L) ≡ a → (b : Bool) → cond {A = ℕ} a 8 (cond b 13 0) ≡ 0 → (length L ≤ 64) × (b ≡ false)
    go true e b y = absurd (omega arith)
    go false e true y = absurd (omega arith)
    go false e false y = (ltb-false 64 (length L) e, refl)

pub all_held : (S : List (List ℕ)) {n : ℕ} {points counts : List ℕ} → first_of 0 (overfull (gathered S)) ≡ 0 → TabledAs (entered_while_room S []) n points counts
    → (n ≡ length (gathered S)) × ((points ≡ states_table (points_of (gathered S))) × (counts ≡ fill 64 (counts_of (gathered S))))
unfolding gathered count_byte
all_held S {n} {points} {counts} z t =
    let r = not_over (gathered S) z in
    let h = subst (λ (L : Counted). TabledAs L n points counts) (all_room S [] r.0) t in
    (h.number, (h.states, h.times ∙ ap (fill 64) (none_capped (counts_of (gathered S)) r.1)))

-- The points of numbers R, m a point, before the ith is gathered: those from it on, entered into the list, give all.
pub record Before (m : ℕ) (R : List ℕ) (count i n : ℕ) (points counts : List ℕ) (over : Bool) : Type 0 where
  pub list : Counted
  pub once : T (no_repeat (points_of list))
  pub rest : entered_all (groups m (count - i) (drop (m * i) R)) list ≡ gathered (groups m count R)
  pub stops : entered_while_room (groups m (count - i) (drop (m * i) R)) list ≡ entered_while_room (groups m count R) []
  pub holds : Holds m list n points counts over

module _ (m : ℕ) (R : List ℕ) (count : ℕ) where
  pub before_first : {points counts : List ℕ} → points ≡ replicate 512 0 → counts ≡ replicate 64 0 → Before m R count 0 0 points counts false
  unfolding gathered states_table no_repeat
  before_first {points} {counts} e f =
      let z : m * 0 ≡ 0 = omega arith in
      let k : count - 0 ≡ count = omega arith in
      record { list = []; once = tt; rest = rw (z, k) refl; stops = rw (z, k) refl; holds = holds_none m points counts (e ∙ no_places 8 512) (f ∙ sym (fill_zeros 64)) }

  module _ {i n : ℕ} {points counts : List ℕ} {over : Bool} (b : Before m R count i n points counts over) where
    module _ (few : m ≤ 8) (more : i < count) (enough : m * count ≤ length R) {hints : List ℕ} {at : ℕ} {hit : Bool}
        {table bytes noted : List ℕ} (e : EnteredAs n (fill 8 (take m (drop (m * i) R))) points counts hints at hit table bytes noted) where
      abbrev next : List ℕ
      next = take m (drop (m * i) R)

      abbrev others : List (List ℕ)
      others = groups m (count - (i + 1)) (drop (m * (i + 1)) R)

      own : length next ≡ m
      own = groups_long m count R enough next (subst (λ (Q : List ℕ). Among Q (groups m count R)) (groups_at m count i R [] more) (get_d_among (groups m count R) i [] (omega (arith, length_groups m count R, more))))

      whole : entered_all (next ∷ others) b.list ≡ gathered (groups m count R)
      whole = ap (λ (K : List (List ℕ)). entered_all K b.list) (sym (groups_step m count i R more)) ∙ b.rest

      until : entered_while_room (next ∷ others) b.list ≡ entered_while_room (groups m count R) []
      until = ap (λ (K : List (List ℕ)). entered_while_room K b.list) (sym (groups_step m count i R more)) ∙ b.stops

      inside : at ≤ n
      inside = omega (arith, placed b.holds few next own e, place_le next (points_of b.list), many b.holds few next own e)

      -- the 65th
      pub refused_full : at ≡ 64 → 8 ≡ first_of 0 (overfull (gathered (groups m count R)))
      refused_full z = no_more b.holds few next own e (omega (arith, z, inside, b.holds.few)) others (groups m count R) (omega (arith, z, inside, b.holds.few)) whole

      -- it is not entered, and the list stays
      pub stopped : at ≡ 64 → TabledAs (entered_while_room (groups m count R) []) n table bytes
      unfolding entered_while_room points_entered counts_entered
      stopped z =
          let full : n ≡ 64 = omega (arith, z, inside, b.holds.few) in
          let w = entered_new next b.list (is_new b.holds few next own e (omega (arith, z, full))) in
          let long : 64 < length (entered next b.list) = omega (arith, ap length w, length-append b.list ((next, 1) ∷ []), b.holds.count, full) in
          let no : ltb n 64 ≡ false = le-ltb n 64 (omega (arith, full)) in
          let low : ltb at n ≡ false = le-ltb at n (omega (arith, z, full)) in
          let same : table ≡ points = e.table ∙ simp (eq-eqb at n (omega (arith, z, full)), no) in
          let kept : bytes ≡ counts = e.bytes ∙ simp (no, low) in
          rw (same, kept) (held_as b.holds (sym (simp (lt-ltb 64 (length (entered next b.list)) long)) ∙ until))

      after : (k : ℕ) → Holds m (entered next b.list) k table bytes (over || hit) → Before m R count (i + 1) k table bytes (over || hit)
      unfolding entered_all entered_while_room
      after k h =
          let room : ltb 64 (length (entered next b.list)) ≡ false = le-ltb 64 (length (entered next b.list)) (omega (arith, h.count, h.few)) in
          record {
            list = entered next b.list;
            once = once_entered next b.list b.once;
            rest = whole;
            stops = sym (simp room) ∙ until;
            holds = h;
          }

      -- the number of points afterwards
      pub before_next : (at ≡ 64 → ⊥) → (k : ℕ) → ((at ≡ n) × (k ≡ n + 1)) ⊎ ((at ≡ n → ⊥) × (k ≡ n))
          → Before m R count (i + 1) k table bytes (over || hit)
      before_next room k (inl (z, f)) =
          after k (rw f (holds_new b.holds few next own e z (omega (arith, z, room, b.holds.few))))
      before_next room k (inr (z, f)) =
          after k (rw f (holds_there b.holds few next own e (omega (arith, z, inside))))

    -- all of them
    pub all_in : count ≤ i → b.list ≡ gathered (groups m count R)
    unfolding entered_all
    all_in h = sym (ap (λ (K : List (List ℕ)). entered_all K b.list) (groups_end m count i (drop (m * i) R) h)) ∙ b.rest

    pub all_tabled : count ≤ i → TabledAs (entered_while_room (groups m count R) []) n points counts
    unfolding entered_while_room
    all_tabled h = held_as b.holds (sym (ap (λ (K : List (List ℕ)). entered_while_room K b.list) (groups_end m count i (drop (m * i) R) h)) ∙ b.stops)
