-- The entries of a table and its counts, one after the other without a coordinate: what is gathered of those before the ith, with the rest of them, gives all.
use mathlib.Core.Path.{◌≡◌, refl, sym, ◌∙◌, ap, ap₂, subst}
use mathlib.Core.Bool.{Bool, true, false, cond}
use mathlib.Core.Logic.{inl, inr, ◌⊎◌}
use mathlib.Core.List.{List, [], ◌∷◌, map, zip, zip_with}
use Prim.Native.Nat.{ℕ, suc, ◌+◌, ◌*◌, ◌-◌, ◌<◌, ◌≤◌}
use native.Mathlib.Numerals.{add-one}
use native.Mathlib.Omega.{arith}
use lib.ListN.{length, take, drop, replicate, get_or, set, length-map, length-append}
use lib.Seq.{drop-cons, take-take}
use lib.Dec.{T, leb, ltb}
use borrow.Author.Tests.{lt-ltb, le-ltb}
use Rattle.residue.specs.Lists.{Among, every, some}
use Rattle.residue.specs.Layout.{groups, fill, over, with_place, length_fill}
use Rattle.residue.proofs.Layouts.{fill_exact, fill_zeros}
use Rattle.residue.proofs.Places.{groups_step, length_groups, no_places}
use Rattle.residue.proofs.Replaced.{part_long}
use Rattle.monomial.specs.Insert.{taken_out, removed_at}
use Rattle.monomial.proofs.insert.Tables.{bytes_out, removed_long}
use Rattle.specification.specs.declared.refusals.Refusal.{Refusal}
use Rattle.specification.specs.Answers.{number_of}
use Rattle.specification.specs.Levels.{is_among}
use Rattle.specification.specs.Counted.{Counted, points_of, counts_of, place_in}
use Rattle.specification.specs.Tables.{states_table}
use Rattle.specification.specs.LeaveOut.{without_variable}
use Rattle.specification.proofs.Refused.{number_above_0}
use Rattle.specification.proofs.ideal.Lists.{snoc_of}
use Rattle.specification.proofs.counted.Entered.{Positive}
use Rattle.specification.proofs.counted.Held.{zip_counts}
use Rattle.specification.proofs.counted.Saturated.{beyond, none_capped}
use Rattle.specification.proofs.leaving.Added.{raised, gather_without, without_loop}
use Rattle.points.specs.Gathering.{TabledAs}
use Rattle.points.specs.Leaving.{counted_in}
use Rattle.points.proofs.places.PointPlaces.{place_le, among_place}
use Rattle.points.proofs.gathering.Gathering.{Holds, holds_none, held_many, place_held, table_put, held_as}
use Rattle.points.proofs.leaving.Raised.{sum, raised_bytes, raised_beyond, raised_there, raised_new, beyond_all}

-- the m bytes of a place without one of them, in 8 bytes of zeros
pub point_out : (m k at : ℕ) (states : List ℕ) → k < m → m ≤ 8 → at + m ≤ length states
    → over (taken_out 1 m k (take (at + m - at) (drop at states))) (replicate 8 0) ≡ fill 8 (removed_at k (take m (drop at states)))
point_out m k at states low few room =
    let wide : at + m - at ≡ m = omega arith in
    let long = part_long at m m states refl room in
    rw wide (bytes_out 8 m k (take m (drop at states)) low few (omega (arith, long))
    ∙ ap (λ (l : List ℕ). fill 8 (removed_at k l)) (fill_exact m (take m (drop at states)) long))

pub record Before (m k n : ℕ) (states times : List ℕ) (i left : ℕ) (points counts : List ℕ) : Type 0 where
  pub list : Counted
  pub rest : gather_without k (counted_in m (n - i) (drop (8 * i) states) (drop i times)) list ≡ without_variable k (counted_in m n states times)
  pub few : left ≤ i
  pub holds : Holds (m - 1) list left points counts false

-- the ith entry is there, and its point has the coordinate
pub record Taken (m k n : ℕ) (states times : List ℕ) (i : ℕ) : Type 0 where
  pub low : k < m
  pub wide : m ≤ 8
  pub most : n ≤ 64
  pub more : i < n
  pub table : 8 * n ≤ length states
  pub bytes : n ≤ length times

module _ (m k n : ℕ) (states times : List ℕ) where
  abbrev L : Counted
  L = counted_in m n states times

  pub before_first : T (every (leb 1) (fill n times)) → {points counts : List ℕ} → points ≡ replicate 512 0 → counts ≡ replicate 64 0
      → Before m k n states times 0 0 points counts
  unfolding counted_in states_table
  before_first pos {points} {counts} e f =
      let all : n - 0 ≡ n = omega arith in
      let as_many = length-map (groups 8 n states) (take m) ∙ length_groups 8 n states ∙ sym (length_fill n times) in
      let counts-are = zip_counts (map (take m) (groups 8 n states)) (fill n times) as_many in
      let positive : Positive L = subst (λ (l : List ℕ). T (every (leb 1) l)) (sym counts-are) pos in
      record {
        list = [];
        rest = rw all (sym (without_loop k L positive));
        few = omega arith;
        holds = holds_none (m - 1) points counts (e ∙ no_places 8 512) (f ∙ sym (fill_zeros 64));
      }

  module _ {i left : ℕ} {points counts : List ℕ} (b : Before m k n states times i left points counts) where
    -- All are gathered.
    module _ (end : n ≤ i) where
      all_in : b.list ≡ without_variable k L
      unfolding counted_in groups fill zip zip_with gather_without
      all_in = let none : n - i ≡ 0 = omega arith in rw none at b.rest

      pub all_tabled : TabledAs (without_variable k L) left points counts
      all_tabled = held_as b.holds all_in

      pub none_refused : 0 ≡ cond {A = ℕ} (some (ltb 255) (counts_of (without_variable k L))) 13 0
      none_refused = ap (λ (o : Bool). cond {A = ℕ} o 13 0) (b.holds.flag ∙ ap beyond all_in)

    -- The ith is taken.
    module _ (t : Taken m k n states times i) where
      abbrev P : List ℕ
      P = removed_at k (take m (drop (8 * i) states))

      abbrev c : ℕ
      c = get_or times i 0

      abbrev next : Counted
      next = raised P c b.list

      own : length P ≡ m - 1
      own =
          let l = part_long (8 * i) m m states refl (omega (arith, t.wide, t.more, t.table)) in
          omega (arith, removed_long k (take m (drop (8 * i) states)) (omega (arith, l, t.low)), l)

      whole : gather_without k (counted_in m (n - (i + 1)) (drop (8 * (i + 1)) states) (drop (i + 1) times)) next ≡ without_variable k L
      unfolding counted_in fill zip zip_with gather_without
      whole = rw (groups_step 8 n i states t.more, first, take-take m 8 (drop (8 * i) states) t.wide) at b.rest
        where
          first : fill (n - i) (drop i times) ≡ c ∷ fill (n - (i + 1)) (drop (i + 1) times)
          first =
              let e : n - i ≡ suc (n - (i + 1)) = omega (arith, t.more) in
              ap₂ fill e (drop-cons times i 0 (omega (arith, t.more, t.bytes)) ∙ ap (λ (j : ℕ). c ∷ drop j times) (sym (add-one i)))

      fits : length b.list < 64
      fits = omega (arith, b.holds.count, b.few, t.more, t.most)

      bytes_are : counts ≡ fill 64 (counts_of b.list)
      bytes_are = b.holds.bytes ∙ ap (fill 64) (none_capped (counts_of b.list) (sym b.holds.flag))

      module _ {at : ℕ} (place : at ≡ place_in (fill 8 P) (groups 8 left points)) where
        placed : at ≡ place_in P (points_of b.list)
        placed = place ∙ place_held b.holds (omega (arith, t.wide)) P own

        pub inside : at ≤ left
        inside = omega (arith, placed, place_le P (points_of b.list), held_many b.holds)

        among : ltb at left ≡ is_among P (points_of b.list)
        among = ap₂ ltb placed (sym (held_many b.holds)) ∙ among_place P (points_of b.list)

        summed : get_or counts at 0 + c ≡ sum P c 64 b.list
        summed = ap₂ (λ (l : List ℕ) (j : ℕ). get_or l j 0 + c) bytes_are placed

        above : beyond next ≡ ltb 255 (get_or counts at 0 + c)
        above = raised_beyond P c 64 b.list fits (sym b.holds.flag) ∙ ap (ltb 255) (sym summed)

        pub refused_sum : (e : Refusal) → number_of e ≡ cond (ltb 255 (get_or counts at 0 + c)) 13 0
            → number_of e ≡ cond {A = ℕ} (some (ltb 255) (counts_of (without_variable k L))) 13 0
        refused_sum e h = go (ltb 255 (get_or counts at 0 + c)) refl h
          where
            go : (b : Bool) → ltb 255 (get_or counts at 0 + c) ≡ b → number_of e ≡ cond b 13 0 → number_of e ≡ cond {A = ℕ} (some (ltb 255) (counts_of (without_variable k L))) 13 0
            go true f z = z ∙ ap (λ (o : Bool). cond {A = ℕ} o 13 0) (sym (ap beyond (sym whole) ∙ beyond_all k _ next (above ∙ f)))
            go false f z = absurd (number_above_0 e z)

        none : 0 ≡ cond {A = ℕ} (ltb 255 (get_or counts at 0 + c)) 13 0 → beyond next ≡ false
        none h = above ∙ go (ltb 255 (get_or counts at 0 + c)) h
          where
            go : (b : Bool) → 0 ≡ cond {A = ℕ} b 13 0 → b ≡ false
            go true z = absurd (omega arith)
            go false z = refl

        module _ (h : 0 ≡ cond {A = ℕ} (ltb 255 (get_or counts at 0 + c)) 13 0) {table bytes : List ℕ} (counted : bytes ≡ set counts at (get_or counts at 0 + c)) where
          holds_next : {now : ℕ} → now ≡ length (points_of next) → now ≤ 64 → table ≡ states_table (points_of next)
              → ((Q : List ℕ) → Among Q (points_of next) → length Q ≡ m - 1) → Holds (m - 1) next now table bytes false
          holds_next many most is long = record {
            count = many ∙ length-map next (λ q. q.0);
            few = most;
            table = is;
            bytes = counted ∙ ap₂ (λ (l : List ℕ) (j : ℕ). set l j (get_or l j 0 + c)) bytes_are placed ∙ sym (raised_bytes P c 64 b.list fits)
                ∙ ap (fill 64) (sym (none_capped (counts_of next) (none h)));
            flag = sym (none h);
            long = long;
          }

          holds_new : at ≡ left → table ≡ with_place 8 left (fill 8 P) points → Holds (m - 1) next (left + 1) table bytes false
          holds_new e put =
              let w = raised_new P c b.list (sym among ∙ le-ltb at left (omega (arith, e))) in
              let wide = length-append (points_of b.list) (P ∷ []) in
              holds_next (omega (arith, ap length w, wide, held_many b.holds)) (omega (arith, b.few, t.more, t.most))
              (put ∙ table_put b.holds (omega (arith, b.few, t.more, t.most)) P ∙ ap states_table (sym w))
              (λ Q mem. elim (snoc_of (points_of b.list) P Q (subst (Among Q) w mem)) [ inl z ↦ b.holds.long Q z | inr z ↦ ap length z ∙ own ])

          holds_there : at < left → table ≡ points → Holds (m - 1) next left table bytes false
          holds_there z same =
              let w = raised_there P c b.list (sym among ∙ lt-ltb at left z) in
              holds_next (sym (ap length w ∙ held_many b.holds)) b.holds.few (same ∙ b.holds.table ∙ ap states_table (sym w))
              (λ Q mem. b.holds.long Q (subst (Among Q) w mem))

          pub before_next : (now : ℕ) → ((at ≡ left) × (now ≡ left + 1) × (table ≡ with_place 8 left (fill 8 P) points)) ⊎ ((at ≡ left → ⊥) × (now ≡ left) × (table ≡ points))
              → Before m k n states times (i + 1) now table bytes
          before_next now (inl z) = record { list = next; rest = whole; few = omega (arith, z.1, b.few); holds = rw z.1 (holds_new z.0 z.2) }
          before_next now (inr z) =
              record { list = next; rest = whole; few = omega (arith, z.1, b.few); holds = rw z.1 (holds_there (omega (arith, inside, z.0)) z.2) }
