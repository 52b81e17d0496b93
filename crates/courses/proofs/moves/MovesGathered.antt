-- Moves gathered one by one: what the tables hold, where 13 was met first and that 17 was not, after each move.
use mathlib.Core.Path.{◌≡◌, refl, sym, ap, ap₂, ◌∙◌, subst}
use mathlib.Core.Bool.{Bool, true, false, not, cond, ◌&&◌, ◌||◌, not-not}
use mathlib.Core.Logic.{inl, inr}
use mathlib.Core.List.{List, [], ◌∷◌, ◌++◌, map-append}
use Prim.Native.Nat.{ℕ, zero, suc, ◌+◌, ◌<◌, ◌≤◌}
use native.Mathlib.Decide.{ℕ_discrete}
use native.Mathlib.Numerals.{add-one}
use native.Mathlib.Omega.{arith}
use lib.ListN.{length, get_or, set, replicate, length-map, length-append, length-set, get_or-append}
use lib.Seq.{get_or-set_same, get_or-set_other, get_or_at}
use lib.Dec.{T, eqb, eqb-suc-zero}
use borrow.Author.Tests.{eq-eqb, ne_eqb, lt-ltb, not-true}
use Rattle.residue.specs.Lists.{Among, same_list}
use Rattle.residue.specs.Layout.{groups, fill, row_at, length_fill}
use Rattle.residue.proofs.Tests.{true_of, of_true}
use Rattle.residue.proofs.Layouts.{fill_zeros}
use Rattle.residue.proofs.Places.{no_places}
use Rattle.residue.proofs.bytes.Equality.{same_filled}
use Rattle.specification.specs.Levels.{is_among, no_repeat}
use Rattle.specification.specs.Counted.{points_of, entered, entered_all, gathered, place_in}
use Rattle.specification.specs.Tables.{states_table}
use Rattle.specification.proofs.Repeats.{among_is, is_among_lem}
use Rattle.specification.proofs.counted.Entered.{entered_there, entered_new}
use Rattle.specification.proofs.counted.Gathered.{once_gathered}
use Rattle.specification.proofs.counted.Saturated.{beyond}
use Rattle.specification.proofs.ideal.Lists.{get_d_among, among_map, snoc_of}
use Rattle.points.specs.Gathering.{Hinted, EnteredAs}
use Rattle.points.proofs.places.PointPlaces.{place_le, place_has}
use Rattle.points.proofs.gathering.Gathering.{Holds, holds_sizes, once_held, holds_none, placed, among, holds_there, is_new, holds_new}
use Rattle.points.proofs.gathering.Hints.{hinted_none, hinted_turn}
use Rattle.courses.specs.TimeCourse.{Move, states_of, points_of_moves, first_move, other_next, many_points, often_counted, successor_of}
use Rattle.courses.specs.Moves.{FirstsOf}
use Rattle.courses.proofs.theory.Moves.{next_found}
use Rattle.courses.proofs.moves.FirstMoves.{Numbered, first_more, points_more}
use Rattle.courses.proofs.moves.Successors.{among_states, next_there, next_new, new_same, other_told}

-- After these moves: their states in the tables with their counts, a record for each, the record of 13, and no 17.
pub record Gathering (m : ℕ) (ms : List Move) (count : ℕ) (records : List ℕ) (n often : ℕ) (points counts firsts hints : List ℕ) : Type 0 where
  pub holds : Holds m (points_of_moves ms) n points counts (beyond (points_of_moves ms))
  pub hinted : Hinted n points hints
  pub most : often ≡ first_move often_counted [] ms
  pub rare : often ≡ 0 → beyond (points_of_moves ms) ≡ false
  pub same : first_move other_next [] ms ≡ 0
  pub kept : FirstsOf ms count records firsts
  pub sized : length firsts ≡ 64
  pub nexts : (a : Move) → Among a ms → length a.next ≡ m

pub no_moves : (m count : ℕ) (records : List ℕ) {points counts firsts : List ℕ} → points ≡ replicate 512 0 → counts ≡ replicate 64 0 → length firsts ≡ 64
    → Gathering m [] count records 0 0 points counts firsts (replicate 233 0)
unfolding points_of_moves gathered entered_all states_table first_move
no_moves m count records {points} {counts} e f g = record {
  holds = holds_none m points counts (e ∙ no_places 8 512) (f ∙ sym (fill_zeros 64));
  hinted = hinted_none points;
  most = refl;
  rare = λ z. refl;
  same = refl;
  kept = record { behind = λ j h. absurd (omega arith); next = λ j h. absurd (omega arith) };
  sized = g;
  nexts = λ a mem. absurd mem;
}

-- 13 was met before, or it is met where a count would be above 255 now
often_on : (k : ℕ) (b c : Bool) (v : ℕ) → (k ≡ 0 → b ≡ c) → cond (eqb k 0 && b) v k ≡ cond (eqb k 0 && c) v k
often_on zero b c v h = ap (λ (x : Bool). cond x v 0) (h refl)
often_on (suc k) b c v h = rw (eqb-suc-zero k) refl

never_often : (k : ℕ) (b : Bool) (v : ℕ) → cond (eqb k 0 && b) (v + 2) k ≡ 0 → (k ≡ 0) × (b ≡ false)
never_often zero true v h = absurd (omega arith)
never_often zero false v h = (refl, refl)
never_often (suc k) b v h = let z = rw (eqb-suc-zero k) at h in absurd (omega arith)

module _ {m : ℕ} (fits : m ≤ 8) {ms : List Move} (numbered : Numbered ms) {count : ℕ} {records : List ℕ} {n often : ℕ} {points counts firsts hints : List ℕ}
    (g : Gathering m ms count records n often points counts firsts hints) where
  -- no state stands twice in the table
  pub once_there : T (no_repeat (groups 8 n points))
  unfolding points_of_moves
  once_there = once_held g.holds fits (once_gathered (states_of ms))

  -- One move more, its state entered.
  module _ (a : Move) (lp : length a.state ≡ m) {at : ℕ} {hit : Bool} {table bytes noted : List ℕ}
      (e : EnteredAs n (fill 8 a.state) points counts hints at hit table bytes noted) where
    abbrev P : List ℕ
    P = a.state

    abbrev S : List (List ℕ)
    S = points_of (points_of_moves ms)

    SMany : length S ≡ n
    SMany = length-map (points_of_moves ms) (λ x. x.0) ∙ sym g.holds.count

    place : at ≡ place_in P S
    place = placed g.holds fits P lp e

    pub at_most : at ≤ n
    at_most = omega (arith, place, place_le P S, SMany)

    -- a point is the state of a move
    of_moves : (Q : List ℕ) → Among Q S → Among Q (states_of ms)
    of_moves Q mem = among_is Q (states_of ms) (of_true (sym (among_states Q ms) ∙ true_of (is_among Q S) (is_among_lem Q S mem)))

    absent : at ≡ n → ¬ Among P (states_of ms)
    absent z mem =
        let no : is_among P (states_of ms) ≡ false = sym (among_states P ms) ∙ is_new g.holds fits P lp e z in
        subst T no (is_among_lem P (states_of ms) mem)

    present : at < n → Among P (states_of ms)
    present l = among_is P (states_of ms) (of_true (sym (among_states P ms) ∙ sym (among g.holds fits P lp e) ∙ lt-ltb at n l))

    -- the 65th point
    pub many_here : at ≡ 64 → many_points ms a ≡ true
    unfolding many_points
    many_here z =
        let L = points_of_moves ms in
        let new = is_new g.holds fits P lp e (omega (arith, z, at_most, g.holds.few)) in
        let grown = ap length (points_more ms a ∙ entered_new P L new) ∙ length-append L ((P, 1) ∷ []) in
        let l : length (points_of_moves (ms ++ (a ∷ []))) ≡ suc (length L) = grown ∙ omega arith in
        lt-ltb 64 (length (points_of_moves (ms ++ (a ∷ [])))) (omega (arith, l, g.holds.count, at_most, z))

    -- a record is kept with a point that is there
    pub kept_there : at < n → suc (get_or firsts at 0) < count
    kept_there l = g.kept.behind at (omega (arith, l, g.holds.count))

    -- What is compared tells 17.
    module _ (i : ℕ) (row : row_at 8 (suc i) records ≡ fill 8 a.next) (ln : length a.next ≡ m) {same : Bool}
        (fs : same ≡ (eqb at n || same_list (row_at 8 (suc (get_or firsts at 0)) records) (row_at 8 (suc i) records))) where
      kept_row : at < n → row_at 8 (suc (get_or firsts at 0)) records ≡ fill 8 (successor_of P ms)
      kept_row l =
          let here : P ≡ get_or S (place_in P S) [] = place_has P S (omega (arith, place, l, SMany)) in
          g.kept.next at (omega (arith, l, g.holds.count)) ∙ ap (λ (Q : List ℕ). fill 8 (successor_of Q ms)) (ap (λ (k : ℕ). get_or S k []) place ∙ sym here)

      next_long : at < n → length (successor_of P ms) ≡ m
      next_long l =
          let w = among_map (λ (b : Move). b.state) ms P (present l) in
          let v = next_found ms w.0 w.1 in
          ap length (ap (λ (Q : List ℕ). successor_of Q ms) w.2 ∙ v.3) ∙ g.nexts v.0 v.1

      pub told : same ≡ not (other_next ms a)
      told = go (ℕ_discrete at n)
        where
          go : Dec (at ≡ n) → same ≡ not (other_next ms a)
          go (yes z) = fs ∙ rw (eq-eqb at n z) refl ∙ ap not (sym (new_same ms a (absent z)))
          go (no z) =
              let l : at < n = omega (arith, z, at_most) in
              fs ∙ rw (ne_eqb at n z) refl ∙ ap₂ same_list (kept_row l) row
              ∙ same_filled 8 (successor_of P ms) a.next (next_long l ∙ sym ln) (omega (arith, next_long l, fits))
              ∙ sym (ap not (other_told ms numbered g.same a (present l)) ∙ not-not (same_list (successor_of P ms) a.next))

      -- What the turn leaves where it does.
      module _ (room : at ≡ 64 → ⊥) (low : suc i < count) (number : a.at ≡ i + 2) (true_same : same ≡ true) {n₂ often₂ : ℕ} {firsts₂ : List ℕ}
          (fn : n₂ ≡ cond (eqb at n) (suc n) n) (fv : firsts₂ ≡ cond (eqb at n) (set firsts at i) firsts)
          (fo : often₂ ≡ cond (eqb often 0 && hit) (i + 2) often) where
        abbrev ns : List Move
        ns = ms ++ (a ∷ [])

        abbrev Done : Type 0
        Done = Gathering m ns count records n₂ often₂ table bytes firsts₂ noted

        none : other_next ms a ≡ false
        none = not-true (other_next ms a) (sym told ∙ true_same)

        -- a point that was there keeps its successor
        next_stays : (j : ℕ) → j < n → successor_of (get_or S j []) ns ≡ successor_of (get_or S j []) ms
        next_stays j l = next_there (get_or S j []) ms (a ∷ []) (of_moves (get_or S j []) (get_d_among S j [] (omega (arith, l, SMany))))

        module _ (held : Holds m (entered P (points_of_moves ms)) n₂ table bytes (beyond (points_of_moves ms) || hit)) (kept : FirstsOf ns count records firsts₂)
            (long : length firsts₂ ≡ 64) where
          flag : beyond (points_of_moves ms) ≡ false → beyond (points_of_moves ns) ≡ hit
          flag z = ap beyond (points_more ms a) ∙ sym held.flag ∙ ap (λ (b : Bool). b || hit) z

          done : Done
          unfolding often_counted
          done = record {
            holds = rw (points_more ms a) (subst (λ (b : Bool). Holds m (entered P (points_of_moves ms)) n₂ table bytes b) held.flag held);
            hinted = hinted_turn g.hinted (fill 8 P) g.holds.few (holds_sizes g.holds).0 (length_fill 8 P) e room fn;
            most =
                fo ∙ often_on often hit (often_counted ms a) (i + 2) (λ z. sym (flag (g.rare z)))
                ∙ ap₂ (λ (k v : ℕ). cond (eqb k 0 && often_counted ms a) v k) g.most (sym number) ∙ sym (first_more often_counted [] ms a numbered);
            rare = λ z. let f = never_often often hit i (sym fo ∙ z) in flag (g.rare f.0) ∙ f.1;
            same =
                first_more other_next [] ms a numbered
                ∙ ap₂ (λ (k : ℕ) (b : Bool). cond (eqb k 0 && b) a.at k) g.same none;
            kept = kept;
            sized = long;
            nexts = λ b mem. elim (snoc_of ms a b mem) [ inl q ↦ g.nexts b q | inr q ↦ ap (λ (c : Move). length c.next) q ∙ ln ];
          }

        -- what is kept with point j
        abbrev Kept : ℕ → Type 0
        Kept j =
            (suc (get_or firsts₂ j 0) < count) × (row_at 8 (suc (get_or firsts₂ j 0)) records ≡ fill 8 (successor_of (get_or (points_of (points_of_moves ns)) j []) ns))

        -- A new point: it comes last, with this record.
        new_one : at ≡ n → Done
        new_one z = done (rw number_is (holds_new g.holds fits P lp e z less)) kept_new (ap length put ∙ length-set firsts n i ∙ g.sized)
          where
            less : n < 64
            less = omega (arith, z, room, at_most, g.holds.few)

            number_is : n₂ ≡ n + 1
            number_is = fn ∙ rw (eq-eqb at n z) (sym (add-one n))

            put : firsts₂ ≡ set firsts n i
            put = fv ∙ rw (eq-eqb at n z) (ap (λ (k : ℕ). set firsts k i) z)

            points_on : points_of (points_of_moves ns) ≡ S ++ (P ∷ [])
            points_on =
                ap points_of (points_more ms a ∙ entered_new P (points_of_moves ms) (is_new g.holds fits P lp e z))
                ∙ map-append (λ x. x.0) (points_of_moves ms) ((P, 1) ∷ [])

            many_on : length (points_of_moves ns) ≡ n + 1
            many_on = sym (length-map (points_of_moves ns) (λ x. x.0)) ∙ ap length points_on ∙ length-append S (P ∷ []) ∙ omega (arith, SMany)

            -- at an earlier place, and at its own
            old_first : (j : ℕ) → j < n → get_or firsts₂ j 0 ≡ get_or firsts j 0
            old_first j l = ap (λ (t : List ℕ). get_or t j 0) put ∙ get_or-set_other firsts n j i 0 (λ y. omega (arith, y, l))

            own_first : get_or firsts₂ n 0 ≡ i
            own_first = ap (λ (t : List ℕ). get_or t n 0) put ∙ get_or-set_same firsts n i 0 (omega (arith, less, g.sized))

            old_point : (j : ℕ) → j < n → get_or (points_of (points_of_moves ns)) j [] ≡ get_or S j []
            old_point j l = ap (λ (K : List (List ℕ)). get_or K j []) points_on ∙ get_or-append S (P ∷ []) [] j (omega (arith, l, SMany))

            own_point : get_or (points_of (points_of_moves ns)) n [] ≡ P
            own_point = ap (λ (K : List (List ℕ)). get_or K n []) points_on ∙ get_or_at S P [] [] n SMany

            at_each : (j : ℕ) → j < length (points_of_moves ns) → Kept j
            at_each j h = go (ℕ_discrete j n)
              where
                go : Dec (j ≡ n) → Kept j
                go (yes y) =
                    rw y (rw (own_first, own_point) (low, row ∙ ap (fill 8) (sym (next_new ms a (absent z)))))
                go (no y) =
                    let l : j < n = omega (arith, h, many_on, y) in
                    rw (old_first j l, old_point j l) (
                      g.kept.behind j (omega (arith, l, g.holds.count)),
                      g.kept.next j (omega (arith, l, g.holds.count)) ∙ ap (fill 8) (sym (next_stays j l)),
                    )

            kept_new : FirstsOf ns count records firsts₂
            kept_new = record { behind = λ j h. (at_each j h).0; next = λ j h. (at_each j h).1 }

        -- A point that is there.
        there_one : at < n → Done
        there_one l = done (rw number_is (holds_there g.holds fits P lp e l)) kept_on (ap length same_firsts ∙ g.sized)
          where
            other_place : eqb at n ≡ false
            other_place = ne_eqb at n (λ z. omega (arith, z, l))

            number_is : n₂ ≡ n
            number_is = fn ∙ rw other_place refl

            same_firsts : firsts₂ ≡ firsts
            same_firsts = fv ∙ rw other_place refl

            points_same : points_of (points_of_moves ns) ≡ S
            points_same = ap points_of (points_more ms a) ∙ (entered_there P (points_of_moves ms) (sym (among g.holds fits P lp e) ∙ lt-ltb at n l)).0

            many_same : length (points_of_moves ns) ≡ n
            many_same = sym (length-map (points_of_moves ns) (λ x. x.0)) ∙ ap length points_same ∙ SMany

            kept_on : FirstsOf ns count records firsts₂
            kept_on = rw same_firsts (record {
              behind = λ j h. g.kept.behind j (omega (arith, h, many_same, g.holds.count));
              next = λ j h.
                  g.kept.next j (omega (arith, h, many_same, g.holds.count))
                  ∙ ap (fill 8) (sym (ap (λ (K : List (List ℕ)). successor_of (get_or K j []) ns) points_same ∙ next_stays j (omega (arith, h, many_same))));
            })

        pub turn : Done
        turn = go (ℕ_discrete at n)
          where
            go : Dec (at ≡ n) → Done
            go (yes z) = new_one z
            go (no z) = there_one (omega (arith, z, at_most))
