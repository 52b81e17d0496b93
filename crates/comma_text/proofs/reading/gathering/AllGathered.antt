-- All entries gathered: one out of range, the turn of the next one, the 65th point, and what is decided at the end.
use mathlib.Core.Path.{◌≡◌, refl, sym, ap, ap₂, ◌∙◌, subst}
use mathlib.Core.Bool.{Bool, not, cond, ◌||◌}
use mathlib.Core.List.{List, [], ◌∷◌, ◌++◌, map, map-append}
use Prim.Native.Nat.{ℕ, suc, ◌+◌, ◌-◌, ◌<◌, ◌≤◌}
use native.Mathlib.Decide.{ℕ_discrete}
use native.Mathlib.Omega.{arith}
use lib.IntN.{ℤ}
use lib.ListN.{length, get_or, set, take, drop, replicate, length-map, length-take, take-append-drop, get_or-eq_default}
use lib.Seq.{length-take-le}
use lib.Dec.{eqb}
use borrow.Author.Tests.{eqb-true, not-false}
use Rattle.residue.specs.Layout.{fill, over, length_fill}
use Rattle.residue.specs.Lists.{key_of}
use Rattle.residue.proofs.Layouts.{fill_at}
use Rattle.residue.proofs.bytes.Keys.{key_padded}
use Rattle.residue.proofs.Places.{over_zeros}
use Rattle.specification.specs.Refusal.{first_of}
use Rattle.specification.specs.Counted.{counts_of}
use Rattle.specification.proofs.counted.Saturated.{none_capped}
use Rattle.points.specs.Gathering.{Hinted, EnteredAs}
use Rattle.points.proofs.gathering.EnteredBytes.{no_room}
use Rattle.points.proofs.gathering.Hints.{hinted_none, hinted_turn}
use Rattle.points.proofs.gathering.Gathering.{holds_sizes}
use Rattle.comma_text.specs.reading.Text.{Valued, first_fault, is_outside, first_after, too_many, too_often, other_value, entry_point, entry_value, valued_point, valued_points, first_outside, refusal_at, not_refused, entry_case, points_cases, entries_cases}
use Rattle.comma_text.specs.reading.Records.{entry_part}
use Rattle.comma_text.specs.reading.Points.{levels_in, FilledAs, earlier_place, answered, GatheredAs}
use Rattle.comma_text.specs.reading.Answers.{Refusal, Gathered}
use Rattle.comma_text.specs.declared.reading.entries.Filled.{Filled}
use Rattle.comma_text.proofs.reading.FirstPlaces.{after_le}
use Rattle.comma_text.proofs.reading.TextCases.{passed, place_refuses, place_passes, answer_refusal, answer_no_points}
use Rattle.comma_text.proofs.reading.EntryLengths.{point_long}
use Rattle.comma_text.proofs.reading.entries.EntriesRead.{ReadOn, next, next_long, here, levels, one_more, all_read}
use Rattle.comma_text.proofs.reading.FirstValues.{gathered_points, never_many}
use Rattle.comma_text.proofs.reading.gathering.EntriesGathered.{Gathering, no_entries, at_most, full_here, turn}

module _ (p m : ℕ) (S : List (List ℤ)) where
  -- the first i entries as points with values
  abbrev pub first : ℕ → List Valued
  first i = map (valued_point p m) (take i S)

  abbrev valued : List Valued
  valued = map (valued_point p m) S

  abbrev number : ℕ
  number = length (gathered_points valued)

  -- An entry out of range: 9.
  pub outside_refused : {k : ℕ} → 0 < k → k ≡ first_fault (is_outside p) S → (a : Gathered) → a ≡ record { refusal = 9; at = suc k; n = 0 }
      → (points counts values : List ℕ) → GatheredAs p m S a points counts values
  unfolding entries_cases first_outside answered
  outside_refused {k} h e a d points counts values = record {
    answer = λ order weights.
        d ∙ ap (λ (x : Refusal). answered x number) (ap (λ (j : ℕ). refusal_at 9 (suc j)) e ∙ place_refuses 9 (first_fault (is_outside p) S) _ (λ z. omega (arith, z, e, h)));
    tabled = λ y. absurd (omega (arith, y, ap (λ (x : Gathered). x.refusal) d));
  }

  -- How far i entries are gathered: all of them, or those before the 65th point, which is at `full`.
  pub record Turned (i n full often other : ℕ) (points counts values hints : List ℕ) : Type 0 where
    pub upto : ℕ
    pub gathering : Gathering m (first upto) n often other points counts values
    pub hinted : full ≡ 0 → Hinted n points hints
    pub all : full ≡ 0 → upto ≡ i
    pub many : (full ≡ 0 → ⊥) → full ≡ first_after too_many [] valued

  pub none_turned : {points counts values : List ℕ} → points ≡ fill 512 [] → counts ≡ fill 64 [] → values ≡ fill 64 [] → Turned 0 0 0 0 0 points counts values (replicate 233 0)
  none_turned {points} e f g = record { upto = 0; gathering = no_entries m e f g; hinted = λ z. hinted_none points; all = λ z. refl; many = λ z. absurd (z refl) }

  module _ {i n full often other : ℕ} {points counts values hints : List ℕ} (u : Turned i n full often other points counts values hints) where
    pub going : full ≡ 0 → Gathering m (first i) n often other points counts values
    going z = subst (λ (j : ℕ). Gathering m (first j) n often other points counts values) (u.all z) u.gathering

    -- behind the 65th point nothing is entered
    pub turned_full : (full ≡ 0 → ⊥) → Turned (i + 1) n full often other points counts values hints
    turned_full z = record { upto = u.upto; gathering = u.gathering; hinted = λ y. absurd (z y); all = λ y. absurd (z y); many = u.many }

  module _ {entries : ℕ} {t : List ℕ} {from i : ℕ} (r : ReadOn m entries t S from i) where
    count : length (first i) ≡ i
    count = length-map (take i S) (valued_point p m) ∙ length-take-le i S (omega (arith, r.bound, r.count))

    -- the next one, its point in 8 bytes of zeros
    module _ (fits : m ≤ 8) (h : i < entries) {f : Filled} {point : List ℕ} (w : FilledAs p m t (entry_part m (drop from t)) f point)
        (ep : point ≡ over (entry_point p m (levels_in (entry_part m (drop from t)))) (replicate 8 0)) where
      P : List ℕ
      P = entry_point p m (next S r h)

      lp : length P ≡ m
      unfolding P
      lp = point_long p m (next S r h) (next_long S r h)

      filled : point ≡ fill 8 P
      unfolding P
      filled = ep ∙ ap (λ (l : List ℤ). over (entry_point p m l) (replicate 8 0)) (levels S r h) ∙ over_zeros (entry_point p m (next S r h)) 8 (omega (arith, lp, fits))

      zeros : (k : ℕ) → m ≤ k → k < m + (8 - m) → get_or point k 0 ≡ 0
      zeros k a b = ap (λ (l : List ℕ). get_or l k 0) filled ∙ fill_at 8 P k (omega (arith, b, fits)) ∙ get_or-eq_default P 0 (omega (arith, a, lp))

      pub keyed : f.key ≡ key_of 8 point
      keyed =
          let eight : m + (8 - m) ≡ 8 = omega (arith, fits) in
          w.key ∙ sym (key_padded m (8 - m) point zeros) ∙ ap (λ (k : ℕ). key_of k point) eight

      value : f.value ≡ entry_value p m (next S r h)
      value = w.value ∙ ap (entry_value p m) (levels S r h)

      all : map (valued_point p m) S ≡ first i ++ ((P, entry_value p m (next S r h)) ∷ map (valued_point p m) (drop (suc i) S))
      unfolding P valued_point
      all =
          ap (map (valued_point p m)) (sym (take-append-drop i S) ∙ ap (λ (l : List (List ℤ)). take i S ++ l) (here S r h))
          ∙ map-append (valued_point p m) (take i S) (next S r h ∷ drop (suc i) S)

      more : first (i + 1) ≡ first i ++ ((P, entry_value p m (next S r h)) ∷ [])
      unfolding P valued_point
      more = ap (map (valued_point p m)) (one_more S r h) ∙ map-append (valued_point p m) (take i S) (next S r h ∷ [])

      -- it is entered
      module _ {n often other : ℕ} {points counts values : List ℕ} (g : Gathering m (first i) n often other points counts values)
          {hints : List ℕ} {at : ℕ} {hit : Bool} {table bytes noted : List ℕ} (e : EnteredAs n point points counts hints at hit table bytes noted) where
        entering : EnteredAs n (fill 8 P) points counts hints at hit table bytes noted
        entering = subst (λ (x : List ℕ). EnteredAs n x points counts hints at hit table bytes noted) filled e

        -- The 65th point: nothing is entered, and 8 is due here.
        module _ (z : at ≡ 64) where
          most : n ≡ 64
          most = omega (arith, z, at_most fits (first i) g P (entry_value p m (next S r h)) lp entering, g.holds.few)

          place_8 : i + 1 ≡ first_after too_many [] valued
          place_8 =
              omega (arith, count) ∙ full_here fits (first i) g P (entry_value p m (next S r h)) lp entering (map (valued_point p m) (drop (suc i) S)) z ∙ ap (first_after too_many []) (sym all)

          pub full_turn : Turned (i + 1) n (i + 1) often other table bytes values noted
          full_turn = record {
            upto = i;
            gathering =
                let same = no_room n at (fill 8 P) points counts (z ∙ sym most) (omega (arith, most)) in
                subst (λ (t : List ℕ). Gathering m (first i) n often other t bytes values) (same.1.0 ∙ sym entering.table)
                (subst (λ (b : List ℕ). Gathering m (first i) n often other points b values) (same.1.1 ∙ sym entering.bytes) g);
            hinted = λ y. absurd (omega (arith, y));
            all = λ y. absurd (omega (arith, y));
            many = λ y. place_8;
          }

        pub place_below : (at ≡ 64 → ⊥) → at < 64
        place_below room = omega (arith, at_most fits (first i) g P (entry_value p m (next S r h)) lp entering, g.holds.few, room)

        -- what the calls of its turn leave
        module _ (room : at ≡ 64 → ⊥) {n₂ often₂ other₂ : ℕ} {values₂ : List ℕ} {same : Bool}
            (fn : n₂ ≡ cond (eqb at n) (suc n) n) (fs : same ≡ (eqb at n || eqb (get_or values at 0) f.value))
            (fv : values₂ ≡ cond (eqb at n) (set values at f.value) values)
            (fo : often₂ ≡ earlier_place often (not hit) (i + 1)) (ft : other₂ ≡ earlier_place other same (i + 1)) where
          gathered_on : Gathering m (first (i + 1)) n₂ often₂ other₂ table bytes values₂
          gathered_on =
              subst (λ (E : List Valued). Gathering m E n₂ often₂ other₂ table bytes values₂) (sym more)
              (turn fits (first i) g P v lp entering room fn
              (fs ∙ ap (λ (x : ℕ). eqb at n || eqb (get_or values at 0) x) value) (fv ∙ ap (λ (x : ℕ). cond (eqb at n) (set values at x) values) value)
              (fo ∙ ap (earlier_place often (not hit)) place) (ft ∙ ap (earlier_place other same) place))
            where
              v : ℕ
              v = entry_value p m (next S r h)

              place : i + 1 ≡ suc (length (first i))
              place = omega (arith, count)

          pub next_turn : {full : ℕ} → full ≡ 0 → Hinted n points hints → Turned (i + 1) n₂ full often₂ other₂ table bytes values₂ noted
          next_turn z H = record {
            upto = i + 1;
            gathering = gathered_on;
            hinted = λ y. hinted_turn H point g.holds.few (holds_sizes g.holds).0 (ap length filled ∙ length_fill 8 P) e room fn;
            all = λ y. refl;
            many = λ y. absurd (y z);
          }

  -- All of them: 8, 13 and 14 as they were met first, or the tables.
  module _ {entries : ℕ} {t : List ℕ} {from i : ℕ} (r : ReadOn m entries t S from i) (h : entries ≤ i) {n full often other : ℕ} {points counts values hints : List ℕ}
      (u : Turned i n full often other points counts values hints) (o : 0 ≡ first_fault (is_outside p) S) (a : Gathered)
      (d : a ≡ answered (first_of not_refused (entry_case 8 full ∷ entry_case 13 often ∷ entry_case 14 other ∷ [])) n) where
    too_many_lem : (full ≡ 0 → ⊥) → GatheredAs p m S a points counts values
    unfolding entries_cases points_cases first_outside valued_points answered
    too_many_lem z = record {
      answer = λ order weights.
          is_8 ∙ answer_no_points (refusal_at 8 (suc full)) n (λ y. omega (arith, y)) number
          ∙ ap (λ (x : Refusal). answered x number)
          (ap (λ (j : ℕ). refusal_at 8 (suc j)) (u.many z) ∙ place_refuses 8 (first_after too_many [] valued) _ (λ y. z (u.many z ∙ y))
          ∙ sym (place_passes 9 (first_fault (is_outside p) S) (points_cases valued) (sym o)));
      tabled = λ y. absurd (omega (arith, y, ap (λ (x : Gathered). x.refusal) is_8));
    }
      where
        is_8 : a ≡ answered (refusal_at 8 (suc full)) n
        is_8 = d ∙ ap (λ (x : Refusal). answered x n) (sym (place_refuses 8 full _ z))

    module _ (z : full ≡ 0) where
      held : Gathering m valued n often other points counts values
      held =
          subst (λ (E : List Valued). Gathering m E n often other points counts values) (ap (λ (j : ℕ). first j) (u.all z) ∙ ap (map (valued_point p m)) (all_read S r h)) u.gathering

      many : first_after too_many [] valued ≡ 0
      many = never_many [] valued (omega (arith, held.holds.count, held.holds.few))

      later : a ≡ answered (first_of not_refused (entry_case 13 often ∷ entry_case 14 other ∷ [])) n
      later = d ∙ ap (λ (x : Refusal). answered x n) (place_passes 8 full _ z)

      not_many : GatheredAs p m S a points counts values
      unfolding entries_cases points_cases first_outside valued_points
      not_many = record {
        answer = λ order weights.
            later
            ∙ ap₂ answered
            (ap₂ (λ (j k : ℕ). first_of not_refused (entry_case 13 j ∷ entry_case 14 k ∷ [])) held.most held.others
            ∙ sym (place_passes 9 (first_fault (is_outside p) S) (points_cases valued) (sym o) ∙ place_passes 8 (first_after too_many [] valued) _ many))
            held.holds.count;
        tabled = λ y.
            let first-13 = passed (not (eqb often 0)) 12 (suc often) (entry_case 14 other ∷ []) (sym (ap (λ (x : Refusal). x.refusal) (answer_refusal _ n later)) ∙ y) in
            let low = held.within (eqb-true often 0 (not-false (eqb often 0) first-13.0)) in
            record { states = held.holds.table; times = held.holds.bytes ∙ ap (fill 64) (none_capped (counts_of (gathered_points valued)) low); firsts = held.firsts };
      }

    pub all_gathered : GatheredAs p m S a points counts values
    all_gathered = go (ℕ_discrete full 0)
      where
        go : Dec (full ≡ 0) → GatheredAs p m S a points counts values
        go (yes z) = not_many z
        go (no z) = too_many_lem z

  -- places within the number of entries
  module _ {i n full often other : ℕ} {points counts values hints : List ℕ} (u : Turned i n full often other points counts values hints) where
    full_within : full ≤ length S
    full_within = go (ℕ_discrete full 0)
      where
        go : Dec (full ≡ 0) → full ≤ length S
        go (yes z) = omega (arith, z)
        go (no z) = omega (arith, u.many z, after_le too_many [] valued, length-map S (valued_point p m))

    pub places_within : (full ≤ length S) × (often ≤ length S) × (other ≤ length S)
    places_within =
        let g = u.gathering in
        let l : length (first u.upto) ≤ length S = omega (arith, length-map (take u.upto S) (valued_point p m), length-take u.upto S) in
        (full_within, omega (arith, g.most, after_le too_often [] (first u.upto)), omega (arith, g.others, after_le other_value [] (first u.upto)))
