-- The gathering of entries one by one: what the tables hold and where 13 and 14 were met first, after each entry (request M-106).
use mathlib.Core.Path.{◌≡◌, refl, sym, ap, ap₂, ◌∙◌, subst}
use mathlib.Core.Bool.{Bool, true, false, not, cond, ◌||◌, not-not}
use mathlib.Core.List.{List, [], ◌∷◌, ◌++◌, map-append, append-nil}
use Prim.Native.Nat.{ℕ, zero, suc, ◌+◌, ◌<◌, ◌≤◌}
use native.Mathlib.Numerals.{add-one}
use native.Mathlib.Decide.{ℕ_discrete}
use native.Mathlib.Omega.{arith}
use lib.ListN.{length, get_or, set, length-map, length-append}
use lib.Dec.{T, eqb, eqb-suc-zero}
use borrow.Author.Tests.{eq-eqb, ne_eqb, lt-ltb, not-true}
use Rattle.residue.specs.Lists.{same_list}
use Rattle.residue.specs.Layout.{groups, fill, in_places, length_fill}
use Rattle.residue.proofs.Tests.{true_of}
use Rattle.residue.proofs.bytes.Equality.{same_self}
use Rattle.residue.proofs.Layouts.{fill_at, fill_put}
use Rattle.specification.specs.Levels.{is_among, no_repeat}
use Rattle.specification.specs.Counted.{points_of, entered, entered_all, gathered, place_in}
use Rattle.specification.specs.Tables.{states_table}
use Rattle.specification.proofs.counted.Entered.{entered_there, entered_new}
use Rattle.specification.proofs.counted.Gathered.{once_gathered}
use Rattle.specification.proofs.counted.Saturated.{beyond}
use Rattle.points.proofs.places.PointPlaces.{place_le}
use Rattle.points.specs.Gathering.{EnteredAs}
use Rattle.points.proofs.gathering.Gathering.{Holds, once_held, holds_none, placed, among, holds_there, is_new, holds_new}
use Rattle.comma_text.specs.reading.Text.{Valued, first_after, too_many, too_often, first_value, other_value, first_values}
use Rattle.comma_text.specs.reading.Points.{earlier_place}
use Rattle.comma_text.proofs.reading.FirstPlaces.{after_more, after_found, none_found}
use Rattle.comma_text.proofs.reading.FirstValues.{gathered_points, counted_more, never_many, among_counted, value_there, value_new, value_at_lem, values_kept}

-- After these entries: their points in the tables with their counts, the values of their first entries, and the places of 13 and 14.
pub record Gathering (m : ℕ) (E : List Valued) (n often other : ℕ) (points counts values : List ℕ) : Type 0 where
  pub holds : Holds m (gathered_points E) n points counts (beyond (gathered_points E))
  pub firsts : values ≡ fill 64 (first_values (points_of (gathered_points E)) E)
  pub most : often ≡ first_after too_often [] E
  pub within : often ≡ 0 → beyond (gathered_points E) ≡ false
  pub others : other ≡ first_after other_value [] E

pub no_entries : (m : ℕ) {points counts values : List ℕ} → points ≡ fill 512 [] → counts ≡ fill 64 [] → values ≡ fill 64 [] → Gathering m [] 0 0 0 points counts values
unfolding gathered entered_all states_table in_places first_values first_after
no_entries m e f g = record { holds = holds_none m _ _ e f; firsts = g; most = refl; within = λ z. refl; others = refl }

-- no point stands twice in the table
pub once_there : {m : ℕ} {E : List Valued} {n often other : ℕ} {points counts values : List ℕ} → Gathering m E n often other points counts values → m ≤ 8
    → T (no_repeat (groups 8 n points))
once_there {m} {E} g fits = once_held g.holds fits (once_gathered (points_of E))

pub values_long : {m : ℕ} {E : List Valued} {n often other : ℕ} {points counts values : List ℕ} → Gathering m E n often other points counts values → length values ≡ 64
values_long {m} {E} g = ap length g.firsts ∙ length_fill 64 (first_values (points_of (gathered_points E)) E)

-- 13 was met before, or it is met where a count would be above 255 now
often_on : (k : ℕ) (b c : Bool) (place : ℕ) → (k ≡ 0 → b ≡ c) → earlier_place k (not b) place ≡ earlier_place k (not c) place
unfolding earlier_place
often_on zero b c place h = ap (λ (x : Bool). cond {A = ℕ} (not x) 0 place) (h refl)
often_on (suc k) b c place h = rw (eqb-suc-zero k) refl

-- the value of a point's own entry, and of a point of no entry
own : (P : List ℕ) (v w : ℕ) → first_value P w ((P, v) ∷ []) ≡ v
unfolding first_value
own P v w = rw (true_of (same_list P P) (same_self P)) refl

none : (P : List ℕ) (v : ℕ) (E : List Valued) → is_among P (points_of E) ≡ false → first_value P v E ≡ v
unfolding first_value
none P v E e = ap (first_value P v) (sym (append-nil E)) ∙ value_new P v E [] e

module _ {m : ℕ} (fits : m ≤ 8) (E : List Valued) {n often other : ℕ} {points counts values : List ℕ} (g : Gathering m E n often other points counts values)
    (P : List ℕ) (v : ℕ) (lp : length P ≡ m) {hints : List ℕ} {at : ℕ} {hit : Bool} {table bytes noted : List ℕ}
    (e : EnteredAs n (fill 8 P) points counts hints at hit table bytes noted) where
  abbrev q : Valued
  q = (P, v)

  abbrev S : List (List ℕ)
  S = points_of (gathered_points E)

  count : length S ≡ n
  count = length-map (gathered_points E) (λ x. x.0) ∙ sym g.holds.count

  place : at ≡ place_in P S
  place = placed g.holds fits P lp e

  pub at_most : at ≤ n
  at_most = omega (arith, place, place_le P S, count)

  more : gathered_points (E ++ (q ∷ [])) ≡ entered P (gathered_points E)
  more = counted_more E q

  -- The 65th point: 8, at this entry.
  pub full_here : (rest : List Valued) → at ≡ 64 → suc (length E) ≡ first_after too_many [] (E ++ (q ∷ rest))
  unfolding too_many
  full_here rest z =
      let new : is_among P S ≡ false = is_new g.holds fits P lp e (omega (arith, z, at_most, g.holds.few)) in
      let l : length (gathered_points (E ++ (q ∷ []))) ≡ suc (length (gathered_points E)) = ap length (more ∙ entered_new P (gathered_points E) new) ∙ length-append (gathered_points E) ((P, 1) ∷ []) ∙ omega arith in
      after_found too_many [] E q rest (never_many [] E (omega (arith, g.holds.count, g.holds.few)))
      (lt-ltb 64 (length (gathered_points (E ++ (q ∷ [])))) (omega (arith, l, g.holds.count, at_most, z)))

  -- What a turn leaves, by what the calls leave of it.
  module _ (room : at ≡ 64 → ⊥) {n₂ often₂ other₂ : ℕ} {values₂ : List ℕ} {same : Bool} (fn : n₂ ≡ cond (eqb at n) (suc n) n)
      (fs : same ≡ (eqb at n || eqb (get_or values at 0) v)) (fv : values₂ ≡ cond (eqb at n) (set values at v) values)
      (fo : often₂ ≡ earlier_place often (not hit) (suc (length E))) (ft : other₂ ≡ earlier_place other same (suc (length E))) where
    abbrev Done : Type 0
    Done = Gathering m (E ++ (q ∷ [])) n₂ often₂ other₂ table bytes values₂

    -- the tables hold one point more; first values are kept and compared: the rest follows
    module _ (held : Holds m (entered P (gathered_points E)) n₂ table bytes (beyond (gathered_points E) || hit)) (kept : values₂ ≡ fill 64 (first_values (points_of (gathered_points (E ++ (q ∷ [])))) (E ++ (q ∷ []))))
        (value : same ≡ eqb (first_value P v E) v) where
      flag : beyond (gathered_points E) ≡ false → beyond (gathered_points (E ++ (q ∷ []))) ≡ hit
      flag z = ap beyond more ∙ sym held.flag ∙ ap (λ (b : Bool). b || hit) z

      done : Done
      unfolding too_often other_value
      done = record {
        holds = rw more (subst (λ (b : Bool). Holds m (entered P (gathered_points E)) n₂ table bytes b) held.flag held);
        firsts = kept;
        most =
            fo ∙ often_on often hit (too_often E q) (suc (length E)) (λ z. sym (flag (g.within z)))
            ∙ ap (λ (k : ℕ). earlier_place k (not (too_often E q)) (suc (length E))) g.most ∙ sym (after_more too_often [] E q);
        within = λ z. let f = none_found often (not hit) (length E) (sym fo ∙ z) in flag (g.within f.0) ∙ not-true hit f.1;
        others =
            ft ∙ ap₂ (λ (k : ℕ) (b : Bool). earlier_place k b (suc (length E))) g.others (value ∙ sym (not-not (eqb (first_value P v E) v)))
            ∙ sym (after_more other_value [] E q);
      }

    -- A new point: it comes last, with its own value.
    new_one : at ≡ n → Done
    unfolding first_values
    new_one z = done (rw number_is (holds_new g.holds fits P lp e z less)) (values_is ∙ put ∙ ap (fill 64) (sym values_on)) value
      where
        less : n < 64
        less = omega (arith, z, room, at_most, g.holds.few)

        here : eqb at n ≡ true
        here = eq-eqb at n z

        number_is : n₂ ≡ n + 1
        number_is = fn ∙ rw here (sym (add-one n))

        values_is : values₂ ≡ set values at v
        values_is = fv ∙ rw here refl

        absent : is_among P S ≡ false
        absent = is_new g.holds fits P lp e z

        fresh : is_among P (points_of E) ≡ false
        fresh = sym (among_counted P E) ∙ absent

        long : length (first_values S E) ≡ at
        long = length-map S _ ∙ count ∙ sym z

        put : set values at v ≡ fill 64 (first_values S E ++ (v ∷ []))
        put = ap₂ (λ (t : List ℕ) (k : ℕ). set t k v) g.firsts (sym long) ∙ fill_put 64 (first_values S E) v (omega (arith, long, z, less))

        points_on : points_of (gathered_points (E ++ (q ∷ []))) ≡ S ++ (P ∷ [])
        points_on = ap points_of (more ∙ entered_new P (gathered_points E) absent) ∙ map-append (λ x. x.0) (gathered_points E) ((P, 1) ∷ [])

        values_on : first_values (points_of (gathered_points (E ++ (q ∷ [])))) (E ++ (q ∷ [])) ≡ first_values S E ++ (v ∷ [])
        values_on =
            ap (λ (X : List (List ℕ)). first_values X (E ++ (q ∷ []))) points_on ∙ map-append (λ Q. first_value Q 0 (E ++ (q ∷ []))) S (P ∷ [])
            ∙ ap₂ (λ (a : List ℕ) (b : ℕ). a ++ (b ∷ [])) (values_kept E (q ∷ [])) (value_new P 0 E (q ∷ []) fresh ∙ own P v 0)

        value : same ≡ eqb (first_value P v E) v
        value = fs ∙ rw here (sym (ap (λ (x : ℕ). eqb x v) (none P v E fresh) ∙ eq-eqb v v refl))

    -- A point that is there: its value is compared.
    there_one : at < n → Done
    there_one l = done (rw number_is (holds_there g.holds fits P lp e l)) (values_is ∙ g.firsts ∙ ap (fill 64) (sym values_on)) value
      where
        other_place : eqb at n ≡ false
        other_place = ne_eqb at n (λ z. omega (arith, z, l))

        number_is : n₂ ≡ n
        number_is = fn ∙ rw other_place refl

        values_is : values₂ ≡ values
        values_is = fv ∙ rw other_place refl

        present : is_among P S ≡ true
        present = sym (among g.holds fits P lp e) ∙ lt-ltb at n l

        values_on : first_values (points_of (gathered_points (E ++ (q ∷ [])))) (E ++ (q ∷ [])) ≡ first_values S E
        values_on =
            ap (λ (X : List (List ℕ)). first_values X (E ++ (q ∷ []))) (ap points_of more ∙ (entered_there P (gathered_points E) present).0) ∙ values_kept E (q ∷ [])

        stored : get_or values at 0 ≡ first_value P v E
        stored =
            ap₂ (λ (t : List ℕ) (i : ℕ). get_or t i 0) g.firsts place ∙ fill_at 64 (first_values S E) (place_in P S) (omega (arith, place, l, g.holds.few)) ∙ value_at_lem P S E present
            ∙ sym (ap (first_value P v) (sym (append-nil E)) ∙ value_there P v 0 E [] (sym (among_counted P E) ∙ present))

        value : same ≡ eqb (first_value P v E) v
        value = fs ∙ rw other_place (ap (λ (x : ℕ). eqb x v) stored)

    pub turn : Done
    turn = go (ℕ_discrete at n)
      where
        go : Dec (at ≡ n) → Done
        go (yes z) = new_one z
        go (no z) = there_one (omega (arith, z, at_most))
