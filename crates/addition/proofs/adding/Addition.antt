-- A whole addition: its refusal, test by test, and what it stands on where nothing refuses it.
use mathlib.Core.Path.{◌≡◌, refl, sym, ◌∙◌, ap, ap₂, subst}
use mathlib.Core.Bool.{Bool, true, false, cond}
use mathlib.Core.List.{List, [], ◌∷◌, ◌++◌}
use Rattle.std.specs.Prelude.{Ok}
use Prim.Native.Nat.{ℕ, ◌+◌, ◌<◌, ◌≤◌}
use native.Mathlib.Numerals.{add-one}
use native.Mathlib.Omega.{arith}
use native.Mathlib.Decide.{ℕ_discrete}
use lib.IntN.{ℤ}
use lib.ListN.{length, take, get_or, set}
use lib.Dec.{eqb, ltb}
use borrow.Author.Tests.{eq-eqb, lt-ltb, le-ltb}
use Rattle.residue.specs.Sizes.{counts_size}
use Rattle.residue.specs.Vector.{Below}
use Rattle.residue.specs.Layout.{groups, fill, begins}
use Rattle.residue.proofs.level.Moduli.{modulus_range}
use Rattle.residue.proofs.Tests.{of_true}
use Rattle.residue.proofs.Layouts.{take_fill, below_fill}
use Rattle.specification.specs.declared.settings.Settings.{Settings}
use Rattle.specification.specs.declared.answers.Size.{Size}
use Rattle.specification.specs.declared.refusals.Refusal.{Refusal}
use Rattle.specification.specs.Answers.{number_of, answer_of}
use Rattle.specification.specs.Refusal.{Case, first_of}
use Rattle.specification.specs.Levels.{residues, is_among}
use Rattle.specification.specs.Counted.{Counted, points_of, entered, overfull, place_in}
use Rattle.specification.specs.Tables.{Tables, five_tables, too_short, points_in, held_in}
use Rattle.specification.specs.Adding.{ended, add_cases, add_refusal, add_outcome, holding_both}
use Rattle.specification.specs.Solving.{within_variables}
use Rattle.specification.specs.CallByCall.{recounted}
use Rattle.specification.proofs.CallByCall.{known_entries}
use Rattle.specification.proofs.Replicates.{same_count, add_raises, add_new}
use Rattle.specification.proofs.counted.Held.{points_held, length_held}
use Rattle.specification.proofs.counted.Room.{room_there, room_new}
use Rattle.specification.specs.Points.{IsPoint}
use Rattle.specification.proofs.agreement.Points.{levels_point}
use Rattle.specification.proofs.agreement.Refusals.{large_of}
use Rattle.construction.specs.Drawing.{PointsGiven, DrawnUp}
use Rattle.growth.specs.Growing.{all_points, NewPoint}
use Rattle.construction.proofs.drawing.Given.{drawn_of}
use Rattle.points.proofs.levels.LevelLists.{residues_below}
use Rattle.recognition.specs.Naming.{naming_faults, naming_refusal}
use Rattle.recognition.proofs.settings.ByNumber.{number_above_0}
use Rattle.recognition.proofs.looking.Looks.{Open, look_first, look_then}
use Rattle.recognition.proofs.naming.PointAtHand.{AtHand, opened, named_long, rows_held, among_old}
use Rattle.recognition.proofs.recognising.Recognised.{parts, standard_there, leads_there, coefficients_there}

-- what refuses a point by its place among n others: there too often, or new beside 64 others
abbrev pub room_at : ℕ → ℕ → List ℕ → ℕ
room_at n place counts = cond (ltb place n) (cond (eqb (get_or counts place 0) 255) 13 0) (cond (eqb n 64) 8 0)

module _ (s : Settings) (n r : ℕ) (t : Tables) (levels : List ℤ) where
  abbrev pub old : List (List ℕ)
  old = points_in s n t.states

  abbrev pub new : List ℕ
  new = residues s.modulus levels

  abbrev pub held : Counted
  held = held_in s n t

  -- where the new point stands, and its count there
  abbrev pub place : ℕ
  place = place_in new old

  abbrev pub count : ℕ
  count = get_or t.counts place 0

  -- the cases behind those of a named point
  abbrev last : List Case
  last = overfull (entered new held)

  first : (k : ℕ) → k ≡ naming_refusal s n r t levels → (k ≡ 0 → ⊥) → k ≡ add_refusal s n r t levels
  unfolding add_refusal add_cases within_variables groups
  first k e z = look_first s n r t (naming_faults s levels) levels [] last k e z

  -- None of those holds: the room decides.
  module _ (e : naming_refusal s n r t levels ≡ 0) where
    w : Open s n r t (naming_faults s levels) levels []
    w = opened s n r t levels e

    among_held : (b : Bool) → is_among new old ≡ b → is_among new (points_of held) ≡ b
    among_held b f = ap (is_among new) (points_held s n t) ∙ f

    full : room_at n place t.counts ≡ first_of 0 last
    full = ap (λ (b : Bool). cond b (cond {A = ℕ} (eqb count 255) 13 0) (cond (eqb n 64) 8 0)) (sym (among_old s n r t levels e)) ∙ by (is_among new old) refl
      where
        by : (b : Bool) → is_among new old ≡ b → cond b (cond {A = ℕ} (eqb count 255) 13 0) (cond (eqb n 64) 8 0) ≡ first_of 0 last
        by true f =
            ap (λ (k : ℕ). cond {A = ℕ} (eqb k 255) 13 0) (sym (same_count s n r t levels f))
            ∙ sym (room_there s new held (known_entries s w.settings n r t w.few w.known) (among_held true f))
        by false f =
            ap (λ (k : ℕ). cond {A = ℕ} (eqb k 64) 8 0) (sym (length_held s n t))
            ∙ sym (room_new s new held (known_entries s w.settings n r t w.few w.known) (among_held false f))

    told : room_at n place t.counts ≡ add_refusal s n r t levels
    unfolding add_refusal add_cases within_variables groups
    told = full ∙ look_then s n r t (naming_faults s levels) levels [] last e

  -- refused by the look at the tables
  pub told_before : (e : Refusal) → number_of e ≡ naming_refusal s n r t levels → number_of e ≡ add_refusal s n r t levels
  told_before e h = first (number_of e) h (number_above_0 e)

  -- or for its room, at its place
  pub told_room : naming_refusal s n r t levels ≡ 0 → {at : ℕ} → at ≡ place → {k : ℕ} → k ≡ room_at n at t.counts → k ≡ add_refusal s n r t levels
  told_room e f g = g ∙ ap (λ (i : ℕ). room_at n i t.counts) f ∙ told e

  -- Nothing refuses.
  module _ (e : add_refusal s n r t levels ≡ 0) where
    pub none_before : naming_refusal s n r t levels ≡ 0
    none_before = go (ℕ_discrete (naming_refusal s n r t levels) 0)
      where
        go : Dec (naming_refusal s n r t levels ≡ 0) → naming_refusal s n r t levels ≡ 0
        go (yes z) = z
        go (no z) = absurd (z (first _ refl z ∙ e))

    o : Open s n r t (naming_faults s levels) levels []
    o = opened s n r t levels none_before

    room_left : room_at n place t.counts ≡ 0
    room_left = told none_before ∙ e

  -- Of a point that is there the count is raised, in its place i, and the rest is as it was.
  pub record Raised (i : ℕ) : Type 0 where
    pub inside : i < length t.counts
    pub room : get_or t.counts i 0 ≡ 255 → ⊥
    pub few_points : n ≤ 64
    pub few_rows : r ≤ 449
    pub outcome : {a : Size} {k : List ℕ} → a ≡ record { n = n; r = r } → k ≡ set t.counts i (get_or t.counts i 0 + 1)
        → ended (answer_of (Ok a)) (five_tables t.states t.standard t.leads t.coefficients k) ≡ add_outcome s n r t levels

  pub raised : (e : add_refusal s n r t levels ≡ 0) → (i : ℕ) → i ≡ place → i < n → Raised i
  unfolding answer_of recounted
  raised e i f low = record {
    inside = omega (arith, low, (o e).few, (large_of t (o e).long_tables).counts);
    room = full;
    few_points = (o e).few;
    few_rows = rows_held s n r t levels (none_before e);
    outcome = λ g h. rw (g, h, f, add-one count) (sym (add_raises s n r t levels there e));
  }
    where
      within : ltb place n ≡ true
      within = lt-ltb place n (omega (arith, low, f))

      full : get_or t.counts i 0 ≡ 255 → ⊥
      full z = let h : ◌≡◌ {A = ℕ} 13 0 = simp (within, eq-eqb count 255 (ap (λ (j : ℕ). get_or t.counts j 0) (sym f) ∙ z)) at (room_left e) in omega arith

      there : is_among new old ≡ true
      there = among_old s n r t levels (none_before e) ∙ within

  -- What the writer of the new tables is handed: a table of the points, their pivot rows, and the bytes of the new point.
  module _ (table rows pivots point : List ℕ) where
    pub record Ready : Type 0 where
      pub long : too_short t ≡ false
      pub given : PointsGiven s n table
      pub drawn : DrawnUp s (points_in s n table) r (take 512 t.standard) (take 3592 t.leads) (take 28736 t.coefficients) rows pivots
      pub room : n < 64
      pub counts : begins (fill counts_size (fill n t.counts)) t.counts ≡ true
      pub new_point : NewPoint s (points_in s n table) point
      pub outcome : holding_both s (all_points s n table point) (fill n t.counts ++ (1 ∷ [])) t ≡ add_outcome s n r t levels

  module _ (e : add_refusal s n r t levels ≡ 0) {at : ℕ} (high : n ≤ at) {table rows pivots point : List ℕ} (h : AtHand s n r t levels (none_before e) at table rows pivots point) where
    above : n ≤ place
    above = omega (arith, high, h.placed)

    room : n < 64
    room = go (ℕ_discrete n 64)
      where
        go : Dec (n ≡ 64) → n < 64
        go (yes z) = let f : ◌≡◌ {A = ℕ} 8 0 = simp (le-ltb place n above, eq-eqb n 64 z) at (room_left e) in absurd (omega arith)
        go (no z) = omega (arith, (o e).few, z)

    fresh : is_among new old ≡ false
    fresh = among_old s n r t levels (none_before e) ∙ le-ltb place n above

    positive : 0 < s.modulus
    positive = omega (arith, modulus_range s.modulus (o e).settings.modulus)

    is_new : IsPoint s new
    is_new = levels_point s levels positive (named_long s n r t levels (none_before e)) (of_true (o e).range)

    cut : take s.variables point ≡ new
    cut = ap (take s.variables) h.residue ∙ take_fill s.variables 8 new is_new.long (o e).settings.few

    joined : all_points s n table point ≡ old ++ (new ∷ [])
    joined = ap₂ (λ (K : List (List ℕ)) (P : List ℕ). K ++ (P ∷ [])) h.again cut

    pub ready : Ready table rows pivots point
    ready = record {
      long = (o e).long_tables;
      given = h.given_points;
      drawn = drawn_of (sym h.again) (record {
        tabled = record {
          row_count = (parts (o e)).rows;
          standard_table_lem = standard_there (o e);
          leads_table_lem = leads_there (o e);
          coefficients_table_lem = coefficients_there (o e);
        };
        pivot_rows = h.solves;
      });
      room = room;
      counts = (parts (o e)).counts;
      new_point = record {
        filled = h.residue ∙ ap (fill 8) (sym cut);
        below = subst (Below s.modulus) (sym h.residue) (below_fill s.modulus 8 new positive (residues_below s.modulus levels positive (of_true (o e).range)));
        new = ap₂ is_among cut h.again ∙ fresh;
      };
      outcome = ap (λ (S : List (List ℕ)). holding_both s S (fill n t.counts ++ (1 ∷ [])) t) joined ∙ sym (add_new s n r t levels fresh e);
    }
