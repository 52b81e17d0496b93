-- A text that is taken leaves what specs/reading/Taken.antt says.
use mathlib.Core.Path.{◌≡◌, refl, sym, ap, ◌∙◌, subst}
use mathlib.Core.Bool.{Bool, cond}
use mathlib.Core.List.{List, [], ◌∷◌, ◌++◌}
use mathlib.Core.Logic.{◌⊎◌, inl, inr}
use mathlib.Core.Option.{Option}
use Prim.Native.Nat.{ℕ, zero, suc, ◌+◌, ◌*◌, ◌<◌, ◌≤◌}
use native.Mathlib.Omega.{arith}
use lib.ListN.{length, get_or, take, drop, length-map, length-drop, get_or-append, get_or-eq_default}
use lib.Seq.{take-append-le, drop-append-le, drop-append_seam}
use borrow.Author.Tests.{eqb-true, eq-eqb, not-false}
use Rattle.residue.specs.Lists.{Among, same_list}
use Rattle.residue.specs.Layout.{fill, in_places, over, row_at, length_fill}
use Rattle.residue.proofs.Layouts.{fill_at, length_places, take_over}
use Rattle.residue.proofs.Places.{table_groups, groups_at}
use Rattle.residue.proofs.Tests.{Decides, true_of, told_false}
use Rattle.residue.proofs.bytes.Equality.{same_self}
use Rattle.residue.proofs.vector.Vectors.{map_at}
use Rattle.specification.specs.Counted.{Counted, points_of, counts_of, entered_all, gathered, count_of, times_in}
use Rattle.specification.specs.Tables.{states_table}
use Rattle.specification.proofs.ideal.Lists.{get_d_among}
use Rattle.specification.proofs.counted.Gathered.{among_gathered, once_gathered, count_gathered}
use Rattle.notation.specs.Fields.{records_of}
use Rattle.specification.specs.Refusal.{first_of}
use Rattle.comma_text.specs.reading.Text.{header_in, form_fault, Contents, Valued, valued_points, first_after}
use Rattle.comma_text.specs.reading.Text.{too_many, too_often, first_value, first_values, other_value}
use Rattle.comma_text.specs.reading.Text.{not_refused, short_buffers, read_cases, text_accepted, text_refused, text_decided, read_outcome}
use Rattle.comma_text.specs.reading.Faults.{Says, Wrong}
use Rattle.comma_text.specs.reading.Causes.{TooMany, TooOften, OtherValue, Cause, form, points, replicates, values, AtEntry, HoldsAt}
use Rattle.comma_text.specs.reading.Taken.{Taken, ReadTaken}
use Rattle.comma_text.proofs.reading.HeaderWeights.{header_eight}
use Rattle.comma_text.proofs.reading.PointFaults.{many_told, count_there, often_told, other_told}
use Rattle.comma_text.proofs.reading.TextCases.{unless}
use Rattle.comma_text.proofs.reading.FirstFault.{first_at, none_at}
use Rattle.comma_text.proofs.reading.FormFaults.{form_faults, text_faults}
use Rattle.comma_text.proofs.reading.SaidText.{said_by, says_found}
use Rattle.comma_text.proofs.reading.ReadRefusals.{same_number, read_refusals}
use Rattle.comma_text.proofs.reading.FirstPoints.{gathered_firsts}

-- bytes laid over the front of a buffer
module _ (k : ℕ) (l t : List ℕ) where
  laid_at : (i : ℕ) → i < k → get_or (over (fill k l) t) i 0 ≡ get_or l i 0
  unfolding over
  laid_at i h = get_or-append (fill k l) (drop (length (fill k l)) t) 0 i (omega (arith, length_fill k l, h)) ∙ fill_at k l i h

  laid_unused : (i : ℕ) → length l ≤ i → i < k → get_or (over (fill k l) t) i 0 ≡ 0
  laid_unused i j h = laid_at i h ∙ get_or-eq_default l 0 j

  laid_beyond : drop k (over (fill k l) t) ≡ drop k t
  unfolding over
  laid_beyond =
      let e = length_fill k l in
      let r = drop (length (fill k l)) t in
      ap (λ (n : ℕ). drop n (fill k l ++ r)) (sym e) ∙ drop-append_seam (fill k l) r ∙ ap (λ (n : ℕ). drop n t) e

  laid_row : (i : ℕ) → 8 * i + 8 ≤ k → row_at 8 i (over (fill k l) t) ≡ row_at 8 i (fill k l)
  unfolding over
  laid_row i h =
      let e = length_fill k l in
      let d = drop-append-le (8 * i) (fill k l) (drop (length (fill k l)) t) (omega (arith, e, h)) in
      ap (take 8) d ∙ take-append-le 8 (drop (8 * i) (fill k l)) (drop (length (fill k l)) t) (omega (arith, length-drop (8 * i) (fill k l), e, h))

-- eight bytes at the front
module _ (a t : List ℕ) (e : length a ≡ 8) where
  eight_front : take 8 (over a t) ≡ a
  eight_front = ap (λ (k : ℕ). take k (over a t)) (sym e) ∙ take_over a t

  eight_beyond : drop 8 (over a t) ≡ drop 8 t
  unfolding over
  eight_beyond = ap (λ (k : ℕ). drop k (a ++ drop (length a) t)) (sym e) ∙ drop-append_seam a (drop (length a) t) ∙ ap (λ (k : ℕ). drop k t) e

-- each entry has its point's value
split_of : {A : Type 0} (l : List A) (a : A) → Among a l → (b : List A) × (c : List A) × (l ≡ b ++ (a ∷ c))
split_of (x ∷ l) a (inl e) = ([], l, ap (λ (y : _). y ∷ l) (sym e))
split_of (x ∷ l) a (inr w) = let (b, c, e) = split_of l a w in (x ∷ b, c, ap (λ (y : List _). x ∷ y) e)
split_of {A = A} [] a x' = elim x' [ ]

value_behind : (P : List ℕ) (v w : ℕ) (b c : List Valued) → first_value P w (b ++ ((P, v) ∷ c)) ≡ first_value P v b
unfolding first_value
value_behind P v w [] c = rw (true_of (same_list P P) (same_self P)) refl
value_behind P v w (q ∷ b) c = ap (cond (same_list P q.0) q.1) (value_behind P v w b c)

own_value : (l : List Valued) → ((b : List Valued) (q : Valued) (c : List Valued) → l ≡ b ++ (q ∷ c) → ¬ OtherValue b q)
    → (P : List ℕ) (v : ℕ) → Among (P, v) l → first_value P 0 l ≡ v
unfolding other_value
own_value l n P v w =
    let (b, c, e) = split_of l (P, v) w in
    ap (first_value P 0) e ∙ value_behind P v 0 b c ∙ eqb-true (first_value P v b) v (not-false _ (told_false (other_told b (P, v)) (n b (P, v) c e)))

-- the last of a list
last_of : {A : Type 0} (l : List A) → (l ≡ []) ⊎ ((b : List A) × (a : A) × (l ≡ b ++ (a ∷ [])))
last_of [] = inl refl
last_of {A} (x ∷ l) = inr (elim (last_of l) [
  | inl e ↦ ([], x, ap (λ (y : List A). x ∷ y) e)
  | inr w ↦ (x ∷ w.0, w.1, ap (λ (y : List A). x ∷ y) w.2)
])

no_place : (n : ℕ) → ((k : ℕ) → n ≡ suc k → ⊥) → n ≡ 0
no_place zero f = refl
no_place (suc k) f = absurd (f k refl)

module _ (text s v k w : List ℕ) (taken : (read_outcome text s v k w).answer.refusal ≡ 0) where
  abbrev t : List (Option (List (List ℕ)))
  t = records_of text

  abbrev e : Contents
  e = said_by t

  abbrev E : List Valued
  E = valued_points e

  abbrev L : Counted
  L = gathered (points_of E)

  abbrev S : List (List ℕ)
  S = points_of L

  free : (c : Cause) (at : ℕ) → ¬ HoldsAt text (length s) (length v) (length k) (length w) c at
  free = (read_refusals text s v k w).1.1 taken

  fine : form_fault (header_in t) t ≡ 0
  unfolding HoldsAt
  fine = no_place (form_fault (header_in t) t) (λ j q. free form (suc j) ((text_faults Wrong text (suc j)).1 ((form_faults t j).1 q)))

  says : Says text e.header e.entries
  says = says_found text fine

  accepted : read_outcome text s v k w ≡ text_accepted e s v k w
  unfolding read_outcome text_decided
  accepted =
      let r = first_of not_refused (read_cases text (form_fault (header_in t) t) e (short_buffers (length s) (length v) (length k) (length w))) in
      ap (λ (b : Bool). cond b (text_accepted e s v k w) (text_refused r s v k w)) (eq-eqb r.refusal 0 (sym (same_number r e s v k w) ∙ taken))

  -- no entry has a fault
  none_of : (c : Cause) (Fault : List Valued → Valued → Type 0) (f : List Valued → Valued → Bool) → ((b : List Valued) (q : Valued) → Decides (Fault b q) (f b q))
      → ((at : ℕ) → AtEntry text Fault at → HoldsAt text (length s) (length v) (length k) (length w) c at)
      → (b : List Valued) (q : Valued) (d : List Valued) → E ≡ b ++ (q ∷ d) → ¬ Fault b q
  unfolding valued_points
  none_of c Fault f told is = none_at Fault f told E
      (no_place (first_after f [] E) (λ j q. free c (suc (suc j)) (is (suc (suc j)) (e.header, e.entries, j, says, (first_at Fault f told E j).1 q, refl))))

  none_many : (b : List Valued) (q : Valued) (d : List Valued) → E ≡ b ++ (q ∷ d) → ¬ TooMany b q
  unfolding HoldsAt
  none_many = none_of points TooMany too_many many_told (λ at x. x)

  none_often : (b : List Valued) (q : Valued) (d : List Valued) → E ≡ b ++ (q ∷ d) → ¬ TooOften b q
  unfolding HoldsAt
  none_often = none_of replicates TooOften too_often often_told (λ at x. x)

  none_other : (b : List Valued) (q : Valued) (d : List Valued) → E ≡ b ++ (q ∷ d) → ¬ OtherValue b q
  unfolding HoldsAt
  none_other = none_of values OtherValue other_value other_told (λ at x. x)

  few : length S ≤ 64
  unfolding gathered entered_all
  few = go (last_of E)
    where
      go : (E ≡ []) ⊎ ((b : List Valued) × (q : Valued) × (E ≡ b ++ (q ∷ []))) → length (points_of (gathered (points_of E))) ≤ 64
      go (inl i) = rw i (omega arith)
      go (inr (b, q, i)) = unless 64 (length S) (λ h. none_many b q [] i
          (S, h, once_gathered (points_of E), λ P w. subst (λ (l : List Valued). Among P (points_of l)) i ((among_gathered (points_of E) P).0 w)))

  counts_few : (P : List ℕ) → times_in P (points_of E) ≤ 255
  unfolding times_in
  counts_few P = go (last_of E)
    where
      go : (E ≡ []) ⊎ ((b : List Valued) × (q : Valued) × (E ≡ b ++ (q ∷ []))) → times_in P (points_of E) ≤ 255
      go (inl i) = rw i (omega arith)
      go (inr (b, q, i)) = unless 255 (times_in P (points_of E)) (λ h. none_often b q [] i
          (P, subst (λ (l : List Valued). 255 < times_in P (points_of l)) i h))

  points_many : length S ≡ length L
  points_many = length-map L (λ x. x.0)

  -- a point by its place in the list
  module _ (i : ℕ) (h : i < length S) where
    within : i < 64
    within = omega (arith, h, few)

    entry : Among (get_or L i ([], 0)) L
    entry = get_d_among L i ([], 0) (omega (arith, h, points_many))

    point_at : get_or S i [] ≡ (get_or L i ([], 0)).0
    point_at = map_at (λ (x : List ℕ × ℕ). x.0) L ([], 0) [] i (omega (arith, h, points_many))

    count_at : get_or (counts_of L) i 0 ≡ times_in (get_or S i []) (points_of E)
    count_at =
        map_at (λ (x : List ℕ × ℕ). x.1) L ([], 0) 0 i (omega (arith, h, points_many))
        ∙ sym (count_there L (once_gathered (points_of E)) (get_or L i ([], 0)) entry)
        ∙ ap (λ (P : List ℕ). count_of P L) (sym point_at) ∙ count_gathered (get_or S i []) (points_of E)

    value_at_lem : (x : ℕ) → Among (get_or S i [], x) E → get_or (first_values S E) i 0 ≡ x
    unfolding first_values
    value_at_lem x q = map_at (λ P. first_value P 0 E) S [] 0 i h ∙ own_value E none_other (get_or S i []) x q

    row_at_lem : row_at 8 i (states_table S) ≡ fill 8 (get_or S i [])
    unfolding states_table
    row_at_lem =
        sym (groups_at 8 (length S) i (fill 512 (in_places 8 S)) [] h) ∙ ap (λ (l : List (List ℕ)). get_or l i []) (table_groups 8 512 S (omega (arith, few)))
        ∙ map_at (fill 8) S [] [] i h

  leaves : Taken text s v k w (text_accepted e s v k w)
  unfolding text_accepted states_table first_values valued_points
  leaves = record {
    header = e.header;
    entries = e.entries;
    says = says;
    points = S;
    firsts = gathered_firsts (points_of E);
    few = few;
    answer = let h = e.header in
        ap (λ (n : ℕ). record { refusal = 0; at = 0; modulus = h.modulus; variables = h.variables; order = h.order; n = n }) (sym points_many);
    state = λ i h. laid_row 512 (in_places 8 S) s i (omega (arith, within i h)) ∙ row_at_lem i h;
    value = λ i h x q. laid_at 64 (first_values S E) v i (within i h) ∙ value_at_lem i h x q;
    count = λ i h. laid_at 64 (counts_of L) k i (within i h) ∙ count_at i h;
    counts_few = counts_few;
    unused_states = λ i h j. laid_unused 512 (in_places 8 S) s i (omega (arith, length_places 8 S, h)) j;
    unused = λ i h j. (
      laid_unused 64 (first_values S E) v i (omega (arith, length-map S (λ P. first_value P 0 E), h)) j,
      laid_unused 64 (counts_of L) k i (omega (arith, length-map L (λ x. x.1), points_many, h)) j,
    );
    weights_of = eight_front e.header.weights w (header_eight e.header says.header);
    beyond = (
      laid_beyond 512 (in_places 8 S) s,
      laid_beyond 64 (first_values S E) v,
      laid_beyond 64 (counts_of L) k,
      eight_beyond e.header.weights w (header_eight e.header says.header),
    );
  }

pub read_taken : ReadTaken
read_taken text s v k w z = subst (Taken text s v k w) (sym (accepted text s v k w z)) (leaves text s v k w z)
