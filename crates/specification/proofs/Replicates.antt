-- Adding and withdrawing by what they meet (request M-106). A replicate changes one byte of the counts and nothing else; a new point comes last, with the count
-- 1; a point whose count is 1 goes, and later ones move up with their counts.
use mathlib.Core.Path.{◌≡◌, refl, sym, ◌∙◌, ap, ap₂}
use mathlib.Core.Bool.{true, false}
use mathlib.Core.List.{List, [], ◌∷◌, ◌++◌, map-append}
use Prim.Native.Nat.{ℕ, zero, suc, ◌-◌, ◌<◌, ◌≤◌}
use native.Mathlib.Nat.{le_of_suc-le-suc}
use native.Mathlib.Omega.{arith}
use lib.IntN.{ℤ}
use lib.ListN.{length, drop, get_or, set, length-set, length-map}
use lib.Dec.{eqb}
use borrow.Author.Tests.{eq-eqb, ne_eqb, not-false}
use Rattle.residue.specs.Sizes.{counts_size}
use Rattle.residue.specs.Layout.{fill, over, length_fill}
use Rattle.residue.proofs.Layouts.{fill_at, fill_put}
use Rattle.monomial.specs.Insert.{removed_at}
use Rattle.specification.specs.declared.settings.Settings.{Settings}
use Rattle.specification.specs.Levels.{residues, is_among}
use Rattle.specification.specs.Counted.{Counted, points_of, counts_of, entered, lowered, count_of, place_in}
use Rattle.specification.specs.Tables.{Tables, row_count, tables_of, written, points_in, held_in}
use Rattle.specification.specs.Adding.{Outcome, holding, holding_both, by_refusal, add_refusal, add_outcome}
use Rattle.specification.specs.Withdrawing.{withdraw_cases, withdraw_refusal, withdraw_outcome}
use Rattle.specification.specs.Reference.{Operation, adding, withdrawing, outcome_of, refusal_of, list_after}
use Rattle.specification.specs.CallByCall.{recounted}
use Rattle.specification.proofs.Recognised.{none_of}
use Rattle.specification.proofs.CallByCall.{known_tables, known_rows}
use Rattle.specification.proofs.agreement.Points.{read_count}
use Rattle.specification.proofs.counted.Entered.{entered_there, entered_new, lowered_more, lowered_last, place_within, count_at}
use Rattle.specification.proofs.counted.Held.{points_held, counts_held, length_held}
use Rattle.specification.proofs.agreement.Refusals.{accepted}
use Rattle.specification.proofs.agreement.Operations.{Passed, lawful}
use Rattle.specification.proofs.agreement.Run.{number_of_lem, same_tables}

-- one number of a list that is written over the front of another
pub set_filled : (w : ℕ) (c : List ℕ) (i k : ℕ) → i < length c → length c ≤ w → fill w (set c i k) ≡ set (fill w c) i k
unfolding fill
set_filled w [] i k h e = absurd (omega arith)
set_filled zero (x ∷ c) i k h e = absurd (omega arith)
set_filled (suc w) (x ∷ c) zero k h e = refl
set_filled (suc w) (x ∷ c) (suc i) k h e = ap (λ (l : List ℕ). x ∷ l) (set_filled w c i k (le_of_suc-le-suc h) (le_of_suc-le-suc e))

set_front : (a b : List ℕ) (i k : ℕ) → i < length a → set a i k ++ b ≡ set (a ++ b) i k
set_front [] b i k h = absurd (omega arith)
set_front (x ∷ a) b zero k h = refl
set_front (x ∷ a) b (suc i) k h = ap (λ (l : List ℕ). x ∷ l) (set_front a b i k (le_of_suc-le-suc h))

set_over : (w : ℕ) (c : List ℕ) (i k : ℕ) (t : List ℕ) → i < length c → length c ≤ w → over (fill w (set c i k)) t ≡ set (over (fill w c) t) i k
unfolding over
set_over w c i k t h e =
    ap (λ (a : List ℕ). a ++ drop (length a) t) (set_filled w c i k h e)
    ∙ ap (λ (j : ℕ). set (fill w c) i k ++ drop j t) (length-set (fill w c) i k)
    ∙ set_front (fill w c) (drop (length (fill w c)) t) i k (omega (arith, length_fill w c))

-- the count of a new point, put behind those of recognised tables
pub count_put : (w n : ℕ) (c : List ℕ) → n < w → over (fill w (fill n c)) c ≡ c → over (fill w (fill n c ++ (1 ∷ []))) c ≡ set c n 1
unfolding over
count_put w n c h e =
    let long = length_fill n c in
    let put : set (fill w (fill n c)) n 1 ≡ fill w (fill n c ++ (1 ∷ [])) = rw long at (fill_put w (fill n c) 1 (omega (arith, long))) in
    ap (λ (a : List ℕ). a ++ drop (length a) c) (sym put)
    ∙ ap (λ (j : ℕ). set (fill w (fill n c)) n 1 ++ drop j c) (length-set (fill w (fill n c)) n 1)
    ∙ set_front (fill w (fill n c)) (drop (length (fill w (fill n c))) c) n 1 (omega (arith, length_fill w (fill n c)))
    ∙ ap (λ (l : List ℕ). set l n 1) e

-- a call whose number is 0
abbrev answered : ℕ → ℕ → Tables → Outcome
answered n r t = record { answer = record { refusal = 0; n = n; r = r }; tables = t }

pub holding_told : (s : Settings) (L : Counted) (t : Tables) (S : List (List ℕ)) (c : List ℕ) → points_of L ≡ S → counts_of L ≡ c → holding s L t ≡ holding_both s S c t
unfolding holding written tables_of
holding_told s L t S c ep ec =
    ap (λ (k : ℕ). answered k (row_count s (points_of L)) (written (tables_of s L) t)) (sym (length-map L (λ q. q.0)))
    ∙ ap₂ (λ (K : List (List ℕ)) (l : List ℕ). holding_both s K l t) ep ec

module _ (o : Operation) (s : Settings) (n r : ℕ) (t : Tables) (taken : refusal_of o s n r t ≡ 0) where
  passed : Passed s n r t
  passed = (lawful o).passed s n r t taken

  abbrev L : Counted
  L = held_in s n t

  -- the points stay, and one count is another
  recounts : (i k : ℕ) → i < n → points_of (list_after o s L) ≡ points_of L → counts_of (list_after o s L) ≡ set (counts_of L) i k → outcome_of o s n r t ≡ recounted n r t i k
  unfolding recounted holding by_refusal written tables_of
  recounts i k low ep ec =
      (lawful o).outcome s n r t ∙ ap (λ (j : ℕ). by_refusal j t (holding s (list_after o s L) t)) taken ∙ is
    where
      known : t ≡ written (tables_of s L) t
      known = known_tables s (accepted s passed.fine) n r t passed.few passed.known

      long : length (list_after o s L) ≡ n
      long = sym (length-map (list_after o s L) (λ q. q.0)) ∙ ap length ep ∙ length-map L (λ q. q.0) ∙ length_held s n t

      rows : row_count s (points_of (list_after o s L)) ≡ r
      rows = ap (row_count s) ep ∙ sym (known_rows s (accepted s passed.fine) n r t passed.few passed.known)

      many : length (counts_of L) ≡ n
      many = length-map L (λ q. q.1) ∙ length_held s n t

      counts : over (fill counts_size (counts_of (list_after o s L))) t.counts ≡ set t.counts i k
      counts =
          ap (λ (c : List ℕ). over (fill counts_size c) t.counts) ec
          ∙ set_over counts_size (counts_of L) i k t.counts (omega (arith, many)) (omega (arith, many, passed.few))
          ∙ ap (λ (u : Tables). set u.counts i k) (sym known)

      same : written (tables_of s (list_after o s L)) t ≡ (recounted n r t i k).tables
      same = same_tables (rw ep (ap (λ (u : Tables). u.states) (sym known))) (rw ep (ap (λ (u : Tables). u.standard) (sym known))) (rw ep (ap (λ (u : Tables). u.leads) (sym known))) (rw ep (ap (λ (u : Tables). u.coefficients) (sym known))) counts

      is : holding s (list_after o s L) t ≡ recounted n r t i k
      is = ap₂ (λ (a b : ℕ). answered a b (written (tables_of s (list_after o s L)) t)) long rows ∙ ap (answered n r) same

module _ (s : Settings) (n r : ℕ) (t : Tables) (levels : List ℤ) where
  -- the point, its place among those of the tables, and its count there
  abbrev P : List ℕ
  P = residues s.modulus levels

  abbrev i : ℕ
  i = place_in P (points_in s n t.states)

  abbrev count : ℕ
  count = get_or t.counts i 0

  module _ (among : is_among P (points_in s n t.states) ≡ true) where
    pub place_low : i < n
    place_low = omega (arith, place_within P (points_in s n t.states) among, read_count s n t.states)

    held : is_among P (points_of (held_in s n t)) ≡ true
    held = ap (is_among P) (points_held s n t) ∙ among

    same_place : place_in P (points_of (held_in s n t)) ≡ i
    same_place = ap (place_in P) (points_held s n t)

    pub same_count : count_of P (held_in s n t) ≡ count
    same_count = count_at P (held_in s n t) held ∙ ap₂ (λ (c : List ℕ) (j : ℕ). get_or c j 0) (counts_held s n t) same_place ∙ fill_at n t.counts i place_low

    pub add_raises : add_refusal s n r t levels ≡ 0 → add_outcome s n r t levels ≡ recounted n r t i (suc count)
    unfolding refusal_of outcome_of list_after
    add_raises taken = let w = entered_there P (held_in s n t) held in
        recounts (adding levels) s n r t taken i (suc count) place_low w.0 (w.1 ∙ ap₂ (λ (j k : ℕ). set (counts_of (held_in s n t)) j (suc k)) same_place same_count)

    pub withdraw_lowers : withdraw_refusal s n r t levels ≡ 0 → 2 ≤ count → withdraw_outcome s n r t levels ≡ recounted n r t i (count - 1)
    unfolding refusal_of outcome_of list_after
    withdraw_lowers taken two =
        let z : eqb (count_of P (held_in s n t) - 1) 0 ≡ false = ne_eqb (count_of P (held_in s n t) - 1) 0 (λ e. omega (arith, same_count, e)) in
        let w = lowered_more P (held_in s n t) held z in
        recounts (withdrawing levels) s n r t taken i (count - 1) place_low w.0 (w.1 ∙ ap₂ (λ (j k : ℕ). set (counts_of (held_in s n t)) j (k - 1)) same_place same_count)

    pub withdraw_last : withdraw_refusal s n r t levels ≡ 0 → count ≤ 1
        → withdraw_outcome s n r t levels ≡ holding_both s (removed_at i (points_in s n t.states)) (removed_at i (fill n t.counts)) t
    unfolding withdraw_outcome by_refusal
    withdraw_last taken one =
        let z : eqb (count_of P (held_in s n t) - 1) 0 ≡ true = eq-eqb (count_of P (held_in s n t) - 1) 0 (omega (arith, same_count)) in
        let w = lowered_last P (held_in s n t) held z in
        ap (λ (k : ℕ). by_refusal k t (holding s (lowered P (held_in s n t)) t)) taken
        ∙ holding_told s (lowered P (held_in s n t)) t _ _ (w.0 ∙ ap₂ removed_at same_place (points_held s n t)) (w.1 ∙ ap₂ removed_at same_place (counts_held s n t))

  pub add_new : is_among P (points_in s n t.states) ≡ false → add_refusal s n r t levels ≡ 0
      → add_outcome s n r t levels ≡ holding_both s (points_in s n t.states ++ (P ∷ [])) (fill n t.counts ++ (1 ∷ [])) t
  unfolding add_outcome by_refusal
  add_new new taken =
      let e = entered_new P (held_in s n t) (ap (is_among P) (points_held s n t) ∙ new) in
      ap (λ (k : ℕ). by_refusal k t (holding s (entered P (held_in s n t)) t)) taken
      ∙ holding_told s (entered P (held_in s n t)) t _ _
      (ap points_of e ∙ map-append (λ q. q.0) (held_in s n t) ((P, 1) ∷ []) ∙ ap (λ (l : List (List ℕ)). l ++ (P ∷ [])) (points_held s n t))
      (ap counts_of e ∙ map-append (λ q. q.1) (held_in s n t) ((P, 1) ∷ []) ∙ ap (λ (l : List ℕ). l ++ (1 ∷ [])) (counts_held s n t))

  -- Adding a point that is there raises its count, in its place, and changes nothing else.
  pub add_replicate : (add_outcome s n r t levels).answer.refusal ≡ 0 → is_among P (points_in s n t.states) ≡ true
      → (i < n) × (add_outcome s n r t levels ≡ recounted n r t i (suc count))
  unfolding add_outcome
  add_replicate e among = (place_low among, add_raises among (sym (number_of_lem (add_refusal s n r t levels) t s _) ∙ e))

  -- Withdrawing a point whose count is 2 or more lowers it, and changes nothing else.
  pub withdraw_replicate : (withdraw_outcome s n r t levels).answer.refusal ≡ 0 → 2 ≤ count → (i < n) × (withdraw_outcome s n r t levels ≡ recounted n r t i (count - 1))
  unfolding withdraw_outcome withdraw_refusal withdraw_cases
  withdraw_replicate e two =
      let zero = sym (number_of_lem (withdraw_refusal s n r t levels) t s _) ∙ e in
      let z = none_of s _ tt zero in
      let among = sym (ap (is_among P) (points_held s n t)) ∙ not-false _ z.1.1.1.1.1.1.0 in
      (place_low among, withdraw_lowers among zero two)
