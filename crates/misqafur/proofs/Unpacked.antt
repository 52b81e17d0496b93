-- What C takes out of the number that an export returns is what the call answered: the parts lie within the bounds that are proved of them.
use mathlib.Core.Path.{◌≡◌, refl, sym, ◌∙◌, ap, ap₂, subst}
use mathlib.Core.List.{List, [], ◌∷◌}
use mathlib.Core.Logic.{◌≢◌}
use Prim.Native.Nat.{ℕ, ◌+◌, ◌*◌, ◌<◌, ◌≤◌}
use native.Mathlib.Nat.{mul-le-mul}
use native.Mathlib.Decide.{ℕ_discrete}
use native.Mathlib.Omega.{arith}
use lib.ListN.{length}
use lib.IntN.{ℤ}
use lib.Dec.{T, eqb, eqb→eq}
use Rattle.residue.specs.Lists.{all_zero}
use Rattle.residue.proofs.Tests.{and_left, and_right}
use Rattle.specification.specs.declared.settings.Settings.{Settings}
use Rattle.specification.specs.Answers.{Answer, Drawn}
use Rattle.specification.specs.Refusal.{first_of}
use Rattle.specification.specs.Settings.{settings_cases}
use Rattle.specification.specs.Counted.{Counted, points_of, gathered}
use Rattle.specification.specs.Tables.{Tables}
use Rattle.specification.specs.Adding.{Outcome, points_offered, draw_outcome, draw_packed_outcome}
use Rattle.specification.specs.LeaveOut.{leave_out_outcome}
use Rattle.specification.specs.CallByCall.{HoldsBasis}
use Rattle.specification.specs.Reference.{Operation, outcome_of, Event, own, interposed, Held, outcome_at, keeping, held_after, numbers, held_at_end, due}
use Rattle.specification.specs.Reference.{reference_at_end, Refuses}
use Rattle.specification.specs.Calls.{operating, checking, interpolating, dividing, wiring, Call, drawing, drawing_packed, handed, leaving_out, ending_of, number_of}
use Rattle.specification.specs.Agreement.{Fresh, freshly, Agrees}
use Rattle.specification.proofs.Numbers.{few_numbers, never_eleven, refused_alone}
use Rattle.specification.proofs.CallByCall.{drawn_number, drawn_points, draw_leaves, packed_leaves, draw_costs, operation_leaves}
use Rattle.specification.proofs.leaving.Calls.{leave_out_leaves}
use Rattle.specification.proofs.agreement.Claim.{agreement}
use Rattle.misqafur.specs.Packing.{packed, packed_answer, packed_drawn, packed_outcome, packed_drawing, packed_list}
use Rattle.misqafur.specs.Unpacking.{refusal_from, points_from, elements_from, cancellations_from, count_from, returned, parts_from, sheet_kept, kept_after}
use Rattle.misqafur.specs.Unpacking.{refusals_read, kept_at_end}

-- Parts within a byte, or two, are read back from the number that holds them.
all_back : (a b c x : ℕ) → a < 256 → b < 256 → c < 65536 → let k = packed (a ∷ b ∷ (c + 65536 * x) ∷ []) in
    (refusal_from k ≡ a) × (points_from k ≡ b) × (elements_from k ≡ c) × (cancellations_from k ≡ x)
unfolding refusal_from points_from elements_from cancellations_from
all_back a b c x h i j = (omega arith, omega arith, omega arith, omega arith)

-- an answer without cancellations has none
plain : (a b c : ℕ) → packed (a ∷ b ∷ c ∷ []) ≡ packed (a ∷ b ∷ (c + 65536 * 0) ∷ [])
plain a b c = omega arith

-- refusal and count
count_back : (a b : ℕ) → a ≤ 16 → (refusal_from (packed (a ∷ b ∷ [])) ≡ a) × (count_from (packed (a ∷ b ∷ [])) ≡ b)
unfolding refusal_from count_from
count_back a b h = (omega arith, omega arith)

-- two parts that are 0
both_zero : (a b : ℕ) (l : List ℕ) → T (all_zero (a ∷ b ∷ l)) → (a ≡ 0) × (b ≡ 0) × T (all_zero l)
unfolding all_zero
both_zero a b l t = let u = and_right (eqb a 0) _ t in
    (eqb→eq a 0 (and_left (eqb a 0) _ t), eqb→eq b 0 (and_left (eqb b 0) (all_zero l) u), and_right (eqb b 0) (all_zero l) u)

one_zero : (a : ℕ) (l : List ℕ) → T (all_zero (a ∷ l)) → a ≡ 0
unfolding all_zero
one_zero a l t = eqb→eq a 0 (and_left (eqb a 0) (all_zero l) t)

-- Refusal, n and r of a call that answers these, refused or not.
module _ (c : Call) (a : Answer) (number : number_of c ≡ a.refusal) (parts : (ending_of c).parts ≡ a.n ∷ a.r ∷ [])
    (within : a.refusal ≡ 0 → (a.n ≤ 64) × (a.r ≤ 449)) where
  few : (a.n ≤ 64) × (a.r ≤ 449)
  few = go (ℕ_discrete a.refusal 0)
    where
      go : Dec (a.refusal ≡ 0) → (a.n ≤ 64) × (a.r ≤ 449)
      go (yes e) = within e
      go (no e) =
          let z = both_zero a.n a.r [] (subst (λ (l : List ℕ). T (all_zero l)) parts (refused_alone c (λ y. e (sym number ∙ y))).parts) in
          (omega (arith, z.0), omega (arith, z.1))

  three_back : (refusal_from (packed_answer a) ≡ a.refusal) × (points_from (packed_answer a) ≡ a.n) × (elements_from (packed_answer a) ≡ a.r)
  three_back =
      let x : a.refusal < 256 = omega (arith, few_numbers c, number) in
      let y : a.n < 256 = omega (arith, few.0) in
      let z : a.r < 65536 = omega (arith, few.1) in
      let e = plain a.refusal a.n a.r in
      let b = all_back a.refusal a.n a.r 0 x y z in
      (ap refusal_from e ∙ b.0, ap points_from e ∙ b.1, ap elements_from e ∙ b.2)

-- n and r of a basis
pub few_held : {s : Settings} {L : Counted} {lent : Tables} {n r : ℕ} {t : Tables} → HoldsBasis s L lent n r t → (n ≤ 64) × (r ≤ 449)
few_held h = (omega (arith, h.count, h.few_points), omega (arith, h.rows, h.few_rows))

-- what the answer of an outcome is read as
abbrev ReadAs : Outcome → Type 0
ReadAs o = let a = o.answer in
    (refusal_from (packed_answer a) ≡ a.refusal) × (points_from (packed_answer a) ≡ a.n) × (elements_from (packed_answer a) ≡ a.r)

pub answer_read : (o : Operation) (s : Settings) (n r : ℕ) (t : Tables) → ReadAs (outcome_of o s n r t)
unfolding ending_of
answer_read o s n r t = three_back (handed (operating o) s n r t) (outcome_of o s n r t).answer refl refl (λ e. few_held (operation_leaves o s n r t e))

packed_read : (s : Settings) (t : Tables) (levels : List ℤ) → ReadAs (draw_packed_outcome s t levels)
unfolding ending_of
packed_read s t levels = three_back (drawing_packed s t levels) (draw_packed_outcome s t levels).answer refl refl (λ e. few_held (packed_leaves s t levels e))

left_read : (s : Settings) (n r : ℕ) (t : Tables) (v : ℕ) (u : Tables) → ReadAs (leave_out_outcome s n r t v u)
unfolding ending_of
left_read s n r t v u = three_back (leaving_out s n r t v u) (leave_out_outcome s n r t v u).answer refl refl (λ e. few_held (leave_out_leaves s n r t v u e))

-- Drawing up.
module _ (s : Settings) (t : Tables) (levels : List ℤ) where
  abbrev d : Drawn
  d = (draw_outcome s t levels).answer

  drawn_few : (d.n ≤ 64) × (d.r ≤ 449) × (d.cancellations ≤ 32832)
  unfolding ending_of
  drawn_few = go (ℕ_discrete d.refusal 0)
    where
      few_costs : (n m k : ℕ) → n ≤ 64 → m ≤ 8 → k ≤ n * (n * m + 1) → k ≤ 32832
      few_costs n m k x y h =
          let u : n * m ≤ 64 * 8 = mul-le-mul x y in
          let w : n * m + 1 ≤ 513 = omega arith in
          let v : n * (n * m + 1) ≤ 64 * 513 = mul-le-mul x w in omega arith

      go : Dec (d.refusal ≡ 0) → (d.n ≤ 64) × (d.r ≤ 449) × (d.cancellations ≤ 32832)
      go (yes e) =
          let h = few_held (draw_leaves s t levels e) in
          let o = drawn_points s t levels (sym (drawn_number s t levels) ∙ e) in (
            h.0,
            h.1,
            few_costs (length (points_of (gathered (points_offered s levels)))) s.variables d.cancellations o.entries.points.few o.ok.few
                (draw_costs s t levels e).most,
          )
      go (no e) =
          let z = both_zero d.n d.r (d.cancellations ∷ []) (refused_alone (drawing s t levels) e).parts in
          let y = one_zero d.cancellations [] z.2 in
          (omega (arith, z.0), omega (arith, z.1), omega (arith, y))

  drawn_read : let k = packed_drawn d in
      (refusal_from k ≡ d.refusal) × (points_from k ≡ d.n) × (elements_from k ≡ d.r) × (cancellations_from k ≡ d.cancellations)
  unfolding ending_of
  drawn_read =
      let x : d.refusal < 256 = omega (arith, few_numbers (drawing s t levels)) in
      let y : d.n < 256 = omega (arith, drawn_few.0) in
      let z : d.r < 65536 = omega (arith, drawn_few.1) in
      all_back d.refusal d.n d.r d.cancellations x y z

-- a refusal alone
alone : {k : ℕ} → k ≤ 16 → refusal_from k ≡ k
unfolding refusal_from
alone h = omega arith

-- The number of every export: its refusal is the call's number, and so are the other parts of its answer the call's.
pub refusal_read : (c : Call) → refusal_from (returned c) ≡ number_of c
unfolding returned packed_drawing packed_outcome packed_list ending_of
refusal_read (drawing s t levels) = (drawn_read s t levels).0
refusal_read (drawing_packed s t levels) = (packed_read s t levels).0
refusal_read (handed (operating o) s n r t) = (answer_read o s n r t).0
refusal_read (handed checking s n r t) = alone (few_numbers (handed checking s n r t))
refusal_read (handed (interpolating values buffer) s n r t) = alone (few_numbers (handed (interpolating values buffer) s n r t))
refusal_read (handed (dividing coefficients exponents buffer) s n r t) = alone (few_numbers (handed (dividing coefficients exponents buffer) s n r t))
refusal_read (handed (wiring values buffer) s n r t) = (count_back _ _ (few_numbers (handed (wiring values buffer) s n r t))).0
refusal_read (leaving_out s n r t v u) = (left_read s n r t v u).0

pub parts_read : (c : Call) → parts_from c (returned c) ≡ (ending_of c).parts
unfolding returned packed_drawing packed_outcome packed_list parts_from ending_of
parts_read (drawing s t levels) = let p = drawn_read s t levels in rw (p.1, p.2, p.3)
parts_read (drawing_packed s t levels) = let p = packed_read s t levels in rw (p.1, p.2)
parts_read (handed (operating o) s n r t) = let p = answer_read o s n r t in rw (p.1, p.2)
parts_read (handed checking s n r t) = refl
parts_read (handed (interpolating values buffer) s n r t) = refl
parts_read (handed (dividing coefficients exponents buffer) s n r t) = refl
parts_read (handed (wiring values buffer) s n r t) = rw (count_back _ _ (few_numbers (handed (wiring values buffer) s n r t))).1
parts_read (leaving_out s n r t v u) = let p = left_read s n r t v u in rw (p.1, p.2)

-- What is said of every call's number is said of what C reads: no export gives 11.
pub export_never_eleven : (c : Call) → refusal_from (returned c) ≢ 11
export_never_eleven c e = never_eleven c (sym (refusal_read c) ∙ e)

-- A host that keeps what it reads holds what the list of calls holds, and reads the numbers of the list.
kept_as : (h : Held) (o : Operation) (s : Settings) (n r : ℕ) (t : Tables) → sheet_kept h (packed_outcome (outcome_of o s n r t)) ≡ keeping h (outcome_of o s n r t)
unfolding sheet_kept keeping packed_outcome
kept_as h o s n r t = let p = answer_read o s n r t in rw (p.0, p.1, p.2)

pub kept_after_lem : (s : Settings) (h : Held) (e : Event) → kept_after s h e ≡ held_after s h e
unfolding kept_after held_after outcome_at
kept_after_lem s h (own o) = kept_as h o s h.n h.r h.tables
kept_after_lem s h (interposed u n r a b c d e o) = refl

read_at_lem : (s : Settings) (h : Held) (e : Event) → refusal_from (packed_outcome (outcome_at s h e)).number ≡ (outcome_at s h e).answer.refusal
unfolding outcome_at packed_outcome
read_at_lem s h (own o) = (answer_read o s h.n h.r h.tables).0
read_at_lem s h (interposed u n r a b c d e o) = (answer_read o u n r _).0

pub kept_at_end_lem : (s : Settings) (h : Held) (es : List Event) → kept_at_end s h es ≡ held_at_end s h es
unfolding kept_at_end held_at_end
kept_at_end_lem s h [] = refl
kept_at_end_lem s h (e ∷ es) = ap (λ (k : Held). kept_at_end s k es) (kept_after_lem s h e) ∙ kept_at_end_lem s (held_after s h e) es

pub numbers_read : (s : Settings) (h : Held) (es : List Event) → refusals_read s h es ≡ numbers s h es
unfolding refusals_read numbers
numbers_read s h [] = refl
numbers_read s h (e ∷ es) =
    ap₂ (λ (k : ℕ) (l : List ℕ). k ∷ l) (read_at_lem s h e) (ap (λ (k : Held). refusals_read s k es) (kept_after_lem s h e) ∙ numbers_read s (held_after s h e) es)

-- Demand 3 of the exports: what C reads of each call of a list is the reference list's answer, or the interposed call's number; and what it holds at the end is
-- what `agreement` (crate specification) is about.
pub export_agreement : (s : Settings) → first_of 0 (settings_cases s) ≡ 0 → (start : Tables) → Fresh start → (es : List Event) → Refuses s (freshly start) es
    → (refusals_read s (freshly start) es ≡ due s [] (freshly start) es) × Agrees s start es (reference_at_end s [] es) (kept_at_end s (freshly start) es)
export_agreement s fine start fresh es refuses =
    let a = agreement s fine start fresh es refuses in
    (numbers_read s (freshly start) es ∙ a.answers, rw (kept_at_end_lem s (freshly start) es) a)
