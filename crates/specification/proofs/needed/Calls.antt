-- The wiring call: what it leaves where its number is 0, that its variables then occur in the interpolant, and that no order matters to it.
use mathlib.Core.Path.{◌≡◌, refl, sym, ◌∙◌, ap, ap₂, subst}
use mathlib.Core.Logic.{inl, inr, ◌↔◌, ◌≢◌}
use mathlib.Core.Bool.{true, not, ◌||◌}
use mathlib.Core.List.{List, [], ◌∷◌, ◌++◌, map, zip}
use Prim.Native.Nat.{ℕ, suc, ◌-◌, ◌%◌, ◌≤◌}
use native.Mathlib.Nat.{suc_inj}
use native.Mathlib.Decide.{ℕ_discrete}
use native.Mathlib.Omega.{arith}
use lib.IntN.{ℤ}
use lib.ListN.{length, length-map}
use lib.Dec.{T, eqb, ltb}
use borrow.Author.Tests.{eqb-true, ne_eqb, le-ltb, ltb-false, not-false}
use Rattle.residue.specs.Lists.{Among}
use Rattle.residue.specs.Layout.{fill, over}
use Rattle.residue.proofs.level.Moduli.{modulus_range}
use Rattle.residue.proofs.Tests.{of_true}
use Rattle.specification.specs.declared.settings.Settings.{Settings}
use Rattle.specification.specs.Refusal.{Case, first_of}
use Rattle.specification.specs.Levels.{in_range, residues}
use Rattle.specification.specs.Basis.{Fits}
use Rattle.specification.specs.BasisOf.{value_at}
use Rattle.specification.specs.Instance.{Point}
use Rattle.specification.specs.Tables.{order_under, Tables, too_short, space_under, points_under, standard_under, points_in, held_in, recognised}
use Rattle.specification.specs.Needed.{Needed, wiring_of, Names, occurs}
use Rattle.specification.specs.Solving.{values_cases, Listed, listing, wiring_outcome}
use Rattle.specification.specs.Agreement.{SameValues, Wires}
use Rattle.specification.specs.CallByCall.{HoldsBasis}
use Rattle.specification.proofs.Instance.{point_of_lem as point_read}
use Rattle.specification.proofs.Cases.{but_last}
use Rattle.specification.proofs.Recognised.{none_of}
use Rattle.specification.proofs.CallByCall.{same_points, known_points, known_basis}
use Rattle.specification.proofs.Wiring.{names_length, list_accepted}
use Rattle.specification.specs.Points.{Points}
use Rattle.specification.proofs.agreement.Points.{read_count, residues_same, length_residues}
use Rattle.specification.specs.Settings.{Accepted, right_weights, settings_cases}
use Rattle.specification.proofs.agreement.Refusals.{accepted}
use Rattle.specification.proofs.agreement.Values.{value_of, level_there, same_range}
use Rattle.specification.proofs.agreement.Handed.{same_listing}
use Rattle.specification.proofs.agreement.Drawings.{distinct_points, value_told}
use Rattle.specification.proofs.needed.Pairs.{Valued, wiring_needed}
use Rattle.specification.proofs.needed.Arranged.{wiring_arranged}
use Rattle.specification.proofs.needed.Occurring.{needed_occurs}

-- a member of a list that a function leaves as it is
kept : (f : ℕ → ℕ) (l : List ℕ) → map f l ≡ l → (a : ℕ) → Among a l → f a ≡ a
kept f (b ∷ l) e a (inl u) = let h : f b ≡ b = cc in rw u h
kept f (b ∷ l) e a (inr q) = let t : map f l ≡ l = cc in kept f l t a q
kept f [] e a x'' = elim x'' [ ]

module _ (s : Settings) (n r : ℕ) (t : Tables) (values : List ℤ) (buffer : List ℕ) where
  -- the points, their values, and these as a function
  abbrev S : List (List ℕ)
  S = points_in s n t.states

  abbrev vs : List ℕ
  vs = residues s.modulus values

  abbrev pts : List (Point (suc (s.modulus - 1)) s.variables)
  pts = points_under s S

  abbrev φ : Point (suc (s.modulus - 1)) s.variables → ℕ
  φ = value_at (space_under s) pts vs

  -- What the call stands on.
  record Stands : Type 0 where
    ok : Accepted s
    basis : HoldsBasis s (held_in s n t) t n r t
    points : Points s S
    long : length values ≡ length S
    range : T (in_range s.modulus values)

  module _ (e : (wiring_outcome s n r t values buffer).answer.refusal ≡ 0) where
    stands : Stands
    unfolding wiring_outcome values_cases listing
    stands =
        let z = none_of s _ tt e in
        let good = accepted s z.0 in
        let few = ltb-false 64 n z.1.1.1.0 in
        let known = not-false (recognised s n r t) z.1.1.1.1.1.0 in
        record {
          ok = good;
          basis = known_basis s good n r t few known;
          points = known_points s good n r t few known;
          long = eqb-true (length values) n (not-false _ z.1.1.0) ∙ sym (read_count s n t.states);
          range = of_true (not-false (in_range s.modulus values) z.1.1.1.1.0);
        }

    as_they_are : map (λ Q. Q.0) pts ≡ S
    as_they_are = same_points s stands.ok S stands.points.points

    valued : Valued (s.modulus - 1) s.variables φ pts vs
    valued = record { long = length_residues s.modulus values ∙ stands.long ∙ sym (length-map S _); each = at }
      where
        at : (P : Point (suc (s.modulus - 1)) s.variables) (v : ℕ) → Among (P.0, v) (zip (map (λ Q. Q.0) pts) vs) → φ P % suc (s.modulus - 1) ≡ v
        at P v mem =
            let there : Among (P.0, v) (zip S vs) = subst (λ (K : List (List ℕ)). Among (P.0, v) (zip K vs)) as_they_are mem in
            let y = level_there s.modulus S values P.0 v there in
            let is : φ P ≡ v = ap φ (sym (point_read (s.modulus - 1) s.variables P)) ∙ value_told s stands.ok S (distinct_points s stands.ok S stands.points) values P.0 y.0 y.1 ∙ sym y.2 in
            let same = residues_same s.modulus values (omega (arith, modulus_range s.modulus stands.ok.modulus)) stands.range in
            ap (λ (x : ℕ). x % suc (s.modulus - 1)) is ∙ kept (λ x. x % suc (s.modulus - 1)) vs same v (value_of S vs P.0 v there)

    -- the computed list is of the needed variables
    needed : Names s.variables (Needed (suc (s.modulus - 1)) s.variables pts φ) (wiring_of s.variables S vs)
    needed = subst (λ (K : List (List ℕ)). Names s.variables (Needed (suc (s.modulus - 1)) s.variables pts φ) (wiring_of s.variables K vs)) as_they_are
        (wiring_needed (s.modulus - 1) s.variables φ pts vs valued)

    -- The wiring call leaves the list of the variables on which every function with the values at the points of the tables depends.
    pub wiring_leaves : HoldsBasis s (held_in s n t) t n r t × Wires s S values buffer (wiring_outcome s n r t values buffer)
    unfolding wiring_outcome listing
    wiring_leaves =
        let names = wiring_of s.variables S vs in
        let is = list_accepted names buffer (first_of 0 (values_cases 8 s n r t values buffer)) (length names) (over (fill 8 names) buffer) (sym e) refl refl in (
          stands.basis,
          record {
            names = names;
            named = needed;
            few = omega (arith, names_length S vs s.variables, stands.ok.few);
            count = sym (ap (λ (o : Listed). o.answer.count) is);
            held = sym (ap (λ (o : Listed). o.buffer) is);
          },
        )

    -- Each variable of the list occurs in the interpolant, so the list is part of the one before M-107.
    pub wiring_occurs : (k : ℕ) → Among (suc k) (wiring_of s.variables S vs) → (cs : List ℕ) → Fits (space_under s) pts (standard_under s S) φ cs
        → T (occurs k cs (map (λ a. a.0) (standard_under s S)))
    wiring_occurs k mem cs fits = let w = (needed.members (suc k)).0 mem in
        needed_occurs (s.modulus - 1) s.variables (order_under s) k pts φ
        (subst (Needed (suc (s.modulus - 1)) s.variables pts φ) (sym (suc_inj w.1)) w.3) cs (standard_under s S) fits.values

-- Request M-107: 'The order no longer matters'. Two calls under settings that differ in the order and its weights alone, over the same points in any order,
-- with values that are equal at each: where neither is refused with 10, which looks at the tables of its own order, they have one outcome, be it a refusal. They claim one n,
-- and their tables are long enough both or neither.
module _ (s s' : Settings) (p : s.modulus ≡ s'.modulus) (m : s.variables ≡ s'.variables) (low : s.order ≤ 3) (low' : s'.order ≤ 3)
    (right : right_weights s ≡ true) (right' : right_weights s' ≡ true) where
  module _ (n : ℕ) (t t' : Tables) (large : too_short t ≡ too_short t') (v w : List ℤ) (buffer : List ℕ) where
    abbrev here : List (List ℕ)
    here = points_in s n t.states

    abbrev there : List (List ℕ)
    there = points_in s' n t'.states

    module _ (members : (P : List ℕ) → Among P here ↔ Among P there) (same : SameValues s here there v w) where
      -- the cases before 10
      abbrev cases_before : Settings → Tables → List ℤ → List Case
      cases_before u x y = settings_cases u
          ++ ((too_short x || ltb (length buffer) 8, 6) ∷ (not (eqb (length y) n), 7) ∷ (ltb 64 n, 8) ∷ (not (in_range u.modulus y), 9) ∷ [])

      -- as many values as points
      many_here : length w ≡ n → length v ≡ length here
      many_here e = same.count ∙ e ∙ sym (read_count s n t.states)

      many_there : length w ≡ n → length w ≡ length there
      many_there e = e ∙ sym (read_count s' n t'.states)

      one_number : first_of 0 (cases_before s t v) ≡ first_of 0 (cases_before s' t' w)
      unfolding settings_cases first_of
      one_number = go (ℕ_discrete (length w) n)
        where
          go : Dec (length w ≡ n) → first_of 0 (cases_before s t v) ≡ first_of 0 (cases_before s' t' w)
          go (yes e) =
              let range = same_range s here there v w (many_here e) (many_there e) (λ P. (members P).0) (λ P. (members P).1) same in
              rw (range, right, right', p, m, le-ltb 3 s.order low, le-ltb 3 s'.order low', large, same.count)
          go (no e) = rw (same.count, ne_eqb (length w) n e, right, right', p, m, le-ltb 3 s.order low, le-ltb 3 s'.order low', large)

      pub wiring_any_order : (r r' : ℕ) → (wiring_outcome s n r t v buffer).answer.refusal ≢ 10 → (wiring_outcome s' n r' t' w buffer).answer.refusal ≢ 10
          → wiring_outcome s n r t v buffer ≡ wiring_outcome s' n r' t' w buffer
      unfolding wiring_outcome listing values_cases settings_cases
      wiring_any_order r r' x x' =
          let k = but_last (cases_before s t v) (not (recognised s n r t)) 10 x ∙ one_number in
          ap (λ (j : ℕ). listing j (wiring_of s.variables here (residues s.modulus v)) buffer) k
          ∙ same_listing (first_of 0 (cases_before s' t' w)) _ _ buffer (λ z. let e = many z in
          wiring_arranged s here there v w (many_here e) (many_there e) (λ P. (members P).0) (λ P. (members P).1) same s.variables
          ∙ ap₂ (λ (i j : ℕ). wiring_of i there (residues j w)) m p)
          ∙ ap (λ (j : ℕ). listing j (wiring_of s'.variables there (residues s'.modulus w)) buffer)
          (sym (but_last (cases_before s' t' w) (not (recognised s' n r' t')) 10 x'))
        where
          many : first_of 0 (cases_before s' t' w) ≡ 0 → length w ≡ n
          many z = eqb-true (length w) n (not-false _ (none_of s' _ tt z).1.1.0)
