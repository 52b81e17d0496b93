-- M-111: each gene's interpolant has the successors' values at the points, so the model takes a point to its successor.
use mathlib.Core.Path.{◌≡◌, refl, sym, ◌∙◌, ap, ap₂, subst}
use mathlib.Core.Logic.{inl, inr}
use mathlib.Core.List.{List, [], ◌∷◌, ◌++◌, map, map-append}
use Prim.Native.Nat.{ℕ, zero, suc, ◌-◌, ◌%◌, ◌≤◌, ◌<◌, suc-le-suc, zero-le}
use native.Mathlib.Nat.{mod-eq_of_lt, mod-lt}
use native.Mathlib.Omega.{arith}
use lib.ListN.{length, get_or, take, drop}
use lib.Seq.{take-suc, take_all}
use Rattle.residue.specs.Lists.{Among}
use Rattle.residue.proofs.Tests.{dec_of, cond_so, cond_not}
use Rattle.residue.proofs.level.Moduli.{modulus_range}
use Rattle.specification.specs.declared.settings.Settings.{Settings}
use Rattle.specification.specs.Polynomial.{eval, terms, Distinct}
use Rattle.specification.specs.Basis.{Fits}
use Rattle.specification.specs.BasisOf.{value_at}
use Rattle.specification.specs.Instance.{Point, reduced, point_of}
use Rattle.specification.specs.Counted.{points_of}
use Rattle.specification.specs.Tables.{space_under, points_under, standard_under}
use Rattle.specification.specs.Points.{IsPoint}
use Rattle.specification.specs.Settings.{Accepted}
use Rattle.specification.proofs.ideal.Laws.{point_told}
use Rattle.specification.proofs.ideal.Lists.{among_map, map_among}
use Rattle.specification.proofs.ideal.Basis.{interpolant_fits, interpolant_only}
use Rattle.specification.proofs.agreement.Points.{point_same}
use Rattle.specification.proofs.agreement.Drawings.{laws_under, among_under, distinct_under}
use Rattle.specification.proofs.counted.Gathered.{among_gathered, once_gathered}
use Rattle.courses.specs.TimeCourse.{Move, states_of, points_of_moves, successor_of, gene_of, genes_of, value_of, step}

-- residues are below the modulus
reduced_low : (q : ℕ) (l : List ℕ) → reduced q l ≡ l → (k : ℕ) → k < length l → get_or l k 0 < suc q
reduced_low q [] e k h = absurd (omega arith)
reduced_low q (x ∷ l) e zero h = subst (λ (y : ℕ). y < suc q) (ap (λ (z : List ℕ). get_or z 0 0) e) (mod-lt x (suc-le-suc zero-le))
reduced_low q (x ∷ l) e (suc k) h = reduced_low q l (ap (drop 1) e) k (omega arith)

module _ (s : Settings) (ok : Accepted s) where
  abbrev pt : List ℕ → Point (suc (s.modulus - 1)) s.variables
  pt = point_of (s.modulus - 1) s.variables

  same_point : (P Q : List ℕ) → IsPoint s P → IsPoint s Q → pt P ≡ pt Q → P ≡ Q
  same_point P Q h g e = sym (point_same s ok.few P h) ∙ ap (λ (X : Point (suc (s.modulus - 1)) s.variables). X.0) e ∙ point_same s ok.few Q g

  -- values given by a function of the points
  value_map : (h : List ℕ → ℕ) (S : List (List ℕ)) → ((Q : List ℕ) → Among Q S → IsPoint s Q) → (P : List ℕ) → IsPoint s P → Among P S
      → value_at (space_under s) (points_under s S) (map h S) (pt P) ≡ h P
  unfolding value_at
  value_map h (Q ∷ S) each P point mem = go (dec_of (point_told (space_under s) (laws_under s ok) (pt P) (pt Q))) mem
      (λ z. value_map h S (λ R q. each R (inr q)) P point z)
    where
      go : Dec (pt P ≡ pt Q) → Among P (Q ∷ S) → (Among P S → value_at (space_under s) (points_under s S) (map h S) (pt P) ≡ h P)
          → value_at (space_under s) (points_under s (Q ∷ S)) (map h (Q ∷ S)) (pt P) ≡ h P
      go (yes e) z rec = cond_so (point_told (space_under s) (laws_under s ok) (pt P) (pt Q)) e _ _ ∙ ap h (sym (same_point P Q point (each Q (inl refl)) e))
      go (no n) (inl e) rec = absurd (n (ap pt e))
      go (no n) (inr z) rec = cond_not (point_told (space_under s) (laws_under s ok) (pt P) (pt Q)) n _ _ ∙ rec z
  value_map h [] each P point mem = elim mem [ ]

  module _ (ms : List Move) (each : (a : Move) → Among a ms → IsPoint s a.state) where
    abbrev S : List (List ℕ)
    S = points_of (points_of_moves ms)

    -- the points are the states of the moves
    pub point_of_lem : (P : List ℕ) → Among P S → (a : Move) × Among a ms × (P ≡ a.state)
    unfolding points_of_moves
    point_of_lem P mem = among_map (λ a. a.state) ms P ((among_gathered (states_of ms) P).0 mem)

    pub state_in : (a : Move) → Among a ms → Among a.state S
    unfolding points_of_moves
    state_in a mem = (among_gathered (states_of ms) a.state).1 (map_among (λ b. b.state) ms a mem)

    pub are_points : (P : List ℕ) → Among P S → IsPoint s P
    are_points P mem = let w = point_of_lem P mem in subst (IsPoint s) (sym w.2) (each w.0 w.1)

    pub distinct : Distinct (space_under s) (points_under s S)
    unfolding points_of_moves
    distinct = distinct_under s ok S are_points (once_gathered (states_of ms))

    -- the values of gene k+1 after each point
    abbrev after : ℕ → Point (suc (s.modulus - 1)) s.variables → ℕ
    after k = value_at (space_under s) (points_under s S) (map (λ P. get_or (successor_of P ms) k 0) S)

    -- 'each gene gets the interpolant of its successors': residues for the standard monomials of the points, with these values, and no others
    pub gene_fits : (k : ℕ) → Fits (space_under s) (points_under s S) (standard_under s S) (after k) (gene_of s ms k)
    unfolding gene_of
    gene_fits k = interpolant_fits (space_under s) (laws_under s ok) (points_under s S) distinct (after k)

    pub gene_only : (k : ℕ) (cs : List ℕ) → Fits (space_under s) (points_under s S) (standard_under s S) (after k) cs → cs ≡ gene_of s ms k
    unfolding gene_of
    gene_only k cs h = interpolant_only (space_under s) (laws_under s ok) (points_under s S) distinct (after k) cs h

    pub gene_value : (P : List ℕ) → Among P S → (k : ℕ) → get_or (successor_of P ms) k 0 < suc (s.modulus - 1)
        → value_of s S (gene_of s ms k) P ≡ get_or (successor_of P ms) k 0
    unfolding value_of
    gene_value P mem k low =
        let p : s.modulus ≡ suc (s.modulus - 1) = omega (arith, modulus_range s.modulus ok.modulus) in
        ap (λ (n : ℕ). eval (space_under s) (terms (space_under s) (gene_of s ms k) (standard_under s S)) (pt P) % n) p
        ∙ ((gene_fits k).values (pt P) (among_under s ok S P mem)).same
        ∙ ap (λ (n : ℕ). n % suc (s.modulus - 1)) (value_map (λ Q. get_or (successor_of Q ms) k 0) S are_points P (are_points P mem) mem)
        ∙ mod-eq_of_lt low

    -- gene after gene
    genes_value : (P : List ℕ) → Among P S → IsPoint s (successor_of P ms) → (k : ℕ) → k ≤ s.variables
        → map (λ cs. value_of s S cs P) (genes_of s ms k) ≡ take k (successor_of P ms)
    unfolding genes_of
    genes_value P mem point zero h = refl
    genes_value P mem point (suc k) h =
        let low : k < length (successor_of P ms) = omega (arith, point.long) in
        map-append (λ cs. value_of s S cs P) (genes_of s ms k) (gene_of s ms k ∷ [])
        ∙ ap₂ (λ (l : List ℕ) (x : ℕ). l ++ (x ∷ [])) (genes_value P mem point k (omega arith))
        (gene_value P mem k (reduced_low (s.modulus - 1) (successor_of P ms) point.same k low))
        ∙ sym (take-suc (successor_of P ms) k 0 low)

    pub step_is : (P : List ℕ) → Among P S → IsPoint s (successor_of P ms) → step s ms P ≡ successor_of P ms
    unfolding step
    step_is P mem point = genes_value P mem point s.variables (omega arith) ∙ take_all s.variables (successor_of P ms) (omega (arith, point.long))
