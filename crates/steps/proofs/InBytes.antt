-- M-111: the model, a step and the run as the code makes them, in bytes, are those of TimeCourse.
use mathlib.Core.Path.{◌≡◌, refl, sym, ◌∙◌, ap, ap₂, subst}
use mathlib.Core.Bool.{Bool, cond}
use mathlib.Core.Logic.{inl, inr}
use mathlib.Core.List.{List, [], ◌∷◌, ◌++◌, map, map-map}
use Prim.Native.Nat.{ℕ, zero, suc, ◌+◌, ◌-◌, ◌*◌, ◌%◌, ◌^◌, ◌<◌, ◌≤◌}
use native.Mathlib.Omega.{arith}
use lib.ListN.{length, get_or, take, length-map}
use lib.Seq.{ext_get_or, get_or-take, length-take-le}
use Rattle.residue.specs.Lists.{Among}
use Rattle.residue.specs.Congruence.{Mod}
use Rattle.residue.specs.Vector.{Below, dot_of}
use Rattle.residue.specs.Layout.{fill, in_places, over, groups}
use Rattle.residue.proofs.Congruence.{rfl, reduce, ◌plus◌, ◌times◌}
use Rattle.residue.proofs.Layouts.{take_fill}
use Rattle.residue.proofs.Places.{table_groups}
use Rattle.residue.proofs.vector.Vectors.{map_at, map_same}
use Rattle.monomial.specs.Monomial.{monomial_at}
use Rattle.specification.specs.declared.settings.Settings.{Settings}
use Rattle.specification.specs.Levels.{is_among}
use Rattle.specification.specs.Counted.{points_of, place_in}
use Rattle.specification.specs.Instance.{Monomial, Point, point_of}
use Rattle.specification.specs.Polynomial.{eval, terms}
use Rattle.specification.specs.Points.{IsPoint, Points}
use Rattle.specification.specs.Settings.{Accepted}
use Rattle.specification.specs.Tables.{space_under, points_under, standard_under, standard_table}
use Rattle.specification.proofs.Repeats.{among_filled}
use Rattle.specification.proofs.agreement.Points.{point_same}
use Rattle.specification.proofs.agreement.Drawings.{laws_under, distinct_points}
use Rattle.specification.proofs.ideal.Counts.{standard_length}
use Rattle.specification.proofs.ideal.Lists.{index_of}
use Rattle.construction.specs.Drawing.{Solves}
use Rattle.points.proofs.places.PointPlaces.{place_filled}
use Rattle.interpolation.specs.Solving.{solution}
use Rattle.interpolation.proofs.Interpolants.{length_interpolant, solution_is}
use Rattle.std.specs.Prelude.{Some}
use Rattle.courses.specs.TimeCourse.{Timed, Move, moves_of, points_of_moves, successor_of, gene_of, genes_of, value_of, step, return_at, run_from, return_of, course_model}
use Rattle.steps.specs.Stepping.{next_values, solutions_of, values_at, step_of}
use Rattle.courses.proofs.theory.Answer.{genes_length, gene_at, step_point}

-- The run over states in their bytes.
module _ (f g : List ℕ → List ℕ) (m : ℕ) (fits : m ≤ 8) (X : List ℕ → Type 0) (long : (P : List ℕ) → X P → length P ≡ m)
    (onward : (P : List ℕ) → X P → X (f P)) (same : (P : List ℕ) → X P → g (fill 8 P) ≡ fill 8 (f P)) where
  run_filled : (left k : ℕ) (P : List ℕ) (earlier : List (List ℕ)) → X P → ((Q : List ℕ) → Among Q earlier → X Q)
      → run_from g left k (fill 8 P) (map (fill 8) earlier) ≡ run_from f left k P earlier
  unfolding run_from
  run_filled zero k P earlier x h = refl
  run_filled (suc left) k P earlier x h =
      let met : List (List ℕ) = P ∷ earlier in
      let each : (Q : List ℕ) → Among Q met → X Q = λ Q q. elim q [ inl e ↦ subst X (sym e) x | inr w ↦ h Q w ] in
      let lengths : (Q : List ℕ) → Among Q met → length Q ≡ m = λ Q q. long Q (each Q q) in
      let own = long (f P) (onward P x) in
      ap (λ (Q : List ℕ). cond (is_among Q (map (fill 8) met)) (Some (return_at (suc k) (suc (place_in Q (map (fill 8) met))))) (run_from g left (suc k) Q (map (fill 8) met))) (same P x)
      ∙ ap₂ (λ (b : Bool) (i : ℕ). cond b (Some (return_at (suc k) (suc i))) (run_from g left (suc k) (fill 8 (f P)) (map (fill 8) met)))
      (among_filled 8 m fits (f P) met own lengths) (place_filled 8 m fits (f P) met own lengths)
      ∙ ap (cond (is_among (f P) met) (Some (return_at (suc k) (suc (place_in (f P) met))))) (run_filled left (suc k) (f P) met (onward P x) each)

  pub return_filled : (P : List ℕ) → X P → return_of g (fill 8 P) ≡ return_of f P
  unfolding return_of
  return_filled P x = run_filled 256 0 P [] x (λ Q q. absurd q)

-- zeros behind a monomial do not count at a point that has no coordinates there
value_cut : (P a : List ℕ) (k : ℕ) → length a ≡ length P → length P ≤ k → monomial_at P (fill k a) ≡ monomial_at P a
unfolding fill
value_cut [] a k h l = refl
value_cut (x ∷ P) [] k h l = absurd (omega arith)
value_cut (x ∷ P) (e ∷ a) zero h l = absurd (omega arith)
value_cut (x ∷ P) (e ∷ a) (suc k) h l = ap (λ (z : ℕ). x ^ e * z) (value_cut P a k (omega arith) (omega arith))

module _ (s : Settings) (ok : Accepted s) where
  -- a combination of monomials, from their values modulo p
  combined : (P : Point (suc (s.modulus - 1)) s.variables) (cs : List ℕ) (T : List (Monomial s.variables))
      → Mod s.modulus (dot_of cs (map (λ a. monomial_at P.0 a.0 % s.modulus) T)) (eval (space_under s) (terms (space_under s) cs T) P)
  unfolding dot_of
  combined P [] T = rfl
  combined P (c ∷ cs) [] = rfl
  combined P (c ∷ cs) (a ∷ T) = (rfl {x = c} times reduce s.modulus (monomial_at P.0 a.0)) plus combined P cs T

  module _ (S : List (List ℕ)) (points : Points s S) where
    standard_many : length (standard_under s S) ≡ length S
    standard_many = standard_length (space_under s) (laws_under s ok) (points_under s S) (distinct_points s ok S points) ∙ length-map S _

    -- the values of the standard monomials, from their table
    values_are : (P : List ℕ) → IsPoint s P
        → values_at s.modulus s.variables (length S) (standard_table s S) (fill 8 P) ≡ map (λ a. monomial_at P a.0 % s.modulus) (standard_under s S)
    unfolding values_at standard_table
    values_are P point =
        let p : ℕ = s.modulus in
        let T = standard_under s S in
        let M : List (List ℕ) = map (λ a. a.0) T in
        let many : length M ≡ length S = length-map T (λ a. a.0) ∙ standard_many in
        let front : take s.variables (fill 8 P) ≡ P = take_fill s.variables 8 P point.long ok.few in
        ap₂ (λ (Q : List ℕ) (n : ℕ). map (λ a. monomial_at Q a % p) (groups 8 n (fill 512 (in_places 8 M)))) front (sym many)
        ∙ ap (map (λ a. monomial_at P a % p)) (table_groups 8 512 M (omega (arith, many, points.few)) ∙ map-map (fill 8) (λ a. a.0) T)
        ∙ map-map (λ a. monomial_at P a % p) (λ a. fill 8 a.0) T
        ∙ map_same _ _ T (λ a q. ap (λ (z : ℕ). z % p) (value_cut P a.0 8 (a.1 ∙ sym point.long) (omega (arith, point.long, ok.few))))

    value_is : (P : List ℕ) → IsPoint s P → (cs : List ℕ) → dot_of cs (map (λ a. monomial_at P a.0 % s.modulus) (standard_under s S)) % s.modulus ≡ value_of s S cs P
    unfolding value_of
    value_is P point cs =
        ap (λ (Q : List ℕ). dot_of cs (map (λ a. monomial_at Q a.0 % s.modulus) (standard_under s S)) % s.modulus) (sym (point_same s ok.few P point))
        ∙ (combined (point_of (s.modulus - 1) s.variables P) cs (standard_under s S)).same

  -- The model of moves whose points are at most 64.
  module _ (ms : List Move) (points : Points s (points_of (points_of_moves ms))) where
    abbrev S : List (List ℕ)
    S = points_of (points_of_moves ms)

    gene_long : (k : ℕ) → length (gene_of s ms k) ≡ length S
    unfolding gene_of
    gene_long k = length_interpolant s ok S points _

    genes_long : (cs : List ℕ) → Among cs (genes_of s ms s.variables) → length cs ≡ length S
    genes_long cs mem =
        let w = index_of (genes_of s ms s.variables) [] cs mem in
        let i : w.0 < s.variables = omega (arith, w.1, genes_length s ms s.variables) in
        ap length (sym w.2 ∙ gene_at s ms s.variables w.0 i) ∙ gene_long w.0

    -- a step in bytes
    pub step_bytes : (genes : List ℕ) → genes ≡ fill 512 (in_places 64 (genes_of s ms s.variables)) → (P : List ℕ) → IsPoint s P
        → step_of s.modulus s.variables (length S) (standard_table s S) genes (fill 8 P) ≡ fill 8 (step s ms P)
    unfolding step_of step
    step_bytes genes table P point =
        let p : ℕ = s.modulus in
        let G = genes_of s ms s.variables in
        let many : length G ≡ s.variables = genes_length s ms s.variables in
        let sum : List ℕ → ℕ = λ cs. dot_of (take (length S) cs) (values_at p s.variables (length S) (standard_table s S) (fill 8 P)) % p in
        ap₂ (λ (k : ℕ) (t : List ℕ). fill 8 (map sum (groups 64 k t))) (sym many) table
        ∙ ap (λ (l : List (List ℕ)). fill 8 (map sum l)) (table_groups 64 512 G (omega (arith, many, ok.few)))
        ∙ ap (fill 8) (map-map sum (fill 64) G ∙ map_same _ _ G each)
      where
        each : (cs : List ℕ) → Among cs (genes_of s ms s.variables)
            → dot_of (take (length S) (fill 64 cs)) (values_at s.modulus s.variables (length S) (standard_table s S) (fill 8 P)) % s.modulus ≡ value_of s S cs P
        each cs mem =
            ap₂ (λ (l v : List ℕ). dot_of l v % s.modulus) (take_fill (length S) 64 cs (genes_long cs mem) points.few) (values_are S points P point)
            ∙ value_is S points P point cs

    -- the run in bytes
    pub run_bytes : (genes : List ℕ) → genes ≡ fill 512 (in_places 64 (genes_of s ms s.variables)) → (P : List ℕ) → IsPoint s P
        → return_of (step_of s.modulus s.variables (length S) (standard_table s S) genes) (fill 8 P) ≡ return_of (step s ms) P
    run_bytes genes table P point =
        return_filled (step s ms) (step_of s.modulus s.variables (length S) (standard_table s S) genes) s.variables ok.few (IsPoint s) (λ Q q. q.long) (λ Q q. step_point s ok ms Q)
        (λ Q q. step_bytes genes table Q q) P point

    -- Record firsts[j] + 1 is the successor of point j.
    pub record Followed (records firsts : List ℕ) : Type 0 where
      pub named : length S ≤ length firsts
      pub low : (g : ℕ) → g < s.variables → Below s.modulus (next_values g records (take (length S) firsts))
      pub next : (j g : ℕ) → j < length S → g < s.variables → get_or records (8 * (get_or firsts j 0 + 1) + g) 0 ≡ get_or (successor_of (get_or S j []) ms) g 0

    module _ (rows pivots records firsts : List ℕ) (solved : Solves s S rows pivots) (h : Followed records firsts) where
      next_are : (g : ℕ) → g < s.variables → next_values g records (take (length S) firsts) ≡ map (λ P. get_or (successor_of P ms) g 0) S
      unfolding next_values
      next_are g l =
          let front : length (take (length S) firsts) ≡ length S = length-take-le (length S) firsts h.named in
          let few : length (map (λ i. get_or records (8 * (i + 1) + g) 0) (take (length S) firsts)) ≡ length S = length-map (take (length S) firsts) _ ∙ front in
          ext_get_or 0 _ _ (few ∙ sym (length-map S _)) λ i d.
          let j : i < length S = omega (arith, d, few) in
          map_at (λ i. get_or records (8 * (i + 1) + g) 0) (take (length S) firsts) 0 0 i (omega (arith, j, front))
          ∙ ap (λ (k : ℕ). get_or records (8 * (k + 1) + g) 0) (get_or-take (length S) firsts i 0 j) ∙ h.next i g j l ∙ sym (map_at (λ P. get_or (successor_of P ms) g 0) S [] 0 i j)

      -- the interpolants that elimination finds are the model's
      pub genes_are : (k : ℕ) → k ≤ s.variables → solutions_of s.modulus (length S) rows pivots records firsts k ≡ genes_of s ms k
      unfolding solutions_of genes_of gene_of
      genes_are zero l = refl
      genes_are (suc k) l =
          let e = next_are k (omega arith) in
          ap₂ (λ (G : List (List ℕ)) (cs : List ℕ). G ++ (cs ∷ [])) (genes_are k (omega arith))
          (ap (λ (vs : List ℕ). solution s.modulus (length S) rows pivots (fill 128 vs)) e ∙ solution_is s ok S points rows pivots solved (map (λ P. get_or (successor_of P ms) k 0) S) (length-map S _) (subst (Below s.modulus) e (h.low k (omega arith))))

-- what `put_model` leaves is the model of the records' moves
pub model_bytes : (s : Settings) (ok : Accepted s) (l : List Timed) (points : Points s (points_of (points_of_moves (moves_of l)))) (rows pivots records firsts : List ℕ)
    → Solves s (points_of (points_of_moves (moves_of l))) rows pivots → Followed s ok (moves_of l) points records firsts → (out : List ℕ)
    → over (fill 512 (in_places 64 (solutions_of s.modulus (length (points_of (points_of_moves (moves_of l)))) rows pivots records firsts s.variables))) out ≡ course_model s l out
unfolding course_model
model_bytes s ok l points rows pivots records firsts solved h out =
    ap (λ (G : List (List ℕ)). over (fill 512 (in_places 64 G)) out) (genes_are s ok (moves_of l) points rows pivots records firsts solved h s.variables (omega arith))
