-- M-110 under lex, over settings and over tables: x1 is left out of a sheet.
use mathlib.Core.Path.{◌≡◌, refl, sym, ◌∙◌, ap, ap₂, subst}
use mathlib.Core.Bool.{true}
use mathlib.Core.Logic.{◌↔◌}
use mathlib.Core.List.{List, [], ◌∷◌, ◌++◌, map}
use Prim.Native.Nat.{ℕ, suc, ◌-◌, ◌≤◌}
use native.Mathlib.Omega.{arith}
use lib.ListN.{drop}
use Rattle.residue.specs.Lists.{Among}
use Rattle.residue.specs.Modulus.{is_modulus}
use Rattle.residue.proofs.level.Moduli.{modulus_range}
use Rattle.monomial.specs.Order.{order_of}
use Rattle.monomial.specs.Insert.{removed_at}
use Rattle.specification.specs.declared.settings.Settings.{Settings}
use Rattle.specification.specs.Instance.{Point, point_of}
use Rattle.specification.specs.Counted.{counts_of, points_of}
use Rattle.specification.specs.Tables.{Tables, standard_under, leads_under, rows_under, held_in}
use Rattle.specification.proofs.Instance.{point_path}
use Rattle.specification.proofs.CallByCall.{known_basis}
use Rattle.specification.proofs.ideal.Lists.{among_map, map_among}
use Rattle.specification.proofs.counted.Gathered.{positive_of}
use Rattle.specification.specs.Points.{Points}
use Rattle.specification.proofs.agreement.Points.{point_same}
use Rattle.specification.specs.Settings.{Accepted}
use Rattle.specification.proofs.agreement.Drawings.{distinct_points}
use Rattle.specification.specs.TablesRead.{exponents_in, rows_in}
use Rattle.specification.specs.LeaveOut.{without_variable, fewer, leave_out_outcome, free_of, free_leads, free_rows, Eliminates}
use Rattle.specification.proofs.Sheets.{Sheet, of_holds}
use Rattle.specification.proofs.SheetBack.{exponents_in_lem}
use Rattle.specification.proofs.SheetRead.{standard_in, leads_in, rows_in_lem}
use Rattle.specification.proofs.leaving.Without.{without_members}
use Rattle.specification.proofs.leaving.Calls.{fewer_accepted, left_number, left_passed, leave_out_leaves}
use Rattle.specification.proofs.lex.Monomials.{shadow}
use Rattle.specification.proofs.lex.Kept.{exponents}
use Rattle.specification.proofs.lex.Elimination.{new_standard, new_leads, new_rows}

-- The basis of S' under s' is that part of the basis of S under s in which x1 does not occur.
pub record EliminatesUnder (s s' : Settings) (S S' : List (List ℕ)) : Type 0 where
  pub standard : exponents (standard_under s' S') ≡ free_of (exponents (standard_under s S))
  pub leads : exponents (leads_under s' S') ≡ free_leads (exponents (standard_under s S)) (exponents (leads_under s S)) (rows_under s S)
  pub rows : rows_under s' S' ≡ free_rows (exponents (standard_under s S)) (exponents (leads_under s S)) (rows_under s S)

-- S' are the points of S without their first coordinates
abbrev pub Shadows : List (List ℕ) → List (List ℕ) → Type 0
Shadows S S' = (Q : List ℕ) → Among Q S' ↔ ((P : List ℕ) × Among P S × (Q ≡ removed_at 0 P))

-- order 0
abbrev lex_under : ℕ → ℕ → List ℕ → Settings
lex_under p m w = record { modulus = p; variables = m; order = 0; weights = w }

first_out : (P : List ℕ) → removed_at 0 P ≡ drop 1 P
unfolding removed_at
first_out [] = refl
first_out (x ∷ P) = refl

module _ (p m : ℕ) (v w : List ℕ) (ok : Accepted (lex_under p (suc m) v)) (ok' : Accepted (lex_under p m w)) (S S' : List (List ℕ)) (h : Points (lex_under p (suc m) v) S) (h' : Points (lex_under p m w) S') (members : Shadows S S') where
  abbrev pt : List ℕ → Point (suc (p - 1)) (suc m)
  pt = point_of (p - 1) (suc m)

  abbrev pt' : List ℕ → Point (suc (p - 1)) m
  pt' = point_of (p - 1) m

  -- a point without its first coordinate
  meet : (P : List ℕ) → Among P S → shadow (p - 1) m (pt P) ≡ pt' (removed_at 0 P)
  meet P mem = point_path (suc (p - 1)) (ap (drop 1) (point_same (lex_under p (suc m) v) ok.few P (h.points P mem)) ∙ sym (first_out P)
      ∙ sym (point_same (lex_under p m w) ok'.few (removed_at 0 P) (h'.points (removed_at 0 P) ((members (removed_at 0 P)).1 (P, mem, refl)))))

  down : (X : Point (suc (p - 1)) (suc m)) → Among X (map pt S) → Among (shadow (p - 1) m X) (map pt' S')
  down X mem = let w = among_map pt S X mem in
      subst (λ (Y : Point (suc (p - 1)) m). Among Y (map pt' S')) (sym (ap (shadow (p - 1) m) w.2 ∙ meet w.0 w.1))
      (map_among pt' S' (removed_at 0 w.0) ((members (removed_at 0 w.0)).1 (w.0, w.1, refl)))

  up : (Y : Point (suc (p - 1)) m) → Among Y (map pt' S') → (X : Point (suc (p - 1)) (suc m)) × Among X (map pt S) × (Y ≡ shadow (p - 1) m X)
  up Y mem = let w = among_map pt' S' Y mem in
      let u = (members w.0).0 w.1 in
      (pt u.0, map_among pt S u.0 u.1, w.2 ∙ ap pt' u.2 ∙ sym (meet u.0 u.1))

  positive : is_modulus (suc (p - 1)) ≡ true
  positive = subst (λ (k : ℕ). is_modulus k ≡ true) (omega (arith, modulus_range p ok.modulus)) ok.modulus

  eliminates : EliminatesUnder (lex_under p (suc m) v) (lex_under p m w) S S'
  unfolding order_of
  eliminates = let d = distinct_points (lex_under p (suc m) v) ok S h in let d' = distinct_points (lex_under p m w) ok' S' h' in record {
    standard = new_standard (p - 1) m positive (map pt S) d (map pt' S') d' down up;
    leads = new_leads (p - 1) m positive (map pt S) d (map pt' S') d' down up;
    rows = new_rows (p - 1) m positive (map pt S) d (map pt' S') d' down up;
  }

pub lex_under_lem : (s : Settings) → Accepted s → s.order ≡ 0 → 2 ≤ s.variables → (S S' : List (List ℕ)) → Points s S → Points (fewer 1 s) S' → Shadows S S' → EliminatesUnder s (fewer 1 s) S S'
lex_under_lem s ok zero two S S' h h' members = subst (λ (t : Settings). EliminatesUnder t (fewer 1 s) S S') (sym old)
    (subst (λ (t : Settings). EliminatesUnder (lex_under s.modulus (suc m) s.weights) t S S') (sym new)
    (eliminates s.modulus m s.weights w (subst Accepted old ok) (subst Accepted new (fewer_accepted s 1 ok (omega arith) two)) S S' (subst (λ (t : Settings). Points t S) old h)
    (subst (λ (t : Settings). Points t S') new h') members))
  where
    m : ℕ
    m = s.variables - 1

    w : List ℕ
    w = removed_at 0 s.weights ++ (0 ∷ [])

    by : List ℕ → ℕ → ℕ → Settings
    by w v o = record { modulus = s.modulus; variables = v; order = o; weights = w }

    old : s ≡ lex_under s.modulus (suc m) s.weights
    old = ap₂ (by s.weights) (omega arith) zero

    new : fewer 1 s ≡ lex_under s.modulus m w
    new = ap (by w m) zero

-- over the bytes of two sheets
module _ (s s' : Settings) (ok : Accepted s) (ok' : Accepted s') (less : s'.variables ≡ s.variables - 1) (S S' : List (List ℕ)) (n r n' r' : ℕ) (t t' : Tables)
    (h : Sheet s S n r t) (h' : Sheet s' S' n' r' t') (e : EliminatesUnder s s' S S') where
  standard : exponents (standard_under s S) ≡ exponents_in s.variables n t.standard
  standard = ap exponents (standard_in s ok n r S t h) ∙ exponents_in_lem s.variables n t.standard

  leads : exponents (leads_under s S) ≡ exponents_in s.variables r t.leads
  leads = ap exponents (leads_in s ok n r S t h) ∙ exponents_in_lem s.variables r t.leads

  rows : rows_under s S ≡ rows_in n r t.coefficients
  rows = rows_in_lem s ok n r S t h

  eliminated : Eliminates s.variables n r t n' r' t'
  eliminated = record {
    standard = ap (λ (m : ℕ). exponents_in m n' t'.standard) (sym less) ∙ sym (ap exponents (standard_in s' ok' n' r' S' t' h') ∙ exponents_in_lem s'.variables n' t'.standard) ∙ e.standard ∙ ap free_of standard;
    leads = ap (λ (m : ℕ). exponents_in m r' t'.leads) (sym less) ∙ sym (ap exponents (leads_in s' ok' n' r' S' t' h') ∙ exponents_in_lem s'.variables r' t'.leads) ∙ e.leads ∙ rw (standard, leads, rows) refl;
    rows = sym (rows_in_lem s' ok' n' r' S' t' h') ∙ e.rows ∙ rw (standard, leads, rows) refl;
  }

-- Document 02, M-110: 'under lex, where gene 1 is left out, the new rows and standard monomials are exactly the old ones in which x1 does not occur, in their old order'.
pub lex_eliminates : (s : Settings) (n r : ℕ) (t u : Tables) → s.order ≡ 0 → let o = leave_out_outcome s n r t 1 u in o.answer.refusal ≡ 0
    → Eliminates s.variables n r t o.answer.n o.answer.r o.tables
lex_eliminates s n r t u zero e =
    let w = left_passed s n r t 1 u (sym (left_number s n r t 1 u) ∙ e) in
    let ok' = w.fine in
    let h = of_holds s w.ok (known_basis s w.ok n r t w.few w.known) in
    let h' = of_holds (fewer 1 s) ok' (leave_out_leaves s n r t 1 u e) in
    eliminated s (fewer 1 s) w.ok ok' refl (points_of (held_in s n t)) (points_of (without_variable 0 (held_in s n t))) n r _ _ t _ h h'
    (lex_under_lem s w.ok zero w.two (points_of (held_in s n t)) (points_of (without_variable 0 (held_in s n t))) h.points h'.points
    (without_members 0 (held_in s n t) (positive_of (counts_of (held_in s n t)) w.before.counts)))
