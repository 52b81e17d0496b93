-- The interpolant, the row and the basis are unique, and depend on the members of the list of points alone.
use mathlib.Core.Path.{◌≡◌, refl, sym, ◌∙◌, ap₂, subst}
use mathlib.Core.List.{List, [], ◌∷◌, map}
use mathlib.Core.Logic.{inl, inr, ◌≢◌, ◌↔◌}
use mathlib.Core.Bool.{cond}
use Prim.Native.Nat.{ℕ, suc, ◌+◌, ◌*◌}
use native.Mathlib.Omega.{arith}
use native.Mathlib.Nat.{suc_inj}
use lib.ListN.{length}
use Rattle.residue.specs.Congruence.{Mod}
use Rattle.residue.specs.Lists.{Among}
use Rattle.residue.proofs.Congruence.{of, ◌then◌, ◌plus◌, scale, lin, small}
use Rattle.residue.proofs.Sums.{sum_cong, sum_lin}
use Rattle.residue.proofs.Tests.{cond_so, cond_not}
use Rattle.monomial.specs.Increasing.{Increasing}
use Rattle.monomial.proofs.Orders.Increasing.{unique, below_member}
use Rattle.specification.specs.Space.{Space, same}
use Rattle.specification.specs.Polynomial.{eval, Leading, Standard, Minimal, terms}
use Rattle.specification.specs.Basis.{Row, Fits, Rows, IsBasis}
use Rattle.specification.proofs.ideal.Lists.{map_among}
use Rattle.specification.proofs.ideal.Laws.{Laws, same_told, less_ne}
use Rattle.specification.proofs.ideal.Polynomials.{comb, pair_terms, independent}

module _ (D : Space) (L : Laws D) where
  open D use {q, Mono, Pt, val, cmp}
  open L use {order}

  infix 35 ◌≈◌
  abbrev ◌≈◌ : ℕ → ℕ → Type 0
  a ≈ b = Mod (suc q) a b

  -- A list of coefficients is a function on the monomials.
  as_function : (l : List Mono) (cs : List ℕ) → Increasing cmp l → length cs ≡ length l → (c : Mono → ℕ) × (map c l ≡ cs)
  as_function [] [] i e = (λ a. 0, refl)
  as_function [] (k ∷ cs) i e = absurd (omega arith)
  as_function (a ∷ l) [] i e = absurd (omega arith)
  as_function (a ∷ l) (k ∷ cs) i e = go (as_function l cs i.1 (suc_inj e))
    where
      go : (c : Mono → ℕ) × (map c l ≡ cs) → (c : Mono → ℕ) × (map c (a ∷ l) ≡ k ∷ cs)
      go r = (f, ap₂ (λ (u : ℕ) (v : List ℕ). u ∷ v) (cond_so (same_told D L a a) refl k (r.0 a)) (others l (λ b m. less_ne D L (below_member cmp a l i.0 b m)) ∙ r.1))
        where
          f : Mono → ℕ
          f b = cond (same D a b) k (r.0 b)

          others : (s : List Mono) → ((b : Mono) → Among b s → a ≢ b) → map f s ≡ map r.0 s
          others [] h = refl
          others (b ∷ s) h = ap₂ (λ (u : ℕ) (v : List ℕ). u ∷ v) (cond_not (same_told D L a b) (h b (inl refl)) k (r.0 b)) (others s (λ d m. h d (inr m)))

  map_unique : (c d : Mono → ℕ) (l : List Mono) → ((a : Mono) → Among a l → c a ≡ d a) → map c l ≡ map d l
  map_unique c d [] h = refl
  map_unique c d (a ∷ l) h = ap₂ (λ (u : ℕ) (v : List ℕ). u ∷ v) (h a (inl refl)) (map_unique c d l (λ b m. h b (inr m)))

  -- The interpolant of given values is unique.
  pub fits_unique : (S : List Pt) (l : List Mono) → Increasing cmp l → ((a : Mono) → Among a l → Standard D S a)
      → (φ : Pt → ℕ) (cs ds : List ℕ) → Fits D S l φ cs → Fits D S l φ ds → cs ≡ ds
  fits_unique S l i s φ cs ds r t = sym fc.1 ∙ map_unique fc.0 fd.0 l equal ∙ fd.1
    where
      fc : (c : Mono → ℕ) × (map c l ≡ cs)
      fc = as_function l cs i r.long

      fd : (c : Mono → ℕ) × (map c l ≡ ds)
      fd = as_function l ds i t.long

      value : (c : Mono → ℕ) (es : List ℕ) → map c l ≡ es → ((P : Pt) → Among P S → eval D (terms D es l) P ≈ φ P) → (P : Pt) → Among P S → comb D c l (λ b. val b P) ≈ φ P
      value c es e v P m = rw (← pair_terms D c l (λ b. val b P), e) (v P m)

      zero : (b : Mono) → Among b l → fc.0 b + q * fd.0 b ≈ 0
      zero = independent D L S l i s (λ b. fc.0 b + q * fd.0 b) (λ P m.
          sum_cong l (λ b _. of (shape (fc.0 b) (fd.0 b) (val b P)))
          then of (sum_lin (λ b. fc.0 b * val b P) (λ b. fd.0 b * val b P) q l)
          then lin (value fc.0 cs fc.1 r.values P m plus scale q (value fd.0 ds fd.1 t.values P m)) 0 (φ P) (omega arith))
        where
          shape : (u v w : ℕ) → (u + q * v) * w ≡ u * w + q * (v * w)
          shape u v w = omega arith

      equal : (b : Mono) → Among b l → fc.0 b ≡ fd.0 b
      equal b m = small (r.residues (fc.0 b) (subst (λ (z : List ℕ). Among (fc.0 b) z) fc.1 (map_among fc.0 l b m)))
          (t.residues (fd.0 b) (subst (λ (z : List ℕ). Among (fd.0 b) z) fd.1 (map_among fd.0 l b m))) (lin (zero b m) (fd.0 b) 0 (omega arith))

  -- a row is an interpolant of minus its monomial
  pub row_fits : (S : List Pt) (l : List Mono) (a : Mono) (cs : List ℕ) → Row D S l a cs → Fits D S l (λ P. q * val a P) cs
  row_fits S l a cs r = record { long = r.long; residues = r.residues; values = λ P m. lin (r.vanishes P m) (val a P) 0 (omega arith) }

  pub fits_row : (S : List Pt) (l : List Mono) (a : Mono) (cs : List ℕ) → Fits D S l (λ P. q * val a P) cs → Row D S l a cs
  fits_row S l a cs r = record { long = r.long; residues = r.residues; vanishes = λ P m. lin (r.values P m) 0 (val a P) (omega arith) }

  -- docs/SCOPE.md, 'The sheet', Definitions: there is only one such row
  pub row_unique : (S : List Pt) (l : List Mono) → Increasing cmp l → ((a : Mono) → Among a l → Standard D S a)
      → (a : Mono) (cs ds : List ℕ) → Row D S l a cs → Row D S l a ds → cs ≡ ds
  row_unique S l i s a cs ds r t = fits_unique S l i s (λ P. q * val a P) cs ds (row_fits S l a cs r) (row_fits S l a ds t)

  rows_unique : (S : List Pt) (l : List Mono) → Increasing cmp l → ((a : Mono) → Among a l → Standard D S a)
      → (hs : List Mono) (rs ts : List (List ℕ)) → Rows D S l hs rs → Rows D S l hs ts → rs ≡ ts
  rows_unique S l i s [] [] [] r t = refl
  rows_unique S l i s [] [] (y ∷ ts) r t = absurd t
  rows_unique S l i s [] (y ∷ rs) ts r t = absurd r
  rows_unique S l i s (a ∷ hs) [] ts r t = absurd r
  rows_unique S l i s (a ∷ hs) (y ∷ rs) [] r t = absurd t
  rows_unique S l i s (a ∷ hs) (y ∷ rs) (z ∷ ts) r t =
      ap₂ (λ (u : List ℕ) (v : List (List ℕ)). u ∷ v) (row_unique S l i s a y z r.0 t.0) (rows_unique S l i s hs rs ts r.1 t.1)

  -- docs/SCOPE.md, 'The sheet': the definitions determine the tables.
  pub basis_unique : (S : List Pt) (standard standard' leads leads' : List Mono) (rows rows' : List (List ℕ))
      → IsBasis D S standard leads rows → IsBasis D S standard' leads' rows' → (standard ≡ standard') × (leads ≡ leads') × (rows ≡ rows')
  basis_unique S standard standard' leads leads' rows rows' h k = (
    es,
    el,
    rows_unique S standard h.standard_increasing (λ a m. (h.standard_members a).0 m) leads rows rows' h.rows_are (rw (← es, ← el) at k.rows_are),
  )
    where
      es : standard ≡ standard'
      es = unique cmp order standard standard' h.standard_increasing k.standard_increasing (λ a m. (k.standard_members a).1 ((h.standard_members a).0 m)) (λ a m. (h.standard_members a).1 ((k.standard_members a).0 m))

      el : leads ≡ leads'
      el = unique cmp order leads leads' h.leads_increasing k.leads_increasing (λ a m. (k.leads_members a).1 ((h.leads_members a).0 m)) (λ a m. (h.leads_members a).1 ((k.leads_members a).0 m))

  -- They depend on the members of S alone.
  module _ (S S' : List Pt) (f : (P : Pt) → Among P S → Among P S') (g : (P : Pt) → Among P S' → Among P S) where
    leading_points : (a : Mono) → Leading D S a ↔ Leading D S' a
    leading_points a = (λ h. (h.0, (λ P m. h.1 P (g P m)), h.2), λ h. (h.0, (λ P m. h.1 P (f P m)), h.2))

    minimal_points : (a : Mono) → Minimal D S a ↔ Minimal D S' a
    minimal_points a = (λ h. ((leading_points a).0 h.0, λ b d e k. h.1 b d e ((leading_points b).1 k)), λ h. ((leading_points a).1 h.0, λ b d e k. h.1 b d e ((leading_points b).0 k)))

    rows_points : (standard leads : List Mono) (rows : List (List ℕ)) → Rows D S standard leads rows → Rows D S' standard leads rows
    rows_points standard [] [] r = tt
    rows_points standard [] (c ∷ cs) r = absurd r
    rows_points standard (a ∷ l) [] r = absurd r
    rows_points standard (a ∷ l) (c ∷ cs) r = (record { long = r.0.long; residues = r.0.residues; vanishes = λ P m. r.0.vanishes P (g P m) }, rows_points standard l cs r.1)

    pub basis_points : (standard leads : List Mono) (rows : List (List ℕ)) → IsBasis D S standard leads rows → IsBasis D S' standard leads rows
    basis_points standard leads rows h = record {
      standard_increasing = h.standard_increasing;
      standard_members = λ a. (λ m k. (h.standard_members a).0 m ((leading_points a).1 k), λ s. (h.standard_members a).1 (λ k. s ((leading_points a).0 k)));
      leads_increasing = h.leads_increasing;
      leads_members = λ a. (λ m. (minimal_points a).0 ((h.leads_members a).0 m), λ k. (h.leads_members a).1 ((minimal_points a).1 k));
      rows_are = rows_points standard leads rows h.rows_are;
    }
