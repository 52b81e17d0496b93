-- Division by the rows of a basis as declared: they generate all polynomials that vanish at the points, and are the reduced Gröbner basis of these
-- (docs/SCOPE.md, 'The sheet'; Farr and Gao, section 2).
use mathlib.Core.Path.{◌≡◌, sym, ◌∙◌, ap, ap₂, subst}
use mathlib.Core.List.{List, [], ◌++◌}
use mathlib.Core.Logic.{◌⊎◌, inl, inr, ◌≢◌, ◌↔◌}
use mathlib.Core.WellFounded.Acc
use mathlib.Core.WellFounded.{Acc}
use Prim.Native.Nat.{ℕ, suc, ◌+◌, ◌*◌, Ordering}
use native.Mathlib.Omega.{arith}
use Rattle.residue.specs.Congruence.{Mod}
use Rattle.residue.specs.Lists.{Among}
use Rattle.residue.proofs.Congruence.{of, flip, ◌then◌, ◌plus◌, scale, lin, ring}
use Rattle.specification.specs.Space.{Space, Less, Divides}
use Rattle.specification.specs.Polynomial.{Polynomial, hit, coefficient, Vanishes, Greatest}
use Rattle.specification.specs.Basis.{IsBasis}
use Rattle.specification.specs.Ideal.{Variable, multiple, Generated, row_polynomials, ReducedGroebner}
use Rattle.specification.proofs.ideal.Laws.{Laws, Compares, lt, eq, gt, compared, irrefl, less_ne, trans}
use Rattle.specification.proofs.ideal.Polynomials.{pair}
use Rattle.specification.proofs.ideal.Multiples.{times, multiple_pair, multiple_vanishes, multiple_at, multiple_above, cofactor}
use Rattle.specification.proofs.ideal.Groebner.{lead_divides, standard_undivided}
use Rattle.specification.proofs.ideal.Generated.{pair_append, generated_sum, generated_multiple, generated_same, sum_vanishes, generated_vanishes}
use Rattle.specification.proofs.ideal.Rows.{greatest, greatest_only, RowOf, has_lead, has_row, leads_minimal, row_vanishes, row_monic, row_monomials, row_greatest, same_row}

module _ (D : Space) (L : Laws D) where
  open D use {q, Mono, Pt}
  open L use {wf}

  infix 35 ◌≈◌
  abbrev ◌≈◌ : ℕ → ℕ → Type 0
  a ≈ b = Mod (suc q) a b

  -- A multiple of a monic polynomial g is taken away from f: what is left has no monomial from f's greatest one, a, on,
  taken : (f g : Polynomial D) (a c : Mono) (vs : List (Variable D)) → a ≡ times D vs c → Greatest D f a → Greatest D g c → coefficient D g c ≈ 1
      → (b : Mono) → ¬ Less D b a → coefficient D (f ++ multiple D (q * coefficient D f a) vs g) b ≈ 0
  taken f g a c vs e hf hg one b low = of (pair_append D f (multiple D (q * coefficient D f a) vs g) (hit D b)) then go (compared D L a b)
    where
      go : {o : Ordering} → Compares D a b o → coefficient D f b + coefficient D (multiple D (q * coefficient D f a) vs g) b ≈ 0
      go (lt k) = hf.1 b k plus multiple_above D L (q * coefficient D f a) vs g c hg b (subst (λ (z : Mono). Less D z b) e k)
      go (eq u) = subst (λ (z : Mono). coefficient D f z + coefficient D (multiple D (q * coefficient D f a) vs g) z ≈ 0) u
          (lin (of (ap (coefficient D (multiple D (q * coefficient D f a) vs g)) e) then multiple_at D L (q * coefficient D f a) vs g c then scale (q * coefficient D f a) one) 0 (coefficient D f a) (omega arith))
      go (gt k) = absurd (low k)

  -- so that its greatest monomial is smaller,
  smaller : (a : Mono) (f : Polynomial D) → ((b : Mono) → ¬ Less D b a → coefficient D f b ≈ 0) → (b : Mono) → Greatest D f b → {o : Ordering} → Compares D a b o → Less D b a
  smaller a f none b h (lt k) = absurd (h.0 (none b (λ u. irrefl D L (trans D L k u))))
  smaller a f none b h (eq e) = absurd (h.0 (none b (λ u. less_ne D L u (sym e))))
  smaller a f none b h (gt k) = k

  -- and given back it is f again.
  given_back : (f g : Polynomial D) (k : ℕ) (vs : List (Variable D)) (b : Mono) → coefficient D f b ≈ coefficient D ((f ++ multiple D (q * k) vs g) ++ multiple D k vs g) b
  given_back f g k vs b = flip (of (pair_append D (f ++ multiple D (q * k) vs g) (multiple D k vs g) (hit D b) ∙ ap₂ (λ (u v : ℕ). u + v)
      (pair_append D f (multiple D (q * k) vs g) (hit D b) ∙ ap (λ (z : ℕ). coefficient D f b + z) (multiple_pair D (q * k) vs g (hit D b))) (multiple_pair D k vs g (hit D b)))
      then shape (coefficient D f b) (pair D g (λ a. hit D b (times D vs a))))
    where
      shape : (u w : ℕ) → u + q * k * w + k * w ≈ u
      shape u w = ring 0 (k * w) (omega arith)

  module _ (S : List Pt) (standard leads : List Mono) (rows : List (List ℕ)) (b : IsBasis D S standard leads rows) where
    abbrev G : List (Polynomial D)
    G = row_polynomials D standard leads rows

    divide : (a : Mono) (f : Polynomial D) → Vanishes D f S → Greatest D f a → Generated D G f
    divide a = Acc.ndrec {C = λ a. (f : Polynomial D) → Vanishes D f S → Greatest D f a → Generated D G f} step (wf a)
      where
        step : (a : Mono) → ((c : Mono) → Less D c a → Acc (Less D) c) → ((c : Mono) → Less D c a → (f : Polynomial D) → Vanishes D f S → Greatest D f c → Generated D G f)
            → (f : Polynomial D) → Vanishes D f S → Greatest D f a → Generated D G f
        step a _ rec f v h =
            let l = lead_divides D L S standard leads rows b a (f, v, h) in
            let t = cofactor D L l.0 a l.2 in
            let r = has_row D L S standard leads rows b l.0 l.1 in
            let g : Polynomial D = r.0 in
            let k : ℕ = coefficient D f a in
            let rest : Polynomial D = f ++ multiple D (q * k) t.0 g in
            let none = taken f g a l.0 t.0 t.1 h (row_greatest D L S standard leads rows b g l.0 r.2) (row_monic D L S standard leads rows b g l.0 r.2) in
            let left : Vanishes D rest S = sum_vanishes D L S f (multiple D (q * k) t.0 g) v (multiple_vanishes D L (q * k) t.0 g S (row_vanishes D L S standard leads rows b g l.0 r.2)) in
            generated_same D G (rest ++ multiple D k t.0 g) f (given_back f g k t.0)
            (generated_sum D G rest (multiple D k t.0 g) (elim (greatest D L rest) [ inl z ↦ ([], z) | inr u ↦ rec u.0 (smaller a rest none u.0 u.1 (compared D L a u.0)) rest left u.1 ]) (generated_multiple D k t.0 G g r.1))

    -- A polynomial vanishes at the points exactly where it is a combination of the rows with polynomial factors.
    pub rows_generate : (f : Polynomial D) → Vanishes D f S ↔ Generated D G f
    rows_generate f = ((λ v. go v (greatest D L f)), generated_vanishes D L S G f (λ g mem. let r = has_lead D L S standard leads rows b g mem in row_vanishes D L S standard leads rows b g r.0 r.1))
      where
        go : Vanishes D f S → ((a : Mono) → coefficient D f a ≈ 0) ⊎ ((a : Mono) × Greatest D f a) → Generated D G f
        go v (inl z) = ([], z)
        go v (inr t) = divide t.0 f v t.1

    -- no monomial of the row of c is a multiple of another lead a
    apart : (g h : Polynomial D) (a c : Mono) → RowOf D L S standard leads rows b g a → RowOf D L S standard leads rows b h c → g ≢ h → (d : Mono) → ¬ (coefficient D h d ≈ 0) → ¬ Divides D a d
    apart g h a c r t ne d nz div = go (row_monomials D L S standard leads rows b h c t d nz)
      where
        go : (d ≡ c) ⊎ Among d standard → ⊥
        go (inl e) = ne (same_row D L S standard leads rows b g h a c (leads_minimal D L S standard leads rows b a c r.lead t.lead (subst (Divides D a) e div)) r t)
        go (inr mem) = (standard_undivided D L S standard leads rows b d).0 ((b.standard_members d).0 mem) a r.lead div

    pub basis_reduced : ReducedGroebner D S G
    basis_reduced = record {
      generates = rows_generate;
      leading = λ a l.
          let t = lead_divides D L S standard leads rows b a l in
          let r = has_row D L S standard leads rows b t.0 t.1 in
          (r.0, t.0, r.1, row_greatest D L S standard leads rows b r.0 t.0 r.2, t.2);
      monic = λ g mem. let r = has_lead D L S standard leads rows b g mem in (r.0, row_greatest D L S standard leads rows b g r.0 r.1, row_monic D L S standard leads rows b g r.0 r.1);
      reduced = λ g h mg mh ne a d ga nz.
          let r = has_lead D L S standard leads rows b g mg in
          let t = has_lead D L S standard leads rows b h mh in
          let e = greatest_only D L g r.0 a (row_greatest D L S standard leads rows b g r.0 r.1) ga in
          subst (λ (z : Mono). ¬ Divides D z d) e (apart g h r.0 t.0 r.1 t.1 ne d nz);
    }
