-- Adding a point, as the tables have it: the first row that is not zero there, the column put in, the rows that stay.
use mathlib.Core.Path.{◌≡◌, sym, ◌∙◌, ap, subst}
use mathlib.Core.List.{List, [], ◌∷◌}
use mathlib.Core.Logic.{inl, inr, ◌≢◌}
use Prim.Native.Nat.{ℕ, zero, suc, ◌+◌, ◌*◌, ◌%◌, ◌<◌, suc-le-suc, zero-le}
use native.Mathlib.Omega.{arith}
use native.Mathlib.Nat.{mod-lt}
use lib.ListN.{length, get_or}
use Rattle.residue.specs.Congruence.{Mod}
use Rattle.residue.specs.Lists.{Among}
use Rattle.residue.proofs.Congruence.{rfl, of, flip, ◌then◌, ◌plus◌, ◌times◌, scale, lin, reduce}
use Rattle.residue.proofs.Sums.{each}
use Rattle.residue.proofs.Tests.{cond_so, cond_not}
use Rattle.monomial.specs.Increasing.{inserted}
use Rattle.specification.specs.Space.{Space}
use Rattle.specification.specs.Polynomial.{eval, Distinct, terms}
use Rattle.specification.specs.Basis.{Row}
use Rattle.specification.specs.Extension.{slot, minus, extended, first, grow}
use Rattle.specification.specs.BasisOf.{basis_of, standard_of, leads_of, row_of, rows_of}
use Rattle.specification.proofs.ideal.Laws.{Laws, zero_told}
use Rattle.specification.proofs.ideal.Lists.{get_d_among, index_of}
use Rattle.specification.proofs.ideal.Newton.{error}
use Rattle.specification.proofs.ideal.Staircase.{Holds}
use Rattle.specification.proofs.ideal.ZeroSet.{zeros}
use Rattle.specification.proofs.ideal.Columns.{slot_length, slot_value, slot_members, minus_length, minus_small, minus_value}
use Rattle.specification.proofs.ideal.Extend.{error_holds}
use Rattle.specification.proofs.ideal.Sound.{gap_of, gap_error}
use Rattle.specification.proofs.ideal.Basis.{coefficients_of, rows_at, staircase, row_value_lem, row_is, row_only}

module _ (D : Space) where
  open D use {q, m, Mono, Pt, one, val, cmp, inv}

  infix 35 ◌≈◌
  abbrev ◌≈◌ : ℕ → ℕ → Type 0
  a ≈ b = Mod (suc q) a b

  -- the value at P of the row cs of a
  abbrev pub row_value : List Mono → Mono → List ℕ → Pt → ℕ
  row_value standard a cs P = eval D ((1, a) ∷ terms D cs standard) P

  -- the row cs of a less the multiple of α's row rs that makes it vanish at P, with α's column put in
  module _ (l : List Mono) (P : Pt) (α : Mono) (rs : List ℕ) where
    unfoldable pub ratio : Mono → List ℕ → ℕ
    ratio a cs = (row_value l a cs P * inv (row_value l α rs P)) % suc q

    unfoldable pub kept : Mono → List ℕ → List ℕ
    kept a cs = slot D α ((q * ratio a cs) % suc q) l (minus D cs (ratio a cs) rs)

  module _ (L : Laws D) where
    open L use {inv_law}

    -- A row when a point P is added at which α's row rs is not zero: that row taken off as often as makes it vanish at P.
    module _ (S : List Pt) (l : List Mono) (P : Pt) (α : Mono) (rs : List ℕ) (rα : Row D S l α rs) (ne : ¬ (row_value l α rs P ≈ 0)) (fresh : (b : Mono) → Among b l → α ≢ b) where
      kept_value : (a : Mono) (cs : List ℕ) → length cs ≡ length l → (Q : Pt)
          → row_value (inserted cmp α l) a (kept l P α rs a cs) Q ≈ row_value l a cs Q + q * (ratio l P α rs a cs * row_value l α rs Q)
      unfolding kept
      kept_value a cs e Q = rfl {x = 1 * val a Q}
          plus (of (slot_value D L α ((q * k) % suc q) l (minus D cs k rs) (λ b. val b Q) (minus_length D cs k rs (e ∙ sym rα.long) ∙ e) fresh)
          then (reduce (suc q) (q * k) times rfl {x = val α Q}) plus minus_value D cs k rs l (λ b. val b Q) (e ∙ sym rα.long) e) then of (omega arith)
        where
          k : ℕ
          k = ratio l P α rs a cs

      pub row_kept : (a : Mono) (cs : List ℕ) → Row D S l a cs → Row D (P ∷ S) (inserted cmp α l) a (kept l P α rs a cs)
      unfolding kept ratio
      row_kept a cs r = record {
        long = slot_length D L α ((q * k) % suc q) l (minus D cs k rs) (minus_length D cs k rs same_long ∙ r.long);
        residues = λ c mem. elim (slot_members D L α ((q * k) % suc q) l (minus D cs k rs) c mem) [ inl e ↦ rw e (mod-lt (q * k) (suc-le-suc zero-le)) | inr z ↦ minus_small D cs k rs c z ];
        vanishes = each S (kept_value a cs r.long P then here (row_value l a cs P) (row_value l α rs P) (inv (row_value l α rs P)) k (reduce (suc q) _) (inv_law _ ne))
            (λ Q mem. kept_value a cs r.long Q then lin (r.vanishes Q mem plus scale (q * k) (rα.vanishes Q mem)) 0 0 (omega arith));
      }
        where
          k : ℕ
          k = ratio l P α rs a cs

          same_long : length cs ≡ length rs
          same_long = r.long ∙ sym rα.long

          here : (u v i k : ℕ) → k ≈ u * i → v * i ≈ 1 → u + q * (k * v) ≈ 0
          here u v i k h e = lin (scale (q * v) h plus scale (q * u) e) 0 u (omega arith)

  -- the value at P of the i-th row of the basis of S
  abbrev pub value_of : List Pt → Pt → ℕ → ℕ
  value_of S P i = row_value (standard_of D S) (get_or (leads_of D S) i one) (get_or (rows_of D S) i []) P

  module _ (L : Laws D) (S : List Pt) (d : Distinct D S) (P : Pt) where
    value_error : (i : ℕ) → i < length (leads_of D S) → value_of S P i ≈ error D (standard_of D S) (coefficients_of D S) P (val (get_or (leads_of D S) i one))
    value_error i h = of (ap (λ (z : List ℕ). row_value (standard_of D S) (get_or (leads_of D S) i one) z P) (rows_at D S i h)) then row_value_lem D L S d (get_or (leads_of D S) i one) P

    value_holds : (i : ℕ) → i < length (leads_of D S) → value_of S P i ≈ 0 → (a : Mono) → get_or (leads_of D S) i one ≡ a → Holds D (standard_of D S) (coefficients_of D S) P a
    value_holds i h z a e = error_holds D (standard_of D S) (coefficients_of D S) P a (rw e at (flip (value_error i h) then z))

    -- the rows vanish together at the points alone
    pub zero_set : ((i : ℕ) → i < length (leads_of D S) → value_of S P i ≈ 0) → Among P S
    zero_set h = zeros D L S (standard_of D S) (leads_of D S) (coefficients_of D S) (staircase D L S d) P
        (λ b mem. let t = index_of (leads_of D S) one b mem in value_holds t.0 t.1 (h t.0 t.1) b t.2)

    first_at : (h : List Mono) (j : ℕ) → j < length h → ((i : ℕ) → i < j → gap_of D (basis_of D S) P (val (get_or h i one)) ≈ 0)
        → ¬ (gap_of D (basis_of D S) P (val (get_or h j one)) ≈ 0) → first D (basis_of D S) P h ≡ get_or h j one
    unfolding first
    first_at [] j mem z ne = absurd (omega arith)
    first_at (a ∷ h) zero mem z ne = cond_not (zero_told q (gap_of D (basis_of D S) P (val a))) ne (first D (basis_of D S) P h) a
    first_at (a ∷ h) (suc j) mem z ne = cond_so (zero_told q (gap_of D (basis_of D S) P (val a))) (z 0 (omega arith)) (first D (basis_of D S) P h) a
        ∙ first_at h j (omega arith) (λ i k. z (suc i) (omega arith)) ne

    -- docs/SCOPE.md, 'The sheet': of the increasing rows the first that does not vanish at the new point is taken; its lead becomes standard
    pub grow_at : (j : ℕ) → j < length (leads_of D S) → ((i : ℕ) → i < j → value_of S P i ≈ 0) → ¬ (value_of S P j ≈ 0)
        → (standard_of D (P ∷ S) ≡ inserted cmp (get_or (leads_of D S) j one) (standard_of D S)) × (leads_of D (P ∷ S) ≡ extended D (leads_of D S) (get_or (leads_of D S) j one) m)
    unfolding basis_of grow
    grow_at j h z ne = (ap (λ (a : Mono). inserted cmp a (standard_of D S)) e, ap (λ (a : Mono). extended D (leads_of D S) a m) e)
      where
        gap_value : (i : ℕ) → i < length (leads_of D S) → gap_of D (basis_of D S) P (val (get_or (leads_of D S) i one)) ≈ value_of S P i
        gap_value i k = gap_error D L (basis_of D S) (staircase D L S d).increasing P (val (get_or (leads_of D S) i one)) then flip (value_error i k)

        e : first D (basis_of D S) P (leads_of D S) ≡ get_or (leads_of D S) j one
        e = first_at (leads_of D S) j h (λ i k. gap_value i (omega arith) then z i k) (λ mem. ne (flip (gap_value j h) then mem))

    -- the point is a new one,
    pub new_point : (j : ℕ) → j < length (leads_of D S) → ¬ (value_of S P j ≈ 0) → (Q : Pt) → Among Q S → P ≢ Q
    new_point j h ne Q mem e = ne (of (ap (λ (z : List ℕ). row_value (standard_of D S) (get_or (leads_of D S) j one) z P) (rows_at D S j h))
        then (row_is D L S d (get_or (leads_of D S) j one)).vanishes P (subst (λ (R : Pt). Among R S) (sym e) mem))

    -- and the row of any monomial, a lead that stays or a new one, is its old row less a multiple of the one that went
    pub row_grown : (j : ℕ) → j < length (leads_of D S) → ((i : ℕ) → i < j → value_of S P i ≈ 0) → ¬ (value_of S P j ≈ 0)
        → (a : Mono) → let α = get_or (leads_of D S) j one in kept (standard_of D S) P α (row_of D S α) a (row_of D S a) ≡ row_of D (P ∷ S) a
    row_grown j h z ne a = row_only D L (P ∷ S) (new_point j h ne, d) a (kept (standard_of D S) P α (row_of D S α) a (row_of D S a))
        (subst (λ (l : List Mono). Row D (P ∷ S) l a (kept (standard_of D S) P α (row_of D S α) a (row_of D S a))) (sym (grow_at j h z ne).0)
        (row_kept L S (standard_of D S) P α (row_of D S α) (row_is D L S d α) not_zero fresh a (row_of D S a) (row_is D L S d a)))
      where
        α : Mono
        α = get_or (leads_of D S) j one

        not_zero : ¬ (row_value (standard_of D S) α (row_of D S α) P ≈ 0)
        not_zero u = ne (of (ap (λ (z : List ℕ). row_value (standard_of D S) α z P) (rows_at D S j h)) then u)

        fresh : (b : Mono) → Among b (standard_of D S) → α ≢ b
        fresh b mem e = (staircase D L S d).outside α (get_d_among (leads_of D S) j one h) (subst (λ (b : Mono). Among b (standard_of D S)) (sym e) mem)
