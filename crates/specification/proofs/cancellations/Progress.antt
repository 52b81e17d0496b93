-- Drawing up's own walk counts the cancellations: what its loop holds beside the tables, before and after a monomial is examined, and at the end.
use mathlib.Core.Path.{◌≡◌, refl, sym, subst}
use mathlib.Core.List.{List, [], ◌∷◌, ◌++◌}
use mathlib.Core.Logic.{◌⊎◌, inl, inr}
use Prim.Native.Nat.{ℕ, suc, ◌+◌, ◌*◌, ◌<◌, ◌≤◌}
use native.Mathlib.Omega.{arith}
use lib.ListN.{length, get_or, set, take, length-append}
use Rattle.residue.specs.Inverse.{inverse_of}
use Rattle.elimination.specs.Elimination.{eliminated, cancellations, multiples_of}
use Rattle.residue.specs.Lists.{Among}
use Rattle.specification.specs.Space.{Space, Less, Divides}
use Rattle.specification.specs.Polynomial.{Distinct}
use Rattle.specification.specs.BasisOf.{standard_of, leads_of}
use Rattle.residue.specs.Layout.{fill, with_place}
use Rattle.elimination.specs.Rows.{first_nonzero, pivot_row}
use Rattle.specification.proofs.ideal.Laws.{Laws, trans, less_ne}
use Rattle.specification.proofs.ideal.Lists.{snoc_of, snoc_in}
use Rattle.specification.proofs.drawing.UpTo.{Drawn, Next, Bordered}
use Rattle.specification.specs.Cancellations.{Pivot, Found, found, value_column, pivot_of, examined, cancellations_of}
use Rattle.specification.specs.Examination.{Follows, Examines, done, more, Examination}
use Rattle.specification.proofs.cancellations.Walk.{follows, divided_above}
use Rattle.specification.proofs.cancellations.Counted.{cancellations_only}
use Rattle.elimination.proofs.reducing.Eliminated.{cancellations_most}
use Rattle.specification.proofs.cancellations.Tables.{RowsTabled}
use Rattle.specification.proofs.cancellations.Turns.{lead_turn, standard_turn, table_turn, table_none}

module _ (D : Space) (S : List D.Pt) (n : ℕ) where
  open D use {Mono}

  -- b is examined next; `total` cancellations have been made
  pub record Ready (standard leads : List Mono) (total : ℕ) (rows pivots : List ℕ) (b : Mono) : Type 0 where
    pub found_pivots : List Pivot
    pub tabled : RowsTabled n found_pivots rows pivots
    pub paired : length found_pivots ≡ length standard
    pub few_made : total ≤ n * (length standard + length leads)
    pub low : (a : Mono) → Among a standard → ¬ Less D b a
    pub on : (g : Found D) → Examines D S g b (examined D S b (found D standard leads found_pivots total)) → Examination D S g

  -- b was examined last
  pub record Passed (standard leads : List Mono) (total : ℕ) (rows pivots : List ℕ) (b : Mono) : Type 0 where
    pub found_pivots : List Pivot
    pub tabled : RowsTabled n found_pivots rows pivots
    pub paired : length found_pivots ≡ length standard
    pub of_found : Among b standard ⊎ Among b leads
    pub few_made : total ≤ n * (length standard + length leads)
    pub low : (a : Mono) → Among a standard → ¬ Less D b a
    pub on : (g : Found D) → Examines D S g b (found D standard leads found_pivots total) → Examination D S g

module _ (D : Space) (L : Laws D) (S : List D.Pt) (d : Distinct D S) (n : ℕ) (count : length S ≡ n) (few : n ≤ 64) where
  open D use {q, Mono, one}

  pub ready_start : (rows pivots : List ℕ) → Ready D S n [] [] 0 rows pivots one
  ready_start rows pivots = record { found_pivots = []; tabled = table_none n rows pivots; paired = refl; few_made = omega arith; low = λ a mem. absurd mem; on = λ g h. h }

  module _ (standard leads : List Mono) (total : ℕ) (rows pivots : List ℕ) (b : Mono) where
    -- the working row, and what elimination leaves of it
    abbrev work : List ℕ
    work = fill 128 (value_column D S b)

    abbrev left : List ℕ
    left = eliminated (suc q) rows pivots (length standard) work

    abbrev made : ℕ
    made = cancellations (suc q) rows pivots (length standard) work

    module _ (R : Ready D S n standard leads total rows pivots b) where
      abbrev f : Found D
      f = found D standard leads R.found_pivots total

      more_made : (s : ℕ) → length standard ≤ n → s ≡ suc (length standard + length leads) → total + made ≤ n * s
      more_made s r e = rw e (omega (arith, r, R.few_made, cancellations_most (suc q) rows pivots work (length standard)))

      pub pass_lead : length standard ≤ n → first_nonzero n left ≡ n → Passed D S n standard (leads ++ (b ∷ [])) (total + made) rows pivots b
      pass_lead r e = record {
        found_pivots = R.found_pivots;
        tabled = R.tabled;
        paired = R.paired;
        of_found = inr (snoc_in leads b b (inr refl));
        few_made = more_made (length standard + length (leads ++ (b ∷ []))) r (omega (arith, length-append leads (b ∷ [])));
        low = R.low;
        on = λ g h. R.on g (subst (Examines D S g b) (sym turned) h);
      }
        where
          turned : examined D S b f ≡ found D standard (leads ++ (b ∷ [])) R.found_pivots (total + made)
          turned = rw R.paired at (lead_turn D S n count few f b rows pivots R.tabled (rw R.paired e))

      pub pass_standard : length standard ≤ n → first_nonzero n left < n → D.inv (get_or left (first_nonzero n left) 0) ≡ inverse_of (suc q) (get_or left (first_nonzero n left) 0) →
          1152 * length standard + 1152 ≤ length rows → length standard < length pivots → n + length standard < 128 → 2 ≤ suc q →
          Passed D S n (standard ++ (b ∷ [])) leads (total + made)
          (with_place 1152 (length standard) (multiples_of (suc q) (pivot_row (suc q) (n + length standard) (inverse_of (suc q) (get_or left (first_nonzero n left) 0)) left)) rows)
          (set pivots (length standard) (first_nonzero n left)) b
      pass_standard r s i fits room own range = record {
        found_pivots = R.found_pivots ++ (pivot_of D (take n left) ∷ []);
        tabled = rw R.paired at (table_turn D S n count few f b rows pivots R.tabled (rw R.paired s) (rw R.paired i) (rw R.paired fits) (rw R.paired room) (rw R.paired own) range);
        paired = omega (arith, R.paired, length-append R.found_pivots (pivot_of D (take n left) ∷ []), length-append standard (b ∷ []));
        of_found = inl (snoc_in standard b b (inr refl));
        few_made = more_made (length (standard ++ (b ∷ [])) + length leads) r (omega (arith, length-append standard (b ∷ [])));
        low = λ a mem h. elim (snoc_of standard b a mem) [ inl z ↦ R.low a z h | inr e ↦ less_ne D L h (sym e) ];
        on = λ g h. R.on g (subst (Examines D S g b) (sym turned) h);
      }
        where
          turned : examined D S b f ≡ found D (standard ++ (b ∷ [])) leads (R.found_pivots ++ (pivot_of D (take n left) ∷ [])) (total + made)
          turned = rw R.paired at (standard_turn D S n count few f b rows pivots R.tabled (rw R.paired s))

    module _ (P : Passed D S n standard leads total rows pivots b) where
      -- the search found the least product a behind c, the last one passed
      pub ready_next : (c a : Mono) → Drawn D S standard leads c → Next D standard leads c a → Bordered D standard a → Ready D S n standard leads total rows pivots a
      ready_next c a W next border = record {
        found_pivots = P.found_pivots;
        tabled = P.tabled;
        paired = P.paired;
        few_made = P.few_made;
        low = λ e mem h. P.low e mem (trans D L F.after h);
        on = λ g h. P.on g (more a F h);
      }
        where
          F : Follows D leads b a
          F = follows D L S d standard leads c W b a next border (λ h. elim P.of_found [ inl z ↦ W.standard_to.not_above b z h | inr z ↦ W.leads_to.not_above b z h ]) P.low

      -- it found none
      pub passed_all : standard ≡ standard_of D S → leads ≡ leads_of D S → total ≡ cancellations_of D S
      passed_all e h = cancellations_only D L S d (found D standard leads P.found_pivots total) (P.on _ (done all refl))
        where
          all : (a : Mono) → Less D b a → ¬ ((l : Mono) → Among l leads → ¬ Divides D l a)
          all a k u = divided_above D L S d b (λ z mem. P.low z (rw e mem)) a k (λ l mem. u l (rw h mem))
