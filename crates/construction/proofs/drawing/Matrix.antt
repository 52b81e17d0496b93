-- The values of the monomials found at the points, as a matrix: what elimination over it says of the monomial in hand. The coefficients that it leaves are the
-- row of a lead, and a row that is not 0 at every point says that the monomial's values are no combination.
use mathlib.Core.Path.{◌≡◌, refl, sym, ap, ◌∙◌}
use mathlib.Core.List.{List, [], ◌∷◌, ◌++◌}
use Prim.Native.Nat.{ℕ, suc, ◌+◌, ◌*◌, ◌<◌, ◌≤◌}
use native.Mathlib.Omega.{arith}
use lib.ListN.{length, get_or, take, drop, get_or-append}
use lib.Seq.{get_or-take, get_or-drop, get_or_at}
use Rattle.residue.specs.Congruence.{Mod}
use Rattle.residue.specs.Lists.{Among, sum_over}
use Rattle.residue.proofs.Congruence.{of, flip, ◌then◌, ◌plus◌, scale, lin}
use Rattle.residue.proofs.Sums.{sum_zero}
use Rattle.residue.proofs.vector.Vectors.{below_take, below_drop}
use Rattle.residue.proofs.Replaced.{part_long}
use Rattle.elimination.proofs.reducing.Combinations.{sum_to, sum_to_front, sum_to_cong, combination}
use Rattle.elimination.proofs.reducing.PivotRows.{PivotRows, Working, ZeroAt}
use Rattle.monomial.specs.Increasing.{Increasing}
use Rattle.specification.specs.Space.{Space}
use Rattle.specification.specs.Polynomial.{eval, coefficient, terms}
use Rattle.specification.specs.Basis.{Row}
use Rattle.specification.proofs.ideal.Laws.{Laws}
use Rattle.specification.proofs.ideal.Lists.{get_d_among, index_of}
use Rattle.specification.proofs.ideal.Newton.{at_lin}
use Rattle.specification.proofs.ideal.Sound.{eval_at}
use Rattle.specification.proofs.drawing.Span.{Spanned}
use Rattle.construction.proofs.drawing.ReducedRows.{no_combination}

-- a sum over a list, by its places
sum_places : {A : Type 0} (d : A) (f : A → ℕ) (l : List A) → sum_over f l ≡ sum_to (λ j. f (get_or l j d)) (length l)
sum_places d f [] = refl
sum_places d f (a ∷ l) = ap (λ (z : ℕ). f a + z) (sum_places d f l) ∙ sym (sum_to_front (λ j. f (get_or (a ∷ l) j d)) (length l))

-- the pivot rows look at the values of the monomials found only
module _ (q n found : ℕ) (v u : ℕ → ℕ → ℕ) (same : (j i : ℕ) → j < found → v j i ≡ u j i) where
  same_combination : (c : ℕ → ℕ) (i : ℕ) → Mod (suc q) (combination v found c i) (combination u found c i)
  same_combination c i = sum_to_cong found (λ j h. of (ap (λ (z : ℕ). c j * z) (same j i h)))

  pub same_values : (rows pivots : List ℕ) → PivotRows q n found v rows pivots → PivotRows q n found u rows pivots
  same_values rows pivots P = record {
    long_rows = P.long_rows;
    long_pivots = P.long_pivots;
    most = P.most;
    room = P.room;
    multiples = P.multiples;
    pivot = P.pivot;
    values = λ t i h l. P.values t i h l then same_combination (λ j. get_or rows (1152 * t + (n + j)) 0) i;
    beyond = P.beyond;
    one = P.one;
    zero = P.zero;
    free = λ d h. P.free d (λ t l. same_combination d (get_or pivots t 0) then h t l);
  }

module _ (D : Space) where
  open D use {q, Mono, Pt, one, val, cmp}

  -- the value of the jth monomial at the ith point; Q stands where there is no point
  abbrev pub values_of : List Mono → List Pt → Pt → ℕ → ℕ → ℕ
  values_of l S Q j i = val (get_or l j one) (get_or S i Q)

  -- a combination of monomials, by their places
  pub terms_places : (cs : List ℕ) (l : List Mono) (P : Pt) → length cs ≡ length l → eval D (terms D cs l) P ≡ sum_to (λ j. get_or cs j 0 * val (get_or l j one) P) (length l)
  terms_places [] [] P e = refl
  terms_places [] (a ∷ l) P e = absurd (omega arith)
  terms_places (c ∷ cs) [] P e = absurd (omega arith)
  terms_places (c ∷ cs) (a ∷ l) P e =
      ap (λ (z : ℕ). c * val a P + z) (terms_places cs l P (omega arith)) ∙ sym (sum_to_front (λ j. get_or (c ∷ cs) j 0 * val (get_or (a ∷ l) j one) P) (length l))

  module _ (standard : List Mono) (S : List Pt) (Q : Pt) where
    abbrev v : ℕ → ℕ → ℕ
    v = values_of standard S Q

    -- with a monomial more the values of the others are what they were
    pub more_values : (b : Mono) (j i : ℕ) → j < length standard → v j i ≡ values_of (standard ++ (b ∷ [])) S Q j i
    more_values b j i h = ap (λ (a : Mono). val a (get_or S i Q)) (sym (get_or-append standard (b ∷ []) one j h))

    pub new_values : (b : Mono) (i : ℕ) → val b (get_or S i Q) ≡ values_of (standard ++ (b ∷ [])) S Q (length standard) i
    new_values b i = ap (λ (a : Mono). val a (get_or S i Q)) (sym (get_or_at standard b [] one (length standard) refl))

    module _ (n : ℕ) (count : length S ≡ n) (b : Mono) (w : List ℕ) (W : Working q n (length standard) v (λ i. val b (get_or S i Q)) w) where
      abbrev cs : List ℕ
      cs = take (length standard) (drop n w)

      module _ (zero : (i : ℕ) → i < n → get_or w i 0 ≡ 0) (fits : n + length standard ≤ 128) where
        long : length cs ≡ length standard
        long = part_long n (length standard) (length standard) w refl (omega (arith, W.long))

        vanishes : (P : Pt) → Among P S → Mod (suc q) (1 * val b P + eval D (terms D cs standard) P) 0
        vanishes P mem = let t = index_of S Q P mem in subst_at t.0 (omega (arith, t.1)) t.2
          where
            at_place : (i : ℕ) → i < n → Mod (suc q) (1 * val b (get_or S i Q) + eval D (terms D cs standard) (get_or S i Q)) 0
            at_place i h =
                let e : Mod (suc q) (eval D (terms D cs standard) (get_or S i Q)) (combination v (length standard) (λ j. get_or w (n + j) 0) i) =
                of (terms_places cs standard (get_or S i Q) long)
                then sum_to_cong (length standard) (λ j k. of (ap (λ (z : ℕ). z * val (get_or standard j one) (get_or S i Q)) (get_or-take (length standard) (drop n w) j 0 k ∙ get_or-drop n w j 0))) in
                lin (e plus flip (of (sym (zero i h)) then W.values i h)) 0 0 (omega arith)

            subst_at : (i : ℕ) → i < n → get_or S i Q ≡ P → Mod (suc q) (1 * val b P + eval D (terms D cs standard) P) 0
            subst_at i h e = rw (sym e) (at_place i h)

        -- 0 at every point: the coefficients are a row of the monomial
        pub is_row : Row D S standard b cs
        is_row = record { long = long; residues = λ c mem. small c (index_of cs 0 c mem); vanishes = vanishes }
          where
            small : (c : ℕ) → (i : ℕ) × (i < length cs) × (get_or cs i 0 ≡ c) → c < suc q
            small c (i, h, e) = rw (sym e) (below_take (suc q) (length standard) (drop n w) (below_drop (suc q) n w W.below) i h)

      -- not 0 at some point: its values are no combination
      pub not_combined : (rows pivots : List ℕ) → PivotRows q n (length standard) v rows pivots → ZeroAt pivots (length standard) w → (i : ℕ) → i < n → (get_or w i 0 ≡ 0 → ⊥)
          → ¬ Spanned D S standard (val b)
      not_combined rows pivots P z i h ne (c, s) =
          no_combination q n (length standard) v rows pivots P (λ i. val b (get_or S i Q)) w W z i h ne (λ j. c (get_or standard j one))
          (λ k l. of (sym (sum_places one (λ a. c a * val a (get_or S k Q)) standard)) then s (get_or S k Q) (get_d_among S k Q (omega arith)))

  -- a row says that the values are a combination
  pub row_spanned : (L : Laws D) (S : List Pt) (standard : List Mono) (b : Mono) (cs : List ℕ) → Increasing cmp standard → Row D S standard b cs → Spanned D S standard (val b)
  row_spanned L S standard b cs i r = (
    (λ a. 0 + q * coefficient D (terms D cs standard) a),
    λ P mem.
        at_lin D (λ a. 0) (coefficient D (terms D cs standard)) q standard P
        then lin (sum_zero {f = λ a. 0 * val a P} standard (λ a _. of (omega arith)) plus scale q (flip (eval_at D L standard i cs P)) plus scale q (r.vanishes P mem)) (val b P) 0 (omega arith),
  )
