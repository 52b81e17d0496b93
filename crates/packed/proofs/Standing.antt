-- What has been found by the packed way is the basis up to the last monomial, with reduced pivots and with words for the rows; and one step keeps it so.
use mathlib.Core.Path.{◌≡◌, refl, sym, ap, ◌∙◌, subst}
use mathlib.Core.Bool.{Bool, cond}
use mathlib.Core.List.{List, [], ◌∷◌, ◌++◌}
use mathlib.Core.Logic.{inl, inr}
use Prim.Native.Nat.{ℕ, suc, ◌^◌, ◌<◌, ◌≤◌}
use native.Mathlib.Nat.{lt_trans}
use native.Mathlib.Omega.{arith}
use lib.ListN.{length, get_or, length-append}
use lib.Dec.{T, eqb, eqb→eq}
use lib.Pow.{pow-lt}
use Rattle.residue.specs.Congruence.{Mod}
use Rattle.residue.specs.Lists.{Among}
use Rattle.residue.proofs.Congruence.{of, lin, ◌plus◌}
use Rattle.residue.proofs.Tests.{Decides, so, not_so, by_test}
use Rattle.specification.specs.Space.{Space}
use Rattle.specification.specs.Polynomial.{Distinct}
use Rattle.specification.specs.Basis.{Row}
use Rattle.specification.specs.BasisOf.{standard_of, leads_of}
use Rattle.specification.proofs.ideal.Laws.{Laws, same_told}
use Rattle.specification.proofs.drawing.UpTo.{Drawn, Front, Bordered, row_longer, is_lead, is_standard}
use Rattle.residue.specs.Words.{bits_of}
use Rattle.specification.specs.Squares.{variable, square, Boolean}
use Rattle.words.specs.Packed.{rest_of, pivot_from, with_pivot, polynomial_at}
use Rattle.packed.specs.PackedWalk.{PackedFound, packed_found, settled_words, examined_words, index_in}
use Rattle.residue.proofs.BitLaws.{bits_length, bits_among, bits_longer}
use Rattle.packed.proofs.PolynomialLaws.{poly_single}
use Rattle.specification.proofs.Squares.{same_value}
use Rattle.packed.proofs.Reduction.{own, Reduced, rest_small, up, down, row_spanned, zero_row, other_unspanned}
use Rattle.packed.proofs.Pivoting.{reduced_more}

module _ (D : Space) (S : List D.Pt) where
  open D use {Mono, Pt, val}

  -- a word is the row of a lead
  pub record RowWord (standard : List Mono) (a : Mono) (f : ℕ) : Type 0 where
    pub row : Row D S standard a (bits_of (length standard) f)
    pub small : f < 2 ^ length standard

  abbrev pub RowWords : List Mono → List Mono → List ℕ → Type 0
  RowWords standard [] [] = Unit {0}
  RowWords standard [] (f ∷ fs) = ⊥
  RowWords standard (a ∷ l) [] = ⊥
  RowWords standard (a ∷ l) (f ∷ fs) = RowWord standard a f × RowWords standard l fs

  row_more : (standard : List Mono) (b a : Mono) (f : ℕ) → RowWord standard a f → RowWord (standard ++ (b ∷ [])) a f
  row_more standard b a f r =
      let e : length (standard ++ (b ∷ [])) ≡ suc (length standard) = omega (arith, length-append standard (b ∷ [])) in
      record {
        row = subst (Row D S (standard ++ (b ∷ [])) a) (sym (ap (λ (k : ℕ). bits_of k f) e ∙ bits_longer (length standard) f r.small))
            (row_longer D S standard a (bits_of (length standard) f) b r.row);
        small = subst (λ (k : ℕ). f < 2 ^ k) (sym e) (lt_trans r.small (pow-lt (omega arith)));
      }

  pub rows_more : (standard : List Mono) (b : Mono) (l : List Mono) (fs : List ℕ) → RowWords standard l fs → RowWords (standard ++ (b ∷ [])) l fs
  rows_more standard b [] [] r = tt
  rows_more standard b [] (f ∷ fs) r = absurd r
  rows_more standard b (a ∷ l) [] r = absurd r
  rows_more standard b (a ∷ l) (f ∷ fs) r = (row_more standard b a f r.0, rows_more standard b l fs r.1)

  pub rows_snoc : (standard : List Mono) (l : List Mono) (fs : List ℕ) (a : Mono) (f : ℕ) → RowWords standard l fs → RowWord standard a f
      → RowWords standard (l ++ (a ∷ [])) (fs ++ (f ∷ []))
  rows_snoc standard [] [] a f r h = (h, tt)
  rows_snoc standard [] (g ∷ fs) a f r h = absurd r
  rows_snoc standard (c ∷ l) [] a f r h = absurd r
  rows_snoc standard (c ∷ l) (g ∷ fs) a f r h = (r.0, rows_snoc standard l fs a f r.1 h)

  pub record Standing (f : PackedFound D) (c : Mono) : Type 0 where
    pub drawn : Drawn D S f.standard f.leads c
    pub reduced : Reduced D S f.standard f.pivots
    pub rowed : RowWords f.standard f.leads f.rows

  module _ (L : Laws D) where
    -- the place of a monomial in a list
    pub index_at : (a d : Mono) (l : List Mono) → Among a l → (index_in D a l < length l) × (get_or l (index_in D a l) d ≡ a)
    unfolding index_in
    index_at a d (b ∷ l) mem = go (same_told D L a b) mem (index_at a d l)
      where
        go : {t : Bool} → Decides (a ≡ b) t → Among a (b ∷ l) → (Among a l → (index_in D a l < length l) × (get_or l (index_in D a l) d ≡ a))
            → (cond t 0 (suc (index_in D a l)) < suc (length l)) × (get_or (b ∷ l) (cond t 0 (suc (index_in D a l))) d ≡ a)
        go (so e) u ih = (omega arith, sym e)
        go (not_so n) (inl e) ih = absurd (n e)
        go (not_so n) (inr u) ih = let t = ih u in (omega (arith, t.0), t.1)
    index_at a d [] mem = elim mem [ ]

    module _ (B : Boolean D) where
      open D use {m}

      -- the row of a square: the one bit of its variable
      pub square_word : (standard : List Mono) (k : ℕ) → k < m → Among (variable D k) standard
          → RowWord standard (square D k) (2 ^ index_in D (variable D k) standard)
      unfolding polynomial_at
      square_word standard k h mem = let t = index_at (variable D k) (variable D k) standard mem in record {
        row = record {
          long = bits_length (length standard) _;
          residues = λ c z. subst (λ (y : ℕ). c < suc y) (sym B.two) (bits_among (length standard) _ c z);
          vanishes = λ P z. up D S L B (lin (value P t.0 t.1 plus down D S L B (same_value D L B k h P)) 0 (val (variable D k) P) (omega arith));
        };
        small = pow-lt t.0;
      }
        where
          value : (P : Pt) → index_in D (variable D k) standard < length standard → get_or standard (index_in D (variable D k) standard) (variable D k) ≡ variable D k
              → Mod 2 (polynomial_at D standard (2 ^ index_in D (variable D k) standard) P) (val (variable D k) P)
          value P i e = of (poly_single D standard (index_in D (variable D k) standard) (variable D k) P i ∙ ap (λ (a : Mono). val a P) e)

      module _ (d : Distinct D S) (few : length S ≤ 64) (f : PackedFound D) (b : Mono) (R : Reduced D S f.standard f.pivots) (r : RowWords f.standard f.leads f.rows)
          (front : Front D S f.standard b) (bordered : Bordered D f.standard b)
          (as_standard : Among b (standard_of D S) → Drawn D S (f.standard ++ (b ∷ [])) f.leads b)
          (as_lead : Among b (leads_of D S) → Drawn D S f.standard (f.leads ++ (b ∷ [])) b) where
        told : (n : ℕ) → Decides (n ≡ 0) (eqb n 0)
        told n = by_test (eqb n 0) (λ e. eqb→eq n 0 (subst T (sym e) tt)) (λ e. rw e refl)

        pub examined_standing : Standing (examined_words D S b f) b
        unfolding examined_words settled_words
        examined_standing = go (told (rest_of (own D S b) f.pivots).column)
          where
            go : {t : Bool} → Decides ((rest_of (own D S b) f.pivots).column ≡ 0) t
                → Standing (cond t (packed_found D f.standard (f.leads ++ (b ∷ [])) (f.rows ++ ((rest_of (own D S b) f.pivots).polynomial ∷ [])) f.pivots)
                (packed_found D (f.standard ++ (b ∷ [])) f.leads f.rows (with_pivot (pivot_from (length f.standard) (rest_of (own D S b) f.pivots)) f.pivots))) b
            go (so e) = let w = zero_row D S L B f.standard f.pivots R b e in record {
              drawn = as_lead (is_lead D L S d f.standard b front bordered (row_spanned D S L B f.standard front.increasing b _ w));
              reduced = R;
              rowed = rows_snoc f.standard f.leads f.rows b _ r (record { row = w; small = rest_small D S f.standard f.pivots R b });
            }
            go (not_so n) = record {
              drawn = as_standard (is_standard D L S d f.standard b front (other_unspanned D S L B f.standard f.pivots R b n));
              reduced = reduced_more D S few f.standard f.pivots R b n;
              rowed = rows_more f.standard b f.leads f.rows r;
            }
