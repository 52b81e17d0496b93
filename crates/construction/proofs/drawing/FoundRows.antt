-- The rows of the leads found while drawing up: each is a row over the standard monomials found so far; when all are found they are the basis's rows.
use mathlib.Core.Path.{◌≡◌, refl, ap, ap₂}
use mathlib.Core.List.{List, [], ◌∷◌, ◌++◌, map}
use Prim.Native.Nat.{ℕ, zero, suc}
use lib.ListN.{length}
use Rattle.residue.specs.Layout.{fill, in_places}
use Rattle.specification.specs.Space.{Space}
use Rattle.specification.specs.Polynomial.{Distinct}
use Rattle.specification.specs.Basis.{Row, Rows}
use Rattle.specification.specs.BasisOf.{standard_of, row_of}
use Rattle.specification.proofs.ideal.Laws.{Laws}
use Rattle.specification.proofs.ideal.Basis.{row_only}
use Rattle.specification.proofs.drawing.UpTo.{row_longer}

-- a coefficient 0 more is what the place holds already
fill_longer : (k : ℕ) (cs : List ℕ) → fill k (cs ++ (0 ∷ [])) ≡ fill k cs
unfolding fill
fill_longer zero cs = refl
fill_longer (suc k) [] = refl
fill_longer (suc k) (c ∷ cs) = ap (λ (z : List ℕ). c ∷ z) (fill_longer k cs)

abbrev pub longer : List (List ℕ) → List (List ℕ)
longer rs = map (λ cs. cs ++ (0 ∷ [])) rs

pub places_longer : (w : ℕ) (rs : List (List ℕ)) → in_places w (longer rs) ≡ in_places w rs
unfolding in_places
places_longer w [] = refl
places_longer w (cs ∷ rs) = ap₂ ◌++◌ (fill_longer w cs) (places_longer w rs)

module _ (D : Space) (S : List D.Pt) where
  open D use {Mono}

  module _ (standard : List Mono) where
    pub rows_count : (l : List Mono) (rs : List (List ℕ)) → Rows D S standard l rs → length rs ≡ length l
    rows_count [] [] h = refl
    rows_count [] (r ∷ rs) h = absurd h
    rows_count (a ∷ l) [] h = absurd h
    rows_count (a ∷ l) (r ∷ rs) h = ap suc (rows_count l rs h.1)

    -- a lead more
    pub rows_more : (l : List Mono) (rs : List (List ℕ)) (a : Mono) (r : List ℕ) → Rows D S standard l rs → Row D S standard a r → Rows D S standard (l ++ (a ∷ [])) (rs ++ (r ∷ []))
    rows_more [] [] a r h k = (k, tt)
    rows_more [] (x ∷ rs) a r h k = absurd h
    rows_more (b ∷ l) [] a r h k = absurd h
    rows_more (b ∷ l) (x ∷ rs) a r h k = (h.0, rows_more l rs a r h.1 k)

    -- a standard monomial more
    pub rows_longer : (b : Mono) (l : List Mono) (rs : List (List ℕ)) → Rows D S standard l rs → Rows D S (standard ++ (b ∷ [])) l (longer rs)
    rows_longer b [] [] h = tt
    rows_longer b [] (x ∷ rs) h = absurd h
    rows_longer b (a ∷ l) [] h = absurd h
    rows_longer b (a ∷ l) (x ∷ rs) h = (row_longer D S standard a x b h.0, rows_longer b l rs h.1)

  -- all are found
  pub rows_only : (L : Laws D) → Distinct D S → (l : List Mono) (rs : List (List ℕ)) → Rows D S (standard_of D S) l rs → rs ≡ map (row_of D S) l
  rows_only L d [] [] h = refl
  rows_only L d [] (r ∷ rs) h = absurd h
  rows_only L d (a ∷ l) [] h = absurd h
  rows_only L d (a ∷ l) (r ∷ rs) h = ap₂ (λ (x : List ℕ) (z : List (List ℕ)). x ∷ z) (row_only D L S d a r h.0) (rows_only L d l rs h.1)
