-- What the walk keeps beside the tables: the columns of the standard monomials by their bytes, and the places of the variables among them.
use mathlib.Core.Path.{◌≡◌, refl, sym, ap, ◌∙◌}
use mathlib.Core.Bool.{Bool, cond}
use mathlib.Core.List.{List, [], ◌∷◌, ◌++◌}
use mathlib.Core.Logic.{inl, inr, ◌≢◌}
use Prim.Native.Nat.{ℕ, suc, ◌+◌, ◌*◌, ◌≤◌}
use native.Mathlib.Omega.{arith}
use lib.ListN.{length}
use Rattle.residue.specs.Lists.{Among}
use Rattle.residue.specs.Layout.{fill, in_places, with_place}
use Rattle.residue.proofs.Layouts.{fill_exact}
use Rattle.residue.proofs.Replaced.{table_more}
use Rattle.residue.proofs.Tests.{Decides, so, not_so, cond_so, cond_not}
use Rattle.specification.specs.Space.{Space, same}
use Rattle.specification.specs.Squares.{is_in}
use Rattle.specification.proofs.Squares.{is_in_told}
use Rattle.specification.proofs.ideal.Laws.{Laws, same_told}
use Rattle.specification.proofs.ideal.Lists.{snoc_of, snoc_in}
use Rattle.packed.specs.PackedWalk.{index_in}

module _ (D : Space) where
  open D use {Mono}

  -- the place of a monomial in a list, counted from 1; 0 where it is not there
  unfoldable pub place_in : Mono → List Mono → ℕ
  place_in a l = cond (is_in D a l) (suc (index_in D a l)) 0

  module _ (L : Laws D) where
    pub place_of : (a : Mono) (l : List Mono) → Among a l → place_in a l ≡ suc (index_in D a l)
    unfolding place_in
    place_of a l mem = cond_so (is_in_told D L a l) mem (suc (index_in D a l)) 0

    pub place_none : (a : Mono) (l : List Mono) → ¬ Among a l → place_in a l ≡ 0
    unfolding place_in
    place_none a l out = cond_not (is_in_told D L a l) out (suc (index_in D a l)) 0

    index_snoc : (a b : Mono) (l : List Mono) → Among a l → index_in D a (l ++ (b ∷ [])) ≡ index_in D a l
    unfolding index_in
    index_snoc a b (c ∷ l) mem = go (same_told D L a c) mem (index_snoc a b l)
      where
        go : {t : Bool} → Decides (a ≡ c) t → Among a (c ∷ l) → (Among a l → index_in D a (l ++ (b ∷ [])) ≡ index_in D a l)
            → cond t 0 (suc (index_in D a (l ++ (b ∷ [])))) ≡ cond t 0 (suc (index_in D a l))
        go (so e) u ih = refl
        go (not_so n) (inl e) ih = absurd (n e)
        go (not_so n) (inr u) ih = ap suc (ih u)
    index_snoc a b [] mem = elim mem [ ]

    index_last : (a : Mono) (l : List Mono) → ¬ Among a l → index_in D a (l ++ (a ∷ [])) ≡ length l
    unfolding index_in
    index_last a [] out = cond_so (same_told D L a a) refl 0 1
    index_last a (c ∷ l) out = cond_not (same_told D L a c) (λ e. out (inl e)) 0 (suc (index_in D a (l ++ (a ∷ [])))) ∙ ap suc (index_last a l (λ z. out (inr z)))

    pub place_other : (a b : Mono) (l : List Mono) → a ≢ b → place_in a (l ++ (b ∷ [])) ≡ place_in a l
    place_other a b l n = go (is_in_told D L a l)
      where
        go : {t : Bool} → Decides (Among a l) t → place_in a (l ++ (b ∷ [])) ≡ place_in a l
        go (so mem) = place_of a (l ++ (b ∷ [])) (snoc_in l b a (inl mem)) ∙ ap suc (index_snoc a b l mem) ∙ sym (place_of a l mem)
        go (not_so out) = place_none a (l ++ (b ∷ [])) (λ z. elim (snoc_of l b a z) [ inl u ↦ out u | inr e ↦ n e ]) ∙ sym (place_none a l out)

    pub place_last : (a : Mono) (l : List Mono) → ¬ Among a l → place_in a (l ++ (a ∷ [])) ≡ suc (length l)
    place_last a l out = place_of a (l ++ (a ∷ [])) (snoc_in l a a (inr refl)) ∙ ap suc (index_last a l out)

-- one monomial more in a table of eight bytes each
pub wide_more : (N k : ℕ) (S : List (List ℕ)) (row eight t : List ℕ) → t ≡ fill N (in_places 8 S) → k ≡ length S → 8 * k + 8 ≤ N → length eight ≡ 8 → fill 8 row ≡ eight
    → with_place 8 k eight t ≡ fill N (in_places 8 (S ++ (row ∷ [])))
unfolding in_places
wide_more N k S row eight t e c h l same = table_more 8 N k S eight t e c h (omega (arith, l)) ∙ ap (fill N) (last S)
  where
    last : (S : List (List ℕ)) → in_places 8 (S ++ (eight ∷ [])) ≡ in_places 8 (S ++ (row ∷ []))
    last [] = ap (λ (x : List ℕ). x ++ in_places 8 []) (fill_exact 8 eight l ∙ sym same)
    last (r ∷ S) = ap (λ (x : List ℕ). fill 8 r ++ x) (last S)
