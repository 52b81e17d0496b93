-- What `examine` leaves in the tables is what one step of the packed way finds.
use mathlib.Core.Path.{◌≡◌, refl, sym, ap, ◌∙◌, subst}
use Rattle.std.specs.Prelude.{Option, Some, None}
use Rattle.std.proofs.lemmas.Option.{none-some, same_Some}
use mathlib.Core.List.{List, [], ◌∷◌, ◌++◌}
use Prim.Native.Nat.{ℕ, suc}
use native.Mathlib.Decide.{ℕ_discrete}
use lib.ListN.{length}
use lib.Dec.{T, eqb, eqb→eq}
use Rattle.residue.proofs.Tests.{Decides, by_test, cond_so, cond_not}
use Rattle.specification.specs.Space.{Space}
use Rattle.residue.specs.Words.{column_of}
use Rattle.words.specs.Packed.{PivotWords, rest_of, pivot_from, with_pivot}
use Rattle.packed.specs.PackedWalk.{PackedFound, packed_found, settled_words, examined_words}
use Rattle.words.specs.PivotTables.{Kept, ExaminedAs}

pub zero_told : (n : ℕ) → Decides (n ≡ 0) (eqb n 0)
zero_told n = by_test (eqb n 0) (λ e. eqb→eq n 0 (subst T (sym e) tt)) (λ e. rw e refl)

module _ (D : Space) (S : List D.Pt) (b : D.Mono) (f : PackedFound D) (own k : ℕ) (row : Option ℕ) (g pivots pivots' : ℕ) (r c w r' c' w' : List ℕ) (many : k ≡ length f.standard)
    (held : Kept k pivots r c w f.pivots) (column : own ≡ column_of (D.val b) S) (E : ExaminedAs own k row pivots pivots' r c w r' c' w') where
  found_is : examined_words D S b f ≡ settled_words D b (rest_of own f.pivots) f
  unfolding examined_words
  found_is = ap (λ (o : ℕ). settled_words D b (rest_of o f.pivots) f) (sym column)

  pub found_lead : row ≡ Some g
      → (examined_words D S b f ≡ packed_found D f.standard (f.leads ++ (b ∷ [])) (f.rows ++ (g ∷ [])) f.pivots) × Kept k pivots' r' c' w' f.pivots
  unfolding settled_words
  found_lead e = go (ℕ_discrete (rest_of own f.pivots).column 0)
    where
      go : Dec ((rest_of own f.pivots).column ≡ 0)
          → (examined_words D S b f ≡ packed_found D f.standard (f.leads ++ (b ∷ [])) (f.rows ++ (g ∷ [])) f.pivots) × Kept k pivots' r' c' w' f.pivots
      go (no n) = absurd (none-some g (sym (E.as_pivot f.pivots held n).0 ∙ e))
      go (yes z) = let t = E.as_lead f.pivots held z in (
        found_is ∙ cond_so (zero_told (rest_of own f.pivots).column) z _ _
            ∙ ap (λ (x : ℕ). packed_found D f.standard (f.leads ++ (b ∷ [])) (f.rows ++ (x ∷ [])) f.pivots) (sym (same_Some g (rest_of own f.pivots).polynomial (sym e ∙ t.0))),
        t.1,
      )

  -- the pivots when a standard monomial more is found
  abbrev pub pivots_more : List PivotWords
  pivots_more = with_pivot (pivot_from k (rest_of own f.pivots)) f.pivots

  pub found_standard : row ≡ None
      → (examined_words D S b f ≡ packed_found D (f.standard ++ (b ∷ [])) f.leads f.rows pivots_more) × Kept (suc k) pivots' r' c' w' pivots_more
  unfolding settled_words
  found_standard e = go (ℕ_discrete (rest_of own f.pivots).column 0)
    where
      go : Dec ((rest_of own f.pivots).column ≡ 0)
          → (examined_words D S b f ≡ packed_found D (f.standard ++ (b ∷ [])) f.leads f.rows pivots_more) × Kept (suc k) pivots' r' c' w' pivots_more
      go (yes z) = absurd (none-some (rest_of own f.pivots).polynomial (sym e ∙ (E.as_lead f.pivots held z).0))
      go (no n) = let t = E.as_pivot f.pivots held n in (
        found_is ∙ cond_not (zero_told (rest_of own f.pivots).column) n _ _
            ∙ ap (λ (j : ℕ). packed_found D (f.standard ++ (b ∷ [])) f.leads f.rows (with_pivot (pivot_from j (rest_of own f.pivots)) f.pivots)) (sym many),
        t.1,
      )
