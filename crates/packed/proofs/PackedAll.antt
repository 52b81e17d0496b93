-- The packed way of drawing up ends with the basis: its standard monomials, its leads, and a word for each row.
use mathlib.Core.Path.{◌≡◌, refl, sym, ap, ap₂, ◌∙◌, subst}
use mathlib.Core.Bool.{Bool, cond}
use mathlib.Core.List.{List, [], ◌∷◌, ◌++◌, map}
use mathlib.Core.Logic.{inl, inr}
use Prim.Native.Nat.{ℕ, ◌^◌, ◌<◌, ◌≤◌}
use lib.ListN.{length}
use Rattle.residue.specs.Lists.{Among}
use Rattle.residue.proofs.Tests.{Decides, so, not_so}
use Rattle.specification.specs.Space.{Space, Less, Divides}
use Rattle.specification.specs.Polynomial.{Distinct}
use Rattle.specification.specs.BasisOf.{standard_of, leads_of, row_of}
use Rattle.specification.specs.Extension.{divided}
use Rattle.specification.specs.Examination.{Undivided}
use Rattle.specification.proofs.ideal.Laws.{Laws}
use Rattle.specification.proofs.ideal.Increasing.{divided_told}
use Rattle.specification.proofs.ideal.Basis.{row_only}
use Rattle.specification.proofs.ideal.Counts.{standard_length}
use Rattle.specification.proofs.drawing.UpTo.{Next, of_undivided, front_next, free_bordered, pass, take_standard, take_lead}
use Rattle.residue.specs.Words.{bits_of}
use Rattle.specification.specs.Squares.{variable, square, Squarefree, Boolean}
use Rattle.packed.specs.PackedWalk.{PackedFound, packed_found, examined_words, square_words, index_in, Visit, free, squared, visited_monomial, visited, PackedBasis}
use Rattle.specification.proofs.Squares.{square_lead, square_not_standard}
use Rattle.specification.proofs.Squares.{is_in_told}
use Rattle.packed.proofs.Walking.{Candidate, NextOf, next_is, all_standard, all_leads}
use Rattle.packed.proofs.Standing.{RowWords, rows_snoc, Standing, square_word, examined_standing}

module _ (D : Space) where
  open D use {m, Mono}

  -- a visit is of a candidate
  abbrev pub IsVisit : Visit D → Type 0
  IsVisit (free a) = Squarefree D a
  IsVisit (squared k) = k < m

module _ (D : Space) (L : Laws D) (B : Boolean D) (S : List D.Pt) (d : Distinct D S) (few : length S ≤ 64) where
  open D use {m, Mono, Pt, one, x, cmp}
  open L use {x_up}

  -- one visit, of what is next
  module _ (f : PackedFound D) (c : Mono) (W : Standing D S f c) where
    square_visit : (k : ℕ) → k < m → NextOf D f.leads c (square D k) → Standing D S (square_words D k f) (square D k)
    unfolding square_words
    square_visit k h n = go (is_in_told D L (variable D k) f.standard)
      where
        due : Next D f.standard f.leads c (square D k)
        due = next_is D L B S d f.standard f.leads c W.drawn (square D k) n

        go : {t : Bool} → Decides (Among (variable D k) f.standard) t
            → Standing D S (cond t (packed_found D f.standard (f.leads ++ (square D k ∷ [])) (f.rows ++ (2 ^ index_in D (variable D k) f.standard ∷ [])) f.pivots) f) (square D k)
        go (so mem) = record {
          drawn = take_lead D L S d f.standard f.leads c W.drawn (square D k) due ((square_lead D L B S d k h).1 (W.drawn.standard_to.of_all (variable D k) mem));
          reduced = W.reduced;
          rowed = rows_snoc D S f.standard f.leads f.rows (square D k) _ W.rowed (square_word D S L B f.standard k h mem);
        }
        go (not_so out) = record {
          drawn = pass D L S d f.standard f.leads c W.drawn (square D k) due (λ o. elim o [
            | inl z ↦ square_not_standard D L B S d k h z
            | inr z ↦ out ((front_next D L S d f.standard f.leads c W.drawn (square D k) due).below (variable D k) ((square_lead D L B S d k h).0 z) (x_up h))
          ]);
          reduced = W.reduced;
          rowed = W.rowed;
        }

    free_visit : (b : Mono) → NextOf D f.leads c b → Standing D S (cond (divided D f.leads b) f (examined_words D S b f)) b
    free_visit b n = go (divided_told D L f.leads b)
      where
        due : Next D f.standard f.leads c b
        due = next_is D L B S d f.standard f.leads c W.drawn b n

        go : {t : Bool} → Decides ((a : Mono) × Among a f.leads × Divides D a b) t → Standing D S (cond t f (examined_words D S b f)) b
        go (so t) = record {
          drawn = pass D L S d f.standard f.leads c W.drawn b due (λ o. of_undivided D L S d f.standard f.leads c W.drawn b o n.after t.0 t.1 t.2);
          reduced = W.reduced;
          rowed = W.rowed;
        }
        go (not_so out) = examined_standing D S L B d few f b W.reduced W.rowed (front_next D L S d f.standard f.leads c W.drawn b due)
            (free_bordered D L S d f.standard f.leads c W.drawn b due (λ a mem z. out (a, mem, z)))
            (take_standard D L S d f.standard f.leads c W.drawn b due) (take_lead D L S d f.standard f.leads c W.drawn b due)

    pub visit_standing : (v : Visit D) → IsVisit D v → NextOf D f.leads c (visited_monomial D v) → Standing D S (visited D S v f) (visited_monomial D v)
    unfolding visited
    visit_standing (free b) h n = free_visit b n
    visit_standing (squared k) h n = square_visit k h n

  rows_end : (l : List Mono) (fs : List ℕ) → RowWords D S (standard_of D S) l fs → map (bits_of (length S)) fs ≡ map (row_of D S) l
  rows_end [] [] r = refl
  rows_end [] (f ∷ fs) r = absurd r
  rows_end (a ∷ l) [] r = absurd r
  rows_end (a ∷ l) (f ∷ fs) r = ap₂ (λ (u : List ℕ) (z : List (List ℕ)). u ∷ z)
      (ap (λ (k : ℕ). bits_of k f) (sym (standard_length D L S d)) ∙ row_only D L S d a (bits_of (length (standard_of D S)) f) r.0.row) (rows_end l fs r.1)

  rows_small : (l : List Mono) (fs : List ℕ) → RowWords D S (standard_of D S) l fs → (f : ℕ) → Among f fs → f < 2 ^ length S
  rows_small [] [] r f mem = absurd mem
  rows_small [] (g ∷ fs) r f mem = absurd r
  rows_small (a ∷ l) [] r f mem = absurd r
  rows_small (a ∷ l) (g ∷ fs) r f (inl e) = subst (λ (k : ℕ). f < 2 ^ k) (standard_length D L S d) (rw e r.0.small)
  rows_small (a ∷ l) (g ∷ fs) r f (inr mem) = rows_small l fs r.1 f mem

  pub ended : (f : PackedFound D) (c : Mono) → Standing D S f c → ((a : Mono) → Candidate D a → Less D c a → ¬ Undivided D f.leads a) → PackedBasis D S f
  ended f c W none =
      let es = all_standard D L B S d f.standard f.leads c W.drawn none in
      let el = all_leads D L B S d f.standard f.leads c W.drawn none in
      let r : RowWords D S (standard_of D S) (leads_of D S) f.rows =
      subst (λ (l : List Mono). RowWords D S (standard_of D S) l f.rows) el (subst (λ (s : List Mono). RowWords D S s f.leads f.rows) es W.rowed) in
      record { standard_are = es; leads_are = el; rows_are = rows_end (leads_of D S) f.rows r; rows_small = rows_small (leads_of D S) f.rows r }
