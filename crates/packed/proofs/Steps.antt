-- The turns of the walk: a square, a lead, a standard monomial.
use mathlib.Core.Path.{◌≡◌, refl, sym, ap, ◌∙◌, subst}
use mathlib.Core.Bool.{Bool, cond}
use mathlib.Core.List.{List, [], ◌∷◌, ◌++◌}
use mathlib.Core.Logic.{◌⊎◌, inl, inr, ◌≢◌}
use Prim.Native.Nat.{ℕ, suc, ◌+◌, ◌*◌, ◌^◌, ◌<◌, ◌≤◌}
use native.Mathlib.Nat.{mul-le-mul_left}
use native.Mathlib.Omega.{arith}
use lib.ListN.{length, length-append}
use Rattle.residue.specs.Lists.{Among}
use Rattle.residue.proofs.Tests.{Decides, so, not_so, cond_not}
use Rattle.specification.specs.Space.{Space, Less, Divides}
use Rattle.specification.specs.Polynomial.{Distinct}
use Rattle.specification.specs.Extension.{divided}
use Rattle.specification.specs.Examination.{Undivided}
use Rattle.specification.specs.Squares.{variable, square, Boolean}
use Rattle.specification.proofs.Squares.{is_in_told}
use Rattle.specification.proofs.ideal.Laws.{Laws, less_ne}
use Rattle.specification.proofs.ideal.Lists.{snoc_of, snoc_in}
use Rattle.specification.proofs.ideal.Increasing.{divided_told}
use Rattle.specification.proofs.drawing.UpTo.{Bordered, standard_room, leads_room}
use Rattle.words.specs.Packed.{rest_of, pivot_from, with_pivot}
use Rattle.packed.specs.PackedWalk.{PackedFound, packed_found, examined_words, settled_words, square_words, index_in, free, squared, visited}
use Rattle.words.specs.PlaceSets.{FirstOpen, Passed}
use Rattle.residue.specs.Words.{column_of}
use Rattle.packed.proofs.ExaminedFound.{zero_told}
use Rattle.packed.proofs.Standing.{Standing}
use Rattle.packed.proofs.Ready.{Last, none, last, Above, NextAfter, Ready, visit_ready, ready_bordered, ready_new}
use Rattle.packed.proofs.Visiting.{Ordered, Places, SquaresLeft, square_next, square_left, square_places, byte_next, byte_left, byte_places}

module _ (D : Space) (L : Laws D) (B : Boolean D) (S : List D.Pt) (d : Distinct D S) (few : length S ≤ 64) (Valid : ℕ → Type 0) (at : ℕ → D.Mono) (sq : ℕ → ℕ) (O : Ordered D Valid at sq) where
  open D use {m, Mono}

  pub record State (f : PackedFound D) (o : Last D) (known : List ℕ) (left : ℕ) : Type 0 where
    pub ready : Ready D L B S d few f o
    pub places : Places D L Valid at sq O known f.leads o
    pub squares : SquaresLeft D L Valid at sq O left o

  -- the tables have room
  pub leads_fit : (f : PackedFound D) (c : Mono) → Standing D S f c → m ≤ 8 → length f.leads ≤ 449
  leads_fit f c W h = bound (length S) (leads_room D L S d f.standard f.leads c W.drawn) few (mul-le-mul_left (length S) h)
    where
      bound : (n : ℕ) {k p : ℕ} → k + n ≤ 1 + p → n ≤ 64 → p ≤ n * 8 → k ≤ 449
      bound n a b e = omega arith

  pub standard_fit : (f : PackedFound D) (c : Mono) → Standing D S f c → length f.standard ≤ 64
  standard_fit f c W = let h = standard_room D L S d f.standard f.leads c W.drawn in omega arith

  pub ready_fit : (f : PackedFound D) (o : Last D) → Ready D L B S d few f o → length f.standard ≤ 64
  ready_fit f none e = subst (λ (g : PackedFound D). length g.standard ≤ 64) (sym e) (omega arith)
  ready_fit f (last c) W = standard_fit f c W

  module _ (f : PackedFound D) (o : Last D) (known : List ℕ) (left : ℕ) (W : State f o known left) (i : ℕ) (F : FirstOpen known i) where
    -- a square
    module _ (k : ℕ) (e : left ≡ suc k) (before : i < 256 → Less D (square D (sq k)) (at i)) where
      in_m : sq k < m
      in_m = O.square_in_lem k (let h = W.squares.few in omega arith)

      pub square_standing : Standing D S (square_words D (sq k) f) (square D (sq k))
      unfolding visited
      square_standing = visit_ready D L B S d few f o W.ready (squared (sq k)) in_m (square_next D L Valid at sq O known f.leads o left W.places W.squares i F k e before)

      leads_of : (a : Mono) → Among a (square_words D (sq k) f).leads → Among a f.leads ⊎ (a ≡ square D (sq k))
      unfolding square_words
      leads_of a mem = go (is_in_told D L (variable D (sq k)) f.standard) mem
        where
          go : {t : Bool} → Decides (Among (variable D (sq k)) f.standard) t
              → Among a (cond t (packed_found D f.standard (f.leads ++ (square D (sq k) ∷ [])) (f.rows ++ (2 ^ index_in D (variable D (sq k)) f.standard ∷ [])) f.pivots) f).leads
              → Among a f.leads ⊎ (a ≡ square D (sq k))
          go (so u) z = snoc_of f.leads (square D (sq k)) a z
          go (not_so u) z = inl z

      leads_in : (a : Mono) → Among a f.leads → Among a (square_words D (sq k) f).leads
      unfolding square_words
      leads_in a mem = go (is_in_told D L (variable D (sq k)) f.standard)
        where
          go : {t : Bool} → Decides (Among (variable D (sq k)) f.standard) t
              → Among a (cond t (packed_found D f.standard (f.leads ++ (square D (sq k) ∷ [])) (f.rows ++ (2 ^ index_in D (variable D (sq k)) f.standard ∷ [])) f.pivots) f).leads
          go (so u) = snoc_in f.leads (square D (sq k)) a (inl mem)
          go (not_so u) = mem

      pub square_step : State (square_words D (sq k) f) (last (square D (sq k))) known k
      square_step = record {
        ready = square_standing;
        places = square_places D L Valid at sq O known f.leads o left W.places W.squares i F k e before (square_words D (sq k) f).leads leads_of leads_in;
        squares = square_left D L Valid at sq O known f.leads o left W.places W.squares i F k e before;
      }

    -- a monomial without squares
    module _ (inside : i < 256) (after : (k : ℕ) → suc k ≡ left → ¬ Less D (square D (sq k)) (at i)) where
      pub own_open : Valid i × (Above D o (at i) × Undivided D f.leads (at i))
      own_open = W.places.opened i inside (F.here inside)

      examined_is : visited D S (free (at i)) f ≡ examined_words D S (at i) f
      unfolding visited
      examined_is = cond_not (divided_told D L f.leads (at i)) (λ t. own_open.1.1 t.0 t.1 t.2) f (examined_words D S (at i) f)

      pub byte_standing : Standing D S (examined_words D S (at i) f) (at i)
      byte_standing = subst (λ (g : PackedFound D). Standing D S g (at i)) examined_is
          (visit_ready D L B S d few f o W.ready (free (at i)) (O.at_free i) (byte_next D L Valid at sq O known f.leads o left W.places W.squares i F inside after))

      due : NextAfter D f.leads o (at i)
      due = byte_next D L Valid at sq O known f.leads o left W.places W.squares i F inside after

      pub byte_bordered : Bordered D f.standard (at i)
      byte_bordered = ready_bordered D L B S d few f o W.ready (at i) due own_open.1.1

      pub byte_new : ¬ Among (at i) f.standard
      byte_new = ready_new D L B S d few f o W.ready (at i) due

      -- a pivot more only where there is room for it
      pub pivot_room : (own : ℕ) → own ≡ column_of (D.val (at i)) S → (rest_of own f.pivots).column ≢ 0 → length f.standard < 64
      unfolding examined_words settled_words
      pivot_room own e n =
          let g : PackedFound D = packed_found D (f.standard ++ (at i ∷ [])) f.leads f.rows (with_pivot (pivot_from (length f.standard) (rest_of own f.pivots)) f.pivots) in
          let z : examined_words D S (at i) f ≡ g = ap (λ (x : ℕ). settled_words D (at i) (rest_of x f.pivots) f) (sym e) ∙ cond_not (zero_told (rest_of own f.pivots).column) n _ _ in
          let h = standard_fit g (at i) (subst (λ (g : PackedFound D). Standing D S g (at i)) z byte_standing) in
          omega (arith, h, length-append f.standard (at i ∷ []))

      module _ (g : PackedFound D) (is : examined_words D S (at i) f ≡ g) where
        pub found_standing : Standing D S g (at i)
        found_standing = subst (λ (g : PackedFound D). Standing D S g (at i)) is byte_standing

        -- a standard one: its own place is known
        pub standard_step : (known' : List ℕ) → g.leads ≡ f.leads → Passed (λ j. j ≡ i) known known' → State g (last (at i)) known' left
        standard_step known' same T = record {
          ready = found_standing;
          places = byte_places D L Valid at sq O known f.leads o left W.places W.squares i F inside after (λ j. j ≡ i) known' g.leads T refl
              (λ a mem. subst (λ (l : List Mono). Among a l) (sym same) mem)
              (λ j h e v z u. less_ne D L z (ap at (sym e)))
              (λ j h v n u. subst (λ (l : List Mono). Undivided D l (at j)) (sym same) u);
          squares = byte_left D L Valid at sq O known f.leads o left W.places W.squares i F inside after;
        }

        -- a lead: the places of its multiples are known
        pub lead_step : (Kind : ℕ → Type 0) (known' : List ℕ) → g.leads ≡ f.leads ++ (at i ∷ []) → Passed Kind known known' → Kind i → ((j : ℕ) → j < 256 → Kind j → Divides D (at i) (at j))
            → ((j : ℕ) → j < 256 → Divides D (at i) (at j) → Kind j) → State g (last (at i)) known' left
        lead_step Kind known' more T self divides divided = record {
          ready = found_standing;
          places = byte_places D L Valid at sq O known f.leads o left W.places W.squares i F inside after Kind known' g.leads T self
              (λ a mem. subst (λ (l : List Mono). Among a l) (sym more) (snoc_in f.leads (at i) a (inl mem)))
              (λ j h e v z u. u (at i) (subst (λ (l : List Mono). Among (at i) l) (sym more) (snoc_in f.leads (at i) (at i) (inr refl))) (divides j h e))
              (λ j h v n u a mem w. elim (snoc_of f.leads (at i) a (subst (λ (l : List Mono). Among a l) more mem)) [
                | inl y ↦ u a y w
                | inr y ↦ n (divided j h (subst (λ (x : Mono). Divides D x (at j)) y w))
              ]);
          squares = byte_left D L Valid at sq O known f.leads o left W.places W.squares i F inside after;
        }
