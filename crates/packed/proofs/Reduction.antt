-- Fully reduced pivots decide: a monomial whose column they leave 0 is a combination of those found, with the coefficients gathered; any other is none, and becomes
-- a pivot like the others. The invariant is that each monomial found is the sum of the pivots at whose places it is 1.
use mathlib.Core.Path.{◌≡◌, refl, sym, ap, ◌∙◌, subst}
use mathlib.Core.List.{List, []}
use mathlib.Core.Logic.{◌≢◌}
use Prim.Native.Nat.{ℕ, suc, ◌+◌, ◌*◌, ◌^◌, ◌<◌}
use native.Mathlib.Omega.{arith}
use lib.ListN.{length}
use lib.Pow.{pow_pos}
use Rattle.residue.specs.Congruence.{Mod}
use Rattle.residue.specs.Lists.{Among, sum_over}
use Rattle.residue.proofs.Congruence.{rfl, of, flip, scale, lin, ◌then◌, ◌plus◌}
use Rattle.residue.proofs.Sums.{sum_cong, sum_swap, sum_scale}
use Rattle.monomial.specs.Increasing.{Increasing}
use Rattle.specification.specs.Space.{Space}
use Rattle.specification.specs.Polynomial.{coefficient, terms}
use Rattle.specification.specs.Basis.{Row}
use Rattle.specification.proofs.ideal.Laws.{Laws}
use Rattle.specification.proofs.ideal.Polynomials.{collect, terms_over}
use Rattle.specification.proofs.ideal.Newton.{at}
use Rattle.specification.proofs.drawing.Span.{Spanned}
use Rattle.residue.specs.Words.{bit_of, bits_of, column_of}
use Rattle.specification.specs.Squares.{Boolean}
use Rattle.words.specs.Packed.{Words, words, PivotWords, rest_of, polynomial_at}
use Rattle.residue.proofs.BitLaws.{bits_length, bits_among}
use Rattle.words.proofs.ColumnLaws.{column_cong, zero_vanishes, vanishes_zero, Place}
use Rattle.packed.proofs.PolynomialLaws.{poly_zero}
use Rattle.packed.proofs.Losing.{spread, Columned, Shows, loses_shows, loses_polynomial}

module _ (D : Space) (S : List D.Pt) where
  open D use {Mono, Pt, val}

  -- a monomial's column
  abbrev pub own : Mono → ℕ
  own a = column_of (val a) S

  pub record Reduced (l : List Mono) (pivots : List PivotWords) : Type 0 where
    pub placed : (v : PivotWords) → Among v pivots → (P : Pt) × Place S v.place P
    pub columned : (v : PivotWords) → Among v pivots → Columned D S l v
    -- each monomial found is the sum of the pivots at whose places it is 1
    pub dual : (t : Mono) → Among t l → (P : Pt) → Among P S → Mod 2 (val t P) (spread D S l pivots (own t) P)

  pub reduced_none : Reduced [] []
  reduced_none = record { placed = λ v mem. absurd mem; columned = λ v mem. absurd mem; dual = λ t mem. absurd mem }

  module _ (l : List Mono) (pivots : List PivotWords) (R : Reduced l pivots) (b : Mono) where
    abbrev rest : Words
    rest = rest_of (own b) pivots

    shown : Shows D S l (own b) (λ P. val b P + spread D S l pivots (own b) P) rest
    shown = loses_shows D S l (own b) pivots R.columned (val b) (words (own b) 0) start
      where
        start : Shows D S l (own b) (val b) (words (own b) 0)
        start = record { column = refl; small = pow_pos (length l) }

    pub rest_small : rest.polynomial < 2 ^ length l
    rest_small = shown.small

    pub rest_polynomial : (P : Pt) → Mod 2 (polynomial_at D l rest.polynomial P) (spread D S l pivots (own b) P)
    rest_polynomial P =
        loses_polynomial D S l (own b) pivots R.columned (val b) (words (own b) 0) (record { column = refl; small = pow_pos (length l) }) P
        then of (ap (λ (z : ℕ). z + spread D S l pivots (own b) P) (poly_zero D l P))
        then of (omega arith)

    -- what is left of the column is the monomial plus the polynomial gathered
    pub rest_column : rest.column ≡ column_of (λ P. val b P + polynomial_at D l rest.polynomial P) S
    rest_column = shown.column ∙ column_cong (λ P. val b P + spread D S l pivots (own b) P) (λ P. val b P + polynomial_at D l rest.polynomial P) S
        (λ P mem. rfl {x = val b P} plus flip (rest_polynomial P))

    -- a combination of the monomials found is the sum of the pivots at whose places it is 1
    combined : (c : Mono → ℕ) → ((P : Pt) → Among P S → Mod 2 (at D c l P) (val b P)) → (P : Pt) → Among P S → Mod 2 (val b P) (spread D S l pivots (own b) P)
    combined c h P mem =
        flip (h P mem)
        then sum_cong l (λ t z. scale (c t) (R.dual t z P mem) then of (sym (sum_scale (λ v. bit_of v.place (own t) * polynomial_at D l v.polynomial P) (c t) pivots)))
        then of (sum_swap (λ t v. c t * (bit_of v.place (own t) * polynomial_at D l v.polynomial P)) l pivots)
        then sum_cong pivots (λ v z. along v z)
      where
        shape : (x y z : ℕ) → x * (y * z) ≡ z * (x * y)
        shape x y z = omega arith

        along : (v : PivotWords) → Among v pivots
            → Mod 2 (sum_over (λ t. c t * (bit_of v.place (own t) * polynomial_at D l v.polynomial P)) l) (bit_of v.place (own b) * polynomial_at D l v.polynomial P)
        along v z =
            let p = R.placed v z in
            let f = polynomial_at D l v.polynomial P in
            sum_cong l (λ t _. of (shape (c t) (bit_of v.place (own t)) f))
            then of (sum_scale (λ t. c t * bit_of v.place (own t)) f l)
            then scale f (sum_cong l (λ t _. scale (c t) (p.1.reads (val t))) then h p.0 p.1.among then flip (p.1.reads (val b)))
            then of (turn f (bit_of v.place (own b)))
          where
            turn : (x y : ℕ) → x * y ≡ y * x
            turn x y = omega arith

  module _ (L : Laws D) (B : Boolean D) where
    open D use {q, cmp}

    pub up : {x y : ℕ} → Mod 2 x y → Mod (suc q) x y
    up {x} {y} h = subst (λ (z : ℕ). Mod (suc z) x y) (sym B.two) h

    pub down : {x y : ℕ} → Mod (suc q) x y → Mod 2 x y
    down {x} {y} h = subst (λ (z : ℕ). Mod (suc z) x y) B.two h

    -- a row makes its monomial a combination
    pub row_spanned : (l : List Mono) → Increasing cmp l → (b : Mono) (cs : List ℕ) → Row D S l b cs → Spanned D S l (val b)
    row_spanned l i b cs r = (
      coefficient D (terms D cs l),
      λ P mem. collect D L l i (terms D cs l) (terms_over D cs l l (λ a z. z)) (λ a. val a P) then up (lin (down (r.vanishes P mem)) (val b P) 0 (omega arith)),
    )

    module _ (l : List Mono) (pivots : List PivotWords) (R : Reduced l pivots) (b : Mono) where
      -- the column left is 0: the polynomial gathered is the row
      pub zero_row : (rest_of (own b) pivots).column ≡ 0 → Row D S l b (bits_of (length l) (rest_of (own b) pivots).polynomial)
      unfolding polynomial_at
      zero_row e = record {
        long = bits_length (length l) _;
        residues = λ c mem. subst (λ (z : ℕ). c < suc z) (sym B.two) (bits_among (length l) _ c mem);
        vanishes = λ P mem. up (lin (zero_vanishes (λ Q. val b Q + polynomial_at D l (rest_of (own b) pivots).polynomial Q) S (sym (rest_column l pivots R b) ∙ e) P mem) 0 0 (omega arith));
      }

      -- it is not 0: the monomial is no combination
      pub other_unspanned : (rest_of (own b) pivots).column ≢ 0 → ¬ Spanned D S l (val b)
      other_unspanned n (c, h) = n (rest_column l pivots R b ∙ vanishes_zero (λ P. val b P + polynomial_at D l (rest_of (own b) pivots).polynomial P) S zero)
        where
          zero : (P : Pt) → Among P S → Mod 2 (val b P + polynomial_at D l (rest_of (own b) pivots).polynomial P) 0
          zero P mem = lin (rest_polynomial l pivots R b P plus flip (combined l pivots R b c (λ Q z. down (h Q z)) P mem)) 0 (val b P) (omega arith)
