-- What the column left says of a monomial: all 0, and its values are a combination of those found; not all 0, and they are none, and it is a pivot like the others.
use mathlib.Core.Path.{◌≡◌, refl, ap}
use mathlib.Core.List.{List, [], ◌∷◌, ◌++◌}
use mathlib.Core.Logic.{inl, inr}
use Prim.Native.Nat.{ℕ, suc, ◌+◌, ◌*◌, ◌%◌}
use native.Mathlib.Omega.{arith}
use lib.ListN.{get_or}
use Rattle.residue.specs.Congruence.{Mod}
use Rattle.residue.specs.Lists.{Among}
use Rattle.residue.proofs.Congruence.{rfl, of, flip, reduce, scale, zero_left, zero_right, lin, ◌then◌, ◌plus◌, ◌times◌}
use Rattle.specification.specs.Space.{Space}
use Rattle.specification.proofs.ideal.Laws.{Laws}
use Rattle.specification.proofs.ideal.Lists.{snoc_of, snoc_in}
use Rattle.specification.proofs.ideal.Newton.{at, at_lin, cancel}
use Rattle.specification.proofs.drawing.Span.{Spanned}
use Rattle.specification.specs.Cancellations.{Pivot, meeting, meets_all, first_place, value_column, pivot_of}
use Rattle.specification.proofs.cancellations.Shown.{shown, shown_scaled, Vanishing, First, first_place_lem}
use Rattle.specification.proofs.cancellations.Meetings.{Sense, left, Means, MeansAll, means_snoc, meets_all_shown}
use Rattle.specification.proofs.cancellations.Pivots.{Triangular, left_zero, triangular_snoc, at_none, at_snoc, left_near, spanned_more, spanned_left}

module _ (D : Space) (S : List D.Pt) where
  open D use {q, Mono, Pt, val, inv}

  infix 35 ◌≈◌
  abbrev ◌≈◌ : ℕ → ℕ → Type 0
  a ≈ b = Mod (suc q) a b

  -- the pivots of the monomials found
  pub record Holds (l : List Mono) (pivots : List Pivot) : Type 0 where
    pub senses : List (Sense Pt)
    pub means : MeansAll q S pivots senses
    pub triangular : Triangular D senses
    pub among : (σ : Sense Pt) → Among σ senses → Among σ.point S
    pub spanned : (σ : Sense Pt) → Among σ senses → Spanned D S l σ.value
    -- a combination that is 0 at their points is 0 at all
    pub free : (c : Mono → ℕ) → ((σ : Sense Pt) → Among σ senses → at D c l σ.point ≈ 0) → (P : Pt) → Among P S → at D c l P ≈ 0

  pub holds_none : Holds [] []
  holds_none = record { senses = []; means = tt; triangular = tt; among = λ σ mem. absurd mem; spanned = λ σ mem. absurd mem; free = λ c h P mem. rfl }

  module _ (L : Laws D) (l : List Mono) (pivots : List Pivot) (H : Holds l pivots) (b : Mono) where
    open L use {inv_law}

    -- what is left of b's values
    abbrev pub rest : Pt → ℕ
    rest = left q H.senses (val b)

    pub column_left : (n : ℕ) → (meets_all q pivots (meeting (value_column D S b) n)).column ≡ shown q rest S
    column_left n = meets_all_shown q S pivots H.senses H.means (meeting (value_column D S b) n) (val b) refl

    near : (c : Mono → ℕ) × ((P : Pt) → Among P S → rest P ≈ val b P + at D c l P)
    near = left_near D S l H.senses (val b) H.spanned

    at_pivots : (σ : Sense Pt) → Among σ H.senses → rest σ.point ≈ 0
    at_pivots = left_zero D H.senses (val b) H.triangular

    pub zero_spanned : Vanishing q rest S → Spanned D S l (val b)
    zero_spanned z = (
      (λ a. 0 + q * near.0 a),
      λ P mem. at_lin D (λ a. 0) near.0 q l P then lin (at_none D l P plus flip (flip (near.1 P mem) then z P mem)) 0 (at D near.0 l P) (omega arith),
    )

    pub other_unspanned : ¬ Vanishing q rest S → ¬ Spanned D S l (val b)
    other_unspanned n (c, h) = n (λ P mem. combined P mem then H.free e (λ σ z. flip (combined σ.point (H.among σ z)) then at_pivots σ z) P mem)
      where
        e : Mono → ℕ
        e a = c a + 1 * near.0 a

        combined : (P : Pt) → Among P S → rest P ≈ at D e l P
        combined P mem = near.1 P mem then lin (flip (h P mem) plus flip (at_lin D c near.0 1 l P)) 0 0 (omega arith)

    module _ (n : ¬ Vanishing q rest S) (new : ¬ Among b l) where
      first : First q rest S
      first = first_place_lem q rest S n

      abbrev k : ℕ
      k = inv (get_or (shown q rest S) (first_place (shown q rest S)) 0)

      sense : Sense Pt
      sense = record { point = first.point; value = λ P. k * rest P }

      its_one : k * rest first.point ≈ 1
      its_one =
          let r = reduce (suc q) (rest first.point) in
          of (ap (λ (z : ℕ). inv z * rest first.point) (first.place.reads rest))
          then (rfl times flip r then of (turn (inv (rest first.point % suc q)) (rest first.point % suc q)) then inv_law (rest first.point % suc q) (λ z. first.not_zero (flip r then z)))
        where
          turn : (x y : ℕ) → x * y ≡ y * x
          turn x y = omega arith

      its_meaning : Means q S (pivot_of D (shown q rest S)) sense
      unfolding pivot_of sense
      its_meaning = record { place = first.place; shows = shown_scaled q k rest S }

      -- c on l and on b, as c on l alone and a multiple of what is left
      split : (c : Mono → ℕ) (P : Pt) → Among P S → at D c (l ++ (b ∷ [])) P ≈ at D (λ a. c a + q * c b * near.0 a) l P + c b * rest P
      split c P mem =
          of (at_snoc D c l b P)
          then lin (flip (at_lin D c near.0 (q * c b) l P) plus flip (scale (c b) (near.1 P mem))) (c b * at D near.0 l P) 0 (omega arith)

      still_free : (c : Mono → ℕ) → ((σ : Sense Pt) → Among σ (H.senses ++ (sense ∷ [])) → at D c (l ++ (b ∷ [])) σ.point ≈ 0)
          → (P : Pt) → Among P S → at D c (l ++ (b ∷ [])) P ≈ 0
      unfolding sense
      still_free c h P mem = multiple P mem then zero_left none (rest P)
        where
          e : Mono → ℕ
          e a = c a + q * c b * near.0 a

          old : (σ : Sense Pt) → Among σ H.senses → at D e l σ.point ≈ 0
          old σ z =
              lin ((flip (split c σ.point (H.among σ z)) then h σ (snoc_in H.senses sense σ (inl z))) plus flip (zero_right (c b) (at_pivots σ z))) 0 0 (omega arith)

          multiple : (P : Pt) → Among P S → at D c (l ++ (b ∷ [])) P ≈ c b * rest P
          multiple P mem = split c P mem then lin (H.free e old P mem) 0 0 (omega arith)

          none : c b ≈ 0
          none = cancel D L (c b) (rest first.point) first.not_zero (flip (multiple first.point first.place.among) then h sense (snoc_in H.senses sense sense (inr refl)))

      pub holds_more : Holds (l ++ (b ∷ [])) (pivots ++ (pivot_of D (shown q rest S) ∷ []))
      unfolding sense
      holds_more = record {
        senses = H.senses ++ (sense ∷ []);
        means = means_snoc q S pivots H.senses (pivot_of D (shown q rest S)) sense H.means its_meaning;
        triangular = triangular_snoc D H.senses sense H.triangular its_one (λ τ mem. zero_right k (at_pivots τ mem));
        among = λ σ mem. elim (snoc_of H.senses sense σ mem) [ inl z ↦ H.among σ z | inr e ↦ rw e first.place.among ];
        spanned =
            λ σ mem.
            elim (snoc_of H.senses sense σ mem) [ inl z ↦ spanned_more D S l L b new σ.value (H.spanned σ z) | inr e ↦ rw e (spanned_left D S l L b new k rest near) ];
        free = still_free;
      }
