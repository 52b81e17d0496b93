-- Modulo 2 only monomials without squares and squares of variables need be visited: the least of them that no lead found divides is the least of all such monomials.
use mathlib.Core.Path.{◌≡◌, refl, sym, subst}
use mathlib.Core.List.{List}
use mathlib.Core.Logic.{◌⊎◌, inl, inr, ◌≢◌}
use Prim.Native.Nat.{ℕ, ◌<◌}
use native.Mathlib.Nat.{le_refl}
use Rattle.residue.specs.Lists.{Among}
use Rattle.specification.specs.Space.{Space, Less, Divides}
use Rattle.specification.specs.Polynomial.{Distinct}
use Rattle.specification.specs.BasisOf.{standard_of, leads_of}
use Rattle.specification.specs.Examination.{Undivided}
use Rattle.specification.proofs.ideal.Laws.{Laws, same?, trans}
use Rattle.specification.proofs.drawing.UpTo.{Drawn, Next, at_most, covered, drawn_standard, drawn_leads}
use Rattle.specification.specs.Squares.{square, Squarefree, Boolean}
use Rattle.specification.proofs.Squares.{square_in_lem, square_not_standard}

module _ (D : Space) where
  open D use {m, Mono}

  -- a monomial that is visited
  abbrev pub Candidate : Mono → Type 0
  Candidate a = Squarefree D a ⊎ ((k : ℕ) × (k < m) × (a ≡ square D k))

  -- b is above c, and no candidate that no lead found divides is between
  pub record NextOf (leads : List Mono) (c b : Mono) : Type 0 where
    pub after : Less D c b
    pub least : (a : Mono) → Candidate a → Less D c a → Undivided D leads a → ¬ Less D a b

module _ (D : Space) (L : Laws D) (B : Boolean D) (S : List D.Pt) (d : Distinct D S) (standard leads : List D.Mono) (c : D.Mono) (W : Drawn D S standard leads c) where
  open D use {m, Mono, x}
  open L use {dvd_trans, dvd_less}

  -- a monomial above c that no lead found divides is a multiple of such a candidate
  record Under (a : Mono) : Type 0 where
    e : Mono
    is : Candidate D e
    above : Less D c e
    free : Undivided D leads e
    low : (e ≡ a) ⊎ Less D e a

  under : (a : Mono) → Less D c a → Undivided D leads a → Under a
  under a h u = go (square_in_lem D L B S d a m (le_refl m))
    where
      proper : (k : ℕ) → k < m → Divides D (square D k) a → square D k ≢ a → Less D c (square D k) ⊎ (¬ Less D c (square D k)) → Under a
      proper k hk z n (inl v) = record {
        e = square D k;
        is = inr (k, hk, refl);
        above = v;
        free = λ l mem w. u l mem (dvd_trans w z);
        low = inr (dvd_less z n);
      }
      proper k hk z n (inr v) =
          absurd (square_not_standard D L B S d k hk (W.standard_to.of_all (square D k) (covered D L S d standard leads c W (square D k) v (λ l mem w. u l mem (dvd_trans w z)))))

      pick : (k : ℕ) → k < m → Divides D (square D k) a → Dec (square D k ≡ a) → Under a
      pick k hk z (yes e) = record { e = a; is = inr (k, hk, sym e); above = h; free = u; low = inl refl }
      pick k hk z (no n) = proper k hk z n (at_most D L c (square D k))

      go : ((k : ℕ) → k < m → ¬ Divides D (square D k) a) ⊎ ((k : ℕ) × (k < m) × Divides D (square D k) a) → Under a
      go (inl f) = record { e = a; is = inl f; above = h; free = u; low = inl refl }
      go (inr t) = pick t.0 t.1 t.2 (same? D L (square D t.0) a)

  -- what is next among the candidates is next
  pub next_is : (b : Mono) → NextOf D leads c b → Next D standard leads c b
  next_is b n = record {
    after = n.after;
    least = λ k s hk mem h u w. let t = under (x k s) h u in
        n.least t.e t.is t.above t.free (elim t.low [ inl z ↦ subst (λ (y : Mono). Less D y b) (sym z) w | inr z ↦ trans D L z w ]);
  }

  -- no candidate is left: all is found
  module _ (none : (a : Mono) → Candidate D a → Less D c a → ¬ Undivided D leads a) where
    over : (k : ℕ) (s : Mono) → k < m → Among s standard → Less D c (x k s) → ¬ Undivided D leads (x k s)
    over k s hk mem h u = let t = under (x k s) h u in none t.e t.is t.above t.free

    pub all_standard : standard ≡ standard_of D S
    all_standard = drawn_standard D L S d standard leads c W over

    pub all_leads : leads ≡ leads_of D S
    all_leads = drawn_leads D L S d standard leads c W over
