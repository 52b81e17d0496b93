-- Lists that agree in all places but one: what the test says, and what follows of values of monomials.
use mathlib.Core.Path.{◌≡◌, refl, sym, ◌∙◌, ap, ap₂}
use mathlib.Core.Logic.{◌≢◌}
use mathlib.Core.List.{List, [], ◌∷◌}
use Prim.Native.Nat.{ℕ, zero, suc, ◌*◌, ◌^◌}
use native.Mathlib.Nat.{suc_inj, pow-zero}
use native.Mathlib.Omega.{arith}
use native.Mathlib.Decide.{ℕ_discrete}
use lib.ListN.{length, get_or, set, length-set}
use lib.Seq.{get_or-set_other}
use Rattle.residue.proofs.Tests.{Decides}
use Rattle.monomial.specs.Monomial.{monomial_at}
use Rattle.specification.specs.Needed.{Alike, Apart, alike, apart}
use Rattle.specification.proofs.needed.Decided.{equal_told, lists_told, both_told, not_told, told_as}

-- lists of one length with the same entries are equal
entries : (P Q : List ℕ) → length P ≡ length Q → ((j : ℕ) → get_or P j 0 ≡ get_or Q j 0) → P ≡ Q
entries [] [] e h = refl
entries [] (b ∷ Q) e h = absurd (omega arith)
entries (a ∷ P) [] e h = absurd (omega arith)
entries (a ∷ P) (b ∷ Q) e h = ap₂ (λ (x : ℕ) (l : List ℕ). x ∷ l) (h 0) (entries P Q (suc_inj e) (λ j. h (suc j)))

-- the place that is made 0
made_0 : (P : List ℕ) (k : ℕ) → get_or (set P k 0) k 0 ≡ 0
made_0 [] k = refl
made_0 (a ∷ P) zero = refl
made_0 (a ∷ P) (suc k) = made_0 P k

-- they agree in all places but one exactly where they are equal with 0 in it
pub alike_of : {k : ℕ} (P Q : List ℕ) → set P k 0 ≡ set Q k 0 → Alike k P Q
alike_of {k} P Q u j ne = sym (get_or-set_other P k j 0 0 ne) ∙ ap (λ (l : List ℕ). get_or l j 0) u ∙ get_or-set_other Q k j 0 0 ne

pub of_alike : {k : ℕ} (P Q : List ℕ) → length P ≡ length Q → Alike k P Q → set P k 0 ≡ set Q k 0
of_alike {k} P Q e h = entries (set P k 0) (set Q k 0) (length-set P k 0 ∙ e ∙ sym (length-set Q k 0)) (λ j. go j (ℕ_discrete j k))
  where
    go : (j : ℕ) → Dec (j ≡ k) → get_or (set P k 0) j 0 ≡ get_or (set Q k 0) j 0
    go j (yes u) = rw u (made_0 P k ∙ sym (made_0 Q k))
    go j (no ne) = get_or-set_other P k j 0 0 ne ∙ h j ne ∙ sym (get_or-set_other Q k j 0 0 ne)

pub alike_told : (k : ℕ) (P Q : List ℕ) → length P ≡ length Q → Decides (Alike k P Q) (alike k P Q)
unfolding alike
alike_told k P Q e = told_as (alike_of P Q) (of_alike P Q e) (lists_told (set P k 0) (set Q k 0))

pub apart_told : (k : ℕ) (P Q : List ℕ) → length P ≡ length Q → Decides (Apart k P Q) (apart k P Q)
unfolding apart
apart_told k P Q e = told_as (λ u. record { others = u.0; here = u.1 }) (λ a. (a.others, a.here)) (both_told (alike_told k P Q e) (not_told (equal_told (get_or P k 0) (get_or Q k 0))))

-- lists of one length that agree in all places but one are equal, or apart
pub alike_apart : (k : ℕ) (P Q : List ℕ) → length P ≡ length Q → Alike k P Q → P ≢ Q → Apart k P Q
alike_apart k P Q e h ne = record { others = h; here = λ u. ne (entries P Q e (λ j. go u j (ℕ_discrete j k))) }
  where
    go : get_or P k 0 ≡ get_or Q k 0 → (j : ℕ) → Dec (j ≡ k) → get_or P j 0 ≡ get_or Q j 0
    go u j (yes z) = rw z u
    go u j (no z) = h j z

-- a monomial without the variable has the same value at both
pub value_alike : (k : ℕ) (P Q a : List ℕ) → length P ≡ length Q → Alike k P Q → get_or a k 0 ≡ 0 → monomial_at P a ≡ monomial_at Q a
value_alike k [] [] a e h z = refl
value_alike k [] (y ∷ Q) a e h z = absurd (omega arith)
value_alike k (x ∷ P) [] a e h z = absurd (omega arith)
value_alike k (x ∷ P) (y ∷ Q) [] e h z = refl
value_alike zero (x ∷ P) (y ∷ Q) (c ∷ a) e h z = rw (z, pow-zero x, pow-zero y, entries P Q (suc_inj e) (λ j. h (suc j) (λ u. omega arith)))
value_alike (suc k) (x ∷ P) (y ∷ Q) (c ∷ a) e h z =
    ap₂ (λ (u v : ℕ). u ^ c * v) (h 0 (λ u. omega arith)) (value_alike k P Q a (suc_inj e) (λ j ne. h (suc j) (λ u. ne (suc_inj u))) z)
