-- What the theory asks of a space, and the answers of its tests with their meaning.
use mathlib.Core.Path.{◌≡◌, refl, sym, ◌∙◌, subst}
use mathlib.Core.Logic.{◌⊎◌, ◌≢◌}
use mathlib.Core.Bool.{true, true≢false}
use mathlib.Core.WellFounded.{Acc}
use Prim.Native.Nat.{ℕ, suc, ◌*◌, ◌%◌, ◌<◌, Ordering}
use native.Mathlib.Nat.{zero-mod}
use lib.Dec.{T, compare_is_eq, eqb, eqb→eq}
use Rattle.residue.specs.Congruence.{Mod}
use Rattle.residue.proofs.Tests.{Decides, dec_of, cond_so, cond_not, by_test}
use Rattle.monomial.proofs.Orders.Lawful
use Rattle.monomial.proofs.Orders.Lawful.{Lawful, turn, differ}
use Rattle.specification.specs.Space.{Space, Less, Divides, same}
use Rattle.specification.specs.Polynomial.{hit}

pub record Laws (D : Space) : Type 0 where
  pub inv_law : (a : ℕ) → ¬ Mod (suc D.q) a 0 → Mod (suc D.q) (a * D.inv a) 1
  pub one_not_zero : ¬ Mod (suc D.q) 1 0
  -- the order
  pub order : Lawful D.cmp
  pub wf : (a : D.Mono) → Acc (Less D) a
  pub x_mono : {k : ℕ} {a b : D.Mono} → k < D.m → Less D a b → Less D (D.x k a) (D.x k b)
  pub x_up : {k : ℕ} {a : D.Mono} → k < D.m → Less D a (D.x k a)
  -- values
  pub val_one : (P : D.Pt) → D.val D.one P ≡ 1
  pub val_x : (k : ℕ) (a : D.Mono) (P : D.Pt) → k < D.m → D.val (D.x k a) P ≡ D.coord k P * D.val a P
  -- division
  pub dvd_trans : {a b c : D.Mono} → Divides D a b → Divides D b c → Divides D a c
  pub dvd_one : {a : D.Mono} → Divides D a D.one → a ≡ D.one
  pub one_dvd : {a : D.Mono} → Divides D D.one a
  pub dvd_x : {k : ℕ} {a : D.Mono} → k < D.m → Divides D a (D.x k a)
  pub dvd_less : {a b : D.Mono} → Divides D a b → a ≢ b → Less D a b
  -- a proper multiple is reached from below and from above
  pub step : {a b : D.Mono} → Divides D a b → a ≢ b → (k : ℕ) × (c : D.Mono) × (k < D.m) × (b ≡ D.x k c) × Divides D a c × Divides D (D.x k a) b
  -- nothing is between a and x k a
  pub between : {k : ℕ} {a b : D.Mono} → k < D.m → Divides D a b → Divides D b (D.x k a) → (b ≡ a) ⊎ (b ≡ D.x k a)
  -- points
  pub point_self : (P : D.Pt) → D.same_point P P ≡ true
  pub point_eq : {P Q : D.Pt} → D.same_point P Q ≡ true → P ≡ Q
  pub differ : (P Q : D.Pt) → P ≢ Q → (k : ℕ) × (k < D.m) × ¬ Mod (suc D.q) (D.coord k P) (D.coord k Q)

pub data Compares (D : Space) (a b : D.Mono) : Ordering → Type 0 where
  lt : Less D a b → Compares D a b Ordering.lt
  eq : a ≡ b → Compares D a b Ordering.eq
  gt : Less D b a → Compares D a b Ordering.gt

-- congruence to 0
pub zero_told : (q x : ℕ) → Decides (Mod (suc q) x 0) (eqb (x % suc q) 0)
zero_told q x = by_test (eqb (x % suc q) 0) (λ e. record { same = eqb→eq (x % suc q) 0 (subst T (sym e) tt) ∙ sym (zero-mod (suc q)) })
    (λ h. rw (h.same ∙ zero-mod (suc q)) refl)

module _ (D : Space) (L : Laws D) where
  open D use {Mono, Pt, cmp, divides, same_point}
  open L use {order, point_self, point_eq}

  pub compared : (a b : Mono) → Compares D a b (cmp a b)
  compared a b = go (cmp a b) refl
    where
      go : (o : Ordering) → cmp a b ≡ o → Compares D a b o
      go Ordering.lt e = lt e
      go Ordering.eq e = eq (order.eq a b e)
      go Ordering.gt e = gt (turn cmp order e)

  pub same_told : (a b : Mono) → Decides (a ≡ b) (same D a b)
  same_told a b = by_test (same D a b) (λ e. go (cmp a b) refl e) (λ e. rw (e, order.self b))
    where
      go : (o : Ordering) → cmp a b ≡ o → compare_is_eq o ≡ true → a ≡ b
      go Ordering.lt e h = absurd (true≢false (sym h))
      go Ordering.eq e h = order.eq a b e
      go Ordering.gt e h = absurd (true≢false (sym h))

  pub same? : (a b : Mono) → Dec (a ≡ b)
  same? a b = dec_of (same_told a b)

  pub divides_told : (a b : Mono) → Decides (Divides D a b) (divides a b)
  divides_told a b = by_test (divides a b) (λ e. e) (λ e. e)

  pub point_told : (P Q : Pt) → Decides (P ≡ Q) (same_point P Q)
  point_told P Q = by_test (same_point P Q) point_eq (λ e. rw e (point_self Q))

  pub irrefl : {a : Mono} → ¬ Less D a a
  irrefl {a} h = Lawful.irrefl cmp order a h

  pub trans : {a b c : Mono} → Less D a b → Less D b c → Less D a c
  trans h k = Lawful.trans cmp order h k

  pub less_ne : {a b : Mono} → Less D a b → a ≢ b
  less_ne h e = differ cmp order e h

  pub hit_same : {a b : Mono} → a ≡ b → hit D a b ≡ 1
  unfolding hit
  hit_same {a} {b} e = cond_so (same_told a b) e 1 0

  pub hit_other : {a b : Mono} → a ≢ b → hit D a b ≡ 0
  unfolding hit
  hit_other {a} {b} e = cond_not (same_told a b) e 1 0

  pub hit_sym : (a b : Mono) → hit D a b ≡ hit D b a
  hit_sym a b = go (same? a b)
    where
      go : Dec (a ≡ b) → hit D a b ≡ hit D b a
      go (yes e) = hit_same e ∙ sym (hit_same (sym e))
      go (no e) = hit_other e ∙ sym (hit_other (λ u. e (sym u)))
