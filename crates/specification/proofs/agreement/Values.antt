-- Values in the order of points. Values that are equal at each point are in range alike, whatever the order.
use mathlib.Core.Path.{◌≡◌, refl, sym, ap}
use mathlib.Core.Bool.{Bool, true, false}
use mathlib.Core.List.{List, [], ◌∷◌, zip_with, zip}
use mathlib.Core.Logic.{inl, inr}
use Prim.Native.Nat.{ℕ}
use native.Mathlib.Nat.{suc_inj}
use native.Mathlib.Omega.{arith}
use lib.IntN.{ℤ}
use lib.ListN.{length}
use lib.Dec.{T}
use Rattle.residue.specs.Lists.{Among}
use Rattle.residue.specs.Level.{residue_of}
use Rattle.specification.specs.declared.settings.Settings.{Settings}
use Rattle.specification.specs.Levels.{is_residue, residue_or0, in_range, residues}
use Rattle.specification.specs.Agreement.{SameValues}
use Rattle.residue.proofs.Tests.{and_left, and_right, and_both}

-- a point with its value, and a point that has one
pub point_of_lem : {A : Type 0} (K : List (List ℕ)) (v : List A) (P : List ℕ) (y : A) → Among (P, y) (zip K v) → Among P K
unfolding zip zip_with
point_of_lem {A} (Q ∷ K) (x ∷ v) P y (inl e) = inl (ap (λ (a : List ℕ × A). a.0) e)
point_of_lem (Q ∷ K) (x ∷ v) P y (inr q) = inr (point_of_lem K v P y q)
point_of_lem {A = A} [] v P y x' = elim x' [ ]
point_of_lem {A = A} (Q ∷ K) [] P y x3 = elim x3 [ ]

pub value_of : {A : Type 0} (K : List (List ℕ)) (v : List A) (P : List ℕ) (y : A) → Among (P, y) (zip K v) → Among y v
unfolding zip zip_with
value_of {A} (Q ∷ K) (x ∷ v) P y (inl e) = inl (ap (λ (a : List ℕ × A). a.1) e)
value_of (Q ∷ K) (x ∷ v) P y (inr q) = inr (value_of K v P y q)
value_of {A = A} [] v P y x' = elim x' [ ]
value_of {A = A} (Q ∷ K) [] P y x3 = elim x3 [ ]

pub value_there : {A : Type 0} (K : List (List ℕ)) (v : List A) → length v ≡ length K → (P : List ℕ) → Among P K → (y : A) × Among (P, y) (zip K v)
unfolding zip zip_with
value_there (Q ∷ K) [] e P q = absurd (omega arith)
value_there (Q ∷ K) (x ∷ v) e P (inl f) = (x, inl (ap (λ (R : List ℕ). (R, x)) f))
value_there (Q ∷ K) (x ∷ v) e P (inr q) = let t = value_there K v (suc_inj e) P q in (t.0, inr t.1)
value_there {A = A} [] v e P q = elim q [ ]

-- a residue is that of a level
pub level_there : (p : ℕ) (K : List (List ℕ)) (v : List ℤ) (P : List ℕ) (x : ℕ) → Among (P, x) (zip K (residues p v)) → (y : ℤ) × Among (P, y) (zip K v) × (x ≡ residue_or0 (residue_of p y))
unfolding zip zip_with residues
level_there p (Q ∷ K) (y ∷ v) P x (inl e) = (y, inl (ap (λ (a : List ℕ × ℕ). (a.0, y)) e), ap (λ (a : List ℕ × ℕ). a.1) e)
level_there p (Q ∷ K) (y ∷ v) P x (inr q) = let t = level_there p K v P x q in (t.0, inr t.1, t.2)
level_there p [] v P x x3 = elim x3 [ ]
level_there p (Q ∷ K) [] P x x6 = elim x6 [ ]

pub residue_there : (p : ℕ) (K : List (List ℕ)) (v : List ℤ) (P : List ℕ) (y : ℤ) → Among (P, y) (zip K v) → Among (P, residue_or0 (residue_of p y)) (zip K (residues p v))
unfolding zip zip_with residues
residue_there p (Q ∷ K) (x ∷ v) P y (inl e) = inl (ap (λ (a : List ℕ × ℤ). (a.0, residue_or0 (residue_of p a.1))) e)
residue_there p (Q ∷ K) (x ∷ v) P y (inr q) = inr (residue_there p K v P y q)
residue_there p [] v P y x' = elim x' [ ]
residue_there p (Q ∷ K) [] P y x3 = elim x3 [ ]

-- they are in range where each point's value is
range_of : (p : ℕ) (K : List (List ℕ)) (v : List ℤ) → T (in_range p v) → (P : List ℕ) (y : ℤ) → Among (P, y) (zip K v) → T (is_residue (residue_of p y))
unfolding in_range zip zip_with
range_of p (Q ∷ K) (x ∷ v) t P y (inl e) = rw (ap (λ (a : List ℕ × ℤ). a.1) e) (and_left (is_residue (residue_of p x)) (in_range p v) t)
range_of p (Q ∷ K) (x ∷ v) t P y (inr q) = range_of p K v (and_right (is_residue (residue_of p x)) (in_range p v) t) P y q
range_of p [] v t P y x'' = elim x'' [ ]
range_of p (Q ∷ K) [] t P y x5 = elim x5 [ ]

of_range : (p : ℕ) (K : List (List ℕ)) (v : List ℤ) → length v ≡ length K → ((P : List ℕ) (y : ℤ) → Among (P, y) (zip K v) → T (is_residue (residue_of p y))) → T (in_range p v)
unfolding in_range zip zip_with
of_range p K [] e h = tt
of_range p [] (x ∷ v) e h = absurd (omega arith)
of_range p (Q ∷ K) (x ∷ v) e h = and_both (is_residue (residue_of p x)) (in_range p v) (h Q x (inl refl)) (of_range p K v (suc_inj e) (λ P y q. h P y (inr q)))

-- the same values in another order
pub turned : {s : Settings} {K L : List (List ℕ)} {v w : List ℤ} → SameValues s K L v w → SameValues s L K w v
turned e = record { count = sym e.count; equal = λ P y z a b. sym (e.equal P z y b a) }

carried : (s : Settings) (K L : List (List ℕ)) (v w : List ℤ) → length v ≡ length K → length w ≡ length L → ((P : List ℕ) → Among P L → Among P K) → SameValues s K L v w
    → T (in_range s.modulus v) → T (in_range s.modulus w)
carried s K L v w k l from e t = of_range s.modulus L w l
    (λ P z q. let b = value_there K v k P (from P (point_of_lem L w P z q)) in rw (← e.equal P b.0 z b.1 q) (range_of s.modulus K v t P b.0 b.1))

pub same_range : (s : Settings) (K L : List (List ℕ)) (v w : List ℤ) → length v ≡ length K → length w ≡ length L
    → ((P : List ℕ) → Among P K → Among P L) → ((P : List ℕ) → Among P L → Among P K) → SameValues s K L v w → in_range s.modulus v ≡ in_range s.modulus w
same_range s K L v w k l to from e = alike (in_range s.modulus v) (in_range s.modulus w) (carried s K L v w k l from e) (carried s L K w v l k to (turned e))
  where
    alike : (a b : Bool) → (T a → T b) → (T b → T a) → a ≡ b
    alike true true f g = refl
    alike true false f g = absurd (f tt)
    alike false true f g = absurd (g tt)
    alike false false f g = refl
