-- The two wordings of M-107 are equivalent, under any modulus and in any number of variables.
use mathlib.Core.Path.{◌≡◌, refl, sym, ◌∙◌, ap, ap₂}
use mathlib.Core.Logic.{◌⊎◌, inl, inr, ◌↔◌}
use mathlib.Core.Bool.{Bool, cond}
use mathlib.Core.List.{List, [], ◌∷◌}
use Prim.Native.Nat.{ℕ, suc, ◌%◌, ◌<◌, suc-le-suc, zero-le}
use native.Mathlib.Nat.{mod-lt}
use native.Mathlib.Decide.{ℕ_discrete}
use lib.ListN.{length, get_or}
use Rattle.residue.specs.Congruence.{Mod}
use Rattle.residue.specs.Lists.{Among}
use Rattle.residue.proofs.Congruence.{of, flip, ◌then◌, reduce}
use Rattle.residue.proofs.Sums.{each}
use Rattle.residue.proofs.Tests.{Decides, so, not_so}
use Rattle.specification.specs.Instance.{Point}
use Rattle.specification.specs.Needed.{Alike, Needed, Pair, alike}
use Rattle.specification.proofs.Instance.{point_path}
use Rattle.specification.proofs.needed.Decided.{same_answer}
use Rattle.specification.proofs.needed.Coordinates.{alike_told, alike_apart}

-- congruence is decided
congruent? : (p x y : ℕ) → Dec (Mod p x y)
congruent? p x y = go (ℕ_discrete (x % p) (y % p))
  where
    go : Dec (x % p ≡ y % p) → Dec (Mod p x y)
    go (yes e) = yes (record { same = e })
    go (no n) = no (λ h. n h.same)

module _ (q m : ℕ) where
  abbrev Pt : Type 0
  Pt = Point (suc q) m

  pub same_long : (P Q : Pt) → length P.0 ≡ length Q.0
  same_long P Q = P.1.0 ∙ sym Q.1.0

  module _ (k : ℕ) (φ : Pt → ℕ) where
    -- the value of the first point of S that agrees with P in all variables but this one, and 0 if there is none
    on_line : List Pt → Pt → ℕ
    on_line [] P = 0
    on_line (Q ∷ S) P = cond (alike k P.0 Q.0) (φ Q % suc q) (on_line S P)

    line_residue : (S : List Pt) (P : Pt) → on_line S P < suc q
    unfolding on_line
    line_residue [] P = suc-le-suc zero-le
    line_residue (Q ∷ S) P = go (alike_told k P.0 Q.0 (same_long P Q)) (line_residue S P)
      where
        go : {X : Type 0} {t : Bool} → Decides X t → on_line S P < suc q → cond t (φ Q % suc q) (on_line S P) < suc q
        go (so x) h = mod-lt (φ Q) (suc-le-suc zero-le)
        go (not_so n) h = h

    -- it does not depend on the variable
    line_constant : (S : List Pt) (P R : Pt) → Alike k P.0 R.0 → on_line S P ≡ on_line S R
    unfolding on_line
    line_constant [] P R h = refl
    line_constant (Q ∷ S) P R h =
        ap₂ (λ (b : Bool) (z : ℕ). cond b (φ Q % suc q) z)
        (same_answer (λ u j ne. sym (h j ne) ∙ u j ne) (λ u j ne. h j ne ∙ u j ne) (alike_told k P.0 Q.0 (same_long P Q)) (alike_told k R.0 Q.0 (same_long R Q)))
        (line_constant S P R h)

    -- at a point of S it is the value of a point of S
    line_point : (S : List Pt) (P : Pt) → Among P S → (Q : Pt) × Among Q S × Alike k P.0 Q.0 × (on_line S P ≡ φ Q % suc q)
    unfolding on_line
    line_point (Q ∷ S) P mem = go (alike_told k P.0 Q.0 (same_long P Q)) mem (λ z. line_point S P z)
      where
        go : {t : Bool} → Decides (Alike k P.0 Q.0) t → Among P (Q ∷ S) → (Among P S → (R : Pt) × Among R S × Alike k P.0 R.0 × (on_line S P ≡ φ R % suc q))
            → (R : Pt) × Among R (Q ∷ S) × Alike k P.0 R.0 × (cond t (φ Q % suc q) (on_line S P) ≡ φ R % suc q)
        go (so h) z f = (Q, inl refl, h, refl)
        go (not_so n) (inl e) f = absurd (n (λ j ne. ap (λ (R : Pt). get_or R.0 j 0) e))
        go (not_so n) (inr z) f = let w = f z in (w.0, inr w.1, w.2, w.3)
    line_point [] P mem = elim mem [ ]

    -- Either it has the value of every point, or some point is in a pair.
    line_search : (S R : List Pt) → ((P : Pt) → Among P R → Among P S) → ((P : Pt) → Among P R → Mod (suc q) (on_line S P) (φ P)) ⊎ Pair (suc q) m S φ k
    line_search S [] sub = inl (λ P mem. absurd mem)
    line_search S (P ∷ R) sub = go (congruent? (suc q) (on_line S P) (φ P)) (line_search S R (λ Q mem. sub Q (inr mem)))
      where
        pair : ¬ Mod (suc q) (on_line S P) (φ P) → Pair (suc q) m S φ k
        pair n = let w = line_point S P (sub P (inl refl)) in
            let far : ¬ Mod (suc q) (φ P) (φ w.0) = λ h. n (of w.3 then reduce (suc q) (φ w.0) then flip h) in
            (P, w.0, sub P (inl refl), w.1, alike_apart k P.0 w.0.0 (same_long P w.0) w.2 (λ e. far (of (ap φ (point_path (suc q) e)))), far)

        go : Dec (Mod (suc q) (on_line S P) (φ P)) → ((Q : Pt) → Among Q R → Mod (suc q) (on_line S Q) (φ Q)) ⊎ Pair (suc q) m S φ k
            → ((Q : Pt) → Among Q (P ∷ R) → Mod (suc q) (on_line S Q) (φ Q)) ⊎ Pair (suc q) m S φ k
        go (yes h) (inl f) = inl (each R h f)
        go (yes h) (inr w) = inr w
        go (no n) d = inr (pair n)

    -- Document 02, M-107: 'the equivalence of the two wordings'.
    pub needed_pair : (S : List Pt) → Needed (suc q) m S φ k ↔ Pair (suc q) m S φ k
    needed_pair S = (to, from)
      where
        from : Pair (suc q) m S φ k → Needed (suc q) m S φ k
        from w f t = (w.0, w.1, w.4, λ e. w.5 (flip (t.values w.0 w.2) then of e then t.values w.1 w.3))

        go : Needed (suc q) m S φ k → ((P : Pt) → Among P S → Mod (suc q) (on_line S P) (φ P)) ⊎ Pair (suc q) m S φ k → Pair (suc q) m S φ k
        go h (inr w) = w
        go h (inl f) = let w = h (on_line S) (record { residue = line_residue S; values = f }) in absurd (w.3 (line_constant S w.0 w.1 w.2.others))

        to : Needed (suc q) m S φ k → Pair (suc q) m S φ k
        to h = go h (line_search S S (λ P mem. mem))
