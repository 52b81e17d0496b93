-- Distinct points, each once: gathered they are themselves, with the count 1 each.
use mathlib.Core.Path.{◌≡◌, refl, sym, ◌∙◌, ap}
use mathlib.Core.Bool.{Bool, true, false}
use mathlib.Core.List.{List, [], ◌∷◌, ◌++◌, map, map-append, append_assoc, append-nil}
use mathlib.Core.Logic.{inl, inr, ◌⊎◌}
use Prim.Native.Nat.{ℕ, suc}
use lib.ListN.{length}
use lib.Dec.{T, ltb}
use Rattle.residue.specs.Lists.{Among, some}
use Rattle.specification.specs.Levels.{is_among, no_repeat}
use Rattle.specification.specs.Counted.{Counted, points_of, counts_of, entered_all, gathered}
use Rattle.specification.proofs.Repeats.{among_is}
use Rattle.specification.proofs.ideal.Lists.{snoc_of}
use Rattle.specification.proofs.agreement.Points.{once_of}
use Rattle.specification.proofs.counted.Entered.{entered_new}
use Rattle.residue.proofs.Tests.{of_true}

-- each point with the count 1
abbrev pub each_once : List (List ℕ) → Counted
each_once K = map (λ P. (P, 1)) K

-- a point that is not among others
absent : (P : List ℕ) (S : List (List ℕ)) → ¬ Among P S → is_among P S ≡ false
absent P S n = go (is_among P S) refl
  where
    go : (b : Bool) → is_among P S ≡ b → b ≡ false
    go true e = absurd (n (among_is P S (of_true e)))
    go false e = refl

pub all_once : (K : List (List ℕ)) (L : Counted) → T (no_repeat K) → ((P : List ℕ) → Among P K → ¬ Among P (points_of L)) → entered_all K L ≡ L ++ each_once K
unfolding entered_all
all_once [] L t out = sym (append-nil L)
all_once (P ∷ K) L t out =
    ap (entered_all K) (entered_new P L (absent P (points_of L) (out P (inl refl))))
    ∙ all_once K (L ++ ((P, 1) ∷ [])) (once_of K P t).1 later
    ∙ append_assoc L ((P, 1) ∷ []) (each_once K)
  where
    later : (Q : List ℕ) → Among Q K → ¬ Among Q (points_of (L ++ ((P, 1) ∷ [])))
    later Q q m = go (snoc_of (points_of L) P Q (rw (sym (map-append (λ q. q.0) L ((P, 1) ∷ []))) m))
      where
        go : Among Q (points_of L) ⊎ (Q ≡ P) → ⊥
        go (inl z) = out Q (inr q) z
        go (inr e) = (once_of K P t).0 Q q (sym e)

pub gathered_once : (K : List (List ℕ)) → T (no_repeat K) → gathered K ≡ each_once K
unfolding gathered
gathered_once K t = all_once K [] t (λ P q m. m)

pub points_once : (K : List (List ℕ)) → points_of (each_once K) ≡ K
points_once [] = refl
points_once (P ∷ K) = ap (λ (l : List (List ℕ)). P ∷ l) (points_once K)

pub length_once : (K : List (List ℕ)) → length (each_once K) ≡ length K
length_once [] = refl
length_once (P ∷ K) = ap suc (length_once K)

pub few_once : (K : List (List ℕ)) → some (ltb 255) (counts_of (each_once K)) ≡ false
few_once [] = refl
few_once (P ∷ K) = few_once K
