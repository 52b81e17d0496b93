-- The computed search for a pair finds the pairs by definition, so the computed list is of the needed variables.
use mathlib.Core.Path.{◌≡◌, refl, sym, ◌∙◌, ap, subst}
use mathlib.Core.Logic.{◌⊎◌, inl, inr, ◌≢◌}
use mathlib.Core.Bool.{Bool, ◌||◌}
use mathlib.Core.List.{List, [], ◌∷◌, map, zip}
use Prim.Native.Nat.{ℕ, suc, ◌%◌}
use lib.ListN.{length, get_or, set, length-map}
use Rattle.residue.specs.Lists.{Among, some}
use Rattle.residue.proofs.Tests.{Decides, so, not_so}
use Rattle.specification.specs.Instance.{Point}
use Rattle.specification.specs.Needed.{Needed, Pair, alike, apart, contrary, pair_in, wiring_of, Names}
use Rattle.specification.proofs.ideal.Lists.{among_map, map_among}
use Rattle.specification.proofs.agreement.Values.{point_of_lem, value_there}
use Rattle.specification.proofs.Wiring.{names_are}
use Rattle.specification.proofs.needed.Decided.{equal_told, lists_told, both_told, not_told, told_as}
use Rattle.specification.proofs.needed.Coordinates.{alike_of, of_alike}
use Rattle.specification.proofs.needed.Wordings.{same_long, needed_pair}

module _ (k : ℕ) where
  -- what `contrary` tests
  abbrev Contrary : List ℕ × ℕ → List ℕ × ℕ → Type 0
  Contrary a b = ((set a.0 k 0 ≡ set b.0 k 0) × (get_or a.0 k 0 ≢ get_or b.0 k 0)) × (a.1 ≢ b.1)

  contrary_told : (a b : List ℕ × ℕ) → Decides (Contrary a b) (contrary k a b)
  unfolding contrary apart alike
  contrary_told a b = both_told (both_told (lists_told (set a.0 k 0) (set b.0 k 0)) (not_told (equal_told (get_or a.0 k 0) (get_or b.0 k 0)))) (not_told (equal_told a.1 b.1))

  turned : (a b : List ℕ × ℕ) → Contrary a b → Contrary b a
  turned a b h = ((sym h.0.0, λ e. h.0.1 (sym e)), λ e. h.1 (sym e))

  -- one of the list is contrary to a; two of it are so to each other
  abbrev Against : List ℕ × ℕ → List (List ℕ × ℕ) → Type 0
  Against a l = (b : List ℕ × ℕ) × Among b l × Contrary a b

  abbrev pub Two : List (List ℕ × ℕ) → Type 0
  Two l = (a : List ℕ × ℕ) × (b : List ℕ × ℕ) × Among a l × Among b l × Contrary a b

  against_told : (a : List ℕ × ℕ) (l : List (List ℕ × ℕ)) → Decides (Against a l) (some (contrary k a) l)
  against_told a [] = not_so (λ w. w.1)
  against_told a (b ∷ l) = go (contrary_told a b) (against_told a l)
    where
      go : {s t : Bool} → Decides (Contrary a b) s → Decides (Against a l) t → Decides (Against a (b ∷ l)) (s || t)
      go (so h) r = so (b, inl refl, h)
      go (not_so h) (so w) = so (w.0, inr w.1, w.2)
      go (not_so h) (not_so n) = not_so (λ w. elim w.1 [ inl u ↦ h (subst (Contrary a) u w.2) | inr z ↦ n (w.0, z, w.2) ])

  pub two_told : (l : List (List ℕ × ℕ)) → Decides (Two l) (pair_in k l)
  unfolding pair_in
  two_told [] = not_so (λ w. w.2)
  two_told (c ∷ l) = go (against_told c l) (two_told l)
    where
      split : ¬ Against c l → ¬ Two l → (a b : List ℕ × ℕ) → (a ≡ c) ⊎ Among a l → (b ≡ c) ⊎ Among b l → Contrary a b → ⊥
      split h n a b (inl e) (inl u) x = x.1 (ap (λ (d : List ℕ × ℕ). d.1) (e ∙ sym u))
      split h n a b (inl e) (inr u) x = h (b, u, subst (λ (d : List ℕ × ℕ). Contrary d b) e x)
      split h n a b (inr e) (inl u) x = h (a, e, turned a c (subst (Contrary a) u x))
      split h n a b (inr e) (inr u) x = n (a, b, e, u, x)

      go : {s t : Bool} → Decides (Against c l) s → Decides (Two l) t → Decides (Two (c ∷ l)) (s || t)
      go (so h) r = so (c, h.0, inl refl, inr h.1, h.2)
      go (not_so h) (so w) = so (w.0, w.1, inr w.2, inr w.3, w.4)
      go (not_so h) (not_so n) = not_so (λ w. split h n w.0 w.1 w.2 w.3 w.4)

module _ (q m : ℕ) where
  abbrev Pt : Type 0
  Pt = Point (suc q) m

  abbrev coordinates : List Pt → List (List ℕ)
  coordinates S = map (λ P. P.0) S

  -- the listed values are the residues of φ's, one for each point
  pub record Valued (φ : Pt → ℕ) (S : List Pt) (vs : List ℕ) : Type 0 where
    pub long : length vs ≡ length S
    pub each : (P : Pt) (v : ℕ) → Among (P.0, v) (zip (coordinates S) vs) → φ P % suc q ≡ v

  module _ (φ : Pt → ℕ) (S : List Pt) (vs : List ℕ) (d : Valued φ S vs) where
    -- a point of S with its value
    pointed : (a : List ℕ × ℕ) → Among a (zip (coordinates S) vs) → (P : Pt) × Among P S × (a.0 ≡ P.0) × (φ P % suc q ≡ a.1)
    pointed a mem = let w = among_map (λ P. P.0) S a.0 (point_of_lem (coordinates S) vs a.0 a.1 mem) in
        (w.0, w.1, w.2, d.each w.0 a.1 (subst (λ (P : List ℕ). Among (P, a.1) (zip (coordinates S) vs)) w.2 mem))

    valued : (P : Pt) → Among P S → (v : ℕ) × Among (P.0, v) (zip (coordinates S) vs) × (φ P % suc q ≡ v)
    valued P mem = let w = value_there (coordinates S) vs (d.long ∙ sym (length-map S (λ Q. Q.0))) P.0 (map_among (λ Q. Q.0) S P mem) in
        (w.0, w.1, d.each P w.0 w.1)

    pub pair_told : (k : ℕ) → Decides (Pair (suc q) m S φ k) (pair_in k (zip (coordinates S) vs))
    pair_told k = told_as to from (two_told k (zip (coordinates S) vs))
      where
        to : Two k (zip (coordinates S) vs) → Pair (suc q) m S φ k
        to w = let a = pointed w.0 w.2 in
            let b = pointed w.1 w.3 in
            let P = a.0 in
            let Q = b.0 in
            let same : set P.0 k 0 ≡ set Q.0 k 0 = ap (λ (l : List ℕ). set l k 0) (sym a.2) ∙ w.4.0.0 ∙ ap (λ (l : List ℕ). set l k 0) b.2 in
            let here : get_or P.0 k 0 ≢ get_or Q.0 k 0 =
            λ e. w.4.0.1 (ap (λ (l : List ℕ). get_or l k 0) a.2 ∙ e ∙ ap (λ (l : List ℕ). get_or l k 0) (sym b.2)) in
            (P, Q, a.1, b.1, record { others = alike_of P.0 Q.0 same; here = here }, λ h. w.4.1 (sym a.3 ∙ h.same ∙ b.3))

        from : Pair (suc q) m S φ k → Two k (zip (coordinates S) vs)
        from w = let a = valued w.0 w.2 in
            let b = valued w.1 w.3 in (
              (w.0.0, a.0),
              (w.1.0, b.0),
              a.1,
              b.1,
              ((of_alike w.0.0 w.1.0 (same_long q m w.0 w.1) w.4.others, w.4.here), λ e. w.5 (record { same = a.2 ∙ e ∙ sym b.2 })),
            )

    -- The computed list is of the variables on which every function with the values depends.
    pub wiring_needed : Names m (Needed (suc q) m S φ) (wiring_of m (coordinates S) vs)
    wiring_needed = names_are (coordinates S) vs (Needed (suc q) m S φ) (λ k. told_as (needed_pair q m k φ S).1 (needed_pair q m k φ S).0 (pair_told k)) m
