-- What adding to the count of a point leaves in bytes of counts: by one place whether the point is there or new, since behind the last count stand zeros.
use mathlib.Core.Path.{◌≡◌, refl, sym, ◌∙◌, ap}
use mathlib.Core.Bool.{Bool, true, false, cond, ◌||◌, or-false, or-true}
use mathlib.Core.List.{List, [], ◌∷◌, ◌++◌}
use Prim.Native.Nat.{ℕ, zero, suc, ◌+◌, ◌<◌}
use native.Mathlib.Nat.{zero-add, le_of_suc-le-suc}
use native.Mathlib.Omega.{arith}
use lib.ListN.{length, get_or, set}
use lib.Dec.{ltb}
use borrow.Author.Tests.{lt-ltb, ltb-true}
use Rattle.residue.specs.Lists.{same_list}
use Rattle.residue.specs.Layout.{fill}
use Rattle.residue.proofs.Tests.{neither}
use Rattle.monomial.specs.Insert.{removed_at}
use Rattle.specification.specs.Levels.{is_among}
use Rattle.specification.specs.Counted.{Counted, points_of, counts_of, place_in}
use Rattle.specification.proofs.counted.Saturated.{beyond}
use Rattle.specification.proofs.leaving.Added.{raised, gather_without}

module _ (P : List ℕ) (c : ℕ) where
  -- the count of the point in w bytes, with c more
  abbrev pub sum : ℕ → Counted → ℕ
  sum w G = get_or (fill w (counts_of G)) (place_in P (points_of G)) 0 + c

  pub raised_bytes : (w : ℕ) (G : Counted) → length G < w → fill w (counts_of (raised P c G)) ≡ set (fill w (counts_of G)) (place_in P (points_of G)) (sum w G)
  unfolding raised place_in fill
  raised_bytes zero G h = absurd (omega arith)
  raised_bytes (suc w) [] h = ap (λ (x : ℕ). x ∷ fill w []) (sym (zero-add c))
  raised_bytes (suc w) (q ∷ G) h = go (same_list P q.0) (raised_bytes w G (le_of_suc-le-suc h))
    where
      go : (b : Bool) → fill w (counts_of (raised P c G)) ≡ set (fill w (counts_of G)) (place_in P (points_of G)) (sum w G)
          → fill (suc w) (counts_of (cond b ((q.0, q.1 + c) ∷ G) (q ∷ raised P c G)))
          ≡ set (q.1 ∷ fill w (counts_of G)) (cond b 0 (suc (place_in P (points_of G))))
          (get_or (q.1 ∷ fill w (counts_of G)) (cond b 0 (suc (place_in P (points_of G)))) 0 + c)
      go true rec = refl
      go false rec = ap (λ (l : List ℕ). q.1 ∷ l) rec

  -- of counts of which none is above 255, one is then if that sum is
  pub raised_beyond : (w : ℕ) (G : Counted) → length G < w → beyond G ≡ false → beyond (raised P c G) ≡ ltb 255 (sum w G)
  unfolding raised place_in fill
  raised_beyond zero G h e = absurd (omega arith)
  raised_beyond (suc w) [] h e = or-false (ltb 255 c) ∙ ap (ltb 255) (sym (zero-add c))
  raised_beyond (suc w) (q ∷ G) h e =
      let n = neither (ltb 255 q.1) (beyond G) e in
      go (same_list P q.0) n (raised_beyond w G (le_of_suc-le-suc h) n.1)
    where
      go : (b : Bool) → (ltb 255 q.1 ≡ false) × (beyond G ≡ false) → beyond (raised P c G) ≡ ltb 255 (sum w G)
          → beyond (cond b ((q.0, q.1 + c) ∷ G) (q ∷ raised P c G))
          ≡ ltb 255 (get_or (q.1 ∷ fill w (counts_of G)) (cond b 0 (suc (place_in P (points_of G)))) 0 + c)
      go true n rec = rw n.1 (or-false (ltb 255 (q.1 + c)))
      go false n rec = rw n.0 rec

  -- and one that is above stays above
  beyond_raised : (G : Counted) → beyond G ≡ true → beyond (raised P c G) ≡ true
  unfolding raised
  beyond_raised [] e = absurd (let z : ◌≡◌ {A = ℕ} 0 1 = cc in omega arith)
  beyond_raised (q ∷ G) e = go (same_list P q.0) (ltb 255 q.1) refl e (λ z. beyond_raised G z)
    where
      go : (b d : Bool) → ltb 255 q.1 ≡ d → (d || beyond G) ≡ true → (beyond G ≡ true → beyond (raised P c G) ≡ true)
          → beyond (cond b ((q.0, q.1 + c) ∷ G) (q ∷ raised P c G)) ≡ true
      go true true f z rec = rw (lt-ltb 255 (q.1 + c) (omega (arith, ltb-true 255 q.1 f))) refl
      go false true f z rec = rw f refl
      go true false f z rec = rw z (or-true (ltb 255 (q.1 + c)))
      go false false f z rec = rw f (rec z)

  -- the points
  pub raised_there : (G : Counted) → is_among P (points_of G) ≡ true → points_of (raised P c G) ≡ points_of G
  unfolding raised is_among
  raised_there [] e = absurd (let z : ◌≡◌ {A = ℕ} 0 1 = cc in omega arith)
  raised_there (q ∷ G) e = go (same_list P q.0) e (λ z. raised_there G z)
    where
      go : (b : Bool) → (b || is_among P (points_of G)) ≡ true → (is_among P (points_of G) ≡ true → points_of (raised P c G) ≡ points_of G)
          → points_of (cond b ((q.0, q.1 + c) ∷ G) (q ∷ raised P c G)) ≡ q.0 ∷ points_of G
      go true z rec = refl
      go false z rec = ap (λ (S : List (List ℕ)). q.0 ∷ S) (rec z)

  pub raised_new : (G : Counted) → is_among P (points_of G) ≡ false → points_of (raised P c G) ≡ points_of G ++ (P ∷ [])
  unfolding raised is_among
  raised_new [] e = refl
  raised_new (q ∷ G) e =
      let n = neither (same_list P q.0) (is_among P (points_of G)) e in
      rw n.0 (ap (λ (S : List (List ℕ)). q.0 ∷ S) (raised_new G n.1))

-- whatever comes behind it
pub beyond_all : (k : ℕ) (L G : Counted) → beyond G ≡ true → beyond (gather_without k L G) ≡ true
unfolding gather_without
beyond_all k [] G e = e
beyond_all k (q ∷ L) G e = beyond_all k L _ (beyond_raised (removed_at k q.0) q.1 G e)
