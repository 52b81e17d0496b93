-- How a call adds the counts up, entry after entry: a point that is there gets a count more, a new one comes last with its count.
use mathlib.Core.Path.{◌≡◌, refl, ◌∙◌, ap}
use mathlib.Core.Bool.{Bool, true, false, cond}
use mathlib.Core.List.{List, [], ◌∷◌, map, map-append}
use Prim.Native.Nat.{ℕ, zero, suc, ◌+◌}
use native.Mathlib.Omega.{arith}
use lib.ListN.{replicate}
use lib.Dec.{leb}
use borrow.Author.Tests.{leb-true}
use Rattle.residue.specs.Lists.{every, same_list}
use Rattle.residue.proofs.Tests.{true_of, and_left, and_right}
use Rattle.residue.proofs.bytes.Equality.{same_self}
use Rattle.monomial.specs.Insert.{removed_at}
use Rattle.specification.specs.Counted.{Counted, counts_of, entered, entered_all, gathered}
use Rattle.specification.proofs.counted.Entered.{Positive}
use Rattle.specification.specs.LeaveOut.{repeated, without_variable}
use Rattle.specification.proofs.leaving.Without.{all_append}

-- c added to the count of P
unfoldable pub raised : List ℕ → ℕ → Counted → Counted
raised P c [] = (P, c) ∷ []
raised P c (q ∷ L) = cond (same_list P q.0) ((q.0, q.1 + c) ∷ L) (q ∷ raised P c L)

entered_raised : (P : List ℕ) (c : ℕ) (L : Counted) → raised P c (entered P L) ≡ raised P (suc c) L
unfolding raised entered
entered_raised P c [] = rw (true_of (same_list P P) (same_self P)) (ap (λ (k : ℕ). (P, k) ∷ []) (omega arith))
entered_raised P c (q ∷ L) = go (same_list P q.0) refl (entered_raised P c L)
  where
    go : (b : Bool) → same_list P q.0 ≡ b → raised P c (entered P L) ≡ raised P (suc c) L
        → raised P c (cond b ((q.0, suc q.1) ∷ L) (q ∷ entered P L)) ≡ cond b ((q.0, q.1 + suc c) ∷ L) (q ∷ raised P (suc c) L)
    go true e rec = rw e (ap (λ (k : ℕ). (q.0, k) ∷ L) (omega arith))
    go false e rec = rw e (ap (λ (l : Counted). q ∷ l) rec)

entered_one : (P : List ℕ) (K : Counted) → entered P K ≡ raised P 1 K
unfolding entered raised
entered_one P [] = refl
entered_one P (q ∷ K) = go (same_list P q.0) (entered_one P K)
  where
    go : (b : Bool) → entered P K ≡ raised P 1 K → cond b ((q.0, suc q.1) ∷ K) (q ∷ entered P K) ≡ cond b ((q.0, q.1 + 1) ∷ K) (q ∷ raised P 1 K)
    go true rec = ap (λ (k : ℕ). (q.0, k) ∷ K) (omega arith)
    go false rec = ap (λ (l : Counted). q ∷ l) rec

pub all_raised : (P : List ℕ) (c : ℕ) (L : Counted) → entered_all (replicate (suc c) P) L ≡ raised P (suc c) L
unfolding entered_all
all_raised P zero L = entered_one P L
all_raised P (suc c) L = all_raised P c (entered P L) ∙ entered_raised P (suc c) L

-- the loop over the entries: from what is gathered so far, with the rest of them
unfoldable pub gather_without : ℕ → Counted → Counted → Counted
gather_without k [] G = G
gather_without k (q ∷ L) G = gather_without k L (raised (removed_at k q.0) q.1 G)

map_replicate : (f : List ℕ → List ℕ) (P : List ℕ) (c : ℕ) → map f (replicate c P) ≡ replicate c (f P)
map_replicate f P zero = refl
map_replicate f P (suc c) = ap (λ (l : List (List ℕ)). f P ∷ l) (map_replicate f P c)

gather_all : (k : ℕ) (L : Counted) → Positive L → (G : Counted) → entered_all (map (removed_at k) (repeated L)) G ≡ gather_without k L G
unfolding repeated gather_without entered_all
gather_all k [] h G = refl
gather_all k ((P, zero) ∷ L) h G = absurd (let z = leb-true 1 0 (true_of _ (and_left (leb 1 0) (every (leb 1) (counts_of L)) h)) in omega arith)
gather_all k ((P, suc c) ∷ L) h G =
    ap (λ (S : List (List ℕ)). entered_all S G) (map-append (removed_at k) (replicate (suc c) P) (repeated L))
    ∙ all_append (map (removed_at k) (replicate (suc c) P)) (map (removed_at k) (repeated L)) G
    ∙ gather_all k L (and_right (leb 1 (suc c)) (every (leb 1) (counts_of L)) h) (entered_all (map (removed_at k) (replicate (suc c) P)) G)
    ∙ ap (gather_without k L) (ap (λ (S : List (List ℕ)). entered_all S G) (map_replicate (removed_at k) P (suc c)) ∙ all_raised (removed_at k P) c G)

pub without_loop : (k : ℕ) (L : Counted) → Positive L → without_variable k L ≡ gather_without k L []
unfolding without_variable gathered
without_loop k L h = gather_all k L h []
