-- A slice read in chunks of one width: `chunks_exact` gives its groups, in a loop one at each turn.
use Rattle.std.proofs.Common.{◌≡◌, ℕ, zero, suc, ◌+◌, ◌*◌, ◌/◌, ◌<◌, ◌≤◌, List, [], ◌∷◌, ◌++◌, length, take, drop, refl, sym, ap, ap₂, subst, ◌∙◌, arith, add-one, zero-add, le_of_suc-le-suc, mul-le-mul_left, get_or}
use Rattle.std.proofs.Math.Nat.{add-div_left, div-eq_of_lt, mul-div_cancel_left}
use Rattle.std.proofs.Math.Seq.{take-append_seam, drop-append_seam}
use Rattle.std.proofs.lemmas.List.{length-append, length-take-le, length-drop, drop-take}
use Rattle.std.proofs.lemmas.List.FromFn.{length-enumerate_from, get_or-enumerate_from}
use Rattle.std.proofs.lemmas.Iterator.Consumers.{YieldsList-from_enumerate}
use Rattle.std.specs.List.{enumerate_from}
use Rattle.std.specs.Iterator.Adapters.{enumerate_source, enumerate_count, enumerate_steps}
use Rattle.std.proofs.lemmas.Iterator.{YieldsList}
use Rattle.std.proofs.lemmas.Iterator.Splits.{YieldsList-from_shown_while}
use Rattle.std.specs.Slice.Iter.{chunks_exact_rest, chunks_exact_size, chunks_exact_steps}
use Rattle.residue.specs.Layout.{groups}
use Rattle.residue.proofs.Places.{length_groups, groups_at}

none_left : (w n : ℕ) (l : List ℕ) → n ≡ 0 → length (groups w n l) ≡ 0
unfolding groups
none_left w n l e = rw e refl

one_more : (w v n k : ℕ) (l x r : List ℕ) → v ≡ w → l ≡ x ++ r → length x ≡ w → n ≡ k + 1 → groups w n l ≡ x ∷ groups v k r
unfolding groups
one_more w v n k l x r f e h q =
    ap₂ (λ (m : ℕ) (t : List ℕ). groups w m t) (q ∙ add-one k) e
    ∙ ap₂ (λ (y : List ℕ) (t : List ℕ). y ∷ groups w k t) (ap (λ (m : ℕ). take m (x ++ r)) (sym h) ∙ take-append_seam x r) (ap (λ (m : ℕ). drop m (x ++ r)) (sym h) ∙ drop-append_seam x r)
    ∙ ap (λ (m : ℕ). x ∷ groups m k r) (sym f)

fewer : (w v : ℕ) (l x r : List ℕ) → 0 < w → v ≡ w → l ≡ x ++ r → length x ≡ w → length l / w ≡ length r / v + 1
fewer w v l x r h f e q =
    ap (λ (m : ℕ). m / w) (ap length e ∙ length-append x r ∙ ap (λ (m : ℕ). m + length r) q) ∙ add-div_left (length r) h
    ∙ ap (λ (m : ℕ). length r / m + 1) (sym f)

pub YieldsList-from_chunks_exact : {s : _} (w : ℕ) (l : List ℕ) → 0 < w → chunks_exact_rest s ≡ l → chunks_exact_size s ≡ w → YieldsList (chunks_exact_steps {A = ℕ}) (λ x. x.now) s (groups w (length l / w) l)
YieldsList-from_chunks_exact {s} w l h e q =
    let y = YieldsList-from_shown_while (chunks_exact_steps {A = ℕ}) (λ x. x.now) (λ s. groups (chunks_exact_size s) (length (chunks_exact_rest s) / chunks_exact_size s) (chunks_exact_rest s)) (λ s. 0 < chunks_exact_size s)
    (λ s t p k. none_left (chunks_exact_size s) _ (chunks_exact_rest s) (div-eq_of_lt k.1.0))
    (λ s x t p k. (omega (arith, k.0), one_more (chunks_exact_size s) (chunks_exact_size t) _ _ (chunks_exact_rest s) x.now (chunks_exact_rest t) k.0 k.1.0 k.1.1 (fewer (chunks_exact_size s) (chunks_exact_size t) (chunks_exact_rest s) x.now (chunks_exact_rest t) p k.0 k.1.0 k.1.1)))
    s (omega arith) in
    subst (λ (ys : List (List ℕ)). YieldsList (chunks_exact_steps {A = ℕ}) (λ x. x.now) s ys) (ap₂ (λ (m : ℕ) (t : List ℕ). groups m (length t / m) t) q e) y

-- The first n rows of a table.
front : (w v : ℕ) (l : List ℕ) → w ≤ v → take w (take v l) ≡ take w l
front zero v l h = refl
front (suc w) zero l h = absurd (omega arith)
front (suc w) (suc v) [] h = refl
front (suc w) (suc v) (x ∷ l) h = ap (λ (t : List ℕ). x ∷ t) (front w v l (le_of_suc-le-suc h))

groups_front : (w n : ℕ) (l : List ℕ) → groups w n (take (w * n) l) ≡ groups w n l
unfolding groups
groups_front w zero l = refl
groups_front w (suc n) l =
    let e : w * suc n ≡ w + w * n = omega arith in
    rw e (ap₂ (λ (x : List ℕ) (t : List ℕ). x ∷ groups w n t) (front w (w + w * n) l (omega arith)) (drop-take w (w * n) l) ∙ ap (λ (t : List (List ℕ)). take w l ∷ t) (groups_front w n (drop w l)))

module _ (w n : ℕ) (l : List ℕ) where
  pub rows_given : {s : _} → 0 < w → w * n ≤ length l → chunks_exact_rest s ≡ take (w * n) l → chunks_exact_size s ≡ w → YieldsList (chunks_exact_steps {A = ℕ}) (λ x. x.now) s (groups w n l)
  rows_given {s} p h e q =
      subst (λ (ys : List (List ℕ)). YieldsList (chunks_exact_steps {A = ℕ}) (λ x. x.now) s ys)
      (ap (λ (m : ℕ). groups w m (take (w * n) l)) (ap (λ (m : ℕ). m / w) (length-take-le (w * n) l h) ∙ mul-div_cancel_left n p) ∙ groups_front w n l)
      (YieldsList-from_chunks_exact w (take (w * n) l) p e q)

  -- of a whole table
  pub rows_all : {s : _} → 0 < w → length l ≡ w * n → chunks_exact_rest s ≡ l → chunks_exact_size s ≡ w → YieldsList (chunks_exact_steps {A = ℕ}) (λ x. x.now) s (groups w n l)
  rows_all {s} p h e q =
      subst (λ (ys : List (List ℕ)). YieldsList (chunks_exact_steps {A = ℕ}) (λ x. x.now) s ys)
      (ap (λ (m : ℕ). groups w m l) (ap (λ (m : ℕ). m / w) h ∙ mul-div_cancel_left n p))
      (YieldsList-from_chunks_exact w l p e q)

  pub row_turn : (i : ℕ) (x : List ℕ) → (i < length (groups w n l)) × (x ≡ get_or (groups w n l) i x) → (i < n) × (x ≡ take w (drop (w * i) l))
  row_turn i x (h, e) = let k : i < n = omega (arith, length_groups w n l) in (k, e ∙ groups_at w n i l x k)

  pub row_long : (i : ℕ) → i < n → w * n ≤ length l → length (take w (drop (w * i) l)) ≡ w
  row_long i h e =
      let m : w * (i + 1) ≤ w * n = mul-le-mul_left w (omega arith) in
      length-take-le w (drop (w * i) l) (omega (arith, length-drop (w * i) l))

  -- the same with their numbers
  pub numbered_given : {s : _} → 0 < w → w * n ≤ length l → chunks_exact_rest (enumerate_source s) ≡ take (w * n) l → chunks_exact_size (enumerate_source s) ≡ w → enumerate_count s ≡ 0
      → YieldsList {B = ℕ × List ℕ} (enumerate_steps (chunks_exact_steps {A = ℕ})) (λ p. (p.0, p.1.now)) s (enumerate_from 0 (groups w n l))
  numbered_given {s} p h e q z = YieldsList-from_enumerate {s = s} (rows_given p h e q) z

  pub numbered_turn : (i j : ℕ) (x : List ℕ) → (i < length (enumerate_from 0 (groups w n l))) × ((j, x) ≡ get_or (enumerate_from 0 (groups w n l)) i (j, x))
      → (i < n) × ((j ≡ i) × (x ≡ take w (drop (w * i) l)))
  numbered_turn i j x (h, e) =
      let k : i < n = omega (arith, length_groups w n l, length-enumerate_from 0 (groups w n l)) in
      let z = e ∙ get_or-enumerate_from 0 (groups w n l) i (j, x) (omega (arith, length_groups w n l)) in
      (k, (ap (λ (q : ℕ × List ℕ). q.0) z ∙ zero-add i, ap (λ (q : ℕ × List ℕ). q.1) z ∙ groups_at w n i l x k))

  pub numbered_long : length (enumerate_from 0 (groups w n l)) ≡ n
  numbered_long = length-enumerate_from 0 (groups w n l) ∙ length_groups w n l
