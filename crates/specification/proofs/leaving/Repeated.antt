-- Points as many times as they are counted: members, occurrences, and sums over lists in which each point occurs equally often.
use mathlib.Core.Path.{◌≡◌, refl, sym, ◌∙◌, ap, ap₂}
use mathlib.Core.Bool.{Bool, cond}
use mathlib.Core.Logic.{◌⊎◌, inl, inr, ◌↔◌}
use mathlib.Core.List.{List, [], ◌∷◌, ◌++◌, map}
use Prim.Native.Nat.{ℕ, zero, suc, ◌+◌, ◌*◌, ◌≤◌}
use native.Mathlib.Decide.{dec_le}
use native.Mathlib.Omega.{arith}
use lib.ListN.{replicate}
use lib.Dec.{T, leb}
use borrow.Author.Tests.{leb-true}
use Rattle.residue.specs.Lists.{Among, every, sum_over, same_list}
use Rattle.residue.proofs.Tests.{Decides, so, not_so, true_of, and_left, and_right}
use Rattle.residue.proofs.bytes.Equality.{same_self}
use Rattle.specification.specs.Levels.{no_repeat}
use Rattle.specification.specs.Counted.{Counted, points_of, counts_of, count_of, times_in}
use Rattle.specification.proofs.needed.Decided.{lists_told}
use Rattle.specification.proofs.agreement.Points.{once_of}
use Rattle.specification.proofs.counted.Entered.{Positive}
use Rattle.specification.proofs.counted.Gathered.{some_count}
use Rattle.specification.specs.LeaveOut.{repeated}

-- Members.
module _ {A : Type 0} (a : A) where
  append_of : (l k : List A) → Among a (l ++ k) → Among a l ⊎ Among a k
  append_of [] k mem = inr mem
  append_of (b ∷ l) k (inl e) = inl (inl e)
  append_of (b ∷ l) k (inr mem) = elim (append_of l k mem) [ inl z ↦ inl (inr z) | inr z ↦ inr z ]

  pub append_in : (l k : List A) → Among a l ⊎ Among a k → Among a (l ++ k)
  append_in [] k (inl mem) = absurd mem
  append_in [] k (inr mem) = mem
  append_in (b ∷ l) k (inl (inl e)) = inl e
  append_in (b ∷ l) k (inl (inr mem)) = inr (append_in l k (inl mem))
  append_in (b ∷ l) k (inr mem) = inr (append_in l k (inr mem))

  replicate_of : (c : ℕ) (b : A) → Among a (replicate c b) → a ≡ b
  replicate_of zero b mem = absurd mem
  replicate_of (suc c) b (inl e) = e
  replicate_of (suc c) b (inr mem) = replicate_of c b mem

  replicate_in : (c : ℕ) (b : A) → 1 ≤ c → a ≡ b → Among a (replicate c b)
  replicate_in zero b h e = absurd (omega arith)
  replicate_in (suc c) b h e = inl e

pub among_repeated : (L : Counted) → Positive L → (P : List ℕ) → Among P (repeated L) ↔ Among P (points_of L)
unfolding repeated
among_repeated [] h P = ((λ mem. mem), λ mem. mem)
among_repeated (q ∷ L) h P =
    let rec = among_repeated L (and_right (leb 1 q.1) (every (leb 1) (counts_of L)) h) P in
    let some = leb-true 1 q.1 (true_of _ (and_left (leb 1 q.1) (every (leb 1) (counts_of L)) h)) in (
      (λ mem. elim (append_of P (replicate q.1 q.0) (repeated L) mem) [ inl z ↦ inl (replicate_of P q.1 q.0 z) | inr z ↦ inr (rec.0 z) ]),
      λ mem. append_in P (replicate q.1 q.0) (repeated L) (elim mem [ inl e ↦ inl (replicate_in P q.1 q.0 some e) | inr z ↦ inr (rec.1 z) ]),
    )

-- Sums.
module _ (f : List ℕ → ℕ) where
  sum_append : (A B : List (List ℕ)) → sum_over f (A ++ B) ≡ sum_over f A + sum_over f B
  sum_append [] B = omega arith
  sum_append (P ∷ A) B = omega (arith, sum_append A B)

  sum_replicate : (c : ℕ) (P : List ℕ) → sum_over f (replicate c P) ≡ c * f P
  sum_replicate zero P = omega arith
  sum_replicate (suc c) P = omega (arith, sum_replicate c P)

  pub sum_repeated : (L : Counted) → sum_over f (repeated L) ≡ sum_over (λ q. q.1 * f q.0) L
  unfolding repeated
  sum_repeated [] = refl
  sum_repeated (q ∷ L) = sum_append (replicate q.1 q.0) (repeated L) ∙ ap₂ (λ (u v : ℕ). u + v) (sum_replicate q.1 q.0) (sum_repeated L)

-- the list without the first that equals P
unfoldable taken : List ℕ → List (List ℕ) → List (List ℕ)
taken P [] = []
taken P (Q ∷ B) = cond (same_list P Q) B (Q ∷ taken P B)

taken_sum : (f : List ℕ → ℕ) (P : List ℕ) (B : List (List ℕ)) → 1 ≤ times_in P B → sum_over f B ≡ f P + sum_over f (taken P B)
unfolding taken times_in
taken_sum f P [] h = absurd (omega arith)
taken_sum f P (Q ∷ B) h = go (lists_told P Q) h (λ z. taken_sum f P B z)
  where
    go : {b : Bool} → Decides (P ≡ Q) b → 1 ≤ cond b 1 0 + times_in P B → (1 ≤ times_in P B → sum_over f B ≡ f P + sum_over f (taken P B))
        → f Q + sum_over f B ≡ f P + sum_over f (cond b B (Q ∷ taken P B))
    go (so e) z rec = ap (λ (R : List ℕ). f R + sum_over f B) (sym e)
    go (not_so n) z rec = omega (arith, rec (omega (arith, z)))

times_self : (P : List ℕ) (A : List (List ℕ)) → times_in P (P ∷ A) ≡ 1 + times_in P A
unfolding times_in
times_self P A = rw (true_of (same_list P P) (same_self P)) refl

-- Lists in which each point occurs equally often have the same sums.
pub sum_multiset : (f : List ℕ → ℕ) (A B : List (List ℕ)) → ((P : List ℕ) → times_in P A ≡ times_in P B) → sum_over f A ≡ sum_over f B
unfolding times_in
sum_multiset f [] [] h = refl
sum_multiset f [] (Q ∷ B) h = absurd (omega (arith, h Q, times_self Q B))
sum_multiset f (P ∷ A) B h =
    let some : 1 ≤ times_in P B = omega (arith, h P, times_self P A) in
    omega (arith, taken_sum f P B some, sum_multiset f A (taken P B) (λ R. omega (arith, h R, taken_sum (λ Q. cond (same_list R Q) 1 0) P B some)))

-- Of points none of which stands twice, each occurs as many times as it is counted.
pub times_repeated : (L : Counted) → T (no_repeat (points_of L)) → (P : List ℕ) → times_in P (repeated L) ≡ count_of P L
unfolding times_in count_of
times_repeated [] t P = sum_repeated (λ Q. cond (same_list P Q) 1 0) []
times_repeated (q ∷ L) t P = let once = once_of (points_of L) q.0 t in
    sum_repeated (λ Q. cond (same_list P Q) 1 0) (q ∷ L)
    ∙ go once.0 (lists_told P q.0) (sym (sum_repeated (λ Q. cond (same_list P Q) 1 0) L) ∙ times_repeated L once.1 P)
  where
    go : ((Q : List ℕ) → Among Q (points_of L) → q.0 ≡ Q → ⊥) → {b : Bool} → Decides (P ≡ q.0) b
        → sum_over (λ w. w.1 * cond (same_list P w.0) 1 0) L ≡ count_of P L
        → q.1 * cond b 1 0 + sum_over (λ w. w.1 * cond (same_list P w.0) 1 0) L ≡ cond b q.1 (count_of P L)
    go far (so e) rec = none (dec_le 1 (count_of P L))
      where
        none : Dec (1 ≤ count_of P L) → q.1 * 1 + sum_over (λ w. w.1 * cond (same_list P w.0) 1 0) L ≡ q.1
        none (yes z) = absurd (far P (some_count P L z) (sym e))
        none (no z) = omega (arith, rec, z)
    go far (not_so n) rec = omega (arith, rec)

-- occurrences in a mapped list
pub times_map : (g : List ℕ → List ℕ) (Q : List ℕ) (A : List (List ℕ)) → times_in Q (map g A) ≡ sum_over (λ P. cond (same_list Q (g P)) 1 0) A
unfolding times_in
times_map g Q [] = refl
times_map g Q (P ∷ A) = ap (λ (k : ℕ). cond (same_list Q (g P)) 1 0 + k) (times_map g Q A)
