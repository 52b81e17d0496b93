-- Numbers in runs, said: between two records of one number stands none of another.
use mathlib.Core.Path.{◌≡◌, refl, sym, ap, ◌∙◌, subst}
use mathlib.Core.Bool.{Bool, not, ◌||◌}
use mathlib.Core.List.{List, [], ◌∷◌, ◌++◌, map}
use mathlib.Core.Logic.{inl, inr, ◌≢◌}
use Prim.Native.Nat.{ℕ}
use native.Mathlib.Omega.{arith}
use lib.Dec.{T, eqb, not_T, T_not}
use borrow.Author.Tests.{eqb-true, eq-eqb}
use Rattle.residue.specs.Lists.{Among, some}
use Rattle.residue.proofs.Tests.{Decides, so, not_so, of_true, true_of, and_left, and_right, and_both}
use Rattle.residue.proofs.Searches.{one_of, of_one}
use Rattle.specification.proofs.needed.Decided.{equal_told}
use Rattle.specification.proofs.leaving.Repeated.{append_in}
use Rattle.courses.specs.TimeCourse.{Timed, in_runs}
use Rattle.course_text.specs.Grammar.{Together}

abbrev pub numbers : List Timed → List ℕ
numbers l = map (λ a. a.1) l

-- a record that has a number, by the numbers
record_of : (c : ℕ) (l : List Timed) → Among c (numbers l) → (a : Timed) × Among a l × (a.1 ≡ c)
record_of c [] w = absurd w
record_of c (a ∷ l) (inl e) = (a, inl refl, sym e)
record_of c (a ∷ l) (inr q) = let w = record_of c l q in (w.0, inr w.1, w.2)

split_at : (l : List Timed) (a : Timed) → Among a l → (d : List ℕ) × (e : List ℕ) × (numbers l ≡ d ++ (a.1 ∷ e))
split_at (b ∷ l) a (inl q) = ([], numbers l, ap (λ (x : Timed). x.1 ∷ numbers l) (sym q))
split_at (b ∷ l) a (inr q) = let w = split_at l a q in (b.1 ∷ w.0, w.1, ap (λ (x : List ℕ). b.1 ∷ x) w.2)
split_at [] a x' = elim x' [ ]

-- the first of two records: the next is of its course, or none behind it is
abbrev gone : ℕ → List Timed → Bool
gone c l = not (some (λ (e : Timed). eqb e.1 c) l)

first_two : (a b : Timed) (l : List Timed) → T (in_runs (a ∷ b ∷ l)) → (a.1 ≢ b.1 → ¬ Among a.1 (numbers (b ∷ l))) × T (in_runs (b ∷ l))
unfolding in_runs
first_two a b l t =
    let joined = eqb a.1 b.1 || gone a.1 (b ∷ l) in
    ((λ n w. none (equal_told a.1 b.1) n (and_left joined (in_runs (b ∷ l)) t) (record_of a.1 (b ∷ l) w)), and_right joined (in_runs (b ∷ l)) t)
  where
    none : {x : Bool} → Decides (a.1 ≡ b.1) x → a.1 ≢ b.1 → T (x || gone a.1 (b ∷ l)) → (e : Timed) × Among e (b ∷ l) × (e.1 ≡ a.1) → ⊥
    none (so e) n u w = n e
    none (not_so k) n u w = T_not (some (λ (e : Timed). eqb e.1 a.1) (b ∷ l)) u (of_one (λ (e : Timed). eqb e.1 a.1) (b ∷ l) w.0 w.1 (of_true (eq-eqb _ _ w.2)))

two_first : (a b : Timed) (l : List Timed) → (a.1 ≢ b.1 → ¬ Among a.1 (numbers (b ∷ l))) → T (in_runs (b ∷ l)) → T (in_runs (a ∷ b ∷ l))
unfolding in_runs
two_first a b l h t = and_both (eqb a.1 b.1 || gone a.1 (b ∷ l)) (in_runs (b ∷ l)) (go (equal_told a.1 b.1)) t
  where
    among : (l : List Timed) (e : Timed) → Among e l → Among e.1 (numbers l)
    among (b ∷ l) e (inl q) = inl (ap (λ (x : Timed). x.1) q)
    among (b ∷ l) e (inr q) = inr (among l e q)
    among [] e x' = elim x' [ ]

    go : {x : Bool} → Decides (a.1 ≡ b.1) x → T (x || gone a.1 (b ∷ l))
    go (so e) = tt
    go (not_so n) =
        not_T (some (λ (e : Timed). eqb e.1 a.1) (b ∷ l))
        (λ u. let w = one_of (λ (e : Timed). eqb e.1 a.1) (b ∷ l) u in
        h n (subst (λ (c : ℕ). Among c (numbers (b ∷ l))) (eqb-true w.0.1 a.1 (true_of _ w.1.1)) (among (b ∷ l) w.0 w.1.0)))

-- a number in the middle of a list
in_middle : (c d e : List ℕ) (y x : ℕ) → Among x (c ++ (y ∷ (d ++ (x ∷ e))))
in_middle c d e y x = append_in x c (y ∷ (d ++ (x ∷ e))) (inr (inr (append_in x d (x ∷ e) (inr (inl refl)))))

head_is : {x y : ℕ} {k l : List ℕ} → x ∷ k ≡ y ∷ l → (x ≡ y) × (k ≡ l)
head_is e = (cc, cc)

not_empty : (c : List ℕ) (y : ℕ) (l : List ℕ) → [] ≡ c ++ (y ∷ l) → ⊥
not_empty [] y l e = let z : ◌≡◌ {A = ℕ} 0 1 = cc in omega arith
not_empty (x ∷ c) y l e = let z : ◌≡◌ {A = ℕ} 0 1 = cc in omega arith

-- from the first record on
run_on : (a : Timed) (l : List Timed) → T (in_runs (a ∷ l)) → (c d e : List ℕ) (y : ℕ) → numbers l ≡ c ++ (y ∷ (d ++ (a.1 ∷ e))) → a.1 ≡ y
run_on a [] t c d e y q = absurd (not_empty c y (d ++ (a.1 ∷ e)) q)
run_on a (b ∷ l) t c d e y q = go (equal_told a.1 b.1) c q (λ k r. run_on b l (first_two a b l t).1 k d e y r)
  where
    go : {x : Bool} → Decides (a.1 ≡ b.1) x → (c : List ℕ) → b.1 ∷ numbers l ≡ c ++ (y ∷ (d ++ (a.1 ∷ e)))
        → ((k : List ℕ) → numbers l ≡ k ++ (y ∷ (d ++ (b.1 ∷ e))) → b.1 ≡ y) → a.1 ≡ y
    go (not_so n) c q rec = absurd ((first_two a b l t).0 n (subst (Among a.1) (sym q) (in_middle c d e y a.1)))
    go (so u) [] q rec = u ∙ (head_is q).0
    go (so u) (w ∷ c) q rec = u ∙ rec c ((head_is q).1 ∙ ap (λ (x : ℕ). c ++ (y ∷ (d ++ (x ∷ e)))) u)

pub runs_together : (l : List Timed) → T (in_runs l) → Together (numbers l)
unfolding in_runs
runs_together [] t b c d e x y q = absurd (not_empty b x _ q)
runs_together (a ∷ l) t [] c d e x y q =
    let r = head_is q in
    sym r.0 ∙ run_on a l t c d e y (r.1 ∙ ap (λ (z : ℕ). c ++ (y ∷ (d ++ (z ∷ e)))) (sym r.0))
runs_together (a ∷ l) t (w ∷ b) c d e x y q = runs_together l (rest l t) b c d e x y (head_is q).1
  where
    rest : (l : List Timed) → T (in_runs (a ∷ l)) → T (in_runs l)
    rest [] t = tt
    rest (z ∷ l) t = (first_two a z l t).1

pub together_runs : (l : List Timed) → Together (numbers l) → T (in_runs l)
unfolding in_runs
together_runs [] h = tt
together_runs (a ∷ []) h = tt
together_runs (a ∷ b ∷ l) h =
    two_first a b l apart (together_runs (b ∷ l) (λ k c d e x y q. h (a.1 ∷ k) c d e x y (ap (λ (z : List ℕ). a.1 ∷ z) q)))
  where
    apart : a.1 ≢ b.1 → ¬ Among a.1 (numbers (b ∷ l))
    apart n (inl e) = n e
    apart n (inr w) =
        let r = record_of a.1 l w in
        let s = split_at l r.0 r.1 in
        n (h [] [] s.0 s.1 a.1 b.1 (ap (λ (z : List ℕ). a.1 ∷ b.1 ∷ z) (s.2 ∙ ap (λ (c : ℕ). s.0 ++ (c ∷ s.1)) r.2)))
